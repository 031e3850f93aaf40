-- The walk reads exactly the records that keep the rules.
use Prim.Native.Nat.{ℕ, zero, suc, ◌+◌, ◌^◌, ◌≤◌, ◌<◌}
use native.Mathlib.Nat.{add-zero}
use native.Mathlib.Omega.{arith}
use mathlib.Core.Path.{◌≡◌, refl, sym, ap, ap₂, ◌∙◌, subst}
use mathlib.Core.Bool.{Bool, true, false}
use mathlib.Core.List.{List, [], ◌∷◌}
use lib.ListN.{length}
use lib.Dec.{eqb, leb}
use borrow.Author.Tests.{le-leb, leb-true, eq-eqb, eqb-true}
use Rattle.wire.specs.Numbers.{Bytes, be, pick}
use Rattle.wire.specs.Sequences.{fields, joined, All}
use Rattle.wire.specs.Reading.{Read, got, bad, Reader, ◌>>◌, pure, here, require, number, bytes, up_to}
use Rattle.wire.proofs.Placed.{Between, between-nil, between_join, between_split, between-moved, between-bytes, between-whole, whole-between}
use Rattle.wire.proofs.Exactness.{Meets, meets-then, meets-next, meets-pure, meets-weaken, meets-got, meets-pick, meets-here, meets-require, then-got, next-got, here-got, require-got, Exact, number-exact, bytes-exact, up_to-exact, repeat-sound, repeat-complete}
use Rattle.avl.specs.declared.Widths.{Widths}
use Rattle.avl.specs.Codecs.{kinds}
use Rattle.avl.specs.Records.{Element, AvlRecord, element_count, length_bytes, element_bytes, group_bytes, groups_bytes, fixed_bytes, record_bytes, ValueSize, ElementRules, GroupRules, GroupsRules, FixedRules, RecordRules}
use Rattle.avl.specs.RecordReader.{value_size, element, group, groups, fixed_fields, avl_record, tagged, in_record, avl_records, at_end, all_records}

pure-exact : {A : Type 0} (a : A) → Exact (pure a) (λ b. []) (λ b. b ≡ a)
unfolding pure
pure-exact a =
    record {
      sound = λ s at h i. meets-pure a s at (between-nil s at i, refl);
      complete = λ s at b next h f. ap₂ got (sym h) (sym (f.size ∙ add-zero at));
    }

size_exact : (variable : Bool) (kind : ℕ)
    → Exact (pick variable (number 2) (pure kind)) (λ n. pick variable (be 2 n) []) (λ n. pick variable (n < 256 ^ 2) (n ≡ kind))
size_exact true kind = number-exact 2
size_exact false kind = pure-exact kind

pub element-exact : (w : Widths) (kind : ℕ) → Exact (element w kind) (element_bytes w kind) (ElementRules w kind)
unfolding element element_bytes length_bytes value_size pure
element-exact w kind =
    record {
      sound = λ s at h i.
          meets-then (number w.id) _ s at ((number-exact w.id).sound s at h i) (λ id n₁ k₁.
          meets-then (value_size kind) _ s n₁ ((size_exact (eqb kind 9) kind).sound s n₁ h k₁.0.inside) (λ size n₂ k₂.
          meets-then (bytes size) _ s n₂ ((bytes-exact size).sound s n₂ h k₂.0.inside) (λ value n₃ k₃.
          meets-pure _ s n₃ (
            between_join k₁.0 (between_join (between-bytes (ap (λ (x : ℕ). pick (eqb kind 9) (be 2 x) []) (sym k₃.1.0)) k₂.0) k₃.0),
            record { id_fits = k₁.1; size = subst (λ (x : ℕ). ValueSize kind x) (sym k₃.1.0) k₂.1; bytes = k₃.1.1 },
          ))));
      complete = λ s at e next h f.
          let a = between_split (be w.id e.id) f in
          let b = between_split (pick (eqb kind 9) (be 2 (length e.value)) []) a.1 in
          then-got (number w.id) _ s at ((number-exact w.id).complete s at _ _ h.id_fits a.0)
          ∙ then-got (value_size kind) _ s _ ((size_exact (eqb kind 9) kind).complete s _ _ _ h.size b.0)
          ∙ then-got (bytes (length e.value)) _ s _ ((bytes-exact (length e.value)).complete s _ e.value next (refl, h.bytes) b.1);
    }

pub group-exact : (w : Widths) (kind : ℕ) → Exact (group w kind) (group_bytes w kind) (GroupRules w kind)
unfolding group group_bytes
group-exact w kind =
    record {
      sound = λ s at h i.
          meets-then (number w.count) _ s at ((number-exact w.count).sound s at h i) (λ n mid k.
          meets-weaken (repeat-sound (element-exact w kind) n s mid h k.0.inside) (λ g next r. (
            between_join (between-bytes (ap (be w.count) (sym r.1.0)) k.0) r.0,
            record { count_fits = subst (λ (x : ℕ). x < 256 ^ w.count) (sym r.1.0) k.1; each = r.1.1 },
          )));
      complete = λ s at g next h f.
          let a = between_split (be w.count (length g)) f in
          then-got (number w.count) _ s at ((number-exact w.count).complete s at _ _ h.count_fits a.0)
          ∙ repeat-complete (element-exact w kind) g s _ next h.each a.1;
    }

groups-sound : (w : Widths) (ks : List ℕ) (s : List ℕ) (at : ℕ) → Bytes s → at ≤ length s
    → Meets (groups w ks s at) (λ gs next. Between s at (groups_bytes w ks gs) next × GroupsRules w ks gs)
unfolding groups groups_bytes
groups-sound w [] s at h i = meets-pure [] s at (between-nil s at i, tt)
groups-sound w (k ∷ ks) s at h i =
    meets-then (group w k) _ s at ((group-exact w k).sound s at h i) (λ g mid r.
    meets-then (groups w ks) _ s mid (groups-sound w ks s mid h r.0.inside) (λ gs next t.
    meets-pure (g ∷ gs) s next (between_join r.0 t.0, (r.1, t.1))))

groups-complete : (w : Widths) (ks : List ℕ) (s : List ℕ) (at : ℕ) (gs : List (List Element)) (next : ℕ)
    → GroupsRules w ks gs → Between s at (groups_bytes w ks gs) next → groups w ks s at ≡ got gs next
unfolding groups groups_bytes pure
groups-complete w [] s at [] next h f = ap (got []) (sym (f.size ∙ add-zero at))
groups-complete w [] s at (g ∷ gs) next h f = absurd h
groups-complete w (k ∷ ks) s at [] next h f = absurd h
groups-complete w (k ∷ ks) s at (g ∷ gs) next h f =
    let a = between_split (group_bytes w k g) f in
    then-got (group w k) _ s at ((group-exact w k).complete s at g _ h.0 a.0)
    ∙ then-got (groups w ks) _ s _ (groups-complete w ks s _ gs next h.1 a.1)

pub groups-exact : (w : Widths) (ks : List ℕ) → Exact (groups w ks) (groups_bytes w ks) (GroupsRules w ks)
groups-exact w ks = record { sound = groups-sound w ks; complete = groups-complete w ks }

pub fixed-exact : (w : Widths) → Exact (fixed_fields w) (fixed_bytes w) (FixedRules w)
unfolding fixed_fields fixed_bytes pure
fixed-exact w =
    record {
      sound = λ s at h i.
          meets-then (number 8) _ s at ((number-exact 8).sound s at h i) (λ timestamp n₁ k₁.
          meets-then (up_to 1 _ 10) _ s n₁ ((up_to-exact 1 _ 10).sound s n₁ h k₁.0.inside) (λ priority n₂ k₂.
          meets-then (number 4) _ s n₂ ((number-exact 4).sound s n₂ h k₂.0.inside) (λ longitude n₃ k₃.
          meets-then (number 4) _ s n₃ ((number-exact 4).sound s n₃ h k₃.0.inside) (λ latitude n₄ k₄.
          meets-then (number 2) _ s n₄ ((number-exact 2).sound s n₄ h k₄.0.inside) (λ altitude n₅ k₅.
          meets-then (number 2) _ s n₅ ((number-exact 2).sound s n₅ h k₅.0.inside) (λ angle n₆ k₆.
          meets-then (number 1) _ s n₆ ((number-exact 1).sound s n₆ h k₆.0.inside) (λ satellites n₇ k₇.
          meets-then (number 2) _ s n₇ ((number-exact 2).sound s n₇ h k₇.0.inside) (λ speed n₈ k₈.
          meets-then (number w.event) _ s n₈ ((number-exact w.event).sound s n₈ h k₈.0.inside) (λ event n₉ k₉.
          meets-then (up_to w.generation _ 11) _ s n₉ ((up_to-exact w.generation _ 11).sound s n₉ h k₉.0.inside) (λ generation n₁₀ k₁₀.
          meets-pure _ s n₁₀ (
            between_join k₁.0 (between_join k₂.0 (between_join k₃.0 (between_join k₄.0 (between_join k₅.0 (between_join k₆.0
                (between_join k₇.0 (between_join k₈.0 (between_join k₉.0 k₁₀.0)))))))),
            record {
              timestamp_fits = k₁.1;
              priority_range = k₂.1.1;
              longitude_fits = k₃.1;
              latitude_fits = k₄.1;
              altitude_fits = k₅.1;
              angle_fits = k₆.1;
              satellites_fit = k₇.1;
              speed_fits = k₈.1;
              event_fits = k₉.1;
              generation_fits = k₁₀.1.0;
              generation_range = k₁₀.1.1;
            },
          )))))))))));
      complete = λ s at r next h f.
          let f₁ = between_split (be 8 r.timestamp) f in
          let f₂ = between_split (be 1 r.priority) f₁.1 in
          let f₃ = between_split (be 4 r.longitude) f₂.1 in
          let f₄ = between_split (be 4 r.latitude) f₃.1 in
          let f₅ = between_split (be 2 r.altitude) f₄.1 in
          let f₆ = between_split (be 2 r.angle) f₅.1 in
          let f₇ = between_split (be 1 r.satellites) f₆.1 in
          let f₈ = between_split (be 2 r.speed) f₇.1 in
          let f₉ = between_split (be w.event r.event) f₈.1 in
          then-got (number 8) _ s at ((number-exact 8).complete s at _ _ h.timestamp_fits f₁.0)
          ∙ then-got (up_to 1 _ 10) _ s _ ((up_to-exact 1 _ 10).complete s _ _ _ (omega (arith, h.priority_range), h.priority_range) f₂.0)
          ∙ then-got (number 4) _ s _ ((number-exact 4).complete s _ _ _ h.longitude_fits f₃.0)
          ∙ then-got (number 4) _ s _ ((number-exact 4).complete s _ _ _ h.latitude_fits f₄.0)
          ∙ then-got (number 2) _ s _ ((number-exact 2).complete s _ _ _ h.altitude_fits f₅.0)
          ∙ then-got (number 2) _ s _ ((number-exact 2).complete s _ _ _ h.angle_fits f₆.0)
          ∙ then-got (number 1) _ s _ ((number-exact 1).complete s _ _ _ h.satellites_fit f₇.0)
          ∙ then-got (number 2) _ s _ ((number-exact 2).complete s _ _ _ h.speed_fits f₈.0)
          ∙ then-got (number w.event) _ s _ ((number-exact w.event).complete s _ _ _ h.event_fits f₉.0)
          ∙ then-got (up_to w.generation _ 11) _ s _ ((up_to-exact w.generation _ 11).complete s _ _ next (h.generation_fits, h.generation_range) f₉.1);
    }

within : {end mid start at n₀ size longest : ℕ} → mid ≡ n₀ + size → end ≤ start + longest → end ≡ mid → start ≡ at → n₀ ≡ at → size ≤ longest
within a b c d e = omega arith

-- a record with `n` for its total, whose fields and groups keep their rules, is read up to the two rules at its end
pub record-ended : (longest : ℕ) (w : Widths) (n : ℕ) (r : AvlRecord) (s : List ℕ) (at next : ℕ) → FixedRules w r.fixed → n < 256 ^ w.count → GroupsRules w (kinds w) r.groups
    → Between s at (fields (fixed_bytes w r.fixed ∷ be w.count n ∷ groups_bytes w (kinds w) r.groups ∷ [])) next
    → avl_record longest w s at ≡ (require (eqb n (element_count r.groups)) 9 at >> (require (leb next (at + longest)) 12 at >> pure r)) s next
unfolding avl_record
record-ended longest w n r s at next fixed fits gs f =
    let f₁ = between_split (fixed_bytes w r.fixed) f in
    let f₂ = between_split (be w.count n) f₁.1 in
    here-got _ s at
    ∙ then-got (fixed_fields w) _ s at ((fixed-exact w).complete s at _ _ fixed f₁.0)
    ∙ then-got (number w.count) _ s _ ((number-exact w.count).complete s _ _ _ fits f₂.0)
    ∙ then-got (groups w (kinds w)) _ s _ ((groups-exact w (kinds w)).complete s _ r.groups next gs f₂.1)
    ∙ here-got _ s next

pub record-exact : (longest : ℕ) (w : Widths) → Exact (avl_record longest w) (record_bytes w) (RecordRules longest w)
unfolding avl_record record_bytes pure
record-exact longest w =
    record {
      sound = λ s at h i.
          meets-then here _ s at (meets-here s at) (λ start n₀ k₀.
          meets-then (fixed_fields w) _ s n₀ ((fixed-exact w).sound s n₀ h (omega (arith, k₀.1))) (λ fixed n₁ k₁.
          meets-then (number w.count) _ s n₁ ((number-exact w.count).sound s n₁ h k₁.0.inside) (λ sum n₂ k₂.
          meets-then (groups w (kinds w)) _ s n₂ ((groups-exact w (kinds w)).sound s n₂ h k₂.0.inside) (λ gs n₃ k₃.
          meets-then here _ s n₃ (meets-here s n₃) (λ end n₄ k₄.
          meets-next (require _ 9 start) _ s n₄ (meets-require _ _ _ s n₄) (λ u n₅ k₅.
          meets-next (require _ 12 start) _ s n₅ (meets-require _ _ _ s n₅) (λ v n₆ k₆.
          let same : sum ≡ element_count gs = eqb-true _ _ k₅.0 in
          let whole = between_join k₁.0 (between_join (between-bytes (ap (be w.count) same) k₂.0) k₃.0) in
          meets-pure _ s n₆ (
            between-moved k₀.1 (sym (k₆.1 ∙ k₅.1 ∙ k₄.1)) whole,
            record {
              fixed_keep = k₁.1;
              total_fits = subst (λ (x : ℕ). x < 256 ^ w.count) same k₂.1;
              groups_keep = k₃.1;
              size = within whole.size (leb-true _ _ k₆.0) k₄.0 k₀.0 k₀.1;
            },
          ))))))));
      complete = λ s at r next h f.
          record-ended longest w (element_count r.groups) r s at next h.fixed_keep h.total_fits h.groups_keep f
          ∙ require-got (eqb (element_count r.groups) (element_count r.groups)) 9 at _ s next (eq-eqb (element_count r.groups) (element_count r.groups) refl)
          ∙ require-got _ 12 at _ s next (le-leb next _ (omega (arith, h.size, f.size)));
    }

-- ---- records

meets-tagged : {A : Type 0} {Q : A → ℕ → Type 0} (index : ℕ) (r : Read A) → Meets r Q → Meets (tagged index r) Q
unfolding tagged
meets-tagged index (got a n) h = h
meets-tagged index (bad x) h = record { if-got = λ a n e. absurd (let z : ◌≡◌ {A = ℕ} 0 1 = cc in omega arith) }

in_record-exact : {A : Type 0} {m : Reader A} {write : A → List ℕ} {Rules : A → Type 0} (index : ℕ) → Exact m write Rules → Exact (in_record index m) write Rules
unfolding in_record tagged
in_record-exact {m = m} index x =
    record {
      sound = λ s at h i. meets-tagged index (m s at) (x.sound s at h i);
      complete = λ s at a next h f. ap (tagged index) (x.complete s at a next h f);
    }

records-sound : (longest : ℕ) (w : Widths) (index n : ℕ) (s : List ℕ) (at : ℕ) → Bytes s → at ≤ length s
    → Meets (avl_records longest w index n s at) (λ rs next. Between s at (joined (record_bytes w) rs) next × ((length rs ≡ n) × All (RecordRules longest w) rs))
unfolding avl_records
records-sound longest w index zero s at h i = meets-pure [] s at (between-nil s at i, (refl, tt))
records-sound longest w index (suc n) s at h i =
    meets-then (in_record index (avl_record longest w)) _ s at ((in_record-exact index (record-exact longest w)).sound s at h i) (λ r mid k.
    meets-then (avl_records longest w (suc index) n) _ s mid (records-sound longest w (suc index) n s mid h k.0.inside) (λ rs next t.
    meets-pure (r ∷ rs) s next (between_join k.0 t.0, (ap suc t.1.0, (k.1, t.1.1)))))

records-complete : (longest : ℕ) (w : Widths) (index : ℕ) (rs : List AvlRecord) (s : List ℕ) (at next : ℕ) → All (RecordRules longest w) rs
    → Between s at (joined (record_bytes w) rs) next → avl_records longest w index (length rs) s at ≡ got rs next
unfolding avl_records pure
records-complete longest w index [] s at next h f = ap (got []) (sym (f.size ∙ add-zero at))
records-complete longest w index (r ∷ rs) s at next h f =
    let a = between_split (record_bytes w r) f in
    then-got (in_record index (avl_record longest w)) _ s at ((in_record-exact index (record-exact longest w)).complete s at r _ h.0 a.0)
    ∙ then-got (avl_records longest w (suc index) (length rs)) _ s _ (records-complete longest w (suc index) rs s _ next h.1 a.1)

meets-at_end : (count : ℕ) (s : List ℕ) (at : ℕ) → Meets (at_end count s at) (λ u next. (at ≡ length s) × (next ≡ length s))
unfolding at_end
meets-at_end count s at = meets-pick _ (got tt at) _ (λ e. let end : at ≡ length s = eqb-true _ _ e in meets-got tt at (end, end))

pub all_sound : (longest : ℕ) (w : Widths) (n : ℕ) (s : List ℕ) → Bytes s
    → Meets (all_records longest w n s 0) (λ rs next. (s ≡ joined (record_bytes w) rs) × (length rs ≡ n) × All (RecordRules longest w) rs)
unfolding all_records
all_sound longest w n s h =
    meets-then (avl_records longest w 0 n) _ s 0 (records-sound longest w 0 n s 0 h (omega arith)) (λ rs mid k.
    meets-next (at_end n) _ s mid (meets-at_end n s mid) (λ u next e.
    meets-pure rs s next (whole-between (between-moved refl e.0 k.0), k.1.0, k.1.1)))

pub all-complete : (longest : ℕ) (w : Widths) (rs : List AvlRecord) → All (RecordRules longest w) rs
    → all_records longest w (length rs) (joined (record_bytes w) rs) 0 ≡ got rs (length (joined (record_bytes w) rs))
unfolding all_records at_end pure
all-complete longest w rs h =
    let s = joined (record_bytes w) rs in
    then-got (avl_records longest w 0 (length rs)) _ s 0 (records-complete longest w 0 rs s 0 (length s) h (between-whole s))
    ∙ next-got (at_end (length rs)) _ s (length s) (simp (eq-eqb (length s) (length s) refl))
