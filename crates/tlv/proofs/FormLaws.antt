-- A form that was written of data is decoded to that data, so a form stands for one data field at most.
use Prim.Native.Nat.{ℕ, ◌+◌, ◌^◌, ◌≤◌, ◌<◌}
use native.Mathlib.Nat.{lt_of_lt_of_le, pow-le-pow_right}
use native.Mathlib.Omega.{arith}
use mathlib.Core.Path.{◌≡◌, refl, sym, ap, ap₂, ◌∙◌}
use mathlib.Core.List.{List, [], ◌∷◌, ◌++◌, append_assoc}
use lib.ListN.{length, length-append}
use lib.Dec.{eqb, lit<, lit≤}
use borrow.Author.Tests.{eq-eqb, ne_eqb}
use Rattle.wire.specs.Numbers.{digits, be, little_at, le, pick}
use Rattle.wire.specs.Sequences.{joined, All}
use Rattle.wire.proofs.Widths.{little-le, all_append}
use Rattle.wire.proofs.Accepting.{pick_true, pick-false, pick-either}
use Rattle.avl.specs.declared.Widths.{Widths}
use Rattle.avl.specs.Codecs.{widths_of, kinds, codec8, codec8_e, codec16}
use Rattle.avl.specs.Records.{Element, Fixed, AvlRecord, FixedRules, ElementRules, GroupsRules, RecordRules, element_count, length_bytes, element_bytes, group_bytes, groups_bytes, fixed_bytes, record_bytes}
use Rattle.avl.specs.DataField.{AvlData, DataRules}
use Rattle.store.specs.Entries.{Entry}
use Rattle.tlv.specs.Form.{fixed_entry, element_entry, group_entries, groups_entries, records_entries, form_entries, form}
use Rattle.tlv.specs.Decoding.{entry_element, run, behind, groups_of, fixed_of, records_of, data_of, decoded}
use Rattle.store.proofs.EntryLaws.{EntryFits, entries-written}

-- ---- the elements of a record

element-again : (kind : ℕ) (e : Element) → e.id < 256 ^ 2 → entry_element (element_entry kind e) ≡ e
unfolding entry_element element_entry le
element-again kind e h =
    let id : little_at (le 2 e.id ++ e.value) 0 2 ≡ e.id = little-le 2 e.id (le 2 e.id ++ e.value) 0 e.value h refl in
    λ i. record { id = id i; value = e.value }

-- the first entry, if there is one, has another kind
abbrev Other : ℕ → List Entry → Type 0
Other kind [] = Unit {0}
Other kind (e ∷ es) = (e.kind ≡ kind → ⊥)

-- a group's entries are a run, before whatever starts with another kind
run-done : (kind : ℕ) (es : List Entry) → Other kind es → run kind es ≡ []
unfolding run
run-done kind [] o = refl
run-done kind (e ∷ es) o = pick-false (eqb e.kind kind) _ _ (ne_eqb e.kind kind o)

own-run : (kind : ℕ) (g : List Element) (es : List Entry) → All (λ e. e.id < 256 ^ 2) g → Other kind es → run kind (group_entries kind g ++ es) ≡ g
unfolding group_entries run element_entry
own-run kind [] es h o = run-done kind es o
own-run kind (e ∷ g) es h o =
    pick_true (eqb kind kind) _ _ (eq-eqb kind kind refl)
    ∙ ap₂ (λ (x : Element) (l : List Element). x ∷ l) (element-again kind e h.0) (own-run kind g es h.1 o)

behind-done : (kind : ℕ) (es : List Entry) → Other kind es → behind kind es ≡ es
unfolding behind
behind-done kind [] o = refl
behind-done kind (e ∷ es) o = pick-false (eqb e.kind kind) _ _ (ne_eqb e.kind kind o)

behind-run : (kind : ℕ) (g : List Element) (es : List Entry) → Other kind es → behind kind (group_entries kind g ++ es) ≡ es
unfolding group_entries behind element_entry
behind-run kind [] es o = behind-done kind es o
behind-run kind (e ∷ g) es o = pick_true (eqb kind kind) _ _ (eq-eqb kind kind refl) ∙ behind-run kind g es o

-- no kind of a list is this one
abbrev Apart : ℕ → List ℕ → Type 0
Apart k ks = All (λ j. (k ≡ j → ⊥)) ks

abbrev Distinct : List ℕ → Type 0
Distinct [] = Unit {0}
Distinct (k ∷ ks) = Apart k ks × Distinct ks

-- the rules of groups give IDs of at most two bytes
abbrev SmallIds : List (List Element) → Type 0
SmallIds gs = All (λ g. All (λ e. e.id < 256 ^ 2) g) gs

other-group : (kind other : ℕ) (g : List Element) (es : List Entry) → (other ≡ kind → ⊥) → Other kind es → Other kind (group_entries other g ++ es)
unfolding group_entries element_entry
other-group kind other [] es h o = o
other-group kind other (e ∷ g) es h o = h

other-groups : (kind : ℕ) (ks : List ℕ) (gs : List (List Element)) (es : List Entry) → Apart kind ks → Other kind es → Other kind (groups_entries ks gs ++ es)
unfolding groups_entries
other-groups kind [] gs es h o = o
other-groups kind (k ∷ ks) [] es h o = o
other-groups kind (k ∷ ks) (g ∷ gs) es h o =
    rw append_assoc (other-group kind k g (groups_entries ks gs ++ es) (λ e. h.0 (sym e)) (other-groups kind ks gs es h.1 o))

-- as many groups as kinds
abbrev Parallel : List ℕ → List (List Element) → Type 0
Parallel [] [] = Unit {0}
Parallel [] (g ∷ gs) = ⊥
Parallel (k ∷ ks) [] = ⊥
Parallel (k ∷ ks) (g ∷ gs) = Parallel ks gs

groups-again : (ks : List ℕ) (gs : List (List Element)) (es : List Entry) → Distinct ks → Parallel ks gs → SmallIds gs → All (λ k. Other k es) ks
    → groups_of ks (groups_entries ks gs ++ es) ≡ gs
unfolding groups_of groups_entries
groups-again [] [] es d p h o = refl
groups-again [] (g ∷ gs) es d p h o = absurd p
groups-again (k ∷ ks) [] es d p h o = absurd p
groups-again (k ∷ ks) (g ∷ gs) es d p h o =
    let rest = groups_entries ks gs ++ es in
    let apart = other-groups k ks gs es d.0 o.0 in
    let own : run k (group_entries k g ++ rest) ≡ g = own-run k g rest h.0 apart in
    let more : groups_of ks (behind k (group_entries k g ++ rest)) ≡ gs = ap (groups_of ks) (behind-run k g rest apart) ∙ groups-again ks gs es d.1 p h.1 o.1 in
    rw append_assoc (ap₂ (λ (x : List Element) (l : List (List Element)). x ∷ l) own more)

-- ---- the fixed fields

fixed-again : (w : Widths) (f : Fixed) → w.event ≤ 2 → FixedRules w f → fixed_of (fixed_entry f).body ≡ f
unfolding fixed_of fixed_entry le
fixed-again w f narrow h =
    let b = (fixed_entry f).body in
    let timestamp : little_at b 0 8 ≡ f.timestamp = little-le 8 _ b 0 _ h.timestamp_fits refl in
    let priority : little_at b 8 1 ≡ f.priority = little-le 1 _ b 8 _ (omega (arith, h.priority_range)) refl in
    let longitude : little_at b 9 4 ≡ f.longitude = little-le 4 _ b 9 _ h.longitude_fits refl in
    let latitude : little_at b 13 4 ≡ f.latitude = little-le 4 _ b 13 _ h.latitude_fits refl in
    let altitude : little_at b 17 2 ≡ f.altitude = little-le 2 _ b 17 _ h.altitude_fits refl in
    let angle : little_at b 19 2 ≡ f.angle = little-le 2 _ b 19 _ h.angle_fits refl in
    let satellites : little_at b 21 1 ≡ f.satellites = little-le 1 _ b 21 _ h.satellites_fit refl in
    let speed : little_at b 22 2 ≡ f.speed = little-le 2 _ b 22 _ h.speed_fits refl in
    let event : little_at b 24 2 ≡ f.event = little-le 2 _ b 24 _ (lt_of_lt_of_le h.event_fits (pow-le-pow_right (lit< tt) narrow)) refl in
    let generation : little_at b 26 1 ≡ f.generation = little-le 1 _ b 26 [] (omega (arith, h.generation_range)) refl in
    λ i. record {
      timestamp = timestamp i;
      priority = priority i;
      longitude = longitude i;
      latitude = latitude i;
      altitude = altitude i;
      angle = angle i;
      satellites = satellites i;
      speed = speed i;
      event = event i;
      generation = generation i;
    }

-- ---- the records

-- no entry of these starts a record
abbrev NoRecord : List Entry → Type 0
NoRecord es = All (λ e. (e.kind ≡ 101 → ⊥)) es

no-record-group : (k : ℕ) (g : List Element) → (k ≡ 101 → ⊥) → NoRecord (group_entries k g)
unfolding group_entries element_entry
no-record-group k [] h = tt
no-record-group k (e ∷ g) h = (h, no-record-group k g h)

no-record-groups : (ks : List ℕ) (gs : List (List Element)) → Apart 101 ks → NoRecord (groups_entries ks gs)
unfolding groups_entries
no-record-groups [] gs h = tt
no-record-groups (k ∷ ks) [] h = tt
no-record-groups (k ∷ ks) (g ∷ gs) h =
    all_append (λ e. (e.kind ≡ 101 → ⊥)) (group_entries k g) (groups_entries ks gs) (no-record-group k g (λ e. h.0 (sym e))) (no-record-groups ks gs h.1)

skip-elements : (ks : List ℕ) (es rest : List Entry) → NoRecord es → records_of ks (es ++ rest) ≡ records_of ks rest
unfolding records_of
skip-elements ks [] rest h = refl
skip-elements ks (x ∷ es) rest h = pick-false (eqb x.kind 101) _ _ (ne_eqb x.kind 101 h.0) ∙ skip-elements ks es rest h.1

starts-record : (kind : ℕ) (ks : List ℕ) (rs : List AvlRecord) → (101 ≡ kind → ⊥) → Other kind (records_entries ks rs)
unfolding records_entries fixed_entry
starts-record kind ks [] h = tt
starts-record kind ks (r ∷ rs) h = h

start-others : (js ks : List ℕ) (rs : List AvlRecord) → Apart 101 js → All (λ k. Other k (records_entries ks rs)) js
start-others [] ks rs h = tt
start-others (j ∷ js) ks rs h = (starts-record j ks rs h.0, start-others js ks rs h.1)

parallel : (w : Widths) (ks : List ℕ) (gs : List (List Element)) → GroupsRules w ks gs → Parallel ks gs
parallel w [] [] h = tt
parallel w [] (g ∷ gs) h = h
parallel w (k ∷ ks) [] h = h
parallel w (k ∷ ks) (g ∷ gs) h = parallel w ks gs h.1

-- what a width set and its kinds have to be
record Plain (w : Widths) : Type 0 where
  event : w.event ≤ 2
  id : w.id ≤ 2
  distinct : Distinct (kinds w)
  no_record : Apart 101 (kinds w)

small-group : (w : Widths) (k : ℕ) (g : List Element) → w.id ≤ 2 → All (ElementRules w k) g → All (λ e. e.id < 256 ^ 2) g
small-group w k [] n h = tt
small-group w k (e ∷ g) n h = (lt_of_lt_of_le h.0.id_fits (pow-le-pow_right (lit< tt) n), small-group w k g n h.1)

small-ids : (w : Widths) (ks : List ℕ) (gs : List (List Element)) → w.id ≤ 2 → GroupsRules w ks gs → SmallIds gs
small-ids w [] [] n h = tt
small-ids w [] (g ∷ gs) n h = absurd h
small-ids w (k ∷ ks) [] n h = absurd h
small-ids w (k ∷ ks) (g ∷ gs) n h = (small-group w k g n h.0.each, small-ids w ks gs n h.1)

records-again : (w : Widths) (longest : ℕ) (rs : List AvlRecord) → Plain w → All (RecordRules longest w) rs → records_of (kinds w) (records_entries (kinds w) rs) ≡ rs
unfolding records_of records_entries fixed_entry
records-again w longest [] p h = refl
records-again w longest (r ∷ rs) p h =
    let ks = kinds w in
    let es = groups_entries ks r.groups in
    let rest = records_entries ks rs in
    let plain = no-record-groups ks r.groups p.no_record in
    let own : groups_of ks (es ++ rest) ≡ r.groups =
    groups-again ks r.groups rest p.distinct (parallel w ks r.groups h.0.groups_keep) (small-ids w ks r.groups p.id h.0.groups_keep) (start-others ks ks rs p.no_record)
    in
    let fixed = fixed-again w r.fixed p.event h.0.fixed_keep in
    let whole : ◌≡◌ {A = AvlRecord} (record { fixed = fixed_of (fixed_entry r.fixed).body; groups = groups_of ks (es ++ rest) }) r = λ i. record { fixed = fixed i; groups = own i } in
    ap₂ (λ (x : AvlRecord) (l : List AvlRecord). x ∷ l) whole (skip-elements ks es rest plain ∙ records-again w longest rs p h.1)

plain : (w : Widths) → w.event ≤ 2 → w.id ≤ 2 → Plain w
unfolding kinds
plain w e i =
    record {
      event = e;
      id = i;
      distinct = pick-either (λ l. Distinct (1 ∷ 2 ∷ 4 ∷ 8 ∷ l)) w.variable (9 ∷ []) [] (omega arith) (omega arith);
      no_record = pick-either (λ l. Apart 101 (1 ∷ 2 ∷ 4 ∷ 8 ∷ l)) w.variable (9 ∷ []) [] (omega arith) (omega arith);
    }

plain-widths : (codec : ℕ) → Plain (widths_of codec)
unfolding widths_of
plain-widths codec =
    pick-either Plain (eqb codec 0x08) codec8 (pick (eqb codec 0x8E) codec8_e codec16) (plain codec8 (lit≤ tt) (lit≤ tt))
    (pick-either Plain (eqb codec 0x8E) codec8_e codec16 (plain codec8_e (lit≤ tt) (lit≤ tt)) (plain codec16 (lit≤ tt) (lit≤ tt)))

data-again : (longest : ℕ) (a : AvlData) → DataRules longest a → data_of (form_entries a) ≡ a
unfolding data_of form_entries
data-again longest a h =
    let rs = records-again (widths_of a.codec) longest a.records (plain-widths a.codec) h.each in
    λ i. record { codec = a.codec; records = rs i }

-- ---- every entry's kind and length fit

small-kinds : (w : Widths) → All (λ k. k < 256 ^ 2) (kinds w)
unfolding kinds
small-kinds w = pick-either (λ l. All (λ k. k < 256 ^ 2) (1 ∷ 2 ∷ 4 ∷ 8 ∷ l)) w.variable (9 ∷ []) [] (omega arith) (omega arith)

value-within : (w : Widths) (k : ℕ) (e : Element) → length e.value ≤ length (element_bytes w k e)
unfolding element_bytes
value-within w k e = omega (arith, length-append (be w.id e.id) (length_bytes k e.value ++ e.value), length-append (length_bytes k e.value) e.value)

fits-group : (w : Widths) (k : ℕ) (g : List Element) → k < 256 ^ 2 → 2 + length (joined (element_bytes w k) g) < 256 ^ 2 → All EntryFits (group_entries k g)
unfolding group_entries element_entry le
fits-group w k [] h l = tt
fits-group w k (e ∷ g) h l =
    let size = length-append (element_bytes w k e) (joined (element_bytes w k) g) in
    (record { kind_fits = h; body_fits = omega (arith, value-within w k e, size) }, fits-group w k g h (omega (arith, size)))

fits-groups : (w : Widths) (ks : List ℕ) (gs : List (List Element)) → All (λ k. k < 256 ^ 2) ks → 2 + length (groups_bytes w ks gs) < 256 ^ 2 → All EntryFits (groups_entries ks gs)
unfolding groups_entries groups_bytes group_bytes
fits-groups w [] gs h l = tt
fits-groups w (k ∷ ks) [] h l = tt
fits-groups w (k ∷ ks) (g ∷ gs) h l =
    let size = length-append (be w.count (length g)) (joined (element_bytes w k) g) in
    let sum = length-append (be w.count (length g) ++ joined (element_bytes w k) g) (groups_bytes w ks gs) in
    all_append EntryFits (group_entries k g) (groups_entries ks gs) (fits-group w k g h.0 (omega (arith, size, sum))) (fits-groups w ks gs h.1 (omega (arith, size, sum)))

fixed-size : (w : Widths) (f : Fixed) → 2 ≤ length (fixed_bytes w f)
unfolding fixed_bytes digits
fixed-size w f = omega arith

groups-within : (w : Widths) (r : AvlRecord) → 2 + length (groups_bytes w (kinds w) r.groups) ≤ length (record_bytes w r)
unfolding record_bytes
groups-within w r =
    let sum = be w.count (element_count r.groups) in
    omega (
      arith,
      fixed-size w r.fixed,
      length-append (fixed_bytes w r.fixed) (sum ++ groups_bytes w (kinds w) r.groups),
      length-append sum (groups_bytes w (kinds w) r.groups),
    )

fits-fixed : (f : Fixed) → EntryFits (fixed_entry f)
unfolding fixed_entry le
fits-fixed f = record { kind_fits = lit< tt; body_fits = lit< tt }

fits-records : (w : Widths) (longest : ℕ) (rs : List AvlRecord) → longest < 256 ^ 2 → All (RecordRules longest w) rs → All EntryFits (records_entries (kinds w) rs)
unfolding records_entries
fits-records w longest [] l h = tt
fits-records w longest (r ∷ rs) l h = (
  fits-fixed r.fixed,
  all_append EntryFits (groups_entries (kinds w) r.groups) (records_entries (kinds w) rs)
      (fits-groups w (kinds w) r.groups (small-kinds w) (omega (arith, groups-within w r, h.0.size)))
      (fits-records w longest rs l h.1),
)

fits-form : (longest : ℕ) (a : AvlData) → longest < 256 ^ 2 → DataRules longest a → All EntryFits (form_entries a)
unfolding form_entries
fits-form longest a l h = (record { kind_fits = lit< tt; body_fits = lit< tt }, fits-records (widths_of a.codec) longest a.records l h.each)

-- ---- the form decoded

pub form-decoded : (longest : ℕ) (a : AvlData) → longest < 256 ^ 2 → DataRules longest a → decoded (form a) ≡ a
unfolding decoded form
form-decoded longest a l h = ap data_of (entries-written (form_entries a) (fits-form longest a l h)) ∙ data-again longest a h
