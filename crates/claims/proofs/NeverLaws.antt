-- A reader that never stops with a number.
use Rattle.std.specs.Prelude.{Err, Ok}
use Prim.Native.Nat.{ℕ, zero, suc, ◌+◌, ◌-◌, ◌≤◌}
use native.Mathlib.Omega.{arith}
use mathlib.Core.Path.{◌≡◌, refl, ap, ◌∙◌}
use mathlib.Core.Bool.{Bool, true, false}
use mathlib.Core.List.{List, [], ◌∷◌}
use lib.ListN.{length, take, drop, length-take, length-drop}
use lib.Dec.{leb, eqb}
use borrow.Author.Tests.{le-leb}
use Rattle.wire.specs.declared.Refusal.{Refusal}
use Rattle.wire.specs.Numbers.{Bytes, number_at, pick}
use Rattle.wire.specs.Envelope.{codec_of, first_count, last_count, inner}
use Rattle.wire.specs.Answers.{Answer, refusal_at, moved_by, from, told, check_at, on_accepted}
use Rattle.wire.proofs.Enclosed.{bytes-inner}
use Rattle.wire.specs.Reading.{Read, got, bad, Reader, and_then, ◌>>=◌, ◌>>◌, pure, here, require, span, number, bytes, up_to, repeat}
use Rattle.wire.specs.Imei.{text_digit, read_imei}
use Rattle.datagram.specs.Datagrams.{read_header}
use Rattle.avl.specs.declared.Widths.{Widths}
use Rattle.avl.specs.Codecs.{widths_of, is_data_codec, kinds}
use Rattle.avl.specs.DataField.{read_data}
use Rattle.avl.specs.Records.{AvlRecord, element_count}
use Rattle.avl.specs.RecordReader.{value_size, element, group, groups, fixed_fields, avl_record, tagged, in_record, avl_records, at_end, all_records}
use Rattle.avl.proofs.RecordLaws.{fixed-exact, groups-exact, record-exact}
use Rattle.wire.proofs.Exactness.{number-exact}

-- whatever it stops with is another number
abbrev pub Never : {A : Type 0} → ℕ → Read A → Type 0
Never k r = (x : Refusal) → r ≡ bad x → x.number ≡ k → ⊥

never-got : {A : Type 0} {k : ℕ} (a : A) (next : ℕ) → Never k (got a next)
never-got a next x e same = let z : ◌≡◌ {A = ℕ} 0 1 = cc e in omega (arith, z)

never-bad : {A : Type 0} {k : ℕ} (y : Refusal) → (y.number ≡ k → ⊥) → Never {A = A} k (bad y)
never-bad y h x e same = h (let whole : y ≡ x = cc e in ap (λ (z : Refusal). z.number) whole ∙ same)

never-pick : {A : Type 0} {k : ℕ} (test : Bool) (a b : Read A) → Never k a → Never k b → Never k (pick test a b)
never-pick true a b h g = h
never-pick false a b h g = g

never-and : {A B : Type 0} {k : ℕ} (r : Read A) (f : A → ℕ → Read B) → Never k r → ((a : A) (next : ℕ) → r ≡ got a next → Never k (f a next)) → Never k (and_then r f)
unfolding and_then
never-and (got a next) f h g = g a next refl
never-and (bad y) f h g = never-bad y (h y refl)

module _ {k : ℕ} (s : List ℕ) where
  never-then : {A B : Type 0} (m : Reader A) (f : A → Reader B) (at : ℕ) → Never k (m s at) → ((a : A) (next : ℕ) → m s at ≡ got a next → Never k (f a s next)) → Never k ((m >>= f) s at)
  unfolding ◌>>=◌
  never-then m f at h g = never-and (m s at) (λ a next. f a s next) h g

  never-next : {A B : Type 0} (m : Reader A) (n : Reader B) (at : ℕ) → Never k (m s at) → ((a : A) (next : ℕ) → m s at ≡ got a next → Never k (n s next)) → Never k ((m >> n) s at)
  unfolding ◌>>◌
  never-next m n at h g = never-then m (λ a. n) at h g

  never-pure : {A : Type 0} (a : A) (at : ℕ) → Never k (pure a s at)
  unfolding pure
  never-pure a at = never-got a at

  never_here : (at : ℕ) → Never k (here s at)
  unfolding here
  never_here at = never-got at at

  never-require : (test : Bool) (n place at : ℕ) → (n ≡ k → ⊥) → Never k (require test n place s at)
  unfolding require
  never-require test n place at h = never-pick test _ _ (never-got tt at) (never-bad _ h)

  never-required : (test : Bool) (n place at : ℕ) → test ≡ true → Never k (require test n place s at)
  unfolding require
  never-required test n place at e = rw e (never-got tt at)

  module _ (not8 : 8 ≡ k → ⊥) where
    never-span : (n at : ℕ) → Never k (span n s at)
    unfolding span
    never-span n at = never-pick (leb (at + n) (length s)) _ _ (never-got at (at + n)) (never-bad _ not8)

    never-number : (w at : ℕ) → Never k (number w s at)
    unfolding number
    never-number w at = never-and (span w s at) _ (never-span w at) (λ a next e. never-got (number_at s a w) next)

    never-bytes : (n at : ℕ) → Never k (bytes n s at)
    unfolding bytes
    never-bytes n at = never-and (span n s at) _ (never-span n at) (λ a next e. never-got (take n (drop a s)) next)

    never-up_to : (w most n at : ℕ) → (n ≡ k → ⊥) → Never k (up_to w most n s at)
    unfolding up_to
    never-up_to w most n at h =
        never-then here _ at (never_here at) (λ a i e.
        never-then (number w) _ i (never-number w i) (λ v j f.
        never-next (require (leb v most) n a) (pure v) j (never-require (leb v most) n a j h) (λ u l g. never-pure v l)))

    never-repeat : {A : Type 0} (n : ℕ) (m : Reader A) → ((at : ℕ) → Never k (m s at)) → (at : ℕ) → Never k (repeat n m s at)
    unfolding repeat
    never-repeat zero m h at = never-pure [] at
    never-repeat (suc n) m h at = never-then m _ at (h at) (λ a i e. never-then (repeat n m) _ i (never-repeat n m h i) (λ l j f. never-pure (a ∷ l) j))

    never-digit : (at : ℕ) → (15 ≡ k → ⊥) → Never k (text_digit s at)
    unfolding text_digit
    never-digit at not15 =
        never-then here _ at (never_here at) (λ start i e.
        never-then (number 1) _ i (never-number 1 i) (λ c j f. never-next (require _ 15 start) _ j (never-require _ 15 start j not15) (λ u l g. never-pure _ l)))

    never-imei : (at : ℕ) → (15 ≡ k → ⊥) → Never k (read_imei s at)
    unfolding read_imei
    never-imei at not15 =
        never-then here _ at (never_here at) (λ start i e.
        never-then (number 2) _ i (never-number 2 i) (λ size j f.
        never-next (require (eqb size 15) 15 start) _ j (never-require (eqb size 15) 15 start j not15) (λ u l g.
        never-then (repeat 15 text_digit) _ l (never-repeat 15 text_digit (λ n. never-digit n not15) l) (λ ds m h. never-pure _ m))))

    -- a datagram's header
    pub never-header : (at : ℕ) → (15 ≡ k → ⊥) → Never k (read_header s at)
    unfolding read_header
    never-header at not15 =
        never-then (number 2) _ at (never-number 2 at) (λ a i e.
        never-then (number 1) _ i (never-number 1 i) (λ c j f.
        never-then (number 1) _ j (never-number 1 j) (λ d l g.
        never-then read_imei _ l (never-imei l not15) (λ n m h. never-pure _ m))))

    -- ---- the fields of a record

    never-size : (kind at : ℕ) → Never k (value_size kind s at)
    unfolding value_size
    never-size kind at = go (eqb kind 9)
      where
        go : (variable : Bool) → Never k (pick variable (number 2) (pure kind) s at)
        go true = never-number 2 at
        go false = never-pure kind at

    never-element : (w : Widths) (kind at : ℕ) → Never k (element w kind s at)
    unfolding element
    never-element w kind at =
        never-then (number w.id) _ at (never-number w.id at) (λ id i e.
        never-then (value_size kind) _ i (never-size kind i) (λ size j f.
        never-then (bytes size) _ j (never-bytes size j) (λ v l g. never-pure _ l)))

    never-group : (w : Widths) (kind at : ℕ) → Never k (group w kind s at)
    unfolding group
    never-group w kind at =
        never-then (number w.count) _ at (never-number w.count at) (λ n i e. never-repeat n (element w kind) (never-element w kind) i)

    never-groups : (w : Widths) (ks : List ℕ) (at : ℕ) → Never k (groups w ks s at)
    unfolding groups
    never-groups w [] at = never-pure [] at
    never-groups w (kind ∷ ks) at =
        never-then (group w kind) _ at (never-group w kind at) (λ g i e. never-then (groups w ks) _ i (never-groups w ks i) (λ gs j f. never-pure (g ∷ gs) j))

    never-fixed : (w : Widths) (at : ℕ) → (10 ≡ k → ⊥) → (11 ≡ k → ⊥) → Never k (fixed_fields w s at)
    unfolding fixed_fields
    never-fixed w at not10 not11 =
        never-then (number 8) _ at (never-number 8 at) (λ a i e.
        never-then (up_to 1 2 10) _ i (never-up_to 1 2 10 i not10) (λ b i₂ e₂.
        never-then (number 4) _ i₂ (never-number 4 i₂) (λ c i₃ e₃.
        never-then (number 4) _ i₃ (never-number 4 i₃) (λ d i₄ e₄.
        never-then (number 2) _ i₄ (never-number 2 i₄) (λ f i₅ e₅.
        never-then (number 2) _ i₅ (never-number 2 i₅) (λ g i₆ e₆.
        never-then (number 1) _ i₆ (never-number 1 i₆) (λ h i₇ e₇.
        never-then (number 2) _ i₇ (never-number 2 i₇) (λ l i₈ e₈.
        never-then (number w.event) _ i₈ (never-number w.event i₈) (λ m i₉ e₉.
        never-then (up_to w.generation 7 11) _ i₉ (never-up_to w.generation 7 11 i₉ not11) (λ o j f₂. never-pure _ j))))))))))

-- ---- records: no record ends behind the bytes, so none is over a limit that is no less than these are

module _ (longest : ℕ) (w : Widths) (s : List ℕ) (b : Bytes s) (fits : length s ≤ longest) where
  record-never12 : (at : ℕ) → at ≤ length s → Never 12 (avl_record longest w s at)
  unfolding avl_record here
  record-never12 at h =
      never-then s here _ at (never_here s at) (λ start i e₀.
      let from : i ≡ at = cc e₀ in
      let low : i ≤ length s = omega (arith, from, h) in
      never-then s (fixed_fields w) _ i (never-fixed s (λ e. omega (arith, e)) w i (λ e. omega (arith, e)) (λ e. omega (arith, e))) (λ fixed i₁ e₁.
      let fixed_in = (((fixed-exact w).sound s i b low).if-got fixed i₁ e₁).0.inside in
      never-then s (number w.count) _ i₁ (never-number s (λ e. omega (arith, e)) w.count i₁) (λ total i₂ e₂.
      let total-in = (((number-exact w.count).sound s i₁ b fixed_in).if-got total i₂ e₂).0.inside in
      never-then s (groups w (kinds w)) _ i₂ (never-groups s (λ e. omega (arith, e)) w (kinds w) i₂) (λ gs i₃ e₃.
      let groups-in = (((groups-exact w (kinds w)).sound s i₂ b total-in).if-got gs i₃ e₃).0.inside in
      never-then s here _ i₃ (never_here s i₃) (λ end i₄ e₄.
      let ends : end ≡ i₃ = cc e₄ in
      never-next s (require (eqb total (element_count gs)) 9 start) _ i₄ (never-require s (eqb total (element_count gs)) 9 start i₄ (λ e. omega (arith, e))) (λ u i₅ e₅.
      never-next s (require (leb end (start + longest)) 12 start) _ i₅ (never-required s (leb end (start + longest)) 12 start i₅ (le-leb end (start + longest) (omega (arith, ends, groups-in, fits)))) (λ v i₆ e₆.
      never-pure s (record { fixed = fixed; groups = gs }) i₆)))))))

  untagged : (index : ℕ) (r : Read AvlRecord) {a : AvlRecord} {next : ℕ} → tagged index r ≡ got a next → r ≡ got a next
  unfolding tagged
  untagged index (got a next) e = e
  untagged index (bad y) e = absurd (let z : ◌≡◌ {A = ℕ} 0 1 = cc e in omega (arith, z))

  tagged-never12 : {A : Type 0} (index : ℕ) (r : Read A) → Never 12 r → Never 12 (tagged index r)
  unfolding tagged
  tagged-never12 index (got a next) h = never-got a next
  tagged-never12 index (bad y) h = never-bad _ (h y refl)

  records-never12 : (n index at : ℕ) → at ≤ length s → Never 12 (avl_records longest w index n s at)
  unfolding avl_records in_record
  records-never12 zero index at h = never-pure s [] at
  records-never12 (suc n) index at h =
      never-then s (in_record index (avl_record longest w)) _ at (tagged-never12 index (avl_record longest w s at) (record-never12 at h)) (λ r i e.
      let inside = (((record-exact longest w).sound s at b h).if-got r i (untagged index (avl_record longest w s at) e)).0.inside in
      never-then s (avl_records longest w (suc index) n) _ i (records-never12 n (suc index) i inside) (λ rs j f. never-pure s (r ∷ rs) j))

  all-never12 : (count : ℕ) → Never 12 (all_records longest w count s 0)
  unfolding all_records at_end
  all-never12 count =
      never-then s (avl_records longest w 0 count) _ 0 (records-never12 count 0 0 (omega arith)) (λ rs i e.
      never-next s (at_end count) _ i (never-pick (eqb i (length s)) _ _ (never-got tt i) (never-bad _ (λ e. omega (arith, e)))) (λ u j f. never-pure s rs j))

-- ---- the answers

abbrev pub NeverSays : {A : Type 0} → ℕ → Answer A → Type 0
NeverSays k r = (x : Refusal) → r ≡ Err x → x.number ≡ k → ⊥

pub says-given : {A : Type 0} {k : ℕ} (a : A) → NeverSays k (Ok a)
says-given a x e same = let z : ◌≡◌ {A = ℕ} 0 1 = cc e in omega (arith, z)

says-refused : {A : Type 0} {k : ℕ} (y : Refusal) → (y.number ≡ k → ⊥) → NeverSays {A = A} k (Err y)
says-refused y h x e same = h (let whole : y ≡ x = cc e in ap (λ (z : Refusal). z.number) whole ∙ same)

pub says-check : {A : Type 0} {k : ℕ} (test : Bool) (n place : ℕ) (rest : Answer A) → (n ≡ k → ⊥) → NeverSays k rest → NeverSays k (check_at test n place rest)
unfolding check_at
says-check true n place rest h g = g
says-check false n place rest h g = says-refused (refusal_at n place) h

pub says-from : {A : Type 0} {k : ℕ} (base : ℕ) (r : Answer A) → NeverSays k r → NeverSays k (from base r)
unfolding from
says-from base (Ok a) h = says-given a
says-from base (Err y) h = says-refused (moved_by base y) (h y refl)

pub says_then : {A B : Type 0} {k : ℕ} (r : Answer A) (f : A → Answer B) → NeverSays k r → ((a : A) → r ≡ Ok a → NeverSays k (f a)) → NeverSays k (on_accepted r f)
unfolding on_accepted
says_then (Ok a) f h g = g a refl
says_then (Err y) f h g = says-refused y (h y refl)

pub says-told : {A : Type 0} {k : ℕ} (base : ℕ) (r : Read A) → Never k r → NeverSays k (told base r)
unfolding told
says-told base (got a next) h = says-given a
says-told base (bad y) h = says-refused (moved_by base y) (h y refl)

pub data-never12 : (longest : ℕ) (d : List ℕ) → Bytes d → length d ≤ longest → NeverSays 12 (read_data longest d)
unfolding read_data inner
data-never12 longest d b h =
    let space = inner d in
    let small : length space ≤ longest = omega (arith, h, length-take (length d - 3) (drop 2 d), length-drop 2 d) in
    says-check (is_data_codec (codec_of d)) 6 _ _ (λ e. omega (arith, e))
    (says-check (leb 1 (first_count d)) 7 _ _ (λ e. omega (arith, e))
    (says-check (eqb (first_count d) (last_count d)) 7 _ _ (λ e. omega (arith, e))
    (says_then (told 2 (all_records longest (widths_of (codec_of d)) (first_count d) space 0)) _
    (says-told 2 _ (all-never12 longest (widths_of (codec_of d)) space (bytes-inner d b) small (first_count d)))
    (λ rs e. says-given _))))
