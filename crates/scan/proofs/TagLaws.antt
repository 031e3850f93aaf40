-- Reading a tag byte by byte: what stands at an offset, and what that makes of the whole.
use Rattle.std.specs.Prelude.{Err, Ok, Some, None}
use Rattle.std.proofs.lemmas.Option.{some_pair_parts}
use Prim.Native.Nat.{ℕ, suc, ◌+◌, ◌-◌, ◌*◌, ◌≤◌, ◌<◌}
use native.Mathlib.Numerals.{add-one}
use native.Mathlib.Omega.{arith}
use mathlib.Core.Path.{◌≡◌, refl, sym, ap, ◌∙◌}
use mathlib.Core.Bool.{Bool, true, false}
use mathlib.Core.List.{List, [], ◌∷◌, ◌++◌, append-nil, append_assoc}
use lib.ListN.{length, drop, get_or, set, length-drop, length-append}
use lib.Seq.{sets, drop-cons, length-sets}
use lib.Dec.{eqb, leb}
use borrow.Author.Tests.{leb-true, ne_eqb}
use Rattle.wire.specs.Numbers.{pick}
use Rattle.wire.specs.Answers.{Answer, refusal, on_accepted, check_at}
use Rattle.wire.proofs.Accepting.{both_true, pick-either}
use Rattle.wire.proofs.Storing.{sets-append}
use Rattle.wire.proofs.BufferLaws.{sets-front}
use Rattle.text.specs.Hex.{among}
use Rattle.line.specs.Pieces.{before}
use Rattle.line.specs.Lines.{is_plain}
use Rattle.line.specs.LineReader.{Escape, none, slash, high, read_hex, read_tag}
use Rattle.line.proofs.PieceLaws.{before-short}
use Rattle.scan.specs.Fields.{field_from, ends_at}
use Rattle.scan.specs.Tags.{hex_as, tag_as, Gives, TagText, TagStored}
use Rattle.scan.proofs.FieldLaws.{field-behind, field-byte, ends-nothing, ends-not}

-- ---- hex digits

either : {A : Type 0} (P : A → Type 0) (b : Bool) {x y : A} → (b ≡ true → P x) → (b ≡ false → P y) → P (pick b x y)
either P true f g = f refl
either P false f g = g refl

among-low : (a b c : ℕ) → among a b c ≡ true → a ≤ c
among-low a b c e = leb-true a c (both_true (leb a c) (leb c b) e).0

among-high : (a b c : ℕ) → among a b c ≡ true → c ≤ b
among-high a b c e = leb-true c b (both_true (leb a c) (leb c b) e).1

-- a digit is below 16, and no comma
abbrev DigitOf : ℕ → Answer ℕ → Type 0
DigitOf c (Ok d) = (d < 16) × (eqb c 44 ≡ false)
DigitOf c (Err r) = r ≡ refusal 20

digit-of : (c : ℕ) → DigitOf c (read_hex c)
unfolding read_hex check_at
digit-of c =
    either (DigitOf c) (among 48 57 c) (λ e. (omega (arith, among-low 48 57 c e, among-high 48 57 c e), ne_eqb c 44 (λ z. omega (arith, among-low 48 57 c e))))
    (λ _. either (DigitOf c) (among 65 70 c) (λ e. (omega (arith, among-low 65 70 c e, among-high 65 70 c e), ne_eqb c 44 (λ z. omega (arith, among-low 65 70 c e))))
    (λ _. refl))

is_digit : (c : ℕ) (a : Answer ℕ) {d : ℕ} → DigitOf c a → hex_as a ≡ Some d → (a ≡ Ok d) × (d < 16) × (eqb c 44 ≡ false)
unfolding hex_as
is_digit c (Ok x) {d} h e = let same : x ≡ d = cc in (ap Ok same, omega (arith, h.0, same), h.1)
is_digit c (Err r) h e = absurd (let z : ◌≡◌ {A = ℕ} 0 1 = cc in omega arith)

no_digit : (c : ℕ) (a : Answer ℕ) → DigitOf c a → hex_as a ≡ None → a ≡ Err (refusal 20)
unfolding hex_as
no_digit c (Ok x) h e = absurd (let z : ◌≡◌ {A = ℕ} 0 1 = cc in omega arith)
no_digit c (Err r) h e = ap Err h

pub digit-small : (c : ℕ) {d : ℕ} → hex_as (read_hex c) ≡ Some d → d < 16
digit-small c e = (is_digit c (read_hex c) (digit-of c) e).1

-- ---- what is left of a field

module _ (t : List ℕ) (i : ℕ) (inside : i < length t) where
  next : drop i t ≡ get_or t i 0 ∷ drop (i + 1) t
  next = rw (add-one i) (drop-cons t i 0 inside)

  -- what holds of nothing, and of the byte with what is left behind it
  rest-either : (P : List ℕ → Type 0) → P [] → P (get_or t i 0 ∷ field_from t (i + 1)) → P (field_from t i)
  unfolding before
  rest-either P h k = rw next (pick-either P (eqb (get_or t i 0) 44) [] (get_or t i 0 ∷ field_from t (i + 1)) h k)

abbrev Wrong : Escape → List ℕ → Type 0
Wrong e s = read_tag e s ≡ Err (refusal 20)

-- ---- an escape

both-wrong : (c : ℕ) (a : Answer ℕ) → DigitOf c a → on_accepted {B = List ℕ} a (λ h. Err (refusal 20)) ≡ Err (refusal 20)
unfolding on_accepted
both-wrong c (Ok d) h = refl
both-wrong c (Err r) h = ap Err h

short-wrong : (s : List ℕ) → length s < 2 → Wrong slash s
unfolding read_tag
short-wrong [] h = refl
short-wrong (c ∷ []) h = both-wrong c (read_hex c) (digit-of c)
short-wrong (c ∷ d ∷ s) h = absurd (omega arith)

pub escape-short : (t : List ℕ) (i : ℕ) → length t - i < 2 → Wrong slash (field_from t i)
escape-short t i h = short-wrong (field_from t i) (omega (arith, before-short 44 (drop i t), length-drop i t))

module _ (t : List ℕ) (i : ℕ) (inside : i + 1 < length t) where
  pub escape-first : hex_as (read_hex (get_or t i 0)) ≡ None → Wrong slash (field_from t i)
  unfolding read_tag on_accepted
  escape-first e =
      let off = no_digit (get_or t i 0) (read_hex (get_or t i 0)) (digit-of (get_or t i 0)) e in
      rest-either t i (omega arith) (Wrong slash) refl (simp off)

  module _ {h : ℕ} (first : hex_as (read_hex (get_or t i 0)) ≡ Some h) where
    escape-on : read_tag slash (field_from t i) ≡ read_tag (high h) (field_from t (i + 1))
    unfolding read_tag on_accepted
    escape-on =
        let d = is_digit (get_or t i 0) (read_hex (get_or t i 0)) (digit-of (get_or t i 0)) first in
        rw (field-byte t i (omega arith) d.2) (simp d.0)

    pub escape-second : hex_as (read_hex (get_or t (i + 1) 0)) ≡ None → Wrong slash (field_from t i)
    unfolding read_tag on_accepted
    escape-second e =
        let off = no_digit (get_or t (i + 1) 0) (read_hex (get_or t (i + 1) 0)) (digit-of (get_or t (i + 1) 0)) e in
        escape-on ∙ rest-either t (i + 1) (omega arith) (Wrong (high h)) refl (simp off)

    module _ {l : ℕ} (second : hex_as (read_hex (get_or t (i + 1) 0)) ≡ Some l) where
      pub escape-plain : is_plain (h * 16 + l) ≡ true → Wrong slash (field_from t i)
      unfolding read_tag on_accepted check_at
      escape-plain e =
          let d = is_digit (get_or t (i + 1) 0) (read_hex (get_or t (i + 1) 0)) (digit-of (get_or t (i + 1) 0)) second in
          escape-on ∙ rest-either t (i + 1) (omega arith) (Wrong (high h)) refl (simp (d.0, e))

      pub escape-good : is_plain (h * 16 + l) ≡ false → Gives slash t i (h * 16 + l) (i + 2)
      unfolding read_tag on_accepted check_at
      escape-good e =
          let c = is_digit (get_or t i 0) (read_hex (get_or t i 0)) (digit-of (get_or t i 0)) first in
          let d = is_digit (get_or t (i + 1) 0) (read_hex (get_or t (i + 1) 0)) (digit-of (get_or t (i + 1) 0)) second in
          let two : i + 1 + 1 ≡ i + 2 = omega arith in
          let behind : field_from t (i + 1) ≡ get_or t (i + 1) 0 ∷ field_from t (i + 2) = rw (sym two) (field-byte t (i + 1) (omega arith) d.2) in
          record {
            reads = escape-on ∙ rw behind (simp (d.0, e));
            place = omega (arith, ap length (field-byte t i (omega arith) c.2), ap length behind);
            forward = omega arith;
            inside = omega arith;
          }

-- ---- a piece of a tag's text

plain-no-comma : (c : ℕ) → is_plain c ≡ true → c ≡ 44 → ⊥
unfolding is_plain
plain-no-comma c e z = absurd (let off : false ≡ true = rw z at e in let x : ◌≡◌ {A = ℕ} 0 1 = cc in omega arith)

pub piece-none : (t : List ℕ) (i : ℕ) → i ≡ length t → Wrong none (field_from t i)
unfolding read_tag
piece-none t i e = rw (field-behind t i (omega arith)) refl

module _ (t : List ℕ) (i : ℕ) (inside : i < length t) where
  -- the field ends behind the quote
  pub piece-end : get_or t i 0 ≡ 34 → ends_at t (i + 1) ≡ true → (read_tag none (field_from t i) ≡ Ok []) × (length (field_from t i) ≡ 1)
  unfolding read_tag check_at
  piece-end q k =
      let e = ends-nothing t (i + 1) k in
      let whole : field_from t i ≡ 34 ∷ [] = field-byte t i inside (rw q refl) ∙ rw (q, e) refl in
      (rw whole refl, ap length whole)

  -- the quote is not the field's last byte
  pub piece-early : get_or t i 0 ≡ 34 → ends_at t (i + 1) ≡ false → Wrong none (field_from t i)
  unfolding read_tag check_at
  piece-early q k =
      let e = ends-not t (i + 1) k in
      let whole : field_from t i ≡ 34 ∷ get_or t (i + 1) 0 ∷ field_from t (i + 1 + 1) = field-byte t i inside (rw q refl) ∙ rw (q, field-byte t (i + 1) e.0 e.1) refl in
      rw whole (simp (ne_eqb (suc (length (field_from t (i + 1 + 1)))) 0 (λ z. omega arith)))

  slash-on : get_or t i 0 ≡ 92 → field_from t i ≡ 92 ∷ field_from t (i + 1)
  slash-on q = field-byte t i inside (rw q refl) ∙ rw q refl

  pub piece-escape : get_or t i 0 ≡ 92 → {b : ℕ} → Gives slash t (i + 1) b (i + 1 + 2) → Gives none t i b (i + 3)
  unfolding read_tag
  piece-escape q g =
      let three : i + 1 + 2 ≡ i + 3 = omega arith in
      record {
        reads = rw (slash-on q) (rw three at g.reads);
        place = omega (arith, ap length (slash-on q), rw three at g.place);
        forward = omega arith;
        inside = omega (arith, g.inside);
      }

  pub piece-no-escape : get_or t i 0 ≡ 92 → Wrong slash (field_from t (i + 1)) → Wrong none (field_from t i)
  unfolding read_tag
  piece-no-escape q e = rw (slash-on q) e

  module _ (unquoted : get_or t i 0 ≡ 34 → ⊥) (bare : get_or t i 0 ≡ 92 → ⊥) where
    pub piece-plain : is_plain (get_or t i 0) ≡ true → Gives none t i (get_or t i 0) (i + 1)
    unfolding read_tag check_at
    piece-plain e =
        let whole = field-byte t i inside (ne_eqb _ _ (plain-no-comma (get_or t i 0) e)) in
        record {
          reads = rw whole (simp (ne_eqb _ _ unquoted, ne_eqb _ _ bare, e));
          place = omega (arith, ap length whole);
          forward = omega arith;
          inside = omega arith;
        }

    pub piece-other : is_plain (get_or t i 0) ≡ false → Wrong none (field_from t i)
    unfolding read_tag check_at
    piece-other e = rest-either t i inside (Wrong none) refl (simp (ne_eqb _ _ unquoted, ne_eqb _ _ bare, e))

-- ---- how far a tag is read

pub gives_less : {e : Escape} {t : List ℕ} {i b next : ℕ} → Gives e t i b next → length t - next < length t - i
gives_less g = omega (arith, g.forward, g.inside)

-- from `at` to `i` the text gives the bytes `front`
pub record Come (front t : List ℕ) (at i : ℕ) : Type 0 where
  pub reads : read_tag none (field_from t at) ≡ on_accepted (read_tag none (field_from t i)) (λ more. Ok (front ++ more))
  pub place : i + length (field_from t i) ≡ at + length (field_from t at)
  pub behind : length front ≤ i
  pub inside : i ≤ length t

all-front : (r : Answer (List ℕ)) → r ≡ on_accepted r (λ more. Ok ([] ++ more))
unfolding on_accepted
all-front (Ok b) = refl
all-front (Err x) = refl

come-first : (t : List ℕ) (at : ℕ) → at ≤ length t → Come [] t at at
come-first t at h = record { reads = all-front (read_tag none (field_from t at)); place = refl; behind = omega arith; inside = h }

one_more : (front : List ℕ) (b : ℕ) (r : Answer (List ℕ))
    → on_accepted (on_accepted r (λ more. Ok (b ∷ more))) (λ more. Ok (front ++ more)) ≡ on_accepted r (λ more. Ok ((front ++ (b ∷ [])) ++ more))
unfolding on_accepted
one_more front b (Ok more) = ap Ok (sym (append_assoc front (b ∷ []) more))
one_more front b (Err x) = refl

module _ {front t : List ℕ} {at i : ℕ} (come : Come front t at i) where
  come-on : {b next : ℕ} → Gives none t i b next → Come (front ++ (b ∷ [])) t at next
  come-on {b} {next} g = record {
    reads = come.reads ∙ ap (λ (r : Answer (List ℕ)). on_accepted r (λ more. Ok (front ++ more))) g.reads ∙ one_more front b (read_tag none (field_from t next));
    place = g.place ∙ come.place;
    behind = omega (arith, g.forward, come.behind, length-append front (b ∷ []));
    inside = g.inside;
  }

  come-end : read_tag none (field_from t i) ≡ Ok [] → read_tag none (field_from t at) ≡ Ok front
  unfolding on_accepted
  come-end e = come.reads ∙ rw e (ap Ok (append-nil front))

  come-wrong : Wrong none (field_from t i) → Wrong none (field_from t at)
  unfolding on_accepted
  come-wrong e = come.reads ∙ rw e refl

-- ---- the bytes counted

pub record CountedTo (t : List ℕ) (at size i : ℕ) : Type 0 where
  pub front : List ℕ
  pub come : Come front t at i
  pub count : length front ≡ size

pub counted-first : (t : List ℕ) (at : ℕ) → at ≤ length t → CountedTo t at 0 at
counted-first t at h = record { front = []; come = come-first t at h; count = refl }

module _ {t : List ℕ} {at size i : ℕ} (c : CountedTo t at size i) where
  pub counted-on : {b next : ℕ} → Gives none t i b next → CountedTo t at (size + 1) next
  counted-on {b} g = record { front = c.front ++ (b ∷ []); come = come-on c.come g; count = omega (arith, c.count, length-append c.front (b ∷ [])) }

  pub counted-inside : i ≤ length t
  counted-inside = c.come.inside

  pub counted-behind : size ≤ i
  counted-behind = omega (arith, c.come.behind, c.count)

  pub counted-done : (read_tag none (field_from t i) ≡ Ok []) × (length (field_from t i) ≡ 1) → Some (size, i + 1) ≡ tag_as (at + length (field_from t at)) (read_tag none (field_from t at))
  unfolding tag_as
  counted-done e =
      let end : at + length (field_from t at) ≡ i + 1 = omega (arith, c.come.place, e.1) in
      rw (come-end c.come e.0, end, c.count) refl

  pub counted-wrong : Wrong none (field_from t i) → None ≡ tag_as (at + length (field_from t at)) (read_tag none (field_from t at))
  unfolding tag_as
  counted-wrong e = rw (come-wrong c.come e) refl

-- ---- the bytes stored

pub record StoredTo (t out₀ out : List ℕ) (at to i : ℕ) : Type 0 where
  pub counted : CountedTo t at to i
  pub buffer : out ≡ sets out₀ 0 counted.front

pub stored-first : (t out : List ℕ) (at : ℕ) → at ≤ length t → StoredTo t out out at 0 at
unfolding counted-first
stored-first t out at h = record { counted = counted-first t at h; buffer = refl }

module _ {t out₀ out : List ℕ} {at to i : ℕ} (s : StoredTo t out₀ out at to i) where
  pub stored_on : {b next : ℕ} → Gives none t i b next → StoredTo t out₀ (set out to b) at (to + 1) next
  unfolding counted-on
  stored_on {b} g =
      let front = s.counted.front in
      let place : 0 + length front ≡ to = omega (arith, s.counted.count) in
      record {
        counted = counted-on s.counted g;
        buffer = sym (sets-append out₀ 0 front (b ∷ []) ∙ rw (place, s.buffer) refl);
      }

  pub stored-length : length out ≡ length out₀
  stored-length = ap length s.buffer ∙ length-sets out₀ 0 s.counted.front

  pub stored-done : read_tag none (field_from t i) ≡ Ok [] → TagStored t at out₀ out
  stored-done e = record {
    stored = λ b h fits. let both = sym (come-end s.counted.come e) ∙ h in let same : s.counted.front ≡ b = cc in s.buffer ∙ ap (sets out₀ 0) same ∙ sets-front b out₀ fits;
  }

  pub stored_wrong : Wrong none (field_from t i) → TagStored t at out₀ out
  stored_wrong e = record { stored = λ b h fits. absurd (let both = sym (come-wrong s.counted.come e) ∙ h in let z : ◌≡◌ {A = ℕ} 0 1 = cc in omega arith) }

-- ---- for whoever reads a tag and stores it then

tag_of : (end : ℕ) (r : Answer (List ℕ)) {size end' : ℕ} → tag_as end r ≡ Some (size, end') → (b : List ℕ) × (r ≡ Ok b) × (length b ≡ size) × (end ≡ end')
unfolding tag_as
tag_of end (Ok b) e = let k = some_pair_parts _ _ _ _ e in (b, refl, k.0, k.1)
tag_of end (Err x) e = absurd (let z : ◌≡◌ {A = ℕ} 0 1 = cc in omega arith)

pub tag-text : (t : List ℕ) (at end : ℕ) {size end' : ℕ} → tag_as end (read_tag none (before 44 (drop at t))) ≡ Some (size, end')
    → (x : TagText t at) × (length x.bytes ≡ size) × (end ≡ end')
tag-text t at end e =
    let r = tag_of end (read_tag none (before 44 (drop at t))) e in
    (record { bytes = r.0; reads = r.1 }, r.2, r.3)
