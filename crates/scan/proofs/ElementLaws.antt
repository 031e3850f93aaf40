-- An element from its field: the ID, the sign, the value.
use Rattle.std.specs.Prelude.{Err, Ok, Option, Some, None}
use Rattle.std.proofs.lemmas.Option.{some_pair_parts}
use Prim.Native.Nat.{ℕ, ◌+◌, ◌-◌, ◌^◌, ◌≤◌, ◌<◌}
use native.Mathlib.Omega.{arith}
use mathlib.Core.Path.{◌≡◌, refl, sym, ap, ◌∙◌, subst}
use mathlib.Core.Bool.{Bool, true, false}
use mathlib.Core.List.{List, [], ◌∷◌}
use lib.ListN.{length, drop, get_or}
use lib.Dec.{eqb}
use Rattle.wire.specs.Answers.{Answer, refusal, on_accepted, check_at}
use Rattle.wire.proofs.Accepting.{pick-false}
use Rattle.line.specs.Lines.{number, tag}
use Rattle.line.specs.LineReader.{no_spare_zero, read_decimal, read_tag, none, read_value, read_printed}
use Rattle.scan.specs.declared.Item.{Item}
use Rattle.scan.specs.Fields.{field_from, field_end, stands_at, run, number_as, tag_start, item_as}
use Rattle.scan.specs.Tags.{tag_as}
use Rattle.scan.proofs.FieldLaws.{stands-yes, stands-no, FirstNot, first-not, field-first, number-told, run_decimal, split-open, split-first, split-end, split-on, split-wrong}

-- ---- the value

-- what a tag's text tells of its element
tag-item : (start end id : ℕ) (r : Answer (List ℕ)) {size last : ℕ} → Some (size, last) ≡ tag_as end r
    → Some (Item.Tag id start size last) ≡ item_as start end (on_accepted r (λ b. Ok (tag id b)))
unfolding tag_as on_accepted item_as
tag-item start end id (Ok b) {size} {last} e =
    let k = some_pair_parts _ _ _ _ e in
    λ i. Some (Item.Tag id start (k.0 i) (k.1 i))
tag-item start end id (Err x) e = absurd (let z : ◌≡◌ {A = ℕ} 0 1 = cc in omega arith)

tag-none : (start end id : ℕ) (r : Answer (List ℕ)) → None ≡ tag_as end r → None ≡ item_as start end (on_accepted r (λ b. Ok (tag id b)))
unfolding tag_as on_accepted item_as
tag-none start end id (Ok b) e = absurd (let z : ◌≡◌ {A = ℕ} 0 1 = cc in omega arith)
tag-none start end id (Err x) e = refl

number-item : (start end id : ℕ) (r : Answer ℕ) {n last : ℕ} → Some (n, last) ≡ number_as end r
    → Some (Item.Number id n last) ≡ item_as start end (on_accepted r (λ n. Ok (number id n)))
unfolding number_as on_accepted item_as
number-item start end id (Ok m) {n} {last} e =
    let k = some_pair_parts _ _ _ _ e in
    λ i. Some (Item.Number id (k.0 i) (k.1 i))
number-item start end id (Err x) e = absurd (let z : ◌≡◌ {A = ℕ} 0 1 = cc in omega arith)

number-none : (start end id : ℕ) (r : Answer ℕ) → None ≡ number_as end r → None ≡ item_as start end (on_accepted r (λ n. Ok (number id n)))
unfolding number_as on_accepted item_as
number-none start end id (Ok m) e = absurd (let z : ◌≡◌ {A = ℕ} 0 1 = cc in omega arith)
number-none start end id (Err x) e = refl

-- a value that does not begin with a quote is a number, and behind a tag there is none
value-number : (id : ℕ) (s : List ℕ) → FirstNot 34 s → on_accepted (read_decimal (2 ^ 64 - 1) s) (λ n. Ok (number id n)) ≡ read_value false id s
unfolding read_value on_accepted read_decimal no_spare_zero check_at
value-number id [] h = refl
value-number id (c ∷ s) h = sym (pick-false (eqb c 34) _ _ h)

value-late : (id : ℕ) (s : List ℕ) → FirstNot 34 s → read_value true id s ≡ Err (refusal 20)
unfolding read_value check_at
value-late id [] h = refl
value-late id (c ∷ s) h = pick-false (eqb c 34) _ _ h

module _ (t : List ℕ) (at id : ℕ) (tags : Bool) where
  abbrev field_value : Option Item
  field_value = item_as (at + 1) (field_end t at) (read_value tags id (field_from t at))

  module _ (q : stands_at t at 34 ≡ true) where
    quoted-value : item_as (at + 1) (field_end t (at + 1)) (on_accepted (read_tag none (field_from t (at + 1))) (λ b. Ok (tag id b))) ≡ field_value
    unfolding read_value
    quoted-value =
        let f = field-first t at 34 refl q in
        ap (λ (n : ℕ). item_as (at + 1) n (on_accepted (read_tag none (field_from t (at + 1))) (λ b. Ok (tag id b)))) f.1
        ∙ ap (λ (s : List ℕ). item_as (at + 1) (field_end t at) (read_value tags id s)) (sym f.0)

    pub value-tag : {size end : ℕ} → Some (size, end) ≡ tag_as (field_end t (at + 1)) (read_tag none (field_from t (at + 1))) → Some (Item.Tag id (at + 1) size end) ≡ field_value
    value-tag e = tag-item (at + 1) (field_end t (at + 1)) id (read_tag none (field_from t (at + 1))) e ∙ quoted-value

    pub value-no-tag : None ≡ tag_as (field_end t (at + 1)) (read_tag none (field_from t (at + 1))) → None ≡ field_value
    value-no-tag e = tag-none (at + 1) (field_end t (at + 1)) id (read_tag none (field_from t (at + 1))) e ∙ quoted-value

  module _ (inside : at ≤ length t) (q : stands_at t at 34 ≡ false) where
    pub value-behind : tags ≡ true → None ≡ field_value
    unfolding item_as
    value-behind e =
        ap (item_as (at + 1) (field_end t at)) (sym (ap (λ (b : Bool). read_value b id (field_from t at)) e ∙ value-late id (field_from t at) (first-not t at inside 34 q)))

    plain_value : tags ≡ false → item_as (at + 1) (field_end t at) (on_accepted (read_decimal (2 ^ 64 - 1) (field_from t at)) (λ n. Ok (number id n))) ≡ field_value
    plain_value e =
        ap (item_as (at + 1) (field_end t at)) (value-number id (field_from t at) (first-not t at inside 34 q) ∙ ap (λ (b : Bool). read_value b id (field_from t at)) (sym e))

    pub value-plain : {n end : ℕ} → tags ≡ false → Some (n, end) ≡ number_as (field_end t at) (read_decimal (2 ^ 64 - 1) (field_from t at)) → Some (Item.Number id n end) ≡ field_value
    value-plain e k = number-item (at + 1) (field_end t at) id (read_decimal (2 ^ 64 - 1) (field_from t at)) k ∙ plain_value e

    pub value_none : tags ≡ false → None ≡ number_as (field_end t at) (read_decimal (2 ^ 64 - 1) (field_from t at)) → None ≡ field_value
    value_none e k = number-none (at + 1) (field_end t at) id (read_decimal (2 ^ 64 - 1) (field_from t at)) k ∙ plain_value e

-- ---- the element

module _ (t : List ℕ) (at : ℕ) (tags : Bool) (inside : at ≤ length t) where
  abbrev field_element : Option Item
  field_element = item_as (tag_start t at) (field_end t at) (read_printed tags (field_from t at))

  nothing : (n : ℕ) → read_value tags n [] ≡ Err (refusal 20)
  unfolding read_value
  nothing n = refl

  not-element : read_printed tags (field_from t at) ≡ Err (refusal 20) → None ≡ field_element
  unfolding item_as
  not-element e = ap (item_as (tag_start t at) (field_end t at)) (sym e)

  pub element-wrong : None ≡ run_decimal t at (2 ^ 16 - 1) → None ≡ field_element
  unfolding read_printed
  element-wrong e = not-element (split-wrong t at inside 61 refl refl (2 ^ 16 - 1) (read_value tags) nothing e)

  module _ {id sign : ℕ} (e : Some (id, sign) ≡ run_decimal t at (2 ^ 16 - 1)) where
    is : sign ≡ at + length (run (drop at t))
    is = (number-told _ _ e).1

    pub element-open : stands_at t sign 61 ≡ false → None ≡ field_element
    unfolding read_printed
    element-open h =
        not-element (split-open t at inside 61 refl refl (2 ^ 16 - 1) (read_value tags) nothing (subst (λ (n : ℕ). n < length t → get_or t n 0 ≡ 61 → ⊥) is (stands-no t sign 61 h)))

    pub element-on : stands_at t sign 61 ≡ true → item_as (sign + 1 + 1) (field_end t (sign + 1)) (read_value tags id (field_from t (sign + 1))) ≡ field_element
    unfolding read_printed
    element-on h =
        let y = stands-yes t sign 61 h in
        let i = subst (λ (n : ℕ). n < length t) is y.0 in
        let j = subst (λ (n : ℕ). get_or t n 0 ≡ 61) is y.1 in
        let end : ℕ = at + length (run (drop at t)) in
        let start : sign + 1 + 1 ≡ tag_start t at = omega (arith, is, ap length (split-first t at inside 61 refl refl (2 ^ 16 - 1) (read_value tags) nothing i j)) in
        ap (λ (n : ℕ). item_as n (field_end t (sign + 1)) (read_value tags id (field_from t (sign + 1)))) start
        ∙ ap (λ (n : ℕ). item_as (tag_start t at) (field_end t (n + 1)) (read_value tags id (field_from t (n + 1)))) is
        ∙ ap (λ (n : ℕ). item_as (tag_start t at) n (read_value tags id (field_from t (end + 1)))) (sym (split-end t at inside 61 refl refl (2 ^ 16 - 1) (read_value tags) nothing i j))
        ∙ ap (item_as (tag_start t at) (field_end t at)) (sym (split-on t at inside 61 refl refl (2 ^ 16 - 1) (read_value tags) nothing i j e))
