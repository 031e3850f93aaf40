-- From the walk to the answers: a line's fields, where it is wrong, and its elements one by one.
use Rattle.scan.specs.declared.LineElement.{LineElement}
use Rattle.std.specs.Prelude.{Some, None, Ok, Err}
use Prim.Native.Nat.{ℕ, zero, suc, ◌+◌, ◌-◌, ◌*◌, ◌^◌, ◌≤◌, ◌<◌}
use native.Mathlib.Nat.{not-suc-le-zero, le_of_suc-le-suc}
use native.Mathlib.Omega.{arith}
use mathlib.Core.Path.{◌≡◌, refl, sym, ap, ◌∙◌, subst}
use mathlib.Core.Bool.{Bool, true, false, not}
use mathlib.Core.List.{List, [], ◌∷◌, ◌++◌}
use lib.ListN.{length, drop, get_or, length-drop, length-append, length-take, drop_of_length-le}
use lib.Seq.{drop-drop, drop-append-add}
use lib.Dec.{eqb, leb}
use borrow.Author.Tests.{le-leb, lt-leb, ne_eqb}
use Rattle.wire.specs.Sequences.{joined}
use Rattle.wire.specs.declared.Refusal.{Refusal}
use Rattle.wire.specs.Answers.{Answer, refusal, on_accepted, told, unplaced, check, check_at}
use Rattle.wire.specs.Reading.{Read, got, bad, and_then}
use Rattle.wire.specs.Buffers.{leaving}
use Rattle.wire.proofs.Accepting.{by_length, pick-either, on_accepted-passed, on_accepted-refused}
use Rattle.text.specs.Decimal.{decimal}
use Rattle.text.specs.Hex.{among}
use Rattle.element.specs.Elements.{nth}
use Rattle.line.specs.Pieces.{before, behind, pieces, separated}
use Rattle.line.specs.Lines.{Printed, number, tag, Line, is_plain, escaped, quoted, printed_text, line_fields, line_bytes}
use Rattle.line.specs.LineReader.{all_digits, said, no_spare_zero, read_decimal, read_degrees, read_hex, Escape, none, slash, high, read_tag, read_value, read_printed, is_tag, on_field, next_field, read_elements, read_fields, body, judge_line, read_line, place_in, wrong_at}
use Rattle.line.specs.LineElements.{start_from, field_start, field_at, Standing, element_of, element_at}
use Rattle.line.proofs.Cases.{by-test}
use Rattle.line.proofs.PieceLaws.{before-short, before-free}
use Rattle.line.proofs.DecimalLaws.{IsDigit, decimal-free}
use Rattle.line.proofs.TagLaws.{tag-undo}
use Rattle.line.proofs.PrintedLaws.{printed-exact}
use Rattle.line.proofs.CountLaws.{length-texts}
use Rattle.line.proofs.LineLaws.{line-inverse, read-pieces}
use Rattle.line.proofs.WalkLaws.{element-stands, element-cursor}
use Rattle.scan.specs.declared.Item.{Item}
use Rattle.scan.specs.declared.LineFields.{LineFields}
use Rattle.scan.specs.Fields.{field_from, field_end, tag_start, item_as}
use Rattle.scan.specs.Walking.{pieces_from, judged_as, line_result, standing}
use Rattle.scan.specs.Answers.{tag_bytes, element_result, answer_element, leaving_element}
use Rattle.scan.proofs.FieldLaws.{field-behind, field-comma, field-byte}
use Rattle.scan.proofs.WalkLaws.{pieces_none, pieces-some, start-on}

-- ---- whatever is wrong is 20

abbrev Twenty : {A : Type 0} → Read A → Type 0
Twenty (got a n) = Unit {0}
Twenty (bad x) = refusal x.number ≡ refusal 20

twenty-field : {A B : Type 0} (at : ℕ) (r : Answer A) (f : A → Read B) → ((a : A) → Twenty (f a)) → Twenty (on_field at r f)
unfolding on_field
twenty-field at (Ok a) f h = h a
twenty-field at (Err x) f h = refl

twenty-next : {A B : Type 0} (parse : List ℕ → Answer A) (at : ℕ) (ps : List (List ℕ)) (f : A → ℕ → List (List ℕ) → Read B) → ((a : A) (n : ℕ) (qs : List (List ℕ)) → Twenty (f a n qs))
    → Twenty (next_field parse at ps f)
unfolding next_field
twenty-next parse at [] f h = refl
twenty-next parse at (p ∷ ps) f h = twenty-field at (parse p) _ (λ a. h a (at + suc (length p)) ps)

twenty-then : {A B : Type 0} (r : Read A) (f : A → ℕ → B) → Twenty r → Twenty (and_then r (λ a n. got (f a n) n))
unfolding and_then
twenty-then (got a n) f h = tt
twenty-then (bad x) f h = h

twenty-elements : (tags : Bool) (at : ℕ) (ps : List (List ℕ)) → Twenty (read_elements tags at ps)
unfolding read_elements
twenty-elements tags at [] = tt
twenty-elements tags at (p ∷ ps) =
    twenty-field at (read_printed tags p) _ (λ e. twenty-then (read_elements (is_tag e) (at + suc (length p)) ps) (λ es n. e ∷ es) (twenty-elements (is_tag e) (at + suc (length p)) ps))

twenty-line : (s : List ℕ) → Twenty (judge_line s)
unfolding judge_line read_fields
twenty-line s =
    pick-either Twenty (eqb (get_or s (length s - 1) 0) 10) (read_fields (pieces (body s))) _
    (twenty-next (read_decimal (2 ^ 64 - 1)) 0 (pieces (body s)) _ (λ a at ps.
    twenty-next read_degrees at ps _ (λ b at ps.
    twenty-next read_degrees at ps _ (λ c at ps.
    twenty-next (read_decimal (2 ^ 16 - 1)) at ps _ (λ d at ps. twenty-then (read_elements false at ps) _ (twenty-elements false at ps))))))
    refl

-- ---- the line

module _ (s : List ℕ) (start : ℕ) where
  pub line_taken : {f : LineFields} → Ok f ≡ judged_as start (judge_line s) → (l : Line) × (read_line s ≡ Ok l) × (f ≡ line_result start l) × (f.elements ≡ length l.elements)
  unfolding read_line told unplaced judged_as line_result
  line_taken {f} e = go (judge_line s) e
    where
      go : (r : Read Line) → Ok f ≡ judged_as start r → (l : Line) × (unplaced (told 0 r) ≡ Ok l) × (f ≡ line_result start l) × (f.elements ≡ length l.elements)
      go (got l n) e = let same : f ≡ line_result start l = cc in (l, refl, same, ap (λ (x : LineFields). x.elements) same)
      go (bad x) e = absurd (let z : ◌≡◌ {A = ℕ} 0 1 = cc in omega arith)

  pub line-wrong : {place : ℕ} → Err place ≡ judged_as start (judge_line s) → (read_line s ≡ Err (refusal 20)) × (place ≡ wrong_at s)
  unfolding read_line told unplaced judged_as wrong_at place_in
  line-wrong {place} e = go (judge_line s) (twenty-line s) e
    where
      go : (r : Read Line) → Twenty r → Err place ≡ judged_as start r → (unplaced (told 0 r) ≡ Err (refusal 20)) × (place ≡ place_in (length s) r)
      go (got l n) h e = absurd (let z : ◌≡◌ {A = ℕ} 0 1 = cc in omega arith)
      go (bad x) h e = (ap Err h, cc)

  pub line-right : {f : LineFields} → Ok f ≡ judged_as start (judge_line s) → length s ≡ wrong_at s
  unfolding judged_as wrong_at place_in
  line-right {f} e = go (judge_line s) e
    where
      go : (r : Read Line) → Ok f ≡ judged_as start r → length s ≡ place_in (length s) r
      go (got l n) e = refl
      go (bad x) e = absurd (let z : ◌≡◌ {A = ℕ} 0 1 = cc in omega arith)

-- ---- where fields end and start

module _ (t : List ℕ) (at : ℕ) where
  abbrev pub EndLeft : ℕ → Type 0
  EndLeft i = (i ≤ length t) × (field_end t i ≡ field_end t at)

  pub end-comma : {i : ℕ} → EndLeft i → i < length t → get_or t i 0 ≡ 44 → i ≡ field_end t at
  end-comma {i} l h e = omega (arith, l.1, ap length (field-comma t i h e))

  pub end-turn : {i : ℕ} → EndLeft i → i < length t → (get_or t i 0 ≡ 44 → ⊥) → EndLeft (i + 1)
  end-turn {i} l h e =
      let more = field-byte t i h (ne_eqb (get_or t i 0) 44 e) in
      (omega arith, omega (arith, ap length more, l.1))

  pub end-done : {i : ℕ} → EndLeft i → length t ≤ i → length t ≡ field_end t at
  end-done {i} l h = omega (arith, l.0, h, l.1, ap length (field-behind t i h))

start_none : (n at : ℕ) → start_from n at [] ≡ at
unfolding start_from
start_none zero at = refl
start_none (suc n) at = refl

module _ (t : List ℕ) (at n : ℕ) where
  -- `i` fields are passed
  abbrev pub StartLeft : ℕ → ℕ → Type 0
  StartLeft next i = (next ≤ length t + 1) × (start_from (n - i) next (pieces_from t next) ≡ start_from n at (pieces_from t at))

  pub start-first : at ≤ length t + 1 → StartLeft at 0
  start-first h = let all : n - 0 ≡ n = omega arith in (h, ap (λ (k : ℕ). start_from k at (pieces_from t at)) all)

  pub start-end : (i : ℕ) {next : ℕ} → StartLeft next i → length t < next → next ≡ start_from n at (pieces_from t at)
  start-end i {next} l h = sym (ap (start_from (n - i) next) (pieces_none t next h) ∙ start_none (n - i) next) ∙ l.1

  pub start-turn : {next i end : ℕ} → StartLeft next i → next ≤ length t → i < n → end ≡ field_end t next → end ≤ length t → StartLeft (end + 1) (i + 1)
  start-turn {next} {i} {end} l h some is inside =
      let one : suc (n - (i + 1)) ≡ n - i = omega arith in
      (omega (arith, inside), start-on (n - (i + 1)) t next h is ∙ ap (λ (k : ℕ). start_from k next (pieces_from t next)) one ∙ l.1)

  pub start-done : {next i : ℕ} → StartLeft next i → n ≤ i → next ≡ start_from n at (pieces_from t at)
  unfolding start_from
  start-done {next} {i} l h = let none : n - i ≡ 0 = omega arith in ap (λ (k : ℕ). start_from k next (pieces_from t next)) (sym none) ∙ l.1

-- ---- an element

-- the text of an element's tag
before-drop : (c n : ℕ) (s : List ℕ) → n ≤ length (before c s) → before c (drop n s) ≡ drop n (before c s)
unfolding before
before-drop c zero s h = refl
before-drop c (suc n) [] h = absurd (not-suc-le-zero h)
before-drop c (suc n) (b ∷ s) h =
    by-test (eqb b c) (λ e. absurd (not-suc-le-zero (simp e at h))) (λ e. simp e (before-drop c n s (le_of_suc-le-suc (simp e at h))))

sign-free : (id : ℕ) (s : List ℕ) → before 61 (decimal id ++ (61 ∷ s)) ≡ decimal id
sign-free id s = before-free 61 (decimal id) s (decimal-free 61 id (λ (h : IsDigit 61). omega (arith, h)))

module _ (t : List ℕ) (at id : ℕ) (b : List ℕ) (e : read_printed false (field_from t at) ≡ Ok (tag id b)) where
  text-is : field_from t at ≡ decimal id ++ (61 ∷ quoted b)
  unfolding printed_text
  text-is = (printed-exact false (field_from t at) (tag id b) e).1

  lead : tag_start t at ≡ at + (length (decimal id) + 2)
  lead = omega (arith, ap (λ (s : List ℕ). length (before 61 s)) text-is, ap length (sign-free id (quoted b)))

  behind-quote : drop (length (decimal id) + 2) (decimal id ++ (61 ∷ quoted b)) ≡ joined escaped b ++ (34 ∷ [])
  unfolding quoted
  behind-quote = drop-append-add (decimal id) (61 ∷ quoted b) 2

  inside : length (decimal id) + 2 ≤ length (field_from t at)
  unfolding quoted
  inside = omega (arith, ap length text-is, length-append (decimal id) (61 ∷ quoted b))

  pub tag-stands : read_tag none (field_from t (tag_start t at)) ≡ Ok b
  tag-stands =
      ap (read_tag none)
      (ap (λ (n : ℕ). before 44 (drop n t)) lead
      ∙ ap (before 44) (sym (drop-drop (length (decimal id) + 2) at t))
      ∙ before-drop 44 (length (decimal id) + 2) (drop at t) inside
      ∙ ap (drop (length (decimal id) + 2)) text-is
      ∙ behind-quote)
      ∙ tag-undo b (printed-exact false (field_from t at) (tag id b) e).0.1

  pub tag-inside : at ≤ length t → tag_start t at ≤ length t
  tag-inside h = omega (arith, lead, inside, before-short 44 (drop at t), length-drop at t)

-- what an element tells
module _ (start end : ℕ) where
  pub number-item : (r : Answer Printed) {id n last : ℕ} → Some (Item.Number id n last) ≡ item_as start end r → (r ≡ Ok (number id n)) × (last ≡ end)
  unfolding item_as
  number-item (Ok (number i m)) {id} {n} e =
      let a : i ≡ id = cc in
      let b : m ≡ n = cc in
      ((λ j. Ok (number (a j) (b j))), cc)
  number-item (Ok (tag i b)) e = absurd (let z : ◌≡◌ {A = ℕ} 0 1 = cc in omega arith)
  number-item (Err x) e = absurd (let z : ◌≡◌ {A = ℕ} 0 1 = cc in omega arith)

  pub tag-item : (r : Answer Printed) {id from size last : ℕ} → Some (Item.Tag id from size last) ≡ item_as start end r
      → (b : List ℕ) × (r ≡ Ok (tag id b)) × (from ≡ start) × (size ≡ length b) × (last ≡ end)
  unfolding item_as
  tag-item (Ok (number i m)) e = absurd (let z : ◌≡◌ {A = ℕ} 0 1 = cc in omega arith)
  tag-item (Ok (tag i b)) {id} e = let a : i ≡ id = cc in (b, (λ j. Ok (tag (a j) b)), cc, cc, cc)
  tag-item (Err x) e = absurd (let z : ◌≡◌ {A = ℕ} 0 1 = cc in omega arith)

  pub no_item : (r : Answer Printed) → None ≡ item_as start end r → (x : Refusal) × (r ≡ Err x)
  unfolding item_as
  no_item (Ok (number i m)) e = absurd (let z : ◌≡◌ {A = ℕ} 0 1 = cc in omega arith)
  no_item (Ok (tag i b)) e = absurd (let z : ◌≡◌ {A = ℕ} 0 1 = cc in omega arith)
  no_item (Err x) e = (x, refl)

-- ---- an element that is none is refused with 20

abbrev Sole : {A : Type 0} → Answer A → Type 0
Sole (Ok a) = Unit {0}
Sole (Err x) = x ≡ refusal 20

sole-check : {A : Type 0} (test : Bool) (r : Answer A) → Sole r → Sole (check test 20 r)
unfolding check_at
sole-check test r h = pick-either Sole test r (Err (refusal 20)) h refl

sole-on : {A B : Type 0} (r : Answer A) (f : A → Answer B) → Sole r → ((a : A) → Sole (f a)) → Sole (on_accepted r f)
unfolding on_accepted
sole-on (Ok a) f h k = k a
sole-on (Err x) f h k = h

sole-decimal : (most : ℕ) (s : List ℕ) → Sole (read_decimal most s)
unfolding read_decimal
sole-decimal most s = sole-check (no_spare_zero s) _ (sole-check (all_digits s) _ (sole-check (leb (said s) most) _ tt))

sole-hex : (c : ℕ) → Sole (read_hex c)
unfolding read_hex
sole-hex c = pick-either Sole (among 48 57 c) (Ok (c - 48)) _ tt (sole-check (among 65 70 c) _ tt)

sole-tag : (e : Escape) (s : List ℕ) → Sole (read_tag e s)
unfolding read_tag
sole-tag e [] = refl
sole-tag none (c ∷ s) =
    pick-either Sole (eqb c 34) _ _ (sole-check (eqb (length s) 0) _ tt)
    (pick-either Sole (eqb c 92) (read_tag slash s) _ (sole-tag slash s) (sole-check (is_plain c) _ (sole-on (read_tag none s) _ (sole-tag none s) (λ b. tt))))
sole-tag slash (c ∷ s) = sole-on (read_hex c) _ (sole-hex c) (λ h. sole-tag (high h) s)
sole-tag (high h) (c ∷ s) =
    sole-on (read_hex c) _ (sole-hex c) (λ l. sole-check (not (is_plain (h * 16 + l))) _ (sole-on (read_tag none s) _ (sole-tag none s) (λ b. tt)))

sole-value : (tags : Bool) (id : ℕ) (s : List ℕ) → Sole (read_value tags id s)
unfolding read_value
sole-value tags id [] = refl
sole-value tags id (c ∷ s) =
    pick-either Sole (eqb c 34) _ _ (sole-on (read_tag none s) _ (sole-tag none s) (λ b. tt))
    (sole-check (not tags) _ (sole-on (read_decimal (2 ^ 64 - 1) (c ∷ s)) _ (sole-decimal (2 ^ 64 - 1) (c ∷ s)) (λ n. tt)))

sole-printed : (tags : Bool) (s : List ℕ) → Sole (read_printed tags s)
unfolding read_printed
sole-printed tags s = sole-on (read_decimal (2 ^ 16 - 1) (before 61 s)) _ (sole-decimal (2 ^ 16 - 1) (before 61 s)) (λ id. sole-value tags id (behind 61 s))

pub printed-refused : (tags : Bool) (s : List ℕ) {x : Refusal} → read_printed tags s ≡ Err x → read_printed tags s ≡ Err (refusal 20)
printed-refused tags s {x} e = e ∙ ap Err (subst Sole e (sole-printed tags s))

-- ---- what is answered of it, and what is left in the buffer

module _ (found : Answer Standing) (out : List ℕ) where
  abbrev pub Answers : List ℕ → Answer LineElement → Type 0
  Answers after r = (r ≡ answer_element found out) × (after ≡ leaving_element found out)

  pub answers-refused : {x : Refusal} → found ≡ Err x → Answers out (Err x)
  unfolding answer_element leaving_element leaving
  answers-refused {x} e =
      (sym (on_accepted-refused found _ e), sym (ap (λ r. leaving r out) (on_accepted-refused found (λ x. Ok (tag_bytes x.content)) e)))

  pub answers_number : {id n next : ℕ} → found ≡ Ok (record { content = number id n; next = next })
      → Answers out (Ok (record { id = id; tag = false; value = n; size = 0; next = next }))
  unfolding answer_element leaving_element leaving tag_bytes element_result on_accepted check_at
  answers_number {id} {n} {next} e = (
    sym (ap (λ (r : Answer Standing). answer_element r out) e ∙ simp (le-leb 0 (length out) (omega arith))),
    sym (ap (λ (r : Answer Standing). leaving_element r out) e ∙ simp (le-leb 0 (length out) (omega arith))),
  )

  module _ {id next : ℕ} (b : List ℕ) (e : found ≡ Ok (record { content = tag id b; next = next })) where
    pub answers-short : length out < length b → Answers out (Err (refusal 18))
    unfolding answer_element leaving_element leaving tag_bytes element_result on_accepted check_at
    answers-short h = (
      sym (ap (λ (r : Answer Standing). answer_element r out) e ∙ simp (lt-leb (length b) (length out) h)),
      sym (ap (λ (r : Answer Standing). leaving_element r out) e ∙ simp (lt-leb (length b) (length out) h)),
    )

    pub answers-tag : {after : List ℕ} {size : ℕ} → size ≡ length b → length b ≤ length out → after ≡ b ++ drop (length b) out
        → Answers after (Ok (record { id = id; tag = true; value = 0; size = size; next = next }))
    unfolding answer_element leaving_element leaving tag_bytes element_result on_accepted check_at
    answers-tag {after} {size} is h k = (
      ap (λ (n : ℕ). Ok (record { id = id; tag = true; value = 0; size = n; next = next })) is
          ∙ sym (ap (λ (r : Answer Standing). answer_element r out) e ∙ simp (le-leb (length b) (length out) h)),
      k ∙ sym (ap (λ (r : Answer Standing). leaving_element r out) e ∙ simp (le-leb (length b) (length out) h)),
    )

-- the same of what is found elsewhere
pub answers-as : {found other : Answer Standing} (out : List ℕ) {after : List ℕ} (r : Answer LineElement) → found ≡ other → Answers found out after r → Answers other out after r
answers-as out {after} r e h = subst (λ (f : Answer Standing). Answers f out after r) e h

-- ---- by its place

module _ (t : List ℕ) (at : ℕ) where
  pub standing-is : {e : Printed} {end : ℕ} → read_printed false (field_from t at) ≡ Ok e → end ≡ field_end t at → standing t at ≡ Ok (record { content = e; next = end + 1 })
  standing-is {e} k is =
      on_accepted-passed (read_printed false (field_from t at)) _ k ∙ ap (λ (n : ℕ). Ok (record { content = e; next = n + 1 })) (sym is)

  pub standing-none : None ≡ item_as (tag_start t at) (field_end t at) (read_printed false (field_from t at)) → standing t at ≡ Err (refusal 20)
  standing-none e =
      on_accepted-refused (read_printed false (field_from t at)) _ (printed-refused false (field_from t at) (no_item (tag_start t at) (field_end t at) (read_printed false (field_from t at)) e).1)

  module _ {id from size last : ℕ} (e : Some (Item.Tag id from size last) ≡ item_as (tag_start t at) (field_end t at) (read_printed false (field_from t at))) where
    pub record Tagged : Type 0 where
      pub bytes : List ℕ
      pub standing : standing t at ≡ Ok (record { content = tag id bytes; next = last + 1 })
      pub reads : read_tag none (field_from t from) ≡ Ok bytes
      pub sized : size ≡ length bytes
      pub placed : at ≤ length t → from ≤ length t
      pub ends : last ≡ field_end t at

    pub tagged : Tagged
    tagged =
        let k = tag-item (tag_start t at) (field_end t at) (read_printed false (field_from t at)) e in
        record {
          bytes = k.0;
          standing = standing-is k.1 k.4;
          reads = ap (λ (n : ℕ). read_tag none (field_from t n)) k.2 ∙ tag-stands t at id k.0 k.1;
          sized = k.3;
          placed = λ h. subst (λ (n : ℕ). n ≤ length t) (sym k.2) (tag-inside t at id k.0 k.1 h);
          ends = k.4;
        }

-- ---- in a line, by its place and by its number

-- a line has its LF at least
line-some : (l : Line) → 1 ≤ length (line_bytes l)
unfolding line_bytes
line-some l = omega (arith, length-append (separated (line_fields l)) (10 ∷ []))

fields-count : (l : Line) → length (line_fields l) ≡ 4 + length l.elements
unfolding line_fields
fields-count l = omega (arith, length-texts l.elements)

start-least : (n at : ℕ) (ps : List (List ℕ)) → n ≤ length ps → at + n ≤ start_from n at ps
unfolding start_from
start-least zero at ps h = omega arith
start-least (suc n) at [] h = absurd (not-suc-le-zero h)
start-least (suc n) at (p ∷ ps) h = omega (arith, start-least n (at + suc (length p)) ps (le_of_suc-le-suc h))

pub start_is : (s : List ℕ) (n : ℕ) {t : List ℕ} {at : ℕ} → t ≡ body s → at ≡ start_from n 0 (pieces_from t 0) → at ≡ field_start s n
start_is s n is e = e ∙ ap (λ (x : List ℕ). start_from n 0 (pieces_from x 0)) is ∙ ap (start_from n 0) (pieces-some (body s) 0 (omega arith))

nth-none : {A : Type 0} (k : ℕ) (l : List A) → length l ≤ k → nth k l ≡ Err (refusal 16)
unfolding nth
nth-none k [] h = refl
nth-none zero (a ∷ l) h = absurd (not-suc-le-zero h)
nth-none (suc k) (a ∷ l) h = nth-none k l (le_of_suc-le-suc h)

nth-some : {A : Type 0} (k : ℕ) (l : List A) → k < length l → (a : A) × (nth k l ≡ Ok a)
unfolding nth
nth-some k [] h = absurd (not-suc-le-zero h)
nth-some zero (a ∷ l) h = (a, refl)
nth-some (suc k) (a ∷ l) h = nth-some k l (le_of_suc-le-suc h)

module _ (s : List ℕ) where
  pub standing-at : (at : ℕ) {t : List ℕ} → t ≡ body s → standing t at ≡ element_at s at
  unfolding element_at
  standing-at at {t} is =
      let place : field_end (body s) at + 1 ≡ at + suc (length (field_at s at)) = omega arith in
      ap (λ (x : List ℕ). standing x at) is
      ∙ ap (λ (n : ℕ). on_accepted (read_printed false (field_at s at)) (λ e. Ok (record { content = e; next = n }))) place

  pub at-behind : (at : ℕ) → length s ≤ at → element_at s at ≡ Err (refusal 20)
  unfolding element_at before read_printed read_decimal no_spare_zero check_at on_accepted
  at-behind at h =
      let none : drop at (body s) ≡ [] = drop_of_length-le (body s) {i = at} (omega (arith, length-take (length s - 1) s)) in
      ap (λ (x : List ℕ). on_accepted (read_printed false (before 44 x)) (λ e. Ok (record { content = e; next = at + suc (length (before 44 x)) }))) none

  pub no_line : (k : ℕ) → read_line s ≡ Err (refusal 20) → element_of s k ≡ Err (refusal 20)
  unfolding element_of
  no_line k e = on_accepted-refused (read_line s) _ e

  module _ (l : Line) (e : read_line s ≡ Ok l) (k : ℕ) where
    pub no-element : length l.elements ≤ k → element_of s k ≡ Err (refusal 16)
    unfolding element_of
    no-element h = on_accepted-passed (read_line s) _ e ∙ on_accepted-refused (nth k l.elements) _ (nth-none k l.elements h)

    module _ (h : k < length l.elements) where
      there : (x : Printed) × (nth k l.elements ≡ Ok x)
      there = nth-some k l.elements h

      -- its number fits a word, as its place does
      pub number_small : 4 + k ≤ field_start s (4 + k)
      number_small =
          let many : 4 + k ≤ length (pieces (body s)) = omega (arith, ap length (read-pieces s l e), fields-count l, h) in
          omega (arith, start-least (4 + k) 0 (pieces (body s)) many)

      pub number-place : element_at s (field_start s (4 + k)) ≡ element_of s k
      number-place = sym (element-cursor s l e k there.0 there.1)

      pub number-inside : (field_start s (4 + k) ≤ length (body s)) × (1 ≤ length s)
      unfolding read_printed read_decimal no_spare_zero check_at on_accepted before
      number-inside =
          let some : 1 ≤ length s = omega (arith, ap length (line-inverse.exact s l e).1, line-some l) in
          let reads = (element-stands s l e k there.0 there.1).0 in
          by_length (field_start s (4 + k)) (length (body s))
          (λ i. (i, some))
          (λ i.
          let none : field_at s (field_start s (4 + k)) ≡ [] = ap (before 44) (drop_of_length-le (body s) {i = field_start s (4 + k)} (omega arith)) in
          let z : read_printed false [] ≡ Ok there.0 = ap (read_printed false) (sym none) ∙ reads in
          absurd (let y : ◌≡◌ {A = ℕ} 0 1 = cc (z) in omega arith))
