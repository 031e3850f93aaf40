-- The walk along a line's fields.
use Rattle.std.proofs.lemmas.Option.{some_pair_parts}
use Rattle.std.specs.List.{IsLastAndRest}
use Rattle.std.specs.Result.{result_ok, IsErrAnd}
use Rattle.std.proofs.lemmas.Result.{err_from_is_err_and}
use Rattle.std.specs.Option.{ok_or}
use Rattle.std.specs.Prelude.{Option, Some, None, Result, Ok, Err}
use Prim.Native.Nat.{ℕ, suc, ◌+◌, ◌-◌, ◌^◌, ◌≤◌, ◌<◌}
use native.Mathlib.Nat.{add-zero}
use native.Mathlib.Omega.{arith}
use mathlib.Core.Path.{◌≡◌, refl, sym, ap, ap₂, ◌∙◌}
use mathlib.Core.Bool.{Bool, true, false}
use mathlib.Core.List.{List, [], ◌∷◌}
use lib.ListN.{length, take, drop, get_or, length-drop, get_or-eq_default}
use lib.Seq.{drop-drop, get_or-append_seam, take-append_seam}
use lib.IntN.{ℤ, pos, negsuc}
use mir.Syntax.{w32}
use mir.Val.{to_z, of_z, SFits}
use mir.Facts.{to_z-of_z}
use lib.Dec.{eqb, leb}
use borrow.Author.Tests.{le-leb, lt-leb, eq-eqb, ne_eqb}
use Rattle.wire.specs.Answers.{Answer}
use Rattle.wire.specs.declared.Refusal.{Refusal}
use Rattle.wire.specs.Reading.{Read, got, bad, and_then}
use Rattle.wire.proofs.Accepting.{pick_true, pick-false, by_length}
use Rattle.line.specs.Pieces.{pieces}
use Rattle.line.specs.Lines.{Printed, number, tag, Line, FitsI32}
use Rattle.line.specs.LineReader.{read_decimal, read_degrees, read_printed, is_tag, on_field, next_field, read_elements, read_fields, body, judge_line}
use Rattle.line.specs.LineElements.{start_from, field_start}
use Rattle.line.proofs.DegreesLaws.{degrees-inverse}
use Rattle.line.proofs.PieceLaws.{before-short, pieces-last, pieces_more}
use Rattle.scan.specs.declared.Item.{Item}
use Rattle.scan.specs.declared.LineFields.{LineFields}
use Rattle.scan.specs.Fields.{field_from, field_end, number_as, degrees_as, item_as}
use Rattle.scan.proofs.FieldLaws.{number-told}
use Rattle.scan.specs.Walking.{pieces_from, elements_on, speed_on, longitude_on, passed_as, rest_as, line_result, judged_as}

-- ---- the fields from an offset on

pub field-inside : (t : List ℕ) (at : ℕ) → at ≤ length t → field_end t at ≤ length t
field-inside t at h = omega (arith, before-short 44 (drop at t), length-drop at t)

pub pieces_none : (t : List ℕ) (at : ℕ) → length t < at → pieces_from t at ≡ []
unfolding pieces_from
pieces_none t at h = pick-false (leb at (length t)) (pieces (drop at t)) [] (lt-leb at (length t) h)

pub pieces-some : (t : List ℕ) (at : ℕ) → at ≤ length t → pieces_from t at ≡ pieces (drop at t)
unfolding pieces_from
pieces-some t at h = pick_true (leb at (length t)) (pieces (drop at t)) [] (le-leb at (length t) h)

pub pieces_step : (t : List ℕ) (at : ℕ) → at ≤ length t → pieces_from t at ≡ field_from t at ∷ pieces_from t (field_end t at + 1)
pieces_step t at h =
    by_length (length (drop at t)) (length (field_from t at))
    (λ all.
    let same : length (field_from t at) ≡ length (drop at t) = omega (arith, all, before-short 44 (drop at t)) in
    let over : length t < field_end t at + 1 = omega (arith, same, length-drop at t) in
    pieces-some t at h ∙ pieces-last (drop at t) same ∙ ap (λ (ps : List (List ℕ)). field_from t at ∷ ps) (sym (pieces_none t (field_end t at + 1) over)))
    (λ less.
    let place : at + suc (length (field_from t at)) ≡ field_end t at + 1 = omega arith in
    let inside : field_end t at + 1 ≤ length t = omega (arith, less, length-drop at t) in
    pieces-some t at h
    ∙ pieces_more (drop at t) less
    ∙ ap (λ (s : List ℕ). field_from t at ∷ pieces s) (drop-drop (suc (length (field_from t at))) at t ∙ ap (λ (n : ℕ). drop n t) place)
    ∙ ap (λ (ps : List (List ℕ)). field_from t at ∷ ps) (sym (pieces-some t (field_end t at + 1) inside)))

-- ---- an element passed

module _ (start end : ℕ) (r : Answer Printed) where
  pub pass-number : {id n last : ℕ} → Some (Item.Number id n last) ≡ item_as start end r → Some (last + 1, false) ≡ passed_as (end + 1) r
  unfolding item_as passed_as is_tag
  pass-number = go r
    where
      go : (r : Answer Printed) {id n last : ℕ} → Some (Item.Number id n last) ≡ item_as start end r → Some (last + 1, false) ≡ passed_as (end + 1) r
      go (Ok (number i m)) {last = last} e = let l : last ≡ end = cc in ap (λ (k : ℕ). Some (k + 1, false)) l
      go (Ok (tag i b)) e = absurd (let z : ◌≡◌ {A = ℕ} 0 1 = cc in omega arith)
      go (Err x) e = absurd (let z : ◌≡◌ {A = ℕ} 0 1 = cc in omega arith)

  pub pass-tag : {id from size last : ℕ} → Some (Item.Tag id from size last) ≡ item_as start end r → Some (last + 1, true) ≡ passed_as (end + 1) r
  unfolding item_as passed_as is_tag
  pass-tag = go r
    where
      go : (r : Answer Printed) {id from size last : ℕ} → Some (Item.Tag id from size last) ≡ item_as start end r → Some (last + 1, true) ≡ passed_as (end + 1) r
      go (Ok (number i m)) e = absurd (let z : ◌≡◌ {A = ℕ} 0 1 = cc in omega arith)
      go (Ok (tag i b)) {last = last} e = let l : last ≡ end = cc in ap (λ (k : ℕ). Some (k + 1, true)) l
      go (Err x) e = absurd (let z : ◌≡◌ {A = ℕ} 0 1 = cc in omega arith)

  pub pass-wrong : None ≡ item_as start end r → None ≡ passed_as (end + 1) r
  unfolding item_as passed_as
  pass-wrong = go r
    where
      go : (r : Answer Printed) → None ≡ item_as start end r → None ≡ passed_as (end + 1) r
      go (Ok (number i m)) e = absurd (let z : ◌≡◌ {A = ℕ} 0 1 = cc in omega arith)
      go (Ok (tag i b)) e = absurd (let z : ◌≡◌ {A = ℕ} 0 1 = cc in omega arith)
      go (Err x) e = refl

  -- where it ends
  pub number-end : {id n last : ℕ} → Some (Item.Number id n last) ≡ item_as start end r → last ≡ end
  unfolding item_as
  number-end = go r
    where
      go : (r : Answer Printed) {id n last : ℕ} → Some (Item.Number id n last) ≡ item_as start end r → last ≡ end
      go (Ok (number i m)) e = cc
      go (Ok (tag i b)) e = absurd (let z : ◌≡◌ {A = ℕ} 0 1 = cc in omega arith)
      go (Err x) e = absurd (let z : ◌≡◌ {A = ℕ} 0 1 = cc in omega arith)

  pub tag-end : {id from size last : ℕ} → Some (Item.Tag id from size last) ≡ item_as start end r → last ≡ end
  unfolding item_as
  tag-end = go r
    where
      go : (r : Answer Printed) {id from size last : ℕ} → Some (Item.Tag id from size last) ≡ item_as start end r → last ≡ end
      go (Ok (number i m)) e = absurd (let z : ◌≡◌ {A = ℕ} 0 1 = cc in omega arith)
      go (Ok (tag i b)) e = cc
      go (Err x) e = absurd (let z : ◌≡◌ {A = ℕ} 0 1 = cc in omega arith)

-- ---- the loop over elements

-- so many elements, and those that are read further on
unfoldable pub counted : ℕ → Read (List Printed) → Result ℕ ℕ
counted n (got es k) = Ok (n + length es)
counted n (bad x) = Err x.place

counted-more : (n : ℕ) (e : Printed) (r : Read (List Printed)) → counted n (and_then r (λ es k. got (e ∷ es) k)) ≡ counted (n + 1) r
unfolding counted and_then
counted-more n e (got es k) = ap Ok (omega arith)
counted-more n e (bad x) = refl

pub record ElementsLeft (t : List ℕ) (at next : ℕ) (tags : Bool) (count : ℕ) : Type 0 where
  pub inside : next ≤ length t + 1
  pub few : count ≤ next
  pub rest : counted count (read_elements tags next (pieces_from t next)) ≡ rest_as (read_elements false at (pieces_from t at))

passed_on : (next : ℕ) (r : Answer Printed) {n : ℕ} {b : Bool} → Some (n, b) ≡ passed_as next r → (e : Printed) × (r ≡ Ok e) × (b ≡ is_tag e) × (n ≡ next)
unfolding passed_as
passed_on next (Ok e) h = let k = some_pair_parts _ _ _ _ h in (e, refl, k.1, k.0)
passed_on next (Err x) h = absurd (let z : ◌≡◌ {A = ℕ} 0 1 = cc in omega arith)

passed-wrong : (next : ℕ) (r : Answer Printed) → None ≡ passed_as next r → (x : Refusal) × (r ≡ Err x)
unfolding passed_as
passed-wrong next (Ok e) h = absurd (let z : ◌≡◌ {A = ℕ} 0 1 = cc in omega arith)
passed-wrong next (Err x) h = (x, refl)

module _ (t : List ℕ) (at : ℕ) where
  pub left-start : at ≤ length t + 1 → ElementsLeft t at at false 0
  unfolding counted rest_as
  left-start h = record { inside = h; few = omega arith; rest = go (read_elements false at (pieces_from t at)) }
    where
      go : (r : Read (List Printed)) → counted 0 r ≡ rest_as r
      go (got es n) = ap Ok (omega arith)
      go (bad x) = refl

  module _ {next count : ℕ} {tags : Bool} (l : ElementsLeft t at next tags count) where
    pub left-done : length t < next → Ok count ≡ rest_as (read_elements false at (pieces_from t at))
    unfolding counted read_elements
    left-done h =
        ap Ok (sym (add-zero count)) ∙ ap (λ (ps : List (List ℕ)). counted count (read_elements tags next ps)) (sym (pieces_none t next h)) ∙ l.rest

    module _ (h : next ≤ length t) where
      step : read_elements tags next (pieces_from t next)
          ≡ on_field next (read_printed tags (field_from t next)) (λ e. and_then (read_elements (is_tag e) (next + suc (length (field_from t next))) (pieces_from t (field_end t next + 1))) (λ es n. got (e ∷ es) n))
      unfolding read_elements
      step = ap (read_elements tags next) (pieces_step t next h)

      pub left-wrong : None ≡ passed_as (field_end t next + 1) (read_printed tags (field_from t next)) → Err next ≡ rest_as (read_elements false at (pieces_from t at))
      unfolding counted on_field
      left-wrong e =
          let k = passed-wrong (field_end t next + 1) (read_printed tags (field_from t next)) e in
          ap (λ (r : Answer Printed). counted count (on_field next r (λ e. and_then (read_elements (is_tag e) (next + suc (length (field_from t next))) (pieces_from t (field_end t next + 1))) (λ es n. got (e ∷ es) n)))) (sym k.1)
          ∙ ap (counted count) (sym step)
          ∙ l.rest

      pub left-turn : {n : ℕ} {b : Bool} → Some (n, b) ≡ passed_as (field_end t next + 1) (read_printed tags (field_from t next)) → ElementsLeft t at n b (count + 1)
      unfolding on_field
      left-turn {n} {b} e =
          let k = passed_on (field_end t next + 1) (read_printed tags (field_from t next)) e in
          let place : next + suc (length (field_from t next)) ≡ n = omega (arith, k.3) in
          record {
            inside = omega (arith, k.3, field-inside t next h);
            few = omega (arith, k.3, l.few);
            rest =
                ap₂ (λ (x : Bool) (y : ℕ). counted (count + 1) (read_elements x n (pieces_from t y))) k.2 k.3
                ∙ ap (λ (y : ℕ). counted (count + 1) (read_elements (is_tag k.0) y (pieces_from t (field_end t next + 1)))) (sym place)
                ∙ sym (counted-more count k.0 (read_elements (is_tag k.0) (next + suc (length (field_from t next))) (pieces_from t (field_end t next + 1))))
                ∙ ap (λ (r : Answer Printed). counted count (on_field next r (λ e. and_then (read_elements (is_tag e) (next + suc (length (field_from t next))) (pieces_from t (field_end t next + 1))) (λ es n. got (e ∷ es) n)))) (sym k.1)
                ∙ ap (counted count) (sym step)
                ∙ l.rest;
          }

      pub left_less : {n : ℕ} {b : Bool} → Some (n, b) ≡ passed_as (field_end t next + 1) (read_printed tags (field_from t next)) → next < n
      left_less e = let k = passed_on (field_end t next + 1) (read_printed tags (field_from t next)) e in omega (arith, k.3)

-- ---- a leading field, and what follows it

module _ {A : Type 0} (parse : List ℕ → Answer A) (t : List ℕ) (at : ℕ) (f : A → ℕ → List (List ℕ) → Read Line) (start : ℕ) where
  abbrev following : Result LineFields ℕ
  following = judged_as start (next_field parse at (pieces_from t at) f)

  -- the line ends before it
  pub field-none : length t < at → Err (at - 1) ≡ following
  unfolding next_field judged_as
  field-none h = ap (λ (ps : List (List ℕ)). judged_as start (next_field parse at ps f)) (sym (pieces_none t at h))

  module _ (h : at ≤ length t) where
    next : next_field parse at (pieces_from t at) f ≡ on_field at (parse (field_from t at)) (λ a. f a (field_end t at + 1) (pieces_from t (field_end t at + 1)))
    unfolding next_field
    next =
        let place : at + suc (length (field_from t at)) ≡ field_end t at + 1 = omega arith in
        ap (λ (ps : List (List ℕ)). next_field parse at ps f) (pieces_step t at h)
        ∙ ap (λ (n : ℕ). on_field at (parse (field_from t at)) (λ a. f a n (pieces_from t (field_end t at + 1)))) place

    pub field-bad : {x : Refusal} → parse (field_from t at) ≡ Err x → Err at ≡ following
    unfolding on_field judged_as
    field-bad e =
        ap (λ (r : Answer A). judged_as start (on_field at r (λ a. f a (field_end t at + 1) (pieces_from t (field_end t at + 1))))) (sym e) ∙ ap (judged_as start) (sym next)

    pub field-read : {a : A} {end : ℕ} → parse (field_from t at) ≡ Ok a → end ≡ field_end t at → judged_as start (f a (end + 1) (pieces_from t (end + 1))) ≡ following
    unfolding on_field
    field-read {a} e is =
        ap (λ (n : ℕ). judged_as start (f a (n + 1) (pieces_from t (n + 1)))) is
        ∙ ap (λ (r : Answer A). judged_as start (on_field at r (λ a. f a (field_end t at + 1) (pieces_from t (field_end t at + 1))))) (sym e)
        ∙ ap (judged_as start) (sym next)

-- where a field further on starts
pub start-on : (n : ℕ) (t : List ℕ) (at : ℕ) {end : ℕ} → at ≤ length t → end ≡ field_end t at
    → start_from n (end + 1) (pieces_from t (end + 1)) ≡ start_from (suc n) at (pieces_from t at)
unfolding start_from
start-on n t at {end} h is =
    let place : end + 1 ≡ at + suc (length (field_from t at)) = omega (arith, is) in
    ap (λ (k : ℕ). start_from n (end + 1) (pieces_from t (k + 1))) is
    ∙ ap (λ (k : ℕ). start_from n k (pieces_from t (field_end t at + 1))) place
    ∙ ap (start_from (suc n) at) (sym (pieces_step t at h))

-- what was made a `Result` of an `Option`
pub or-ok : {A E : Type 0} {m s : Option A} {r : Result A E} {a : A} → r ≡ Ok a → m ≡ result_ok r → m ≡ s → Some a ≡ s
or-ok e k is = sym (k ∙ ap result_ok e) ∙ is

-- `None`, and what the `?` behind it returns
pub or-failed : {A B : Type 0} {m : Option A} {r : Result A ℕ} {out : Result B ℕ} {e x : ℕ} → r ≡ Err x → r ≡ ok_or m e → IsErrAnd out (λ y. y ≡ x) → (m ≡ None) × (out ≡ Err e)
or-failed {A} {B} {m} {out = out} {e} {x} h k o = go m (sym h ∙ k)
  where
    go : (m : Option A) → Err x ≡ ok_or m e → (m ≡ None) × (out ≡ Err e)
    go None k = let p = err_from_is_err_and out o in let same : x ≡ e = cc in (refl, p.1 ∙ ap Err (p.2 ∙ same))
    go (Some a) k = absurd (let z : ◌≡◌ {A = ℕ} 0 1 = cc in omega arith)

-- what a field tells
pub number-read : (end : ℕ) (r : Answer ℕ) → None ≡ number_as end r → (x : Refusal) × (r ≡ Err x)
unfolding number_as
number-read end (Ok n) e = absurd (let z : ◌≡◌ {A = ℕ} 0 1 = cc in omega arith)
number-read end (Err x) e = (x, refl)

pub degrees-told : (end : ℕ) (r : Answer ℤ) {z : ℤ} {last : ℕ} → Some (z, last) ≡ degrees_as end r → (r ≡ Ok z) × (last ≡ end)
unfolding degrees_as
degrees-told end (Ok y) e = let k = some_pair_parts _ _ _ _ e in (ap Ok (sym k.0), k.1)
degrees-told end (Err x) e = absurd (let z : ◌≡◌ {A = ℕ} 0 1 = cc in omega arith)

-- a field that was read ends inside
module _ (t : List ℕ) (at : ℕ) (h : at ≤ length t) where
  pub number-within : (r : Answer ℕ) {n end : ℕ} → Some (n, end) ≡ number_as (field_end t at) r → end ≤ length t
  number-within r e = let k = number-told (field_end t at) r e in omega (arith, k.1, field-inside t at h)

  pub degrees-within : (r : Answer ℤ) {z : ℤ} {end : ℕ} → Some (z, end) ≡ degrees_as (field_end t at) r → end ≤ length t
  degrees-within r e = let k = degrees-told (field_end t at) r e in omega (arith, k.1, field-inside t at h)

-- degrees fit a word with a sign
pub degrees-word : (s : List ℕ) (z : ℤ) → read_degrees s ≡ Ok z → to_z w32 (of_z w32 z) ≡ z
degrees-word s z e = to_z-of_z (go z (degrees-inverse.exact s z e).0)
  where
    go : (z : ℤ) → FitsI32 z → SFits w32 z
    go (pos m) h = record { sfits = h }
    go (negsuc m) h = record { sfits = h }

pub degrees-bad : (end : ℕ) (r : Answer ℤ) → None ≡ degrees_as end r → (x : Refusal) × (r ≡ Err x)
unfolding degrees_as
degrees-bad end (Ok y) e = absurd (let z : ◌≡◌ {A = ℕ} 0 1 = cc in omega arith)
degrees-bad end (Err x) e = (x, refl)

-- ---- the elements, behind the leading fields

module _ (timestamp speed : ℕ) (longitude latitude : ℤ) (at : ℕ) (ps : List (List ℕ)) where
  pub rest_read : {n : ℕ} → Ok n ≡ rest_as (read_elements false at ps)
      → Ok (record { timestamp = timestamp; longitude = longitude; latitude = latitude; speed = speed; elements = n; start = at }) ≡ judged_as at (elements_on timestamp longitude latitude speed at ps)
  unfolding rest_as judged_as and_then line_result
  rest_read {n} e = go (read_elements false at ps) e
    where
      go : (r : Read (List Printed)) → Ok n ≡ rest_as r
          → Ok (record { timestamp = timestamp; longitude = longitude; latitude = latitude; speed = speed; elements = n; start = at })
          ≡ judged_as at (and_then r (λ es n. got (record { timestamp = timestamp; longitude = longitude; latitude = latitude; speed = speed; elements = es }) n))
      go (got es k) e =
          let same : n ≡ length es = cc in
          ap (λ (m : ℕ). Ok (record { timestamp = timestamp; longitude = longitude; latitude = latitude; speed = speed; elements = m; start = at })) same
      go (bad x) e = absurd (let z : ◌≡◌ {A = ℕ} 0 1 = cc in omega arith)

  pub rest-bad : {place : ℕ} → Err place ≡ rest_as (read_elements false at ps) → Err place ≡ judged_as at (elements_on timestamp longitude latitude speed at ps)
  unfolding rest_as judged_as and_then
  rest-bad {place} e = go (read_elements false at ps) e
    where
      go : (r : Read (List Printed)) → Err place ≡ rest_as r
          → Err place ≡ judged_as at (and_then r (λ es n. got (record { timestamp = timestamp; longitude = longitude; latitude = latitude; speed = speed; elements = es }) n))
      go (got es k) e = absurd (let z : ◌≡◌ {A = ℕ} 0 1 = cc in omega arith)
      go (bad x) e = ap Err (cc)

-- ---- one field more, and the answer is the whole's

module _ {A : Type 0} (parse : List ℕ → Answer A) (t : List ℕ) (at : ℕ) (f : A → ℕ → List (List ℕ) → Read Line) (n : ℕ) where
  pub field-on : {a : A} {end : ℕ} {r : Result LineFields ℕ} → at ≤ length t → (parse (field_from t at) ≡ Ok a) × (end ≡ field_end t at)
      → r ≡ judged_as (start_from n (end + 1) (pieces_from t (end + 1))) (f a (end + 1) (pieces_from t (end + 1)))
      → r ≡ judged_as (start_from (suc n) at (pieces_from t at)) (next_field parse at (pieces_from t at) f)
  field-on {a} {end} h e k =
      k
      ∙ ap (λ (start : ℕ). judged_as start (f a (end + 1) (pieces_from t (end + 1)))) (start-on n t at h e.1)
      ∙ field-read parse t at f (start_from (suc n) at (pieces_from t at)) h e.0 e.1

module _ (t : List ℕ) (at timestamp speed end : ℕ) (longitude latitude : ℤ) (h : at ≤ length t) (e : (read_decimal (2 ^ 16 - 1) (field_from t at) ≡ Ok speed) × (end ≡ field_end t at)) where
  pub speed-read : {n : ℕ} {x y : ℤ} → x ≡ longitude → y ≡ latitude → Ok n ≡ rest_as (read_elements false (end + 1) (pieces_from t (end + 1)))
      → Ok (record { timestamp = timestamp; longitude = x; latitude = y; speed = speed; elements = n; start = end + 1 })
      ≡ judged_as (start_from 1 at (pieces_from t at)) (speed_on timestamp longitude latitude at (pieces_from t at))
  unfolding start_from
  speed-read {n} a b k =
      (λ i. Ok (record { timestamp = timestamp; longitude = a i; latitude = b i; speed = speed; elements = n; start = end + 1 }))
      ∙ field-on (read_decimal (2 ^ 16 - 1)) t at (elements_on timestamp longitude latitude) 0 h e (rest_read timestamp speed longitude latitude (end + 1) (pieces_from t (end + 1)) k)

  pub speed-bad : {place : ℕ} → Err place ≡ rest_as (read_elements false (end + 1) (pieces_from t (end + 1)))
      → Err place ≡ judged_as (start_from 1 at (pieces_from t at)) (speed_on timestamp longitude latitude at (pieces_from t at))
  unfolding start_from
  speed-bad k = field-on (read_decimal (2 ^ 16 - 1)) t at (elements_on timestamp longitude latitude) 0 h e (rest-bad timestamp speed longitude latitude (end + 1) (pieces_from t (end + 1)) k)

-- ---- the whole line

-- a text without its last byte, as the code cuts it
pub cut-body : (s : List ℕ) {last : ℕ} → last ≡ length s - 1 → take (last - 0) (drop 0 s) ≡ body s
cut-body s {last} e = let same : last - 0 ≡ length s - 1 = omega (arith, e) in ap (λ (n : ℕ). take n s) same

-- as `split_last` cuts it
module _ (s t : List ℕ) (last : ℕ) (k : IsLastAndRest s last t) where
  place : length s - 1 ≡ length t
  place = omega (arith, k.1)

  pub cut-last : get_or s (length s - 1) 0 ≡ last
  cut-last = ap (λ (n : ℕ). get_or s n 0) place ∙ ap (λ (x : List ℕ). get_or x (length t) 0) k.0 ∙ get_or-append_seam t last [] 0

  pub cut-rest : t ≡ body s
  cut-rest = sym (ap (λ (n : ℕ). take n s) place ∙ ap (take (length t)) k.0 ∙ take-append_seam t (last ∷ []))

module _ (s : List ℕ) where
  abbrev whole_line : Result LineFields ℕ
  whole_line = judged_as (field_start s 4) (judge_line s)

  pub line-open : (get_or s (length s - 1) 0 ≡ 10 → ⊥) → Err (length s) ≡ whole_line
  unfolding judge_line judged_as
  line-open h =
      ap (judged_as (field_start s 4)) (sym (pick-false (eqb (get_or s (length s - 1) 0) 10) (read_fields (pieces (body s))) _ (ne_eqb (get_or s (length s - 1) 0) 10 h)))

  pub line-empty : length s < 1 → Err 0 ≡ whole_line
  line-empty h =
      let none : get_or s (length s - 1) 0 ≡ 10 → ⊥ = λ e. let z : ◌≡◌ {A = ℕ} 0 10 = sym (get_or-eq_default s 0 {n = length s - 1} (omega arith)) ∙ e in omega (arith, z) in
      let size : 0 ≡ length s = omega arith in
      ap Err size ∙ line-open none

  module _ (lf : get_or s (length s - 1) 0 ≡ 10) where
    whole : judged_as (start_from 4 0 (pieces_from (body s) 0)) (next_field (read_decimal (2 ^ 64 - 1)) 0 (pieces_from (body s) 0) longitude_on) ≡ whole_line
    unfolding judge_line read_fields
    whole =
        let all : pieces_from (body s) 0 ≡ pieces (body s) = pieces-some (body s) 0 (omega arith) in
        ap (λ (ps : List (List ℕ)). judged_as (start_from 4 0 ps) (next_field (read_decimal (2 ^ 64 - 1)) 0 ps longitude_on)) all
        ∙ ap (judged_as (field_start s 4)) (sym (pick_true (eqb (get_or s (length s - 1) 0) 10) (read_fields (pieces (body s))) _ (eq-eqb (get_or s (length s - 1) 0) 10 lf)))

    module _ {t : List ℕ} (is : t ≡ body s) where
      pub line-bad : None ≡ number_as (field_end t 0) (read_decimal (2 ^ 64 - 1) (field_from t 0)) → Err 0 ≡ whole_line
      line-bad e =
          let k = number-read (field_end t 0) (read_decimal (2 ^ 64 - 1) (field_from t 0)) e in
          field-bad (read_decimal (2 ^ 64 - 1)) t 0 longitude_on (start_from 4 0 (pieces_from t 0)) (omega arith) k.1
          ∙ ap (λ (x : List ℕ). judged_as (start_from 4 0 (pieces_from x 0)) (next_field (read_decimal (2 ^ 64 - 1)) 0 (pieces_from x 0) longitude_on)) is
          ∙ whole

      pub line_on : {timestamp end : ℕ} {r : Result LineFields ℕ} → (read_decimal (2 ^ 64 - 1) (field_from t 0) ≡ Ok timestamp) × (end ≡ field_end t 0)
          → r ≡ judged_as (start_from 3 (end + 1) (pieces_from t (end + 1))) (longitude_on timestamp (end + 1) (pieces_from t (end + 1))) → r ≡ whole_line
      line_on e k =
          field-on (read_decimal (2 ^ 64 - 1)) t 0 longitude_on 3 (omega arith) e k
          ∙ ap (λ (x : List ℕ). judged_as (start_from 4 0 (pieces_from x 0)) (next_field (read_decimal (2 ^ 64 - 1)) 0 (pieces_from x 0) longitude_on)) is
          ∙ whole
