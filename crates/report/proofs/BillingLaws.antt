-- Billing lines that are read back: where one is wrong, and the lines of a text one by one.
use Rattle.std.specs.Prelude.{Err, Ok}
use Prim.Native.Nat.{ℕ, suc, ◌+◌, ◌-◌, ◌≤◌, ◌<◌}
use native.Mathlib.Omega.{arith}
use mathlib.Core.Path.{◌≡◌, refl, sym, ap, ◌∙◌}
use mathlib.Core.Bool.{Bool, true, false}
use mathlib.Core.List.{List, [], ◌∷◌}
use lib.ListN.{length, take, drop, get_or, length-take, length-drop, drop_of_length-le}
use lib.Seq.{drop-drop}
use lib.Dec.{eqb}
use borrow.Author.Tests.{eqb-true}
use Rattle.wire.specs.declared.Refusal.{Refusal}
use Rattle.wire.specs.Numbers.{pick}
use Rattle.wire.specs.Reading.{Read, got, bad, and_then}
use Rattle.wire.specs.Answers.{Answer, on_accepted}
use Rattle.line.specs.Pieces.{onto, pieces}
use Rattle.line.specs.Lines.{Line}
use Rattle.line.specs.LineReader.{on_field, next_field, is_tag, read_printed, read_elements, read_fields, wrong, body, judge_line, read_line, place_in, wrong_at}
use Rattle.line.proofs.Cases.{by-test}
use Rattle.scan.specs.declared.LineFields.{LineFields}
use Rattle.scan.specs.Answers.{answer_line}
use Rattle.say.specs.Lines.{line_length}
use Rattle.say.proofs.LineLaws.{line-fits}
use Rattle.connection.proofs.PaddedLaws.{rest_part}
use Rattle.report.specs.Shown.{refusal_number, text_lines, line_refusal, earlier, first_refusal, lines_refusal}

-- ---- a line is wrong at one of its bytes or at its end

abbrev Within : {A : Type 0} → ℕ → Read A → Type 0
Within most (got a n) = Unit {0}
Within most (bad x) = x.place ≤ most

-- the bytes of pieces, with one behind each
unfoldable width : List (List ℕ) → ℕ
width [] = 0
width (p ∷ ps) = suc (length p + width ps)

field-within : {A B : Type 0} (most at : ℕ) (r : Answer A) (f : A → Read B) → at ≤ most → ((a : A) → Within most (f a)) → Within most (on_field at r f)
unfolding on_field
field-within most at (Ok a) f h k = k a
field-within most at (Err r) f h k = h

then-within : {A B : Type 0} (most : ℕ) (r : Read A) (f : A → ℕ → Read B) → Within most r → ((a : A) (n : ℕ) → Within most (f a n)) → Within most (and_then r f)
unfolding and_then
then-within most (got a n) f h k = k a n
then-within most (bad x) f h k = h

next-within : {A B : Type 0} (parse : List ℕ → Answer A) (most at : ℕ) (ps : List (List ℕ)) (f : A → ℕ → List (List ℕ) → Read B) → at + width ps ≡ suc most
    → ((a : A) (at : ℕ) (ps : List (List ℕ)) → at + width ps ≡ suc most → Within most (f a at ps)) → Within most (next_field parse at ps f)
unfolding next_field width
next-within parse most at [] f h k = omega (arith, h)
next-within parse most at (p ∷ ps) f h k = field-within most at (parse p) _ (omega (arith, h)) (λ a. k a (at + suc (length p)) ps (omega (arith, h)))

elements-within : (tags : Bool) (most at : ℕ) (ps : List (List ℕ)) → at + width ps ≡ suc most → Within most (read_elements tags at ps)
unfolding read_elements width
elements-within tags most at [] h = tt
elements-within tags most at (p ∷ ps) h =
    field-within most at (read_printed tags p) _ (omega (arith, h))
    (λ e. then-within most (read_elements (is_tag e) (at + suc (length p)) ps) _ (elements-within (is_tag e) most (at + suc (length p)) ps (omega (arith, h))) (λ es n. tt))

fields_within : (most : ℕ) (ps : List (List ℕ)) → width ps ≡ suc most → Within most (read_fields ps)
unfolding read_fields
fields_within most ps h =
    next-within _ most 0 ps _ (omega (arith, h))
    (λ timestamp at ps h. next-within _ most at ps _ h
    (λ longitude at ps h. next-within _ most at ps _ h
    (λ latitude at ps h. next-within _ most at ps _ h
    (λ speed at ps h. then-within most (read_elements false at ps) _ (elements-within false most at ps h) (λ es n. tt)))))

width-onto : (b : ℕ) (ps : List (List ℕ)) → 1 ≤ width ps → width (onto b ps) ≡ suc (width ps)
unfolding onto width
width-onto b [] h = absurd (omega (arith, h))
width-onto b (p ∷ ps) h = omega arith

width-pieces : (t : List ℕ) → width (pieces t) ≡ suc (length t)
unfolding pieces width
width-pieces [] = refl
width-pieces (b ∷ t) =
    by-test (eqb b 44) (λ e. simp e (omega (arith, width-pieces t)))
    (λ e. simp e (width-onto b (pieces t) (omega (arith, width-pieces t)) ∙ ap suc (width-pieces t)))

place-within : (most end : ℕ) (r : Read Line) → Within most r → most ≤ end → place_in end r ≤ end
unfolding place_in
place-within most end (got l n) h k = omega arith
place-within most end (bad x) h k = omega (arith, h, k)

pub wrong-within : (s : List ℕ) → wrong_at s ≤ length s
unfolding wrong_at judge_line place_in
wrong-within s = split (eqb (get_or s (length s - 1) 0) 10)
  where
    split : (t : Bool) → place_in (length s) (pick t (read_fields (pieces (body s))) (bad (wrong (length s)))) ≤ length s
    split true =
        place-within (length (body s)) (length s) (read_fields (pieces (body s))) (fields_within (length (body s)) (pieces (body s)) (width-pieces (body s))) (omega (arith, length-take (length s - 1) s))
    split false = omega arith

-- ---- the lines of a text

line-some : (s : List ℕ) → 1 ≤ length s → 1 ≤ line_length s
unfolding line_length
line-some [] h = absurd (omega arith)
line-some (c ∷ s) h = by-test (eqb c 10) (λ e. simp e (omega arith)) (λ e. simp e (omega arith))

line_first : (s : List ℕ) → 1 ≤ length s → text_lines s ≡ take (line_length s) s ∷ text_lines (drop (line_length s) s)
unfolding line_length text_lines onto
line_first [] h = absurd (omega arith)
line_first (c ∷ []) h = by-test (eqb c 10) (λ e. simp e) (λ e. simp e)
line_first (c ∷ d ∷ s) h = by-test (eqb c 10) (λ e. simp e) (λ e. simp e (ap (onto c) (line_first (d ∷ s) (omega arith))))

-- ---- one line after another

same-refusal : {A B : Type 0} (r : Answer A) (f : A → B) → refusal_number (on_accepted r (λ a. Ok (f a))) ≡ refusal_number r
unfolding refusal_number on_accepted
same-refusal (Ok a) f = refl
same-refusal (Err r) f = refl

line-refusal : (s : List ℕ) → refusal_number (answer_line s) ≡ line_refusal s
unfolding answer_line line_refusal
line-refusal s = same-refusal (read_line s) _

module _ (s : List ℕ) {a : Answer LineFields} (e : a ≡ answer_line s) where
  pub line_refused : {x : Refusal} {n : ℕ} → a ≡ Err x → n ≡ x.number → n ≡ line_refusal s
  unfolding refusal_number
  line_refused is said = said ∙ ap (λ (y : Answer LineFields). refusal_number y) (sym is) ∙ ap refusal_number e ∙ line-refusal s

  pub line_taken : {f : LineFields} → a ≡ Ok f → 0 ≡ line_refusal s
  unfolding refusal_number
  line_taken is = ap (λ (y : Answer LineFields). refusal_number y) (sym is) ∙ ap refusal_number e ∙ line-refusal s

earlier-none : (a : ℕ) → earlier a 0 ≡ a
unfolding earlier
earlier-none a = by-test (eqb a 0) (λ e. simp e (sym (eqb-true a 0 e))) (λ e. simp e)

earlier-assoc : (a b c : ℕ) → earlier (earlier a b) c ≡ earlier a (earlier b c)
unfolding earlier
earlier-assoc a b c = by-test (eqb a 0) (λ e. simp e) (λ e. simp e)

-- the refusal of the whole is the one said, or that of the lines from `at` on
pub record LinesAhead (s : List ℕ) (first at k : ℕ) : Type 0 where
  pub inside : at ≤ length s
  pub few : k ≤ at
  pub rest : earlier first (first_refusal (text_lines (drop at s))) ≡ lines_refusal s

pub lines-begin : (s : List ℕ) → LinesAhead s 0 0 0
unfolding earlier lines_refusal
lines-begin s = record { inside = omega arith; few = omega arith; rest = refl }

pub lines_end : {s : List ℕ} {first at k : ℕ} → LinesAhead s first at k → length s ≤ at → first ≡ lines_refusal s
unfolding text_lines first_refusal
lines_end {s} {first} {at} h done =
    sym (earlier-none first) ∙ ap (λ (l : List ℕ). earlier first (first_refusal (text_lines l))) (sym (drop_of_length-le s {i = at} done)) ∙ h.rest

module _ {s : List ℕ} {first at k size : ℕ} (h : LinesAhead s first at k) (more : at < length s) (e : size ≡ line_length (take (length s - at) (drop at s))) where
  is : size ≡ line_length (drop at s)
  is = e ∙ ap line_length (rest_part s at)

  some : 1 ≤ length (drop at s)
  some = omega (arith, length-drop at s)

  pub line-inside : (1 ≤ size) × (at + size ≤ length s)
  line-inside = (omega (arith, is, line-some (drop at s) some), omega (arith, is, line-fits (drop at s), length-drop at s))

  pub part-inside : at + length (take (at + size - at) (drop at s)) ≤ length s
  part-inside = omega (arith, length-take (at + size - at) (drop at s), line-inside.1)

  ahead : text_lines (drop at s) ≡ take size (drop at s) ∷ text_lines (drop (at + size) s)
  ahead = line_first (drop at s) some ∙ rw (← is) (ap (λ (l : List ℕ). take size (drop at s) ∷ text_lines l) (drop-drop size at s))

  pub lines-turn : {n next : ℕ} → n ≡ line_refusal (take (at + size - at) (drop at s)) → next ≡ earlier first n → LinesAhead s next (at + size) (k + 1)
  unfolding first_refusal
  lines-turn {n} {next} said kept =
      let others = first_refusal (text_lines (drop (at + size) s)) in
      let just : at + size - at ≡ size = omega arith in
      let this : n ≡ line_refusal (take size (drop at s)) = said ∙ ap (λ (i : ℕ). line_refusal (take i (drop at s))) just in
      record {
        inside = line-inside.1;
        few = omega (arith, h.few, line-inside.0);
        rest =
            ap (λ (i : ℕ). earlier i others) kept
            ∙ earlier-assoc first n others
            ∙ ap (λ (i : ℕ). earlier first (earlier i others)) this
            ∙ ap (λ (l : List (List ℕ)). earlier first (first_refusal l)) (sym ahead)
            ∙ h.rest;
      }
