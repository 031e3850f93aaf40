-- How a line is read: taken apart at its commas, each field read whole. Whatever is wrong is 20.
use Rattle.std.specs.Prelude.{Err, Ok, ℕ, suc, ◌+◌, ◌-◌, ◌*◌, ◌^◌, Bool, true, false, not, List, [], ◌∷◌, length, take, get_or, eqb, leb, ℤ, pos, negsuc}
use Rattle.wire.specs.declared.Refusal.{Refusal}
use Rattle.wire.specs.Numbers.{value_from, pick}
use Rattle.wire.specs.Reading.{Read, got, bad, and_then}
use Rattle.wire.specs.Answers.{Answer, refusal, refusal_at, on_accepted, check, told, unplaced}
use Rattle.text.specs.Hex.{among}
use Rattle.line.specs.Pieces.{before, behind, pieces}
use Rattle.line.specs.Lines.{Printed, number, tag, Line, is_plain}

-- ---- numbers

unfoldable pub all_digits : List ℕ → Bool
all_digits [] = true
all_digits (c ∷ s) = pick (among 48 57 c) (all_digits s) false

unfoldable pub digits_of : List ℕ → List ℕ
digits_of [] = []
digits_of (c ∷ s) = (c - 48) ∷ digits_of s

-- the number that digits say
abbrev pub said : List ℕ → ℕ
said s = value_from 10 0 (digits_of s)

-- something, and no zero (48) before something else
unfoldable pub no_spare_zero : List ℕ → Bool
no_spare_zero [] = false
no_spare_zero (c ∷ s) = pick (eqb c 48) (eqb (length s) 0) true

-- a number up to `most`
unfoldable pub read_decimal : ℕ → List ℕ → Answer ℕ
read_decimal most s = check (no_spare_zero s) 20 (check (all_digits s) 20 (check (leb (said s) most) 20 (Ok (said s))))

-- ---- degrees

-- whole degrees, of which 32 bits hold up to 214, a point (46) and seven places
unfoldable pub read_unsigned : List ℕ → Answer ℕ
read_unsigned s =
    on_accepted (read_decimal 214 (before 46 s))
    (λ whole. check (eqb (length (behind 46 s)) 7) 20
    (check (all_digits (behind 46 s)) 20 (Ok (whole * 10 ^ 7 + said (behind 46 s)))))

abbrev pub positive : ℕ → Answer ℤ
positive m = check (leb m (2 ^ 31 - 1)) 20 (Ok (pos m))

-- minus zero is not written
abbrev pub negative : ℕ → Answer ℤ
negative m = check (leb 1 m) 20 (check (leb m (2 ^ 31)) 20 (Ok (negsuc (m - 1))))

unfoldable pub read_degrees : List ℕ → Answer ℤ
read_degrees [] = Err (refusal 20)
read_degrees (c ∷ s) = pick (eqb c 45) (on_accepted (read_unsigned s) negative) (on_accepted (read_unsigned (c ∷ s)) positive)

-- ---- tags

-- 0 to 9, A to F
unfoldable pub read_hex : ℕ → Answer ℕ
read_hex c = pick (among 48 57 c) (Ok (c - 48)) (check (among 65 70 c) 20 (Ok (c - 55)))

-- what came before in a tag: no backslash; a backslash; a backslash and a hex digit
pub data Escape : Type 0 where
  none : Escape
  slash : Escape
  high : ℕ → Escape

unfoldable pub read_tag : Escape → List ℕ → Answer (List ℕ)
read_tag e [] = Err (refusal 20)
-- the quote ends the field
read_tag none (c ∷ s) =
    pick (eqb c 34) (check (eqb (length s) 0) 20 (Ok []))
    (pick (eqb c 92) (read_tag slash s)
    (check (is_plain c) 20 (on_accepted (read_tag none s) (λ b. Ok (c ∷ b)))))
read_tag slash (c ∷ s) = on_accepted (read_hex c) (λ h. read_tag (high h) s)
-- only what is not written as itself
read_tag (high h) (c ∷ s) =
    on_accepted (read_hex c)
    (λ l. check (not (is_plain (h * 16 + l))) 20 (on_accepted (read_tag none s) (λ b. Ok ((h * 16 + l) ∷ b))))

-- ---- elements

-- `tags` says that a tag came before, behind which there are no numbers
unfoldable pub read_value : Bool → ℕ → List ℕ → Answer Printed
read_value tags id [] = Err (refusal 20)
read_value tags id (c ∷ s) =
    pick (eqb c 34) (on_accepted (read_tag none s) (λ b. Ok (tag id b)))
    (check (not tags) 20 (on_accepted (read_decimal (2 ^ 64 - 1) (c ∷ s)) (λ n. Ok (number id n))))

unfoldable pub read_printed : Bool → List ℕ → Answer Printed
read_printed tags s = on_accepted (read_decimal (2 ^ 16 - 1) (before 61 s)) (λ id. read_value tags id (behind 61 s))

-- ---- lines

-- wrong from this byte on
abbrev pub wrong : ℕ → Refusal
wrong place = refusal_at 20 place

-- a field that starts at `at`
unfoldable pub on_field : {A B : Type 0} → ℕ → Answer A → (A → Read B) → Read B
on_field at (Ok a) f = f a
on_field at (Err r) f = bad (wrong at)

-- the next of the fields, which starts at `at`; a line that ends before it is wrong at its end
unfoldable pub next_field : {A B : Type 0} → (List ℕ → Answer A) → ℕ → List (List ℕ) → (A → ℕ → List (List ℕ) → Read B) → Read B
next_field parse at [] f = bad (wrong (at - 1))
next_field parse at (p ∷ ps) f = on_field at (parse p) (λ a. f a (at + suc (length p)) ps)

unfoldable pub is_tag : Printed → Bool
is_tag (number id n) = false
is_tag (tag id b) = true

unfoldable pub read_elements : Bool → ℕ → List (List ℕ) → Read (List Printed)
read_elements tags at [] = got [] at
read_elements tags at (p ∷ ps) =
    on_field at (read_printed tags p) (λ e. and_then (read_elements (is_tag e) (at + suc (length p)) ps) (λ es n. got (e ∷ es) n))

unfoldable pub read_fields : List (List ℕ) → Read Line
read_fields ps =
    next_field (read_decimal (2 ^ 64 - 1)) 0 ps
    (λ timestamp at ps. next_field read_degrees at ps
    (λ longitude at ps. next_field read_degrees at ps
    (λ latitude at ps. next_field (read_decimal (2 ^ 16 - 1)) at ps
    (λ speed at ps. and_then (read_elements false at ps)
    (λ es n. got (record { timestamp = timestamp; longitude = longitude; latitude = latitude; speed = speed; elements = es }) n)))))

-- without the byte that ends it
abbrev pub body : List ℕ → List ℕ
body s = take (length s - 1) s

-- its last byte is LF; one that ends otherwise is wrong behind its end
unfoldable pub judge_line : List ℕ → Read Line
judge_line s = pick (eqb (get_or s (length s - 1) 0) 10) (read_fields (pieces (body s))) (bad (wrong (length s)))

-- 20 has no place; `wrong_at` says it
unfoldable pub read_line : List ℕ → Answer Line
read_line s = unplaced (told 0 (judge_line s))

-- the byte at which the first wrong field starts; behind the end of a good line
unfoldable pub place_in : ℕ → Read Line → ℕ
place_in end (got l n) = end
place_in end (bad x) = x.place

unfoldable pub wrong_at : List ℕ → ℕ
wrong_at s = place_in (length s) (judge_line s)
