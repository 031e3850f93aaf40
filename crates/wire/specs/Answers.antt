-- An answer: its result, or the refusal.
use Rattle.std.specs.Prelude.{ℕ, ◌+◌, Bool, true, false, Result, Ok, Err}
use Rattle.wire.specs.declared.Refusal.{Refusal}
use Rattle.wire.specs.Numbers.{pick}
use Rattle.wire.specs.Reading.{Read, got, bad}

abbrev pub Answer : Type 0 → Type 0
Answer A = Result A Refusal

unfoldable pub on_accepted : {A B : Type 0} → Answer A → (A → Answer B) → Answer B
on_accepted (Ok a) f = f a
on_accepted (Err r) f = Err r

unfoldable pub is_accepted : {A : Type 0} → Answer A → Bool
is_accepted (Ok a) = true
is_accepted (Err r) = false

-- the refusal with this number, which no record has, of the field at this place
abbrev pub refusal_at : ℕ → ℕ → Refusal
refusal_at number place = record { number = number; index = 0; place = place }

-- of no field: the place is 0
abbrev pub refusal : ℕ → Refusal
refusal number = refusal_at number 0

-- ---- places: an answer's count from the start of what was judged; one to a part of the input, which starts at `base`, is moved by that

abbrev pub moved_by : ℕ → Refusal → Refusal
moved_by base r = record { number = r.number; index = r.index; place = base + r.place }

-- an answer to such a part
unfoldable pub from : {A : Type 0} → ℕ → Answer A → Answer A
from base (Ok a) = Ok a
from base (Err r) = Err (moved_by base r)

-- what a walk over such a part answers
unfoldable pub told : {A : Type 0} → ℕ → Read A → Answer A
told base (got a next) = Ok a
told base (bad x) = Err (moved_by base x)

-- a writer's own arguments and billing lines have no places
unfoldable pub unplaced : {A : Type 0} → Answer A → Answer A
unplaced (Ok a) = Ok a
unplaced (Err r) = Err (refusal r.number)

-- ---- the rest where the test holds, else the refusal of the field at this place

unfoldable pub check_at : {A : Type 0} → Bool → ℕ → ℕ → Answer A → Answer A
check_at test number place rest = pick test rest (Err (refusal_at number place))

-- of no field
abbrev pub check : {A : Type 0} → Bool → ℕ → Answer A → Answer A
check test number rest = check_at test number 0 rest
