-- Readers: how a layout is read, field by field, from a list of bytes at an offset.
use Rattle.std.specs.Prelude.{ℕ, zero, suc, ◌+◌, Bool, List, [], ◌∷◌, length, take, drop, leb, Result, Ok, Err}
use Rattle.wire.specs.declared.Refusal.{Refusal}
use Rattle.wire.specs.Numbers.{number_at, pick}

-- what was read and the offset behind it, or why not
pub data Read (A : Type 0) : Type 0 where
  got : A → ℕ → Read A
  bad : Refusal → Read A

-- where the walk goes on, or why it stopped
unfoldable pub walked : {A : Type 0} → Read A → Result ℕ Refusal
walked (got a next) = Ok next
walked (bad x) = Err x

-- the number that was read, or why it was not
unfoldable pub numbered : Read ℕ → Result (ℕ × ℕ) Refusal
numbered (got n next) = Ok (n, next)
numbered (bad x) = Err x

-- a reader takes the bytes and the offset to read at
abbrev pub Reader : Type 0 → Type 0
Reader A = List ℕ → ℕ → Read A

unfoldable pub and_then : {A B : Type 0} → Read A → (A → ℕ → Read B) → Read B
and_then (got a next) f = f a next
and_then (bad x) f = bad x

infixl 10 ◌>>=◌
infixl 10 ◌>>◌
-- one reader, then another that may depend on what the first read
unfoldable pub ◌>>=◌ : {A B : Type 0} → Reader A → (A → Reader B) → Reader B
◌>>=◌ m f s at = and_then (m s at) (λ a next. f a s next)

unfoldable pub ◌>>◌ : {A B : Type 0} → Reader A → Reader B → Reader B
m >> n = m >>= λ a. n

unfoldable pub pure : {A : Type 0} → A → Reader A
pure a s at = got a at

-- the present offset
unfoldable pub here : Reader ℕ
here s at = got at at

-- goes on exactly if the test holds
unfoldable pub require : Bool → ℕ → ℕ → Reader (Unit {0})
require test number place s at = pick test (got tt at) (bad (record { number = number; index = 0; place = place }))

-- the bytes of a field are all there, else 8
unfoldable pub span : ℕ → Reader ℕ
span n s at = pick (leb (at + n) (length s)) (got at (at + n)) (bad (record { number = 8; index = 0; place = at }))

-- a big-endian number of `w` bytes
unfoldable pub number : ℕ → Reader ℕ
number w s at = and_then (span w s at) (λ start next. got (number_at s start w) next)

-- `n` bytes as they are
unfoldable pub bytes : ℕ → Reader (List ℕ)
bytes n s at = and_then (span n s at) (λ start next. got (take n (drop start s)) next)

-- a number of `w` bytes that is at most `most`, else the refusal given
unfoldable pub up_to : ℕ → ℕ → ℕ → Reader ℕ
up_to w most refusal = do
  start ← here
  n ← number w
  require (leb n most) refusal start
  pure n

-- the same layout `n` times
unfoldable pub repeat : {A : Type 0} → ℕ → Reader A → Reader (List A)
repeat zero m = pure []
repeat (suc n) m = do
  a ← m
  as' ← repeat n m
  pure (a ∷ as')
