-- What reading into a lent buffer leaves.
use Rattle.std.specs.Prelude.{ℕ, ◌<◌, ◌≡◌, List, length, Result, Ok, Err}
use Rattle.inspect.specs.declared.input.ReadError.{ReadError}

-- the number of bytes read is below the buffer's length, so one that was filled is never taken for whole
abbrev pub Below : Result ℕ ReadError → ℕ → Type 0
Below (Ok n) size = n < size
Below (Err e) size = Unit {0}

-- the buffer keeps its length; which bytes it holds then is the system's, and its contract says nothing of them
pub record ReadInto (before after : List ℕ) (input : Result ℕ ReadError) : Type 0 where
  pub size : length after ≡ length before
  pub below : Below input (length after)
