-- Bytes stored into a buffer as far as it reaches, and the offset behind them.
use Rattle.std.specs.Prelude.{ℕ, ◌+◌, ◌≡◌, List, length}
use Rattle.std.proofs.lemmas.List.Edits.{sets}

-- `bytes` are stored from `to` on; a byte past the buffer's end is left out, and counts in `next` all the same
pub record Stored (bytes before after : List ℕ) (to next : ℕ) : Type 0 where
  pub place : next ≡ to + length bytes
  pub buffer : after ≡ sets before to bytes
