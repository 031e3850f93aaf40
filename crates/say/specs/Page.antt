-- Bytes put on a page, as far as there is room.
use Rattle.std.specs.Prelude.{ℕ, ◌+◌, ◌-◌, min, ◌≡◌, List, length}
use Rattle.std.proofs.lemmas.List.Edits.{sets}
use Rattle.say.specs.declared.Page.{Page}

-- `s` is put on the page at `at`: what the page holds then, and where it goes on
pub record OnPage (s page : List ℕ) (at : ℕ) (after : List ℕ) (next : ℕ) : Type 0 where
  pub bytes : after ≡ sets page at s
  pub place : next ≡ at + min (length s) (length page - at)

-- the same of a page that knows where it goes on
abbrev pub Puts : List ℕ → Page → Page → Type 0
Puts s old new = OnPage s old.bytes.now old.at new.bytes.now new.at
