-- What the functions that read a tag answer.
use Rattle.std.specs.Prelude.{Err, Ok, Option, Some, None, ℕ, ◌+◌, ◌≤◌, ◌<◌, ◌≡◌, List, [], ◌∷◌, ◌++◌, length, drop}
use Rattle.wire.specs.Answers.{Answer, refusal, on_accepted}
use Rattle.scan.specs.Fields.{field_from}
use Rattle.line.specs.LineReader.{Escape, none, slash, read_tag}
use Rattle.scan.specs.declared.Piece.{Piece}

unfoldable pub hex_as : Answer ℕ → Option ℕ
hex_as (Ok d) = Some d
hex_as (Err r) = None

-- how many bytes a tag has whose text ends at `end`
unfoldable pub tag_as : ℕ → Answer (List ℕ) → Option (ℕ × ℕ)
tag_as end (Ok b) = Some (length b, end)
tag_as end (Err r) = None

-- at `i`, behind what `e` says, stands the byte `b`; the text goes on at `next`
pub record Gives (e : Escape) (t : List ℕ) (i b next : ℕ) : Type 0 where
  pub reads : read_tag e (field_from t i) ≡ on_accepted (read_tag none (field_from t next)) (λ more. Ok (b ∷ more))
  pub place : next + length (field_from t next) ≡ i + length (field_from t i)
  pub forward : i < next
  pub inside : next ≤ length t

abbrev pub IsEscape : List ℕ → ℕ → Option ℕ → Type 0
IsEscape t i (Some b) = Gives slash t i b (i + 2)
IsEscape t i None = read_tag slash (field_from t i) ≡ Err (refusal 20)

abbrev pub IsPiece : List ℕ → ℕ → Option Piece → Type 0
IsPiece t i (Some (Piece.Byte b next)) = Gives none t i b next
IsPiece t i (Some Piece.End) = (read_tag none (field_from t i) ≡ Ok []) × (length (field_from t i) ≡ 1)
IsPiece t i None = read_tag none (field_from t i) ≡ Err (refusal 20)

-- from `at` on, up to the next comma or the end, stands the text of a tag behind its first quote
pub record TagText (t : List ℕ) (at : ℕ) : Type 0 where
  pub bytes : List ℕ
  pub reads : read_tag none (field_from t at) ≡ Ok bytes

-- its bytes are stored at the buffer's start, if it is long enough, and nothing behind them is changed
pub record TagStored (t : List ℕ) (at : ℕ) (out after : List ℕ) : Type 0 where
  pub stored : (b : List ℕ) → read_tag none (field_from t at) ≡ Ok b → length b ≤ length out → after ≡ b ++ drop (length b) out
