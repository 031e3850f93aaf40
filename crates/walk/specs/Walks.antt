-- What the walk's functions answer, of what the definitions read.
use Rattle.std.specs.Prelude.{Err, Ok, ℕ, zero, suc, ◌+◌, ◌≤◌, List, [], ◌∷◌, length}
use Rattle.walk.specs.declared.DataWalk.{DataWalk}
use Rattle.wire.specs.Reading.{Read, got, bad}
use Rattle.wire.specs.Answers.{Answer}
use Rattle.avl.specs.declared.Widths.{Widths}
use Rattle.walk.specs.declared.Span.{Span}
use Rattle.avl.specs.Codecs.{widths_of}
use Rattle.avl.specs.Records.{AvlRecord, element_count, record_bytes}
use Rattle.avl.specs.DataField.{AvlData}

-- how many elements a group, the groups of a record or a record has
unfoldable pub counted : {A : Type 0} → (A → ℕ) → Read A → Answer (ℕ × ℕ)
counted size (got a next) = Ok ((size a), next)
counted size (bad x) = Err x

abbrev pub elements_of : AvlRecord → ℕ
elements_of r = element_count r.groups

-- where the record with number `n` lies, of records that begin at `at`, and how many elements it has; 0 where there is none
unfoldable pub span_of : Widths → ℕ → ℕ → List AvlRecord → Span
span_of w n at [] = record { start = 0; end = 0; elements = 0 }
span_of w zero at (r ∷ rs) = record { start = at; end = at + length (record_bytes w r); elements = elements_of r }
span_of w (suc n) at (r ∷ rs) = span_of w n (at + length (record_bytes w r)) rs

-- the records that fill the space between the counts, and where the wanted one lies in it
unfoldable pub spanned : Widths → ℕ → Read (List AvlRecord) → Answer Span
spanned w want (got rs next) = Ok (span_of w want 0 rs)
spanned w want (bad x) = Err x

-- the data field's codec and count, and where the wanted record lies in the space between the counts
unfoldable pub data_walk : ℕ → Answer AvlData → Answer DataWalk
data_walk want (Ok a) = Ok (record { codec = a.codec; count = (length a.records); span = (span_of (widths_of a.codec) want 0 a.records) })
data_walk want (Err r) = Err r
