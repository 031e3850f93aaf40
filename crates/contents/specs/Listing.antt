-- What is written along a data field: the words of its table. The bytes that are read stand in the input from `base` on.
use Rattle.std.specs.Prelude.{ℕ, ◌+◌, List, [], ◌∷◌, length}
use Rattle.avl.specs.declared.Widths.{Widths}
use Rattle.avl.specs.Records.{AvlRecord, element_count, record_bytes}
use Rattle.avl.specs.DataField.{AvlData}
use Rattle.datagram.specs.declared.Header.{Header}
use Rattle.element.specs.Elements.{Located}
use Rattle.contents.specs.Words.{record_words, quad}
use Rattle.contents.specs.Contents.{contents}

-- for an element
abbrev pub listed_word : ℕ → Located → List ℕ
listed_word base e = quad e.id e.kind (base + e.place) (length e.value) ∷ []

-- for a record, before its elements
abbrev pub head_text : ℕ → Widths → ℕ → AvlRecord → List ℕ
head_text base w at r = record_words r.fixed (base + at) (length (record_bytes w r)) (element_count r.groups)

-- for a data field whose first record stands at `base`
abbrev pub field_contents : Header → ℕ → AvlData → List ℕ
field_contents h base a = contents h (record { content = a; base = base })
