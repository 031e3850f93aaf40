-- What is written along a data field: the entries of its TLV form.
use Rattle.std.specs.Prelude.{Ok, ℕ, List}
use Rattle.wire.specs.Answers.{Answer, on_accepted}
use Rattle.avl.specs.Records.{Fixed, AvlRecord}
use Rattle.avl.specs.DataField.{read_data}
use Rattle.element.specs.Elements.{Located}
use Rattle.store.specs.Entries.{entry_bytes}
use Rattle.tlv.specs.Form.{fixed_entry, element_entry, form}

-- for an element
abbrev pub entry_text : Located → List ℕ
entry_text e = entry_bytes (element_entry e.kind (record { id = e.id; value = e.value }))

-- for the fixed fields, which stand before the elements
abbrev pub fixed_text : ℕ → Fixed → List ℕ
fixed_text at f = entry_bytes (fixed_entry f)

abbrev pub head_text : ℕ → AvlRecord → List ℕ
head_text at r = fixed_text at r.fixed

-- the form of a data field of at least three bytes
unfoldable pub form_of_field : ℕ → List ℕ → Answer (List ℕ)
form_of_field longest d = on_accepted (read_data longest d) (λ a. Ok (form a))
