-- A packet's table of contents: words for the packet, then for each record in order its own and one for each of its values.
use Rattle.std.specs.Prelude.{Ok, ℕ, List, [], ◌∷◌, ◌++◌, length}
use Rattle.wire.specs.declared.Limits.{Limits}
use Rattle.wire.specs.Sequences.{joined}
use Rattle.wire.specs.Answers.{Answer, on_accepted}
use Rattle.avl.specs.declared.Widths.{Widths}
use Rattle.avl.specs.Codecs.{widths_of}
use Rattle.avl.specs.Records.{element_count, record_bytes}
use Rattle.avl.specs.DataField.{data_result}
use Rattle.datagram.specs.declared.Header.{Header}
use Rattle.datagram.specs.Datagrams.{read_datagram}
use Rattle.element.specs.Elements.{Located, elements}
use Rattle.lookup.specs.Places.{Placed, place_records}
use Rattle.lookup.specs.Lookups.{Source, tcp_source, found_in}
use Rattle.lookup.specs.Answers.{value_result}
use Rattle.contents.specs.Words.{title_words, record_words, value_word}

-- the word of an element of a record, as the look-up gives its value
abbrev pub element_word : Placed → Located → List ℕ
element_word r e = value_word (value_result (found_in r e)) ∷ []

unfoldable pub record_contents : Widths → Placed → List ℕ
record_contents w r =
    record_words r.content.fixed r.start (length (record_bytes w r.content)) (element_count r.content.groups)
    ++ joined (element_word r) (elements w r.content)

unfoldable pub contents : Header → Source → List ℕ
contents h x =
    let w = widths_of x.content.codec in
    title_words (data_result x.content) h ++ joined (record_contents w) (place_records w x.base x.content.records)

-- a TCP packet has no header
abbrev pub no_header : Header
no_header = record { packet = 0; unused = 0; avl = 0; imei = 0 }

-- ---- the packet's refusals

unfoldable pub contents_of_packet : Limits → List ℕ → Answer (List ℕ)
contents_of_packet limits p = on_accepted (tcp_source limits p) (λ x. Ok (contents no_header x))

unfoldable pub contents_of_datagram : Limits → List ℕ → Answer (List ℕ)
contents_of_datagram limits p =
    on_accepted (read_datagram limits p) (λ g. Ok (contents g.header (record { content = g.payload; base = 25 })))
