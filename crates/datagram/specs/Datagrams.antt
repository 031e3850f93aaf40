-- UDP datagrams: length, packet ID, unused byte, AVL packet ID, IMEI, then the data field as in TCP without a CRC.
use Rattle.std.specs.Prelude.{Err, Ok, ℕ, ◌+◌, ◌^◌, ◌≤◌, ◌<◌, ◌≡◌, List, [], ◌∷◌, length, drop, get_or, eqb, leb}
use Rattle.datagram.specs.declared.DatagramResult.{DatagramResult}
use Rattle.wire.specs.declared.Limits.{Limits}
use Rattle.wire.specs.Limits.{is_known}
use Rattle.wire.specs.Numbers.{number_at, be}
use Rattle.wire.specs.Sequences.{fields}
use Rattle.wire.specs.Reading.{Reader, ◌>>=◌, pure, number}
use Rattle.wire.specs.Answers.{Answer, check, from, told, on_accepted}
use Rattle.wire.specs.Imei.{imei_text, read_imei}
use Rattle.datagram.specs.declared.Header.{Header}
use Rattle.avl.specs.DataField.{AvlData, data_bytes, DataRules, read_data, data_result}

pub record Datagram : Type 0 where
  pub header : Header
  pub payload : AvlData

-- ---- the rules

unfoldable pub header_bytes : Header → List ℕ
header_bytes h = fields (be 2 h.packet ∷ be 1 h.unused ∷ be 1 h.avl ∷ imei_text h.imei ∷ [])

-- all that follows the length
unfoldable pub content_bytes : Datagram → List ℕ
content_bytes g = fields (header_bytes g.header ∷ data_bytes g.payload ∷ [])

unfoldable pub datagram_bytes : Datagram → List ℕ
datagram_bytes g = fields (be 2 (length (content_bytes g)) ∷ content_bytes g ∷ [])

pub record HeaderRules (h : Header) : Type 0 where
  pub packet_fits : h.packet < 256 ^ 2
  pub unused_fits : h.unused < 256 ^ 1
  pub avl_fits : h.avl < 256 ^ 1
  pub imei_range : h.imei < 10 ^ 15

-- the datagram `p` carries `g`
pub record UdpPacket (limits : Limits) (g : Datagram) (p : List ℕ) : Type 0 where
  pub header : HeaderRules g.header
  pub payload : DataRules limits.longest g.payload
  pub most : length (datagram_bytes g) ≤ limits.datagram
  pub counted : length (content_bytes g) < 256 ^ 2
  pub whole : p ≡ datagram_bytes g

-- ---- the judge: 21, 1, 3, 4, 15, then 6, 7 and the walk in the data field, which starts at 23

unfoldable pub read_header : Reader Header
read_header = do
  packet_id ← number 2
  unused ← number 1
  avl_id ← number 1
  imei ← read_imei
  pure (record { packet = packet_id; unused = unused; avl = avl_id; imei = imei })

unfoldable pub judge_header : ℕ → List ℕ → Answer Header
judge_header largest p =
    check (is_known largest) 21
    (check (leb 26 (length p)) 1
    (check (leb (length p) largest) 3
    (check (eqb (length p) (number_at p 0 2 + 2)) 4
    (told 0 (read_header p 2)))))

unfoldable pub read_datagram : Limits → List ℕ → Answer Datagram
read_datagram limits p =
    on_accepted (judge_header limits.datagram p)
    (λ h. on_accepted (from 23 (read_data limits.longest (drop 23 p)))
    (λ a. Ok (record { header = h; payload = a })))

unfoldable pub payload_of : Answer Datagram → Answer AvlData
payload_of datagram = on_accepted datagram (λ g. Ok g.payload)

unfoldable pub answer_datagram : Limits → List ℕ → Answer DatagramResult
answer_datagram limits p =
    on_accepted (read_datagram limits p) (λ g. Ok (record { payload = data_result g.payload; header = g.header }))

-- ---- the acknowledgement (the paper's receipt): the length 5, the IDs and the unused byte as received, the number of records

unfoldable pub acknowledgement_bytes : Header → ℕ → List ℕ
acknowledgement_bytes h count = fields (be 2 5 ∷ be 2 h.packet ∷ be 1 h.unused ∷ be 1 h.avl ∷ be 1 count ∷ [])

unfoldable pub udp_acknowledgement : Limits → List ℕ → Answer (List ℕ)
udp_acknowledgement limits p =
    on_accepted (read_datagram limits p) (λ g. Ok (acknowledgement_bytes g.header (length g.payload.records)))

-- ---- what the code's answers say

-- the header that stands at 2, with this IMEI
abbrev pub header_at : List ℕ → ℕ → Header
header_at p imei = record { packet = number_at p 2 2; unused = number_at p 4 1; avl = number_at p 5 1; imei = imei }

unfoldable pub header_as : List ℕ → Answer ℕ → Answer Header
header_as p (Ok imei) = Ok (header_at p imei)
header_as p (Err r) = Err r

-- the same bytes as they stand in the datagram
abbrev pub answer_bytes : List ℕ → ℕ → List ℕ
answer_bytes p count = 0 ∷ 5 ∷ get_or p 2 0 ∷ get_or p 3 0 ∷ get_or p 4 0 ∷ get_or p 5 0 ∷ count ∷ []
