-- The total of a record (N of Total IO) is the number of its elements (request 2): with any other total the record gets 9.
use Rattle.std.specs.Prelude.{Err, Ok, ℕ, ◌+◌, ◌^◌, ◌≤◌, ◌<◌, ◌≡◌, true, List, [], ◌∷◌, length, drop}
use Rattle.wire.specs.declared.Limits.{Limits}
use Rattle.wire.specs.Numbers.{be}
use Rattle.wire.specs.Sequences.{fields, joined, All}
use Rattle.wire.specs.Envelope.{enclosed}
use Rattle.frame.specs.Frame.{unframe}
use Rattle.avl.specs.declared.Widths.{Widths}
use Rattle.avl.specs.Codecs.{widths_of, is_data_codec, kinds}
use Rattle.avl.specs.Records.{Element, AvlRecord, element_count, fixed_bytes, groups_bytes, record_bytes, FixedRules, GroupsRules, RecordRules}
use Rattle.packet.specs.DataPackets.{read_packet}
use Rattle.datagram.specs.declared.Header.{Header}
use Rattle.datagram.specs.Datagrams.{judge_header, read_datagram}
use Rattle.claims.specs.Rows.{◌at◌byte◌}

-- a record's bytes with `n` for its total
unfoldable pub bytes_with : Widths → ℕ → AvlRecord → List ℕ
bytes_with w n r = fields (fixed_bytes w r.fixed ∷ be w.count n ∷ groups_bytes w (kinds w) r.groups ∷ [])

-- a data field that says `count` records: the first ones, then `r` with `n` for its total, then any bytes
unfoldable pub field_with : ℕ → ℕ → List AvlRecord → ℕ → AvlRecord → List ℕ → List ℕ
field_with codec count first n r rest =
    enclosed codec count (fields (joined (record_bytes (widths_of codec)) first ∷ bytes_with (widths_of codec) n r ∷ rest ∷ []))

-- the first records keep the rules; so do the fields and groups of `r`, and its total has room for `n`
pub record ReadUpTo (longest codec count : ℕ) (first : List AvlRecord) (n : ℕ) (r : AvlRecord) : Type 0 where
  pub codec_known : is_data_codec codec ≡ true
  pub count_fits : count ≤ 255
  pub counted : length first < count
  pub each : All (RecordRules longest (widths_of codec)) first
  pub fixed_keep : FixedRules (widths_of codec) r.fixed
  pub groups_keep : GroupsRules (widths_of codec) (kinds (widths_of codec)) r.groups
  pub room : n < 256 ^ (widths_of codec).count

-- a TCP data packet and a datagram with this data field get 9 at the record `index`, which starts at `start` in the field
pub record Nine (limits : Limits) (d : List ℕ) (index start : ℕ) : Type 0 where
  pub in_packet : (p : List ℕ) → unframe limits.largest p ≡ Ok d → read_packet limits p ≡ Err (9 at index byte (8 + start))
  pub in_datagram : (p : List ℕ) (h : Header) → judge_header limits.datagram p ≡ Ok h → drop 23 p ≡ d → read_datagram limits p ≡ Err (9 at index byte (23 + start))

module _ (limits : Limits) (codec count : ℕ) (first : List AvlRecord) (n : ℕ) (r : AvlRecord) (rest : List ℕ) where
  abbrev Refused9 : Type 0
  Refused9 = Nine limits (field_with codec count first n r rest) (length first) (2 + length (joined (record_bytes (widths_of codec)) first))

  pub record TotalKept : Type 0 where
    -- the total that the rules write is the number of elements
    pub right : record_bytes (widths_of codec) r ≡ bytes_with (widths_of codec) (element_count r.groups) r
    -- any other
    pub wrong : (n ≡ element_count r.groups → ⊥) → Refused9
    -- the sum of the first four counts, where there is a variable value
    pub four_counts : (a b c d vs : List Element) (v : Element) → r.groups ≡ a ∷ b ∷ c ∷ d ∷ (v ∷ vs) ∷ []
        → n ≡ length a + length b + length c + length d → Refused9
    -- no sum wraps: more elements than a total can say
    pub too_many : 256 ^ (widths_of codec).count ≤ element_count r.groups → Refused9

abbrev pub TotalsKept : Type 0
TotalsKept =
    (limits : Limits) (codec count : ℕ) (first : List AvlRecord) (n : ℕ) (r : AvlRecord) (rest : List ℕ)
    → ReadUpTo limits.longest codec count first n r → TotalKept limits codec count first n r rest
