-- What a refusal points at (request 6): its field lies in the input, and what stands behind that field makes no difference.
use Rattle.std.specs.Prelude.{Err, Ok, ℕ, ◌+◌, ◌-◌, ◌≤◌, ◌<◌, ◌≡◌, ◌⊎◌, List, length, take, drop, eqb}
use Rattle.wire.specs.declared.Limits.{Limits}
use Rattle.wire.specs.declared.Refusal.{Refusal}
use Rattle.wire.specs.Numbers.{Bytes, pick}
use Rattle.wire.specs.Envelope.{codec_of, inner}
use Rattle.wire.specs.Answers.{Answer}
use Rattle.frame.specs.Frame.{unframe}
use Rattle.avl.specs.Codecs.{widths_of}
use Rattle.avl.specs.Offending.{offending}
use Rattle.packet.specs.DataPackets.{read_packet}
use Rattle.command.specs.Commands.{read_command}
use Rattle.command.specs.Offending.{offending_text}
use Rattle.datagram.specs.declared.Header.{Header}
use Rattle.datagram.specs.Datagrams.{judge_header, read_datagram}
use Rattle.login.specs.Login.{read_login}

-- ---- how many bytes a refusal is about, from its place on

-- counted from the start of a part that starts at `base`
abbrev pub back : ℕ → Refusal → Refusal
back base r = record { number = r.number; index = r.index; place = r.place - base }

-- in a data field: the codec, a count, or what the walk between the counts says
unfoldable pub data_width : List ℕ → Refusal → ℕ
data_width d r = offending (widths_of (codec_of d)) (inner d) (back 2 r)

unfoldable pub text_width : List ℕ → Refusal → ℕ
text_width d r = offending_text (inner d) (back 2 r)

-- in a frame: the field of 2, 3 and 5; the header, which gives the length, of 4; nothing of 1 and 21
unfoldable pub frame_width : ℕ → ℕ
frame_width number = pick (eqb number 2) 4 (pick (eqb number 3) 4 (pick (eqb number 4) 8 (pick (eqb number 5) 4 0)))

-- in a TCP packet, by what its frame gives
unfoldable pub framed_width : (List ℕ → Refusal → ℕ) → Answer (List ℕ) → Refusal → ℕ
framed_width width (Ok d) r = width d (back 8 r)
framed_width width (Err x) r = frame_width r.number

-- of an IMEI that starts at `at`: its length, or the byte of a digit
unfoldable pub imei_width : ℕ → Refusal → ℕ
imei_width at r = pick (eqb r.number 15) (pick (eqb r.place at) 2 1) 0

-- in a datagram's header: its length of 4, which stands first; the IMEI; nothing of 1, 3 and 21
unfoldable pub header_width : Refusal → ℕ
header_width r = pick (eqb r.number 4) 2 (imei_width 6 r)

-- in a datagram, by what its header gives
unfoldable pub datagram_width : List ℕ → Answer Header → Refusal → ℕ
datagram_width p (Ok h) r = data_width (drop 23 p) (back 23 r)
datagram_width p (Err x) r = header_width r

-- ---- the claim

pub record Points {A : Type 0} (judge : List ℕ → Answer A) (Before : Refusal → Type 0) (p : List ℕ) (r : Refusal) (width : ℕ) : Type 0 where
  -- there is a byte at its place, unless the input is empty; a field without bytes (8) has there what stands behind the records
  pub byte : 1 ≤ length p → r.place < length p
  -- and the field's bytes are all there
  pub inside : r.place + width ≤ length p
  -- an input that is as long, and equal up to the field's end, is refused alike; or for what is looked at before, further behind
  pub alike : (q : List ℕ) → length q ≡ length p → take (r.place + width) q ≡ take (r.place + width) p
      → (judge q ≡ Err r) ⊎ ((x : Refusal) × (judge q ≡ Err x) × Before x)

-- the second count stands behind the records and is looked at before them; the CRC is over all bytes, and is looked at before both
abbrev pub SecondCount : Refusal → Type 0
SecondCount x = x.number ≡ 7

abbrev pub CrcOrCount : Refusal → Type 0
CrcOrCount x = (x.number ≡ 5) ⊎ (x.number ≡ 7)

pub record PlacesKept : Type 0 where
  pub packets : (limits : Limits) (p : List ℕ) (r : Refusal) → read_packet limits p ≡ Err r
      → Points (read_packet limits) CrcOrCount p r (framed_width data_width (unframe limits.largest p) r)
  pub commands : (limits : Limits) (p : List ℕ) (r : Refusal) → read_command limits p ≡ Err r
      → Points (read_command limits) CrcOrCount p r (framed_width text_width (unframe limits.largest p) r)
  pub datagrams : (limits : Limits) (p : List ℕ) (r : Refusal) → Bytes p → read_datagram limits p ≡ Err r
      → Points (read_datagram limits) SecondCount p r (datagram_width p (judge_header limits.datagram p) r)
  pub logins : (p : List ℕ) (r : Refusal) → Bytes p → read_login p ≡ Err r → Points read_login (λ x. ⊥) p r (imei_width 0 r)
