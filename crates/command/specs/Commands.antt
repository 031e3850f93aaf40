-- Command packets: codec, quantity 1, type, size, IMEI (codec 14), time (codec 13, the papers' timestamp), text, quantity 1.
use Rattle.std.specs.Prelude.{Err, Ok, ℕ, ◌+◌, ◌-◌, ◌*◌, ◌^◌, ◌<◌, ◌≡◌, Bool, true, List, [], ◌∷◌, length, eqb, leb}
use Rattle.wire.specs.declared.Limits.{Limits}
use Rattle.wire.specs.Numbers.{Bytes, be, pick}
use Rattle.wire.specs.Sequences.{fields}
use Rattle.wire.specs.Envelope.{enclosed, codec_of, first_count, last_count, inner}
use Rattle.wire.specs.Reading.{Reader, ◌>>=◌, ◌>>◌, pure, here, require, number, bytes}
use Rattle.wire.specs.Answers.{Answer, check_at, from, told, on_accepted}
use Rattle.wire.specs.Imei.{packed, read_packed}
use Rattle.frame.specs.Frame.{framed, FrameRules, unframe}
use Rattle.command.specs.Layouts.{types, layout_of, heading, member}
use Rattle.command.specs.declared.Layout.{Layout}
use Rattle.command.specs.declared.CommandFields.{CommandFields}

pub record Command : Type 0 where
  pub codec : ℕ
  pub type : ℕ
  pub imei : ℕ
  pub time : ℕ
  pub text : List ℕ

-- ---- the rules

-- what stands between the quantities
abbrev pub body_bytes : Layout → Command → List ℕ
body_bytes l c = fields (be 1 c.type ∷ be 4 (heading l + length c.text) ∷ packed l.imei c.imei ∷ be l.time c.time ∷ c.text ∷ [])

unfoldable pub command_field : Layout → Command → List ℕ
command_field l c = enclosed c.codec 1 (body_bytes l c)

pub record CommandRules (l : Layout) (c : Command) : Type 0 where
  pub layout : layout_of c.codec ≡ Ok l
  pub type_allowed : member c.type (types l) ≡ true
  pub imei_range : c.imei < 10 ^ (2 * l.imei - 1)
  pub time_range : c.time < 256 ^ l.time
  pub text_bytes : Bytes c.text
  pub mismatch_empty : c.type ≡ 0x11 → c.text ≡ []

-- the packet `p` carries the command `c`
pub record CommandPacket (limits : Limits) (c : Command) (p : List ℕ) : Type 0 where
  pub row : Layout
  pub rules : CommandRules row c
  pub frame : FrameRules limits.largest (command_field row c)
  pub whole : p ≡ framed (command_field row c)

-- ---- the judge

-- type 11 has no text
abbrev pub mismatch : ℕ → List ℕ → Bool
mismatch type text = pick (eqb type 0x11) (eqb (length text) 0) true

-- type (8, 13), size (8, 14), IMEI (15), time, text with type 11 (14)
unfoldable pub command_body : Layout → ℕ → Reader Command
command_body l space = do
  type_at ← here
  type ← number 1
  require (member type (types l)) 13 type_at
  size_at ← here
  size ← number 4
  start ← here
  require (eqb (start + size) space) 14 size_at
  require (leb (heading l) size) 14 size_at
  imei ← read_packed l.imei
  time ← number l.time
  text_at ← here
  text ← bytes (size - heading l)
  require (mismatch type text) 14 text_at
  pure (record { codec = l.codec; type = type; imei = imei; time = time; text = text })

-- a data field, places from its start: 6 at the codec; 7 at the first quantity if that is not 1, else at the second; then the walk
unfoldable pub read_field : List ℕ → Answer Command
read_field d =
    on_accepted (layout_of (codec_of d))
    (λ l. check_at (eqb (first_count d) 1) 7 1
    (check_at (eqb (last_count d) 1) 7 (length d - 1)
    (told 2 (command_body l (length (inner d)) (inner d) 0))))

-- 21, 1 to 5, then 6, 7 and the walk in the data field, which starts at 8
unfoldable pub read_command : Limits → List ℕ → Answer Command
read_command limits p = on_accepted (unframe limits.largest p) (λ d. from 8 (read_field d))

-- ---- the result: codec, type, IMEI, time, and the text's offset from the input's start and length

unfoldable pub answered : Answer Command → Answer CommandFields
answered r =
    on_accepted r
    (λ c. on_accepted (layout_of c.codec)
    (λ l. Ok (record { codec = c.codec; kind = c.type; imei = c.imei; time = c.time; offset = 15 + heading l; size = length c.text })))

unfoldable pub answer_command : Limits → List ℕ → Answer CommandFields
answer_command limits p = answered (read_command limits p)

-- the view of the text, empty on every refusal
unfoldable pub text_view : Answer Command → List ℕ
text_view (Ok c) = c.text
text_view (Err r) = []

-- where it begins, counted from the input's start: with its text; an empty one with the input
unfoldable pub text_offset : Answer CommandFields → ℕ
text_offset (Ok f) = f.offset
text_offset (Err r) = 0

-- ---- what the code's answer says
