-- TCP data packets: a frame around a data field, and its acknowledgement (the paper's receipt).
use Rattle.std.specs.Prelude.{Err, Ok, ℕ, ◌≡◌, List, length}
use Rattle.wire.specs.declared.Limits.{Limits}
use Rattle.wire.specs.Limits.{is_known}
use Rattle.wire.specs.Numbers.{be}
use Rattle.wire.specs.Answers.{Answer, check, from, on_accepted}
use Rattle.avl.specs.DataField.{AvlData, data_bytes, DataRules, read_data, data_result}
use Rattle.avl.specs.declared.DataResult.{DataResult}
use Rattle.frame.specs.Frame.{framed, FrameRules, unframe}

-- ---- the rules

unfoldable pub packet_bytes : AvlData → List ℕ
packet_bytes a = framed (data_bytes a)

-- the packet `p` carries the records of `a`
pub record DataPacket (limits : Limits) (a : AvlData) (p : List ℕ) : Type 0 where
  pub rules : DataRules limits.longest a
  pub frame : FrameRules limits.largest (data_bytes a)
  pub whole : p ≡ packet_bytes a

-- ---- the judge: 21, 1 to 5, then 6, 7 and the walk in the data field, which starts at 8

unfoldable pub read_packet : Limits → List ℕ → Answer AvlData
read_packet limits p = on_accepted (unframe limits.largest p) (λ d. from 8 (read_data limits.longest d))

unfoldable pub answer_packet : Limits → List ℕ → Answer DataResult
answer_packet limits p = on_accepted (read_packet limits p) (λ a. Ok (data_result a))

-- ---- the acknowledgement: the number of records in four bytes, 0 for a refused packet; of an unknown family none

unfoldable pub acknowledged : Answer AvlData → ℕ
acknowledged (Ok a) = length a.records
acknowledged (Err r) = 0

unfoldable pub tcp_acknowledgement : Limits → List ℕ → Answer (List ℕ)
tcp_acknowledgement limits p = check (is_known limits.largest) 21 (Ok (be 4 (acknowledged (read_packet limits p))))

-- ---- what the code's answer says
