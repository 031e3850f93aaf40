use Rattle.wire.proofs.Widths.{get_d-bytes}
use Rattle.wire.specs.Limits.{limits_of}
use Rattle.wire.proofs.LimitLaws.{limits-most}
use Rattle.print.proofs.WholeLaws.{datagram-short}
use Rattle.lookup.proofs.PartLaws.{record-in, record-answer}
use Rattle.line.specs.RecordLines.{line_of_datagram}
use Rattle.print.proofs.line_of_datagram.Goals as goal

pub line_in-requires : goal.line_in-requires
line_in-requires c = let part = c.part_in.ensures in record { part_in = record-in part.carried.stored c.args.n part.part; short_part = datagram-short (limits_of c.args.family) c.args.p.now (get_d-bytes c.args.p.now (λ k. (c.type_inv.p k).fits)) (limits-most c.args.family) c.args.n part.part }

pub returns : goal.returns
unfolding line_of_datagram
returns c = let answer = record-answer c.part_in.ensures.carried.stored c.args.n c.part_in.ensures.part c.line_in.ensures in record { answer = answer.0; buffer = answer.1 }
