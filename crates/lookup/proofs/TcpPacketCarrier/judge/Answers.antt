use mathlib.Core.Path.{◌∙◌}
use Rattle.wire.specs.Limits.{limits_of}
use Rattle.wire.proofs.Widths.{get_d-bytes}
use Rattle.lookup.proofs.PartLaws.{tcp-walk, tcp-carried}
use Rattle.lookup.proofs.TcpPacketCarrier.judge.Goals as goal

pub returns-clause-walk : goal.returns-clause-walk
returns-clause-walk c = rw (← c.limits_of.ensures) (c.judge_packet.ensures ∙ tcp-walk c.limits_of.result c.args.p.now c.args.n)

pub returns-clause-carried : goal.returns-clause-carried
returns-clause-carried c = tcp-carried (limits_of c.args.family) c.args.p.now (get_d-bytes c.args.p.now (λ k. (c.type_inv.p k).fits))
