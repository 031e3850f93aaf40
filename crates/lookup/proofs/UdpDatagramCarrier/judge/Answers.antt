use mathlib.Core.Path.{◌∙◌}
use Rattle.wire.specs.Limits.{limits_of}
use Rattle.wire.proofs.Widths.{get_d-bytes}
use Rattle.lookup.proofs.PartLaws.{udp-walk, udp-carried}
use Rattle.lookup.proofs.UdpDatagramCarrier.judge.Goals as goal

pub returns-clause-walk : goal.returns-clause-walk
returns-clause-walk c = c.judge_datagram.ensures ∙ udp-walk (limits_of c.args.family) c.args.p.now c.args.n

pub returns-clause-carried : goal.returns-clause-carried
returns-clause-carried c = udp-carried (limits_of c.args.family) c.args.p.now (get_d-bytes c.args.p.now (λ k. (c.type_inv.p k).fits))
