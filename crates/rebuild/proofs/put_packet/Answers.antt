use Rattle.std.specs.Prelude.{Err}
use mathlib.Core.Path.{ap}
use Rattle.rebuild.proofs.CandidateLaws.{answers-short, answers-done}
use Rattle.rebuild.proofs.put_packet.Goals as goal

pub returns-then-out-n : goal.returns-then-out-n
returns-then-out-n c = let short = answers-short c.args.d.now c.args.out.now c.if-out-n.true (ap Err c.of.ensures) in
    record { answer = short.0; buffer = short.1 }

pub returns : goal.returns
returns c = let done = answers-done c.args.d.now c.args.out.now c.if-out-n.false c.put_bytes.ensures c.put_frame.ensures in
    record { answer = done.0; buffer = done.1 }
