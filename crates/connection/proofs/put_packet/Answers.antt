use Rattle.wire.proofs.BufferLaws.{writing-done, leaving-done, sets-front}
use mathlib.Core.Path.{sym, ◌∙◌}
use Rattle.connection.proofs.put_packet.Goals as goal

pub returns : goal.returns
returns c = record { result_value = sym (writing-done c.args.p.now c.args.out.now c.requires); out_after = c.put_bytes.ensures ∙ sets-front c.args.p.now c.args.out.now c.requires ∙ sym (leaving-done c.args.p.now c.args.out.now c.requires) }
