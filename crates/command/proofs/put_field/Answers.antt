-- The blocks, one behind the other.
use Prim.Native.Nat.{ℕ, ◌+◌}
use mathlib.Core.Path.{ap, ◌∙◌}
use mathlib.Core.List.{List}
use lib.Seq.{sets}
use lib.ListN.{length}
use Rattle.wire.specs.Numbers.{be}
use Rattle.command.specs.Commands.{Command, body_bytes}
use Rattle.command.specs.Layouts.{heading}
use Rattle.command.proofs.WriterLaws.{field_stored}
use Rattle.command.proofs.put_field.Goals as goal

pub returns : goal.returns
returns c =
    let a = c.args in
    let l = a.l in
    let text = a.text.now in
    let command : Command = record { codec = l.codec; type = a.kind; imei = a.imei; time = a.time; text = text } in
    let head = c.put_be-2.ensures ∙ ap (λ (m : List ℕ). sets m 9 (be 1 1)) c.put_be.ensures in
    let body = c.put_body.ensures ∙ ap (λ (m : List ℕ). sets m 10 (body_bytes l command)) head in
    c.put_be-3.ensures ∙ ap (λ (m : List ℕ). sets m (15 + heading l + length text) (be 1 1)) body ∙ field_stored l command a.out.now
