-- The length, then the field and the frame around it.
use Rattle.std.specs.Prelude.{Err, Ok}
use Prim.Native.Nat.{ℕ, ◌+◌, ◌≤◌, ◌<◌}
use native.Mathlib.Omega.{arith}
use mathlib.Core.Path.{◌≡◌, sym, ap, ◌∙◌}
use mathlib.Core.List.{List}
use lib.Seq.{sets}
use lib.ListN.{length, take, drop}
use Rattle.wire.specs.Answers.{on_accepted}
use Rattle.wire.proofs.BufferLaws.{writing-done, writing-short, leaving-done, leaving-short}
use Rattle.frame.specs.Frame.{framed}
use Rattle.frame.proofs.FrameLaws.{length-framed}
use Rattle.command.specs.Walks.{planned}
use Rattle.command.specs.Writing.{given_time}
use Rattle.command.specs.Commands.{Command, command_field}
use Rattle.command.proofs.WriterLaws.{length-field, frame-stored}
use Rattle.command.proofs.write_planned.Goals as goal

pub returns-then-out-whole : goal.returns-then-out-whole
unfolding planned on_accepted
returns-then-out-whole c =
    let command : Command = let a = c.args in
    record { codec = a.l.codec; type = a.kind; imei = a.imei; time = given_time a.l a.time; text = a.text.now } in
    let field : List ℕ = command_field c.args.l command in
    let packet : List ℕ = framed field in
    let counted : length field ≡ c.field_size-size.result = length-field c.args.l command ∙ sym c.field_size-size.ensures in
    let long : length packet ≡ c.field_size-size.result + 12 = length-framed field ∙ ap (λ (n : ℕ). n + 12) counted in
    let short : length c.args.out.now < length packet = omega (arith, long) in
    record { result_value = ap Err c.of.ensures ∙ sym (writing-short packet c.args.out.now short); out_after = sym (leaving-short packet c.args.out.now short) }

pub returns : goal.returns
unfolding planned on_accepted
returns c =
    let command : Command = let a = c.args in
    record { codec = a.l.codec; type = a.kind; imei = a.imei; time = given_time a.l a.time; text = a.text.now } in
    let field : List ℕ = command_field c.args.l command in
    let packet : List ℕ = framed field in
    let counted : length field ≡ c.field_size-size.result = length-field c.args.l command ∙ sym c.field_size-size.ensures in
    let long : length packet ≡ c.field_size-size.result + 12 = length-framed field ∙ ap (λ (n : ℕ). n + 12) counted in
    let a = c.args in
    let out = a.out.now in
    let n = c.field_size-size.result in
    let room : length packet ≤ length out = omega (arith, long) in
    let field_put = c.put_field.ensures ∙ ap (λ (t : ℕ). sets out 8 (command_field a.l (record { codec = a.l.codec; type = a.kind; imei = a.imei; time = t; text = a.text.now }))) c.given_time.ensures in
    let stored = c.put_frame.ensures ∙ ap (λ (m : List ℕ). sets m 0 (framed (take n (drop 8 m)))) field_put ∙ frame-stored out field n counted (omega arith) in
    record { result_value = ap Ok (sym long) ∙ sym (writing-done packet out room); out_after = stored ∙ sym (leaving-done packet out room) }
