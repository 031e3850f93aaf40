-- The blocks, one behind the other.
use Prim.Native.Nat.{ℕ, ◌+◌}
use mathlib.Core.Path.{ap, ◌∙◌}
use mathlib.Core.List.{List}
use lib.Seq.{sets}
use lib.ListN.{length}
use Rattle.wire.specs.Imei.{packed}
use Rattle.wire.specs.Numbers.{be}
use Rattle.command.specs.Layouts.{heading}
use Rattle.command.proofs.WriterLaws.{body-stored}
use Rattle.command.proofs.put_body.Goals as goal

pub returns : goal.returns
returns c =
    let a = c.args in
    let l = a.l in
    let text = a.text.now in
    let head = c.put_be-2.ensures ∙ ap (λ (m : List ℕ). sets m 11 (be 4 (heading l + length text))) c.put_be.ensures in
    let imei = c.put_packed.ensures ∙ ap (λ (m : List ℕ). sets m 15 (packed l.imei a.imei)) head in
    let time = c.put_be-3.ensures ∙ ap (λ (m : List ℕ). sets m (15 + l.imei) (be l.time a.time)) imei in
    c.put_bytes.ensures ∙ ap (λ (m : List ℕ). sets m (15 + heading l) text) time
    ∙ body-stored l (record { codec = l.codec; type = a.kind; imei = a.imei; time = a.time; text = text }) a.out.now
