use Rattle.std.specs.Prelude.{Err}
use Rattle.datagram.proofs.WalkLaws.{header-unknown, header-short, header-large, header-length, header-read}
use Rattle.datagram.specs.Datagrams.{header_as}
use mathlib.Core.Path.{sym, ap, ◌∙◌}
use Prim.Native.Nat.{ℕ, ◌+◌}
use Rattle.datagram.proofs.read_header.Goals as goal

pub returns-then-largest-lt1 : goal.returns-then-largest-lt1
unfolding header_as
returns-then-largest-lt1 c = ap (λ r. header_as c.args.p.now (Err r)) c.of.ensures ∙ sym (header-unknown c.args.largest c.args.p.now c.if-largest-lt1.true)

pub returns-then-p-lt26 : goal.returns-then-p-lt26
unfolding header_as
returns-then-p-lt26 c = ap (λ r. header_as c.args.p.now (Err r)) c.of-then-p-lt26.ensures ∙ sym (header-short c.args.largest c.args.p.now c.if-largest-lt1.false c.if-p-lt26.true)

pub returns-then-largest-p : goal.returns-then-largest-p
unfolding header_as
returns-then-largest-p c = ap (λ r. header_as c.args.p.now (Err r)) c.of-then-largest-p.ensures ∙ sym (header-large c.args.largest c.args.p.now c.if-largest-lt1.false c.if-p-lt26.false c.if-largest-p.true)

pub returns-then-p-size : goal.returns-then-p-size
unfolding header_as
returns-then-p-size c = ap (λ r. header_as c.args.p.now (Err r)) c.of-then-p-size.ensures ∙ sym (header-length c.args.largest c.args.p.now c.if-largest-lt1.false c.if-p-lt26.false c.if-largest-p.false (λ e. c.if-p-size.true (e ∙ ap (λ (n : ℕ). n + 2) (sym c.be16-size.ensures))))

pub returns : goal.returns
returns c = ap (header_as c.args.p.now) c.read_imei.ensures ∙ header-read c.args.largest c.args.p.now c.if-largest-lt1.false c.if-p-lt26.false c.if-largest-p.false (c.if-p-size.false ∙ ap (λ (n : ℕ). n + 2) c.be16-size.ensures)
