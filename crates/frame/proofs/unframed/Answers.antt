-- The tests of the judge, one by one.
use Rattle.std.specs.Prelude.{Ok}
use Rattle.frame.proofs.FramingLaws.{header-field, refused-header, behind-header}
use Rattle.frame.specs.Frame.{unframe, framing}
use Rattle.checksum.specs.Crc.{crc}
use Rattle.wire.specs.Answers.{check_at}
use borrow.Author.Tests.{le-leb, lt-leb, eq-eqb, ne_eqb}
use lib.Seq.{length-take-le}
use lib.ListN.{length-drop, take, drop}
use mathlib.Core.Path.{◌≡◌, sym, ap, ◌∙◌}
use mathlib.Core.List.{List}
use Prim.Native.Nat.{ℕ, ◌+◌, ◌-◌}
use native.Mathlib.Omega.{arith}
use Rattle.wire.proofs.Passing.{given_back}
use Rattle.frame.proofs.unframed.Goals as goal

-- the part that is lent is the data field
lent : (n : ℕ) (p : List ℕ) → crc (take (8 + n - 8) (drop 8 p)) ≡ crc (take n (drop 8 p))
lent n p = let size : 8 + n - 8 ≡ n = omega arith in ap (λ (k : ℕ). crc (take k (drop 8 p))) size

pub returns-then-largest-lt1 : goal.returns-then-largest-lt1
unfolding unframe framing check_at
returns-then-largest-lt1 c = simp (c.of.ensures, lt-leb _ _ c.if-largest-lt1.true)

pub returns-then-p-lt8 : goal.returns-then-p-lt8
unfolding unframe framing check_at
returns-then-p-lt8 c = simp (c.of-then-p-lt8.ensures, le-leb _ _ c.if-largest-lt1.false, lt-leb _ _ c.if-p-lt8.true)

pub returns-in_err-size : goal.returns-in_err-size
unfolding framing
returns-in_err-size c = given_back c.from_residual.ensures.1 ∙ sym (ap framing (refused-header c.args.largest c.args.p.now (sym c.in_err-size.ensures) c.if-largest-lt1.false c.if-p-lt8.false))

pub overflow_add-size : goal.overflow_add-size
overflow_add-size c = omega (arith, header-field c.args.largest c.args.p.now c.in_ok-size.size (sym c.in_ok-size.ensures))

pub returns-then-p-size : goal.returns-then-p-size
unfolding framing check_at
returns-then-p-size c = simp (c.of-then-p-size.ensures, behind-header c.args.largest c.args.p.now c.in_ok-size.size (sym c.in_ok-size.ensures) c.if-largest-lt1.false c.if-p-lt8.false, ne_eqb _ _ c.if-p-size.true)

pub returns-then-sum-crc16 : goal.returns-then-sum-crc16
unfolding framing check_at
returns-then-sum-crc16 c = let p = c.args.p.now in let n = c.in_ok-size.size in simp (c.at.ensures, behind-header c.args.largest p n (sym c.in_ok-size.ensures) c.if-largest-lt1.false c.if-p-lt8.false, eq-eqb _ _ c.if-p-size.false, ne_eqb _ _ (λ e. c.if-sum-crc16.true (c.be32-sum.ensures ∙ e ∙ sym (c.crc16.ensures ∙ lent n p))))

pub returns : goal.returns
unfolding framing check_at
returns c = let p = c.args.p.now in let n = c.in_ok-size.size in simp (behind-header c.args.largest p n (sym c.in_ok-size.ensures) c.if-largest-lt1.false c.if-p-lt8.false, eq-eqb _ _ c.if-p-size.false, eq-eqb _ _ (sym c.be32-sum.ensures ∙ c.if-sum-crc16.false ∙ c.crc16.ensures ∙ lent n p)) (ap Ok (sym (length-take-le n (drop 8 p) (omega (arith, length-drop 8 p, c.if-p-size.false)))))
