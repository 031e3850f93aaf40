use lib.Bits.{bit_or}
use Rattle.connection.proofs.PaddedLaws.{union-on, union-done}
use Rattle.connection.specs.State.{is_zero}
use Rattle.wire.specs.Numbers.{pick}
use lib.Dec.{eqb}
use lib.Seq.{drop-cons}
use lib.ListN.{drop, get_or, drop_of_length-le}
use mathlib.Core.List.{[]}
use mathlib.Core.Bool.{false}
use mathlib.Core.Path.{◌≡◌, refl, sym, ap, ◌∙◌}
use Prim.Native.Nat.{ℕ, suc, ◌+◌}
use native.Mathlib.Omega.{arith}
use Rattle.connection.proofs.union.Goals as goal

pub loop-b-init : goal.loop-b-init
loop-b-init c = refl

pub loop-b-preserved : goal.loop-b-preserved
loop-b-preserved c =
    let i = c.loop-b.b-index in
    let s = c.args.s.now in
    let next : i + 1 ≡ suc i = omega arith in
    ap (λ (k : ℕ). pick (eqb (bit_or c.loop-b.all (get_or s i 0)) 0) (is_zero (drop k s)) false) next
    ∙ union-on c.loop-b.all (get_or s i 0) (drop (suc i) s)
    ∙ ap (λ l. pick (eqb c.loop-b.all 0) (is_zero l) false) (sym (drop-cons s i 0 c.loop-b-test.true))
    ∙ c.loop-b.invariant

pub returns : goal.returns
returns c =
    let done : drop c.loop-b.b-index c.args.s.now ≡ [] = drop_of_length-le c.args.s.now {i = c.loop-b.b-index} (omega arith) in
    sym (union-done c.loop-b.all) ∙ ap (λ l. pick (eqb c.loop-b.all 0) (is_zero l) false) (sym done) ∙ c.loop-b.invariant
