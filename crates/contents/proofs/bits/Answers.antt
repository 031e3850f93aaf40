use Rattle.contents.specs.Words.{bits}
use Rattle.std.proofs.Math.Pow.{pow-lt}
use mathlib.Core.Path.{◌≡◌, ap}
use native.Mathlib.Omega.{arith}
use Prim.Native.Nat.{ℕ, ◌*◌, ◌/◌, ◌%◌, ◌^◌}
use Rattle.contents.proofs.bits.Goals as goal

pub returns-clause-value : goal.returns-clause-value
unfolding bits
returns-clause-value c = let whole : 1 * 2 ^ c.args.n % 2 ^ 64 ≡ 2 ^ c.args.n = omega (arith, pow-lt {i = c.args.n} {j = 64} c.requires.1) in
    ap (λ (k : ℕ). c.args.word / 2 ^ c.args.at % k) whole
