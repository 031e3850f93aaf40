use Prim.Native.Nat.{ℕ}
use native.Mathlib.Omega.{arith}
use mathlib.Core.Path.{◌≡◌, sym, ap}
use lib.ListN.{get_or}
use Rattle.avl.specs.Codecs.{all_kinds}
use Rattle.walk.proofs.KindLaws.{shifted-kind}
use Rattle.walk.proofs.kind_at.Goals as goal

pub returns-then-k-lt4 : goal.returns-then-k-lt4
returns-then-k-lt4 c = shifted-kind c.args.k c.if-k-lt4.true

pub returns : goal.returns
returns c = let last : c.args.k ≡ 4 = omega arith in sym (ap (λ (k : ℕ). get_or all_kinds k 0) last)
