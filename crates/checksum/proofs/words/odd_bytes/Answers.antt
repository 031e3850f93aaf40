use Prim.Native.Nat.{ℕ, ◌-◌, ◌*◌, ◌%◌, ◌^◌}
use native.Mathlib.Nat.{mod-lt}
use native.Mathlib.Omega.{arith}
use mathlib.Core.Path.{ap}
use lib.ListN.{length}
use lib.Pow.{pow_pos}
use Rattle.wire.proofs.Widths.{get_d-bytes}
use Rattle.checksum.proofs.WordLaws.{odd-bytes}
use Rattle.checksum.proofs.words.odd_bytes.Goals as goal

pub returns : goal.returns
returns c =
    let s = c.args.s.now in
    let q = length s % 8 in
    let moved : ℕ → ℕ = λ (n : ℕ). n * 2 ^ (56 - 8 * q) % 2 ^ 64 * 2 ^ 8 % 2 ^ 64 in (
      omega arith,
      omega arith,
      odd-bytes s q (moved c.le64.result) (get_d-bytes s (λ i. (c.type_inv.s i).fits)) (omega arith) (omega arith)
          (mod-lt (c.le64.result * 2 ^ (56 - 8 * q) % 2 ^ 64 * 2 ^ 8) (pow_pos 64)) (ap moved c.le64.ensures),
    )
