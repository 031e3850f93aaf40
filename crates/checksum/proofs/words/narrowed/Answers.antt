use Prim.Native.Nat.{ℕ, ◌/◌}
use lib.Pow.{shr_lt}
use lib.Bits.{bit_xor, xor_lt}
use Rattle.checksum.proofs.FoldLaws.{narrow-alike}
use Rattle.checksum.proofs.words.narrowed.Goals as goal

pub overflow_cast-b : goal.overflow_cast-b
overflow_cast-b c = record { fits = shr_lt 32 32 (xor_lt 64 c.fold64.result c.args.high c.fold64.type_inv c.ranges.high.fits) }

pub overflow_cast-c : goal.overflow_cast-c
overflow_cast-c c =
    let n : ℕ = bit_xor c.fold64.result c.args.high in
    let half = shr_lt 32 32 (xor_lt 64 c.fold64.result c.args.high c.fold64.type_inv c.ranges.high.fits) in
    record { fits = shr_lt 16 16 (xor_lt 32 c.fold32.result (n / 4294967296) c.fold32.type_inv half) }

pub returns : goal.returns
returns c =
    narrow-alike c.args.low c.args.high
    c.fold64.result c.fold32.result c.fold16.result c.fold16-2.result
    c.fold64.ensures c.fold32.ensures c.fold16.ensures c.fold16-2.ensures
