-- The blocks around the data field, and its CRC.
use Prim.Native.Nat.{ℕ, ◌+◌, ◌-◌}
use native.Mathlib.Omega.{arith}
use mathlib.Core.Path.{◌≡◌, ap, ap₂, ◌∙◌}
use mathlib.Core.List.{List}
use lib.Seq.{sets}
use lib.ListN.{take, drop}
use Rattle.wire.specs.Numbers.{be}
use Rattle.checksum.specs.Crc.{crc}
use Rattle.frame.proofs.Around.{framed-around}
use Rattle.frame.proofs.put_frame.Goals as goal

pub returns : goal.returns
returns c =
    let l = c.args.out.now in
    let n = c.args.size in
    let size : 8 + n - 8 ≡ n = omega arith in
    let head = c.put_be-2.ensures ∙ ap (λ (m : List ℕ). sets m 4 (be 4 n)) c.put_be.ensures in
    let sum = c.crc16-sum.ensures ∙ ap (λ (k : ℕ). crc (take k (drop 8 l))) size in
    c.put_be-3.ensures ∙ ap₂ (λ (m : List ℕ) (s : ℕ). sets m (8 + n) (be 4 s)) head sum ∙ framed-around l n c.requires
