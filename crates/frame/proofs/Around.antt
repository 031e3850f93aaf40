-- A frame stored around the data field that stands at 8.
use Prim.Native.Nat.{ℕ, ◌+◌, ◌≤◌}
use native.Mathlib.Omega.{arith}
use mathlib.Core.Path.{◌≡◌, sym, ap, ap₂, ◌∙◌}
use mathlib.Core.List.{List, ◌++◌}
use lib.ListN.{length, take, drop, length-drop}
use lib.Seq.{sets, length-sets, length-take-le}
use Rattle.wire.specs.Numbers.{digits, be}
use Rattle.wire.proofs.Storing.{sets-append, drop-sets, sets_same}
use Rattle.checksum.specs.Crc.{crc}
use Rattle.frame.specs.Frame.{framed}

pub framed-around : (l : List ℕ) (n : ℕ) → n + 12 ≤ length l → let d = take n (drop 8 l) in
    sets (sets (sets l 0 (be 4 0)) 4 (be 4 n)) (8 + n) (be 4 (crc d)) ≡ sets l 0 (framed d)
unfolding framed digits
framed-around l n h =
    let d = take n (drop 8 l) in
    let sum = be 4 (crc d) in
    let l₁ = sets l 0 (be 4 0) in
    let l₂ = sets l₁ 4 (be 4 n) in
    let size : length d ≡ n = length-take-le n (drop 8 l) (omega (arith, length-drop 8 l)) in
    let same : drop 8 l₂ ≡ drop 8 l = drop-sets l₁ 4 (be 4 n) 8 (omega arith) ∙ drop-sets l 0 (be 4 0) 8 (omega arith) in
    let room : 8 + n ≤ length l₂ = omega (arith, length-sets l₁ 4 (be 4 n), length-sets l 0 (be 4 0)) in
    let field : sets l₂ 8 d ≡ l₂ = ap (λ (s : List ℕ). sets l₂ 8 (take n s)) (sym same) ∙ sets_same l₂ 8 n room in
    sym (
    sets-append l 0 (be 4 0) (be 4 (length d) ++ (d ++ sum))
    ∙ ap (λ (k : ℕ). sets l₁ 4 (be 4 k ++ (d ++ sum))) size
    ∙ sets-append l₁ 4 (be 4 n) (d ++ sum)
    ∙ sets-append l₂ 8 d sum
    ∙ ap₂ (λ (s : List ℕ) (k : ℕ). sets s (8 + k) sum) field size
    )
