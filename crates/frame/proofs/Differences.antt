-- How two equally long frames can differ: never in an odd number of bits, and, where their CRC fields agree, never in one
-- byte or two neighbouring bytes of the data field only.
use Prim.Native.Nat.{ℕ, suc, ◌+◌, ◌-◌, ◌%◌, ◌^◌, ◌<◌}
use native.Mathlib.Nat.{lt_of_lt_of_le}
use native.Mathlib.Omega.{arith}
use mathlib.Core.Path.{◌≡◌, sym, ap, ap₂, ◌∙◌}
use mathlib.Core.List.{List, ◌++◌, append_assoc}
use lib.ListN.{length, drop, get_or, length-append}
use lib.Dec.{lit≤, lit<}
use lib.Seq.{drop_at}
use Rattle.wire.specs.Numbers.{Bytes, value_from, be}
use Rattle.wire.proofs.Widths.{length_digits, value-digits}
use Rattle.checksum.specs.Crc.{crc}
use Rattle.checksum.specs.Bits.{ones_of, differing}
use Rattle.checksum.proofs.CrcLaws.{crc-lt, neighbours}
use Rattle.checksum.proofs.BitLaws.{ones_of-append, differing-parity, crc-parity}
use Rattle.frame.specs.Frame.{framed, last_four}
use Rattle.frame.proofs.FrameLaws.{length-framed}

-- what a frame's data field and CRC add to the bits of its head is even
even-tail : (d : List ℕ) → Bytes d → ones_of (d ++ be 4 (crc d)) % 2 ≡ 0
even-tail d h = ap (λ (n : ℕ). n % 2) (ones_of-append d (be 4 (crc d))) ∙ crc-parity d h

even_sum : (a x y : ℕ) → x % 2 ≡ 0 → y % 2 ≡ 0 → ((a + x) + (a + y)) % 2 ≡ 0
even_sum a x y h k = omega arith

head : ℕ → List ℕ
head n = be 4 0 ++ be 4 n

framed-head : (d : List ℕ) → framed d ≡ head (length d) ++ (d ++ be 4 (crc d))
unfolding framed head
framed-head d = sym (append_assoc (be 4 0) (be 4 (length d)) (d ++ be 4 (crc d)))

pub even-difference : (d e : List ℕ) → Bytes d → Bytes e → length d ≡ length e → differing (framed d) (framed e) % 2 ≡ 0
even-difference d e h k l =
    let long : length (framed d) ≡ length (framed e) = omega (arith, length-framed d, length-framed e) in
    let left = ap ones_of (framed-head d) ∙ ones_of-append (head (length d)) (d ++ be 4 (crc d)) in
    let right = ap ones_of (framed-head e) ∙ ones_of-append (head (length e)) (e ++ be 4 (crc e)) ∙ ap (λ (n : ℕ). ones_of (head n) + ones_of (e ++ be 4 (crc e))) (sym l) in
    differing-parity (framed d) (framed e) long
    ∙ ap₂ (λ (a b : ℕ). (a + b) % 2) left right
    ∙ even_sum (ones_of (head (length d))) (ones_of (d ++ be 4 (crc d))) (ones_of (e ++ be 4 (crc e))) (even-tail d h) (even-tail e k)

last-framed : (d : List ℕ) → last_four (framed d) ≡ be 4 (crc d)
unfolding last_four
last-framed d =
    let front = head (length d) ++ d in
    let parts : framed d ≡ front ++ be 4 (crc d) = framed-head d ∙ sym (append_assoc (head (length d)) d (be 4 (crc d))) in
    ap (λ (l : List ℕ). drop (length l - 4) l) parts
    ∙ drop_at front (be 4 (crc d)) (length (front ++ be 4 (crc d)) - 4) (omega (arith, length-append front (be 4 (crc d)), length_digits 256 4 (crc d)))

same-crc : (d e : List ℕ) → Bytes d → Bytes e → last_four (framed d) ≡ last_four (framed e) → crc d ≡ crc e
same-crc d e h k l =
    let fits : (s : List ℕ) → Bytes s → crc s < 256 ^ 4 = λ s b. lt_of_lt_of_le (crc-lt s b) (lit≤ tt) in
    sym (value-digits 256 4 (crc d) (lit< tt) (fits d h))
    ∙ ap (value_from 256 0) (sym (last-framed d) ∙ l ∙ last-framed e)
    ∙ value-digits 256 4 (crc e) (lit< tt) (fits e k)

pub no-neighbours : (d e : List ℕ) (i : ℕ) → Bytes d → Bytes e → length d ≡ length e → last_four (framed d) ≡ last_four (framed e)
    → ((j : ℕ) → (j ≡ i → ⊥) → (j ≡ suc i → ⊥) → get_or d j 0 ≡ get_or e j 0) → d ≡ e
no-neighbours d e i h k l c agree = neighbours d e i h k l agree (same-crc d e h k c)
