-- The frame's judge accepts exactly what keeps the frame's rules.
use Rattle.std.specs.Prelude.{Ok}
use Prim.Native.Nat.{ℕ, ◌+◌, ◌^◌, ◌≤◌, ◌<◌}
use native.Mathlib.Nat.{lt_of_lt_of_le}
use native.Mathlib.Omega.{arith}
use mathlib.Core.Path.{◌≡◌, refl, sym, ap, ◌∙◌, subst}
use mathlib.Core.Logic.{◌↔◌}
use mathlib.Core.List.{List, ◌++◌}
use lib.ListN.{length, take, drop, length-append, length-drop}
use lib.Seq.{length-take-le}
use lib.Dec.{lit<, lit≤}
use borrow.Author.Tests.{le-leb, leb-true, eq-eqb, eqb-true}
use Rattle.wire.specs.Numbers.{Bytes, number_at, digits, be}
use Rattle.wire.proofs.Widths.{be-number, number-be, number_lt, length_digits, bytes_take, bytes_drop, bytes-append, bytes-be}
use Rattle.wire.proofs.Placed.{Between, between_join, between_split, between-moved, between-bytes, between-take, between_is, between-whole, whole-between}
use Rattle.wire.proofs.Accepting.{check-accepted, check-passed}
use Rattle.checksum.specs.Crc.{crc}
use Rattle.checksum.proofs.CrcLaws.{crc-lt}
use Rattle.frame.specs.Frame.{framed, FrameRules, field_length, field_of, unframe}

-- a number stands where it is read
stands : (s : List ℕ) (at w : ℕ) → Bytes s → at + w ≤ length s → Between s at (be w (number_at s at w)) (at + w)
stands s at w h f = record { layout = be-number w s at h f; inside = f; size = ap (λ (k : ℕ). at + k) (sym (length_digits 256 w _)) }

pub length-framed : (d : List ℕ) → length (framed d) ≡ length d + 12
unfolding framed
length-framed d =
    omega (
      arith,
      length-append (be 4 0) (be 4 (length d) ++ (d ++ be 4 (crc d))),
      length-append (be 4 (length d)) (d ++ be 4 (crc d)),
      length-append d (be 4 (crc d)),
      length_digits 256 4 0,
      length_digits 256 4 (length d),
      length_digits 256 4 (crc d),
    )

pub bytes-framed : (d : List ℕ) → Bytes d → Bytes (framed d)
unfolding framed
bytes-framed d h =
    bytes-append (be 4 0) _ (bytes-be 4 0)
    (bytes-append (be 4 (length d)) _ (bytes-be 4 (length d)) (bytes-append d (be 4 (crc d)) h (bytes-be 4 (crc d))))

length-field : (p : List ℕ) → length p ≡ field_length p + 12 → length (field_of p) ≡ field_length p
unfolding field_of
length-field p e = length-take-le (field_length p) (drop 8 p) (subst (λ (k : ℕ). field_length p ≤ k) (sym (length-drop 8 p)) (omega arith))

-- a packet whose parts are right is the frame of its data field
whole-frame : (p : List ℕ) → Bytes p → number_at p 0 4 ≡ 0 → length p ≡ field_length p + 12 → number_at p (8 + field_length p) 4 ≡ crc (field_of p)
    → p ≡ framed (field_of p)
unfolding framed field_of field_length
whole-frame p h zeros long sum =
    let n = field_length p in
    let zero-bytes = between-bytes (ap (be 4) zeros) (stands p 0 4 h (omega arith)) in
    let size = between-bytes (ap (be 4) (sym (length-field p long))) (stands p 4 4 h (omega arith)) in
    let field = between-take p 8 n (omega arith) in
    let check = between-moved {n = length p} refl (omega arith) (between-bytes (ap (be 4) sum) (stands p (8 + n) 4 h (omega arith))) in
    whole-between (between_join zero-bytes (between_join size (between_join field check)))

bytes-field : (p : List ℕ) → Bytes p → Bytes (field_of p)
unfolding field_of
bytes-field p h = bytes_take (field_length p) (drop 8 p) (bytes_drop 8 p h)

counted : (p : List ℕ) → Bytes p → field_length p < 256 ^ 4
unfolding field_length
counted p h = number_lt p 4 4 h

frame-sound : (largest : ℕ) (p d : List ℕ) → Bytes p → unframe largest p ≡ Ok d → FrameRules largest d × (p ≡ framed d)
unfolding unframe
frame-sound largest p d h e =
    let c₀ = check-accepted _ 21 _ _ e in
    let c₁ = check-accepted _ 1 _ _ c₀.1 in
    let c₂ = check-accepted _ 2 _ _ c₁.1 in
    let c₃ = check-accepted _ 3 _ _ c₂.1 in
    let c₄ = check-accepted _ 3 _ _ c₃.1 in
    let c₅ = check-accepted _ 4 _ _ c₄.1 in
    let c₆ = check-accepted _ 5 _ _ c₅.1 in
    let long : length p ≡ field_length p + 12 = eqb-true _ _ c₅.0 in
    let size = length-field p long in
    let least : 3 ≤ field_length p = leb-true _ _ c₃.0 in
    let most : field_length p + 12 ≤ largest = leb-true _ _ c₄.0 in
    let field : field_of p ≡ d = cc in
    subst (λ (x : List ℕ). FrameRules largest x × (p ≡ framed x)) field (
      record {
        bytes = bytes-field p h;
        least = omega (arith, size, least);
        most = omega (arith, size, most);
        counted = omega (arith, size, counted p h);
      },
      whole-frame p h (eqb-true _ _ c₂.0) long (eqb-true _ _ c₆.0),
    )

-- what stands at the front of a list that begins with a frame
pub record Parts (d s : List ℕ) : Type 0 where
  pub zeros : number_at s 0 4 ≡ 0
  pub size : field_length s ≡ length d
  pub field : field_of s ≡ d
  pub sum : number_at s (8 + length d) 4 ≡ crc d

pub parts : (d s : List ℕ) (n : ℕ) → Bytes d → length d < 256 ^ 4 → Between s 0 (framed d) n → Parts d s
unfolding framed field_length field_of digits
parts d s n b h f =
    let f₁ = between_split (be 4 0) f in
    let f₂ = between_split (be 4 (length d)) f₁.1 in
    let f₃ = between_split d f₂.1 in
    let size = number-be 4 (length d) s 4 _ h f₂.0.layout in
    record {
      zeros = number-be 4 0 s 0 _ (lit< tt) f₁.0.layout;
      size = size;
      field = ap (λ (k : ℕ). take k (drop 8 s)) size ∙ between_is f₃.0;
      sum = number-be 4 (crc d) s (8 + length d) _ (lt_of_lt_of_le (crc-lt d b) (lit≤ tt)) f₃.1.layout;
    }

pub frame-complete : (largest : ℕ) (d : List ℕ) → FrameRules largest d → unframe largest (framed d) ≡ Ok d
unfolding unframe
frame-complete largest d h =
    let s = framed d in
    let k = parts d s (length s) h.bytes h.counted (between-whole s) in
    let long = length-framed d in
    check-passed _ 21 _ _ (le-leb 1 largest (omega (arith, h.most)))
    ∙ check-passed _ 1 _ _ (le-leb _ (length s) (omega arith))
    ∙ check-passed _ 2 _ _ (eq-eqb _ _ k.zeros)
    ∙ check-passed _ 3 _ _ (le-leb _ (field_length s) (omega (arith, k.size, h.least)))
    ∙ check-passed _ 3 _ _ (le-leb _ largest (omega (arith, k.size, h.most)))
    ∙ check-passed _ 4 _ _ (eq-eqb (length s) _ (omega (arith, k.size, long)))
    ∙ check-passed _ 5 _ _ (eq-eqb _ _ (ap (λ (n : ℕ). number_at s (8 + n) 4) k.size ∙ k.sum ∙ ap crc (sym k.field)))
    ∙ ap Ok k.field

-- the judge accepts exactly the frames that keep the rules
pub frame-exact : (largest : ℕ) (p d : List ℕ) → Bytes p → (unframe largest p ≡ Ok d) ↔ (FrameRules largest d × (p ≡ framed d))
frame-exact largest p d h = (frame-sound largest p d h, λ k. ap (unframe largest) k.1 ∙ frame-complete largest d k.0)
