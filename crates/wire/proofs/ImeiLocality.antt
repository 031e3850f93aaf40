-- An IMEI is decided by the bytes up to its length, if that is wrong, else up to its first wrong digit.
use Prim.Native.Nat.{ℕ, zero, suc, ◌+◌, ◌≤◌}
use native.Mathlib.Omega.{arith}
use mathlib.Core.Path.{◌≡◌}
use mathlib.Core.List.{List}
use lib.ListN.{length}
use Rattle.wire.specs.declared.Refusal.{Refusal}
use Rattle.wire.specs.Reading.{repeat}
use Rattle.wire.specs.Answers.{refusal_at}
use Rattle.wire.specs.Imei.{text_digit, read_imei, pair_up_to, read_packed}
use Rattle.wire.proofs.Walking.{short}
use Rattle.wire.proofs.Locality.{Local, local-then, local-pure, local-here, local-require, local-field, local-repeat}

-- `from` is where a digit may be the first wrong one
module _ {width : List ℕ → Refusal → ℕ} (s : List ℕ) (missing : (at : ℕ) → width s (short at) ≡ 0) (from : ℕ) (digit : (at : ℕ) → from ≤ at → width s (refusal_at 15 at) ≡ 1) where
  module _ (at : ℕ) (k : from ≤ at) (h : at ≤ length s) where
    digit-local : Local width text_digit s at
    unfolding text_digit
    digit-local =
        local-here s at h _ (local-field s missing at h 1 _ (λ there.
        local-require s (at + 1) there _ 15 at _ (λ _. omega (arith, digit at k, there)) (λ _. local-pure s (at + 1) there _)))

    pair-local : (most : ℕ) → Local width (pair_up_to most) s at
    unfolding pair_up_to
    pair-local most =
        local-here s at h _ (local-field s missing at h 1 _ (λ there.
        local-require s (at + 1) there _ 15 at _ (λ _. omega (arith, digit at k, there)) (λ _. local-pure s (at + 1) there _)))

  pub imei-local : (at : ℕ) → at ≤ length s → from ≡ at + 2 → width s (refusal_at 15 at) ≡ 2 → Local width read_imei s at
  unfolding read_imei
  imei-local at h start two =
      local-here s at h _ (local-field s missing at h 2 _ (λ there.
      local-require s (at + 2) there _ 15 at _ (λ _. omega (arith, two, there)) (λ _.
      local-then (repeat 15 text_digit) _ s (at + 2) (local-repeat text_digit s from digit-local 15 (at + 2) (omega (arith, start)) there) (λ ds end e one there.
      local-pure s end there _))))

  pub packed-local : (w at : ℕ) → at ≤ length s → from ≤ at → Local width (read_packed w) s at
  unfolding read_packed
  packed-local zero at h i = local-pure s at h 0
  packed-local (suc w) at h i =
      local-then (pair_up_to 0) _ s at (pair-local at i h 0) (λ d mid e one two.
      local-then (repeat w (pair_up_to 9)) _ s mid (local-repeat (pair_up_to 9) s from (λ a b c. pair-local a b c 9) w mid (omega (arith, i, one)) two) (λ ds end f three four.
      local-pure s end four _))
