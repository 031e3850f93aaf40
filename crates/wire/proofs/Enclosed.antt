-- The parts of a data field make it up, and a data field has the parts that it was made of.
use Prim.Native.Nat.{ℕ, suc, ◌+◌, ◌-◌, ◌≤◌, ◌<◌}
use native.Mathlib.Nat.{not-suc-le-zero, le_of_suc-le-suc}
use native.Mathlib.Omega.{arith}
use mathlib.Core.Path.{◌≡◌, refl, sym, ap, ap₂, ◌∙◌}
use mathlib.Core.List.{List, [], ◌∷◌, ◌++◌}
use lib.ListN.{length, take, drop, get_or, length-append}
use lib.Seq.{take-suc, take-length, take_at, get_or_at}
use Rattle.wire.specs.Numbers.{Bytes, be, digits}
use Rattle.wire.specs.Envelope.{enclosed, codec_of, first_count, last_count, inner}
use Rattle.wire.proofs.Widths.{bytes-get_d, bytes_take, bytes_drop, bytes-append, bytes-be, one_byte, length_digits}

-- all but the last element, and the last
split-last : (x : ℕ) (l : List ℕ) → x ∷ l ≡ take (length l) (x ∷ l) ++ (get_or (x ∷ l) (length l) 0 ∷ [])
split-last x l = sym (take-length (x ∷ l)) ∙ take-suc (x ∷ l) (length l) 0 (omega arith)

-- of bytes, an envelope is its parts
plain : ℕ → ℕ → List ℕ → List ℕ
plain codec count body = codec ∷ count ∷ (body ++ (count ∷ []))

enclosed-plain : (codec count : ℕ) (body : List ℕ) → codec < 256 → count < 256 → enclosed codec count body ≡ plain codec count body
unfolding enclosed plain
enclosed-plain codec count body h k = simp (one_byte codec h, one_byte count k)

plain-parts : (d : List ℕ) → 3 ≤ length d → first_count d ≡ last_count d → d ≡ plain (codec_of d) (first_count d) (inner d)
unfolding plain codec_of first_count last_count inner
plain-parts [] h e = absurd (not-suc-le-zero h)
plain-parts (a ∷ []) h e = absurd (not-suc-le-zero (le_of_suc-le-suc h))
plain-parts (a ∷ b ∷ []) h e = absurd (not-suc-le-zero (le_of_suc-le-suc (le_of_suc-le-suc h)))
plain-parts (a ∷ b ∷ x ∷ l) h e =
    let n : suc (suc (suc (length l))) - 3 ≡ length l = omega arith in
    let m : suc (suc (suc (length l))) - 1 ≡ suc (suc (length l)) = omega arith in
    let last : b ≡ get_or (x ∷ l) (length l) 0 = e ∙ ap (λ (k : ℕ). get_or (a ∷ b ∷ x ∷ l) k 0) m in
    ap (λ (t : List ℕ). a ∷ b ∷ t) (split-last x l ∙ ap₂ (λ (k y : ℕ). take k (x ∷ l) ++ (y ∷ [])) (sym n) (sym last))

pub bytes-inner : (d : List ℕ) → Bytes d → Bytes (inner d)
unfolding inner
bytes-inner d h = bytes_take (length d - 3) (drop 2 d) (bytes_drop 2 d h)

pub first-lt : (d : List ℕ) → Bytes d → first_count d < 256
unfolding first_count
first-lt d h = bytes-get_d d 1 h

codec-lt : (d : List ℕ) → Bytes d → codec_of d < 256
unfolding codec_of
codec-lt d h = bytes-get_d d 0 h

pub enclosed-parts : (d : List ℕ) → Bytes d → 3 ≤ length d → first_count d ≡ last_count d → d ≡ enclosed (codec_of d) (first_count d) (inner d)
enclosed-parts d h l e = plain-parts d l e ∙ sym (enclosed-plain (codec_of d) (first_count d) (inner d) (codec-lt d h) (first-lt d h))

pub length-enclosed : (codec count : ℕ) (body : List ℕ) → length (enclosed codec count body) ≡ length body + 3
unfolding enclosed digits
length-enclosed codec count body = omega (arith, length-append body (be 1 count), length_digits 256 1 count)

pub bytes-enclosed : (codec count : ℕ) (body : List ℕ) → Bytes body → Bytes (enclosed codec count body)
unfolding enclosed
bytes-enclosed codec count body h =
    bytes-append (be 1 codec) _ (bytes-be 1 codec) (bytes-append (be 1 count) _ (bytes-be 1 count) (bytes-append body (be 1 count) h (bytes-be 1 count)))

module _ (codec count : ℕ) (body : List ℕ) (small : codec < 256) (few : count < 256) where
  same : enclosed codec count body ≡ plain codec count body
  same = enclosed-plain codec count body small few

  pub codec-enclosed : codec_of (enclosed codec count body) ≡ codec
  unfolding plain codec_of
  codec-enclosed = ap codec_of same

  pub first-enclosed : first_count (enclosed codec count body) ≡ count
  unfolding plain first_count
  first-enclosed = ap first_count same

  pub last-enclosed : last_count (enclosed codec count body) ≡ count
  unfolding plain last_count
  last-enclosed =
      ap last_count same ∙ ap (λ (k : ℕ). get_or (codec ∷ count ∷ (body ++ (count ∷ []))) k 0) place ∙ get_or_at body count [] 0 (length body) refl
    where
      place : suc (suc (length (body ++ (count ∷ [])))) - 1 ≡ suc (suc (length body))
      place = omega (arith, length-append body (count ∷ []))

  pub inner-enclosed : inner (enclosed codec count body) ≡ body
  unfolding plain inner
  inner-enclosed = ap inner same ∙ ap (λ (k : ℕ). take k (body ++ (count ∷ []))) size ∙ take_at body (count ∷ []) (length body) refl
    where
      size : suc (suc (length (body ++ (count ∷ [])))) - 3 ≡ length body
      size = omega (arith, length-append body (count ∷ []))
