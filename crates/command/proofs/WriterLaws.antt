-- A command packet written block by block: the body, the data field, the frame around it.
use Rattle.std.specs.Prelude.{Ok}
use Prim.Native.Nat.{ℕ, zero, suc, ◌+◌, ◌-◌, ◌*◌, ◌/◌, ◌%◌, ◌≤◌, ◌<◌}
use native.Mathlib.Nat.{not-suc-le-zero}
use native.Mathlib.Omega.{arith}
use mathlib.Core.Path.{◌≡◌, refl, sym, ap, ap₂, ◌∙◌}
use mathlib.Core.List.{List, [], ◌∷◌, ◌++◌}
use lib.ListN.{length, take, drop, set, length-append}
use lib.Seq.{sets, length-sets, take_at}
use Rattle.wire.specs.Numbers.{digits, be, value_from}
use Rattle.wire.specs.Sequences.{joined}
use Rattle.wire.specs.Reading.{Read, got, bad, Reader, and_then, ◌>>=◌, pure, repeat}
use Rattle.wire.specs.Answers.{told, unplaced, on_accepted}
use Rattle.wire.specs.Envelope.{enclosed}
use Rattle.wire.specs.Imei.{packed_pair, packed}
use Rattle.wire.proofs.BufferLaws.{sets-front}
use Rattle.wire.proofs.Storing.{sets-append, sets-snoc, drop-sets, drop-at-sets}
use Rattle.wire.proofs.ImeiPacked.{length-packed}
use Rattle.wire.proofs.Enclosed.{length-enclosed}
use Rattle.frame.specs.Frame.{framed}
use Rattle.frame.proofs.FrameLaws.{length-framed}
use Rattle.command.specs.declared.Layout.{Layout}
use Rattle.command.specs.Layouts.{heading}
use Rattle.command.specs.Commands.{Command, body_bytes, command_field}
use Rattle.command.proofs.CommandLaws.{length-heading}

-- ---- the IMEI

joined_snoc : (ds : List ℕ) (d : ℕ) → joined packed_pair (ds ++ (d ∷ [])) ≡ joined packed_pair ds ++ packed_pair d
joined_snoc [] d = refl
joined_snoc (x ∷ ds) d = ap (λ (l : List ℕ). (x / 10 * 16 + x % 10) ∷ l) (joined_snoc ds d)

-- what a loop has left to store
pub packed-left : (l : List ℕ) (at w n : ℕ) → 0 < w
    → sets l at (packed w n) ≡ sets (set l (at + (w - 1)) (n % 100 / 10 * 16 + n % 100 % 10)) at (packed (w - 1) (n / 100))
unfolding packed digits
packed-left l at zero n h = absurd (not-suc-le-zero h)
packed-left l at (suc w) n h =
    let size : length (packed w (n / 100)) ≡ suc w - 1 = omega (arith, length-packed w (n / 100)) in
    let left : w ≡ suc w - 1 = omega arith in
    ap (sets l at) (joined_snoc (digits 100 w (n / 100)) (n % 100))
    ∙ sets-snoc l at (packed w (n / 100)) (n % 100 / 10 * 16 + n % 100 % 10)
    ∙ ap₂ (λ (j k : ℕ). sets (set l (at + j) (n % 100 / 10 * 16 + n % 100 % 10)) at (packed k (n / 100))) size left

-- the number of the digits, read in one walk
pub told-value : (base n : ℕ) (m : Reader ℕ) (s : List ℕ) (at : ℕ)
    → unplaced (told 0 ((repeat n m >>= λ ds. pure (value_from base 0 ds)) s at)) ≡ on_accepted (unplaced (told 0 (repeat n m s at))) (λ ds. Ok (value_from base 0 ds))
unfolding ◌>>=◌ and_then pure told unplaced on_accepted
told-value base n m s at = go (repeat n m s at)
  where
    go : (r : Read (List ℕ)) → unplaced (told 0 (and_then r (λ ds next. pure (value_from base 0 ds) s next))) ≡ on_accepted (unplaced (told 0 r)) (λ ds. Ok (value_from base 0 ds))
    go (got ds next) = refl
    go (bad x) = refl

-- ---- the blocks

module _ (l : Layout) (c : Command) where
  pub length-body : length (body_bytes l c) ≡ 5 + heading l + length c.text
  unfolding digits
  length-body =
      let time = be l.time c.time in
      omega (arith, length-append (packed l.imei c.imei) (time ++ c.text), length-append time c.text, length-heading l c.imei c.time)

  pub length-field : length (command_field l c) ≡ 8 + heading l + length c.text
  unfolding command_field
  length-field = omega (arith, length-enclosed c.codec 1 (body_bytes l c), length-body)

  pub body-stored : (out : List ℕ)
      → sets (sets (sets (sets (sets out 10 (be 1 c.type)) 11 (be 4 (heading l + length c.text))) 15 (packed l.imei c.imei)) (15 + l.imei) (be l.time c.time)) (15 + heading l) c.text
      ≡ sets out 10 (body_bytes l c)
  unfolding digits
  body-stored out =
      let type = be 1 c.type in
      let size = be 4 (heading l + length c.text) in
      let imei = packed l.imei c.imei in
      let time = be l.time c.time in
      let out₁ = sets out 10 type in
      let out₂ = sets out₁ 11 size in
      let out₃ = sets out₂ 15 imei in
      let at : 15 + length imei ≡ 15 + l.imei = omega (arith, length-packed l.imei c.imei) in
      let start : 15 + length imei + length time ≡ 15 + heading l = omega (arith, length-heading l c.imei c.time) in
      sym (
      sets-append out 10 type (size ++ (imei ++ (time ++ c.text)))
      ∙ sets-append out₁ 11 size (imei ++ (time ++ c.text))
      ∙ sets-append out₂ 15 imei (time ++ c.text)
      ∙ sets-append out₃ (15 + length imei) time c.text
      ∙ ap₂ (λ (j k : ℕ). sets (sets out₃ j time) k c.text) at start
      )

  pub field_stored : (out : List ℕ)
      → sets (sets (sets (sets out 8 (be 1 c.codec)) 9 (be 1 1)) 10 (body_bytes l c)) (15 + heading l + length c.text) (be 1 1) ≡ sets out 8 (command_field l c)
  unfolding command_field enclosed digits
  field_stored out =
      let codec = be 1 c.codec in
      let one = be 1 1 in
      let body = body_bytes l c in
      let out₁ = sets out 8 codec in
      let out₂ = sets out₁ 9 one in
      let end : 10 + length body ≡ 15 + heading l + length c.text = omega (arith, length-body) in
      sym (
      sets-append out 8 codec (one ++ (body ++ one))
      ∙ sets-append out₁ 9 one (body ++ one)
      ∙ sets-append out₂ 10 body one
      ∙ ap (λ (k : ℕ). sets (sets out₂ 10 body) k one) end
      )

-- the frame around a field that was stored at 8
pub frame-stored : (out d : List ℕ) (n : ℕ) → length d ≡ n → n + 12 ≤ length out
    → sets (sets out 8 d) 0 (framed (take n (drop 8 (sets out 8 d)))) ≡ framed d ++ drop (length (framed d)) out
frame-stored out d n size h =
    let out₁ = sets out 8 d in
    let long = length-framed d in
    let field : take n (drop 8 out₁) ≡ d = ap (take n) (drop-at-sets out 8 d (omega arith)) ∙ take_at d (drop (8 + length d) out) n size in
    ap (λ (b : List ℕ). sets out₁ 0 (framed b)) field
    ∙ sets-front (framed d) out₁ (omega (arith, length-sets out 8 d))
    ∙ ap (λ (t : List ℕ). framed d ++ t) (drop-sets out 8 d (length (framed d)) (omega arith))
