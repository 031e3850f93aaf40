-- Which way the reading of a command's data field goes.
use Rattle.std.specs.Prelude.{Err, Ok}
use Prim.Native.Nat.{ℕ, ◌+◌, ◌-◌, ◌≤◌}
use native.Mathlib.Omega.{arith}
use mathlib.Core.Path.{◌≡◌, refl, ap, ◌∙◌}
use mathlib.Core.List.{List}
use lib.ListN.{length, drop, length-drop}
use lib.Seq.{length-take-le}
use borrow.Author.Tests.{eq-eqb, ne_eqb}
use Rattle.wire.specs.declared.Refusal.{Refusal}
use Rattle.wire.specs.Numbers.{Bytes}
use Rattle.wire.specs.Reading.{Read, got, bad}
use Rattle.wire.specs.Answers.{check_at, from, told, on_accepted, refusal, refusal_at}
use Rattle.wire.specs.Envelope.{codec_of, first_count, last_count, inner}
use Rattle.wire.proofs.Enclosed.{bytes-inner}
use Rattle.wire.proofs.Accepting.{from-passed, told-got}
use Rattle.command.specs.declared.Layout.{Layout}
use Rattle.command.specs.declared.Body.{Body}
use Rattle.command.specs.Layouts.{layout_of, heading}
use Rattle.command.specs.Commands.{Command, command_body, read_field, answered}
use Rattle.command.specs.Walks.{body_as}
use Rattle.command.proofs.CommandLaws.{layout-codec, body-sound}
use Rattle.command.proofs.OffendingLaws.{body-local}
use Rattle.command.proofs.WriterLaws.{length-body}

body_of : (r : Read Command) {type imei time size : ℕ} → body_as r ≡ Ok (record { kind = type; imei = imei; time = time; size = size })
    → (c : Command) × (next : ℕ) × (r ≡ got c next) × (c.type ≡ type) × (c.imei ≡ imei) × (c.time ≡ time) × (length c.text ≡ size)
unfolding body_as
body_of (got c n) {type} {imei} {time} {size} e =
    let same : ◌≡◌ {A = Body} (record { kind = c.type; imei = c.imei; time = c.time; size = length c.text }) (record { kind = type; imei = imei; time = time; size = size }) = cc in
    (c, n, refl, ap (λ (b : Body). b.kind) same, ap (λ (b : Body). b.imei) same, ap (λ (b : Body). b.time) same, ap (λ (b : Body). b.size) same)
body_of (bad x) e = absurd (let z : ◌≡◌ {A = ℕ} 0 1 = cc in omega arith)

body-stopped : (r : Read Command) {x : Refusal} → body_as r ≡ Err x → r ≡ bad x
unfolding body_as
body-stopped (got c n) e = absurd (let z : ◌≡◌ {A = ℕ} 0 1 = cc in omega arith)
body-stopped (bad y) e = ap bad (cc)

module _ (d : List ℕ) where
  pub codec-unknown : layout_of (codec_of d) ≡ Err (refusal 6) → read_field d ≡ Err (refusal_at 6 0)
  unfolding read_field on_accepted
  codec-unknown e = simp e

  module _ {l : Layout} (row : layout_of (codec_of d) ≡ Ok l) where
    -- the text ends where the second quantity stands
    pub text-last : {type imei time size : ℕ} → Bytes d → 3 ≤ length d → body_as (command_body l (length (inner d)) (inner d) 0) ≡ Ok (record { kind = type; imei = imei; time = time; size = size })
        → 8 + heading l + size ≡ length d
    unfolding inner
    text-last h long e =
        let k = body_of _ e in
        let c = k.0 in
        let same : l.codec ≡ codec_of d = layout-codec (codec_of d) row in
        let whole = ap length ((body-sound l (inner d) (ap layout_of same ∙ row) (bytes-inner d h)).if-got c k.1 k.2).2 in
        omega (arith, whole, length-body l c, k.6, length-take-le (length d - 3) (drop 2 d) (omega (arith, length-drop 2 d)))

    pub first-wrong : (first_count d ≡ 1 → ⊥) → read_field d ≡ Err (refusal_at 7 1)
    unfolding read_field on_accepted check_at
    first-wrong e = simp (row, ne_eqb _ _ e)

    module _ (first : first_count d ≡ 1) where
      pub last-wrong : (last_count d ≡ 1 → ⊥) → read_field d ≡ Err (refusal_at 7 (length d - 1))
      unfolding read_field on_accepted check_at
      last-wrong e = simp (row, eq-eqb _ _ first, ne_eqb _ _ e)

      module _ (last : last_count d ≡ 1) where
        pub field-walk : read_field d ≡ told 2 (command_body l (length (inner d)) (inner d) 0)
        unfolding read_field on_accepted check_at
        field-walk = simp (row, eq-eqb _ _ first, eq-eqb _ _ last)

        pub field-taken : {type imei time size : ℕ} → Bytes d → 3 ≤ length d → body_as (command_body l (length (inner d)) (inner d) 0) ≡ Ok (record { kind = type; imei = imei; time = time; size = size })
            → answered (from 8 (read_field d)) ≡ Ok (record { codec = codec_of d; kind = type; imei = imei; time = time; offset = 8 + (length d - 1 - size); size = size })
        unfolding answered on_accepted
        field-taken {size = size} h long e =
            let k = body_of _ e in
            let c = k.0 in
            let same : l.codec ≡ codec_of d = layout-codec (codec_of d) row in
            let codec : c.codec ≡ codec_of d = ((body-sound l (inner d) (ap layout_of same ∙ row) (bytes-inner d h)).if-got c k.1 k.2).0 ∙ same in
            let read : from 8 (read_field d) ≡ Ok c = from-passed 8 _ (field-walk ∙ told-got _ _ k.2) in
            let start : 15 + heading l ≡ 8 + (length d - 1 - size) = omega (arith, text-last h long e) in
            simp (read, codec, row, k.3, k.4, k.5, k.6, start)

        pub field-stopped : {x : Refusal} → body_as (command_body l (length (inner d)) (inner d) 0) ≡ Err x
            → answered (from 8 (read_field d)) ≡ Err (record { number = x.number; index = x.index; place = 8 + (2 + x.place) })
        unfolding answered told on_accepted from
        field-stopped e = simp (field-walk, body-stopped _ e)

-- a fault lies between the quantities
pub stopped-inside : (l : Layout) (d : List ℕ) {x : Refusal} → 3 ≤ length d → body_as (command_body l (length (inner d)) (inner d) 0) ≡ Err x → x.place + 3 ≤ length d
unfolding inner
stopped-inside l d {x} h e =
    let k = (body-local (inner d) l (length (inner d))).stops x (body-stopped _ e) in
    omega (arith, k.inside, length-take-le (length d - 3) (drop 2 d) (omega (arith, length-drop 2 d)))
