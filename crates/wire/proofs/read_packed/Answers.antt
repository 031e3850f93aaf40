-- The first pair, then the others.
use Rattle.wire.proofs.Passing.{given_back}
use Prim.Native.Nat.{ℕ, zero, suc, ◌+◌, ◌-◌, ◌*◌}
use native.Mathlib.Omega.{arith}
use mathlib.Core.List.{List}
use mathlib.Core.Path.{◌≡◌, refl, sym, ap, ap₂, ◌∙◌}
use lib.Dec.{lit≤}
use Rattle.wire.proofs.DigitLaws.{numbered_of, numbered-unread, numbered-bad, digits_from}
use Rattle.wire.proofs.ImeiPacked.{pair-exact}
use Rattle.wire.proofs.Walking.{then-bad}
use Rattle.wire.proofs.Exactness.{then-got}
use Rattle.wire.proofs.Widths.{bytes-fit}
use Rattle.wire.specs.Imei.{pair_up_to, read_packed}
use Rattle.wire.specs.Reading.{got, bad, numbered, pure}
use Rattle.wire.specs.Numbers.{value_from}
use Rattle.wire.specs.declared.Refusal.{Refusal}
use Rattle.wire.proofs.read_packed.Goals as goal

-- the first pair, and what follows it
packed_more : (w : ℕ) (s : List ℕ) (at : ℕ) {d next : ℕ} → (w ≡ 0 → ⊥) → pair_up_to 0 s at ≡ got d next → read_packed w s at ≡ digits_from (pair_up_to 9) 100 (w - 1) d s next
unfolding read_packed value_from
packed_more zero s at some e = absurd (some refl)
packed_more (suc n) s at {d} {next} some e =
    let left : n ≡ suc n - 1 = omega arith in
    let value : 0 * 100 + d ≡ d = omega arith in
    then-got (pair_up_to 0) _ s at e ∙ ap₂ (λ (k v : ℕ). digits_from (pair_up_to 9) 100 k v s next) left value

packed-bad : (w : ℕ) (s : List ℕ) (at : ℕ) {x : Refusal} → (w ≡ 0 → ⊥) → pair_up_to 0 s at ≡ bad x → read_packed w s at ≡ bad x
unfolding read_packed
packed-bad zero s at some e = absurd (some refl)
packed-bad (suc n) s at some e = then-bad (pair_up_to 0) _ s at e

pub returns-then-w-eq0 : goal.returns-then-w-eq0
unfolding read_packed numbered pure
returns-then-w-eq0 c = sym (ap (λ (w : ℕ). numbered (read_packed w c.args.s.now c.args.at)) c.if-w-eq0.true)

pub pairs_from-requires : goal.pairs_from-requires
pairs_from-requires c =
    let s = c.args.s.now in
    let bytes = bytes-fit s c.type_inv.s in
    let first = numbered_of _ (sym c.in_ok-first.ensures) in
    let read = ((pair-exact 0 (lit≤ tt)).sound s c.args.at bytes c.requires.0).if-got _ _ first in
    (omega (arith, read.1), omega (arith, c.if-w-eq0.false), read.0.inside)

pub returns : goal.returns
returns c =
    let first = numbered_of _ (sym c.in_ok-first.ensures) in
    c.pairs_from.ensures ∙ sym (ap numbered (packed_more _ _ _ c.if-w-eq0.false first))

pub returns-in_err-first : goal.returns-in_err-first
returns-in_err-first c = given_back c.from_residual.ensures.1 ∙ sym (numbered-bad _ (packed-bad _ _ _ c.if-w-eq0.false (numbered-unread _ (sym c.in_err-first.ensures))))
