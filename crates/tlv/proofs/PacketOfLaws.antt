-- A TLV form stands for one acceptable packet at most, and 17 is exactly the rest.
use Rattle.std.specs.Prelude.{Err, Ok}
use Prim.Native.Nat.{ℕ, ◌^◌, ◌<◌}
use native.Mathlib.Omega.{arith}
use mathlib.Core.Path.{◌≡◌, refl, sym, ap, ap₂, ◌∙◌, subst}
use mathlib.Core.Logic.{◌↔◌}
use mathlib.Core.Bool.{Bool, true, false}
use mathlib.Core.List.{List, [], ◌∷◌}
use lib.Dec.{eqb}
use borrow.Author.Tests.{le-leb, eq-eqb, eqb-true}
use Rattle.wire.specs.declared.Refusal.{Refusal}
use Rattle.wire.specs.declared.Limits.{Limits}
use Rattle.wire.specs.Limits.{is_known}
use Rattle.wire.specs.Numbers.{Bytes}
use Rattle.wire.specs.Answers.{Answer, check, check_at, on_accepted, refusal}
use Rattle.wire.proofs.Accepting.{both_true, pick_true, check-accepted, check-passed, on_accepted-accepted, on_accepted-passed}
use Rattle.avl.specs.DataField.{AvlData, DataRules}
use Rattle.packet.specs.DataPackets.{packet_bytes, DataPacket, read_packet}
use Rattle.packet.proofs.PacketLaws.{packet-exact, packet-complete}
use Rattle.tlv.specs.Form.{form}
use Rattle.tlv.specs.Decoding.{decoded}
use Rattle.tlv.specs.PacketOf.{same, or17, read_form, form_of_packet, packet_within, packet_of_form}
use Rattle.tlv.proofs.DecodedBytes.{bytes-decoded}
use Rattle.tlv.proofs.FormLaws.{form-decoded}

same-equal : (p q : List ℕ) → same p q ≡ true → p ≡ q
same-equal [] [] e = refl
same-equal [] (b ∷ q) e = absurd (let z : ◌≡◌ {A = ℕ} 0 1 = cc in omega arith)
same-equal (a ∷ p) [] e = absurd (let z : ◌≡◌ {A = ℕ} 0 1 = cc in omega arith)
same-equal (a ∷ p) (b ∷ q) e =
    let t = both_true (eqb a b) (same p q) e in
    ap₂ (λ (x : ℕ) (l : List ℕ). x ∷ l) (eqb-true a b t.0) (same-equal p q t.1)

equal-same : (p : List ℕ) → same p p ≡ true
equal-same [] = refl
equal-same (a ∷ p) = pick_true (eqb a a) (same p p) false (eq-eqb a a refl) ∙ equal-same p

or17-accepted : {A : Type 0} (r : Answer A) {a : A} → or17 r ≡ Ok a → r ≡ Ok a
unfolding or17
or17-accepted (Ok b) e = e
or17-accepted (Err x) e = absurd (let z : ◌≡◌ {A = ℕ} 0 1 = cc in omega arith)

-- a refusal on the way is 17, at no record
abbrev Only17 : {A : Type 0} → Answer A → Type 0
Only17 r = (x : Refusal) → r ≡ Err x → x ≡ refusal 17

pick-17 : (test : Bool) (a : AvlData) → Only17 (check test 17 (Ok a))
unfolding check_at
pick-17 true a x e = absurd (let z : ◌≡◌ {A = ℕ} 0 1 = cc in omega arith)
pick-17 false a x e = cc

refused-17 : {A B : Type 0} (r : Answer A) (f : A → Answer B) → ((a : A) → Only17 (f a)) → Only17 (on_accepted (or17 r) f)
unfolding on_accepted or17
refused-17 (Ok a) f h x e = h a x e
refused-17 (Err y) f h x e = cc

-- the form stands for this packet
pub record FormOf (limits : Limits) (a : AvlData) (f : List ℕ) : Type 0 where
  pub packet : DataPacket limits a (packet_bytes a)
  pub form : f ≡ form a

form-sound : (limits : Limits) (f : List ℕ) (a : AvlData) → Bytes f → read_form limits f ≡ Ok a → FormOf limits a f
unfolding read_form
form-sound limits f a h e =
    let i = on_accepted-accepted (or17 (read_packet limits (packet_bytes (decoded f)))) _ e in
    let c = check-accepted (same (form i.0) f) 17 _ (Ok i.0) i.2 in
    let k = (packet-exact limits (packet_bytes (decoded f)) i.0 (bytes-decoded f h)).0 (or17-accepted _ i.1) in
    let result : i.0 ≡ a = cc in
    subst (λ (x : AvlData). FormOf limits x f) result
    (record { packet = record { rules = k.rules; frame = k.frame; whole = refl }; form = sym (same-equal (form i.0) f c.0) })

form-complete : (limits : Limits) (f : List ℕ) (a : AvlData) → limits.longest < 256 ^ 2 → FormOf limits a f → read_form limits f ≡ Ok a
unfolding read_form or17
form-complete limits f a l k =
    let again : decoded f ≡ a = ap decoded k.form ∙ form-decoded limits.longest a l k.packet.rules in
    let accepts : read_packet limits (packet_bytes (decoded f)) ≡ Ok a =
    ap (λ (x : AvlData). read_packet limits (packet_bytes x)) again ∙ packet-complete limits (packet_bytes a) a k.packet
    in
    on_accepted-passed (or17 (read_packet limits (packet_bytes (decoded f)))) _ (ap or17 accepts)
    ∙ check-passed (same (form a) f) 17 _ (Ok a) (ap (λ (x : List ℕ). same (form a) x) k.form ∙ equal-same (form a))

-- a form is taken exactly if it is the form of an acceptable packet; every other gets 17
pub form-exact : (limits : Limits) (f : List ℕ) (a : AvlData) → Bytes f → limits.longest < 256 ^ 2
    → (read_form limits f ≡ Ok a) ↔ FormOf limits a f
form-exact limits f a h l = (form-sound limits f a h, form-complete limits f a l)

pub form-refusal : (limits : Limits) (f : List ℕ) (x : Refusal) → read_form limits f ≡ Err x → x ≡ refusal 17
unfolding read_form
form-refusal limits f x e = refused-17 (read_packet limits (packet_bytes (decoded f))) _ (λ a. pick-17 (same (form a) f) a) x e

-- a form stands for one packet at most, whatever the limits
pub form-unique : (longest other : ℕ) (a b : AvlData) → longest < 256 ^ 2 → other < 256 ^ 2 → DataRules longest a → DataRules other b → form a ≡ form b → a ≡ b
form-unique longest other a b l m h k e = sym (form-decoded longest a l h) ∙ ap decoded e ∙ form-decoded other b m k

-- packet to form to packet: the same bytes
pub packet-again : (limits : Limits) (p f : List ℕ) → Bytes p → limits.longest < 256 ^ 2
    → form_of_packet limits p ≡ Ok f → packet_of_form limits f ≡ Ok p
unfolding form_of_packet packet_within packet_of_form
packet-again limits p f h l e =
    let i = on_accepted-accepted (read_packet limits p) _ e in
    let k = (packet-exact limits p i.0 h).0 i.1 in
    let own : form i.0 ≡ f = cc in
    check-passed _ 21 _ _ (le-leb 1 limits.largest (omega (arith, k.frame.most)))
    ∙ on_accepted-passed (read_form limits f) _
    (form-complete limits f i.0 l
    (record { packet = record { rules = k.rules; frame = k.frame; whole = refl }; form = sym own }))
    ∙ ap Ok (sym k.whole)

-- form to packet to form: the same form
pub form-again : (limits : Limits) (f p : List ℕ) → Bytes f
    → packet_of_form limits f ≡ Ok p → form_of_packet limits p ≡ Ok f
unfolding form_of_packet packet_within packet_of_form
form-again limits f p h e =
    let i = on_accepted-accepted (read_form limits f) _ (check-accepted (is_known limits.largest) 21 _ (packet_within limits f) e).1 in
    let k = form-sound limits f i.0 h i.1 in
    let own : packet_bytes i.0 ≡ p = cc in
    on_accepted-passed (read_packet limits p) _
    (ap (read_packet limits) (sym own) ∙ packet-complete limits (packet_bytes i.0) i.0 k.packet)
    ∙ ap Ok (sym k.form)
