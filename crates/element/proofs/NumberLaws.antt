-- The element with a number: which group has it, and where it stands there.
use Rattle.std.specs.Prelude.{Err, None, Ok, Option, Some}
use Prim.Native.Nat.{ℕ, zero, suc, ◌+◌, ◌-◌, ◌*◌, ◌≤◌, ◌<◌}
use native.Mathlib.Nat.{suc-mul}
use native.Mathlib.Omega.{arith}
use mathlib.Core.Path.{◌≡◌, refl, sym, ap, ◌∙◌, subst}
use mathlib.Core.Bool.{true, false}
use mathlib.Core.List.{List, [], ◌∷◌, ◌++◌, append-nil}
use lib.ListN.{length, drop}
use lib.Dec.{eqb}
use borrow.Author.Tests.{ne_eqb}
use Rattle.wire.specs.Numbers.{Bytes, number_at, pick}
use Rattle.wire.specs.Reading.{got, repeat}
use Rattle.wire.specs.Answers.{Answer, refusal}
use Rattle.wire.proofs.Accepting.{pick_true, pick-false}
use Rattle.avl.specs.declared.Widths.{Widths}
use Rattle.avl.specs.Codecs.{kinds}
use Rattle.avl.specs.Records.{Element, AvlRecord, element_bytes}
use Rattle.avl.proofs.Inversion.{group-read}
use Rattle.avl.specs.RecordReader.{element, group, plain_record}
use Rattle.element.specs.declared.Value.{Value}
use Rattle.element.specs.Elements.{Located, lead_size, locate_group, locate_groups, elements, nth}
use Rattle.element.specs.Search.{Onward, ReadableElement, located_value, value_at, element_as}
use Rattle.element.proofs.ElementLaws.{length-element, length-group}
use Rattle.element.proofs.ReadLaws.{element-read, repeat-parted, repeat-nothing, repeat-size, repeat-inside}
use Rattle.element.proofs.SearchLaws.{parts, onward-inside, present-group, later, ahead, onward-on, Ahead}

-- ---- the n-th of a list

nth-before : (k : ℕ) (a b : List Located) → k < length a → nth k (a ++ b) ≡ nth k a
unfolding nth
nth-before k [] b h = absurd (omega arith)
nth-before zero (e ∷ a) b h = refl
nth-before (suc k) (e ∷ a) b h = nth-before k a b (omega arith)

nth-behind : (k : ℕ) (a b : List Located) → length a ≤ k → nth k (a ++ b) ≡ nth (k - length a) b
unfolding nth
nth-behind k [] b h = ap (λ (n : ℕ). nth n b) (omega arith)
nth-behind zero (e ∷ a) b h = absurd (omega arith)
nth-behind (suc k) (e ∷ a) b h = nth-behind k a b (omega arith) ∙ ap (λ (n : ℕ). nth n b) (omega arith)

nth-none : (k : ℕ) (a : List Located) → length a ≤ k → nth k a ≡ Err (refusal 16)
unfolding nth
nth-none k [] h = refl
nth-none zero (e ∷ a) h = absurd (omega arith)
nth-none (suc k) (e ∷ a) h = nth-none k a (omega arith)

pub nth_here : {k i : ℕ} → k ≤ i → (e : Located) (l : List Located) → nth (k - i) (e ∷ l) ≡ Ok e
unfolding nth
nth_here {k} {i} h e l = let none : k - i ≡ 0 = omega arith in ap (λ (n : ℕ). nth n (e ∷ l)) none

pub nth-later : {k i : ℕ} → i < k → (e : Located) (l : List Located) → nth (k - (i + 1)) l ≡ nth (k - i) (e ∷ l)
unfolding nth
nth-later {k} {i} h e l = let more : k - i ≡ suc (k - (i + 1)) = omega arith in sym (ap (λ (n : ℕ). nth n (e ∷ l)) more)

pub nth-nothing : (n : ℕ) → None ≡ element_as (nth n [])
unfolding nth element_as
nth-nothing n = refl

-- what was found is what the code answers
pub at-found : {v : Value} (r : Answer Located) → ((e : Located) × (r ≡ Ok e) × (located_value e ≡ v)) → Some v ≡ element_as r
unfolding element_as
at-found r h = sym (ap element_as h.1 ∙ ap Some h.2)

-- ---- within a group

module _ (w : Widths) (kind : ℕ) (s : List ℕ) where
  module _ (ne : kind ≡ 9 → ⊥) where
    -- an element of fixed size ends behind its ID and its value
    one_end : (at : ℕ) (e : Element) (next : ℕ) → element w kind s at ≡ got e next → next ≡ at + (w.id + kind)
    unfolding lead_size
    one_end at e next h =
        let read = (element-read w kind s at).if-got _ _ h in
        let size : length e.value ≡ kind = read.size_is ∙ pick-false (eqb kind 9) _ _ (ne_eqb kind 9 ne) in
        let lead : pick {A = ℕ} (eqb kind 9) 2 0 ≡ 0 = pick-false (eqb kind 9) 2 0 (ne_eqb kind 9 ne) in
        omega (arith, read.ends)

    fixed-end : (n at : ℕ) (g : List Element) (end : ℕ) → repeat n (element w kind) s at ≡ got g end → end ≡ at + n * (w.id + kind)
    fixed-end zero at g end h = ((repeat-nothing (element w kind) s at).if-got _ _ h).1 ∙ omega arith
    fixed-end (suc n) at g end h =
        let p = (repeat-parted n (element w kind) s at).if-got _ _ h in
        omega (arith, fixed-end n p.mid p.others end p.more, one_end at p.first p.mid p.one, suc-mul n (w.id + kind))

    -- the element with number `k` stands behind `k` elements of this size
    fixed-place : (k n at : ℕ) (g : List Element) (end : ℕ) → k < n → repeat n (element w kind) s at ≡ got g end
        → (e : Element) × (next : ℕ) × (element w kind s (at + k * (w.id + kind)) ≡ got e next)
        × (nth k (locate_group w kind at g) ≡ Ok (record { kind = kind; id = e.id; place = at + k * (w.id + kind) + lead_size w kind; value = e.value }))
    unfolding nth locate_group
    fixed-place k zero at g end h r = absurd (omega arith)
    fixed-place zero (suc n) at g end h r =
        let p = (repeat-parted n (element w kind) s at).if-got _ _ r in
        let here : at + 0 * (w.id + kind) ≡ at = omega arith in (
          p.first,
          p.mid,
          ap (element w kind s) here ∙ p.one,
          ap (λ (l : List Element). nth 0 (locate_group w kind at l)) p.is
              ∙ ap (λ (m : ℕ). Ok (record { kind = kind; id = p.first.id; place = m + lead_size w kind; value = p.first.value })) (sym here),
        )
    fixed-place (suc k) (suc n) at g end h r =
        let p = (repeat-parted n (element w kind) s at).if-got _ _ r in
        let i = fixed-place k n p.mid p.others end (omega arith) p.more in
        let there : p.mid + k * (w.id + kind) ≡ at + suc k * (w.id + kind) = omega (arith, one_end at p.first p.mid p.one, suc-mul k (w.id + kind)) in
        let behind : at + length (element_bytes w kind p.first) ≡ p.mid = omega (arith, length-element w kind p.first, ((element-read w kind s at).if-got _ _ p.one).ends) in (
          i.0,
          i.1,
          ap (element w kind s) (sym there) ∙ i.2,
          ap (λ (l : List Element). nth (suc k) (locate_group w kind at l)) p.is
              ∙ ap (λ (m : ℕ). nth k (locate_group w kind m p.others)) behind
              ∙ i.3
              ∙ ap (λ (m : ℕ). Ok (record { kind = kind; id = i.0.id; place = m + lead_size w kind; value = i.0.value })) there,
        )

-- a group has not so many elements
pub nth_beyond : (w : Widths) (kind : ℕ) (s : List ℕ) (at k : ℕ) → number_at s at w.count ≤ k → (g : List Element) (n : ℕ) → group w kind s at ≡ got g n
    → None ≡ element_as (nth k (locate_group w kind (at + w.count) g))
unfolding element_as
nth_beyond w kind s at k h g n f =
    let size = repeat-size w kind s _ (at + w.count) g n ((group-read w kind s at).if-got _ _ f).elements in
    sym (ap element_as (nth-none k _ (omega (arith, size, length-group w kind (at + w.count) g))))

-- ---- from group to group

module _ {w : Widths} {kind : ℕ} {ks : List ℕ} {s : List ℕ} {at : ℕ} {answer : Answer Located} (k : ℕ) (h : Onward w (kind ∷ ks) s at (nth k) answer) where
  module _ {n : ℕ} (is : n ≡ number_at s at w.count) where
    members : repeat n (element w kind) s (at + w.count) ≡ got (parts h).first (parts h).mid
    members = ap (λ (m : ℕ). repeat m (element w kind) s (at + w.count)) is ∙ ((group-read w kind s at).if-got _ _ (parts h).one).elements

    size : length (present-group h) ≡ n
    size = length-group w kind (at + w.count) (parts h).first ∙ repeat-size w kind s n (at + w.count) _ _ members

    module _ (ne : kind ≡ 9 → ⊥) where
      pub number-end : at + w.count + n * (w.id + kind) ≤ length s
      number-end =
          omega (arith, fixed-end w kind s ne n (at + w.count) _ _ members, repeat-inside w kind s n (at + w.count) _ _ members (onward-inside h))

      -- it is in a later group
      pub number-on : Bytes s → n ≤ k → Onward w ks s (at + w.count + n * (w.id + kind)) (nth (k - n)) answer
      number-on b i =
          onward-on h b (fixed-end w kind s ne n (at + w.count) _ _ members) (nth (k - n))
          (nth-behind k (present-group h) (later h) (omega (arith, size)) ∙ ap (λ (m : ℕ). nth (k - m) (later h)) size)

      module _ (i : k < n) where
        pub number-element : ReadableElement w kind s (at + w.count + k * (w.id + kind))
        number-element =
            let f = fixed-place w kind s ne k n (at + w.count) _ _ i members in
            record { content = f.0; next = f.1; reads = f.2 }

        pub number-hit : {v : Value} → ((e : Element) (m : ℕ) → element w kind s (at + w.count + k * (w.id + kind)) ≡ got e m → v ≡ value_at w kind (at + w.count + k * (w.id + kind)) e)
            → Some v ≡ element_as answer
        unfolding element_as located_value value_at
        number-hit is =
            let f = fixed-place w kind s ne k n (at + w.count) _ _ i members in
            ap Some (is _ _ f.2)
            ∙ ap element_as (sym f.3 ∙ sym (nth-before k (present-group h) (later h) (omega (arith, size))) ∙ ahead h)

-- the last group
pub number-last : {w : Widths} {kind : ℕ} {s : List ℕ} {at : ℕ} {answer : Answer Located} (k : ℕ) (h : Onward w (kind ∷ []) s at (nth k) answer) {r : Option Value}
    → ((g : List Element) (n : ℕ) → group w kind s at ≡ got g n → r ≡ element_as (nth k (locate_group w kind (at + w.count) g))) → r ≡ element_as answer
unfolding locate_groups
number-last k h found = found _ _ (parts h).one ∙ ap element_as (sym (ap (nth k) (append-nil (present-group h))) ∙ ahead h)

pub four-kinds : (w : Widths) → w.variable ≡ false → length (kinds w) ≤ 4
unfolding kinds
four-kinds w e = omega (arith, ap (λ (ks : List ℕ). length (1 ∷ 2 ∷ 4 ∷ 8 ∷ ks)) (pick-false w.variable (9 ∷ []) [] e))

-- the group of variable values is the last
pub last : (w : Widths) (s : List ℕ) (n left k : ℕ) {at : ℕ} → Ahead w s (nth n) (nth left) k at → k ≡ 4 → w.variable ≡ true
    → (x : AvlRecord) (m : ℕ) → plain_record w s 0 ≡ got x m → Onward w (9 ∷ []) s at (nth left) (nth n (elements w x))
unfolding kinds
last w s n left k {at} a e v x m r =
    let ks : drop k (kinds w) ≡ 9 ∷ [] = ap (λ (j : ℕ). drop j (kinds w)) e ∙ pick_true w.variable (9 ∷ []) [] v in
    subst (λ (l : List ℕ). Onward w l s at (nth left) (nth n (elements w x))) ks (a x m r)
