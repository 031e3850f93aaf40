-- Content that is read part by part, and its text stored part by part, is read and stored as a whole.
use Prim.Native.Nat.{ℕ, ◌+◌, ◌*◌, ◌≤◌}
use native.Mathlib.Nat.{add-zero}
use native.Mathlib.Omega.{arith}
use mathlib.Core.Path.{◌≡◌, sym, ap, ap₂, ◌∙◌}
use mathlib.Core.List.{List, [], ◌∷◌, ◌++◌}
use lib.ListN.{length, length-append}
use lib.Seq.{sets}
use Rattle.wire.specs.Numbers.{Bytes}
use Rattle.wire.specs.Reading.{got, Reader}
use Rattle.wire.proofs.Exactness.{Meets}
use Rattle.wire.proofs.Storing.{sets-append}
use Rattle.avl.proofs.Inversion.{listed, list_read}
use Rattle.traverse.specs.declared.Moved.{Moved}
use Rattle.traverse.specs.Copying.{Ready, Copies, OnPace}

abbrev pub moved : ℕ → ℕ → Moved
moved from to = record { from = from; to = to }

pub ready-nearer : {A : Type 0} {m : Reader A} {s : List ℕ} {from to nearer : ℕ} → nearer ≤ to → Ready m s from to → Ready m s from nearer
ready-nearer h k =
    record { bytes = k.bytes; small = k.small; inside = k.inside; behind = omega (arith, h, k.behind); content = k.content; next = k.next; reads = k.reads }

-- ---- how far storing gets ahead of reading

pub record Paced {A : Type 0} (m : Reader A) (text : ℕ → A → List ℕ) : Type 0 where
  pub pace : (s : List ℕ) (at : ℕ) → Bytes s → at ≤ length s → Meets (m s at) (λ a n. (n ≤ length s) × (8 * at + length (text at a) ≤ 8 * n))

module _ {A : Type 0} {m : Reader A} {text : ℕ → A → List ℕ} where
  pub on-pace : {s : List ℕ} {from to : ℕ} {before after : List ℕ} {r : Moved} → Paced m text → Ready m s from to → Copies m text s from to before after r → OnPace s from to r
  on-pace {s} {from} {to} {r = r} p k c =
      let h = (p.pace s from k.bytes k.inside).if-got _ _ k.reads in
      let is = c.moves _ _ k.reads in
      let from_is = ap (λ (x : Moved). x.from) is in
      let to_is = ap (λ (x : Moved). x.to) is in
      record { inside = omega (arith, h.0, from_is); ahead = omega (arith, h.1, from_is, to_is) }

  -- the place behind what was read is a place to go on
  pub ready-behind : {B : Type 0} {whole : Reader B} {rest : Reader B} {s : List ℕ} {from to : ℕ} {before after : List ℕ} {r : Moved}
      → OnPace s from to r → Ready whole s from to → Copies m text s from to before after r → {a : A} {mid : ℕ} → m s from ≡ got a mid
      → {b : B} {n : ℕ} → rest s mid ≡ got b n → Ready rest s r.from r.to
  ready-behind {rest = rest} {s = s} {r = r} p k c e {b} {n} f =
      let from_is = ap (λ (x : Moved). x.from) (c.moves _ _ e) in
      record {
        bytes = k.bytes;
        small = k.small;
        inside = p.inside;
        behind = omega (arith, k.behind, p.ahead);
        content = b;
        next = n;
        reads = ap (rest s) from_is ∙ f;
      }

  -- ---- another reader that reads the same, and has the same text

  pub copies-is : {q : Reader A} {other : ℕ → A → List ℕ} {s : List ℕ} {from at to : ℕ} {before after : List ℕ} {r : Moved} → q s at ≡ m s from
      → ((a : A) (n : ℕ) → m s from ≡ got a n → text from a ≡ other at a) → Copies m text s from to before after r → Copies q other s at to before after r
  copies-is {to = to} {before = before} e same c =
      record {
        moves = λ a n k. c.moves a n (sym e ∙ k) ∙ ap (λ (l : List ℕ). moved n (to + length l)) (same a n (sym e ∙ k));
        stores = λ a n k. c.stores a n (sym e ∙ k) ∙ ap (sets before to) (same a n (sym e ∙ k));
      }

  -- of a reading that is known
  pub copies_of : {a : A} {n : ℕ} {s : List ℕ} {from to : ℕ} {before after : List ℕ} {r : Moved} → m s from ≡ got a n
      → r ≡ moved n (to + length (text from a)) → after ≡ sets before to (text from a) → Copies m text s from to before after r
  copies_of {a} {n} {from = from} {to = to} {before = before} e h k =
      record {
        moves = λ b l i.
            let same : a ≡ b = cc in
            let end : n ≡ l = cc in
            h ∙ ap₂ (λ (x : ℕ) (y : A). moved x (to + length (text from y))) end same;
        stores = λ b l i. let same : a ≡ b = cc in k ∙ ap (λ (y : A). sets before to (text from y)) same;
      }

  -- where there is nothing to store
  pub copies-none : (a : A) {s : List ℕ} {from to : ℕ} {out : List ℕ} → m s from ≡ got a from → text from a ≡ []
      → Copies m text s from to out out (moved from to)
  copies-none a {s} {from} {to} {out} e z =
      copies_of e (ap (moved from) (sym (add-zero to) ∙ ap (λ (l : List ℕ). to + length l) (sym z))) (ap (sets out to) (sym z))

-- ---- one, and the others behind it

-- the text of a list is that of the first, and that of the others from where it ends
abbrev pub Joins : {A : Type 0} → Reader A → (ℕ → A → List ℕ) → (ℕ → List A → List ℕ) → (ℕ → List A → List ℕ) → List ℕ → Type 0
Joins {A} m one many whole s = (at mid : ℕ) (a : A) (l : List A) → at ≤ length s → m s at ≡ got a mid → whole at (a ∷ l) ≡ one at a ++ many mid l

module _ {A : Type 0} (m : Reader A) (rest : Reader (List A)) {s : List ℕ} {from to : ℕ} where
  pub ready-first : Ready (listed m rest) s from to → Ready m s from to
  ready-first k =
      let p = (list_read m rest s from).if-got _ _ k.reads in
      record { bytes = k.bytes; small = k.small; inside = k.inside; behind = k.behind; content = p.first; next = p.mid; reads = p.one }

  module _ {one : ℕ → A → List ℕ} where
    pub ready-others : {before after : List ℕ} {r : Moved} → OnPace s from to r → Ready (listed m rest) s from to → Copies m one s from to before after r
        → Ready rest s r.from r.to
    ready-others p k c =
        let q = (list_read m rest s from).if-got _ _ k.reads in
        ready-behind p k c q.one q.more

    module _ {many whole : ℕ → List A → List ℕ} (joins : Joins m one many whole s) where
      pub copies-list : from ≤ length s → {before mid after : List ℕ} {r₁ r : Moved} → Copies m one s from to before mid r₁ → Copies rest many s r₁.from r₁.to mid after r
          → Copies (listed m rest) whole s from to before after r
      copies-list inside {before} {mid} {after} {r₁} {r} c d =
          record {
            moves = λ l n e.
                let p = (list_read m rest s from).if-got l n e in
                let is = c.moves _ _ p.one in
                let start = ap (λ (x : Moved). x.from) is in
                let place = ap (λ (x : Moved). x.to) is in
                let other = ap (rest s) start ∙ p.more in
                let size = ap length (ap (whole from) p.is ∙ joins from p.mid p.first p.others inside p.one) ∙ length-append (one from p.first) (many p.mid p.others) in
                let tail = ap (λ (i : ℕ). length (many i p.others)) start in
                d.moves _ _ other ∙ ap (moved n) (omega (arith, size, place, tail));
            stores = λ l n e.
                let p = (list_read m rest s from).if-got l n e in
                let is = c.moves _ _ p.one in
                let start = ap (λ (x : Moved). x.from) is in
                let other = ap (rest s) start ∙ p.more in
                d.stores _ _ other
                ∙ ap (λ (i : ℕ). sets mid r₁.to (many i p.others)) start
                ∙ ap₂ (λ (o : List ℕ) (k : ℕ). sets o k (many p.mid p.others)) (c.stores _ _ p.one) (ap (λ (x : Moved). x.to) is)
                ∙ sym (sets-append before to (one from p.first) (many p.mid p.others))
                ∙ ap (sets before to) (sym (ap (whole from) p.is ∙ joins from p.mid p.first p.others inside p.one));
          }
