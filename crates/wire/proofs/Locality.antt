-- What a reader gives is decided by the bytes up to where it ends or, where it stops, up to the end of the field that
-- it stops at, and by how many bytes there are: whatever stands behind makes no difference.
use Prim.Native.Nat.{ℕ, zero, suc, ◌+◌, ◌*◌, ◌≤◌, ◌<◌}
use native.Mathlib.Omega.{arith}
use mathlib.Core.Path.{◌≡◌, refl, sym, ap, ap₂, subst, subst₂, ◌∙◌}
use mathlib.Core.Bool.{Bool, true, false}
use mathlib.Core.List.{List, [], ◌∷◌}
use lib.ListN.{length, take, drop, get_or}
use lib.Seq.{take-take, take-nil, get_or-take}
use lib.Dec.{leb}
use borrow.Author.Tests.{leb-false}
use Rattle.wire.specs.declared.Refusal.{Refusal}
use Rattle.wire.specs.Numbers.{number_at}
use Rattle.wire.specs.Reading.{Read, got, bad, Reader, and_then, ◌>>=◌, ◌>>◌, pure, here, require, number, bytes, up_to, repeat}
use Rattle.wire.specs.Answers.{refusal_at}
use Rattle.wire.proofs.Accepting.{by_length}
use Rattle.wire.proofs.Exactness.{and_then-got, then-got, here-got}
use Rattle.wire.proofs.Walking.{short, then-bad, number-got, number-bad, bytes-got, bytes-bad}

-- ---- lists that are as long and equal up to `n`

pub record Agree (n : ℕ) (s t : List ℕ) : Type 0 where
  pub long : length t ≡ length s
  pub front : take n t ≡ take n s

part-front : (at n : ℕ) (l : List ℕ) → drop at (take (at + n) l) ≡ take n (drop at l)
part-front zero n l = let none : 0 + n ≡ n = omega arith in ap (λ (k : ℕ). take k l) none
part-front (suc at) n [] = let one : suc at + n ≡ suc (at + n) = omega arith in ap (λ (k : ℕ). drop (suc at) (take k [])) one ∙ sym (take-nil n)
part-front (suc at) n (b ∷ l) = let one : suc at + n ≡ suc (at + n) = omega arith in ap (λ (k : ℕ). drop (suc at) (take k (b ∷ l))) one ∙ part-front at n l

module _ {n : ℕ} {s t : List ℕ} (k : Agree n s t) where
  pub agree_less : {m : ℕ} → m ≤ n → Agree m s t
  agree_less {m} h = record { long = k.long; front = sym (take-take m n t h) ∙ ap (take m) k.front ∙ take-take m n s h }

  pub agree-byte : (i : ℕ) → i < n → get_or t i 0 ≡ get_or s i 0
  agree-byte i h = sym (get_or-take n t i 0 h) ∙ ap (λ (l : List ℕ). get_or l i 0) k.front ∙ get_or-take n s i 0 h

  pub agree-number : (at w : ℕ) → at + w ≤ n → number_at t at w ≡ number_at s at w
  unfolding number_at
  agree-number at zero h = refl
  agree-number at (suc w) h = ap₂ (λ (a b : ℕ). a * 256 + b) (agree-number at w (omega (arith, h))) (agree-byte (at + w) (omega (arith, h)))

  pub agree-part : (at m : ℕ) → at + m ≤ n → take m (drop at t) ≡ take m (drop at s)
  agree-part at m h = sym (part-front at m t) ∙ ap (drop at) (agree_less h).front ∙ part-front at m s

-- ---- readers

-- it stops with `x`, which is decided by the bytes up to the end of the field at its place, `width` bytes
pub record Stops {A : Type 0} (width : List ℕ → Refusal → ℕ) (m : Reader A) (s : List ℕ) (at : ℕ) (x : Refusal) : Type 0 where
  pub behind : at ≤ x.place + width s x
  pub inside : x.place + width s x ≤ length s
  pub alike : (t : List ℕ) → Agree (x.place + width s x) s t → m t at ≡ bad x

-- it reads `a` up to `n`
pub record Reads {A : Type 0} (m : Reader A) (s : List ℕ) (at : ℕ) (a : A) (n : ℕ) : Type 0 where
  pub onward : at ≤ n
  pub inside : n ≤ length s
  pub alike : (t : List ℕ) → Agree n s t → m t at ≡ got a n

pub record Local {A : Type 0} (width : List ℕ → Refusal → ℕ) (m : Reader A) (s : List ℕ) (at : ℕ) : Type 0 where
  pub reads : (a : A) (n : ℕ) → m s at ≡ got a n → Reads m s at a n
  pub stops : (x : Refusal) → m s at ≡ bad x → Stops width m s at x

module _ {A : Type 0} {width : List ℕ → Refusal → ℕ} {m : Reader A} {s : List ℕ} {at : ℕ} where
  pub local-got : {a : A} {n : ℕ} → m s at ≡ got a n → Reads m s at a n → Local width m s at
  local-got {a} {n} e h =
      record {
        reads = λ b k i.
            let i₁ : a ≡ b = cc in
            let i₂ : n ≡ k = cc in
            subst₂ (Reads m s at) i₁ i₂ h;
        stops = λ x i. absurd (let z : ◌≡◌ {A = ℕ} 0 1 = cc in omega arith);
      }

  pub local-bad : {x : Refusal} → m s at ≡ bad x → Stops width m s at x → Local width m s at
  local-bad {x} e h =
      record {
        reads = λ b k i. absurd (let z : ◌≡◌ {A = ℕ} 0 1 = cc in omega arith);
        stops = λ y i. let same : x ≡ y = cc in subst (Stops width m s at) same h;
      }

  -- a reader that gives the same, whatever the bytes
  pub local-is : {n : Reader A} → ((t : List ℕ) → m t at ≡ n t at) → Local width n s at → Local width m s at
  local-is e h =
      record {
        reads = λ a k i. let r = h.reads a k (sym (e s) ∙ i) in record { onward = r.onward; inside = r.inside; alike = λ t g. e t ∙ r.alike t g };
        stops = λ x i. let r = h.stops x (sym (e s) ∙ i) in record { behind = r.behind; inside = r.inside; alike = λ t g. e t ∙ r.alike t g };
      }

module _ {A B : Type 0} {width : List ℕ → Refusal → ℕ} (m : Reader A) (f : A → Reader B) (s : List ℕ) (at : ℕ) where
  pub local-then : Local width m s at → ((a : A) (mid : ℕ) → m s at ≡ got a mid → at ≤ mid → mid ≤ length s → Local width (f a) s mid) → Local width (m >>= f) s at
  unfolding ◌>>=◌ and_then
  local-then h k =
      record {
        reads = λ b n e.
            let i = and_then-got (m s at) (λ a next. f a s next) b n e in
            let one = h.reads i.0 i.1 i.2 in
            let two = (k i.0 i.1 i.2 one.onward one.inside).reads b n i.3 in
            record {
              onward = omega (arith, one.onward, two.onward);
              inside = two.inside;
              alike = λ t g. then-got m f t at (one.alike t (agree_less g two.onward)) ∙ two.alike t g;
            };
        stops = λ x e. go x (m s at) refl e;
      }
    where
      go : (x : Refusal) (r : Read A) → m s at ≡ r → and_then r (λ a next. f a s next) ≡ bad x → Stops width (m >>= f) s at x
      go x (bad y) i e =
          let same : y ≡ x = cc in
          let one = h.stops x (i ∙ ap bad same) in
          record { behind = one.behind; inside = one.inside; alike = λ t g. then-bad m f t at (one.alike t g) }
      go x (got a mid) i e =
          let one = h.reads a mid i in
          let two = (k a mid i one.onward one.inside).stops x e in
          record {
            behind = omega (arith, one.onward, two.behind);
            inside = two.inside;
            alike = λ t g. then-got m f t at (one.alike t (agree_less g two.behind)) ∙ two.alike t g;
          }

module _ {A : Type 0} {width : List ℕ → Refusal → ℕ} (s : List ℕ) (at : ℕ) (h : at ≤ length s) where
  pub local-pure : (a : A) → Local width (pure a) s at
  unfolding pure
  local-pure a = local-got refl (record { onward = omega arith; inside = h; alike = λ t g. refl })

  pub local-here : (f : ℕ → Reader A) → Local width (f at) s at → Local width (here >>= f) s at
  local-here f k = local-is (λ t. here-got f t at) k

  -- a test, whose field is read
  pub local-require : (test : Bool) (number place : ℕ) (n : Reader A)
      → (test ≡ false → (at ≤ place + width s (refusal_at number place)) × (place + width s (refusal_at number place) ≤ length s))
      → (test ≡ true → Local width n s at) → Local width (require test number place >> n) s at
  unfolding ◌>>◌ require
  local-require true number place n k l = local-is (λ t. then-got (require true number place) (λ u. n) t at refl) (l refl)
  local-require false number place n k l =
      local-bad (then-bad (require false number place) (λ u. n) s at refl)
      (record { behind = (k refl).0; inside = (k refl).1; alike = λ t g. then-bad (require false number place) (λ u. n) t at refl })

-- ---- fields: missing ones have no width

module _ {width : List ℕ → Refusal → ℕ} (s : List ℕ) (missing : (at : ℕ) → width s (short at) ≡ 0) (at : ℕ) (h : at ≤ length s) where
  short-stops : {A : Type 0} {m : Reader A} → ((t : List ℕ) → length t ≡ length s → m t at ≡ bad (short at)) → Stops width m s at (short at)
  short-stops k = record { behind = omega arith; inside = omega (arith, missing at); alike = λ t g. k t g.long }

  pub local-number : (w : ℕ) → Local width (number w) s at
  local-number w =
      by_length (at + w) (length s)
      (λ k. local-got (number-got w s at k)
      (record { onward = omega arith; inside = k; alike = λ t g. number-got w t at (omega (arith, g.long)) ∙ ap (λ (n : ℕ). got n (at + w)) (agree-number g at w (omega arith)) }))
      (λ k. local-bad (number-bad w s at k) (short-stops (λ t g. number-bad w t at (omega (arith, g)))))

  -- a number, and what stands behind it
  pub local-field : {A : Type 0} (w : ℕ) (f : ℕ → Reader A) → (at + w ≤ length s → Local width (f (number_at s at w)) s (at + w)) → Local width (number w >>= f) s at
  local-field {A} w f k = local-then (number w) f s at (local-number w) (λ n mid e one two. go n mid e)
    where
      go : (n mid : ℕ) → number w s at ≡ got n mid → Local width (f n) s mid
      go n mid e =
          by_length (at + w) (length s)
          (λ i. let there = number-got w s at i in
          let value : number_at s at w ≡ n = cc in
          let end : at + w ≡ mid = cc in
          subst₂ (λ (v m : ℕ). Local width (f v) s m) value end (k i))
          (λ i. let gone = number-bad w s at i in absurd (let z : ◌≡◌ {A = ℕ} 0 1 = cc in omega arith))

  pub local-bytes : (n : ℕ) → Local width (bytes n) s at
  local-bytes n =
      by_length (at + n) (length s)
      (λ k. local-got (bytes-got n s at k)
      (record { onward = omega arith; inside = k; alike = λ t g. bytes-got n t at (omega (arith, g.long)) ∙ ap (λ (l : List ℕ). got l (at + n)) (agree-part g at n (omega arith)) }))
      (λ k. local-bad (bytes-bad n s at k) (short-stops (λ t g. bytes-bad n t at (omega (arith, g)))))

  -- a number that may break its rule: its bytes decide
  pub local-up_to : (w most refusal : ℕ) → (at + w ≤ length s → most < number_at s at w → (w ≤ width s (refusal_at refusal at)) × (at + width s (refusal_at refusal at) ≤ length s))
      → Local width (up_to w most refusal) s at
  unfolding up_to
  local-up_to w most refusal k =
      local-here s at h _
      (local-field w _ (λ there.
      local-require s (at + w) there (leb (number_at s at w) most) refusal at (pure (number_at s at w))
      (λ over. let wide = k there (leb-false _ most over) in omega (arith, wide))
      (λ _. local-pure s (at + w) there _)))

-- the same layout again and again, from `from` on
pub local-repeat : {A : Type 0} {width : List ℕ → Refusal → ℕ} (m : Reader A) (s : List ℕ) (from : ℕ) → ((at : ℕ) → from ≤ at → at ≤ length s → Local width m s at)
    → (n at : ℕ) → from ≤ at → at ≤ length s → Local width (repeat n m) s at
unfolding repeat
local-repeat m s from k zero at i h = local-pure s at h []
local-repeat m s from k (suc n) at i h =
    local-then m _ s at (k at i h)
    (λ a mid e one two. local-then (repeat n m) _ s mid (local-repeat m s from k n mid (omega (arith, i, one)) two)
    (λ l end f three four. local-pure s end four (a ∷ l)))
