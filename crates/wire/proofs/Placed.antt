-- Where bytes stand in a list: `Between s at bs next` says that the bytes `bs` stand in `s` from `at` up to `next`.
use Prim.Native.Nat.{ℕ, ◌+◌, ◌≤◌}
use native.Mathlib.Nat.{add-zero}
use native.Mathlib.Omega.{arith}
use mathlib.Core.Path.{◌≡◌, refl, sym, ap, ◌∙◌, subst, subst₂}
use mathlib.Core.List.{List, [], ◌++◌, append_assoc, append-nil}
use lib.ListN.{length, take, drop, length-append, length-drop, take-append-drop}
use lib.Seq.{drop-drop, drop_at, take_at, length-take-le, drop-length}

pub record Between (s : List ℕ) (at : ℕ) (bs : List ℕ) (next : ℕ) : Type 0 where
  pub layout : drop at s ≡ bs ++ drop next s
  pub inside : next ≤ length s
  pub size : next ≡ at + length bs

pub between-nil : (s : List ℕ) (at : ℕ) → at ≤ length s → Between s at [] at
between-nil s at h = record { layout = refl; inside = h; size = sym (add-zero at) }

pub between_join : {s x y : List ℕ} {at mid next : ℕ} → Between s at x mid → Between s mid y next → Between s at (x ++ y) next
between_join {s} {x} {y} {at} {mid} {next} f g =
    record {
      layout = f.layout ∙ ap (λ (l : List ℕ). x ++ l) g.layout ∙ sym (append_assoc x y (drop next s));
      inside = g.inside;
      size = omega (arith, f.size, g.size, length-append x y);
    }

pub between_split : {s : List ℕ} {at next : ℕ} (x : List ℕ) {y : List ℕ} → Between s at (x ++ y) next
    → Between s at x (at + length x) × Between s (at + length x) y next
between_split {s} {at} {next} x {y} f =
    let whole : drop at s ≡ x ++ (y ++ drop next s) = f.layout ∙ append_assoc x y (drop next s) in
    let rest : drop (at + length x) s ≡ y ++ drop next s =
    sym (drop-drop (length x) at s) ∙ ap (λ (l : List ℕ). drop (length x) l) whole ∙ drop_at x (y ++ drop next s) (length x) refl
    in (
      record {
        layout = whole ∙ ap (λ (l : List ℕ). x ++ l) (sym rest);
        inside = omega (arith, f.inside, f.size, length-append x y);
        size = refl;
      },
      record { layout = rest; inside = f.inside; size = omega (arith, f.size, length-append x y) },
    )

pub between-moved : {s bs : List ℕ} {a b m n : ℕ} → a ≡ b → m ≡ n → Between s a bs m → Between s b bs n
between-moved {s} {bs} e f g = subst₂ (λ (i j : ℕ). Between s i bs j) e f g

pub between-bytes : {s bs cs : List ℕ} {at n : ℕ} → bs ≡ cs → Between s at bs n → Between s at cs n
between-bytes {s} {bs} {cs} {at} {n} e f = subst (λ (l : List ℕ). Between s at l n) e f

-- the whole of a list
pub between-whole : (s : List ℕ) → Between s 0 s (length s)
between-whole s =
    record { layout = sym (append-nil s) ∙ ap (λ (l : List ℕ). s ++ l) (sym (drop-length s)); inside = omega arith; size = omega arith }

pub whole-between : {s bs : List ℕ} → Between s 0 bs (length s) → s ≡ bs
whole-between {s} {bs} f = f.layout ∙ ap (λ (l : List ℕ). bs ++ l) (drop-length s) ∙ append-nil bs

-- the bytes from `at` up to `at + n`
pub between-take : (s : List ℕ) (at n : ℕ) → at + n ≤ length s → Between s at (take n (drop at s)) (at + n)
between-take s at n h =
    let long : length (take n (drop at s)) ≡ n = length-take-le n (drop at s) (subst (λ (k : ℕ). n ≤ k) (sym (length-drop at s)) (omega arith)) in
    record {
      layout = sym (take-append-drop n (drop at s)) ∙ ap (λ (l : List ℕ). take n (drop at s) ++ l) (drop-drop n at s);
      inside = h;
      size = ap (λ (k : ℕ). at + k) (sym long);
    }

pub between_is : {s bs : List ℕ} {at next : ℕ} → Between s at bs next → take (length bs) (drop at s) ≡ bs
between_is {s} {bs} {at} {next} f = ap (λ (l : List ℕ). take (length bs) l) f.layout ∙ take_at bs (drop next s) (length bs) refl
