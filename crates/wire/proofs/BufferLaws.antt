-- A result that fits into the lent buffer is written to its start, one that does not changes nothing.
use Rattle.std.specs.Prelude.{Err, Ok}
use Prim.Native.Nat.{ℕ, ◌≤◌, ◌<◌}
use native.Mathlib.Nat.{zero-add}
use native.Mathlib.Omega.{arith}
use mathlib.Core.Path.{◌≡◌, refl, sym, ap, ◌∙◌}
use mathlib.Core.List.{List, ◌++◌}
use lib.ListN.{length, drop}
use lib.Seq.{sets, sets-eq}
use lib.Dec.{leb}
use borrow.Author.Tests.{le-leb, lt-leb, leb-true}
use Rattle.wire.specs.Answers.{Answer, refusal, on_accepted, check_at}
use Rattle.wire.specs.Buffers.{writing, leaving}
use Rattle.wire.proofs.Accepting.{check-accepted}

module _ (b out : List ℕ) where
  pub writing-done : length b ≤ length out → writing (Ok b) out ≡ Ok (length b)
  unfolding writing on_accepted check_at
  writing-done h = simp (le-leb _ _ h)

  pub writing-short : length out < length b → writing (Ok b) out ≡ Err (refusal 18)
  unfolding writing on_accepted check_at
  writing-short h = simp (lt-leb _ _ h)

  pub leaving-done : length b ≤ length out → leaving (Ok b) out ≡ b ++ drop (length b) out
  unfolding leaving
  leaving-done h = simp (le-leb _ _ h)

  pub leaving-short : length out < length b → leaving (Ok b) out ≡ out
  unfolding leaving
  leaving-short h = simp (lt-leb _ _ h)

  -- the bytes stored one by one
  pub sets-front : length b ≤ length out → sets out 0 b ≡ b ++ drop (length b) out
  sets-front h = sets-eq b out 0 (omega arith) ∙ ap (λ (k : ℕ). b ++ drop k out) (zero-add (length b))

-- what was written is the result, which fits
pub written-fits : (result : Answer (List ℕ)) (before : List ℕ) {n : ℕ} → Ok n ≡ writing result before
    → (g : List ℕ) × (result ≡ Ok g) × (length g ≡ n) × (n ≤ length before)
unfolding writing on_accepted
written-fits (Ok g) before {n} e =
    let c = check-accepted (leb (length g) (length before)) 18 _ (Ok (length g)) (sym e) in
    let fits = leb-true (length g) (length before) c.0 in
    let size : length g ≡ n = cc in
    (g, refl, size, omega arith)
written-fits (Err r) before {n} e = absurd (let z : ◌≡◌ {A = ℕ} 0 1 = cc in omega arith)
