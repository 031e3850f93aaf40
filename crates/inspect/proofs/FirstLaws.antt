-- No acceptable datagram is taken for a connection.
use Rattle.std.specs.Prelude.{Ok}
use Prim.Native.Nat.{ℕ, ◌+◌, ◌≤◌}
use native.Mathlib.Omega.{arith}
use mathlib.Core.Path.{◌≡◌, refl, ap, ◌∙◌}
use mathlib.Core.Bool.{Bool, true, false}
use mathlib.Core.List.{List}
use lib.ListN.{length}
use lib.Dec.{leb}
use borrow.Author.Tests.{le-leb, leb-true, eqb-true, ne_eqb}
use Rattle.wire.specs.Numbers.{number_at, pick}
use Rattle.wire.specs.declared.Limits.{Limits}
use Rattle.wire.proofs.Accepting.{check-accepted, on_accepted-accepted}
use Rattle.datagram.specs.Datagrams.{Datagram, judge_header, read_datagram}
use Rattle.inspect.specs.FirstBytes.{shows, is_connection}

pub no-datagram : (limits : Limits) (p : List ℕ) {g : Datagram} → read_datagram limits p ≡ Ok g → is_connection p ≡ false
unfolding read_datagram judge_header is_connection shows
no-datagram limits p e =
    let i = on_accepted-accepted (judge_header limits.datagram p) _ e in
    let c₀ = check-accepted _ 21 _ _ i.1 in
    let c₁ = check-accepted _ 1 _ _ c₀.1 in
    let c₂ = check-accepted _ 3 _ _ c₁.1 in
    let c₃ = check-accepted _ 4 _ _ c₂.1 in
    let long : 26 ≤ length p = leb-true _ _ c₁.0 in
    let size : length p ≡ number_at p 0 2 + 2 = eqb-true _ _ c₃.0 in
    let other : shows p 0 2 15 ≡ false = simp (le-leb 2 (length p) (omega (arith, long)), ne_eqb (number_at p 0 2) 15 (λ q. omega (arith, q, long, size))) in
    ap (λ (b : Bool). pick (leb (length p) 17) false (pick (shows p 6 2 15) false b)) other ∙ go (leb (length p) 17) (shows p 6 2 15)
  where
    go : (a b : Bool) → pick a false (pick b false false) ≡ false
    go true b = refl
    go false true = refl
    go false false = refl
