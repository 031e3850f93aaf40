-- The judge of a login accepts exactly what keeps the rules, and a login is of one unit.
use Rattle.std.specs.Prelude.{Ok}
use Prim.Native.Nat.{ℕ, ◌≤◌}
use native.Mathlib.Omega.{arith}
use mathlib.Core.Path.{◌≡◌, refl, ap, ◌∙◌}
use mathlib.Core.Logic.{◌↔◌}
use mathlib.Core.List.{List}
use lib.ListN.{length}
use lib.Dec.{leb}
use borrow.Author.Tests.{le-leb, leb-true}
use Rattle.wire.specs.Numbers.{Bytes}
use Rattle.wire.proofs.Placed.{between-moved, between-bytes, between-whole, whole-between}
use Rattle.wire.proofs.Accepting.{check-accepted, check-passed, told-accepted, told-got}
use Rattle.wire.proofs.ImeiText.{imei-exact, length-imei_text}
use Rattle.login.specs.Login.{LoginPacket, read_login}

login-sound : (p : List ℕ) (imei : ℕ) → Bytes p → read_login p ≡ Ok imei → LoginPacket imei p
unfolding read_login
login-sound p imei h e =
    let c₁ = check-accepted (leb 17 (length p)) 1 _ _ e in
    let c₂ = check-accepted (leb (length p) 17) 4 _ _ c₁.1 in
    let c₃ = told-accepted _ _ c₂.1 in
    let low : 17 ≤ length p = leb-true _ _ c₁.0 in
    let high : length p ≤ 17 = leb-true _ _ c₂.0 in
    let k = (imei-exact.sound p 0 h (omega arith)).if-got _ _ c₃.1 in
    let end : c₃.0 ≡ length p = omega (arith, k.0.size, length-imei_text imei) in
    record { range = k.1; whole = whole-between (between-moved refl end k.0) }

login-complete : (p : List ℕ) (imei : ℕ) → LoginPacket imei p → read_login p ≡ Ok imei
unfolding read_login
login-complete p imei h =
    let size : length p ≡ 17 = ap length h.whole ∙ length-imei_text imei in
    check-passed _ 1 _ _ (le-leb 17 (length p) (omega arith))
    ∙ check-passed _ 4 _ _ (le-leb (length p) 17 (omega arith))
    ∙ told-got _ _ (imei-exact.complete p 0 imei (length p) h.range (between-bytes h.whole (between-whole p)))

-- the judge accepts exactly what keeps the rules
pub login-exact : (p : List ℕ) (imei : ℕ) → Bytes p → (read_login p ≡ Ok imei) ↔ LoginPacket imei p
login-exact p imei h = (login-sound p imei h, login-complete p imei)

pub logins-unique : (m n : ℕ) (p : List ℕ) → LoginPacket m p → LoginPacket n p → m ≡ n
logins-unique m n p h k = cc (login-complete p m h, login-complete p n k)
