-- The length, then the IMEI.
use Rattle.login.specs.Login.{read_login}
use Prim.Native.Nat.{ℕ, ◌≤◌}
use mathlib.Core.Path.{◌≡◌, sym, ◌∙◌}
use mathlib.Core.List.{List}
use lib.ListN.{length}
use Rattle.wire.specs.Answers.{Answer, check_at, told}
use Rattle.wire.specs.Imei.{read_imei}
use borrow.Author.Tests.{le-leb, lt-leb}
use Rattle.login.proofs.read_login.Goals as goal

pub returns-then-p-lt17 : goal.returns-then-p-lt17
unfolding read_login check_at
returns-then-p-lt17 c = simp (c.of.ensures, lt-leb _ _ c.if-p-lt17.true)

pub returns-then-p-gt17 : goal.returns-then-p-gt17
unfolding read_login check_at
returns-then-p-gt17 c = simp (c.of-then-p-gt17.ensures, le-leb _ _ c.if-p-lt17.false, lt-leb _ _ c.if-p-gt17.true)

-- the length fits: what is left is the IMEI
read : (p : List ℕ) {r : Answer ℕ} → 17 ≤ length p → length p ≤ 17 → r ≡ told 0 (read_imei p 0) → r ≡ read_login p
unfolding read_login check_at
read p low high e = simp (e, le-leb _ _ low, le-leb _ _ high)

pub returns-in-Ok : goal.returns-in-Ok
returns-in-Ok c = sym c.in-Ok.is ∙ read c.args.p.now c.if-p-lt17.false c.if-p-gt17.false c.read_imei.ensures

pub returns-in-Err : goal.returns-in-Err
returns-in-Err c = sym c.in-Err.is ∙ read c.args.p.now c.if-p-lt17.false c.if-p-gt17.false c.read_imei.ensures
