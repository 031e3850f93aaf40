use mathlib.Core.Path.{◌≡◌, sym, ap, ◌∙◌, subst}
use native.Mathlib.Omega.{arith}
use Prim.Native.Nat.{ℕ, ◌+◌, ◌-◌}
use lib.ListN.{take, drop}
use Rattle.wire.specs.Places.{behind}
use Rattle.element.specs.Places.{part}
use Rattle.lookup.specs.Answers.{Within, view_of, start_of}
use Rattle.lookup.proofs.view_of.Goals as goal

pub overflow_add-end : goal.overflow_add-end
overflow_add-end c = omega (arith, subst (Within c.args.p.now) c.in-Ok.is c.requires)

pub slice_bounds-result-end-in-Ok : goal.slice_bounds-result-end-in-Ok
slice_bounds-result-end-in-Ok c = omega (arith, subst (Within c.args.p.now) c.in-Ok.is c.requires)

pub returns-in-Err : goal.returns-in-Err
unfolding view_of start_of
returns-in-Err c = record { bytes = sym (ap (view_of c.args.p.now) c.in-Err.is); place = ap (behind c.args.p.ref_ptr) (sym (ap start_of c.in-Err.is)) }

pub returns-in-Ok : goal.returns-in-Ok
unfolding view_of start_of part
returns-in-Ok c = let v = c.in-Ok.v in
    let size : v.offset + v.size - v.offset ≡ v.size = omega arith in record { bytes = ap (λ (n : ℕ). take n (drop v.offset c.args.p.now)) size ∙ sym (ap (view_of c.args.p.now) c.in-Ok.is); place = ap (behind c.args.p.ref_ptr) (sym (ap start_of c.in-Ok.is)) }
