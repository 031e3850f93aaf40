use lib.ListN.{length, length-take, length-drop}
use mathlib.Core.Path.{◌≡◌}
use native.Mathlib.Omega.{arith}
use Rattle.line.specs.Lines.{escaped}
use Rattle.print.proofs.DegreeLaws.{stored-apart}
use Rattle.print.proofs.TagLaws.{escaped-few}
use Rattle.print.proofs.store_escaped.Goals as goal

pub overflow_add-to : goal.overflow_add-to
overflow_add-to c = omega (arith, c.requires)

pub put_escaped-requires : goal.put_escaped-requires
put_escaped-requires c = c.if-to-out.true

pub returns-then-to-out : goal.returns-then-to-out
returns-then-to-out c = c.put_escaped.ensures

pub put_escaped-size-requires : goal.put_escaped-size-requires
put_escaped-size-requires c = omega arith

pub slice_bounds-store_bytes-end : goal.slice_bounds-store_bytes-end
slice_bounds-store_bytes-end c = omega (arith, c.put_escaped-size.ensures.place, escaped-few c.args.b)

pub store_bytes-requires : goal.store_bytes-requires
store_bytes-requires c = simp (length-take, length-drop) (omega (arith, c.requires, c.put_escaped-size.ensures.place, escaped-few c.args.b))

pub returns : goal.returns
returns c = let size : c.put_escaped-size.result ≡ length (escaped c.args.b) = omega (arith, c.put_escaped-size.ensures.place) in
    stored-apart _ (escaped c.args.b) size (omega (arith, escaped-few c.args.b)) (rw c.put_escaped-size.ensures.buffer at c.store_bytes.ensures)
