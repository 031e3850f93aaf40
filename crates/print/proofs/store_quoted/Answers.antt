use mathlib.Core.Path.{◌∙◌}
use Rattle.store.proofs.StoredLaws.{left-all, left-length}
use Rattle.print.proofs.TagLaws.{rest_of, quoted-near, quoted-on, quoted-done, quoted-stored}
use native.Mathlib.Omega.{arith}
use Rattle.print.proofs.store_quoted.Goals as goal

pub overflow_add-next : goal.overflow_add-next
overflow_add-next c = omega (arith, c.requires)

pub loop-i-init : goal.loop-i-init
loop-i-init c = left-all (rest_of c.args.src.now) _ _

pub store_escaped-next-requires : goal.store_escaped-next-requires
store_escaped-next-requires c = omega (arith, c.requires, quoted-near c.args.src.now c.loop-i.i c.loop-i.invariant)

pub loop-i-preserved : goal.loop-i-preserved
loop-i-preserved c = quoted-on c.args.src.now c.loop-i.i c.loop-i.invariant (omega arith) c.store_escaped-next.ensures

pub overflow_add-result : goal.overflow_add-result
overflow_add-result c = omega (arith, c.requires, quoted-near c.args.src.now c.loop-i.i c.loop-i.invariant)

pub shape_of-out : goal.shape_of-out
shape_of-out c = c.store_byte-2.auto.out ∙ left-length c.loop-i.invariant ∙ c.store_byte.auto.out

pub returns : goal.returns
returns c = quoted-stored c.args.src.now c.store_byte.ensures (quoted-done c.args.src.now c.loop-i.i c.loop-i.invariant (omega arith) c.store_byte-2.ensures)
