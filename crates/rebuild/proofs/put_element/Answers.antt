use Rattle.store.proofs.StoredLaws.{stored-then, stored-as}
use Rattle.rebuild.proofs.LayoutLaws.{element-plain, element-variable}
use Rattle.rebuild.proofs.put_element.Goals as goal

pub returns-then-kind-eq9 : goal.returns-then-kind-eq9
returns-then-kind-eq9 c = stored-as (element-variable c.args.w.widths c.args.kind c.args.b.now c.min-start.result c.min-start.ensures c.if-kind-eq9.true) (stored-then c.turned-a1.ensures.stored (stored-then c.store_be-a2.ensures.stored c.store_bytes.ensures))

pub returns : goal.returns
returns c = stored-as (element-plain c.args.w.widths c.args.kind c.args.b.now c.min-start.result c.min-start.ensures c.if-kind-eq9.false) (stored-then c.turned-a1.ensures.stored c.store_bytes-2.ensures)
