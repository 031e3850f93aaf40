use Rattle.inspect.proofs.WordLaws.{table-next, table-found, table-done, same-told}
use Rattle.inspect.proofs.input.named.Goals as goal

pub returns-then-eq : goal.returns-then-eq
returns-then-eq g c = table-found c.loop-e.invariant c.loop-e-test.true c.e-item.result c.e-item.is (λ e. e.1) (rw c.as_bytes.ensures.value at (same-told c.args.w.now c.as_bytes.result.now c.eq.ensures c.if-eq.true))

pub loop-e-preserved : goal.loop-e-preserved
loop-e-preserved g c = table-next c.loop-e.invariant c.loop-e-test.true c.e-item.result c.e-item.is (rw c.as_bytes.ensures.value at (same-told c.args.w.now c.as_bytes.result.now c.eq.ensures c.if-eq.false))

pub returns : goal.returns
returns g c = table-done c.loop-e.invariant (λ e. e.1) c.loop-e-test.false
