use Rattle.rebuild.proofs.RunLaws.{running-on, running-done}
use Rattle.rebuild.proofs.OffsetLaws.{run-stop, run_end}
use mathlib.Core.Path.{sym, ◌∙◌}
use Rattle.rebuild.proofs.put_run.Goals as goal

pub loop-from-preserved : goal.loop-from-preserved
loop-from-preserved c = rw c.next_at-from.ensures (running-on c.args.w.widths c.args.kind c.args.f.now c.args.from c.loop-from.invariant c.loop-from-test.true (sym c.entry_kind.ensures ∙ c.if-entry_kind-kind.true) c.put_entry-to.ensures)

pub returns-else-entry_kind-kind : goal.returns-else-entry_kind-kind
returns-else-entry_kind-kind c = running-done c.args.w.widths c.args.kind c.args.f.now c.args.from c.loop-from.invariant (run-stop c.args.kind c.args.f.now c.loop-from.from c.loop-from-test.true (λ e. c.if-entry_kind-kind.false (c.entry_kind.ensures ∙ e)))

pub returns-after-loop-from : goal.returns-after-loop-from
returns-after-loop-from c = running-done c.args.w.widths c.args.kind c.args.f.now c.args.from c.loop-from.invariant (run_end c.args.kind c.args.f.now c.loop-from.from c.loop-from-test.false)
