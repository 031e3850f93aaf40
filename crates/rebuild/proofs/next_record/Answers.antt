use Rattle.rebuild.proofs.OffsetLaws.{records-other}
use Rattle.store.specs.Entries.{entries_at}
use Rattle.tlv.specs.Decoding.{records_of}
use mathlib.Core.Path.{sym, ap, ◌∙◌}
use native.Mathlib.Omega.{arith}
use Prim.Native.Nat.{ℕ}
use Rattle.rebuild.proofs.next_record.Goals as goal

pub loop-from-preserved : goal.loop-from-preserved
loop-from-preserved c = (omega (arith, c.loop-from.invariant.0, c.next_at-from.ensures), λ ks. ap (λ (n : ℕ). records_of ks (entries_at c.args.f.now n)) c.next_at-from.ensures ∙ sym (records-other ks c.args.f.now c.loop-from.from c.loop-from-test.true (λ e. c.if-entry_kind-ne101.true (c.entry_kind.ensures ∙ e))) ∙ c.loop-from.invariant.1 ks)
