use Rattle.store.proofs.StoredLaws.{stored-as}
use Rattle.tlv.specs.Decoding.{entry_element}
use Rattle.avl.specs.Records.{element_bytes}
use mathlib.Core.List.{List}
use mathlib.Core.Path.{ap}
use Prim.Native.Nat.{ℕ}
use Rattle.rebuild.proofs.put_entry.Goals as goal

pub returns : goal.returns
unfolding entry_element
returns c = let args = c.args in
    stored-as (ap (λ (b : List ℕ). element_bytes args.w.widths args.kind (entry_element (record { kind = args.kind; body = b }))) c.entry_body.ensures) c.put_element.ensures
