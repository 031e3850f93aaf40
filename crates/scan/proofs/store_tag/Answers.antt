use Rattle.scan.proofs.TagLaws.{gives_less, counted-inside, counted-behind, stored-first, stored_on, stored-length, stored-done, stored_wrong}
use native.Mathlib.Omega.{arith}
use Rattle.scan.proofs.store_tag.Goals as goal

pub loop-b-init : goal.loop-b-init
loop-b-init c = stored-first _ _ _ c.requires

pub piece_at-requires : goal.piece_at-requires
piece_at-requires c = counted-inside c.loop-b.invariant.counted

pub overflow_add-to : goal.overflow_add-to
overflow_add-to c = omega (arith, counted-behind c.loop-b.invariant.counted, counted-inside c.loop-b.invariant.counted)

pub loop-b-smaller : goal.loop-b-smaller
loop-b-smaller c = gives_less (rw c.in-Some-Byte.field-0-is at c.in-Some-Byte.ensures)

pub loop-b-preserved : goal.loop-b-preserved
loop-b-preserved c = rw c.store_byte.ensures (stored_on c.loop-b.invariant (rw c.in-Some-Byte.field-0-is at c.in-Some-Byte.ensures))

pub shape_of-out-in-Some-End : goal.shape_of-out-in-Some-End
shape_of-out-in-Some-End c = stored-length c.loop-b.invariant

pub returns-in-Some-End : goal.returns-in-Some-End
returns-in-Some-End c = stored-done c.loop-b.invariant (rw c.in-Some-End.field-0-is at c.in-Some-End.ensures).0

pub shape_of-out-in-None : goal.shape_of-out-in-None
shape_of-out-in-None c = stored-length c.loop-b.invariant

pub returns-in-None : goal.returns-in-None
returns-in-None c = stored_wrong c.loop-b.invariant c.in-None.ensures
