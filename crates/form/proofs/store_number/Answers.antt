use Rattle.form.proofs.store_number.Goals as goal

pub returns : goal.returns
returns c = rw c.number.ensures at c.store_le.ensures.stored
