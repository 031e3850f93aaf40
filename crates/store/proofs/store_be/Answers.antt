use Rattle.store.proofs.StoredLaws.{stored-be}
use mathlib.Core.Path.{refl}
use Rattle.store.proofs.store_be.Goals as goal

pub returns-then-end-out : goal.returns-then-end-out
returns-then-end-out c = record { value = refl; stored = stored-be c.args.w c.args.n c.args.to refl c.put_be.ensures }

pub returns : goal.returns
returns c = record { value = refl; stored = stored-be c.args.w c.args.n c.args.to refl c.cut_be.ensures }
