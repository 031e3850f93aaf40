use Rattle.avl.specs.Records.{fixed_bytes}
use Rattle.tlv.specs.Decoding.{fixed_of}
use Rattle.store.proofs.StoredLaws.{stored-then}
use Rattle.rebuild.proofs.put_fixed.Goals as goal

pub returns : goal.returns
unfolding fixed_bytes fixed_of
returns c = stored-then c.turned-a1.ensures.stored (stored-then c.turned-a2.ensures.stored (stored-then c.turned-a3.ensures.stored (stored-then c.turned-a4.ensures.stored (stored-then c.turned-a5.ensures.stored (stored-then c.turned-a6.ensures.stored (stored-then c.turned-a7.ensures.stored (stored-then c.turned-a8.ensures.stored (stored-then c.turned-a9.ensures.stored c.turned.ensures.stored))))))))
