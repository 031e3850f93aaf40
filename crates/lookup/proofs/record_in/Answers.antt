use Rattle.lookup.specs.Lookups.{record_by_number}
use Rattle.lookup.proofs.PartLaws.{record-in, record-answer}
use Rattle.lookup.proofs.record_in.Goals as goal

pub record_of_part-requires : goal.record_of_part-requires
record_of_part-requires g c = record-in c.part_in.ensures.carried.stored c.args.n c.part_in.ensures.part

pub returns : goal.returns
unfolding record_by_number
returns g c = record-answer c.part_in.ensures.carried.stored c.args.n c.part_in.ensures.part c.record_of_part.ensures
