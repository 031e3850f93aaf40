use Rattle.element.specs.Elements.{nth}
use Rattle.lookup.specs.Lookups.{value_by_number, value_in}
use Rattle.lookup.proofs.PlaceLaws.{nth-member}
use Rattle.lookup.proofs.PartLaws.{record-in, record-answer, value-view}
use Rattle.lookup.proofs.value_in.Goals as goal

pub number_of_part-requires : goal.number_of_part-requires
number_of_part-requires g c = record-in c.part_in.ensures.carried.stored c.args.n c.part_in.ensures.part

pub returns : goal.returns
unfolding value_by_number value_in
returns g c =
    let stored = c.part_in.ensures.carried.stored in
    let value = record-answer stored c.args.n c.part_in.ensures.part c.number_of_part.ensures in
    record { value = value; shows = value-view stored (λ x. c.args.n) (nth c.args.k) (nth-member c.args.k) _ value }
