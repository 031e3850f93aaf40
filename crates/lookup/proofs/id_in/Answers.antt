use Rattle.element.specs.Elements.{first_with}
use Rattle.lookup.specs.Lookups.{value_by_id, passed_by_id, value_in}
use Rattle.lookup.proofs.PlaceLaws.{first_member}
use Rattle.lookup.proofs.PartLaws.{record-in, record-answer, value-view}
use Rattle.lookup.proofs.id_in.Goals as goal

pub id_of_part-requires : goal.id_of_part-requires
id_of_part-requires g c = record-in c.part_in.ensures.carried.stored c.args.n c.part_in.ensures.part

pub returns : goal.returns
unfolding value_by_id passed_by_id value_in
returns g c =
    let stored = c.part_in.ensures.carried.stored in
    let value = record-answer stored c.args.n c.part_in.ensures.part c.id_of_part.ensures.value in
    record {
      value = value;
      passed = record-answer stored c.args.n c.part_in.ensures.part c.id_of_part.ensures.passed;
      shows = value-view stored (λ x. c.args.n) (first_with c.args.id) (first_member c.args.id) _ value;
    }
