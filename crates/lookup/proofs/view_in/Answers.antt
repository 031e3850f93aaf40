use mathlib.Core.Path.{ap, ◌∙◌}
use Rattle.wire.specs.Places.{behind}
use Rattle.lookup.proofs.PartLaws.{view-start}
use Rattle.lookup.proofs.view_in.Goals as goal

pub view_of-requires : goal.view_of-requires
view_of-requires g c = c.value_in.ensures.shows.0

pub returns : goal.returns
returns g c = record { bytes = c.view_of.ensures.bytes ∙ c.value_in.ensures.shows.1; place = c.view_of.ensures.place ∙ ap (behind c.args.p.ref_ptr) (view-start _ _ c.value_in.ensures.value) }
