use mathlib.Core.Path.{ap, ◌∙◌}
use Rattle.wire.specs.Places.{behind}
use Rattle.lookup.proofs.PartLaws.{view-start}
use Rattle.lookup.proofs.id_view_in.Goals as goal

pub view_of-requires : goal.view_of-requires
view_of-requires g c = c.id_in-found.ensures.shows.0

pub returns : goal.returns
returns g c = record { bytes = c.view_of.ensures.bytes ∙ c.id_in-found.ensures.shows.1; place = c.view_of.ensures.place ∙ ap (behind c.args.p.ref_ptr) (view-start _ _ c.id_in-found.ensures.value) }
