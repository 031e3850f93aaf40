use Rattle.lookup.proofs.PartLaws.{part-readable, value_found, value-reaches, passed-found, first-sixteen}
use Rattle.lookup.proofs.PlaceLaws.{first_member}
use Rattle.element.specs.Places.{part}
use Rattle.element.specs.Elements.{first_with}
use Rattle.wire.proofs.Widths.{get_d-bytes}
use mathlib.Core.Path.{refl}
use native.Mathlib.Omega.{arith}
use Rattle.lookup.proofs.id_at.Goals as goal

pub slice_bounds-find_id-count : goal.slice_bounds-find_id-count
slice_bounds-find_id-count c = omega (arith, c.requires.ordered)

pub slice_bounds-find_id-start : goal.slice_bounds-find_id-start
slice_bounds-find_id-start c = omega (arith, c.requires.ordered)

pub slice_bounds-find_id-end : goal.slice_bounds-find_id-end
slice_bounds-find_id-end c = omega (arith, c.requires.inside)

pub find_id-search-requires : goal.find_id-search-requires
unfolding part
find_id-search-requires c = record { readable = part-readable c.requires c.widths_of.ensures }

pub moved-requires : goal.moved-requires
unfolding part
moved-requires c = value-reaches c.requires (first_with c.args.id) c.widths_of.ensures c.find_id-search.ensures.found (first_member c.args.id) (omega arith) (get_d-bytes c.args.p.now (λ k. (c.type_inv.p k).fits))

pub returns : goal.returns
unfolding part
returns c = record { value = value_found c.requires (first_with c.args.id) c.widths_of.ensures c.find_id-search.ensures.found (first-sixteen c.args.id) refl c.moved.ensures; passed = passed-found c.args.id c.widths_of.ensures c.find_id-search.ensures.passed refl }
