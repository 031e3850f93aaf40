use mir.Syntax.{w16, w32}
use mir.ValLaws.{to_z-of_z}
use Rattle.wire.specs.Numbers.{signed}
use Rattle.contents.specs.Words.{record_of}
use Rattle.contents.proofs.WordLaws.{first-behind, word-behind}
use mathlib.Core.Path.{ap, ◌∙◌}
use Rattle.contents.proofs.record_at.Goals as goal

pub returns : goal.returns
unfolding record_of
returns c =
    let t = c.args.t.now in
    let at = c.args.at in
    let south = to_z-of_z w32 c.signed32.result (record { sfits = c.signed32.type_inv }) ∙ c.signed32.ensures ∙ ap (signed 4) (c.bits.ensures.value ∙ word-behind t at 1 0 32) in
    let east = to_z-of_z w32 c.signed32-2.result (record { sfits = c.signed32-2.type_inv }) ∙ c.signed32-2.ensures ∙ ap (signed 4) (c.bits-2.ensures.value ∙ word-behind t at 1 32 32) in
    let height = to_z-of_z w16 c.signed16.result (record { sfits = c.signed16.type_inv }) ∙ c.signed16.ensures ∙ ap (signed 2) (c.bits-6.ensures.value ∙ word-behind t at 2 40 16) in
    let speed = c.bits-3.ensures.value ∙ word-behind t at 2 0 16 in
    let satellites = c.bits-4.ensures.value ∙ word-behind t at 2 16 8 in
    let angle = c.bits-5.ensures.value ∙ word-behind t at 2 24 16 in
    let priority = c.bits-7.ensures.value ∙ word-behind t at 2 56 4 in
    let generation = c.bits-8.ensures.value ∙ word-behind t at 2 60 4 in
    let event = c.bits-9.ensures.value ∙ word-behind t at 3 0 16 in
    let elements = c.bits-10.ensures.value ∙ word-behind t at 3 48 16 in
    λ i.
    record {
      timestamp = first-behind t at i;
      latitude = south i;
      longitude = east i;
      speed = speed i;
      satellites = satellites i;
      angle = angle i;
      altitude = height i;
      priority = priority i;
      generation = generation i;
      event = event i;
      elements = elements i;
    }
