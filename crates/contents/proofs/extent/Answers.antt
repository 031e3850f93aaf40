use Rattle.contents.specs.Words.{quad}
use Rattle.wire.proofs.Widths.{get_d-bytes, number-below}
use mathlib.Core.Path.{ap, ◌∙◌}
use native.Mathlib.Omega.{arith}
use Prim.Native.Nat.{ℕ, ◌+◌}
use Rattle.contents.proofs.extent.Goals as goal

pub quad_word-requires : goal.quad_word-requires
quad_word-requires c = (omega (arith, number-below c.args.s.now (c.args.at + 24) c.args.w.widths.event 2 (get_d-bytes c.args.s.now (λ k. (c.type_inv.s k).fits)) c.args.w.narrow.event, c.short_number-id.ensures), c.requires.start_bound.0, c.requires.start_bound.1, c.requires.start_bound.2)

pub returns : goal.returns
returns c = c.quad_word.ensures ∙ ap (λ (n : ℕ). quad n c.args.start c.args.size c.args.elements) c.short_number-id.ensures
