use Rattle.wire.specs.Limits.{limits_of}
use mathlib.Core.Path.{◌∙◌}
use native.Mathlib.Omega.{arith}
use Rattle.wire.proofs.Widths.{get_d-bytes}
use Rattle.lookup.specs.Lookups.{tcp_source}
use Rattle.lookup.proofs.KnownLaws.{tcp-count, last-number}
use Rattle.lookup.proofs.last_part.Goals as goal

pub returns : goal.returns
returns c =
    let p = c.args.p.now in
    let limits = limits_of c.args.family in
    c.part_in.ensures.part
    ∙ last-number (tcp_source limits p) _ (λ x e.
    let k = tcp-count limits p x (get_d-bytes p (λ k. (c.type_inv.p k).fits)) e in
    omega (arith, c.last_number.ensures k.0, k.1))
