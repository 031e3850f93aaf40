use Rattle.wire.proofs.Passing.{given_back}
use native.Mathlib.Omega.{arith}
use mathlib.Core.Path.{sym, ap, ◌∙◌}
use Rattle.walk.specs.Walks.{data_walk}
use Rattle.wire.proofs.Widths.{get_d-bytes}
use Rattle.packet.proofs.WalkLaws.{unframed-refused, field-inside, field-long, field-read}
use Rattle.packet.proofs.judge_packet.Goals as goal

pub returns-in_err-size : goal.returns-in_err-size
unfolding data_walk
returns-in_err-size c = given_back c.from_residual.ensures.1 ∙ sym (ap (data_walk c.args.want) (unframed-refused c.args.limits c.args.p.now (sym c.in_err-size.ensures)).0)

pub overflow_add-end : goal.overflow_add-end
overflow_add-end c = omega (arith, field-inside c.args.limits c.args.p.now c.in_ok-size.size (sym c.in_ok-size.ensures) (get_d-bytes c.args.p.now (λ k. (c.type_inv.p k).fits)))

pub slice_bounds-read_data-end : goal.slice_bounds-read_data-end
slice_bounds-read_data-end c = omega (arith, field-inside c.args.limits c.args.p.now c.in_ok-size.size (sym c.in_ok-size.ensures) (get_d-bytes c.args.p.now (λ k. (c.type_inv.p k).fits)))

pub read_data-requires : goal.read_data-requires
read_data-requires c = (field-long c.args.limits c.args.p.now c.in_ok-size.size (sym c.in_ok-size.ensures) (get_d-bytes c.args.p.now (λ k. (c.type_inv.p k).fits)), omega arith)

pub returns : goal.returns
returns c = c.read_data.ensures ∙ ap (data_walk c.args.want) (field-read c.args.limits c.args.p.now c.in_ok-size.size (sym c.in_ok-size.ensures) (get_d-bytes c.args.p.now (λ k. (c.type_inv.p k).fits)))
