use Rattle.wire.proofs.Passing.{given_back}
use Rattle.std.specs.Prelude.{Ok}
use Rattle.datagram.proofs.WalkLaws.{payload-part, payload-long, payload-fits, answer-refused, answer-taken, answer-stopped}
use Rattle.datagram.specs.Datagrams.{header_as}
use Rattle.walk.specs.Walks.{data_walk}
use Rattle.avl.specs.DataField.{read_data}
use Rattle.wire.proofs.Widths.{get_d-bytes}
use Rattle.wire.proofs.Shifts.{number-one}
use Rattle.wire.specs.Answers.{from}
use mathlib.Core.Path.{sym, ap, ◌∙◌}
use native.Mathlib.Omega.{arith}
use borrow.Author.Rules.{rules}
use Rattle.datagram.proofs.read_datagram.Goals as goal

pub returns-in_err-imei : goal.returns-in_err-imei
unfolding header_as
returns-in_err-imei c = rw (← c.limits_of-limits.ensures) (given_back c.from_residual.ensures.1 ∙ sym (answer-refused c.limits_of-limits.result c.args.p.now (sym c.in_err-imei.ensures)))

pub slice_bounds-read_data-count : goal.slice_bounds-read_data-count
unfolding header_as
slice_bounds-read_data-count c = omega (arith, (payload-long c.limits_of-limits.result.datagram c.args.p.now (sym c.in_ok-imei.ensures)).0)

pub slice_bounds-read_data-start : goal.slice_bounds-read_data-start
unfolding header_as
slice_bounds-read_data-start c = let long = (payload-long c.limits_of-limits.result.datagram c.args.p.now (sym c.in_ok-imei.ensures)).0 in search rules

pub read_data-requires : goal.read_data-requires
unfolding header_as
read_data-requires c = ((payload-long c.limits_of-limits.result.datagram c.args.p.now (sym c.in_ok-imei.ensures)).1, omega arith)

pub overflow_cast-result : goal.overflow_cast-result
unfolding header_as
overflow_cast-result c = omega (arith, payload-fits c.limits_of-limits.result c.args.p.now (get_d-bytes c.args.p.now (λ k. (c.type_inv.p k).fits)) (sym c.in_ok-imei.ensures) (ap (λ l. data_walk 0 (from 23 (read_data c.limits_of-limits.result.longest l))) (sym (payload-part c.args.p.now)) ∙ sym c.in_ok-data.ensures))

pub overflow_cast-result-2 : goal.overflow_cast-result-2
unfolding header_as
overflow_cast-result-2 c = omega (arith, payload-fits c.limits_of-limits.result c.args.p.now (get_d-bytes c.args.p.now (λ k. (c.type_inv.p k).fits)) (sym c.in_ok-imei.ensures) (ap (λ l. data_walk 0 (from 23 (read_data c.limits_of-limits.result.longest l))) (sym (payload-part c.args.p.now)) ∙ sym c.in_ok-data.ensures))

pub be16-requires : goal.be16-requires
unfolding header_as
be16-requires c = omega (arith, (payload-long c.limits_of-limits.result.datagram c.args.p.now (sym c.in_ok-imei.ensures)).0)

pub bounds-p-4 : goal.bounds-p-4
unfolding header_as
bounds-p-4 c = let long = (payload-long c.limits_of-limits.result.datagram c.args.p.now (sym c.in_ok-imei.ensures)).0 in search rules

pub bounds-p-5 : goal.bounds-p-5
unfolding header_as
bounds-p-5 c = let long = (payload-long c.limits_of-limits.result.datagram c.args.p.now (sym c.in_ok-imei.ensures)).0 in search rules

pub returns : goal.returns
unfolding header_as
returns c = let s = c.args.p.now in
    rw (← c.limits_of-limits.ensures) ((λ i. Ok (record { payload = record { codec = c.in_ok-data.data.codec; count = c.in_ok-data.data.count }; header = record { packet = c.be16.ensures i; unused = sym (number-one s 4) i; avl = sym (number-one s 5) i; imei = c.in_ok-imei.imei } }))
    ∙ sym (answer-taken c.limits_of-limits.result s (sym c.in_ok-imei.ensures) (ap (λ l. data_walk 0 (from 23 (read_data c.limits_of-limits.result.longest l))) (sym (payload-part c.args.p.now)) ∙ sym c.in_ok-data.ensures)))

pub returns-in_err-data : goal.returns-in_err-data
unfolding header_as
returns-in_err-data c = rw (← c.limits_of-limits.ensures) (given_back c.from_residual-in_err-data.ensures.1 ∙ sym (answer-stopped c.limits_of-limits.result c.args.p.now (sym c.in_ok-imei.ensures) (ap (λ l. data_walk 0 (from 23 (read_data c.limits_of-limits.result.longest l))) (sym (payload-part c.args.p.now)) ∙ sym c.in_err-data.ensures)))
