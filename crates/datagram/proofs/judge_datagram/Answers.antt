use Rattle.wire.proofs.Passing.{given_back}
use native.Mathlib.Omega.{arith}
use mathlib.Core.Path.{sym, ap, ◌∙◌}
use borrow.Author.Rules.{rules}
use Rattle.datagram.specs.Datagrams.{header_as}
use Rattle.walk.specs.Walks.{data_walk}
use Rattle.avl.specs.DataField.{read_data}
use Rattle.wire.specs.Answers.{from}
use Rattle.datagram.proofs.WalkLaws.{payload-part, payload-long, walk_refused, walk-on}
use Rattle.datagram.proofs.judge_datagram.Goals as goal

pub returns-in_err-read_header : goal.returns-in_err-read_header
unfolding header_as
returns-in_err-read_header c = rw (← c.limits_of-limits.ensures) (given_back c.from_residual.ensures.1 ∙ sym (walk_refused c.limits_of-limits.result c.args.p.now (sym c.in_err-read_header.ensures) c.args.want))

pub slice_bounds-read_data-count : goal.slice_bounds-read_data-count
unfolding header_as
slice_bounds-read_data-count c = omega (arith, (payload-long c.limits_of-limits.result.datagram c.args.p.now (sym c.in_ok-read_header.ensures)).0)

pub slice_bounds-read_data-start : goal.slice_bounds-read_data-start
unfolding header_as
slice_bounds-read_data-start c = let long = (payload-long c.limits_of-limits.result.datagram c.args.p.now (sym c.in_ok-read_header.ensures)).0 in search rules

pub read_data-requires : goal.read_data-requires
unfolding header_as
read_data-requires c = ((payload-long c.limits_of-limits.result.datagram c.args.p.now (sym c.in_ok-read_header.ensures)).1, omega arith)

pub returns : goal.returns
unfolding header_as
returns c = rw (← c.limits_of-limits.ensures) (c.read_data.ensures ∙ ap (λ l. data_walk c.args.want (from 23 (read_data c.limits_of-limits.result.longest l))) (payload-part c.args.p.now) ∙ walk-on c.limits_of-limits.result c.args.p.now (sym c.in_ok-read_header.ensures) c.args.want)
