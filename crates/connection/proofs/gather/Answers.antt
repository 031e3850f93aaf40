use Rattle.std.specs.Prelude.{Ok}
use Prim.Native.Nat.{◌+◌, ◌-◌}
use Rattle.wire.specs.declared.Refusal.{Refusal}
use Rattle.connection.proofs.GatherLaws.{phase-back, next-held, front_fits, front-room, stored-room, header-taken, header-cleared, judged-within, few-taken, few-stored, few-filled, few-fit, rest-room, whole_room, enough-taken, enough-part, enough-cleared, part-long}
use Rattle.connection.proofs.FeedLaws.{by-taken}
use Rattle.connection.proofs.OpenLaws.{open_is}
use Rattle.connection.proofs.JudgeLaws.{leaving-none}
use Rattle.connection.specs.Feeding.{outcome, lent_as, item_as, packet_in}
use Rattle.connection.specs.State.{kept, phase_of}
use Rattle.connection.specs.declared.Item.TheVariants.{More}
use Rattle.stream.specs.Stream.{settled, refusing, judged, next, closed}
use Rattle.wire.specs.Buffers.{leaving}
use lib.Dec.{lit≤}
use lib.ListN.{length}
use mathlib.Core.Path.{sym, ap, ap₂, ◌∙◌}
use native.Mathlib.Omega.{arith}
use Rattle.connection.proofs.gather.Goals as goal

pub overflow_add-got : goal.overflow_add-got
overflow_add-got c = omega (arith, front_fits c.requires c.args.bytes.now (lit≤ tt) c.header_rest-front.result c.header_rest-front.ensures)

pub slice_bounds-put_bytes-end : goal.slice_bounds-put_bytes-end
slice_bounds-put_bytes-end c = omega (arith, front_fits c.requires c.args.bytes.now (lit≤ tt) c.header_rest-front.result c.header_rest-front.ensures)

pub put_bytes-requires : goal.put_bytes-requires
put_bytes-requires c = front-room c.requires c.args.bytes.now (lit≤ tt) c.header_rest-front.result c.header_rest-front.ensures

pub slice_bounds-needed-end : goal.slice_bounds-needed-end
slice_bounds-needed-end c = omega (arith, stored-room c.requires c.args.bytes.now (lit≤ tt) c.header_rest-front.result c.header_rest-front.ensures c.put_bytes.new.out c.put_bytes.ensures)

pub clear-requires : goal.clear-requires
clear-requires c = (stored-room c.requires c.args.bytes.now (lit≤ tt) c.header_rest-front.result c.header_rest-front.ensures c.put_bytes.new.out c.put_bytes.ensures).1

pub overflow_sub-used : goal.overflow_sub-used
overflow_sub-used c = omega (arith, judged-within c.requires c.args.bytes.now (lit≤ tt) c.header_rest-front.result c.header_rest-front.ensures c.put_bytes.new.out c.put_bytes.ensures c.in-Ok.n (sym c.needed.ensures ∙ c.in-Ok.is))

pub put_bytes-requires-then-bytes-used : goal.put_bytes-requires-then-bytes-used
put_bytes-requires-then-bytes-used c = omega (arith, few-fit c.requires c.args.bytes.now (lit≤ tt) c.header_rest-front.result c.header_rest-front.ensures c.put_bytes.new.out c.put_bytes.ensures c.in-Ok.n (sym c.needed.ensures ∙ c.in-Ok.is) c.if-bytes-used.true, stored-room c.requires c.args.bytes.now (lit≤ tt) c.header_rest-front.result c.header_rest-front.ensures c.put_bytes.new.out c.put_bytes.ensures)

pub overflow_add-fill : goal.overflow_add-fill
overflow_add-fill c = omega (arith, few-fit c.requires c.args.bytes.now (lit≤ tt) c.header_rest-front.result c.header_rest-front.ensures c.put_bytes.new.out c.put_bytes.ensures c.in-Ok.n (sym c.needed.ensures ∙ c.in-Ok.is) c.if-bytes-used.true)

pub returns-then-bytes-used : goal.returns-then-bytes-used
unfolding lent_as item_as outcome kept packet_in
returns-then-bytes-used c = by-taken c.requires c.args.bytes.now (few-taken c.requires c.args.bytes.now (lit≤ tt) c.header_rest-front.result c.header_rest-front.ensures c.put_bytes.new.out c.put_bytes.ensures c.in-Ok.n (sym c.needed.ensures ∙ c.in-Ok.is) c.if-bytes-used.true) (record { answer = c.waiting.ensures ∙ ap₂ (λ p f. record { phase = p; fill = f; used = length c.args.bytes.now; item = More }) (sym (phase-back c.args.phase (open_is _ _ _ c.requires.opens).0.phase)) (few-filled c.requires c.args.bytes.now (lit≤ tt) c.header_rest-front.result c.header_rest-front.ensures c.put_bytes.new.out c.put_bytes.ensures c.in-Ok.n (sym c.needed.ensures ∙ c.in-Ok.is) c.if-bytes-used.true); state = c.put_bytes-then-bytes-used.ensures ∙ few-stored c.requires c.args.bytes.now (lit≤ tt) c.header_rest-front.result c.header_rest-front.ensures c.put_bytes.new.out c.put_bytes.ensures c.in-Ok.n (sym c.needed.ensures ∙ c.in-Ok.is) c.if-bytes-used.true; buffer = sym (leaving-none c.args.out.now) })

pub put_bytes-requires-in-Ok : goal.put_bytes-requires-in-Ok
put_bytes-requires-in-Ok c = rest-room c.requires c.args.bytes.now (lit≤ tt) c.header_rest-front.result c.header_rest-front.ensures c.put_bytes.new.out c.put_bytes.ensures c.in-Ok.n (sym c.needed.ensures ∙ c.in-Ok.is) c.if-bytes-used.false

pub slice_bounds-settle-end : goal.slice_bounds-settle-end
slice_bounds-settle-end c = omega (arith, whole_room c.requires c.args.bytes.now (lit≤ tt) c.header_rest-front.result c.header_rest-front.ensures c.put_bytes.new.out c.put_bytes.ensures c.in-Ok.n (sym c.needed.ensures ∙ c.in-Ok.is) c.if-bytes-used.false c.put_bytes-in-Ok.new.out c.put_bytes-in-Ok.ensures)

pub settle-answer-requires : goal.settle-answer-requires
settle-answer-requires c = part-long c.requires c.args.bytes.now (lit≤ tt) c.header_rest-front.result c.header_rest-front.ensures c.put_bytes.new.out c.put_bytes.ensures c.in-Ok.n (sym c.needed.ensures ∙ c.in-Ok.is) c.if-bytes-used.false c.put_bytes-in-Ok.new.out c.put_bytes-in-Ok.ensures

pub clear-requires-in-Ok : goal.clear-requires-in-Ok
clear-requires-in-Ok c = whole_room c.requires c.args.bytes.now (lit≤ tt) c.header_rest-front.result c.header_rest-front.ensures c.put_bytes.new.out c.put_bytes.ensures c.in-Ok.n (sym c.needed.ensures ∙ c.in-Ok.is) c.if-bytes-used.false c.put_bytes-in-Ok.new.out c.put_bytes-in-Ok.ensures

pub returns-in-Err : goal.returns-in-Err
unfolding outcome kept packet_in
returns-in-Err c = by-taken c.requires c.args.bytes.now (header-taken c.requires c.args.bytes.now (lit≤ tt) c.header_rest-front.result c.header_rest-front.ensures c.put_bytes.new.out c.put_bytes.ensures c.in-Err.r (sym c.needed.ensures ∙ c.in-Err.is)) (record { answer = c.closing.ensures; state = c.clear.ensures ∙ header-cleared c.requires c.args.bytes.now (lit≤ tt) c.header_rest-front.result c.header_rest-front.ensures c.put_bytes.new.out c.put_bytes.ensures c.in-Err.r (sym c.needed.ensures ∙ c.in-Err.is); buffer = sym (leaving-none c.args.out.now) })

pub returns-else-bytes-used : goal.returns-else-bytes-used
unfolding outcome
returns-else-bytes-used c = by-taken c.requires c.args.bytes.now (enough-taken c.requires c.args.bytes.now (lit≤ tt) c.header_rest-front.result c.header_rest-front.ensures c.put_bytes.new.out c.put_bytes.ensures c.in-Ok.n (sym c.needed.ensures ∙ c.in-Ok.is) c.if-bytes-used.false c.put_bytes-in-Ok.new.out c.put_bytes-in-Ok.ensures) (record { answer = c.settle-answer.ensures.answer ∙ ap (λ l. lent_as (outcome 1280 (record { used = c.in-Ok.n - c.args.fill; told = settled (judged c.args.limits (phase_of c.args.phase) l); state = next (judged c.args.limits (phase_of c.args.phase) l) }))) (enough-part c.requires c.args.bytes.now (lit≤ tt) c.header_rest-front.result c.header_rest-front.ensures c.put_bytes.new.out c.put_bytes.ensures c.in-Ok.n (sym c.needed.ensures ∙ c.in-Ok.is) c.if-bytes-used.false c.put_bytes-in-Ok.new.out c.put_bytes-in-Ok.ensures); state = c.clear-in-Ok.ensures ∙ enough-cleared c.requires c.args.bytes.now (lit≤ tt) c.header_rest-front.result c.header_rest-front.ensures c.put_bytes.new.out c.put_bytes.ensures c.in-Ok.n (sym c.needed.ensures ∙ c.in-Ok.is) c.if-bytes-used.false c.put_bytes-in-Ok.new.out c.put_bytes-in-Ok.ensures ∙ sym (next-held 1280 _); buffer = c.settle-answer.ensures.buffer ∙ ap (λ l. leaving (Ok (packet_in (settled (judged c.args.limits (phase_of c.args.phase) l)))) c.args.out.now) (enough-part c.requires c.args.bytes.now (lit≤ tt) c.header_rest-front.result c.header_rest-front.ensures c.put_bytes.new.out c.put_bytes.ensures c.in-Ok.n (sym c.needed.ensures ∙ c.in-Ok.is) c.if-bytes-used.false c.put_bytes-in-Ok.new.out c.put_bytes-in-Ok.ensures) })
