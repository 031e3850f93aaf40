use Rattle.std.specs.Prelude.{Ok}
use Rattle.connection.proofs.JudgeLaws.{leaving-none, judged-login, refused-login, judged-packet, refused-packet, written-packet, unwritten-packet}
use Rattle.connection.specs.declared.Item.TheVariants.{Packet}
use Rattle.connection.specs.Feeding.{outcome, item_as, lent_as, packet_in}
use Rattle.connection.specs.State.{kept, phase_number}
use Rattle.stream.specs.Stream.{settled, next}
use Rattle.wire.specs.Buffers.{leaving}
use mathlib.Core.Path.{sym, ap, ◌∙◌}
use Prim.Native.Nat.{ℕ}
use Rattle.connection.proofs.settle.Goals as goal

pub returns-in-Ok : goal.returns-in-Ok
unfolding lent_as outcome item_as kept next phase_number packet_in
returns-in-Ok c = let k = judged-login c.args.limits c.args.s.now c.if-phase-eq0.true (sym c.read_login.ensures ∙ c.in-Ok.is) in record { answer = ap (λ i. lent_as (outcome 1280 (record { used = c.args.used; told = settled i; state = next i }))) (sym k); buffer = sym (leaving-none c.args.out.now) ∙ ap (λ i. leaving (Ok (packet_in (settled i))) c.args.out.now) (sym k) }

pub returns-in-Err : goal.returns-in-Err
unfolding lent_as outcome item_as kept next phase_number packet_in
returns-in-Err c = let k = refused-login c.args.limits c.args.s.now c.if-phase-eq0.true (sym c.read_login.ensures ∙ c.in-Err.is) in record { answer = c.closing.ensures ∙ ap (λ i. lent_as (outcome 1280 (record { used = c.args.used; told = settled i; state = next i }))) (sym k); buffer = sym (leaving-none c.args.out.now) ∙ ap (λ i. leaving (Ok (packet_in (settled i))) c.args.out.now) (sym k) }

pub take_packet-requires : goal.take_packet-requires
take_packet-requires c = c.requires

pub returns-in-Ok-take_packet : goal.returns-in-Ok-take_packet
unfolding lent_as outcome item_as kept next phase_number packet_in
returns-in-Ok-take_packet c = let w = written-packet c.args.limits c.args.s.now c.args.out.now ((sym c.in-Ok-take_packet.is) ∙ c.take_packet.ensures.result_value) in let k = judged-packet c.args.limits c.args.s.now c.if-phase-eq0.false w.1 in record { answer = ap (λ (n : ℕ). record { phase = 1; fill = 0; used = c.args.used; item = Packet n }) (sym w.2) ∙ ap (λ i. lent_as (outcome 1280 (record { used = c.args.used; told = settled i; state = next i }))) (sym k); buffer = c.take_packet.ensures.out_after ∙ ap (λ r. leaving r c.args.out.now) w.1 ∙ ap (λ i. leaving (Ok (packet_in (settled i))) c.args.out.now) (sym k) }

pub returns-in-Err-take_packet : goal.returns-in-Err-take_packet
unfolding lent_as outcome item_as kept next phase_number packet_in leaving
returns-in-Err-take_packet c = let w = unwritten-packet c.args.limits c.args.s.now c.args.out.now c.requires.1 ((sym c.in-Err-take_packet.is) ∙ c.take_packet.ensures.result_value) in let k = refused-packet c.args.limits c.args.s.now c.if-phase-eq0.false w in record { answer = c.closing-in-Err-take_packet.ensures ∙ ap (λ i. lent_as (outcome 1280 (record { used = c.args.used; told = settled i; state = next i }))) (sym k); buffer = c.take_packet.ensures.out_after ∙ ap (λ r. leaving r c.args.out.now) w ∙ sym (leaving-none c.args.out.now) ∙ ap (λ i. leaving (Ok (packet_in (settled i))) c.args.out.now) (sym k) }
