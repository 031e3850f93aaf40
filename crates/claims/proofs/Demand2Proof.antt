-- Demand 2 about what the calls answer: from each call's contract, and the theorem that its judge accepts exactly what meets the rules.
use Rattle.std.specs.Prelude.{Ok}
use Prim.Native.Nat.{ℕ}
use native.Mathlib.Omega.{arith}
use mathlib.Core.Path.{◌≡◌, sym, ap, ◌∙◌, subst}
use mathlib.Core.Logic.{◌↔◌}
use mathlib.Core.List.{List, ◌++◌}
use lib.ListN.{length, take, drop}
use lib.Seq.{take_at}
use borrow.Author.Tests.{le-leb}
use Rattle.wire.specs.Numbers.{Bytes}
use Rattle.wire.specs.Limits.{limits_of, is_known}
use Rattle.wire.specs.Answers.{Answer, on_accepted}
use Rattle.wire.specs.Buffers.{writing, leaving}
use Rattle.wire.proofs.Accepting.{check-accepted, check-passed, on_accepted-accepted, on_accepted-passed}
use Rattle.wire.proofs.LimitLaws.{limits-most}
use Rattle.wire.proofs.BufferLaws.{written-fits, writing-done, leaving-done}
use Rattle.avl.specs.DataField.{data_result}
use Rattle.packet.specs.DataPackets.{packet_bytes, DataPacket, read_packet, answer_packet}
use Rattle.packet.proofs.PacketLaws.{packet-exact}
use Rattle.datagram.specs.Datagrams.{read_datagram, answer_datagram}
use Rattle.datagram.proofs.DatagramLaws.{datagram-exact}
use Rattle.command.specs.declared.CommandFields.{CommandFields}
use Rattle.command.specs.Commands.{Command, CommandPacket, read_command, answered, answer_command}
use Rattle.command.proofs.PacketLaws.{command-exact}
use Rattle.login.proofs.LoginLaws.{login-exact}
use Rattle.tlv.specs.PacketOf.{read_form, packet_within, packet_of_form}
use Rattle.tlv.proofs.PacketOfLaws.{form-exact}
use Rattle.claims.specs.Demand2.{AcceptedExactly}

-- an answer made of what a judge read
exactly : {A R : Type 0} {Rules : A → Type 0} (answer : Answer R) (read : Answer A) (give : A → Answer R) (result : R) → answer ≡ on_accepted read give
    → ((a : A) → (read ≡ Ok a) ↔ Rules a) → (answer ≡ Ok result) ↔ ((a : A) × Rules a × (give a ≡ Ok result))
exactly answer read give result contract exact = (
  (λ e. let i = on_accepted-accepted read give (sym contract ∙ e) in (i.0, (exact i.0).0 i.1, i.2)),
  (λ k. contract ∙ on_accepted-passed read give ((exact k.0).1 k.1) ∙ k.2),
)

-- the same where every result is given
exactly-given : {A R : Type 0} {Rules : A → Type 0} (answer : Answer R) (read : Answer A) (give : A → R) (result : R) → answer ≡ on_accepted read (λ a. Ok (give a))
    → ((a : A) → (read ≡ Ok a) ↔ Rules a) → (answer ≡ Ok result) ↔ ((a : A) × Rules a × (give a ≡ result))
exactly-given answer read give result contract exact =
    let k = exactly answer read (λ a. Ok (give a)) result contract exact in
    ((λ e. let i = k.0 e in (i.0, i.1, cc i.2)), (λ i. k.1 (i.0, i.1, ap Ok i.2)))

-- what stands in front of equal rests is equal
fronts : (g q rest : List ℕ) → length g ≡ length q → g ++ rest ≡ q ++ rest → g ≡ q
fronts g q rest size e = sym (take_at g rest (length q) size) ∙ ap (take (length q)) e ∙ take_at q rest (length q) (λ i. length q)

of-command : (family : ℕ) (p : List ℕ) (answer : Answer CommandFields) (result : CommandFields) → Bytes p → answer ≡ answer_command (limits_of family) p
    → (answer ≡ Ok result) ↔ ((c : Command) × CommandPacket (limits_of family) c p × (answered (Ok c) ≡ Ok result))
unfolding answer_command answered on_accepted
of-command family p answer result b contract = exactly answer (read_command (limits_of family) p) _ result contract (λ c. command-exact (limits_of family) p c b)

pub accepted-exactly : AcceptedExactly
unfolding answer_packet answer_datagram packet_within packet_of_form
accepted-exactly =
    record {
      packets = λ family p r b contract result. exactly-given _ (read_packet (limits_of family) p) data_result result contract (λ a. packet-exact (limits_of family) p a b);
      datagrams = λ family p r b contract result. exactly-given _ (read_datagram (limits_of family) p) _ result contract (λ g. datagram-exact (limits_of family) p g b);
      commands = λ family p r b contract result. of-command family p r result b contract;
      logins = λ p r b contract imei.
          let k = login-exact p imei b in
          ((λ e. k.0 (sym contract ∙ e)), (λ h. contract ∙ k.1 h));
      forms = λ family f before after r b contract buffer q. (
        (λ k.
            let i = written-fits (packet_of_form (limits_of family) f) before (sym k.0 ∙ contract) in
            let rest = drop (length q) before in
            let left : after ≡ i.0 ++ drop (length i.0) before = buffer ∙ ap (λ x. leaving x before) i.1 ∙ leaving-done i.0 before (omega (arith, i.2, i.3)) in
            let same : i.0 ≡ q = fronts i.0 q rest i.2 (ap (λ (n : ℕ). i.0 ++ drop n before) (sym i.2) ∙ sym left ∙ k.1) in
            let j = on_accepted-accepted (read_form (limits_of family) f) _ (check-accepted (is_known (limits_of family).largest) 21 _ (packet_within (limits_of family) f) i.1).1 in
            let of = (form-exact (limits_of family) f j.0 b (omega (arith, (limits-most family).records))).0 j.1 in
            let whole : packet_bytes j.0 ≡ i.0 = cc j.2 in
            (j.0, subst (DataPacket (limits_of family) j.0) (whole ∙ same) of.packet, sym of.form, omega (arith, i.3))),
        (λ k.
            let a = k.0 in
            let whole = k.1.whole in
            let read = (form-exact (limits_of family) f a b (omega (arith, (limits-most family).records))).1 (record { packet = subst (DataPacket (limits_of family) a) whole k.1; form = sym k.2 }) in
            let packet = check-passed _ 21 _ _ (le-leb 1 (limits_of family).largest (omega (arith, k.1.frame.most))) ∙ on_accepted-passed (read_form (limits_of family) f) _ read ∙ ap Ok (sym whole) in (
              contract ∙ ap (λ x. writing x before) packet ∙ writing-done q before k.3,
              buffer ∙ ap (λ x. leaving x before) packet ∙ leaving-done q before k.3,
            )),
      );
    }
