-- The judge of a TCP data packet accepts exactly what keeps the rules, in one way only.
use Rattle.std.specs.Prelude.{Ok}
use Prim.Native.Nat.{ℕ}
use mathlib.Core.Path.{◌≡◌, ap, ◌∙◌}
use mathlib.Core.Logic.{◌↔◌}
use mathlib.Core.List.{List}
use Rattle.wire.specs.declared.Limits.{Limits}
use Rattle.wire.specs.Numbers.{Bytes}
use Rattle.wire.proofs.Accepting.{on_accepted-accepted, on_accepted-passed, from-accepted, from-passed}
use Rattle.avl.specs.DataField.{AvlData, data_bytes}
use Rattle.avl.proofs.DataLaws.{data-exact, data-complete}
use Rattle.frame.specs.Frame.{framed, unframe}
use Rattle.frame.proofs.FrameLaws.{frame-exact, frame-complete}
use Rattle.packet.specs.DataPackets.{packet_bytes, DataPacket, read_packet}

packet-sound : (limits : Limits) (p : List ℕ) (a : AvlData) → Bytes p → read_packet limits p ≡ Ok a → DataPacket limits a p
unfolding read_packet packet_bytes
packet-sound limits p a h e =
    let i = on_accepted-accepted (unframe limits.largest p) _ e in
    let f = (frame-exact limits.largest p i.0 h).0 i.1 in
    let d = (data-exact limits.longest i.0 a f.0.bytes f.0.least).0 (from-accepted 8 _ i.2) in
    record { rules = d.0; frame = rw d.1 at f.0; whole = f.1 ∙ ap framed d.1 }

pub packet-complete : (limits : Limits) (p : List ℕ) (a : AvlData) → DataPacket limits a p → read_packet limits p ≡ Ok a
unfolding read_packet packet_bytes
packet-complete limits p a k =
    on_accepted-passed (unframe limits.largest p) _ (ap (unframe limits.largest) k.whole ∙ frame-complete limits.largest (data_bytes a) k.frame)
    ∙ from-passed 8 _ (data-complete limits.longest a k.rules)

pub packet-exact : (limits : Limits) (p : List ℕ) (a : AvlData) → Bytes p → (read_packet limits p ≡ Ok a) ↔ DataPacket limits a p
packet-exact limits p a h = (packet-sound limits p a h, packet-complete limits p a)

pub packet-unique : (limits : Limits) (p : List ℕ) (a b : AvlData) → DataPacket limits a p → DataPacket limits b p → a ≡ b
packet-unique limits p a b f g =
    let left = packet-complete limits p a f in
    let right = packet-complete limits p b g in
    cc
