-- The judge of a command packet accepts exactly what keeps the rules, in one way only.
use Rattle.std.specs.Prelude.{Ok}
use Prim.Native.Nat.{ℕ}
use mathlib.Core.Path.{◌≡◌, ap, ◌∙◌}
use mathlib.Core.Logic.{◌↔◌}
use mathlib.Core.List.{List}
use Rattle.wire.specs.declared.Limits.{Limits}
use Rattle.wire.specs.Numbers.{Bytes}
use Rattle.wire.proofs.Accepting.{on_accepted-accepted, on_accepted-passed, from-accepted, from-passed}
use Rattle.frame.specs.Frame.{framed, unframe}
use Rattle.frame.proofs.FrameLaws.{frame-exact, frame-complete}
use Rattle.command.specs.Commands.{Command, command_field, CommandPacket, read_command}
use Rattle.command.proofs.CommandLaws.{field-sound, field-complete}

command-sound : (limits : Limits) (p : List ℕ) (c : Command) → Bytes p → read_command limits p ≡ Ok c → CommandPacket limits c p
unfolding read_command
command-sound limits p c h e =
    let i = on_accepted-accepted (unframe limits.largest p) _ e in
    let f = (frame-exact limits.largest p i.0 h).0 i.1 in
    let k = field-sound i.0 c f.0.bytes f.0.least (from-accepted 8 _ i.2) in
    record { row = k.0; rules = k.1.0; frame = rw k.1.1 at f.0; whole = f.1 ∙ ap framed k.1.1 }

pub command-complete : (limits : Limits) (p : List ℕ) (c : Command) → CommandPacket limits c p → read_command limits p ≡ Ok c
unfolding read_command
command-complete limits p c k =
    on_accepted-passed (unframe limits.largest p) _ (ap (unframe limits.largest) k.whole ∙ frame-complete limits.largest (command_field k.row c) k.frame)
    ∙ from-passed 8 _ (field-complete k.row c k.rules k.frame.counted)

pub command-exact : (limits : Limits) (p : List ℕ) (c : Command) → Bytes p → (read_command limits p ≡ Ok c) ↔ CommandPacket limits c p
command-exact limits p c h = (command-sound limits p c h, command-complete limits p c)

pub command-unique : (limits : Limits) (p : List ℕ) (c e : Command) → CommandPacket limits c p → CommandPacket limits e p → c ≡ e
command-unique limits p c e f g =
    let one = command-complete limits p c f in
    let other = command-complete limits p e g in
    cc
