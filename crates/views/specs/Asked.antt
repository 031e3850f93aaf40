-- The view that each call gives, of the inputs and the numbers of its line.
use Rattle.std.specs.Prelude.{ℕ, List}
use Rattle.wire.specs.Limits.{limits_of}
use Rattle.lookup.specs.Lookups.{tcp_source, udp_source, value_by_number, value_by_id, view, last_known}
use Rattle.lookup.specs.Answers.{known_view}
use Rattle.command.specs.Commands.{text_view, read_command}
use Rattle.views.specs.declared.Call.{Call}

unfoldable pub view_asked : Call → ℕ → List ℕ → List ℕ → ℕ → ℕ → ℕ → List ℕ
view_asked Call.PacketView family p older n k id = view (value_by_number (tcp_source (limits_of family) p) n k)
view_asked Call.DatagramView family p older n k id = view (value_by_number (udp_source (limits_of family) p) n k)
view_asked Call.PacketIdView family p older n k id = view (value_by_id (tcp_source (limits_of family) p) n id)
view_asked Call.DatagramIdView family p older n k id = view (value_by_id (udp_source (limits_of family) p) n id)
view_asked Call.LastKnownView family p older n k id = known_view (last_known id (tcp_source (limits_of family) p) (tcp_source (limits_of family) older))
view_asked Call.CommandText family p older n k id = text_view (read_command (limits_of family) p)
