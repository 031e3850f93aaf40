-- Invariant: the connection waits, and what is left of the stream gives the refusal of the whole.
use Rattle.report.proofs.ConnectionLaws.{Going}
use lib.ListN.{length}
use mathlib.Core.Path.{◌≡◌}
use Prim.Native.Nat.{◌-◌}
use Rattle.report.proofs.show_feeds.Given as goal

abbrev pub invariant-loop-at : goal.invariant-loop-at
invariant-loop-at g l = (length l.held ≡ 1280) × ((length l.packet ≡ 1280) × Going l.family l.p (record { held = l.held; fill = l.fill; phase = l.phase }) l.at)

abbrev pub decreases-loop-at : goal.decreases-loop-at
decreases-loop-at g l = length l.p - l.at
