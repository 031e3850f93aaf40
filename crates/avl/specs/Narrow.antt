-- How wide the fields of a width set may be.
use Rattle.std.specs.Prelude.{◌≤◌}
use Rattle.avl.specs.declared.Widths.{Widths}

-- a width set is this narrow, and has room for an ID
pub record Narrow (w : Widths) : Type 0 where
  pub event : w.event ≤ 2
  pub generation : w.generation ≤ 1
  pub count : w.count ≤ 2
  pub id : w.id ≤ 2
  pub named : 1 ≤ w.id
