-- What carries records: an input in which they stand one behind another.
use Rattle.std.specs.Prelude.{Ok, ℕ, List, ◌≡◌}
use Rattle.wire.specs.Answers.{Answer, on_accepted}
use Rattle.avl.specs.Codecs.{widths_of}
use Rattle.avl.specs.DataField.{DataRules}
use Rattle.walk.specs.declared.DataWalk.{DataWalk}
use Rattle.walk.specs.Walks.{data_walk}
use Rattle.lookup.specs.Places.{place_records, Tiles}
use Rattle.lookup.specs.Lookups.{Source}

-- the records of `x` keep the rules and stand in `p` one behind another
pub record Stored (longest : ℕ) (p : List ℕ) (x : Source) : Type 0 where
  pub rules : DataRules longest x.content
  pub tiles : (to : ℕ) × Tiles (widths_of x.content.codec) p x.base to (place_records (widths_of x.content.codec) x.base x.content.records)

-- what is accepted stands in `p`, its first record at `base`
pub record Carried (longest base : ℕ) (p : List ℕ) (source : Answer Source) : Type 0 where
  pub stored : (x : Source) → source ≡ Ok x → Stored longest p x
  pub first : (x : Source) → source ≡ Ok x → x.base ≡ base

-- its codec and count, and where the wanted record lies behind `base`
unfoldable pub walk_of : ℕ → Answer Source → Answer DataWalk
walk_of want source = data_walk want (on_accepted source (λ x. Ok x.content))
