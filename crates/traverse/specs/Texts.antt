-- What is written along a record and along records, where `f` says what is written for an element in its place.
use Rattle.std.specs.Prelude.{ℕ, ◌+◌, List, [], ◌∷◌, ◌++◌, length}
use Rattle.wire.specs.Sequences.{joined}
use Rattle.avl.specs.declared.Widths.{Widths}
use Rattle.avl.specs.Codecs.{kinds}
use Rattle.avl.specs.Records.{Element, AvlRecord, record_bytes}
use Rattle.element.specs.Elements.{Located, lead_size, locate_group, locate_groups, fixed_size}

module _ (f : Located → List ℕ) (w : Widths) where
  -- the element of a kind that stands at `at`
  abbrev pub element_text : ℕ → ℕ → Element → List ℕ
  element_text kind at e = f (record { kind = kind; id = e.id; place = at + lead_size w kind; value = e.value })

  -- elements of a kind, one behind another
  abbrev pub run_text : ℕ → ℕ → List Element → List ℕ
  run_text kind at g = joined f (locate_group w kind at g)

  -- the same behind their count
  abbrev pub group_text : ℕ → ℕ → List Element → List ℕ
  group_text kind at g = run_text kind (at + w.count) g

  abbrev pub groups_text : List ℕ → ℕ → List (List Element) → List ℕ
  groups_text ks at gs = joined f (locate_groups w ks at gs)

  -- a record: what `head` says of it, then its elements
  abbrev pub record_text : (ℕ → AvlRecord → List ℕ) → ℕ → AvlRecord → List ℕ
  record_text head at r = head at r ++ groups_text (kinds w) (at + fixed_size w) r.groups

-- records one behind another
unfoldable pub records_text : (ℕ → AvlRecord → List ℕ) → Widths → ℕ → List AvlRecord → List ℕ
records_text text w at [] = []
records_text text w at (r ∷ rs) = text at r ++ records_text text w (at + length (record_bytes w r)) rs
