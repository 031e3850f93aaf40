-- What the printed fields of a record are, in its own terms; and two records, of any codecs, that have the same.
use Rattle.std.specs.Prelude.{ℕ, ◌≡◌, List, [], ◌∷◌}
use Rattle.avl.specs.declared.Widths.{Widths}
use Rattle.avl.specs.Records.{AvlRecord}
use Rattle.element.specs.Elements.{Located, elements}

-- the kinds of a record's elements
unfoldable pub kinds_of : List Located → List ℕ
kinds_of [] = []
kinds_of (e ∷ l) = e.kind ∷ kinds_of l

-- an element without its place
pub record Shown : Type 0 where
  pub kind : ℕ
  pub id : ℕ
  pub value : List ℕ

unfoldable pub shown_of : Located → Shown
shown_of e = record { kind = e.kind; id = e.id; value = e.value }

unfoldable pub shown_all : List Located → List Shown
shown_all [] = []
shown_all (e ∷ l) = shown_of e ∷ shown_all l

pub record SameFields (w v : Widths) (r q : AvlRecord) : Type 0 where
  pub timestamp : r.fixed.timestamp ≡ q.fixed.timestamp
  pub longitude : r.fixed.longitude ≡ q.fixed.longitude
  pub latitude : r.fixed.latitude ≡ q.fixed.latitude
  pub speed : r.fixed.speed ≡ q.fixed.speed
  pub shown : shown_all (elements w r) ≡ shown_all (elements v q)
