-- A record's elements in packet order, each with its kind and with the place of its value, counted from the record's start.
use Rattle.std.specs.Prelude.{Err, Ok, ℕ, zero, suc, ◌+◌, List, [], ◌∷◌, ◌++◌, length, eqb}
use Rattle.wire.specs.Numbers.{pick}
use Rattle.wire.specs.Answers.{Answer, refusal}
use Rattle.avl.specs.declared.Widths.{Widths}
use Rattle.avl.specs.Codecs.{kinds}
use Rattle.avl.specs.Records.{Element, AvlRecord, element_bytes, group_bytes}

pub record Located : Type 0 where
  pub kind : ℕ
  pub id : ℕ
  pub place : ℕ
  pub value : List ℕ

-- how many bytes stand before a value: its ID, and the length of a variable one
unfoldable pub lead_size : Widths → ℕ → ℕ
lead_size w kind = w.id + pick (eqb kind 9) 2 0

unfoldable pub locate_group : Widths → ℕ → ℕ → List Element → List Located
locate_group w kind at [] = []
locate_group w kind at (e ∷ g) =
    record { kind = kind; id = e.id; place = at + lead_size w kind; value = e.value }
    ∷ locate_group w kind (at + length (element_bytes w kind e)) g

unfoldable pub locate_groups : Widths → List ℕ → ℕ → List (List Element) → List Located
locate_groups w [] at gs = []
locate_groups w (k ∷ ks) at [] = []
locate_groups w (k ∷ ks) at (g ∷ gs) = locate_group w k (at + w.count) g ++ locate_groups w ks (at + length (group_bytes w k g)) gs

-- how many bytes of a record stand before its groups
unfoldable pub fixed_size : Widths → ℕ
fixed_size w = 24 + w.event + w.generation + w.count

unfoldable pub elements : Widths → AvlRecord → List Located
elements w r = locate_groups w (kinds w) (fixed_size w) r.groups

-- the n-th of a list, from 0, else 16
unfoldable pub nth : {A : Type 0} → ℕ → List A → Answer A
nth n [] = Err (refusal 16)
nth zero (a ∷ l) = Ok a
nth (suc n) (a ∷ l) = nth n l

-- the first with this ID, else 16
unfoldable pub first_with : ℕ → List Located → Answer Located
first_with id [] = Err (refusal 16)
first_with id (e ∷ l) = pick (eqb e.id id) (Ok e) (first_with id l)

-- the number of elements passed in looking for it: its place, from 1; all of them where there is none
unfoldable pub passed_for : ℕ → List Located → ℕ
passed_for id [] = 0
passed_for id (e ∷ l) = pick (eqb e.id id) 1 (suc (passed_for id l))
