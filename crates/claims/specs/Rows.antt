-- A row of a table: its label, what is asked, and what the paper says of it.
use Rattle.std.specs.Prelude.{ℕ, ◌≡◌, List, [], ◌∷◌}
use Prim.Native.String.{String}
use Rattle.wire.specs.declared.Refusal.{Refusal}

pub record Row : Type 1 where
  pub label : String
  pub Asked : Type 0
  pub asked : Asked
  pub says : Asked

abbrev pub row : {A : Type 0} → String → A → A → Row
row {A} label asked says = record { label = label; Asked = A; asked = asked; says = says }

-- every row is answered as the paper says
abbrev pub AsSaid : List Row → Type 0
AsSaid [] = Unit {0}
AsSaid (r ∷ rows) = (r.asked ≡ r.says) × AsSaid rows

-- the same of a table in parts
abbrev pub EachAsSaid : List (List Row) → Type 0
EachAsSaid [] = Unit {0}
EachAsSaid (rows ∷ parts) = AsSaid rows × EachAsSaid parts

-- the refusal with this number at this record, whose place is this byte
infix 60 ◌at◌byte◌
abbrev pub ◌at◌byte◌ : ℕ → ℕ → ℕ → Refusal
number at index byte place = record { number = number; index = index; place = place }

-- the same where no field is to blame, or the first
infix 60 ◌at◌
abbrev pub ◌at◌ : ℕ → ℕ → Refusal
number at index = number at index byte 0
