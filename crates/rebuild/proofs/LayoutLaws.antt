-- What a data field consists of, part by part as it is stored.
use Prim.Native.Nat.{ℕ, ◌-◌, min}
use native.Mathlib.Omega.{arith}
use mathlib.Core.Path.{◌≡◌, ap, ap₂, ◌∙◌}
use mathlib.Core.List.{List, ◌++◌, append_assoc}
use lib.ListN.{length, take, drop, get_or, length-drop}
use borrow.Author.Tests.{eq-eqb, ne_eqb}
use Rattle.wire.specs.Numbers.{be, little_at}
use Rattle.wire.specs.Sequences.{joined}
use Rattle.wire.specs.Envelope.{enclosed}
use Rattle.avl.specs.declared.Widths.{Widths}
use Rattle.avl.specs.Codecs.{widths_of, kinds}
use Rattle.avl.specs.Records.{length_bytes, element_bytes, record_bytes}
use Rattle.avl.specs.DataField.{data_bytes}
use Rattle.tlv.specs.Decoding.{entry_element, records_of, decoded}
use Rattle.store.specs.Entries.{body_at, next_at, entries_at}
use Rattle.rebuild.proofs.OffsetLaws.{decoded-at, value-part}

-- ---- an element

module _ (w : Widths) (kind : ℕ) (b : List ℕ) (start : ℕ) (e : start ≡ min (length b) 2) where
  pub element-plain : (kind ≡ 9 → ⊥) → be w.id (little_at b 0 2) ++ take (length b - start) (drop start b) ≡ element_bytes w kind (entry_element (record { kind = kind; body = b }))
  unfolding element_bytes length_bytes entry_element
  element-plain n = simp (value-part b start e, ne_eqb _ _ n)

  pub element-variable : kind ≡ 9
      → be w.id (little_at b 0 2) ++ (be 2 (length b - start) ++ take (length b - start) (drop start b)) ≡ element_bytes w kind (entry_element (record { kind = kind; body = b }))
  unfolding element_bytes length_bytes entry_element
  element-variable k =
      let size : length b - start ≡ length (drop 2 b) = omega (arith, e, length-drop 2 b) in
      ap₂ (λ (n : ℕ) (l : List ℕ). be w.id (little_at b 0 2) ++ (be 2 n ++ l)) size (value-part b start e) ∙ simp (eq-eqb _ _ k)

-- ---- the data field

pub data-at : (f : List ℕ) (code from n : ℕ) (w : Widths) → code ≡ get_or (body_at f 0) 0 0 → from ≡ next_at f 0 → w ≡ widths_of code → n ≡ length (records_of (kinds w) (entries_at f from))
    → be 1 code ++ ((be 1 n ++ joined (record_bytes w) (records_of (kinds w) (entries_at f from))) ++ be 1 n) ≡ data_bytes (decoded f)
unfolding data_bytes enclosed
data-at f code from n w c s k h =
    let whole = ap data_bytes (decoded-at f) in
    simp append_assoc (cc (whole))
