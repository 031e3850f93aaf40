-- The records of a data field that is accepted, as they stand between its counts.
use Rattle.std.specs.Prelude.{Ok}
use Prim.Native.Nat.{ℕ, ◌-◌, ◌^◌, ◌≤◌, ◌<◌}
use native.Mathlib.Omega.{arith}
use mathlib.Core.Path.{◌≡◌, ap, ◌∙◌}
use mathlib.Core.List.{List}
use lib.ListN.{length, take, drop, get_or}
use Rattle.wire.specs.Envelope.{codec_of, first_count, inner}
use Rattle.wire.specs.Reading.{got, repeat}
use Rattle.wire.proofs.Exactness.{Meets, meets-then, meets-next, meets-pure}
use Rattle.wire.proofs.Accepting.{check-accepted, on_accepted-accepted, told-accepted}
use Rattle.avl.specs.declared.Widths.{Widths}
use Rattle.avl.specs.Codecs.{widths_of}
use Rattle.avl.specs.Records.{AvlRecord}
use Rattle.avl.specs.RecordReader.{plain_record, avl_records, at_end, all_records}
use Rattle.avl.specs.DataField.{AvlData, read_data}
use Rattle.avl.proofs.Inversion.{meets-self, plain-records}

-- a data field whose content is known
pub record FieldOf (longest : ℕ) (d : List ℕ) (a : AvlData) : Type 0 where
  pub long : 3 ≤ length d
  pub small : length d < 2 ^ 32
  pub accepts : read_data longest d ≡ Ok a

all_read : (longest : ℕ) (w : Widths) (n : ℕ) (s : List ℕ) (at : ℕ) → Meets (all_records longest w n s at) (λ rs end. (mid : ℕ) × (avl_records longest w 0 n s at ≡ got rs mid))
unfolding all_records
all_read longest w n s at =
    meets-then (avl_records longest w 0 n) _ s at (meets-self _) (λ rs mid k.
    meets-next (at_end n) _ s mid (meets-self _) (λ u next e.
    meets-pure rs s next (mid, k)))

module _ (d : List ℕ) where
  -- the codec, the count and the space between the counts
  abbrev pub codec : ℕ
  codec = get_or d 0 0

  abbrev pub count : ℕ
  count = get_or d 1 0

  abbrev pub body : List ℕ
  body = take (length d - 1 - 2) (drop 2 d)

  pub record FieldRead (a : AvlData) : Type 0 where
    pub records : List AvlRecord
    pub end : ℕ
    pub reads : repeat count (plain_record (widths_of codec)) body 0 ≡ got records end
    pub is : a ≡ record { codec = codec; records = records }

  pub field-read : (longest : ℕ) (a : AvlData) → read_data longest d ≡ Ok a → FieldRead a
  unfolding read_data codec_of first_count inner
  field-read longest a e =
      let c₁ = check-accepted _ 6 _ _ e in
      let c₂ = check-accepted _ 7 _ _ c₁.1 in
      let c₃ = check-accepted _ 7 _ _ c₂.1 in
      let c₄ = on_accepted-accepted _ _ c₃.1 in
      let c₅ = told-accepted _ _ c₄.1 in
      let r = (all_read longest (widths_of codec) count (inner d) 0).if-got _ _ c₅.1 in
      let same : length d - 1 - 2 ≡ length d - 3 = omega arith in
      record {
        records = c₄.0;
        end = r.0;
        reads = ap (λ (n : ℕ). repeat count (plain_record (widths_of codec)) (take n (drop 2 d)) 0) same ∙ plain-records longest (widths_of codec) 0 count _ 0 r.1;
        is = cc;
      }
