-- The form of a data field: the entry of the codec, then the records'.
use Prim.Native.Nat.{ℕ}
use native.Mathlib.Omega.{arith}
use mathlib.Core.Path.{◌≡◌, sym, ap, ◌∙◌, subst}
use mathlib.Core.List.{List, [], ◌∷◌}
use lib.ListN.{length}
use lib.Seq.{sets}
use Rattle.wire.specs.Numbers.{le}
use Rattle.wire.specs.Reading.{repeat}
use Rattle.wire.proofs.Storing.{sets-append}
use Rattle.avl.specs.declared.Widths.{Widths}
use Rattle.avl.specs.Codecs.{widths_of}
use Rattle.avl.specs.RecordReader.{plain_record}
use Rattle.store.specs.Entries.{entry_bytes}
use Rattle.tlv.specs.Form.{form_entries, form}
use Rattle.traverse.specs.declared.Moved.{Moved}
use Rattle.traverse.specs.Texts.{record_text, records_text}
use Rattle.traverse.specs.Copying.{Copies}
use Rattle.traverse.specs.Fields.{field_text}
use Rattle.traverse.proofs.CopyLaws.{moved}
use Rattle.form.specs.Moves.{entry_text, head_text}
use Rattle.form.proofs.TextLaws.{records-laid}

pub form-copied : (codec count : ℕ) {w : Widths} {s before mid after : List ℕ} {r : Moved} → w ≡ widths_of codec → mid ≡ sets before 0 (1 ∷ 0 ∷ 100 ∷ 0 ∷ codec ∷ [])
    → Copies (repeat count (plain_record w)) (records_text (record_text entry_text w head_text) w) s 0 5 mid after r
    → Copies (repeat count (plain_record (widths_of codec))) (field_text form codec) s 0 0 before after r
unfolding entry_bytes form_entries form le
form-copied codec count {w} {s} {before} {mid} {after} {r} is e c =
    let d = subst (λ (x : Widths). Copies (repeat count (plain_record x)) (records_text (record_text entry_text x head_text) x) s 0 5 mid after r) is c in
    record {
      moves = λ a n k. d.moves a n k ∙ ap (moved n) (omega (arith, ap length (records-laid (widths_of codec) 0 a)));
      stores = λ a n k.
          let rest = records_text (record_text entry_text (widths_of codec) head_text) (widths_of codec) 0 a in
          d.stores a n k
          ∙ ap (λ (o : List ℕ). sets o 5 rest) e
          ∙ sym (sets-append before 0 (1 ∷ 0 ∷ 100 ∷ 0 ∷ codec ∷ []) rest)
          ∙ ap (λ (l : List ℕ). sets before 0 (1 ∷ 0 ∷ 100 ∷ 0 ∷ codec ∷ l)) (records-laid (widths_of codec) 0 a);
    }
