-- The entries of a record: that of its fixed fields, then those of its groups.
use Prim.Native.Nat.{ℕ, ◌+◌}
use native.Mathlib.Omega.{arith}
use mathlib.Core.Path.{◌≡◌, sym, ap, ap₂, ◌∙◌}
use mathlib.Core.List.{List}
use lib.ListN.{length, length-append}
use lib.Seq.{sets}
use Rattle.wire.specs.Numbers.{le}
use Rattle.wire.specs.Reading.{got}
use Rattle.wire.proofs.Storing.{sets-append}
use Rattle.avl.specs.declared.Widths.{Widths}
use Rattle.avl.specs.Codecs.{kinds}
use Rattle.avl.specs.RecordReader.{groups, fixed_fields, plain_record}
use Rattle.avl.proofs.Inversion.{RecordRead, record-read, fixed-read}
use Rattle.element.specs.Elements.{fixed_size}
use Rattle.store.specs.Entries.{entry_bytes}
use Rattle.tlv.specs.Form.{fixed_entry}
use Rattle.traverse.specs.declared.Moved.{Moved}
use Rattle.traverse.specs.Texts.{groups_text, record_text}
use Rattle.traverse.specs.Copying.{Ready, Copies, OnPace}
use Rattle.traverse.proofs.CopyLaws.{moved, copies_of}
use Rattle.form.specs.Moves.{entry_text, fixed_text, head_text}

module _ (w : Widths) {s : List ℕ} {at to : ℕ} (k : Ready (plain_record w) s at to) where
  whole : RecordRead w s at k.content k.next
  whole = (record-read w s at).if-got _ _ k.reads

  pub record-fixed : Ready (fixed_fields w) s at to
  record-fixed =
      record { bytes = k.bytes; small = k.small; inside = k.inside; behind = k.behind; content = k.content.fixed; next = whole.start; reads = whole.fixed }

  module _ {before mid : List ℕ} {r : Moved} (c : Copies (fixed_fields w) fixed_text s at to before mid r) where
    fixed_moved : r ≡ moved whole.start (to + length (fixed_text at k.content.fixed))
    fixed_moved = c.moves _ _ whole.fixed

    start_is : r.from ≡ whole.start
    start_is = ap (λ (x : Moved). x.from) fixed_moved

    place_is : r.to ≡ to + length (fixed_text at k.content.fixed)
    place_is = ap (λ (x : Moved). x.to) fixed_moved

    behind-is : r.from + w.count ≡ at + fixed_size w
    unfolding fixed_size
    behind-is = omega (arith, start_is, ((fixed-read w s at).if-got _ _ whole.fixed).end)

    groups-read : groups w (kinds w) s (r.from + w.count) ≡ got k.content.groups k.next
    groups-read = ap (λ (n : ℕ). groups w (kinds w) s (n + w.count)) start_is ∙ whole.groups_read

    pub record-groups : Ready (groups w (kinds w)) s (r.from + w.count) r.to
    unfolding entry_bytes fixed_entry le fixed_size
    record-groups =
        record {
          bytes = k.bytes;
          small = k.small;
          inside = omega (arith, start_is, whole.inside);
          behind = omega (arith, behind-is, place_is, k.behind);
          content = k.content.groups;
          next = k.next;
          reads = groups-read;
        }

    -- the fixed fields make room for their entry
    pub record-pace : {q : Moved} → OnPace s (r.from + w.count) r.to q → OnPace s at to q
    unfolding entry_bytes fixed_entry le fixed_size
    record-pace p = record { inside = p.inside; ahead = omega (arith, p.ahead, behind-is, place_is) }

    pub record-copied : {after : List ℕ} {q : Moved} → Copies (groups w (kinds w)) (groups_text entry_text w (kinds w)) s (r.from + w.count) r.to mid after q
        → Copies (plain_record w) (record_text entry_text w head_text) s at to before after q
    record-copied d =
        let one = fixed_text at k.content.fixed in
        let many = groups_text entry_text w (kinds w) (at + fixed_size w) k.content.groups in
        let same = ap (λ (n : ℕ). groups_text entry_text w (kinds w) n k.content.groups) behind-is in
        copies_of k.reads
        (d.moves _ _ groups-read ∙ ap (moved k.next) (omega (arith, place_is, length-append one many, ap length same)))
        (d.stores _ _ groups-read
        ∙ ap (sets mid r.to) same
        ∙ ap₂ (λ (o : List ℕ) (n : ℕ). sets o n many) (c.stores _ _ whole.fixed) place_is
        ∙ sym (sets-append before to one many))
