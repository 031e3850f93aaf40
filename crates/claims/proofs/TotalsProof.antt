-- A record gets 9 with any total but the number of its elements.
use Rattle.std.specs.Prelude.{Err}
use Prim.Native.Nat.{ℕ, zero, suc, ◌+◌, ◌<◌}
use native.Mathlib.Nat.{add-zero, zero-add}
use native.Mathlib.Omega.{arith}
use mathlib.Core.Path.{◌≡◌, refl, sym, ap, ◌∙◌, subst}
use mathlib.Core.List.{List, [], ◌∷◌}
use lib.ListN.{length}
use borrow.Author.Tests.{ne_eqb}
use Rattle.wire.specs.declared.Refusal.{Refusal}
use Rattle.wire.specs.declared.Limits.{Limits}
use Rattle.wire.specs.Sequences.{fields, joined, All}
use Rattle.wire.specs.Reading.{bad}
use Rattle.wire.proofs.Placed.{Between, between_split, between-whole}
use Rattle.wire.proofs.Accepting.{on_accepted-refused, on_accepted-passed, from-refused, told-bad}
use Rattle.wire.proofs.Exactness.{then-got}
use Rattle.wire.proofs.Walking.{then-bad, require-bad}
use Rattle.avl.specs.declared.Widths.{Widths}
use Rattle.avl.specs.Codecs.{widths_of}
use Rattle.avl.specs.Records.{AvlRecord, element_count, record_bytes, RecordRules}
use Rattle.avl.specs.RecordReader.{avl_record, tagged, in_record, avl_records, all_records}
use Rattle.avl.specs.DataField.{read_data}
use Rattle.avl.proofs.RecordLaws.{record-ended, record-exact}
use Rattle.avl.proofs.DataLaws.{data-walked}
use Rattle.packet.specs.DataPackets.{read_packet}
use Rattle.datagram.specs.Datagrams.{read_datagram}
use Rattle.claims.specs.Rows.{◌at◌byte◌}
use Rattle.claims.specs.Totals.{bytes_with, field_with, ReadUpTo, Nine, TotalsKept}

-- the first records are read, the next is broken
records-broken : (longest : ℕ) (w : Widths) (first : List AvlRecord) (index count broken : ℕ) (s : List ℕ) (from mid : ℕ) {x : Refusal} → length first < count
    → index + length first ≡ broken → All (RecordRules longest w) first → Between s from (joined (record_bytes w) first) mid → avl_record longest w s mid ≡ bad x
    → avl_records longest w index count s from ≡ bad (record { number = x.number; index = broken; place = x.place })
unfolding avl_records in_record tagged
records-broken longest w [] index zero broken s from mid h i k f e = absurd (omega arith)
records-broken longest w (r ∷ rs) index zero broken s from mid h i k f e = absurd (omega arith)
records-broken longest w [] index (suc m) broken s from mid {x} h i k f e =
    then-bad (in_record index (avl_record longest w)) _ s from (ap (tagged index) (subst (λ (n : ℕ). avl_record longest w s n ≡ bad x) (f.size ∙ add-zero from) e))
    ∙ ap (λ (n : ℕ). bad (record { number = x.number; index = n; place = x.place })) (sym (add-zero index) ∙ i)
records-broken longest w (r ∷ rs) index (suc m) broken s from mid h i k f e =
    let a = between_split (record_bytes w r) f in
    then-got (in_record index (avl_record longest w)) _ s from (ap (tagged index) ((record-exact longest w).complete s from r _ k.0 a.0))
    ∙ then-bad (avl_records longest w (suc index) m) _ s _ (records-broken longest w rs (suc index) m broken s _ mid (omega arith) (omega arith) k.1 a.1 e)

field-nine : (longest codec count : ℕ) (first : List AvlRecord) (n : ℕ) (r : AvlRecord) (rest : List ℕ) → ReadUpTo longest codec count first n r
    → (n ≡ element_count r.groups → ⊥) → read_data longest (field_with codec count first n r rest) ≡ Err (9 at length first byte (2 + length (joined (record_bytes (widths_of codec)) first)))
unfolding field_with bytes_with all_records
field-nine longest codec count first n r rest h ne =
    let w = widths_of codec in
    let body = fields (joined (record_bytes w) first ∷ bytes_with w n r ∷ rest ∷ []) in
    let a = between_split (joined (record_bytes w) first) (between-whole body) in
    let b = between_split (bytes_with w n r) a.1 in
    let e = record-ended longest w n r body _ _ h.fixed_keep h.room h.groups_keep b.0 ∙ require-bad _ 9 _ _ body _ (ne_eqb n (element_count r.groups) ne) in
    let broken = records-broken longest w first 0 count (length first) body 0 _ h.counted (zero-add (length first)) h.each a.0 e in
    data-walked longest codec count body h.codec_known (omega (arith, h.counted)) h.count_fits
    ∙ on_accepted-refused _ _ (told-bad 2 _ (then-bad (avl_records longest w 0 count) _ body 0 broken))
    ∙ ap (λ (start : ℕ). Err (9 at length first byte (2 + start))) (zero-add (length (joined (record_bytes w) first)))

nine : (limits : Limits) (codec count : ℕ) (first : List AvlRecord) (n : ℕ) (r : AvlRecord) (rest : List ℕ) → ReadUpTo limits.longest codec count first n r
    → (n ≡ element_count r.groups → ⊥) → Nine limits (field_with codec count first n r rest) (length first) (2 + length (joined (record_bytes (widths_of codec)) first))
unfolding read_packet read_datagram
nine limits codec count first n r rest h ne =
    let e = field-nine limits.longest codec count first n r rest h ne in
    record {
      in_packet = λ p k. on_accepted-passed _ _ k ∙ from-refused 8 _ e;
      in_datagram = λ p g k d. on_accepted-passed _ _ k ∙ on_accepted-refused _ _ (from-refused 23 _ (ap (read_data limits.longest) d ∙ e));
    }

pub totals-kept : TotalsKept
unfolding record_bytes bytes_with element_count
totals-kept limits codec count first n r rest h =
    record {
      right = refl;
      wrong = nine limits codec count first n r rest h;
      four_counts = λ a b c d vs v is e. nine limits codec count first n r rest h (λ same. omega (arith, same, e, ap element_count is));
      too_many = λ many. nine limits codec count first n r rest h (λ same. omega (arith, same, many, h.room));
    }
