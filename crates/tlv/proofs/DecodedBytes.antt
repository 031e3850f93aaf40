-- What is written of a decoded form is bytes.
use Prim.Native.Nat.{ℕ, zero, suc, ◌+◌}
use mathlib.Core.List.{List, [], ◌∷◌}
use lib.ListN.{length, drop, get_or}
use lib.Dec.{eqb}
use Rattle.wire.specs.Numbers.{Bytes, little_at}
use Rattle.wire.specs.Sequences.{All}
use Rattle.wire.proofs.Widths.{bytes_take, bytes_drop}
use Rattle.wire.proofs.Accepting.{pick-either}
use Rattle.avl.specs.Codecs.{widths_of, kinds}
use Rattle.avl.specs.DataField.{data_bytes}
use Rattle.avl.proofs.ByteLaws.{ByteValues, bytes-data}
use Rattle.frame.proofs.FrameLaws.{bytes-framed}
use Rattle.packet.specs.DataPackets.{packet_bytes}
use Rattle.store.specs.Entries.{Entry, entries_from, entries_of}
use Rattle.tlv.specs.Decoding.{entry_element, run, behind, groups_of, fixed_of, records_of, data_of, decoded}

abbrev ByteBodies : List Entry → Type 0
ByteBodies es = All (λ e. Bytes e.body) es

bytes-entries : (n : ℕ) (s : List ℕ) → Bytes s → ByteBodies (entries_from n s)
unfolding entries_from
bytes-entries zero s h = tt
bytes-entries (suc n) [] h = tt
bytes-entries (suc n) (b ∷ s) h = (
  bytes_take (little_at (b ∷ s) 0 2) (drop 4 (b ∷ s)) (bytes_drop 4 (b ∷ s) h),
  bytes-entries n (drop (4 + little_at (b ∷ s) 0 2) (b ∷ s)) (bytes_drop (4 + little_at (b ∷ s) 0 2) (b ∷ s) h),
)

bytes_run : (k : ℕ) (es : List Entry) → ByteBodies es → All (λ e. Bytes e.value) (run k es)
unfolding run entry_element
bytes_run k [] h = tt
bytes_run k (e ∷ es) h = pick-either (All (λ e. Bytes e.value)) (eqb e.kind k) (entry_element e ∷ run k es) [] (bytes_drop 2 e.body h.0, bytes_run k es h.1) tt

bytes-behind : (k : ℕ) (es : List Entry) → ByteBodies es → ByteBodies (behind k es)
unfolding behind
bytes-behind k [] h = tt
bytes-behind k (e ∷ es) h = pick-either ByteBodies (eqb e.kind k) (behind k es) (e ∷ es) (bytes-behind k es h.1) h

bytes-groups : (ks : List ℕ) (es : List Entry) → ByteBodies es → All (λ g. All (λ e. Bytes e.value) g) (groups_of ks es)
unfolding groups_of
bytes-groups [] es h = tt
bytes-groups (k ∷ ks) es h = (bytes_run k es h, bytes-groups ks (behind k es) (bytes-behind k es h))

bytes-records : (ks : List ℕ) (es : List Entry) → ByteBodies es → All ByteValues (records_of ks es)
unfolding records_of
bytes-records ks [] h = tt
bytes-records ks (e ∷ es) h =
    pick-either (All ByteValues) (eqb e.kind 101) (record { fixed = fixed_of e.body; groups = groups_of ks es } ∷ records_of ks es) (records_of ks es)
    (bytes-groups ks es h.1, bytes-records ks es h.1) (bytes-records ks es h.1)

bytes-data_of : (es : List Entry) → ByteBodies es → All ByteValues (data_of es).records
unfolding data_of
bytes-data_of [] h = tt
bytes-data_of (e ∷ es) h = bytes-records (kinds (widths_of (get_or e.body 0 0))) es h.1

pub bytes-field : (f : List ℕ) → Bytes f → Bytes (data_bytes (decoded f))
unfolding decoded entries_of
bytes-field f h = bytes-data (decoded f) (bytes-data_of (entries_of f) (bytes-entries (length f) f h))

pub bytes-decoded : (f : List ℕ) → Bytes f → Bytes (packet_bytes (decoded f))
unfolding packet_bytes
bytes-decoded f h = bytes-framed (data_bytes (decoded f)) (bytes-field f h)
