-- What is written of data whose values are bytes is bytes.
use Prim.Native.Nat.{ℕ}
use mathlib.Core.Bool.{Bool, true, false}
use mathlib.Core.List.{List, [], ◌∷◌, ◌++◌}
use lib.ListN.{length}
use lib.Dec.{eqb}
use Rattle.wire.specs.Numbers.{Bytes, be, pick}
use Rattle.wire.specs.Sequences.{joined, All}
use Rattle.wire.proofs.Widths.{bytes-append, bytes-be}
use Rattle.wire.proofs.Enclosed.{bytes-enclosed}
use Rattle.avl.specs.declared.Widths.{Widths}
use Rattle.avl.specs.Codecs.{widths_of, kinds}
use Rattle.avl.specs.Records.{Element, Fixed, AvlRecord, element_count, length_bytes, element_bytes, group_bytes, groups_bytes, fixed_bytes, record_bytes}
use Rattle.avl.specs.DataField.{AvlData, data_bytes}

abbrev pub ByteValues : AvlRecord → Type 0
ByteValues r = All (λ g. All (λ e. Bytes e.value) g) r.groups

bytes-joined : {A : Type 0} (P : A → Type 0) (write : A → List ℕ) → ((a : A) → P a → Bytes (write a)) → (l : List A) → All P l → Bytes (joined write l)
bytes-joined P write f [] h = tt
bytes-joined P write f (a ∷ l) h = bytes-append (write a) (joined write l) (f a h.0) (bytes-joined P write f l h.1)

-- a number before bytes
lead : (w n : ℕ) (s : List ℕ) → Bytes s → Bytes (be w n ++ s)
lead w n s h = bytes-append (be w n) s (bytes-be w n) h

bytes-size : (variable : Bool) (n : ℕ) → Bytes (pick variable (be 2 n) [])
bytes-size true n = bytes-be 2 n
bytes-size false n = tt

bytes-element : (w : Widths) (k : ℕ) (e : Element) → Bytes e.value → Bytes (element_bytes w k e)
unfolding element_bytes length_bytes
bytes-element w k e h =
    lead w.id e.id _ (bytes-append (pick (eqb k 9) (be 2 (length e.value)) []) e.value (bytes-size (eqb k 9) (length e.value)) h)

bytes-groups : (w : Widths) (ks : List ℕ) (gs : List (List Element)) → All (λ g. All (λ e. Bytes e.value) g) gs → Bytes (groups_bytes w ks gs)
unfolding groups_bytes group_bytes
bytes-groups w [] gs h = tt
bytes-groups w (k ∷ ks) [] h = tt
bytes-groups w (k ∷ ks) (g ∷ gs) h =
    bytes-append (be w.count (length g) ++ joined (element_bytes w k) g) (groups_bytes w ks gs)
    (lead w.count (length g) _ (bytes-joined (λ e. Bytes e.value) (element_bytes w k) (bytes-element w k) g h.0)) (bytes-groups w ks gs h.1)

bytes-fixed : (w : Widths) (f : Fixed) → Bytes (fixed_bytes w f)
unfolding fixed_bytes
bytes-fixed w f =
    lead 8 f.timestamp _ (lead 1 f.priority _ (lead 4 f.longitude _ (lead 4 f.latitude _ (lead 2 f.altitude _ (lead 2 f.angle _
    (lead 1 f.satellites _ (lead 2 f.speed _ (lead w.event f.event _ (bytes-be w.generation f.generation)))))))))

bytes-record : (w : Widths) (r : AvlRecord) → ByteValues r → Bytes (record_bytes w r)
unfolding record_bytes
bytes-record w r h =
    bytes-append (fixed_bytes w r.fixed) _ (bytes-fixed w r.fixed) (lead w.count (element_count r.groups) _ (bytes-groups w (kinds w) r.groups h))

pub bytes-data : (a : AvlData) → All ByteValues a.records → Bytes (data_bytes a)
unfolding data_bytes
bytes-data a h =
    bytes-enclosed a.codec (length a.records) _ (bytes-joined ByteValues (record_bytes (widths_of a.codec)) (bytes-record (widths_of a.codec)) a.records h)
