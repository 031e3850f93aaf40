-- What is decoded of a form is not much longer than the form.
use Prim.Native.Nat.{ℕ, zero, suc, ◌+◌, ◌*◌, ◌^◌, ◌≤◌}
use native.Mathlib.Omega.{arith}
use mathlib.Core.Bool.{Bool, true, false}
use mathlib.Core.List.{List, [], ◌∷◌}
use lib.ListN.{length, drop, length-append, length-take, length-drop}
use lib.Dec.{eqb}
use Rattle.avl.specs.Narrow.{Narrow}
use Rattle.wire.specs.Numbers.{be, digits, little_at, pick}
use Rattle.wire.specs.Sequences.{joined}
use Rattle.wire.proofs.Widths.{length_digits}
use Rattle.wire.proofs.Accepting.{pick-either}
use Rattle.avl.specs.declared.Widths.{Widths}
use Rattle.avl.specs.Codecs.{kinds}
use Rattle.avl.specs.Records.{AvlRecord, element_count, length_bytes, element_bytes, group_bytes, groups_bytes, record_bytes}
use Rattle.walk.proofs.KindLaws.{kinds-few}
use Rattle.store.specs.Entries.{Entry, entries_from, entries_of, entries_at}
use Rattle.tlv.specs.Decoding.{entry_element, run, behind, groups_of, fixed_of, records_of}
use Rattle.element.specs.Elements.{fixed_size}
use Rattle.element.proofs.ElementLaws.{length-record}

-- ---- the bytes that entries take

abbrev weight : List Entry → ℕ
weight [] = 0
weight (e ∷ es) = 4 + length e.body + weight es

weight-from : (n : ℕ) (s : List ℕ) → weight (entries_from n s) ≤ 4 * length s
unfolding entries_from
weight-from zero s = omega arith
weight-from (suc n) [] = omega arith
weight-from (suc n) (b ∷ s) =
    let size = little_at (b ∷ s) 0 2 in
    omega (arith, weight-from n (drop (4 + size) (b ∷ s)), length-drop (4 + size) (b ∷ s), length-take size (drop 4 (b ∷ s)), length-drop 4 (b ∷ s))

-- a form of at most 65,536 bytes
weight-at : (f : List ℕ) (at : ℕ) → length f ≤ 65536 → weight (entries_at f at) ≤ 262144
unfolding entries_at entries_of
weight-at f at h = omega (arith, weight-from (length (drop at f)) (drop at f), length-drop at f)

length-weight : (es : List Entry) → length es ≤ weight es
length-weight [] = omega arith
length-weight (e ∷ es) = omega (arith, length-weight es)

-- ---- how many elements there are

count-run : (k : ℕ) (es : List Entry) → length (run k es) + weight (behind k es) ≤ weight es
unfolding run behind
count-run k [] = omega arith
count-run k (e ∷ es) = go (count-run k es) (eqb e.kind k)
  where
    go : length (run k es) + weight (behind k es) ≤ weight es → (b : Bool) → length (pick b (entry_element e ∷ run k es) []) + weight (pick b (behind k es) (e ∷ es)) ≤ weight (e ∷ es)
    go h true = omega arith
    go h false = omega arith

count-groups : (ks : List ℕ) (es : List Entry) → element_count (groups_of ks es) ≤ weight es
unfolding element_count groups_of
count-groups [] es = omega arith
count-groups (k ∷ ks) es = omega (arith, count-run k es, count-groups ks (behind k es))

pub few : (ks f : List ℕ) (at : ℕ) → length f ≤ 65536 → element_count (groups_of ks (entries_at f at)) ≤ 262144
few ks f at h = omega (arith, count-groups ks (entries_at f at), weight-at f at h)

-- ---- how long they are

module _ (w : Widths) (narrow : Narrow w) where
  length-length_bytes : (k : ℕ) (v : List ℕ) → length (length_bytes k v) ≤ 2
  unfolding length_bytes digits
  length-length_bytes k v = pick-either (λ l. length l ≤ 2) (eqb k 9) (be 2 (length v)) [] (omega arith) (omega arith)

  length-element : (k : ℕ) (e : Entry) → length (element_bytes w k (entry_element e)) ≤ 4 + length e.body
  unfolding element_bytes entry_element
  length-element k e = simp (length-append, length_digits) (omega (arith, narrow.id, length-length_bytes k (drop 2 e.body), length-drop 2 e.body))

  length_run : (k : ℕ) (es : List Entry) → length (joined (element_bytes w k) (run k es)) + weight (behind k es) ≤ weight es
  unfolding run behind
  length_run k [] = omega arith
  length_run k (e ∷ es) = go (length_run k es) (eqb e.kind k)
    where
      go : length (joined (element_bytes w k) (run k es)) + weight (behind k es) ≤ weight es → (b : Bool)
          → length (joined (element_bytes w k) (pick b (entry_element e ∷ run k es) [])) + weight (pick b (behind k es) (e ∷ es)) ≤ weight (e ∷ es)
      go h true = omega (arith, length-append (element_bytes w k (entry_element e)) (joined (element_bytes w k) (run k es)), length-element k e)
      go h false = omega arith

  length-groups : (ks : List ℕ) (es : List Entry) → length (groups_bytes w ks (groups_of ks es)) ≤ 2 * length ks + weight es
  unfolding groups_bytes groups_of group_bytes
  length-groups [] es = omega arith
  length-groups (k ∷ ks) es = simp (length-append, length_digits) (omega (arith, narrow.count, length_run k es, length-groups ks (behind k es)))

  length-records : (es : List Entry) → weight es ≤ 262144 → length (joined (record_bytes w) (records_of (kinds w) es)) ≤ 300000 * length es
  unfolding records_of fixed_size
  length-records [] h = omega arith
  length-records (e ∷ es) h =
      let r : AvlRecord = record { fixed = fixed_of e.body; groups = groups_of (kinds w) es } in
      let rs = records_of (kinds w) es in
      let rest = length-records es (omega (arith, h)) in
      pick-either (λ l. length (joined (record_bytes w) l) ≤ 300000 * length (e ∷ es)) (eqb e.kind 101) (r ∷ rs) rs
      (omega (arith, h, length-append (record_bytes w r) (joined (record_bytes w) rs), narrow.event, narrow.generation, narrow.count, length-record w r, length-groups (kinds w) es, kinds-few w)) (omega arith)

  pub records-room : (f : List ℕ) (at : ℕ) → length f ≤ 65536 → length (joined (record_bytes w) (records_of (kinds w) (entries_at f at))) ≤ 2 ^ 39
  records-room f at h = let es = entries_at f at in omega (arith, length-records es (weight-at f at h), length-weight es, weight-at f at h)
