-- The loops over entries: what is left, read and stored from here on, gives the whole.
use Prim.Native.Nat.{ℕ, ◌+◌, ◌^◌, ◌≤◌, ◌<◌}
use native.Mathlib.Omega.{arith}
use mathlib.Core.Path.{◌≡◌, sym, ap, ap₂, ◌∙◌, subst}
use mathlib.Core.List.{List, [], ◌∷◌, ◌++◌}
use lib.ListN.{length, drop, get_or, length-append, drop_of_length-le}
use Rattle.wire.specs.Numbers.{be}
use Rattle.wire.specs.Sequences.{joined, All}
use Rattle.wire.proofs.Accepting.{pick-either}
use Rattle.avl.specs.declared.Widths.{Widths}
use Rattle.avl.specs.Codecs.{kinds}
use Rattle.avl.specs.Records.{Element, Fixed, element_count, element_bytes, group_bytes, groups_bytes, fixed_bytes, record_bytes}
use Rattle.walk.proofs.KindLaws.{next-kind}
use Rattle.store.specs.Entries.{Entry, kind_at, body_at, next_at, entry_at, entries_at}
use Rattle.tlv.specs.Decoding.{entry_element, run, behind, groups_of, fixed_of, records_of}
use Rattle.element.specs.Elements.{fixed_size}
use Rattle.element.proofs.ElementLaws.{length-fixed, length-record}
use Rattle.rebuild.specs.declared.Run.{Run}
use Rattle.store.specs.Stores.{Stored}
use Rattle.rebuild.specs.FormPlaces.{behind_all, record_at, RecordFrom, Goes}
use Rattle.store.proofs.PlaceLaws.{entries-end}
use Rattle.rebuild.proofs.OffsetLaws.{NoRun, run_on, behind-on, records-own, records-end, records-behind-all}
use Rattle.store.proofs.StoredLaws.{stored-then, stored-as, stored-before, Left, left_as, left-more, left-done}

-- ---- a run

module _ (w : Widths) (kind : ℕ) (f : List ℕ) (from : ℕ) where
  abbrev elements : ℕ → List Element
  elements at = run kind (entries_at f at)

  abbrev written : ℕ → List ℕ
  written at = joined (element_bytes w kind) (elements at)

  pub record Running (before : List ℕ) (to : ℕ) (out : List ℕ) (at next n : ℕ) : Type 0 where
    pub left : Left (written at) (written from) before out to next
    pub rest : behind kind (entries_at f at) ≡ behind kind (entries_at f from)
    pub count : n + length (elements at) ≡ length (elements from)
    pub ahead : from ≤ at
    pub few : n ≤ at

  module _ {before : List ℕ} {to : ℕ} {out : List ℕ} {at next n : ℕ} (r : Running before to out at next n) where
    pub running-first : at < length f → kind_at f at ≡ kind → Left (element_bytes w kind (entry_element (entry_at f at)) ++ written (next_at f at)) (written from) before out to next
    running-first h e = left_as (ap (joined (element_bytes w kind)) (run_on kind f at h e)) r.left

    pub running-on : {mid : List ℕ} {end : ℕ} → at < length f → kind_at f at ≡ kind → Stored (element_bytes w kind (entry_element (entry_at f at))) out mid next end
        → Running before to mid (next_at f at) end (n + 1)
    running-on h e s =
        record {
          left = left-more (running-first h e) s;
          rest = sym (behind-on kind f at h e) ∙ r.rest;
          count = omega (arith, r.count, ap length (run_on kind f at h e));
          ahead = omega (arith, r.ahead);
          few = omega (arith, r.few);
        }

    pub running-done : NoRun kind f at → Goes f from (behind kind (entries_at f from)) (written from) before out to (length (elements from)) (record { from = at; to = next; count = n })
    running-done none =
        record {
          stored = left-done (left_as (ap (joined (element_bytes w kind)) none.0) r.left);
          ahead = r.ahead;
          left = sym none.1 ∙ r.rest;
          told = omega (arith, r.count, ap length none.0);
        }

-- ---- a count in front

pub goes_before : {f : List ℕ} {from : ℕ} {rest : List Entry} {bytes front before mid after : List ℕ} {to end start n : ℕ} {r : Run}
    → Stored front mid after to end → end ≡ start → Goes f from rest bytes before mid start n r → Goes f from rest (front ++ bytes) before after to n r
goes_before {front = front} {mid = mid} {after = after} {to = to} s e g =
    record { stored = stored-before (subst (λ (k : ℕ). Stored front mid after to k) e s) g.stored; ahead = g.ahead; left = g.left; told = g.told }

-- ---- the groups of a record

module _ (w : Widths) (f : List ℕ) (from : ℕ) where
  abbrev groups_at : List ℕ → ℕ → List (List Element)
  groups_at ks at = groups_of ks (entries_at f at)

  abbrev laid : List ℕ → ℕ → List ℕ
  laid ks at = groups_bytes w ks (groups_at ks at)

  pub record Grouping (before : List ℕ) (to : ℕ) (out : List ℕ) (at next sum k : ℕ) : Type 0 where
    pub left : Left (laid (drop k (kinds w)) at) (laid (kinds w) from) before out to next
    pub rest : behind_all (drop k (kinds w)) (entries_at f at) ≡ behind_all (kinds w) (entries_at f from)
    pub count : sum + element_count (groups_at (drop k (kinds w)) at) ≡ element_count (groups_at (kinds w) from)
    pub ahead : from ≤ at

  module _ {before : List ℕ} {to : ℕ} {out : List ℕ} {at next sum k : ℕ} (g : Grouping before to out at next sum k) where
    module _ {kind : ℕ} (h : k < length (kinds w)) (e : kind ≡ get_or (kinds w) k 0) where
      abbrev group : List Element
      group = run kind (entries_at f at)

      abbrev more : List ℕ
      more = drop (k + 1) (kinds w)

      pub grouping-first : Left (group_bytes w kind group ++ groups_bytes w more (groups_of more (behind kind (entries_at f at)))) (laid (kinds w) from) before out to next
      unfolding groups_bytes groups_of
      grouping-first = left_as (ap (λ (ks : List ℕ). laid ks at) (next-kind w k h e)) g.left

      grouping-count : sum + length group + element_count (groups_of more (behind kind (entries_at f at))) ≡ element_count (groups_at (kinds w) from)
      unfolding groups_of element_count
      grouping-count = omega (arith, ap (λ (ks : List ℕ). element_count (groups_at ks at)) (next-kind w k h e), g.count)

      pub grouping-room : (most : ℕ) → to + length (laid (kinds w) from) ≤ most → next + length (group_bytes w kind group) ≤ most
      grouping-room most room = omega (arith, room, grouping-first.place, length-append (group_bytes w kind group) (groups_bytes w more (groups_of more (behind kind (entries_at f at)))))

      pub grouping-fits : {n : ℕ} → n ≡ length group → sum + n ≤ element_count (groups_at (kinds w) from)
      grouping-fits size = omega (arith, size, grouping-count)

      pub grouping-on : {mid : List ℕ} {r : Run} → Goes f at (behind kind (entries_at f at)) (group_bytes w kind group) out mid next (length group) r
          → Grouping before to mid r.from r.to (sum + r.count) (k + 1)
      unfolding behind_all
      grouping-on s =
          record {
            left = left_as (ap (λ (es : List Entry). groups_bytes w more (groups_of more es)) (sym s.left)) (left-more grouping-first s.stored);
            rest = ap (behind_all more) s.left ∙ sym (ap (λ (ks : List ℕ). behind_all ks (entries_at f at)) (next-kind w k h e)) ∙ g.rest;
            count = ap₂ (λ (n : ℕ) (es : List Entry). sum + n + element_count (groups_of more es)) s.told s.left ∙ grouping-count;
            ahead = omega (arith, g.ahead, s.ahead);
          }

    pub grouping-done : length (kinds w) ≤ k
        → Goes f from (behind_all (kinds w) (entries_at f from)) (laid (kinds w) from) before out to (element_count (groups_at (kinds w) from)) (record { from = at; to = next; count = sum })
    unfolding behind_all groups_bytes groups_of element_count
    grouping-done h =
        let none : drop k (kinds w) ≡ [] = drop_of_length-le (kinds w) h in
        record {
          stored = left-done (left_as (ap (λ (ks : List ℕ). laid ks at) none) g.left);
          ahead = g.ahead;
          left = sym (ap (λ (ks : List ℕ). behind_all ks (entries_at f at)) none) ∙ g.rest;
          told = omega (arith, g.count, ap (λ (ks : List ℕ). element_count (groups_at ks at)) none);
        }

-- ---- a record: its fixed fields, then its groups, then the total between them

module _ (w : Widths) (f : List ℕ) (at : ℕ) where
  pub record-room : (x : Fixed) (to : ℕ) {from mid : ℕ} → from ≡ next_at f at → mid ≡ to + length (fixed_bytes w x) → to + length (record_bytes w (record_at (kinds w) f at)) ≤ 2 ^ 40
      → mid + w.count + length (groups_bytes w (kinds w) (groups_of (kinds w) (entries_at f from))) ≤ 2 ^ 40
  unfolding fixed_size
  record-room x to e m h =
      let same = ap (λ (n : ℕ). length (groups_bytes w (kinds w) (groups_of (kinds w) (entries_at f n)))) e in
      omega (arith, same, m, h, length-fixed w x, length-record w (record_at (kinds w) f at))

  pub record-goes : {from to mid end start : ℕ} {b before fixed groups after : List ℕ} {r : Run} → from ≡ next_at f at → b ≡ body_at f at
      → Stored (fixed_bytes w (fixed_of b)) before fixed to mid
      → Goes f from (behind_all (kinds w) (entries_at f from)) (groups_bytes w (kinds w) (groups_of (kinds w) (entries_at f from))) fixed groups start (element_count (groups_of (kinds w) (entries_at f from))) r
      → Stored (be w.count r.count) groups after mid end → end ≡ start
      → let es = entries_at f (next_at f at) in
      Goes f (next_at f at) (behind_all (kinds w) es) (record_bytes w (record_at (kinds w) f at)) before after to (element_count (groups_of (kinds w) es)) r
  unfolding record_bytes
  record-goes {start = start} {fixed = fixed} {groups = groups} {r = r} from body s g t e =
      let h = subst (λ (n : ℕ). Goes f n (behind_all (kinds w) (entries_at f n)) (groups_bytes w (kinds w) (groups_of (kinds w) (entries_at f n))) fixed groups start (element_count (groups_of (kinds w) (entries_at f n))) r) from g in
      let behind = goes_before (stored-as (ap (be w.count) h.told) t) e h in
      record {
        stored = stored-then (stored-as (ap (λ (x : List ℕ). fixed_bytes w (fixed_of x)) body) s) behind.stored;
        ahead = h.ahead;
        left = h.left;
        told = h.told;
      }

-- ---- the records

no_record : (w : Widths) → All (λ k. (101 ≡ k → ⊥)) (kinds w)
unfolding kinds
no_record w = pick-either (λ l. All (λ k. (101 ≡ k → ⊥)) (1 ∷ 2 ∷ 4 ∷ 8 ∷ l)) w.variable (9 ∷ []) [] (omega arith) (omega arith)

module _ (w : Widths) (f : List ℕ) (from : ℕ) where
  abbrev records_at : ℕ → List ℕ
  records_at at = joined (record_bytes w) (records_of (kinds w) (entries_at f at))

  pub record Recording (before : List ℕ) (to : ℕ) (out : List ℕ) (at next n : ℕ) : Type 0 where
    pub left : Left (records_at at) (records_at from) before out to next
    pub count : n + length (records_of (kinds w) (entries_at f at)) ≡ length (records_of (kinds w) (entries_at f from))
    pub starts : at < length f → kind_at f at ≡ 101
    pub ahead : from ≤ at
    pub few : n ≤ at

  module _ {before : List ℕ} {to : ℕ} {out : List ℕ} {at next n : ℕ} (r : Recording before to out at next n) where
    pub recording-first : at < length f → Left (record_bytes w (record_at (kinds w) f at) ++ records_at (next_at f at)) (records_at from) before out to next
    recording-first h = left_as (ap (joined (record_bytes w)) (records-own (kinds w) f at h (r.starts h))) r.left

    pub recording-room : (most : ℕ) → at < length f → to + length (records_at from) ≤ most → next + length (record_bytes w (record_at (kinds w) f at)) ≤ most
    recording-room most h room = omega (arith, room, (recording-first h).place, length-append (record_bytes w (record_at (kinds w) f at)) (records_at (next_at f at)))

    pub recording_on : {mid : List ℕ} {n' end : ℕ} {g : Run} → at < length f
        → Goes f (next_at f at) (behind_all (kinds w) (entries_at f (next_at f at))) (record_bytes w (record_at (kinds w) f at)) out mid next n' g → RecordFrom f g.from end
        → Recording before to mid end g.to (n + 1)
    recording_on {end = end} h s q =
        let same : records_of (kinds w) (entries_at f end) ≡ records_of (kinds w) (entries_at f (next_at f at)) =
        q.records (kinds w) ∙ ap (records_of (kinds w)) s.left ∙ records-behind-all (kinds w) (kinds w) (entries_at f (next_at f at)) (no_record w)
        in
        record {
          left = left_as (ap (joined (record_bytes w)) (sym same)) (left-more (recording-first h) s.stored);
          count = omega (arith, r.count, ap length same, ap length (records-own (kinds w) f at h (r.starts h)));
          starts = q.starts;
          ahead = omega (arith, r.ahead, s.ahead, q.ahead);
          few = omega (arith, r.few, s.ahead, q.ahead);
        }

    pub recording-done : length f ≤ at → Goes f from [] (records_at from) before out to (length (records_of (kinds w) (entries_at f from))) (record { from = at; to = next; count = n })
    recording-done h =
        let none = records-end (kinds w) f at h in
        record {
          stored = left-done (left_as (ap (joined (record_bytes w)) none) r.left);
          ahead = r.ahead;
          left = entries-end f at h;
          told = omega (arith, r.count, ap length none);
        }
