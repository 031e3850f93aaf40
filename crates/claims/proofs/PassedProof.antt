-- The number of elements passed is what the request says.
use Rattle.std.specs.Prelude.{Err, Ok}
use Prim.Native.Nat.{ℕ, suc, ◌+◌}
use native.Mathlib.Omega.{arith}
use mathlib.Core.Path.{◌≡◌, refl, sym, ap, ◌∙◌, subst}
use mathlib.Core.Bool.{Bool, true, false}
use mathlib.Core.List.{List, [], ◌∷◌}
use lib.ListN.{length}
use lib.Dec.{eqb}
use Rattle.wire.specs.declared.Limits.{Limits}
use Rattle.wire.specs.declared.Refusal.{Refusal}
use Rattle.wire.specs.Numbers.{pick}
use Rattle.wire.specs.Answers.{Answer, on_accepted}
use Rattle.avl.specs.Codecs.{widths_of}
use Rattle.element.specs.declared.RecordFields.{RecordFields}
use Rattle.element.specs.Elements.{Located, elements, nth, first_with, passed_for}
use Rattle.element.specs.Results.{record_result}
use Rattle.element.proofs.ElementLaws.{length-elements}
use Rattle.lookup.specs.Places.{Placed}
use Rattle.lookup.specs.Lookups.{Source, tcp_source, udp_source, placed_record, Found, found_in, value_in, record_by_number, value_by_number, value_by_id, passed_by_id, or_none, value_in_last, passed_in_last, if_none, passed_by_last}
use Rattle.lookup.specs.Carriers.{Stored}
use Rattle.lookup.proofs.PlaceLaws.{tcp-stored, udp-stored, kept}
use Rattle.claims.specs.Passed.{PassedIn, PassedAdded, PassedKept, last_of}

-- ---- in a list of elements

first-place : (id : ℕ) (l : List Located) (e : Located) → first_with id l ≡ Ok e → (k : ℕ) × (nth k l ≡ Ok e) × (passed_for id l ≡ k + 1)
unfolding first_with passed_for nth
first-place id [] e h = absurd (let z : ◌≡◌ {A = ℕ} 0 1 = cc in omega arith)
first-place id (a ∷ l) e h = go (eqb a.id id) h (first-place id l e)
  where
    go : (t : Bool) → pick t (Ok a) (first_with id l) ≡ Ok e → (first_with id l ≡ Ok e → (k : ℕ) × (nth k l ≡ Ok e) × (passed_for id l ≡ k + 1))
        → (k : ℕ) × (nth k (a ∷ l) ≡ Ok e) × (pick t 1 (suc (passed_for id l)) ≡ k + 1)
    go true h later = (0, h, refl)
    go false h later = let k = later h in (suc k.0, k.1, omega (arith, k.2))

first-total : (id : ℕ) (l : List Located) (x : Refusal) → first_with id l ≡ Err x → passed_for id l ≡ length l
unfolding first_with passed_for
first-total id [] x h = refl
first-total id (a ∷ l) x h = go (eqb a.id id) h (first-total id l x)
  where
    go : (t : Bool) → pick t (Ok a) (first_with id l) ≡ Err x → (first_with id l ≡ Err x → passed_for id l ≡ length l)
        → pick t 1 (suc (passed_for id l)) ≡ suc (length l)
    go true h later = absurd (let z : ◌≡◌ {A = ℕ} 0 1 = cc in omega arith)
    go false h later = ap suc (later h)

-- ---- in a record

module _ (n id : ℕ) where
  place_in : (x : Source) (f : Found) → value_by_id (Ok x) n id ≡ Ok f → (k : ℕ) × (value_by_number (Ok x) n k ≡ Ok f) × (passed_by_id (Ok x) n id ≡ k + 1)
  unfolding value_by_id value_by_number passed_by_id value_in on_accepted or_none
  place_in x f e = go (placed_record x n) e
    where
      found : (r : Placed) (a : Answer Located) → first_with id (elements (widths_of x.content.codec) r.content) ≡ a → on_accepted a (λ e. Ok (found_in r e)) ≡ Ok f
          → (k : ℕ) × (on_accepted (nth k (elements (widths_of x.content.codec) r.content)) (λ e. Ok (found_in r e)) ≡ Ok f) × (passed_for id (elements (widths_of x.content.codec) r.content) ≡ k + 1)
      found r (Ok a) h e =
          let k = first-place id (elements (widths_of x.content.codec) r.content) a h in
          (k.0, ap (λ (c : Answer Located). on_accepted c (λ e. Ok (found_in r e))) k.1 ∙ e, k.2)
      found r (Err y) h e = absurd (let z : ◌≡◌ {A = ℕ} 0 1 = cc in omega arith)

      go : (r : Answer Placed) → on_accepted r (λ r. on_accepted (first_with id (elements (widths_of x.content.codec) r.content)) (λ e. Ok (found_in r e))) ≡ Ok f
          → (k : ℕ) × (on_accepted r (λ r. on_accepted (nth k (elements (widths_of x.content.codec) r.content)) (λ e. Ok (found_in r e))) ≡ Ok f)
          × (or_none (on_accepted r (λ r. Ok (passed_for id (elements (widths_of x.content.codec) r.content)))) ≡ k + 1)
      go (Ok r) e = found r (first_with id (elements (widths_of x.content.codec) r.content)) refl e
      go (Err y) e = absurd (let z : ◌≡◌ {A = ℕ} 0 1 = cc in omega arith)

  total-in : (longest : ℕ) (p : List ℕ) (x : Source) → Stored longest p x → (y : Refusal) (f : RecordFields) → value_by_id (Ok x) n id ≡ Err y → record_by_number (Ok x) n ≡ Ok f
      → passed_by_id (Ok x) n id ≡ f.elements
  unfolding value_by_id record_by_number passed_by_id value_in on_accepted or_none record_result
  total-in longest p x stored y f = go (placed_record x n) refl
    where
      none : (r : Placed) (a : Answer Located) → first_with id (elements (widths_of x.content.codec) r.content) ≡ a → on_accepted a (λ e. Ok (found_in r e)) ≡ Err y
          → passed_for id (elements (widths_of x.content.codec) r.content) ≡ length (elements (widths_of x.content.codec) r.content)
      none r (Ok a) h e = absurd (let z : ◌≡◌ {A = ℕ} 0 1 = cc in omega arith)
      none r (Err z) h e = first-total id (elements (widths_of x.content.codec) r.content) z h

      go : (r : Answer Placed) → placed_record x n ≡ r → on_accepted r (λ r. on_accepted (first_with id (elements (widths_of x.content.codec) r.content)) (λ e. Ok (found_in r e))) ≡ Err y
          → on_accepted r (λ r. Ok (record_result r.content)) ≡ Ok f
          → or_none (on_accepted r (λ r. Ok (passed_for id (elements (widths_of x.content.codec) r.content)))) ≡ f.elements
      go (Ok r) there e k =
          let same : record_result r.content ≡ f = cc in
          none r (first_with id (elements (widths_of x.content.codec) r.content)) refl e
          ∙ length-elements longest _ r.content (kept longest p x n r stored there).rules
          ∙ ap (λ (f : RecordFields). f.elements) same
      go (Err z) there e k = absurd (let z : ◌≡◌ {A = ℕ} 0 1 = cc in omega arith)

  none_in : (source : Answer Source) (x : Refusal) → record_by_number source n ≡ Err x → passed_by_id source n id ≡ 0
  unfolding record_by_number passed_by_id on_accepted or_none
  none_in (Err y) x e = refl
  none_in (Ok a) x e = go (placed_record a n) e
    where
      go : (r : Answer Placed) → on_accepted r (λ r. Ok (record_result r.content)) ≡ Err x
          → or_none (on_accepted r (λ r. Ok (passed_for id (elements (widths_of a.content.codec) r.content)))) ≡ 0
      go (Ok r) e = absurd (let z : ◌≡◌ {A = ℕ} 0 1 = cc in omega arith)
      go (Err y) e = refl

  passed-in : (longest : ℕ) (p : List ℕ) (source : Answer Source) → ((x : Source) → source ≡ Ok x → Stored longest p x) → PassedIn source n id
  unfolding value_by_id record_by_number on_accepted
  passed-in longest p (Ok x) stored = record { place = place_in x; total = total-in longest p x (stored x refl); none = none_in (Ok x) }
  passed-in longest p (Err y) stored =
      record {
        place = λ f e. absurd (let z : ◌≡◌ {A = ℕ} 0 1 = cc in omega arith);
        total = λ x r e k. absurd (let z : ◌≡◌ {A = ℕ} 0 1 = cc in omega arith);
        none = none_in (Err y);
      }

-- ---- in two packets

last-passed : (id : ℕ) (x : Source) → passed_in_last id (Ok x) ≡ passed_by_id (Ok x) (last_of x) id
unfolding passed_in_last passed_by_id on_accepted
last-passed id x = refl

module _ (id : ℕ) (x : Source) (older : Answer Source) where
  -- with what the newer's last record gives
  added : (found : Answer Found) → value_by_id (Ok x) (last_of x) id ≡ found → passed_by_last id (Ok x) older ≡ passed_by_id (Ok x) (last_of x) id + if_none found (passed_in_last id older)
  unfolding passed_by_last value_in_last value_by_id on_accepted or_none
  added found e = ap (λ (f : Answer Found). passed_in_last id (Ok x) + if_none f (passed_in_last id older)) e ∙ ap (λ (n : ℕ). n + if_none found (passed_in_last id older)) (last-passed id x)

passed-added : (newer older : Answer Source) (id : ℕ) → PassedAdded newer older id
unfolding passed_by_last passed_in_last on_accepted or_none if_none
passed-added newer older id =
    record {
      newer_refused = λ x e. ap (λ (s : Answer Source). passed_by_last id s older) e;
      in_newer = λ x f e k.
          subst (λ (s : Answer Source). passed_by_last id s older ≡ passed_by_id s (last_of x) id) (sym e)
          (added id x older (Ok f) (ap (λ (s : Answer Source). value_by_id s (last_of x) id) (sym e) ∙ k) ∙ omega arith);
      in_older = λ x y r e k o.
          subst (λ (s : Answer Source). passed_by_last id s older ≡ passed_by_id s (last_of x) id + passed_by_id older (last_of y) id) (sym e)
          (added id x older (Err r) (ap (λ (s : Answer Source). value_by_id s (last_of x) id) (sym e) ∙ k)
          ∙ ap (λ (n : ℕ). passed_by_id (Ok x) (last_of x) id + n) (ap (passed_in_last id) o ∙ last-passed id y ∙ ap (λ (s : Answer Source). passed_by_id s (last_of y) id) (sym o)));
      older_refused = λ x r s e k o.
          subst (λ (s : Answer Source). passed_by_last id s older ≡ passed_by_id s (last_of x) id) (sym e)
          (added id x older (Err r) (ap (λ (s : Answer Source). value_by_id s (last_of x) id) (sym e) ∙ k)
          ∙ ap (λ (n : ℕ). passed_by_id (Ok x) (last_of x) id + n) (ap (passed_in_last id) o) ∙ omega arith);
    }

pub passed-kept : (limits : Limits) → PassedKept limits
passed-kept limits =
    record {
      packets = λ p n id b. passed-in n id limits.longest p (tcp_source limits p) (λ x. tcp-stored limits p x b);
      datagrams = λ p n id b. passed-in n id limits.longest p (udp_source limits p) (λ x. udp-stored limits p x b);
      known = λ newer older id. passed-added (tcp_source limits newer) (tcp_source limits older) id;
    }
