-- The entries of a form, met by their offsets.
use Prim.Native.Nat.{ℕ, ◌-◌, ◌≤◌, ◌<◌, min}
use native.Mathlib.Nat.{le_refl}
use native.Mathlib.Omega.{arith}
use mathlib.Core.Path.{◌≡◌, refl, sym, ap, ◌∙◌}
use mathlib.Core.Bool.{Bool, true, false}
use mathlib.Core.List.{List, [], ◌∷◌}
use lib.ListN.{length, take, drop, get_or, length-drop}
use lib.Dec.{eqb}
use lib.Seq.{take_all, take-nil}
use Rattle.std.proofs.lemmas.List.{drop_min}
use borrow.Author.Tests.{eq-eqb, ne_eqb, eqb-true}
use Rattle.wire.specs.Numbers.{pick}
use Rattle.wire.specs.Sequences.{All}
use Rattle.wire.proofs.Accepting.{pick-false}
use Rattle.avl.specs.Codecs.{widths_of, kinds}
use Rattle.store.specs.Entries.{Entry, entries_from, entries_of, kind_at, body_at, next_at, entry_at, entries_at}
use Rattle.store.proofs.PlaceLaws.{entries-on, entries-end}
use Rattle.tlv.specs.Decoding.{entry_element, run, behind, records_of, data_of, decoded}
use Rattle.rebuild.specs.FormPlaces.{behind_all, record_at}

-- ---- a run of a kind, from an offset on

module _ (k : ℕ) (f : List ℕ) (at : ℕ) where
  -- there is none here
  abbrev pub NoRun : Type 0
  NoRun = (run k (entries_at f at) ≡ []) × (behind k (entries_at f at) ≡ entries_at f at)

  pub run_end : length f ≤ at → NoRun
  unfolding run behind
  run_end h = (simp (entries-end f at h), simp (entries-end f at h))

  pub run-stop : at < length f → (kind_at f at ≡ k → ⊥) → NoRun
  unfolding run behind
  run-stop h n = (simp (entries-on f at h, ne_eqb _ _ n), simp (entries-on f at h, ne_eqb _ _ n))

  pub run_on : at < length f → kind_at f at ≡ k → run k (entries_at f at) ≡ entry_element (entry_at f at) ∷ run k (entries_at f (next_at f at))
  unfolding run
  run_on h e = simp (entries-on f at h, eq-eqb _ _ e)

  pub behind-on : at < length f → kind_at f at ≡ k → behind k (entries_at f at) ≡ behind k (entries_at f (next_at f at))
  unfolding behind
  behind-on h e = simp (entries-on f at h, eq-eqb _ _ e)

-- ---- the records from an offset on

module _ (ks f : List ℕ) (at : ℕ) where
  pub records-end : length f ≤ at → records_of ks (entries_at f at) ≡ []
  unfolding records_of
  records-end h = simp (entries-end f at h)

  pub records-own : at < length f → kind_at f at ≡ 101 → records_of ks (entries_at f at) ≡ record_at ks f at ∷ records_of ks (entries_at f (next_at f at))
  unfolding records_of
  records-own h e = simp (entries-on f at h, eq-eqb _ _ e)

  pub records-other : at < length f → (kind_at f at ≡ 101 → ⊥) → records_of ks (entries_at f at) ≡ records_of ks (entries_at f (next_at f at))
  unfolding records_of
  records-other h e = simp (entries-on f at h, ne_eqb _ _ e)

-- a run of elements has no record in it
records-behind : (ks : List ℕ) (k : ℕ) (es : List Entry) → (101 ≡ k → ⊥) → records_of ks (behind k es) ≡ records_of ks es
unfolding records_of behind
records-behind ks k [] n = refl
records-behind ks k (e ∷ es) n = go (records-behind ks k es n) (eqb e.kind k) refl
  where
    go : records_of ks (behind k es) ≡ records_of ks es → (b : Bool) → eqb e.kind k ≡ b → records_of ks (pick b (behind k es) (e ∷ es)) ≡ records_of ks (e ∷ es)
    go rest true h = rest ∙ sym (pick-false (eqb e.kind 101) _ _ (ne_eqb _ _ (λ i. n (sym i ∙ eqb-true _ _ h))))
    go rest false h = refl

pub records-behind-all : (ks js : List ℕ) (es : List Entry) → All (λ k. (101 ≡ k → ⊥)) js → records_of ks (behind_all js es) ≡ records_of ks es
unfolding behind_all
records-behind-all ks [] es h = refl
records-behind-all ks (j ∷ js) es h = records-behind-all ks js (behind j es) h.1 ∙ records-behind ks j es h.0

pub decoded-at : (f : List ℕ) → decoded f ≡ record { codec = get_or (body_at f 0) 0 0; records = records_of (kinds (widths_of (get_or (body_at f 0) 0 0))) (entries_at f (next_at f 0)) }
unfolding decoded data_of entries_at entries_of entries_from records_of
decoded-at [] = simp (take-nil, entries-end [] (next_at [] 0) (omega arith))
decoded-at (b ∷ s) = ap data_of (entries-on (b ∷ s) 0 (omega arith))

-- ---- the value of an element

-- what is behind the first two bytes
pub value-part : (b : List ℕ) (start : ℕ) → start ≡ min (length b) 2 → take (length b - start) (drop start b) ≡ drop 2 b
value-part b start e =
    let least : start ≡ min 2 (length b) = omega (arith, e) in
    take_all (length b - start) (drop start b) (simp length-drop (le_refl _)) ∙ ap (λ (k : ℕ). drop k b) least ∙ drop_min 2 b
