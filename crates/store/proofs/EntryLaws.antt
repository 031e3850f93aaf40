-- The entries that were written are read again.
use Prim.Native.Nat.{ℕ, zero, suc, ◌+◌, ◌^◌, ◌≤◌, ◌<◌}
use native.Mathlib.Nat.{not-suc-le-zero, le_of_suc-le-suc}
use native.Mathlib.Omega.{arith}
use mathlib.Core.Path.{◌≡◌, refl, sym, ap, ◌∙◌}
use mathlib.Core.List.{List, [], ◌∷◌, ◌++◌}
use lib.ListN.{length, take, drop, length-append}
use lib.Seq.{take_at, drop_at, drop-drop}
use Rattle.wire.specs.Numbers.{little_at, le}
use Rattle.wire.specs.Sequences.{fields, joined, All}
use Rattle.wire.proofs.Widths.{little-le}
use Rattle.store.specs.Entries.{Entry, entry_bytes, entries_from, entries_of}

-- an entry's kind and length fit their two bytes
pub record EntryFits (e : Entry) : Type 0 where
  pub kind_fits : e.kind < 256 ^ 2
  pub body_fits : length e.body < 256 ^ 2

length-entry : (e : Entry) → length (entry_bytes e) ≡ 4 + length e.body
unfolding entry_bytes le
length-entry e = omega arith

enough : (es : List Entry) → length es ≤ length (joined entry_bytes es)
enough [] = omega arith
enough (e ∷ es) = omega (arith, enough es, length-append (entry_bytes e) (joined entry_bytes es), length-entry e)

first_entry : (e : Entry) (rest : List ℕ) (n : ℕ) → EntryFits e → entries_from (suc n) (entry_bytes e ++ rest) ≡ e ∷ entries_from n rest
unfolding entries_from entry_bytes le
first_entry e rest n h =
    let s = fields (le 2 (length e.body) ∷ le 2 e.kind ∷ e.body ∷ []) ++ rest in
    let size : little_at s 0 2 ≡ length e.body = little-le 2 (length e.body) s 0 (le 2 e.kind ++ (e.body ++ rest)) h.body_fits refl in
    let kind : little_at s 2 2 ≡ e.kind = little-le 2 e.kind s 2 (e.body ++ rest) h.kind_fits refl in
    let body : take (little_at s 0 2) (drop 4 s) ≡ e.body = ap (λ (k : ℕ). take k (e.body ++ rest)) size ∙ take_at e.body rest (length e.body) refl in
    let more : drop (4 + little_at s 0 2) s ≡ rest =
    sym (drop-drop (little_at s 0 2) 4 s) ∙ ap (λ (k : ℕ). drop k (e.body ++ rest)) size ∙ drop_at e.body rest (length e.body) refl
    in
    λ i. record { kind = kind i; body = body i } ∷ entries_from n (more i)

read-entries : (n : ℕ) (es : List Entry) → All EntryFits es → length es ≤ n → entries_from n (joined entry_bytes es) ≡ es
unfolding entries_from
read-entries zero [] h k = refl
read-entries (suc n) [] h k = refl
read-entries zero (e ∷ es) h k = absurd (not-suc-le-zero k)
read-entries (suc n) (e ∷ es) h k = first_entry e (joined entry_bytes es) n h.0 ∙ ap (λ (l : List Entry). e ∷ l) (read-entries n es h.1 (le_of_suc-le-suc k))

pub entries-written : (es : List Entry) → All EntryFits es → entries_of (joined entry_bytes es) ≡ es
unfolding entries_of
entries-written es h = read-entries (length (joined entry_bytes es)) es h (enough es)
