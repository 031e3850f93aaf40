-- One text put behind another, and what is left to put.
use Prim.Native.Nat.{ℕ, suc, ◌+◌, ◌-◌, ◌≤◌, ◌<◌, min}
use native.Mathlib.Numerals.{add-one}
use native.Mathlib.Omega.{arith, min_cases}
use mathlib.Core.Path.{◌≡◌, refl, sym, ap, ◌∙◌}
use mathlib.Core.List.{List, [], ◌∷◌, ◌++◌, append_assoc, append-nil}
use lib.ListN.{length, set, take, drop, get_or, replicate, length-append, length-drop, drop_of_length-le}
use lib.Seq.{sets, set_out, length-sets, take_all, drop-cons}
use Rattle.wire.proofs.Storing.{sets-append}
use Rattle.say.specs.Page.{OnPage}

-- ---- one byte

pub byte-stored : (page : List ℕ) (at b : ℕ) → at < length page → OnPage (b ∷ []) page at (set page at b) (at + 1)
byte-stored page at b h = record { bytes = refl; place = omega arith }

pub byte-left-out : (page : List ℕ) (at b : ℕ) → length page ≤ at → OnPage (b ∷ []) page at page at
byte-left-out page at b h = record { bytes = sym (set_out page at b h); place = omega arith }

-- ---- one text behind another

sets-out : (b l : List ℕ) (i : ℕ) → length l ≤ i → sets l i b ≡ l
sets-out [] l i h = refl
sets-out (x ∷ b) l i h = rw (set_out l i x h) (sets-out b l (suc i) (omega arith))

both_out : (l s : List ℕ) (i j : ℕ) → length l ≤ i → length l ≤ j → sets l i s ≡ sets l j s
both_out l s i j h k = sets-out s l i h ∙ sym (sets-out s l j k)

bytes-then : (a b page : List ℕ) (at : ℕ) → sets (sets page at a) (at + min (length a) (length page - at)) b ≡ sets page at (a ++ b)
bytes-then a b page at =
    let size = length-sets page at a in
    min_cases (length a) (length page - at) _
    (λ h e. ap (λ (n : ℕ). sets (sets page at a) (at + n) b) e ∙ sym (sets-append page at a b))
    (λ h e. both_out (sets page at a) b _ (at + length a) (omega arith) (omega arith) ∙ sym (sets-append page at a b))

pub page-same : (page : List ℕ) (at : ℕ) → OnPage [] page at page at
page-same page at = record { bytes = refl; place = omega arith }

pub page-then : {a b page mid after : List ℕ} {at next last : ℕ} → OnPage a page at mid next → OnPage b mid next after last → OnPage (a ++ b) page at after last
page-then {a} {b} {page} {mid} {after} {at} {next} {last} p q =
    let size : length mid ≡ length page = ap length p.bytes ∙ length-sets page at a in
    let joined : length (a ++ b) ≡ length a + length b = length-append a b in
    record {
      bytes = q.bytes ∙ rw (p.bytes, p.place) (bytes-then a b page at);
      place = omega (arith, p.place, q.place);
    }

pub page-size : {a page after : List ℕ} {at next : ℕ} → OnPage a page at after next → length after ≡ length page
page-size {a} {page} {after} {at} p = ap length p.bytes ∙ length-sets page at a

-- ---- what is left of `whole`, which is put at `at`

pub record Left (whole page₀ : List ℕ) (at : ℕ) (rest page : List ℕ) (to : ℕ) : Type 0 where
  pub done : List ℕ
  pub put : OnPage done page₀ at page to
  pub all : done ++ rest ≡ whole

pub left-first : (s page : List ℕ) (at : ℕ) → Left s page at s page at
left-first s page at = record { done = []; put = page-same page at; all = refl }

pub left-put : {whole page₀ a rest page after : List ℕ} {at to next : ℕ} → Left whole page₀ at (a ++ rest) page to → OnPage a page to after next → Left whole page₀ at rest after next
left-put {a = a} {rest} h p = record { done = h.done ++ a; put = page-then h.put p; all = append_assoc h.done a rest ∙ h.all }

pub left-done : {whole page₀ page : List ℕ} {at to : ℕ} → Left whole page₀ at [] page to → OnPage whole page₀ at page to
left-done {whole} {page₀} {page} {at} {to} h = rw (sym (sym (append-nil h.done) ∙ h.all)) h.put

pub left_as : {whole page₀ rest other page : List ℕ} {at to : ℕ} → rest ≡ other → Left whole page₀ at rest page to → Left whole page₀ at other page to
left_as e h = rw e at h

-- ---- a text and a run of one byte

-- the part from `at` on is the text from there on
pub rest : (s : List ℕ) (at : ℕ) → take (length s - at) (drop at s) ≡ drop at s
rest s at = take_all (length s - at) (drop at s) (simp length-drop (omega arith))

pub next : (s : List ℕ) (i : ℕ) → i < length s → drop i s ≡ (get_or s i 0 ∷ []) ++ drop (i + 1) s
next s i h = rw (add-one i) (drop-cons s i 0 h)

pub none_left : (s : List ℕ) (i : ℕ) → length s ≤ i → drop i s ≡ []
none_left s i h = drop_of_length-le s {i = i} h

pub run-next : (n k b : ℕ) → k < n → replicate (n - k) b ≡ (b ∷ []) ++ replicate (n - (k + 1)) b
run-next n k b h = let e : n - k ≡ suc (n - (k + 1)) = omega arith in ap (λ (m : ℕ). replicate m b) e
