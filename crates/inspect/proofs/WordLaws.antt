-- What a search in a table of words has left to look at.
use Rattle.std.proofs.Common.{ℕ, suc, ◌+◌, ◌≤◌, ◌<◌, arith, add-one, ◌≡◌, refl, sym, ap, ◌∙◌, Bool, true, false, ◌&&◌, eqb, Option, Some, None, option_map, List, [], ◌∷◌, length, get_or, drop, take, map, slice_get, length-take}
use Rattle.std.proofs.Math.Seq.{drop-cons}
use Rattle.std.proofs.Math.ListN.{drop_of_length-le}
use Rattle.std.proofs.lemmas.Option.{slice_get_read, slice_get_past, slice_get-map}
use lib.Pointwise.{pointwise}
use Rattle.wire.specs.Numbers.{pick}
use Rattle.inspect.specs.Words.{same_bytes, place_of, StandsFor}

-- ---- the same bytes

same-as : (a b : List ℕ) → same_bytes a b ≡ pointwise eqb a b
unfolding same_bytes
same-as [] [] = refl
same-as [] (y ∷ b) = refl
same-as (x ∷ a) [] = refl
same-as (x ∷ a) (y ∷ b) = split (same-as a b) (eqb x y)
  where
    split : same_bytes a b ≡ pointwise eqb a b → (t : Bool) → pick t (same_bytes a b) false ≡ (t && pointwise eqb a b)
    split rest true = rest
    split rest false = refl

-- what a test of two slices gave
pub same-told : {r t : Bool} (a b : List ℕ) → r ≡ pointwise eqb a b → r ≡ t → same_bytes a b ≡ t
same-told a b e h = same-as a b ∙ sym e ∙ h

-- ---- the place among the words that are left gives the place among all

pub record TableLeft {X : Type 0} (f : X → List ℕ) (w : List ℕ) (table : List X) (i : ℕ) : Type 0 where
  pub inside : i ≤ length table
  pub place : i + place_of w (map f (drop i table)) ≡ place_of w (map f table)

module _ {X : Type 0} {f : X → List ℕ} {w : List ℕ} {table : List X} {i : ℕ} (h : TableLeft f w table i) where
  module _ (more : i < length table) (e : X) (is : e ≡ get_or table i e) where
    here : drop i table ≡ e ∷ drop (i + 1) table
    here = rw (add-one i) (drop-cons table i e more ∙ ap (λ (x : X). x ∷ drop (suc i) table) (sym is))

    pub table-next : same_bytes w (f e) ≡ false → TableLeft f w table (i + 1)
    unfolding place_of
    table-next other = record { inside = omega arith; place = omega (arith, simp (here, other) at h.place) }

    pub table-found : {A : Type 0} (value : X → A) → same_bytes w (f e) ≡ true → Some (value e) ≡ slice_get (map value table) (place_of w (map f table))
    unfolding place_of
    table-found value same =
        let at : i ≡ place_of w (map f table) = omega (arith, simp (here, same) at h.place) in
        rw (← at) (sym (slice_get-map value table i ∙ ap (option_map value) (slice_get_read table (length table) i e refl more is)))

  pub table-done : {A : Type 0} (value : X → A) → length table ≤ i → None ≡ slice_get (map value table) (place_of w (map f table))
  unfolding place_of
  table-done value done =
      let at : i ≡ place_of w (map f table) = omega (arith, rw (drop_of_length-le table {i = i} done) at h.place) in
      rw (← at) (sym (slice_get-map value table i ∙ ap (option_map value) (slice_get_past table i done)))

-- ---- a place is within the words

place-within : (w : List ℕ) (words : List (List ℕ)) → place_of w words ≤ length words
unfolding place_of
place-within w [] = omega arith
place-within w (x ∷ words) = split (place-within w words) (same_bytes w x)
  where
    split : place_of w words ≤ length words → (t : Bool) → pick t 0 (suc (place_of w words)) ≤ suc (length words)
    split rest true = omega arith
    split rest false = omega arith

pub stands-for : {A : Type 0} {most : ℕ} {result : Option A} (n : ℕ) (buffer : List ℕ) (words : List (List ℕ)) (values : List A) → length buffer ≡ most → result ≡ slice_get values (place_of (take n buffer) words) → StandsFor most words values result
stands-for {most = most} n buffer words values size e =
    let short : length (take n buffer) ≤ most = simp length-take (omega arith) in
    record { place = place_of (take n buffer) words; some = record { word = take n buffer; short = short; found = refl; within = place-within _ _ }; value = e }
