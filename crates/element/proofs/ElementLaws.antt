-- Each value of a record lies within the record's bytes, and the elements are as many as the groups have.
use Prim.Native.Nat.{ℕ, suc, ◌+◌}
use native.Mathlib.Omega.{arith}
use mathlib.Core.Path.{◌≡◌, refl, ap, ap₂, ◌∙◌}
use mathlib.Core.Bool.{Bool, true, false}
use mathlib.Core.List.{List, [], ◌∷◌, ◌++◌}
use lib.ListN.{length, length-append}
use lib.Dec.{eqb}
use Rattle.wire.specs.Numbers.{be, pick}
use Rattle.wire.specs.Sequences.{joined, All}
use Rattle.wire.proofs.Widths.{length_digits, all_append}
use Rattle.wire.proofs.Placed.{Between, between_split, between-moved, between-whole, between_is}
use Rattle.avl.specs.declared.Widths.{Widths}
use Rattle.avl.specs.Codecs.{kinds}
use Rattle.avl.specs.Records.{Element, Fixed, AvlRecord, element_count, length_bytes, element_bytes, group_bytes, groups_bytes, fixed_bytes, record_bytes, GroupsRules, RecordRules}
use Rattle.element.specs.Elements.{Located, lead_size, locate_group, locate_groups, fixed_size, elements}
use Rattle.element.specs.Places.{part, Inside}

inside : {s : List ℕ} {next : ℕ} (e : Located) → Between s e.place e.value next → Inside e s
unfolding part
inside e f = record { within = omega (arith, f.inside, f.size); stands = between_is f }

length-pick : (variable : Bool) (n : ℕ) → length (pick variable (be 2 n) []) ≡ pick variable 2 0
length-pick true n = length_digits 256 2 n
length-pick false n = refl

pub length-element : (w : Widths) (kind : ℕ) (e : Element) → length (element_bytes w kind e) ≡ lead_size w kind + length e.value
unfolding element_bytes length_bytes lead_size
length-element w kind e = simp (length-append, length_digits, length-pick) (omega arith)

group-inside : (w : Widths) (kind : ℕ) (s : List ℕ) (at : ℕ) (g : List Element) (next : ℕ)
    → Between s at (joined (element_bytes w kind) g) next → All (λ e. Inside e s) (locate_group w kind at g)
unfolding locate_group element_bytes length_bytes lead_size
group-inside w kind s at [] next f = tt
group-inside w kind s at (e ∷ g) next f =
    let a = between_split (element_bytes w kind e) f in
    let b = between_split (be w.id e.id) a.0 in
    let c = between_split (length_bytes kind e.value) b.1 in
    let place : at + length (be w.id e.id) + length (length_bytes kind e.value) ≡ at + lead_size w kind =
    omega (arith, length_digits 256 w.id e.id, length-pick (eqb kind 9) (length e.value)) in
    (inside _ (between-moved place refl c.1), group-inside w kind s (at + length (element_bytes w kind e)) g next a.1)

groups-inside : (w : Widths) (ks : List ℕ) (s : List ℕ) (at : ℕ) (gs : List (List Element)) (next : ℕ)
    → Between s at (groups_bytes w ks gs) next → All (λ e. Inside e s) (locate_groups w ks at gs)
unfolding locate_groups groups_bytes group_bytes
groups-inside w [] s at gs next f = tt
groups-inside w (k ∷ ks) s at [] next f = tt
groups-inside w (k ∷ ks) s at (g ∷ gs) next f =
    let a = between_split (group_bytes w k g) f in
    let b = between_split (be w.count (length g)) a.0 in
    all_append (λ e. Inside e s) (locate_group w k (at + w.count) g) _
    (group-inside w k s _ g _ (between-moved (ap (λ (n : ℕ). at + n) (length_digits 256 w.count (length g))) refl b.1))
    (groups-inside w ks s (at + length (group_bytes w k g)) gs next a.1)

pub length-fixed : (w : Widths) (f : Fixed) → length (fixed_bytes w f) + w.count ≡ fixed_size w
unfolding fixed_bytes fixed_size
length-fixed w f = simp (length-append, length_digits) (omega arith)

pub length-record : (w : Widths) (r : AvlRecord) → length (record_bytes w r) ≡ fixed_size w + length (groups_bytes w (kinds w) r.groups)
unfolding record_bytes
length-record w r =
    let sum = be w.count (element_count r.groups) in
    let rest = groups_bytes w (kinds w) r.groups in
    omega (arith, length-append (fixed_bytes w r.fixed) (sum ++ rest), length-append sum rest, length_digits 256 w.count (element_count r.groups), length-fixed w r.fixed)

pub elements-inside : (w : Widths) (r : AvlRecord) → All (λ e. Inside e (record_bytes w r)) (elements w r)
unfolding elements record_bytes
elements-inside w r =
    let s = record_bytes w r in
    let a = between_split (fixed_bytes w r.fixed) (between-whole s) in
    let b = between_split (be w.count (element_count r.groups)) a.1 in
    let sum = length_digits 256 w.count (element_count r.groups) in
    groups-inside w (kinds w) s (fixed_size w) r.groups (length s) (between-moved (omega (arith, length-fixed w r.fixed, sum)) refl b.1)

-- ---- the number of elements

pub length-group : (w : Widths) (kind at : ℕ) (g : List Element) → length (locate_group w kind at g) ≡ length g
unfolding locate_group
length-group w kind at [] = refl
length-group w kind at (e ∷ g) = ap suc (length-group w kind (at + length (element_bytes w kind e)) g)

pub length-groups : (w : Widths) (ks : List ℕ) (at : ℕ) (gs : List (List Element)) → GroupsRules w ks gs → length (locate_groups w ks at gs) ≡ element_count gs
unfolding locate_groups element_count
length-groups w [] at [] h = refl
length-groups w [] at (g ∷ gs) h = absurd h
length-groups w (k ∷ ks) at [] h = absurd h
length-groups w (k ∷ ks) at (g ∷ gs) h =
    length-append (locate_group w k (at + w.count) g) _ ∙ ap₂ (λ (a b : ℕ). a + b) (length-group w k _ g) (length-groups w ks (at + length (group_bytes w k g)) gs h.1)

pub length-elements : (longest : ℕ) (w : Widths) (r : AvlRecord) → RecordRules longest w r → length (elements w r) ≡ element_count r.groups
unfolding elements
length-elements longest w r h = length-groups w (kinds w) (fixed_size w) r.groups h.groups_keep
