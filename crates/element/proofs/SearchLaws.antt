-- Looking for one of a record's elements: within a group, from group to group, and what it is of the whole record.
use Rattle.std.specs.Prelude.{Err, None, Ok, Some}
use Prim.Native.Nat.{ℕ, suc, ◌+◌, ◌-◌, ◌≤◌, ◌<◌}
use native.Mathlib.Omega.{arith}
use mathlib.Core.Path.{◌≡◌, refl, sym, ap, ap₂, ◌∙◌, subst}
use mathlib.Core.Bool.{Bool, true, false}
use mathlib.Core.List.{List, [], ◌∷◌, ◌++◌}
use lib.ListN.{length, drop, get_or, drop_of_length-le}
use lib.Dec.{eqb}
use borrow.Author.Tests.{eq-eqb, ne_eqb}
use Rattle.wire.specs.Numbers.{Bytes, number_at, pick}
use Rattle.wire.specs.Reading.{got, repeat}
use Rattle.wire.specs.Answers.{Answer}
use Rattle.wire.proofs.Accepting.{pick_true, pick-false}
use Rattle.avl.specs.declared.Widths.{Widths}
use Rattle.avl.specs.Codecs.{kinds, all_kinds}
use Rattle.avl.specs.Records.{Element, AvlRecord, element_bytes, group_bytes}
use Rattle.avl.proofs.Inversion.{ListRead, group-read}
use Rattle.avl.specs.RecordReader.{element, group, groups, plain_record}
use Rattle.avl.proofs.RecordLaws.{group-exact}
use Rattle.walk.proofs.KindLaws.{kind-known, next-kind}
use Rattle.element.specs.declared.Value.{Value}
use Rattle.element.specs.declared.Search.{Search}
use Rattle.element.specs.Elements.{Located, lead_size, locate_group, locate_groups, fixed_size, elements, first_with, passed_for}
use Rattle.element.specs.Search.{Onward, ReadableElement, ReadableGroup, located_value, value_at, Sought, sought, hit_or, searched, element_as}
use Rattle.element.proofs.ElementLaws.{length-element, length-group}
use Rattle.element.proofs.ReadLaws.{got_same, element-read, repeat-parted, repeat-nothing, repeat-size, repeat-inside, repeat-onward, groups-parted, record-read}

-- ---- a run of elements of one kind

-- at `at` an element stands, and `m` behind it
pub record Run (w : Widths) (kind : ℕ) (s : List ℕ) (at m : ℕ) (l : List Element) (end : ℕ) : Type 0 where
  pub read : ListRead (element w kind) (repeat m (element w kind)) s at l end

pub run-parted : {w : Widths} {kind : ℕ} {s : List ℕ} {at m : ℕ} {l : List Element} {end : ℕ} (n : ℕ) → n ≡ suc m → repeat n (element w kind) s at ≡ got l end → Run w kind s at m l end
run-parted {w} {kind} {s} {at} {m} n e h = record { read = (repeat-parted m (element w kind) s at).if-got _ _ (ap (λ (n : ℕ). repeat n (element w kind) s at) (sym e) ∙ h) }

module _ {w : Widths} {kind : ℕ} {s : List ℕ} {at m : ℕ} {l : List Element} {end : ℕ} (f : Run w kind s at m l end) where
  pub run-element : ReadableElement w kind s at
  run-element = record { content = f.read.first; next = f.read.mid; reads = f.read.one }

  -- the element that stands here
  abbrev pub present : Located
  present = record { kind = kind; id = f.read.first.id; place = at + lead_size w kind; value = f.read.first.value }

  module _ {v : Value} (is : (e : Element) (n : ℕ) → element w kind s at ≡ got e n → v ≡ value_at w kind at e) where
    pub run_value : v ≡ located_value present
    unfolding value_at located_value
    run_value = is _ _ f.read.one

    -- the value ends where the element does
    pub run-behind : v.offset + v.size ≡ f.read.mid
    unfolding located_value
    run-behind = ap (λ (x : Value). x.offset + x.size) run_value ∙ sym ((element-read w kind s at).if-got _ _ f.read.one).ends

    pub run-within : v.offset + v.size ≤ length s
    run-within = omega (arith, run-behind, ((element-read w kind s at).if-got _ _ f.read.one).inside)

    pub run-located : locate_group w kind at l ≡ present ∷ locate_group w kind (v.offset + v.size) f.read.others
    unfolding locate_group
    run-located =
        let bytes : at + length (element_bytes w kind f.read.first) ≡ v.offset + v.size =
        omega (arith, run-behind, length-element w kind f.read.first, ((element-read w kind s at).if-got _ _ f.read.one).ends) in
        ap (locate_group w kind at) f.read.is ∙ ap (λ (n : ℕ). present ∷ locate_group w kind n f.read.others) bytes

-- ---- within a group

-- the search in a group has passed `i` elements and stands at `next`: what is left answers as the whole; `look i` is what is looked for behind `i` elements
pub record Searching {A : Type 0} (w : Widths) (kind : ℕ) (s : List ℕ) (at : ℕ) (look : ℕ → List Located → A) (next i : ℕ) : Type 0 where
  pub members : List Element
  pub end : ℕ
  pub whole : group w kind s at ≡ got members end
  pub rest : List Element
  pub reads : repeat (number_at s at w.count - i) (element w kind) s next ≡ got rest end
  pub same : look i (locate_group w kind next rest) ≡ look 0 (locate_group w kind (at + w.count) members)

module _ {A : Type 0} {w : Widths} {kind : ℕ} {s : List ℕ} {at : ℕ} {look : ℕ → List Located → A} where
  pub search-start : ReadableGroup w kind s at → Searching w kind s at look (at + w.count) 0
  search-start g =
      record {
        members = g.members;
        end = g.next;
        whole = g.reads;
        rest = g.members;
        reads = ap (λ (n : ℕ). repeat n (element w kind) s (at + w.count)) (omega arith) ∙ ((group-read w kind s at).if-got _ _ g.reads).elements;
        same = refl;
      }

  module _ {next i : ℕ} (h : Searching w kind s at look next i) where
    -- what the group answers
    answers : (g : List Element) (n : ℕ) → group w kind s at ≡ got g n → look 0 (locate_group w kind (at + w.count) g) ≡ look i (locate_group w kind next h.rest)
    answers g n f = sym (h.same ∙ ap (λ (l : List Element). look 0 (locate_group w kind (at + w.count) l)) (got_same h.whole f).0)

    pub search-done : number_at s at w.count ≤ i → (g : List Element) (n : ℕ) → group w kind s at ≡ got g n
        → (look 0 (locate_group w kind (at + w.count) g) ≡ look i []) × (next ≡ n)
    unfolding locate_group
    search-done k g n f =
        let none : number_at s at w.count - i ≡ 0 = omega arith in
        let z = (repeat-nothing (element w kind) s next).if-got _ _ (ap (λ (n : ℕ). repeat n (element w kind) s next) (sym none) ∙ h.reads) in
        (answers g n f ∙ ap (λ (l : List Element). look i (locate_group w kind next l)) z.0, sym z.1 ∙ (got_same h.whole f).1)

    module _ (more : i < number_at s at w.count) where
      front : Run w kind s next (number_at s at w.count - (i + 1)) h.rest h.end
      front = run-parted (number_at s at w.count - i) (omega arith) h.reads

      pub search-element : ReadableElement w kind s next
      search-element = run-element front

      module _ {v : Value} (is : (e : Element) (n : ℕ) → element w kind s next ≡ got e n → v ≡ value_at w kind next e) where
        pub search-within : v.offset + v.size ≤ length s
        search-within = run-within front is

        -- it is the one
        pub search-hit : (give : Located → A) → ((e : Located) (l : List Located) → located_value e ≡ v → look i (e ∷ l) ≡ give e) → (g : List Element) (n : ℕ) → group w kind s at ≡ got g n
            → (e : Located) × (look 0 (locate_group w kind (at + w.count) g) ≡ give e) × (located_value e ≡ v)
        search-hit give found g n f =
            (present front, answers g n f ∙ ap (look i) (run-located front is) ∙ found (present front) _ (sym (run_value front is)), sym (run_value front is))

        -- it is not
        pub search-on : ((e : Located) (l : List Located) → located_value e ≡ v → look (i + 1) l ≡ look i (e ∷ l)) → Searching w kind s at look (v.offset + v.size) (i + 1)
        search-on passed =
            record {
              members = h.members;
              end = h.end;
              whole = h.whole;
              rest = front.read.others;
              reads = ap (λ (n : ℕ). repeat (number_at s at w.count - (i + 1)) (element w kind) s n) (run-behind front is) ∙ front.read.more;
              same = passed (present front) _ (sym (run_value front is)) ∙ ap (look i) (sym (run-located front is)) ∙ h.same;
            }

-- a group ends within the input, behind as many bytes as it says elements
pub group-room : {w : Widths} {kind : ℕ} {s : List ℕ} {at : ℕ} → 1 ≤ kind → ReadableGroup w kind s at → at + number_at s at w.count ≤ length s
group-room {w} {kind} {s} {at} named g =
    let read = (group-read w kind s at).if-got _ _ g.reads in
    omega (arith, repeat-onward w kind s named _ _ _ _ read.elements, repeat-inside w kind s _ _ _ _ read.elements read.inside)

-- ---- from group to group

module _ {A : Type 0} {w : Widths} {k : ℕ} {ks : List ℕ} {s : List ℕ} {at : ℕ} {look : List Located → A} {answer : A} (h : Onward w (k ∷ ks) s at look answer) where
  pub parts : ListRead (group w k) (groups w ks) s at h.rest h.end
  parts = (groups-parted w k ks s at).if-got _ _ h.reads

  pub onward-group : ReadableGroup w k s at
  onward-group = record { members = parts.first; next = parts.mid; reads = parts.one }

  pub onward-inside : at + w.count ≤ length s
  onward-inside = ((group-read w k s at).if-got _ _ parts.one).inside

  -- the first group ends behind as many bytes as it has elements
  pub onward-length : 1 ≤ k → at + length parts.first ≤ parts.mid
  onward-length named =
      let read = ((group-read w k s at).if-got _ _ parts.one).elements in
      omega (arith, repeat-size w k s _ _ _ _ read, repeat-onward w k s named _ _ _ _ read)

  -- the elements of the first group, and those behind it
  abbrev pub present-group : List Located
  present-group = locate_group w k (at + w.count) parts.first

  abbrev pub later : List Located
  later = locate_groups w ks (at + length (group_bytes w k parts.first)) parts.others

  pub ahead : look (present-group ++ later) ≡ answer
  unfolding locate_groups
  ahead = sym (ap (λ (l : List (List Element)). look (locate_groups w (k ∷ ks) at l)) parts.is) ∙ h.same

  -- it is not in this group
  pub onward-on : {next : ℕ} → Bytes s → parts.mid ≡ next → (rest : List Located → A) → look (present-group ++ later) ≡ rest later → Onward w ks s next rest answer
  onward-on {next} b e rest passed =
      let start : at ≤ length s = omega (arith, onward-inside) in
      let size = (((group-exact w k).sound s at b start).if-got _ _ parts.one).0.size in
      record {
        rest = parts.others;
        end = h.end;
        reads = ap (groups w ks s) (sym e) ∙ parts.more;
        same = ap (λ (n : ℕ). rest (locate_groups w ks n parts.others)) (sym e ∙ size) ∙ sym passed ∙ ahead;
      }

-- before the group with number `k`
module _ {A : Type 0} {w : Widths} {k : ℕ} {s : List ℕ} {at : ℕ} {look : List Located → A} {answer : A} (h : Onward w (drop k (kinds w)) s at look answer) where
  pub onward-next : {kind : ℕ} → k < length (kinds w) → kind ≡ get_or all_kinds k 0 → Onward w (kind ∷ drop (k + 1) (kinds w)) s at look answer
  onward-next i e = subst (λ (ks : List ℕ). Onward w ks s at look answer) (next-kind w k i (e ∙ kind-known w k i)) h

  pub onward-none : length (kinds w) ≤ k → look [] ≡ answer
  unfolding locate_groups
  onward-none i = (subst (λ (ks : List ℕ). Onward w ks s at look answer) (drop_of_length-le (kinds w) i) h).same

-- the same, whatever record is read
abbrev pub Ahead : {A : Type 0} → Widths → List ℕ → (List Located → A) → (List Located → A) → ℕ → ℕ → Type 0
Ahead w s look rest k at = (x : AvlRecord) (n : ℕ) → plain_record w s 0 ≡ got x n → Onward w (drop k (kinds w)) s at rest (look (elements w x))

module _ {A : Type 0} {w : Widths} {s : List ℕ} (look : List Located → A) where
  pub ahead-start : {at : ℕ} → at ≡ fixed_size w → Ahead w s look look 0 at
  unfolding elements
  ahead-start e x next h =
      record {
        rest = x.groups;
        end = next;
        reads = ap (groups w (kinds w) s) e ∙ ((record-read w s).if-got _ _ h).groups_read;
        same = ap (λ (n : ℕ). look (locate_groups w (kinds w) n x.groups)) e;
      }

  module _ {rest : List Located → A} {k at : ℕ} (a : Ahead w s look rest k at) (x : AvlRecord) (n : ℕ) (r : plain_record w s 0 ≡ got x n) where
    pub ahead-next : {kind : ℕ} → k < length (kinds w) → kind ≡ get_or all_kinds k 0 → Onward w (kind ∷ drop (k + 1) (kinds w)) s at rest (look (elements w x))
    ahead-next h e = onward-next {k = k} (a x n r) h e

    pub ahead_none : length (kinds w) ≤ k → rest [] ≡ look (elements w x)
    ahead_none h = onward-none {k = k} (a x n r) h

-- ---- by ID

-- what was found, with so many elements passed, or else the other
unfoldable sought_or : Answer Located → ℕ → Sought → Sought
sought_or (Ok e) n other = record { found = Ok e; passed = n }
sought_or (Err r) n other = other

sought-append : (id before : ℕ) (a b : List Located)
    → sought id before (a ++ b) ≡ sought_or (first_with id a) (before + passed_for id a) (sought id (before + passed_for id a) b)
unfolding first_with passed_for sought sought_or
sought-append id before [] b = ap (λ (n : ℕ). sought id n b) (omega arith)
sought-append id before (e ∷ a) b = go (eqb e.id id) (sought-append id (before + 1) a b)
  where
    here : (n : ℕ) → before + suc n ≡ before + 1 + n
    here n = omega arith

    go : (t : Bool) → sought id (before + 1) (a ++ b) ≡ sought_or (first_with id a) (before + 1 + passed_for id a) (sought id (before + 1 + passed_for id a) b)
        → ◌≡◌ {A = Sought} (record { found = pick t (Ok e) (first_with id (a ++ b)); passed = before + pick t 1 (suc (passed_for id (a ++ b))) })
        (sought_or (pick t (Ok e) (first_with id a)) (before + pick t 1 (suc (passed_for id a))) (sought id (before + pick t 1 (suc (passed_for id a))) b))
    go true more = refl
    go false more =
        ap (λ (n : ℕ). record { found = first_with id (a ++ b); passed = n }) (here (passed_for id (a ++ b)))
        ∙ more
        ∙ ap (λ (n : ℕ). sought_or (first_with id a) n (sought id n b)) (sym (here (passed_for id a)))

module _ (id : ℕ) {v : Value} (e : Located) (l : List Located) (same : located_value e ≡ v) where
  id-is : v.id ≡ e.id
  unfolding located_value
  id-is = ap (λ (x : Value). x.id) (sym same)

  -- it has the ID, and is one more that is passed
  pub sought-here : (i : ℕ) → v.id ≡ id → sought id i (e ∷ l) ≡ record { found = Ok e; passed = i + 1 }
  unfolding sought first_with passed_for
  sought-here i h =
      let t = eq-eqb e.id id (sym id-is ∙ h) in
      ap₂ (λ (f : Answer Located) (n : ℕ). record { found = f; passed = i + n }) (pick_true _ _ _ t) (pick_true _ _ _ t)

  pub sought-later : (i : ℕ) → (v.id ≡ id → ⊥) → sought id (i + 1) l ≡ sought id i (e ∷ l)
  unfolding sought first_with passed_for
  sought-later i h =
      let f = ne_eqb e.id id (λ k. h (id-is ∙ k)) in
      let n : i + 1 + passed_for id l ≡ i + suc (passed_for id l) = omega arith in
      ap₂ (λ (f : Answer Located) (n : ℕ). record { found = f; passed = n }) (sym (pick-false _ _ _ f)) (n ∙ ap (λ (m : ℕ). i + m) (sym (pick-false _ _ _ f)))

-- behind none
pub sought-passed : (id : ℕ) (l : List Located) → (sought id 0 l).passed ≡ passed_for id l
unfolding sought
sought-passed id l = omega arith

-- the answer of a group, of what is sought in it
searched-as : (id before n : ℕ) (l : List Located) {r : Sought} → sought id 0 l ≡ r → hit_or r.found n (before + r.passed) ≡ searched id before n l
unfolding searched sought
searched-as id before n l h =
    ap (λ (r : Sought). hit_or r.found n (before + r.passed)) (sym h) ∙ ap (λ (m : ℕ). hit_or (first_with id l) n (before + m)) (sought-passed id l)

pub searched-hit : (id before n i : ℕ) {v : Value} {passed : ℕ} (l : List Located)
    → ((e : Located) × (sought id 0 l ≡ record { found = Ok e; passed = i + 1 }) × (located_value e ≡ v)) → passed ≡ before + (i + 1) → Search.Hit v passed ≡ searched id before n l
unfolding hit_or
searched-hit id before n i l h e = ap₂ Search.Hit (sym h.2) e ∙ searched-as id before n l h.1

pub searched-miss : (id before n i : ℕ) {next passed : ℕ} (l : List Located) → (sought id 0 l ≡ sought id i []) × (next ≡ n) → passed ≡ before + i → Search.Miss next passed ≡ searched id before n l
unfolding sought hit_or first_with passed_for
searched-miss id before n i l h e =
    let all : i ≡ i + 0 = omega arith in
    ap₂ Search.Miss h.1 (e ∙ ap (λ (m : ℕ). before + m) all) ∙ searched-as id before n l h.0

-- no element is left
pub sought-end : (id before : ℕ) (l : List Located) → sought id before [] ≡ sought id 0 l → (None ≡ element_as (first_with id l)) × (before ≡ passed_for id l)
unfolding sought first_with passed_for element_as
sought-end id before l h =
    let n = ap (λ (r : Sought). r.passed) h in
    (ap (λ (r : Sought). element_as r.found) h, omega (arith, n))

-- no more are passed than there are
pub passed-most : (id : ℕ) (l : List Located) → passed_for id l ≤ length l
unfolding passed_for
passed-most id [] = omega arith
passed-most id (e ∷ l) = go (eqb e.id id) (passed-most id l)
  where
    go : (t : Bool) → passed_for id l ≤ length l → pick t 1 (suc (passed_for id l)) ≤ suc (length l)
    go true h = omega arith
    go false h = omega arith

-- what a group gives, and else the groups behind it
hit-first : (r : Answer Located) (other : Sought) (n m : ℕ) {v : Value} {k : ℕ} → hit_or r n m ≡ Search.Hit v k
    → (Some v ≡ element_as (sought_or r m other).found) × (k ≡ (sought_or r m other).passed)
unfolding hit_or sought_or element_as
hit-first (Ok e) other n m h = (ap Some (cc), cc)
hit-first (Err r) other n m h = absurd (let z : ◌≡◌ {A = ℕ} 0 1 = cc in omega arith)

miss-first : (r : Answer Located) (other : Sought) (n m : ℕ) {next k : ℕ} → hit_or r n m ≡ Search.Miss next k
    → (sought_or r m other ≡ other) × (n ≡ next) × (m ≡ k)
unfolding hit_or sought_or
miss-first (Ok e) other n m h = absurd (let z : ◌≡◌ {A = ℕ} 0 1 = cc in omega arith)
miss-first (Err r) other n m h = (refl, cc, cc)

module _ {w : Widths} {k : ℕ} {ks : List ℕ} {s : List ℕ} {at : ℕ} {answer : Sought} (id before : ℕ) (h : Onward w (k ∷ ks) s at (sought id before) answer)
    {r : Search} (found : (g : List Element) (n : ℕ) → group w k s at ≡ got g n → r ≡ searched id before n (locate_group w k (at + w.count) g)) where
  -- how many are passed up to the group's end
  passed_here : ℕ
  passed_here = before + passed_for id (present-group h)

  pub onward-hit : {v : Value} {n : ℕ} → r ≡ Search.Hit v n → (Some v ≡ element_as answer.found) × (n ≡ answer.passed)
  unfolding searched passed_here
  onward-hit e =
      let same = sym (sought-append id before (present-group h) (later h)) ∙ ahead h in
      let m = hit-first (first_with id (present-group h)) (sought id passed_here (later h)) _ passed_here (sym (found _ _ (parts h).one) ∙ e) in
      (m.0 ∙ ap (λ (r : Sought). element_as r.found) same, m.1 ∙ ap (λ (r : Sought). r.passed) same)

  module _ {next n : ℕ} (e : r ≡ Search.Miss next n) where
    missed : (sought_or (first_with id (present-group h)) passed_here (sought id passed_here (later h)) ≡ sought id passed_here (later h)) × ((parts h).mid ≡ next) × (passed_here ≡ n)
    unfolding searched passed_here
    missed = miss-first (first_with id (present-group h)) (sought id passed_here (later h)) _ passed_here (sym (found _ _ (parts h).one) ∙ e)

    pub onward-stop : (parts h).mid ≡ next
    onward-stop = missed.1

    pub onward-miss : Bytes s → Onward w ks s next (sought id n) answer
    unfolding passed_here
    onward-miss b =
        onward-on h b onward-stop (sought id n)
        (sought-append id before (present-group h) (later h) ∙ missed.0 ∙ ap (λ (n : ℕ). sought id n (later h)) missed.2)

    -- at most as many as there are bytes up to there
    pub onward-few : 1 ≤ k → before ≤ at → n ≤ next
    unfolding passed_here
    onward-few named few =
        omega (arith, few, missed.1, missed.2, passed-most id (present-group h), length-group w k (at + w.count) (parts h).first, onward-length h named)
