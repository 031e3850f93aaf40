-- Loops over content: what is left, read and stored from here on, gives what the whole gives.
use Prim.Native.Nat.{ℕ, zero, suc, ◌+◌, ◌-◌, ◌*◌, ◌≤◌, ◌<◌}
use native.Mathlib.Omega.{arith}
use mathlib.Core.Path.{◌≡◌, refl, sym, ap, ◌∙◌, subst}
use mathlib.Core.List.{List, [], ◌∷◌}
use lib.ListN.{length, drop, get_or, drop_of_length-le}
use Rattle.wire.specs.Numbers.{number_at}
use Rattle.wire.specs.Reading.{got, Reader, pure, repeat}
use Rattle.wire.proofs.Walking.{number-there}
use Rattle.avl.specs.declared.Widths.{Widths}
use Rattle.avl.specs.Codecs.{kinds}
use Rattle.avl.specs.Records.{AvlRecord}
use Rattle.avl.specs.RecordReader.{element, group, groups, plain_record}
use Rattle.avl.proofs.Inversion.{listed, group-read}
use Rattle.walk.proofs.KindLaws.{next-kind}
use Rattle.element.specs.Elements.{Located, locate_group, locate_groups}
use Rattle.traverse.specs.declared.Moved.{Moved}
use Rattle.traverse.specs.Texts.{element_text, run_text, group_text, groups_text, records_text}
use Rattle.traverse.specs.Copying.{Ready, Copies, OnPace}
use Rattle.traverse.proofs.CopyLaws.{moved, Joins, copies-is, copies-none, copies-list, ready-first, ready-others}
use Rattle.traverse.proofs.PaceLaws.{run-joins, groups-joins, records-joins}

-- `m` is left, to be read at `from` and stored at `dest`, of `whole`, which began at `at` and `to`
pub record Left {A : Type 0} (m : Reader A) (text : ℕ → A → List ℕ) (whole : Reader A) (all : ℕ → A → List ℕ)
    (s : List ℕ) (at to : ℕ) (before : List ℕ) (from dest : ℕ) (out : List ℕ) : Type 0 where
  pub ready : Ready m s from dest
  pub rest : (after : List ℕ) (r : Moved) → Copies m text s from dest out after r → Copies whole all s at to before after r
  pub ahead : 8 * at + dest ≤ 8 * from + to

pub left-start : {A : Type 0} {m : Reader A} {text : ℕ → A → List ℕ} {s : List ℕ} {at to : ℕ} {out : List ℕ} → Ready m s at to
    → Left m text m text s at to out at to out
left-start k = record { ready = k; rest = λ after r c. c; ahead = omega arith }

-- ---- one turn, and the end

module _ {A : Type 0} {whole : Reader (List A)} {all : ℕ → List A → List ℕ} {s : List ℕ} {at to : ℕ} {before : List ℕ} {from dest : ℕ} {out : List ℕ} where
  module _ (m : Reader A) (rest : Reader (List A)) {q : Reader (List A)} {lot : ℕ → List A → List ℕ} (is : q ≡ listed m rest)
      (l : Left q lot whole all s at to before from dest out) where
    more : Left (listed m rest) lot whole all s at to before from dest out
    more = subst (λ x. Left x lot whole all s at to before from dest out) is l

    pub left-first : Ready m s from dest
    left-first = ready-first m rest more.ready

    pub left-on : {one : ℕ → A → List ℕ} {many : ℕ → List A → List ℕ} → Joins m one many lot s
        → {mid : List ℕ} {r : Moved} → OnPace s from dest r → Copies m one s from dest out mid r → Left rest many whole all s at to before r.from r.to mid
    left-on joins p c =
        record {
          ready = ready-others m rest p more.ready c;
          rest = λ after q d. more.rest after q (copies-list m rest joins more.ready.inside c d);
          ahead = omega (arith, p.ahead, l.ahead);
        }

  pub left-done : {m : Reader (List A)} {text : ℕ → List A → List ℕ} (a : List A) → Left m text whole all s at to before from dest out
      → m s from ≡ got a from → text from a ≡ [] → Copies whole all s at to before out (moved from dest)
  left-done a l e z = l.rest out (moved from dest) (copies-none a e z)

  pub left-pace : {m : Reader (List A)} {text : ℕ → List A → List ℕ} → Left m text whole all s at to before from dest out → OnPace s at to (moved from dest)
  left-pace l = record { inside = l.ready.inside; ahead = l.ahead }

repeat-more : {A : Type 0} (m : Reader A) (n : ℕ) → 0 < n → repeat n m ≡ listed m (repeat (n - 1) m)
unfolding repeat
repeat-more m zero h = absurd (omega arith)
repeat-more m (suc n) h = let less : n ≡ suc n - 1 = omega arith in ap (λ (k : ℕ). listed m (repeat k m)) less

module _ (f : Located → List ℕ) (w : Widths) where
  -- ---- the elements of a group

  abbrev pub GroupLeft : ℕ → List ℕ → ℕ → ℕ → List ℕ → ℕ → ℕ → List ℕ → ℕ → Type 0
  GroupLeft kind s at to before from dest out n =
      Left (repeat n (element w kind)) (run_text f w kind) (group w kind) (group_text f w kind) s at to before from dest out

  module _ (kind : ℕ) {s : List ℕ} {at to : ℕ} where
    pub group-inside : Ready (group w kind) s at to → at + w.count ≤ length s
    group-inside k = ((group-read w kind s at).if-got _ _ k.reads).inside

    pub group-start : {n : ℕ} {out : List ℕ} → n ≡ number_at s at w.count → Ready (group w kind) s at to
        → GroupLeft kind s at to out (at + w.count) to out n
    unfolding group
    group-start {n} e k =
        let g = (group-read w kind s at).if-got _ _ k.reads in
        let same = ap (λ (x : ℕ). repeat x (element w kind) s (at + w.count)) (sym e) in
        record {
          ready = record {
            bytes = k.bytes;
            small = k.small;
            inside = g.inside;
            behind = omega (arith, k.behind);
            content = k.content;
            next = k.next;
            reads = sym same ∙ g.elements;
          };
          rest = λ after r c. copies-is (number-there _ s at w.count g.inside ∙ same) (λ a n i. refl) c;
          ahead = omega arith;
        }

    module _ {before : List ℕ} {from dest : ℕ} {out : List ℕ} (n : ℕ) (l : GroupLeft kind s at to before from dest out n) where
      pub group-first : 0 < n → Ready (element w kind) s from dest
      group-first h = left-first (element w kind) (repeat (n - 1) (element w kind)) (repeat-more (element w kind) n h) l

      pub group-on : 0 < n → {mid : List ℕ} {r : Moved} → OnPace s from dest r
          → Copies (element w kind) (element_text f w kind) s from dest out mid r → GroupLeft kind s at to before r.from r.to mid (n - 1)
      group-on h p c = left-on (element w kind) (repeat (n - 1) (element w kind)) (repeat-more (element w kind) n h) l (run-joins f w kind s) p c

      pub group-done : n ≤ 0 → Copies (group w kind) (group_text f w kind) s at to before out (moved from dest)
      unfolding repeat pure locate_group
      group-done h = let none : n ≡ 0 = omega arith in left-done [] l (ap (λ (k : ℕ). repeat k (element w kind) s from) none) refl

  -- ---- the groups of a record

  abbrev pub GroupsLeft : List ℕ → ℕ → ℕ → List ℕ → ℕ → ℕ → List ℕ → ℕ → Type 0
  GroupsLeft s at to before from dest out k =
      Left (groups w (drop k (kinds w))) (groups_text f w (drop k (kinds w))) (groups w (kinds w)) (groups_text f w (kinds w)) s at to before from dest out

  module _ {s : List ℕ} {at to : ℕ} {before : List ℕ} {from dest : ℕ} {out : List ℕ} (k : ℕ) (l : GroupsLeft s at to before from dest out k) where
    module _ {kind : ℕ} (h : k < length (kinds w)) (e : kind ≡ get_or (kinds w) k 0) where
      groups-more : groups w (drop k (kinds w)) ≡ listed (group w kind) (groups w (drop (k + 1) (kinds w)))
      unfolding groups
      groups-more = ap (groups w) (next-kind w k h e)

      pub groups-first : Ready (group w kind) s from dest
      groups-first = left-first (group w kind) (groups w (drop (k + 1) (kinds w))) groups-more l

      pub groups-on : {mid : List ℕ} {r : Moved} → OnPace s from dest r
          → Copies (group w kind) (group_text f w kind) s from dest out mid r → GroupsLeft s at to before r.from r.to mid (k + 1)
      groups-on p c =
          left-on (group w kind) (groups w (drop (k + 1) (kinds w))) groups-more l
          (λ at mid g gs i j. ap (λ (ks : List ℕ). groups_text f w ks at (g ∷ gs)) (next-kind w k h e) ∙ groups-joins f w kind (drop (k + 1) (kinds w)) s l.ready.bytes at mid g gs i j)
          p c

    pub groups-done : length (kinds w) ≤ k → Copies (groups w (kinds w)) (groups_text f w (kinds w)) s at to before out (moved from dest)
    unfolding groups pure locate_groups
    groups-done h =
        let none : drop k (kinds w) ≡ [] = drop_of_length-le (kinds w) h in
        left-done [] l (ap (λ (ks : List ℕ). groups w ks s from) none) (ap (λ (ks : List ℕ). groups_text f w ks from []) none)

-- ---- records, whatever the text of one is

module _ (text : ℕ → AvlRecord → List ℕ) (w : Widths) (count : ℕ) where
  abbrev pub RecordsLeft : List ℕ → ℕ → List ℕ → ℕ → ℕ → List ℕ → ℕ → Type 0
  RecordsLeft s to before from dest out i =
      Left (repeat (count - i) (plain_record w)) (records_text text w) (repeat count (plain_record w)) (records_text text w) s 0 to before from dest out

  records-more : (i : ℕ) → i < count → repeat (count - i) (plain_record w) ≡ listed (plain_record w) (repeat (count - (i + 1)) (plain_record w))
  records-more i h =
      let less : count - i - 1 ≡ count - (i + 1) = omega arith in
      repeat-more (plain_record w) (count - i) (omega arith) ∙ ap (λ (k : ℕ). listed (plain_record w) (repeat k (plain_record w))) less

  module _ {s : List ℕ} {to : ℕ} where
    pub records-start : {out : List ℕ} → Ready (repeat count (plain_record w)) s 0 to → RecordsLeft s to out 0 to out 0
    records-start {out} k =
        let all : count ≡ count - 0 = omega arith in
        subst (λ (n : ℕ). Left (repeat n (plain_record w)) (records_text text w) (repeat count (plain_record w)) (records_text text w) s 0 to out 0 to out) all (left-start k)

    module _ {before : List ℕ} {from dest : ℕ} {out : List ℕ} (i : ℕ) (l : RecordsLeft s to before from dest out i) where
      pub records-first : i < count → Ready (plain_record w) s from dest
      records-first h = left-first (plain_record w) (repeat (count - (i + 1)) (plain_record w)) (records-more i h) l

      pub records-on : i < count → {mid : List ℕ} {r : Moved} → OnPace s from dest r → Copies (plain_record w) text s from dest out mid r
          → RecordsLeft s to before r.from r.to mid (i + 1)
      records-on h p c = left-on (plain_record w) (repeat (count - (i + 1)) (plain_record w)) (records-more i h) l (records-joins text w s l.ready.bytes) p c

      pub records-done : count ≤ i → Copies (repeat count (plain_record w)) (records_text text w) s 0 to before out (moved from dest)
      unfolding repeat pure records_text
      records-done h = let none : count - i ≡ 0 = omega arith in left-done [] l (ap (λ (n : ℕ). repeat n (plain_record w) s from) none) refl
