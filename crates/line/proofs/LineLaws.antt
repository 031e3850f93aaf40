-- A line is read exactly where it is written, and no two lines have the same bytes.
use Rattle.std.specs.Prelude.{Err, Ok}
use Prim.Native.Nat.{ℕ, suc, ◌+◌, ◌-◌, ◌^◌, ◌<◌}
use native.Mathlib.Omega.{arith}
use mathlib.Core.Path.{◌≡◌, refl, sym, ap, ap₂, ◌∙◌, subst}
use mathlib.Core.Bool.{Bool, true, false}
use mathlib.Core.List.{List, [], ◌∷◌, ◌++◌}
use lib.ListN.{length, take, get_or, length-append}
use lib.Seq.{take-suc, take_all, take_at, get_or_at}
use lib.Dec.{eqb, lit<}
use borrow.Author.Tests.{eqb-true, eq-eqb}
use Rattle.wire.specs.Sequences.{All}
use Rattle.wire.specs.Reading.{Read, got, bad, and_then}
use Rattle.wire.specs.Answers.{Answer}
use Rattle.wire.proofs.Accepting.{told-accepted, told-got, unplaced-accepted, unplaced-passed, pick_true}
use Rattle.wire.proofs.Exactness.{and_then-got}
use Rattle.text.specs.Decimal.{decimal}
use Rattle.line.specs.Pieces.{pieces, separated}
use Rattle.line.specs.Lines.{Printed, number, tag, Line, PrintedRules, NoNumbers, TagsLast, LineRules, degrees, texts, line_fields, line_bytes}
use Rattle.line.specs.LineReader.{read_decimal, read_degrees, read_printed, wrong, on_field, next_field, is_tag, read_elements, read_fields, body, judge_line, read_line}
use Rattle.line.proofs.Cases.{by-test, all-weaken}
use Rattle.line.proofs.PieceLaws.{InField, field-comma, pieces-separated, separated-pieces}
use Rattle.line.proofs.Inverses.{Inverse}
use Rattle.line.proofs.DecimalLaws.{decimal-field, decimal-inverse}
use Rattle.line.proofs.DegreesLaws.{degrees-field, degrees-inverse}
use Rattle.line.proofs.PrintedLaws.{tagged-undo, printed-cases, printed-inverse, printed-field}

-- ---- one field and the next

and_then-passed : {A B : Type 0} (r : Read A) (f : A → ℕ → Read B) {a : A} {n : ℕ} → r ≡ got a n → and_then r f ≡ f a n
unfolding and_then
and_then-passed r f e = ap (λ x. and_then x f) e

on_field-got : {A B : Type 0} (at : ℕ) (r : Answer A) (f : A → Read B) (b : B) (n : ℕ) → on_field at r f ≡ got b n → (a : A) × (r ≡ Ok a) × (f a ≡ got b n)
unfolding on_field
on_field-got at (Ok a) f b n e = (a, refl, e)
on_field-got at (Err x) f b n e = absurd (let z : ◌≡◌ {A = ℕ} 0 1 = cc in omega arith)

on_field-passed : {A B : Type 0} (at : ℕ) (r : Answer A) (f : A → Read B) {a : A} → r ≡ Ok a → on_field at r f ≡ f a
unfolding on_field
on_field-passed at r f e = ap (λ x. on_field at x f) e

-- whatever is read from the next field on meets Q, if what is read behind it does
next-exact : {A B : Type 0} {parse : List ℕ → Answer A} {write : A → List ℕ} {Rules : A → Type 0} (inverse : Inverse parse write Rules)
    (Q : List (List ℕ) → B → Type 0) (at : ℕ) (ps : List (List ℕ)) (f : A → ℕ → List (List ℕ) → Read B)
    → ((a : A) → Rules a → (at : ℕ) (ps : List (List ℕ)) (b : B) (n : ℕ) → f a at ps ≡ got b n → Q (write a ∷ ps) b)
    → (b : B) (n : ℕ) → next_field parse at ps f ≡ got b n → Q ps b
unfolding next_field
next-exact inverse Q at [] f h b n e = absurd (let z : ◌≡◌ {A = ℕ} 0 1 = cc in omega arith)
next-exact {parse = parse} inverse Q at (p ∷ ps) f h b n e =
    let i = on_field-got at (parse p) (λ a. f a (at + suc (length p)) ps) b n e in
    let k = inverse.exact p i.0 i.1 in
    subst (λ (x : List ℕ). Q (x ∷ ps) b) (sym k.1) (h i.0 k.0 (at + suc (length p)) ps b n i.2)

next-passed : {A B : Type 0} (parse : List ℕ → Answer A) (at : ℕ) (p : List ℕ) (ps : List (List ℕ)) (f : A → ℕ → List (List ℕ) → Read B) {a : A}
    → parse p ≡ Ok a → next_field parse at (p ∷ ps) f ≡ f a (at + suc (length p)) ps
unfolding next_field
next-passed parse at p ps f e = on_field-passed at (parse p) _ e

-- ---- the elements

-- behind a tag, or not
abbrev Ordered : Bool → List Printed → Type 0
Ordered false es = TagsLast es
Ordered true es = NoNumbers es

elements-on : (tags : Bool) (at : ℕ) (p : List ℕ) (ps : List (List ℕ)) (e : Printed) (es : List Printed) (n : ℕ) → read_printed tags p ≡ Ok e
    → read_elements (is_tag e) (at + suc (length p)) ps ≡ got es n → read_elements tags at (p ∷ ps) ≡ got (e ∷ es) n
unfolding read_elements
elements-on tags at p ps e es n h k = on_field-passed at (read_printed tags p) _ h ∙ and_then-passed (read_elements (is_tag e) (at + suc (length p)) ps) _ k

elements-undo : (tags : Bool) (at : ℕ) (es : List Printed) → All PrintedRules es → Ordered tags es → (n : ℕ) × (read_elements tags at (texts es) ≡ got es n)
unfolding texts read_elements is_tag
elements-undo tags at [] h k = (at, refl)
elements-undo true at (number id v ∷ es) h k = absurd k
elements-undo false at (number id v ∷ es) h k =
    let more = elements-undo false _ es h.1 k in
    (more.0, elements-on false at _ (texts es) (number id v) es more.0 (printed-inverse.undo (number id v) h.0) more.1)
elements-undo true at (tag id b ∷ es) h k =
    let more = elements-undo true _ es h.1 k in
    (more.0, elements-on true at _ (texts es) (tag id b) es more.0 (tagged-undo true id b h.0) more.1)
elements-undo false at (tag id b ∷ es) h k =
    let more = elements-undo true _ es h.1 k in
    (more.0, elements-on false at _ (texts es) (tag id b) es more.0 (tagged-undo false id b h.0) more.1)

ordered-number : (tags : Bool) (id v : ℕ) (es : List Printed) → tags ≡ false → TagsLast es → Ordered tags (number id v ∷ es)
ordered-number true id v es t h = absurd (let z : ◌≡◌ {A = ℕ} 0 1 = cc in omega arith)
ordered-number false id v es t h = h

ordered-tag : (tags : Bool) (id : ℕ) (b : List ℕ) (es : List Printed) → NoNumbers es → Ordered tags (tag id b ∷ es)
ordered-tag true id b es h = h
ordered-tag false id b es h = h

record Elements (tags : Bool) (ps : List (List ℕ)) (es : List Printed) : Type 0 where
  rules : All PrintedRules es
  ordered : Ordered tags es
  stand : ps ≡ texts es

elements-exact : (tags : Bool) (at : ℕ) (ps : List (List ℕ)) (es : List Printed) (n : ℕ) → read_elements tags at ps ≡ got es n → Elements tags ps es
unfolding read_elements texts is_tag
elements-exact tags at [] es n e =
    let is : [] ≡ es = cc in
    subst (Elements tags []) is (record { rules = tt; ordered = nothing tags; stand = refl })
  where
    nothing : (tags : Bool) → Ordered tags []
    nothing true = tt
    nothing false = tt
elements-exact tags at (p ∷ ps) es n e =
    let i = on_field-got at (read_printed tags p) _ es n e in
    let j = and_then-got (read_elements (is_tag i.0) (at + suc (length p)) ps) _ es n i.2 in
    let is : i.0 ∷ j.0 ≡ es = cc j.3 in
    subst (Elements tags (p ∷ ps)) is
    (printed-cases (λ a. (l : List Printed) (m : ℕ) → read_elements (is_tag a) (at + suc (length p)) ps ≡ got l m → Elements tags (p ∷ ps) (a ∷ l)) tags p i.0 i.1
    (λ id v t h there l m k.
    let more = elements-exact false (at + suc (length p)) ps l m k in
    record { rules = (h, more.rules); ordered = ordered-number tags id v l t more.ordered; stand = ap₂ (λ (x : List ℕ) (y : List (List ℕ)). x ∷ y) there more.stand })
    (λ id b h there l m k.
    let more = elements-exact true (at + suc (length p)) ps l m k in
    record { rules = (h, more.rules); ordered = ordered-tag tags id b l more.ordered; stand = ap₂ (λ (x : List ℕ) (y : List (List ℕ)). x ∷ y) there more.stand })
    j.0 j.1 j.2)

-- ---- the fields

fields-undo : (l : Line) → LineRules l → (n : ℕ) × (read_fields (line_fields l) ≡ got l n)
unfolding read_fields line_fields
fields-undo l h =
    let more = elements-undo false _ l.elements h.each h.order in (
      more.0,
      next-passed (read_decimal (2 ^ 64 - 1)) _ _ _ _ ((decimal-inverse (2 ^ 64 - 1) (lit< tt)).undo l.timestamp (omega (arith, h.timestamp_fits)))
          ∙ next-passed read_degrees _ _ _ _ (degrees-inverse.undo l.longitude h.longitude_fits)
          ∙ next-passed read_degrees _ _ _ _ (degrees-inverse.undo l.latitude h.latitude_fits)
          ∙ next-passed (read_decimal (2 ^ 16 - 1)) _ _ _ _ ((decimal-inverse (2 ^ 16 - 1) (lit< tt)).undo l.speed (omega (arith, h.speed_fits)))
          ∙ and_then-passed (read_elements false _ (texts l.elements)) _ more.1,
    )

abbrev Fields : List (List ℕ) → Line → Type 0
Fields ps l = LineRules l × (ps ≡ line_fields l)

fields-exact : (ps : List (List ℕ)) (l : Line) (n : ℕ) → read_fields ps ≡ got l n → Fields ps l
unfolding read_fields line_fields
fields-exact ps l n e =
    next-exact (decimal-inverse (2 ^ 64 - 1) (lit< tt)) Fields 0 ps _ (λ timestamp h₁ at₁ ps₁.
    next-exact degrees-inverse (λ ps l. Fields (decimal timestamp ∷ ps) l) at₁ ps₁ _ (λ longitude h₂ at₂ ps₂.
    next-exact degrees-inverse (λ ps l. Fields (decimal timestamp ∷ degrees longitude ∷ ps) l) at₂ ps₂ _ (λ latitude h₃ at₃ ps₃.
    next-exact (decimal-inverse (2 ^ 16 - 1) (lit< tt)) (λ ps l. Fields (decimal timestamp ∷ degrees longitude ∷ degrees latitude ∷ ps) l) at₃ ps₃ _ (λ speed h₄ at₄ ps₄ l n e.
    let i = and_then-got (read_elements false at₄ ps₄) _ l n e in
    let es = elements-exact false at₄ ps₄ i.0 i.1 i.2 in
    let is : record { timestamp = timestamp; longitude = longitude; latitude = latitude; speed = speed; elements = i.0 } ≡ l = cc i.3 in
    subst (Fields (decimal timestamp ∷ degrees longitude ∷ degrees latitude ∷ decimal speed ∷ ps₄)) is (
      record { timestamp_fits = omega (arith, h₁); longitude_fits = h₂; latitude_fits = h₃; speed_fits = omega (arith, h₄); each = es.rules; order = es.ordered },
      ap (λ (ts : List (List ℕ)). decimal timestamp ∷ degrees longitude ∷ degrees latitude ∷ decimal speed ∷ ts) es.stand,
    ))))) l n e

-- ---- the line

-- what ends in a byte is the rest and that byte
pub last-split : (s : List ℕ) → get_or s (length s - 1) 0 ≡ 10 → s ≡ body s ++ (10 ∷ [])
last-split [] e = absurd (omega arith)
last-split (b ∷ s) e =
    let t = b ∷ s in
    let j = length t - 1 in
    let inside : j < length t = omega arith in
    sym (take_all (suc j) t (omega arith)) ∙ take-suc t j 0 inside ∙ ap (λ (x : ℕ). take j t ++ (x ∷ [])) e

module _ (l : Line) where
  line-size : length (separated (line_fields l)) ≡ length (line_bytes l) - 1
  unfolding line_bytes
  line-size = omega (arith, length-append (separated (line_fields l)) (10 ∷ []))

  pub line-body : body (line_bytes l) ≡ separated (line_fields l)
  unfolding line_bytes
  line-body = take_at (separated (line_fields l)) (10 ∷ []) (length (line_bytes l) - 1) line-size

  pub line-last : get_or (line_bytes l) (length (line_bytes l) - 1) 0 ≡ 10
  unfolding line_bytes
  line-last = get_or_at (separated (line_fields l)) 10 [] 0 (length (line_bytes l) - 1) line-size

texts-field : (es : List Printed) → All PrintedRules es → All (All InField) (texts es)
unfolding texts
texts-field [] h = tt
texts-field (e ∷ es) h = (printed-field e h.0, texts-field es h.1)

-- no field has a comma or an LF
pub fields-field : (l : Line) → LineRules l → All (All InField) (line_fields l)
unfolding line_fields
fields-field l h =
    (decimal-field l.timestamp, (degrees-field l.longitude, (degrees-field l.latitude, (decimal-field l.speed, texts-field l.elements h.each))))

pub line-pieces : (l : Line) → LineRules l → pieces (body (line_bytes l)) ≡ line_fields l
unfolding line_fields
line-pieces l h = ap pieces (line-body l) ∙ pieces-separated (line_fields l) (all-weaken field-comma (line_fields l) (fields-field l h)) (omega arith)

line-undo : (l : Line) → LineRules l → read_line (line_bytes l) ≡ Ok l
unfolding read_line judge_line
line-undo l h =
    let k = fields-undo l h in
    unplaced-passed _ (told-got _ (judge_line (line_bytes l))
    (pick_true (eqb (get_or (line_bytes l) (length (line_bytes l) - 1) 0) 10) _ _ (eq-eqb _ 10 (line-last l)) ∙ ap read_fields (line-pieces l h) ∙ k.1))

judged-exact : (s : List ℕ) (l : Line) (n : ℕ) → judge_line s ≡ got l n → LineRules l × (s ≡ line_bytes l)
unfolding judge_line line_bytes
judged-exact s l n e =
    by-test (eqb (get_or s (length s - 1) 0) 10)
    (λ t. let k = fields-exact (pieces (body s)) l n (simp t at e) in
    (k.0, last-split s (eqb-true _ 10 t) ∙ ap (λ (x : List ℕ). x ++ (10 ∷ [])) (sym (separated-pieces (body s)) ∙ ap separated k.1)))
    (λ t. absurd (let b : bad (wrong (length s)) ≡ got l n = simp t at e in let z : ◌≡◌ {A = ℕ} 0 1 = cc in omega arith))

pub line-inverse : Inverse read_line line_bytes LineRules
unfolding read_line
line-inverse = record { undo = line-undo; exact = λ s l e. let i = told-accepted _ (judge_line s) (unplaced-accepted _ e) in judged-exact s l i.0 i.1 }

pub line-exact : (s : List ℕ) (l : Line) → (read_line s ≡ Ok l → LineRules l × (s ≡ line_bytes l)) × (LineRules l × (s ≡ line_bytes l) → read_line s ≡ Ok l)
line-exact s l = (line-inverse.exact s l, λ h. ap read_line h.1 ∙ line-inverse.undo l h.0)

pub lines-injective : (l m : Line) → LineRules l → LineRules m → line_bytes l ≡ line_bytes m → l ≡ m
lines-injective l m h k e = cc (line-inverse.undo l h, line-inverse.undo m k)

pub read-pieces : (s : List ℕ) (l : Line) → read_line s ≡ Ok l → pieces (body s) ≡ line_fields l
read-pieces s l e = let k = line-inverse.exact s l e in ap (λ (x : List ℕ). pieces (body x)) k.1 ∙ line-pieces l k.0
