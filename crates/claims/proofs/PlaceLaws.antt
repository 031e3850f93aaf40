-- What holds of an input's refusal holds of every input that agrees with it up to the offending field's end: part by part.
use Rattle.std.specs.Prelude.{Err, Ok}
use Prim.Native.Nat.{ℕ, ◌+◌, ◌-◌, ◌≤◌, ◌<◌, min}
use native.Mathlib.Omega.{arith}
use mathlib.Core.Path.{◌≡◌, refl, sym, ap, ap₂, subst, ◌∙◌}
use mathlib.Core.Logic.{inl, inr, ⊎_elim}
use mathlib.Core.Bool.{Bool, true, false}
use mathlib.Core.List.{List, [], ◌∷◌}
use lib.ListN.{length, take, drop, length-take, length-drop}
use lib.Seq.{take_all, take-take, length-take-le}
use lib.Dec.{eqb, leb}
use borrow.Author.Tests.{leb-true, eqb-true, eqb-false}
use Rattle.wire.specs.declared.Refusal.{Refusal}
use Rattle.wire.specs.Limits.{is_known}
use Rattle.wire.specs.Numbers.{number_at, pick}
use Rattle.wire.specs.Reading.{Read, got, bad}
use Rattle.wire.specs.Envelope.{codec_of, first_count, last_count, inner}
use Rattle.wire.specs.Answers.{Answer, refusal, refusal_at, moved_by, from, check, check_at, on_accepted}
use Rattle.wire.proofs.Accepting.{by_length, check-passed, check-failed, on_accepted-passed, on_accepted-refused, from-passed, from-refused, told-got, told-bad}
use Rattle.wire.proofs.Locality.{Agree, agree_less, agree-byte, agree-number, agree-part}
use Rattle.checksum.specs.Crc.{crc}
use Rattle.frame.specs.Frame.{field_length, field_of, unframe}
use Rattle.avl.specs.Codecs.{widths_of, is_data_codec}
use Rattle.avl.specs.Records.{AvlRecord}
use Rattle.avl.specs.RecordReader.{all_records}
use Rattle.avl.specs.DataField.{read_data}
use Rattle.avl.specs.Offending.{offending}
use Rattle.avl.proofs.OffendingLaws.{all_local}
use Rattle.walk.proofs.WalkLaws.{narrow, records_of, data-unknown, data-none, data-uneven, data-bad, data-got}
use Rattle.command.specs.declared.Layout.{Layout}
use Rattle.command.specs.Layouts.{layouts, find_layout, layout_of}
use Rattle.command.specs.Commands.{Command, command_body, read_field}
use Rattle.command.specs.Offending.{offending_text}
use Rattle.command.proofs.OffendingLaws.{body-local}
use Rattle.command.proofs.FieldLaws.{codec-unknown, first-wrong, last-wrong, field-walk}
use Rattle.line.proofs.Cases.{by-test}
use Rattle.claims.specs.Places.{back, data_width, text_width, frame_width, framed_width, Points, SecondCount, CrcOrCount}

-- ---- parts of lists that agree

module _ {n : ℕ} {s t : List ℕ} (k : Agree n s t) where
  pub agree-take : (m : ℕ) → Agree n (take m s) (take m t)
  agree-take m =
      record {
        long = length-take m t ∙ ap (min m) k.long ∙ sym (length-take m s);
        front =
            by_length n m
            (λ h. take-take n m t h ∙ k.front ∙ sym (take-take n m s h))
            (λ h. let less : m ≤ n = omega arith in take_all n (take m t) (omega (arith, length-take m t)) ∙ (agree_less k less).front ∙ sym (take_all n (take m s) (omega (arith, length-take m s))));
      }

  pub agree-drop : (m : ℕ) → m ≤ n → Agree (n - m) (drop m s) (drop m t)
  agree-drop m h =
      record {
        long = length-drop m t ∙ ap (λ (x : ℕ). x - m) k.long ∙ sym (length-drop m s);
        front = agree-part k m (n - m) (omega arith);
      }

  -- all of it
  pub agree-all : length s ≤ n → t ≡ s
  agree-all h = sym (take_all n t (omega (arith, k.long))) ∙ k.front ∙ take_all n s h

pub agreed : {n : ℕ} {s t : List ℕ} → length t ≡ length s → take n t ≡ take n s → Agree n s t
agreed l f = record { long = l; front = f }

-- ---- a refusal whose number and place are known, and so its width

module _ {A : Type 0} (judge : List ℕ → Answer A) (Before : Refusal → Type 0) (p : List ℕ) (width : Refusal → ℕ) where
  pub pointed : {x r : Refusal} {w : ℕ} → judge p ≡ Err x → judge p ≡ Err r → width x ≡ w → Points judge Before p x w → Points judge Before p r (width r)
  pointed {x} {r} e f wide h =
      let same : x ≡ r = cc in
      subst (λ (y : Refusal). Points judge Before p y (width y)) same (subst (Points judge Before p x) (sym wide) h)

-- ---- a data field

pub same-codec : {n : ℕ} {s t : List ℕ} → Agree n s t → 1 ≤ n → codec_of t ≡ codec_of s
unfolding codec_of
same-codec k h = agree-byte k 0 h

-- the space between the counts
module _ {n : ℕ} {s t : List ℕ} (k : Agree n s t) (h : 2 ≤ n) where
  pub agree-inner : Agree (n - 2) (inner s) (inner t)
  unfolding inner
  agree-inner =
      subst (λ (m : ℕ). Agree (n - 2) (inner s) (take (m - 3) (drop 2 t))) (sym k.long) (agree-take (agree-drop k 2 h) (length s - 3))

  pub same_first : first_count t ≡ first_count s
  unfolding first_count
  same_first = agree-byte k 1 (omega arith)

inner-long : (d : List ℕ) → 3 ≤ length d → length (inner d) ≡ length d - 3
unfolding inner
inner-long d h = length-take-le (length d - 3) (drop 2 d) (omega (arith, length-drop 2 d))

-- counted from the part and back
pub moved_back : (base : ℕ) (x : Refusal) → back base (moved_by base x) ≡ x
moved_back base x =
    let same : base + x.place - base ≡ x.place = omega arith in
    ap (λ (n : ℕ). record { number = x.number; index = x.index; place = n }) same

-- the codec and the counts are one byte
codec-width : (d : List ℕ) (place : ℕ) → data_width d (refusal_at 6 place) ≡ 1
unfolding data_width offending
codec-width d place = refl

count-width : (d : List ℕ) (place : ℕ) → data_width d (refusal_at 7 place) ≡ 1
unfolding data_width offending
count-width d place = refl

pub data-points : (longest : ℕ) (d : List ℕ) (r : Refusal) → 3 ≤ length d → read_data longest d ≡ Err r → Points (read_data longest) SecondCount d r (data_width d r)
unfolding data_width
data-points longest d r long e =
    by-test (is_data_codec (codec_of d))
    (λ known. by_length 1 (first_count d)
    (λ some. by-test (eqb (first_count d) (last_count d)) (λ even. walk known some (eqb-true _ _ even) (records_of longest d) refl)
    (λ uneven. let ne = eqb-false _ _ uneven in to (data-uneven longest d known some ne) (count-width d (length d - 1)) (last known some ne)))
    (λ none. to (data-none longest d known none) (count-width d 1) (first known none)))
    (λ unknown. to (data-unknown longest d unknown) (codec-width d 0) (codec unknown))
  where
    to : {x : Refusal} {w : ℕ} → read_data longest d ≡ Err x → data_width d x ≡ w → Points (read_data longest) SecondCount d x w → Points (read_data longest) SecondCount d r (data_width d r)
    to f wide h = pointed (read_data longest) SecondCount d (data_width d) f e wide h

    codec : is_data_codec (codec_of d) ≡ false → Points (read_data longest) SecondCount d (refusal_at 6 0) 1
    codec unknown =
        record {
          byte = λ h. omega (arith, long);
          inside = omega (arith, long);
          alike = λ q l f. let k : Agree 1 d q = agreed l f in inl (data-unknown longest q (ap is_data_codec (same-codec k (omega arith)) ∙ unknown));
        }

    first : is_data_codec (codec_of d) ≡ true → first_count d < 1 → Points (read_data longest) SecondCount d (refusal_at 7 1) 1
    first known none =
        record {
          byte = λ h. omega (arith, long);
          inside = omega (arith, long);
          alike = λ q l f. let k : Agree 2 d q = agreed l f in
              inl (data-none longest q (ap is_data_codec (same-codec k (omega arith)) ∙ known) (omega (arith, same_first k (omega arith), none)));
        }

    last : is_data_codec (codec_of d) ≡ true → 1 ≤ first_count d → (first_count d ≡ last_count d → ⊥) → Points (read_data longest) SecondCount d (refusal_at 7 (length d - 1)) 1
    last known some ne =
        record {
          byte = λ h. omega (arith, long);
          inside = omega (arith, long);
          alike = λ q l f. let k : Agree (length d - 1 + 1) d q = agreed l f in
              inl (ap (read_data longest) (agree-all k (omega (arith, long))) ∙ data-uneven longest d known some ne);
        }

    walk : is_data_codec (codec_of d) ≡ true → 1 ≤ first_count d → first_count d ≡ last_count d → (x : Read (List AvlRecord)) → records_of longest d ≡ x
        → Points (read_data longest) SecondCount d r (data_width d r)
    walk known some even (got rs n) b = absurd (let good = data-got longest d known some even b in let z : ◌≡◌ {A = ℕ} 0 1 = cc (sym good ∙ e) in omega (arith, z))
    walk known some even (bad x) b =
        let w = widths_of (codec_of d) in
        let k = (all_local w (inner d) (narrow (codec_of d)).generation longest (first_count d) 0 (omega arith)).stops x b in
        let wide : offending w (inner d) (back 2 (moved_by 2 x)) ≡ offending w (inner d) x = ap (offending w (inner d)) (moved_back 2 x) in
        to (data-bad longest d known some even b) refl
        (record {
          byte = λ h. omega (arith, k.inside, inner-long d long, long);
          inside = omega (arith, wide, k.inside, inner-long d long, long);
          alike = λ q l f.
              let g : Agree (2 + x.place + offending w (inner d) (back 2 (moved_by 2 x))) d q = agreed l f in
              let more : 2 ≤ 2 + x.place + offending w (inner d) (back 2 (moved_by 2 x)) = omega arith in
              let known-q = ap is_data_codec (same-codec g (omega arith)) ∙ known in
              let some-q : 1 ≤ first_count q = omega (arith, same_first g more, some) in
              let inside = agree_less (agree-inner g more) (omega (arith, wide)) in
              let again : records_of longest q ≡ bad x =
              ap₂ (λ (c n : ℕ). all_records longest (widths_of c) n (inner q) 0) (same-codec g (omega arith)) (same_first g more) ∙ k.alike (inner q) inside in
              by-test (eqb (first_count q) (last_count q))
              (λ even-q. inl (data-bad longest q known-q some-q (eqb-true _ _ even-q) again))
              (λ uneven-q. inr (_, data-uneven longest q known-q some-q (eqb-false _ _ uneven-q), refl));
        })

-- ---- a command's field

no_row : (codec : ℕ) (ls : List Layout) {y : Refusal} → find_layout codec ls ≡ Err y → y ≡ refusal 6
unfolding find_layout
no_row codec [] {y} e = let same : refusal 6 ≡ y = cc in sym same
no_row codec (l ∷ ls) {y} e = go (eqb codec l.codec) e (λ f. no_row codec ls f)
  where
    go : (b : Bool) → pick b (Ok l) (find_layout codec ls) ≡ Err y → (find_layout codec ls ≡ Err y → y ≡ refusal 6) → y ≡ refusal 6
    go true f k = absurd (let z : ◌≡◌ {A = ℕ} 0 1 = cc in omega arith)
    go false f k = k f

text-6 : (d : List ℕ) {y : Refusal} → layout_of (codec_of d) ≡ Err y → read_field d ≡ Err (refusal_at 6 0)
unfolding layout_of
text-6 d e = codec-unknown d (e ∙ ap Err (no_row (codec_of d) layouts e))

abbrev body : List ℕ → Layout → Read Command
body d l = command_body l (length (inner d)) (inner d) 0

quantity-width : (d : List ℕ) (place : ℕ) → text_width d (refusal_at 7 place) ≡ 1
unfolding text_width offending_text
quantity-width d place = refl

layout-width : (d : List ℕ) (place : ℕ) → text_width d (refusal_at 6 place) ≡ 1
unfolding text_width offending_text
layout-width d place = refl

pub text-points : (d : List ℕ) (r : Refusal) → 3 ≤ length d → read_field d ≡ Err r → Points read_field SecondCount d r (text_width d r)
unfolding text_width
text-points d r long e = row (layout_of (codec_of d)) refl
  where
    to : {x : Refusal} {w : ℕ} → read_field d ≡ Err x → text_width d x ≡ w → Points read_field SecondCount d x w → Points read_field SecondCount d r (text_width d r)
    to f wide h = pointed read_field SecondCount d (text_width d) f e wide h

    walk : (l : Layout) → layout_of (codec_of d) ≡ Ok l → first_count d ≡ 1 → last_count d ≡ 1 → (x : Read Command) → body d l ≡ x
        → Points read_field SecondCount d r (text_width d r)
    walk l known one last (got c n) b = absurd (let good = field-walk d known one last ∙ told-got 2 _ b in let z : ◌≡◌ {A = ℕ} 0 1 = cc (sym good ∙ e) in omega (arith, z))
    walk l known one last (bad x) b =
        let k = (body-local (inner d) l (length (inner d))).stops x b in
        let wide : offending_text (inner d) (back 2 (moved_by 2 x)) ≡ offending_text (inner d) x = ap (offending_text (inner d)) (moved_back 2 x) in
        to (field-walk d known one last ∙ told-bad 2 _ b) refl
        (record {
          byte = λ h. omega (arith, k.inside, inner-long d long, long);
          inside = omega (arith, wide, k.inside, inner-long d long, long);
          alike = λ q l' f.
              let g : Agree (2 + x.place + offending_text (inner d) (back 2 (moved_by 2 x))) d q = agreed l' f in
              let more : 2 ≤ 2 + x.place + offending_text (inner d) (back 2 (moved_by 2 x)) = omega arith in
              let known-q = ap layout_of (same-codec g (omega arith)) ∙ known in
              let one-q = same_first g more ∙ one in
              let inside = agree-inner g more in
              let again : body q l ≡ bad x =
              ap (λ (n : ℕ). command_body l n (inner q) 0) inside.long ∙ k.alike (inner q) (agree_less inside (omega (arith, wide))) in
              by-test (eqb (last_count q) 1)
              (λ last-q. inl (field-walk q known-q one-q (eqb-true _ _ last-q) ∙ told-bad 2 _ again))
              (λ other. inr (_, last-wrong q known-q one-q (eqb-false _ _ other), refl));
        })

    row : (x : Answer Layout) → layout_of (codec_of d) ≡ x → Points read_field SecondCount d r (text_width d r)
    row (Err y) none =
        to (text-6 d none) (layout-width d 0)
        (record {
          byte = λ h. omega (arith, long);
          inside = omega (arith, long);
          alike = λ q l f. let k : Agree 1 d q = agreed l f in inl (text-6 q (ap layout_of (same-codec k (omega arith)) ∙ none));
        })
    row (Ok l) known =
        by-test (eqb (first_count d) 1)
        (λ one. by-test (eqb (last_count d) 1) (λ last. walk l known (eqb-true _ _ one) (eqb-true _ _ last) (body d l) refl)
        (λ other. let wrong = last-wrong d known (eqb-true _ _ one) (eqb-false _ _ other) in to wrong (quantity-width d (length d - 1))
        (record {
          byte = λ h. omega (arith, long);
          inside = omega (arith, long);
          alike = λ q l' f. let k : Agree (length d - 1 + 1) d q = agreed l' f in inl (ap read_field (agree-all k (omega (arith, long))) ∙ wrong);
        })))
        (λ other. to (first-wrong d known (eqb-false _ _ other)) (quantity-width d 1)
        (record {
          byte = λ h. omega (arith, long);
          inside = omega (arith, long);
          alike = λ q l' f. let k : Agree 2 d q = agreed l' f in
              inl (first-wrong q (ap layout_of (same-codec k (omega arith)) ∙ known) (λ f₁. eqb-false _ _ other (sym (same_first k (omega arith)) ∙ f₁)));
        }))

-- ---- the frame, test by test

module _ (largest : ℕ) (p : List ℕ) where
  frame-21 : is_known largest ≡ false → unframe largest p ≡ Err (refusal_at 21 0)
  unfolding unframe
  frame-21 e = check-failed _ 21 _ _ e

  module _ (known : is_known largest ≡ true) where
    frame-1 : leb 8 (length p) ≡ false → unframe largest p ≡ Err (refusal_at 1 0)
    unfolding unframe
    frame-1 e = check-passed _ 21 _ _ known ∙ check-failed _ 1 _ _ e

    module _ (long : leb 8 (length p) ≡ true) where
      frame-2 : eqb (number_at p 0 4) 0 ≡ false → unframe largest p ≡ Err (refusal_at 2 0)
      unfolding unframe
      frame-2 e = check-passed _ 21 _ _ known ∙ check-passed _ 1 _ _ long ∙ check-failed _ 2 _ _ e

      module _ (zeros : eqb (number_at p 0 4) 0 ≡ true) where
        frame-3 : leb 3 (field_length p) ≡ false → unframe largest p ≡ Err (refusal_at 3 4)
        unfolding unframe
        frame-3 e = check-passed _ 21 _ _ known ∙ check-passed _ 1 _ _ long ∙ check-passed _ 2 _ _ zeros ∙ check-failed _ 3 _ _ e

        module _ (least : leb 3 (field_length p) ≡ true) where
          frame-3-over : leb (field_length p + 12) largest ≡ false → unframe largest p ≡ Err (refusal_at 3 4)
          unfolding unframe
          frame-3-over e = check-passed _ 21 _ _ known ∙ check-passed _ 1 _ _ long ∙ check-passed _ 2 _ _ zeros ∙ check-passed _ 3 _ _ least ∙ check-failed _ 3 _ _ e

          module _ (most : leb (field_length p + 12) largest ≡ true) where
            headed-on : unframe largest p
                ≡ check (eqb (length p) (field_length p + 12)) 4 (check_at (eqb (number_at p (8 + field_length p) 4) (crc (field_of p))) 5 (8 + field_length p) (Ok (field_of p)))
            unfolding unframe
            headed-on = check-passed _ 21 _ _ known ∙ check-passed _ 1 _ _ long ∙ check-passed _ 2 _ _ zeros ∙ check-passed _ 3 _ _ least ∙ check-passed _ 3 _ _ most

            frame-4 : eqb (length p) (field_length p + 12) ≡ false → unframe largest p ≡ Err (refusal_at 4 0)
            frame-4 e = headed-on ∙ check-failed _ 4 _ _ e

            module _ (whole : eqb (length p) (field_length p + 12) ≡ true) where
              frame-5 : eqb (number_at p (8 + field_length p) 4) (crc (field_of p)) ≡ false → unframe largest p ≡ Err (refusal_at 5 (8 + field_length p))
              frame-5 e = headed-on ∙ check-passed _ 4 _ _ whole ∙ check-failed _ 5 _ _ e

              frame-given : eqb (number_at p (8 + field_length p) 4) (crc (field_of p)) ≡ true → unframe largest p ≡ Ok (field_of p)
              frame-given e = headed-on ∙ check-passed _ 4 _ _ whole ∙ check-passed _ 5 _ _ e

-- ---- a TCP packet: whatever is in it, if its field's refusals point

module _ {A : Type 0} (f : List ℕ → Answer A) (width : List ℕ → Refusal → ℕ)
    (points : (d : List ℕ) (r : Refusal) → 3 ≤ length d → f d ≡ Err r → Points f SecondCount d r (width d r)) (largest : ℕ) where
  abbrev pub judged : List ℕ → Answer A
  judged p = on_accepted (unframe largest p) (λ d. from 8 (f d))

  module _ (p : List ℕ) (r : Refusal) (e : judged p ≡ Err r) where
    abbrev Goal : Type 0
    Goal = Points judged CrcOrCount p r (framed_width width (unframe largest p) r)

    -- the frame is refused with this number at this place
    by-frame : {x : Refusal} {w : ℕ} → unframe largest p ≡ Err x → frame_width x.number ≡ w → Points judged CrcOrCount p x w → Goal
    unfolding framed_width
    by-frame {x} u wide h = pointed judged CrcOrCount p (framed_width width (unframe largest p)) (on_accepted-refused _ _ u) e (ap (λ y. framed_width width y x) u ∙ wide) h

    refused-too : (q : List ℕ) {x : Refusal} → unframe largest q ≡ Err x → judged q ≡ Err x
    refused-too q u = on_accepted-refused (unframe largest q) _ u

    -- the data field is refused
    by_field : {d : List ℕ} → unframe largest p ≡ Ok d → 3 ≤ length d → (x : Refusal) → f d ≡ Err x → Points judged CrcOrCount p (moved_by 8 x) (width d x) → Goal
    unfolding framed_width
    by_field {d} u long x g h =
        pointed judged CrcOrCount p (framed_width width (unframe largest p)) (on_accepted-passed _ _ u ∙ from-refused 8 _ g) e
        (ap (λ y. framed_width width y (moved_by 8 x)) u ∙ ap (width d) (moved_back 8 x)) h

    module _ (known : is_known largest ≡ true) (long : leb 8 (length p) ≡ true) where
      same_length : (q : List ℕ) → length q ≡ length p → leb 8 (length q) ≡ true
      same_length q l = ap (leb 8) l ∙ long

      same-zeros : {n : ℕ} {b : Bool} (q : List ℕ) → Agree n p q → 4 ≤ n → eqb (number_at p 0 4) 0 ≡ b → eqb (number_at q 0 4) 0 ≡ b
      same-zeros q k h t = ap (λ (m : ℕ). eqb m 0) (agree-number k 0 4 h) ∙ t

      same_size : {n : ℕ} (q : List ℕ) → Agree n p q → 8 ≤ n → field_length q ≡ field_length p
      unfolding field_length
      same_size q k h = agree-number k 4 4 h

      module _ (zeros : eqb (number_at p 0 4) 0 ≡ true) where
        short-field : leb 3 (field_length p) ≡ false → Goal
        unfolding frame_width
        short-field t =
            by-frame (frame-3 largest p known long zeros t) refl
            (record {
              byte = λ h. omega (arith, leb-true 8 (length p) long);
              inside = leb-true 8 (length p) long;
              alike = λ q l g. let k : Agree 8 p q = agreed l g in
                  inl (refused-too q (frame-3 largest q known (same_length q l) (same-zeros q k (omega arith) zeros) (ap (leb 3) (same_size q k (omega arith)) ∙ t)));
            })

        module _ (least : leb 3 (field_length p) ≡ true) where
          long-field : leb (field_length p + 12) largest ≡ false → Goal
          unfolding frame_width
          long-field t =
              by-frame (frame-3-over largest p known long zeros least t) refl
              (record {
                byte = λ h. omega (arith, leb-true 8 (length p) long);
                inside = leb-true 8 (length p) long;
                alike = λ q l g. let k : Agree 8 p q = agreed l g in
                    let size = same_size q k (omega arith) in
                    inl (refused-too q (frame-3-over largest q known (same_length q l) (same-zeros q k (omega arith) zeros) (ap (leb 3) size ∙ least) (ap (λ (n : ℕ). leb (n + 12) largest) size ∙ t)));
              })

          module _ (most : leb (field_length p + 12) largest ≡ true) where
            other_length : eqb (length p) (field_length p + 12) ≡ false → Goal
            unfolding frame_width
            other_length t =
                by-frame (frame-4 largest p known long zeros least most t) refl
                (record {
                  byte = λ h. omega (arith, leb-true 8 (length p) long);
                  inside = leb-true 8 (length p) long;
                  alike = λ q l g. let k : Agree 8 p q = agreed l g in
                      let size = same_size q k (omega arith) in
                      inl (refused-too q (frame-4 largest q known (same_length q l) (same-zeros q k (omega arith) zeros) (ap (leb 3) size ∙ least)
                      (ap (λ (n : ℕ). leb (n + 12) largest) size ∙ most) (ap₂ (λ (m n : ℕ). eqb m (n + 12)) l size ∙ t)));
                })

            module _ (whole : eqb (length p) (field_length p + 12) ≡ true) where
              longer : length p ≡ field_length p + 12
              longer = eqb-true _ _ whole

              other-crc : eqb (number_at p (8 + field_length p) 4) (crc (field_of p)) ≡ false → Goal
              unfolding frame_width
              other-crc t =
                  let u = frame-5 largest p known long zeros least most whole t in
                  by-frame u refl
                  (record {
                    byte = λ h. omega (arith, longer);
                    inside = omega (arith, longer);
                    alike = λ q l g. let k : Agree (8 + field_length p + 4) p q = agreed l g in
                        inl (ap judged (agree-all k (omega (arith, longer))) ∙ refused-too p u);
                  })

              field-size : length (field_of p) ≡ field_length p
              unfolding field_of
              field-size = length-take-le (field_length p) (drop 8 p) (omega (arith, length-drop 8 p, longer))

              -- the field of a packet that agrees so far
              agree-field : {n : ℕ} (q : List ℕ) → Agree n p q → 8 ≤ n → Agree (n - 8) (field_of p) (field_of q)
              unfolding field_of
              agree-field {n} q k h =
                  subst (λ (m : ℕ). Agree (n - 8) (take (field_length p) (drop 8 p)) (take m (drop 8 q))) (sym (same_size q k h)) (agree-take (agree-drop k 8 h) (field_length p))

              in_field : eqb (number_at p (8 + field_length p) 4) (crc (field_of p)) ≡ true → (x : Answer A) → f (field_of p) ≡ x → Goal
              in_field t (Ok a) g =
                  let is : judged p ≡ Ok a = on_accepted-passed _ _ (frame-given largest p known long zeros least most whole t) ∙ from-passed 8 _ g in
                  absurd (let z : ◌≡◌ {A = ℕ} 0 1 = cc in omega (arith, z))
              in_field t (Err x) g =
                  let d = field_of p in
                  let small : 3 ≤ length d = omega (arith, field-size, leb-true 3 (field_length p) least) in
                  let h = points d x small g in
                  by_field (frame-given largest p known long zeros least most whole t) small x g
                  (record {
                    byte = λ i. omega (arith, h.byte (omega (arith, small)), field-size, longer);
                    inside = omega (arith, h.inside, field-size, longer);
                    alike = λ q l i.
                        let k : Agree (8 + x.place + width d x) p q = agreed l i in
                        let size = same_size q k (omega arith) in
                        let zeros-q = same-zeros q k (omega arith) zeros in
                        let least-q = ap (leb 3) size ∙ least in
                        let most-q = ap (λ (n : ℕ). leb (n + 12) largest) size ∙ most in
                        let whole-q = ap₂ (λ (m n : ℕ). eqb m (n + 12)) l size ∙ whole in
                        let far : x.place + width d x ≤ 8 + x.place + width d x - 8 = omega arith in
                        let inside = agree_less (agree-field q k (omega arith)) far in
                        by-test (eqb (number_at q (8 + field_length q) 4) (crc (field_of q)))
                        (λ sum. let u = frame-given largest q known (same_length q l) zeros-q least-q most-q whole-q sum in
                        ⊎_elim
                        (λ same. inl (on_accepted-passed _ _ u ∙ from-refused 8 _ same))
                        (λ other. inr (moved_by 8 other.0, on_accepted-passed _ _ u ∙ from-refused 8 _ other.1, inr other.2))
                        (h.alike (field_of q) inside.long inside.front))
                        (λ other. inr (_, refused-too q (frame-5 largest q known (same_length q l) zeros-q least-q most-q whole-q other), inl refl));
                  })

    unknown : is_known largest ≡ false → Goal
    unfolding frame_width
    unknown t = by-frame (frame-21 largest p t) refl (record { byte = λ h. omega (arith, h); inside = omega arith; alike = λ q l g. inl (refused-too q (frame-21 largest q t)) })

    short : is_known largest ≡ true → leb 8 (length p) ≡ false → Goal
    unfolding frame_width
    short known t =
        by-frame (frame-1 largest p known t) refl (record { byte = λ h. omega (arith, h); inside = omega arith; alike = λ q l g. inl (refused-too q (frame-1 largest q known (ap (leb 8) l ∙ t))) })

    not_zeros : is_known largest ≡ true → leb 8 (length p) ≡ true → eqb (number_at p 0 4) 0 ≡ false → Goal
    unfolding frame_width
    not_zeros known long t =
        by-frame (frame-2 largest p known long t) refl
        (record {
          byte = λ h. omega (arith, h);
          inside = omega (arith, leb-true 8 (length p) long);
          alike = λ q l g. let k : Agree 4 p q = agreed l g in
              inl (refused-too q (frame-2 largest q known (ap (leb 8) l ∙ long) (same-zeros known long q k (omega arith) t)));
        })

    pub framed-points : Goal
    framed-points =
        by-test (is_known largest)
        (λ known. by-test (leb 8 (length p))
        (λ long. by-test (eqb (number_at p 0 4) 0)
        (λ zeros. by-test (leb 3 (field_length p))
        (λ least. by-test (leb (field_length p + 12) largest)
        (λ most. by-test (eqb (length p) (field_length p + 12))
        (λ whole. by-test (eqb (number_at p (8 + field_length p) 4) (crc (field_of p)))
        (λ sum. in_field known long zeros least most whole sum (f (field_of p)) refl)
        (other-crc known long zeros least most whole))
        (other_length known long zeros least most))
        (long-field known long zeros least))
        (short-field known long zeros))
        (not_zeros known long))
        (short known))
        unknown
