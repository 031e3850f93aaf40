-- Every refusal points at its field: of packets, commands, datagrams and logins.
use Rattle.std.specs.Prelude.{Err, Ok}
use Prim.Native.Nat.{ℕ, zero, suc, ◌+◌, ◌-◌, ◌%◌, ◌≤◌, ◌<◌}
use native.Mathlib.Omega.{arith}
use mathlib.Core.Path.{◌≡◌, refl, sym, ap, subst, ◌∙◌}
use mathlib.Core.Logic.{inl, inr, ⊎_elim}
use mathlib.Core.Bool.{true, false}
use mathlib.Core.List.{List}
use lib.ListN.{length, drop, length-drop, get_or}
use lib.Dec.{eqb, leb}
use borrow.Author.Tests.{leb-true, eq-eqb, ne_eqb, eqb-true, eqb-false}
use Rattle.wire.specs.declared.Limits.{Limits}
use Rattle.wire.specs.declared.Refusal.{Refusal}
use Rattle.wire.specs.Numbers.{Bytes, number_at}
use Rattle.wire.specs.Reading.{Read, got, bad, Reader, ◌>>=◌, pure, repeat}
use Rattle.wire.specs.Answers.{Answer, refusal_at, moved_by, told}
use Rattle.wire.specs.Imei.{text_digit, read_imei}
use Rattle.wire.proofs.Accepting.{by_length, check-passed, check-failed, on_accepted-passed, on_accepted-refused, from-passed, from-refused, told-got, told-whole, pick_true, pick-false}
use Rattle.wire.proofs.Exactness.{then-got, here-got, require-got}
use Rattle.wire.proofs.Walking.{short, number-there, then-bad, require-bad}
use Rattle.wire.proofs.Widths.{bytes-get_d}
use Rattle.wire.proofs.TextNumber.{digit-byte, other_byte}
use Rattle.wire.proofs.Locality.{Agree, agree_less, agree-number, Local}
use Rattle.wire.proofs.ImeiLocality.{imei-local}
use Rattle.wire.proofs.ImeiText.{imei-exact, length-imei_text}
use Rattle.avl.specs.DataField.{AvlData, read_data}
use Rattle.packet.specs.DataPackets.{read_packet}
use Rattle.command.specs.Commands.{read_field, read_command}
use Rattle.datagram.specs.declared.Header.{Header}
use Rattle.datagram.specs.Datagrams.{judge_header, read_datagram}
use Rattle.datagram.proofs.WalkLaws.{header-unknown, header-short, header-large, header-length, header-imei, header_is}
use Rattle.login.specs.Login.{read_login}
use Rattle.line.proofs.Cases.{by-test}
use Rattle.claims.specs.Places.{data_width, text_width, imei_width, header_width, datagram_width, Points, SecondCount, PlacesKept}
use Rattle.claims.proofs.PlaceLaws.{agreed, agree-drop, moved_back, pointed, data-points, text-points, framed-points}

-- ---- an IMEI that starts at `at`

abbrev width_at : ℕ → List ℕ → Refusal → ℕ
width_at at s x = imei_width at x

missing : (at n : ℕ) → imei_width at (short n) ≡ 0
unfolding imei_width
missing at n = refl

digit : (at n : ℕ) → at + 2 ≤ n → imei_width at (refusal_at 15 n) ≡ 1
unfolding imei_width
digit at n h = let other : n ≡ at → ⊥ = λ e. omega (arith, h, e) in pick-false (eqb n at) 2 1 (ne_eqb n at other)

imei-length : (at : ℕ) → imei_width at (refusal_at 15 at) ≡ 2
unfolding imei_width
imei-length at = pick_true (eqb at at) 2 1 (eq-eqb at at refl)

text-local : (at : ℕ) (s : List ℕ) → at ≤ length s → Local (width_at at) read_imei s at
text-local at s h = imei-local s (missing at) (at + 2) (digit at) at h refl (imei-length at)

-- where its 17 bytes are there, it is wrong at one of them

module _ {A : Type 0} {r : Read A} {x : Refusal} {end : ℕ} (e : r ≡ bad x) where
  same_place : {y : Refusal} → r ≡ bad y → y.place < end → x.place < end
  same_place {y} f h = let same : y ≡ x = cc (sym f ∙ e) in subst (λ (z : Refusal). z.place < end) same h

  -- what comes first is read, or is to blame
  then-place : {B : Type 0} (m : Reader B) (f : B → A) (s : List ℕ) (at : ℕ) → r ≡ (m >>= λ a. pure (f a)) s at → ((y : Refusal) → m s at ≡ bad y → y.place < end) → x.place < end
  unfolding pure
  then-place {B} m f s at is k = go (m s at) refl
    where
      go : (q : Read B) → m s at ≡ q → x.place < end
      go (got a n) g = absurd (let good = is ∙ then-got m _ s at g in let z : ◌≡◌ {A = ℕ} 0 1 = cc (sym good ∙ e) in omega (arith, z))
      go (bad y) g = same_place (is ∙ then-bad m _ s at g) (k y g)

digits-early : (s : List ℕ) → Bytes s → (n at end : ℕ) → at + n ≤ end → end ≤ length s → (x : Refusal) → repeat n text_digit s at ≡ bad x → x.place < end
unfolding repeat pure
digits-early s b zero at end h k x e = absurd (let z : ◌≡◌ {A = ℕ} 0 1 = cc e in omega (arith, z))
digits-early s b (suc n) at end h k x e =
    by_length ((get_or s at 0 + 208) % 256) 9
    (λ right. then-place e (repeat n text_digit) _ s (at + 1) (then-got text_digit _ s at (digit-byte s at (omega (arith, h, k)) (bytes-get_d s at b) right))
    (digits-early s b n (at + 1) end (omega (arith, h)) k))
    (λ wrong. same_place e (then-bad text_digit _ s at (other_byte s at (omega (arith, h, k)) (bytes-get_d s at b) wrong)) (omega (arith, h)))

imei-early : (s : List ℕ) (at : ℕ) → Bytes s → at + 17 ≤ length s → (x : Refusal) → read_imei s at ≡ bad x → x.place < at + 17
unfolding read_imei
imei-early s at b h x e =
    let start = here-got _ s at ∙ number-there _ s at 2 (omega (arith, h)) in
    by-test (eqb (number_at s at 2) 15)
    (λ right. then-place e (repeat 15 text_digit) _ s (at + 2) (start ∙ require-got (eqb (number_at s at 2) 15) 15 at _ s (at + 2) right)
    (digits-early s b 15 (at + 2) (at + 17) (omega arith) h))
    (λ wrong. same_place e (start ∙ require-bad (eqb (number_at s at 2) 15) 15 at _ s (at + 2) wrong) (omega arith))

-- ---- a login

module _ (p : List ℕ) where
  login-1 : leb 17 (length p) ≡ false → read_login p ≡ Err (refusal_at 1 0)
  unfolding read_login
  login-1 e = check-failed _ 1 _ _ e

  module _ (long : leb 17 (length p) ≡ true) where
    login-4 : leb (length p) 17 ≡ false → read_login p ≡ Err (refusal_at 4 0)
    unfolding read_login
    login-4 e = check-passed _ 1 _ _ long ∙ check-failed _ 4 _ _ e

    login-told : leb (length p) 17 ≡ true → read_login p ≡ told 0 (read_imei p 0)
    unfolding read_login
    login-told e = check-passed _ 1 _ _ long ∙ check-passed _ 4 _ _ e

login-points : (p : List ℕ) (r : Refusal) → Bytes p → read_login p ≡ Err r → Points read_login (λ x. ⊥) p r (imei_width 0 r)
unfolding imei_width
login-points p r b e =
    by-test (leb 17 (length p))
    (λ long. by-test (leb (length p) 17)
    (λ most. read long most (read_imei p 0) refl)
    (λ over. to (login-4 p long over) refl
    (record { byte = λ h. omega (arith, h); inside = omega arith; alike = λ q l f. inl (login-4 q (ap (leb 17) l ∙ long) (ap (λ (n : ℕ). leb n 17) l ∙ over)) })))
    (λ few. to (login-1 p few) refl (record { byte = λ h. omega (arith, h); inside = omega arith; alike = λ q l f. inl (login-1 q (ap (leb 17) l ∙ few)) }))
  where
    to : {x : Refusal} {w : ℕ} → read_login p ≡ Err x → imei_width 0 x ≡ w → Points read_login (λ y. ⊥) p x w → Points read_login (λ y. ⊥) p r (imei_width 0 r)
    to f wide h = pointed read_login (λ y. ⊥) p (imei_width 0) f e wide h

    read : leb 17 (length p) ≡ true → leb (length p) 17 ≡ true → (x : Read ℕ) → read_imei p 0 ≡ x → Points read_login (λ y. ⊥) p r (imei_width 0 r)
    read long most (got n next) g = absurd (let good = login-told p long most ∙ told-got 0 _ g in let z : ◌≡◌ {A = ℕ} 0 1 = cc in omega (arith, z))
    read long most (bad x) g =
        let k = (text-local 0 p (omega arith)).stops x g in
        to (login-told p long most ∙ told-whole _ g) refl
        (record {
          byte = λ h. omega (arith, imei-early p 0 b (omega (arith, leb-true 17 (length p) long)) x g, leb-true 17 (length p) long);
          inside = k.inside;
          alike = λ q l f. inl (login-told q (ap (leb 17) l ∙ long) (ap (λ (n : ℕ). leb n 17) l ∙ most) ∙ told-whole _ (k.alike q (agreed l f)));
        })

-- ---- a datagram's header

abbrev in_header : List ℕ → Refusal → ℕ
in_header s x = header_width x

header-missing : (n : ℕ) → header_width (short n) ≡ 0
unfolding header_width imei_width
header-missing n = refl

header-digit : (n : ℕ) → 8 ≤ n → header_width (refusal_at 15 n) ≡ 1
unfolding header_width
header-digit n h = digit 6 n h

header-local : (p : List ℕ) → 26 ≤ length p → Local in_header read_imei p 6
unfolding header_width
header-local p h = imei-local p header-missing 8 header-digit 6 (omega (arith, h)) refl (imei-length 6)

-- ---- a datagram

-- where its header is accepted, it is about the data field
by-accepted : {answer : Answer Header} {h : Header} (p : List ℕ) → answer ≡ Ok h → (x : Refusal) → datagram_width p answer (moved_by 23 x) ≡ data_width (drop 23 p) x
unfolding datagram_width
by-accepted p u x = ap (λ y. datagram_width p y (moved_by 23 x)) u ∙ ap (data_width (drop 23 p)) (moved_back 23 x)

module _ (limits : Limits) (p : List ℕ) (r : Refusal) (b : Bytes p) (e : read_datagram limits p ≡ Err r) where
  abbrev largest : ℕ
  largest = limits.datagram

  abbrev Goal : Type 0
  Goal = Points (read_datagram limits) SecondCount p r (datagram_width p (judge_header largest p) r)

  refused-too : (q : List ℕ) {x : Refusal} → judge_header largest q ≡ Err x → read_datagram limits q ≡ Err x
  unfolding read_datagram
  refused-too q u = on_accepted-refused (judge_header largest q) _ u

  -- its header is refused
  by-header : {x : Refusal} {w : ℕ} → judge_header largest p ≡ Err x → header_width x ≡ w → Points (read_datagram limits) SecondCount p x w → Goal
  unfolding datagram_width
  by-header {x} u wide h =
      pointed (read_datagram limits) SecondCount p (datagram_width p (judge_header largest p)) (refused-too p u) e (ap (λ y. datagram_width p y x) u ∙ wide) h

  -- its data field is refused
  in-data : (q : List ℕ) {h : Header} {x : Refusal} → judge_header largest q ≡ Ok h → read_data limits.longest (drop 23 q) ≡ Err x → read_datagram limits q ≡ Err (moved_by 23 x)
  unfolding read_datagram
  in-data q u g = on_accepted-passed _ _ u ∙ on_accepted-refused _ _ (from-refused 23 _ g)

  module _ (known : 1 ≤ largest) (long : 26 ≤ length p) (most : length p ≤ largest) where
    module _ (q : List ℕ) (l : length q ≡ length p) where
      long-q : 26 ≤ length q
      long-q = omega (arith, l, long)

      most-q : length q ≤ largest
      most-q = omega (arith, l, most)

      same_size : {n : ℕ} → Agree n p q → 2 ≤ n → number_at q 0 2 + 2 ≡ number_at p 0 2 + 2
      same_size k h = ap (λ (n : ℕ). n + 2) (agree-number k 0 2 h)

    other_length : (length p ≡ number_at p 0 2 + 2 → ⊥) → Goal
    unfolding header_width
    other_length ne =
        by-header (header-length largest p known long most ne) refl
        (record {
          byte = λ h. omega (arith, h);
          inside = omega (arith, long);
          alike = λ q l f. let k : Agree 2 p q = agreed l f in
              inl (refused-too q (header-length largest q known (long-q q l) (most-q q l) (λ g. ne (sym l ∙ g ∙ same_size q l k (omega arith)))));
        })

    module _ (whole : length p ≡ number_at p 0 2 + 2) where
      whole-q : {n : ℕ} (q : List ℕ) → length q ≡ length p → Agree n p q → 2 ≤ n → length q ≡ number_at q 0 2 + 2
      whole-q q l k h = l ∙ whole ∙ sym (same_size q l k h)

      in-header : {x : Refusal} → read_imei p 6 ≡ bad x → Goal
      in-header {x} f =
          let k = (header-local p long).stops x f in
          by-header (header-imei largest p known long most whole f) refl
          (record {
            byte = λ h. omega (arith, imei-early p 6 b (omega (arith, long)) x f, long);
            inside = k.inside;
            alike = λ q l g. let a : Agree (x.place + header_width x) p q = agreed l g in
                inl (refused-too q (header-imei largest q known (long-q q l) (most-q q l) (whole-q q l a (omega (arith, k.behind))) (k.alike q a)));
          })

      in_field : {imei n : ℕ} → read_imei p 6 ≡ got imei n → (x : Answer AvlData) → read_data limits.longest (drop 23 p) ≡ x → Goal
      unfolding read_datagram
      in_field {imei} {n} f (Ok a) g =
          let good = on_accepted-passed (judge_header largest p) _ (header_is largest p known long most whole f) ∙ on_accepted-passed _ _ (from-passed 23 _ g) in
          absurd (let z : ◌≡◌ {A = ℕ} 0 1 = cc (sym e ∙ good) in omega (arith, z))
      in_field {imei} {n} f (Err x) g =
          let d = drop 23 p in
          let read = header_is largest p known long most whole f in
          let k = data-points limits.longest d x (omega (arith, length-drop 23 p, long)) g in
          let ends = (imei-exact.sound p 6 b (omega (arith, long))).if-got imei n f in
          pointed (read_datagram limits) SecondCount p (datagram_width p (judge_header largest p)) (in-data p read g) e (by-accepted p read x)
          (record {
            byte = λ h. omega (arith, k.byte (omega (arith, length-drop 23 p, long)), length-drop 23 p, long);
            inside = omega (arith, k.inside, length-drop 23 p, long);
            alike = λ q l i.
                let a : Agree (23 + x.place + data_width d x) p q = agreed l i in
                let up : n ≤ 23 + x.place + data_width d x = omega (arith, ends.0.size, length-imei_text imei) in
                let read-q = header_is largest q known (long-q q l) (most-q q l) (whole-q q l a (omega arith)) (((header-local p long).reads imei n f).alike q (agree_less a up)) in
                let far : x.place + data_width d x ≤ 23 + x.place + data_width d x - 23 = omega arith in
                let start : 23 ≤ 23 + x.place + data_width d x = omega arith in
                let inside = agree_less (agree-drop a 23 start) far in
                ⊎_elim
                (λ same. inl (in-data q read-q same))
                (λ other. inr (moved_by 23 other.0, in-data q read-q other.1, other.2))
                (k.alike (drop 23 q) inside.long inside.front);
          })

      in-datagram : (h : Read ℕ) → read_imei p 6 ≡ h → Goal
      in-datagram (got imei n) f = in_field f (read_data limits.longest (drop 23 p)) refl
      in-datagram (bad x) f = in-header f

  pub datagram-points : Goal
  unfolding header_width imei_width
  datagram-points =
      by_length 1 largest
      (λ known. by_length 26 (length p)
      (λ long. by_length (length p) largest
      (λ most. by-test (eqb (length p) (number_at p 0 2 + 2))
      (λ whole. in-datagram known long most (eqb-true _ _ whole) (read_imei p 6) refl)
      (λ other. other_length known long most (eqb-false _ _ other)))
      (λ over. by-header (header-large largest p known long over) refl
      (record { byte = λ h. omega (arith, h); inside = omega arith; alike = λ q l f. inl (refused-too q (header-large largest q known (omega (arith, l, long)) (omega (arith, l, over)))) })))
      (λ few. by-header (header-short largest p known few) refl
      (record { byte = λ h. omega (arith, h); inside = omega arith; alike = λ q l f. inl (refused-too q (header-short largest q known (omega (arith, l, few)))) })))
      (λ unknown. by-header (header-unknown largest p unknown) refl
      (record { byte = λ h. omega (arith, h); inside = omega arith; alike = λ q l f. inl (refused-too q (header-unknown largest q unknown)) }))

pub places-kept : PlacesKept
unfolding read_packet read_command
places-kept =
    record {
      packets = λ limits p r e. framed-points (read_data limits.longest) data_width (data-points limits.longest) limits.largest p r e;
      commands = λ limits p r e. framed-points read_field text_width text-points limits.largest p r e;
      datagrams = λ limits p r b e. datagram-points limits p r b e;
      logins = login-points;
    }
