-- What the writer gives is read back, and every acceptable command is what the writer writes of its own fields.
use Rattle.std.specs.Prelude.{Ok}
use Prim.Native.Nat.{ℕ, zero, suc, ◌+◌, ◌-◌, ◌*◌, ◌^◌, ◌≤◌, ◌<◌}
use native.Mathlib.Omega.{arith}
use mathlib.Core.Path.{◌≡◌, refl, sym, ap, ◌∙◌, subst}
use mathlib.Core.Bool.{false}
use mathlib.Core.List.{List, [], ◌∷◌}
use lib.ListN.{length}
use lib.Dec.{eqb, leb, lit<}
use lib.Arith.{lt-one}
use borrow.Author.Tests.{le-leb, leb-true, eq-eqb, ne_eqb, eqb-true}
use Rattle.wire.specs.declared.Limits.{Limits}
use Rattle.wire.specs.Numbers.{Bytes, digits, be, pick, value_from}
use Rattle.wire.specs.Sequences.{joined, All}
use Rattle.wire.specs.Reading.{Read, here, require, number, repeat}
use Rattle.wire.specs.Answers.{told, unplaced, on_accepted}
use Rattle.wire.specs.Imei.{ascii_digit, text_digit, packed_pair, packed}
use Rattle.wire.proofs.Widths.{bytes-append, bytes-be, length_digits, digits-small, value-digits, value-lt}
use Rattle.wire.proofs.Enclosed.{bytes-enclosed}
use Rattle.wire.proofs.Placed.{between-whole}
use Rattle.wire.proofs.Exactness.{Meets, meets-then, meets-next, meets-pure, meets-require, repeat-complete}
use Rattle.wire.proofs.Accepting.{pick-false, both_true, check-accepted, check-passed, on_accepted-accepted, on_accepted-passed, told-accepted, told-got, unplaced-accepted, unplaced-passed}
use Rattle.wire.proofs.ImeiText.{digit-exact, length-digit_bytes}
use Rattle.frame.specs.Frame.{framed}
use Rattle.command.specs.declared.Layout.{Layout}
use Rattle.command.specs.Layouts.{types, layout_of, heading, member}
use Rattle.command.specs.Commands.{Command, body_bytes, mismatch, command_field, CommandRules, CommandPacket, read_command}
use Rattle.command.specs.Writing.{given_imei, given_time, packet_of, bytes_within, command_bytes}
use Rattle.command.proofs.CommandLaws.{time-fits, mismatch-sound, mismatch-complete}
use Rattle.command.proofs.PacketLaws.{command-complete}
use Rattle.command.proofs.WriterLaws.{length-field}

-- ---- the IMEI as text

anything : {A : Type 0} (r : Read A) → Meets r (λ a next. Unit {0})
anything r = record { if-got = λ a n e. tt }

digit-small : (s : List ℕ) (at : ℕ) → Meets (text_digit s at) (λ d next. d < 10)
unfolding text_digit
digit-small s at =
    meets-then here _ s at (anything (here s at)) (λ start n₀ k₀.
    meets-then (number 1) _ s n₀ (anything (number 1 s n₀)) (λ c n₁ k₁.
    meets-next (require (pick (leb 48 c) (leb c 57) false) 15 start) _ s n₁ (meets-require _ _ _ s n₁) (λ u n₂ k₂.
    let high : c ≤ 57 = leb-true c 57 (both_true (leb 48 c) (leb c 57) k₂.0).1 in
    meets-pure (c - 48) s n₂ (omega arith))))

digits-given : (n : ℕ) (s : List ℕ) (at : ℕ) → Meets (repeat n text_digit s at) (λ ds next. (length ds ≡ n) × All (λ d. d < 10) ds)
unfolding repeat
digits-given zero s at = meets-pure [] s at (refl, tt)
digits-given (suc n) s at =
    meets-then text_digit _ s at (digit-small s at) (λ d mid k.
    meets-then (repeat n text_digit) _ s mid (digits-given n s mid) (λ ds next r.
    meets-pure (d ∷ ds) s next (ap suc r.0, (k, r.1))))

given-range : (l : Layout) (s : List ℕ) (n : ℕ) → given_imei l s ≡ Ok n → n < 10 ^ (2 * l.imei - 1)
unfolding given_imei
given-range l s n e =
    let count = check-accepted (eqb (length s) (2 * l.imei - 1)) 15 _ _ e in
    let read = on_accepted-accepted (unplaced (told 0 (repeat (length s) text_digit s 0))) _ count.1 in
    let ds = read.0 in
    let walk = told-accepted _ _ (unplaced-accepted _ read.1) in
    let k = (digits-given (length s) s 0).if-got ds walk.0 walk.1 in
    let value : value_from 10 0 ds ≡ n = cc in
    let size : length ds ≡ 2 * l.imei - 1 = k.0 ∙ eqb-true (length s) (2 * l.imei - 1) count.0 in
    subst (λ (x : ℕ). x < 10 ^ (2 * l.imei - 1)) value (subst (λ (w : ℕ). value_from 10 0 ds < 10 ^ w) size (value-lt 10 ds k.1))

given-digits : (l : Layout) (imei : ℕ) → imei < 10 ^ (2 * l.imei - 1) → given_imei l (joined ascii_digit (digits 10 (2 * l.imei - 1) imei)) ≡ Ok imei
unfolding given_imei
given-digits l imei h =
    let w = 2 * l.imei - 1 in
    let ds = digits 10 w imei in
    let s = joined ascii_digit ds in
    let size : length s ≡ w = length-digit_bytes ds ∙ length_digits 10 w imei in
    check-passed (eqb (length s) w) 15 _ _ (eq-eqb (length s) w size)
    ∙ on_accepted-passed (unplaced (told 0 (repeat (length s) text_digit s 0))) _
    (unplaced-passed _ (told-got _ _ (ap (λ (n : ℕ). repeat n text_digit s 0) (length-digit_bytes ds) ∙ repeat-complete digit-exact ds s 0 (length s) (digits-small 10 w imei (lit< tt)) (between-whole s))))
    ∙ ap Ok (value-digits 10 w imei (lit< tt) h)

-- ---- bytes

bytes-pairs : (ds : List ℕ) → All (λ d. d < 100) ds → Bytes (joined packed_pair ds)
bytes-pairs [] h = tt
bytes-pairs (d ∷ ds) h = (let small : d < 100 = h.0 in omega arith, bytes-pairs ds h.1)

bytes_packed : (w imei : ℕ) → Bytes (packed w imei)
unfolding packed
bytes_packed w imei = bytes-pairs (digits 100 w imei) (digits-small 100 w imei (lit< tt))

bytes-field : (l : Layout) (c : Command) → Bytes c.text → Bytes (command_field l c)
unfolding command_field
bytes-field l c h =
    bytes-enclosed c.codec 1 (body_bytes l c)
    (bytes-append (be 1 c.type) _ (bytes-be 1 c.type)
    (bytes-append (be 4 (heading l + length c.text)) _ (bytes-be 4 (heading l + length c.text))
    (bytes-append (packed l.imei c.imei) _ (bytes_packed l.imei c.imei)
    (bytes-append (be l.time c.time) c.text (bytes-be l.time c.time) h))))

-- ---- the time

-- a time that fits is the one that is written
own-time : (l : Layout) (time : ℕ) → time < 256 ^ l.time → given_time l time ≡ time
own-time l time h = go l.time h
  where
    go : (w : ℕ) → time < 256 ^ w → pick (eqb w 0) 0 time ≡ time
    go zero k = omega arith
    go (suc w) k = let some : suc w ≡ 0 → ⊥ = λ e. omega arith in pick-false (eqb (suc w) 0) 0 time (ne_eqb (suc w) 0 some)

-- where the codec has no time, the given one makes no difference
pub time-ignored : (limits : Limits) (codec type : ℕ) (imei : List ℕ) (t u : ℕ) (text : List ℕ) {l : Layout} → layout_of codec ≡ Ok l → l.time ≡ 0
    → command_bytes limits codec type imei t text ≡ command_bytes limits codec type imei u text
unfolding command_bytes bytes_within on_accepted
time-ignored limits codec type imei t u text {l} row none = simp (row, eq-eqb l.time 0 none)

-- a command's IMEI or time, where its codec has none, is 0
pub absent-zero : (l : Layout) (c : Command) → CommandRules l c → (l.imei ≡ 0 → c.imei ≡ 0) × (l.time ≡ 0 → c.time ≡ 0)
absent-zero l c h = (
  λ none. lt-one (subst (λ (w : ℕ). c.imei < 10 ^ (2 * w - 1)) none h.imei_range),
  λ none. lt-one (subst (λ (w : ℕ). c.time < 256 ^ w) none h.time_range),
)

-- ---- both ways

-- what is written is read, with the same codec, type, IMEI and text, and the same time where the codec has one
pub written_read : (limits : Limits) (codec type : ℕ) (imei : List ℕ) (time : ℕ) (text p : List ℕ) → limits.largest ≤ 256 ^ 4 → time < 256 ^ 4 → Bytes text
    → command_bytes limits codec type imei time text ≡ Ok p
    → (l : Layout) × (n : ℕ) × (layout_of codec ≡ Ok l) × (given_imei l imei ≡ Ok n)
    × (read_command limits p ≡ Ok (record { codec = codec; type = type; imei = n; time = given_time l time; text = text }))
unfolding command_bytes bytes_within packet_of
written_read limits codec type imei time text p limit fits h e =
    let row = on_accepted-accepted (layout_of codec) _ (check-accepted (leb 1 limits.largest) 21 _ _ e).1 in
    let l = row.0 in
    let kind = check-accepted (member type (types l)) 13 _ _ row.2 in
    let given = on_accepted-accepted (given_imei l imei) _ kind.1 in
    let n = given.0 in
    let c : Command = record { codec = codec; type = type; imei = n; time = given_time l time; text = text } in
    let empty = check-accepted (mismatch type text) 14 _ _ given.2 in
    let short = check-accepted (leb (length (command_field l c) + 12) limits.largest) 14 _ _ empty.1 in
    let most : length (command_field l c) + 12 ≤ limits.largest = leb-true _ _ short.0 in
    let whole : p ≡ framed (command_field l c) = cc in (
      l,
      n,
      row.1,
      given.1,
      command-complete limits p c (record {
        row = l;
        rules = record {
          layout = row.1;
          type_allowed = kind.0;
          imei_range = given-range l imei n given.1;
          time_range = time-fits codec row.1 fits;
          text_bytes = h;
          mismatch_empty = mismatch-sound type text empty.0;
        };
        frame = record { bytes = bytes-field l c h; least = omega (arith, length-field l c); most = most; counted = omega arith };
        whole = whole;
      }),
    )

pub read-written : (limits : Limits) (c : Command) (p : List ℕ) (k : CommandPacket limits c p)
    → command_bytes limits c.codec c.type (joined ascii_digit (digits 10 (2 * k.row.imei - 1) c.imei)) c.time c.text ≡ Ok p
unfolding command_bytes bytes_within packet_of
read-written limits c p k =
    let l = k.row in
    check-passed (leb 1 limits.largest) 21 _ _ (le-leb 1 limits.largest (omega (arith, k.frame.most)))
    ∙ on_accepted-passed (layout_of c.codec) _ k.rules.layout
    ∙ check-passed (member c.type (types l)) 13 _ _ k.rules.type_allowed
    ∙ on_accepted-passed (given_imei l (joined ascii_digit (digits 10 (2 * l.imei - 1) c.imei))) _ (given-digits l c.imei k.rules.imei_range)
    ∙ ap (λ (t : ℕ). packet_of limits l (record { codec = c.codec; type = c.type; imei = c.imei; time = t; text = c.text })) (own-time l c.time k.rules.time_range)
    ∙ check-passed (mismatch c.type c.text) 14 _ _ (mismatch-complete c.type c.text k.rules.mismatch_empty)
    ∙ check-passed (leb (length (command_field l c) + 12) limits.largest) 14 _ _ (le-leb _ _ k.frame.most)
    ∙ ap Ok (sym k.whole)
