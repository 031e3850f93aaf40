-- Which way the judge of a datagram goes.
use Rattle.std.specs.Prelude.{Err, Ok}
use Prim.Native.Nat.{ℕ, ◌+◌, ◌-◌, ◌%◌, ◌≤◌, ◌<◌}
use native.Mathlib.Omega.{arith}
use mathlib.Core.Path.{◌≡◌, refl, sym, ap, subst, ◌∙◌}
use mathlib.Core.List.{List, [], ◌∷◌}
use lib.ListN.{length, take, drop, length-drop, get_or}
use lib.Seq.{take_all}
use lib.Dec.{leb, eqb}
use borrow.Author.Tests.{le-leb, lt-leb, leb-true, eq-eqb, ne_eqb}
use Rattle.wire.specs.declared.Limits.{Limits}
use Rattle.wire.specs.declared.Refusal.{Refusal}
use Rattle.wire.specs.Numbers.{Bytes, number_at, digits}
use Rattle.wire.specs.Reading.{Read, got, bad, pure}
use Rattle.wire.specs.Answers.{Answer, told, from, on_accepted, refusal}
use Rattle.wire.specs.Imei.{read_imei}
use Rattle.wire.proofs.Walking.{number-there, then-bad}
use Rattle.wire.proofs.Exactness.{then-got}
use Rattle.wire.proofs.Accepting.{check-accepted, check-passed, check-failed, on_accepted-passed, on_accepted-refused, told-got, told-whole, on_accepted-accepted}
use Rattle.avl.specs.DataField.{AvlData, DataRules, read_data, data_result}
use Rattle.walk.specs.declared.Span.{Span}
use Rattle.walk.specs.Walks.{data_walk}
use Rattle.walk.proofs.TakenLaws.{taken, taken-fits, not_taken}
use Rattle.datagram.specs.declared.Header.{Header}
use Rattle.datagram.specs.Datagrams.{Datagram, header_bytes, content_bytes, datagram_bytes, read_header, judge_header, acknowledgement_bytes, answer_bytes, udp_acknowledgement, read_datagram, payload_of, answer_datagram, header_at, header_as}
use Rattle.datagram.proofs.DatagramLaws.{datagram-exact}

module _ (largest : ℕ) (p : List ℕ) where
  pub header-unknown : largest < 1 → judge_header largest p ≡ Err (refusal 21)
  unfolding judge_header
  header-unknown h = check-failed (leb 1 largest) 21 _ _ (lt-leb _ _ h)

  pub header-short : 1 ≤ largest → length p < 26 → judge_header largest p ≡ Err (refusal 1)
  unfolding judge_header
  header-short known h = check-passed (leb 1 largest) 21 _ _ (le-leb _ _ known) ∙ check-failed (leb 26 (length p)) 1 _ _ (lt-leb _ _ h)

  module _ (known : 1 ≤ largest) (long : 26 ≤ length p) where
    pub header-large : largest < length p → judge_header largest p ≡ Err (refusal 3)
    unfolding judge_header
    header-large h = check-passed (leb 1 largest) 21 _ _ (le-leb _ _ known) ∙ check-passed (leb 26 (length p)) 1 _ _ (le-leb _ _ long) ∙ check-failed (leb (length p) largest) 3 _ _ (lt-leb _ _ h)

    module _ (fits : length p ≤ largest) where
      pub header-length : (length p ≡ number_at p 0 2 + 2 → ⊥) → judge_header largest p ≡ Err (refusal 4)
      unfolding judge_header
      header-length h =
          check-passed (leb 1 largest) 21 _ _ (le-leb _ _ known)
          ∙ check-passed (leb 26 (length p)) 1 _ _ (le-leb _ _ long)
          ∙ check-passed (leb (length p) largest) 3 _ _ (le-leb _ _ fits)
          ∙ check-failed (eqb (length p) (number_at p 0 2 + 2)) 4 _ _ (ne_eqb _ _ h)

      module _ (size : length p ≡ number_at p 0 2 + 2) where
        -- the sizes are right, so it is as the header says
        sized : judge_header largest p ≡ told 0 (read_header p 2)
        unfolding judge_header
        sized =
            check-passed (leb 1 largest) 21 _ _ (le-leb _ _ known)
            ∙ check-passed (leb 26 (length p)) 1 _ _ (le-leb _ _ long)
            ∙ check-passed (leb (length p) largest) 3 _ _ (le-leb _ _ fits)
            ∙ check-passed (eqb (length p) (number_at p 0 2 + 2)) 4 _ _ (eq-eqb _ _ size)

        pub header-imei : {x : Refusal} → read_imei p 6 ≡ bad x → judge_header largest p ≡ Err x
        unfolding read_header
        header-imei e =
            sized
            ∙ told-whole _
            (number-there _ p 2 2 (omega arith) ∙ number-there _ p 4 1 (omega arith) ∙ number-there _ p 5 1 (omega arith) ∙ then-bad read_imei _ p 6 e)

        pub header_is : {imei next : ℕ} → read_imei p 6 ≡ got imei next → judge_header largest p ≡ Ok (header_at p imei)
        unfolding read_header pure
        header_is e =
            sized
            ∙ told-got _ _
            (number-there _ p 2 2 (omega arith) ∙ number-there _ p 4 1 (omega arith) ∙ number-there _ p 5 1 (omega arith) ∙ then-got read_imei _ p 6 e)

        -- what the IMEI gives, the header gives
        pub header-read : header_as p (told 0 (read_imei p 6)) ≡ judge_header largest p
        unfolding header_as told
        header-read = go (read_imei p 6) refl
          where
            go : (r : Read ℕ) → read_imei p 6 ≡ r → header_as p (told 0 r) ≡ judge_header largest p
            go (got imei next) e = sym (header_is e)
            go (bad x) e = ap (header_as p) (told-whole (bad x) refl) ∙ sym (header-imei e)

-- the part behind the header
pub payload-part : (p : List ℕ) → take (length p - 23) (drop 23 p) ≡ drop 23 p
payload-part p = take_all (length p - 23) (drop 23 p) (simp length-drop (omega arith))

pub payload-long : (largest : ℕ) (p : List ℕ) {h : Header} → judge_header largest p ≡ Ok h → (26 ≤ length p) × (3 ≤ length (take (length p - 23) (drop 23 p)))
unfolding judge_header
payload-long largest p e =
    let long : 26 ≤ length p = leb-true 26 (length p) (check-accepted (leb 26 (length p)) 1 _ _ (check-accepted (leb 1 largest) 21 _ _ e).1).0 in
    (long, subst (λ (l : List ℕ). 3 ≤ length l) (sym (payload-part p)) (simp length-drop (omega arith)))

-- ---- of a header that is accepted, and of one that is refused

module _ (limits : Limits) (p : List ℕ) where
  module _ {x : Refusal} (e : judge_header limits.datagram p ≡ Err x) where
    judged : read_datagram limits p ≡ Err x
    unfolding read_datagram
    judged = on_accepted-refused (judge_header limits.datagram p) _ e

    pub walk_refused : (want : ℕ) → data_walk want (payload_of (read_datagram limits p)) ≡ Err x
    unfolding data_walk payload_of
    walk_refused want = ap (data_walk want) (on_accepted-refused (read_datagram limits p) _ judged)

    pub answer-refused : answer_datagram limits p ≡ Err x
    unfolding answer_datagram
    answer-refused = on_accepted-refused (read_datagram limits p) _ judged

  module _ {h : Header} (e : judge_header limits.datagram p ≡ Ok h) where
    behind : read_datagram limits p ≡ on_accepted (from 23 (read_data limits.longest (drop 23 p))) (λ a. Ok (record { header = h; payload = a }))
    unfolding read_datagram
    behind = on_accepted-passed (judge_header limits.datagram p) _ e

    pub walk-on : (want : ℕ) → data_walk want (from 23 (read_data limits.longest (drop 23 p))) ≡ data_walk want (payload_of (read_datagram limits p))
    unfolding payload_of on_accepted
    walk-on want = ap (data_walk want) (sym (ap payload_of behind ∙ same (from 23 (read_data limits.longest (drop 23 p)))))
      where
        same : (r : Answer AvlData) → payload_of (on_accepted r (λ a. Ok (record { header = h; payload = a }))) ≡ r
        same (Ok a) = refl
        same (Err x) = refl

    pub answer-taken : {codec count : ℕ} {span : Span} → data_walk 0 (from 23 (read_data limits.longest (drop 23 p))) ≡ Ok (record { codec = codec; count = count; span = span })
        → answer_datagram limits p ≡ Ok (record { payload = record { codec = codec; count = count }; header = h })
    unfolding answer_datagram data_result
    answer-taken k =
        let t = taken 0 (from 23 (read_data limits.longest (drop 23 p))) k in
        on_accepted-passed (read_datagram limits p) _ (behind ∙ on_accepted-passed _ _ t.accepts)
        ∙ (λ i. Ok (record { payload = record { codec = t.codec_is i; count = t.count_is i }; header = h }))

    pub answer-stopped : {r : Refusal} → data_walk 0 (from 23 (read_data limits.longest (drop 23 p))) ≡ Err r → answer_datagram limits p ≡ Err r
    unfolding answer_datagram
    answer-stopped k = on_accepted-refused (read_datagram limits p) _ (behind ∙ on_accepted-refused _ _ (not_taken 0 _ k))

-- ---- what the walk tells of the judge

pub carried : (want : ℕ) (r : Answer Datagram) {codec count : ℕ} {span : Span} → data_walk want (payload_of r) ≡ Ok (record { codec = codec; count = count; span = span }) → (g : Datagram) × (r ≡ Ok g)
unfolding data_walk payload_of on_accepted
carried want (Ok g) e = (g, refl)
carried want (Err x) e = absurd (let z : ◌≡◌ {A = ℕ} 0 1 = cc in omega arith)

pub not_carried : (want : ℕ) (r : Answer Datagram) {x : Refusal} → data_walk want (payload_of r) ≡ Err x → r ≡ Err x
unfolding payload_of on_accepted
not_carried want (Ok g) {x} e = absurd (let k = not_taken want (Ok g.payload) {x = x} e in let z : ◌≡◌ {A = ℕ} 0 1 = cc in omega arith)
not_carried want (Err y) e = let k = not_taken want (Err y) e in ap Err (cc)

-- codec and count fit a byte
pub carried-fits : (limits : Limits) (want : ℕ) (p : List ℕ) {codec count : ℕ} {span : Span} → Bytes p
    → data_walk want (payload_of (read_datagram limits p)) ≡ Ok (record { codec = codec; count = count; span = span }) → (codec < 256) × (count < 256)
unfolding payload_of on_accepted
carried-fits limits want p b walk =
    let c = carried want (read_datagram limits p) walk in
    let t = taken want (Ok c.0.payload) (sym (ap (λ r. data_walk want (payload_of r)) c.1) ∙ walk) in
    let same : ◌≡◌ {A = AvlData} c.0.payload t.content = cc t.accepts in
    taken-fits t (subst (DataRules limits.longest) same ((datagram-exact limits p c.0 b).0 c.1).payload)

pub payload-fits : (limits : Limits) (p : List ℕ) {h : Header} {codec count : ℕ} {span : Span} → Bytes p → judge_header limits.datagram p ≡ Ok h
    → data_walk 0 (from 23 (read_data limits.longest (drop 23 p))) ≡ Ok (record { codec = codec; count = count; span = span }) → (codec < 256) × (count < 256)
payload-fits limits p b e walk = carried-fits limits 0 p b (sym (walk-on limits p e 0) ∙ walk)

-- ---- the acknowledgement

module _ (limits : Limits) (p : List ℕ) (h : Bytes p) where
  -- its bytes stand in the datagram, but for the count, which is the number of records
  answer-bytes : (g : Datagram) {count : ℕ} → read_datagram limits p ≡ Ok g → length g.payload.records ≡ count → count < 256
      → acknowledgement_bytes g.header (length g.payload.records) ≡ answer_bytes p count
  unfolding acknowledgement_bytes datagram_bytes content_bytes header_bytes digits
  answer-bytes g {count} e is few =
      let whole = sym ((datagram-exact limits p g h).0 e).whole in
      let number : count % 256 ≡ count = omega arith in
      let last = ap (λ (n : ℕ). n % 256) is ∙ number in
      λ i. 0 ∷ 5 ∷ get_or (whole i) 2 0 ∷ get_or (whole i) 3 0 ∷ get_or (whole i) 4 0 ∷ get_or (whole i) 5 0 ∷ last i ∷ []

  pub acknowledged-taken : {codec count : ℕ} {span : Span} → data_walk 0 (payload_of (read_datagram limits p)) ≡ Ok (record { codec = codec; count = count; span = span })
      → (26 ≤ length p) × (udp_acknowledgement limits p ≡ Ok (answer_bytes p count))
  unfolding udp_acknowledgement read_datagram payload_of on_accepted
  acknowledged-taken walk =
      let c = carried 0 (read_datagram limits p) walk in
      let g = c.0 in
      let e = c.1 in
      let t = taken 0 (Ok g.payload) (sym (ap (λ r. data_walk 0 (payload_of r)) e) ∙ walk) in
      let same : ◌≡◌ {A = AvlData} g.payload t.content = cc t.accepts in
      let count = ap (λ (a : AvlData). length a.records) same ∙ t.count_is in
      let header = on_accepted-accepted (judge_header limits.datagram p) _ e in
      ((payload-long limits.datagram p header.1).0, on_accepted-passed (read_datagram limits p) _ e ∙ ap Ok (answer-bytes g e count (carried-fits limits 0 p h walk).1))

  pub acknowledged-refused : {x : Refusal} → data_walk 0 (payload_of (read_datagram limits p)) ≡ Err x → udp_acknowledgement limits p ≡ Err x
  unfolding udp_acknowledgement
  acknowledged-refused walk = on_accepted-refused (read_datagram limits p) _ (not_carried 0 (read_datagram limits p) walk)
