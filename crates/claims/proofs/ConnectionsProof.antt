-- The claims on connections, for every room and limits of a family that is known, where the largest packet and a login fit.
use Rattle.std.specs.Prelude.{Err, Ok}
use Prim.Native.Nat.{ℕ, zero, suc, ◌-◌, ◌^◌, ◌≤◌, ◌<◌}
use native.Mathlib.Omega.{arith}
use mathlib.Core.Path.{◌≡◌, refl, sym, ap, ap₂, ◌∙◌, subst}
use mathlib.Core.Logic.{◌↔◌}
use mathlib.Core.Bool.{Bool, true, false}
use mathlib.Core.List.{List, [], ◌∷◌, ◌++◌, map, append_assoc}
use lib.ListN.{length, take, drop, get_or, length-drop, drop_of_length-le}
use lib.Seq.{take-append_seam, take_all, drop-length}
use lib.Dec.{eqb, leb, lit<, lit≤}
use borrow.Author.Tests.{leb-true, eq-eqb, eqb-true}
use Rattle.wire.specs.declared.Limits.{Limits}
use Rattle.wire.specs.Limits.{largest_of_all, limits_of, is_known}
use Rattle.wire.proofs.LimitLaws.{limits-most}
use Rattle.wire.specs.Numbers.{Bytes, digits, be, pick, number_at}
use Rattle.wire.specs.Sequences.{joined, All}
use Rattle.wire.specs.Answers.{Answer, refusal, check_at, told, is_accepted, on_accepted}
use Rattle.wire.specs.Reading.{◌>>=◌, ◌>>◌, here, number, span, and_then, require}
use Rattle.wire.specs.Imei.{ascii_digit, imei_text, read_imei}
use Rattle.wire.proofs.Widths.{bytes-append, bytes_take, bytes-be, digits-small}
use Rattle.wire.proofs.ImeiText.{length-imei_text}
use Rattle.wire.proofs.Accepting.{both_true, check-failed, on_accepted-passed, on_accepted-refused}
use Rattle.avl.specs.DataField.{AvlData}
use Rattle.packet.specs.DataPackets.{read_packet}
use Rattle.packet.proofs.PacketLaws.{packet-exact}
use Rattle.command.specs.Layouts.{layout_of}
use Rattle.command.specs.Commands.{Command, read_command}
use Rattle.command.proofs.PacketLaws.{command-exact}
use Rattle.login.specs.Login.{read_login}
use Rattle.login.proofs.LoginLaws.{login-exact}
use Rattle.stream.specs.Stream.{Phase, for_login, for_packet, Item, login, packet, refusing, Verdict, more, settled, State, waiting, closed, needed, item_of, judged_packet, judged, verdict, verdict_by, next, Taken, after_byte, taken, Streamed, cons, by_verdict, stream}
use Rattle.stream.proofs.StreamLaws.{more-needed, still-more, feed-judged, taken_more}
use Rattle.stream.proofs.FlowLaws.{Sound, HoldsBytes, leaves, none-held}
use Rattle.stream.proofs.ItemLaws.{data-bytes, data-given, command-given}
use Rattle.connection.specs.State.{Gathered, zeros, padded, phase_number, kept, fresh, is_zero, phase_of, held_by, opened, count_of, judged_at, wanted}
use Rattle.connection.specs.Feeding.{Outcome, outcome, fed}
use Rattle.connection.proofs.PaddedLaws.{are-zeros, zeros-are, length-padded}
use Rattle.connection.proofs.OpenLaws.{held-length, open_is, open-or}
use Rattle.connection.proofs.FeedLaws.{unopened, open-fed}
use Rattle.connection.proofs.KeptLaws.{kept-open, kept-fed, open_kept, closed-shut}
use Rattle.claims.specs.Demand3.{Accepted, is_data, is_command}
use Rattle.claims.specs.Connections.{Reached, at_first, by_feed, is_closed, is_given, Run, ended, shut, goes_on, gives, together, Meets, FeedsKept, ConnectionsKept}

bytes-imei : (imei : ℕ) → Bytes (imei_text imei)
unfolding imei_text
bytes-imei imei = bytes-append (be 2 15) (joined ascii_digit (digits 10 15 imei)) (bytes-be 2 15) (ascii (digits 10 15 imei) (digits-small 10 15 imei (lit< tt)))
  where
    ascii : (ds : List ℕ) → All (λ d. d < 10) ds → Bytes (joined ascii_digit ds)
    ascii [] h = tt
    ascii (d ∷ ds) h = (omega (arith, h.0), ascii ds h.1)

bytes-zeros : (n : ℕ) → Bytes (zeros n)
bytes-zeros zero = tt
bytes-zeros (suc n) = (omega arith, bytes-zeros n)

stream-closed : (limits : Limits) (s : List ℕ) → stream limits s closed ≡ record { items = []; state = closed }
unfolding stream
stream-closed limits [] = refl
stream-closed limits (b ∷ s) = refl

module _ (limits : Limits) (room : ℕ) (known : 1 ≤ limits.largest) (small : 17 ≤ room) (large : limits.largest ≤ room) where
  -- ---- a run is a stream

  kept-phase : (st : State) → (kept room st).phase ≡ 2 → st ≡ closed
  unfolding kept phase_number
  kept-phase (waiting for_login h) e = absurd (omega (arith, e))
  kept-phase (waiting for_packet h) e = absurd (omega (arith, e))
  kept-phase closed e = refl

  closed-phase : (kept room closed).phase ≡ 2
  unfolding kept
  closed-phase = refl

  -- what a feed of a kept state gives
  record Step (st : State) (s : List ℕ) (d : Gathered) (used : ℕ) (told : Verdict) : Type 0 where
    pub after : State
    pub is : d ≡ kept room after
    pub sound : Sound limits after
    pub flows : (later : List ℕ) → stream limits (s ++ later) st ≡ by_verdict told (stream limits later after) (λ i. stream limits (drop used s ++ later) after)

  step : (p : Phase) (h s : List ℕ) {d : Gathered} {used : ℕ} {told : Verdict} → verdict limits p h ≡ more
      → fed limits room (kept room (waiting p h)) s ≡ record { state = d; used = used; told = told } → Step (waiting p h) s d used told
  unfolding outcome
  step p h s {d} {used} {told} e eq =
      let t = taken limits p h s in
      let k = leaves limits p s h e in
      let same : outcome room t ≡ record { state = d; used = used; told = told } = sym (kept-fed limits room known small large p h s e) ∙ eq in
      let count : t.used ≡ used = ap (λ (o : Outcome). o.used) same in
      let tells : t.told ≡ told = ap (λ (o : Outcome). o.told) same in
      record {
        after = t.state;
        is = sym (ap (λ (o : Outcome). o.state) same);
        sound = k.sound;
        flows = λ later.
            k.flows later
            ∙ ap₂ (λ (n : ℕ) (v : Verdict). by_verdict v (stream limits later t.state) (λ i. stream limits (drop n s ++ later) t.state)) count tells;
      }

  -- of a state that is not closed
  step_of : (st : State) {c d : Gathered} (s : List ℕ) {used : ℕ} {told : Verdict} → Sound limits st → c ≡ kept room st → (c.phase ≡ 2 → ⊥)
      → fed limits room c s ≡ record { state = d; used = used; told = told } → Step st s d used told
  step_of (waiting p h) s e q open-phase eq = step p h s e (ap (λ (x : Gathered). fed limits room x s) (sym q) ∙ eq)
  step_of closed s e q open-phase eq = absurd (open-phase (ap (λ (x : Gathered). x.phase) q ∙ closed-phase))

  -- where more is needed it is not closed
  more-open : (c d : Gathered) (s : List ℕ) (used : ℕ) → fed limits room c s ≡ record { state = d; used = used; told = more } → c.phase ≡ 2 → ⊥
  more-open c d s used eq two =
      let shut-fed = unopened limits room c s (closed-shut limits room known small large c two) in
      let same : ◌≡◌ {A = Verdict} (settled (refusing (refusal 19))) more = ap (λ (o : Outcome). o.told) (sym shut-fed ∙ eq) in
      let z : ◌≡◌ {A = ℕ} 0 1 = cc same in omega (arith, z)

  run-stream : {c e : Gathered} {pieces : List (List ℕ)} {items : List Item} → Run limits room c pieces items e
      → (st : State) → Sound limits st → c ≡ kept room st → let whole = stream limits (joined (λ p. p) pieces) st in (items ≡ whole.items) × (e ≡ kept room whole.state)
  unfolding stream by_verdict cons
  run-stream (ended c) st sound q = (refl, q)
  run-stream (shut c pieces two) st sound q =
      let shut-state = kept-phase st (ap (λ (x : Gathered). x.phase) (sym q) ∙ two) in
      let whole : stream limits (joined (λ p. p) pieces) st ≡ record { items = []; state = closed } = ap (stream limits (joined (λ p. p) pieces)) shut-state ∙ stream-closed limits (joined (λ p. p) pieces) in
      (ap (λ (w : Streamed). w.items) (sym whole), q ∙ ap (kept room) shut-state ∙ ap (λ (w : Streamed). kept room w.state) (sym whole))
  run-stream (goes_on c d e piece pieces items used eq rest) st sound q =
      let k = step_of st piece sound q (more-open c d piece used eq) eq in
      let on = run-stream rest k.after k.sound k.is in
      let whole = sym (k.flows (joined (λ p. p) pieces)) in
      (on.0 ∙ ap (λ (w : Streamed). w.items) whole, on.1 ∙ ap (λ (w : Streamed). kept room w.state) whole)
  run-stream (gives c d e piece pieces items used i open-phase eq rest) st sound q =
      let k = step_of st piece sound q open-phase eq in
      let on = run-stream rest k.after k.sound k.is in
      let whole = sym (k.flows (joined (λ p. p) pieces)) in
      (ap (λ (l : List Item). i ∷ l) on.0 ∙ ap (λ (w : Streamed). w.items) whole, on.1 ∙ ap (λ (w : Streamed). kept room w.state) whole)
  run-stream (together c e a b pieces items rest) st sound q =
      let on = run-stream rest st sound q in
      let whole = ap (λ (l : List ℕ). stream limits l st) (append_assoc a b (joined (λ p. p) pieces)) in
      (on.0 ∙ ap (λ (w : Streamed). w.items) whole, on.1 ∙ ap (λ (w : Streamed). kept room w.state) whole)

  -- ---- every way of cutting has an outcome

  abbrev Outcomes : Gathered → List (List ℕ) → Type 0
  Outcomes c pieces = (items : List Item) × (e : Gathered) × Run limits room c pieces items e

  waiting-phase : (p : Phase) (h : List ℕ) → (kept room (waiting p h)).phase ≡ 2 → ⊥
  unfolding kept phase_number
  waiting-phase for_login h e = omega (arith, e)
  waiting-phase for_packet h e = omega (arith, e)

  fed-told : (p : Phase) (held s : List ℕ) {v : Verdict} → verdict limits p held ≡ more → (taken limits p held s).told ≡ v
      → fed limits room (kept room (waiting p held)) s ≡ record { state = kept room (taken limits p held s).state; used = (taken limits p held s).used; told = v }
  unfolding outcome
  fed-told p held s sound e =
      kept-fed limits room known small large p held s sound ∙ ap (λ (v : Verdict). record { state = kept room (taken limits p held s).state; used = (taken limits p held s).used; told = v }) e

  -- one feed of a piece; what is left of it behind an item is shorter
  one-feed : (pieces : List (List ℕ)) (st : State) (piece : List ℕ) → Sound limits st
      → ((after : State) → Sound limits after → Outcomes (kept room after) pieces)
      → ((after : State) (left : List ℕ) → Sound limits after → length left < length piece → Outcomes (kept room after) (left ∷ pieces))
      → Outcomes (kept room st) (piece ∷ pieces)
  one-feed pieces closed piece sound rest again = ([], kept room closed, shut (kept room closed) (piece ∷ pieces) closed-phase)
  one-feed pieces (waiting p held) piece sound rest again = go (taken limits p held piece).told refl
    where
      go : (v : Verdict) → (taken limits p held piece).told ≡ v → Outcomes (kept room (waiting p held)) (piece ∷ pieces)
      go more e =
          let t = taken limits p held piece in
          let k = leaves limits p piece held sound in
          let r = rest t.state k.sound in
          (r.0, r.1, goes_on _ _ _ piece pieces r.0 t.used (fed-told p held piece sound e) r.2)
      go (settled i) e =
          let t = taken limits p held piece in
          let k = leaves limits p piece held sound in
          let forward = k.forward i e in
          let r = again t.state (drop t.used piece) k.sound (omega (arith, length-drop t.used piece, forward.0, k.within)) in
          (i ∷ r.0, r.1, gives _ _ _ piece pieces r.0 t.used i (waiting-phase p held) (fed-told p held piece sound e) r.2)

  one_piece : (fuel : ℕ) (pieces : List (List ℕ)) (rest : (after : State) → Sound limits after → Outcomes (kept room after) pieces)
      (st : State) (piece : List ℕ) → Sound limits st → length piece ≤ fuel → Outcomes (kept room st) (piece ∷ pieces)
  one_piece zero pieces rest st piece sound h = one-feed pieces st piece sound rest (λ after left s less. absurd (omega (arith, less, h)))
  one_piece (suc fuel) pieces rest st piece sound h = one-feed pieces st piece sound rest (λ after left s less. one_piece fuel pieces rest after left s (omega (arith, less, h)))

  all-pieces : (pieces : List (List ℕ)) (st : State) → Sound limits st → Outcomes (kept room st) pieces
  all-pieces [] st sound = ([], kept room st, ended (kept room st))
  all-pieces (piece ∷ pieces) st sound = one_piece (length piece) pieces (all-pieces pieces) st piece sound (omega arith)

  -- ---- the states that feeds give

  login-waits : verdict limits for_login [] ≡ more
  unfolding verdict verdict_by needed
  login-waits = refl

  -- closed, as it is kept
  closed_is : (c : Gathered) → is_closed room c ≡ true → c ≡ kept room closed
  unfolding is_closed kept padded
  closed_is c e =
      let sized = pick (eqb (length c.held) room) (is_zero c.held) false in
      let e₁ = both_true (eqb c.phase 2) (pick (eqb c.fill 0) sized false) e in
      let e₂ = both_true (eqb c.fill 0) sized e₁.1 in
      let e₃ = both_true (eqb (length c.held) room) (is_zero c.held) e₂.1 in
      let size : length c.held ≡ room = eqb-true (length c.held) room e₃.0 in
      let none : c.fill ≡ 0 = eqb-true c.fill 0 e₂.0 in
      let two : c.phase ≡ 2 = eqb-true c.phase 2 e₁.0 in
      let left : length c.held ≡ room - 0 = omega (arith, size) in
      let bytes : c.held ≡ zeros (room - 0) = are-zeros c.held e₃.1 ∙ ap (λ (n : ℕ). zeros n) left in
      λ i. record { held = bytes i; fill = none i; phase = two i }

  given-kept : (c : Gathered) → is_given limits room c ≡ true → (st : State) × (c ≡ kept room st) × Sound limits st
  unfolding is_given is_accepted is_closed
  given-kept c e = go (opened limits room c) refl e
    where
      go : (r : Answer (List ℕ)) → opened limits room c ≡ r → pick (is_accepted r) true (is_closed room c) ≡ true → (st : State) × (c ≡ kept room st) × Sound limits st
      go (Ok h) q e = let k = open_kept limits room known small large c q in (waiting (phase_of c.phase) h, k.0, k.1)
      go (Err r) q e = (closed, closed_is c e, tt)

  kept-given : (st : State) → Sound limits st → is_given limits room (kept room st) ≡ true
  unfolding is_given is_accepted is_closed kept padded
  kept-given (waiting p h) sound = simp (kept-open limits room known small large p h sound)
  kept-given closed sound =
      simp (
        closed-shut limits room known small large (kept room closed) closed-phase,
        eq-eqb (length (padded room [])) room (length-padded room [] (omega arith)),
        zeros-are (room - 0),
      )

  reached-given : {c : Gathered} → Reached limits room c → is_given limits room c ≡ true
  unfolding fresh outcome
  reached-given at_first = kept-given (waiting for_login []) login-waits
  reached-given (by_feed c s r b) = go (given-kept c (reached-given r)).0 (given-kept c (reached-given r)).1 (given-kept c (reached-given r)).2
    where
      go : (st : State) → c ≡ kept room st → Sound limits st → is_given limits room (fed limits room c s).state ≡ true
      go (waiting p h) q sound =
          let same = ap (λ (x : Gathered). fed limits room x s) q ∙ kept-fed limits room known small large p h s sound in
          ap (λ (o : Outcome). is_given limits room o.state) same ∙ kept-given (taken limits p h s).state (leaves limits p s h sound).sound
      go closed q sound =
          let two = ap (λ (x : Gathered). x.phase) q ∙ closed-phase in
          ap (λ (o : Outcome). is_given limits room o.state) (unopened limits room c s (closed-shut limits room known small large c two)) ∙ ap (is_given limits room) q ∙ kept-given closed tt

  -- ---- a login, then packets

  login-taken : (imei : ℕ) → imei < 10 ^ 15 → taken limits for_login [] (imei_text imei) ≡ record { used = 17; told = settled (login imei); state = waiting for_packet [] }
  unfolding needed judged item_of next
  login-taken imei h =
      let s = imei_text imei in
      let size = length-imei_text imei in
      let item : judged limits for_login (take 17 s) ≡ login imei =
      ap (judged limits for_login) (take_all 17 s (omega (arith, size))) ∙ ap (item_of login) ((login-exact s imei (bytes-imei imei)).1 (record { range = h; whole = refl }))
      in
      feed-judged limits for_login [] s 17 17 refl (omega arith) (omega arith) (omega (arith, size))
      ∙ ap (λ (i : Item). record { used = 17; told = settled i; state = next i }) item

  login-flows : (imei : ℕ) (later : List ℕ) → imei < 10 ^ 15 → stream limits (imei_text imei ++ later) (waiting for_login []) ≡ cons (login imei) (stream limits later (waiting for_packet []))
  unfolding by_verdict
  login-flows imei later h =
      let s = imei_text imei in
      (leaves limits for_login s [] login-waits).flows later
      ∙ ap (λ (t : Taken). by_verdict t.told (stream limits later t.state) (λ i. stream limits (drop t.used s ++ later) t.state)) (login-taken imei h)
      ∙ ap (λ (l : List ℕ). cons (login imei) (stream limits (l ++ later) (waiting for_packet []))) (drop_of_length-le s {i = 17} (omega (arith, length-imei_text imei)))

  packet-taken : (p : List ℕ) → Accepted limits p → taken limits for_packet [] p ≡ record { used = length p; told = settled (packet p); state = waiting for_packet [] }
  packet-taken p (is_data a k) = data-given limits p a k
  packet-taken p (is_command c k) = command-given limits p c k

  packet-flows : (p later : List ℕ) → Accepted limits p → stream limits (p ++ later) (waiting for_packet []) ≡ cons (packet p) (stream limits later (waiting for_packet []))
  unfolding by_verdict
  packet-flows p later h =
      (leaves limits for_packet p [] (none-held limits)).flows later
      ∙ ap (λ (t : Taken). by_verdict t.told (stream limits later t.state) (λ i. stream limits (drop t.used p ++ later) t.state)) (packet-taken p h)
      ∙ ap (λ (l : List ℕ). cons (packet p) (stream limits (l ++ later) (waiting for_packet []))) (drop-length p)

  packets-flow : (ps : List (List ℕ)) → All (Accepted limits) ps → stream limits (joined (λ p. p) ps) (waiting for_packet []) ≡ record { items = map packet ps; state = waiting for_packet [] }
  unfolding stream cons
  packets-flow [] h = refl
  packets-flow (p ∷ ps) h = packet-flows p (joined (λ p. p) ps) h.0 ∙ ap (cons (packet p)) (packets-flow ps h.1)

  all-flow : (imei : ℕ) (ps : List (List ℕ)) → imei < 10 ^ 15 → All (Accepted limits) ps
      → stream limits (imei_text imei ++ joined (λ p. p) ps) (waiting for_login []) ≡ record { items = login imei ∷ map packet ps; state = waiting for_packet [] }
  unfolding cons
  all-flow imei ps h k = login-flows imei (joined (λ p. p) ps) h ∙ ap (cons (login imei)) (packets-flow ps k)

  -- ---- states are reached

  -- by a feed of a kept state
  feed-on : (p : Phase) (h s : List ℕ) {t : Taken} → verdict limits p h ≡ more → Bytes s → taken limits p h s ≡ t → Reached limits room (kept room (waiting p h)) → Reached limits room (kept room t.state)
  unfolding outcome
  feed-on p h s sound b e r =
      subst (Reached limits room) (ap (λ (o : Outcome). o.state) (kept-fed limits room known small large p h s sound ∙ ap (outcome room) e)) (by_feed (kept room (waiting p h)) s r b)

  first : Reached limits room (kept room (waiting for_login []))
  unfolding fresh
  first = at_first

  -- 17 zero bytes are no login
  refused-first : taken limits for_login [] (zeros 17) ≡ record { used = 17; told = settled (refusing (refusal 15)); state = closed }
  unfolding taken after_byte verdict verdict_by needed judged item_of read_login check_at told read_imei ◌>>=◌ ◌>>◌ here number span and_then require number_at next
  refused-first = refl

  kept-reached : (st : State) → Sound limits st → HoldsBytes st → Reached limits room (kept room st)
  kept-reached (waiting for_login h) sound b = feed-on for_login [] h login-waits b (taken_more limits for_login h [] sound) first
  kept-reached (waiting for_packet h) sound b =
      feed-on for_packet [] h (none-held limits) b (taken_more limits for_packet h [] sound)
      (feed-on for_login [] (imei_text 0) login-waits (bytes-imei 0) (login-taken 0 (lit< tt)) first)
  kept-reached closed sound b = feed-on for_login [] (zeros 17) login-waits (bytes-zeros 17) refused-first first

  held_bytes : (c : Gathered) (st : State) → Bytes c.held → c ≡ kept room st → HoldsBytes st
  unfolding kept padded
  held_bytes c (waiting p h) b q =
      let same : take (length h) c.held ≡ h = ap (λ (x : Gathered). take (length h) x.held) q ∙ take-append_seam h (zeros (room - length h)) in
      subst Bytes same (bytes_take (length h) c.held b)
  held_bytes c closed b q = tt

  given-reached : (c : Gathered) → Bytes c.held → is_given limits room c ≡ true → Reached limits room c
  given-reached c b e =
      let k = given-kept c e in
      subst (Reached limits room) (sym k.1) (kept-reached k.0 k.2 (held_bytes c k.0 b k.1))

  -- ---- 19

  open-given : (c : Gathered) {h : List ℕ} → opened limits room c ≡ Ok h → is_given limits room c ≡ true
  unfolding is_given is_accepted
  open-given c e = simp e

  -- an open connection is not left as it was with a refusal
  open-not : (c : Gathered) (s : List ℕ) {h : List ℕ} → opened limits room c ≡ Ok h → fed limits room c s ≡ record { state = c; used = 0; told = settled (refusing (refusal 19)) } → ⊥
  unfolding outcome next
  open-not c s {h} e k =
      let p = phase_of c.phase in
      let is = open_kept limits room known small large c e in
      let same : outcome room (taken limits p h s) ≡ record { state = c; used = 0; told = settled (refusing (refusal 19)) } = sym (open-fed limits room c s e) ∙ k in
      let tells : (taken limits p h s).told ≡ settled (refusing (refusal 19)) = ap (λ (o : Outcome). o.told) same in
      let left = ((leaves limits p s h is.1).forward (refusing (refusal 19)) tells).1 in
      let two : c.phase ≡ 2 = sym (ap (λ (o : Outcome). o.state.phase) same) ∙ ap (λ (st : State). (kept room st).phase) left ∙ closed-phase in
      omega (arith, two, (open_is limits room c e).0.phase)

  is-nineteen : (c : Gathered) (s : List ℕ) → Bytes c.held
      → (fed limits room c s ≡ record { state = c; used = 0; told = settled (refusing (refusal 19)) }) ↔ (Reached limits room c → c.phase ≡ 2)
  is-nineteen c s b = (
    λ k r.
        let g = given-kept c (reached-given r) in
        by_state g.0 g.1 g.2 k,
    λ f.
        open-or limits room c
        (λ e. absurd (let two = f (given-reached c b (open-given c e)) in omega (arith, two, (open_is limits room c e).0.phase)))
        (λ e. unopened limits room c s e),
  )
    where
      by_state : (st : State) → c ≡ kept room st → Sound limits st → fed limits room c s ≡ record { state = c; used = 0; told = settled (refusing (refusal 19)) } → c.phase ≡ 2
      by_state (waiting p h) q sound k = absurd (open-not c s (ap (opened limits room) q ∙ kept-open limits room known small large p h sound) k)
      by_state closed q sound k = ap (λ (x : Gathered). x.phase) q ∙ closed-phase

  -- ---- what is given keeps the rules

  login-meets : (s : List ℕ) → Bytes s → Meets limits (judged limits for_login s)
  unfolding judged item_of
  login-meets s b = go (read_login s) refl
    where
      go : (r : Answer ℕ) → read_login s ≡ r → Meets limits (item_of login r)
      go (Ok imei) e = ((login-exact s imei b).0 e).range
      go (Err x) e = tt

  packet-meets : (p : List ℕ) → Bytes p → Meets limits (judged limits for_packet p)
  unfolding judged item_of judged_packet on_accepted
  packet-meets p b = go (is_accepted (layout_of (get_or p 8 0)))
    where
      as-command : (r : Answer Command) → read_command limits p ≡ r → Meets limits (item_of packet (on_accepted r (λ c. Ok p)))
      as-command (Ok c) e = is_command c ((command-exact limits p c b).0 e)
      as-command (Err x) e = tt

      as-data : (r : Answer AvlData) → read_packet limits p ≡ r → Meets limits (item_of packet (on_accepted r (λ a. Ok p)))
      as-data (Ok a) e = is_data a ((packet-exact limits p a b).0 e)
      as-data (Err x) e = tt

      go : (row : Bool) → Meets limits (item_of packet (pick row (on_accepted (read_command limits p) (λ c. Ok p)) (on_accepted (read_packet limits p) (λ a. Ok p))))
      go true = as-command (read_command limits p) refl
      go false = as-data (read_packet limits p) refl

  settled-meets : (p : Phase) (s : List ℕ) (i : Item) → Bytes s → verdict limits p s ≡ settled i → Meets limits i
  unfolding verdict verdict_by
  settled-meets p s i b e = go (needed limits p s) e
    where
      item : (q : Phase) → Meets limits (judged limits q s)
      item for_login = login-meets s b
      item for_packet = packet-meets s b

      pass : (t : Bool) → pick t (settled (judged limits p s)) more ≡ settled i → Meets limits i
      pass true e = let same : judged limits p s ≡ i = cc e in subst (Meets limits) same (item p)
      pass false e = absurd (let z : ◌≡◌ {A = ℕ} 0 1 = cc e in omega (arith, z))

      go : (r : Answer ℕ) → verdict_by r (length s) (judged limits p s) ≡ settled i → Meets limits i
      go (Ok n) e = pass (leb n (length s)) e
      go (Err x) e = let same : refusing x ≡ i = cc e in subst (Meets limits) same tt

  byte_meets : (p : Phase) (held : List ℕ) (c : ℕ) (s : List ℕ) → Bytes (held ++ (c ∷ []))
      → ((st : State) → HoldsBytes st → All (Meets limits) (stream limits s st).items) → All (Meets limits) (stream limits (c ∷ s) (waiting p held)).items
  unfolding stream by_verdict cons next
  byte_meets p held c s b rest = go (verdict limits p (held ++ (c ∷ []))) refl
    where
      after : (i : Item) → HoldsBytes (next i)
      after (login imei) = tt
      after (packet q) = tt
      after (refusing r) = tt

      go : (v : Verdict) → verdict limits p (held ++ (c ∷ [])) ≡ v → All (Meets limits) (stream limits (c ∷ s) (waiting p held)).items
      go more e = simp e (rest (waiting p (held ++ (c ∷ []))) b)
      go (settled i) e = simp e (settled-meets p (held ++ (c ∷ [])) i b e, rest (next i) (after i))

  all_meet : (s : List ℕ) (st : State) → Bytes s → HoldsBytes st → All (Meets limits) (stream limits s st).items
  unfolding stream
  all_meet [] st b h = tt
  all_meet (c ∷ s) closed b h = tt
  all_meet (c ∷ s) (waiting p held) b h =
      byte_meets p held c s (bytes-append held (c ∷ []) h (b.0, tt)) (λ st k. all_meet s st b.1 k)

  given-back : (imei : ℕ) (ps pieces : List (List ℕ)) (items : List Item) (e : Gathered) → imei < 10 ^ 15 → All (Accepted limits) ps
      → Run limits room (fresh room) pieces items e → joined (λ p. p) pieces ≡ imei_text imei ++ joined (λ p. p) ps
      → (items ≡ login imei ∷ map packet ps) × (e ≡ kept room (waiting for_packet []))
  unfolding fresh
  given-back imei ps pieces items e h k run same =
      let r = run-stream run (waiting for_login []) login-waits refl in
      let whole = ap (λ (l : List ℕ). stream limits l (waiting for_login [])) same ∙ all-flow imei ps h k in
      (r.0 ∙ ap (λ (w : Streamed). w.items) whole, r.1 ∙ ap (λ (w : Streamed). kept room w.state) whole)

  as_one : (pieces : List (List ℕ)) (items : List Item) (e : Gathered) → Run limits room (fresh room) pieces items e
      → let whole = stream limits (joined (λ p. p) pieces) (waiting for_login []) in (items ≡ whole.items) × (e ≡ kept room whole.state)
  unfolding fresh
  as_one pieces items e run = run-stream run (waiting for_login []) login-waits refl

  outcome-of : (pieces : List (List ℕ)) → (items : List Item) × (e : Gathered) × Run limits room (fresh room) pieces items e
  unfolding fresh
  outcome-of pieces = all-pieces pieces (waiting for_login []) login-waits

  wanted-least : (c : Gathered) (s : List ℕ) → length s < wanted limits room c → (fed limits room c s).told ≡ more
  unfolding wanted count_of judged_at on_accepted outcome
  wanted-least c s h =
      open-or limits room c
      (λ e.
      let p = phase_of c.phase in
      let held = held_by c in
      let is = (open_is limits room c e).0 in
      let n = more-needed limits p held is.waits in
      let count : count_of (judged_at limits room c) ≡ n.0 = ap count_of (on_accepted-passed (opened limits room c) (needed limits p) e ∙ n.1) in
      let waits = still-more limits p held s n.0 n.1 (omega (arith, h, count, held-length limits room c is.size is.fill)) in
      ap (λ (o : Outcome). o.told) (open-fed limits room c s e) ∙ ap (λ (t : Taken). t.told) (taken_more limits p s held waits))
      (λ e. let none : count_of (judged_at limits room c) ≡ 0 = ap count_of (on_accepted-refused (opened limits room c) (needed limits (phase_of c.phase)) e) in absurd (omega (arith, h, none)))

  pub feeds-kept : FeedsKept limits room
  feeds-kept =
      record {
        states = λ c b. (λ r. reached-given r, given-reached c b);
        nineteen = is-nineteen;
        wanted_at_least = wanted-least;
        as_one_stream = as_one;
        cuts_dont_matter = λ ps qs items others c d run other same.
            let a = as_one ps items c run in
            let b = as_one qs others d other in
            let whole = ap (λ (l : List ℕ). stream limits l (waiting for_login [])) same in
            (a.0 ∙ ap (λ (w : Streamed). w.items) whole ∙ sym b.0, a.1 ∙ ap (λ (w : Streamed). kept room w.state) whole ∙ sym b.1);
        outcomes = outcome-of;
        given = λ s b. all_meet s (waiting for_login []) b tt;
        announced = λ a p k. data-bytes limits p a k;
        given_back = given-back;
      }

pub connections-kept : ConnectionsKept
unfolding opened
connections-kept =
    record {
      known = λ family e. feeds-kept (limits_of family) largest_of_all (leb-true 1 (limits_of family).largest e) (lit≤ tt) (limits-most family).packets;
      unknown = λ family c s e. unopened (limits_of family) largest_of_all c s (check-failed (is_known (limits_of family).largest) 19 _ _ e);
    }
