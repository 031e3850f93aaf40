-- Bytes that are fed in one block, and the same bytes one by one.
use Rattle.std.specs.Prelude.{Err, Ok}
use Prim.Native.Nat.{ℕ, zero, suc, ◌+◌, ◌-◌, ◌*◌, ◌≤◌, ◌<◌}
use native.Mathlib.Omega.{arith}
use mathlib.Core.Path.{◌≡◌, refl, sym, ap, ap₂, ◌∙◌, subst}
use mathlib.Core.Bool.{Bool, true, false}
use mathlib.Core.List.{List, [], ◌∷◌, ◌++◌, append_assoc, append-nil}
use lib.ListN.{length, take, drop, get_or, length-append, take-append-drop, get_or-append}
use lib.Seq.{split_at, take-suc, take_all, length-take-le}
use lib.Dec.{leb, eqb}
use borrow.Author.Tests.{le-leb, lt-leb, leb-false}
use Rattle.wire.specs.declared.Limits.{Limits}
use Rattle.wire.specs.declared.Refusal.{Refusal}
use Rattle.wire.specs.Numbers.{number_at, pick}
use Rattle.wire.specs.Answers.{Answer, check_at, on_accepted}
use Rattle.wire.proofs.Accepting.{by_length, on_accepted-accepted}
use Rattle.frame.specs.Frame.{field_length, header}
use Rattle.frame.proofs.FramingLaws.{header-field}
use Rattle.stream.specs.Stream.{Phase, for_login, for_packet, Item, more, settled, refusing, waiting, closed, needed, judged, verdict_by, verdict, next, Taken, after_byte, taken}

-- ---- bytes behind the first eight do not change what is needed

number_append : (s t : List ℕ) (at w : ℕ) → at + w ≤ length s → number_at (s ++ t) at w ≡ number_at s at w
unfolding number_at
number_append s t at zero h = refl
number_append s t at (suc w) h =
    ap₂ (λ (m n : ℕ). m * 256 + n) (number_append s t at w (omega arith)) (get_or-append s t 0 (at + w) (omega arith))

header-append : (largest : ℕ) (s t : List ℕ) → 8 ≤ length s → header largest (s ++ t) ≡ header largest s
unfolding field_length
header-append largest s t h =
    ap₂
    (λ (m n : ℕ). check_at (eqb m 0) 2 0 (check_at (leb 3 n) 3 4 (check_at (leb (n + 12) largest) 3 4 (Ok n))))
    (number_append s t 0 4 (omega arith))
    (number_append s t 4 4 (omega arith))

module _ (limits : Limits) where
  pub needed-long : (s : List ℕ) → 8 ≤ length s → needed limits for_packet s ≡ on_accepted (header limits.largest s) (λ n. Ok (n + 12))
  unfolding needed
  needed-long s h = simp (le-leb 8 (length s) h)

  pub needed-short : (s : List ℕ) → length s < 8 → needed limits for_packet s ≡ Ok 8
  unfolding needed
  needed-short s h = simp (lt-leb 8 (length s) h)

  needed-append : (phase : Phase) (s t : List ℕ) → 8 ≤ length s → needed limits phase (s ++ t) ≡ needed limits phase s
  unfolding needed
  needed-append for_login s t h = refl
  needed-append for_packet s t h =
      needed-long (s ++ t) (omega (arith, length-append s t))
      ∙ ap (λ r. on_accepted r (λ n. Ok (n + 12))) (header-append limits.largest s t h)
      ∙ sym (needed-long s h)

  pub needed-least : (phase : Phase) (s : List ℕ) (n : ℕ) → needed limits phase s ≡ Ok n → 8 ≤ n
  unfolding needed
  needed-least for_login s n e = let same : 17 ≡ n = cc in omega arith
  needed-least for_packet s n e =
      by_length 8 (length s)
      (λ h. let i = on_accepted-accepted (header limits.largest s) _ (sym (needed-long s h) ∙ e) in let same : i.0 + 12 ≡ n = cc i.2 in omega arith)
      (λ h. let same : 8 ≡ n = cc (needed-short s h, e) in omega arith)

  -- ---- which way a verdict goes

  module _ (phase : Phase) (s : List ℕ) where
    pub verdict-more : (n : ℕ) → needed limits phase s ≡ Ok n → length s < n → verdict limits phase s ≡ more
    unfolding verdict verdict_by
    verdict-more n e h = simp (e, lt-leb n (length s) h)

    verdict-judged : (n : ℕ) → needed limits phase s ≡ Ok n → n ≤ length s → verdict limits phase s ≡ settled (judged limits phase s)
    unfolding verdict verdict_by
    verdict-judged n e h = simp (e, le-leb n (length s) h)

    verdict-refused : {r : Refusal} → needed limits phase s ≡ Err r → verdict limits phase s ≡ settled (refusing r)
    unfolding verdict verdict_by
    verdict-refused e = simp e

    -- where more is needed, it is told how many bytes are
    pub more-needed : verdict limits phase s ≡ more → (n : ℕ) × (needed limits phase s ≡ Ok n) × (length s < n)
    unfolding verdict verdict_by
    more-needed e = go (needed limits phase s) refl e
      where
        last : (n : ℕ) (b : Bool) → leb n (length s) ≡ b → pick b (settled (judged limits phase s)) more ≡ more → length s < n
        last n true q e = absurd (let z : ◌≡◌ {A = ℕ} 0 1 = cc in omega arith)
        last n false q e = leb-false n (length s) q

        go : (a : Answer ℕ) → needed limits phase s ≡ a → verdict_by a (length s) (judged limits phase s) ≡ more → (n : ℕ) × (needed limits phase s ≡ Ok n) × (length s < n)
        go (Ok n) q e = (n, q, last n (leb n (length s)) refl e)
        go (Err r) q e = absurd (let z : ◌≡◌ {A = ℕ} 0 1 = cc in omega arith)

  -- fewer bytes than are judged together settle nothing
  short-more : (phase : Phase) (q t : List ℕ) (n : ℕ) → needed limits phase (q ++ t) ≡ Ok n → length q < n → verdict limits phase q ≡ more
  unfolding needed
  short-more for_login q t n e h = verdict-more for_login q 17 refl (let same : 17 ≡ n = cc in omega arith)
  short-more for_packet q t n e h =
      by_length 8 (length q)
      (λ k. verdict-more for_packet q n (sym (needed-append for_packet q t k) ∙ e) h)
      (λ k. verdict-more for_packet q 8 (needed-short q k) k)

  -- nor does less than a header that is refused
  header-more : (phase : Phase) (q t : List ℕ) {r : Refusal} → needed limits phase (q ++ t) ≡ Err r → length q < 8 → verdict limits phase q ≡ more
  unfolding needed
  header-more for_login q t e h = absurd (let z : ◌≡◌ {A = ℕ} 0 1 = cc in omega arith)
  header-more for_packet q t e h = verdict-more for_packet q 8 (needed-short q h) h

  header-long : (phase : Phase) (s : List ℕ) {r : Refusal} → needed limits phase s ≡ Err r → 8 ≤ length s
  unfolding needed
  header-long for_login s e = absurd (let z : ◌≡◌ {A = ℕ} 0 1 = cc in omega arith)
  header-long for_packet s {r} e =
      by_length 8 (length s) (λ h. h) (λ h. absurd (let bad : ◌≡◌ {A = Answer ℕ} (Ok 8) (Err r) = sym (needed-short s h) ∙ e in let z : ◌≡◌ {A = ℕ} 0 1 = cc in omega arith))

  prefix-more : (phase : Phase) (q t : List ℕ) → verdict limits phase (q ++ t) ≡ more → verdict limits phase q ≡ more
  prefix-more phase q t e =
      let n = more-needed phase (q ++ t) e in
      short-more phase q t n.0 n.1 (omega (arith, n.2, length-append q t))

  -- ---- a block of bytes

  pub one_more : (phase : Phase) (held : List ℕ) (b : ℕ) (s : List ℕ) → verdict limits phase (held ++ (b ∷ [])) ≡ more
      → let rest = taken limits phase (held ++ (b ∷ [])) s in
      taken limits phase held (b ∷ s) ≡ record { used = suc rest.used; told = rest.told; state = rest.state }
  unfolding taken after_byte
  one_more phase held b s e = simp e

  pub one-settles : (phase : Phase) (held : List ℕ) (b : ℕ) (s : List ℕ) {i : Item} → verdict limits phase (held ++ (b ∷ [])) ≡ settled i
      → taken limits phase held (b ∷ s) ≡ record { used = 1; told = settled i; state = next i }
  unfolding taken after_byte
  one-settles phase held b s e = simp e

  joined-on : (held : List ℕ) (b : ℕ) (s : List ℕ) → (held ++ (b ∷ [])) ++ s ≡ held ++ (b ∷ s)
  joined-on held b s = append_assoc held (b ∷ []) s

  -- bytes that leave more to be needed are all used
  pub taken_more : (phase : Phase) (s held : List ℕ) → verdict limits phase (held ++ s) ≡ more
      → taken limits phase held s ≡ record { used = length s; told = more; state = waiting phase (held ++ s) }
  unfolding taken
  taken_more phase [] held e = ap (λ (l : List ℕ). record { used = 0; told = more; state = waiting phase l }) (sym (append-nil held))
  taken_more phase (b ∷ s) held e =
      let on = joined-on held b s in
      let all : verdict limits phase ((held ++ (b ∷ [])) ++ s) ≡ more = ap (verdict limits phase) on ∙ e in
      one_more phase held b s (prefix-more phase (held ++ (b ∷ [])) s all)
      ∙ ap (λ (t : Taken). record { used = suc t.used; told = t.told; state = t.state }) (taken_more phase s (held ++ (b ∷ [])) all)
      ∙ ap (λ (l : List ℕ). record { used = suc (length s); told = more; state = waiting phase l }) on

  -- bytes up to the one that settles an item are used, and none after it
  taken-settles : (phase : Phase) (a held : List ℕ) (b : ℕ) (s : List ℕ) {i : Item}
      → verdict limits phase (held ++ a) ≡ more → verdict limits phase (held ++ (a ++ (b ∷ []))) ≡ settled i
      → taken limits phase held (a ++ (b ∷ s)) ≡ record { used = suc (length a); told = settled i; state = next i }
  taken-settles phase [] held b s e k = one-settles phase held b s k
  taken-settles phase (c ∷ a) held b s {i} e k =
      let all : verdict limits phase ((held ++ (c ∷ [])) ++ a) ≡ more = ap (verdict limits phase) (joined-on held c a) ∙ e in
      let end : verdict limits phase ((held ++ (c ∷ [])) ++ (a ++ (b ∷ []))) ≡ settled i = ap (verdict limits phase) (joined-on held c (a ++ (b ∷ []))) ∙ k in
      one_more phase held c (a ++ (b ∷ s)) (prefix-more phase (held ++ (c ∷ [])) a all)
      ∙ ap (λ (t : Taken). record { used = suc t.used; told = t.told; state = t.state }) (taken-settles phase a (held ++ (c ∷ [])) b s all end)

  -- the first `k` bytes settle an item if one fewer leave more to be needed
  taken_at : (phase : Phase) (held s : List ℕ) (k : ℕ) {i : Item} → 1 ≤ k → k ≤ length s
      → verdict limits phase (held ++ take (k - 1) s) ≡ more → verdict limits phase (held ++ take k s) ≡ settled i
      → taken limits phase held s ≡ record { used = k; told = settled i; state = next i }
  taken_at phase held s k {i} low high e h =
      let j = k - 1 in
      let b = get_or s j 0 in
      let inside : j < length s = omega arith in
      let count : suc j ≡ k = omega arith in
      let front : take k s ≡ take j s ++ (b ∷ []) = ap (λ (n : ℕ). take n s) (sym count) ∙ take-suc s j 0 inside in
      let size : suc (length (take j s)) ≡ k = omega (arith, length-take-le j s (omega arith)) in
      ap (taken limits phase held) (split_at s j 0 inside)
      ∙ taken-settles phase (take j s) held b (drop (suc j) s) e (ap (λ (l : List ℕ). verdict limits phase (held ++ l)) (sym front) ∙ h)
      ∙ ap (λ (n : ℕ). record { used = n; told = settled i; state = next i }) size

  -- ---- one feed, by what the bytes held and fed tell together

  cut : (held s : List ℕ) (k : ℕ) → held ++ s ≡ (held ++ take k s) ++ drop k s
  cut held s k = ap (λ (l : List ℕ). held ++ l) (sym (take-append-drop k s)) ∙ sym (append_assoc held (take k s) (drop k s))

  length_front : (held s : List ℕ) (k : ℕ) → k ≤ length s → length (held ++ take k s) ≡ length held + k
  length_front held s k h = omega (arith, length-append held (take k s), length-take-le k s h)

  -- they are too few
  pub feed-more : (phase : Phase) (held s : List ℕ) (n : ℕ) → needed limits phase (held ++ s) ≡ Ok n → length held + length s < n
      → taken limits phase held s ≡ record { used = length s; told = more; state = waiting phase (held ++ s) }
  feed-more phase held s n e h = taken_more phase s held (verdict-more phase (held ++ s) n e (omega (arith, length-append held s)))

  -- they are enough: the first so many are judged
  pub feed-judged : (phase : Phase) (held s : List ℕ) (n k : ℕ) → needed limits phase (held ++ s) ≡ Ok n → length held + k ≡ n → 1 ≤ k → k ≤ length s
      → let i = judged limits phase (held ++ take k s) in taken limits phase held s ≡ record { used = k; told = settled i; state = next i }
  feed-judged phase held s n k e size low high =
      let j = k - 1 in
      let front = held ++ take k s in
      let least = needed-least phase (held ++ s) n e in
      let long = length_front held s k high in
      let before : length (held ++ take j s) < n = omega (arith, length_front held s j (omega arith)) in
      taken_at phase held s k low high
      (short-more phase (held ++ take j s) (drop j s) n (ap (needed limits phase) (sym (cut held s j)) ∙ e) before)
      (verdict-judged phase front n (sym (needed-append phase front (drop k s) (omega arith)) ∙ ap (needed limits phase) (sym (cut held s k)) ∙ e) (omega arith))

  -- their header is refused
  pub feed-refused : (phase : Phase) (held s : List ℕ) (k : ℕ) {r : Refusal} → needed limits phase (held ++ s) ≡ Err r → length held + k ≡ 8 → 1 ≤ k
      → taken limits phase held s ≡ record { used = k; told = settled (refusing r); state = closed }
  unfolding next
  feed-refused phase held s k e size low =
      let j = k - 1 in
      let front = held ++ take k s in
      let whole = header-long phase (held ++ s) e in
      let high : k ≤ length s = omega (arith, length-append held s) in
      let long = length_front held s k high in
      let before : length (held ++ take j s) < 8 = omega (arith, length_front held s j (omega arith)) in
      taken_at phase held s k low high
      (header-more phase (held ++ take j s) (drop j s) (ap (needed limits phase) (sym (cut held s j)) ∙ e) before)
      (verdict-refused phase front (sym (needed-append phase front (drop k s) (omega arith)) ∙ ap (needed limits phase) (sym (cut held s k)) ∙ e))

  -- a header is refused only where its eight bytes are not all held
  pub refused-early : (phase : Phase) (held s : List ℕ) {r : Refusal} → verdict limits phase held ≡ more → needed limits phase (held ++ s) ≡ Err r → length held < 8
  refused-early phase held s {r} e h =
      by_length 8 (length held)
      (λ k. let n = more-needed phase held e in absurd (let bad : ◌≡◌ {A = Answer ℕ} (Ok n.0) (Err r) = sym n.1 ∙ sym (needed-append phase held s k) ∙ h in let z : ◌≡◌ {A = ℕ} 0 1 = cc in omega arith))
      (λ k. k)

  -- ---- how many bytes are judged together

  pub needed-most : (room : ℕ) → 17 ≤ room → limits.largest ≤ room → (phase : Phase) (s : List ℕ) (n : ℕ) → needed limits phase s ≡ Ok n → n ≤ room
  unfolding needed
  needed-most room low high for_login s n e = let same : 17 ≡ n = cc in omega arith
  needed-most room low high for_packet s n e =
      by_length 8 (length s)
      (λ h.
      let i = on_accepted-accepted (header limits.largest s) _ (sym (needed-long s h) ∙ e) in
      let f = header-field limits.largest s i.0 i.1 in
      let same : i.0 + 12 ≡ n = cc i.2 in
      omega (arith, f.2, same))
      (λ h. let same : 8 ≡ n = cc (needed-short s h, e) in omega arith)

  -- what is held while more is needed is less than that
  pub held-less : (phase : Phase) (held s : List ℕ) (n : ℕ) → verdict limits phase held ≡ more → needed limits phase (held ++ s) ≡ Ok n → length held < n
  held-less phase held s n e k =
      by_length 8 (length held)
      (λ h.
      let m = more-needed phase held e in
      let same : m.0 ≡ n = cc (m.1, needed-append phase held s h, k) in
      omega (arith, m.2, same))
      (λ h. omega (arith, h, needed-least phase (held ++ s) n k))

  -- the first eight bytes tell it
  pub needed-front : (phase : Phase) (held s : List ℕ) (k : ℕ) → k ≤ length s → (length held + k < 8 → k ≡ length s) → needed limits phase (held ++ take k s) ≡ needed limits phase (held ++ s)
  needed-front phase held s k h few =
      by_length 8 (length held + k)
      (λ j. sym (needed-append phase (held ++ take k s) (drop k s) (omega (arith, length_front held s k h))) ∙ ap (needed limits phase) (sym (cut held s k)))
      (λ j. ap (λ (l : List ℕ). needed limits phase (held ++ l)) (take_all k s (omega (arith, few j))))

  pub header-length : (phase : Phase) (held s : List ℕ) {r : Refusal} → needed limits phase (held ++ s) ≡ Err r → 8 ≤ length held + length s
  header-length phase held s e = omega (arith, header-long phase (held ++ s) e, length-append held s)

  -- an item has more bytes than a header
  pub item-long : (phase : Phase) (s : List ℕ) (n : ℕ) → needed limits phase s ≡ Ok n → n ≤ length s → 9 ≤ n
  unfolding needed
  item-long for_login s n e k = let same : 17 ≡ n = cc e in omega arith
  item-long for_packet s n e k =
      by_length 8 (length s)
      (λ h. let i = on_accepted-accepted (header limits.largest s) _ (sym (needed-long s h) ∙ e) in let same : i.0 + 12 ≡ n = cc i.2 in omega arith)
      (λ h. let same : 8 ≡ n = cc (needed-short s h, e) in omega arith)

  -- as long as there are fewer bytes than are judged together, more is needed
  pub still-more : (phase : Phase) (held s : List ℕ) (n : ℕ) → needed limits phase held ≡ Ok n → length held + length s < n → verdict limits phase (held ++ s) ≡ more
  unfolding needed
  still-more for_login held s n e h = verdict-more for_login (held ++ s) n e (omega (arith, h, length-append held s))
  still-more for_packet held s n e h =
      let less : length (held ++ s) < n = omega (arith, h, length-append held s) in
      by_length 8 (length held)
      (λ k. verdict-more for_packet (held ++ s) n (needed-append for_packet held s k ∙ e) less)
      (λ k.
      let eight : 8 ≡ n = cc (needed-short held k, e) in
      let short : length (held ++ s) < 8 = omega (arith, less, eight) in
      verdict-more for_packet (held ++ s) 8 (needed-short (held ++ s) short) short)

  -- ---- the three ways in which a feed ends, where more was needed before

  pub by-feed : (P : Taken → Type 0) (phase : Phase) (held s : List ℕ) → verdict limits phase held ≡ more
      → ((r : Refusal) (k : ℕ) → P (record { used = k; told = settled (refusing r); state = closed }))
      → ((n k : ℕ) → needed limits phase (held ++ s) ≡ Ok n → length held + k ≡ n → k ≤ length s
      → let i = judged limits phase (held ++ take k s) in P (record { used = k; told = settled i; state = next i }))
      → P (record { used = length s; told = more; state = waiting phase (held ++ s) })
      → P (taken limits phase held s)
  by-feed P phase held s waits bad good few = go (needed limits phase (held ++ s)) refl
    where
      go : (r : Answer ℕ) → needed limits phase (held ++ s) ≡ r → P (taken limits phase held s)
      go (Err r) e =
          let early = refused-early phase held s waits e in
          let k = 8 - length held in
          subst P (sym (feed-refused phase held s k e (omega (arith, early)) (omega (arith, early)))) (bad r k)
      go (Ok n) e =
          let less = held-less phase held s n waits e in
          let k = n - length held in
          by_length n (length held + length s)
          (λ h.
          let whole : length held + k ≡ n = omega (arith, less) in
          let within : k ≤ length s = omega (arith, h) in
          subst P (sym (feed-judged phase held s n k e whole (omega (arith, less)) within)) (good n k e whole within))
          (λ h. subst P (sym (feed-more phase held s n e h)) few)
