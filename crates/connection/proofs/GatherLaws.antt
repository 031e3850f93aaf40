-- Bytes gathered behind those held: what each of the three ways that it ends leaves.
use Rattle.wire.specs.declared.Refusal.{Refusal}
use Rattle.std.specs.Prelude.{Err, Ok}
use Prim.Native.Nat.{ℕ, ◌+◌, ◌-◌, ◌≤◌, ◌<◌}
use native.Mathlib.Omega.{arith}
use mathlib.Core.Path.{◌≡◌, refl, sym, ap, ap₂, ◌∙◌}
use mathlib.Core.List.{List, [], ◌++◌, append-nil}
use lib.ListN.{length, take, drop, length-append}
use lib.Seq.{sets, length-sets, take-length, length-take-le}
use borrow.Author.Tests.{eq-eqb, ne_eqb}
use Rattle.wire.specs.declared.Limits.{Limits}
use Rattle.wire.proofs.Accepting.{by_length}
use Rattle.stream.specs.Stream.{Item, login, packet, refusing, more, settled, waiting, closed, needed, judged, next, taken}
use Rattle.stream.proofs.StreamLaws.{needed-least, item-long, needed-most, needed-front, header-length, held-less, feed-more, feed-judged, feed-refused, refused-early}
use Rattle.connection.specs.State.{Gathered, zeros, padded, phase_number, kept, phase_of, held_by}
use Rattle.connection.specs.Feeding.{Feedable}
use Rattle.connection.proofs.PaddedLaws.{front-part, take-padded, store-padded, clear-padded}
use Rattle.connection.proofs.OpenLaws.{held-length, held-padded, Open, open_is}

pub phase-back : (n : ℕ) → n ≤ 1 → phase_number (phase_of n) ≡ n
unfolding phase_number phase_of
phase-back n h = by_length 1 n (λ k. simp (ne_eqb n 0 (λ e. omega arith)) (omega arith)) (λ k. simp (eq-eqb n 0 (omega arith)) (omega arith))

-- nothing is held behind an item
pub next-held : (room : ℕ) (i : Item) → (kept room (next i)).held ≡ padded room []
unfolding kept next
next-held room (login imei) = refl
next-held room (packet p) = refl
next-held room (refusing r) = refl

module _ {limits : Limits} {room : ℕ} {c : Gathered} {out : List ℕ} (able : Feedable limits room c out) (s : List ℕ) (small : 17 ≤ room)
    (front : ℕ) (rest : front ≡ length s - (length s - (8 - c.fill))) where
  is : Open limits room c
  is = (open_is limits room c able.opens).0

  pub filled : length (held_by c) ≡ c.fill
  filled = held-length limits room c is.size is.fill

  pub front_fits : (c.fill + front ≤ room) × (front ≤ length s)
  front_fits = (omega (arith, rest, is.fill), omega (arith, rest))

  part_length : length (take (front - 0) (drop 0 s)) ≡ front
  part_length = ap length (front-part s front) ∙ length-take-le front s front_fits.1

  pub front-room : c.fill + length (take (front - 0) (drop 0 s)) ≤ length c.held
  front-room = omega (arith, part_length, front_fits, is.size)

  module _ (stored : List ℕ) (store : stored ≡ sets c.held c.fill (take (front - 0) (drop 0 s))) where
    pub stored-room : (length stored ≡ room) × (c.fill + front ≤ length stored)
    stored-room = let size : length stored ≡ room = ap length store ∙ length-sets c.held c.fill (take (front - 0) (drop 0 s)) ∙ is.size in (size, omega (arith, size, front_fits))

    stored_is : stored ≡ padded room (held_by c ++ take front s)
    stored_is =
        let h = held_by c in
        store
        ∙ ap₂ (λ (l m : List ℕ). sets l c.fill m) (held-padded limits room c is ∙ ap (padded room) (sym (append-nil h))) (front-part s front)
        ∙ ap (λ (k : ℕ). sets (padded room (h ++ [])) k (take front s)) (sym filled)
        ∙ store-padded room h [] (take front s) (omega arith) (omega (arith, filled, front_fits, length-take-le front s front_fits.1))

    -- the part that tells how many bytes are judged together
    part-is : take (c.fill + front - 0) (drop 0 stored) ≡ held_by c ++ take front s
    part-is =
        let size : c.fill + front ≡ length (held_by c ++ take front s) = omega (arith, filled, length-append (held_by c) (take front s), length-take-le front s front_fits.1) in
        front-part stored (c.fill + front)
        ∙ ap₂ (λ (k : ℕ) (l : List ℕ). take k l) size stored_is
        ∙ take-padded room (held_by c ++ take front s)

    tells : needed limits (phase_of c.phase) (take (c.fill + front - 0) (drop 0 stored)) ≡ needed limits (phase_of c.phase) (held_by c ++ s)
    tells = ap (needed limits (phase_of c.phase)) part-is ∙ needed-front limits (phase_of c.phase) (held_by c) s front front_fits.1 (λ h. omega (arith, rest, h, filled))

    -- ---- the header is refused

    module _ (x : Refusal) (e : needed limits (phase_of c.phase) (take (c.fill + front - 0) (drop 0 stored)) ≡ Err x) where
      bad : needed limits (phase_of c.phase) (held_by c ++ s) ≡ Err x
      bad = sym tells ∙ e

      pub header-taken : taken limits (phase_of c.phase) (held_by c) s ≡ record { used = front; told = settled (refusing x); state = closed }
      header-taken =
          let early = refused-early limits (phase_of c.phase) (held_by c) s is.waits bad in
          let long = header-length limits (phase_of c.phase) (held_by c) s bad in
          feed-refused limits (phase_of c.phase) (held_by c) s front bad (omega (arith, rest, filled, early, long)) (omega (arith, rest, filled, early, long))

      pub header-cleared : sets stored 0 (zeros (c.fill + front)) ≡ padded room []
      header-cleared =
          ap (λ (l : List ℕ). sets l 0 (zeros (c.fill + front))) stored_is
          ∙ clear-padded room (held_by c ++ take front s) (c.fill + front) (omega (arith, filled, length-append (held_by c) (take front s), length-take-le front s front_fits.1)) front_fits.0

    module _ (n : ℕ) (e : needed limits (phase_of c.phase) (take (c.fill + front - 0) (drop 0 stored)) ≡ Ok n) where
      good : needed limits (phase_of c.phase) (held_by c ++ s) ≡ Ok n
      good = sym tells ∙ e

      pub judged-within : (c.fill < n) × (n ≤ room) × (8 ≤ n)
      judged-within = (
        omega (arith, filled, held-less limits (phase_of c.phase) (held_by c) s n is.waits good),
        needed-most limits room small able.holds (phase_of c.phase) (held_by c ++ s) n good,
        needed-least limits (phase_of c.phase) (held_by c ++ s) n good,
      )

      again : (k : ℕ) → k ≤ length s → front ≤ k → c.fill + k ≤ room → sets stored c.fill (take k s) ≡ padded room (held_by c ++ take k s)
      again k within wider fits =
          ap₂ (λ (l : List ℕ) (at : ℕ). sets l at (take k s)) stored_is (sym filled)
          ∙ store-padded room (held_by c) (take front s) (take k s)
          (omega (arith, length-take-le front s front_fits.1, length-take-le k s within, wider))
          (omega (arith, filled, length-take-le k s within, fits))

      -- ---- they are too few

      module _ (few : length s < n - c.fill) where
        pub few-taken : taken limits (phase_of c.phase) (held_by c) s ≡ record { used = length s; told = more; state = waiting (phase_of c.phase) (held_by c ++ s) }
        few-taken = feed-more limits (phase_of c.phase) (held_by c) s n good (omega (arith, filled, few))

        pub few-stored : sets stored c.fill s ≡ padded room (held_by c ++ s)
        few-stored =
            ap (sets stored c.fill) (sym (take-length s))
            ∙ again (length s) (omega arith) front_fits.1 (omega (arith, few, judged-within.1))
            ∙ ap (λ (l : List ℕ). padded room (held_by c ++ l)) (take-length s)

        pub few-filled : c.fill + length s ≡ length (held_by c ++ s)
        few-filled = omega (arith, filled, length-append (held_by c) s)

        pub few-fit : c.fill + length s ≤ room
        few-fit = omega (arith, few, judged-within.1)

      -- ---- they are enough

      pub rest-room : n - c.fill ≤ length s → c.fill + length (take (n - c.fill - 0) (drop 0 s)) ≤ length stored
      rest-room enough = omega (arith, ap length (front-part s (n - c.fill)), length-take-le (n - c.fill) s enough, stored-room, judged-within)

      module _ (enough : n - c.fill ≤ length s) (whole : List ℕ) (store' : whole ≡ sets stored c.fill (take (n - c.fill - 0) (drop 0 s))) where
        pub whole_room : n ≤ length whole
        whole_room = omega (arith, ap length store', length-sets stored c.fill (take (n - c.fill - 0) (drop 0 s)), stored-room, judged-within)

        pub enough-taken : let i = judged limits (phase_of c.phase) (held_by c ++ take (n - c.fill) s) in
            taken limits (phase_of c.phase) (held_by c) s ≡ record { used = n - c.fill; told = settled i; state = next i }
        enough-taken =
            feed-judged limits (phase_of c.phase) (held_by c) s n (n - c.fill) good (omega (arith, filled, judged-within.0)) (omega (arith, judged-within.0)) enough

        whole_is : whole ≡ padded room (held_by c ++ take (n - c.fill) s)
        whole_is = store' ∙ ap (sets stored c.fill) (front-part s (n - c.fill)) ∙ again (n - c.fill) enough (omega (arith, rest, judged-within)) (omega (arith, judged-within))

        length-item : length (held_by c ++ take (n - c.fill) s) ≡ n
        length-item = omega (arith, filled, judged-within.0, length-append (held_by c) (take (n - c.fill) s), length-take-le (n - c.fill) s enough)

        pub enough-part : take (n - 0) (drop 0 whole) ≡ held_by c ++ take (n - c.fill) s
        enough-part =
            front-part whole n
            ∙ ap₂ (λ (k : ℕ) (l : List ℕ). take k l) (sym length-item) whole_is
            ∙ take-padded room (held_by c ++ take (n - c.fill) s)

        pub enough-cleared : sets whole 0 (zeros n) ≡ padded room []
        enough-cleared = ap (λ (l : List ℕ). sets l 0 (zeros n)) whole_is ∙ clear-padded room (held_by c ++ take (n - c.fill) s) n (omega (arith, length-item)) judged-within.1

        pub part-long : (9 ≤ length (take (n - 0) (drop 0 whole))) × (length (take (n - 0) (drop 0 whole)) ≤ length out)
        part-long =
            let size : length (take (n - 0) (drop 0 whole)) ≡ n = ap length enough-part ∙ length-item in
            let long = item-long limits (phase_of c.phase) (held_by c ++ s) n good (omega (arith, enough, filled, length-append (held_by c) s)) in
            (omega (arith, size, long), omega (arith, size, needed-most limits limits.largest able.login (omega arith) (phase_of c.phase) (held_by c ++ s) n good, able.fits))

-- ---- nothing is held, and the item is whole in the bytes

module _ {limits : Limits} {room : ℕ} {c : Gathered} {out : List ℕ} (able : Feedable limits room c out) (s : List ℕ) (small : 17 ≤ room)
    (empty : c.fill ≡ 0) (n : ℕ) (e : needed limits (phase_of c.phase) s ≡ Ok n) (enough : n ≤ length s) where
  none-held : held_by c ≡ []
  unfolding held_by
  none-held = ap (λ (k : ℕ). take k c.held) empty

  tells_all : needed limits (phase_of c.phase) s ≡ Ok n
  tells_all = e

  long : 9 ≤ n
  long = item-long limits (phase_of c.phase) s n tells_all enough

  pub at-once-part : (9 ≤ length (take (n - 0) (drop 0 s))) × (length (take (n - 0) (drop 0 s)) ≤ length out)
  at-once-part =
      let size : length (take (n - 0) (drop 0 s)) ≡ n = ap length (front-part s n) ∙ length-take-le n s enough in
      (omega (arith, size, long), omega (arith, size, needed-most limits limits.largest able.login (omega arith) (phase_of c.phase) s n tells_all, able.fits))

  pub at-once-taken : let i = judged limits (phase_of c.phase) (take (n - 0) (drop 0 s)) in
      taken limits (phase_of c.phase) (held_by c) s ≡ record { used = n; told = settled i; state = next i }
  at-once-taken =
      let ph = phase_of c.phase in
      let zero-long : length (held_by c) ≡ 0 = ap length none-held in
      feed-judged limits ph (held_by c) s n n (ap (λ (l : List ℕ). needed limits ph (l ++ s)) none-held ∙ tells_all) (omega (arith, zero-long)) (omega (arith, long)) enough
      ∙ ap (λ (l : List ℕ). record { used = n; told = settled (judged limits ph l); state = next (judged limits ph l) })
      (ap (λ (l : List ℕ). l ++ take n s) none-held ∙ sym (front-part s n))

  pub at-once-held : (i : Item) → c.held ≡ (kept room (next i)).held
  at-once-held i = held-padded limits room c (open_is limits room c able.opens).0 ∙ ap (padded room) none-held ∙ sym (next-held room i)
