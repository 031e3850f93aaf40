-- Which way the walk over a command's body goes: the type, the size, then the IMEI, the time and the text.
use Rattle.std.specs.Prelude.{Ok}
use Prim.Native.Nat.{ℕ, ◌+◌, ◌-◌, ◌≤◌, ◌<◌}
use native.Mathlib.Omega.{arith}
use mathlib.Core.Path.{◌≡◌, sym, ap, ap₂, ◌∙◌}
use mathlib.Core.Bool.{true, false}
use mathlib.Core.List.{List}
use lib.ListN.{length, take, drop, get_or, length-drop}
use lib.Dec.{eqb, leb}
use lib.Seq.{length-take-le}
use borrow.Author.Tests.{le-leb, lt-leb, eq-eqb, ne_eqb}
use Rattle.wire.specs.declared.Refusal.{Refusal}
use Rattle.wire.specs.Numbers.{Bytes, number_at}
use Rattle.wire.specs.Reading.{Reader, got, bad, ◌>>=◌, ◌>>◌, pure, here, require, number, bytes}
use Rattle.wire.specs.Imei.{read_packed}
use Rattle.wire.proofs.Exactness.{then-got, here-got, require-got}
use Rattle.wire.proofs.Walking.{short, then-bad, number-there, number-missing, bytes-got, require-bad}
use Rattle.wire.proofs.Shifts.{number-one}
use Rattle.wire.proofs.ImeiPacked.{packed-exact, length-packed}
use Rattle.command.specs.declared.Layout.{Layout}
use Rattle.command.specs.Layouts.{types, heading, member}
use Rattle.command.specs.Commands.{Command, mismatch, command_body}
use Rattle.command.specs.Walks.{body_as}

-- a rule that is broken
abbrev pub broken : ℕ → ℕ → Refusal
broken number place = record { number = number; index = 0; place = place }

-- what is read behind the time
abbrev after_time : Layout → ℕ → ℕ → ℕ → ℕ → Reader Command
after_time l type size imei time = do
  text_at ← here
  text ← bytes (size - heading l)
  require (mismatch type text) 14 text_at
  pure (record { codec = l.codec; type = type; imei = imei; time = time; text = text })

-- what is read behind the size
abbrev after_size : Layout → ℕ → ℕ → Reader Command
after_size l type size = do
  imei ← read_packed l.imei
  time ← number l.time
  after_time l type size imei time

-- what is read behind the number that is the size
abbrev after_number : Layout → ℕ → ℕ → ℕ → Reader Command
after_number l space type size = do
  start ← here
  require (eqb (start + size) space) 14 1
  require (leb (heading l) size) 14 1
  after_size l type size

module _ (l : Layout) (s : List ℕ) where
  pub type-missing : length s < 1 → command_body l (length s) s 0 ≡ bad (short 0)
  unfolding command_body
  type-missing h = here-got _ s 0 ∙ number-missing _ s 0 1 h

  pub type-wrong : 1 ≤ length s → member (get_or s 0 0) (types l) ≡ false → command_body l (length s) s 0 ≡ bad (broken 13 0)
  unfolding command_body
  type-wrong h e = here-got _ s 0 ∙ number-there _ s 0 1 h ∙ require-bad _ 13 0 _ s 1 (ap (λ (t : ℕ). member t (types l)) (number-one s 0) ∙ e)

  module _ (some : 1 ≤ length s) (allowed : member (get_or s 0 0) (types l) ≡ true) where
    type-allowed : member (number_at s 0 1) (types l) ≡ true
    type-allowed = ap (λ (t : ℕ). member t (types l)) (number-one s 0) ∙ allowed

    pub size-missing : length s < 5 → command_body l (length s) s 0 ≡ bad (short 1)
    unfolding command_body
    size-missing h = here-got _ s 0 ∙ number-there _ s 0 1 some ∙ require-got _ 13 0 _ s 1 type-allowed ∙ here-got _ s 1 ∙ number-missing _ s 1 4 h

    module _ (there : 5 ≤ length s) {size : ℕ} (counted : size ≡ number_at s 1 4) where
      size-read : command_body l (length s) s 0 ≡ after_number l (length s) (get_or s 0 0) size s 5
      unfolding command_body
      size-read =
          here-got _ s 0 ∙ number-there _ s 0 1 some ∙ require-got _ 13 0 _ s 1 type-allowed ∙ here-got _ s 1 ∙ number-there _ s 1 4 there
          ∙ ap₂ (λ (t n : ℕ). after_number l (length s) t n s 5) (number-one s 0) (sym counted)

      pub size-wrong : (5 + size ≡ length s → ⊥) → command_body l (length s) s 0 ≡ bad (broken 14 1)
      size-wrong e = size-read ∙ here-got _ s 5 ∙ require-bad _ 14 1 _ s 5 (ne_eqb _ _ e)

      module _ (filled : 5 + size ≡ length s) where
        pub size_small : size < heading l → command_body l (length s) s 0 ≡ bad (broken 14 1)
        size_small h = size-read ∙ here-got _ s 5 ∙ require-got _ 14 1 _ s 5 (eq-eqb _ _ filled) ∙ require-bad _ 14 1 _ s 5 (lt-leb _ _ h)

        module _ (room : heading l ≤ size) where
          size-there : command_body l (length s) s 0 ≡ after_size l (get_or s 0 0) size s 5
          size-there = size-read ∙ here-got _ s 5 ∙ require-got _ 14 1 _ s 5 (eq-eqb _ _ filled) ∙ require-got _ 14 1 _ s 5 (le-leb _ _ room)

          pub imei-wrong : {x : Refusal} → read_packed l.imei s 5 ≡ bad x → command_body l (length s) s 0 ≡ bad x
          imei-wrong e = size-there ∙ then-bad (read_packed l.imei) _ s 5 e

          module _ {imei next : ℕ} (read : read_packed l.imei s 5 ≡ got imei next) (end : next ≡ 5 + l.imei) where
            abbrev start : ℕ
            start = next + l.time

            abbrev text : List ℕ
            text = take (5 + size - start) (drop start s)

            time-there : command_body l (length s) s 0 ≡ after_time l (get_or s 0 0) size imei (number_at s next l.time) s start
            time-there = size-there ∙ then-got (read_packed l.imei) _ s 5 read ∙ number-there _ s next l.time (omega arith)

            text-got : bytes (size - heading l) s start ≡ got text (length s)
            text-got =
                let long : size - heading l ≡ 5 + size - start = omega arith in
                let whole : start + (5 + size - start) ≡ length s = omega arith in
                ap (λ (n : ℕ). bytes n s start) long ∙ bytes-got _ s start (omega arith) ∙ ap (got text) whole

            pub text-wrong : mismatch (get_or s 0 0) text ≡ false → command_body l (length s) s 0 ≡ bad (broken 14 start)
            text-wrong e = time-there ∙ here-got _ s start ∙ then-got (bytes _) _ s start text-got ∙ require-bad _ 14 start _ s _ e

            pub text-there : mismatch (get_or s 0 0) text ≡ true
                → body_as (command_body l (length s) s 0) ≡ Ok (record { kind = (get_or s 0 0); imei = imei; time = (number_at s next l.time); size = (5 + size - start) })
            unfolding pure body_as
            text-there e =
                let room : 5 + size - start ≤ length (drop start s) = omega (arith, length-drop start s) in
                let long : length text ≡ 5 + size - start = length-take-le _ (drop start s) room in
                ap body_as (time-there ∙ here-got _ s start ∙ then-got (bytes _) _ s start text-got ∙ require-got _ 14 start _ s _ e)
                ∙ ap (λ (n : ℕ). Ok (record { kind = get_or s 0 0; imei = imei; time = number_at s next l.time; size = n })) long

-- where the IMEI ends
pub imei-end : (w : ℕ) (s : List ℕ) {imei next : ℕ} → Bytes s → 5 ≤ length s → read_packed w s 5 ≡ got imei next → next ≡ 5 + w
imei-end w s {imei} {next} h there read =
    let k = ((packed-exact w).sound s 5 h there).if-got imei next read in
    k.0.size ∙ ap (λ (n : ℕ). 5 + n) (length-packed w imei)
