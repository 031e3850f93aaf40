-- What holds of the limits of every family.
use Prim.Native.Nat.{ℕ, ◌≤◌, ◌<◌}
use native.Mathlib.Omega.{arith}
use mathlib.Core.Path.{◌≡◌}
use mathlib.Core.Bool.{true}
use lib.Dec.{eqb, lit≤}
use borrow.Author.Tests.{ne_eqb}
use Rattle.wire.specs.declared.Limits.{Limits}
use Rattle.wire.specs.Limits.{largest_of_all, limits_of, is_known, Below}
use Rattle.wire.proofs.Accepting.{pick-either, by_length}

-- none is above the largest of all
pub record Most (limits : Limits) : Type 0 where
  pub packets : limits.largest ≤ largest_of_all
  pub datagrams : limits.datagram ≤ largest_of_all
  pub records : limits.longest ≤ largest_of_all

pub limits-most : (family : ℕ) → Most (limits_of family)
unfolding limits_of
limits-most family =
    pick-either Most (eqb family 1) _ _
    (record { packets = lit≤ tt; datagrams = lit≤ tt; records = lit≤ tt })
    (pick-either Most (eqb family 2) _ _ (record { packets = lit≤ tt; datagrams = lit≤ tt; records = lit≤ tt }) (record { packets = lit≤ tt; datagrams = lit≤ tt; records = lit≤ tt }))

-- a family that is known has room for a login
abbrev Known : Limits → Type 0
Known limits = is_known limits.largest ≡ true → 17 ≤ limits.largest

pub limits-known : (family : ℕ) → Known (limits_of family)
unfolding limits_of
limits-known family =
    pick-either Known (eqb family 1) _ _
    (λ e. lit≤ tt)
    (pick-either Known (eqb family 2) _ _ (λ e. lit≤ tt) (λ e. absurd (let z : ◌≡◌ {A = ℕ} 0 1 = cc e in omega arith)))

-- and its number fits a byte
pub known_small : (family : ℕ) → 1 ≤ (limits_of family).largest → family < 256
unfolding limits_of
known_small family h =
    by_length 256 family
    (λ big. absurd (let none : (limits_of family).largest ≡ 0 = simp (ne_eqb family 1 (λ e. omega (arith, e, big)), ne_eqb family 2 (λ e. omega (arith, e, big))) in omega (arith, none, h)))
    (λ small. small)

-- family 2 allows what family 1 does
pub first-second : Below (limits_of 1) (limits_of 2)
unfolding limits_of
first-second = record { packets = lit≤ tt; datagrams = lit≤ tt; records = lit≤ tt }
