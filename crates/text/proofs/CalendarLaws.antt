-- Years and months that have passed, and the days that are left.
use Prim.Native.Nat.{ℕ, zero, suc, ◌+◌, ◌-◌, ◌*◌, ◌%◌, ◌≤◌, ◌<◌}
use native.Mathlib.Omega.{arith}
use mathlib.Core.Path.{◌≡◌, refl}
use mathlib.Core.Bool.{Bool, true, false}
use lib.Dec.{eqb}
use Rattle.wire.specs.Numbers.{pick}
use Rattle.text.specs.declared.Date.{Date}
use Rattle.text.specs.Calendar.{leap_day, year_days, month_days, years_long, months_long, InYear, DateOf}

one-or-none : (a b c : Bool) → pick a 1 (pick b 0 (pick c 1 0)) ≤ 1
one-or-none true b c = omega arith
one-or-none false true c = omega arith
one-or-none false false true = omega arith
one-or-none false false false = omega arith

pub leap_small : (year : ℕ) → leap_day year ≤ 1
unfolding leap_day
leap_small year = one-or-none (eqb (year % 400) 0) (eqb (year % 100) 0) (eqb (year % 4) 0)

-- a year is its twelve months
twelve : (year : ℕ) → months_long year 11 + month_days year 12 ≡ year_days year
unfolding months_long month_days
twelve year = omega arith

module _ (year : ℕ) where
  pub month-turn : (month left rest : ℕ) → 1 ≤ month → month_days year month ≤ left → months_long year (month - 1) + left ≡ rest
      → months_long year (month + 1 - 1) + (left - month_days year month) ≡ rest
  unfolding months_long
  month-turn zero left rest one h e = absurd (omega arith)
  month-turn (suc m) left rest one h e =
      let now : suc m + 1 - 1 ≡ suc m = omega arith in
      let before : suc m - 1 ≡ m = omega arith in
      rw now (omega (arith, rw before at e))

  pub month-done : (month left rest : ℕ) → 1 ≤ month → month ≤ 12 → months_long year (month - 1) + left ≡ rest → left < month_days year month
      → InYear year rest (record { year = year; month = month; day = left + 1 })
  month-done month left rest one most e h = record { same = refl; month = (one, most); day = (omega arith, omega arith); number = omega arith }

  -- what is left behind eleven months is in the last
  pub december : (left rest : ℕ) → rest < year_days year → months_long year 11 + left ≡ rest → InYear year rest (record { year = year; month = 12; day = left + 1 })
  december left rest h e = month-done 12 left rest (omega arith) (omega arith) e (omega (arith, twelve year))

pub year-turn : (year rest days : ℕ) → 1970 ≤ year → year_days year ≤ rest → years_long (year - 1970) + rest ≡ days
    → years_long (year + 1 - 1970) + (rest - year_days year) ≡ days
unfolding years_long
year-turn year rest days from h e =
    let now : year + 1 - 1970 ≡ suc (year - 1970) = omega arith in
    let same : 1970 + (year - 1970) ≡ year = omega arith in
    rw (now, same) (omega arith)

pub years-long : (years : ℕ) → 365 * years ≤ years_long years
unfolding years_long
years-long zero = omega arith
years-long (suc n) = omega (arith, years-long n)

pub date-in : (year rest days : ℕ) (d : Date) → 1970 ≤ year → years_long (year - 1970) + rest ≡ days → InYear year rest d → DateOf days d
date-in year rest days d from e in-year =
    let same = in-year.same in
    record {
      from = omega arith;
      month = in-year.month;
      day = rw same in-year.day;
      number = rw same (omega (arith, in-year.number));
    }
