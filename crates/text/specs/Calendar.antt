-- The Gregorian calendar: a date, and how many days after the first of January 1970 it is.
use Rattle.std.specs.Prelude.{ℕ, zero, suc, ◌+◌, ◌-◌, ◌%◌, ◌≤◌, ◌≡◌, eqb}
use Rattle.wire.specs.Numbers.{pick}
use Rattle.text.specs.declared.Date.{Date}

-- 1 in a leap year, else 0
unfoldable pub leap_day : ℕ → ℕ
leap_day year = pick (eqb (year % 400) 0) 1 (pick (eqb (year % 100) 0) 0 (pick (eqb (year % 4) 0) 1 0))

abbrev pub year_days : ℕ → ℕ
year_days year = 365 + leap_day year

unfoldable pub month_days : ℕ → ℕ → ℕ
month_days year month =
    pick (eqb month 2) (28 + leap_day year)
    (pick (eqb month 4) 30 (pick (eqb month 6) 30 (pick (eqb month 9) 30 (pick (eqb month 11) 30 31))))

-- the days of n years from 1970 on
unfoldable pub years_long : ℕ → ℕ
years_long zero = 0
years_long (suc n) = years_long n + year_days (1970 + n)

-- the days of a year's first n months
unfoldable pub months_long : ℕ → ℕ → ℕ
months_long year zero = 0
months_long year (suc n) = months_long year n + month_days year (suc n)

-- the date of a year that is `rest` days after its first
pub record InYear (year rest : ℕ) (d : Date) : Type 0 where
  pub same : d.year ≡ year
  pub month : (1 ≤ d.month) × (d.month ≤ 12)
  pub day : (1 ≤ d.day) × (d.day ≤ month_days year d.month)
  pub number : months_long year (d.month - 1) + (d.day - 1) ≡ rest

-- the date that is `days` days after the first of January 1970
pub record DateOf (days : ℕ) (d : Date) : Type 0 where
  pub from : 1970 ≤ d.year
  pub month : (1 ≤ d.month) × (d.month ≤ 12)
  pub day : (1 ≤ d.day) × (d.day ≤ month_days d.year d.month)
  pub number : years_long (d.year - 1970) + months_long d.year (d.month - 1) + (d.day - 1) ≡ days
