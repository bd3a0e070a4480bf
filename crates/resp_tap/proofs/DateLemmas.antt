-- Steps of the calendar.
use Rattle.std.proofs.Common.{◌≡◌, ℕ, zero, suc, ◌+◌, ◌-◌, ◌*◌, ◌/◌, ◌≤◌, ◌<◌, Bool, true, false, ap, arith, if◌then◌else◌, nat_lt, refl, sym, ◌∙◌}
use Rattle.std.proofs.lemmas.Grind.{common_steps}
use Rattle.resp_tap.specs.Dates.{date_of, first_of, is_leap, later, month_after, month_length, tomorrow}
use Rattle.resp_tap.specs.declared.date.Date.{Date}

abbrev pub on : ℕ → ℕ → ℕ → Date
on year month day = record { year = year; month = month; day = day }

-- days on days
pub later_more : (a b : ℕ) (d : Date) → later (a + b) d ≡ later b (later a d)
later_more zero b d = ap (λ n. later n d) (let e : 0 + b ≡ b = omega arith in e)
later_more (suc a) b d =
    ap (λ n. later n d) (let e : suc a + b ≡ suc (a + b) = omega arith in e) ∙ later_more a b (tomorrow d)

-- the next day of a month
next_day : (y m k : ℕ) → k < month_length y m → tomorrow (on y m k) ≡ on y m (k + 1)
next_day y m k less = grind (arith, common_steps, less)

-- the last day of a month
last_day : (y m k : ℕ) → month_length y m ≤ k → tomorrow (on y m k) ≡ month_after y m
last_day y m k most = grind (arith, common_steps, most)

-- days of a month
pub within_month : (n y m k : ℕ) → k + n ≤ month_length y m → later n (on y m k) ≡ on y m (k + n)
within_month zero y m k most = ap (on y m) (omega arith)
within_month (suc n) y m k most =
    ap (later n) (next_day y m k (omega (arith, most))) ∙
    within_month n y m (k + 1) (omega (arith, most)) ∙ ap (on y m) (omega arith)

-- a whole month
whole : (n y m : ℕ) → month_length y m ≡ suc n → later (suc n) (first_of y m) ≡ month_after y m
whole n y m e =
    ap (λ k. later k (first_of y m)) (let s : suc n ≡ n + 1 = omega arith in s) ∙
    later_more n 1 (first_of y m) ∙
    ap tomorrow (within_month n y m 1 (omega (arith, e))) ∙ last_day y m (1 + n) (omega (arith, e))

some_days : (y m : ℕ) → month_length y m ≡ suc (month_length y m - 1)
some_days y m = grind (arith, common_steps)

pub whole_month : (y m : ℕ) → later (month_length y m) (first_of y m) ≡ month_after y m
whole_month y m =
    ap (λ k. later k (first_of y m)) (some_days y m) ∙ whole (month_length y m - 1) y m (some_days y m)

-- so many days from the first of a month on
pub past_month : (y m n : ℕ) → later (month_length y m + n) (first_of y m) ≡ later n (month_after y m)
past_month y m n = later_more (month_length y m) n (first_of y m) ∙ ap (later n) (whole_month y m)

abbrev pub february : ℕ → ℕ
february y = month_length y 2

abbrev pub year_length : ℕ → ℕ
year_length y = if is_leap y then 366 else 365

months_of : (y : ℕ) → year_length y ≡ 31 + (february y + 306)
months_of y = go (is_leap y)
  where
    go : (b : Bool) → (if b then 366 else 365) ≡ 31 + ((if b then 29 else 28) + 306)
    go true = refl
    go false = refl

-- a whole year
pub whole_year : (y : ℕ) → later (year_length y) (first_of y 1) ≡ first_of (y + 1) 1
whole_year y =
    ap (λ n. later n (first_of y 1)) (months_of y) ∙ past_month y 1 (february y + 306) ∙ past_month y 2 306 ∙
    past_month y 3 275 ∙ past_month y 4 245 ∙ past_month y 5 214 ∙ past_month y 6 184 ∙ past_month y 7 153 ∙
    past_month y 8 122 ∙ past_month y 9 92 ∙ past_month y 10 61 ∙ past_month y 11 31 ∙ past_month y 12 0

-- the days of so many years from 1970 on
abbrev pub days_to : ℕ → ℕ
days_to n = n * 365 + ((n + 1969) / 4 + (n + 1969) / 400 - (n + 1969) / 100 - 477)

next_year : (n : ℕ) → days_to (suc n) ≡ days_to n + year_length (n + 1970)
next_year n = grind (arith, common_steps)

pub start_of : (n : ℕ) → later (days_to n) (first_of 1970 1) ≡ first_of (n + 1970) 1
start_of zero = refl
start_of (suc n) =
    ap (λ days. later days (first_of 1970 1)) (next_year n) ∙
    later_more (days_to n) (year_length (n + 1970)) (first_of 1970 1) ∙
    ap (later (year_length (n + 1970))) (start_of n) ∙ whole_year (n + 1970) ∙
    ap (λ year. first_of year 1) (omega arith)

abbrev next_if : ℕ → ℕ → Bool → Date
next_if y m b = if b then first_of y (m + 1) else first_of (y + 1) 1

next_begins : (y m : ℕ) (b : Bool) → first_of (next_if y m b).year (next_if y m b).month ≡ next_if y m b
next_begins y m true = refl
next_begins y m false = refl

-- the month after one begins with its first day
pub month_begins : (y m : ℕ) → first_of (month_after y m).year (month_after y m).month ≡ month_after y m
month_begins y m = next_begins y m (nat_lt m 12)

pub begins_at : (y m : ℕ) → (month_after y m).day ≡ 1
begins_at y m = ap (λ (d : Date). d.day) (sym (month_begins y m))

pub next_month : (y m : ℕ) → (month_after y m).year ≤ y + 1
next_month y m = grind (arith, common_steps)

-- the days that are left after a whole month
pub left_after : (days left y m : ℕ) → month_length y m ≤ left → later left (first_of y m) ≡ date_of days →
    later (left - month_length y m) (first_of (month_after y m).year (month_after y m).month) ≡ date_of days
left_after days left y m enough e =
    ap (later (left - month_length y m)) (month_begins y m) ∙ sym (past_month y m (left - month_length y m)) ∙
    ap (λ n. later n (first_of y m)) (let s : month_length y m + (left - month_length y m) ≡ left = omega (arith, enough) in s) ∙ e

pub some_day : (y m : ℕ) → 1 ≤ month_length y m
some_day y m = omega (arith, some_days y m)

-- a day of a year
pub in_year : (n days : ℕ) → date_of (days_to n + days) ≡ later days (first_of (n + 1970) 1)
in_year n days = later_more (days_to n) days (first_of 1970 1) ∙ ap (later days) (start_of n)
