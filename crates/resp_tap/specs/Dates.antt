-- Dates of the Gregorian calendar.
use Rattle.std.specs.Prelude.{ℕ, zero, suc, ◌+◌, ◌%◌, ◌==◌, Bool, ◌&&◌, ◌||◌, not, nat_lt, if◌then◌else◌}
use Rattle.resp_tap.specs.declared.date.Date.{Date}

-- whether a year is a leap year
abbrev pub is_leap : ℕ → Bool
is_leap year = (year % 4 == 0) && (not (year % 100 == 0) || (year % 400 == 0))

-- the number of days of a month
abbrev pub month_length : ℕ → ℕ → ℕ
month_length year month =
    if month == 2 then (if is_leap year then 29 else 28)
    else (if (month == 4) || ((month == 6) || ((month == 9) || (month == 11))) then 30 else 31)

-- the first day of a month
abbrev pub first_of : ℕ → ℕ → Date
first_of year month = record { year = year; month = month; day = 1 }

-- the first day of the month after this one
abbrev pub month_after : ℕ → ℕ → Date
month_after year month = if nat_lt month 12 then first_of year (month + 1) else first_of (year + 1) 1

-- the day after this one
abbrev pub tomorrow : Date → Date
tomorrow date =
    if nat_lt date.day (month_length date.year date.month)
    then record { year = date.year; month = date.month; day = date.day + 1 }
    else month_after date.year date.month

-- the date so many days later
abbrev pub later : ℕ → Date → Date
later zero date = date
later (suc days) date = later days (tomorrow date)

-- the date so many days after 1 January 1970
abbrev pub date_of : ℕ → Date
date_of days = later days (first_of 1970 1)
