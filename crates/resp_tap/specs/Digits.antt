-- Times in digits.
use Rattle.std.specs.Prelude.{ℕ, ◌+◌, ◌/◌, ◌%◌, List, [], ◌∷◌, ◌++◌, codes, if◌then◌else◌, min}
use Rattle.resp_tap.specs.Dates.{date_of}
use Rattle.resp_tap.specs.declared.date.Date.{Date}
use Rattle.resp_tap.specs.declared.moment.Utc.{Utc}

-- the last digit of a number
abbrev pub digit : ℕ → ℕ
digit n = 48 + n % 10

-- the last two digits of a number
abbrev pub two_digits : ℕ → List ℕ
two_digits n = digit (n / 10) ∷ digit n ∷ []

-- the last six digits of a number: of a number of microseconds, the decimals of the second
abbrev pub micros_text : ℕ → List ℕ
micros_text n = digit (n / 100000) ∷ digit (n / 10000) ∷ digit (n / 1000) ∷ digit (n / 100) ∷ digit (n / 10) ∷
    digit n ∷ []

-- the time of day, given in microseconds after midnight: hours, minutes, and seconds with six decimals
abbrev pub time_text : ℕ → List ℕ
time_text micros = two_digits (micros / 3600000000) ++ codes ":" ++ two_digits (micros / 60000000 % 60) ++ codes ":" ++
    two_digits (micros / 1000000 % 60) ++ codes "." ++ micros_text micros

-- a date, with the last four digits of its year
abbrev pub date_text : Date → List ℕ
date_text date = (two_digits (date.year / 100) ++ two_digits date.year) ++ codes "-" ++ two_digits date.month ++ codes "-" ++
    two_digits date.day

-- the last microsecond of the year 9999, in microseconds since 1970
abbrev pub last_moment : ℕ
last_moment = 253402300799999999

-- a date and a time of day, given in microseconds since 1970
abbrev pub moment_text : ℕ → List ℕ
moment_text micros = date_text (date_of (micros / 86400000000)) ++ codes "T" ++ time_text (micros % 86400000000) ++ codes "Z"

-- a time in UTC as RFC 3339 writes it, given in microseconds since 1970; a time after the year 9999 is its end
abbrev pub utc_text : ℕ → List ℕ
utc_text micros = moment_text (min micros last_moment)

-- a time in a line of text: the date and the time of day, or the time of day
abbrev pub clock_text : Utc → List ℕ
clock_text utc = if utc.shows_date then utc_text utc.micros else time_text (utc.micros % 86400000000)
