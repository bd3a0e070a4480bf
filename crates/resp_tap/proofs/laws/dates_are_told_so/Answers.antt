use Rattle.std.proofs.Common.{◌≡◌, ℕ, ◌++◌, ap, refl}
use Rattle.std.specs.Prelude.{codes}
use Rattle.resp_tap.specs.Dates.{date_of}
use Rattle.resp_tap.specs.Digits.{date_text, time_text}
use Rattle.resp_tap.specs.declared.date.Date.{Date}
use Rattle.resp_tap.proofs.DateLemmas.{in_year, on}
use Rattle.resp_tap.proofs.laws.dates_are_told_so.Goals as goal

first : date_of 0 ≡ on 1970 1 1
first = refl

leap_day : date_of 11016 ≡ on 2000 2 29
leap_day = in_year 30 59

later_leap_day : date_of 19782 ≡ on 2024 2 29
later_leap_day = in_year 54 59

one_day : date_of 20787 ≡ on 2026 11 30
one_day = in_year 56 333

no_leap_day : date_of 47541 ≡ on 2100 3 1
no_leap_day = in_year 130 59

last_day : date_of 2932896 ≡ on 9999 12 31
last_day = in_year 8029 364

on_day : (day micros : ℕ) (date : Date) → date_of day ≡ date →
    date_text (date_of day) ++ codes "T" ++ time_text micros ++ codes "Z" ≡
    date_text date ++ codes "T" ++ time_text micros ++ codes "Z"
on_day day micros date e = ap (λ (d : Date). date_text d ++ codes "T" ++ time_text micros ++ codes "Z") e

pub returns : goal.returns
returns c = record {
  start = on_day 0 0 _ first;
  leap_day_of_century = on_day 11016 0 _ leap_day;
  last_of_leap_day = on_day 19782 86399999999 _ later_leap_day;
  day = on_day 20787 45065221043 _ one_day;
  without_leap_day = on_day 47541 0 _ no_leap_day;
  last = on_day 2932896 86399999999 _ last_day;
  after_the_last = on_day 2932896 86399999999 _ last_day;
}
