-- Facts about printed times.
use Rattle.std.specs.Prelude.{◌≡◌, ℕ, ◌++◌, None, codes}
use Rattle.resp_value.specs.Data.{Datum}
use Rattle.resp_print.specs.Shown.{lines_on}
use Rattle.resp_print.specs.Headings.{push_heading, reply_heading}
use Rattle.resp_tap.specs.Digits.{micros_text, time_text, utc_text}
use Rattle.resp_tap.specs.Texts.{push_text, reply_text}
use Rattle.resp_tap.specs.declared.print.TextOptions.{TextOptions}

-- times of day and microseconds, worked out by hand
pub record TimesAreToldSo : Type 0 where
  pub midnight : time_text 0 ≡ codes "00:00:00.000000"
  pub morning : time_text 20216123456 ≡ codes "05:36:56.123456"
  pub last_of_day : time_text 86399999999 ≡ codes "23:59:59.999999"
  pub whole_seconds_left_out : micros_text 12000213 ≡ codes "000213"

-- dates by the calendar, with times of day
pub record DatesAreToldSo : Type 0 where
  pub start : utc_text 0 ≡ codes "1970-01-01T00:00:00.000000Z"
  pub leap_day_of_century : utc_text 951782400000000 ≡ codes "2000-02-29T00:00:00.000000Z"
  pub last_of_leap_day : utc_text 1709251199999999 ≡ codes "2024-02-29T23:59:59.999999Z"
  pub day : utc_text 1796041865221043 ≡ codes "2026-11-30T12:31:05.221043Z"
  pub without_leap_day : utc_text 4107542400000000 ≡ codes "2100-03-01T00:00:00.000000Z"
  pub last : utc_text 253402300799999999 ≡ codes "9999-12-31T23:59:59.999999Z"
  pub after_the_last : utc_text 18446744073709551615 ≡ codes "9999-12-31T23:59:59.999999Z"

-- without a time, replies and pushes of which all bytes are printed are printed as those of a script are
abbrev pub PrintsAsPlayed : Type 0
PrintsAsPlayed = (p : TextOptions) (number : ℕ) (x : Datum) → p.shown.most ≡ None →
    (reply_text p number None x ≡ reply_heading p.client number ++ lines_on 1 x) ×
    (push_text p None x ≡ push_heading p.client ++ lines_on 1 x)
