-- Tokens of which no event has come: their first line hasn't ended, and it is none of a text or a big number.
use Rattle.std.proofs.Common.{◌≡◌, inl, inr, ℕ, ◌<◌, Bool, List, [], ◌∷◌, ◌++◌, refl, ap, ◌∙◌, arith, append-nil}
use Rattle.resp_value.specs.Data.{Kind}
use Rattle.resp_value.specs.Data as d
use Rattle.resp_value.specs.Numbers.{Sign, sign_text}
use Rattle.resp_value.specs.Trees as t
use Rattle.resp_value.specs.Trees.{NullForm, StringKind, kind_byte, null, numeral, string_byte}
use Rattle.resp_value.specs.Rules.{Rules}
use Rattle.resp_value.proofs.FirstBytes.{leaf_byte}
use Rattle.resp_value.proofs.Splitting.{plain_above}
use Rattle.resp_fronts.specs.Events.{Event}
use Rattle.resp_fronts.proofs.FirstLines.CountRows.{byte_line, kind_line}
use Rattle.resp_fronts.proofs.FirstLines.FirstLineRows.{number_line, string_line}
use Rattle.resp_fronts.specs.Tokens.{IsNumberBegun, zeros}
use Rattle.resp_fronts.proofs.Tokens.StreamedHeads.{streamed_line}
use Rattle.resp_scan.specs.declared.machine.Head.{Head}
use Rattle.resp_scan.specs.declared.machine.Head.TheVariants as head
use Rattle.resp_scan.specs.Machine.Beginnings.{AggregateBegun, CountBegun, CountReturned, HeadBegun, HeadCounts, HeadReturned, IntBegun, IntReturned, IsNullBegun, LengthBegun, LengthReturned, NullLine, NullReturned, StreamBegun}
use Rattle.resp_scan.proofs.DueEvents.InsideDue.{AreDueWithin}
use Rattle.resp_scan.proofs.DueEvents.QuietLines.{IsQuiet, line_of_quiet, quiet_line, quiet_returned, returned_quiet}

kind_quiet : (k : Kind) → IsQuiet (kind_byte k)
kind_quiet d.Array = (λ i. omega arith, λ i. omega arith, λ i. omega arith, λ i. omega arith)
kind_quiet _ = (λ i. omega arith, λ i. omega arith, λ i. omega arith, λ i. omega arith)

string_quiet : (k : StringKind) → IsQuiet (string_byte k)
string_quiet t.Bulk = (λ i. omega arith, λ i. omega arith, λ i. omega arith, λ i. omega arith)
string_quiet _ = (λ i. omega arith, λ i. omega arith, λ i. omega arith, λ i. omega arith)

null_quiet : (f : NullForm) → IsQuiet (leaf_byte (null f))
null_quiet t.BulkNull = (λ i. omega arith, λ i. omega arith, λ i. omega arith, λ i. omega arith)
null_quiet _ = (λ i. omega arith, λ i. omega arith, λ i. omega arith, λ i. omega arith)

-- one byte
byte_quiet : (byte : ℕ) (bytes : List ℕ) (shown : List Event) → bytes ≡ byte ∷ [] → shown ≡ [] → IsQuiet byte → 13 < byte → AreDueWithin bytes shown
byte_quiet byte bytes shown are told q above = quiet_line bytes shown byte [] are told q (plain_above byte above, tt)

-- and another
bytes_quiet : (first second : ℕ) (bytes : List ℕ) (shown : List Event) → bytes ≡ first ∷ second ∷ [] → shown ≡ [] → IsQuiet first → 13 < first → 13 < second →
    AreDueWithin bytes shown
bytes_quiet first second bytes shown are told q above next = quiet_line bytes shown first (second ∷ []) are told q (
  plain_above first above,
  (plain_above second next, tt),
)

-- Integers.

int_quiet : IsQuiet 58
int_quiet = (λ i. omega arith, λ i. omega arith, λ i. omega arith, λ i. omega arith)

-- its type byte, and a sign or none
pub int_begun_quiet : (r : Rules) (sign : Sign) (level : ℕ) (bytes : List ℕ) (shown : List Event) → IsNumberBegun r t.Int sign level bytes → shown ≡ [] →
    AreDueWithin bytes shown
int_begun_quiet r sign level bytes shown w told = quiet_line bytes shown 58 (sign_text sign ++ []) w.1 told int_quiet (number_line t.Int sign [] tt)

-- with digits
pub int_digits_quiet : (r : Rules) (negative : Bool) (n level : ℕ) (bytes : List ℕ) (shown : List Event) → IntBegun r negative n level bytes shown →
    AreDueWithin bytes shown
int_digits_quiet r negative n level bytes shown w = quiet_line bytes shown 58 (sign_text w.sign ++ w.first ∷ w.digits) w.token.are w.told int_quiet
    (number_line t.Int w.sign (w.first ∷ w.digits) w.token.are_digits.1)

-- with its CR
pub int_returned_quiet : (r : Rules) (negative : Bool) (n level : ℕ) (bytes : List ℕ) (shown : List Event) → IntReturned r negative n level bytes shown →
    AreDueWithin bytes shown
int_returned_quiet r negative n level bytes shown w = returned_quiet r (numeral t.Int w.sign w.digits) level bytes shown w.returned w.told int_quiet

-- Nulls and truth values.

-- `$-` and `*-`
pub null_begun_quiet : (bytes : List ℕ) (shown : List Event) → IsNullBegun bytes → shown ≡ [] → AreDueWithin bytes shown
null_begun_quiet bytes shown (inl are) told = bytes_quiet 36 45 bytes shown are told (null_quiet t.BulkNull) (omega arith) (omega arith)
null_begun_quiet bytes shown (inr are) told = bytes_quiet 42 45 bytes shown are told (null_quiet t.ArrayNull) (omega arith) (omega arith)

-- a null's line
pub null_line_quiet : (r : Rules) (level : ℕ) (bytes : List ℕ) (shown : List Event) → NullLine r level bytes shown → AreDueWithin bytes shown
null_line_quiet r level bytes shown w = line_of_quiet r (null w.form) level bytes shown w.token w.told (null_quiet w.form)

-- nothing is due of a null's line and its CR
pub null_returned_quiet : (r : Rules) (level : ℕ) (bytes : List ℕ) (shown : List Event) → NullReturned r level bytes shown → AreDueWithin bytes shown
null_returned_quiet r level bytes shown w = returned_quiet r (null w.form) level bytes shown w.returned w.told (null_quiet w.form)

-- a truth value's type byte begins no text
pub truth_quiet : IsQuiet 35
truth_quiet = (λ i. omega arith, λ i. omega arith, λ i. omega arith, λ i. omega arith)

-- Type bytes.

-- of a truth value
pub bool_quiet : (bytes : List ℕ) (shown : List Event) → bytes ≡ 35 ∷ [] → shown ≡ [] → AreDueWithin bytes shown
bool_quiet bytes shown are told = byte_quiet 35 bytes shown are told truth_quiet (omega arith)

-- `$`
pub dollar_quiet : (bytes : List ℕ) (shown : List Event) → bytes ≡ 36 ∷ [] → shown ≡ [] → AreDueWithin bytes shown
dollar_quiet bytes shown are told = byte_quiet 36 bytes shown are told (string_quiet t.Bulk) (omega arith)

-- `*`
pub star_quiet : (bytes : List ℕ) (shown : List Event) → bytes ≡ 42 ∷ [] → shown ≡ [] → AreDueWithin bytes shown
star_quiet bytes shown are told = byte_quiet 42 bytes shown are told (kind_quiet d.Array) (omega arith)

aggregate_quiet : (r : Rules) (k : Kind) (level : ℕ) (bytes : List ℕ) (shown : List Event) → AggregateBegun r k level bytes shown → AreDueWithin bytes shown
aggregate_quiet r k level bytes shown w = quiet_line bytes shown (kind_byte k) [] w.are w.told (kind_quiet k) (byte_line k)

-- a head that is no chunk's
abbrev pub IsNoChunk : Head → Type 0
IsNoChunk h = (room : ℕ) → h ≡ head.Chunk room → ⊥

-- of what has a head
pub head_quiet : (r : Rules) (h : Head) (level : ℕ) (bytes : List ℕ) (shown : List Event) → IsNoChunk h → HeadBegun r h level bytes shown →
    AreDueWithin bytes shown
head_quiet r head.Bulk level bytes shown p w = absurd w
head_quiet r head.BulkError level bytes shown p w = byte_quiet 33 bytes shown w.1 w.2 (string_quiet t.BulkError) (omega arith)
head_quiet r head.Verbatim level bytes shown p w = byte_quiet 61 bytes shown w.1 w.2 (string_quiet (t.Verbatim [])) (omega arith)
head_quiet r (head.Chunk room) level bytes shown p w = absurd (p room refl)
head_quiet r head.Array level bytes shown p w = absurd w
head_quiet r head.Set level bytes shown p w = aggregate_quiet r d.Set level bytes shown w
head_quiet r head.Map level bytes shown p w = aggregate_quiet r d.Map level bytes shown w
head_quiet r head.Attr level bytes shown p w = aggregate_quiet r d.Attr level bytes shown w
head_quiet r head.Push level bytes shown p w = aggregate_quiet r d.Push level bytes shown w

-- Digits.

length_quiet : (r : Rules) (k : StringKind) (n level : ℕ) (bytes : List ℕ) (shown : List Event) → LengthBegun r k n level bytes shown → AreDueWithin bytes shown
length_quiet r k n level bytes shown w = quiet_line bytes shown (string_byte k) (w.first ∷ w.digits) w.token.are w.told (string_quiet k)
    (string_line k (w.first ∷ w.digits) w.token.are_digits.1)

count_quiet : (r : Rules) (k : Kind) (n level : ℕ) (bytes : List ℕ) (shown : List Event) → CountBegun r k n level bytes shown → AreDueWithin bytes shown
count_quiet r k n level bytes shown w = quiet_line bytes shown (kind_byte k) (w.first ∷ w.digits) w.token.are w.told (kind_quiet k)
    (kind_line k (w.first ∷ w.digits) w.token.are_digits)

-- the digits of a head
pub digits_quiet : (r : Rules) (h : Head) (n level : ℕ) (bytes : List ℕ) (shown : List Event) → IsNoChunk h → HeadCounts r h n level bytes shown →
    AreDueWithin bytes shown
digits_quiet r head.Bulk n level bytes shown p w = length_quiet r t.Bulk n level bytes shown w
digits_quiet r head.BulkError n level bytes shown p w = length_quiet r t.BulkError n level bytes shown w
digits_quiet r head.Verbatim n level bytes shown p w = length_quiet r (t.Verbatim (zeros 3)) n level bytes shown w
digits_quiet r (head.Chunk room) n level bytes shown p w = absurd (p room refl)
digits_quiet r head.Array n level bytes shown p w = count_quiet r d.Array n level bytes shown w
digits_quiet r head.Set n level bytes shown p w = count_quiet r d.Set n level bytes shown w
digits_quiet r head.Map n level bytes shown p w = count_quiet r d.Map n level bytes shown w
digits_quiet r head.Attr n level bytes shown p w = count_quiet r d.Attr n level bytes shown w
digits_quiet r head.Push n level bytes shown p w = count_quiet r d.Push n level bytes shown w

-- And their CR.

length_returned_quiet : (r : Rules) (k : StringKind) (n level : ℕ) (bytes : List ℕ) (shown : List Event) → LengthReturned r k n level bytes shown →
    AreDueWithin bytes shown
length_returned_quiet r k n level bytes shown w =
    let l = w.length in
    quiet_returned bytes shown (string_byte k) (l.first ∷ l.digits) (w.returned ∙ ap (λ z. z ++ 13 ∷ []) l.token.are) l.told (string_quiet k)
    (string_line k (l.first ∷ l.digits) l.token.are_digits.1)

count_returned_quiet : (r : Rules) (k : Kind) (n level : ℕ) (bytes : List ℕ) (shown : List Event) → CountReturned r k n level bytes shown →
    AreDueWithin bytes shown
count_returned_quiet r k n level bytes shown w =
    let c = w.returned.count in
    quiet_returned bytes shown (kind_byte k) (w.first ∷ w.digits) (w.returned.returned ∙ ap (λ z. z ++ 13 ∷ []) c.are) w.told (kind_quiet k)
    (kind_line k (w.first ∷ w.digits) c.are_digits)

-- nothing is due of a head's line and its CR
pub head_returned_quiet : (r : Rules) (h : Head) (n level : ℕ) (bytes : List ℕ) (shown : List Event) → IsNoChunk h → HeadReturned r h n level bytes shown →
    AreDueWithin bytes shown
head_returned_quiet r head.Bulk n level bytes shown p w = length_returned_quiet r t.Bulk n level bytes shown w
head_returned_quiet r head.BulkError n level bytes shown p w = length_returned_quiet r t.BulkError n level bytes shown w
head_returned_quiet r head.Verbatim n level bytes shown p w = length_returned_quiet r (t.Verbatim (zeros 3)) n level bytes shown w.1
head_returned_quiet r (head.Chunk room) n level bytes shown p w = absurd (p room refl)
head_returned_quiet r head.Array n level bytes shown p w = count_returned_quiet r d.Array n level bytes shown w
head_returned_quiet r head.Set n level bytes shown p w = count_returned_quiet r d.Set n level bytes shown w
head_returned_quiet r head.Map n level bytes shown p w = count_returned_quiet r d.Map n level bytes shown w
head_returned_quiet r head.Attr n level bytes shown p w = count_returned_quiet r d.Attr n level bytes shown w
head_returned_quiet r head.Push n level bytes shown p w = count_returned_quiet r d.Push n level bytes shown w

-- Streamed heads.

-- a streamed aggregate's line
pub stream_quiet : (r : Rules) (k : Kind) (level : ℕ) (bytes : List ℕ) (shown : List Event) → StreamBegun r k [] level bytes shown → AreDueWithin bytes shown
stream_quiet r k level bytes shown w = quiet_line bytes shown (kind_byte k) (63 ∷ []) (w.are ∙ append-nil (kind_byte k ∷ 63 ∷ [])) w.told (kind_quiet k)
    (streamed_line k)

-- nothing is due of a streamed aggregate's line and its CR
pub stream_returned_quiet : (r : Rules) (k : Kind) (level : ℕ) (bytes : List ℕ) (shown : List Event) → StreamBegun r k (13 ∷ []) level bytes shown →
    AreDueWithin bytes shown
stream_returned_quiet r k level bytes shown w = quiet_returned bytes shown (kind_byte k) (63 ∷ []) w.are w.told (kind_quiet k) (streamed_line k)

-- a streamed string's line
pub streamed_string_quiet : (bytes : List ℕ) (shown : List Event) → bytes ≡ 36 ∷ 63 ∷ [] → shown ≡ [] → AreDueWithin bytes shown
streamed_string_quiet bytes shown are told = bytes_quiet 36 63 bytes shown are told (string_quiet t.Bulk) (omega arith) (omega arith)

-- nothing is due of a streamed string's line and its CR
pub streamed_string_returned_quiet : (bytes : List ℕ) (shown : List Event) → bytes ≡ 36 ∷ 63 ∷ 13 ∷ [] → shown ≡ [] → AreDueWithin bytes shown
streamed_string_returned_quiet bytes shown are told = quiet_returned bytes shown 36 (63 ∷ []) are told (string_quiet t.Bulk) (
  plain_above 36 (omega arith),
  (plain_above 63 (omega arith), tt),
)
