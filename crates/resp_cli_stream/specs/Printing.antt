-- The text that was printed for a value since a call began.
use Rattle.std.specs.Prelude.{◌≡◌, ℕ, ◌≤◌, ◌<◌, List, ◌++◌, length, take, MatchBool, Option, Result, Ok, Err, OnOk}
use Rattle.resp_io.specs.Devices.{Appends, count_after}
use Rattle.resp_value.specs.Rules.{Rules}
use Rattle.resp_scan.specs.Counts.{open_count}
use Rattle.resp_scan.specs.Listening.{HearsPiece, HearsRefusal, HearsValue, StopsAfter}
use Rattle.resp_scan.specs.Machine.Tokens.{Place}
use Rattle.resp_scan.specs.Reading.{Events, HasRead}
use Rattle.resp_scan.specs.declared.event.ScanError.{ScanError}
use Rattle.resp_scan.specs.declared.event.ScanError.TheVariants as stop
use Rattle.resp_scan.specs.declared.event.Scanned.{Scanned}
use Rattle.resp_cli_stream.specs.Lines.{HasRoomFor, page_of}
use Rattle.resp_cli_stream.specs.Pages.{page_after, shown, shown_on}
use Rattle.resp_cli_stream.specs.Scans.{AreLinesOf}
use Rattle.resp_cli_stream.specs.declared.lines.Lines.{Lines}
use Rattle.resp_print.specs.Written.{WritesText}
use Rattle.resp_io.specs.declared.device.DeviceFault.{DeviceFault}

-- the state when a call began: the bytes written, the number of failed writes, and the text of the value so far
pub record Start : Type 0 where
  pub held : Option (List ℕ)
  pub failures : ℕ
  pub so_far : List ℕ

-- since then the text of these events was completed, and no write failed
pub record HasPrinted (since : Start) (lines : Lines) (held : Option (List ℕ)) (failures : ℕ) (given : Events) : Type 0
  where
    pub shown_lines : AreLinesOf lines given
    pub more : List ℕ
    pub appended : Appends since.held held more
    pub whole : since.so_far ++ more ≡ shown given
    pub none_failed : failures ≡ since.failures

-- since then one write failed, and the first part of the text of these events was written
pub record HasBroken (since : Start) (held : Option (List ℕ)) (failures : ℕ) (told : Events) : Type 0 where
  pub more : List ℕ
  pub later : List ℕ
  pub appended : Appends since.held held more
  pub parts : shown told ≡ since.so_far ++ (more ++ later)
  pub failed : failures ≡ count_after 1 since.failures

-- the state when a call began, and the references that it was given
pub record Call : Type 0 where
  pub lines_name : ℕ
  pub writer_name : ℕ
  pub start : Start

-- a printer has the references of the call
pub record IsOfCall (call : Call) (lines_name writer_name : ℕ) : Type 0 where
  pub lines : lines_name ≡ call.lines_name
  pub writer : writer_name ≡ call.writer_name

-- P holds of all bytes that a scanner has read of a value, and of every start since which the text of their events was
-- completed
abbrev pub WherePrinted : Place → Lines → Option (List ℕ) → ℕ → (Start → List ℕ → Type 0) → Type 0
WherePrinted s lines held failures P = (since : Start) (front : List ℕ) (given : Events) → HasRead s front given →
    HasPrinted since lines held failures given → P since front

-- The result of a call over a piece: a value has ended, the piece is used up, a byte was rejected, or the listener has
-- stopped.
abbrev pub ScansTo : Rules → Place → (Events → Type 0) → (Events → Type 0) → List ℕ → List ℕ →
    Result Scanned ScanError → Type 0
ScansTo r s HasHeard HasStopped front piece (Ok scanned) = MatchBool scanned.is_whole
    (HearsValue r s HasHeard (front ++ take scanned.used piece)) (HearsPiece s HasHeard (front ++ piece))
ScansTo r s HasHeard HasStopped front piece (Err (stop.Fault fault)) = HearsRefusal r HasHeard front piece fault
ScansTo r s HasHeard HasStopped front piece (Err (stop.Stopped taken)) = StopsAfter r HasStopped front piece taken

-- the open parts are those after these events, if the counts and the lines have room for them
abbrev pub IsPageAfter : Lines → Lines → Events → Type 0
IsPageAfter old new more = HasRoomFor (length more) (page_of old) →
    (1 ≤ open_count more → length (page_of old).open_lines < 128) → page_of new ≡ page_after more (page_of old)

-- the text of these events was written, and then the open parts are those after them
abbrev pub WritesEvents : Lines → Lines → Option (List ℕ) → Option (List ℕ) → ℕ → ℕ → Result (Unit {0}) DeviceFault →
    Events → Type 0
WritesEvents old new before after failures failures' result es =
    WritesText before after failures failures' result (shown_on (page_of old) es) × OnOk result (IsPageAfter old new es)
