-- The results that a tap reports and prints for the pieces of either side.
use Rattle.std.specs.Prelude.{◌≡◌, ℕ, Bool, true, false, List, [], ◌∷◌, length, drop, Option, Result, Ok}
use Rattle.std.specs.Result.{result_and}
use Rattle.resp_value.specs.Data.{Datum}
use Rattle.resp_print.specs.Printed.{Prints}
use Rattle.resp_print.specs.declared.print_error.PrintError.{PrintError}
use Rattle.resp_tap.specs.Options.{options_of}
use Rattle.resp_tap.specs.SeenOf.{IsKeptIn}
use Rattle.resp_tap.specs.Taps.{TapState, at_front, tap_state}
use Rattle.resp_tap.specs.Texts.{levels_of, seen_text}
use Rattle.resp_tap.specs.Times.{IsAskedIn, KeepsTimes, stamp_of}
use Rattle.resp_tap.specs.Watching.{HasTakenSomeRequest, HasTakenSomeValue, KeepsRequest, KeepsValue, SeesRequest, SeesValue, WhereAnswered, WhereRequested}
use Rattle.resp_tap.specs.declared.moment.Moment.{Moment}
use Rattle.resp_tap.specs.declared.print.Printing.{Printing}
use Rattle.resp_tap.specs.declared.seen.Seen.{Seen}
use Rattle.resp_tap.specs.declared.seen.Seen.TheVariants as seen
use Rattle.resp_tap.specs.declared.tap.Tap.{Tap}
use Rattle.resp_tap.specs.declared.watch.Side.{Side}
use Rattle.resp_tap.specs.declared.watch.Side.TheVariants.{Client, Server}
use Rattle.resp_tap.specs.declared.watch.Watched.{Watched}

-- the bytes read of the other side's value stay the same
abbrev pub KeepsOther : Side → Tap → Tap → Type 0
KeepsOther Client old new = KeepsValue old new
KeepsOther Server old new = KeepsRequest old new

-- until the first error of this side, some bytes were read of its incomplete value
abbrev pub HasSentSome : Side → Tap → Type 0
HasSentSome Client t = HasTakenSomeRequest t
HasSentSome Server t = HasTakenSomeValue t

-- P holds of all bytes that were read of this side's incomplete value
abbrev pub WhereSent : Side → Tap → (List ℕ → Type 0) → Type 0
WhereSent Client t P = WhereRequested t P
WhereSent Server t P = WhereAnswered t P

-- the result for the bytes of this side
abbrev pub SeesSent : Side → TapState → Tap → List ℕ → List ℕ → ℕ → Seen → Type 0
SeesSent Client s new front piece used seen = SeesRequest s new front piece used seen
SeesSent Server s new front piece used seen = SeesValue (at_front front piece s) new front piece used seen

-- whether the bytes of this side are still read
abbrev pub is_read_of : Side → TapState → Bool
is_read_of Client s = s.reads_commands
is_read_of Server s = s.reads_replies

-- The first result in a piece that arrived at this moment, and the number of bytes that were read for it.
pub record SeesFirst (side : Side) (now : Option Moment) (old new : Tap) (piece : List ℕ) (used : ℕ)
    (what : Seen) : Type 0 where
  pub some : HasSentSome side old
  pub read : is_read_of side (tap_state old) ≡ true → WhereSent side old (λ front.
      SeesSent side (tap_state old) new front piece used what × KeepsTimes now old new)
  pub unread : is_read_of side (tap_state old) ≡ false → (new ≡ old) × (used ≡ length piece) × (what ≡ seen.Nothing)

-- The text of the result is printed, as far as writes succeed: that of the whole command or of the whole value, of which
-- only a part is kept. If times are printed, the text of a reply has the time of the command that it answers.
pub record PrintsSeen (printing : Printing) (now : Option Moment) (old : Tap) (what : Seen) (before after : Option (List ℕ))
    (failures failures' : ℕ) (printed : Result (Unit {0}) PrintError) : Type 0 where
  pub asked : Option ℕ
  pub of_command : IsAskedIn old asked
  pub text : (whole : Datum) → IsKeptIn (tap_state old).shown (tap_state old).kept whole what →
      Prints before after failures failures' printed
      (seen_text (options_of printing old) false (stamp_of now asked what) whole what) (levels_of what)

-- A statement about one step of reading a piece: the state before and after it, the piece, what the step returns, the
-- result that it reads, the bytes written before and after it, and the numbers of failures.
abbrev pub StepOn : Type 0 → Type 1
StepOn S = S → S → List ℕ → Watched → Seen → Option (List ℕ) → Option (List ℕ) → ℕ → ℕ → Type 0

-- These are all results in a piece, in order, and this holds of the step that reads each one. A step begins with the
-- rest of the piece. Its result is printed before the next step. The first error of printing is told.
abbrev pub WatchesAll : {S : Type 0} → StepOn S → List Seen → S → S → List ℕ → Option (List ℕ) → Option (List ℕ) →
    ℕ → ℕ → Result (Unit {0}) PrintError → Type 0
WatchesAll Step [] old new piece before after failures failures' told =
    (piece ≡ []) × (new ≡ old) × (after ≡ before) × (failures' ≡ failures) × (told ≡ Ok tt)
WatchesAll {S} Step (what ∷ more) old new piece before after failures failures' told =
    (next : S) × (watched : Watched) × (written : Option (List ℕ)) × (failed : ℕ) ×
    (later : Result (Unit {0}) PrintError) ×
    Step old next piece watched what before written failures failed ×
    (told ≡ result_and watched.printed later) ×
    WatchesAll Step more next new (drop watched.used piece) written after failed failures' later

-- the first result in a piece is read and printed
abbrev pub Watches : Printing → Side → Option Moment → StepOn Tap
Watches printing side now old new piece watched what before after failures failures' =
    SeesFirst side now old new piece watched.used what ×
    PrintsSeen printing now old what before after failures failures' watched.printed
