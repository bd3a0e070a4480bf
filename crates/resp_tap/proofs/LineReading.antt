-- Commands that come as lines.
use Rattle.std.proofs.Common.{◌≡◌, ◌≢◌, ◌∙◌, ◌⊎◌, inl, inr, ℕ, suc, ◌+◌, ◌<◌, Bool, true, false, Option, None, Some, List, [], ◌∷◌, ◌++◌, length, take, drop, get_or, ap, refl, sym, subst, arith, drop-cons, length-take-le}
use Rattle.std.specs.Bool.{MatchBool}
use Rattle.std.specs.List.{AllByRecursion}
use Rattle.std.proofs.lemmas.List.{append-nil, get_or-take, take-append-drop, take_all}
use Rattle.std.proofs.lemmas.Bool.{eq-eqb, eqb-true}
use Rattle.memchr.specs.Find.{IsFirstByte, is_byte}
use Rattle.resp_line.specs.Lines.{AreWords}
use Rattle.resp_value.specs.Canonical.{canonical_text}
use Rattle.resp_value.specs.Data.{Datum}
use Rattle.resp_value.specs.Laws.{NoSpellingBeginsAnother}
use Rattle.resp_value.specs.Spellings.{IsSpelling}
use Rattle.resp_value.specs.Trees.{Spells}
use Rattle.resp_value.specs.Words.{command_of}
use Rattle.resp_value.specs.declared.cause.Cause.{Cause}
use Rattle.resp_value.specs.declared.cause.Cause.TheVariants as causes
use Rattle.resp_value.specs.declared.version.Version.TheVariants.{Two}
use Rattle.resp_session.specs.Commands.{Call, Meaning, NoCommand, Nothing, array_meaning, meaning_of}
use Rattle.resp_session.proofs.CommandWords.{meaning_of-command_of}
use Rattle.resp_tap.specs.SeenOf.{words_by}
use Rattle.resp_tap.specs.Lined.{BeginsLine, EndsLine, EndsSo, IsInLine, IsNoLine, TellsLine}
use Rattle.resp_tap.specs.Taps.{TapState, tap_state, with_refused_command}
use Rattle.resp_tap.specs.Times.{KeepsTimes}
use Rattle.resp_tap.specs.Watching.{RefusesOfRequest, SeesRequest, WhereRequested, request_rules}
use Rattle.resp_tap.specs.declared.lines.Lines.{Lines}
use Rattle.resp_tap.specs.declared.moment.Moment.{Moment}
use Rattle.resp_tap.specs.declared.seen.Place.TheVariants as place
use Rattle.resp_tap.specs.declared.seen.Seen.{Seen}
use Rattle.resp_tap.specs.declared.seen.Seen.TheVariants as seen
use Rattle.resp_tap.specs.declared.seen.Step.{Step}
use Rattle.resp_tap.specs.declared.tap.Tap.{Tap}

-- ---- which bytes belong to a line

pub line_begins : (lines : Lines) (t : Tap) (piece : List ℕ) (r : Bool) → lines.are_read ≡ true → (tap_state t).reads_commands ≡ true →
    lines.held.items ≡ [] → WhereRequested t (λ front. front ≡ []) → MatchBool r (BeginsLine piece) (BeginsLine piece → ⊥) →
    MatchBool r (IsInLine lines t piece) (IsNoLine lines t piece)
line_begins lines t piece true on reads none between begins = record { on = on; reads = reads; begins = inr (between, begins) }
line_begins lines t piece false on reads none between begins = λ on' reads'. (none, λ front taken empty line. begins line)

pub inside_array : (lines : Lines) (t : Tap) (piece : List ℕ) (r : Bool) → r ≡ false → lines.held.items ≡ [] →
    WhereRequested t (λ front. front ≡ [] → ⊥) → MatchBool r (IsInLine lines t piece) (IsNoLine lines t piece)
inside_array lines t piece false is none inside = λ on reads. (none, λ front taken empty line. inside front taken empty)
inside_array lines t piece true is none inside = absurd (cc)

-- ---- the array of the words of a line

-- a value whose spelling begins the text is the array
only_value : NoSpellingBeginsAnother → (s : TapState) (words : List (List ℕ)) (text : List ℕ) (used : ℕ) (x : Datum) →
    IsSpelling (request_rules s.limits) (command_of words) text → IsSpelling (request_rules s.limits) x (take used text) →
    meaning_of x ≡ meaning_of (command_of words)
only_value unique s words text used x spelled other =
    ap meaning_of (unique (request_rules s.limits) (request_rules s.limits) x (command_of words) (take used text) text (drop used text) [] other spelled
    (take-append-drop used text ∙ sym (append-nil text))).0

call_is : (words : List (List ℕ)) → 0 < length words → meaning_of (command_of words) ≡ array_meaning (Some words)
call_is [] some = absurd (omega (arith, some))
call_is (name ∷ arguments) some = meaning_of-command_of name arguments

-- commands with the same meaning have the same words
pub same_words : (words words' : List (List ℕ)) → 0 < length words → 0 < length words' → array_meaning (Some words) ≡ array_meaning (Some words') →
    words ≡ words'
same_words [] words' some some' same = absurd (omega (arith, some))
same_words (name ∷ arguments) [] some some' same = absurd (omega (arith, some'))
same_words (name ∷ arguments) (name' ∷ arguments') some some' same = ap words_by same

abbrev is_call : Meaning → Bool
is_call (Call name arguments) = true
is_call _ = false

calls : (words : List (List ℕ)) → 0 < length words → is_call (array_meaning (Some words)) ≡ true
calls [] some = absurd (omega (arith, some))
calls (name ∷ arguments) some = refl

-- words are a command
pub no_other : (words : List (List ℕ)) (m : Meaning) → 0 < length words → is_call m ≡ false → m ≡ array_meaning (Some words) → ⊥
no_other words m some other same =
    let e : true ≡ false = sym (calls words some) ∙ sym (ap is_call same) ∙ other in cc

-- ---- what is told at the end of a line

pub line_told : NoSpellingBeginsAnother → (now : Option Moment) (old new : Tap) (line text : List ℕ) (words : List (List ℕ)) (used : ℕ) (what : Seen) →
    0 < length words → AreWords words line → text ≡ canonical_text Two (command_of words) →
    IsSpelling (request_rules (tap_state old).limits) (command_of words) text → KeepsTimes now old new →
    SeesRequest (tap_state old) new [] text used what → EndsSo now line old new what
line_told unique now old new line text words used seen.Nothing some are same spelled times sees =
    absurd (sees.no_value (length text) spelled.tree (subst (Spells spelled.tree) (sym (take_all (length text) text (omega arith))) spelled.spells))
line_told unique now old new line text words used seen.Passed some are same spelled times sees =
    absurd (no_other words Nothing some refl (sym sees.means ∙ only_value unique (tap_state old) words text used sees.value spelled sees.spelled ∙
    call_is words some))
line_told unique now old new line text words used (seen.Command number words' lengths) some are same spelled times sees =
    let equal : words ≡ sees.whole = same_words words sees.whole some sees.some
    (sym (call_is words some) ∙ sym (only_value unique (tap_state old) words text used sees.value spelled sees.spelled) ∙ sees.means) in record {
      whole = sees.whole;
      some = sees.some;
      are = subst (λ ws. AreWords ws line) equal are;
      are_kept = sees.are_kept;
      numbered = sees.numbered;
      after = sees.after;
      takes = sees.takes;
      times = times;
    }
line_told unique now old new line text words used (seen.NotCommand number) some are same spelled times sees =
    absurd (no_other words NoCommand some refl (sym sees.means ∙ only_value unique (tap_state old) words text used sees.value spelled sees.spelled ∙
    call_is words some))
line_told unique now old new line text words used (seen.Refused cause at where') some are same spelled times sees = record {
  why = inr (inr (words, used, are, subst (λ t. RefusesOfRequest (tap_state old) [] t used cause at) same sees.refused));
  place = sees.place;
  after = sees.after;
}
line_told unique now old new line text words used (seen.Reply number kept) some are same spelled times sees = absurd sees
line_told unique now old new line text words used (seen.Push members lengths) some are same spelled times sees = absurd sees
line_told unique now old new line text words used (seen.Value kept) some are same spelled times sees = absurd sees

-- ---- the bytes of a line

-- no byte is an LF
no_lf : (bytes : List ℕ) → ((k : ℕ) → k < length bytes → get_or bytes k 0 ≡ 10 → ⊥) → AllByRecursion (λ b. b ≢ 10) bytes
no_lf [] none = tt
no_lf (b ∷ bytes) none = (none 0 (omega arith), no_lf bytes (λ k below. none (suc k) (omega arith)))

unfound : (x : ℕ) → (is_byte 10 x ≡ true → ⊥) → x ≡ 10 → ⊥
unfound x none is = none (eq-eqb x 10 is)

pub without_lf : (piece : List ℕ) → IsFirstByte (is_byte 10) piece None → AllByRecursion (λ b. b ≢ 10) piece
without_lf piece nowhere = no_lf piece (λ k below at. unfound (get_or piece k 0) (nowhere k (omega arith) below) at)

pub without_lf_before : (piece : List ℕ) (end : ℕ) → IsFirstByte (is_byte 10) piece (Some end) → AllByRecursion (λ b. b ≢ 10) (take end piece)
without_lf_before piece end (first, at) =
    let size : length (take end piece) ≡ end = length-take-le end piece (omega (arith, first.high)) in
    no_lf (take end piece) (λ k below found. unfound (get_or piece k 0) (first.before k (omega arith) (subst (λ n. k < n) size below))
    (sym (get_or-take end piece k 0 (subst (λ n. k < n) size below)) ∙ found))

-- a line is too long, or memory for its bytes is out
pub line_refused : (now : Option Moment) (lines lines' : Lines) (old new : Tap) (piece last rest : List ℕ) (result : Step) (cause : Cause) (at : ℕ) →
    piece ≡ last ++ rest → AllByRecursion (λ b. b ≢ 10) last →
    result ≡ record { used = length piece; seen = seen.Refused cause at (place.Command ((tap_state old).commands + 1)) } →
    tap_state new ≡ with_refused_command (tap_state old) →
    ((cause ≡ causes.OutOfMemory) ⊎ ((cause ≡ causes.Length) × (65536 < length (lines.held.items ++ last)))) →
    TellsLine now lines lines' old new piece result.used result.seen
line_refused now lines lines' old new piece last rest result cause at begins none is after why =
    subst (λ (r : Step). TellsLine now lines lines' old new piece r.used r.seen) (sym is) (record {
      last = last;
      rest = rest;
      begins = begins;
      no_end = none;
      told = record {
        why = elim why [ inl memory ↦ inr (inl (inl memory)) | inr long ↦ inl long ];
        place = refl;
        after = after;
      };
      read = λ on. absurd (let e : true ≡ false = sym on ∙ ap (λ (s : TapState). s.reads_commands) after in cc);
    })

by_end : (now : Option Moment) (lines lines' : Lines) (old new : Tap) (piece line : List ℕ) (used : ℕ) (what : Seen) → EndsSo now line old new what →
    EndsLine now lines lines' old new piece used what → TellsLine now lines lines' old new piece used what
by_end now lines lines' old new piece line used seen.Nothing so ends = absurd so
by_end now lines lines' old new piece line used seen.Passed so ends = ends
by_end now lines lines' old new piece line used (seen.Command number words lengths) so ends = ends
by_end now lines lines' old new piece line used (seen.NotCommand number) so ends = ends
by_end now lines lines' old new piece line used (seen.Refused cause at where') so ends = ends
by_end now lines lines' old new piece line used (seen.Reply number kept) so ends = ends
by_end now lines lines' old new piece line used (seen.Push members lengths) so ends = ends
by_end now lines lines' old new piece line used (seen.Value kept) so ends = ends

-- a line ends in the piece
pub line_ended : (now : Option Moment) (lines lines' : Lines) (old new : Tap) (piece line : List ℕ) (end used : ℕ) (what : Seen) →
    IsFirstByte (is_byte 10) piece (Some end) → line ≡ lines.held.items ++ take end piece → used ≡ end + 1 → lines'.held.items ≡ [] →
    EndsSo now line old new what → TellsLine now lines lines' old new piece used what
line_ended now lines lines' old new piece line end used what (first, at) is counted none so =
    let one : suc end ≡ used = omega (arith, counted) in
    let size : length (take end piece) ≡ end = length-take-le end piece (omega (arith, first.high)) in
    by_end now lines lines' old new piece line used what so (record {
      last = take end piece;
      rest = drop end piece;
      begins = sym (take-append-drop end piece);
      no_end = without_lf_before piece end (first, at);
      told = subst (λ l. EndsSo now l old new what) is so;
      read = λ on. (
        drop-cons piece end 0 first.high ∙ ap (λ x. x ∷ drop (suc end) piece) (eqb-true (get_or piece end 0) 10 at) ∙ ap (λ n. 10 ∷ drop n piece) one,
        omega (arith, counted, size),
        none,
      );
    })
