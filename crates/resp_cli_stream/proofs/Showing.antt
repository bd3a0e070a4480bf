-- What was printed of a value by a call over a piece, and what stands of it then.
use Rattle.std.proofs.Common.{◌≡◌, ℕ, ◌+◌, ◌-◌, ◌<◌, ◌≤◌, ◌^◌, Bool, true, false, Option, None, Some, List, [], ◌∷◌, ◌++◌, drop, length, take, refl, sym, ap, subst, ◌∙◌, append_assoc, append-nil, length-append, arith, MatchBool, Result, Ok, Err}
use Rattle.std.specs.Prelude.{OnOk, is_ok}
use Rattle.std.specs.List.{AllByRecursion}
use Rattle.std.proofs.lemmas.List.{take_all}
use Rattle.resp_value.specs.Data.{Kind}
use Rattle.resp_value.specs.Rules.{Rules, WithinTotal}
use Rattle.resp_value.specs.Spellings.{IsViable}
use Rattle.resp_value.specs.TreeValues.{value}
use Rattle.resp_io.specs.Devices.{Appends, count_after}
use Rattle.resp_value.specs.declared.cause.Cause.{Cause}
use Rattle.resp_value.specs.declared.cause.Cause.TheVariants as cause
use Rattle.resp_fronts.specs.Events as e
use Rattle.resp_scan.specs.Counts.{close_count, open_count}
use Rattle.resp_scan.specs.Kinds.{content_events, rules_of}
use Rattle.resp_scan.specs.Listening.{HearsPiece, HearsRefusal, HearsValue, IfRefused, IfStopped, IfUsedUp, IfWhole, MayBeGiven, StopsAfter, StopsWithin, whole_text_events}
use Rattle.resp_scan.specs.Machine.Tokens.{Place}
use Rattle.resp_scan.specs.Reading.{AreDue, BeginDue, Events, HasNoValue, HasRead}
use Rattle.resp_scan.specs.declared.event.Fault.{Fault}
use Rattle.resp_scan.specs.declared.event.ScanError.{ScanError}
use Rattle.resp_scan.specs.declared.event.ScanError.TheVariants as stop
use Rattle.resp_scan.specs.declared.event.Scanned.{Scanned}
use Rattle.resp_scan.specs.declared.event.TextKind.{TextKind as ScannedKind}
use Rattle.resp_cli_stream.specs.Counts.{IsAny}
use Rattle.resp_cli_stream.specs.Lines.{HasRoomFor, page_of, size_of_text}
use Rattle.resp_cli_stream.specs.Pages.{OpenLine, Page, blank, end_of_line, left_text, page_after, page_after_event, shown, shown_on, with_bytes, with_member}
use Rattle.resp_cli_stream.specs.Printing.{Call, HasBroken, HasPrinted, IsOfCall, IsPageAfter, ScansTo, Start}
use Rattle.resp_cli_stream.specs.Scans.{HasShown, IsShownIn, IsShownOf}
use Rattle.resp_print.specs.Shown.{shown_text}
use Rattle.resp_cli_stream.specs.Takings.{IsByteFault, IsEndFault, LeavesRefused, TakesUnfinished, WritesValue, WritesPart}
use Rattle.resp_print.specs.Written.{AppendsPart, WritesText}
use Rattle.resp_cli_stream.specs.declared.lines.Lines.{Lines}
use Rattle.resp_cli_stream.specs.declared.lines.OpenText.{OpenText}
use Rattle.resp_decode.proofs.Feeding.{given_at_start}
use Rattle.resp_cli_stream.proofs.Rendered.{begins_none}
use Rattle.resp_cli_stream.proofs.Scanned.{byte_fault, ends_inside, no_spelling_without_value, scanned_nothing, value_uses_some}
use Rattle.resp_cli_stream.proofs.ShownTrees.{page-append, shown-append, tree_is_closed, tree_is_shown}
use Rattle.resp_print.proofs.WrittenLemmas.{Appends-append, Appends-none}

-- Room for the counts.

record IsBounded (n : ℕ) (p : Page) : Type 0 where
  members : AllByRecursion (λ l. l.members ≤ n) p.open_lines
  size : size_of_text p.text ≤ n

more_members : (n : ℕ) (ls : List OpenLine) → AllByRecursion (λ l. l.members ≤ n) ls → AllByRecursion (λ l. l.members ≤ n + 1) ls
more_members n [] h = tt
more_members n (l ∷ ls) h = (omega (arith, h.0), more_members n ls h.1)

member_added : (n : ℕ) (ls : List OpenLine) → AllByRecursion (λ l. l.members ≤ n) ls → AllByRecursion (λ l. l.members ≤ n + 1) (with_member ls)
member_added n [] h = tt
member_added n (l ∷ ls) h = (omega (arith, h.0), more_members n ls h.1)

last_closed : (n : ℕ) (ls : List OpenLine) → AllByRecursion (λ l. l.members ≤ n) ls → AllByRecursion (λ l. l.members ≤ n) (drop 1 ls)
last_closed n [] h = tt
last_closed n (l ∷ ls) h = h.1

byte_added : (n : ℕ) (t : Option OpenText) → size_of_text t ≤ n → size_of_text (with_bytes 1 t) ≤ n + 1
byte_added n None h = omega arith
byte_added n (Some t) h = omega (arith, h)

bounded_after_event : (n : ℕ) (x : e.Event) (p : Page) → IsBounded n p → IsBounded (n + 1) (page_after_event x p)
bounded_after_event n e.Null p h = record { members = member_added n p.open_lines h.members; size = omega (arith, h.size) }
bounded_after_event n (e.Bool b) p h = record { members = member_added n p.open_lines h.members; size = omega (arith, h.size) }
bounded_after_event n (e.Int i) p h = record { members = member_added n p.open_lines h.members; size = omega (arith, h.size) }
bounded_after_event n (e.Text k) p h = record { members = more_members n p.open_lines h.members; size = omega arith }
bounded_after_event n (e.Byte c) p h = record { members = more_members n p.open_lines h.members; size = byte_added n p.text h.size }
bounded_after_event n e.TextEnd p h = record { members = member_added n p.open_lines h.members; size = omega arith }
bounded_after_event n (e.Open k m) p h = record { members = (omega arith, more_members n p.open_lines h.members); size = omega (arith, h.size) }
bounded_after_event n e.Close p h = record {
  members = member_added n (drop 1 p.open_lines) (last_closed n p.open_lines h.members);
  size =
      omega (arith, h.size);
}
bounded_after_event n e.Done p h = record { members = more_members n p.open_lines h.members; size = omega (arith, h.size) }

bounded_after : (es : Events) (n : ℕ) (p : Page) → IsBounded n p → IsBounded (n + length es) (page_after es p)
bounded_after [] n p h = subst (λ m. IsBounded m p) (omega arith) h
bounded_after (x ∷ es) n p h = subst (λ m. IsBounded m (page_after es (page_after_event x p))) (omega arith)
    (bounded_after es (n + 1) (page_after_event x p) (bounded_after_event n x p h))

room_of : (n k : ℕ) (ls : List OpenLine) → n + k < 2 ^ 64 → AllByRecursion (λ l. l.members ≤ n) ls → AllByRecursion (λ l. l.members + k < 2 ^ 64) ls
room_of n k [] few h = tt
room_of n k (l ∷ ls) few h = (omega (arith, few, h.0), room_of n k ls few h.1)

pub has_room : (given : Events) (k : ℕ) → length given + k < 2 ^ 64 → HasRoomFor k (page_after given blank)
has_room given k few =
    let h = bounded_after given 0 blank (record { members = tt; size = omega arith }) in
    record {
      members = room_of (0 + length given) k (page_after given blank).open_lines (omega (arith, few)) h.members;
      size = omega (arith, few, h.size);
    }

-- How many aggregates are open.

with_member_size : (ls : List OpenLine) → length (with_member ls) ≡ length ls
with_member_size [] = refl
with_member_size (l ∷ ls) = refl

without_last_size : (ls : List OpenLine) (d : ℕ) → length ls ≡ d + 1 → length (drop 1 ls) ≡ d
without_last_size [] d h = absurd (omega (arith, h))
without_last_size (l ∷ ls) d h = omega (arith, h)

count-append : (es fs : Events) → (open_count (es ++ fs) ≡ open_count es + open_count fs) × (close_count (es ++ fs) ≡ close_count es + close_count fs)
count-append [] fs = (omega arith, omega arith)
count-append (x ∷ es) fs = let h = count-append es fs in (omega (arith, h.0), omega (arith, h.1))

-- events that open and close nothing
pub record AreLevel (es : Events) : Type 0 where
  pub opens : open_count es ≡ 0
  pub closes : close_count es ≡ 0

pub content_level : (s : List ℕ) → AreLevel (content_events s)
content_level [] = record { opens = refl; closes = refl }
content_level (c ∷ s) = let h = content_level s in record { opens = omega (arith, h.opens); closes = omega (arith, h.closes) }

pub whole_level : (k : ScannedKind) (s : List ℕ) → AreLevel (whole_text_events k s)
whole_level k s =
    let h = content_level s in
    let counts = count-append (content_events s) (e.TextEnd ∷ []) in
    record { opens = omega (arith, h.opens, counts.0); closes = omega (arith, h.closes, counts.1) }

rest_level : (x : e.Event) (es : Events) → AreLevel (x ∷ es) → AreLevel es
rest_level x es h = record { opens = omega (arith, h.opens); closes = omega (arith, h.closes) }

-- leave as many lines open
level_lines : (es : Events) (p : Page) → AreLevel es → length (page_after es p).open_lines ≡ length p.open_lines
level_lines [] p h = refl
level_lines (e.Null ∷ es) p h = level_lines es (page_after_event e.Null p) (rest_level e.Null es h) ∙ with_member_size p.open_lines
level_lines (e.Bool b ∷ es) p h = level_lines es (page_after_event (e.Bool b) p) (rest_level (e.Bool b) es h) ∙ with_member_size p.open_lines
level_lines (e.Int i ∷ es) p h = level_lines es (page_after_event (e.Int i) p) (rest_level (e.Int i) es h) ∙ with_member_size p.open_lines
level_lines (e.Text k ∷ es) p h = level_lines es (page_after_event (e.Text k) p) (rest_level (e.Text k) es h)
level_lines (e.Byte c ∷ es) p h = level_lines es (page_after_event (e.Byte c) p) (rest_level (e.Byte c) es h)
level_lines (e.TextEnd ∷ es) p h = level_lines es (page_after_event e.TextEnd p) (rest_level e.TextEnd es h) ∙ with_member_size p.open_lines
level_lines (e.Open k m ∷ es) p h = absurd (omega (arith, h.opens))
level_lines (e.Close ∷ es) p h = absurd (omega (arith, h.closes))
level_lines (e.Done ∷ es) p h = level_lines es p (rest_level e.Done es h)

-- as many lines are open after these events as aggregates
abbrev pub AreAsDeep : Events → Type 0
AreAsDeep given = length (page_after given blank).open_lines + close_count given ≡ open_count given

lines_after : (given more : Events) → length (page_after (given ++ more) blank).open_lines ≡ length (page_after more (page_after given blank)).open_lines
lines_after given more = ap (λ p. let q : Page = p in length q.open_lines) (page-append given more blank)

pub level_deep : (given more : Events) → AreLevel more → AreAsDeep given → AreAsDeep (given ++ more)
level_deep given more level deep =
    let counts = count-append given more in
    omega (arith, deep, level.opens, level.closes, counts.0, counts.1, lines_after given more, level_lines more (page_after given blank) level)

pub opened_deep : (given : Events) (k : Kind) (m : Option ℕ) → AreAsDeep given → AreAsDeep (given ++ e.Open k m ∷ [])
opened_deep given k m deep =
    let counts = count-append given (e.Open k m ∷ []) in
    omega (arith, deep, counts.0, counts.1, lines_after given (e.Open k m ∷ []))

pub closed_deep : (given : Events) → MayBeGiven (given ++ e.Close ∷ []) → AreAsDeep given → AreAsDeep (given ++ e.Close ∷ [])
closed_deep given may deep =
    let counts = count-append given (e.Close ∷ []) in
    let ls = (page_after given blank).open_lines in
    let d = length ls - 1 in
    let some : length ls ≡ d + 1 = omega (arith, deep, may.opened, counts.0, counts.1) in
    omega (
      arith,
      deep,
      some,
      counts.0,
      counts.1,
      lines_after given (e.Close ∷ []),
      without_last_size ls d some,
      with_member_size (drop 1 ls),
    )

-- A printer.

-- what a call wrote of more events: all of it, or a part where a write failed
pub prints : {X E : Type 0} (r : Result X E) (call : Call) (a b : ℕ) (lines lines' : Lines) (held held' : Option (List ℕ)) (f f' : ℕ) (given more : Events) →
    (IsOfCall call a b × HasPrinted call.start lines held f given) → MayBeGiven (given ++ more) → (AreAsDeep given → AreAsDeep (given ++ more)) →
    (1 ≤ open_count more → close_count more ≡ 0) → WritesText held held' f f' r (shown_on (page_of lines) more) → OnOk r (IsPageAfter lines lines' more) →
    MatchBool (is_ok r) (IsOfCall call a b × HasPrinted call.start lines' held' f' (given ++ more))
    (StopsWithin (λ es. IsOfCall call a b × HasBroken call.start held' f' es) given more)
prints (Ok x) call a b lines lines' held held' f f' given more had may deep one wrote page =
    let w = had.1 in
    let so_far = call.start.so_far in
    let text = shown_on (page_of lines) more in
    let counts = count-append given more in
    let size : length (given ++ more) ≡ length given + length more = length-append given more in
    let few = may.limits_in_range.total_in_range.1 in
    let level : length (page_of lines).open_lines ≡ length (page_after given blank).open_lines =
    ap (λ p. let q : Page = p in length q.open_lines) w.shown_lines.page in
    let room = subst (HasRoomFor (length more)) (sym w.shown_lines.page) (has_room given (length more) (omega (arith, size, may.few, few))) in
    let next = page room (λ some. omega (
      arith,
      some,
      one some,
      level,
      w.shown_lines.deep,
      counts.0,
      counts.1,
      may.nested,
      may.limits_in_range.depth_in_range.1,
    )) in (
      had.0,
      record {
        shown_lines = record {
          page = next ∙ ap (page_after more) w.shown_lines.page ∙ sym (page-append given more blank);
          deep = deep w.shown_lines.deep;
        };
        more = w.more ++ text;
        appended = Appends-append call.start.held held held' w.more text w.appended wrote.0;
        whole = sym (append_assoc so_far w.more text) ∙ ap (λ z. z ++ text) w.whole ∙ ap (λ p. shown given ++ shown_on p more) w.shown_lines.page ∙
            sym (shown-append given more blank);
        none_failed = wrote.1 ∙ w.none_failed;
      },
    )
prints (Err x) call a b lines lines' held held' f f' given more had may deep one wrote page =
    let w = had.1 in
    let so_far = call.start.so_far in
    let part = wrote.0 in
    record {
      told = more;
      later = [];
      parts = sym (append-nil more);
      has_stopped = (
        had.0,
        record {
          more = w.more ++ part.part;
          later = part.beyond;
          appended = Appends-append call.start.held held held' w.more part.part w.appended part.appended;
          parts = shown-append given more blank ∙ ap (λ p. shown given ++ shown_on p more) (sym w.shown_lines.page) ∙
              ap (λ z. z ++ shown_on (page_of lines) more) (sym w.whole) ∙ append_assoc so_far w.more (shown_on (page_of lines) more) ∙
              ap (λ z. so_far ++ (w.more ++ z)) part.whole ∙ ap (λ z. so_far ++ z) (sym (append_assoc w.more part.part part.beyond));
          failed = subst (λ n. f' ≡ count_after 1 n) w.none_failed wrote.1;
        },
      );
    }

-- What a call that is over has printed.

-- in words of what the references of the call hold then
pub left_printed : {W : Type 0} (written : W → Option (List ℕ)) (failures : W → ℕ) (call : Call) (a b : ℕ) (lines lines' : Lines) (x x' : W) →
    (call.lines_name ≡ a → lines' ≡ lines) → (call.writer_name ≡ b → x' ≡ x) → (es : Events) →
    (IsOfCall call a b × HasPrinted call.start lines (written x) (failures x) es) → HasPrinted call.start lines' (written x') (failures x') es
left_printed written failures call a b lines lines' x x' same_lines same_writer es h =
    subst (λ l. HasPrinted call.start l (written x') (failures x') es) (sym (same_lines (sym h.0.lines)))
    (subst (λ y. HasPrinted call.start lines (written y) (failures y) es) (sym (same_writer (sym h.0.writer))) h.1)

pub left_broken : {W : Type 0} (written : W → Option (List ℕ)) (failures : W → ℕ) (call : Call) (a b : ℕ) (x x' : W) →
    (call.writer_name ≡ b → x' ≡ x) → (es : Events) →
    (IsOfCall call a b × HasBroken call.start (written x) (failures x) es) → HasBroken call.start (written x') (failures x') es
left_broken written failures call a b x x' same_writer es h =
    subst (λ y. HasBroken call.start (written y) (failures y) es) (sym (same_writer (sym h.0.writer))) h.1

-- what was heard by one word was heard by another that follows of it
pub scans_to : (H K S T : Events → Type 0) (r : Rules) (s : Place) (front piece : List ℕ) (result : Result Scanned ScanError) →
    ((es : Events) → H es → K es) → ((es : Events) → S es → T es) → IfWhole result (λ used. HearsValue r s H (front ++ take used piece)) →
    IfUsedUp result (HearsPiece s H (front ++ piece)) → IfRefused result (HearsRefusal r H front piece) → IfStopped result (StopsAfter r S front piece) →
    ScansTo r s K T front piece result
scans_to H K S T r s front piece (Ok scanned) so stops whole part refused stopped = case scanned.is_whole refl
  where
    case : (b : Bool) → scanned.is_whole ≡ b → MatchBool b (HearsValue r s K (front ++ take scanned.used piece)) (HearsPiece s K (front ++ piece))
    case true is = let h = whole is in record { heard = h.heard; is_value = h.is_value; has_heard = so h.heard h.has_heard; reads = h.reads }
    case false is =
        let h = part is in
        record { heard = h.heard; viable = h.viable; no_value = h.no_value; all_due = h.all_due; has_heard = so h.heard h.has_heard; reads = h.reads }
scans_to H K S T r s front piece (Err (stop.Fault fault)) so stops whole part refused stopped =
    record { heard = refused.heard; refused = refused.refused; has_heard = so refused.heard refused.has_heard }
scans_to H K S T r s front piece (Err (stop.Stopped n)) so stops whole part refused stopped = record {
  told = stopped.told;
  has_stopped = stops stopped.told stopped.has_stopped;
  in_piece = stopped.in_piece;
  within = stopped.within;
  viable = stopped.viable;
  first_due = stopped.first_due;
  later = stopped.later;
  all_due = stopped.all_due;
  begins_one = stopped.begins_one;
}

-- What comes of a piece.

-- what was shown before a call has been printed since its start
pub printed_before : {s : Place} {lines : Lines} {front so_far : List ℕ} (held : Option (List ℕ)) (f : ℕ) (w : HasShown s lines front so_far) →
    HasPrinted (record { held = held; failures = f; so_far = so_far }) lines held f w.given
printed_before {s} {lines} {front} {so_far} held f w = record {
  shown_lines = w.shown_lines;
  more = [];
  appended = Appends-none held;
  whole = append-nil so_far ∙ w.written;
  none_failed = refl;
}

module _ (r : Rules) (since : Start) (front piece : List ℕ) (after : Option (List ℕ)) (f : ℕ) where
  -- a value that was shown whole
  shows_value : (s : Place) (lines : Lines) (used : ℕ) → HasNoValue front →
      HearsValue r s (HasPrinted since lines after f) (front ++ take used piece) →
      (0 < used) × WritesValue r shown_text IsAny (HasShown s lines) (front ++ take used piece) since.so_far since.held after
  shows_value s lines used none h =
      let v = h.is_value in
      let w = h.has_heard in
      let closed : page_of lines ≡ blank = w.shown_lines.page ∙ ap (λ es. page_after es blank) v.told ∙ tree_is_closed v.tree v.spells.is_tree in (
        value_uses_some front piece used v.tree none v.spells,
        record {
          value = value v.tree;
          spelling = record { tree = v.tree; spells = v.spells; keeps = v.keeps; valued = refl };
          written = tt;
          more = w.more;
          appended = w.appended;
          whole = sym (tree_is_shown v.tree v.spells.is_tree) ∙ ap shown (sym v.told) ∙ sym w.whole;
          takes = record {
            given = [];
            scanned = scanned_nothing s h.reads;
            shown_lines = record { page = closed; deep = refl };
            written = refl;
          };
        },
      )

  -- a piece that was shown whole
  shows_front : (s : Place) (lines : Lines) → rules_of s ≡ r → HearsPiece s (HasPrinted since lines after f) (front ++ piece) →
      TakesUnfinished r (HasShown s lines) (front ++ piece) since.so_far since.held after
  shows_front s lines rules h = record {
    no_value = h.no_value;
    viable = subst (λ q. IsViable q WithinTotal (front ++ piece)) rules h.viable;
    more = h.has_heard.more;
    appended = h.has_heard.appended;
    takes = record {
      given = h.heard;
      scanned = record { reads = h.reads; all_due = h.all_due; no_value = h.no_value };
      shown_lines = h.has_heard.shown_lines;
      written = h.has_heard.whole;
    };
  }

  -- the one or the other
  pub shows_on : (s : Place) (lines : Lines) (scanned : Scanned) → HasNoValue front → rules_of s ≡ r →
      MatchBool scanned.is_whole (HearsValue r s (HasPrinted since lines after f) (front ++ take scanned.used piece))
      (HearsPiece s (HasPrinted since lines after f) (front ++ piece)) → (scanned.is_whole ≡ false → scanned.used ≡ length piece) →
      MatchBool scanned.is_whole
      ((0 < scanned.used) × WritesValue r shown_text IsAny (HasShown s lines) (front ++ take scanned.used piece) since.so_far since.held after)
      ((scanned.used ≡ length piece) × TakesUnfinished r (HasShown s lines) (front ++ piece) since.so_far since.held after)
  shows_on s lines scanned none rules = case scanned.is_whole
    where
      case : (b : Bool) → MatchBool b (HearsValue r s (HasPrinted since lines after f) (front ++ take scanned.used piece))
          (HearsPiece s (HasPrinted since lines after f) (front ++ piece)) → (b ≡ false → scanned.used ≡ length piece) → MatchBool b
          ((0 < scanned.used) × WritesValue r shown_text IsAny (HasShown s lines) (front ++ take scanned.used piece) since.so_far since.held after)
          ((scanned.used ≡ length piece) × TakesUnfinished r (HasShown s lines) (front ++ piece) since.so_far since.held after)
      case true h all = shows_value s lines scanned.used none h
      case false h all = (all refl, shows_front s lines rules h)

  -- no write has failed then
  pub none_failed : (s : Place) (lines : Lines) (scanned : Scanned) →
      MatchBool scanned.is_whole (HearsValue r s (HasPrinted since lines after f) (front ++ take scanned.used piece))
      (HearsPiece s (HasPrinted since lines after f) (front ++ piece)) → f ≡ since.failures
  none_failed s lines scanned = case scanned.is_whole
    where
      case : (b : Bool) → MatchBool b (HearsValue r s (HasPrinted since lines after f) (front ++ take scanned.used piece))
          (HearsPiece s (HasPrinted since lines after f) (front ++ piece)) → f ≡ since.failures
      case true h = h.has_heard.none_failed
      case false h = h.has_heard.none_failed

-- a refused byte, after which an open line was ended
pub shows_refused : {r : Rules} {since : Start} {front piece : List ℕ} {lines : Lines} {now after : Option (List ℕ)} {f : ℕ} {fault : Fault} →
    HearsRefusal r (HasPrinted since lines now f) front piece fault →
    Appends now after (end_of_line (page_of lines).text) →
    LeavesRefused r (IsByteFault r) IsShownOf (front ++ piece) since.so_far since.held after fault.cause fault.at
shows_refused {r} {since} {front} {piece} {lines} {now} {after} {f} {fault} h ended =
    let w = h.has_heard in
    let ending = end_of_line (page_of lines).text in
    record {
      fault = byte_fault r front piece fault h.heard h.refused;
      no_spelling = h.refused.no_value;
      more = w.more ++ ending;
      appended = Appends-append since.held now after w.more ending w.appended ended;
      is_left = record {
        given = h.heard;
        all_due = h.refused.all_due;
        is_text = sym (append_assoc since.so_far w.more ending) ∙ ap (λ z. z ++ ending) w.whole ∙
            ap (λ p. let q : Page = p in shown h.heard ++ end_of_line q.text) w.shown_lines.page;
      };
    }

-- a first part of what was to be written
part_shown : (r : Rules) (whole so_far : List ℕ) (size : ℕ) (given : Events) (before now after : Option (List ℕ)) (more text rest : List ℕ) →
    IsViable r WithinTotal (take size whole) → BeginDue (take size whole) given → Appends before now more → AppendsPart now after text →
    left_text given ≡ so_far ++ (more ++ (text ++ rest)) → WritesPart r shown_text (IsShownIn r) whole so_far before after
part_shown r whole so_far size given before now after more text rest viable due appended part is = record {
  begins = begins_none whole;
  begun = left_text given;
  is_begun = record { size = size; given = given; viable = viable; first_due = due; is_text = refl };
  more = more ++ part.part;
  later = part.beyond ++ rest;
  parts = is ∙ ap (λ z. so_far ++ (more ++ (z ++ rest))) part.whole ∙ ap (λ z. so_far ++ z) (regroup more part.part part.beyond rest);
  appended = Appends-append before now after more part.part appended part.appended;
}
  where
    regroup : (a b c d : List ℕ) → a ++ ((b ++ c) ++ d) ≡ (a ++ b) ++ (c ++ d)
    regroup a b c d = ap (λ z. a ++ z) (append_assoc b c d) ∙ sym (append_assoc a b (c ++ d))

-- the write of a line's end failed
pub shows_end_part : {r : Rules} {since : Start} {front piece : List ℕ} {lines : Lines} {now after : Option (List ℕ)} {f : ℕ} {fault : Fault} →
    HearsRefusal r (HasPrinted since lines now f) front piece fault → AppendsPart now after (end_of_line (page_of lines).text) →
    WritesPart r shown_text (IsShownIn r) (front ++ piece) since.so_far since.held after
shows_end_part {r} {since} {front} {piece} {lines} {now} {after} {f} {fault} h part =
    let w = h.has_heard in
    let given = h.heard in
    let ending = end_of_line (page_of lines).text in
    part_shown r (front ++ piece) since.so_far fault.at given since.held now after w.more ending [] h.refused.viable
    (λ rest whole spells. ([], h.refused.all_due rest whole spells ∙ sym (append-nil given))) w.appended part
    (ap (λ p. let q : Page = p in shown given ++ end_of_line q.text) (sym w.shown_lines.page) ∙ ap (λ z. z ++ ending) (sym w.whole) ∙
    append_assoc since.so_far w.more ending ∙ ap (λ z. since.so_far ++ (w.more ++ z)) (sym (append-nil ending)))

-- the write of what an event calls for failed
pub shows_broken : {r : Rules} {since : Start} {front piece : List ℕ} {after : Option (List ℕ)} {f taken : ℕ} →
    StopsAfter r (HasBroken since after f) front piece taken → WritesPart r shown_text (IsShownIn r) (front ++ piece) since.so_far since.held after
shows_broken {r} {since} {front} {piece} {after} {f} {taken} h =
    let w = h.has_stopped in
    let given = h.told in
    let ending = end_of_line (page_after given blank).text in
    record {
      begins = begins_none (front ++ piece);
      begun = left_text given;
      is_begun = record { size = taken; given = given; viable = h.viable; first_due = h.first_due; is_text = refl };
      more = w.more;
      later = w.later ++ ending;
      parts = ap (λ z. z ++ ending) w.parts ∙ append_assoc since.so_far (w.more ++ w.later) ending ∙
          ap (λ z. since.so_far ++ z) (append_assoc w.more w.later ending);
      appended = w.appended;
    }

-- The end of the input.

pub shown_stands : (r : Rules) (s : Place) (lines : Lines) (front so_far : List ℕ) →
    ((bytes : List ℕ) (given : Events) → HasRead s bytes given → IsViable r WithinTotal bytes) → HasShown s lines front so_far →
    (later : List ℕ) × IsShownIn r front (so_far ++ later)
shown_stands r s lines front so_far viable w =
    let all : take (length front) front ≡ front = take_all (length front) front (omega arith) in (
      end_of_line (page_after w.given blank).text,
      record {
        size = length front;
        given = w.given;
        viable = subst (IsViable r WithinTotal) (sym all) (viable front w.given w.scanned.reads);
        first_due = λ rest whole spells. ([], subst (λ z. AreDue z w.given) (sym all) w.scanned.all_due rest whole spells ∙ sym (append-nil w.given));
        is_text = ap (λ z. z ++ end_of_line (page_after w.given blank).text) w.written;
      },
    )

pub shown_between : (s : Place) (lines : Lines) (front so_far : List ℕ) → front ≡ [] → HasShown s lines front so_far → so_far ≡ []
shown_between s lines front so_far none w =
    w.written ∙ ap shown (given_at_start w.given (subst (λ z. AreDue z w.given) none w.scanned.all_due))

pub shown_truncated : (r : Rules) (s : Place) (lines : Lines) (front so_far : List ℕ) (before after : Option (List ℕ)) (c : Cause) (at : ℕ) →
    IsViable r WithinTotal front → c ≡ cause.Truncated → at ≡ length front → (front ≡ [] → ⊥) → HasShown s lines front so_far →
    Appends before after (end_of_line (page_of lines).text) → LeavesRefused r (IsEndFault r) IsShownOf front so_far before after c at
shown_truncated r s lines front so_far before after c at viable names place begun w ended =
    let all : take at front ≡ front = ap (λ k. take k front) place ∙ take_all (length front) front (omega arith) in
    record {
      fault = ends_inside r front c at viable names place begun;
      no_spelling = no_spelling_without_value r front w.scanned.no_value;
      more = end_of_line (page_of lines).text;
      appended = ended;
      is_left = record {
        given = w.given;
        all_due = subst (λ z. AreDue z w.given) (sym all) w.scanned.all_due;
        is_text = ap (λ z. z ++ end_of_line (page_of lines).text) w.written ∙
            ap (λ p. let q : Page = p in shown w.given ++ end_of_line q.text) w.shown_lines.page;
      };
    }

pub shown_end_part : (r : Rules) (s : Place) (lines : Lines) (front so_far : List ℕ) (before after : Option (List ℕ)) →
    IsViable r WithinTotal front → HasShown s lines front so_far → AppendsPart before after (end_of_line (page_of lines).text) →
    WritesPart r shown_text (IsShownIn r) front so_far before after
shown_end_part r s lines front so_far before after viable w part =
    let all : take (length front) front ≡ front = take_all (length front) front (omega arith) in
    let ending = end_of_line (page_of lines).text in
    part_shown r front so_far (length front) w.given before before after [] ending [] (subst (IsViable r WithinTotal) (sym all) viable)
    (λ rest whole spells. ([], subst (λ z. AreDue z w.given) (sym all) w.scanned.all_due rest whole spells ∙ sym (append-nil w.given)))
    (Appends-none before) part
    (ap (λ p. let q : Page = p in shown w.given ++ end_of_line q.text) (sym w.shown_lines.page) ∙ ap (λ z. z ++ ending) (sym w.written) ∙
    ap (λ z. so_far ++ z) (sym (append-nil ending)))
