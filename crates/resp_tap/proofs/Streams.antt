-- What is told of both sides of a connection, piece by piece.
use Rattle.std.proofs.Common.{◌≡◌, ◌⊎◌, inl, inr, ℕ, ◌+◌, ◌<◌, ◌≤◌, ◌||◌, Bool, true, false, List, [], ◌∷◌, ◌++◌, length, map, take, drop, Option, refl, sym, ap, subst, ◌∙◌, arith, append_assoc}
use Rattle.std.specs.Prelude.{Result, None, Some, if◌then◌else◌}
use Rattle.std.specs.List.{AllByRecursion}
use Rattle.std.proofs.lemmas.List.{append-nil, length-append, map-append, take-append-drop, take-append-le, take_all, take_at}
use Rattle.std.proofs.lemmas.List.Elements.{filter-append}
use Rattle.resp_value.specs.declared.cut_value.CutValue.{CutValue}
use Rattle.resp_value.specs.Bounds.{Bounds}
use Rattle.resp_value.specs.Data.{Datum}
use Rattle.resp_value.specs.Laws.{VersionThreeSpellsWhatTwoDoes}
use Rattle.resp_value.specs.Rules.{Rules, WithinTotal, rules_under}
use Rattle.resp_value.specs.Spellings.{AreSpellings, IsSpelling, IsViable}
use Rattle.resp_value.specs.Trees.{Spells}
use Rattle.resp_value.specs.Values.{datum_of}
use Rattle.resp_value.specs.declared.value.Value.TheVariants as value
use Rattle.resp_value.specs.declared.version.Version.{Version}
use Rattle.resp_scan.specs.Reading.{HasNoValue}
use Rattle.resp_decode.proofs.Feeding.{no_value_at_start}
use Rattle.resp_session.specs.Answers.{BeginsNoValue}
use Rattle.resp_session.specs.Commands.{Call, Nothing, array_meaning, meaning_of}
use Rattle.resp_session.specs.Heard.{is_push, pushes_of}
use Rattle.resp_session.proofs.TextsInPieces.{spellings-append}
use Rattle.resp_print.specs.declared.print_error.PrintError.{PrintError}
use Rattle.resp_tap.specs.Kinds.{command_kind}
use Rattle.resp_tap.specs.Lines.{LineState, ReadsLine, asking, due_of, is_listening, is_unasked, line_after, line_sent, line_with, new_line, next_version, number_for, numbered, open_after, paired, settled, version_by}
use Rattle.resp_tap.specs.Streams.{Arrival, Arrive, IsNoError, IsRest, NoError, Part, TellsTheConnection, WordsPart, by_side, client_bytes, command_in, command_part, commands_of, each, numbered_commands, part_of, push_in, reply_in, reply_part, server_bytes, told, words_of}
use Rattle.resp_tap.specs.Parts.{AreKeptOf, IsKeptOf, word_lengths, words_within}
use Rattle.resp_tap.specs.Taps.{TapState, at_front, new_tap, tap_state, with_command, with_value}
use Rattle.resp_tap.specs.Watches.{KeepsOther, SeesFirst, Watches, WatchesAll}
use Rattle.resp_tap.specs.Watching.{HasTakenRequest, HasTakenValue, HearsValue, SeesRequest, SeesValue, request_rules}
use Rattle.resp_tap.specs.declared.kind.CommandKind.{CommandKind}
use Rattle.resp_tap.specs.declared.line.Due.{Due}
use Rattle.resp_tap.specs.declared.moment.Moment.{Moment}
use Rattle.resp_tap.specs.declared.print.Printing.{Printing}
use Rattle.resp_tap.specs.declared.seen.Seen.{Seen}
use Rattle.resp_tap.specs.declared.seen.Seen.TheVariants as seen
use Rattle.resp_tap.specs.declared.tap.Tap.{Tap}
use Rattle.resp_tap.specs.declared.watch.Side.{Side}
use Rattle.resp_tap.specs.declared.watch.Side.TheVariants.{Client, Server}
use Rattle.resp_tap.proofs.LineLemmas.{after_open, asking_more, at_least_by, longer, next_is, paired_go_on, paired_longer, reads_go_on, reads_longer, sent_is, spells_at_least, was_found}

-- ---- commands

commands_more : (xs : List Datum) (x : Datum) → commands_of (xs ++ x ∷ []) ≡ commands_of xs ++ words_of (meaning_of x)
commands_more [] x = append-nil (words_of (meaning_of x))
commands_more (y ∷ xs) x = ap (λ l. words_of (meaning_of y) ++ l) (commands_more xs x) ∙ sym (append_assoc (words_of (meaning_of y)) (commands_of xs) _)

numbered_more : (first : ℕ) (all : List (List (List ℕ))) (words : List (List ℕ)) →
    numbered_commands first (all ++ words ∷ []) ≡ numbered_commands first all ++ (first + length all, words) ∷ []
numbered_more first [] words = ap (λ n. (n, words) ∷ []) (let e : first ≡ first + 0 = omega arith in e)
numbered_more first (x ∷ all) words =
    ap (λ l. (first, x) ∷ l) (numbered_more (first + 1) all words ∙
    ap (λ n. numbered_commands (first + 1) all ++ (n, words) ∷ []) (let e : first + 1 + length all ≡ first + length (x ∷ all) = omega arith in e))

-- ---- the state before a value

found_of_two : (a b : Bool) → (a || b) ≡ false → (a ≡ false) × (b ≡ false)
found_of_two true b e = absurd (cc)
found_of_two false b e = (refl, e)

-- a line that is not lost at the first byte of a value is the same as before
settled_is : (piece : List ℕ) (l : LineState) → (settled piece l).is_lost ≡ false → settled piece l ≡ l
settled_is piece l found =
    let both = found_of_two l.is_lost (is_unasked l.due (is_listening l) piece) found in
    ap (λ b. record l { is_lost = b }) (found ∙ sym both.0)

line_at_front : (front piece : List ℕ) (s : TapState) → (at_front front piece s).line.is_lost ≡ false → (at_front front piece s).line ≡ s.line
line_at_front [] piece s found = settled_is piece s.line found
line_at_front (byte ∷ front) piece s found = refl

-- at the first byte of a value nothing but the line and the version changes
same_but_line : (front piece : List ℕ) (s : TapState) → (line : LineState) × (reading : Version) × (at_front front piece s ≡ record s { line = line; reading = reading })
same_but_line [] piece s = (settled piece s.line, next_version (settled piece s.line), refl)
same_but_line (byte ∷ front) piece s = (s.line, s.reading, refl)

-- ---- what was told so far

record Told : Type 0 where
  client : List ℕ
  commands : List (ℕ × WordsPart)
  server : List ℕ
  replies : List (ℕ × Part)
  pushes : List Part

abbrev told_more : Told → Side → List ℕ → List (ℕ × WordsPart) → List (ℕ × Part) → List Part → Told
told_more x side bytes commands replies pushes = record {
  client = x.client ++ by_side side bytes [];
  commands = x.commands ++ commands;
  server = x.server ++ by_side side [] bytes;
  replies = x.replies ++ replies;
  pushes = x.pushes ++ pushes;
}

-- the version in which a value is read of which these bytes have arrived
abbrev IsReading : Bounds → TapState → List ℕ → Type 0
IsReading limits s rest = (rest ≡ []) ⊎ ((n : ℕ) × (n ≤ length s.line.due) × (s.reading ≡ next_version (record s.line { due = take n s.line.due })) ×
    HasNoValue rest × IsViable (rules_under s.reading limits) WithinTotal rest)

-- what is told of the server
record Replies (limits : Bounds) (most : Option ℕ) (x : Told) (commands : List (List (List ℕ))) (s : TapState) (rest : List ℕ) : Type 0 where
  values : List Datum
  front : List ℕ
  whole : x.server ≡ front ++ rest
  reads : ReadsLine limits (asking commands) values front s.line
  reading : IsReading limits s rest
  replies : x.replies ≡ map (reply_part most) (paired (asking commands) values)
  pushes : x.pushes ≡ map (part_of most) (pushes_of values)
  opened : s.line.is_open ≡ (asking commands).is_open

-- what is told of both, where these bytes of each were read of a value that is not whole
record SoFar (limits : Bounds) (most held : Option ℕ) (x : Told) (s : TapState) (request rest : List ℕ) : Type 0 where
  values : List Datum
  front : List ℕ
  whole : x.client ≡ front ++ request
  spelled : AreSpellings (request_rules limits) values front
  no_more : HasNoValue request
  commands : x.commands ≡ map (command_part held) (numbered_commands 1 (commands_of values))
  count : s.commands ≡ length (commands_of values)
  same_limits : s.limits ≡ limits
  same_shown : s.shown ≡ most
  same_kept : s.kept ≡ held
  reads_commands : s.reads_commands ≡ true
  reads_replies : s.reads_replies ≡ true
  replies : s.line.is_lost ≡ false → Replies limits most x (commands_of values) s rest

same_replies : (limits : Bounds) (most : Option ℕ) (x y : Told) (commands : List (List (List ℕ))) (s t : TapState) (rest : List ℕ) → y.server ≡ x.server → y.replies ≡ x.replies →
    y.pushes ≡ x.pushes → t ≡ s → Replies limits most x commands s rest → Replies limits most y commands t rest
same_replies limits most x y commands s t rest server replies pushes same r = subst (λ z. Replies limits most y commands z rest) (sym same) (record {
  values = r.values;
  front = r.front;
  whole = server ∙ r.whole;
  reads = r.reads;
  reading = r.reading;
  replies = replies ∙ r.replies;
  pushes = pushes ∙ r.pushes;
  opened = r.opened;
})

-- ---- the client's side

-- the bytes of a piece that were used
used_whole : (piece : List ℕ) (used : ℕ) → used ≡ length piece → take used piece ≡ piece
used_whole piece used all = ap (λ n. take n piece) all ∙ take_all (length piece) piece (omega arith)

-- one more value of the client, after which these commands are told
client_more : (limits : Bounds) (most held : Option ℕ) (x : Told) (s t : TapState) (request rest bytes : List ℕ) (told : List (ℕ × WordsPart)) (n : ℕ) (l : LineState) (h : SoFar limits most held x s request rest) →
    t ≡ record s { commands = n; line = l } → (v : Datum) → IsSpelling (request_rules s.limits) v (request ++ bytes) →
    x.commands ++ told ≡ map (command_part held) (numbered_commands 1 (commands_of (h.values ++ v ∷ []))) → n ≡ length (commands_of (h.values ++ v ∷ [])) →
    (t.line.is_lost ≡ false → Replies limits most (told_more x Client bytes told [] []) (commands_of (h.values ++ v ∷ [])) t rest) →
    SoFar limits most held (told_more x Client bytes told [] []) t [] rest
client_more limits most held x s t request rest bytes told n l h same v spelled commands count replies = record {
  values = h.values ++ v ∷ [];
  front = h.front ++ (request ++ bytes);
  whole = ap (λ l. l ++ bytes) h.whole ∙ append_assoc h.front request bytes ∙ sym (append-nil (h.front ++ (request ++ bytes)));
  spelled = spellings-append (request_rules limits) h.values (v ∷ []) h.front (request ++ bytes) h.spelled
      (request ++ bytes, [], subst (λ l. IsSpelling (request_rules l) v (request ++ bytes)) h.same_limits spelled, refl, sym (append-nil (request ++ bytes)));
  no_more = no_value_at_start;
  commands = commands;
  count = ap (λ (z : TapState). z.commands) same ∙ count;
  same_limits = ap (λ (z : TapState). z.limits) same ∙ h.same_limits;
  same_shown = ap (λ (z : TapState). z.shown) same ∙ h.same_shown;
  same_kept = ap (λ (z : TapState). z.kept) same ∙ h.same_kept;
  reads_commands = ap (λ (z : TapState). z.reads_commands) same ∙ h.reads_commands;
  reads_replies = ap (λ (z : TapState). z.reads_replies) same ∙ h.reads_replies;
  replies = replies;
}

-- one more value of the client, which is no command
client_ignored : (limits : Bounds) (most held : Option ℕ) (x : Told) (s t : TapState) (request rest bytes : List ℕ) → SoFar limits most held x s request rest → t ≡ s → (v : Datum) →
    IsSpelling (request_rules s.limits) v (request ++ bytes) → meaning_of v ≡ Nothing → SoFar limits most held (told_more x Client bytes [] [] []) t [] rest
client_ignored limits most held x s t request rest bytes h same v spelled means =
    let commands : commands_of (h.values ++ v ∷ []) ≡ commands_of h.values = commands_more h.values v ∙ ap (λ m. commands_of h.values ++ words_of m) means ∙
    append-nil (commands_of h.values) in
    client_more limits most held x s t request rest bytes [] s.commands s.line h same v spelled
    (append-nil x.commands ∙ h.commands ∙ ap (λ l. map (command_part held) (numbered_commands 1 l)) (sym commands)) (h.count ∙ ap length (sym commands))
    (λ found. subst (λ c. Replies limits most (told_more x Client bytes [] [] []) c t rest) (sym commands)
    (same_replies limits most x (told_more x Client bytes [] [] []) (commands_of h.values) s t rest (append-nil x.server) (append-nil x.replies) (append-nil x.pushes)
    same (h.replies (ap (λ (z : TapState). z.line.is_lost) (sym same) ∙ found))))

-- the replies so far stay what they are when a command is sent
reading_on : (limits : Bounds) (s : TapState) (more : List Due) (o : Bool) (rest : List ℕ) → IsReading limits s rest →
    IsReading limits (record s { line = longer s.line more o }) rest
reading_on limits s more o rest (inl none) = inl none
reading_on limits s more o rest (inr (n, within, reading, none, viable)) =
    let long = length-append s.line.due more in
    inr (
      n,
      omega (arith, within, long),
      reading ∙ ap (λ due. next_version (record s.line { due = due })) (sym (take-append-le n s.line.due more within)),
      none,
      viable,
    )

replies_on : VersionThreeSpellsWhatTwoDoes → (limits : Bounds) (most : Option ℕ) (x y : Told) (all : List (List (List ℕ))) (words : List (List ℕ)) (s : TapState) (rest : List ℕ) →
    y.server ≡ x.server → y.replies ≡ x.replies → y.pushes ≡ x.pushes → s.commands ≡ length all → s.line.is_lost ≡ false → Replies limits most x all s rest →
    Replies limits most y (all ++ words ∷ []) (with_command (command_kind words) s) rest
replies_on three limits most x y all words s rest server replies pushes count found r =
    let kind = command_kind words in
    let n = s.commands + 1 in
    let more = due_of n kind s.line.is_open in
    let o = open_after kind s.line.is_open in
    let here : line_sent n kind s.line ≡ longer s.line more o = sent_is n kind s.line found in
    let numbers : 1 + length all ≡ n = omega (arith, count) in
    let sent : asking (all ++ words ∷ []) ≡ longer (asking all) more o =
    asking_more 1 new_line all words ∙ ap (λ k. line_with k kind (asking all)) numbers ∙
    ap (λ b. longer (asking all) (due_of n kind b) (open_after kind b)) (sym r.opened) in
    let now : with_command kind s ≡ record s { commands = n; line = longer s.line more o } = ap (λ l. record s { commands = n; line = l }) here in
    subst (λ z. Replies limits most y (all ++ words ∷ []) z rest) (sym now) (record {
      values = r.values;
      front = r.front;
      whole = server ∙ r.whole;
      reads = subst (λ l. ReadsLine limits l r.values r.front (longer s.line more o)) (sym sent)
          (reads_longer three limits (asking all) s.line more o r.values r.front r.reads found);
      reading = reading_on limits s more o rest r.reading;
      replies = replies ∙ r.replies ∙ ap (map (reply_part most)) (sym (ap (λ l. paired l r.values) sent ∙
          paired_longer limits (asking all) s.line more o r.values r.front r.reads found));
      pushes = pushes ∙ r.pushes;
      opened = sym (ap (λ (l : LineState). l.is_open) sent);
    })

-- a line that is not lost after a command was not lost before it
sent_found : (b : Bool) (n : ℕ) (kind : CommandKind) (l : LineState) → l.is_lost ≡ b → (line_sent n kind l).is_lost ≡ false → b ≡ false
sent_found false n kind l is found = refl
sent_found true n kind l is found = absurd (
    let same : (line_sent n kind l).is_lost ≡ true = ap (λ b. (if b then l else line_with n kind l).is_lost) is ∙ is in
    let e : true ≡ false = sym same ∙ found in cc)

-- one more command
client_command : VersionThreeSpellsWhatTwoDoes → (limits : Bounds) (most held : Option ℕ) (x : Told) (s t : TapState) (request rest bytes : List ℕ) (number : ℕ) (name : List ℕ) (arguments : List (List ℕ)) (part : WordsPart) →
    SoFar limits most held x s request rest → t ≡ with_command (command_kind (name ∷ arguments)) s → (v : Datum) → IsSpelling (request_rules s.limits) v (request ++ bytes) →
    meaning_of v ≡ Call name arguments → number ≡ s.commands + 1 →
    part ≡ (words_within held (name ∷ arguments), word_lengths held (name ∷ arguments)) →
    SoFar limits most held (told_more x Client bytes ((number, part) ∷ []) [] []) t [] rest
client_command three limits most held x s t request rest bytes number name arguments part h same v spelled means numbered kept =
    let words = name ∷ arguments in
    let y = told_more x Client bytes ((number, part) ∷ []) [] [] in
    let commands : commands_of (h.values ++ v ∷ []) ≡ commands_of h.values ++ words ∷ [] =
    commands_more h.values v ∙ ap (λ m. commands_of h.values ++ words_of m) means in
    let number_is : number ≡ 1 + length (commands_of h.values) = let c = h.count in omega (arith, numbered, c) in
    let longer = length-append (commands_of h.values) (words ∷ []) in
    let counted : s.commands + 1 ≡ length (commands_of h.values ++ words ∷ []) = let c = h.count in omega (arith, c, longer) in
    client_more limits most held x s t request rest bytes ((number, part) ∷ []) (s.commands + 1) (line_sent (s.commands + 1) (command_kind words) s.line) h same v spelled
    (ap (λ l. l ++ (number, part) ∷ []) h.commands ∙
    ap (λ p. map (command_part held) (numbered_commands 1 (commands_of h.values)) ++ (number, p) ∷ []) kept ∙
    sym (map-append (command_part held) (numbered_commands 1 (commands_of h.values)) ((number, words) ∷ [])) ∙
    ap (λ n. map (command_part held) (numbered_commands 1 (commands_of h.values) ++ (n, words) ∷ [])) number_is ∙
    ap (map (command_part held)) (sym (numbered_more 1 (commands_of h.values) words)) ∙
    ap (λ l. map (command_part held) (numbered_commands 1 l)) (sym commands))
    (counted ∙ ap length (sym commands))
    (λ found.
    let was : s.line.is_lost ≡ false = sent_found s.line.is_lost (s.commands + 1) (command_kind words) s.line refl
    (ap (λ (z : TapState). z.line.is_lost) (sym same) ∙ found) in
    subst (λ c. Replies limits most y c t rest) (sym commands) (subst (λ z. Replies limits most y (commands_of h.values ++ words ∷ []) z rest) (sym same)
    (replies_on three limits most x y (commands_of h.values) words s rest (append-nil x.server) (append-nil x.replies) (append-nil x.pushes) h.count was
    (h.replies was))))

command_told : VersionThreeSpellsWhatTwoDoes → (limits : Bounds) (most held : Option ℕ) (x : Told) (s t : TapState) (request rest bytes : List ℕ) (number : ℕ)
    (whole words : List (List ℕ)) (lengths : List ℕ) → SoFar limits most held x s request rest → 0 < length whole → t ≡ with_command (command_kind whole) s →
    (v : Datum) → IsSpelling (request_rules s.limits) v (request ++ bytes) → meaning_of v ≡ array_meaning (Some whole) → number ≡ s.commands + 1 →
    AreKeptOf s.shown s.kept whole words lengths → SoFar limits most held (told_more x Client bytes ((number, (words, lengths)) ∷ []) [] []) t [] rest
command_told three limits most held x s t request rest bytes number [] words lengths h some same v spelled means numbered are = absurd (omega (arith, some))
command_told three limits most held x s t request rest bytes number (name ∷ arguments) words lengths h some same v spelled means numbered are =
    client_command three limits most held x s t request rest bytes number name arguments (words, lengths) h same v spelled means numbered
    ((λ i. (are.first_bytes i, are.longer i)) ∙ ap (λ k. (words_within k (name ∷ arguments), word_lengths k (name ∷ arguments))) h.same_kept)

-- more bytes of a value
client_awaits : (limits : Bounds) (most held : Option ℕ) (x : Told) (s t : TapState) (request rest bytes : List ℕ) → SoFar limits most held x s request rest → t ≡ s →
    HasNoValue (request ++ bytes) → SoFar limits most held (told_more x Client bytes [] [] []) t (request ++ bytes) rest
client_awaits limits most held x s t request rest bytes h same none = record {
  values = h.values;
  front = h.front;
  whole = ap (λ l. l ++ bytes) h.whole ∙ append_assoc h.front request bytes;
  spelled = h.spelled;
  no_more = none;
  commands = append-nil x.commands ∙ h.commands;
  count = ap (λ (z : TapState). z.commands) same ∙ h.count;
  same_limits = ap (λ (z : TapState). z.limits) same ∙ h.same_limits;
  same_shown = ap (λ (z : TapState). z.shown) same ∙ h.same_shown;
  same_kept = ap (λ (z : TapState). z.kept) same ∙ h.same_kept;
  reads_commands = ap (λ (z : TapState). z.reads_commands) same ∙ h.reads_commands;
  reads_replies = ap (λ (z : TapState). z.reads_replies) same ∙ h.reads_replies;
  replies = λ found. same_replies limits most x (told_more x Client bytes [] [] []) (commands_of h.values) s t rest (append-nil x.server) (append-nil x.replies)
      (append-nil x.pushes) same (h.replies (ap (λ (z : TapState). z.line.is_lost) (sym same) ∙ found));
}

-- one more result of a side, and the bytes that were read of its value that is not whole
abbrev Next : Side → Bounds → Option ℕ → Option ℕ → Told → Tap → List ℕ → List ℕ → Type 0
Next Client limits most held x t request rest = (request' : List ℕ) × HasTakenRequest t request' × SoFar limits most held x (tap_state t) request' rest
Next Server limits most held x t request rest = (rest' : List ℕ) × HasTakenValue t rest' × SoFar limits most held x (tap_state t) request rest'

client_tells : VersionThreeSpellsWhatTwoDoes → (limits : Bounds) (most held : Option ℕ) (x : Told) (s : TapState) (new : Tap) (request rest piece : List ℕ) (used : ℕ) (what : Seen) →
    SoFar limits most held x s request rest → SeesRequest s new request piece used what → IsNoError what →
    Next Client limits most held (told_more x Client (take used piece) (command_in what) (reply_in what) (push_in what)) new request rest
client_tells three limits most held x s new request rest piece used seen.Nothing h sees fine =
    let bytes = used_whole piece used sees.whole_piece in (
      request ++ piece,
      sees.takes,
      subst (λ b. SoFar limits most held (told_more x Client b [] [] []) (tap_state new) (request ++ piece) rest) (sym bytes)
          (client_awaits limits most held x s (tap_state new) request rest piece h sees.after sees.no_value),
    )
client_tells three limits most held x s new request rest piece used seen.Passed h sees fine =
    ([], sees.takes, client_ignored limits most held x s (tap_state new) request rest (take used piece) h sees.after sees.value sees.spelled sees.means)
client_tells three limits most held x s new request rest piece used (seen.Command number words lengths) h sees fine = (
  [],
  sees.takes,
  command_told three limits most held x s (tap_state new) request rest (take used piece) number sees.whole words lengths.items h sees.some sees.after sees.value
      sees.spelled sees.means sees.numbered sees.are_kept,
)
client_tells three limits most held x s new request rest piece used (seen.NotCommand number) h sees fine = absurd fine
client_tells three limits most held x s new request rest piece used (seen.Refused cause at where') h sees fine = absurd fine
client_tells three limits most held x s new request rest piece used (seen.Reply number kept) h sees fine = absurd sees
client_tells three limits most held x s new request rest piece used (seen.Push members lengths) h sees fine = absurd sees
client_tells three limits most held x s new request rest piece used (seen.Value kept) h sees fine = absurd sees

-- ---- the server's side

-- a value that does not change what is known of the client
server_on : (limits : Bounds) (most held : Option ℕ) (x : Told) (s t : TapState) (request rest rest' bytes : List ℕ) (replies : List (ℕ × Part)) (pushes : List Part) →
    (h : SoFar limits most held x s request rest) → t.commands ≡ s.commands → t.limits ≡ s.limits → t.shown ≡ s.shown → t.kept ≡ s.kept → t.reads_commands ≡ s.reads_commands →
    t.reads_replies ≡ s.reads_replies →
    (t.line.is_lost ≡ false → Replies limits most (told_more x Server bytes [] replies pushes) (commands_of h.values) t rest') →
    SoFar limits most held (told_more x Server bytes [] replies pushes) t request rest'
server_on limits most held x s t request rest rest' bytes replies pushes h commands same shown kept reads reads' told = record {
  values = h.values;
  front = h.front;
  whole = append-nil x.client ∙ h.whole;
  spelled = h.spelled;
  no_more = h.no_more;
  commands = append-nil x.commands ∙ h.commands;
  count = commands ∙ h.count;
  same_limits = same ∙ h.same_limits;
  same_shown = shown ∙ h.same_shown;
  same_kept = kept ∙ h.same_kept;
  reads_commands = reads ∙ h.reads_commands;
  reads_replies = reads' ∙ h.reads_replies;
  replies = told;
}

-- the version in which a value was read is at most that of the line
read_in : (limits : Bounds) (s : TapState) (rest piece : List ℕ) → s.line.is_lost ≡ false → (at_front rest piece s).line ≡ s.line → IsReading limits s rest →
    (n : ℕ) × (n ≤ length s.line.due) × ((at_front rest piece s).reading ≡ next_version (record s.line { due = take n s.line.due }))
read_in limits s [] piece found same reading = (
  length s.line.due,
  omega arith,
  ap next_version same ∙ ap (λ due. next_version (record s.line { due = due })) (sym (take_all (length s.line.due) s.line.due (omega arith))),
)
read_in limits s (byte ∷ rest) piece found same (inl none) = absurd (cc)
read_in limits s (byte ∷ rest) piece found same (inr (n, within, reading, none, viable)) = (n, within, reading)

spelled_on : VersionThreeSpellsWhatTwoDoes → (limits : Bounds) (l : LineState) (n : ℕ) (x : Datum) (text : List ℕ) → l.is_lost ≡ false →
    IsSpelling (rules_under (next_version (record l { due = take n l.due })) limits) x text → IsSpelling (rules_under (next_version l) limits) x text
spelled_on three limits l n x text found s =
    let first = subst (λ v. IsSpelling (rules_under v limits) x text) (next_is (record l { due = take n l.due }) found) s in
    let grown = spells_at_least three limits (version_by l.version (take n l.due)) (version_by l.version (take n l.due ++ drop n l.due)) x text
    (at_least_by l.version (take n l.due) (drop n l.due)) first in
    subst (λ v. IsSpelling (rules_under v limits) x text) (sym (next_is l found))
    (subst (λ due. IsSpelling (rules_under (version_by l.version due) limits) x text) (take-append-drop n l.due) grown)

-- one more value
value_told : VersionThreeSpellsWhatTwoDoes → (limits : Bounds) (most : Option ℕ) (x : Told) (all : List (List (List ℕ))) (s t : TapState) (rest piece bytes : List ℕ) (v : Datum)
    (replied : List (ℕ × Part)) (pushed : List Part) → Replies limits most x all s rest → s.limits ≡ limits → t.line.is_lost ≡ false →
    IsSpelling (rules_under (at_front rest piece s).reading (at_front rest piece s).limits) v (rest ++ bytes) → t ≡ with_value v (at_front rest piece s) →
    map (reply_part most) (numbered (number_for (at_front rest piece s).line v) v) ≡ replied → map (part_of most) (pushes_of (v ∷ [])) ≡ pushed →
    Replies limits most (told_more x Server bytes [] replied pushed) all t []
value_told three limits most x all s t rest piece bytes v replied pushed r within found spelled after number push =
    let u = at_front rest piece s in
    let line : t.line ≡ line_after u.line v = ap (λ (z : TapState). z.line) after in
    let begun' : u.line.is_lost ≡ false = was_found u.line v (ap (λ (l : LineState). l.is_lost) (sym line) ∙ found) in
    let same : u.line ≡ s.line = line_at_front rest piece s begun' in
    let was : s.line.is_lost ≡ false = ap (λ (l : LineState). l.is_lost) (sym same) ∙ begun' in
    let now : t.line ≡ line_after s.line v = line ∙ ap (λ l. line_after l v) same in
    let (n, few, reading) = read_in limits s rest piece was same r.reading in
    let (l', v', front) = same_but_line rest piece s in
    let bounds : u.limits ≡ limits = ap (λ (z : TapState). z.limits) front ∙ within in
    let text = rest ++ bytes in
    let here : IsSpelling (rules_under (next_version s.line) limits) v text = spelled_on three limits s.line n v text was
    (subst (λ version. IsSpelling (rules_under version limits) v text) reading (subst (λ b. IsSpelling (rules_under u.reading b) v text) bounds spelled)) in
    let one : ReadsLine limits s.line (v ∷ []) text t.line = (text, [], here, (refl, now), sym (append-nil text)) in
    let told : map (reply_part most) (paired s.line (v ∷ [])) ≡ replied =
    ap (map (reply_part most)) (append-nil (numbered (number_for s.line v) v) ∙ ap (λ l. numbered (number_for l v) v) (sym same)) ∙ number in
    record {
      values = r.values ++ v ∷ [];
      front = r.front ++ text;
      whole = ap (λ l. l ++ bytes) r.whole ∙ append_assoc r.front rest bytes ∙ sym (append-nil (r.front ++ text));
      reads = reads_go_on limits (asking all) s.line t.line r.values (v ∷ []) r.front text r.reads one;
      reading = inl refl;
      replies = ap (λ l. l ++ replied) r.replies ∙ ap (λ l. map (reply_part most) (paired (asking all) r.values) ++ l) (sym told) ∙
          sym (map-append (reply_part most) (paired (asking all) r.values) (paired s.line (v ∷ []))) ∙
          ap (map (reply_part most)) (sym (paired_go_on limits (asking all) s.line r.values (v ∷ []) r.front r.reads));
      pushes = ap (λ l. l ++ pushed) r.pushes ∙ ap (λ l. map (part_of most) (pushes_of r.values) ++ l) (sym push) ∙
          sym (map-append (part_of most) (pushes_of r.values) (pushes_of (v ∷ []))) ∙ ap (map (part_of most)) (sym (filter-append is_push r.values (v ∷ [])));
      opened = ap (λ (l : LineState). l.is_open) now ∙ after_open s.line v ∙ r.opened;
    }

-- more bytes of a value
value_awaits : (limits : Bounds) (most : Option ℕ) (x : Told) (all : List (List (List ℕ))) (s t : TapState) (rest piece : List ℕ) → Replies limits most x all s rest →
    s.limits ≡ limits → t.line.is_lost ≡ false → t ≡ at_front rest piece s → HasNoValue (rest ++ piece) →
    IsViable (rules_under (at_front rest piece s).reading (at_front rest piece s).limits) WithinTotal (rest ++ piece) →
    Replies limits most (told_more x Server piece [] [] []) all t (rest ++ piece)
value_awaits limits most x all s t rest piece r bounded found is none viable =
    let u = at_front rest piece s in
    let begun' : u.line.is_lost ≡ false = ap (λ (z : TapState). z.line.is_lost) (sym is) ∙ found in
    let same : u.line ≡ s.line = line_at_front rest piece s begun' in
    let was : s.line.is_lost ≡ false = ap (λ (l : LineState). l.is_lost) (sym same) ∙ begun' in
    let (n, few, reading) = read_in limits s rest piece was same r.reading in
    let (l', v', front) = same_but_line rest piece s in
    let bounds : u.limits ≡ limits = ap (λ (z : TapState). z.limits) front ∙ bounded in
    let now : t.line ≡ s.line = ap (λ (z : TapState). z.line) is ∙ same in
    let version : t.reading ≡ u.reading = ap (λ (z : TapState). z.reading) is in
    record {
      values = r.values;
      front = r.front;
      whole = ap (λ l. l ++ piece) r.whole ∙ append_assoc r.front rest piece;
      reads = subst (λ l. ReadsLine limits (asking all) r.values r.front l) (sym now) r.reads;
      reading = inr (
        n,
        subst (λ (l : LineState). n ≤ length l.due) (sym now) few,
        version ∙ reading ∙ ap (λ (l : LineState). next_version (record l { due = take n l.due })) (sym now),
        none,
        subst (λ version. IsViable (rules_under version limits) WithinTotal (rest ++ piece)) (sym version)
            (subst (λ b. IsViable (rules_under u.reading b) WithinTotal (rest ++ piece)) bounds viable),
      );
      replies = append-nil x.replies ∙ r.replies;
      pushes = append-nil x.pushes ∙ r.pushes;
      opened = ap (λ (l : LineState). l.is_open) now ∙ r.opened;
    }

-- a line that is not lost after a value was not lost before it
found_before : (s : TapState) (t : TapState) (rest piece : List ℕ) (v : Datum) → t ≡ with_value v (at_front rest piece s) → t.line.is_lost ≡ false →
    s.line.is_lost ≡ false
found_before s t rest piece v after found =
    let u = at_front rest piece s in
    let begun' = was_found u.line v (ap (λ (z : TapState). z.line.is_lost) (sym after) ∙ found) in
    ap (λ (l : LineState). l.is_lost) (sym (line_at_front rest piece s begun')) ∙ begun'

found_waiting : (s : TapState) (t : TapState) (rest piece : List ℕ) → t ≡ at_front rest piece s → t.line.is_lost ≡ false → s.line.is_lost ≡ false
found_waiting s t rest piece after found =
    let begun' = ap (λ (z : TapState). z.line.is_lost) (sym after) ∙ found in
    ap (λ (l : LineState). l.is_lost) (sym (line_at_front rest piece s begun')) ∙ begun'

-- one more value of the server, told in this way
one_value : VersionThreeSpellsWhatTwoDoes → (limits : Bounds) (most held : Option ℕ) (x : Told) (s : TapState) (new : Tap) (request rest piece bytes : List ℕ)
    (kept : CutValue) (b : Bool) (n : Option ℕ) (replied : List (ℕ × Part)) (pushed : List Part) → SoFar limits most held x s request rest →
    (hears : HearsValue (at_front rest piece s) new (rest ++ bytes) kept b n) →
    map (reply_part most) (numbered (number_for (at_front rest piece s).line hears.whole) hears.whole) ≡ replied →
    map (part_of most) (pushes_of (hears.whole ∷ [])) ≡ pushed →
    Next Server limits most held (told_more x Server bytes [] replied pushed) new request rest
one_value three limits most held x s new request rest piece bytes kept b n replied pushed h hears number push =
    let v = hears.whole in
    let t = tap_state new in
    let (l', v', front) = same_but_line rest piece s in
    let from : t ≡ with_value v (record s { line = l'; reading = v' }) = hears.after ∙ ap (with_value v) front in (
      [],
      hears.takes,
      server_on limits most held x s t request rest [] bytes replied pushed h (ap (λ (z : TapState). z.commands) from)
          (ap (λ (z : TapState). z.limits) from) (ap (λ (z : TapState). z.shown) from) (ap (λ (z : TapState). z.kept) from) (ap (λ (z : TapState). z.reads_commands) from)
          (ap (λ (z : TapState). z.reads_replies) from) (λ found.
          value_told three limits most x (commands_of h.values) s t rest piece bytes v replied pushed (h.replies (found_before s t rest piece v hears.after found))
          h.same_limits found hears.spelled hears.after number push),
    )

-- what is kept of a value is the part of it that is told
part_is : (limits : Bounds) (most held : Option ℕ) (x : Told) (s : TapState) (request rest piece : List ℕ) (whole : Datum) (kept : CutValue) →
    SoFar limits most held x s request rest → IsKeptOf (at_front rest piece s).shown whole kept → part_of most whole ≡ (datum_of kept.value, kept.lengths.items)
part_is limits most held x s request rest piece whole kept h is =
    let (l', v', front) = same_but_line rest piece s in
    let shown : (at_front rest piece s).shown ≡ most = ap (λ (z : TapState). z.shown) front ∙ h.same_shown in
    let here : IsKeptOf most whole kept = subst (λ m. IsKeptOf m whole kept) shown is in
    λ i. (sym here.value i, sym here.lengths i)

-- the pushes among one value
pushes_of_one : (b : Bool) (v : Datum) → is_push v ≡ b → pushes_of (v ∷ []) ≡ (if b then v ∷ [] else [])
pushes_of_one b v is = ap (λ b. if b then v ∷ [] else []) is

server_tells : VersionThreeSpellsWhatTwoDoes → (limits : Bounds) (most held : Option ℕ) (x : Told) (s : TapState) (new : Tap) (request rest piece : List ℕ) (used : ℕ) (what : Seen) →
    SoFar limits most held x s request rest → SeesValue (at_front rest piece s) new rest piece used what → IsNoError what →
    Next Server limits most held (told_more x Server (take used piece) (command_in what) (reply_in what) (push_in what)) new request rest
server_tells three limits most held x s new request rest piece used seen.Nothing h sees fine =
    let t = tap_state new in
    let bytes = used_whole piece used sees.whole_piece in
    let (l', v', front) = same_but_line rest piece s in
    let from = sees.after ∙ front in (
      rest ++ piece,
      sees.takes,
      subst (λ b. SoFar limits most held (told_more x Server b [] [] []) t request (rest ++ piece)) (sym bytes)
          (server_on limits most held x s t request rest (rest ++ piece) piece [] [] h (ap (λ (z : TapState). z.commands) from) (ap (λ (z : TapState). z.limits) from) (ap (λ (z : TapState). z.shown) from) (ap (λ (z : TapState). z.kept) from)
          (ap (λ (z : TapState). z.reads_commands) from) (ap (λ (z : TapState). z.reads_replies) from) (λ found.
          value_awaits limits most x (commands_of h.values) s t rest piece (h.replies (found_waiting s t rest piece sees.after found)) h.same_limits found sees.after
          sees.no_value sees.viable)),
    )
server_tells three limits most held x s new request rest piece used (seen.Reply number kept) h sees fine =
    one_value three limits most held x s new request rest piece (take used piece) kept false (Some number) (reply_in (seen.Reply number kept)) [] h sees
    (ap (λ n. map (reply_part most) (numbered n sees.whole)) sees.numbered ∙
    ap (λ p. (number, p) ∷ []) (part_is limits most held x s request rest piece sees.whole kept h sees.is_kept))
    (ap (map (part_of most)) (pushes_of_one false sees.whole sees.pushed))
server_tells three limits most held x s new request rest piece used (seen.Push members lengths) h sees fine =
    let kept : CutValue = record { value = value.Push members; lengths = lengths } in
    one_value three limits most held x s new request rest piece (take used piece) kept true None [] (push_in (seen.Push members lengths)) h sees
    (ap (λ n. map (reply_part most) (numbered n sees.whole)) sees.numbered)
    (ap (map (part_of most)) (pushes_of_one true sees.whole sees.pushed) ∙
    ap (λ p. p ∷ []) (part_is limits most held x s request rest piece sees.whole kept h sees.is_kept))
server_tells three limits most held x s new request rest piece used (seen.Value kept) h sees fine =
    one_value three limits most held x s new request rest piece (take used piece) kept false None [] [] h sees
    (ap (λ n. map (reply_part most) (numbered n sees.whole)) sees.numbered) (ap (map (part_of most)) (pushes_of_one false sees.whole sees.pushed))
server_tells three limits most held x s new request rest piece used (seen.Refused cause at where') h sees fine = absurd fine
server_tells three limits most held x s new request rest piece used (seen.NotCommand number) h sees fine = absurd fine
server_tells three limits most held x s new request rest piece used seen.Passed h sees fine = absurd sees
server_tells three limits most held x s new request rest piece used (seen.Command number words lengths) h sees fine = absurd sees

-- ---- a piece of either side

-- the bytes that were read of the value of a side that is not whole
abbrev Taken : Side → Tap → List ℕ → Type 0
Taken Client t own = HasTakenRequest t own
Taken Server t own = HasTakenValue t own

-- what was told, where these bytes were read of a value of the other side that is not whole
record Tells (side : Side) (limits : Bounds) (most held : Option ℕ) (x : Told) (t : Tap) (other : List ℕ) : Type 0 where
  own : List ℕ
  taken : Taken side t own
  so_far : SoFar limits most held x (tap_state t) (by_side side own other) (by_side side other own)

result_tells : VersionThreeSpellsWhatTwoDoes → (side : Side) (limits : Bounds) (most held : Option ℕ) (x : Told) (now : Option Moment) (old new : Tap) (piece : List ℕ) (used : ℕ) (what : Seen)
    (other : List ℕ) → Tells side limits most held x old other → SeesFirst side now old new piece used what → IsNoError what →
    Tells side limits most held (told_more x side (take used piece) (command_in what) (reply_in what) (push_in what)) new other
result_tells laws Client limits most held x now old new piece used what other h sees fine =
    let first = sees.read h.so_far.reads_commands h.own h.taken in
    let (request, taken, so_far) = client_tells laws limits most held x (tap_state old) new h.own other piece used what h.so_far first.0 fine in
    record { own = request; taken = taken; so_far = so_far }
result_tells laws Server limits most held x now old new piece used what other h sees fine =
    let first = sees.read h.so_far.reads_replies h.own h.taken in
    let (rest, taken, so_far) = server_tells laws limits most held x (tap_state old) new other h.own piece used what h.so_far first.0 fine in
    record { own = rest; taken = taken; so_far = so_far }

both_client : (side : Side) (a b : List ℕ) → by_side side a [] ++ by_side side b [] ≡ by_side side (a ++ b) []
both_client Client a b = refl
both_client Server a b = refl

both_server : (side : Side) (a b : List ℕ) → by_side side [] a ++ by_side side [] b ≡ by_side side [] (a ++ b)
both_server Client a b = refl
both_server Server a b = refl

append-none : (bytes : List ℕ) (side : Side) → bytes ++ by_side side [] [] ≡ bytes
append-none bytes Client = append-nil bytes
append-none bytes Server = append-nil bytes

told_none : (x : Told) (side : Side) → told_more x side [] [] [] [] ≡ x
told_none x side = λ i. record {
  client = append-none x.client side i;
  commands = append-nil x.commands i;
  server = append-none x.server side i;
  replies = append-nil x.replies i;
  pushes = append-nil x.pushes i;
}

told_twice : (x : Told) (side : Side) (a b whole : List ℕ) (c d : List (ℕ × WordsPart)) (p q : List (ℕ × Part)) (u v : List Part) → a ++ b ≡ whole →
    told_more (told_more x side a c p u) side b d q v ≡ told_more x side whole (c ++ d) (p ++ q) (u ++ v)
told_twice x side a b whole c d p q u v is =
    let client = append_assoc x.client (by_side side a []) (by_side side b []) ∙ ap (λ z. x.client ++ z) (both_client side a b) ∙
    ap (λ z. x.client ++ by_side side z []) is in
    let server = append_assoc x.server (by_side side [] a) (by_side side [] b) ∙ ap (λ z. x.server ++ z) (both_server side a b) ∙
    ap (λ z. x.server ++ by_side side [] z) is in
    λ i. record {
      client = client i;
      commands = append_assoc x.commands c d i;
      server = server i;
      replies = append_assoc x.replies p q i;
      pushes = append_assoc x.pushes u v i;
    }

abbrev all_told : Told → Side → List ℕ → List Seen → Told
all_told x side piece what = told_more x side piece (each command_in what) (each reply_in what) (each push_in what)

piece_tells : VersionThreeSpellsWhatTwoDoes → (side : Side) (limits : Bounds) (most held : Option ℕ) (printing : Printing) (now : Option Moment) (what : List Seen) (x : Told) (old new : Tap)
    (piece : List ℕ) (before after : Option (List ℕ)) (failures failures' : ℕ) (result : Result (Unit {0}) PrintError) (other : List ℕ) →
    Tells side limits most held x old other →
    WatchesAll (Watches printing side now) what old new piece before after failures failures' result →
    AllByRecursion IsNoError what → Tells side limits most held (all_told x side piece what) new other
piece_tells laws side limits most held printing now [] x old new piece before after failures failures' result other h watches fine =
    let (none, same, _, _, _) = watches in
    subst (λ z. Tells side limits most held (told_more x side z [] [] []) new other) (sym none)
    (subst (λ z. Tells side limits most held z new other) (sym (told_none x side)) (subst (λ (t : Tap). Tells side limits most held x t other) (sym same) h))
piece_tells laws side limits most held printing now (first ∷ what) x old new piece before after failures failures' result other h watches fine =
    let (next, watched, written, failed, later, (sees, prints), is, more) = watches in
    let used = watched.used in
    let now_told = told_more x side (take used piece) (command_in first) (reply_in first) (push_in first) in
    let step = result_tells laws side limits most held x now old next piece used first other h sees fine.0 in
    subst (λ z. Tells side limits most held z new other)
    (told_twice x side (take used piece) (drop used piece) piece (command_in first) (each command_in what) (reply_in first) (each reply_in what)
    (push_in first) (each push_in what) (take-append-drop used piece))
    (piece_tells laws side limits most held printing now what now_told next new (drop used piece) written after failed failures' later other step more fine.1)

-- ---- the pieces of a connection

record TellsBoth (limits : Bounds) (most held : Option ℕ) (x : Told) (t : Tap) : Type 0 where
  request : List ℕ
  rest : List ℕ
  requested : HasTakenRequest t request
  answered : HasTakenValue t rest
  so_far : SoFar limits most held x (tap_state t) request rest

arrival_tells : VersionThreeSpellsWhatTwoDoes → (side : Side) (limits : Bounds) (most held : Option ℕ) (printing : Printing) (now : Option Moment) (what : List Seen) (x : Told) (old new : Tap)
    (piece : List ℕ) (before after : Option (List ℕ)) (failures failures' : ℕ) (result : Result (Unit {0}) PrintError) → TellsBoth limits most held x old →
    WatchesAll (Watches printing side now) what old new piece before after failures failures' result →
    KeepsOther side old new →
    AllByRecursion IsNoError what → TellsBoth limits most held (all_told x side piece what) new
arrival_tells laws Client limits most held printing now what x old new piece before after failures failures' result h watches keeps fine =
    let m = piece_tells laws Client limits most held printing now what x old new piece before after failures failures' result h.rest
    (record { own = h.request; taken = h.requested; so_far = h.so_far }) watches fine in
    record { request = m.own; rest = h.rest; requested = m.taken; answered = keeps h.rest h.answered; so_far = m.so_far }
arrival_tells laws Server limits most held printing now what x old new piece before after failures failures' result h watches keeps fine =
    let m = piece_tells laws Server limits most held printing now what x old new piece before after failures failures' result h.request
    (record { own = h.rest; taken = h.answered; so_far = h.so_far }) watches fine in
    record { request = h.request; rest = m.own; requested = keeps h.request h.requested; answered = m.taken; so_far = m.so_far }

abbrev with_all : Told → List Arrival → Told
with_all x arrivals = record {
  client = x.client ++ client_bytes arrivals;
  commands = x.commands ++ told command_in arrivals;
  server = x.server ++ server_bytes arrivals;
  replies = x.replies ++ told reply_in arrivals;
  pushes = x.pushes ++ told push_in arrivals;
}

with_none : (x : Told) → with_all x [] ≡ x
with_none x = told_none x Client

with_first : (x : Told) (a : Arrival) (arrivals : List Arrival) → with_all (all_told x a.side a.piece a.told) arrivals ≡ with_all x (a ∷ arrivals)
with_first x a arrivals = λ i. record {
  client = append_assoc x.client (by_side a.side a.piece []) (client_bytes arrivals) i;
  commands = append_assoc x.commands (each command_in a.told) (told command_in arrivals) i;
  server = append_assoc x.server (by_side a.side [] a.piece) (server_bytes arrivals) i;
  replies = append_assoc x.replies (each reply_in a.told) (told reply_in arrivals) i;
  pushes = append_assoc x.pushes (each push_in a.told) (told push_in arrivals) i;
}

arrivals_tell : VersionThreeSpellsWhatTwoDoes → (limits : Bounds) (most held : Option ℕ) (arrivals : List Arrival) (x : Told) (old new : Tap) → TellsBoth limits most held x old → Arrive old new arrivals → NoError arrivals →
    TellsBoth limits most held (with_all x arrivals) new
arrivals_tell laws limits most held [] x old new h same fine =
    subst (λ z. TellsBoth limits most held z new) (sym (with_none x)) (subst (λ (t : Tap). TellsBoth limits most held x t) (sym same) h)
arrivals_tell laws limits most held (a ∷ arrivals) x old new h (next, arrives, more) fine =
    let step = arrival_tells laws a.side limits most held arrives.printing arrives.now a.told x old next a.piece arrives.before arrives.after arrives.failures
    arrives.failures' arrives.result h arrives.watched arrives.other_side fine.0 in
    subst (λ z. TellsBoth limits most held z new) (with_first x a arrivals) (arrivals_tell laws limits most held arrivals (all_told x a.side a.piece a.told) next new step more fine.1)

abbrev nothing_told : Told
nothing_told = record { client = []; commands = []; server = []; replies = []; pushes = [] }

-- nothing was read of a new connection
begins : (limits : Bounds) (most held : Option ℕ) → SoFar limits most held nothing_told (new_tap limits most held) [] []
begins limits most held = record {
  values = [];
  front = [];
  whole = refl;
  spelled = refl;
  no_more = no_value_at_start;
  commands = refl;
  count = refl;
  same_limits = refl;
  same_shown = refl;
  same_kept = refl;
  reads_commands = refl;
  reads_replies = refl;
  replies = λ found. record {
    values = [];
    front = [];
    whole = refl;
    reads = (refl, refl);
    reading = inl refl;
    replies = refl;
    pushes = refl;
    opened = refl;
  };
}

-- a text of which no front is a spelling does not begin with a value
no_value_begins : (r : Rules) (text : List ℕ) → HasNoValue text → BeginsNoValue r text
no_value_begins r text none x next beyond s whole =
    none (length next) s.tree (subst (Spells s.tree) (sym (ap (take (length next)) whole ∙ take_at next beyond (length next) refl)) s.spells)

-- the version of a rest is that of the first of the commands that wait, or of none
rest_is : (limits : Bounds) (s : TapState) (rest : List ℕ) → IsReading limits s rest → IsRest limits s.line rest
rest_is limits s rest (inl none) = inl none
rest_is limits s rest (inr (n, within, reading, none, viable)) =
    inr (n, within, none, subst (λ version. IsViable (rules_under version limits) WithinTotal rest) reading viable)

pub tells_the_connection : VersionThreeSpellsWhatTwoDoes → TellsTheConnection
tells_the_connection three limits most held old new arrivals fresh requested answered arrive fine =
    let m = arrivals_tell three limits most held arrivals nothing_told old new (record {
      request = [];
      rest = [];
      requested = requested;
      answered = answered;
      so_far = subst (λ s. SoFar limits most held nothing_told s [] []) (sym fresh) (begins limits most held);
    }) arrive fine in
    let h = m.so_far in (
      record {
        values = h.values;
        rest = m.request;
        cut = record { front = h.front; spelled = h.spelled; whole = h.whole; no_more = no_value_begins (request_rules limits) m.request h.no_more };
        commands = h.commands;
      },
      λ found. let r = h.replies found in record {
        values = r.values;
        front = r.front;
        rest = m.rest;
        after = (tap_state new).line;
        whole = r.whole;
        reads = r.reads;
        no_more = rest_is limits (tap_state new) m.rest r.reading;
        replies = r.replies;
        pushes = r.pushes;
      },
    )
