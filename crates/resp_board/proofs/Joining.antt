-- How clients and lines belong to what happened, after each call.
use Rattle.std.proofs.Common.{arith, ◌≡◌, ◌≢◌, ℕ, ◌<◌, ◌≤◌, true, List, [], ◌∷◌, ◌++◌, drop, length, map, take, Option, None, Some, IfSome, is_some, slice_get, slice_set, refl, sym, ap, subst, ◌∙◌, cond, inl, inr}
use Rattle.std.specs.List.{AllByRecursion}
use Rattle.std.proofs.lemmas.Bool.{cases_lt}
use Rattle.resp_board.specs.declared.desk.Desk.{Desk}
use Rattle.resp_board.specs.declared.queue.Queue.{Queue}
use Rattle.resp_board.specs.declared.seat.Seat.{Seat}
use Rattle.resp_board.specs.declared.ticket.ClientId.{ClientId}
use Rattle.resp_board.specs.declared.ticket.Ticket.{Ticket}
use Rattle.resp_board.specs.Boards.{Ask, Board, Entry, Event, Lose, Own, Place, Reply, after_events, after_reply, answer_all, answer_at, commands_of, first_part, happens, is_same, last_on, nothing_asked, with_line}
use Rattle.resp_board.specs.Boards as board
use Rattle.resp_board.specs.Desks.{Awaits, HasAnswers}
use Rattle.resp_board.specs.Histories.{History, board_of, sent_after, with_bytes, with_event, with_given}
use Rattle.resp_board.specs.Joins.{Carries, HasOnePart, IsEmpty, Joins, Stands, place_in}
use Rattle.resp_board.specs.Once.{IsMissing}
use Rattle.resp_board.specs.Queues.{HasQueued, Line, nothing_queued, texts_of, with_answered, with_connection, with_queued, with_sent, without_first}
use Rattle.resp_board.specs.Queues as queue
use Rattle.resp_board.specs.Rows.{ChangesLine, tickets_in}
use Rattle.resp_board.specs.Seats.{ChangesSeat, desk_in}
use Rattle.resp_board.specs.Tickets.{answers_for, place_of}
use Rattle.resp_board.proofs.Carrying.{FirstWaits, Words, carries-change, first-waits, places-answered, places-appended, rows-change, words-answered, words-queued, words-removed, words-same, words-sent}
use Rattle.resp_board.proofs.Finding.{awaited, awaits, joined, place-new}
use Rattle.resp_board.proofs.LineLists.{at-line, off-line}
use Rattle.resp_board.proofs.Serving.{answers-more, answers-others, entries-answered, entries-appended, same-self, seated-change, served-change, still-one}
use Rattle.resp_board.proofs.Tickets.{either, others, same-id}
use Rattle.resp_board.proofs.Waits.{waits_once}

-- a client that has a number that was given
abbrev pub IsGiven : ℕ → Entry → Type 0
IsGiven last e = e.client.number ≤ last

pub after-more : (b : Board) (es : List Event) (e : Event) → after_events b (es ++ e ∷ []) ≡ happens (after_events b es) e
after-more b [] e = refl
after-more b (x ∷ es) e = after-more (happens b x) es e

pub stands-event : (slots : List (Option Seat)) (lines : List Queue) (last : ℕ) (h : History) (e : Event) →
    Joins slots lines last (happens (board_of h) e) h.given (sent_after e h.sent) → Stands slots lines last (with_event e h)
stands-event slots lines last h e j =
    subst (λ b. Joins slots lines last b h.given (sent_after e h.sent)) (sym (after-more nothing_asked h.events e)) j

-- lines

words-to : (es : List Entry) (l : Line) (places places' : List Place) (commands commands' : List board.Command) (sent sent' : List ℕ) → places' ≡ places →
    commands' ≡ commands → sent' ≡ sent → Words es l places commands sent → Words es l places' commands' sent'
words-to es l places places' commands commands' sent sent' e f g w = record {
  within = w.within;
  sent_is = w.sent_is ∙ sym g;
  commands_are = w.commands_are ∙ sym f;
  places_are = w.places_are ∙ sym e;
}

empty-to : (places places' : List Place) (commands commands' : List board.Command) (sent sent' : List ℕ) → places' ≡ places → commands' ≡ commands →
    sent' ≡ sent → IsEmpty places commands sent → IsEmpty places' commands' sent'
empty-to places places' commands commands' sent sent' e f g i = record { no_place = e ∙ i.no_place; no_command = f ∙ i.no_command; no_byte = g ∙ i.no_byte }

-- the parts that wait have the same places among other commands
abbrev pub KeepsPlaces : List Entry → List Entry → Type 0
KeepsPlaces es es' = (cs : List queue.Command) → AllByRecursion (IsMissing es) (map (place_in es) cs) → map (place_in es') cs ≡ map (place_in es) cs

words-kept : (es es' : List Entry) (l : Line) (places : List Place) (commands : List board.Command) (sent : List ℕ) → KeepsPlaces es es' →
    AllByRecursion (IsMissing es) places → Words es l places commands sent → Words es' l places commands sent
words-kept es es' l places commands sent kept missing w =
    words-same es es' l places commands sent (kept (drop l.replied l.commands) (subst (AllByRecursion (IsMissing es)) (sym w.places_are) missing)) w

-- one line has changed, and the commands of all clients
rows-event : (lines lines' : List Queue) (line : ℕ) (change : Line → Line) (es es' : List Entry) (w w' : ℕ → List Place)
    (cs cs' : ℕ → List board.Command) (s s' : ℕ → List ℕ) → ChangesLine lines lines' line change →
    ((l : Line) → Words es l (w line) (cs line) (s line) → Words es' (change l) (w' line) (cs' line) (s' line)) →
    (slice_get lines line ≡ None → IsEmpty (w line) (cs line) (s line) → IsEmpty (w' line) (cs' line) (s' line)) →
    KeepsPlaces es es' → ((l : ℕ) → AllByRecursion (IsMissing es) (w l)) →
    ((other : ℕ) → other ≢ line → w' other ≡ w other) → ((other : ℕ) → other ≢ line → cs' other ≡ cs other) →
    ((other : ℕ) → other ≢ line → s' other ≡ s other) →
    ((l : ℕ) → Carries (slice_get lines l) es (w l) (cs l) (s l)) → (l : ℕ) → Carries (slice_get lines' l) es' (w' l) (cs' l) (s' l)
rows-event lines lines' line change es es' w w' cs cs' s s' ch words empty kept missing e f g carried =
    rows-change lines lines' line change es es' w w' cs cs' s s' ch words empty
    (λ o apart l wd. words-to es' l (w o) (w' o) (cs o) (cs' o) (s o) (s' o) (e o apart) (f o apart) (g o apart)
    (words-kept es es' l (w o) (cs o) (s o) kept (missing o) wd))
    (λ o apart i. empty-to (w o) (w' o) (cs o) (cs' o) (s o) (s' o) (e o apart) (f o apart) (g o apart) i)
    carried

rows-kept : (lines : List Queue) (es es' : List Entry) (w : ℕ → List Place) (cs : ℕ → List board.Command) (s : ℕ → List ℕ) → KeepsPlaces es es' →
    ((l : ℕ) → AllByRecursion (IsMissing es) (w l)) → ((l : ℕ) → Carries (slice_get lines l) es (w l) (cs l) (s l)) → (l : ℕ) →
    Carries (slice_get lines l) es' (w l) (cs l) (s l)
rows-kept lines es es' w cs s kept missing carried l =
    carries-change (slice_get lines l) (slice_get lines l) es es' (w l) (w l) (cs l) (cs l) (s l) (s l) (λ x. x) refl (λ x h. h)
    (λ x wd. words-kept es es' x (w l) (cs l) (s l) kept (missing l) wd) (λ is i. i) (carried l)

keeps-itself : (es : List Entry) → KeepsPlaces es es
keeps-itself es cs all = refl

no-line : (o : Option Queue) → is_some o ≡ true → o ≡ None → ⊥
no-line None e none = absurd (grind arith)
no-line (Some q) e none = absurd (grind arith)

not-empty : (ps : List Place) (p : Place) (rest : List Place) → ps ≡ p ∷ rest → ps ≡ [] → ⊥
not-empty [] p rest e f = absurd (grind arith)
not-empty (q ∷ ps) p rest e f = absurd (grind arith)

-- a client that is open has a number that was given
pub number-given : (slots : List (Option Seat)) (last : ℕ) (who : ClientId) → is_some (desk_in slots who) ≡ true →
    ((x : ClientId) → last < x.number → desk_in slots x ≡ None) → who.number ≤ last
number-given slots last who there seated = elim (cases_lt last who.number) [
  | inl above ↦ absurd (wrong (desk_in slots who) there (seated who above))
  | inr given ↦ given
]
  where
    wrong : (o : Option Desk) → is_some o ≡ true → o ≡ None → ⊥
    wrong None e none = absurd (grind arith)
    wrong (Some d) e none = absurd (grind arith)

-- a client's command is asked
pub asked : (slots slots' : List (Option Seat)) (lines lines' : List Queue) (last : ℕ) (h : History) (who : ClientId) (line number : ℕ) (text : List ℕ) →
    is_some (desk_in slots who) ≡ true → is_some (slice_get lines line) ≡ true → number ≡ length (answers_for who (board_of h).entries) →
    ChangesSeat slots slots' who (λ answers. answers ++ None ∷ []) (λ given. given) →
    ChangesLine lines lines' line (with_queued (record { client = who; number = number; part = 0 }) text) →
    Stands slots lines last h → Stands slots' lines' last (with_event (Ask who line text) h)
asked slots slots' lines lines' last h who line number text there row next seat queue j =
    let b = board_of h in
    let e : Entry = record { client = who; parts = None ∷ []; merge = first_part } in
    let ticket : Ticket = record { client = who; number = number; part = 0 } in
    let p : Place = record { entry = length b.entries; part = 0; client = who; text = text } in
    let c : board.Command = record { client = who; text = text } in
    let once = waits_once h.events in
    let new : place_of who number (b.entries ++ e ∷ []) ≡ length b.entries =
    ap (λ n. place_of who n (b.entries ++ e ∷ [])) next ∙ place-new who b.entries e (same-self who) in
    stands-event slots' lines' last h (Ask who line text) (record {
      served = served-change slots slots' who (λ answers. answers ++ None ∷ []) (λ given. given) b.entries (b.entries ++ e ∷ []) h.given h.given seat
          (answers-more who b.entries e (same-self who)) refl (λ other off. answers-others other b.entries e off) (λ other off. refl) j.served;
      carried = rows-event lines lines' line (with_queued ticket text) b.entries (b.entries ++ e ∷ []) b.waiting (last_on line p b.waiting) b.commands
          (last_on line c b.commands) h.sent h.sent queue
          (λ l wd. words-to (b.entries ++ e ∷ []) (with_queued ticket text l) (b.waiting line ++ p ∷ []) (last_on line p b.waiting line)
          (b.commands line ++ c ∷ []) (last_on line c b.commands line) (h.sent line) (h.sent line) (at-line line (b.waiting line ++ p ∷ []) b.waiting)
          (at-line line (b.commands line ++ c ∷ []) b.commands) refl
          (words-queued b.entries (e ∷ []) l ticket text (b.waiting line) (b.commands line) (h.sent line) (length b.entries) (once.missing line) new wd))
          (λ none i. absurd (no-line (slice_get lines line) row none))
          (λ cs all. places-appended b.entries (e ∷ []) cs all) once.missing
          (λ o apart. off-line line (b.waiting line ++ p ∷ []) b.waiting o apart) (λ o apart. off-line line (b.commands line ++ c ∷ []) b.commands o apart)
          (λ o apart. refl) j.carried;
      single = entries-appended HasOnePart b.entries e (record { answer = None; only = refl; same = refl }) j.single;
      numbered = entries-appended (IsGiven last) b.entries e (number-given slots last who there j.seated) j.numbered;
      seated = seated-change slots slots' who (λ answers. answers ++ None ∷ []) (λ given. given) last seat j.seated;
      ungiven = j.ungiven;
    })

-- a client has an answer of the proxy's own
pub owned : (slots slots' : List (Option Seat)) (lines : List Queue) (last : ℕ) (h : History) (who : ClientId) (text : List ℕ) →
    is_some (desk_in slots who) ≡ true → ChangesSeat slots slots' who (λ answers. answers ++ Some text ∷ []) (λ given. given) →
    Stands slots lines last h → Stands slots' lines last (with_event (Own who text) h)
owned slots slots' lines last h who text there seat j =
    let b = board_of h in
    let e : Entry = record { client = who; parts = Some text ∷ []; merge = first_part } in
    let once = waits_once h.events in
    stands-event slots' lines last h (Own who text) (record {
      served = served-change slots slots' who (λ answers. answers ++ Some text ∷ []) (λ given. given) b.entries (b.entries ++ e ∷ []) h.given h.given seat
          (answers-more who b.entries e (same-self who)) refl (λ other off. answers-others other b.entries e off) (λ other off. refl) j.served;
      carried = rows-kept lines b.entries (b.entries ++ e ∷ []) b.waiting b.commands h.sent (λ cs all. places-appended b.entries (e ∷ []) cs all)
          once.missing j.carried;
      single = entries-appended HasOnePart b.entries e (record { answer = Some text; only = refl; same = refl }) j.single;
      numbered = entries-appended (IsGiven last) b.entries e (number-given slots last who there j.seated) j.numbered;
      seated = seated-change slots slots' who (λ answers. answers ++ Some text ∷ []) (λ given. given) last seat j.seated;
      ungiven = j.ungiven;
    })

-- the part that waits first on a line, for the ticket that waits first
pub first-part : (slots : List (Option Seat)) (lines : List Queue) (last : ℕ) (h : History) (line : ℕ) (ticket : Ticket) →
    slice_get (tickets_in (slice_get lines line)) 0 ≡ Some ticket → Stands slots lines last h →
    FirstWaits ticket (board_of h).entries ((board_of h).waiting line)
first-part slots lines last h line ticket first j =
    let b = board_of h in first-waits ticket (slice_get lines line) b.entries (b.waiting line) (b.commands line) (h.sent line) (j.carried line) first

-- the desk of its client awaits the answer
pub ticket-awaited : (slots : List (Option Seat)) (lines : List Queue) (last : ℕ) (h : History) (line : ℕ) (ticket : Ticket) →
    slice_get (tickets_in (slice_get lines line)) 0 ≡ Some ticket → Stands slots lines last h →
    IfSome (desk_in slots ticket.client) (λ d. Awaits d ticket.number)
ticket-awaited slots lines last h line ticket first j =
    let b = board_of h in
    let f = first-part slots lines last h line ticket first j in
    let missing = subst (AllByRecursion (IsMissing b.entries)) f.first ((waits_once h.events).missing line) in
    let none = awaited ticket.client ticket.number ticket.part b.entries j.single missing.0 in
    of-desk (desk_in slots ticket.client) (answers_for ticket.client b.entries) (h.given ticket.client) ticket.number none (j.served ticket.client)
  where
    of-desk : (o : Option Desk) (answers : List (Option (List ℕ))) (given : List ℕ) (n : ℕ) → slice_get answers n ≡ Some None →
        IfSome o (λ d. HasAnswers d answers given) → IfSome o (λ d. Awaits d n)
    of-desk None answers given n none s = tt
    of-desk (Some d) answers given n none s = awaits d answers given n s none

-- the server of a line replied
pub replied : (slots slots' : List (Option Seat)) (lines lines' : List Queue) (last : ℕ) (h : History) (line : ℕ) (ticket : Ticket) (text : List ℕ) →
    slice_get (tickets_in (slice_get lines line)) 0 ≡ Some ticket →
    ChangesSeat slots slots' ticket.client (λ answers. slice_set answers ticket.number (Some text)) (λ given. given) →
    ChangesLine lines lines' line with_answered → Stands slots lines last h → Stands slots' lines' last (with_event (Reply line text) h)
replied slots slots' lines lines' last h line ticket text first seat row j =
    let b = board_of h in
    let who = ticket.client in
    let f = first-part slots lines last h line ticket first j in
    let k = place_of who ticket.number b.entries in
    let p : Place = record { entry = k; part = ticket.part; client = who; text = f.text } in
    let once = waits_once h.events in
    let missing = subst (AllByRecursion (IsMissing b.entries)) f.first (once.missing line) in
    stands-event slots' lines' last h (Reply line text)
    (subst (λ ps. Joins slots' lines' last (after_reply b line text ps) h.given h.sent) (sym f.first) (record {
      served = served-change slots slots' who (λ answers. slice_set answers ticket.number (Some text)) (λ given. given) b.entries
          (answer_at b.entries k ticket.part text) h.given h.given seat (joined who ticket.number ticket.part b.entries text j.single missing.0) refl
          (λ other off. others who ticket.number b.entries ticket.part text other off) (λ other off. refl) j.served;
      carried = rows-event lines lines' line with_answered b.entries (answer_at b.entries k ticket.part text) b.waiting (with_line line f.rest b.waiting)
          b.commands b.commands h.sent h.sent row
          (λ l wd. words-to (answer_at b.entries k ticket.part text) (with_answered l) f.rest (with_line line f.rest b.waiting line) (b.commands line)
          (b.commands line) (h.sent line) (h.sent line) (at-line line f.rest b.waiting) refl refl
          (words-answered b.entries k ticket.part text l p f.rest (b.commands line) (h.sent line)
          (words-to b.entries l (b.waiting line) (p ∷ f.rest) (b.commands line) (b.commands line) (h.sent line) (h.sent line) (sym f.first) refl refl wd)))
          (λ none i. absurd (not-empty (b.waiting line) p f.rest f.first i.no_place))
          (λ cs all. places-answered b.entries k ticket.part text cs) once.missing
          (λ o apart. off-line line f.rest b.waiting o apart) (λ o apart. refl) (λ o apart. refl) j.carried;
      single = entries-answered HasOnePart still-one b.entries k ticket.part text j.single;
      numbered = entries-answered (IsGiven last) (λ e part t few. few) b.entries k ticket.part text j.numbered;
      seated = seated-change slots slots' who (λ answers. slice_set answers ticket.number (Some text)) (λ given. given) last seat j.seated;
      ungiven = j.ungiven;
    }))

-- the connection of a line is lost, and these parts wait on it
abbrev pub after_loss : Board → ℕ → ℕ → List ℕ → List Place → Board
after_loss b line count text ps = record {
  entries = answer_all b.entries (take count ps) text;
  waiting = with_line line (drop count ps) b.waiting;
  commands = with_line line (commands_of (drop count ps)) b.commands;
}

-- the first command of a line is answered, and the line begins anew
pub failed-first : (slots slots' : List (Option Seat)) (lines lines' : List Queue) (last : ℕ) (h : History) (line : ℕ) (ticket : Ticket) (text : List ℕ) →
    slice_get (tickets_in (slice_get lines line)) 0 ≡ Some ticket →
    ChangesSeat slots slots' ticket.client (λ answers. slice_set answers ticket.number (Some text)) (λ given. given) →
    ChangesLine lines lines' line without_first → Stands slots lines last h → Stands slots' lines' last (with_event (Lose line 1 text) h)
failed-first slots slots' lines lines' last h line ticket text first seat row j =
    let b = board_of h in
    let who = ticket.client in
    let f = first-part slots lines last h line ticket first j in
    let k = place_of who ticket.number b.entries in
    let p : Place = record { entry = k; part = ticket.part; client = who; text = f.text } in
    let once = waits_once h.events in
    let missing = subst (AllByRecursion (IsMissing b.entries)) f.first (once.missing line) in
    let ds = with_line line (commands_of f.rest) b.commands in
    let ts : ℕ → List ℕ = with_line line [] h.sent in
    stands-event slots' lines' last h (Lose line 1 text)
    (subst (λ ps. Joins slots' lines' last (after_loss b line 1 text ps) h.given ts) (sym f.first) (record {
      served = served-change slots slots' who (λ answers. slice_set answers ticket.number (Some text)) (λ given. given) b.entries
          (answer_at b.entries k ticket.part text) h.given h.given seat (joined who ticket.number ticket.part b.entries text j.single missing.0) refl
          (λ other off. others who ticket.number b.entries ticket.part text other off) (λ other off. refl) j.served;
      carried = rows-event lines lines' line without_first b.entries (answer_at b.entries k ticket.part text) b.waiting (with_line line f.rest b.waiting)
          b.commands ds h.sent ts row
          (λ l wd. words-to (answer_at b.entries k ticket.part text) (without_first l) f.rest (with_line line f.rest b.waiting line) (commands_of f.rest)
          (ds line) [] (ts line) (at-line line f.rest b.waiting) (at-line line (commands_of f.rest) b.commands) (at-line line [] h.sent)
          (words-removed b.entries k ticket.part text l p f.rest (b.commands line) (h.sent line)
          (words-to b.entries l (b.waiting line) (p ∷ f.rest) (b.commands line) (b.commands line) (h.sent line) (h.sent line) (sym f.first) refl refl wd)))
          (λ none i. absurd (not-empty (b.waiting line) p f.rest f.first i.no_place))
          (λ cs all. places-answered b.entries k ticket.part text cs) once.missing
          (λ o apart. off-line line f.rest b.waiting o apart) (λ o apart. off-line line (commands_of f.rest) b.commands o apart)
          (λ o apart. off-line line [] h.sent o apart) j.carried;
      single = entries-answered HasOnePart still-one b.entries k ticket.part text j.single;
      numbered = entries-answered (IsGiven last) (λ e part t few. few) b.entries k ticket.part text j.numbered;
      seated = seated-change slots slots' who (λ answers. slice_set answers ticket.number (Some text)) (λ given. given) last seat j.seated;
      ungiven = j.ungiven;
    }))

-- a client was given bytes
pub gave : (slots slots' : List (Option Seat)) (lines : List Queue) (last : ℕ) (h : History) (who : ClientId) (text : List ℕ) →
    is_some (desk_in slots who) ≡ true → ChangesSeat slots slots' who (λ answers. answers) (λ given. given ++ text) → Stands slots lines last h →
    Stands slots' lines last (with_given who text h)
gave slots slots' lines last h who text there seat j =
    let b = board_of h in
    let now : ClientId → List ℕ = λ other. cond (is_same other who) (h.given other ++ text) (h.given other) in
    record {
      served = served-change slots slots' who (λ answers. answers) (λ given. given ++ text) b.entries b.entries h.given now seat refl
          (ap (λ c. cond c (h.given who ++ text) (h.given who)) (same-self who)) (λ other off. refl)
          (λ other off. ap (λ c. cond c (h.given other ++ text) (h.given other)) off) j.served;
      carried = j.carried;
      single = j.single;
      numbered = j.numbered;
      seated = seated-change slots slots' who (λ answers. answers) (λ given. given ++ text) last seat j.seated;
      ungiven = λ x above. elim (either (is_same x who)) [
        | inl mine ↦
            let few = number-given slots last who there j.seated in
            let same = ap (λ (c : ClientId). c.number) (same-id x who mine) in
            absurd (omega (arith, few, same, above))
        | inr off ↦ ap (λ c. cond c (h.given x ++ text) (h.given x)) off ∙ j.ungiven x above
      ];
    }

-- a client is as before
pub seat-kept : (slots slots' : List (Option Seat)) (lines : List Queue) (last : ℕ) (h : History) (who : ClientId) →
    ChangesSeat slots slots' who (λ answers. answers) (λ given. given) → Stands slots lines last h → Stands slots' lines last h
seat-kept slots slots' lines last h who seat j =
    let b = board_of h in
    record {
      served = served-change slots slots' who (λ answers. answers) (λ given. given) b.entries b.entries h.given h.given seat refl refl
          (λ other off. refl) (λ other off. refl) j.served;
      carried = j.carried;
      single = j.single;
      numbered = j.numbered;
      seated = seated-change slots slots' who (λ answers. answers) (λ given. given) last seat j.seated;
      ungiven = j.ungiven;
    }

-- a line is as before
pub row-kept : (slots : List (Option Seat)) (lines lines' : List Queue) (last : ℕ) (h : History) (line : ℕ) → ChangesLine lines lines' line (λ l. l) →
    Stands slots lines last h → Stands slots lines' last h
row-kept slots lines lines' last h line row j =
    let b = board_of h in
    record {
      served = j.served;
      carried = rows-event lines lines' line (λ l. l) b.entries b.entries b.waiting b.waiting b.commands b.commands h.sent h.sent row (λ l wd. wd)
          (λ none i. i) (keeps-itself b.entries) (waits_once h.events).missing (λ o apart. refl) (λ o apart. refl) (λ o apart. refl) j.carried;
      single = j.single;
      numbered = j.numbered;
      seated = j.seated;
      ungiven = j.ungiven;
    }

-- bytes were sent over a line
pub sent-bytes : (slots : List (Option Seat)) (lines lines' : List Queue) (last : ℕ) (h : History) (line : ℕ) (text : List ℕ) →
    ((slice_get lines line ≡ None) → text ≡ []) → ChangesLine lines lines' line (with_sent text) → Stands slots lines last h →
    Stands slots lines' last (with_bytes line text h)
sent-bytes slots lines lines' last h line text none_sent row j =
    let b = board_of h in
    let now = h.sent line ++ text in
    record {
      served = j.served;
      carried = rows-event lines lines' line (with_sent text) b.entries b.entries b.waiting b.waiting b.commands b.commands h.sent (with_line line now h.sent) row
          (λ l wd. words-to b.entries (with_sent text l) (b.waiting line) (b.waiting line) (b.commands line) (b.commands line) now
          (with_line line now h.sent line) refl refl (at-line line now h.sent)
          (words-sent b.entries l text (b.waiting line) (b.commands line) (h.sent line) wd))
          (λ none i. record {
            no_place = i.no_place;
            no_command = i.no_command;
            no_byte = at-line line now h.sent ∙ ap (λ s. s ++ text) i.no_byte ∙ none_sent none;
          })
          (keeps-itself b.entries) (waits_once h.events).missing (λ o apart. refl) (λ o apart. refl) (λ o apart. off-line line now h.sent o apart) j.carried;
      single = j.single;
      numbered = j.numbered;
      seated = j.seated;
      ungiven = j.ungiven;
    }
