-- Clients and lines that are opened, closed and lost, and what is true of any run.
use Rattle.std.proofs.Common.{arith, ◌≡◌, ◌≢◌, ℕ, zero, suc, ◌+◌, ◌<◌, ◌==◌, true, false, List, [], ◌∷◌, ◌++◌, drop, length, map, take, Option, None, Some, IfSome, Result, Ok, Err, is_ok, is_some, slice_get, refl, sym, ap, subst, ◌∙◌, cond, inl, inr}
use Rattle.std.specs.List.{AllByRecursion, concat}
use Rattle.std.specs.Coded.{le_prop}
use Rattle.std.specs.Result.{OnErr, OnOk}
use Rattle.std.proofs.Props.{props}
use Rattle.std.proofs.Math.Logic.{∥∥₁_elim, ∥∥₁_map}
use Rattle.std.proofs.Math.Seq.{drop-nil}
use Rattle.resp_board.specs.declared.board.Board as machine
use Rattle.resp_board.specs.declared.desk.Desk.{Desk}
use Rattle.resp_board.specs.declared.queue.Queue.{Queue}
use Rattle.resp_board.specs.declared.seat.Seat.{Seat}
use Rattle.resp_board.specs.declared.ticket.ClientId.{ClientId}
use Rattle.resp_board.specs.declared.ticket.Ticket.{Ticket}
use Rattle.resp_board.specs.Boards.{Board, Entry, Lose, Own, Place, Reply, after_reply, answer_all, answer_at, commands_of, happens, is_same, nothing_asked, with_line}
use Rattle.resp_board.specs.Boards as board
use Rattle.resp_board.specs.Desks.{Awaits, HasAnswers, WhereAnswered}
use Rattle.resp_board.specs.Histories.{History, board_of, nothing_happened, with_event, with_given, with_replies}
use Rattle.resp_board.specs.Joins.{Carries, HasOnePart, Joins, Stands, StandsSomehow, command_in}
use Rattle.resp_board.specs.Queues.{HasQueued, Line, nothing_queued, texts_of, with_answered, with_connection}
use Rattle.resp_board.specs.Queues as queue
use Rattle.resp_board.specs.Rows.{ChangesLine, begun_in, tickets_in, unsent_in}
use Rattle.resp_board.specs.Runs.{HasAnsweredSome, HasRun, KeepsOpen, KeepsRun, Runs, begun_on}
use Rattle.resp_board.specs.Seats.{ChangesSeat, ClosesSeat, OpensSeat, Serves, desk_in}
use Rattle.resp_board.specs.Tickets.{answers_for}
use Rattle.resp_board.proofs.Carrying.{rows-change, words-connected}
use Rattle.resp_board.proofs.Joining.{IsGiven, after-more, gave, owned, seat-kept, stands-event, ticket-awaited}
use Rattle.resp_board.proofs.LineLists.{at-line, off-line}
use Rattle.resp_board.proofs.Tickets.{either, same-id, skip}
use Rattle.resp_board.proofs.Waits.{same-line, twice}

abbrev pub Machine : Type 0
Machine = machine.Board

pub begun-within : (lines : List Queue) (line : ℕ) → 0 < begun_in (slice_get lines line) → line < length lines
begun-within [] line some = absurd (omega (arith, some))
begun-within (q ∷ lines) zero some = omega arith
begun-within (q ∷ lines) (suc line) some = let r = begun-within lines line some in omega (arith, r)

pub some-row : (lines : List Queue) (line : ℕ) → line < length lines → is_some (slice_get lines line) ≡ true
some-row [] line few = absurd (omega (arith, few))
some-row (q ∷ lines) zero few = refl
some-row (q ∷ lines) (suc line) few = some-row lines line (omega (arith, few))

-- what happened, and something more
pub still : (slots slots' : List (Option Seat)) (lines lines' : List Queue) (last last' : ℕ) →
    ((h : History) → Stands slots lines last h → (i : History) × Stands slots' lines' last' i) → StandsSomehow slots lines last → StandsSomehow slots' lines' last'
still slots slots' lines lines' last last' step some = ∥∥₁_map some (λ x. step x.0 x.1)

awaits-if : (o : Option Desk) (n : ℕ) → ∥ IfSome o (λ d. Awaits d n) ∥₁ → IfSome o (λ d. Awaits d n)
awaits-if None n h = tt
awaits-if (Some d) n h = record {
  after = ∥∥₁_elim h le_prop (λ a. a.after);
  missing = ∥∥₁_elim h (Prim.hlevel props) (λ a. a.missing);
}

-- the desk of the client of the first ticket awaits its answer
pub first-awaited : (slots : List (Option Seat)) (lines : List Queue) (last : ℕ) (line : ℕ) (ticket : Ticket) →
    slice_get (tickets_in (slice_get lines line)) 0 ≡ Some ticket → StandsSomehow slots lines last →
    IfSome (desk_in slots ticket.client) (λ d. Awaits d ticket.number)
first-awaited slots lines last line ticket first some =
    awaits-if (desk_in slots ticket.client) ticket.number (∥∥₁_map some (λ x. ticket-awaited slots lines last x.0 line ticket first x.1))

-- the number of the next command is that of the commands before it
pub next-is : (slots : List (Option Seat)) (lines : List Queue) (last : ℕ) (h : History) (who : ClientId) (d : Desk) (number : ℕ) → desk_in slots who ≡ Some d →
    WhereAnswered d (λ answers given. number ≡ length answers) → Stands slots lines last h → number ≡ length (answers_for who (board_of h).entries)
next-is slots lines last h who d number is next j =
    next (answers_for who (board_of h).entries) (h.given who)
    (subst (λ o. IfSome o (λ x. HasAnswers x (answers_for who (board_of h).entries) (h.given who))) is (j.served who))

-- nothing has happened
pub began : (slots : List (Option Seat)) (lines : List Queue) → slots ≡ [] → lines ≡ [] → Stands slots lines 0 nothing_happened
began slots lines no_seat no_row =
    subst (λ ss. Stands ss lines 0 nothing_happened) (sym no_seat)
    (subst (λ ls. Stands [] ls 0 nothing_happened) (sym no_row) (record {
      served = λ who. subst (λ o. IfSome o (λ d. HasAnswers d [] [])) (sym (no-desk who.number who.place)) tt;
      carried = λ line. record { no_place = refl; no_command = refl; no_byte = refl };
      single = tt;
      numbered = tt;
      seated = λ who above. no-desk who.number who.place;
      ungiven = λ who above. refl;
    }))
  where
    no-desk : (number place : ℕ) → desk_in [] (record { place = place; number = number }) ≡ None
    no-desk number zero = refl
    no-desk number (suc place) = refl

-- a client that was not there has no answers
unknown : (who : ClientId) (last : ℕ) (es : List Entry) → last < who.number → AllByRecursion (IsGiven last) es → answers_for who es ≡ []
unknown who last [] above all = refl
unknown who last (e ∷ es) above all = elim (either (is_same who e.client)) [
  | inl mine ↦
      let same = ap (λ (c : ClientId). c.number) (same-id who e.client mine) in
      let few = all.0 in
      absurd (omega (arith, above, same, few))
  | inr off ↦ skip who e es off ∙ unknown who last es above all.1
]

more-known : (last : ℕ) (es : List Entry) → AllByRecursion (IsGiven last) es → AllByRecursion (IsGiven (last + 1)) es
more-known last [] all = tt
more-known last (e ∷ es) all = let few = all.0 in (omega (arith, few), more-known last es all.1)

-- a client is opened
pub opened : (slots slots' : List (Option Seat)) (lines : List Queue) (last : ℕ) (h : History) (who : ClientId) → who.number ≡ last + 1 →
    OpensSeat slots slots' who → Stands slots lines last h → Stands slots' lines (last + 1) h
opened slots slots' lines last h who next seat j =
    let b = board_of h in
    let above : last < who.number = omega (arith, next) in record {
      served = λ x. elim (either (is_same x who)) [
        | inl mine ↦
            subst (λ y. Serves slots' y (answers_for y b.entries) (h.given y)) (sym (same-id x who mine))
            (subst (λ a. Serves slots' who a (h.given who)) (sym (unknown who last b.entries above j.numbered))
            (subst (λ g. Serves slots' who [] g) (sym (j.ungiven who above)) seat.itself))
        | inr off ↦ subst (λ o. IfSome o (λ d. HasAnswers d (answers_for x b.entries) (h.given x))) (sym (seat.others x off)) (j.served x)
      ];
      carried = j.carried;
      single = j.single;
      numbered = more-known last b.entries j.numbered;
      seated = λ x more. elim (either (is_same x who)) [
        | inl mine ↦ let same = ap (λ (c : ClientId). c.number) (same-id x who mine) in absurd (omega (arith, more, same, next))
        | inr off ↦ seat.others x off ∙ j.seated x (omega (arith, more))
      ];
      ungiven = λ x more. j.ungiven x (omega (arith, more));
    }

-- a client is closed
pub closed : (slots slots' : List (Option Seat)) (lines : List Queue) (last : ℕ) (h : History) (who : ClientId) → ClosesSeat slots slots' who →
    Stands slots lines last h → Stands slots' lines last h
closed slots slots' lines last h who seat j =
    let b = board_of h in record {
      served = λ x. elim (either (is_same x who)) [
        | inl mine ↦
            subst (λ o. IfSome o (λ d. HasAnswers d (answers_for x b.entries) (h.given x))) (sym (seat x ∙ ap (λ c. cond c None (desk_in slots x)) mine)) tt
        | inr off ↦
            subst (λ o. IfSome o (λ d. HasAnswers d (answers_for x b.entries) (h.given x))) (sym (seat x ∙ ap (λ c. cond c None (desk_in slots x)) off))
            (j.served x)
      ];
      carried = j.carried;
      single = j.single;
      numbered = j.numbered;
      seated = λ x more. elim (either (is_same x who)) [
        | inl mine ↦ seat x ∙ ap (λ c. cond c None (desk_in slots x)) mine
        | inr off ↦ seat x ∙ ap (λ c. cond c None (desk_in slots x)) off ∙ j.seated x more
      ];
      ungiven = j.ungiven;
    }

row-more : (P : ℕ → Option Queue → Type 0) (q : Queue) (lines : List Queue) → ((l : ℕ) → P l None → P l (Some q)) → ((l : ℕ) → P l (slice_get lines l)) →
    (l : ℕ) → P l (slice_get (lines ++ q ∷ []) l)
row-more P q [] new all zero = new 0 (all 0)
row-more P q [] new all (suc l) = all (suc l)
row-more P q (x ∷ lines) new all zero = all 0
row-more P q (x ∷ lines) new all (suc l) = row-more (λ k. P (suc k)) q lines (λ k. new (suc k)) (λ k. all (suc k)) l

-- a line is opened
pub row-opened : (slots : List (Option Seat)) (lines lines' : List Queue) (last : ℕ) (h : History) (q : Queue) → lines' ≡ lines ++ q ∷ [] →
    HasQueued q nothing_queued → Stands slots lines last h → Stands slots lines' last h
row-opened slots lines lines' last h q more queued j =
    let b = board_of h in record {
      served = j.served;
      carried = subst (λ ls. (l : ℕ) → Carries (slice_get ls l) b.entries (b.waiting l) (b.commands l) (h.sent l)) (sym more)
          (row-more (λ l o. Carries o b.entries (b.waiting l) (b.commands l) (h.sent l)) q lines
          (λ l i. record {
            line = nothing_queued;
            queued = queued;
            sent_is = sym i.no_byte;
            commands_are = sym i.no_command;
            places_are = sym i.no_place;
          }) j.carried);
      single = j.single;
      numbered = j.numbered;
      seated = j.seated;
      ungiven = j.ungiven;
    }

texts-in : (cs : List queue.Command) → map (λ (c : board.Command). c.text) (map command_in cs) ≡ texts_of cs
texts-in [] = refl
texts-in (c ∷ cs) = ap (λ ts. c.text ∷ ts) (texts-in cs)

-- the bytes that were sent, and those that wait, are the commands of the line
pub in-order : (o : Option Queue) (es : List Entry) (places : List Place) (commands : List board.Command) (sent : List ℕ) →
    Carries o es places commands sent → sent ++ unsent_in o ≡ concat (map (λ (c : board.Command). c.text) commands)
in-order None es places commands sent c =
    ap (λ s. s ++ []) c.no_byte ∙ ap (λ cs. concat (map (λ (c : board.Command). c.text) cs)) (sym c.no_command)
in-order (Some q) es places commands sent c =
    ap (λ s. s ++ unsent_in (Some q)) (sym c.sent_is) ∙ c.queued.in_order ∙ ap concat (sym (texts-in c.line.commands)) ∙
    ap (λ cs. concat (map (λ (c : board.Command). c.text) cs)) c.commands_are

-- a connection is lost

-- the board after so many replies
abbrev pub replied_on : ℕ → Board → ℕ → List ℕ → Board
replied_on zero b line text = b
replied_on (suc n) b line text = replied_on n (happens b (Reply line text)) line text

pub replies-are : (n : ℕ) (h : History) (line : ℕ) (text : List ℕ) → board_of (with_replies n line text h) ≡ replied_on n (board_of h) line text
replies-are zero h line text = refl
replies-are (suc n) h line text =
    replies-are n (with_event (Reply line text) h) line text ∙
    ap (λ b. replied_on n b line text) (after-more nothing_asked h.events (Reply line text))

replies-given : (n : ℕ) (h : History) (line : ℕ) (text : List ℕ) → (with_replies n line text h).given ≡ h.given
replies-given zero h line text = refl
replies-given (suc n) h line text = replies-given n (with_event (Reply line text) h) line text

replies-sent : (n : ℕ) (h : History) (line : ℕ) (text : List ℕ) → (with_replies n line text h).sent ≡ h.sent
replies-sent zero h line text = refl
replies-sent (suc n) h line text = replies-sent n (with_event (Reply line text) h) line text

-- one reply more
pub replies-more : (n : ℕ) (h : History) (line : ℕ) (text : List ℕ) → with_event (Reply line text) (with_replies n line text h) ≡ with_replies (suc n) line text h
replies-more zero h line text = refl
replies-more (suc n) h line text = replies-more n (with_event (Reply line text) h) line text

-- the first parts of a line have these answers
pub record IsReplied (n : ℕ) (b b' : Board) (line : ℕ) (text : List ℕ) : Type 0 where
  pub entries : b'.entries ≡ answer_all b.entries (take n (b.waiting line)) text
  pub waiting : (l : ℕ) → b'.waiting l ≡ with_line line (drop n (b.waiting line)) b.waiting l
  pub commands : (l : ℕ) → b'.commands l ≡ b.commands l

take-none : (n : ℕ) (ps : List Place) → ps ≡ [] → take n ps ≡ []
take-none zero ps e = refl
take-none (suc n) [] e = refl
take-none (suc n) (p ∷ ps) e = absurd (grind arith)

step-replied : (n : ℕ) (b : Board) (line : ℕ) (text : List ℕ) → ((c : Board) → IsReplied n c (replied_on n c line text) line text) → (ps : List Place) →
    b.waiting line ≡ ps → IsReplied (suc n) b (replied_on n (after_reply b line text ps) line text) line text
step-replied n b line text all [] e =
    let r = all b in record {
      entries = r.entries ∙ ap (λ xs. answer_all b.entries xs text) (take-none n (b.waiting line) e ∙ sym (take-none (suc n) (b.waiting line) e));
      waiting = λ l. r.waiting l ∙ ap (λ xs. with_line line (drop n xs) b.waiting l) e ∙
          ap (λ xs. with_line line xs b.waiting l) (drop-nil n) ∙ sym (ap (λ xs. with_line line (drop (suc n) xs) b.waiting l) e);
      commands = r.commands;
    }
step-replied n b line text all (p ∷ rest) e =
    let c : Board = record { entries = answer_at b.entries p.entry p.part text; waiting = with_line line rest b.waiting; commands = b.commands } in
    let r = all c in
    let left = at-line line rest b.waiting in record {
      entries = r.entries ∙ ap (λ xs. answer_all c.entries (take n xs) text) left ∙ sym (ap (λ xs. answer_all b.entries (take (suc n) xs) text) e);
      waiting = λ l. r.waiting l ∙ ap (λ xs. with_line line (drop n xs) c.waiting l) left ∙ sym (twice b.waiting line (drop n rest) rest l) ∙
          sym (ap (λ xs. with_line line (drop (suc n) xs) b.waiting l) e);
      commands = r.commands;
    }

pub is-replied : (n : ℕ) (b : Board) (line : ℕ) (text : List ℕ) → IsReplied n b (replied_on n b line text) line text
is-replied zero b line text = record { entries = refl; waiting = λ l. sym (same-line b.waiting line (b.waiting line) refl l); commands = λ l. refl }
is-replied (suc n) b line text = step-replied n b line text (λ c. is-replied n c line text) (b.waiting line) refl

-- a board of which each part is the same
pub joins-same : (slots : List (Option Seat)) (lines : List Queue) (last : ℕ) (b c : Board) (given : ClientId → List ℕ) (sent sent' : ℕ → List ℕ) →
    c.entries ≡ b.entries → ((l : ℕ) → c.waiting l ≡ b.waiting l) → ((l : ℕ) → c.commands l ≡ b.commands l) → ((l : ℕ) → sent' l ≡ sent l) →
    Joins slots lines last b given sent → Joins slots lines last c given sent'
joins-same slots lines last b c given sent sent' e f g s j = record {
  served = λ who. subst (λ es. Serves slots who (answers_for who es) (given who)) (sym e) (j.served who);
  carried = λ l.
      subst (λ es. Carries (slice_get lines l) es (c.waiting l) (c.commands l) (sent' l)) (sym e)
      (subst (λ ps. Carries (slice_get lines l) b.entries ps (c.commands l) (sent' l)) (sym (f l))
      (subst (λ cs. Carries (slice_get lines l) b.entries (b.waiting l) cs (sent' l)) (sym (g l))
      (subst (λ t. Carries (slice_get lines l) b.entries (b.waiting l) (b.commands l) t) (sym (s l)) (j.carried l))));
  single = subst (AllByRecursion HasOnePart) (sym e) j.single;
  numbered = subst (AllByRecursion (IsGiven last)) (sym e) j.numbered;
  seated = j.seated;
  ungiven = j.ungiven;
}

-- a line begins anew
connected : (slots : List (Option Seat)) (lines lines' : List Queue) (last : ℕ) (b : Board) (given : ClientId → List ℕ) (sent : ℕ → List ℕ) (line : ℕ) →
    ChangesLine lines lines' line with_connection → Joins slots lines last b given sent →
    Joins slots lines' last (record { entries = b.entries; waiting = b.waiting; commands = with_line line (commands_of (b.waiting line)) b.commands }) given
    (with_line line [] sent)
connected slots lines lines' last b given sent line row j =
    let ds = with_line line (commands_of (b.waiting line)) b.commands in
    let ts : ℕ → List ℕ = with_line line [] sent in
    let here_c = at-line line (commands_of (b.waiting line)) b.commands in
    let here_s = at-line line [] sent in record {
      served = j.served;
      carried = rows-change lines lines' line with_connection b.entries b.entries b.waiting b.waiting b.commands ds sent ts row
          (λ l wd.
          let now = words-connected b.entries l (b.waiting line) (b.commands line) (sent line) wd in
          record { within = now.within; sent_is = now.sent_is ∙ sym here_s; commands_are = now.commands_are ∙ sym here_c; places_are = now.places_are })
          (λ none i. record { no_place = i.no_place; no_command = here_c ∙ ap commands_of i.no_place; no_byte = here_s })
          (λ o apart l wd. record {
            within = wd.within;
            sent_is = wd.sent_is ∙ sym (off-line line [] sent o apart);
            commands_are = wd.commands_are ∙ sym (off-line line (commands_of (b.waiting line)) b.commands o apart);
            places_are = wd.places_are;
          })
          (λ o apart i. record {
            no_place = i.no_place;
            no_command = off-line line (commands_of (b.waiting line)) b.commands o apart ∙ i.no_command;
            no_byte = off-line line [] sent o apart ∙ i.no_byte;
          })
          j.carried;
      single = j.single;
      numbered = j.numbered;
      seated = j.seated;
      ungiven = j.ungiven;
    }

-- after so many replies, the connection is lost
pub lost : (slots : List (Option Seat)) (lines lines' : List Queue) (last : ℕ) (h : History) (line n : ℕ) (text : List ℕ) →
    ChangesLine lines lines' line with_connection → Stands slots lines last (with_replies n line text h) →
    Stands slots lines' last (with_event (Lose line n text) h)
lost slots lines lines' last h line n text row j =
    let b = board_of h in
    let r = is-replied n b line text in
    let c = replied_on n b line text in
    let first : Joins slots lines last c h.given h.sent =
    subst (λ x. Joins slots lines last x h.given h.sent) (replies-are n h line text)
    (subst (λ g. Joins slots lines last (board_of (with_replies n line text h)) g h.sent) (replies-given n h line text)
    (subst (λ s. Joins slots lines last (board_of (with_replies n line text h)) (with_replies n line text h).given s) (replies-sent n h line text) j)) in
    let left : c.waiting line ≡ drop n (b.waiting line) = r.waiting line ∙ at-line line (drop n (b.waiting line)) b.waiting in
    stands-event slots lines' last h (Lose line n text)
    (joins-same slots lines' last (record { entries = c.entries; waiting = c.waiting; commands = with_line line (commands_of (c.waiting line)) c.commands })
    (happens b (Lose line n text)) h.given (with_line line [] h.sent) (with_line line [] h.sent) (sym r.entries) (λ l. sym (r.waiting l))
    (λ l. ap (λ ps. with_line line (commands_of ps) b.commands l) (sym left) ∙
    ap (λ x. cond (l == line) (commands_of (c.waiting line)) x) (sym (r.commands l)))
    (λ l. refl) (connected slots lines lines' last c h.given h.sent line row first))

-- one more command of a line was answered by this text
pub answered-more : (line : ℕ) (text : List ℕ) (old mid new : Machine) → HasAnsweredSome line text old mid → begun_on new line + 1 ≡ begun_on mid line →
    Runs (Reply line text) mid new → HasAnsweredSome line text old new
answered-more line text old mid new some fewer one = record {
  count = suc some.count;
  begun = let b = some.begun in omega (arith, b, fewer);
  run = λ h j. subst (HasRun new) (replies-more some.count h line text) (one (with_replies some.count line text h) (some.run h j));
}

-- no more command was answered
pub answered-same : (line : ℕ) (text : List ℕ) (old mid new : Machine) → HasAnsweredSome line text old mid → begun_on new line ≡ begun_on mid line →
    KeepsRun mid new → HasAnsweredSome line text old new
answered-same line text old mid new some same kept = record {
  count = some.count;
  begun = let b = some.begun in omega (arith, b, same);
  run = λ h j. kept (with_replies some.count line text h) (some.run h j);
}

pub answered-none : (line : ℕ) (text : List ℕ) (m : Machine) → HasAnsweredSome line text m m
answered-none line text m = record { count = 0; begun = omega arith; run = λ h j. j }

pub open-itself : (m : Machine) → KeepsOpen m m
open-itself m = record { clients = λ who. refl; lines = λ line. refl; last = refl; bounds = refl }

pub open-more : (old mid new : Machine) → KeepsOpen old mid → KeepsOpen mid new → KeepsOpen old new
open-more old mid new a b = record {
  clients = λ who. b.clients who ∙ a.clients who;
  lines = λ line. b.lines line ∙ a.lines line;
  last = b.last ∙ a.last;
  bounds = b.bounds ∙ a.bounds;
}

-- what happened after calls that may fail

pub own-somehow : {A B : Type 0} (r : Result A B) (slots slots' : List (Option Seat)) (lines : List Queue) (last : ℕ) (who : ClientId) (text : List ℕ) →
    is_some (desk_in slots who) ≡ true → OnOk r (ChangesSeat slots slots' who (λ answers. answers ++ Some text ∷ []) (λ given. given)) →
    OnErr r (ChangesSeat slots slots' who (λ answers. answers) (λ given. given)) → StandsSomehow slots lines last → StandsSomehow slots' lines last
own-somehow (Ok _) slots slots' lines last who text there ok err some =
    still slots slots' lines lines last last (λ h j. (with_event (Own who text) h, owned slots slots' lines last h who text there ok j)) some
own-somehow (Err _) slots slots' lines last who text there ok err some =
    still slots slots' lines lines last last (λ h j. (h, seat-kept slots slots' lines last h who err j)) some

seat-none : (o o' : Option Desk) → is_some o' ≡ is_some o → is_some o ≡ false → o' ≡ None
seat-none o None same none = refl
seat-none o (Some d) same none = absurd (grind arith)

pub given-somehow : (slots slots' : List (Option Seat)) (lines : List Queue) (last : ℕ) (who : ClientId) (text : List ℕ) →
    ChangesSeat slots slots' who (λ answers. answers) (λ given. given ++ text) → StandsSomehow slots lines last → StandsSomehow slots' lines last
given-somehow slots slots' lines last who text seat some = elim (either (is_some (desk_in slots who))) [
  | inl there ↦ still slots slots' lines lines last last (λ h j. (with_given who text h, gave slots slots' lines last h who text there seat j)) some
  | inr none ↦
      still slots slots' lines lines last last (λ h j. (
        h,
        seat-kept slots slots' lines last h who (record {
          others = seat.others;
          itself = λ answers given s. subst (λ o. IfSome o (λ d. HasAnswers d answers given))
              (sym (seat-none (desk_in slots who) (desk_in slots' who) seat.stays none)) tt;
          stays = seat.stays;
        }) j,
      )) some
]

pub none-sent : (o : Option Queue) (count : ℕ) → o ≡ None → take count (unsent_in o) ≡ []
none-sent None zero e = refl
none-sent None (suc count) e = refl
none-sent (Some q) count e = absurd (grind arith)

pub line-somehow : {A B : Type 0} (r : Result A B) (slots : List (Option Seat)) (lines lines' : List Queue) (last : ℕ) (q : Queue) →
    lines' ≡ cond (is_ok r) (lines ++ q ∷ []) lines → HasQueued q nothing_queued → StandsSomehow slots lines last → StandsSomehow slots lines' last
line-somehow (Ok _) slots lines lines' last q more queued some =
    still slots slots lines lines' last last (λ h j. (h, row-opened slots lines lines' last h q more queued j)) some
line-somehow (Err _) slots lines lines' last q more queued some = subst (λ ls. StandsSomehow slots ls last) (sym more) some

pub line-run : {A B : Type 0} (r : Result A B) (slots : List (Option Seat)) (lines lines' : List Queue) (last : ℕ) (h : History) (q : Queue) →
    lines' ≡ cond (is_ok r) (lines ++ q ∷ []) lines → HasQueued q nothing_queued → Stands slots lines last h → Stands slots lines' last h
line-run (Ok _) slots lines lines' last h q more queued j = row-opened slots lines lines' last h q more queued j
line-run (Err _) slots lines lines' last h q more queued j = subst (λ ls. Stands slots ls last h) (sym more) j

-- a line comes behind the others
pub record ComesLast (lines lines' : List Queue) (n : ℕ) : Type 0 where
  pub fresh : is_some (slice_get lines n) ≡ false
  pub there : is_some (slice_get lines' n) ≡ true
  pub others : (other : ℕ) → other ≢ n → is_some (slice_get lines' other) ≡ is_some (slice_get lines other)

pub comes-last : (lines lines' : List Queue) (q : Queue) (n : ℕ) → lines' ≡ lines ++ q ∷ [] → n ≡ length lines → ComesLast lines lines' n
comes-last lines lines' q n more size =
    subst (ComesLast lines lines') (sym size) (subst (λ ls. ComesLast lines ls (length lines)) (sym more) (record {
      fresh = past lines;
      there = seam lines;
      others = away lines;
    }))
  where
    past : (ls : List Queue) → is_some (slice_get ls (length ls)) ≡ false
    past [] = refl
    past (x ∷ ls) = past ls

    seam : (ls : List Queue) → is_some (slice_get (ls ++ q ∷ []) (length ls)) ≡ true
    seam [] = refl
    seam (x ∷ ls) = seam ls

    away : (ls : List Queue) (other : ℕ) → other ≢ length ls → is_some (slice_get (ls ++ q ∷ []) other) ≡ is_some (slice_get ls other)
    away [] zero apart = absurd (apart refl)
    away [] (suc other) apart = refl
    away (x ∷ ls) zero apart = refl
    away (x ∷ ls) (suc other) apart = away ls other (λ e. apart (ap suc e))

-- the first ticket that waits
pub owner-is : (ts rest : List Ticket) (t : Ticket) → slice_get ts 0 ≡ Some t → rest ≡ drop 1 ts →
    map (λ (x : Ticket). x.client) ts ≡ t.client ∷ map (λ (x : Ticket). x.client) rest
owner-is [] rest t first gone = absurd (grind arith)
owner-is (x ∷ ts) rest t first gone =
    ap (λ (y : Ticket). y.client ∷ map (λ (x : Ticket). x.client) ts) (is-some x t first) ∙ ap (λ us. t.client ∷ map (λ (x : Ticket). x.client) us) (sym gone)
  where
    or-else : Ticket → Option Ticket → Ticket
    or-else d None = d
    or-else d (Some y) = y

    is-some : (a b : Ticket) → Some a ≡ Some b → a ≡ b
    is-some a b same = ap (λ o. or-else a o) same

pub owner-first : (ts : List Ticket) (t : Ticket) → slice_get ts 0 ≡ Some t → slice_get (map (λ (x : Ticket). x.client) ts) 0 ≡ Some t.client
owner-first [] t first = absurd (grind arith)
owner-first (x ∷ ts) t first = ap (λ cs. slice_get cs 0) (owner-is (x ∷ ts) ts t first refl)

pub owner-none : (ts : List Ticket) → slice_get ts 0 ≡ None → slice_get (map (λ (x : Ticket). x.client) ts) 0 ≡ None
owner-none [] none = refl
owner-none (x ∷ ts) none = absurd (grind arith)
