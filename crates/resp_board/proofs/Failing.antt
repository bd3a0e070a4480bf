-- Lines that have no connection.
use Rattle.std.proofs.Common.{arith, ◌≡◌, ℕ, ◌+◌, List, [], ◌∷◌, ◌++◌, drop, length, map, take, Option, None, Some, Result, Ok, Err, slice_get, refl, sym, ap, subst, ◌∙◌, inl, inr}
use Rattle.std.specs.Result.{OnErr}
use Rattle.std.proofs.Math.Seq.{take-add}
use Rattle.std.proofs.lemmas.Bool.{cases_eq}
use Rattle.std.proofs.lemmas.List.{drop-drop, take-append-drop, append-nil}
use Rattle.resp_board.specs.declared.queue.Queue.{Queue}
use Rattle.resp_board.specs.declared.seat.Seat.{Seat}
use Rattle.resp_board.specs.declared.ticket.Ticket.{Ticket}
use Rattle.resp_board.specs.Boards.{Board, Entry, Fail, Lose, Place, answer_all, answer_at, commands_of, happens, with_line}
use Rattle.resp_board.specs.Boards as board
use Rattle.resp_board.specs.Histories.{History, board_of, with_event}
use Rattle.resp_board.specs.Joins.{Carries, Joins, Stands, place_in}
use Rattle.resp_board.specs.Queues.{tickets_of}
use Rattle.resp_board.specs.Queues as queue
use Rattle.resp_board.specs.Rows.{tickets_in}
use Rattle.resp_board.specs.Runs.{HasFailedSome, HasLostSome, HasRun, KeepsRun, Runs}
use Rattle.resp_board.proofs.Joining.{after-more, after_loss, stands-event}
use Rattle.resp_board.proofs.LineLists.{at-line, off-line}
use Rattle.resp_board.proofs.Running.{Machine, joins-same}

over : {T : Type 0} (line : ℕ) (items more : List T) (lists : ℕ → List T) (l : ℕ) → with_line line items lists l ≡ with_line line items (with_line line more lists) l
over line items more lists l = elim (cases_eq l line) [
  | inl same ↦
      ap (with_line line items lists) same ∙ at-line line items lists ∙ sym (at-line line items (with_line line more lists)) ∙
      sym (ap (with_line line items (with_line line more lists)) same)
  | inr apart ↦ off-line line items lists l apart ∙ sym (off-line line more lists l apart) ∙ sym (off-line line items (with_line line more lists) l apart)
]

all-more : (es : List Entry) (ps qs : List Place) (text : List ℕ) → answer_all es (ps ++ qs) text ≡ answer_all (answer_all es ps text) qs text
all-more es [] qs text = refl
all-more es (p ∷ ps) qs text = all-more (answer_at es p.entry p.part text) ps qs text

-- two losses are one
pub lost-again : (slots : List (Option Seat)) (lines : List Queue) (last : ℕ) (h : History) (line n more : ℕ) (text : List ℕ) →
    Stands slots lines last (with_event (Lose line more text) (with_event (Lose line n text) h)) → Stands slots lines last (with_event (Lose line (n + more) text) h)
lost-again slots lines last h line n more text j =
    let b = board_of h in
    let ws = b.waiting line in
    let c = happens b (Lose line n text) in
    let left : c.waiting line ≡ drop n ws = at-line line (drop n ws) b.waiting in
    let two : Joins slots lines last (after_loss c line more text (c.waiting line)) h.given (with_line line [] (with_line line [] h.sent)) =
    subst (λ x. Joins slots lines last (happens x (Lose line more text)) h.given (with_line line [] (with_line line [] h.sent)))
    (after-more board.nothing_asked h.events (Lose line n text))
    (subst (λ x. Joins slots lines last x h.given (with_line line [] (with_line line [] h.sent)))
    (after-more board.nothing_asked (with_event (Lose line n text) h).events (Lose line more text)) j) in
    let one = subst (λ ps. Joins slots lines last (after_loss c line more text ps) h.given (with_line line [] (with_line line [] h.sent))) left two in
    let behind : drop (n + more) ws ≡ drop more (drop n ws) = sym (drop-drop more n ws) in
    stands-event slots lines last h (Lose line (n + more) text)
    (joins-same slots lines last (after_loss c line more text (drop n ws)) (happens b (Lose line (n + more) text)) h.given (with_line line [] (with_line line [] h.sent))
    (with_line line [] h.sent)
    (ap (λ ps. answer_all b.entries ps text) (take-add n more ws) ∙ all-more b.entries (take n ws) (take more (drop n ws)) text)
    (λ l. ap (λ ps. with_line line ps b.waiting l) behind ∙ over line (drop more (drop n ws)) (drop n ws) b.waiting l)
    (λ l. ap (λ ps. with_line line (commands_of ps) b.commands l) behind ∙
    over line (commands_of (drop more (drop n ws))) (commands_of (drop n ws)) b.commands l)
    (λ l. over line [] [] h.sent l) one)

no-places : (es : List Entry) (cs : List queue.Command) → tickets_of cs ≡ [] → map (place_in es) cs ≡ []
no-places es [] e = refl
no-places es (c ∷ cs) e = absurd (grind arith)

none-waits : (o : Option Queue) (es : List Entry) (places : List Place) (commands : List board.Command) (sent : List ℕ) → Carries o es places commands sent →
    tickets_in o ≡ [] → places ≡ []
none-waits None es places commands sent c none = c.no_place
none-waits (Some q) es places commands sent c none =
    sym c.places_are ∙ no-places es (drop c.line.replied c.line.commands) (c.queued.waiting ∙ none)

-- a line on which nothing waits any more has failed
pub failed : (slots : List (Option Seat)) (lines : List Queue) (last : ℕ) (h : History) (line n : ℕ) (text : List ℕ) → tickets_in (slice_get lines line) ≡ [] →
    Stands slots lines last (with_event (Lose line n text) h) → Stands slots lines last (with_event (Fail line text) h)
failed slots lines last h line n text none j =
    let b = board_of h in
    let ws = b.waiting line in
    let c = happens b (Lose line n text) in
    let one : Joins slots lines last c h.given (with_line line [] h.sent) =
    subst (λ x. Joins slots lines last x h.given (with_line line [] h.sent)) (after-more board.nothing_asked h.events (Lose line n text)) j in
    let gone : drop n ws ≡ [] =
    sym (at-line line (drop n ws) b.waiting) ∙
    none-waits (slice_get lines line) c.entries (c.waiting line) (c.commands line) (with_line line [] h.sent line) (one.carried line) none in
    let all : take n ws ≡ ws = sym (append-nil (take n ws)) ∙ ap (λ ps. take n ws ++ ps) (sym gone) ∙ take-append-drop n ws in
    stands-event slots lines last h (Fail line text)
    (joins-same slots lines last c (happens b (Fail line text)) h.given (with_line line [] h.sent) (with_line line [] h.sent)
    (ap (λ ps. answer_all b.entries ps text) (sym all)) (λ l. ap (λ ps. with_line line ps b.waiting l) (sym gone))
    (λ l. ap (λ ps. with_line line (commands_of ps) b.commands l) (sym gone)) (λ l. refl) one)

pub failed-none : (line : ℕ) (text : List ℕ) (m : Machine) → HasFailedSome line text m m
failed-none line text m = record {
  count = 0;
  run = λ lost h j. let same : lost ≡ lost + 0 = omega arith in subst (λ n. HasRun m (with_event (Lose line n text) h)) same j;
}

-- one more command has failed
pub failed-more : (line : ℕ) (text : List ℕ) (old mid new : Machine) → HasFailedSome line text old mid → Runs (Lose line 1 text) mid new →
    HasFailedSome line text old new
failed-more line text old mid new some one = record {
  count = some.count + 1;
  run = λ lost h j.
      let same : lost + some.count + 1 ≡ lost + (some.count + 1) = omega arith in
      subst (λ n. HasRun new (with_event (Lose line n text) h)) same
      (lost-again new.clients.slots new.lines.items new.last h line (lost + some.count) 1 text
      (one (with_event (Lose line (lost + some.count) text) h) (some.run lost h j)));
}

pub failed-same : (line : ℕ) (text : List ℕ) (old mid new : Machine) → HasFailedSome line text old mid → KeepsRun mid new → HasFailedSome line text old new
failed-same line text old mid new some kept = record {
  count = some.count;
  run = λ lost h j. kept (with_event (Lose line (lost + some.count) text) h) (some.run lost h j);
}

pub lost-some : (line : ℕ) (text : List ℕ) (old mid new : Machine) (n : ℕ) → Runs (Lose line n text) old mid → HasFailedSome line text mid new →
    HasLostSome line text old new
lost-some line text old mid new n run some = record { count = n + some.count; run = λ h j. some.run n h (run h j) }

-- no ticket waits if none waits first
pub none-first : (ts : List Ticket) (o : Option Ticket) → o ≡ slice_get ts 0 → ((t : Ticket) → o ≡ Some t → ⊥) → length ts ≡ 0
none-first [] o e none = refl
none-first (t ∷ ts) o e none = absurd (none t e)

pub on-err : {A B : Type 0} (r : Result A B) (P : Type 0) → P → OnErr r P
on-err (Ok _) P p = tt
on-err (Err _) P p = p
