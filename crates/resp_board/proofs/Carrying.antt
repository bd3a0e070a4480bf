-- The lines of a board, after each call.
use Rattle.std.proofs.Common.{arith, ◌≡◌, ◌≢◌, ℕ, zero, suc, ◌+◌, ◌≤◌, List, [], ◌∷◌, ◌++◌, length, drop, map, Option, None, Some, IfSome, is_some, slice_get, refl, sym, ap, subst, ◌∙◌, inl, inr}
use Rattle.std.specs.List.{AllByRecursion}
use Rattle.std.proofs.lemmas.Bool.{cases_eq}
use Rattle.std.proofs.lemmas.List.{drop-append-le, drop-drop, map-append}
use Rattle.resp_board.specs.declared.queue.Queue.{Queue}
use Rattle.resp_board.specs.declared.ticket.Ticket.{Ticket}
use Rattle.resp_board.specs.Boards.{Entry, Place, answer_at, commands_of, with_line}
use Rattle.resp_board.specs.Boards as board
use Rattle.resp_board.specs.Joins.{Carries, IsEmpty, command_in, place_in}
use Rattle.resp_board.specs.Once.{IsMissing}
use Rattle.resp_board.specs.Queues.{HasQueued, Line, tickets_of, waiting_tickets, with_answered, with_connection, with_queued, with_sent, without_first}
use Rattle.resp_board.specs.Queues as queue
use Rattle.resp_board.specs.Rows.{ChangesLine, tickets_in}
use Rattle.resp_board.specs.Tickets.{place_of}
use Rattle.resp_board.proofs.Finding.{missing-within, place-answer, place-append}

-- the same parts wait, among other commands

pub places-answered : (es : List Entry) (k part : ℕ) (text : List ℕ) (cs : List queue.Command) →
    map (place_in (answer_at es k part text)) cs ≡ map (place_in es) cs
places-answered es k part text [] = refl
places-answered es k part text (c ∷ cs) =
    ap (λ n. (record { entry = n; part = c.ticket.part; client = c.ticket.client; text = c.text }) ∷ map (place_in (answer_at es k part text)) cs)
    (place-answer c.ticket.client c.ticket.number es k part text) ∙
    ap (λ ps. place_in es c ∷ ps) (places-answered es k part text cs)

pub places-appended : (es more : List Entry) (cs : List queue.Command) → AllByRecursion (IsMissing es) (map (place_in es) cs) →
    map (place_in (es ++ more)) cs ≡ map (place_in es) cs
places-appended es more [] all = refl
places-appended es more (c ∷ cs) all =
    ap (λ n. (record { entry = n; part = c.ticket.part; client = c.ticket.client; text = c.text }) ∷ map (place_in (es ++ more)) cs)
    (place-append c.ticket.client c.ticket.number es more
    (missing-within es (place_of c.ticket.client c.ticket.number es) c.ticket.part None all.0)) ∙
    ap (λ ps. place_in es c ∷ ps) (places-appended es more cs all.1)

drop-places : (es : List Entry) (cs : List queue.Command) → map (place_in es) (drop 1 cs) ≡ drop 1 (map (place_in es) cs)
drop-places es [] = refl
drop-places es (c ∷ cs) = refl

-- the parts that wait, behind the first
pub places-behind : (es : List Entry) (replied : ℕ) (cs : List queue.Command) (p : Place) (rest : List Place) →
    map (place_in es) (drop replied cs) ≡ p ∷ rest → map (place_in es) (drop (replied + 1) cs) ≡ rest
places-behind es replied cs p rest e =
    ap (map (place_in es)) (sym (drop-drop 1 replied cs)) ∙ drop-places es (drop replied cs) ∙ ap (drop 1) e

pub commands-waiting : (es : List Entry) (cs : List queue.Command) → commands_of (map (place_in es) cs) ≡ map command_in cs
commands-waiting es [] = refl
commands-waiting es (c ∷ cs) = ap (λ ds. command_in c ∷ ds) (commands-waiting es cs)

-- the first ticket that waits: its part waits first
pub record FirstWaits (ticket : Ticket) (es : List Entry) (places : List Place) : Type 0 where
  pub rest : List Place
  pub text : List ℕ
  pub first : places ≡ (record { entry = place_of ticket.client ticket.number es; part = ticket.part; client = ticket.client; text = text }) ∷ rest

first-ticket : (ticket : Ticket) (es : List Entry) (cs : List queue.Command) → slice_get (tickets_of cs) 0 ≡ Some ticket →
    FirstWaits ticket es (map (place_in es) cs)
first-ticket ticket es [] h = absurd (grind arith)
first-ticket ticket es (c ∷ cs) h = record {
  rest = map (place_in es) cs;
  text = c.text;
  first = ap (λ (t : Ticket). (record { entry = place_of t.client t.number es; part = t.part; client = t.client; text = c.text }) ∷ map (place_in es) cs)
      (is-some c.ticket ticket h);
}
  where
    or-else : Ticket → Option Ticket → Ticket
    or-else d None = d
    or-else d (Some x) = x

    is-some : (a b : Ticket) → Some a ≡ Some b → a ≡ b
    is-some a b same = ap (λ o. or-else a o) same

pub first-waits : (ticket : Ticket) (o : Option Queue) (es : List Entry) (places : List Place) (commands : List board.Command) (sent : List ℕ) →
    Carries o es places commands sent → slice_get (tickets_in o) 0 ≡ Some ticket → FirstWaits ticket es places
first-waits ticket None es places commands sent c h = absurd (grind arith)
first-waits ticket (Some q) es places commands sent c h =
    subst (FirstWaits ticket es) c.places_are
    (first-ticket ticket es (drop c.line.replied c.line.commands) (ap (λ ts. slice_get ts 0) c.queued.waiting ∙ h))

-- the commands of a line, in the words of the board
pub record Words (es : List Entry) (l : Line) (places : List Place) (commands : List board.Command) (sent : List ℕ) : Type 0 where
  pub within : l.replied ≤ length l.commands
  pub sent_is : l.sent ≡ sent
  pub commands_are : map command_in l.commands ≡ commands
  pub places_are : map (place_in es) (drop l.replied l.commands) ≡ places

-- a line changes
pub carries-change : (o o' : Option Queue) (es es' : List Entry) (places places' : List Place) (commands commands' : List board.Command) (sent sent' : List ℕ)
    (change : Line → Line) → is_some o' ≡ is_some o →
    ((l : Line) → IfSome o (λ q. HasQueued q l) → IfSome o' (λ q. HasQueued q (change l))) →
    ((l : Line) → Words es l places commands sent → Words es' (change l) places' commands' sent') →
    (o ≡ None → IsEmpty places commands sent → IsEmpty places' commands' sent') →
    Carries o es places commands sent → Carries o' es' places' commands' sent'
carries-change None None es es' places places' commands commands' sent sent' change same step words empty c = empty refl c
carries-change None (Some q) es es' places places' commands commands' sent sent' change same step words empty c = absurd (grind arith)
carries-change (Some q) None es es' places places' commands commands' sent sent' change same step words empty c = absurd (grind arith)
carries-change (Some q) (Some q') es es' places places' commands commands' sent sent' change same step words empty c =
    let now = words c.line (record { within = c.queued.within; sent_is = c.sent_is; commands_are = c.commands_are; places_are = c.places_are }) in
    record {
      line = change c.line;
      queued = step c.line c.queued;
      sent_is = now.sent_is;
      commands_are = now.commands_are;
      places_are = now.places_are;
    }

-- the words of a line, after each call

pub words-same : (es es' : List Entry) (l : Line) (places : List Place) (commands : List board.Command) (sent : List ℕ) →
    map (place_in es') (drop l.replied l.commands) ≡ map (place_in es) (drop l.replied l.commands) → Words es l places commands sent →
    Words es' l places commands sent
words-same es es' l places commands sent same w = record {
  within = w.within;
  sent_is = w.sent_is;
  commands_are = w.commands_are;
  places_are = same ∙ w.places_are;
}

some-left : (l : Line) (es : List Entry) (p : Place) (rest : List Place) → map (place_in es) (drop l.replied l.commands) ≡ p ∷ rest →
    l.replied + 1 ≤ length l.commands
some-left l es p rest e = more l.replied l.commands e
  where
    more : (n : ℕ) (cs : List queue.Command) → map (place_in es) (drop n cs) ≡ p ∷ rest → n + 1 ≤ length cs
    more zero [] e = absurd (grind arith)
    more (suc n) [] e = absurd (grind arith)
    more zero (c ∷ cs) e = omega arith
    more (suc n) (c ∷ cs) e = let r = more n cs e in omega (arith, r)

pub words-answered : (es : List Entry) (k part : ℕ) (text : List ℕ) (l : Line) (p : Place) (rest : List Place) (commands : List board.Command) (sent : List ℕ) →
    Words es l (p ∷ rest) commands sent → Words (answer_at es k part text) (with_answered l) rest commands sent
words-answered es k part text l p rest commands sent w = record {
  within = some-left l es p rest w.places_are;
  sent_is = w.sent_is;
  commands_are = w.commands_are;
  places_are = places-answered es k part text (drop (l.replied + 1) l.commands) ∙ places-behind es l.replied l.commands p rest w.places_are;
}

pub words-queued : (es more : List Entry) (l : Line) (ticket : Ticket) (text : List ℕ) (places : List Place) (commands : List board.Command) (sent : List ℕ)
    (entry : ℕ) → AllByRecursion (IsMissing es) places → place_of ticket.client ticket.number (es ++ more) ≡ entry → Words es l places commands sent →
    Words (es ++ more) (with_queued ticket text l) (places ++ (record { entry = entry; part = ticket.part; client = ticket.client; text = text }) ∷ [])
    (commands ++ (record { client = ticket.client; text = text }) ∷ []) sent
words-queued es more l ticket text places commands sent entry missing new w =
    let c : queue.Command = record { ticket = ticket; text = text } in
    let longer = length-more l.commands c in
    let within = w.within in
    record {
      within = omega (arith, longer, within);
      sent_is = w.sent_is;
      commands_are = map-append command_in l.commands (c ∷ []) ∙ ap (λ ds. ds ++ command_in c ∷ []) w.commands_are;
      places_are = ap (map (place_in (es ++ more))) (drop-append-le l.replied l.commands (c ∷ []) within) ∙
          map-append (place_in (es ++ more)) (drop l.replied l.commands) (c ∷ []) ∙
          ap (λ ps. ps ++ place_in (es ++ more) c ∷ [])
          (places-appended es more (drop l.replied l.commands) (subst (AllByRecursion (IsMissing es)) (sym w.places_are) missing) ∙ w.places_are) ∙
          ap (λ n. places ++ (record { entry = n; part = ticket.part; client = ticket.client; text = text }) ∷ []) new;
    }
  where
    length-more : (cs : List queue.Command) (c : queue.Command) → length (cs ++ c ∷ []) ≡ length cs + 1
    length-more [] c = refl
    length-more (d ∷ cs) c = let r = length-more cs c in omega (arith, r)

pub words-sent : (es : List Entry) (l : Line) (text : List ℕ) (places : List Place) (commands : List board.Command) (sent : List ℕ) →
    Words es l places commands sent → Words es (with_sent text l) places commands (sent ++ text)
words-sent es l text places commands sent w = record {
  within = w.within;
  sent_is = ap (λ s. s ++ text) w.sent_is;
  commands_are = w.commands_are;
  places_are = w.places_are;
}

pub words-removed : (es : List Entry) (k part : ℕ) (text : List ℕ) (l : Line) (p : Place) (rest : List Place) (commands : List board.Command) (sent : List ℕ) →
    Words es l (p ∷ rest) commands sent → Words (answer_at es k part text) (without_first l) rest (commands_of rest) []
words-removed es k part text l p rest commands sent w =
    let behind = places-behind es l.replied l.commands p rest w.places_are in record {
      within = omega arith;
      sent_is = refl;
      commands_are = sym (commands-waiting es (drop (l.replied + 1) l.commands)) ∙ ap commands_of behind;
      places_are = places-answered es k part text (drop (l.replied + 1) l.commands) ∙ behind;
    }

pub words-connected : (es : List Entry) (l : Line) (places : List Place) (commands : List board.Command) (sent : List ℕ) → Words es l places commands sent →
    Words es (with_connection l) places (commands_of places) []
words-connected es l places commands sent w = record {
  within = omega arith;
  sent_is = refl;
  commands_are = sym (commands-waiting es (drop l.replied l.commands)) ∙ ap commands_of w.places_are;
  places_are = w.places_are;
}

-- all lines, after one of them has changed
pub rows-change : (lines lines' : List Queue) (line : ℕ) (change : Line → Line) (es es' : List Entry) (w w' : ℕ → List Place)
    (cs cs' : ℕ → List board.Command) (s s' : ℕ → List ℕ) → ChangesLine lines lines' line change →
    ((l : Line) → Words es l (w line) (cs line) (s line) → Words es' (change l) (w' line) (cs' line) (s' line)) →
    (slice_get lines line ≡ None → IsEmpty (w line) (cs line) (s line) → IsEmpty (w' line) (cs' line) (s' line)) →
    ((other : ℕ) → other ≢ line → (l : Line) → Words es l (w other) (cs other) (s other) → Words es' l (w' other) (cs' other) (s' other)) →
    ((other : ℕ) → other ≢ line → IsEmpty (w other) (cs other) (s other) → IsEmpty (w' other) (cs' other) (s' other)) →
    ((l : ℕ) → Carries (slice_get lines l) es (w l) (cs l) (s l)) → (l : ℕ) → Carries (slice_get lines' l) es' (w' l) (cs' l) (s' l)
rows-change lines lines' line change es es' w w' cs cs' s s' ch words empty others none carried l = elim (cases_eq l line) [
  | inl same ↦
      subst (λ k. Carries (slice_get lines' k) es' (w' k) (cs' k) (s' k)) (sym same)
      (carries-change (slice_get lines line) (slice_get lines' line) es es' (w line) (w' line) (cs line) (cs' line) (s line) (s' line) change ch.stays ch.itself
      words empty (carried line))
  | inr apart ↦
      subst (λ o. Carries o es' (w' l) (cs' l) (s' l)) (sym (ch.others l apart))
      (carries-change (slice_get lines l) (slice_get lines l) es es' (w l) (w' l) (cs l) (cs' l) (s l) (s' l) (λ x. x) refl (λ x h. h)
      (others l apart) (λ is. none l apart) (carried l))
]
