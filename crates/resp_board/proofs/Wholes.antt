-- The commands for a line are whole.
use Rattle.std.proofs.Common.{ℕ, zero, suc, ◌+◌, ◌==◌, Bool, true, false, List, [], ◌∷◌, ◌++◌, drop, length, map, refl, cond}
use Rattle.std.specs.List.{AllByRecursion, concat}
use Rattle.resp_value.specs.Rules.{Rules}
use Rattle.resp_value.specs.Data.{Datum}
use Rattle.resp_value.specs.Spellings.{AreSpellings}
use Rattle.resp_board.specs.declared.ticket.ClientId.{ClientId}
use Rattle.resp_board.specs.Boards.{Ask, Board, Command, Event, Fail, Lose, Own, Part, Place, Redirect, Release, ReleaseBehind, Reply, Split, after_events, after_pairs, after_redirect, after_reply, after_split, commands_of, first_part, happens, nothing_asked, with_line, with_parts, with_texts}
use Rattle.resp_board.specs.Histories.{texts_on}
use Rattle.resp_board.specs.Wholes.{IsSpelled, SendsSpellings}

abbrev AreSpelled : Rules → List Command → Type 0
AreSpelled rules commands = AllByRecursion (λ (c : Command). IsSpelled rules c.text) commands

abbrev PlacesSpelled : Rules → List Place → Type 0
PlacesSpelled rules places = AllByRecursion (λ (p : Place). IsSpelled rules p.text) places

record BoardSpells (rules : Rules) (b : Board) : Type 0 where
  commands : (line : ℕ) → AreSpelled rules (b.commands line)
  waiting : (line : ℕ) → PlacesSpelled rules (b.waiting line)

all-last : {T : Type 0} (P : T → Type 0) (xs : List T) (x : T) → P x → AllByRecursion P xs → AllByRecursion P (xs ++ x ∷ [])
all-last P [] x p all = (p, tt)
all-last P (y ∷ xs) x p all = (all.0, all-last P xs x p all.1)

on-line : {T : Type 0} (P : List T → Type 0) (here : Bool) (x y : List T) → P x → P y → P (cond here x y)
on-line P true x y p q = p
on-line P false x y p q = q

commands-parts : (rules : Rules) (w : ClientId) (parts : List Part) (commands : ℕ → List Command) → AllByRecursion (λ (p : Part). IsSpelled rules p.text) parts →
    ((line : ℕ) → AreSpelled rules (commands line)) → (line : ℕ) → AreSpelled rules (with_texts w parts commands line)
commands-parts rules w [] commands spelled all line = all line
commands-parts rules w (p ∷ parts) commands spelled all line =
    commands-parts rules w parts _ spelled.1
    (λ l. on-line (AreSpelled rules) (l == p.line) (commands p.line ++ (record { client = w; text = p.text }) ∷ []) (commands l)
    (all-last (λ (c : Command). IsSpelled rules c.text) (commands p.line) (record { client = w; text = p.text }) spelled.0 (all p.line)) (all l)) line

waiting-parts : (rules : Rules) (w : ClientId) (entry part : ℕ) (parts : List Part) (waiting : ℕ → List Place) →
    AllByRecursion (λ (p : Part). IsSpelled rules p.text) parts → ((line : ℕ) → PlacesSpelled rules (waiting line)) →
    (line : ℕ) → PlacesSpelled rules (with_parts w entry part parts waiting line)
waiting-parts rules w entry part [] waiting spelled all line = all line
waiting-parts rules w entry part (p ∷ parts) waiting spelled all line =
    let place : Place = record { entry = entry; part = part; client = w; text = p.text } in
    waiting-parts rules w entry (part + 1) parts _ spelled.1
    (λ l. on-line (PlacesSpelled rules) (l == p.line) (waiting p.line ++ place ∷ []) (waiting l)
    (all-last (λ (q : Place). IsSpelled rules q.text) (waiting p.line) place spelled.0 (all p.line)) (all l)) line

replied-spells : (rules : Rules) (b : Board) (line : ℕ) (text : List ℕ) (places : List Place) → PlacesSpelled rules places → BoardSpells rules b →
    BoardSpells rules (after_reply b line text places)
replied-spells rules b line text [] spelled h = h
replied-spells rules b line text (p ∷ places) spelled h = record {
  commands = h.commands;
  waiting = λ l. on-line (PlacesSpelled rules) (l == line) places (b.waiting l) spelled.1 (h.waiting l);
}

redirected-spells : (rules : Rules) (b : Board) (from to : ℕ) (places : List Place) → PlacesSpelled rules places → BoardSpells rules b →
    BoardSpells rules (after_redirect b from to places)
redirected-spells rules b from to [] spelled h = h
redirected-spells rules b from to (p ∷ places) spelled h =
    let left : (l : ℕ) → PlacesSpelled rules (with_line from places b.waiting l) =
    λ l. on-line (PlacesSpelled rules) (l == from) places (b.waiting l) spelled.1 (h.waiting l) in
    record {
      commands = λ l. on-line (AreSpelled rules) (l == to) (b.commands to ++ (record { client = p.client; text = p.text }) ∷ []) (b.commands l)
          (all-last (λ (c : Command). IsSpelled rules c.text) (b.commands to) (record { client = p.client; text = p.text }) spelled.0 (h.commands to)) (h.commands l);
      waiting = λ l. on-line (PlacesSpelled rules) (l == to) (with_line from places b.waiting to ++ p ∷ []) (with_line from places b.waiting l)
          (all-last (λ (q : Place). IsSpelled rules q.text) (with_line from places b.waiting to) p spelled.0 (left to)) (left l);
    }

rest-spelled : (rules : Rules) (count : ℕ) (places : List Place) → PlacesSpelled rules places → PlacesSpelled rules (drop count places)
rest-spelled rules zero places spelled = spelled
rest-spelled rules (suc count) [] spelled = tt
rest-spelled rules (suc count) (p ∷ places) spelled = rest-spelled rules count places spelled.1

commands-spelled : (rules : Rules) (places : List Place) → PlacesSpelled rules places → AreSpelled rules (commands_of places)
commands-spelled rules [] spelled = tt
commands-spelled rules (p ∷ places) spelled = (spelled.0, commands-spelled rules places spelled.1)

all-both : {T : Type 0} (P : T → Type 0) (xs ys : List T) → AllByRecursion P xs → AllByRecursion P ys → AllByRecursion P (xs ++ ys)
all-both P [] ys all more = more
all-both P (x ∷ xs) ys all more = (all.0, all-both P xs ys all.1 more)

split-spells : (rules : Rules) (b : Board) (w : ClientId) (parts : List Part) (merge : List (List ℕ) → List ℕ) →
    AllByRecursion (λ (p : Part). IsSpelled rules p.text) parts → BoardSpells rules b → BoardSpells rules (after_split b w parts merge)
split-spells rules b w parts merge sends h = record {
  commands = commands-parts rules w parts b.commands sends h.commands;
  waiting = waiting-parts rules w _ 0 parts b.waiting sends h.waiting;
}

paired-spells : (rules : Rules) (count : ℕ) (b : Board) (w : ClientId) (text : List ℕ) (from to : ℕ) → IsSpelled rules text → BoardSpells rules b →
    BoardSpells rules (after_pairs count b w text from to)
paired-spells rules zero b w text from to spelled h = h
paired-spells rules (suc count) b w text from to spelled h =
    let asked = after_split b w ((record { line = to; text = text }) ∷ []) first_part in
    let a = split-spells rules b w ((record { line = to; text = text }) ∷ []) first_part (spelled, tt) h in
    paired-spells rules count (after_redirect asked from to (asked.waiting from)) w text from to spelled
    (redirected-spells rules asked from to (asked.waiting from) (a.waiting from) a)

spells-event : (rules : Rules) (b : Board) (e : Event) → SendsSpellings rules e → BoardSpells rules b → BoardSpells rules (happens b e)
spells-event rules b (Ask w to text) sends h = split-spells rules b w ((record { line = to; text = text }) ∷ []) first_part (sends, tt) h
spells-event rules b (Split w parts merge) sends h = split-spells rules b w parts merge sends h
spells-event rules b (Own w text) sends h = record { commands = h.commands; waiting = h.waiting }
spells-event rules b (Reply l text) sends h = replied-spells rules b l text (b.waiting l) (h.waiting l) h
spells-event rules b (Redirect from to) sends h = redirected-spells rules b from to (b.waiting from) (h.waiting from) h
spells-event rules b (Release from to) sends h =
    let moved = commands-spelled rules (b.waiting from) (h.waiting from) in
    record {
      commands = λ line.
          on-line (AreSpelled rules) (line == from) [] (with_line to (b.commands to ++ commands_of (b.waiting from)) b.commands line) tt
          (on-line (AreSpelled rules) (line == to) (b.commands to ++ commands_of (b.waiting from)) (b.commands line)
          (all-both (λ (c : Command). IsSpelled rules c.text) (b.commands to) (commands_of (b.waiting from)) (h.commands to) moved) (h.commands line));
      waiting = λ line.
          on-line (PlacesSpelled rules) (line == from) [] (with_line to (b.waiting to ++ b.waiting from) b.waiting line) tt
          (on-line (PlacesSpelled rules) (line == to) (b.waiting to ++ b.waiting from) (b.waiting line)
          (all-both (λ (p : Place). IsSpelled rules p.text) (b.waiting to) (b.waiting from) (h.waiting to) (h.waiting from)) (h.waiting line));
    }
spells-event rules b (ReleaseBehind w text from to) sends h = paired-spells rules (length (b.waiting from)) b w text from to sends h
spells-event rules b (Lose l count text) sends h =
    let left = rest-spelled rules count (b.waiting l) (h.waiting l) in
    record {
      commands = λ line. on-line (AreSpelled rules) (line == l) (commands_of (drop count (b.waiting l))) (b.commands line)
          (commands-spelled rules (drop count (b.waiting l)) left) (h.commands line);
      waiting = λ line. on-line (PlacesSpelled rules) (line == l) (drop count (b.waiting l)) (b.waiting line) left (h.waiting line);
    }
spells-event rules b (Fail l text) sends h = record {
  commands = λ line. on-line (AreSpelled rules) (line == l) [] (b.commands line) tt (h.commands line);
  waiting = λ line. on-line (PlacesSpelled rules) (line == l) [] (b.waiting line) tt (h.waiting line);
}

spells-run : (rules : Rules) (b : Board) (events : List Event) → AllByRecursion (SendsSpellings rules) events → BoardSpells rules b →
    BoardSpells rules (after_events b events)
spells-run rules b [] sends h = h
spells-run rules b (e ∷ events) sends h = spells-run rules (happens b e) events sends.1 (spells-event rules b e sends.0 h)

abbrev texts_in : List Command → List (List ℕ)
texts_in commands = map (λ (c : Command). c.text) commands

-- commands that are spelled, one after another
pub spelled-texts : (rules : Rules) (commands : List Command) → AreSpelled rules commands →
    (xs : List Datum) × AreSpellings rules xs (concat (texts_in commands))
spelled-texts rules [] all = ([], refl)
spelled-texts rules (c ∷ commands) all =
    let rest = spelled-texts rules commands all.1 in
    (all.0.0 ∷ rest.0, (c.text, concat (texts_in commands), all.0.1, rest.1, refl))

pub whole_commands : (rules : Rules) (line : ℕ) (events : List Event) → AllByRecursion (SendsSpellings rules) events →
    (xs : List Datum) × AreSpellings rules xs (concat (texts_on line (after_events nothing_asked events)))
whole_commands rules line events sends =
    spelled-texts rules ((after_events nothing_asked events).commands line)
    ((spells-run rules nothing_asked events sends (record { commands = λ l. tt; waiting = λ l. tt })).commands line)
