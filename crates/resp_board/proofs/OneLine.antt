-- A client that uses one line sees one connection.
use Rattle.std.proofs.Common.{◌≡◌, ◌≢◌, ℕ, zero, suc, ◌+◌, ◌==◌, Bool, true, false, List, [], ◌∷◌, ◌++◌, drop, length, map, take, None, Some, refl, sym, ap, subst, ◌∙◌, cond, inl, inr}
use Rattle.std.specs.List.{AllByRecursion, concat}
use Rattle.std.proofs.lemmas.Bool.{cases_eq, eq-eqb, ne_eqb}
use Rattle.resp_board.specs.declared.ticket.ClientId.{ClientId}
use Rattle.resp_board.specs.Answers.{front_answers}
use Rattle.resp_board.specs.Boards.{Ask, Board, Command, Entry, Event, Fail, Lose, Own, Part, Place, Redirect, Release, ReleaseBehind, Reply, Split, after_events, after_pairs, after_redirect, after_reply, after_split, answer_all, answer_at, commands_of, first_part, happens, is_same, last_on, nothing_asked, with_line, with_parts}
use Rattle.resp_board.specs.Connections.{Asked, UsesOneLine, after_passing, due_to, passes, with_all_answered, with_next_answer, with_next_answers}
use Rattle.resp_board.specs.Histories.{due_on}
use Rattle.resp_board.specs.Tickets.{answers_for}
use Rattle.resp_board.proofs.Cells.{AreOthers, AreWhole, Aside, AsideIn, Cell, IsAside, Mine, all-aside, all-asked, all-closed, all-others, alls-aside, all_cells, answer-aside, answer-each, answer-some, answers-aside, answers-cells, aside-asked, aside-others, asked_of, entries_of, entry_in, entry_places, length-entries, more-asked, more-entries, more-others, new-aside, next-aside, next-asked, next-others, next_cell, next_cells, nexts-aside, nexts-asked, nexts-others, open-aside, open-ask, open-own, open_of, reply-at, still-aside, unchanged}
use Rattle.resp_board.proofs.LineLists.{at-line, off-line}

-- a board, and the commands of one line as a client sees them that uses no other
pub record IsOneLine (who : ClientId) (line : ℕ) (b : Board) (asked : List Asked) : Type 0 where
  pub cells : List Cell
  pub entries : b.entries ≡ entries_of cells
  pub asked_are : asked_of cells ≡ asked
  pub others : AreOthers who cells
  pub waiting : entry_places (b.waiting line) ≡ open_of cells
  pub whole : AreWhole (b.waiting line)
  pub aside : (other : ℕ) → other ≢ line → AllByRecursion (AsideIn cells) (b.waiting other)

all-last : (P : Place → Type 0) (xs : List Place) (x : Place) → P x → AllByRecursion P xs → AllByRecursion P (xs ++ x ∷ [])
all-last P [] x p all = (p, tt)
all-last P (y ∷ xs) x p all = (all.0, all-last P xs x p all.1)

all-both : (P : Place → Type 0) (xs ys : List Place) → AllByRecursion P xs → AllByRecursion P ys → AllByRecursion P (xs ++ ys)
all-both P [] ys all more = more
all-both P (x ∷ xs) ys all more = (all.0, all-both P xs ys all.1 more)

all-drop : (P : Place → Type 0) (count : ℕ) (xs : List Place) → AllByRecursion P xs → AllByRecursion P (drop count xs)
all-drop P zero xs all = all
all-drop P (suc count) [] all = tt
all-drop P (suc count) (x ∷ xs) all = all-drop P count xs all.1

all-take : (P : Place → Type 0) (count : ℕ) (xs : List Place) → AllByRecursion P xs → AllByRecursion P (take count xs)
all-take P zero xs all = tt
all-take P (suc count) [] all = tt
all-take P (suc count) (x ∷ xs) all = (all.0, all-take P count xs all.1)

either-line : (P : List Place → Type 0) (here : Bool) (x y : List Place) → P x → P y → P (cond here x y)
either-line P true x y p q = p
either-line P false x y p q = q

places-append : (places : List Place) (p : Place) → entry_places (places ++ p ∷ []) ≡ entry_places places ++ p.entry ∷ []
places-append [] p = refl
places-append (q ∷ places) p = ap (λ ps. q.entry ∷ ps) (places-append places p)

-- a command for the line
asks : (who : ClientId) (line : ℕ) (b : Board) (asked : List Asked) (w : ClientId) (text : List ℕ) → IsOneLine who line b asked →
    IsOneLine who line (happens b (Ask w line text)) (asked ++ (record { client = w; answer = None }) ∷ [])
asks who line b asked w text z =
    let place : Place = record { entry = length b.entries; part = 0; client = w; text = text } in
    let a : Asked = record { client = w; answer = None } in
    let queued : (happens b (Ask w line text)).waiting line ≡ b.waiting line ++ place ∷ [] = at-line line (b.waiting line ++ place ∷ []) b.waiting in
    record {
      cells = z.cells ++ Mine a ∷ [];
      entries = ap (λ es. es ++ entry_in (Mine a) ∷ []) z.entries ∙ more-entries z.cells (Mine a);
      asked_are = more-asked z.cells a ∙ ap (λ more. more ++ a ∷ []) z.asked_are;
      others = more-others who z.cells a z.others;
      waiting = ap entry_places queued ∙ places-append (b.waiting line) place ∙ ap (λ ps. ps ++ length b.entries ∷ []) z.waiting ∙
          ap (λ n. open_of z.cells ++ n ∷ []) (ap length z.entries ∙ length-entries z.cells) ∙ sym (open-ask z.cells w);
      whole = subst AreWhole (sym queued) (all-last (λ (p : Place). p.part ≡ 0) (b.waiting line) place refl z.whole);
      aside = λ other apart. subst (AllByRecursion (AsideIn (z.cells ++ Mine a ∷ []))) (sym (off-line line (b.waiting line ++ place ∷ []) b.waiting other apart))
          (all-aside z.cells (z.cells ++ Mine a ∷ []) (still-aside z.cells (Mine a)) (b.waiting other) (z.aside other apart));
    }

-- an answer of the proxy's own
owns : (who : ClientId) (line : ℕ) (b : Board) (asked : List Asked) (w : ClientId) (text : List ℕ) → IsOneLine who line b asked →
    IsOneLine who line (happens b (Own w text)) (asked ++ (record { client = w; answer = Some text }) ∷ [])
owns who line b asked w text z =
    let a : Asked = record { client = w; answer = Some text } in
    record {
      cells = z.cells ++ Mine a ∷ [];
      entries = ap (λ es. es ++ entry_in (Mine a) ∷ []) z.entries ∙ more-entries z.cells (Mine a);
      asked_are = more-asked z.cells a ∙ ap (λ more. more ++ a ∷ []) z.asked_are;
      others = more-others who z.cells a z.others;
      waiting = z.waiting ∙ sym (open-own z.cells w text);
      whole = z.whole;
      aside = λ other apart. all-aside z.cells (z.cells ++ Mine a ∷ []) (still-aside z.cells (Mine a)) (b.waiting other) (z.aside other apart);
    }

-- another client's answer of the proxy's own
pub owns-aside : (who : ClientId) (line : ℕ) (b : Board) (asked : List Asked) (w : ClientId) (text : List ℕ) → is_same who w ≡ false →
    IsOneLine who line b asked → IsOneLine who line (happens b (Own w text)) asked
owns-aside who line b asked w text off z =
    let e : Entry = record { client = w; parts = Some text ∷ []; merge = first_part } in
    record {
      cells = z.cells ++ Aside e ∷ [];
      entries = ap (λ es. es ++ e ∷ []) z.entries ∙ more-entries z.cells (Aside e);
      asked_are = aside-asked z.cells e ∙ z.asked_are;
      others = aside-others who z.cells e off z.others;
      waiting = z.waiting ∙ sym (open-aside z.cells e);
      whole = z.whole;
      aside = λ other apart. all-aside z.cells (z.cells ++ Aside e ∷ []) (still-aside z.cells (Aside e)) (b.waiting other) (z.aside other apart);
    }

-- parts for other lines

same-line : (line : ℕ) (w : ClientId) (entry part : ℕ) (parts : List Part) (waiting : ℕ → List Place) → AllByRecursion (λ (p : Part). p.line ≢ line) parts →
    with_parts w entry part parts waiting line ≡ waiting line
same-line line w entry part [] waiting away = refl
same-line line w entry part (p ∷ parts) waiting away =
    let place : Place = record { entry = entry; part = part; client = w; text = p.text } in
    same-line line w entry (part + 1) parts (last_on p.line place waiting) away.1 ∙
    off-line p.line (waiting p.line ++ place ∷ []) waiting line (λ same. away.0 (sym same))

parts-aside : (cells : List Cell) (line : ℕ) (w : ClientId) (entry part : ℕ) (parts : List Part) (waiting : ℕ → List Place) → IsAside cells entry →
    AllByRecursion (λ (p : Part). p.line ≢ line) parts → ((other : ℕ) → other ≢ line → AllByRecursion (AsideIn cells) (waiting other)) →
    (other : ℕ) → other ≢ line → AllByRecursion (AsideIn cells) (with_parts w entry part parts waiting other)
parts-aside cells line w entry part [] waiting at away all other apart = all other apart
parts-aside cells line w entry part (p ∷ parts) waiting at away all other apart =
    let place : Place = record { entry = entry; part = part; client = w; text = p.text } in
    parts-aside cells line w entry (part + 1) parts (last_on p.line place waiting) at away.1
    (λ o off. either-line (AllByRecursion (AsideIn cells)) (o == p.line) (waiting p.line ++ place ∷ []) (waiting o)
    (all-last (AsideIn cells) (waiting p.line) place at (all p.line away.0)) (all o off)) other apart

splits : (who : ClientId) (line : ℕ) (b : Board) (asked : List Asked) (w : ClientId) (parts : List Part) (merge : List (List ℕ) → List ℕ) →
    is_same who w ≡ false → AllByRecursion (λ (p : Part). p.line ≢ line) parts → IsOneLine who line b asked →
    IsOneLine who line (after_split b w parts merge) asked
splits who line b asked w parts merge off away z =
    let e : Entry = record { client = w; parts = map (λ (p : Part). None) parts; merge = merge } in
    let cells = z.cells ++ Aside e ∷ [] in
    let same = same-line line w (length b.entries) 0 parts b.waiting away in
    let new : IsAside cells (length b.entries) =
    subst (IsAside cells) (sym (ap length z.entries ∙ length-entries z.cells)) (new-aside z.cells e) in
    record {
      cells = cells;
      entries = ap (λ es. es ++ e ∷ []) z.entries ∙ more-entries z.cells (Aside e);
      asked_are = aside-asked z.cells e ∙ z.asked_are;
      others = aside-others who z.cells e off z.others;
      waiting = ap entry_places same ∙ z.waiting ∙ sym (open-aside z.cells e);
      whole = subst AreWhole (sym same) z.whole;
      aside = parts-aside cells line w (length b.entries) 0 parts b.waiting new away
          (λ o apart. all-aside z.cells cells (still-aside z.cells (Aside e)) (b.waiting o) (z.aside o apart));
    }

-- parts that move between other lines

redirects : (who : ClientId) (line : ℕ) (b : Board) (asked : List Asked) (from to : ℕ) (places : List Place) → from ≢ line → to ≢ line →
    b.waiting from ≡ places → IsOneLine who line b asked → IsOneLine who line (after_redirect b from to places) asked
redirects who line b asked from to [] off away is z = z
redirects who line b asked from to (p ∷ places) off away is z =
    let here : AllByRecursion (AsideIn z.cells) (p ∷ places) = subst (AllByRecursion (AsideIn z.cells)) is (z.aside from off) in
    let left : (o : ℕ) → o ≢ line → AllByRecursion (AsideIn z.cells) (with_line from places b.waiting o) =
    λ o apart. either-line (AllByRecursion (AsideIn z.cells)) (o == from) places (b.waiting o) here.1 (z.aside o apart) in
    let same : (after_redirect b from to (p ∷ places)).waiting line ≡ b.waiting line =
    off-line to (with_line from places b.waiting to ++ p ∷ []) (with_line from places b.waiting) line (λ s. away (sym s)) ∙
    off-line from places b.waiting line (λ s. off (sym s)) in
    record {
      cells = z.cells;
      entries = z.entries;
      asked_are = z.asked_are;
      others = z.others;
      waiting = ap entry_places same ∙ z.waiting;
      whole = subst AreWhole (sym same) z.whole;
      aside = λ o apart. either-line (AllByRecursion (AsideIn z.cells)) (o == to) (with_line from places b.waiting to ++ p ∷ []) (with_line from places b.waiting o)
          (all-last (AsideIn z.cells) (with_line from places b.waiting to) p here.0 (left to away)) (left o apart);
    }

releases : (who : ClientId) (line : ℕ) (b : Board) (asked : List Asked) (from to : ℕ) → from ≢ line → to ≢ line → IsOneLine who line b asked →
    IsOneLine who line (happens b (Release from to)) asked
releases who line b asked from to off away z =
    let all = b.waiting to ++ b.waiting from in
    let same : (happens b (Release from to)).waiting line ≡ b.waiting line =
    off-line from [] (with_line to all b.waiting) line (λ s. off (sym s)) ∙ off-line to all b.waiting line (λ s. away (sym s)) in
    record {
      cells = z.cells;
      entries = z.entries;
      asked_are = z.asked_are;
      others = z.others;
      waiting = ap entry_places same ∙ z.waiting;
      whole = subst AreWhole (sym same) z.whole;
      aside = λ o apart. either-line (AllByRecursion (AsideIn z.cells)) (o == from) [] (with_line to all b.waiting o) tt
          (either-line (AllByRecursion (AsideIn z.cells)) (o == to) all (b.waiting o)
          (all-both (AsideIn z.cells) (b.waiting to) (b.waiting from) (z.aside to away) (z.aside from off)) (z.aside o apart));
    }

pairs : (count : ℕ) (who : ClientId) (line : ℕ) (b : Board) (asked : List Asked) (w : ClientId) (text : List ℕ) (from to : ℕ) → is_same who w ≡ false →
    from ≢ line → to ≢ line → IsOneLine who line b asked → IsOneLine who line (after_pairs count b w text from to) asked
pairs zero who line b asked w text from to other off away z = z
pairs (suc count) who line b asked w text from to other off away z =
    let parts : List Part = (record { line = to; text = text }) ∷ [] in
    let c = after_split b w parts first_part in
    pairs count who line (after_redirect c from to (c.waiting from)) asked w text from to other off away
    (redirects who line c asked from to (c.waiting from) off away refl (splits who line b asked w parts first_part other (away, tt) z))

-- replies

replies : (who : ClientId) (line : ℕ) (b : Board) (asked : List Asked) (text : List ℕ) (places : List Place) → b.waiting line ≡ places →
    IsOneLine who line b asked → IsOneLine who line (after_reply b line text places) (with_next_answer text asked)
replies who line b asked text [] is z =
    let none : open_of z.cells ≡ [] = sym z.waiting ∙ ap entry_places is in
    let same = unchanged text z.cells none in
    record {
      cells = z.cells;
      entries = z.entries;
      asked_are = ap asked_of (sym same) ∙ next-asked text z.cells ∙ ap (with_next_answer text) z.asked_are;
      others = z.others;
      waiting = z.waiting;
      whole = z.whole;
      aside = z.aside;
    }
replies who line b asked text (p ∷ places) is z =
    let whole : AreWhole (p ∷ places) = subst AreWhole is z.whole in
    let r = reply-at text z.cells p.entry (entry_places places) (sym z.waiting ∙ ap entry_places is) in
    let left = at-line line places b.waiting in
    record {
      cells = next_cell text z.cells;
      entries = ap (λ es. answer_at es p.entry p.part text) z.entries ∙ ap (λ n. answer_at (entries_of z.cells) p.entry n text) whole.0 ∙ r.0;
      asked_are = next-asked text z.cells ∙ ap (with_next_answer text) z.asked_are;
      others = next-others who text z.cells z.others;
      waiting = ap entry_places left ∙ sym r.1;
      whole = subst AreWhole (sym left) whole.1;
      aside = λ o apart. subst (AllByRecursion (AsideIn (next_cell text z.cells))) (sym (off-line line places b.waiting o apart))
          (all-aside z.cells (next_cell text z.cells) (next-aside text z.cells) (b.waiting o) (z.aside o apart));
    }

replies-aside : (who : ClientId) (line : ℕ) (b : Board) (asked : List Asked) (from : ℕ) (text : List ℕ) (places : List Place) → from ≢ line →
    b.waiting from ≡ places → IsOneLine who line b asked → IsOneLine who line (after_reply b from text places) asked
replies-aside who line b asked from text [] off is z = z
replies-aside who line b asked from text (p ∷ places) off is z =
    let here : AllByRecursion (AsideIn z.cells) (p ∷ places) = subst (AllByRecursion (AsideIn z.cells)) is (z.aside from off) in
    let k = answer-aside who z.cells p.entry p.part text z.others here.0 in
    let same = off-line from places b.waiting line (λ s. off (sym s)) in
    record {
      cells = k.after;
      entries = ap (λ es. answer_at es p.entry p.part text) z.entries ∙ k.entries;
      asked_are = k.asked ∙ z.asked_are;
      others = k.others;
      waiting = ap entry_places same ∙ z.waiting ∙ sym k.still_open;
      whole = subst AreWhole (sym same) z.whole;
      aside = λ o apart. either-line (AllByRecursion (AsideIn k.after)) (o == from) places (b.waiting o)
          (all-aside z.cells k.after k.aside places here.1) (all-aside z.cells k.after k.aside (b.waiting o) (z.aside o apart));
    }

-- lost connections

loses : (who : ClientId) (line : ℕ) (b : Board) (asked : List Asked) (count : ℕ) (text : List ℕ) → IsOneLine who line b asked →
    IsOneLine who line (happens b (Lose line count text)) (with_next_answers count text asked)
loses who line b asked count text z =
    let left = answer-some text count (b.waiting line) z.cells z.waiting z.whole in
    let here = at-line line (drop count (b.waiting line)) b.waiting in
    record {
      cells = next_cells count text z.cells;
      entries = ap (λ es. answer_all es (take count (b.waiting line)) text) z.entries ∙ left.entries;
      asked_are = nexts-asked count text z.cells ∙ ap (with_next_answers count text) z.asked_are;
      others = nexts-others who count text z.cells z.others;
      waiting = ap entry_places here ∙ left.waiting;
      whole = subst AreWhole (sym here) left.whole;
      aside = λ o apart. subst (AllByRecursion (AsideIn (next_cells count text z.cells))) (sym (off-line line (drop count (b.waiting line)) b.waiting o apart))
          (all-aside z.cells (next_cells count text z.cells) (nexts-aside count text z.cells) (b.waiting o) (z.aside o apart));
    }

fails : (who : ClientId) (line : ℕ) (b : Board) (asked : List Asked) (text : List ℕ) → IsOneLine who line b asked →
    IsOneLine who line (happens b (Fail line text)) (with_all_answered text asked)
fails who line b asked text z =
    let here = at-line line [] b.waiting in
    record {
      cells = all_cells text z.cells;
      entries = ap (λ es. answer_all es (b.waiting line) text) z.entries ∙ answer-each text (b.waiting line) z.cells z.waiting z.whole;
      asked_are = all-asked text z.cells ∙ ap (with_all_answered text) z.asked_are;
      others = all-others who text z.cells z.others;
      waiting = ap entry_places here ∙ sym (all-closed text z.cells);
      whole = subst AreWhole (sym here) tt;
      aside = λ o apart. subst (AllByRecursion (AsideIn (all_cells text z.cells))) (sym (off-line line [] b.waiting o apart))
          (all-aside z.cells (all_cells text z.cells) (alls-aside text z.cells) (b.waiting o) (z.aside o apart));
    }

-- parts of another line have this answer, and the others wait there
loses-aside : (who : ClientId) (line : ℕ) (b : Board) (asked : List Asked) (from : ℕ) (text : List ℕ) (some rest : List Place) (commands : ℕ → List Command) →
    from ≢ line → ((cells : List Cell) → AllByRecursion (AsideIn cells) (b.waiting from) → AllByRecursion (AsideIn cells) some × AllByRecursion (AsideIn cells) rest) →
    IsOneLine who line b asked →
    IsOneLine who line (record { entries = answer_all b.entries some text; waiting = with_line from rest b.waiting; commands = commands }) asked
loses-aside who line b asked from text some rest commands off both z =
    let all = both z.cells (z.aside from off) in
    let k = answers-aside who z.cells some text z.others all.0 in
    let same = off-line from rest b.waiting line (λ s. off (sym s)) in
    record {
      cells = k.after;
      entries = ap (λ es. answer_all es some text) z.entries ∙ k.entries;
      asked_are = k.asked ∙ z.asked_are;
      others = k.others;
      waiting = ap entry_places same ∙ z.waiting ∙ sym k.still_open;
      whole = subst AreWhole (sym same) z.whole;
      aside = λ o apart. either-line (AllByRecursion (AsideIn k.after)) (o == from) rest (b.waiting o)
          (all-aside z.cells k.after k.aside rest all.1) (all-aside z.cells k.after k.aside (b.waiting o) (z.aside o apart));
    }

-- any event

chosen : (here : Bool) (x y : List Asked) → here ≡ true → cond here x y ≡ x
chosen here x y is = ap (λ b. cond b x y) is

passed-by : (here : Bool) (x y : List Asked) → here ≡ false → cond here x y ≡ y
passed-by here x y is = ap (λ b. cond b x y) is

pub steps : (who : ClientId) (line : ℕ) (b : Board) (asked : List Asked) (e : Event) → UsesOneLine who line e → IsOneLine who line b asked →
    IsOneLine who line (happens b e) (passes line asked e)
steps who line b asked (Ask w to text) on z = elim (cases_eq to line) [
  | inl same ↦
      subst (IsOneLine who line (happens b (Ask w to text)))
      (sym (chosen (to == line) (asked ++ (record { client = w; answer = None }) ∷ []) asked (eq-eqb to line same)))
      (subst (λ l. IsOneLine who line (happens b (Ask w l text)) (asked ++ (record { client = w; answer = None }) ∷ [])) (sym same)
      (asks who line b asked w text z))
  | inr apart ↦
      subst (IsOneLine who line (happens b (Ask w to text)))
      (sym (passed-by (to == line) (asked ++ (record { client = w; answer = None }) ∷ []) asked (ne_eqb to line apart)))
      (splits who line b asked w ((record { line = to; text = text }) ∷ []) first_part (on apart) (apart, tt) z)
]
steps who line b asked (Split w parts merge) on z = splits who line b asked w parts merge on.0 on.1 z
steps who line b asked (Own w text) on z = owns who line b asked w text z
steps who line b asked (Reply from text) on z = elim (cases_eq from line) [
  | inl same ↦
      subst (IsOneLine who line (happens b (Reply from text)))
      (sym (chosen (from == line) (with_next_answer text asked) asked (eq-eqb from line same)))
      (subst (λ l. IsOneLine who line (happens b (Reply l text)) (with_next_answer text asked)) (sym same)
      (replies who line b asked text (b.waiting line) refl z))
  | inr apart ↦
      subst (IsOneLine who line (happens b (Reply from text)))
      (sym (passed-by (from == line) (with_next_answer text asked) asked (ne_eqb from line apart)))
      (replies-aside who line b asked from text (b.waiting from) apart refl z)
]
steps who line b asked (Redirect from to) on z = redirects who line b asked from to (b.waiting from) on.0 on.1 refl z
steps who line b asked (Release from to) on z = releases who line b asked from to on.0 on.1 z
steps who line b asked (ReleaseBehind w text from to) on z = pairs (length (b.waiting from)) who line b asked w text from to on.0 on.1 on.2 z
steps who line b asked (Lose from count text) on z = elim (cases_eq from line) [
  | inl same ↦
      subst (IsOneLine who line (happens b (Lose from count text)))
      (sym (chosen (from == line) (with_next_answers count text asked) asked (eq-eqb from line same)))
      (subst (λ l. IsOneLine who line (happens b (Lose l count text)) (with_next_answers count text asked)) (sym same)
      (loses who line b asked count text z))
  | inr apart ↦
      subst (IsOneLine who line (happens b (Lose from count text)))
      (sym (passed-by (from == line) (with_next_answers count text asked) asked (ne_eqb from line apart)))
      (loses-aside who line b asked from text (take count (b.waiting from)) (drop count (b.waiting from))
      (with_line from (commands_of (drop count (b.waiting from))) b.commands) apart
      (λ cells all. (all-take (AsideIn cells) count (b.waiting from) all, all-drop (AsideIn cells) count (b.waiting from) all)) z)
]
steps who line b asked (Fail from text) on z = elim (cases_eq from line) [
  | inl same ↦
      subst (IsOneLine who line (happens b (Fail from text)))
      (sym (chosen (from == line) (with_all_answered text asked) asked (eq-eqb from line same)))
      (subst (λ l. IsOneLine who line (happens b (Fail l text)) (with_all_answered text asked)) (sym same) (fails who line b asked text z))
  | inr apart ↦
      subst (IsOneLine who line (happens b (Fail from text)))
      (sym (passed-by (from == line) (with_all_answered text asked) asked (ne_eqb from line apart)))
      (loses-aside who line b asked from text (b.waiting from) [] (with_line from [] b.commands) apart (λ cells all. (all, tt)) z)
]

runs : (who : ClientId) (line : ℕ) (events : List Event) (b : Board) (asked : List Asked) → AllByRecursion (UsesOneLine who line) events →
    IsOneLine who line b asked → IsOneLine who line (after_events b events) (after_passing line asked events)
runs who line [] b asked on z = z
runs who line (e ∷ events) b asked on z = runs who line events (happens b e) (passes line asked e) on.1 (steps who line b asked e on.0 z)

pub begins : (who : ClientId) (line : ℕ) → IsOneLine who line nothing_asked []
begins who line = record { cells = []; entries = refl; asked_are = refl; others = tt; waiting = refl; whole = tt; aside = λ other apart. tt }

pub due_same : (who : ClientId) (line : ℕ) (b : Board) (asked : List Asked) → IsOneLine who line b asked → due_on who b ≡ due_to who asked
due_same who line b asked z =
    ap (λ es. concat (front_answers (answers_for who es))) z.entries ∙ ap (λ answers. concat (front_answers answers)) (answers-cells who z.cells z.others) ∙
    ap (due_to who) z.asked_are

pub one_line : (who : ClientId) (line : ℕ) (events : List Event) → AllByRecursion (UsesOneLine who line) events →
    due_on who (after_events nothing_asked events) ≡ due_to who (after_passing line [] events)
one_line who line events on = due_same who line _ _ (runs who line events nothing_asked [] on (begins who line))
