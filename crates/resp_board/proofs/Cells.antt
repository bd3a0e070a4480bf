-- The commands of all clients, of which some are those of one line.
use Rattle.std.proofs.Common.{◌≡◌, ℕ, zero, suc, Bool, true, false, List, [], ◌∷◌, ◌++◌, drop, length, map, take, Option, None, Some, is_some, refl, sym, ap, ◌∙◌, cond}
use Rattle.std.specs.Prelude.{unwrap_or}
use Rattle.std.specs.List.{AllByRecursion}
use Rattle.resp_board.specs.declared.ticket.ClientId.{ClientId}
use Rattle.resp_board.specs.Boards.{Entry, Place, answer_all, answer_at, first_part, is_same, with_part}
use Rattle.resp_board.specs.Connections.{Asked, answers_to, with_all_answered, with_next_answer, with_next_answers}
use Rattle.resp_board.specs.Tickets.{answer_to, answers_for}

-- a command of one part
abbrev pub entry_of : Asked → Entry
entry_of a = record { client = a.client; parts = a.answer ∷ []; merge = first_part }

-- a command of the line, or another command
pub data Cell : Type 0 where
  Mine : Asked → Cell
  Aside : Entry → Cell

abbrev pub entry_in : Cell → Entry
entry_in (Mine a) = entry_of a
entry_in (Aside e) = e

abbrev pub entries_of : List Cell → List Entry
entries_of [] = []
entries_of (c ∷ cells) = entry_in c ∷ entries_of cells

-- the commands of the line
abbrev pub asked_of : List Cell → List Asked
asked_of [] = []
asked_of (Mine a ∷ cells) = a ∷ asked_of cells
asked_of (Aside e ∷ cells) = asked_of cells

abbrev pub later_places : List ℕ → List ℕ
later_places places = map (λ (n : ℕ). suc n) places

-- the places of the commands of the line without an answer
abbrev pub open_of : List Cell → List ℕ
open_of [] = []
open_of (Mine a ∷ cells) = cond (is_some a.answer) (later_places (open_of cells)) (0 ∷ later_places (open_of cells))
open_of (Aside e ∷ cells) = later_places (open_of cells)

-- the other commands are not this client's
abbrev pub AreOthers : ClientId → List Cell → Type 0
AreOthers who [] = Unit {0}
AreOthers who (Mine a ∷ cells) = AreOthers who cells
AreOthers who (Aside e ∷ cells) = (is_same who e.client ≡ false) × AreOthers who cells

-- the command at a place is none of the line
abbrev pub IsAside : List Cell → ℕ → Type 0
IsAside [] n = ⊥
IsAside (Mine a ∷ cells) zero = ⊥
IsAside (Aside e ∷ cells) zero = Unit {0}
IsAside (c ∷ cells) (suc n) = IsAside cells n

abbrev pub AsideIn : List Cell → Place → Type 0
AsideIn cells p = IsAside cells p.entry

-- a command more

pub more-entries : (cells : List Cell) (c : Cell) → entries_of cells ++ entry_in c ∷ [] ≡ entries_of (cells ++ c ∷ [])
more-entries [] c = refl
more-entries (d ∷ cells) c = ap (λ es. entry_in d ∷ es) (more-entries cells c)

pub length-entries : (cells : List Cell) → length (entries_of cells) ≡ length cells
length-entries [] = refl
length-entries (c ∷ cells) = ap suc (length-entries cells)

pub more-asked : (cells : List Cell) (a : Asked) → asked_of (cells ++ Mine a ∷ []) ≡ asked_of cells ++ a ∷ []
more-asked [] a = refl
more-asked (Mine b ∷ cells) a = ap (λ asked. b ∷ asked) (more-asked cells a)
more-asked (Aside e ∷ cells) a = more-asked cells a

pub aside-asked : (cells : List Cell) (e : Entry) → asked_of (cells ++ Aside e ∷ []) ≡ asked_of cells
aside-asked [] e = refl
aside-asked (Mine b ∷ cells) e = ap (λ asked. b ∷ asked) (aside-asked cells e)
aside-asked (Aside f ∷ cells) e = aside-asked cells e

pub more-others : (who : ClientId) (cells : List Cell) (a : Asked) → AreOthers who cells → AreOthers who (cells ++ Mine a ∷ [])
more-others who [] a h = tt
more-others who (Mine b ∷ cells) a h = more-others who cells a h
more-others who (Aside f ∷ cells) a h = (h.0, more-others who cells a h.1)

pub aside-others : (who : ClientId) (cells : List Cell) (e : Entry) → is_same who e.client ≡ false → AreOthers who cells → AreOthers who (cells ++ Aside e ∷ [])
aside-others who [] e off h = (off, tt)
aside-others who (Mine b ∷ cells) e off h = aside-others who cells e off h
aside-others who (Aside f ∷ cells) e off h = (h.0, aside-others who cells e off h.1)

later-append : (places : List ℕ) (n : ℕ) → later_places (places ++ n ∷ []) ≡ later_places places ++ suc n ∷ []
later-append [] n = refl
later-append (p ∷ places) n = ap (λ ps. suc p ∷ ps) (later-append places n)

opened_by : (known : Bool) (xs ys : List ℕ) (n : ℕ) → xs ≡ ys ++ n ∷ [] →
    cond known (later_places xs) (0 ∷ later_places xs) ≡ cond known (later_places ys) (0 ∷ later_places ys) ++ suc n ∷ []
opened_by true xs ys n e = ap later_places e ∙ later-append ys n
opened_by false xs ys n e = ap (λ ps. 0 ∷ later_places ps) e ∙ ap (λ ps. 0 ∷ ps) (later-append ys n)

pub open-ask : (cells : List Cell) (who : ClientId) →
    open_of (cells ++ Mine (record { client = who; answer = None }) ∷ []) ≡ open_of cells ++ length cells ∷ []
open-ask [] who = refl
open-ask (Mine a ∷ cells) who =
    opened_by (is_some a.answer) (open_of (cells ++ Mine (record { client = who; answer = None }) ∷ [])) (open_of cells) (length cells) (open-ask cells who)
open-ask (Aside e ∷ cells) who = ap later_places (open-ask cells who) ∙ later-append (open_of cells) (length cells)

pub open-own : (cells : List Cell) (who : ClientId) (text : List ℕ) →
    open_of (cells ++ Mine (record { client = who; answer = Some text }) ∷ []) ≡ open_of cells
open-own [] who text = refl
open-own (Mine a ∷ cells) who text = ap (λ ps. cond (is_some a.answer) (later_places ps) (0 ∷ later_places ps)) (open-own cells who text)
open-own (Aside e ∷ cells) who text = ap later_places (open-own cells who text)

pub open-aside : (cells : List Cell) (e : Entry) → open_of (cells ++ Aside e ∷ []) ≡ open_of cells
open-aside [] e = refl
open-aside (Mine a ∷ cells) e = ap (λ ps. cond (is_some a.answer) (later_places ps) (0 ∷ later_places ps)) (open-aside cells e)
open-aside (Aside f ∷ cells) e = ap later_places (open-aside cells e)

pub still-aside : (cells : List Cell) (c : Cell) (n : ℕ) → IsAside cells n → IsAside (cells ++ c ∷ []) n
still-aside [] c n h = absurd h
still-aside (Mine a ∷ cells) c zero h = absurd h
still-aside (Aside e ∷ cells) c zero h = tt
still-aside (Mine a ∷ cells) c (suc n) h = still-aside cells c n h
still-aside (Aside e ∷ cells) c (suc n) h = still-aside cells c n h

pub new-aside : (cells : List Cell) (e : Entry) → IsAside (cells ++ Aside e ∷ []) (length cells)
new-aside [] e = tt
new-aside (Mine a ∷ cells) e = new-aside cells e
new-aside (Aside f ∷ cells) e = new-aside cells e

-- answers to other commands

-- these are commands of which those of the line are the same
pub record KeepsLine (who : ClientId) (cells : List Cell) (es : List Entry) : Type 0 where
  pub after : List Cell
  pub entries : es ≡ entries_of after
  pub asked : asked_of after ≡ asked_of cells
  pub others : AreOthers who after
  pub still_open : open_of after ≡ open_of cells
  pub aside : (n : ℕ) → IsAside cells n → IsAside after n

cons-aside : (c : Cell) (cells after : List Cell) → ((n : ℕ) → IsAside cells n → IsAside after n) → (n : ℕ) → IsAside (c ∷ cells) n → IsAside (c ∷ after) n
cons-aside (Mine a) cells after h zero at = absurd at
cons-aside (Aside e) cells after h zero at = tt
cons-aside (Mine a) cells after h (suc n) at = h n at
cons-aside (Aside e) cells after h (suc n) at = h n at

head-aside : (e f : Entry) (cells : List Cell) (n : ℕ) → IsAside (Aside e ∷ cells) n → IsAside (Aside f ∷ cells) n
head-aside e f cells zero at = tt
head-aside e f cells (suc n) at = at

pub answer-aside : (who : ClientId) (cells : List Cell) (n part : ℕ) (text : List ℕ) → AreOthers who cells → IsAside cells n →
    KeepsLine who cells (answer_at (entries_of cells) n part text)
answer-aside who [] n part text others at = absurd at
answer-aside who (Mine a ∷ cells) zero part text others at = absurd at
answer-aside who (Aside e ∷ cells) zero part text others at = record {
  after = Aside (with_part part text e) ∷ cells;
  entries = refl;
  asked = refl;
  others = others;
  still_open = refl;
  aside = head-aside e (with_part part text e) cells;
}
answer-aside who (Mine a ∷ cells) (suc n) part text others at =
    let k = answer-aside who cells n part text others at in
    record {
      after = Mine a ∷ k.after;
      entries = ap (λ es. entry_of a ∷ es) k.entries;
      asked = ap (λ asked. a ∷ asked) k.asked;
      others = k.others;
      still_open = ap (λ ps. cond (is_some a.answer) (later_places ps) (0 ∷ later_places ps)) k.still_open;
      aside = cons-aside (Mine a) cells k.after k.aside;
    }
answer-aside who (Aside e ∷ cells) (suc n) part text others at =
    let k = answer-aside who cells n part text others.1 at in
    record {
      after = Aside e ∷ k.after;
      entries = ap (λ es. e ∷ es) k.entries;
      asked = k.asked;
      others = (others.0, k.others);
      still_open = ap later_places k.still_open;
      aside = cons-aside (Aside e) cells k.after k.aside;
    }

pub all-aside : (cells after : List Cell) → ((n : ℕ) → IsAside cells n → IsAside after n) → (places : List Place) → AllByRecursion (AsideIn cells) places →
    AllByRecursion (AsideIn after) places
all-aside cells after h [] all = tt
all-aside cells after h (p ∷ places) all = (h p.entry all.0, all-aside cells after h places all.1)

pub answers-aside : (who : ClientId) (cells : List Cell) (places : List Place) (text : List ℕ) → AreOthers who cells → AllByRecursion (AsideIn cells) places →
    KeepsLine who cells (answer_all (entries_of cells) places text)
answers-aside who cells [] text others all = record { after = cells; entries = refl; asked = refl; others = others; still_open = refl; aside = λ n at. at }
answers-aside who cells (p ∷ places) text others all =
    let k = answer-aside who cells p.entry p.part text others all.0 in
    let rest = answers-aside who k.after places text k.others (all-aside cells k.after k.aside places all.1) in
    record {
      after = rest.after;
      entries = ap (λ es. answer_all es places text) k.entries ∙ rest.entries;
      asked = rest.asked ∙ k.asked;
      others = rest.others;
      still_open = rest.still_open ∙ k.still_open;
      aside = λ n at. rest.aside n (k.aside n at);
    }

-- answers to the commands of the line

abbrev pub next_cell : List ℕ → List Cell → List Cell
next_cell text [] = []
next_cell text (Mine a ∷ cells) =
    cond (is_some a.answer) (Mine a ∷ next_cell text cells) (Mine (record { client = a.client; answer = Some text }) ∷ cells)
next_cell text (Aside e ∷ cells) = Aside e ∷ next_cell text cells

abbrev pub next_cells : ℕ → List ℕ → List Cell → List Cell
next_cells zero text cells = cells
next_cells (suc count) text cells = next_cells count text (next_cell text cells)

abbrev pub all_cells : List ℕ → List Cell → List Cell
all_cells text [] = []
all_cells text (Mine a ∷ cells) = Mine (record { client = a.client; answer = Some (unwrap_or a.answer text) }) ∷ all_cells text cells
all_cells text (Aside e ∷ cells) = Aside e ∷ all_cells text cells

asked-head : (client : ClientId) (o : Option (List ℕ)) (text : List ℕ) (cells : List Cell) → asked_of (next_cell text cells) ≡ with_next_answer text (asked_of cells) →
    asked_of (next_cell text (Mine (record { client = client; answer = o }) ∷ cells)) ≡
    with_next_answer text ((record { client = client; answer = o }) ∷ asked_of cells)
asked-head client None text cells ih = refl
asked-head client (Some u) text cells ih = ap (λ asked. (record { client = client; answer = Some u }) ∷ asked) ih

pub next-asked : (text : List ℕ) (cells : List Cell) → asked_of (next_cell text cells) ≡ with_next_answer text (asked_of cells)
next-asked text [] = refl
next-asked text (Mine a ∷ cells) = asked-head a.client a.answer text cells (next-asked text cells)
next-asked text (Aside e ∷ cells) = next-asked text cells

others-head : (who client : ClientId) (o : Option (List ℕ)) (text : List ℕ) (cells : List Cell) → AreOthers who cells → AreOthers who (next_cell text cells) →
    AreOthers who (next_cell text (Mine (record { client = client; answer = o }) ∷ cells))
others-head who client None text cells h ih = h
others-head who client (Some u) text cells h ih = ih

pub next-others : (who : ClientId) (text : List ℕ) (cells : List Cell) → AreOthers who cells → AreOthers who (next_cell text cells)
next-others who text [] h = tt
next-others who text (Mine a ∷ cells) h = others-head who a.client a.answer text cells h (next-others who text cells h)
next-others who text (Aside e ∷ cells) h = (h.0, next-others who text cells h.1)

aside-head : (client : ClientId) (o : Option (List ℕ)) (text : List ℕ) (cells : List Cell) (n : ℕ) → IsAside cells n → IsAside (next_cell text cells) n →
    IsAside (next_cell text (Mine (record { client = client; answer = o }) ∷ cells)) (suc n)
aside-head client None text cells n at ih = at
aside-head client (Some u) text cells n at ih = ih

pub next-aside : (text : List ℕ) (cells : List Cell) (n : ℕ) → IsAside cells n → IsAside (next_cell text cells) n
next-aside text [] n at = absurd at
next-aside text (Mine a ∷ cells) zero at = absurd at
next-aside text (Aside e ∷ cells) zero at = tt
next-aside text (Mine a ∷ cells) (suc n) at = aside-head a.client a.answer text cells n at (next-aside text cells n at)
next-aside text (Aside e ∷ cells) (suc n) at = next-aside text cells n at

pub nexts-asked : (count : ℕ) (text : List ℕ) (cells : List Cell) → asked_of (next_cells count text cells) ≡ with_next_answers count text (asked_of cells)
nexts-asked zero text cells = refl
nexts-asked (suc count) text cells = nexts-asked count text (next_cell text cells) ∙ ap (with_next_answers count text) (next-asked text cells)

pub nexts-others : (who : ClientId) (count : ℕ) (text : List ℕ) (cells : List Cell) → AreOthers who cells → AreOthers who (next_cells count text cells)
nexts-others who zero text cells h = h
nexts-others who (suc count) text cells h = nexts-others who count text (next_cell text cells) (next-others who text cells h)

pub nexts-aside : (count : ℕ) (text : List ℕ) (cells : List Cell) (n : ℕ) → IsAside cells n → IsAside (next_cells count text cells) n
nexts-aside zero text cells n at = at
nexts-aside (suc count) text cells n at = nexts-aside count text (next_cell text cells) n (next-aside text cells n at)

pub all-asked : (text : List ℕ) (cells : List Cell) → asked_of (all_cells text cells) ≡ with_all_answered text (asked_of cells)
all-asked text [] = refl
all-asked text (Mine a ∷ cells) = ap (λ asked. (record { client = a.client; answer = Some (unwrap_or a.answer text) }) ∷ asked) (all-asked text cells)
all-asked text (Aside e ∷ cells) = all-asked text cells

pub all-others : (who : ClientId) (text : List ℕ) (cells : List Cell) → AreOthers who cells → AreOthers who (all_cells text cells)
all-others who text [] h = tt
all-others who text (Mine a ∷ cells) h = all-others who text cells h
all-others who text (Aside e ∷ cells) h = (h.0, all-others who text cells h.1)

pub alls-aside : (text : List ℕ) (cells : List Cell) (n : ℕ) → IsAside cells n → IsAside (all_cells text cells) n
alls-aside text [] n at = absurd at
alls-aside text (Mine a ∷ cells) zero at = absurd at
alls-aside text (Aside e ∷ cells) zero at = tt
alls-aside text (Mine a ∷ cells) (suc n) at = alls-aside text cells n at
alls-aside text (Aside e ∷ cells) (suc n) at = alls-aside text cells n at

pub all-closed : (text : List ℕ) (cells : List Cell) → open_of (all_cells text cells) ≡ []
all-closed text [] = refl
all-closed text (Mine a ∷ cells) = ap later_places (all-closed text cells)
all-closed text (Aside e ∷ cells) = ap later_places (all-closed text cells)

later-none : (places : List ℕ) → later_places places ≡ [] → places ≡ []
later-none [] e = refl
later-none (p ∷ places) e = absurd (cc)

unchanged-head : (client : ClientId) (o : Option (List ℕ)) (text : List ℕ) (cells : List Cell) →
    open_of (Mine (record { client = client; answer = o }) ∷ cells) ≡ [] → (open_of cells ≡ [] → next_cell text cells ≡ cells) →
    next_cell text (Mine (record { client = client; answer = o }) ∷ cells) ≡ Mine (record { client = client; answer = o }) ∷ cells
unchanged-head client None text cells e ih = absurd (cc)
unchanged-head client (Some u) text cells e ih =
    ap (λ rest. Mine (record { client = client; answer = Some u }) ∷ rest) (ih (later-none (open_of cells) e))

-- nothing is answered if nothing is open
pub unchanged : (text : List ℕ) (cells : List Cell) → open_of cells ≡ [] → next_cell text cells ≡ cells
unchanged text [] e = refl
unchanged text (Mine a ∷ cells) e = unchanged-head a.client a.answer text cells e (unchanged text cells)
unchanged text (Aside f ∷ cells) e = ap (λ rest. Aside f ∷ rest) (unchanged text cells (later-none (open_of cells) e))

answered-head : (client : ClientId) (o : Option (List ℕ)) (text : List ℕ) (cells : List Cell) →
    open_of (Mine (record { client = client; answer = o }) ∷ cells) ≡ [] → (open_of cells ≡ [] → all_cells text cells ≡ cells) →
    all_cells text (Mine (record { client = client; answer = o }) ∷ cells) ≡ Mine (record { client = client; answer = o }) ∷ cells
answered-head client None text cells e ih = absurd (cc)
answered-head client (Some u) text cells e ih =
    ap (λ rest. Mine (record { client = client; answer = Some u }) ∷ rest) (ih (later-none (open_of cells) e))

pub all-answered : (text : List ℕ) (cells : List Cell) → open_of cells ≡ [] → all_cells text cells ≡ cells
all-answered text [] e = refl
all-answered text (Mine a ∷ cells) e = answered-head a.client a.answer text cells e (all-answered text cells)
all-answered text (Aside f ∷ cells) e = ap (λ rest. Aside f ∷ rest) (all-answered text cells (later-none (open_of cells) e))

next-head : (client : ClientId) (o : Option (List ℕ)) (text : List ℕ) (cells : List Cell) → all_cells text (next_cell text cells) ≡ all_cells text cells →
    all_cells text (next_cell text (Mine (record { client = client; answer = o }) ∷ cells)) ≡ all_cells text (Mine (record { client = client; answer = o }) ∷ cells)
next-head client None text cells ih = refl
next-head client (Some u) text cells ih = ap (λ rest. Mine (record { client = client; answer = Some u }) ∷ rest) ih

pub all-next : (text : List ℕ) (cells : List Cell) → all_cells text (next_cell text cells) ≡ all_cells text cells
all-next text [] = refl
all-next text (Mine a ∷ cells) = next-head a.client a.answer text cells (all-next text cells)
all-next text (Aside e ∷ cells) = ap (λ rest. Aside e ∷ rest) (all-next text cells)

-- a reply answers the command at the first of the open places
abbrev pub ReplyAt : List ℕ → List Cell → ℕ → List ℕ → Type 0
ReplyAt text cells place rest = (answer_at (entries_of cells) place 0 text ≡ entries_of (next_cell text cells)) ×
    (open_of (next_cell text cells) ≡ rest)

first_is : (a b : ℕ) (xs ys : List ℕ) → a ∷ xs ≡ b ∷ ys → a ≡ b
first_is a b xs ys e = cc

rest_is : (a b : ℕ) (xs ys : List ℕ) → a ∷ xs ≡ b ∷ ys → xs ≡ ys
rest_is a b xs ys e = cc

-- behind a command that has an answer or is none of the line
behind : (c : Cell) (text : List ℕ) (cells : List Cell) (places : List ℕ) (place : ℕ) (rest : List ℕ) → open_of cells ≡ places →
    later_places places ≡ place ∷ rest → ((q : ℕ) (qs : List ℕ) → open_of cells ≡ q ∷ qs → ReplyAt text cells q qs) →
    (answer_at (entry_in c ∷ entries_of cells) place 0 text ≡ entry_in c ∷ entries_of (next_cell text cells)) ×
    (later_places (open_of (next_cell text cells)) ≡ rest)
behind c text cells [] place rest same e ih = absurd (cc)
behind c text cells (q ∷ qs) place rest same e ih =
    let h = ih q qs same in (
      ap (λ n. answer_at (entry_in c ∷ entries_of cells) n 0 text) (sym (first_is (suc q) place (later_places qs) rest e)) ∙
          ap (λ es. entry_in c ∷ es) h.0,
      ap later_places h.1 ∙ rest_is (suc q) place (later_places qs) rest e,
    )

at-head : (client : ClientId) (o : Option (List ℕ)) (text : List ℕ) (cells : List Cell) (place : ℕ) (rest : List ℕ) →
    open_of (Mine (record { client = client; answer = o }) ∷ cells) ≡ place ∷ rest →
    ((q : ℕ) (qs : List ℕ) → open_of cells ≡ q ∷ qs → ReplyAt text cells q qs) →
    ReplyAt text (Mine (record { client = client; answer = o }) ∷ cells) place rest
at-head client None text cells place rest e ih = (
  ap (λ n. answer_at (entries_of (Mine (record { client = client; answer = None }) ∷ cells)) n 0 text)
      (sym (first_is 0 place (later_places (open_of cells)) rest e)),
  rest_is 0 place (later_places (open_of cells)) rest e,
)
at-head client (Some u) text cells place rest e ih =
    behind (Mine (record { client = client; answer = Some u })) text cells (open_of cells) place rest refl e ih

pub reply-at : (text : List ℕ) (cells : List Cell) (place : ℕ) (rest : List ℕ) → open_of cells ≡ place ∷ rest → ReplyAt text cells place rest
reply-at text [] place rest e = absurd (cc)
reply-at text (Mine a ∷ cells) place rest e = at-head a.client a.answer text cells place rest e (reply-at text cells)
reply-at text (Aside f ∷ cells) place rest e = behind (Aside f) text cells (open_of cells) place rest refl e (reply-at text cells)

-- the parts of a line that wait

abbrev pub entry_places : List Place → List ℕ
entry_places places = map (λ (p : Place). p.entry) places

abbrev pub AreWhole : List Place → Type 0
AreWhole places = AllByRecursion (λ (p : Place). p.part ≡ 0) places

-- all parts that wait have the same answer
pub answer-each : (text : List ℕ) (places : List Place) (cells : List Cell) → entry_places places ≡ open_of cells → AreWhole places →
    answer_all (entries_of cells) places text ≡ entries_of (all_cells text cells)
answer-each text [] cells e h = ap entries_of (sym (all-answered text cells (sym e)))
answer-each text (p ∷ places) cells e h =
    let r = reply-at text cells p.entry (entry_places places) (sym e) in
    ap (λ n. answer_all (answer_at (entries_of cells) p.entry n text) places text) h.0 ∙
    ap (λ es. answer_all es places text) r.0 ∙
    answer-each text places (next_cell text cells) (sym r.1) h.1 ∙
    ap entries_of (all-next text cells)

abbrev no_places : List Place
no_places = []

take-nil : (count : ℕ) → take count no_places ≡ []
take-nil zero = refl
take-nil (suc count) = refl

drop-nil : (count : ℕ) → drop count no_places ≡ []
drop-nil zero = refl
drop-nil (suc count) = refl

-- what the first parts that wait leave, when they have the same answer
pub record Leaves (text : List ℕ) (count : ℕ) (places : List Place) (cells : List Cell) : Type 0 where
  pub entries : answer_all (entries_of cells) (take count places) text ≡ entries_of (next_cells count text cells)
  pub waiting : entry_places (drop count places) ≡ open_of (next_cells count text cells)
  pub whole : AreWhole (drop count places)

pub answer-some : (text : List ℕ) (count : ℕ) (places : List Place) (cells : List Cell) → entry_places places ≡ open_of cells → AreWhole places →
    Leaves text count places cells
answer-some text zero places cells e h = record { entries = refl; waiting = e; whole = h }
answer-some text (suc count) [] cells e h =
    let same = unchanged text cells (sym e) in
    let rest = answer-some text count [] cells e tt in
    let none : take count no_places ≡ [] = take-nil count in
    let none' : drop count no_places ≡ [] = drop-nil count in
    record {
      entries = ap (λ ps. answer_all (entries_of cells) ps text) (sym none) ∙ rest.entries ∙
          ap (λ cs. entries_of (next_cells count text cs)) (sym same);
      waiting = ap entry_places (sym none') ∙ rest.waiting ∙ ap (λ cs. open_of (next_cells count text cs)) (sym same);
      whole = tt;
    }
answer-some text (suc count) (p ∷ places) cells e h =
    let r = reply-at text cells p.entry (entry_places places) (sym e) in
    let rest = answer-some text count places (next_cell text cells) (sym r.1) h.1 in
    record {
      entries = ap (λ n. answer_all (answer_at (entries_of cells) p.entry n text) (take count places) text) h.0 ∙
          ap (λ es. answer_all es (take count places) text) r.0 ∙ rest.entries;
      waiting = rest.waiting;
      whole = rest.whole;
    }

-- the answers to a client

alone : (client : ClientId) (o : Option (List ℕ)) → answer_to (entry_of (record { client = client; answer = o })) ≡ o
alone client None = refl
alone client (Some text) = refl

pub answers-cells : (who : ClientId) (cells : List Cell) → AreOthers who cells → answers_for who (entries_of cells) ≡ answers_to who (asked_of cells)
answers-cells who [] h = refl
answers-cells who (Mine a ∷ cells) h =
    ap (λ o. cond (is_same who a.client) (o ∷ answers_for who (entries_of cells)) (answers_for who (entries_of cells))) (alone a.client a.answer) ∙
    ap (λ answers. cond (is_same who a.client) (a.answer ∷ answers) answers) (answers-cells who cells h)
answers-cells who (Aside e ∷ cells) h =
    ap (λ b. cond b (answer_to e ∷ answers_for who (entries_of cells)) (answers_for who (entries_of cells))) h.0 ∙ answers-cells who cells h.1
