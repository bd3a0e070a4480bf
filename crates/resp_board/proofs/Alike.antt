-- Two runs that differ only in the replies to the commands of others.
use Rattle.std.proofs.Common.{◌≡◌, ◌⊎◌, ℕ, zero, suc, ◌+◌, ◌==◌, Bool, true, false, List, [], ◌∷◌, ◌++◌, drop, length, map, take, Option, Some, slice_get, refl, sym, ap, subst, ◌∙◌, append_assoc, arith, cond, inl, inr}
use Rattle.std.specs.Option.{option_map}
use Rattle.std.specs.List.{concat}
use Rattle.resp_board.specs.declared.ticket.ClientId.{ClientId}
use Rattle.resp_board.specs.Answers.{front_answers}
use Rattle.resp_board.specs.Boards.{Ask, Board, Entry, Event, Fail, Lose, Own, Part, Place, Redirect, Release, ReleaseBehind, Reply, Split, after_events, after_pairs, after_redirect, after_reply, after_split, answer_all, answer_at, first_part, happens, is_same, last_on, nothing_asked, part_answered, with_line, with_part, with_parts}
use Rattle.resp_board.specs.Differences.{AnswersAnother, DifferForOthers, IsOthers, RunsDifferForOthers}
use Rattle.resp_board.specs.Histories.{due_on}
use Rattle.resp_board.specs.Laws.{ChangesNothingFor, due_with}
use Rattle.resp_board.specs.Tickets.{all_parts, answer_to, answers_for}
use Rattle.resp_board.proofs.Serving.{same-self}
use Rattle.resp_board.proofs.Tickets.{some-is}

-- two commands of one client, with the same answers if they are this client's
pub record IsAlike (who : ClientId) (e f : Entry) : Type 0 where
  pub client : e.client ≡ f.client
  pub parts : is_same who e.client ≡ true → e.parts ≡ f.parts
  pub merge : e.merge ≡ f.merge

abbrev pub AreAlike : ClientId → List Entry → List Entry → Type 0
AreAlike who [] [] = Unit {0}
AreAlike who (e ∷ es) (f ∷ fs) = IsAlike who e f × AreAlike who es fs
AreAlike who _ _ = ⊥

pub record BoardsAlike (who : ClientId) (b c : Board) : Type 0 where
  pub entries : AreAlike who b.entries c.entries
  pub waiting : (line : ℕ) → b.waiting line ≡ c.waiting line

counted : (who : ClientId) (es fs : List Entry) → AreAlike who es fs → length es ≡ length fs
counted who [] [] h = refl
counted who [] (f ∷ fs) h = absurd h
counted who (e ∷ es) [] h = absurd h
counted who (e ∷ es) (f ∷ fs) h = ap suc (counted who es fs h.1)

appended : (who : ClientId) (es fs : List Entry) (e : Entry) → AreAlike who es fs → AreAlike who (es ++ e ∷ []) (fs ++ e ∷ [])
appended who [] [] e h = (record { client = refl; parts = λ same. refl; merge = refl }, tt)
appended who [] (f ∷ fs) e h = absurd h
appended who (x ∷ es) [] e h = absurd h
appended who (x ∷ es) (f ∷ fs) e h = (h.0, appended who es fs e h.1)

answered : (who : ClientId) (es fs : List Entry) (entry part : ℕ) (text : List ℕ) → AreAlike who es fs →
    AreAlike who (answer_at es entry part text) (answer_at fs entry part text)
answered who [] [] entry part text h = tt
answered who [] (f ∷ fs) entry part text h = absurd h
answered who (e ∷ es) [] entry part text h = absurd h
answered who (e ∷ es) (f ∷ fs) zero part text h =
    (record { client = h.0.client; parts = λ same. ap (part_answered part text) (h.0.parts same); merge = h.0.merge }, h.1)
answered who (e ∷ es) (f ∷ fs) (suc entry) part text h = (h.0, answered who es fs entry part text h.1)

-- two answers to another client's command
answered_apart : (who : ClientId) (es fs : List Entry) (entry part : ℕ) (text text' : List ℕ) → IsOthers who (slice_get es entry) → AreAlike who es fs →
    AreAlike who (answer_at es entry part text) (answer_at fs entry part text')
answered_apart who [] [] entry part text text' others h = tt
answered_apart who [] (f ∷ fs) entry part text text' others h = absurd h
answered_apart who (e ∷ es) [] entry part text text' others h = absurd h
answered_apart who (e ∷ es) (f ∷ fs) zero part text text' others h =
    (record { client = h.0.client; parts = λ same. let no : true ≡ false = sym same ∙ others in absurd (cc); merge = h.0.merge }, h.1)
answered_apart who (e ∷ es) (f ∷ fs) (suc entry) part text text' others h = (h.0, answered_apart who es fs entry part text text' others h.1)

all_answered : (who : ClientId) (es fs : List Entry) (places : List Place) (text : List ℕ) → AreAlike who es fs →
    AreAlike who (answer_all es places text) (answer_all fs places text)
all_answered who es fs [] text h = h
all_answered who es fs (p ∷ places) text h =
    all_answered who (answer_at es p.entry p.part text) (answer_at fs p.entry p.part text) places text (answered who es fs p.entry p.part text h)

same_answers : (same : Bool) (x y : Option (List ℕ)) (xs ys : List (Option (List ℕ))) → xs ≡ ys → (same ≡ true → x ≡ y) →
    cond same (x ∷ xs) xs ≡ cond same (y ∷ ys) ys
same_answers true x y xs ys rest h = ap (λ z. z ∷ xs) (h refl) ∙ ap (λ zs. y ∷ zs) rest
same_answers false x y xs ys rest h = rest

same_answer : (e f : Entry) → e.parts ≡ f.parts → e.merge ≡ f.merge → answer_to e ≡ answer_to f
same_answer e f parts merge = ap (λ ps. option_map e.merge (all_parts ps)) parts ∙ ap (λ (m : List (List ℕ) → List ℕ). option_map m (all_parts f.parts)) merge

-- a client has the same answers
alike_answers : (who : ClientId) (es fs : List Entry) → AreAlike who es fs → answers_for who es ≡ answers_for who fs
alike_answers who [] [] h = refl
alike_answers who [] (f ∷ fs) h = absurd h
alike_answers who (e ∷ es) [] h = absurd h
alike_answers who (e ∷ es) (f ∷ fs) h =
    same_answers (is_same who e.client) (answer_to e) (answer_to f) (answers_for who es) (answers_for who fs)
    (alike_answers who es fs h.1) (λ same. same_answer e f (h.0.parts same) h.0.merge) ∙
    ap (λ client. cond (is_same who client) (answer_to f ∷ answers_for who fs) (answers_for who fs)) h.0.client

same_lines : (line other : ℕ) (places places' : List Place) (waiting waiting' : ℕ → List Place) → places ≡ places' → ((l : ℕ) → waiting l ≡ waiting' l) →
    with_line line places waiting other ≡ with_line line places' waiting' other
same_lines line other places places' waiting waiting' same all =
    ap (λ ps. cond (other == line) ps (waiting other)) same ∙ ap (λ ps. cond (other == line) places' ps) (all other)

same_last : (line other : ℕ) (p : Place) (waiting waiting' : ℕ → List Place) → ((l : ℕ) → waiting l ≡ waiting' l) →
    last_on line p waiting other ≡ last_on line p waiting' other
same_last line other p waiting waiting' all =
    same_lines line other (waiting line ++ p ∷ []) (waiting' line ++ p ∷ []) waiting waiting' (ap (λ ps. ps ++ p ∷ []) (all line)) all

same_parts : (who : ClientId) (entry entry' part : ℕ) (parts : List Part) (waiting waiting' : ℕ → List Place) → entry ≡ entry' →
    ((l : ℕ) → waiting l ≡ waiting' l) → (other : ℕ) → with_parts who entry part parts waiting other ≡ with_parts who entry' part parts waiting' other
same_parts who entry entry' part [] waiting waiting' same all other = all other
same_parts who entry entry' part (p ∷ parts) waiting waiting' same all other =
    same_parts who entry entry' (part + 1) parts _ _ same
    (λ l. ap (λ n. last_on p.line (record { entry = n; part = part; client = who; text = p.text }) waiting l) same ∙
    same_last p.line l (record { entry = entry'; part = part; client = who; text = p.text }) waiting waiting' all) other

split : (who : ClientId) (b c : Board) (w : ClientId) (parts : List Part) (merge : List (List ℕ) → List ℕ) → BoardsAlike who b c →
    BoardsAlike who (after_split b w parts merge) (after_split c w parts merge)
split who b c w parts merge h = record {
  entries = appended who b.entries c.entries _ h.entries;
  waiting = same_parts w (length b.entries) (length c.entries) 0 parts b.waiting c.waiting (counted who b.entries c.entries h.entries) h.waiting;
}

replied : (who : ClientId) (b c : Board) (line : ℕ) (text text' : List ℕ) (places : List Place) →
    (text ≡ text') ⊎ AnswersAnother who b.entries places → BoardsAlike who b c →
    BoardsAlike who (after_reply b line text places) (after_reply c line text' places)
replied who b c line text text' [] d h = h
replied who b c line text text' (p ∷ places) d h = record {
  entries = elim d [
    | inl same ↦ subst (λ t. AreAlike who (answer_at b.entries p.entry p.part text) (answer_at c.entries p.entry p.part t)) same
        (answered who b.entries c.entries p.entry p.part text h.entries)
    | inr others ↦ answered_apart who b.entries c.entries p.entry p.part text text' others h.entries
  ];
  waiting = λ other. same_lines line other places places b.waiting c.waiting refl h.waiting;
}

redirected : (who : ClientId) (b c : Board) (line next : ℕ) (places : List Place) → BoardsAlike who b c →
    BoardsAlike who (after_redirect b line next places) (after_redirect c line next places)
redirected who b c line next [] h = h
redirected who b c line next (p ∷ places) h = record {
  entries = h.entries;
  waiting = λ other. same_last next other p (with_line line places b.waiting) (with_line line places c.waiting)
      (λ l. same_lines line l places places b.waiting c.waiting refl h.waiting);
}

lost : (who : ClientId) (b c : Board) (line : ℕ) (text : List ℕ) → BoardsAlike who b c → BoardsAlike who (happens b (Fail line text)) (happens c (Fail line text))
lost who b c line text h = record {
  entries = subst (λ ps. AreAlike who (answer_all b.entries (b.waiting line) text) (answer_all c.entries ps text)) (h.waiting line)
      (all_answered who b.entries c.entries (b.waiting line) text h.entries);
  waiting = λ other. same_lines line other [] [] b.waiting c.waiting refl h.waiting;
}

lost-some : (who : ClientId) (b c : Board) (line count : ℕ) (text : List ℕ) → BoardsAlike who b c →
    BoardsAlike who (happens b (Lose line count text)) (happens c (Lose line count text))
lost-some who b c line count text h = record {
  entries = subst (λ ps. AreAlike who (answer_all b.entries (take count (b.waiting line)) text) (answer_all c.entries (take count ps) text)) (h.waiting line)
      (all_answered who b.entries c.entries (take count (b.waiting line)) text h.entries);
  waiting = λ other. same_lines line other (drop count (b.waiting line)) (drop count (c.waiting line)) b.waiting c.waiting (ap (drop count) (h.waiting line))
      h.waiting;
}

owned : (who : ClientId) (b c : Board) (w : ClientId) (text : List ℕ) → BoardsAlike who b c → BoardsAlike who (happens b (Own w text)) (happens c (Own w text))
owned who b c w text h = record { entries = appended who b.entries c.entries _ h.entries; waiting = h.waiting }

released : (who : ClientId) (b c : Board) (line next : ℕ) → BoardsAlike who b c →
    BoardsAlike who (happens b (Release line next)) (happens c (Release line next))
released who b c line next h = record {
  entries = h.entries;
  waiting = λ other. same_lines line other [] [] _ _ refl
      (λ l. same_lines next l (b.waiting next ++ b.waiting line) (c.waiting next ++ c.waiting line) b.waiting c.waiting
      (ap (λ ps. ps ++ b.waiting line) (h.waiting next) ∙ ap (λ ps. c.waiting next ++ ps) (h.waiting line)) h.waiting);
}

paired : (count : ℕ) (who : ClientId) (b c : Board) (w : ClientId) (text : List ℕ) (line next : ℕ) → BoardsAlike who b c →
    BoardsAlike who (after_pairs count b w text line next) (after_pairs count c w text line next)
paired zero who b c w text line next h = h
paired (suc count) who b c w text line next h =
    let parts : List Part = (record { line = next; text = text }) ∷ [] in
    let b' = after_split b w parts first_part in
    let c' = after_split c w parts first_part in
    let more = split who b c w parts first_part h in
    paired count who (after_redirect b' line next (b'.waiting line)) (after_redirect c' line next (c'.waiting line)) w text line next
    (subst (λ ps. BoardsAlike who (after_redirect b' line next (b'.waiting line)) (after_redirect c' line next ps)) (more.waiting line)
    (redirected who b' c' line next (b'.waiting line) more))

stepped : (who : ClientId) (b c : Board) (e f : Event) → DifferForOthers who b e f → BoardsAlike who b c → BoardsAlike who (happens b e) (happens c f)
stepped who b c (Ask w line text) f d h =
    subst (λ x. BoardsAlike who (happens b (Ask w line text)) (happens c x)) d
    (split who b c w ((record { line = line; text = text }) ∷ []) first_part h)
stepped who b c (Split w parts merge) f d h = subst (λ x. BoardsAlike who (happens b (Split w parts merge)) (happens c x)) d (split who b c w parts merge h)
stepped who b c (Own w text) f d h = subst (λ x. BoardsAlike who (happens b (Own w text)) (happens c x)) d (owned who b c w text h)
stepped who b c (Redirect line next) f d h =
    subst (λ x. BoardsAlike who (happens b (Redirect line next)) (happens c x)) d
    (subst (λ ps. BoardsAlike who (after_redirect b line next (b.waiting line)) (after_redirect c line next ps)) (h.waiting line)
    (redirected who b c line next (b.waiting line) h))
stepped who b c (Release line next) f d h =
    subst (λ x. BoardsAlike who (happens b (Release line next)) (happens c x)) d (released who b c line next h)
stepped who b c (ReleaseBehind w text line next) f d h =
    subst (λ x. BoardsAlike who (happens b (ReleaseBehind w text line next)) (happens c x)) d
    (subst (λ ps. BoardsAlike who (happens b (ReleaseBehind w text line next)) (after_pairs (length ps) c w text line next)) (h.waiting line)
    (paired (length (b.waiting line)) who b c w text line next h))
stepped who b c (Lose line count text) f d h =
    subst (λ x. BoardsAlike who (happens b (Lose line count text)) (happens c x)) d (lost-some who b c line count text h)
stepped who b c (Fail line text) f d h = subst (λ x. BoardsAlike who (happens b (Fail line text)) (happens c x)) d (lost who b c line text h)
stepped who b c (Reply line text) (Reply line' text') d h =
    subst (λ l. BoardsAlike who (happens b (Reply line text)) (happens c (Reply l text'))) d.0
    (subst (λ ps. BoardsAlike who (after_reply b line text (b.waiting line)) (after_reply c line text' ps)) (h.waiting line)
    (replied who b c line text text' (b.waiting line) d.1 h))
stepped who b c (Reply line text) (Ask w l t) d h = absurd (cc)
stepped who b c (Reply line text) (Split w parts merge) d h = absurd (cc)
stepped who b c (Reply line text) (Own w t) d h = absurd (cc)
stepped who b c (Reply line text) (Redirect l n) d h = absurd (cc)
stepped who b c (Reply line text) (Release l n) d h = absurd (cc)
stepped who b c (Reply line text) (ReleaseBehind w t l n) d h = absurd (cc)
stepped who b c (Reply line text) (Lose l n t) d h = absurd (cc)
stepped who b c (Reply line text) (Fail l t) d h = absurd (cc)

all_stepped : (who : ClientId) (es fs : List Event) (b c : Board) → RunsDifferForOthers who b es fs → BoardsAlike who b c →
    BoardsAlike who (after_events b es) (after_events c fs)
all_stepped who [] [] b c d h = h
all_stepped who [] (f ∷ fs) b c d h = absurd d
all_stepped who (e ∷ es) [] b c d h = absurd d
all_stepped who (e ∷ es) (f ∷ fs) b c d h = all_stepped who es fs (happens b e) (happens c f) d.1 (stepped who b c e f d.0 h)

pub others_change_nothing : (who : ClientId) (events others : List Event) → RunsDifferForOthers who nothing_asked events others →
    due_on who (after_events nothing_asked events) ≡ due_on who (after_events nothing_asked others)
others_change_nothing who events others d =
    let h = all_stepped who events others nothing_asked nothing_asked d (record { entries = tt; waiting = λ line. refl }) in
    ap (λ answers. concat (front_answers answers))
    (alike_answers who (after_events nothing_asked events).entries (after_events nothing_asked others).entries h.entries)

-- a reply to another client's command

unmoved : (who : ClientId) (es : List Entry) (n part : ℕ) (text : List ℕ) → IsOthers who (slice_get es n) →
    answers_for who (answer_at es n part text) ≡ answers_for who es
unmoved who [] n part text others = refl
unmoved who (e ∷ es) zero part text others =
    ap (λ b. cond b (answer_to e' ∷ answers_for who es) (answers_for who es)) others ∙
    sym (ap (λ b. cond b (answer_to e ∷ answers_for who es) (answers_for who es)) others)
  where
    e' : Entry
    e' = record { client = e.client; parts = part_answered part text e.parts; merge = e.merge }
unmoved who (e ∷ es) (suc n) part text others =
    ap (λ answers. cond (is_same who e.client) (answer_to e ∷ answers) answers) (unmoved who es n part text others)

reply_unmoved : (who : ClientId) (b : Board) (line : ℕ) (text : List ℕ) (places : List Place) → AnswersAnother who b.entries places →
    due_on who (after_reply b line text places) ≡ due_on who b
reply_unmoved who b line text [] others = refl
reply_unmoved who b line text (p ∷ places) others = ap (λ answers. concat (front_answers answers)) (unmoved who b.entries p.entry p.part text others)

same_event : (who : ClientId) (b : Board) (e : Event) → DifferForOthers who b e e
same_event who b (Ask w line text) = refl
same_event who b (Split w parts merge) = refl
same_event who b (Own w text) = refl
same_event who b (Reply line text) = (refl, inl refl)
same_event who b (Redirect line next) = refl
same_event who b (Release line next) = refl
same_event who b (ReleaseBehind w text line next) = refl
same_event who b (Lose line count text) = refl
same_event who b (Fail line text) = refl

same_run : (who : ClientId) (events : List Event) (b : Board) → RunsDifferForOthers who b events events
same_run who [] b = tt
same_run who (e ∷ events) b = (same_event who b e, same_run who events (happens b e))

one_differs : (who : ClientId) (events : List Event) (b : Board) (line : ℕ) (text other : List ℕ) (later : List Event) →
    AnswersAnother who (after_events b events).entries ((after_events b events).waiting line) →
    RunsDifferForOthers who b (events ++ Reply line text ∷ later) (events ++ Reply line other ∷ later)
one_differs who [] b line text other later others = ((refl, inr others), same_run who later (happens b (Reply line text)))
one_differs who (e ∷ events) b line text other later others = (same_event who b e, one_differs who events (happens b e) line text other later others)

pub its_owners : (who : ClientId) (events : List Event) (line : ℕ) (text : List ℕ) →
    AnswersAnother who (after_events nothing_asked events).entries ((after_events nothing_asked events).waiting line) →
    ChangesNothingFor who events line text
its_owners who events line text others = record {
  now = reply_unmoved who (after_events nothing_asked events) line text ((after_events nothing_asked events).waiting line) others;
  later = λ other later. others_change_nothing who (events ++ Reply line text ∷ later) (events ++ Reply line other ∷ later)
      (one_differs who events nothing_asked line text other later others);
}

-- a reply to a client's command, after the answers to its earlier ones

consed : (same : Bool) (x : Option (List ℕ)) (xs ys : List (Option (List ℕ))) → cond same (x ∷ (xs ++ ys)) (xs ++ ys) ≡ cond same (x ∷ xs) xs ++ ys
consed true x xs ys = refl
consed false x xs ys = refl

told_first : (told : List (List ℕ)) (answer : List ℕ) (rest : List (Option (List ℕ))) →
    concat (front_answers (map Some told ++ Some answer ∷ rest)) ≡ concat told ++ (answer ++ concat (front_answers rest))
told_first [] answer rest = refl
told_first (text ∷ told) answer rest =
    ap (λ bytes. text ++ bytes) (told_first told answer rest) ∙ sym (append_assoc text (concat told) (answer ++ concat (front_answers rest)))

answers_around : (who : ClientId) (es : List Entry) (n part : ℕ) (text answer : List ℕ) (e : Entry) → slice_get es n ≡ Some e → who ≡ e.client →
    answer_to (with_part part text e) ≡ Some answer →
    answers_for who (answer_at es n part text) ≡ answers_for who (take n es) ++ Some answer ∷ answers_for who (drop (n + 1) es)
answers_around who [] n part text answer e there mine whole = absurd (grind arith)
answers_around who (x ∷ es) zero part text answer e there mine whole =
    let is : x ≡ e = some-is x e there in
    let his : is_same who x.client ≡ true = ap (λ (y : Entry). is_same who y.client) is ∙ ap (is_same who) (sym mine) ∙ same-self who in
    ap (λ b. cond b (answer_to (with_part part text x) ∷ answers_for who es) (answers_for who es)) his ∙
    ap (λ (y : Entry). answer_to (with_part part text y) ∷ answers_for who es) is ∙
    ap (λ a. a ∷ answers_for who es) whole
answers_around who (x ∷ es) (suc n) part text answer e there mine whole =
    ap (λ answers. cond (is_same who x.client) (answer_to x ∷ answers) answers) (answers_around who es n part text answer e there mine whole) ∙
    consed (is_same who x.client) (answer_to x) (answers_for who (take n es)) (Some answer ∷ answers_for who (drop (n + 1) es)) ∙
    ap (λ k. answers_for who (take (suc n) (x ∷ es)) ++ Some answer ∷ answers_for who (drop k (x ∷ es))) next
  where
    next : suc (n + 1) ≡ suc n + 1
    next = omega arith

pub reply_given : (events : List Event) (line : ℕ) (text answer : List ℕ) (p : Place) (rest : List Place) (e : Entry) (told : List (List ℕ)) →
    (after_events nothing_asked events).waiting line ≡ p ∷ rest →
    slice_get (after_events nothing_asked events).entries p.entry ≡ Some e →
    answer_to (with_part p.part text e) ≡ Some answer →
    answers_for e.client (take p.entry (after_events nothing_asked events).entries) ≡ map Some told →
    due_on e.client (happens (after_events nothing_asked events) (Reply line text)) ≡
    due_with e.client told answer p.entry (after_events nothing_asked events)
reply_given events line text answer p rest e told waits there whole before =
    let b = after_events nothing_asked events in
    ap (λ ps. due_on e.client (after_reply b line text ps)) waits ∙
    ap (λ answers. concat (front_answers answers))
    (answers_around e.client b.entries p.entry p.part text answer e there refl whole ∙
    ap (λ answers. answers ++ Some answer ∷ answers_for e.client (drop (p.entry + 1) b.entries)) before) ∙
    told_first told answer (answers_for e.client (drop (p.entry + 1) b.entries)) ∙
    sym (append_assoc (concat told) answer (concat (front_answers (answers_for e.client (drop (p.entry + 1) b.entries)))))
