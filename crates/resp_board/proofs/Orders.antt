-- The commands of each client on a line are in its order.
use Rattle.std.proofs.Common.{◌≡◌, ◌≢◌, ◌⊎◌, ℕ, zero, suc, ◌+◌, ◌==◌, Bool, true, false, List, [], ◌∷◌, ◌++◌, drop, length, refl, sym, ap, ◌∙◌, cond, append_assoc, inl, inr}
use Rattle.std.specs.Prelude.{◌||◌}
use Rattle.std.specs.List.{AllByRecursion}
use Rattle.std.proofs.lemmas.Bool.{cases_eq, eq-eqb, ne_eqb}
use Rattle.std.proofs.lemmas.List.{append-nil}
use Rattle.resp_board.specs.declared.ticket.ClientId.{ClientId}
use Rattle.resp_board.specs.Boards.{Ask, Board, Command, Event, Fail, Lose, Own, Part, Place, Redirect, Release, ReleaseBehind, Reply, Split, after_events, after_pairs, after_redirect, after_reply, after_split, commands_of, first_part, happens, is_same, last_on, with_line, with_parts, with_texts}
use Rattle.resp_board.specs.Orders.{KeepsOrder, RunKeepsOrder, parts_to, texts_for, texts_in, texts_ordered, texts_sent}
use Rattle.resp_board.proofs.LineLists.{at-line, off-line}

for-both : (who : ClientId) (xs ys : List Command) → texts_for who (xs ++ ys) ≡ texts_for who xs ++ texts_for who ys
for-both who [] ys = refl
for-both who (c ∷ xs) ys = consed (is_same who c.client) c.text (texts_for who (xs ++ ys)) (texts_for who xs) (texts_for who ys) (for-both who xs ys)
  where
    consed : (same : Bool) (text : List ℕ) (all before after : List (List ℕ)) → all ≡ before ++ after →
        cond same (text ∷ all) all ≡ cond same (text ∷ before) before ++ after
    consed true text all before after e = ap (λ ts. text ∷ ts) e
    consed false text all before after e = e

commands-both : (xs ys : List Place) → commands_of (xs ++ ys) ≡ commands_of xs ++ commands_of ys
commands-both [] ys = refl
commands-both (p ∷ xs) ys = ap (λ cs. (record { client = p.client; text = p.text }) ∷ cs) (commands-both xs ys)

-- the texts of a client among those that went to the line, and among those that are held
abbrev told : ClientId → List Command → List Place → List (List ℕ)
told who commands places = texts_for who commands ++ texts_for who (commands_of places)

-- a part more

abbrev goes : ℕ → ℕ → ℕ → Bool
goes to line held = (to == line) || (to == held)

or-true : (b : Bool) → (b || true) ≡ true
or-true true = refl
or-true false = refl

goes-line : (to line held : ℕ) → to ≡ line → goes to line held ≡ true
goes-line to line held same = ap (λ b. b || (to == held)) (eq-eqb to line same)

goes-held : (to line held : ℕ) → to ≡ held → goes to line held ≡ true
goes-held to line held same = ap (λ b. (to == line) || b) (eq-eqb to held same) ∙ or-true (to == line)

goes-elsewhere : (to line held : ℕ) → to ≢ line → to ≢ held → goes to line held ≡ false
goes-elsewhere to line held off away =
    ap (λ b. b || (to == held)) (ne_eqb to line off) ∙ ne_eqb to held away

abbrev one_text : Bool → Bool → List ℕ → List (List ℕ)
one_text same here text = cond same (cond here (text ∷ []) []) []

none-more : (same : Bool) (text : List ℕ) (here : Bool) (ts : List (List ℕ)) → here ≡ false → ts ≡ ts ++ one_text same here text
none-more true text here ts off = sym (append-nil ts) ∙ ap (λ b. ts ++ cond b (text ∷ []) []) (sym off)
none-more false text here ts off = sym (append-nil ts)

line-more : (same : Bool) (text : List ℕ) (here : Bool) (before held : List (List ℕ)) → here ≡ true → (same ≡ true → held ≡ []) →
    (before ++ cond same (text ∷ []) []) ++ held ≡ (before ++ held) ++ one_text same here text
line-more true text here before held on none =
    ap (λ h. (before ++ text ∷ []) ++ h) (none refl) ∙ append-nil (before ++ text ∷ []) ∙
    ap (λ b. b ++ text ∷ []) (sym (append-nil before) ∙ ap (λ h. before ++ h) (sym (none refl))) ∙
    ap (λ b. (before ++ held) ++ cond b (text ∷ []) []) (sym on)
line-more false text here before held on none = ap (λ b. b ++ held) (append-nil before) ∙ sym (append-nil (before ++ held))

held-more : (same : Bool) (text : List ℕ) (here : Bool) (before held : List (List ℕ)) → here ≡ true →
    before ++ (held ++ cond same (text ∷ []) []) ≡ (before ++ held) ++ one_text same here text
held-more true text here before held on =
    sym (append_assoc before held (text ∷ [])) ∙ ap (λ b. (before ++ held) ++ cond b (text ∷ []) []) (sym on)
held-more false text here before held on = sym (append_assoc before held [])

one-part : (who w : ClientId) (line held : ℕ) (to : ℕ) (text : List ℕ) (place : Place) (commands : ℕ → List Command) (waiting : ℕ → List Place) → line ≢ held →
    (record { client = w; text = text }) ∷ [] ≡ commands_of (place ∷ []) →
    (is_same who w ≡ true → to ≡ line → texts_for who (commands_of (waiting held)) ≡ []) →
    told who (last_on to (record { client = w; text = text }) commands line) (last_on to place waiting held) ≡
    told who (commands line) (waiting held) ++ one_text (is_same who w) (goes to line held) text
one-part who w line held to text place commands waiting apart is none =
    let c : Command = record { client = w; text = text } in
    elim (cases_eq to line) [
      | inl here ↦
          let cs : last_on to c commands line ≡ commands line ++ c ∷ [] =
          ap (λ l. last_on l c commands line) here ∙ at-line line (commands line ++ c ∷ []) commands in
          let ps : last_on to place waiting held ≡ waiting held =
          off-line to (waiting to ++ place ∷ []) waiting held (λ s. apart (sym (s ∙ here))) in
          ap (λ x. told who x (last_on to place waiting held)) cs ∙ ap (told who (commands line ++ c ∷ [])) ps ∙
          ap (λ ts. ts ++ texts_for who (commands_of (waiting held))) (for-both who (commands line) (c ∷ [])) ∙
          line-more (is_same who w) text (goes to line held) (texts_for who (commands line)) (texts_for who (commands_of (waiting held)))
          (goes-line to line held here) (λ mine. none mine here)
      | inr off ↦
          let cs : last_on to c commands line ≡ commands line =
          off-line to (commands to ++ c ∷ []) commands line (λ s. off (sym s)) in
          elim (cases_eq to held) [
            | inl there ↦
                let ps : last_on to place waiting held ≡ waiting held ++ place ∷ [] =
                ap (λ l. last_on l place waiting held) there ∙ at-line held (waiting held ++ place ∷ []) waiting in
                ap (λ x. told who x (last_on to place waiting held)) cs ∙ ap (told who (commands line)) ps ∙
                ap (λ x. texts_for who (commands line) ++ texts_for who x) (commands-both (waiting held) (place ∷ [])) ∙
                ap (λ x. texts_for who (commands line) ++ texts_for who (commands_of (waiting held) ++ x)) (sym is) ∙
                ap (λ x. texts_for who (commands line) ++ x) (for-both who (commands_of (waiting held)) (c ∷ [])) ∙
                held-more (is_same who w) text (goes to line held) (texts_for who (commands line)) (texts_for who (commands_of (waiting held)))
                (goes-held to line held there)
            | inr away ↦
                let ps : last_on to place waiting held ≡ waiting held =
                off-line to (waiting to ++ place ∷ []) waiting held (λ s. away (sym s)) in
                ap (λ x. told who x (last_on to place waiting held)) cs ∙ ap (told who (commands line)) ps ∙
                none-more (is_same who w) text (goes to line held) (told who (commands line) (waiting held)) (goes-elsewhere to line held off away)
          ]
    ]

nothing : (same : Bool) (ts : List (List ℕ)) → ts ≡ ts ++ cond same [] []
nothing true ts = sym (append-nil ts)
nothing false ts = sym (append-nil ts)

joined : (same here : Bool) (text : List ℕ) (ts more : List (List ℕ)) →
    (ts ++ one_text same here text) ++ cond same more [] ≡ ts ++ cond same (cond here (text ∷ more) more) []
joined true true text ts more = append_assoc ts (text ∷ []) more
joined true false text ts more = ap (λ x. x ++ more) (append-nil ts)
joined false here text ts more = ap (λ x. x ++ []) (append-nil ts)

-- no part goes to the line, or none of the client is held
abbrev MayBe : ClientId → ℕ → ℕ → (ℕ → List Place) → List Part → Type 0
MayBe who line held waiting parts = AllByRecursion (λ (p : Part). p.line ≢ line) parts ⊎
    ((texts_for who (commands_of (waiting held)) ≡ []) × AllByRecursion (λ (p : Part). p.line ≢ held) parts)

sent-parts : (who w : ClientId) (line held : ℕ) (entry part : ℕ) (parts : List Part) (commands : ℕ → List Command) (waiting : ℕ → List Place) → line ≢ held →
    (is_same who w ≡ true → MayBe who line held waiting parts) →
    told who (with_texts w parts commands line) (with_parts w entry part parts waiting held) ≡
    told who (commands line) (waiting held) ++ cond (is_same who w) (parts_to line held parts) []
sent-parts who w line held entry part [] commands waiting apart may = nothing (is_same who w) (told who (commands line) (waiting held))
sent-parts who w line held entry part (p ∷ parts) commands waiting apart may =
    let c : Command = record { client = w; text = p.text } in
    let place : Place = record { entry = entry; part = part; client = w; text = p.text } in
    sent-parts who w line held entry (part + 1) parts (last_on p.line c commands) (last_on p.line place waiting) apart
    (λ mine. elim (may mine) [
      | inl off ↦ inl off.1
      | inr none ↦ inr (
        ap (λ ps. texts_for who (commands_of ps)) (off-line p.line (waiting p.line ++ place ∷ []) waiting held (λ s. none.1.0 (sym s))) ∙ none.0,
        none.1.1,
      )
    ]) ∙
    ap (λ ts. ts ++ cond (is_same who w) (parts_to line held parts) [])
    (one-part who w line held p.line p.text place commands waiting apart refl
    (λ mine here. elim (may mine) [
      | inl off ↦ absurd (off.0 here)
      | inr none ↦ none.0
    ])) ∙
    joined (is_same who w) (goes p.line line held) p.text (told who (commands line) (waiting held)) (parts_to line held parts)

-- nothing changes on the line, and what is held stays
record Stays (line held : ℕ) (b c : Board) : Type 0 where
  commands : c.commands line ≡ b.commands line
  waiting : c.waiting held ≡ b.waiting held

still : (who : ClientId) (line held : ℕ) (b c : Board) → Stays line held b c → texts_ordered who line held c ≡ texts_ordered who line held b ++ []
still who line held b c s =
    ap (λ cs. told who cs (c.waiting held)) s.commands ∙ ap (told who (b.commands line)) s.waiting ∙
    sym (append-nil (texts_ordered who line held b))

reply-stays : (line held : ℕ) (b : Board) (from : ℕ) (text : List ℕ) (places : List Place) → from ≢ held → Stays line held b (after_reply b from text places)
reply-stays line held b from text [] off = record { commands = refl; waiting = refl }
reply-stays line held b from text (p ∷ places) off = record { commands = refl; waiting = off-line from places b.waiting held (λ s. off (sym s)) }

redirect-stays : (line held : ℕ) (b : Board) (from to : ℕ) (places : List Place) → to ≢ line → from ≢ held → to ≢ held →
    Stays line held b (after_redirect b from to places)
redirect-stays line held b from to [] off away apart = record { commands = refl; waiting = refl }
redirect-stays line held b from to (p ∷ places) off away apart = record {
  commands = off-line to (b.commands to ++ (record { client = p.client; text = p.text }) ∷ []) b.commands line (λ s. off (sym s));
  waiting = off-line to (with_line from places b.waiting to ++ p ∷ []) (with_line from places b.waiting) held (λ s. apart (sym s)) ∙
      off-line from places b.waiting held (λ s. away (sym s));
}

pairs-stay : (count : ℕ) (line held : ℕ) (b : Board) (w : ClientId) (text : List ℕ) (from to : ℕ) → to ≢ line → from ≢ held → to ≢ held →
    Stays line held b (after_pairs count b w text from to)
pairs-stay zero line held b w text from to off away apart = record { commands = refl; waiting = refl }
pairs-stay (suc count) line held b w text from to off away apart =
    let c = after_split b w ((record { line = to; text = text }) ∷ []) first_part in
    let d = after_redirect c from to (c.waiting from) in
    let moved = redirect-stays line held c from to (c.waiting from) off away apart in
    let rest = pairs-stay count line held d w text from to off away apart in
    record {
      commands = rest.commands ∙ moved.commands ∙
          off-line to (b.commands to ++ (record { client = w; text = text }) ∷ []) b.commands line (λ s. off (sym s));
      waiting = rest.waiting ∙ moved.waiting ∙
          off-line to (b.waiting to ++ (record { entry = length b.entries; part = 0; client = w; text = text }) ∷ []) b.waiting held (λ s. apart (sym s));
    }

-- what is held goes to the line

moved-one : (same : Bool) (text : List ℕ) (before after : List (List ℕ)) →
    (before ++ cond same (text ∷ []) []) ++ after ≡ before ++ cond same (text ∷ after) after
moved-one true text before after = append_assoc before (text ∷ []) after
moved-one false text before after = ap (λ ts. ts ++ after) (append-nil before)

redirect-held : (who : ClientId) (line held : ℕ) (b : Board) (places : List Place) → line ≢ held → b.waiting held ≡ places →
    texts_ordered who line held (after_redirect b held line places) ≡ texts_ordered who line held b ++ []
redirect-held who line held b [] apart is = sym (append-nil (texts_ordered who line held b))
redirect-held who line held b (p ∷ places) apart is =
    let c : Command = record { client = p.client; text = p.text } in
    let cs : last_on line c b.commands line ≡ b.commands line ++ c ∷ [] = at-line line (b.commands line ++ c ∷ []) b.commands in
    let ps : last_on line p (with_line held places b.waiting) held ≡ places =
    off-line line (with_line held places b.waiting line ++ p ∷ []) (with_line held places b.waiting) held (λ s. apart (sym s)) ∙
    at-line held places b.waiting in
    ap (λ x. told who x (last_on line p (with_line held places b.waiting) held)) cs ∙ ap (told who (b.commands line ++ c ∷ [])) ps ∙
    ap (λ ts. ts ++ texts_for who (commands_of places)) (for-both who (b.commands line) (c ∷ [])) ∙
    moved-one (is_same who p.client) p.text (texts_for who (b.commands line)) (texts_for who (commands_of places)) ∙
    ap (told who (b.commands line)) (sym is) ∙
    sym (append-nil (texts_ordered who line held b))

release-held : (who : ClientId) (line held : ℕ) (b : Board) → line ≢ held →
    texts_ordered who line held (happens b (Release held line)) ≡ texts_ordered who line held b ++ []
release-held who line held b apart =
    let all = b.commands line ++ commands_of (b.waiting held) in
    let ws = b.waiting line ++ b.waiting held in
    let cs : with_line held [] (with_line line all b.commands) line ≡ all =
    off-line held [] (with_line line all b.commands) line apart ∙ at-line line all b.commands in
    let ps : with_line held [] (with_line line ws b.waiting) held ≡ [] = at-line held [] (with_line line ws b.waiting) in
    ap (λ x. told who x (with_line held [] (with_line line ws b.waiting) held)) cs ∙ ap (told who all) ps ∙
    append-nil (texts_for who all) ∙ for-both who (b.commands line) (commands_of (b.waiting held)) ∙
    sym (append-nil (texts_ordered who line held b))

release-stays : (line held : ℕ) (b : Board) (from to : ℕ) → from ≢ line → to ≢ line → from ≢ held → to ≢ held → Stays line held b (happens b (Release from to))
release-stays line held b from to off away apart far = record {
  commands = off-line from [] (with_line to (b.commands to ++ commands_of (b.waiting from)) b.commands) line (λ s. off (sym s)) ∙
      off-line to (b.commands to ++ commands_of (b.waiting from)) b.commands line (λ s. away (sym s));
  waiting = off-line from [] (with_line to (b.waiting to ++ b.waiting from) b.waiting) held (λ s. apart (sym s)) ∙
      off-line to (b.waiting to ++ b.waiting from) b.waiting held (λ s. far (sym s));
}

-- any event
step : (who : ClientId) (line held : ℕ) (b : Board) (e : Event) → line ≢ held → KeepsOrder who line held b e →
    texts_ordered who line held (happens b e) ≡ texts_ordered who line held b ++ texts_in who line held e
step who line held b (Ask w to text) apart keeps =
    sent-parts who w line held (length b.entries) 0 ((record { line = to; text = text }) ∷ []) b.commands b.waiting apart keeps
step who line held b (Split w parts merge) apart keeps = sent-parts who w line held (length b.entries) 0 parts b.commands b.waiting apart keeps
step who line held b (Own w text) apart keeps = still who line held b (happens b (Own w text)) (record { commands = refl; waiting = refl })
step who line held b (Reply from text) apart keeps =
    still who line held b (happens b (Reply from text)) (reply-stays line held b from text (b.waiting from) keeps)
step who line held b (Redirect from to) apart keeps = elim keeps [
  | inl held-to ↦
      ap (λ l. texts_ordered who line held (happens b (Redirect l to))) held-to.0 ∙
      ap (λ l. texts_ordered who line held (happens b (Redirect held l))) held-to.1 ∙ redirect-held who line held b (b.waiting held) apart refl
  | inr others ↦
      still who line held b (happens b (Redirect from to))
      (redirect-stays line held b from to (b.waiting from) others.1 others.2 others.3)
]
step who line held b (Release from to) apart keeps = elim keeps [
  | inl held-to ↦
      ap (λ l. texts_ordered who line held (happens b (Release l to))) held-to.0 ∙
      ap (λ l. texts_ordered who line held (happens b (Release held l))) held-to.1 ∙ release-held who line held b apart
  | inr others ↦
      still who line held b (happens b (Release from to)) (release-stays line held b from to others.0 others.1 others.2 others.3)
]
step who line held b (ReleaseBehind w text from to) apart keeps =
    still who line held b (happens b (ReleaseBehind w text from to))
    (pairs-stay (length (b.waiting from)) line held b w text from to keeps.0 keeps.1 keeps.2)
step who line held b (Lose from count text) apart keeps = still who line held b (happens b (Lose from count text)) (record {
  commands = off-line from (commands_of (drop count (b.waiting from))) b.commands line (λ s. keeps.0 (sym s));
  waiting = off-line from (drop count (b.waiting from)) b.waiting held (λ s. keeps.1 (sym s));
})
step who line held b (Fail from text) apart keeps = still who line held b (happens b (Fail from text)) (record {
  commands = off-line from [] b.commands line (λ s. keeps.0 (sym s));
  waiting = off-line from [] b.waiting held (λ s. keeps.1 (sym s));
})

pub in_order : (who : ClientId) (line held : ℕ) (b : Board) (events : List Event) → line ≢ held → RunKeepsOrder who line held b events →
    texts_ordered who line held (after_events b events) ≡ texts_ordered who line held b ++ texts_sent who line held events
in_order who line held b [] apart keeps = sym (append-nil (texts_ordered who line held b))
in_order who line held b (e ∷ events) apart keeps =
    in_order who line held (happens b e) events apart keeps.1 ∙
    ap (λ ts. ts ++ texts_sent who line held events) (step who line held b e apart keeps.0) ∙
    append_assoc (texts_ordered who line held b) (texts_in who line held e) (texts_sent who line held events)
