-- Replies of one line, each to its command.
use Rattle.std.proofs.Common.{◌≡◌, ℕ, suc, ◌<◌, ◌≤◌, ◌==◌, Bool, true, false, List, [], ◌∷◌, ◌++◌, length, take, Option, None, Some, refl, sym, ap, subst, ◌∙◌, append_assoc, length-append, arith, cond}
use Rattle.std.specs.List.{AllByRecursion, concat}
use Rattle.std.proofs.lemmas.Bool.{ne_eqb}
use Rattle.std.proofs.lemmas.List.{append-nil}
use Rattle.resp_board.specs.declared.ticket.ClientId.{ClientId}
use Rattle.resp_board.specs.Answers.{front_answers}
use Rattle.resp_board.specs.Boards.{Ask, Board, Event, Fail, Lose, Own, Redirect, Release, ReleaseBehind, Reply, Split, after_events, happens, is_same, nothing_asked}
use Rattle.resp_board.specs.Connections.{Asked, IsAnswered, UsesOneLine, answered_to, answers_to, due_to, owners_on, replies_on, with_all_answered, with_next_answer, with_next_answers}
use Rattle.resp_board.specs.Histories.{due_on}
use Rattle.resp_board.specs.Laws.{IsServedByOne}
use Rattle.resp_board.proofs.OneLine.{IsOneLine, begins, due_same, owns-aside, steps}
use Rattle.resp_board.proofs.Serving.{same-self}

-- the commands of these clients, of which the first have these replies
abbrev pub zipped : List ClientId → List (List ℕ) → List Asked
zipped [] replies = []
zipped (owner ∷ owners) [] = (record { client = owner; answer = None }) ∷ zipped owners []
zipped (owner ∷ owners) (reply ∷ replies) = (record { client = owner; answer = Some reply }) ∷ zipped owners replies

zipped-ask : (owners : List ClientId) (replies : List (List ℕ)) (who : ClientId) → length replies ≤ length owners →
    zipped owners replies ++ (record { client = who; answer = None }) ∷ [] ≡ zipped (owners ++ who ∷ []) replies
zipped-ask [] [] who few = refl
zipped-ask [] (reply ∷ replies) who few = absurd (omega (arith, few))
zipped-ask (owner ∷ owners) [] who few = ap (λ asked. (record { client = owner; answer = None }) ∷ asked) (zipped-ask owners [] who (omega (arith)))
zipped-ask (owner ∷ owners) (reply ∷ replies) who few =
    ap (λ asked. (record { client = owner; answer = Some reply }) ∷ asked) (zipped-ask owners replies who (omega (arith, few)))

zipped-reply : (owners : List ClientId) (replies : List (List ℕ)) (text : List ℕ) → length replies < length owners →
    with_next_answer text (zipped owners replies) ≡ zipped owners (replies ++ text ∷ [])
zipped-reply [] replies text few = absurd (omega (arith, few))
zipped-reply (owner ∷ owners) [] text few = refl
zipped-reply (owner ∷ owners) (reply ∷ replies) text few =
    ap (λ asked. (record { client = owner; answer = Some reply }) ∷ asked) (zipped-reply owners replies text (omega (arith, few)))

missing : (same : Bool) (answers : List (Option (List ℕ))) → front_answers answers ≡ [] → front_answers (cond same (None ∷ answers) answers) ≡ []
missing true answers h = refl
missing false answers h = h

none_due : (who : ClientId) (owners : List ClientId) → front_answers (answers_to who (zipped owners [])) ≡ []
none_due who [] = refl
none_due who (owner ∷ owners) = missing (is_same who owner) (answers_to who (zipped owners [])) (none_due who owners)

first_due : (same : Bool) (reply : List ℕ) (answers : List (Option (List ℕ))) →
    concat (front_answers (cond same (Some reply ∷ answers) answers)) ≡ cond same reply [] ++ concat (front_answers answers)
first_due true reply answers = refl
first_due false reply answers = refl

due_zipped : (who : ClientId) (owners : List ClientId) (replies : List (List ℕ)) → due_to who (zipped owners replies) ≡ answered_to who owners replies
due_zipped who [] replies = refl
due_zipped who (owner ∷ owners) [] = ap concat (none_due who (owner ∷ owners))
due_zipped who (owner ∷ owners) (reply ∷ replies) =
    first_due (is_same who owner) reply (answers_to who (zipped owners replies)) ∙
    ap (λ text. cond (is_same who owner) reply [] ++ text) (due_zipped who owners replies)

-- what an event adds

abbrev owner_of : ℕ → Event → List ClientId
owner_of line (Ask who to text) = cond (to == line) (who ∷ []) []
owner_of line (Split who parts merge) = []
owner_of line (Own who text) = []
owner_of line (Reply from text) = []
owner_of line (Redirect from to) = []
owner_of line (Release from to) = []
owner_of line (ReleaseBehind who text from to) = []
owner_of line (Lose from count text) = []
owner_of line (Fail from text) = []

abbrev reply_of : ℕ → Event → List (List ℕ)
reply_of line (Ask who to text) = []
reply_of line (Split who parts merge) = []
reply_of line (Own who text) = []
reply_of line (Reply from text) = cond (from == line) (text ∷ []) []
reply_of line (Redirect from to) = []
reply_of line (Release from to) = []
reply_of line (ReleaseBehind who text from to) = []
reply_of line (Lose from count text) = []
reply_of line (Fail from text) = []

added : {T : Type 0} (here : Bool) (x : T) (xs : List T) → cond here (x ∷ xs) xs ≡ cond here (x ∷ []) [] ++ xs
added true x xs = refl
added false x xs = refl

owners-more : (line : ℕ) (e : Event) (events : List Event) → owners_on line (e ∷ events) ≡ owner_of line e ++ owners_on line events
owners-more line (Ask who to text) events = added (to == line) who (owners_on line events)
owners-more line (Split who parts merge) events = refl
owners-more line (Own who text) events = refl
owners-more line (Reply from text) events = refl
owners-more line (Redirect from to) events = refl
owners-more line (Release from to) events = refl
owners-more line (ReleaseBehind who text from to) events = refl
owners-more line (Lose from count text) events = refl
owners-more line (Fail from text) events = refl

replies-more : (line : ℕ) (e : Event) (events : List Event) → replies_on line (e ∷ events) ≡ reply_of line e ++ replies_on line events
replies-more line (Ask who to text) events = refl
replies-more line (Split who parts merge) events = refl
replies-more line (Own who text) events = refl
replies-more line (Reply from text) events = added (from == line) text (replies_on line events)
replies-more line (Redirect from to) events = refl
replies-more line (Release from to) events = refl
replies-more line (ReleaseBehind who text from to) events = refl
replies-more line (Lose from count text) events = refl
replies-more line (Fail from text) events = refl

asked-by : (here : Bool) (owners : List ClientId) (replies : List (List ℕ)) (who : ClientId) → length replies ≤ length owners →
    cond here (zipped owners replies ++ (record { client = who; answer = None }) ∷ []) (zipped owners replies) ≡
    zipped (owners ++ cond here (who ∷ []) []) (replies ++ [])
asked-by true owners replies who few = zipped-ask owners replies who few ∙ ap (zipped (owners ++ who ∷ [])) (sym (append-nil replies))
asked-by false owners replies who few = ap (λ os. zipped os replies) (sym (append-nil owners)) ∙ ap (zipped (owners ++ [])) (sym (append-nil replies))

answered-by : (here : Bool) (owners : List ClientId) (replies : List (List ℕ)) (text : List ℕ) →
    length (replies ++ cond here (text ∷ []) []) ≤ length (owners ++ []) →
    cond here (with_next_answer text (zipped owners replies)) (zipped owners replies) ≡ zipped (owners ++ []) (replies ++ cond here (text ∷ []) [])
answered-by true owners replies text few =
    let more = length-append replies (text ∷ []) in
    let same = ap length (append-nil owners) in
    zipped-reply owners replies text (omega (arith, few, more, same)) ∙ ap (λ os. zipped os (replies ++ text ∷ [])) (sym (append-nil owners))
answered-by false owners replies text few =
    ap (λ os. zipped os replies) (sym (append-nil owners)) ∙ ap (zipped (owners ++ [])) (sym (append-nil replies))

as-before : (owners : List ClientId) (replies : List (List ℕ)) → zipped owners replies ≡ zipped (owners ++ []) (replies ++ [])
as-before owners replies = ap (λ os. zipped os replies) (sym (append-nil owners)) ∙ ap (zipped (owners ++ [])) (sym (append-nil replies))

zip-step : (who : ClientId) (line : ℕ) (b : Board) (owners : List ClientId) (replies : List (List ℕ)) (e : Event) → UsesOneLine who line e → IsAnswered who line e →
    length replies ≤ length owners → length (replies ++ reply_of line e) ≤ length (owners ++ owner_of line e) →
    IsOneLine who line b (zipped owners replies) → IsOneLine who line (happens b e) (zipped (owners ++ owner_of line e) (replies ++ reply_of line e))
zip-step who line b owners replies (Ask w to text) on has few fits z =
    subst (IsOneLine who line (happens b (Ask w to text))) (asked-by (to == line) owners replies w few)
    (steps who line b (zipped owners replies) (Ask w to text) on z)
zip-step who line b owners replies (Split w parts merge) on has few fits z =
    subst (IsOneLine who line (happens b (Split w parts merge))) (as-before owners replies) (steps who line b (zipped owners replies) (Split w parts merge) on z)
zip-step who line b owners replies (Own w text) on has few fits z =
    subst (IsOneLine who line (happens b (Own w text))) (as-before owners replies) (owns-aside who line b (zipped owners replies) w text has z)
zip-step who line b owners replies (Reply from text) on has few fits z =
    subst (IsOneLine who line (happens b (Reply from text))) (answered-by (from == line) owners replies text fits)
    (steps who line b (zipped owners replies) (Reply from text) on z)
zip-step who line b owners replies (Redirect from to) on has few fits z =
    subst (IsOneLine who line (happens b (Redirect from to))) (as-before owners replies) (steps who line b (zipped owners replies) (Redirect from to) on z)
zip-step who line b owners replies (Release from to) on has few fits z =
    subst (IsOneLine who line (happens b (Release from to))) (as-before owners replies) (steps who line b (zipped owners replies) (Release from to) on z)
zip-step who line b owners replies (ReleaseBehind w text from to) on has few fits z =
    subst (IsOneLine who line (happens b (ReleaseBehind w text from to))) (as-before owners replies)
    (steps who line b (zipped owners replies) (ReleaseBehind w text from to) on z)
zip-step who line b owners replies (Lose from count text) on has few fits z =
    subst (IsOneLine who line (happens b (Lose from count text)))
    (ap (λ here. cond here (with_next_answers count text (zipped owners replies)) (zipped owners replies)) (ne_eqb from line has) ∙ as-before owners replies)
    (steps who line b (zipped owners replies) (Lose from count text) on z)
zip-step who line b owners replies (Fail from text) on has few fits z =
    subst (IsOneLine who line (happens b (Fail from text)))
    (ap (λ here. cond here (with_all_answered text (zipped owners replies)) (zipped owners replies)) (ne_eqb from line has) ∙ as-before owners replies)
    (steps who line b (zipped owners replies) (Fail from text) on z)

-- after these commands and replies, no more replies come than commands
abbrev Fits : ℕ → List ClientId → List (List ℕ) → List Event → Type 0
Fits line owners replies events = (count : ℕ) →
    length (replies ++ replies_on line (take count events)) ≤ length (owners ++ owners_on line (take count events))

fits-next : (line : ℕ) (owners : List ClientId) (replies : List (List ℕ)) (e : Event) (events : List Event) → Fits line owners replies (e ∷ events) →
    Fits line (owners ++ owner_of line e) (replies ++ reply_of line e) events
fits-next line owners replies e events fits count =
    subst (λ os. length ((replies ++ reply_of line e) ++ replies_on line (take count events)) ≤ length os)
    (ap (λ os. owners ++ os) (owners-more line e (take count events)) ∙ sym (append_assoc owners (owner_of line e) (owners_on line (take count events))))
    (subst (λ rs. length rs ≤ length (owners ++ owners_on line (e ∷ take count events)))
    (ap (λ rs. replies ++ rs) (replies-more line e (take count events)) ∙ sym (append_assoc replies (reply_of line e) (replies_on line (take count events))))
    (fits (suc count)))

fits-now : (line : ℕ) (owners : List ClientId) (replies : List (List ℕ)) (events : List Event) → Fits line owners replies events → length replies ≤ length owners
fits-now line owners replies events fits =
    subst (λ os. length replies ≤ length os) (append-nil owners)
    (subst (λ rs. length rs ≤ length (owners ++ [])) (append-nil replies) (fits 0))

zips : (who : ClientId) (line : ℕ) (events : List Event) (b : Board) (owners : List ClientId) (replies : List (List ℕ)) →
    AllByRecursion (UsesOneLine who line) events → AllByRecursion (IsAnswered who line) events → Fits line owners replies events →
    IsOneLine who line b (zipped owners replies) →
    IsOneLine who line (after_events b events) (zipped (owners ++ owners_on line events) (replies ++ replies_on line events))
zips who line [] b owners replies on has fits z = subst (IsOneLine who line b) (as-before owners replies) z
zips who line (e ∷ events) b owners replies on has fits z =
    let next = fits-next line owners replies e events fits in
    let rest = zips who line events (happens b e) (owners ++ owner_of line e) (replies ++ reply_of line e) on.1 has.1 next
    (zip-step who line b owners replies e on.0 has.0 (fits-now line owners replies (e ∷ events) fits)
    (fits-now line (owners ++ owner_of line e) (replies ++ reply_of line e) events next) z) in
    subst (λ os. IsOneLine who line (after_events b (e ∷ events)) (zipped os (replies ++ replies_on line (e ∷ events))))
    (append_assoc owners (owner_of line e) (owners_on line events) ∙ ap (λ os. owners ++ os) (sym (owners-more line e events)))
    (subst (λ rs. IsOneLine who line (after_events b (e ∷ events)) (zipped ((owners ++ owner_of line e) ++ owners_on line events) rs))
    (append_assoc replies (reply_of line e) (replies_on line events) ∙ ap (λ rs. replies ++ rs) (sym (replies-more line e events))) rest)

pub one_zip : (who : ClientId) (line : ℕ) (events : List Event) → IsServedByOne who line events →
    due_on who (after_events nothing_asked events) ≡ answered_to who (owners_on line events) (replies_on line events)
one_zip who line events s =
    due_same who line (after_events nothing_asked events) _ (zips who line events nothing_asked [] [] s.one s.answered s.awaited (begins who line)) ∙
    due_zipped who (owners_on line events) (replies_on line events)

-- a client that is alone

all_to : (who : ClientId) (owners : List ClientId) (replies : List (List ℕ)) → length replies ≤ length owners →
    AllByRecursion (λ (owner : ClientId). owner ≡ who) owners → answered_to who owners replies ≡ concat replies
all_to who [] [] few all = refl
all_to who [] (reply ∷ replies) few all = absurd (omega (arith, few))
all_to who (owner ∷ owners) [] few all = refl
all_to who (owner ∷ owners) (reply ∷ replies) few all =
    ap (λ b. cond b reply [] ++ answered_to who owners replies) (ap (is_same who) all.0 ∙ same-self who) ∙
    ap (λ text. reply ++ text) (all_to who owners replies (omega (arith, few)) all.1)

take-whole : (events : List Event) → take (length events) events ≡ events
take-whole [] = refl
take-whole (e ∷ events) = ap (λ es. e ∷ es) (take-whole events)

pub alone : (who : ClientId) (line : ℕ) (events : List Event) → IsServedByOne who line events →
    AllByRecursion (λ (owner : ClientId). owner ≡ who) (owners_on line events) →
    due_on who (after_events nothing_asked events) ≡ concat (replies_on line events)
alone who line events s all =
    one_zip who line events s ∙
    all_to who (owners_on line events) (replies_on line events)
    (subst (λ es. length (replies_on line es) ≤ length (owners_on line es)) (take-whole events) (s.awaited (length events))) all
