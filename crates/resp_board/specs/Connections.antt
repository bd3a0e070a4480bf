-- One line as a client sees it that uses no other: a connection whose server replies to one command after another.
use Rattle.std.specs.Prelude.{◌≡◌, ◌≢◌, ℕ, zero, suc, ◌==◌, ◌≤◌, false, List, [], ◌∷◌, ◌++◌, length, map, take, Option, None, Some, is_some, unwrap_or, if◌then◌else◌}
use Rattle.std.specs.List.{AllByRecursion, concat}
use Rattle.resp_board.specs.declared.ticket.ClientId.{ClientId}
use Rattle.resp_board.specs.Answers.{front_answers}
use Rattle.resp_board.specs.Boards.{Ask, Event, Fail, Lose, Own, Part, Redirect, Release, ReleaseBehind, Reply, Split, is_same}

-- a command: its client, and its answer once there is one
pub record Asked : Type 0 where
  pub client : ClientId
  pub answer : Option (List ℕ)

-- the answers to a client's commands, in the order of its commands
abbrev pub answers_to : ClientId → List Asked → List (Option (List ℕ))
answers_to who [] = []
answers_to who (a ∷ asked) = if is_same who a.client then a.answer ∷ answers_to who asked else answers_to who asked

-- the bytes that are due to a client: the answers to its own commands in order, up to the first that is missing
abbrev pub due_to : ClientId → List Asked → List ℕ
due_to who asked = concat (front_answers (answers_to who asked))

-- the commands, after the first without an answer got this one
abbrev pub with_next_answer : List ℕ → List Asked → List Asked
with_next_answer text [] = []
with_next_answer text (a ∷ asked) =
    if is_some a.answer then a ∷ with_next_answer text asked
    else (record { client = a.client; answer = Some text }) ∷ asked

-- the commands, after this many without an answer got this one, from the first on
abbrev pub with_next_answers : ℕ → List ℕ → List Asked → List Asked
with_next_answers zero text asked = asked
with_next_answers (suc count) text asked = with_next_answers count text (with_next_answer text asked)

-- the commands, after each without an answer got this one
abbrev pub with_all_answered : List ℕ → List Asked → List Asked
with_all_answered text asked = map (λ (a : Asked). record { client = a.client; answer = Some (unwrap_or a.answer text) }) asked

-- the commands of a connection after an event of its line; events of other lines do not change them
abbrev pub passes : ℕ → List Asked → Event → List Asked
passes line asked (Ask who to text) = if to == line then asked ++ (record { client = who; answer = None }) ∷ [] else asked
passes line asked (Split who parts merge) = asked
passes line asked (Own who text) = asked ++ (record { client = who; answer = Some text }) ∷ []
passes line asked (Reply from text) = if from == line then with_next_answer text asked else asked
passes line asked (Redirect from to) = asked
passes line asked (Release from to) = asked
passes line asked (ReleaseBehind who text from to) = asked
passes line asked (Lose from count text) = if from == line then with_next_answers count text asked else asked
passes line asked (Fail from text) = if from == line then with_all_answered text asked else asked

abbrev pub after_passing : ℕ → List Asked → List Event → List Asked
after_passing line asked [] = asked
after_passing line asked (e ∷ es) = after_passing line (passes line asked e) es

-- The client's commands go to this line alone, and no part is moved from it or to it. The commands of others go to any lines.
abbrev pub UsesOneLine : ClientId → ℕ → Event → Type 0
UsesOneLine who line (Ask other to text) = to ≢ line → is_same who other ≡ false
UsesOneLine who line (Split other parts merge) = (is_same who other ≡ false) × AllByRecursion (λ (p : Part). p.line ≢ line) parts
UsesOneLine who line (Own other text) = Unit {0}
UsesOneLine who line (Reply from text) = Unit {0}
UsesOneLine who line (Redirect from to) = (from ≢ line) × (to ≢ line)
UsesOneLine who line (Release from to) = (from ≢ line) × (to ≢ line)
UsesOneLine who line (ReleaseBehind other text from to) = (is_same who other ≡ false) × (from ≢ line) × (to ≢ line)
UsesOneLine who line (Lose from count text) = Unit {0}
UsesOneLine who line (Fail from text) = Unit {0}

-- the line keeps its connection, and the client has no answer of the proxy's own
abbrev pub IsAnswered : ClientId → ℕ → Event → Type 0
IsAnswered who line (Ask other to text) = Unit {0}
IsAnswered who line (Split other parts merge) = Unit {0}
IsAnswered who line (Own other text) = is_same who other ≡ false
IsAnswered who line (Reply from text) = Unit {0}
IsAnswered who line (Redirect from to) = Unit {0}
IsAnswered who line (Release from to) = Unit {0}
IsAnswered who line (ReleaseBehind other text from to) = Unit {0}
IsAnswered who line (Lose from count text) = from ≢ line
IsAnswered who line (Fail from text) = from ≢ line

-- the clients of the commands that go to a line, in order
abbrev pub owners_on : ℕ → List Event → List ClientId
owners_on line [] = []
owners_on line (Ask who to text ∷ es) = if to == line then who ∷ owners_on line es else owners_on line es
owners_on line (_ ∷ es) = owners_on line es

-- the replies of the server of a line, in order
abbrev pub replies_on : ℕ → List Event → List (List ℕ)
replies_on line [] = []
replies_on line (Reply from text ∷ es) = if from == line then text ∷ replies_on line es else replies_on line es
replies_on line (_ ∷ es) = replies_on line es

-- at no time has the server of the line replied to more commands than went there
abbrev pub AreAwaited : ℕ → List Event → Type 0
AreAwaited line events = (count : ℕ) → length (replies_on line (take count events)) ≤ length (owners_on line (take count events))

-- The answers to a client if the commands of these clients, in this order, have these replies: the replies to its own
-- commands, in their order.
abbrev pub answered_to : ClientId → List ClientId → List (List ℕ) → List ℕ
answered_to who [] replies = []
answered_to who (owner ∷ owners) [] = []
answered_to who (owner ∷ owners) (reply ∷ replies) =
    (if is_same who owner then reply else []) ++ answered_to who owners replies
