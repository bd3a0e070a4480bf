-- What is true of the clients and lines of a board, whatever happened.
use Rattle.std.proofs.Common.{arith, ◌≡◌, ℕ, ◌+◌, Bool, true, false, cond, List, [], ◌∷◌, ◌++◌, length, map, Option, None, Some, IfSome, is_some, slice_get, refl, sym, ap, subst, ◌∙◌, inl, inr}
use Rattle.std.specs.List.{concat}
use Rattle.std.specs.Option.{option_map}
use Rattle.std.proofs.lemmas.Bool.{cases_eq, true≢false}
use Rattle.std.proofs.lemmas.List.{append-nil, append_cancel_left, length-append, length-map}
use Rattle.resp_board.specs.declared.desk.Desk.{Desk}
use Rattle.resp_board.specs.declared.ticket.ClientId.{ClientId}
use Rattle.resp_board.specs.Answers.{front_answers}
use Rattle.resp_board.specs.Boards.{Ask, Own, first_part, is_same, nothing_asked, with_line}
use Rattle.resp_board.specs.Desks.{HasAnswers, later, out_of, waiting_count as desk_count}
use Rattle.resp_board.specs.Histories.{History, board_of, due_on, with_bytes, with_event, with_given}
use Rattle.resp_board.specs.Joins.{Carries}
use Rattle.resp_board.specs.Runs.{HasRun, waiting_count, waiting_for}
use Rattle.resp_board.specs.Seats.{Serves, desk_in}
use Rattle.resp_board.specs.Tickets.{answers_for}
use Rattle.resp_board.proofs.Joining.{after-more}
use Rattle.resp_board.proofs.Later.{after_length}
use Rattle.resp_board.proofs.LineLists.{at-line, off-line}
use Rattle.resp_board.proofs.Ready.{front_told}
use Rattle.resp_board.proofs.Running.{Machine}
use Rattle.resp_board.proofs.Serving.{answers-others}

same-given : (b : Bool) (text : List ℕ) → cond b (text ++ []) text ≡ text
same-given true text = append-nil text
same-given false text = refl

-- no bytes were given to a client
pub given-nothing : (m : Machine) (who : ClientId) (h : History) → HasRun m h → HasRun m (with_given who [] h)
given-nothing m who h j = record {
  served = λ w.
      subst (λ given. Serves m.clients.slots w (answers_for w (board_of h).entries) given) (sym (same-given (is_same w who) (h.given w))) (j.served w);
  carried = j.carried;
  single = j.single;
  numbered = j.numbered;
  seated = j.seated;
  ungiven = λ w above. same-given (is_same w who) (h.given w) ∙ j.ungiven w above;
}

same-sent : (line : ℕ) (sent : ℕ → List ℕ) (l : ℕ) → with_line line (sent line ++ []) sent l ≡ sent l
same-sent line sent l = elim (cases_eq l line) [
  | inl same ↦ ap (with_line line (sent line ++ []) sent) same ∙ at-line line (sent line ++ []) sent ∙ append-nil (sent line) ∙ ap sent (sym same)
  | inr apart ↦ off-line line (sent line ++ []) sent l apart
]

-- no bytes were sent over a line
pub sent-nothing : (m : Machine) (line : ℕ) (h : History) → HasRun m h → HasRun m (with_bytes line [] h)
sent-nothing m line h j =
    let b = board_of h in
    record {
      served = j.served;
      carried = λ l.
          subst (Carries (slice_get m.lines.items l) b.entries (b.waiting l) (b.commands l)) (sym (same-sent line h.sent l)) (j.carried l);
      single = j.single;
      numbered = j.numbered;
      seated = j.seated;
      ungiven = j.ungiven;
    }

-- of a client's commands as many have no answer as wait
pub unanswered : (d : Desk) (answers : List (Option (List ℕ))) (given : List ℕ) → HasAnswers d answers given →
    desk_count d + length (front_answers answers) ≡ length answers
unanswered d answers given h =
    let told = ap length (ap front_answers h.whole ∙ front_told h.told (later d) h.missing) in
    let count = h.count in
    let range = d.in_range.0 in
    let whole = ap length h.whole in
    let sum = length-append (map Some h.told) (later d) in
    let same = length-map h.told Some in
    let rest = after_length d.early.items d.done d.asked range in
    omega (arith, told, count, range, whole, sum, same, rest)

counts : (o : Option Desk) (answers : List (Option (List ℕ))) (given : List ℕ) (count : ℕ) → option_map desk_count o ≡ Some count →
    IfSome o (λ d. HasAnswers d answers given) → count + length (front_answers answers) ≡ length answers
counts None answers given count is h = absurd (grind arith)
counts (Some d) answers given count is h = let all = unanswered d answers given h in grind arith

-- if no command of a client waits, all its commands have their answers
pub all-have-answers : (m : Machine) (who : ClientId) (h : History) → HasRun m h → waiting_count m who ≡ Some 0 →
    length (front_answers (answers_for who (board_of h).entries)) ≡ length (answers_for who (board_of h).entries)
all-have-answers m who h j none =
    let all = counts (desk_in m.clients.slots who) (answers_for who (board_of h).entries) (h.given who) 0 none (j.served who) in omega (arith, all)

same-some : (a b : List ℕ) → Some a ≡ Some b → a ≡ b
same-some a b e = cc

owed : (o : Option Desk) (answers : List (Option (List ℕ))) (given text : List ℕ) → option_map out_of o ≡ Some text →
    IfSome o (λ d. HasAnswers d answers given) → given ++ text ≡ concat (front_answers answers)
owed None answers given text is h = absurd (grind arith)
owed (Some d) answers given text is h =
    ap (λ t. given ++ t) (sym (same-some (out_of d) text is)) ∙ h.out ∙
    ap concat (sym (ap front_answers h.whole ∙ front_told h.told (later d) h.missing))

-- the bytes that wait for a client are the last of those that are due to it
pub waits-due : (m : Machine) (who : ClientId) (h : History) (text : List ℕ) → HasRun m h → waiting_for m who ≡ Some text →
    h.given who ++ text ≡ due_on who (board_of h)
waits-due m who h text j is = owed (desk_in m.clients.slots who) (answers_for who (board_of h).entries) (h.given who) text is (j.served who)

both : (o p : Option (List ℕ)) (given due : List ℕ) → is_some o ≡ is_some p → ((text : List ℕ) → o ≡ Some text → given ++ text ≡ due) →
    ((text : List ℕ) → p ≡ Some text → given ++ text ≡ due) → o ≡ p
both None None given due same a b = refl
both None (Some t) given due same a b = absurd (true≢false (sym same))
both (Some s) None given due same a b = absurd (true≢false same)
both (Some s) (Some t) given due same a b = ap Some (append_cancel_left given s t (a s refl ∙ sym (b t refl)))

-- a client to which the same is due, and which was given the same, has the bytes that it had
pub same-waiting : (old new : Machine) (who : ClientId) (h i : History) → i.given who ≡ h.given who → due_on who (board_of i) ≡ due_on who (board_of h) →
    is_some (waiting_for new who) ≡ is_some (waiting_for old who) → HasRun old h → HasRun new i → waiting_for new who ≡ waiting_for old who
same-waiting old new who h i given due seated before after =
    both (waiting_for new who) (waiting_for old who) (h.given who) (due_on who (board_of h)) seated
    (λ text is. ap (λ g. g ++ text) (sym given) ∙ waits-due new who i text after is ∙ due) (λ text is. waits-due old who h text before is)

-- a command of another client leaves what is due to a client
pub asked-other : (who other : ClientId) (line : ℕ) (text : List ℕ) (h : History) → is_same who other ≡ false →
    due_on who (board_of (with_event (Ask other line text) h)) ≡ due_on who (board_of h)
asked-other who other line text h apart =
    ap (due_on who) (after-more nothing_asked h.events (Ask other line text)) ∙
    ap (λ answers. concat (front_answers answers))
    (answers-others who (board_of h).entries (record { client = other; parts = None ∷ []; merge = first_part }) apart)

pub owned-other : (who other : ClientId) (text : List ℕ) (h : History) → is_same who other ≡ false →
    due_on who (board_of (with_event (Own other text) h)) ≡ due_on who (board_of h)
owned-other who other text h apart =
    ap (due_on who) (after-more nothing_asked h.events (Own other text)) ∙
    ap (λ answers. concat (front_answers answers))
    (answers-others who (board_of h).entries (record { client = other; parts = Some text ∷ []; merge = first_part }) apart)
