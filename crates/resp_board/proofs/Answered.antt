-- Which commands of a line have their replies after a call.
use Rattle.std.proofs.Common.{arith, ◌≡◌, ℕ, ◌+◌, ◌≤◌, [], ◌∷◌, ◌++◌, length, append_assoc, refl, sym, ap, ◌∙◌}
use Rattle.std.proofs.lemmas.List.{length-append, length-map}
use Rattle.resp_board.specs.declared.ticket.ClientId.{ClientId}
use Rattle.resp_board.specs.declared.ticket.Ticket.{Ticket}
use Rattle.resp_board.specs.Runs.{HasAnswered, IsUnchanged, KeepsOthers, begun_on, clients_on, waiting_on}
use Rattle.resp_board.proofs.Among.{not_among, not_one}
use Rattle.resp_board.proofs.Running.{Machine}

-- no command has its reply yet
pub none-answered : (line most : ℕ) (m : Machine) → HasAnswered line most m m
none-answered line most m = record { answered = []; first = refl; few = omega arith; others = λ who none. refl }

-- the command that waited first has its reply
pub one-answered : (line : ℕ) (old new : Machine) (who : ClientId) → clients_on old line ≡ who ∷ clients_on new line → KeepsOthers who old new →
    HasAnswered line 1 old new
one-answered line old new who first others = record {
  answered = who ∷ [];
  first = first;
  few = omega arith;
  others = λ other none. others other (not_one other who none);
}

-- more commands have their replies
pub more-answered : (line few more most : ℕ) (old mid new : Machine) (a : HasAnswered line few old mid) (b : HasAnswered line more mid new) →
    length a.answered + length b.answered ≤ most → HasAnswered line most old new
more-answered line few more most old mid new a b within = record {
  answered = a.answered ++ b.answered;
  first = a.first ∙ ap (λ cs. a.answered ++ cs) b.first ∙ sym (append_assoc a.answered b.answered (clients_on new line));
  few = let all = length-append a.answered b.answered in omega (arith, all, within);
  others = λ who none.
      let apart = not_among who a.answered b.answered none in
      b.others who apart.1 ∙ a.others who apart.0;
}

waits : (line : ℕ) (m : Machine) → length (clients_on m line) ≡ length (waiting_on m line)
waits line m = length-map (waiting_on m line) (λ (t : Ticket). t.client)

-- no more commands have their replies than waited
pub of-those-that-waited : (line most : ℕ) (old new : Machine) → HasAnswered line most old new → HasAnswered line (length (waiting_on old line)) old new
of-those-that-waited line most old new a = record {
  answered = a.answered;
  first = a.first;
  few =
      let all = ap length a.first in
      let sum = length-append a.answered (clients_on new line) in
      let same = waits line old in
      omega (arith, all, sum, same);
  others = a.others;
}

-- nothing has changed since
pub answered-before : (line most : ℕ) (old mid new : Machine) → HasAnswered line most old mid → IsUnchanged line mid new → HasAnswered line most old new
answered-before line most old mid new a u = record {
  answered = a.answered;
  first = a.first ∙ ap (λ cs. a.answered ++ cs) (sym u.clients);
  few = a.few;
  others = λ who none. u.bytes who ∙ a.others who none;
}

-- of the commands that waited on a line, more have their replies
pub joined-answered : (line few more : ℕ) (old mid new : Machine) → HasAnswered line few old mid → HasAnswered line more mid new →
    HasAnswered line (length (waiting_on old line)) old new
joined-answered line few more old mid new a b =
    of-those-that-waited line (length a.answered + length b.answered) old new
    (more-answered line few more (length a.answered + length b.answered) old mid new a b (omega arith))

-- the commands that have their replies, and those of which a byte was sent, are those of which a byte was sent before
abbrev pub Begun : ℕ → Machine → Machine → Type 0
Begun line old new = (a : HasAnswered line (begun_on old line) old new) × (length a.answered + begun_on new line ≡ begun_on old line)

pub begun-none : (line : ℕ) (m : Machine) → Begun line m m
begun-none line m = (record { answered = []; first = refl; few = omega arith; others = λ who none. refl }, omega arith)

pub begun-more : (line : ℕ) (old mid new : Machine) (who : ClientId) → Begun line old mid → clients_on mid line ≡ who ∷ clients_on new line →
    KeepsOthers who mid new → begun_on new line + 1 ≡ begun_on mid line → Begun line old new
begun-more line old mid new who b first others fewer =
    let a = b.0 in
    let before = b.1 in
    let sum = length-append a.answered (who ∷ []) in (
      record {
        answered = a.answered ++ who ∷ [];
        first = a.first ∙ ap (λ cs. a.answered ++ cs) first ∙ sym (append_assoc a.answered (who ∷ []) (clients_on new line));
        few = omega (arith, sum, before, fewer);
        others = λ other none.
            let apart = not_among other a.answered (who ∷ []) none in
            others other (not_one other who apart.1) ∙ a.others other apart.0;
      },
      omega (arith, sum, before, fewer),
    )
