-- How bytes are written.
use Rattle.std.proofs.Common.{◌≡◌, ℕ, List, [], ◌++◌, take, drop, Option, None, Some, IfSome, ap, refl, subst, sym}
use Rattle.std.specs.Borrow.{Bor}
use Rattle.std.specs.Option.{option_map}
use Rattle.std.specs.Prelude.{MatchOption}
use Rattle.std.proofs.lemmas.List.{append-nil, take-append-drop}
use Rattle.resp_board.proofs.Standing.{given-nothing}
use Rattle.resp_board.specs.Histories.{board_of, due_on, with_bytes, with_given}
use Rattle.resp_board.specs.Runs.{HasRun, WhereRun, unsent_on, waiting_for}
use Rattle.resp_board.specs.declared.board.Board.{Board}
use Rattle.resp_board.specs.declared.ticket.ClientId.{ClientId}
use Rattle.resp_proxy.specs.Visiting.{GivesSome, IsOwed, SendsSome}
use Rattle.resp_io.specs.Devices.{Appends}

-- nothing was written
pub appends-none : (held : Option (List ℕ)) → Appends held held []
appends-none None = tt
appends-none (Some held) = ap Some (sym (append-nil held))

-- nothing was written
pub none-given : (result : Option (Bor (List ℕ))) (out out' : Option (List ℕ)) (who : ClientId) (m : Board) →
    option_map (λ (text : Bor (List ℕ)). text.now) result ≡ waiting_for m who →
    WhereRun m (λ p. IfSome result (λ text. p.given who ++ text.now ≡ due_on who (board_of p))) → Appends out out' [] → GivesSome out out' who m m
none-given None out out' who m same answered written = record {
  gone = [];
  written = written;
  owed = subst (λ o. MatchOption o (◌≡◌ {A = List ℕ} [] []) (λ text. IsOwed who [] text m)) same refl;
  run = λ p h. given-nothing m who p h;
}
none-given (Some text) out out' who m same answered written = record {
  gone = [];
  written = written;
  owed = subst (λ o. MatchOption o (◌≡◌ {A = List ℕ} [] []) (λ text. IsOwed who [] text m)) same (record { front = (text.now, refl); answers = answered });
  run = λ p h. given-nothing m who p h;
}

-- the first bytes that wait for a client were written
pub some-given : (out out' : Option (List ℕ)) (who : ClientId) (text : List ℕ) (count : ℕ) (m m' : Board) → Some text ≡ waiting_for m who →
    WhereRun m (λ p. p.given who ++ text ≡ due_on who (board_of p)) → Appends out out' (take count text) →
    WhereRun m (λ p. IfSome (waiting_for m who) (λ text. HasRun m' (with_given who (take count text) p))) → GivesSome out out' who m m'
some-given out out' who text count m m' same answered written passed = record {
  gone = take count text;
  written = written;
  owed = subst (λ o. MatchOption o (take count text ≡ []) (λ t. IsOwed who (take count text) t m)) same
      (record { front = (drop count text, sym (take-append-drop count text)); answers = answered });
  run = λ p h. subst (λ o. IfSome o (λ t. HasRun m' (with_given who (take count t) p))) (sym same) (passed p h);
}

-- the first bytes that wait for the server were written
pub some-sent : (line : ℕ) (out out' : Option (List ℕ)) (text : List ℕ) (count : ℕ) (m m' : Board) → text ≡ unsent_on m line → Appends out out' (take count text) →
    WhereRun m (λ p. HasRun m' (with_bytes line (take count (unsent_on m line)) p)) → SendsSome line out out' m m'
some-sent line out out' text count m m' same written passed = record {
  gone = take count (unsent_on m line);
  written = subst (λ t. Appends out out' (take count t)) same written;
  front = (drop count (unsent_on m line), sym (take-append-drop count (unsent_on m line)));
  run = passed;
}
