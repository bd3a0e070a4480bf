-- What a visit of a client leaves to the other clients.
use Rattle.std.proofs.Common.{◌≡◌, ◌∙◌, ℕ, false, cond, List, [], ◌∷◌, ◌++◌, Option, None, Some, ap, refl, subst}
use Rattle.resp_board.specs.declared.board.Board.{Board}
use Rattle.resp_board.specs.declared.ticket.ClientId.{ClientId}
use Rattle.resp_board.specs.Boards.{Own, is_same}
use Rattle.resp_board.specs.Histories.{History, board_of, due_on, with_event, with_given}
use Rattle.resp_board.specs.Runs.{HasRun, KeepsOpen, KeepsOthers, waiting_for}
use Rattle.resp_board.proofs.Standing.{asked-other, owned-other, same-waiting}
use Rattle.resp_proxy.specs.Taking.{Answers, Deed, Passes, Queues, Taken, with_last_answer, with_one, with_taken}
use Rattle.resp_proxy.specs.declared.client.Client.{Client as Handle}
use Rattle.resp_proxy.specs.declared.route.Route.{Route}
use Rattle.resp_proxy.specs.declared.visit.Read.{Read}
use Rattle.resp_proxy.specs.Visiting.{GivesSome, ReadsClient}
use Rattle.resp_proxy.specs.Terms.{Terms}

-- the history has the same for another client
record SameFor (other : ClientId) (p q : History) : Type 0 where
  pub given : q.given other ≡ p.given other
  pub due : due_on other (board_of q) ≡ due_on other (board_of p)

same-for : (other : ClientId) (p q r : History) → SameFor other p q → SameFor other q r → SameFor other p r
same-for other p q r first second = record { given = second.given ∙ first.given; due = second.due ∙ first.due }

one-other : (route : Route) (other : ClientId) (deed : Deed) (p : History) → is_same other route.client ≡ false → SameFor other p (with_one route deed p)
one-other route other Passes p differs = record { given = refl; due = refl }
one-other route other (Queues sent) p differs = record { given = refl; due = asked-other other route.client route.line.place sent p differs }
one-other route other (Answers answer) p differs = record { given = refl; due = owned-other other route.client answer p differs }

taken-other : (route : Route) (other : ClientId) (ts : List Taken) (p : History) → is_same other route.client ≡ false →
    SameFor other p (with_taken route ts p)
taken-other route other [] p differs = record { given = refl; due = refl }
taken-other route other (t ∷ ts) p differs =
    same-for other p (with_one route t.deed p) (with_taken route (t ∷ ts) p) (one-other route other t.deed p differs)
    (taken-other route other ts (with_one route t.deed p) differs)

last-other : (route : Route) (other : ClientId) (last : Option (List ℕ)) (p : History) → is_same other route.client ≡ false →
    SameFor other p (with_last_answer route last p)
last-other route other None p differs = record { given = refl; due = refl }
last-other route other (Some answer) p differs = record { given = refl; due = owned-other other route.client answer p differs }

given-other : (who other : ClientId) (gone : List ℕ) (p : History) → is_same other who ≡ false → SameFor other p (with_given who gone p)
given-other who other gone p differs = record { given = ap (λ b. cond b (p.given other ++ gone) (p.given other)) differs; due = refl }

-- each other client has the bytes that it had
others-keep : (other : ClientId) (old new : Board) (p q : History) → SameFor other p q → KeepsOpen old new → HasRun old p → HasRun new q →
    waiting_for new other ≡ waiting_for old other
others-keep other old new p q same clients before after =
    same-waiting old new other p q same.given same.due (clients.clients other) before after

-- an answer of the proxy's own to one client leaves each other client the bytes that it had
pub own-others : (who other : ClientId) (answer : List ℕ) (old new : Board) (p : History) → is_same other who ≡ false → KeepsOpen old new →
    HasRun old p → HasRun new (with_event (Own who answer) p) → waiting_for new other ≡ waiting_for old other
own-others who other answer old new p differs clients before after =
    same-waiting old new other p (with_event (Own who answer) p) refl (owned-other other who answer p differs) (clients.clients other) before after

-- a visit leaves each other client the bytes that it had
pub visit-others : (terms : Terms) (route route' : Route) (left left' out out' : Option (List ℕ)) (held : List ℕ) (c : Handle) (result : Read)
    (old between new : Board) (p : History) → route' ≡ route → ReadsClient terms route left left' held c result old between →
    GivesSome out out' route'.client between new → KeepsOpen old new → HasRun old p → KeepsOthers route.client old new
visit-others terms route route' left left' out out' held c result old between new p same r g clients passed other differs =
    let gives : GivesSome out out' route.client between new = subst (λ (w : Route). GivesSome out out' w.client between new) same g in
    let taken = with_taken route r.takes.taken p in
    let answered = with_last_answer route r.takes.last taken in
    let q = with_given route.client gives.gone answered in
    others-keep other old new p q
    (same-for other p taken q (taken-other route other r.takes.taken p differs)
    (same-for other taken answered q (last-other route other r.takes.last taken differs) (given-other route.client other gives.gone answered differs))) clients
    passed (gives.run answered (r.takes.run p passed))
