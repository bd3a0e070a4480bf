use Rattle.std.proofs.Common.{◌≡◌, ◌∙◌, drop, None, Some, Err, inl, inr, ap, arith, subst, sym}
use Rattle.resp_value.specs.Bounds.{Bounds}
use Rattle.resp_session.specs.Connections.{Connection, shown_pushes, shown_replies}
use Rattle.resp_session.specs.Worlds.{World, connection_at}
use Rattle.resp_wire.proofs.worlds.Places.{none_beyond}
use Rattle.resp_wire.specs.Worlds.{Shows, pushes_with, values_in}
use Rattle.resp_cli_loop.specs.Printed.{HaveTooDeep, push_texts, reply_texts}
use Rattle.resp_print.proofs.Printing.{is_that_error}
use Rattle.resp_cli_loop.proofs.HeardOf.{deep_beyond, never_there, none_at_zero, pushes_beyond, replies_beyond, there_is}
use Rattle.resp_cli_loop.proofs.Printing.{printed_text, prints_as, prints_next, prints_part}
use Rattle.resp_cli_loop.proofs.play.Before.write_heard.Given.{Over}
use Rattle.resp_cli_loop.proofs.play.Before.write_heard.Goals.{After-beyond-pushes, then-self-eq0-via-then-self-eq0, then-self-eq0-via-else-self-eq0+then-self-clients}
use Rattle.resp_cli_loop.proofs.play.Before.write_heard.Goals as goal

-- the replies and the pushes that the client has heard since then
heard : (g : Over) (c : After-beyond-pushes g) (limits : Bounds) (next : World) → Shows g.L.Link.is_honest c.args.world.now limits next →
    (d : Connection) → connection_at next.connections c.args.self.now.client ≡ Some d →
    (values_in c.beyond-replies.result.now ≡ drop c.args.self.now.replies (shown_replies d)) ×
    (pushes_with c.beyond-pushes.result.now ≡ drop c.args.self.now.pushes (shown_pushes d))
heard g c limits next shows d there =
    let b = c.args.self.now in
    let o = connection_at next.connections b.client in (
      ap values_in c.beyond-replies.ensures.items ∙ replies_beyond c.replies.result.now b.replies o d there (c.replies.ensures limits next shows),
      ap pushes_with c.beyond-pushes.ensures.items ∙ pushes_beyond c.pushes.result.now b.pushes o d there (c.pushes.ensures limits next shows),
    )

-- the client has a connection
is_there : (g : Over) (c : After-beyond-pushes g) (limits : Bounds) (next : World) → Shows g.L.Link.is_honest c.args.world.now limits next →
    (d : Connection) × (connection_at next.connections c.args.self.now.client ≡ Some d)
is_there g c limits next shows = there_is next.connections c.args.self.now.client (omega (arith, c.if-self-eq0.false))
    (omega (arith, c.clients.ensures, c.if-self-clients.false, shows.each.as_many))

pub returns-then-self-eq0-clause-prints : goal.returns-then-self-eq0-clause-prints
returns-then-self-eq0-clause-prints g c = λ limits next shows d there.
    let client = c.args.self.now.client in
    let none : connection_at next.connections client ≡ None = elim c.then-self-eq0.branch [
      | then-self-eq0-via-then-self-eq0 at ↦ ap (connection_at next.connections) at.if-self-eq0.true ∙ none_at_zero next.connections
      | then-self-eq0-via-else-self-eq0+then-self-clients at ↦
          none_beyond next.connections client (omega (arith, at.clients.ensures, at.if-self-clients.true, shows.each.as_many))
    ] in
    never_there next.connections client d _ there none

pub returns-in_err-write_replies-clause-prints : goal.returns-in_err-write_replies-clause-prints
returns-in_err-write_replies-clause-prints g c = λ limits next shows d there.
    let b = c.args.self.now in
    let heard = heard g (goal.at.returns-in_err-write_replies-clause-prints g c).After-beyond-pushes limits next shows d there in
    rw (is_that_error c.from_residual.result _ c.from_residual.ensures.1)
    (prints_part c.in_err-write_replies.field-0.0 _ _ _ _ (reply_texts b.client b.replies (drop b.replies (shown_replies d))) (push_texts b.client (drop b.pushes (shown_pushes d)))
    (prints_as (Err c.in_err-write_replies.field-0.0) _ _ _ _ _ _ (ap (reply_texts b.client b.replies) heard.0) c.in_err-write_replies.ensures.prints))

pub returns-clause-prints : goal.returns-clause-prints
returns-clause-prints g c = λ limits next shows d there.
    let b = c.args.self.now in
    let heard = heard g (goal.at.returns-clause-prints g c).After-beyond-pushes limits next shows d there in
    let first = printed_text _ _ _ _ _ _ (ap (reply_texts b.client b.replies) heard.0) c.in_ok-write_replies.ensures.prints in
    let second = prints_as c.write_pushes.result _ _ _ _ _ _ (ap (push_texts b.client) heard.1) c.write_pushes.ensures.prints in
    prints_next c.write_pushes.result _ _ _ _ _ _ (reply_texts b.client b.replies (drop b.replies (shown_replies d)))
    (push_texts b.client (drop b.pushes (shown_pushes d))) first second

pub returns-in_err-write_replies-clause-memory : goal.returns-in_err-write_replies-clause-memory
returns-in_err-write_replies-clause-memory g c = λ memory limits next shows.
    let b = c.args.self.now in
    let at = (goal.at.returns-in_err-write_replies-clause-memory g c).After-beyond-pushes in
    let (d, there) = is_there g at limits next shows in
    let deep = subst HaveTooDeep (heard g at limits next shows d there).0 (c.in_err-write_replies.ensures.memory (sym (is_that_error c.from_residual.result _ c.from_residual.ensures.1) ∙ memory)) in
    record { next = next; shows = shows; client = b.client; connection = d; there = there; deep = inl (deep_beyond b.replies (shown_replies d) deep) }

pub returns-clause-memory : goal.returns-clause-memory
returns-clause-memory g c = λ memory limits next shows.
    let b = c.args.self.now in
    let at = (goal.at.returns-clause-memory g c).After-beyond-pushes in
    let (d, there) = is_there g at limits next shows in
    let deep = subst HaveTooDeep (heard g at limits next shows d there).1 (c.write_pushes.ensures.memory memory) in
    record { next = next; shows = shows; client = b.client; connection = d; there = there; deep = inr (deep_beyond b.pushes (shown_pushes d) deep) }
