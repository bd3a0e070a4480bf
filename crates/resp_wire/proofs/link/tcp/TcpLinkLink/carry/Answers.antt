use Rattle.std.proofs.Common.{◌≡◌, ◌∙◌, ℕ, Result, Ok, Err, ap, sym, subst, IfErr}
use Rattle.std.specs.Prelude.{IsErrOf}
use Rattle.resp_value.specs.declared.cause.Cause.TheVariants as cause
use Rattle.resp_wire.specs.Links.{IsOutOfTurns}
use Rattle.resp_wire.specs.TcpLinks.{receiving_end, sending_end}
use Rattle.resp_wire.specs.declared.link.Direction.{Direction}
use Rattle.resp_wire.specs.declared.link.Direction.TheVariants.{ToServer, ToClient}
use Rattle.resp_wire.specs.declared.link.LinkFault.{LinkFault}
use Rattle.resp_wire.specs.declared.link.tcp.TcpLink.{TcpLink}
use Rattle.resp_wire.proofs.link.tcp.TcpLinkLink.carry.Goals as goal
use Rattle.resp_wire.proofs.link.tcp.TcpLinkLink.carry.Goals.{in-Ok, in-Err}
use Rattle.resp_io.specs.Turns.{SpendsAtMost}

-- a count of failures says nothing of the turns
turns_kept : (way : Direction) (old new : TcpLink) (n most : ℕ) (Out Out' : Type 0) → (Out' → Out) →
    SpendsAtMost (sending_end way old).calls (sending_end way new).calls (receiving_end way old).calls (receiving_end way new).calls most Out →
    SpendsAtMost (sending_end way old).calls (sending_end way (record new { failures = n })).calls (receiving_end way old).calls
    (receiving_end way (record new { failures = n })).calls most Out'
turns_kept ToServer old new n most Out Out' weaker (left, spends, out) = (left, spends, λ x. out (weaker x))
turns_kept ToClient old new n most Out Out' weaker (left, spends, out) = (left, spends, λ x. out (weaker x))

-- bytes that differ are not turns that are used up
differs : (r : Result (Unit {0}) LinkFault) → IfErr r (λ fault. fault.cause ≡ cause.Read) → IsOutOfTurns r → ⊥
differs (Ok done) read out = out
differs (Err fault) read out = absurd (let z : cause.Read ≡ cause.TooManyTurns = sym read ∙ out in cc)

pub returns-then-is_err-clause-turns : goal.returns-then-is_err-clause-turns
returns-then-is_err-clause-turns c =
    turns_kept c.args.direction c.args.self.now c.pass_along.new.self c.saturating_add-self.result 65536 (IsErrOf c.pass_along.result cause.TooManyTurns)
    (IsOutOfTurns c.match-pass_along.passed)
    (elim c.match-pass_along.branch as (λ _. IsOutOfTurns c.match-pass_along.passed → IsErrOf c.pass_along.result cause.TooManyTurns) [
      | in-Ok w ↦ λ out. absurd (differs w.compare-passed.result w.compare-passed.ensures.refusal (subst IsOutOfTurns w.passed-is out))
      | in-Err w ↦ λ out. w.in-Err.is ∙ ap Err (subst IsOutOfTurns w.passed-is out)
    ]) c.pass_along.ensures.turns
