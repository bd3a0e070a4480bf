use Rattle.std.proofs.Common.{length, sym, ap, ◌∙◌, arith}
use Rattle.resp_scan.proofs.Wholes.ManyWords.{first_in, first_read}
use Rattle.resp_scan.proofs.whole.CommandArgumentsIterator.next.Goals as goal

pub first_word-found-requires : goal.first_word-found-requires
first_word-found-requires c =
    let (word, next, first, is, left) = first_in 1_073_741_824 c.self.inside.left c.self.inside.text.now c.if-self-eq0.false c.self.invariant in
    (word, next, first)

pub invariant_of-self : goal.invariant_of-self
invariant_of-self c = (first_read 1_073_741_824 c.self.inside.left c.self.inside.text.now c.first_word-found.result.content.now
    c.first_word-found.result.rest.now c.if-self-eq0.false c.self.invariant c.first_word-found.ensures).1

pub returns-clause-steps : goal.returns-clause-steps
returns-clause-steps c = sym c.self.view_is ∙ (first_read 1_073_741_824 c.self.inside.left c.self.inside.text.now
    c.first_word-found.result.content.now c.first_word-found.result.rest.now c.if-self-eq0.false c.self.invariant c.first_word-found.ensures).0

pub returns-clause-goes : goal.returns-clause-goes
returns-clause-goes c =
    let one_less = ap length (returns-clause-steps c) in
    record { on = λ finite. (tt, tt, omega (arith, one_less)); keeps = tt; rests = λ finite. tt }
