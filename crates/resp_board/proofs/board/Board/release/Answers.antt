use Rattle.std.proofs.Common.{◌≢◌, arith}
use Rattle.std.proofs.lemmas.Grind.{common_steps}
use Rattle.resp_board.proofs.Releasing.{lacks-none, lines-kept, release-somehow, releases}
use Rattle.resp_board.proofs.Running.{some-row}
use Rattle.resp_board.proofs.board.Board.release.Goals as goal

pub invariant_of-self : goal.invariant_of-self
invariant_of-self c =
    let i = c.args.self.now in
    let apart : c.args.from.place ≢ c.args.to.place = λ same. absurd (grind (arith, common_steps)) in
    let here = some-row i.lines.items c.args.from.place (grind (arith, common_steps)) in
    let there = some-row i.lines.items c.args.to.place (grind (arith, common_steps)) in record {
      run = release-somehow c.release.result i.clients.slots i.lines.items c.release.new.lines.items i.last c.args.from.place c.args.to.place apart here there
          c.release.ensures.released c.release.ensures.unchanged i.run;
    }

pub returns-in_default-clause-no_line : goal.returns-in_default-clause-no_line
returns-in_default-clause-no_line c =
    let i = c.args.self.now in
    let apart : c.args.from.place ≢ c.args.to.place = λ same. absurd (grind (arith, common_steps)) in
    let here = some-row i.lines.items c.args.from.place (grind (arith, common_steps)) in
    let there = some-row i.lines.items c.args.to.place (grind (arith, common_steps)) in (
      λ e. absurd (cc),
      λ l. absurd (lacks-none i c.args.from.place c.args.to.place apart here there l),
    )

pub returns-in_default-clause-unchanged : goal.returns-in_default-clause-unchanged
returns-in_default-clause-unchanged c h j =
    let i = c.args.self.now in
    lines-kept i.clients.slots i.lines.items c.release.new.lines.items i.last h c.in_default.ensures.unchanged j

pub returns-clause-run : goal.returns-clause-run
returns-clause-run c h j =
    let i = c.args.self.now in
    let apart : c.args.from.place ≢ c.args.to.place = λ same. absurd (grind (arith, common_steps)) in
    let here = some-row i.lines.items c.args.from.place (grind (arith, common_steps)) in
    let there = some-row i.lines.items c.args.to.place (grind (arith, common_steps)) in
    releases i.clients.slots i.lines.items c.release.new.lines.items i.last h c.args.from.place c.args.to.place apart here there c.in-Ok.ensures.released j

pub returns-clause-no_line : goal.returns-clause-no_line
returns-clause-no_line c =
    let i = c.args.self.now in
    let apart : c.args.from.place ≢ c.args.to.place = λ same. absurd (grind (arith, common_steps)) in
    let here = some-row i.lines.items c.args.from.place (grind (arith, common_steps)) in
    let there = some-row i.lines.items c.args.to.place (grind (arith, common_steps)) in (
      λ e. absurd (cc),
      λ l. absurd (lacks-none i c.args.from.place c.args.to.place apart here there l),
    )
