use Rattle.std.proofs.Common.{refl}
use Rattle.resp_cli_stream.proofs.Drafting.{draft_cleared}
use Rattle.resp_cli_stream.proofs.draft.Draft.clear.Goals as goal

pub returns-clause-next : goal.returns-clause-next
returns-clause-next c = λ x is.
    draft_cleared c.args.self.now (record c.args.self.now { text = c.clear.new.self }) x is refl refl refl c.clear.ensures.items
