use Rattle.std.proofs.Common.{[], ◌∷◌, sym, ◌∙◌}
use Rattle.resp_fronts.specs.Events as e
use Rattle.resp_value.specs.Kinds.{kind_of}
use Rattle.resp_cli_stream.proofs.Drafting.{draft_hears}
use Rattle.resp_cli_stream.proofs.draft.DraftListener.open.Goals as goal

pub returns : goal.returns
returns c = draft_hears c.args.self.now c.open_aggregate.new.self (e.Open (kind_of c.args.kind) c.args.count ∷ []) c.is_ok.result
    (λ b may is goes. c.open_aggregate.ensures b may is (sym c.is_ok.ensures.value ∙ goes))
