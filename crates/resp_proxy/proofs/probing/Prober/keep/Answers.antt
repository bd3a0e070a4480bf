use Rattle.std.proofs.Common.{◌∙◌, ◌++◌, ap, sym, take}
use Rattle.std.proofs.lemmas.List.{take-append-drop}
use Rattle.resp_proxy.proofs.probing.Prober.keep.Goals as goal

pub returns-clause-rest : goal.returns-clause-rest
returns-clause-rest c =
    let items = c.args.self.now.expected.items in
    let gone = c.saturating_sub-gone.result in
    (take gone items, sym (take-append-drop gone items) ∙ ap (λ z. take gone items ++ z) (sym c.advance.ensures.items))
