use Rattle.std.proofs.Common.{◌+◌, sym, subst}
use Rattle.std.proofs.lemmas.List.{length-set}
use Rattle.resp_value.specs.Rules.{rules_under}
use Rattle.resp_flat.specs.Plain.{IsValueAt}
use Rattle.resp_flat.proofs.ValuesRead.{leaf_is_value}
use Rattle.resp_flat.proofs.reading.leaf_into.Goals as goal

pub returns-clause-value : goal.returns-clause-value
returns-clause-value c level =
    let r = rules_under c.args.version c.args.limits.now in
    subst (λ l. IsValueAt r level c.args.buffer.now c.args.filled (record { end = c.in_ok-found.found.end; count = c.args.filled.count + 1 }) c.args.nodes.now l)
    (sym c.put.ensures)
    (leaf_is_value r level c.args.buffer.now c.args.filled c.in_ok-found.found.end c.in_ok-found.found.node
    c.args.nodes.now (length-set c.args.nodes.now c.args.filled.count c.in_ok-found.found.node) c.in_ok-found.ensures.found)
