use Rattle.std.proofs.Common.{min, ap, ◌∙◌, arith}
use Rattle.std.proofs.lemmas.List.{length_push}
use Rattle.std.proofs.lemmas.Map.Iter.{iter_end}
use Rattle.std.specs.Map.Iter.{deref_pair}
use Rattle.resp_io.specs.Devices.{last_count}
use Rattle.resp_cli_loop.proofs.play.count_keys.Goals as goal

pub loop-preserved : goal.loop-preserved
loop-preserved g c =
    let more = length_push c.loop.yielded c.in-Some.field-0 in
    omega (arith, more, c.loop.invariant, c.saturating_add-count.ensures)

pub returns : goal.returns
returns g c = λ limits w shows.
    let all = iter_end deref_pair w.store c.loop.yielded _ _ _ c.next.result (c.into_iter-iterator.ensures.into_iter_gives ∙ c.entries-items.ensures limits w shows)
    c.loop.yielded_by c.in-None.is c.next.ensures.steps in
    c.loop.invariant ∙ ap (λ n. min n last_count) all.1
