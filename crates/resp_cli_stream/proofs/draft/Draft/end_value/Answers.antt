use Rattle.std.proofs.Common.{◌≡◌, length, refl, arith, vec_len}
use Rattle.resp_cli_stream.proofs.Drafting.{counts_last}
use Rattle.resp_cli_stream.proofs.draft.Draft.end_value.Goals as goal

pub returns-then-count_member-clause-counted : goal.returns-then-count_member-clause-counted
returns-then-count_member-clause-counted c = λ whole.
    let xs = c.args.self.now.aggregates in
    let size : vec_len xs ≡ length xs.items = omega (arith, xs.ok.0) in
    counts_last xs.items (vec_len xs) c.in-Some.aggregate.now c.count_member.new.self size (c.in-Some.ensures.variant.0 refl) c.in-Some.ensures.value
    (c.count_member.ensures c.if-count_member.true)
