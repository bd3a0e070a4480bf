use Rattle.std.proofs.Common.{◌-◌, ◌+◌, ◌≡◌, ◌∙◌, ◌++◌, ap, take, drop, length, arith}
use Rattle.std.proofs.lemmas.List.{length-take-le, length-drop}
use Rattle.resp_print.proofs.Quoted.{take-put}
use Rattle.resp_print.proofs.quote.put_quoted.Goals as goal

pub returns-clause-more : goal.returns-clause-more
returns-clause-more c =
    let at = c.args.at in
    let room = c.args.quoted.now in
    let four : length c.copy_from_slice.new.self ≡ at + 4 - at =
    c.copy_from_slice.ensures.len ∙ length-take-le (at + 4 - at) (drop at room) (omega (arith, length-drop at room, c.requires)) in
    take-put at c.quote-count.result.1 room c.copy_from_slice.new.self _ (omega (arith, c.requires)) (omega (arith, four, c.quote-count.ensures.within)) ∙
    ap (λ text. take at room ++ text) (ap (take c.quote-count.result.1) c.copy_from_slice.ensures.after ∙ c.quote-count.ensures.quoted)
