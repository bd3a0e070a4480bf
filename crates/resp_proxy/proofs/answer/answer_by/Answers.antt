use Rattle.std.proofs.Common.{◌∙◌, subst, sym}
use Rattle.resp_frames.proofs.SameWords.{first_of}
use Rattle.resp_frames.specs.Keys.{IsFirst}
use Rattle.resp_proxy.proofs.OwnReplies.{another-known, answered-by}
use Rattle.resp_proxy.proofs.answer.answer_by.Goals as goal

pub returns : goal.returns
returns c listed =
    let route = c.args.route in
    let name = c.args.name.now in
    let first = c.next-first.result in
    answered-by c.react.result route c.args.own_name.now.items _ _ name c.args.words first c.reaction_to-reaction.ensures
    (subst (λ a. IsFirst a first) c.iter.ensures (first_of c.iter.result c.next-first.new.self first c.next-first.ensures.steps))
    (c.react.ensures (λ is. another-known route.is_first c.args.class name c.args.words listed (sym c.reaction_to-reaction.ensures ∙ is)))
