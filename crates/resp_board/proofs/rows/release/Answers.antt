use Rattle.std.proofs.Common.{◌≡◌, Some, ap, slice_get, sym, ◌∙◌}
use Rattle.resp_board.specs.Rows.{begun_in}
use Rattle.resp_board.proofs.Replacing.{read-at, read-behind, rows-kept, rows-released}
use Rattle.resp_board.proofs.rows.release.Goals as goal

pub release-released-requires : goal.release-released-requires
release-released-requires c =
    let here : slice_get c.args.lines.now.items c.args.from ≡ Some c.replace-moved.result =
    read-at c.args.lines.now.items c.args.from c.in-Some.queue.now c.requires.from_there c.in-Some.ensures.value ∙ ap Some (sym c.replace-moved.ensures.value) in
    ap begun_in (sym here) ∙ c.requires.unbegun

pub returns-in-Some-get_mut-2-clause-released : goal.returns-in-Some-get_mut-2-clause-released
returns-in-Some-get_mut-2-clause-released c =
    let lines = c.args.lines.now.items in
    let here : slice_get lines c.args.from ≡ Some c.replace-moved.result =
    read-at lines c.args.from c.in-Some.queue.now c.requires.from_there c.in-Some.ensures.value ∙ ap Some (sym c.replace-moved.ensures.value) in
    let there : slice_get lines c.args.to ≡ Some c.in-Some-get_mut.other.now =
    read-behind lines c.args.from c.args.to _ c.in-Some-get_mut.other.now c.requires.apart c.requires.to_there c.in-Some-get_mut.ensures.value in
    rows-released c.release-released.result lines c.args.from c.args.to _ c.replace-moved.result c.in-Some-get_mut.other.now _ _ c.requires.apart here there
    c.release-released.ensures.moved c.release-released.ensures.emptied

pub returns-in-Some-get_mut-2-clause-unchanged : goal.returns-in-Some-get_mut-2-clause-unchanged
returns-in-Some-get_mut-2-clause-unchanged c =
    let lines = c.args.lines.now.items in
    let here : slice_get lines c.args.from ≡ Some c.replace-moved.result =
    read-at lines c.args.from c.in-Some.queue.now c.requires.from_there c.in-Some.ensures.value ∙ ap Some (sym c.replace-moved.ensures.value) in
    let there : slice_get lines c.args.to ≡ Some c.in-Some-get_mut.other.now =
    read-behind lines c.args.from c.args.to _ c.in-Some-get_mut.other.now c.requires.apart c.requires.to_there c.in-Some-get_mut.ensures.value in
    rows-kept c.release-released.result lines c.args.from c.args.to _ c.replace-moved.result c.in-Some-get_mut.other.now _ _ c.requires.apart here there
    c.release-released.ensures.unchanged c.release-released.ensures.unchanged_to
