use Rattle.std.proofs.Common.{ℕ, List, [], ◌∷◌, ◌++◌, map, take, Bor, sym, ap, ◌∙◌}
use Rattle.std.proofs.lemmas.List.{map_push}
use Rattle.resp_value.specs.declared.value.Value.TheVariants.{Bulk}
use Rattle.resp_value.specs.Values.{content_bytes}
use Rattle.resp_cli_loop.specs.ScriptSteps.{item_word}
use Rattle.resp_cli_loop.proofs.ScriptWords.{taken_more}
use Rattle.resp_cli_loop.proofs.script.steps.items_of.Goals as goal

pub loop-word-preserved : goal.loop-word-preserved
loop-word-preserved c =
    let words = c.args.words.now in
    let i = c.loop-word.word-index in
    let none : Bor (List ℕ) = record { ref_ptr = (0, 0); now = [] } in
    let content = c.new-content.result in
    let before = take i (map (λ (word : Bor (List ℕ)). word.now) words) in
    ap (map item_word) c.in_ok-push.ensures.items ∙ map_push item_word c.loop-word.items.items (Bulk content)
    ∙ ap (λ z. z ++ content_bytes content ∷ []) c.loop-word.invariant
    ∙ ap (λ z. before ++ z ∷ []) (c.new-content.ensures ∙ c.in_ok-from_slice.ensures.items)
    ∙ sym (taken_more words i none c.loop-word-test.true)
