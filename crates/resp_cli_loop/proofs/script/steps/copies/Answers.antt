use Rattle.std.proofs.Common.{ℕ, List, [], ◌∷◌, ◌++◌, map, take, Bor, Vec, Global, sym, ap, ◌∙◌}
use Rattle.std.proofs.lemmas.List.{map_push}
use Rattle.resp_value.specs.Words.{texts_of}
use Rattle.resp_cli_loop.proofs.ScriptWords.{taken_more}
use Rattle.resp_cli_loop.proofs.script.steps.copies.Goals as goal

pub loop-word-preserved : goal.loop-word-preserved
loop-word-preserved c =
    let words = c.args.words.now in
    let i = c.loop-word.word-index in
    let none : Bor (List ℕ) = record { ref_ptr = (0, 0); now = [] } in
    let copy = c.in_ok-from_slice.field-0 in
    let before = take i (map (λ (word : Bor (List ℕ)). word.now) words) in
    ap texts_of c.in_ok-push.ensures.items ∙ map_push (λ (word : Vec ℕ Global). word.items) c.loop-word.copies.items copy
    ∙ ap (λ z. z ++ copy.items ∷ []) c.loop-word.invariant
    ∙ ap (λ z. before ++ z ∷ []) c.in_ok-from_slice.ensures.items
    ∙ sym (taken_more words i none c.loop-word-test.true)
