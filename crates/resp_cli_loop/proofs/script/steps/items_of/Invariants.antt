use Rattle.std.proofs.Common.{◌≡◌, ℕ, List, map, take, Bor}
use Rattle.resp_cli_loop.specs.ScriptSteps.{item_word}
use Rattle.resp_cli_loop.proofs.script.steps.items_of.Given as goal

abbrev pub invariant-loop-word : goal.invariant-loop-word
invariant-loop-word l = map item_word l.items.items ≡ take l.word-index (map (λ (word : Bor (List ℕ)). word.now) l.words)
