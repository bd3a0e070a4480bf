use Rattle.std.proofs.Common.{◌≡◌, ℕ, List, map, take, Bor}
use Rattle.resp_value.specs.Words.{texts_of}
use Rattle.resp_cli_loop.proofs.script.steps.copies.Given as goal

abbrev pub invariant-loop-word : goal.invariant-loop-word
invariant-loop-word l = texts_of l.copies.items ≡ take l.word-index (map (λ (word : Bor (List ℕ)). word.now) l.words)
