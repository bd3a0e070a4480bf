use Rattle.std.proofs.Common.{ℕ, List, map, take, Bor}
use Rattle.std.specs.Prelude.{All}
use Rattle.resp_cli_loop.specs.ScriptSteps.{IsWord}
use Rattle.resp_cli_loop.proofs.script.words.first_fault.Given as goal

abbrev pub invariant-loop-word : goal.invariant-loop-word
invariant-loop-word l = All IsWord (take l.word-index (map (λ (word : Bor (List ℕ)). word.now) l.words))
