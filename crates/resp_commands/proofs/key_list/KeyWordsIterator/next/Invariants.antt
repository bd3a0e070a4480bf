use Rattle.std.proofs.Common.{length, ◌≡◌, ◌+◌, ◌<◌, ◌^◌}
use Rattle.resp_commands.specs.KeyWords.{keys_after}
use Rattle.resp_commands.proofs.key_list.KeyWordsIterator.next.Given as goal

abbrev pub invariant-loop-word : goal.invariant-loop-word
invariant-loop-word l =
    (l.self-inside.place + length l.self-inside.words < 2 ^ 64) ×
    (keys_after l.self-inside.places l.self-inside.place l.self-inside.words ≡
    keys_after l.initial.self-inside.places l.initial.self-inside.place l.initial.self-inside.words)

abbrev pub decreases-loop-word : goal.decreases-loop-word
decreases-loop-word l = length l.self-inside.words
