use Rattle.resp_scan.proofs.Wholes.ManyWords.{HasReadWords}
use Rattle.resp_frames.proofs.known_head.after_words.Given as goal

abbrev pub invariant-loop : goal.invariant-loop
invariant-loop l = HasReadWords l.limits.length l.text l.counter l.rest
