use Rattle.resp_scan.proofs.Wholes.ManyWords.{HasReadWords}
use Rattle.resp_scan.proofs.whole.after_words.Given as goal

abbrev pub invariant-loop : goal.invariant-loop
invariant-loop l = HasReadWords l.most l.text l.counter l.rest
