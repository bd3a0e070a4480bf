use Rattle.std.proofs.Common.{◌≡◌, ◌-◌, ◌≤◌, ℕ, List, [], drop, length, take}
use Rattle.resp_print.proofs.Printing.{HasPrintedUpTo}
use Rattle.resp_tap.specs.Parts.{AreKeptOf, word_lengths}
use Rattle.resp_tap.specs.Secrets.{AreLeft, redacted_after}
use Rattle.resp_tap.specs.Texts.{words_text}
use Rattle.resp_tap.proofs.print.write_words.Given as goal

-- of the whole words those before this one are printed, and the lengths of those from it on are left
abbrev pub invariant-loop-index : goal.invariant-loop-index
invariant-loop-index g l = record {
  within : l.index ≤ length l.words;
  left : (whole : List (List ℕ)) → AreKeptOf l.options.shown.most l.options.kept.most whole l.words l.lengths → AreLeft l.secrets (take l.index whole) l.left;
  longer : (whole : List (List ℕ)) → AreKeptOf l.options.shown.most l.options.kept.most whole l.words l.lengths →
      l.longer ≡ word_lengths l.options.kept.most (drop l.index whole);
  printed : (whole : List (List ℕ)) → AreKeptOf l.options.shown.most l.options.kept.most whole l.words l.lengths →
      HasPrintedUpTo (words_text l.options.shown.most (redacted_after l.secrets [] whole))
      (words_text l.options.shown.most (redacted_after l.secrets (take l.index whole) (drop l.index whole)))
      (g.W.Sink.written l.initial.writer) (g.W.Sink.written l.writer)
      (g.W.Sink.failures l.initial.writer) (g.W.Sink.failures l.writer);
}

abbrev pub decreases-loop-index : goal.decreases-loop-index
decreases-loop-index g l = length l.words - l.index
