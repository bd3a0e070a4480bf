use Rattle.std.proofs.Common.{refl}
use Rattle.std.proofs.lemmas.List.{get_or-replicate}
use Rattle.resp_stats.proofs.HistogramLemmas.{nothing}
use Rattle.resp_stats.proofs.histogram.Histogram.new.Goals as goal

pub returns : goal.returns
returns c = nothing _ (λ q below. get_or-replicate 464 q 0 0 below) refl
