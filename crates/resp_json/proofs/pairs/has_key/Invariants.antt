use Rattle.std.proofs.Common.{◌≡◌, ◌-◌, drop, length}
use Rattle.std.specs.List.{list_any}
use Rattle.resp_value.specs.Values.{datum_of}
use Rattle.resp_json.specs.Pairs.{is_bulk}
use Rattle.resp_json.proofs.pairs.has_key.Given as goal

-- the text is among all keys as far as it is among the rest
abbrev pub invariant-loop-index : goal.invariant-loop-index
invariant-loop-index l =
    list_any (λ pair. is_bulk l.text (datum_of pair.0)) l.pairs ≡ list_any (λ pair. is_bulk l.text (datum_of pair.0)) (drop l.index l.pairs)

abbrev pub decreases-loop-index : goal.decreases-loop-index
decreases-loop-index l = length l.pairs - l.index
