-- A refusal under a rule, and none under the rule before, is a cause; and what total leaves.
use Rattle.std.proofs.Common.{◌≡◌, ℕ, suc, ◌<◌, List, arith}
use Rattle.resp_value.specs.Rules.{Rules, Rule, Grammar, WithinTotal, rank}
use Rattle.resp_value.specs.Spellings.{IsViable, IsCause}
use Rattle.resp_value.proofs.ViabilityLaws.{viable_earlier}
use Rattle.resp_fronts.proofs.FrameLaws.FrontLaws.{continues, whole_text}
use Rattle.resp_fronts.proofs.Refusals.RefusedFronts.{CompletesFront, IsRefused}

-- what can be completed within the rules at each node is viable
pub viable : (r : Rules) (rule : Rule) (front rest : List ℕ) → rank rule < rank WithinTotal → CompletesFront r rule front rest → IsViable r rule front
viable r rule front rest before_total w =
    let c = continues r rule front rest before_total w in
    record { rest = rest; tree = c.tree; spells = c.spells; keeps = c.keeps }

-- a viable front is completed by some rest
pub viable_completes : (r : Rules) (rule : Rule) (front : List ℕ) → rank rule < rank WithinTotal → (v : IsViable r rule front) →
    CompletesFront r rule front v.rest
viable_completes r rule front before_total v = whole_text r rule front v.rest before_total (record { tree = v.tree; spells = v.spells; keeps = v.keeps })

-- a refusal under a rule that isn't one under the rule before is for this rule
pub refused_cause : (r : Rules) (rule before : Rule) (front : List ℕ) → rank rule ≡ suc (rank before) → rank rule < rank WithinTotal →
    IsRefused r rule before front → IsCause r front rule
refused_cause r rule before front e before_total w = record {
  viable_before = λ earlier l. viable_earlier r before earlier front (omega arith) (viable r before front w.rest (omega arith) w.alive);
  not_viable = λ v. w.dead v.rest (viable_completes r rule front before_total v);
}

-- where nothing of the grammar completes a front, the grammar refuses it
pub grammar_cause : (r : Rules) (front : List ℕ) → ((rest : List ℕ) → CompletesFront r Grammar front rest → ⊥) → IsCause r front Grammar
grammar_cause r front dead = record {
  viable_before = λ earlier l. absurd (omega arith);
  not_viable = λ v. dead v.rest (viable_completes r Grammar front (omega arith) v);
}
