-- The laws of what has come and what may follow, in words of texts and trees.
use Rattle.std.proofs.Common.{ℕ, ◌+◌, ◌<◌, ◌≤◌, List, ◌∷◌, ◌++◌, length, ap, sym, subst, arith, length-append}
use Rattle.resp_value.specs.Trees.{Tree, text}
use Rattle.resp_value.specs.Rules.{Rules, Rule, Grammar, NoDouble, InVersion, PushAtTop, InRange, NotStreamed, WithinDepth, WithinLength, WithinItems, WithinTotal, rank, Keeps}
use Rattle.resp_value.specs.LocalRules.{LeafKeeps, NodeKeeps}
use Rattle.resp_value.proofs.LocalRuleLemmas.{keeps_locally}
use Rattle.resp_fronts.specs.Frames.{text_around}
use Rattle.resp_fronts.specs.LeastCompletions.{HasLeast, Continues}
use Rattle.resp_fronts.specs.MayFollow.{IsWholeText, frames_needed}
use Rattle.resp_fronts.specs.Laws.{WhatMayFollowContinues, WhatContinuesMayFollow, LeastCompletionSplits, ViableWhereLeastFits}
use Rattle.resp_fronts.proofs.FrameLaws.Composition as c
use Rattle.resp_fronts.proofs.FrameLaws.Composition.{around-append}
use Rattle.resp_fronts.proofs.FrameLaws.LeastAround as l
use Rattle.resp_fronts.proofs.FrameLaws.KeptNodes.{shortest_keeps}

-- a text of one tree within the rules at each node is one within the rules
pub continues : (r : Rules) (rule : Rule) (front rest : List ℕ) → rank rule < rank WithinTotal →
    IsWholeText (LeafKeeps r rule) (NodeKeeps r rule) (front ++ rest) → Continues r rule front rest
continues r rule front rest before_total w = record {
  tree = w.tree;
  spells = record { is_tree = w.is_tree; spelled = w.whole };
  keeps =
      (keeps_locally r rule w.tree before_total).1 w.keep;
}

-- what continues a front spells a whole text with it
pub whole_text : (r : Rules) (rule : Rule) (front rest : List ℕ) → rank rule < rank WithinTotal → Continues r rule front rest →
    IsWholeText (LeafKeeps r rule) (NodeKeeps r rule) (front ++ rest)
whole_text r rule front rest before_total w = record {
  tree = w.tree;
  is_tree = w.spells.is_tree;
  keep = (keeps_locally r rule w.tree before_total).0 w.keeps;
  whole = w.spells.spelled;
}

-- what has come, and what may follow it
pub compose : WhatMayFollowContinues
compose r rule frames begun rest before_total kept follows =
    continues r rule (text_around frames begun) rest before_total
    (subst (IsWholeText (LeafKeeps r rule) (NodeKeeps r rule)) (sym (around-append frames begun rest))
    (c.compose (LeafKeeps r rule) (NodeKeeps r rule) frames (begun ++ rest) kept follows))

-- what continues a front may follow it
pub determine : WhatContinuesMayFollow
determine r rule frames begun rest before_total are_open goes_on =
    c.determine (LeafKeeps r rule) (NodeKeeps r rule) frames (begun ++ rest) are_open
    (subst (IsWholeText (LeafKeeps r rule) (NodeKeeps r rule)) (around-append frames begun rest)
    (whole_text r rule (text_around frames begun) rest before_total goes_on))

-- the least of what completes a front, by texts and trees
pub least_continues : (r : Rules) (rule : Rule) (front : List ℕ) (n : ℕ) → rank rule < rank WithinTotal →
    HasLeast (λ rest. IsWholeText (LeafKeeps r rule) (NodeKeeps r rule) (front ++ rest)) n → HasLeast (Continues r rule front) n
least_continues r rule front n before_total h = record {
  some = h.some;
  holds = continues r rule front h.some before_total h.holds;
  size = h.size;
  least = λ rest w. h.least rest (whole_text r rule front rest before_total w);
}

-- the least completion is the begun value's, and then what the frames need
pub follow_least : LeastCompletionSplits
follow_least r rule frames byte begun n before_total can_end no_stop some h =
    least_continues r rule (text_around frames (byte ∷ begun)) (n + frames_needed frames) before_total
    (l.front_least (LeafKeeps r rule) (NodeKeeps r rule) frames (byte ∷ begun) (n + frames_needed frames) can_end
    (l.follow_least (LeafKeeps r rule) (NodeKeeps r rule) frames byte begun n (shortest_keeps r rule) can_end no_stop some h))

-- a tree within the rules before total, whose text is within it, is within all
pub all_rules : (r : Rules) (t : Tree) → Keeps r WithinItems t → length (text t) ≤ r.limits.total → Keeps r WithinTotal t
all_rules r t keeps fits Grammar e = keeps Grammar (omega arith)
all_rules r t keeps fits NoDouble e = keeps NoDouble (omega arith)
all_rules r t keeps fits InVersion e = keeps InVersion (omega arith)
all_rules r t keeps fits PushAtTop e = keeps PushAtTop (omega arith)
all_rules r t keeps fits InRange e = keeps InRange (omega arith)
all_rules r t keeps fits NotStreamed e = keeps NotStreamed (omega arith)
all_rules r t keeps fits WithinDepth e = keeps WithinDepth (omega arith)
all_rules r t keeps fits WithinLength e = keeps WithinLength (omega arith)
all_rules r t keeps fits WithinItems e = keeps WithinItems (omega arith)
all_rules r t keeps fits WithinTotal e = fits

-- a front is viable where it and its least completion are within total
pub viable_in_all : ViableWhereLeastFits
viable_in_all r front n h = (
  λ v.
      let fits : length (text v.tree) ≤ r.limits.total = v.keeps WithinTotal (omega arith) in
      omega (
        arith,
        h.least v.rest (record { tree = v.tree; spells = v.spells; keeps = λ earlier e. v.keeps earlier (omega arith) }),
        length-append front v.rest,
        ap length v.spells.spelled,
      ),
  λ fits. record {
    rest = h.some;
    tree = h.holds.tree;
    spells = h.holds.spells;
    keeps = all_rules r h.holds.tree h.holds.keeps (omega (arith, h.size, length-append front h.some, ap length h.holds.spells.spelled));
  },
)
