-- What may still become a spelling, the cause of a refusal, and the fault of a rest.
use Rattle.std.proofs.Common.{◌≡◌, ◌⊎◌, inl, inr, ℕ, ◌+◌, ◌<◌, ◌≤◌, List, [], ◌∷◌, ◌++◌, length, refl, sym, ap, subst, ◌∙◌, arith, append_assoc, get_or, length-append}
use Rattle.resp_value.specs.Trees.{Tree, Spells}
use Rattle.resp_value.specs.Rules.{Rules, Rule, Grammar, NoDouble, InVersion, PushAtTop, InRange, NotStreamed, WithinDepth, WithinLength, WithinItems, WithinTotal, rank, Keeps}
use Rattle.resp_value.specs.Spellings.{IsViable, IsCause, FaultOf}
use Rattle.resp_value.specs.Laws.{ARestHasOneFault, FrontsOfSpellingsAreViable, FrontsOfViableTextsAreViable, LaterRulesLeaveLess, ATextHasOneCause, AViableTextHasNoCause}
use Rattle.std.proofs.lemmas.Bool.{cases_order}
use Rattle.resp_value.proofs.Splitting.{length_split}
use Rattle.resp_value.proofs.SpellingLaws.{up_to_total}

-- what holds of the first three rules holds of a rule that is one of them
pub at_first_rules : (P : Rule → Type 0) → P Grammar → P NoDouble → P InVersion → (rule : Rule) → rank rule < 3 → P rule
at_first_rules P grammar no_double version Grammar h = grammar
at_first_rules P grammar no_double version NoDouble h = no_double
at_first_rules P grammar no_double version InVersion h = version
at_first_rules P grammar no_double version _ h = absurd (omega arith)

-- what keeps a rule keeps the ones before it
pub keeps_earlier : (r : Rules) (rule earlier : Rule) (t : Tree) → rank earlier ≤ rank rule → Keeps r rule t → Keeps r earlier t
keeps_earlier r rule earlier t h keeps first g = keeps first (omega arith)

-- what is viable under a rule is viable under the ones before it
pub viable_earlier : (r : Rules) (rule earlier : Rule) (front : List ℕ) → rank earlier ≤ rank rule → IsViable r rule front → IsViable r earlier front
viable_earlier r rule earlier front h v = record { rest = v.rest; tree = v.tree; spells = v.spells; keeps = keeps_earlier r rule earlier v.tree h v.keeps }

-- what is viable under the last rule is viable under each
pub viable_under_each : (r : Rules) (rule : Rule) (front : List ℕ) → IsViable r WithinTotal front → IsViable r rule front
viable_under_each r rule front v = viable_earlier r WithinTotal rule front (up_to_total rule) v

-- the rule of a rank
abbrev rule_at : ℕ → Rule
rule_at n = get_or (Grammar ∷ NoDouble ∷ InVersion ∷ PushAtTop ∷ InRange ∷ NotStreamed ∷ WithinDepth ∷ WithinLength ∷ WithinItems ∷ []) n WithinTotal

rule_at-rank : (rule : Rule) → rule_at (rank rule) ≡ rule
rule_at-rank Grammar = refl
rule_at-rank NoDouble = refl
rule_at-rank InVersion = refl
rule_at-rank PushAtTop = refl
rule_at-rank InRange = refl
rule_at-rank NotStreamed = refl
rule_at-rank WithinDepth = refl
rule_at-rank WithinLength = refl
rule_at-rank WithinItems = refl
rule_at-rank WithinTotal = refl

-- no two rules stand at one place
pub same_rank : (rule rule' : Rule) → rank rule ≡ rank rule' → rule ≡ rule'
same_rank rule rule' e = sym (rule_at-rank rule) ∙ ap rule_at e ∙ rule_at-rank rule'

-- what goes on to a spelling is viable
pub fronts_of_spellings_are_viable : FrontsOfSpellingsAreViable
fronts_of_spellings_are_viable r x front rest s rule =
    viable_under_each r rule front (record { rest = rest; tree = s.tree; spells = s.spells; keeps = s.keeps })

-- a front of a viable text is viable
pub fronts_of_viable_texts_are_viable : FrontsOfViableTextsAreViable
fronts_of_viable_texts_are_viable r rule front rest v = record {
  rest = rest ++ v.rest;
  tree = v.tree;
  spells = subst (Spells v.tree) (append_assoc front rest v.rest) v.spells;
  keeps = v.keeps;
}

pub later_rules_leave_less : LaterRulesLeaveLess
later_rules_leave_less r rule earlier h = (λ t. keeps_earlier r rule earlier t h, λ front. viable_earlier r rule earlier front h)

-- a text with a cause isn't viable under the last rule
pub a_viable_text_has_no_cause : AViableTextHasNoCause
a_viable_text_has_no_cause r front rule v cause = cause.not_viable (viable_under_each r rule front v)

pub a_text_has_one_cause : ATextHasOneCause
a_text_has_one_cause r front rule rule' p q = cases (cases_order (rank rule) (rank rule'))
  where
    cases : (rank rule ≡ rank rule') ⊎ ((rank rule < rank rule') ⊎ (rank rule' < rank rule)) → rule ≡ rule'
    cases (inl e) = same_rank rule rule' e
    cases (inr (inl h)) = absurd (p.not_viable (q.viable_before rule h))
    cases (inr (inr h)) = absurd (q.not_viable (p.viable_before rule' h))

-- of two fronts of one text the shorter one begins the longer one
pub shorter_front : (a b x y : List ℕ) → a ++ x ≡ b ++ y → length a < length b → (c : ℕ) × (cs : List ℕ) × (b ≡ a ++ c ∷ cs)
shorter_front a [] x y e h = absurd (omega arith)
shorter_front [] (d ∷ b) x y e h = (d, b, refl)
shorter_front (c ∷ a) (d ∷ b) x y e h =
    let t : a ++ x ≡ b ++ y = cc in
    let longer = shorter_front a b x y t (omega arith) in
    let goes_on : b ≡ a ++ longer.0 ∷ longer.1 = longer.2 in
    (longer.0, longer.1, cc)

-- a front that isn't the whole is a front of all but the last byte
pub front_but_last : (a before after : List ℕ) (last byte : ℕ) → a ++ last ∷ [] ≡ before ++ byte ∷ after → (rest : List ℕ) × (a ≡ before ++ rest)
front_but_last a [] after last byte e = (a, refl)
front_but_last [] (d ∷ before) after last byte e =
    let empty : [] ≡ before ++ byte ∷ after = cc in
    absurd (omega (arith, simp length-append at (ap length empty)))
front_but_last (c ∷ a) (d ∷ before) after last byte e =
    let tails : a ++ last ∷ [] ≡ before ++ byte ∷ after = cc in
    let shorter = front_but_last a before after last byte tails in
    let goes_on : a ≡ before ++ shorter.0 = shorter.1 in
    (shorter.0, cc)

-- a rest that is viable up to its last byte has its fault there
pub fault_at_last : (r : Rules) (front beyond : List ℕ) (last : ℕ) (rule : Rule) → IsViable r WithinTotal front → IsCause r (front ++ last ∷ []) rule →
    FaultOf r ((front ++ last ∷ []) ++ beyond) rule (length front)
fault_at_last r front beyond last rule v cause = record {
  front = front ++ last ∷ [];
  beyond = beyond;
  whole = refl;
  place = sym (length-append front (last ∷ []));
  cause = cause;
  first = λ before byte after e.
      let shorter = front_but_last front before after last byte e in
      fronts_of_viable_texts_are_viable r WithinTotal before shorter.0 (subst (IsViable r WithinTotal) shorter.1 v);
}

-- no fault lies before another
no_earlier_fault : (r : Rules) (rest : List ℕ) (rule rule' : Rule) (at at' : ℕ) → FaultOf r rest rule at → FaultOf r rest rule' at' → at < at' → ⊥
no_earlier_fault r rest rule rule' at at' p q h =
    let p1 : at + 1 ≡ length p.front = p.place in
    let q1 : at' + 1 ≡ length q.front = q.place in
    let (c, cs, e) = shorter_front p.front q.front p.beyond q.beyond (sym p.whole ∙ q.whole) (omega arith) in
    a_viable_text_has_no_cause r p.front rule (q.first p.front c cs e) p.cause

pub a_rest_has_one_fault : ARestHasOneFault
a_rest_has_one_fault r rest rule rule' at at' p q = cases (cases_order at at')
  where
    cases : (at ≡ at') ⊎ ((at < at') ⊎ (at' < at)) → (rule ≡ rule') × (at ≡ at')
    cases (inl e) =
        let p1 : at + 1 ≡ length p.front = p.place in
        let q1 : at' + 1 ≡ length q.front = q.place in
        let same = length_split p.front q.front p.beyond q.beyond (omega arith) (sym p.whole ∙ q.whole) in
        (a_text_has_one_cause r q.front rule rule' (subst (λ front. IsCause r front rule) same.0 p.cause) q.cause, e)
    cases (inr (inl h)) = absurd (no_earlier_fault r rest rule rule' at at' p q h)
    cases (inr (inr h)) = absurd (no_earlier_fault r rest rule' rule at' at q p h)
