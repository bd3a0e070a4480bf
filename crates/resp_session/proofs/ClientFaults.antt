-- Faults of what a client reads.
use Rattle.std.proofs.Common.{◌≡◌, inl, inr, ℕ, List, sym, ap, subst, ◌∙◌}
use Rattle.resp_value.specs.Bounds.{Bounds}
use Rattle.resp_value.specs.Causes.{cause_of}
use Rattle.resp_value.specs.Laws.{FrontsOfViableTextsAreViable, AViableTextHasNoCause, ARestHasOneFault}
use Rattle.resp_value.specs.Rules.{WithinTotal}
use Rattle.resp_value.specs.Spellings.{IsViable}
use Rattle.resp_value.specs.declared.cause.Cause.{Cause}
use Rattle.resp_session.specs.Reading.{Waiting, MayGoOn, ClientFault, reading_rules}
use Rattle.resp_session.specs.ReadingLaws.{ARestHasOneClientFault}

goes_on_no_more : FrontsOfViableTextsAreViable → AViableTextHasNoCause → (limits : Bounds) (w : Waiting) (rest : List ℕ) (cause : Cause) (at : ℕ) →
    ClientFault limits w rest cause at → MayGoOn limits w rest → ⊥
goes_on_no_more viable no_cause limits w rest cause at (inl u) m = m.asked u.0
goes_on_no_more viable no_cause limits w rest cause at (inr b) m =
    let g = b.fault in
    let r = reading_rules limits w in
    no_cause r g.front b.rule (viable r WithinTotal g.front g.beyond (subst (IsViable r WithinTotal) g.whole m.viable)) g.cause

one_fault : ARestHasOneFault → (limits : Bounds) (w : Waiting) (rest : List ℕ) (cause cause' : Cause) (at at' : ℕ) → ClientFault limits w rest cause at →
    ClientFault limits w rest cause' at' → (cause ≡ cause') × (at ≡ at')
one_fault one limits w rest cause cause' at at' (inl u) (inl v) = (u.1 ∙ sym v.1, u.2 ∙ sym v.2)
one_fault one limits w rest cause cause' at at' (inl u) (inr b) = absurd (b.asked u.0)
one_fault one limits w rest cause cause' at at' (inr b) (inl u) = absurd (b.asked u.0)
one_fault one limits w rest cause cause' at at' (inr b) (inr d) =
    let same = one (reading_rules limits w) rest b.rule d.rule at at' b.fault d.fault in
    (b.named ∙ ap cause_of same.0 ∙ sym d.named, same.1)

pub a_rest_has_one_client_fault : FrontsOfViableTextsAreViable → AViableTextHasNoCause → ARestHasOneFault → ARestHasOneClientFault
a_rest_has_one_client_fault viable no_cause one limits w rest cause cause' at at' fault =
    (goes_on_no_more viable no_cause limits w rest cause at fault, one_fault one limits w rest cause cause' at at' fault)
