use Rattle.std.proofs.Common.{◌≡◌, ◌⊎◌, ◌+◌, ◌-◌, ◌<◌, ◌≤◌, ap, arith, inl, inr, length, refl, subst, sym}
use Rattle.std.proofs.lemmas.Bool.{cases_lt}
use Rattle.resp_capture.proofs.StreamLemmas.{takes_removed}
use Rattle.resp_capture.proofs.Lists.{none_of}
use Rattle.resp_capture.specs.Streams.{WaitsForOthers}
use Rattle.resp_capture.specs.declared.held.WaitingPart.{WaitingPart}
use Rattle.resp_capture.proofs.stream.Reassembly.next_held.Goals as goal

pub returns-in_err-index-clause-none : goal.returns-in_err-index-clause-none
returns-in_err-index-clause-none c =
    let none : WaitsForOthers c.args.self.now = rw (← c.self.view_is)
    (λ part among. c.in_err-index.ensures.none part (rw c.as_slice.ensures.value among)) in
    none_of _ _ none

pub returns-clause-held : goal.returns-clause-held
returns-clause-held c =
    let some = c.in_ok-index.ensures.some in
    let inside : c.in_ok-index.index < length c.self.inside.held.items = rw c.as_slice.ensures.value at some.0 in
    let at_index = rw c.as_slice.ensures.value at some.1 c.remove-at.result in
    let ready : c.remove-at.result.at ≤ c.self.inside.next =
    subst (λ (part : WaitingPart). part.at ≤ c.self.inside.next) (sym c.remove-at.ensures.value) at_index in
    let skip = c.min-old.result in
    let part = c.remove-at.result in
    let skips : (skip ≡ c.self.inside.next - part.at) ⊎ (skip ≡ length part.bytes.items) =
    elim (cases_lt (c.self.inside.next - part.at) (length part.bytes.items)) [ inl less ↦ inl (omega arith) | inr more ↦ inr (omega arith) ] in
    rw (← c.self.view_is) (takes_removed _ _ c.in_ok-index.index part c.advance.new.self.items skip inside
    c.remove-at.ensures.value ready refl c.remove-at.ensures.items c.advance.ensures.items
    (ap (λ n. c.self.inside.next + n) c.len-3.ensures.value) (omega arith) skips)
