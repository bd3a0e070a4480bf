use Rattle.std.proofs.Common.{◌≤◌, IfErr, ◌⊎◌, sym, refl, arith, inr, inl, ◌++◌, take, ap, subst, ◌∙◌, [], ◌∷◌}
use Rattle.std.proofs.Math.Bridge.{le_prop}
use Rattle.std.proofs.Math.Logic.{∥∥₁_prop}
use Rattle.resp_value.specs.Rules.{Rules}
use Rattle.resp_value.specs.Values.{datum_of}
use Rattle.resp_scan.specs.Kinds.{rules_of}
use Rattle.resp_value.specs.Bounds.{Bounds}
use Rattle.resp_decode.specs.Decoding.{GivesValue, IfNoValue, IfValue, LacksMemory, RefusesByte, TakesPiece}
use Rattle.resp_decode.specs.Decoding as decode
use Rattle.resp_session.specs.Reading.{MayGoOn, ReadsAs, waiting_after}
use Rattle.resp_client.specs.Clients.{ClientState, state_of}
use Rattle.resp_client.specs.Hearing.{Refuses}
use Rattle.resp_client.specs.Standing.{IsOfBytes}
use Rattle.resp_client.proofs.Fronts.{fault_of_bytes, is_broken, may_go_on, reads_as, reads_on, takes_more, takes_nothing, where_reading}
use Rattle.resp_client.proofs.Outcomes.{if_err, if_no_value, if_value}
use Rattle.resp_client.proofs.client.Client.take.Goals as goal

pub returns-in-Err-clause-refusal : goal.returns-in-Err-clause-refusal
returns-in-Err-clause-refusal c = λ front h.
    let u = c.in-Err.ensures.unasked front h in
    inl (inl (u.unasked, u.cause, u.at))

pub returns-clause-value_whole : goal.returns-clause-value_whole
returns-clause-value_whole c = λ front h.
    let b = c.in_default.ensures.begun front h in
    let s : ClientState = state_of c.begin.new.self in
    let r = rules_of c.begin.new.self.decoder.scanner in
    let piece = c.args.piece.now in
    if_value c.feed-fed.result _ _ (λ used x given. record {
      reads = subst (λ (z : ClientState). ReadsAs z.limits z.waiting (datum_of x ∷ []) (front ++ take used piece) (waiting_after z.waiting (datum_of x)))
          c.in_default.ensures.same_state
          (reads_as c.no_spelling_is_empty.ensures c.a_push_begins_with_its_byte.ensures s.limits s.waiting r (datum_of x) front piece used
          b.read_by b.asked given.spelling);
      takes = takes_nothing s.limits s.waiting c.feed-fed.new.self c.begin.new.self.fault given.takes
          (ap (λ (z : Rules). z.limits) (c.feed-fed.ensures.same_rules ∙ b.read_by)) b.no_fault;
    }) (c.feed-fed.ensures.value_whole front b.taken)

pub returns-clause-used_up : goal.returns-clause-used_up
returns-clause-used_up c = λ front h.
    let b = c.in_default.ensures.begun front h in
    let s : ClientState = state_of c.begin.new.self in
    let r = rules_of c.begin.new.self.decoder.scanner in
    let text = front ++ c.args.piece.now in
    if_no_value c.feed-fed.result _ _ (λ used t. record {
      whole_piece = t.whole_piece;
      may_go_on = subst (λ (z : ClientState). MayGoOn z.limits z.waiting text) c.in_default.ensures.same_state
          (may_go_on s.limits s.waiting r text b.read_by b.asked t.no_value t.viable);
      takes = takes_more s.limits s.waiting c.begin.new.self.decoder c.feed-fed.new.self c.begin.new.self.fault text b.read_by c.feed-fed.ensures.same_rules
          b.asked b.no_fault t.takes;
    }) (c.feed-fed.ensures.used_up front b.taken)

pub returns-in-Err-fed-clause-refusal : goal.returns-in-Err-fed-clause-refusal
returns-in-Err-fed-clause-refusal c = λ front h.
    let b = c.in_default.ensures.begun front h in
    let s : ClientState = state_of c.begin.new.self in
    let r = rules_of c.begin.new.self.decoder.scanner in
    let piece = c.args.piece.now in
    if_err c.feed-fed.result _ _ (λ fault refused. subst (λ (z : ClientState). Refuses z front piece fault) c.in_default.ensures.same_state
    (is_broken s.limits s.waiting r front piece fault b.read_by b.asked refused)) (c.feed-fed.ensures.refusal front b.taken)

pub returns-in-Err-fed-clause-cause : goal.returns-in-Err-fed-clause-cause
returns-in-Err-fed-clause-cause c =
    let now = c.begin.new.self in
    let r = rules_of now.decoder.scanner in
    let piece = c.args.piece.now in
    subst (λ z. IfErr z (λ f. IsOfBytes f.cause)) (sym c.in-Err-fed.is)
    (where_reading now.limits (state_of now).waiting now.decoder now.fault now.reading (c.begin.ensures.same_fault ∙ c.requires) le_prop (λ front h.
    fault_of_bytes r front piece c.in-Err-fed.fault
    (subst (λ z. IfErr z (λ f. RefusesByte r front piece f ⊎ LacksMemory r front piece f)) c.in-Err-fed.is (c.feed-fed.ensures.refusal front h.taken))))

pub invariant_of-self-clause-reading : goal.invariant_of-self-clause-reading
invariant_of-self-clause-reading c =
    let total = c.begin.new.self.limits.total in
    ∣ inr (c.in-Err.fault, (refl, subst (λ n. n ≤ total) (sym (c.in-Err.ensures.at_start)) (omega arith), c.in-Err.ensures.cause)) ∣₁

pub invariant_of-self-in-Err-fed-clause-reading : goal.invariant_of-self-in-Err-fed-clause-reading
invariant_of-self-in-Err-fed-clause-reading c =
    let now = c.begin.new.self in
    let r = rules_of now.decoder.scanner in
    let piece = c.args.piece.now in
    let fault = c.in-Err-fed.fault in
    let stands : decode.HasFault c.feed-fed.new.self fault =
    subst (λ z. IfErr z (decode.HasFault c.feed-fed.new.self)) c.in-Err-fed.is c.feed-fed.ensures.fault_is_kept in
    where_reading now.limits (state_of now).waiting now.decoder now.fault now.reading (c.begin.ensures.same_fault ∙ c.requires) ∥∥₁_prop (λ front h.
    ∣ inr (
      fault,
      (
        refl,
        omega (
          arith,
          c.taken-taken.ensures.after_a_fault fault stands,
          c.taken-taken.ensures.at_most_total,
          ap (λ (r : Rules). r.limits.total) c.feed-fed.ensures.same_rules,
          ap (λ (l : Bounds). l.total) h.same_limits,
        ),
        fault_of_bytes r front piece fault
            (subst (λ z. IfErr z (λ f. RefusesByte r front piece f ⊎ LacksMemory r front piece f)) c.in-Err-fed.is (c.feed-fed.ensures.refusal front h.taken)),
      ),
    ) ∣₁)

pub invariant_of-self-in_default-fed-clause-reading : goal.invariant_of-self-in_default-fed-clause-reading
invariant_of-self-in_default-fed-clause-reading c =
    let old = c.args.self.now in
    let now = c.begin.new.self in
    let new = c.feed-fed.new.self in
    let r = rules_of now.decoder.scanner in
    let piece = c.args.piece.now in
    let fed = c.in_default-fed.field-0 in
    where_reading old.limits (state_of old).waiting old.decoder old.fault old.reading c.requires ∥∥₁_prop (λ front h.
    let b = c.in_default.ensures.begun front h in
    ∣ reads_on now.limits (state_of now).waiting now.decoder new now.fault front piece fed.used fed.value b.read_by c.feed-fed.ensures.same_rules b.asked b.no_fault
    (subst (λ z. IfValue z (λ used x. GivesValue r new (front ++ take used piece) x)) c.in_default-fed.is (c.feed-fed.ensures.value_whole front b.taken))
    (subst (λ z. IfNoValue z (TakesPiece r (decode.HasTaken new) (front ++ piece) piece)) c.in_default-fed.is (c.feed-fed.ensures.used_up front b.taken)) ∣₁)
