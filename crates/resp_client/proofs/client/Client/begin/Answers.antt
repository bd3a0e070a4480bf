use Rattle.std.proofs.Common.{◌≡◌, ◌++◌, [], length, ap, sym, subst, ◌∙◌, refl, arith}
use Rattle.resp_session.specs.Reading.{IsUnasked}
use Rattle.resp_client.specs.Clients.{state_of}
use Rattle.resp_client.proofs.Fronts.{begun_asked, begun_version, in_version, no_bytes}
use Rattle.resp_client.proofs.client.Client.begin.Goals as goal

pub returns-then-taken-ne0-clause-begun : goal.returns-then-taken-ne0-clause-begun
returns-then-taken-ne0-clause-begun c = λ front h.
    let begun : front ≡ [] → ⊥ = λ none.
    let zero : c.taken.result ≡ 0 = c.taken.ensures.length_of_front front h.taken ∙ ap length none in omega (arith, zero, c.if-taken-ne0.true) in
    record {
      taken = h.taken;
      read_by = begun_version c.args.self.now.limits (state_of c.args.self.now).waiting c.args.self.now.decoder c.args.self.now.fault front h begun;
      asked = begun_asked (state_of c.args.self.now).waiting front c.args.piece.now h.asked begun;
      no_fault = h.no_fault;
    }

pub returns-then-is_unasked-clause-unasked : goal.returns-then-is_unasked-clause-unasked
returns-then-is_unasked-clause-unasked c = λ front h.
    let zero : c.taken.result ≡ 0 = omega (arith, c.if-taken-ne0.false) in
    let none : front ≡ [] = no_bytes front (sym (c.taken.ensures.length_of_front front h.taken) ∙ zero) in
    record {
      unasked = subst (λ z. IsUnasked (state_of c.args.self.now).waiting (z ++ c.args.piece.now)) (sym none) (c.is_unasked.ensures.0 c.if-is_unasked.true);
      cause = refl;
      at = refl;
    }

pub invariant_of-self-clause-reading : goal.invariant_of-self-clause-reading
invariant_of-self-clause-reading c =
    let old = c.args.self.now in
    let zero : c.taken.result ≡ 0 = omega (arith, c.if-taken-ne0.false) in
    in_version old.limits (state_of old).waiting c.reading_version-version.result old.decoder c.set_version-changed.new.self old.fault
    c.set_version-changed.result old.reading
    (λ front h. no_bytes front (sym (c.taken.ensures.length_of_front front h.taken) ∙ zero))
    c.set_version-changed.ensures.only_between_values c.set_version-changed.ensures.nothing_taken c.set_version-changed.ensures.new_version
