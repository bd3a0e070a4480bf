use Rattle.std.proofs.Common.{rules, ◌≡◌, ◌++◌, ◌∷◌, [], sym, subst}
use Rattle.resp_client.specs.Standing.{TakesFront, TakesOrStands}
use Rattle.resp_client.proofs.Fronts.{reads_on_asked, takes_on}
use Rattle.resp_client.proofs.client.Client.wait_for.Goals as goal

pub returns-clause-same_reading : goal.returns-clause-same_reading
returns-clause-same_reading c =
    let old = c.args.self.now in
    let e : c.push_back.new.self.items ≡ old.asks.items ++ c.args.asked ∷ [] = search rules in
    record {
      same_front = λ front h. subst (λ asks. TakesFront old.limits (record { version = old.version; asks = asks }) old.decoder old.fault front) (sym e)
          (takes_on c.later_type_bytes_want_version_three.ensures old.limits old.version old.asks.items c.args.asked old.decoder old.fault front
          (c.taken-taken.ensures.viable front h.taken) h);
      same_fault = λ fault h. h;
    }

pub invariant_of-self-clause-reading : goal.invariant_of-self-clause-reading
invariant_of-self-clause-reading c =
    let old = c.args.self.now in
    let e : c.push_back.new.self.items ≡ old.asks.items = search rules in
    subst (λ asks. ∥ TakesOrStands old.limits (record { version = old.version; asks = asks }) old.decoder old.fault ∥₁) (sym e) old.reading

pub invariant_of-self-else-is_err-clause-reading : goal.invariant_of-self-else-is_err-clause-reading
invariant_of-self-else-is_err-clause-reading c =
    let old = c.args.self.now in
    let e : c.push_back.new.self.items ≡ old.asks.items ++ c.args.asked ∷ [] = search rules in
    subst (λ asks. ∥ TakesOrStands old.limits (record { version = old.version; asks = asks }) old.decoder old.fault ∥₁) (sym e)
    (reads_on_asked c.later_type_bytes_want_version_three.ensures old.limits old.version old.asks.items c.args.asked old.decoder old.fault old.reading
    (λ front t. c.taken-taken.ensures.viable front t.taken))
