use Rattle.std.proofs.Common.{arith, rules, ◌≡◌, ◌+◌, ◌++◌, take, ap, subst, inl, inr, refl}
use Rattle.resp_value.specs.Values.{datum_of}
use Rattle.resp_value.specs.declared.value.Value.TheVariants as value
use Rattle.resp_scan.specs.declared.event.Fault.{Fault}
use Rattle.resp_client.specs.Clients.{state_of}
use Rattle.resp_client.specs.Hearing.{GivesPush, HasFault, Hears, RefusesOrLoses, UnlessReplied}
use Rattle.resp_client.proofs.Answering.{loses_within, no_fault}
use Rattle.resp_client.proofs.client.Client.feed_with.Goals as goal

pub returns-in_err-heard-clause-refusal : goal.returns-in_err-heard-clause-refusal
returns-in_err-heard-clause-refusal g c = λ front h.
    let refused : RefusesOrLoses (state_of c.args.self.now) front c.args.piece.now c.in_err-heard.field-0.0 =
    inl (c.in_err-heard.ensures.refusal front h) in
    search rules

pub returns-then-is_err-clause-refusal : goal.returns-then-is_err-clause-refusal
returns-then-is_err-clause-refusal g c = λ front h.
    let piece = c.args.piece.now in
    let given : GivesPush c.args.self.now c.feed.new.self (front ++ take c.in_ok-heard.heard.used piece) (datum_of (value.Push c.in-Push.items)) =
    subst (Hears c.args.self.now c.feed.new.self front piece c.in_ok-heard.heard.used) c.in-Push.is (c.in_ok-heard.ensures.heard front h) in
    inr (record {
      names = refl;
      used = c.in_ok-heard.heard.used;
      within = c.in_ok-heard.ensures.within_piece;
      place = ap (λ n. n + c.in_ok-heard.heard.used) (c.taken-taken.ensures.length_of_front front h.taken);
      items = c.in-Push.items;
      reads = given.reads;
    })

pub returns-then-is_err-clause-only_replies_answer : goal.returns-then-is_err-clause-only_replies_answer
returns-then-is_err-clause-only_replies_answer g c =
    subst (λ what. UnlessReplied what (state_of c.feed.new.self ≡ state_of c.args.self.now)) c.in-Push.is c.in_ok-heard.ensures.only_replies_answer

pub returns-clause-heard : goal.returns-clause-heard
returns-clause-heard g c = λ front h.
    let given : GivesPush c.args.self.now c.feed.new.self (front ++ take c.in_ok-heard.heard.used c.args.piece.now) (datum_of (value.Push c.in-Push.items)) =
    subst (Hears c.args.self.now c.feed.new.self front c.args.piece.now c.in_ok-heard.heard.used) c.in-Push.is (c.in_ok-heard.ensures.heard front h) in
    (c.in-Push.items, search rules, given)

pub invariant_of-self-clause-reading : goal.invariant_of-self-clause-reading
invariant_of-self-clause-reading g c =
    let old = c.args.self.now in
    let piece = c.args.piece.now in
    let same : state_of c.feed.new.self ≡ state_of old =
    subst (λ what. UnlessReplied what (state_of c.feed.new.self ≡ state_of old)) c.in-Push.is c.in_ok-heard.ensures.only_replies_answer in
    let never : (fault : Fault) → HasFault old fault → ⊥ = λ fault stands. let wrong = c.feed.ensures.fault_is_final fault stands in search rules in
    ∣ inr (
      _,
      (
        refl,
        loses_within old c.feed.new.self c.taken-taken.result c.in_ok-heard.heard.used piece (datum_of (value.Push c.in-Push.items)) old.reading (no_fault old never)
            (λ front h. c.taken-taken.ensures.length_of_front front h.taken)
            (λ front h. subst (Hears old c.feed.new.self front piece c.in_ok-heard.heard.used) c.in-Push.is (c.in_ok-heard.ensures.heard front h)) c.in_ok-heard.ensures.within_piece same,
        omega arith,
      ),
    ) ∣₁
