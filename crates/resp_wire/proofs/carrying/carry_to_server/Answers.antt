use Rattle.std.proofs.Common.{rules, ◌≡◌, ◌++◌, ◌∙◌, ap, arith, drop, length, min, refl, subst, take}
use Rattle.resp_client.specs.Clients.{ClientState, state_of, without_front}
use Rattle.resp_server.specs.Handling.{HasAnswered, WhereOpen}
use Rattle.resp_wire.specs.Carrying.{HasBrought, HasClosed, StopsCarrying}
use Rattle.resp_wire.proofs.AnsweredOn.{brings_more, brings_none, brings_whole, sent_twice, stops_more}
use Rattle.resp_wire.specs.Links.{Carries}
use Rattle.resp_wire.specs.declared.link.Direction.TheVariants.{ToServer}
use Rattle.resp_wire.proofs.LinkTraffic.{carries_none, carries_part, carries_whole}
use Rattle.resp_wire.proofs.Queueing.{keeps_on}
use Rattle.resp_wire.proofs.Seated.{at_open, where_open}
use Rattle.resp_wire.proofs.carrying.carry_to_server.Goals as goal

pub loop-done-init : goal.loop-done-init
loop-done-init g c =
    let old = c.args.hub.now in
    let id = c.args.id in
    record {
      brought = λ honest. where_open old id _ (λ s here not_closing front taken.
          brings_none old id s front (state_of c.args.client.now).out c.args.order.now.items c.args.number c.in-Ok.closing here
          (at_open old id (λ t f. HasAnswered old old id t f 0) s front c.is_closing.ensures.waiting here not_closing taken) c.in-Ok.ensures.closing
          (search rules));
      honest = λ honest. honest;
      none_failed = refl;
      sent = refl;
      traffic = carries_none ToServer (g.L.Link.traffic c.args.link.now);
      same_reading = record { same_front = λ front h. h; same_fault = λ fault h. h };
      within = omega arith;
    }

pub returns-in-Err-clause-refusal : goal.returns-in-Err-clause-refusal
returns-in-Err-clause-refusal g c honest =
    let i = c.loop-done.invariant in
    let old = c.args.hub.now in
    let mid = c.loop-done.hub in
    let id = c.args.id in
    let out = (state_of c.args.client.now).out in
    let order = c.args.order.now.items in
    let order' = c.loop-done.order.items in
    let number = c.args.number in
    let done = c.loop-done.done in
    let cause = c.in-Err.cause in
    let failures = g.L.Link.failures c.args.link.now in
    let failures' = g.L.Link.failures c.loop-done.link in
    let failures'' = g.L.Link.failures c.give.new.link in
    where_open old id _ (λ s here not_closing front taken.
    stops_more c.answers_go_on.ensures c.answers_are_added.ensures old mid id s front out order order' number done failures failures' failures'' cause here
    (at_open old id (λ t f. HasBrought old mid id t (f ++ take done out) order order' number) s front (i.brought honest) here not_closing taken)
    i.none_failed
    (subst (λ z. WhereOpen mid id (λ t f. StopsCarrying (λ _. HasClosed mid id t f z) failures' failures'' cause)) (ap (λ (z : ClientState). z.out) i.sent)
    (c.in-Err.ensures.refusal (i.honest honest))))

pub returns-in-Err-clause-same_reading : goal.returns-in-Err-clause-same_reading
returns-in-Err-clause-same_reading g c =
    keeps_on c.args.client.now c.loop-done.client c.give.new.client c.loop-done.invariant.same_reading c.give.ensures.same_reading

pub loop-done-preserved : goal.loop-done-preserved
loop-done-preserved g c =
    let i = c.loop-done.invariant in
    let mid = c.loop-done.hub in
    let new = c.give.new.hub in
    let out = (state_of c.args.client.now).out in
    let order' = c.loop-done.order.items in
    let order'' = c.give.new.order.items in
    let done = c.loop-done.done in
    let n = c.min-length.result in
    let full : length (take n c.loop-done.into) ≡ n = search rules in
    let left : (state_of c.loop-done.client).out ≡ drop done out = ap (λ (z : ClientState). z.out) i.sent in
    let piece : take (length (take n c.loop-done.into)) (state_of c.loop-done.client).out ≡ take n (drop done out) =
    ap (λ k. take k (state_of c.loop-done.client).out) full ∙ ap (take n) left in
    record {
      brought = λ honest. brings_more c.answers_go_on.ensures c.answers_are_added.ensures c.args.hub.now mid new c.args.id out c.args.order.now.items order'
          order'' c.args.number done n (i.brought honest)
          (subst (λ z. WhereOpen mid c.args.id (λ t f. HasBrought mid new c.args.id t (f ++ z) order' order'' c.args.number)) piece
          (c.in_default-give.ensures.brought (i.honest honest)));
      honest = λ honest. c.in_default-give.ensures.link.honest (i.honest honest);
      none_failed = c.in_default-give.ensures.link.failures ∙ i.none_failed;
      sent = c.in_default-give.ensures.sent ∙ ap (λ k. without_front k (state_of c.loop-done.client)) full ∙ ap (without_front n) i.sent ∙
          sent_twice (state_of c.args.client.now) done n;
      traffic = carries_part ToServer (g.L.Link.traffic c.args.link.now) (g.L.Link.traffic c.loop-done.link) (g.L.Link.traffic c.give.new.link) out done n
          i.traffic (subst (λ z. Carries ToServer z (g.L.Link.traffic c.loop-done.link) (g.L.Link.traffic c.give.new.link)) piece
          c.in_default-give.ensures.traffic);
      same_reading = keeps_on c.args.client.now c.loop-done.client c.give.new.client i.same_reading c.give.ensures.same_reading;
      within = search rules;
    }

pub returns-clause-brought : goal.returns-clause-brought
returns-clause-brought g c honest =
    let out = (state_of c.args.client.now).out in
    let all : c.loop-done.done ≡ min c.args.count (length out) = search rules in
    brings_whole c.args.hub.now c.loop-done.hub c.args.id out c.args.order.now.items c.loop-done.order.items c.args.number c.loop-done.done c.args.count all
    (c.loop-done.invariant.brought honest)

pub returns-clause-traffic : goal.returns-clause-traffic
returns-clause-traffic g c =
    let out = (state_of c.args.client.now).out in
    let all : c.loop-done.done ≡ min c.args.count (length out) = search rules in
    carries_whole ToServer (g.L.Link.traffic c.args.link.now) (g.L.Link.traffic c.loop-done.link) out c.loop-done.done c.args.count all
    c.loop-done.invariant.traffic
