use Rattle.std.proofs.Common.{rules, ◌≡◌, ◌≤◌, ◌+◌, ◌++◌, ◌∙◌, ap, arith, IfSome, length, min, refl, subst, sym, take}
use Rattle.std.proofs.lemmas.List.{take_min}
use Rattle.resp_client.specs.Clients.{state_of}
use Rattle.resp_client.specs.Hearing.{WhereTaken}
use Rattle.resp_server.specs.Hubs.{Seat, seat_at, seated}
use Rattle.resp_wire.specs.Carrying.{HearsOn}
use Rattle.resp_wire.specs.Hearing.{HearsAll}
use Rattle.resp_wire.specs.Links.{Carries}
use Rattle.resp_wire.specs.declared.link.Direction.TheVariants.{ToClient}
use Rattle.resp_wire.proofs.LinkTraffic.{shown_none, shown_part, shown_whole}
use Rattle.resp_wire.proofs.Listening.{hears_no_bytes}
use Rattle.resp_wire.proofs.Seated.{seated_same}
use Rattle.resp_wire.proofs.Showing.{at_there, drops_more, hears_settled, if_there, shows_more, stops_more, stops_settled, waits_still, waits_there, without}
use Rattle.resp_wire.proofs.carrying.carry_to_client.Goals as goal

pub loop-done-init : goal.loop-done-init
loop-done-init g c =
    let old = c.args.hub.now in
    let id = c.args.id in
    record {
      heard = λ honest. if_there old id _ (λ s here front taken. hears_no_bytes c.args.client.now c.args.heard.now front taken);
      dropped = if_there old id _ (λ s here. seated_same old id s here);
      traffic = shown_none old id (g.L.Link.traffic c.args.link.now);
      honest = λ honest. honest;
      none_failed = refl;
      within = omega arith;
    }

pub show-requires-clause-waiting : goal.show-requires-clause-waiting
show-requires-clause-waiting g c =
    let n = c.min-length.result in
    let room = take n c.loop-done.into in
    let within : c.loop-done.done + length room ≤ length c.in-Ok.out.now = search rules in
    waits_still c.args.hub.now c.loop-done.hub c.args.id c.in-Ok.out.now c.loop-done.done (length room) c.in-Ok.ensures.waiting
    c.loop-done.invariant.dropped within

pub returns-in-Err-clause-refusal : goal.returns-in-Err-clause-refusal
returns-in-Err-clause-refusal g c honest =
    let i = c.loop-done.invariant in
    let client = state_of c.args.client.now in
    let old = c.args.hub.now in
    let mid = c.loop-done.hub in
    let id = c.args.id in
    let done = c.loop-done.done in
    if_there old id _ (λ s here front taken.
    stops_more c.readings_go_on.ensures c.hearing_goes_on.ensures client c.loop-done.client c.args.heard.now c.loop-done.heard c.show.new.heard old mid id s
    front done (g.L.Link.failures c.args.link.now) (g.L.Link.failures c.loop-done.link) (g.L.Link.failures c.show.new.link) c.in-Err.cause here
    (at_there old id (λ t. mid ≡ seated old id (without done t)) s here i.dropped)
    (at_there old id (λ t. WhereTaken c.args.client.now (λ f. HearsAll client c.loop-done.client c.args.heard.now c.loop-done.heard (f ++ take done t.out))) s
    here (i.heard honest) front taken) i.none_failed (c.in-Err.ensures.refusal (i.honest honest)))

pub loop-done-preserved : goal.loop-done-preserved
loop-done-preserved g c =
    let i = c.loop-done.invariant in
    let mid = c.loop-done.hub in
    let cur = c.loop-done.client in
    let done = c.loop-done.done in
    let n = c.min-length.result in
    let full : length (take n c.loop-done.into) ≡ n = search rules in
    record {
      heard = λ honest. shows_more c.readings_go_on.ensures c.hearing_goes_on.ensures c.args.client.now cur c.show.new.client c.args.heard.now
          c.loop-done.heard c.show.new.heard c.args.hub.now mid c.args.id done n i.dropped (i.heard honest)
          (subst (λ k. IfSome (seat_at mid c.args.id) (λ t. WhereTaken cur (λ f.
          HearsAll (state_of cur) c.show.new.client c.loop-done.heard c.show.new.heard (f ++ take k t.out)))) full
          (c.in_default-show.ensures.heard (i.honest honest)));
      dropped = drops_more c.args.hub.now mid c.show.new.hub c.args.id done n i.dropped
          (subst (λ k. IfSome (seat_at mid c.args.id) (λ t. c.show.new.hub ≡ seated mid c.args.id (without k t))) full c.in_default-show.ensures.dropped);
      traffic = shown_part c.args.hub.now mid c.args.id done n (g.L.Link.traffic c.args.link.now) (g.L.Link.traffic c.loop-done.link)
          (g.L.Link.traffic c.show.new.link) i.dropped i.traffic
          (subst (λ k. IfSome (seat_at mid c.args.id) (λ (t : Seat).
          Carries ToClient (take k t.out) (g.L.Link.traffic c.loop-done.link) (g.L.Link.traffic c.show.new.link))) full
          c.in_default-show.ensures.traffic);
      honest = λ honest. c.in_default-show.ensures.link.honest (i.honest honest);
      none_failed = c.in_default-show.ensures.link.failures ∙ i.none_failed;
      within = search rules;
    }

pub returns-in-Err-settle-clause-refusal : goal.returns-in-Err-settle-clause-refusal
returns-in-Err-settle-clause-refusal g c honest =
    let old = c.args.hub.now in
    let id = c.args.id in
    let client = state_of c.args.client.now in
    let cur = c.loop-done.client in
    let done = c.loop-done.done in
    let heard = c.loop-done.heard in
    if_there old id _ (λ s here front taken.
    let h = at_there old id (λ t. WhereTaken c.args.client.now (λ f. HearsAll client cur c.args.heard.now heard (f ++ take done t.out))) s here
    (c.loop-done.invariant.heard honest) front taken in
    stops_settled client cur c.args.heard.now heard front s.out done (g.L.Link.failures c.args.link.now) (g.L.Link.failures c.loop-done.link)
    c.in-Err-settle.cause h (c.in-Err-settle.ensures.refusal h.rest h.takes))

pub returns-clause-heard : goal.returns-clause-heard
returns-clause-heard g c honest =
    let old = c.args.hub.now in
    let id = c.args.id in
    let client = state_of c.args.client.now in
    let cur = c.loop-done.client in
    let new = c.settle.new.client in
    let done = c.loop-done.done in
    let heard = c.loop-done.heard in
    let text = c.in-Ok.out.now in
    let all : done ≡ min c.args.count (length text) = search rules in
    if_there old id _ (λ s here front taken.
    let h = at_there old id (λ t. WhereTaken c.args.client.now (λ f. HearsAll client cur c.args.heard.now heard (f ++ take done t.out))) s here
    (c.loop-done.invariant.heard honest) front taken in
    let same : s.out ≡ text = waits_there old id s text here c.in-Ok.ensures.waiting in
    let whole : take done s.out ≡ take c.args.count s.out =
    ap (λ k. take k s.out) (all ∙ ap (λ z. min c.args.count (length z)) (sym same)) ∙ take_min c.args.count s.out in
    subst (λ z. HearsOn client new c.args.heard.now heard (front ++ z)) whole
    (hears_settled client cur new c.args.heard.now heard (front ++ take done s.out) h (c.in_default-settle.ensures.taken h.rest h.takes)))

pub returns-clause-traffic : goal.returns-clause-traffic
returns-clause-traffic g c =
    let old = c.args.hub.now in
    let id = c.args.id in
    let text = c.in-Ok.out.now in
    let all : c.loop-done.done ≡ min c.args.count (length text) = search rules in
    shown_whole old id c.loop-done.done c.args.count text (g.L.Link.traffic c.args.link.now) (g.L.Link.traffic c.loop-done.link)
    (λ s here. waits_there old id s text here c.in-Ok.ensures.waiting) all c.loop-done.invariant.traffic
