use Rattle.std.proofs.Common.{rules, ◌≡◌, ℕ, List, ◌++◌, inl, inr, length, take, subst}
use Rattle.resp_client.specs.Clients.{state_of}
use Rattle.resp_server.specs.Handling.{HasAnswered}
use Rattle.resp_server.specs.Hubs.{HubState, Seat}
use Rattle.resp_wire.proofs.AnsweredOn.{brings, closes}
use Rattle.resp_wire.proofs.Seated.{not_there, where_open}
use Rattle.resp_wire.proofs.ServedTexts.{answered_at, answered_is_there}
use Rattle.resp_io.proofs.Turning.{has_risen}
use Rattle.resp_wire.proofs.carrying.give.Goals as goal

pub returns-in-Err-clause-refusal : goal.returns-in-Err-clause-refusal
returns-in-Err-clause-refusal g c honest = where_open c.args.hub.now c.args.id _ (λ s here not_closing front taken.
    inr (inl (has_risen (g.L.Link.failures c.args.link.now) (g.L.Link.failures c.carry.new.self) c.in-Err.ensures.failures, c.in-Err.ensures.cause)))

-- what is answered to what was carried is answered to the first bytes that waited
answered_to : (old new : HubState) (id count n : ℕ) (came out : List ℕ) (s : Seat) (front : List ℕ) → came ≡ take count out →
    HasAnswered old new id s (front ++ came) n → HasAnswered old new id s (front ++ take count out) n
answered_to old new id count n came out s front same = subst (λ z. HasAnswered old new id s (front ++ z) n) same

pub returns-in_default-is_closing-clause-refusal :
    goal.returns-in_default-is_closing-clause-refusal
returns-in_default-is_closing-clause-refusal g c honest =
    let old = c.args.hub.now in
    let new = c.bytes.new.self in
    let id = c.args.id in
    let came = c.carry.new.into in
    let n = c.in-Ok.handled.commands in
    where_open old id _ (λ s here not_closing front taken. absurd (not_there new id (answered_is_there old new id s (front ++ came) n here
    (answered_at old new id came n c.in-Ok.ensures.answered s front here not_closing taken)) c.in_default-is_closing.ensures.none))

pub returns-then-closing-clause-refusal : goal.returns-then-closing-clause-refusal
returns-then-closing-clause-refusal g c honest =
    let old = c.args.hub.now in
    let new = c.bytes.new.self in
    let count = length c.args.room.now in
    let out = (state_of c.args.client.now).out in
    let same : c.carry.new.into ≡ take count out = let carried = c.in_default.ensures.carried honest in search (rules, carried) in
    where_open old c.args.id _ (λ s here not_closing front taken.
    let answered = answered_to old new c.args.id count _ _ out s front same (answered_at old new c.args.id c.carry.new.into c.in-Ok.handled.commands
    c.in-Ok.ensures.answered s front here not_closing taken) in
    inr (inr (closes old new c.args.id s front out count _ c.in-Ok-is_closing.closing here answered c.in-Ok-is_closing.ensures.closing (search rules))))

pub returns-clause-brought : goal.returns-clause-brought
returns-clause-brought g c honest =
    let old = c.args.hub.now in
    let new = c.bytes.new.self in
    let id = c.args.id in
    let came = c.carry.new.into in
    let count = length c.args.room.now in
    let out = (state_of c.args.client.now).out in
    let n = c.in-Ok.handled.commands in
    let carried = c.in_default.ensures.carried honest in
    let same : came ≡ take count out = search (rules, carried) in
    where_open old id _ (λ s here not_closing front taken. brings old new id s (front ++ take count out) c.args.order.now.items c.add.new.order.items
    c.args.number n c.in-Ok-is_closing.closing here
    (subst (λ z. HasAnswered old new id s (front ++ z) n) same (answered_at old new id came n c.in-Ok.ensures.answered s front here not_closing taken))
    c.in-Ok-is_closing.ensures.closing (search rules) (search rules))
