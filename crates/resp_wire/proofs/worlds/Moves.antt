-- What the bytes, pushes and drops of a world leave of it.
use Rattle.std.proofs.Common.{◌≡◌, inl, inr, ℕ, zero, suc, ◌-◌, ◌<◌, false, None, Some, List, [], ◌∷◌, ◌++◌, length, get_or, map, set, slice_get, take, true, IfErr, IfOk, IfSome, Ok, Err, Result, refl, sym, ap, subst, ◌∙◌, arith}
use Rattle.std.proofs.lemmas.List.{get_or-set_same}
use Rattle.std.proofs.lemmas.Option.{slice_get-map, slice_get_read}
use Rattle.std.specs.List.{AllByRecursion}
use Rattle.std.specs.Option.{option_map}
use Rattle.resp_value.specs.Bounds.{Bounds}
use Rattle.resp_value.specs.Canonical.{IsValue}
use Rattle.resp_io.specs.Devices.{HasRisen}
use Rattle.resp_value.specs.Values.{datum_of}
use Rattle.resp_value.specs.declared.cause.Cause.{Cause}
use Rattle.resp_value.specs.declared.cause.Cause.TheVariants.{OutOfMemory}
use Rattle.resp_value.specs.declared.cause.Cause.TheVariants as cause
use Rattle.resp_value.specs.Data.{Datum}
use Rattle.resp_value.specs.declared.value.Value.{Value}
use Rattle.resp_session.specs.Connections.{push_message}
use Rattle.resp_session.specs.ReadingLaws.{ReadingsGoOn}
use Rattle.resp_value.specs.declared.version.Version.{Version}
use Rattle.resp_session.specs.Runs as runs
use Rattle.resp_session.specs.Runs.{RefusesEvent, RefusesPush, Step, connection_of, is_gone}
use Rattle.resp_session.specs.Serving.{WhatArrivesIsAnswered, WhatHasComeWasSent}
use Rattle.resp_session.specs.WorldLaws.{AChangeIsOfOneConnection, NoClientMeetsAFault, WhatIsLeftMayGoOn, WhatIsReadIsShown}
use Rattle.resp_session.specs.Worlds.{Drop, Push, ToClient, ToServer, World, WorldEvent, after_event, connection_at}
use Rattle.resp_client.specs.Clients.{state_of, without_front}
use Rattle.resp_client.specs.Hearing.{KeepsReading, WhereTaken}
use Rattle.resp_client.specs.declared.client.Client.{Client}
use Rattle.resp_server.specs.Handling.{WhereOpen}
use Rattle.resp_server.specs.PushRefusals as server
use Rattle.resp_server.specs.declared.error.PushError.{PushError}
use Rattle.resp_server.specs.declared.error.PushError.TheVariants as push
use Rattle.resp_server.specs.Hubs.{HubState, Seat, seat_at, seated, without_seat}
use Rattle.resp_wire.specs.Carrying.{HasBrought, HasClosed, HearsOn, MeetsFault, StopsCarrying}
use Rattle.resp_wire.specs.Ends.{KeepsHeard, outcome_of_push}
use Rattle.resp_wire.specs.Happening.{Fails, Happens, IsOpenClient}
use Rattle.resp_wire.specs.Hearing.{pushes_in, replies_in}
use Rattle.resp_wire.specs.Worlds.{HasFailedIn, Shows, ShowsEach, Stands, StopsBy, WorldState, outcome_of}
use Rattle.resp_wire.specs.declared.asked.Responses.{Responses}
use Rattle.resp_wire.specs.declared.end.End.{End}
use Rattle.resp_wire.specs.declared.event.Outcome.{Outcome}
use Rattle.resp_wire.specs.declared.event.Outcome.TheVariants.{Done, Refused}
use Rattle.resp_wire.proofs.Seated.{at_open}
use Rattle.resp_wire.proofs.Showing.{at_there}
use Rattle.resp_wire.proofs.worlds.Carried.{arrived, never_closed, never_refused, sent_seat, shown_on, with_client}
use Rattle.resp_wire.proofs.worlds.Events.{IsAt, found_at, numbered}
use Rattle.resp_wire.proofs.worlds.Places.{set_there, world_of}
use Rattle.resp_wire.proofs.worlds.Pushed.{dropped, pushed, pushed_seat}

-- what holds of each holds of one
pub one_of : {X : Type 0} (P : X → Type 0) (xs : List X) (i : ℕ) (x : X) → AllByRecursion P xs → slice_get xs i ≡ Some x → P x
one_of {X} P [] i x all e = absurd (cc)
one_of {X} P (y ∷ ys) zero x all e = let same : y ≡ x = cc in subst P same all.0
one_of {X} P (y ∷ ys) (suc i) x all e = one_of P ys i x all.1 e

-- and of each where one is another of which it holds
pub all_with : {X : Type 0} (P : X → Type 0) (xs : List X) (i : ℕ) (x : X) → AllByRecursion P xs → P x → AllByRecursion P (set xs i x)
all_with {X} P [] i x all one = tt
all_with {X} P (y ∷ ys) zero x all one = (one, all.1)
all_with {X} P (y ∷ ys) (suc i) x all one = (all.0, all_with P ys i x all.1 one)

-- of two changes in one place the last one counts
pub set_twice : {X : Type 0} (xs : List X) (i : ℕ) (x y : X) → set (set xs i x) i y ≡ set xs i y
set_twice {X} [] i x y = refl
set_twice {X} (z ∷ zs) zero x y = refl
set_twice {X} (z ∷ zs) (suc i) x y = ap (λ l. z ∷ l) (set_twice zs i x y)

-- what is put where it was changes nothing
pub set_same : {X : Type 0} (xs : List X) (i : ℕ) (x : X) → slice_get xs i ≡ Some x → set xs i x ≡ xs
set_same {X} [] i x e = absurd (cc)
set_same {X} (y ∷ ys) zero x e = let same : y ≡ x = cc in ap (λ z. z ∷ ys) (sym same)
set_same {X} (y ∷ ys) (suc i) x e = ap (λ l. y ∷ l) (set_same ys i x e)

-- of each index within there is a client
end_there : (ends : List End) (i : ℕ) → i < length ends → (e : End) × (e ≡ get_or ends i e)
end_there [] i within = absurd (omega (arith, within))
end_there (e ∷ es) zero within = (e, refl)
end_there (e ∷ es) (suc i) within = end_there es i (omega (arith, within))

-- what comes of an event in a world that is shown, and what is shown after it
abbrev Leads : {L : Type 0} → (L → Type 0) → Bounds → World → WorldState L → WorldEvent → Outcome → Type 0
Leads {L} is_honest limits w new event outcome = (next : World) × Step limits w event (outcome_of outcome) next × Shows is_honest new limits next

-- a client that was not dropped, and how it and its session stand
pub record IsAtWork (limits : Bounds) (hub : HubState) (ends : List End) (order : List ℕ) (w : World) (number : ℕ) (e : End) : Type 0 where
  pub is : suc (number - 1) ≡ number
  pub at : IsAt limits hub ends order w (number - 1) e
  pub stands : Stands limits (seat_at hub (suc (number - 1))) e at.connection

pub at_work : (limits : Bounds) (hub : HubState) (ends : List End) (order : List ℕ) (w : World) (number : ℕ) (e : End) → ShowsEach limits hub ends order w →
    IsOpenClient ends number → e ≡ get_or ends (number - 1) e → IsAtWork limits hub ends order w number e
at_work limits hub ends order w number e each client e_is =
    let (least, most) = client.there in
    let a = found_at limits hub ends order w (number - 1) e each (omega (arith, least, most)) e_is client.is_open in
    record {
      is = numbered number least;
      at = a;
      stands = (each.each (number - 1) e a.connection a.here a.its).stands a.is_open;
    }

-- a client of each number is at work that was not dropped
pub some_at_work : (limits : Bounds) (hub : HubState) (ends : List End) (order : List ℕ) (w : World) (number : ℕ) → ShowsEach limits hub ends order w →
    IsOpenClient ends number → (e : End) × IsAtWork limits hub ends order w number e
some_at_work limits hub ends order w number each client =
    let (least, most) = client.there in
    let (e, e_is) = end_there ends (number - 1) (omega (arith, least, most)) in
    (e, at_work limits hub ends order w number e each client e_is)

-- the link of an open client of a world
pub record IsLinkOf {L : Type 0} (s : WorldState L) (number : ℕ) (link : L) : Type 0 where
  pub as_many : length s.links ≡ length s.ends
  pub client : IsOpenClient s.ends number
  pub is : link ≡ get_or s.links (number - 1) link

pub link_within : {L : Type 0} (s : WorldState L) (number : ℕ) (link : L) → IsLinkOf s number link → number - 1 < length s.links
link_within {L} s number link of = omega (arith, of.client.there.0, of.client.there.1, of.as_many)

-- it is there
pub link_there : {L : Type 0} (s : WorldState L) (number : ℕ) (link : L) → IsLinkOf s number link → slice_get s.links (number - 1) ≡ Some link
link_there {L} s number link of = slice_get_read s.links (length s.links) (number - 1) link refl (link_within s number link of) of.is

-- and is honest
its_honest : {L : Type 0} (is_honest : L → Type 0) (s : WorldState L) (number : ℕ) (link : L) → AllByRecursion is_honest s.links → IsLinkOf s number link →
    is_honest link
its_honest {L} is_honest s number link honest of = one_of is_honest s.links (number - 1) link honest (link_there s number link of)

-- a link of a client whose link has failed
failed_at : {L : Type 0} (failures : L → ℕ) (links : List L) (i : ℕ) (link link' : L) → i < length links → link ≡ get_or links i link →
    HasRisen (failures link) (failures link') → HasFailedIn (map failures links) (map failures (set links i link'))
failed_at {L} failures links i link link' within is risen =
    let old : slice_get (map failures links) i ≡ Some (failures link) =
    slice_get-map failures links i ∙ ap (option_map failures) (slice_get_read links (length links) i link refl within is) in
    let new : slice_get (map failures (set links i link')) i ≡ Some (failures link') =
    slice_get-map failures (set links i link') i ∙ ap (option_map failures) (set_there links i link' within) in
    (i, failures link, failures link', old, new, risen)

pub moves_to_server : {L : Type 0} (is_honest : L → Type 0) → WhatArrivesIsAnswered → WhatIsReadIsShown → WhatIsLeftMayGoOn → WhatHasComeWasSent →
    (s : WorldState L) (hub' : HubState) (order' : List ℕ) (number count : ℕ) (e : End) (client' : Client) (link link' : L) → IsLinkOf s number link →
    e ≡ get_or s.ends (number - 1) e →
    (is_honest link → WhereOpen s.hub number (λ t front. HasBrought s.hub hub' number t (front ++ take count (state_of e.client).out) s.order order' number)) →
    state_of client' ≡ without_front count (state_of e.client) → KeepsReading e.client client' → (is_honest link → is_honest link') →
    Happens is_honest s (world_of hub' (set s.ends (number - 1) (with_client e client')) (set s.links (number - 1) link') order' s.stopped)
    (ToServer number count) Done
moves_to_server {L} is_honest answered nothing_else goes_on sent s hub' order' number count e client' link link' of e_is brought queue reading stays limits w
    shows =
    let i = number - 1 in
    let honest = its_honest is_honest s number link shows.honest of in
    let work = at_work limits s.hub s.ends s.order w number e shows.each of.client e_is in
    let a = work.at in
    let st = work.stands in
    let come : HasBrought s.hub hub' (suc i) st.session (st.front ++ take count (state_of e.client).out) s.order order' (suc i) =
    at_open s.hub (suc i) (λ t front. HasBrought s.hub hub' (suc i) t (front ++ take count (state_of e.client).out) s.order order' (suc i)) st.session st.front
    (subst (λ n. WhereOpen s.hub n (λ t front. HasBrought s.hub hub' n t (front ++ take count (state_of e.client).out) s.order order' n)) (sym work.is)
    (brought honest)) st.there st.is_open st.taking in
    let done = arrived answered nothing_else goes_on sent limits s.hub hub' s.ends s.order order' w shows.each i count e client' a.connection a.here a.its
    a.is_open a.within st come queue reading in
    subst (λ n. Leads is_honest limits w (world_of hub' (set s.ends i (with_client e client')) (set s.links i link') order' s.stopped) (ToServer n count) Done)
    work.is
    (after_event w (ToServer (suc i) count), done.0, record { each = done.1; honest = all_with is_honest s.links i link' shows.honest (stays honest) })

-- a carry in which the link failed or memory was out stops the world
stops_by : {L : Type 0} (failures : L → ℕ) (s : WorldState L) (number : ℕ) (link link' : L) (cause : Cause) (P : Cause → Type 0) →
    IsLinkOf s number link → (P cause → ⊥) → StopsCarrying P (failures link) (failures link') cause →
    StopsBy failures s.links (set s.links (number - 1) link') cause
stops_by {L} failures s number link link' cause P of never (inl memory) = inl memory
stops_by {L} failures s number link link' cause P of never (inr (inl risen)) =
    inr (failed_at failures s.links (number - 1) link link' (link_within s number link of) of.is risen.0, risen.1)
stops_by {L} failures s number link link' cause P of never (inr (inr p)) = absurd (never p)

pub stops_to_server : {L : Type 0} (is_honest : L → Type 0) (failures : L → ℕ) → WhatArrivesIsAnswered → (s : WorldState L) (number : ℕ) (e : End)
    (link link' : L) (cause : Cause) → IsLinkOf s number link → e ≡ get_or s.ends (number - 1) e → (is_honest link → WhereOpen s.hub number (λ t front.
    StopsCarrying (λ _. HasClosed s.hub number t front (state_of e.client).out) (failures link) (failures link') cause)) →
    Fails is_honest failures s (world_of s.hub s.ends (set s.links (number - 1) link') s.order s.stopped) cause
stops_to_server {L} is_honest failures answered s number e link link' cause of e_is refused limits w shows =
    let i = number - 1 in
    let work = at_work limits s.hub s.ends s.order w number e shows.each of.client e_is in
    let st = work.stands in
    stops_by failures s number link link' cause (λ _. HasClosed s.hub (suc i) st.session st.front (state_of e.client).out) of
    (never_closed answered limits s.hub s.ends s.order w shows.each (suc i) e work.at.connection (seat_at s.hub (suc i)) work.at.its st)
    (at_open s.hub (suc i) (λ t front. StopsCarrying (λ _. HasClosed s.hub (suc i) t front (state_of e.client).out) (failures link) (failures link') cause)
    st.session st.front (subst (λ n. WhereOpen s.hub n (λ t front.
    StopsCarrying (λ _. HasClosed s.hub n t front (state_of e.client).out) (failures link) (failures link') cause)) (sym work.is)
    (refused (its_honest is_honest s number link shows.honest of))) st.there st.is_open st.taking)

pub moves_to_client : {L : Type 0} (is_honest : L → Type 0) → ReadingsGoOn → WhatIsReadIsShown → AChangeIsOfOneConnection → (s : WorldState L)
    (hub' : HubState) (number count : ℕ) (e between e' : End) (client' : Client) (link link' : L) (fresh heard : Responses) → IsLinkOf s number link →
    e ≡ get_or s.ends (number - 1) e → between ≡ get_or (set s.ends (number - 1) (with_client e client')) (number - 1) between →
    replies_in fresh ≡ [] → pushes_in fresh ≡ [] → (is_honest link → IfSome (seat_at s.hub number) (λ t. WhereTaken e.client (λ front.
    HearsOn (state_of e.client) client' fresh heard (front ++ take count t.out)))) →
    IfSome (seat_at s.hub number) (λ t. hub' ≡ seated s.hub number (sent_seat count t)) → (is_honest link → is_honest link') → KeepsHeard between e' heard →
    Happens is_honest s (world_of hub' (set (set s.ends (number - 1) (with_client e client')) (number - 1) e') (set s.links (number - 1) link')
    s.order s.stopped) (ToClient number count) Done
moves_to_client {L} is_honest go_on nothing_else change s hub' number count e between e' client' link link' fresh heard of e_is between_is no_reply no_push on
    now stays kept limits w shows =
    let i = number - 1 in
    let honest = its_honest is_honest s number link shows.honest of in
    let work = at_work limits s.hub s.ends s.order w number e shows.each of.client e_is in
    let a = work.at in
    let st = work.stands in
    let same : between ≡ with_client e client' = between_is ∙ get_or-set_same s.ends i (with_client e client') between a.within in
    let heard_on : HearsOn (state_of e.client) client' fresh heard (st.rest ++ take count st.session.out) =
    at_there s.hub (suc i) (λ t. WhereTaken e.client (λ front. HearsOn (state_of e.client) client' fresh heard (front ++ take count t.out))) st.session st.there
    (subst (λ n. IfSome (seat_at s.hub n) (λ t. WhereTaken e.client (λ front. HearsOn (state_of e.client) client' fresh heard (front ++ take count t.out))))
    (sym work.is) (on honest)) st.rest st.reading in
    let seated_so : hub' ≡ seated s.hub (suc i) (sent_seat count st.session) =
    at_there s.hub (suc i) (λ t. hub' ≡ seated s.hub (suc i) (sent_seat count t)) st.session st.there
    (subst (λ n. IfSome (seat_at s.hub n) (λ t. hub' ≡ seated s.hub n (sent_seat count t))) (sym work.is) now) in
    let done = shown_on go_on nothing_else change limits s.hub hub' s.ends s.order w shows.each i count e e' client' fresh heard a.connection a.here a.its
    a.is_open a.within st no_reply no_push heard_on seated_so (subst (λ d. KeepsHeard d e' heard) same kept) in
    let ends_are : set s.ends i e' ≡ set (set s.ends i (with_client e client')) i e' = sym (set_twice s.ends i (with_client e client') e') in
    subst (λ n. Leads is_honest limits w (world_of hub' (set (set s.ends i (with_client e client')) i e') (set s.links i link') s.order s.stopped)
    (ToClient n count) Done) work.is (
      after_event w (ToClient (suc i) count),
      done.0,
      record {
        each = subst (λ l. ShowsEach limits hub' l s.order (after_event w (ToClient (suc i) count))) ends_are done.1;
        honest = all_with is_honest s.links i link' shows.honest (stays honest);
      },
    )

pub stops_to_client : {L : Type 0} (is_honest : L → Type 0) (failures : L → ℕ) → ReadingsGoOn → NoClientMeetsAFault → AChangeIsOfOneConnection →
    (s : WorldState L) (number : ℕ) (e : End) (link link' : L) (fresh heard : Responses) (cause : Cause) → IsLinkOf s number link →
    e ≡ get_or s.ends (number - 1) e → (is_honest link → IfSome (seat_at s.hub number) (λ t. WhereTaken e.client (λ front.
    StopsCarrying (MeetsFault (state_of e.client) fresh heard front t.out) (failures link) (failures link') cause))) →
    Fails is_honest failures s (world_of s.hub s.ends (set s.links (number - 1) link') s.order s.stopped) cause
stops_to_client {L} is_honest failures go_on no_fault change s number e link link' fresh heard cause of e_is refused limits w shows =
    let i = number - 1 in
    let work = at_work limits s.hub s.ends s.order w number e shows.each of.client e_is in
    let a = work.at in
    let st = work.stands in
    stops_by failures s number link link' cause (MeetsFault (state_of e.client) fresh heard st.rest st.session.out) of
    (never_refused go_on no_fault change limits s.hub s.ends s.order w shows.each i e a.connection (seat_at s.hub (suc i)) fresh heard cause a.its a.is_open st)
    (at_there s.hub (suc i) (λ t. WhereTaken e.client (λ front.
    StopsCarrying (MeetsFault (state_of e.client) fresh heard front t.out) (failures link) (failures link') cause)) st.session st.there
    (subst (λ n. IfSome (seat_at s.hub n) (λ t. WhereTaken e.client (λ front.
    StopsCarrying (MeetsFault (state_of e.client) fresh heard front t.out) (failures link) (failures link') cause))) (sym work.is)
    (refused (its_honest is_honest s number link shows.honest of))) st.rest st.reading)

-- a stop when out of memory
pub stops_for_memory : {L : Type 0} (is_honest : L → Type 0) (failures : L → ℕ) (old new : WorldState L) (result : Result Outcome Cause) →
    IfErr result (λ cause. cause ≡ OutOfMemory) → IfErr result (Fails is_honest failures old new)
stops_for_memory {L} is_honest failures old new (Ok outcome) memory = tt
stops_for_memory {L} is_honest failures old new (Err cause) memory = λ limits w shows. inl memory

pub pushes : {L : Type 0} (is_honest : L → Type 0) → WhatIsReadIsShown → WhatIsLeftMayGoOn → WhatHasComeWasSent → AChangeIsOfOneConnection →
    (s : WorldState L) (hub' : HubState) (number : ℕ) (items : List Value) → IsOpenClient s.ends number →
    IfSome (seat_at s.hub number) (λ t. hub' ≡ seated s.hub number (pushed_seat (push_message (map datum_of items)).value t)) →
    server.IsPushVerdict s.hub.limits (seat_at s.hub number) (push_message (map datum_of items)).value (Ok tt) →
    IsValue (push_message (map datum_of items)).value →
    Happens is_honest s (world_of hub' s.ends s.links s.order s.stopped) (Push number (map datum_of items)) Done
pushes {L} is_honest nothing_else goes_on sent change s hub' number items client now verdict is_value limits w shows =
    let i = number - 1 in
    let x = (push_message (map datum_of items)).value in
    let (e, work) = some_at_work limits s.hub s.ends s.order w number shows.each client in
    let a = work.at in
    let st = work.stands in
    let seated_so : hub' ≡ seated s.hub (suc i) (pushed_seat x st.session) =
    at_there s.hub (suc i) (λ t. hub' ≡ seated s.hub (suc i) (pushed_seat x t)) st.session st.there
    (subst (λ n. IfSome (seat_at s.hub n) (λ t. hub' ≡ seated s.hub n (pushed_seat x t))) (sym work.is) now) in
    let of_session : server.IsPushVerdict limits (Some st.session) x (Ok tt) =
    subst (λ o. server.IsPushVerdict limits o x (Ok tt)) st.there (subst (λ n. server.IsPushVerdict limits (seat_at s.hub n) x (Ok tt)) (sym work.is)
    (subst (λ l. server.IsPushVerdict l (seat_at s.hub number) x (Ok tt)) shows.each.same_limits verdict)) in
    let done = pushed nothing_else goes_on sent change limits s.hub hub' s.ends s.order w shows.each i items e a.connection a.here a.its a.is_open a.within st
    of_session is_value seated_so in
    subst (λ n. Leads is_honest limits w (world_of hub' s.ends s.links s.order s.stopped) (Push n (map datum_of items)) Done) work.is (
      after_event w (Push (suc i) (map datum_of items)),
      done.0,
      record {
        each = subst (λ l. ShowsEach limits hub' l s.order (after_event w (Push (suc i) (map datum_of items)))) (set_same s.ends i e a.here) done.1;
        honest = shows.honest;
      },
    )

pub drops : {L : Type 0} (is_honest : L → Type 0) → AChangeIsOfOneConnection → (s : WorldState L) (hub' : HubState) (number : ℕ) (e : End) →
    IsOpenClient s.ends number → e ≡ get_or s.ends (number - 1) e → hub' ≡ record s.hub { sessions = without_seat s.hub.sessions number } →
    seat_at hub' number ≡ None →
    Happens is_honest s (world_of hub' (set s.ends (number - 1) (record e { is_dropped = true })) s.links s.order s.stopped) (Drop number) Done
drops {L} is_honest change s hub' number e client e_is now none limits w shows =
    let i = number - 1 in
    let work = at_work limits s.hub s.ends s.order w number e shows.each client e_is in
    let is = work.is in
    let a = work.at in
    let done = dropped change limits s.hub hub' s.ends s.order w shows.each i e a.connection a.here a.its a.is_open a.within
    (subst (λ n. hub' ≡ record s.hub { sessions = without_seat s.hub.sessions n }) (sym is) now) (ap (seat_at hub') is ∙ none) in
    subst (λ n. Leads is_honest limits w (world_of hub' (set s.ends i (record e { is_dropped = true })) s.links s.order s.stopped) (Drop n) Done) is
    (after_event w (Drop (suc i)), done.0, record { each = done.1; honest = shows.honest })

-- a session that was not dropped is there
pub is_there : {L : Type 0} (is_honest : L → Type 0) (failures : L → ℕ) (s new : WorldState L) (number : ℕ) (cause : Cause) → IsOpenClient s.ends number →
    seat_at s.hub number ≡ None → Fails is_honest failures s new cause
is_there {L} is_honest failures s new number cause client none limits w shows =
    let (e, work) = some_at_work limits s.hub s.ends s.order w number shows.each client in
    let st = work.stands in
    let never : Some st.session ≡ None = sym st.there ∙ ap (seat_at s.hub) work.is ∙ none in
    absurd (cc)

pub ok_of : {T E : Type 0} (r : Result T E) (P : T → Type 0) → ((x : T) → r ≡ Ok x → P x) → IfOk r P
ok_of {T} {E} (Ok x) P f = f x refl
ok_of {T} {E} (Err e) P f = tt

pub err_of : {T E : Type 0} (r : Result T E) (P : E → Type 0) → ((e : E) → r ≡ Err e → P e) → IfErr r P
err_of {T} {E} (Ok x) P f = tt
err_of {T} {E} (Err e) P f = f e refl

-- why a session that is open refuses a push: a refusal of the push, or OutOfMemory
push_refused : (limits : Bounds) (s : Seat) (version : Version) (x : Datum) (error : PushError) → s.version ≡ version →
    server.HubRefusesPush limits (Some s) x error →
    IfOk (outcome_of_push error) (λ outcome. (cause : Cause) × (outcome ≡ Refused cause) × RefusesPush limits version x cause)
push_refused limits s version x push.NoSession same r = tt
push_refused limits s version x push.Closing same r = tt
push_refused limits s version x push.NotInVersion same r = (cause.NotInVersion, refl, sym same ∙ r.1)
push_refused limits s version x push.Double same r = (cause.Double, refl, (sym same ∙ r.0.1, r.1))
push_refused limits s version x push.NestedPush same r = (cause.PushBelowTop, refl, (sym same ∙ r.0.1, r.1, r.2))
push_refused limits s version x (push.OverLimits limit) same r = (cause.OverLimits limit, refl, (sym same ∙ r.0.1, r.1, r.2, r.3))
push_refused limits s version x push.OutOfMemory same r = tt

push_stopped : (limits : Bounds) (s : Seat) (x : Datum) (error : PushError) → s.closing ≡ false → server.HubRefusesPush limits (Some s) x error →
    IfErr (outcome_of_push error) (λ cause. cause ≡ OutOfMemory)
push_stopped limits s x push.NoSession is_open r = absurd (cc)
push_stopped limits s x push.Closing is_open r = absurd (cc)
push_stopped limits s x push.NotInVersion is_open r = tt
push_stopped limits s x push.Double is_open r = tt
push_stopped limits s x push.NestedPush is_open r = tt
push_stopped limits s x (push.OverLimits limit) is_open r = tt
push_stopped limits s x push.OutOfMemory is_open r = refl

-- the session's reason for its refusal of a push
pub session_refuses : (limits : Bounds) (hub : HubState) (ends : List End) (order : List ℕ) (w : World) (number : ℕ) (x : Datum) (error : PushError)
    (at : ShowsEach limits hub ends order w) (seat : Seat) → seat_at hub number ≡ Some seat →
    server.IsPushVerdict hub.limits (seat_at hub number) x (Err error) → server.HubRefusesPush limits (Some seat) x error
session_refuses limits hub ends order w number x error at seat there verdict =
    subst (λ o. server.HubRefusesPush limits o x error) there (subst (λ l. server.HubRefusesPush l (seat_at hub number) x error) at.same_limits verdict.first)

pub refuses_push : {L : Type 0} (is_honest : L → Type 0) (s : WorldState L) (hub' : HubState) (number : ℕ) (items : List Value) (error : PushError)
    (result : Result Outcome Cause) → result ≡ outcome_of_push error →
    server.IsPushVerdict s.hub.limits (seat_at s.hub number) (push_message (map datum_of items)).value (Err error) → hub' ≡ s.hub →
    IsOpenClient s.ends number →
    IfOk result (Happens is_honest s (world_of hub' s.ends s.links s.order s.stopped) (Push number (map datum_of items)))
refuses_push {L} is_honest s hub' number items error result is verdict same client = ok_of result _ (λ outcome gives limits w shows.
    let x = (push_message (map datum_of items)).value in
    let (e, work) = some_at_work limits s.hub s.ends s.order w number shows.each client in
    let a = work.at in
    let st = work.stands in
    let c = a.connection in
    let its : connection_at w.connections number ≡ Some c = ap (connection_at w.connections) (sym work.is) ∙ a.its in
    let refused = session_refuses limits s.hub s.ends s.order w number x error shows.each st.session (ap (seat_at s.hub) (sym work.is) ∙ st.there) verdict in
    let reasons = subst (λ r. IfOk r (λ o. (cause : Cause) × (o ≡ Refused cause) × RefusesPush limits c.version x cause)) (sym is ∙ gives)
    (push_refused limits st.session c.version x error st.version refused) in
    let (cause, outcome_is, refusal) = reasons in
    let event = Push number (map datum_of items) in
    let its_refusal : RefusesEvent limits (connection_of w event) event cause = subst (λ o. RefusesEvent limits o event cause) (sym its) refusal in
    let step : Step limits w event (runs.Refused cause) w = (ap is_gone its ∙ a.is_open, its_refusal, refl) in (
      w,
      subst (λ o. Step limits w event (outcome_of o) w) (sym outcome_is) step,
      record {
        each = subst (λ h. ShowsEach limits h s.ends s.order w) (sym same) shows.each;
        honest = shows.honest;
      },
    ))

pub stops_push : {L : Type 0} (is_honest : L → Type 0) (failures : L → ℕ) (s new : WorldState L) (number : ℕ) (items : List Value) (error : PushError)
    (result : Result Outcome Cause) → result ≡ outcome_of_push error →
    server.IsPushVerdict s.hub.limits (seat_at s.hub number) (push_message (map datum_of items)).value (Err error) → IsOpenClient s.ends number →
    IfErr result (Fails is_honest failures s new)
stops_push {L} is_honest failures s new number items error result is verdict client = err_of result _ (λ cause gives limits w shows.
    let x = (push_message (map datum_of items)).value in
    let (e, work) = some_at_work limits s.hub s.ends s.order w number shows.each client in
    let st = work.stands in
    let refused = session_refuses limits s.hub s.ends s.order w number x error shows.each st.session (ap (seat_at s.hub) (sym work.is) ∙ st.there) verdict in
    inl (subst (λ r. IfErr r (λ z. z ≡ OutOfMemory)) (sym is ∙ gives) (push_stopped limits st.session x error st.is_open refused)))
