-- Bytes that are carried in a world, either way.
use Rattle.std.proofs.Common.{◌≡◌, ℕ, suc, ◌+◌, ◌<◌, false, Some, Option, List, [], ◌++◌, length, map, take, drop, set, replicate, slice_get, refl, sym, ap, subst, ◌∙◌, arith, append_assoc}
use Rattle.std.specs.List.{concat}
use Rattle.std.proofs.Common.{Vec, Global, not}
use Rattle.std.proofs.lemmas.List.{drop-append-le, take-append-le}
use Rattle.std.proofs.lemmas.List.Elements.{filter-append}
use Rattle.resp_value.specs.Bounds.{Bounds}
use Rattle.resp_value.specs.Data.{Datum}
use Rattle.resp_value.specs.declared.cause.Cause.{Cause}
use Rattle.resp_value.specs.declared.version.Version.TheVariants.{Two}
use Rattle.resp_session.specs.Answers.{Answers}
use Rattle.resp_session.specs.Connections.{Connection, back_text, sent_text, shown_messages, shown_pushes, shown_replies, values_of, with_shown}
use Rattle.resp_session.specs.Heard.{is_push, numbered_replies, pushes_of, replies_of}
use Rattle.resp_session.specs.Reading.{ClientFault, MayGoOn, ReadsAs, Waiting}
use Rattle.resp_session.specs.ReadingLaws.{ReadingsGoOn}
use Rattle.resp_session.specs.Requests.{Request, request_text}
use Rattle.resp_session.specs.Runs.{Done, Step, is_gone}
use Rattle.resp_session.specs.Serving.{IsLeftBy, WhatArrivesIsAnswered, WhatHasComeWasSent, clients_in, coming, session_of}
use Rattle.resp_session.specs.WorldLaws.{AChangeIsOfOneConnection, NoClientMeetsAFault, WhatIsLeftMayGoOn, WhatIsReadIsShown, waiting_for}
use Rattle.resp_session.specs.Worlds.{ToClient, ToServer, World, after_event, connection_at}
use Rattle.resp_server.specs.Answering.{state_with}
use Rattle.resp_server.specs.Handling.{HasAnswered}
use Rattle.resp_server.specs.Hubs.{HubState, Seat, seat_at, seated}
use Rattle.resp_client.specs.Clients.{ClientState, next_number, queued, state_of, without_front}
use Rattle.resp_client.specs.Hearing.{HasTaken, KeepsReading}
use Rattle.resp_client.specs.declared.client.Client.{Client}
use Rattle.resp_wire.specs.Carrying.{HasBrought, HasClosed, HearsOn, MeetsFault}
use Rattle.resp_wire.specs.Ends.{KeepsHeard}
use Rattle.resp_wire.specs.Hearing.{pushes_in, replies_in}
use Rattle.resp_wire.specs.Requests.{request_of}
use Rattle.resp_wire.specs.Worlds.{ShowsClient, ShowsEach, Stands}
use Rattle.resp_wire.specs.declared.asked.Request.{Request as Asking}
use Rattle.resp_wire.specs.declared.asked.Responses.{Responses}
use Rattle.resp_wire.specs.declared.end.End.{End}
use Rattle.resp_wire.proofs.Seated.{seat_here}
use Rattle.resp_wire.proofs.worlds.Frames.{Beyond, IsFramed, beyond, framed}
use Rattle.resp_wire.proofs.worlds.Places.{never_gone, seats_elsewhere}
use Rattle.resp_wire.proofs.worlds.Reading.{come_on, counted, unnumbered, waits_on}

-- what is read stays what it is where more is answered
pub still_shown : WhatIsReadIsShown → WhatIsLeftMayGoOn → WhatHasComeWasSent → (limits : Bounds) (hub : HubState) (ends : List End) (order : List ℕ)
    (w next : World) (at : ShowsEach limits hub ends order w) (b : Beyond limits at.n next) (i : ℕ) (c c' : Connection) (seat : Option Seat) (e : End) →
    connection_at w.connections i ≡ Some c → connection_at next.connections i ≡ Some c' → c'.requests ≡ c.requests → c'.shown ≡ c.shown →
    (more : List ℕ) → back_text c' ≡ back_text c ++ more → Stands limits seat e c →
    (values_of (shown_messages c) ≡ values_of (shown_messages c')) × (take c'.shown (back_text c') ≡ take c.shown (back_text c))
still_shown nothing_else goes_on sent limits hub ends order w next at b i c c' seat e its there requests shown more back s =
    let within = (sent limits at.n at.events w at.run i c its).1 in
    let same : take c'.shown (back_text c') ≡ take c.shown (back_text c) =
    ap (λ n. take n (back_text c')) shown ∙ ap (take c.shown) back ∙ take-append-le c.shown (back_text c) more within in
    let may = goes_on limits at.n at.events w at.bounds at.few at.possible at.run i c its s.text s.rest (state_of e.client).waiting s.reads s.whole in
    let reads = subst (λ l. ReadsAs limits (waiting_for Two l) (values_of (shown_messages c)) s.text (state_of e.client).waiting) (sym requests) s.reads in (
      nothing_else limits at.n b.events next at.bounds at.few b.possible b.run i c' there (values_of (shown_messages c)) s.text s.rest
          (state_of e.client).waiting reads (same ∙ s.whole) may,
      same,
    )

-- a session's state in the hub is its state in the world
same_session : (limits : Bounds) (hub : HubState) (ends : List End) (order : List ℕ) (w : World) (at : ShowsEach limits hub ends order w) (c : Connection)
    (seat : Option Seat) (e : End) (s : Stands limits seat e c) → state_with hub.store s.session.version [] false 0 ≡ session_of w c
same_session limits hub ends order w at c seat e s =
    ap (λ store. state_with store s.session.version [] false 0) at.store ∙ ap (λ version. state_with w.store version [] false 0) s.version

-- what is answered to what comes to it is what the world is left with
left_after : WhatArrivesIsAnswered → (limits : Bounds) (hub hub' : HubState) (ends : List End) (order : List ℕ) (w : World)
    (at : ShowsEach limits hub ends order w) (i k n : ℕ) (e : End) (c : Connection) (seat : Option Seat) →
    connection_at w.connections i ≡ Some c → (s : Stands limits seat e c) →
    (a : HasAnswered hub hub' i s.session (s.front ++ take k (state_of e.client).out) n) →
    IsLeftBy limits i k w (after_event w (ToServer i k)) c (state_with a.store a.version a.reply a.closing n) a.rest
left_after answered limits hub hub' ends order w at i k n e c seat its s a =
    let last = state_with a.store a.version a.reply a.closing n in
    let text = s.front ++ take k (state_of e.client).out in
    let in_limits : Answers limits i (state_with hub.store s.session.version [] false 0) text last a.rest =
    subst (λ l. Answers l i (state_with hub.store s.session.version [] false 0) text last a.rest) at.same_limits a.answers in
    let in_world : Answers limits i (session_of w c) text last a.rest =
    subst (λ z. Answers limits i z text last a.rest) (same_session limits hub ends order w at c seat e s) in_limits in
    let of_coming : Answers limits i (session_of w c) (s.front ++ coming k c) last a.rest =
    subst (λ z. Answers limits i (session_of w c) (s.front ++ take k z) last a.rest) s.asks in_world in
    answered limits at.n at.events w at.bounds at.possible at.run i k c its s.front a.rest last s.unfinished of_coming

-- no session of a world is closed by what comes to it
pub never_closed : WhatArrivesIsAnswered → (limits : Bounds) (hub : HubState) (ends : List End) (order : List ℕ) (w : World)
    (at : ShowsEach limits hub ends order w) (i : ℕ) (e : End) (c : Connection) (seat : Option Seat) → connection_at w.connections i ≡ Some c →
    (s : Stands limits seat e c) → HasClosed hub i s.session s.front (state_of e.client).out → ⊥
never_closed answered limits hub ends order w at i e c seat its s h =
    let left = left_after answered limits hub h.new ends order w at i h.count h.commands e c seat its s h.answered in
    let is_open : h.answered.closing ≡ false = left.is_open in
    let is_closing = h.is_closing in
    absurd (cc)

-- the client after bytes that it sent
abbrev pub with_client : End → Client → End
with_client e client = record e { client = client }

-- bytes that come to a session leave what they leave in the world
pub arrived : WhatArrivesIsAnswered → WhatIsReadIsShown → WhatIsLeftMayGoOn → WhatHasComeWasSent → (limits : Bounds) (hub hub' : HubState)
    (ends : List End) (order order' : List ℕ) (w : World) (at : ShowsEach limits hub ends order w) (i k : ℕ) (e : End) (client' : Client)
    (c : Connection) → slice_get ends i ≡ Some e → connection_at w.connections (suc i) ≡ Some c → (is_open : c.dropped ≡ false) → i < length ends →
    (s : Stands limits (seat_at hub (suc i)) e c) →
    HasBrought hub hub' (suc i) s.session (s.front ++ take k (state_of e.client).out) order order' (suc i) →
    state_of client' ≡ without_front k (state_of e.client) → KeepsReading e.client client' →
    Step limits w (ToServer (suc i) k) Done (after_event w (ToServer (suc i) k)) ×
    ShowsEach limits hub' (set ends i (with_client e client')) order' (after_event w (ToServer (suc i) k))
arrived answered nothing_else goes_on sent limits hub hub' ends order order' w at i k e client' c here its is_open within s b dropped reading =
    let next_world = after_event w (ToServer (suc i) k) in
    let a = b.answered in
    let old = at.each i e c here its in
    let seat : Seat = record { version = a.version; out = s.session.out ++ a.reply; closing = a.closing; decoder = a.decoder } in
    let left = left_after answered limits hub hub' ends order w at (suc i) k b.commands e c (seat_at hub (suc i)) its s a in
    let step : Step limits w (ToServer (suc i) k) Done next_world = (ap is_gone its ∙ is_open, (λ cause r. r), refl) in
    let after_it = beyond limits hub ends order w next_world (ToServer (suc i) k) at step tt in
    let has_come = sent limits at.n at.events w at.run (suc i) c its in
    let same = still_shown nothing_else goes_on sent limits hub ends order w next_world at after_it (suc i) c left.next (seat_at hub (suc i)) e its
    left.there left.client.requests left.client.shown a.reply left.text s in
    let frame : IsFramed i hub hub' w next_world = record {
      limits = ap (λ (h : HubState). h.limits) a.state;
      store = ap (λ (h : HubState). h.store) a.state ∙ left.store;
      as_many = left.same_count;
      others = left.others;
      seats = λ j other. ap (λ h. seat_at h j) a.state ∙ seats_elsewhere hub (suc i) j seat other;
    } in
    let client : ShowsClient limits (seat_at hub' (suc i)) (with_client e client') left.next = record {
      asked = old.asked ∙ sym left.client.requests;
      replies = old.replies ∙ ap replies_of same.0;
      pushes = old.pushes ∙ ap pushes_of same.0;
      dropped = old.dropped ∙ sym left.client.dropped;
      gone = never_gone left.next _ (left.client.dropped ∙ is_open);
      stands = λ _. record {
        session = seat;
        there = ap (λ h. seat_at h (suc i)) a.state ∙ seat_here hub (suc i) s.session seat s.there;
        version = left.version;
        is_open = b.is_open;
        answers = ap (λ l. l ++ a.reply) s.answers ∙ sym (drop-append-le c.shown (back_text c) a.reply has_come.1) ∙
            sym (ap (drop c.shown) left.text) ∙ sym (ap (λ n. drop n (back_text left.next)) left.client.shown);
        front = a.rest;
        taking = a.taking b.is_open;
        unfinished = left.unfinished;
        same_limits = ap (λ (z : ClientState). z.limits) dropped ∙ s.same_limits;
        asks = ap (λ (z : ClientState). z.out) dropped ∙ ap (drop k) s.asks ∙ waits_on c.arrived k (sent_text c) ∙
            sym (ap (λ n. drop n (sent_text c)) left.arrived) ∙ sym (ap (λ (l : List Request). drop left.next.arrived (concat (map request_text l)))
            left.client.requests);
        same_count = ap queued dropped ∙ s.same_count ∙ sym (ap length left.client.requests);
        text = s.text;
        rest = s.rest;
        reads = subst (λ (z : ClientState). ReadsAs limits (waiting_for Two left.next.requests) (values_of (shown_messages left.next)) s.text z.waiting)
            (sym dropped) (subst (λ l. ReadsAs limits (waiting_for Two l) (values_of (shown_messages left.next)) s.text (state_of e.client).waiting)
            (sym left.client.requests) (subst (λ xs. ReadsAs limits (waiting_for Two c.requests) xs s.text (state_of e.client).waiting) same.0 s.reads));
        whole = same.1 ∙ s.whole;
        reading = reading.same_front s.rest s.reading;
      };
    } in
    let ordered : order' ≡ clients_in next_world =
    b.added ∙ ap (λ l. l ++ replicate b.commands (suc i)) at.ordered ∙ sym left.order in
    (step, framed limits hub hub' ends order order' w next_world i (with_client e client') left.next at after_it frame ordered within left.there client)

-- bytes that come to a client leave what they leave in the world
pub record IsHeard (limits : Bounds) (w : World) (i k : ℕ) (c : Connection) (e : End) (values : List Datum) (text rest : List ℕ) (after : Waiting)
    (come : List ℕ) (seat : Option Seat) (s : Stands limits seat e c) : Type 0 where
  pub reads : ReadsAs limits (waiting_for Two c.requests) (values_of (shown_messages c) ++ values) (s.text ++ text) after
  pub whole : come ≡ (s.text ++ text) ++ rest

heard_of : ReadingsGoOn → (limits : Bounds) (w : World) (i k : ℕ) (c : Connection) (e : End) (seat : Option Seat) (s : Stands limits seat e c)
    (values : List Datum) (text rest : List ℕ) (after : Waiting) → ReadsAs (state_of e.client).limits (state_of e.client).waiting values text after →
    s.rest ++ take k s.session.out ≡ text ++ rest →
    IsHeard limits w i k c e values text rest after (take (with_shown k c).shown (back_text c)) seat s
heard_of go_on limits w i k c e seat s values text rest after reads whole = record {
  reads = go_on limits (waiting_for Two c.requests) (state_of e.client).waiting after (values_of (shown_messages c)) values s.text text s.reads
      (subst (λ l. ReadsAs l (state_of e.client).waiting values text after) s.same_limits reads);
  whole = come_on c.shown k (back_text c) ∙ ap (λ l. l ++ take k (drop c.shown (back_text c))) s.whole ∙
      ap (λ l. (s.text ++ s.rest) ++ take k l) (sym s.answers) ∙ append_assoc s.text s.rest (take k s.session.out) ∙ ap (λ l. s.text ++ l) whole ∙
      sym (append_assoc s.text text rest);
}

-- the session after bytes that were sent
abbrev pub sent_seat : ℕ → Seat → Seat
sent_seat k s = record s { out = drop k s.out }

shown_frame : AChangeIsOfOneConnection → (limits : Bounds) (hub hub' : HubState) (ends : List End) (order : List ℕ) (w : World)
    (at : ShowsEach limits hub ends order w) (i k : ℕ) (s : Seat) → hub' ≡ seated hub (suc i) (sent_seat k s) →
    IsFramed i hub hub' w (after_event w (ToClient (suc i) k))
shown_frame change limits hub hub' ends order w at i k s now = record {
  limits = ap (λ (h : HubState). h.limits) now;
  store = ap (λ (h : HubState). h.store) now ∙ at.store;
  as_many = (change (with_shown k) w.connections (suc i)).0;
  others = (change (with_shown k) w.connections (suc i)).2;
  seats = λ j other. ap (λ h. seat_at h j) now ∙ seats_elsewhere hub (suc i) j (sent_seat k s) other;
}

shown_step : (limits : Bounds) (w : World) (i k : ℕ) (c : Connection) → connection_at w.connections (suc i) ≡ Some c → c.dropped ≡ false →
    Step limits w (ToClient (suc i) k) Done (after_event w (ToClient (suc i) k))
shown_step limits w i k c its is_open = (ap is_gone its ∙ is_open, (λ cause r. r), refl)

-- no client of a world meets a fault
pub never_refused : ReadingsGoOn → NoClientMeetsAFault → AChangeIsOfOneConnection → (limits : Bounds) (hub : HubState) (ends : List End) (order : List ℕ)
    (w : World) (at : ShowsEach limits hub ends order w) (i : ℕ) (e : End) (c : Connection) (seat : Option Seat) (before after : Responses) (cause : Cause) →
    connection_at w.connections (suc i) ≡ Some c → c.dropped ≡ false → (s : Stands limits seat e c) →
    MeetsFault (state_of e.client) before after s.rest s.session.out cause → ⊥
never_refused go_on no_fault change limits hub ends order w at i e c seat before after cause its is_open s m =
    let k = m.count in
    let next = after_event w (ToClient (suc i) k) in
    let b = beyond limits hub ends order w next (ToClient (suc i) k) at (shown_step limits w i k c its is_open) tt in
    let there = (change (with_shown k) w.connections (suc i)).1 c its in
    let h = m.met.some in
    let r = h.reads in
    let all = heard_of go_on limits w i k c e seat s h.values r.text h.rest h.waiting r.reads r.whole in
    no_fault limits at.n b.events next at.bounds at.few b.possible b.run (suc i) (with_shown k c) there (values_of (shown_messages c) ++ h.values)
    (s.text ++ r.text) h.rest h.waiting m.fault.cause m.fault.at all.reads all.whole
    (subst (λ l. ClientFault l h.waiting h.rest m.fault.cause m.fault.at) s.same_limits m.met.fault_of)

pub shown_on : ReadingsGoOn → WhatIsReadIsShown → AChangeIsOfOneConnection → (limits : Bounds) (hub hub' : HubState) (ends : List End)
    (order : List ℕ) (w : World) (at : ShowsEach limits hub ends order w) (i k : ℕ) (e e' : End) (client' : Client) (fresh heard : Responses)
    (c : Connection) → slice_get ends i ≡ Some e → connection_at w.connections (suc i) ≡ Some c → (is_open : c.dropped ≡ false) → i < length ends →
    (s : Stands limits (seat_at hub (suc i)) e c) → replies_in fresh ≡ [] → pushes_in fresh ≡ [] →
    HearsOn (state_of e.client) client' fresh heard (s.rest ++ take k s.session.out) → hub' ≡ seated hub (suc i) (sent_seat k s.session) →
    KeepsHeard (record e { client = client' }) e' heard →
    Step limits w (ToClient (suc i) k) Done (after_event w (ToClient (suc i) k)) ×
    ShowsEach limits hub' (set ends i e') order (after_event w (ToClient (suc i) k))
shown_on go_on nothing_else change limits hub hub' ends order w at i k e e' client' fresh heard c here its is_open within s no_reply no_push on now kept =
    let next = after_event w (ToClient (suc i) k) in
    let old = at.each i e c here its in
    let step = shown_step limits w i k c its is_open in
    let b = beyond limits hub ends order w next (ToClient (suc i) k) at step tt in
    let there : connection_at next.connections (suc i) ≡ Some (with_shown k c) = (change (with_shown k) w.connections (suc i)).1 c its in
    let all = on.hears in
    let xs = values_of (shown_messages c) in
    let ys = all.values in
    let after = (state_of client').waiting in
    let h = heard_of go_on limits w i k c e (seat_at hub (suc i)) s ys all.reads.text all.rest after all.reads.reads all.reads.whole in
    let may : MayGoOn limits after all.rest = subst (λ l. MayGoOn l after all.rest) (all.same_limits ∙ s.same_limits) on.may_go_on in
    let same : xs ++ ys ≡ values_of (shown_messages (with_shown k c)) = nothing_else limits at.n b.events next at.bounds at.few b.possible b.run (suc i)
    (with_shown k c) there (xs ++ ys) (s.text ++ all.reads.text) all.rest after h.reads h.whole may in
    let numbered : map (λ (r : ℕ × Datum). r.1) (replies_in heard) ≡ replies_of ys =
    ap (map (λ (r : ℕ × Datum). r.1)) (all.heard.0 ∙ ap (λ l. l ++ numbered_replies (next_number (state_of e.client)) ys) no_reply) ∙ unnumbered (next_number
    (state_of e.client)) (replies_of ys) in
    let pushed : pushes_in heard ≡ pushes_of ys = all.heard.1 ∙ ap (λ l. l ++ pushes_of ys) no_push in
    let fewer = counted (state_of e.client).limits (state_of e.client).waiting after ys all.reads.text all.reads.reads in
    let counts = all.answered in
    let before = s.same_count in
    let still : (state_of client').answered + length after.asks ≡ length c.requests = omega (arith, fewer, counts, before) in
    let client : ShowsClient limits (seat_at hub' (suc i)) e' (with_shown k c) = record {
      asked = ap (λ (l : Vec Asking Global). map request_of l.items) kept.asked ∙ old.asked;
      replies = kept.replies ∙ ap (λ l. l ++ map (λ (r : ℕ × Datum). r.1) (replies_in heard)) old.replies ∙ ap (λ l. shown_replies c ++ l) numbered ∙ sym
          (filter-append (λ x. not (is_push x)) xs ys) ∙ ap replies_of same;
      pushes = kept.pushes ∙ ap (λ l. l ++ pushes_in heard) old.pushes ∙ ap (λ l. shown_pushes c ++ l) pushed ∙ sym (filter-append is_push xs ys) ∙ ap
          pushes_of same;
      dropped = kept.dropped ∙ old.dropped;
      gone = never_gone c _ is_open;
      stands = λ _. record {
        session = sent_seat k s.session;
        there = ap (λ g. seat_at g (suc i)) now ∙ seat_here hub (suc i) s.session (sent_seat k s.session) s.there;
        version = s.version;
        is_open = s.is_open;
        answers = ap (drop k) s.answers ∙ waits_on c.shown k (back_text c);
        front = s.front;
        taking = s.taking;
        unfinished = record { front = s.unfinished.front; spelled = s.unfinished.spelled; whole = s.unfinished.whole };
        same_limits = ap (λ d. (state_of d).limits) kept.client ∙ all.same_limits ∙ s.same_limits;
        asks = ap (λ d. (state_of d).out) kept.client ∙ all.same_out ∙ s.asks;
        same_count = ap (λ d. queued (state_of d)) kept.client ∙ still;
        text = s.text ++ all.reads.text;
        rest = all.rest;
        reads = subst (λ d. ReadsAs limits (waiting_for Two c.requests) (values_of (shown_messages (with_shown k c))) (s.text ++ all.reads.text)
            (state_of d).waiting) (sym kept.client)
            (subst (λ zs. ReadsAs limits (waiting_for Two c.requests) zs (s.text ++ all.reads.text) after) same h.reads);
        whole = h.whole;
        reading = subst (λ d. HasTaken d all.rest) (sym kept.client) all.takes;
      };
    } in (
      step,
      framed limits hub hub' ends order order w next i e' (with_shown k c) at b (shown_frame change limits hub hub' ends order w at i k s.session now)
          at.ordered within there client,
    )
