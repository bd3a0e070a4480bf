-- What is shown to a client of what waits in its session.
use Rattle.std.specs.Option.{option_map}
use Rattle.std.proofs.Common.{◌≡◌, inl, inr, ℕ, ◌+◌, ◌≤◌, Option, None, Some, List, [], ◌∷◌, ◌++◌, length, take, drop, IfSome, refl, sym, ap, subst, ◌∙◌, arith}
use Rattle.std.proofs.Math.Seq.{take-add}
use Rattle.std.proofs.lemmas.List.{append-nil, drop-drop, length-drop, take_all}
use Rattle.resp_value.specs.Data.{Datum}
use Rattle.resp_value.specs.Trees.{Spells}
use Rattle.resp_value.specs.declared.cause.Cause.{Cause}
use Rattle.resp_value.specs.declared.cause.Cause.TheVariants as cause
use Rattle.resp_scan.specs.declared.event.Fault.{Fault}
use Rattle.resp_session.specs.Reading.{MayGoOn, ReadsAs, Waiting}
use Rattle.resp_session.specs.ReadingLaws.{HearingGoesOn, ReadingsGoOn}
use Rattle.resp_client.specs.Clients.{ClientState, state_of}
use Rattle.resp_client.specs.Hearing.{HasTaken, Hears, Refuses, UnlessReplied, WhereTaken}
use Rattle.resp_client.specs.declared.client.Client.{Client}
use Rattle.resp_client.specs.declared.heard.What.{What}
use Rattle.resp_client.specs.declared.heard.What.TheVariants.{Reply, Push, Shown, More}
use Rattle.resp_server.specs.Hubs.{HubState, Seat, seat_at, seated}
use Rattle.resp_wire.specs.Carrying.{HearsOn, MeetsFault, StopsCarrying, cause_of}
use Rattle.resp_wire.specs.Hearing.{HearsAll, HearsFault}
use Rattle.resp_wire.specs.Stops.{StopsClient, StopsListening, error_by}
use Rattle.resp_wire.specs.declared.asked.Responses.{Responses}
use Rattle.resp_wire.specs.declared.error.AskError.{AskError}
use Rattle.resp_wire.proofs.LinkStops.{stops_with}
use Rattle.resp_wire.proofs.Listening.{HearsUpTo, by_client, client_stops, hears_piece, stops_hearing, fault_in_piece}
use Rattle.resp_wire.proofs.Seated.{seat_here, seated_twice}
use Rattle.resp_wire.proofs.ServedTexts.{seat_with}

-- what holds of a session, where there is one
if_by : (hub : HubState) (id : ℕ) (P : Seat → Type 0) (o : Option Seat) → seat_at hub id ≡ o → ((s : Seat) → seat_at hub id ≡ Some s → P s) → IfSome o P
if_by hub id P None is all = tt
if_by hub id P (Some s) is all = all s is

pub if_there : (hub : HubState) (id : ℕ) (P : Seat → Type 0) → ((s : Seat) → seat_at hub id ≡ Some s → P s) → IfSome (seat_at hub id) P
if_there hub id P all = if_by hub id P (seat_at hub id) refl all

pub at_there : (hub : HubState) (id : ℕ) (P : Seat → Type 0) (s : Seat) → seat_at hub id ≡ Some s → IfSome (seat_at hub id) P → P s
at_there hub id P s here w = subst (λ o. IfSome o P) here w

-- what waits in it
pub waits_there : (hub : HubState) (id : ℕ) (s : Seat) (text : List ℕ) → seat_at hub id ≡ Some s →
    option_map (λ (t : Seat). t.out) (seat_at hub id) ≡ Some text → s.out ≡ text
waits_there hub id s text here is = let z : Some s.out ≡ Some text = sym (ap (option_map (λ (t : Seat). t.out)) here) ∙ is in cc

-- What was shown of a session's text, after what was shown before.

abbrev pub without : ℕ → Seat → Seat
without count s = seat_with s.version (drop count s.out) s.closing s.decoder

pub there_still : (old cur : HubState) (id : ℕ) (s : Seat) (done : ℕ) → seat_at old id ≡ Some s → cur ≡ seated old id (without done s) →
    seat_at cur id ≡ Some (without done s)
there_still old cur id s done here state = ap (λ h. seat_at h id) state ∙ seat_here old id s (without done s) here

-- this many bytes more wait, where this many were among all that waited
waits_by : (old cur : HubState) (id : ℕ) (text : List ℕ) (done n : ℕ) (o : Option Seat) → seat_at old id ≡ o → option_map (λ (t : Seat). t.out) o ≡ Some text →
    IfSome o (λ s. cur ≡ seated old id (without done s)) → done + n ≤ length text → IfSome (seat_at cur id) (λ t. n ≤ length t.out)
waits_by old cur id text done n None is out dropped within = absurd (cc)
waits_by old cur id text done n (Some s) is out dropped within =
    let same : s.out ≡ text = cc in
    subst (λ o. IfSome o (λ (t : Seat). n ≤ length t.out)) (sym (there_still old cur id s done is dropped))
    (omega (arith, length-drop done s.out, within, ap length same))

pub waits_still : (old cur : HubState) (id : ℕ) (text : List ℕ) (done n : ℕ) → option_map (λ (t : Seat). t.out) (seat_at old id) ≡ Some text →
    IfSome (seat_at old id) (λ s. cur ≡ seated old id (without done s)) → done + n ≤ length text → IfSome (seat_at cur id) (λ t. n ≤ length t.out)
waits_still old cur id text done n out dropped within = waits_by old cur id text done n (seat_at old id) refl out dropped within

pub shows_more : ReadingsGoOn → HearingGoesOn → (first c new : Client) (before mid after : Responses) (old cur : HubState) (id done n : ℕ) →
    IfSome (seat_at old id) (λ t. cur ≡ seated old id (without done t)) →
    IfSome (seat_at old id) (λ t. WhereTaken first (λ f. HearsAll (state_of first) c before mid (f ++ take done t.out))) →
    IfSome (seat_at cur id) (λ t. WhereTaken c (λ f. HearsAll (state_of c) new mid after (f ++ take n t.out))) →
    IfSome (seat_at old id) (λ t. WhereTaken first (λ f. HearsAll (state_of first) new before after (f ++ take (done + n) t.out)))
shows_more go_on goes_on first c new before mid after old cur id done n dropped so_far more = if_there old id _ (λ seat here front taken.
    let s = state_of first in
    let state = at_there old id (λ t. cur ≡ seated old id (without done t)) seat here dropped in
    let h = at_there old id (λ t. WhereTaken first (λ f. HearsAll s c before mid (f ++ take done t.out))) seat here so_far front taken in
    let p = at_there cur id (λ t. WhereTaken c (λ f. HearsAll (state_of c) new mid after (f ++ take n t.out))) (without done seat)
    (there_still old cur id seat done here state) more h.rest h.takes in
    subst (λ z. HearsAll s new before after (front ++ z)) (sym (take-add done n seat.out))
    (hears_piece go_on goes_on s c new before mid after front (take done seat.out) (take n (drop done seat.out)) h p))

pub drops_more : (old cur new : HubState) (id done n : ℕ) → IfSome (seat_at old id) (λ t. cur ≡ seated old id (without done t)) →
    IfSome (seat_at cur id) (λ t. new ≡ seated cur id (without n t)) → IfSome (seat_at old id) (λ t. new ≡ seated old id (without (done + n) t))
drops_more old cur new id done n dropped more = if_there old id _ (λ seat here.
    let state = at_there old id (λ t. cur ≡ seated old id (without done t)) seat here dropped in
    let last = without n (without done seat) in
    at_there cur id (λ t. new ≡ seated cur id (without n t)) (without done seat) (there_still old cur id seat done here state) more ∙
    ap (λ h. seated h id last) state ∙ seated_twice old id (without done seat) last ∙
    ap (λ z. seated old id (seat_with seat.version z seat.closing seat.decoder)) (drop-drop n done seat.out))

fault_on : ReadingsGoOn → HearingGoesOn → (s : ClientState) (c : Client) (before mid after : Responses) (front text : List ℕ) (done : ℕ) (cause : Cause) →
    (h : HearsAll s c before mid (front ++ take done text)) → MeetsFault (state_of c) mid after h.rest (drop done text) cause →
    MeetsFault s before after front text cause
fault_on go_on goes_on s c before mid after front text done cause h m = record {
  count = done + m.count;
  fault = m.fault;
  met = subst (λ z. HearsFault s before after (front ++ z) m.fault) (sym (take-add done m.count text))
      (fault_in_piece go_on goes_on s c before mid after front (take done text) (take m.count (drop done text)) m.fault h m.met);
  named = m.named;
}

pub stops_more : ReadingsGoOn → HearingGoesOn → (s : ClientState) (c : Client) (before mid after : Responses) (old cur : HubState) (id : ℕ) (seat : Seat)
    (front : List ℕ) (done failures failures' failures'' : ℕ) (cause : Cause) → seat_at old id ≡ Some seat → cur ≡ seated old id (without done seat) →
    HearsAll s c before mid (front ++ take done seat.out) → failures' ≡ failures →
    IfSome (seat_at cur id) (λ t. WhereTaken c (λ f. StopsCarrying (MeetsFault (state_of c) mid after f t.out) failures' failures'' cause)) →
    StopsCarrying (MeetsFault s before after front seat.out) failures failures'' cause
stops_more go_on goes_on s c before mid after old cur id seat front done failures failures' failures'' cause here state h none more =
    stops_with (MeetsFault (state_of c) mid after h.rest (drop done seat.out)) (MeetsFault s before after front seat.out) failures failures' failures'' cause
    none (fault_on go_on goes_on s c before mid after front seat.out done cause h)
    (at_there cur id (λ t. WhereTaken c (λ f. StopsCarrying (MeetsFault (state_of c) mid after f t.out) failures' failures'' cause)) (without done seat)
    (there_still old cur id seat done here state) more h.rest h.takes)

-- a client's stop is OutOfMemory or a fault
pub stops_showing : (s : ClientState) (c : Client) (before after : Responses) (front text : List ℕ) (n failures failures' : ℕ) (e : AskError) →
    StopsClient e → StopsListening s c before after (front ++ take n text) e →
    StopsCarrying (MeetsFault s before after front text) failures failures' (cause_of e)
stops_showing s c before after front text n failures failures' = by_client
    (λ e. StopsListening s c before after (front ++ take n text) e → StopsCarrying (MeetsFault s before after front text) failures failures' (cause_of e))
    (λ fault h. inr (inr (record { count = n; fault = fault; met = h.hears; named = refl }))) (λ h. inl refl)

-- What an empty piece tells of what was taken.

-- what was taken is no whole value
not_whole : (c : Client) (front : List ℕ) (used : ℕ) (x : Datum) (after : Waiting) → HasTaken c front →
    ReadsAs (state_of c).limits (state_of c).waiting (x ∷ []) (front ++ take used []) after → ⊥
not_whole c front used x after h (text, rest, spelled, may, (none, same), whole) =
    let all : text ≡ front =
    sym (append-nil text) ∙ ap (λ z. text ++ z) (sym none) ∙ sym whole ∙ ap (λ z. front ++ z) (take_all used [] (omega arith)) ∙ append-nil front in
    h.taken.no_value (length front) spelled.tree
    (subst (Spells spelled.tree) (all ∙ sym (take_all (length front) front (omega arith))) spelled.spells)

pub settles : (old new : Client) (front : List ℕ) (used : ℕ) (what : What) → HasTaken old front → Hears old new front [] used what →
    UnlessReplied what (state_of new ≡ state_of old) →
    HasTaken new front × MayGoOn (state_of old).limits (state_of old).waiting front × (state_of new ≡ state_of old)
settles old new front used (Reply number x) h given stays = absurd (not_whole old front used _ _ h given.reads)
settles old new front used (Push items) h given stays = absurd (not_whole old front used _ _ h given.reads)
settles old new front used Shown h given stays = absurd given
settles old new front used More h given stays = (
  subst (HasTaken new) (append-nil front) given.takes,
  subst (MayGoOn (state_of old).limits (state_of old).waiting) (append-nil front) given.may_go_on,
  stays,
)

pub hears_settled : (s : ClientState) (c new : Client) (before after : Responses) (came : List ℕ) → (h : HearsAll s c before after came) →
    HasTaken new h.rest × MayGoOn (state_of c).limits (state_of c).waiting h.rest × (state_of new ≡ state_of c) → HearsOn s new before after came
hears_settled s c new before after came h (takes, may, same) =
    let back : state_of c ≡ state_of new = sym same in
    record {
      hears = record {
        values = h.values;
        rest = h.rest;
        reads = record {
          text = h.reads.text;
          reads = subst (λ (z : ClientState). ReadsAs s.limits s.waiting h.values h.reads.text z.waiting) back h.reads.reads;
          whole = h.reads.whole;
        };
        heard = h.heard;
        takes = takes;
        answered = ap (λ z. let t : ClientState = z in t.answered) same ∙ h.answered;
        same_limits = ap (λ z. let t : ClientState = z in t.limits) same ∙ h.same_limits;
        same_out = ap (λ z. let t : ClientState = z in t.out) same ∙ h.same_out;
      };
      may_go_on = subst (λ (z : ClientState). MayGoOn z.limits z.waiting h.rest) back may;
    }

-- the cause of a fault is that of the stop
cause_by : (k : Cause) (fault : Fault) → fault.cause ≡ k → cause_of (error_by k fault) ≡ k
cause_by cause.OutOfMemory fault is = refl
cause_by k fault is = is

pub stops_settled : (s : ClientState) (c : Client) (before after : Responses) (front text : List ℕ) (count failures failures' : ℕ) (cause : Cause) →
    (h : HearsAll s c before after (front ++ take count text)) →
    (fault : Fault) × (fault.cause ≡ cause) × Refuses (state_of c) h.rest [] fault →
    StopsCarrying (MeetsFault s before after front text) failures failures' cause
stops_settled s c before after front text count failures failures' cause h (fault, named, refused) =
    let came = take count text in
    let w : HearsUpTo s c before after front came [] = record { done = came; parts = sym (append-nil came); hears = h } in
    subst (StopsCarrying (MeetsFault s before after front text) failures failures') (cause_by fault.cause fault refl ∙ named)
    (stops_showing s c before after front text count failures failures' (error_by fault.cause fault) (client_stops fault _ refl)
    (stops_hearing s c c before after front came [] fault _ refl w refused refl))
