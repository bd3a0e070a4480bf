-- Texts that are answered and written, one after another.
use Rattle.std.proofs.Common.{◌≡◌, ℕ, ◌+◌, Bool, true, false, IfSome, Option, Some, List, [], ◌++◌, length, refl, sym, ap, subst, ◌∙◌, arith, append_assoc}
use Rattle.std.proofs.lemmas.List.{append-nil}
use Rattle.resp_value.specs.Bounds.{Bounds}
use Rattle.resp_io.specs.Devices.{Appends}
use Rattle.resp_value.specs.declared.version.Version.{Version}
use Rattle.resp_session.specs.AnswerLaws.{AnswersAreAdded, AnswersGoOn}
use Rattle.resp_session.specs.Answers.{Answers, SessionState}
use Rattle.resp_session.specs.Stores.{Store}
use Rattle.resp_server.specs.Answering.{TakesWithin, state_with}
use Rattle.resp_server.specs.Handling.{HasAnswered, HasCutShort, WhereOpen}
use Rattle.resp_server.specs.Hubs.{HubState, Seat, seat_at, seated, stocked}
use Rattle.resp_server.specs.Reading.{HasReadFront, Reading}
use Rattle.resp_server.specs.Sending.{HasSent}
use Rattle.resp_wire.specs.Serving.{IsOpen, Serves, StopsServing}
use Rattle.resp_wire.specs.declared.error.ServeError.{ServeError}
use Rattle.resp_wire.specs.declared.error.ServeError.TheVariants.{NoSession, OutOfMemory, Read, Write, TooManyTurns}
use Rattle.resp_wire.proofs.Seated.{IsThere, at_open, one_seat, seat_here, seated_twice}
use Rattle.resp_io.proofs.Turning.{appends_more, appends_nothing}

abbrev pub seat_with : Version → List ℕ → Bool → Reading → Seat
seat_with version out closing decoder = record { version = version; out = out; closing = closing; decoder = decoder }

-- the session after a change, and its text and its hub after a write of what waited
pub seat_given : (old given : HubState) (id : ℕ) (s seat : Seat) (store : Store) → seat_at old id ≡ Some s →
    given ≡ stocked (seated old id seat) store → seat_at given id ≡ Some seat
seat_given old given id s seat store here is = ap (λ h. seat_at h id) is ∙ seat_here old id s seat here

pub text_sent : (old given new : HubState) (id : ℕ) (s : Seat) (version : Version) (out : List ℕ) (closing : Bool) (decoder : Reading) (store : Store)
    (held held' : Option (List ℕ)) (waits : List ℕ) → seat_at old id ≡ Some s → given ≡ stocked (seated old id (seat_with version out closing decoder)) store →
    (h : HasSent given new id held held' waits) → out ≡ h.text ++ waits
text_sent old given new id s version out closing decoder store held held' waits here is h =
    let seat = seat_with version out closing decoder in
    let same : h.seat ≡ seat = one_seat (seat_at given id) h.seat seat h.here (seat_given old given id s seat store here is) in
    sym (ap (λ (t : Seat). t.out) same) ∙ h.parts

pub hub_sent : (old given new : HubState) (id : ℕ) (s : Seat) (version : Version) (out : List ℕ) (closing : Bool) (decoder : Reading) (store : Store)
    (held held' : Option (List ℕ)) (waits : List ℕ) → seat_at old id ≡ Some s → given ≡ stocked (seated old id (seat_with version out closing decoder)) store →
    HasSent given new id held held' waits → new ≡ stocked (seated old id (seat_with version waits closing decoder)) store
hub_sent old given new id s version out closing decoder store held held' waits here is h =
    let seat = seat_with version out closing decoder in
    let last = seat_with version waits closing decoder in
    let same : h.seat ≡ seat = one_seat (seat_at given id) h.seat seat h.here (seat_given old given id s seat store here is) in
    h.state ∙ ap (λ (t : Seat). seated given id (seat_with t.version waits t.closing t.decoder)) same ∙ ap (λ g. seated g id last) is ∙
    ap (λ g. stocked g store) (seated_twice old id seat last)

-- What stands after a text that was answered and whose replies were all written, in a session that is open.
pub record Stands (old cur : HubState) (id : ℕ) (s : Seat) (text : List ℕ) (held held' : Option (List ℕ)) : Type 0 where
  pub reply : List ℕ
  pub store : Store
  pub version : Version
  pub decoder : Reading
  pub rest : List ℕ
  pub commands : ℕ
  pub answers : Answers old.limits id (state_with old.store s.version [] false 0) text (state_with store version reply false commands) rest
  pub state : cur ≡ stocked (seated old id (seat_with version [] false decoder)) store
  pub taken : HasReadFront decoder rest
  pub appended : Appends held held' (s.out ++ reply)

pub stands : (old cur : HubState) (id : ℕ) (s : Seat) (text : List ℕ) (held held' : Option (List ℕ)) → seat_at old id ≡ Some s →
    Serves old cur id s text held held' [] → IsOpen cur id → Stands old cur id s text held held'
stands old cur id s text held held' here v o =
    let a = v.answered in
    let out = s.out ++ a.reply in
    let parts = text_sent old v.given cur id s a.version out a.closing a.decoder a.store held held' [] here a.state v.sent in
    let state = hub_sent old v.given cur id s a.version out a.closing a.decoder a.store held held' [] here a.state v.sent in
    let seat = seat_with a.version [] a.closing a.decoder in
    let not_closing : a.closing ≡ false =
    ap (λ (t : Seat). t.closing) (one_seat (seat_at cur id) seat o.seat (seat_given old cur id s seat a.store here state) o.here) ∙ o.not_closing in
    let start = state_with old.store s.version [] false 0 in
    record {
      reply = a.reply;
      store = a.store;
      version = a.version;
      decoder = a.decoder;
      rest = a.rest;
      commands = v.commands;
      answers = subst (λ b. Answers old.limits id start text (state_with a.store a.version a.reply b v.commands) a.rest) not_closing a.answers;
      state = subst (λ b. cur ≡ stocked (seated old id (seat_with a.version [] b a.decoder)) a.store) not_closing state;
      taken = a.taking not_closing;
      appended = subst (Appends held held') (sym (parts ∙ append-nil v.sent.text)) v.sent.appended;
    }

-- the session then
abbrev pub seat_of : (old cur : HubState) (id : ℕ) (s : Seat) (text : List ℕ) (held held' : Option (List ℕ)) → Stands old cur id s text held held' → Seat
seat_of old cur id s text held held' st = seat_with st.version [] false st.decoder

-- what is answered after a text is answered to the whole
pub answers_after : AnswersGoOn → AnswersAreAdded → (limits : Bounds) (id : ℕ) (start : SessionState) (text rest piece rest' reply reply' : List ℕ)
    (store store' : Store) (version version' : Version) (closing : Bool) (n m : ℕ) →
    Answers limits id start text (state_with store version reply false n) rest →
    Answers limits id (state_with store version [] false 0) (rest ++ piece) (state_with store' version' reply' closing m) rest' →
    Answers limits id start (text ++ piece) (state_with store' version' (reply ++ reply') closing (n + m)) rest'
answers_after go_on added limits id start text rest piece rest' reply reply' store store' version version' closing n m before after =
    let whole = state_with store' version' (reply ++ reply') closing (n + m) in
    let beyond = added limits id (state_with store version [] false 0) (state_with store' version' reply' closing m) (rest ++ piece) rest' reply n after in
    let none : n + 0 ≡ n = omega arith in
    go_on limits id start (state_with store version reply false n) whole text piece rest rest' before refl
    (subst (λ k. Answers limits id (state_with store version reply false k) (rest ++ piece) whole rest') none
    (subst (λ z. Answers limits id (state_with store version z false (n + 0)) (rest ++ piece) whole rest') (append-nil reply) beyond))

answers_on : AnswersGoOn → AnswersAreAdded → (old cur : HubState) (id : ℕ) (s : Seat) (text : List ℕ) (held held' : Option (List ℕ))
    (st : Stands old cur id s text held held') (piece rest reply : List ℕ) (store : Store) (version : Version) (closing : Bool) (commands : ℕ) →
    Answers cur.limits id (state_with cur.store st.version [] false 0) (st.rest ++ piece) (state_with store version reply closing commands) rest →
    Answers old.limits id (state_with old.store s.version [] false 0) (text ++ piece)
    (state_with store version (st.reply ++ reply) closing (st.commands + commands)) rest
answers_on go_on added old cur id s text held held' st piece rest reply store version closing commands given =
    answers_after go_on added old.limits id (state_with old.store s.version [] false 0) text st.rest piece rest st.reply reply st.store store st.version version
    closing st.commands commands st.answers
    (subst (λ (h : HubState). Answers h.limits id (state_with h.store st.version [] false 0) (st.rest ++ piece)
    (state_with store version reply closing commands) rest) st.state given)

-- what is written after it is written after the whole
sent_on : (old cur given new : HubState) (id : ℕ) (s : Seat) (text : List ℕ) (held held' held'' : Option (List ℕ)) → seat_at old id ≡ Some s →
    (st : Stands old cur id s text held held') (reply : List ℕ) (store : Store) (version : Version) (closing : Bool) (decoder : Reading) (waits : List ℕ) →
    given ≡ stocked (seated cur id (seat_with version reply closing decoder)) store → HasSent given new id held' held'' waits →
    HasSent (stocked (seated old id (seat_with version (s.out ++ (st.reply ++ reply)) closing decoder)) store) new id held held'' waits
sent_on old cur given new id s text held held' held'' here st reply store version closing decoder waits is h =
    let now = seat_with st.version [] false st.decoder in
    let here_now : seat_at cur id ≡ Some now = seat_given old cur id s now st.store here st.state in
    let all = seat_with version (s.out ++ (st.reply ++ reply)) closing decoder in
    let last = seat_with version waits closing decoder in
    record {
      seat = all;
      here = seat_here old id s all here;
      text = (s.out ++ st.reply) ++ h.text;
      parts = sym (append_assoc s.out st.reply reply) ∙
          ap (λ z. (s.out ++ st.reply) ++ z) (text_sent cur given new id now version reply closing decoder store held' held'' waits here_now is h) ∙
          sym (append_assoc (s.out ++ st.reply) h.text waits);
      appended = appends_more held held' held'' (s.out ++ st.reply) h.text st.appended h.appended;
      state = hub_sent cur given new id now version reply closing decoder store held' held'' waits here_now is h ∙
          ap (λ g. stocked (seated g id last) store) st.state ∙ ap (λ g. stocked g store) (seated_twice old id now last) ∙
          sym (ap (λ g. stocked g store) (seated_twice old id all last));
    }

-- what is served after it is served after the whole
pub serves_on : AnswersGoOn → AnswersAreAdded → (old cur new : HubState) (id : ℕ) (s : Seat) (text piece : List ℕ) (held held' held'' : Option (List ℕ))
    (waits : List ℕ) → seat_at old id ≡ Some s → (st : Stands old cur id s text held held') →
    Serves cur new id (seat_of old cur id s text held held' st) (st.rest ++ piece) held' held'' waits → Serves old new id s (text ++ piece) held held'' waits
serves_on go_on added old cur new id s text piece held held' held'' waits here st v =
    let a = v.answered in
    record {
      given = stocked (seated old id (seat_with a.version (s.out ++ (st.reply ++ a.reply)) a.closing a.decoder)) a.store;
      commands = st.commands + v.commands;
      answered = record {
        reply = st.reply ++ a.reply;
        store = a.store;
        version = a.version;
        closing = a.closing;
        decoder = a.decoder;
        rest = a.rest;
        answers = answers_on go_on added old cur id s text held held' st piece a.rest a.reply a.store a.version a.closing v.commands a.answers;
        state = refl;
        taking = a.taking;
      };
      sent = sent_on old cur v.given new id s text held held' held'' here st a.reply a.store a.version a.closing a.decoder waits a.state v.sent;
    }

-- so is what was served of a piece for which memory was wanting
serves_first_on : AnswersGoOn → AnswersAreAdded → (old cur new : HubState) (id : ℕ) (s : Seat) (front came piece : List ℕ)
    (held held' held'' : Option (List ℕ)) → seat_at old id ≡ Some s → (st : Stands old cur id s (front ++ came) held held') →
    StopsServing cur new id (seat_of old cur id s (front ++ came) held held' st) st.rest piece held' held'' OutOfMemory →
    StopsServing old new id s front (came ++ piece) held held'' OutOfMemory
serves_first_on go_on added old cur new id s front came piece held held' held'' here st (waits, given, commands, a, sent) =
    let text = front ++ came in
    let start = state_with old.store s.version [] false 0 in
    let last = state_with a.store a.version (st.reply ++ a.reply) false (st.commands + commands) in (
      waits,
      stocked (seated old id (seat_with a.version (s.out ++ (st.reply ++ a.reply)) true a.decoder)) a.store,
      st.commands + commands,
      record {
        first = record {
          bytes = came ++ a.first.bytes;
          beyond = a.first.beyond;
          whole = ap (λ z. came ++ z) a.first.whole ∙ sym (append_assoc came a.first.bytes a.first.beyond);
          some = a.first.some;
        };
        reply = st.reply ++ a.reply;
        store = a.store;
        version = a.version;
        decoder = a.decoder;
        rest = a.rest;
        answers = subst (λ z. Answers old.limits id start z last a.rest) (append_assoc front came a.first.bytes)
            (answers_on go_on added old cur id s text held held' st a.first.bytes a.rest a.reply a.store a.version false commands a.answers);
        state = refl;
      },
      sent_on old cur given new id s text held held' held'' here st a.reply a.store a.version true a.decoder waits a.state sent,
    )

serves_whole : (old new : HubState) (id : ℕ) (s : Seat) (front came piece : List ℕ) (held held' : Option (List ℕ)) (waits : List ℕ) →
    Serves old new id s ((front ++ came) ++ piece) held held' waits → Serves old new id s (front ++ (came ++ piece)) held held' waits
serves_whole old new id s front came piece held held' waits v = subst (λ z. Serves old new id s z held held' waits) (append_assoc front came piece) v

-- a piece more
pub serves_piece : AnswersGoOn → AnswersAreAdded → (old cur new : HubState) (id : ℕ) (s : Seat) (front came piece : List ℕ)
    (held held' held'' : Option (List ℕ)) (waits : List ℕ) → seat_at old id ≡ Some s → (st : Stands old cur id s (front ++ came) held held') →
    Serves cur new id (seat_of old cur id s (front ++ came) held held' st) (st.rest ++ piece) held' held'' waits →
    Serves old new id s (front ++ (came ++ piece)) held held'' waits
serves_piece go_on added old cur new id s front came piece held held' held'' waits here st v =
    serves_whole old new id s front came piece held held'' waits
    (serves_on go_on added old cur new id s (front ++ came) piece held held' held'' waits here st v)

-- and where that stopped
pub stops_piece : AnswersGoOn → AnswersAreAdded → (old cur new : HubState) (id : ℕ) (s : Seat) (front came piece : List ℕ)
    (held held' held'' : Option (List ℕ)) (error : ServeError) → seat_at old id ≡ Some s → (st : Stands old cur id s (front ++ came) held held') →
    StopsServing cur new id (seat_of old cur id s (front ++ came) held held' st) st.rest piece held' held'' error →
    StopsServing old new id s front (came ++ piece) held held'' error
stops_piece go_on added old cur new id s front came piece held held' held'' NoSession here st v = v
stops_piece go_on added old cur new id s front came piece held held' held'' OutOfMemory here st v =
    serves_first_on go_on added old cur new id s front came piece held held' held'' here st v
stops_piece go_on added old cur new id s front came piece held held' held'' Read here st v =
    (serves_piece go_on added old cur new id s front came piece held held' held'' [] here st v.0, v.1)
stops_piece go_on added old cur new id s front came piece held held' held'' Write here st (waits, some, v) =
    (waits, some, serves_piece go_on added old cur new id s front came piece held held' held'' waits here st v)
stops_piece go_on added old cur new id s front came piece held held' held'' TooManyTurns here st (waits, why, v) =
    (waits, why, serves_piece go_on added old cur new id s front came piece held held' held'' waits here st v)

-- Where nothing was read yet.

pub serves_nothing : (old new : HubState) (id : ℕ) (s : Seat) (front : List ℕ) (held held' : Option (List ℕ)) (waits : List ℕ) →
    HasAnswered old old id s front 0 → HasSent old new id held held' waits → Serves old new id s (front ++ []) held held' waits
serves_nothing old new id s front held held' waits a h = record {
  given = old;
  commands = 0;
  answered = subst (λ z. HasAnswered old old id s z 0) (sym (append-nil front)) a;
  sent = h;
}

-- What was answered and then written, or the first of it.
pub serves_given : (old given new : HubState) (id : ℕ) (s : Seat) (text : List ℕ) (held held' : Option (List ℕ)) (waits : List ℕ) (commands : ℕ) →
    HasAnswered old given id s text commands → HasSent given new id held held' waits → Serves old new id s text held held' waits
serves_given old given new id s text held held' waits commands a h = record { given = given; commands = commands; answered = a; sent = h }

-- what was answered to a piece after a front
pub answered_at : (old given : HubState) (id : ℕ) (piece : List ℕ) (commands : ℕ) →
    WhereOpen old id (λ s front. HasAnswered old given id s (front ++ piece) commands) → (s : Seat) (front : List ℕ) → seat_at old id ≡ Some s →
    s.closing ≡ false → HasReadFront s.decoder front → HasAnswered old given id s (front ++ piece) commands
answered_at old given id piece commands all s front here not_closing taken =
    at_open old id (λ t f. HasAnswered old given id t (f ++ piece) commands) s front all here not_closing taken

-- a session that has answered is there
pub answered_is_there : (old given : HubState) (id : ℕ) (s : Seat) (text : List ℕ) (commands : ℕ) → seat_at old id ≡ Some s →
    HasAnswered old given id s text commands → IsThere given id
answered_is_there old given id s text commands here a =
    let seat = seat_with a.version (s.out ++ a.reply) a.closing a.decoder in (seat, seat_given old given id s seat a.store here a.state)

-- Where memory was wanting all that is answered waits.
pub first_waits : (old new : HubState) (id : ℕ) (s : Seat) (front piece : List ℕ) (held : Option (List ℕ)) (commands : ℕ) → seat_at old id ≡ Some s →
    HasCutShort old new id s front piece commands → StopsServing old new id s front piece held held OutOfMemory
first_waits old new id s front piece held commands here a =
    let out = s.out ++ a.reply in
    let seat = seat_with a.version out true a.decoder in (
      out,
      new,
      commands,
      a,
      record {
        seat = seat;
        here = seat_given old new id s seat a.store here a.state;
        text = [];
        parts = refl;
        appended = appends_nothing held;
        state = a.state ∙ ap (λ g. stocked g a.store) (sym (seated_twice old id seat seat)) ∙ sym (ap (λ g. seated g id seat) a.state);
      },
    )

-- how much of a piece a session used that was found
pub takes_at : (old given : HubState) (id : ℕ) (s : Seat) (most size used : ℕ) → seat_at old id ≡ Some s → (there : IsThere given id) →
    IfSome (seat_at old id) (λ s. IfSome (seat_at given id) (λ t. TakesWithin most (length s.out) (length t.out) t.closing size used)) →
    TakesWithin most (length s.out) (length there.0.out) there.0.closing size used
takes_at old given id s most size used here (t, there) within =
    let P : Seat → Seat → Type 0 = λ a b. TakesWithin most (length a.out) (length b.out) b.closing size used in
    subst (λ o. IfSome o (P s)) there (subst (λ o. IfSome o (λ a. IfSome (seat_at given id) (P a))) here within)
