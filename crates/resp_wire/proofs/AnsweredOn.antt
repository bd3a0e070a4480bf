-- Texts that are answered one after another, of which nothing was written.
use Rattle.std.specs.Option.{option_map}
use Rattle.std.proofs.Common.{◌≡◌, ℕ, ◌+◌, Bool, true, false, Some, List, [], ◌++◌, length, min, take, drop, replicate, sym, ap, subst, ◌∙◌, append_assoc}
use Rattle.std.proofs.Math.Seq.{take-add}
use Rattle.std.proofs.lemmas.List.{append-nil, drop-drop, replicate-append-replicate, take_min}
use Rattle.resp_value.specs.declared.cause.Cause.{Cause}
use Rattle.resp_session.specs.AnswerLaws.{AnswersAreAdded, AnswersGoOn}
use Rattle.resp_session.specs.Answers.{Answers}
use Rattle.resp_client.specs.Clients.{ClientState, without_front}
use Rattle.resp_server.specs.Answering.{state_with}
use Rattle.resp_server.specs.Handling.{HasAnswered, WhereOpen}
use Rattle.resp_server.specs.Hubs.{HubState, Seat, seat_at, seated, stocked}
use Rattle.resp_wire.specs.Carrying.{HasBrought, HasClosed, StopsCarrying}
use Rattle.resp_server.specs.Sending.{IsClosing}
use Rattle.resp_wire.proofs.LinkStops.{stops_with}
use Rattle.resp_wire.proofs.Seated.{at_open, seated_twice, where_open}
use Rattle.resp_wire.proofs.ServedTexts.{answers_after, seat_given, seat_with}

-- the session after an answer
abbrev pub seat_after : (old new : HubState) (id : ℕ) (s : Seat) (text : List ℕ) (n : ℕ) → HasAnswered old new id s text n → Seat
seat_after old new id s text n a = seat_with a.version (s.out ++ a.reply) a.closing a.decoder

-- what is answered after an answer is answered to the whole
pub answered_on : AnswersGoOn → AnswersAreAdded → (old mid new : HubState) (id : ℕ) (s : Seat) (text piece : List ℕ) (n m : ℕ) →
    (a : HasAnswered old mid id s text n) → a.closing ≡ false → HasAnswered mid new id (seat_after old mid id s text n a) (a.rest ++ piece) m →
    HasAnswered old new id s (text ++ piece) (n + m)
answered_on go_on added old mid new id s text piece n m a is_open b =
    let start = state_with old.store s.version [] false 0 in
    let now = seat_after old mid id s text n a in
    let late = seat_with b.version ((s.out ++ a.reply) ++ b.reply) b.closing b.decoder in
    record {
      reply = a.reply ++ b.reply;
      store = b.store;
      version = b.version;
      closing = b.closing;
      decoder = b.decoder;
      rest = b.rest;
      answers = answers_after go_on added old.limits id start text a.rest piece b.rest a.reply b.reply a.store b.store a.version b.version b.closing n m
          (subst (λ c. Answers old.limits id start text (state_with a.store a.version a.reply c n) a.rest) is_open a.answers)
          (subst (λ (h : HubState). Answers h.limits id (state_with h.store a.version [] false 0) (a.rest ++ piece)
          (state_with b.store b.version b.reply b.closing m) b.rest) a.state b.answers);
      state = b.state ∙ ap (λ g. stocked (seated g id late) b.store) a.state ∙ ap (λ g. stocked g b.store) (seated_twice old id now late) ∙
          ap (λ z. stocked (seated old id (seat_with b.version z b.closing b.decoder)) b.store) (append_assoc s.out a.reply b.reply);
      taking = b.taking;
    }

-- whether a session is closing after an answer
closing_is : (old new : HubState) (id : ℕ) (s : Seat) (text : List ℕ) (n : ℕ) → seat_at old id ≡ Some s → (a : HasAnswered old new id s text n) →
    (closing : Bool) → IsClosing new id closing → a.closing ≡ closing
closing_is old new id s text n here a closing is =
    let seat = seat_after old new id s text n a in
    let there : seat_at new id ≡ Some seat = seat_given old new id s seat a.store here a.state in
    let same : Some a.closing ≡ Some closing = sym (ap (option_map (λ (t : Seat). t.closing)) there) ∙ is in
    cc

-- after a session that isn't closing
pub brings : (old new : HubState) (id : ℕ) (s : Seat) (text order order' : List ℕ) (number n : ℕ) (closing : Bool) → seat_at old id ≡ Some s →
    HasAnswered old new id s text n → IsClosing new id closing → closing ≡ false → order' ≡ order ++ replicate n number →
    HasBrought old new id s text order order' number
brings old new id s text order order' number n closing here a is open_still added = record {
  commands = n;
  answered = a;
  is_open = closing_is old new id s text n here a closing is ∙ open_still;
  added = added;
}

-- after one that is
pub closes : (old new : HubState) (id : ℕ) (s : Seat) (front text : List ℕ) (count n : ℕ) (closing : Bool) → seat_at old id ≡ Some s →
    HasAnswered old new id s (front ++ take count text) n → IsClosing new id closing → closing ≡ true → HasClosed old id s front text
closes old new id s front text count n closing here a is closed = record {
  count = count;
  new = new;
  commands = n;
  answered = a;
  is_closing = closing_is old new id s (front ++ take count text) n here a closing is ∙ closed;
}

-- Bytes that are carried by pieces.

-- what is left of a client's text after two pieces
pub sent_twice : (s : ClientState) (m n : ℕ) → without_front n (without_front m s) ≡ without_front (m + n) s
sent_twice s m n = ap (λ z. record { limits = s.limits; waiting = s.waiting; answered = s.answered; out = z }) (drop-drop n m s.out)

-- nothing is carried yet
pub brings_none : (old : HubState) (id : ℕ) (s : Seat) (front out order : List ℕ) (number : ℕ) (closing : Bool) → seat_at old id ≡ Some s →
    HasAnswered old old id s front 0 → IsClosing old id closing → closing ≡ false → HasBrought old old id s (front ++ take 0 out) order order number
brings_none old id s front out order number closing here a is is_open =
    subst (λ z. HasBrought old old id s z order order number) (sym (append-nil front))
    (brings old old id s front order order number 0 closing here a is is_open (sym (append-nil order)))

-- the first bytes, and those after them
text_on : (front out : List ℕ) (done n : ℕ) → (front ++ take done out) ++ take n (drop done out) ≡ front ++ take (done + n) out
text_on front out done n = append_assoc front (take done out) (take n (drop done out)) ∙ ap (λ z. front ++ z) (sym (take-add done n out))

-- what holds of the session after what was brought
after_brought : (old mid : HubState) (id : ℕ) (s : Seat) (text order order' : List ℕ) (number : ℕ) (P : Seat → List ℕ → Type 0) → seat_at old id ≡ Some s →
    (h : HasBrought old mid id s text order order' number) → WhereOpen mid id P → P (seat_after old mid id s text h.commands h.answered) h.answered.rest
after_brought old mid id s text order order' number P here h w =
    let a = h.answered in
    let t = seat_after old mid id s text h.commands a in
    at_open mid id P t a.rest w (seat_given old mid id s t a.store here a.state) h.is_open (a.taking h.is_open)

pub brings_more : AnswersGoOn → AnswersAreAdded → (old mid new : HubState) (id : ℕ) (out order order' order'' : List ℕ) (number done n : ℕ) →
    WhereOpen old id (λ s front. HasBrought old mid id s (front ++ take done out) order order' number) →
    WhereOpen mid id (λ t f. HasBrought mid new id t (f ++ take n (drop done out)) order' order'' number) →
    WhereOpen old id (λ s front. HasBrought old new id s (front ++ take (done + n) out) order order'' number)
unfolding answered_on
brings_more go_on added old mid new id out order order' order'' number done n so_far more = where_open old id _ (λ s here not_closing front taken.
    let first = front ++ take done out in
    let piece = take n (drop done out) in
    let h = at_open old id (λ t f. HasBrought old mid id t (f ++ take done out) order order' number) s front so_far here not_closing taken in
    let b = after_brought old mid id s first order order' number (λ t f. HasBrought mid new id t (f ++ piece) order' order'' number) here h more in
    subst (λ z. HasBrought old new id s z order order'' number) (text_on front out done n) (record {
      commands = h.commands + b.commands;
      answered = answered_on go_on added old mid new id s first piece h.commands b.commands h.answered h.is_open b.answered;
      is_open = b.is_open;
      added = b.added ∙ ap (λ l. l ++ replicate b.commands number) h.added ∙ append_assoc order (replicate h.commands number) (replicate b.commands number) ∙
          ap (λ l. order ++ l) (replicate-append-replicate h.commands b.commands number);
    }))

-- all that was to be brought, or all that waited
pub brings_whole : (old new : HubState) (id : ℕ) (out order order' : List ℕ) (number done count : ℕ) → done ≡ min count (length out) →
    WhereOpen old id (λ s front. HasBrought old new id s (front ++ take done out) order order' number) →
    WhereOpen old id (λ s front. HasBrought old new id s (front ++ take count out) order order' number)
brings_whole old new id out order order' number done count all =
    subst (λ z. WhereOpen old id (λ s front. HasBrought old new id s (front ++ z) order order' number)) (ap (λ k. take k out) all ∙ take_min count out)

-- the session was closed by what came after
closes_more : AnswersGoOn → AnswersAreAdded → (old mid : HubState) (id : ℕ) (s : Seat) (front out order order' : List ℕ) (number done : ℕ) →
    (h : HasBrought old mid id s (front ++ take done out) order order' number) →
    HasClosed mid id (seat_after old mid id s (front ++ take done out) h.commands h.answered) h.answered.rest (drop done out) → HasClosed old id s front out
unfolding answered_on
closes_more go_on added old mid id s front out order order' number done h c =
    let first = front ++ take done out in
    let piece = take c.count (drop done out) in
    let all = h.commands + c.commands in
    let whole : HasAnswered old c.new id s (first ++ piece) all =
    answered_on go_on added old mid c.new id s first piece h.commands c.commands h.answered h.is_open c.answered in
    let both : (a : HasAnswered old c.new id s (front ++ take (done + c.count) out) all) × (a.closing ≡ true) =
    subst (λ z. (a : HasAnswered old c.new id s z all) × (a.closing ≡ true)) (text_on front out done c.count) (whole, c.is_closing) in
    record { count = done + c.count; new = c.new; commands = all; answered = both.0; is_closing = both.1 }

pub stops_more : AnswersGoOn → AnswersAreAdded → (old mid : HubState) (id : ℕ) (s : Seat) (front out order order' : List ℕ)
    (number done failures failures' failures'' : ℕ) (cause : Cause) → seat_at old id ≡ Some s →
    HasBrought old mid id s (front ++ take done out) order order' number → failures' ≡ failures →
    WhereOpen mid id (λ t f. StopsCarrying (λ _. HasClosed mid id t f (drop done out)) failures' failures'' cause) →
    StopsCarrying (λ _. HasClosed old id s front out) failures failures'' cause
stops_more go_on added old mid id s front out order order' number done failures failures' failures'' cause here h none more =
    stops_with (λ _. HasClosed mid id (seat_after old mid id s (front ++ take done out) h.commands h.answered) h.answered.rest (drop done out))
    (λ _. HasClosed old id s front out) failures failures' failures'' cause none
    (closes_more go_on added old mid id s front out order order' number done h)
    (after_brought old mid id s (front ++ take done out) order order' number
    (λ t f. StopsCarrying (λ _. HasClosed mid id t f (drop done out)) failures' failures'' cause)
    here h more)
