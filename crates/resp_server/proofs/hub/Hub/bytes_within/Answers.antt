use Rattle.std.proofs.Common.{◌+◌, length, take, ap, arith, refl, sym, subst, ◌∙◌, ℕ, BTreeMap}
use Rattle.std.proofs.lemmas.Bool.{false≢true}
use Rattle.resp_session.specs.Answers.{server_rules}
use Rattle.resp_server.specs.Answering.{TakesWithin}
use Rattle.resp_server.specs.Hubs.{HubIsSound, Seat}
use Rattle.resp_server.specs.declared.session.Session.{Session}
use Rattle.resp_server.proofs.Seats.{answer_is_bounded, if_changed, still_few, seat_is, seat_is_there, same_state, sound_at, sound_with}
use Rattle.resp_server.proofs.AnsweredPieces.{answered_shrunk, cut_short_shrunk}
use Rattle.resp_server.proofs.AnsweredHubs.{hub_answered, hub_cut_short, answered_sound, not_closing, if_closing, not_open, if_none, holds_no_idle}
use Rattle.resp_server.proofs.hub.Hub.bytes_within.Goals as goal

pub returns-in_default-clause-closing : goal.returns-in_default-clause-closing
returns-in_default-clause-closing g c =
    if_none _ (seat_is _ _ _ _ c.args.self.now c.self.view_is c.args.id c.in_default.ensures.value)

pub returns-in_default-clause-none : goal.returns-in_default-clause-none
returns-in_default-clause-none g c refused = seat_is _ _ _ _ c.args.self.now c.self.view_is c.args.id c.in_default.ensures.value

pub invariant_of-self-then-session : goal.invariant_of-self-then-session
invariant_of-self-then-session g c = sound_with c.self.invariant c.args.id (c.get_mut.follows.holds _).0 c.in-Some.ensures.value
    (record { same_id = refl; same_decoder = refl; same_closing = refl })

pub returns-then-session-clause-answered : goal.returns-then-session-clause-answered
returns-then-session-clause-answered g c =
    not_open _ _ _ _ c.self.view_is c.args.id c.in-Some.ensures.value c.if-session.true _

pub returns-then-session-clause-closing : goal.returns-then-session-clause-closing
returns-then-session-clause-closing g c =
    if_closing _ _ _ _ c.self.view_is c.args.id c.in-Some.ensures.value _ (
      refl,
      same_state _ _ _ _ c.self.view_is c.args.id _ (c.get_mut.follows.holds _).0 c.in-Some.ensures.value refl,
    )

pub returns-then-session-clause-no_session : goal.returns-then-session-clause-no_session
returns-then-session-clause-no_session g c none =
    absurd (seat_is_there _ _ _ _ c.self.view_is c.args.id c.in-Some.ensures.value none)

pub answer-answered-requires : goal.answer-answered-requires
answer-answered-requires g c =
    let i = c.self.inside in
    let sound = sound_at i.sessions.entries c.in-Some.ensures.value c.self.invariant.sound in
    record {
      is_open = c.if-session.false;
      stored = c.self.invariant.stored;
      reading = sound.reading;
      taking = sound.taking c.if-session.false;
    }

pub invariant_of-self-in-Err : goal.invariant_of-self-in-Err
invariant_of-self-in-Err g c =
    let i = c.self.inside in
    let (front, taken) = (sound_at i.sessions.entries c.in-Some.ensures.value c.self.invariant.sound).taking
    c.if-session.false in
    answered_sound c.self.invariant c.answer-answered.ensures.same_limits c.args.id c.shrink.new.self (c.get_mut.follows.holds _).0 c.in-Some.ensures.value
    c.answer-answered.ensures.stored (c.shrink.ensures.same_id ∙ c.answer-answered.ensures.same_id)
    (c.shrink.ensures.reading (server_rules i.database.limits) c.answer-answered.ensures.reading)
    (λ is_open. absurd (false≢true (sym is_open ∙ c.shrink.ensures.same_closing ∙ (c.in-Err.ensures.cut_short front taken).closes))) c.shrink.ensures.idle

pub returns-in-Err-clause-cut_short : goal.returns-in-Err-clause-cut_short
returns-in-Err-clause-cut_short g c =
    let i = c.self.inside in
    hub_cut_short i.sessions.entries i.database.store i.last c.self.view_is c.answer-answered.ensures.same_limits c.answer-answered.new.database.store
    c.shrink.new.self (c.get_mut.follows.holds _).0 c.in-Some.ensures.value c.args.piece.now c.in-Err.commands
    (sound_at i.sessions.entries c.in-Some.ensures.value c.self.invariant.sound).same_id
    (λ front taken. let s = c.shrink.ensures in cut_short_shrunk s.same_version s.same_out s.same_closing (c.in-Err.ensures.cut_short front taken))

pub returns-in-Err-clause-closing : goal.returns-in-Err-clause-closing
returns-in-Err-clause-closing g c = not_closing _ _ _ _ c.self.view_is c.args.id c.in-Some.ensures.value c.if-session.false _

pub returns-in-Err-clause-no_session : goal.returns-in-Err-clause-no_session
returns-in-Err-clause-no_session g c none =
    absurd (seat_is_there _ _ _ _ c.self.view_is c.args.id c.in-Some.ensures.value none)

pub invariant_of-self-2 : goal.invariant_of-self-2
invariant_of-self-2 g c =
    let i = c.self.inside in
    let (front, taken) = (sound_at i.sessions.entries c.in-Some.ensures.value c.self.invariant.sound).taking
    c.if-session.false in
    let answered = c.in-Ok.ensures.answered front taken in
    answered_sound c.self.invariant c.answer-answered.ensures.same_limits c.args.id c.shrink.new.self (c.get_mut.follows.holds _).0 c.in-Some.ensures.value
    c.answer-answered.ensures.stored (c.shrink.ensures.same_id ∙ c.answer-answered.ensures.same_id)
    (c.shrink.ensures.reading (server_rules i.database.limits) c.answer-answered.ensures.reading)
    (λ is_open. let open_before = sym c.shrink.ensures.same_closing ∙ is_open in
    (answered.rest, c.shrink.ensures.same_taken open_before answered.rest (answered.taking open_before))) c.shrink.ensures.idle

pub returns-clause-answered : goal.returns-clause-answered
returns-clause-answered g c =
    let i = c.self.inside in
    hub_answered i.sessions.entries i.database.store i.last c.self.view_is c.answer-answered.ensures.same_limits c.answer-answered.new.database.store
    c.shrink.new.self (c.get_mut.follows.holds _).0 c.in-Some.ensures.value (take c.in-Ok.taken.used c.args.piece.now) c.in-Ok.taken.commands
    (sound_at i.sessions.entries c.in-Some.ensures.value c.self.invariant.sound).same_id
    (λ front taken. let s = c.shrink.ensures in answered_shrunk s.same_version s.same_out s.same_closing s.same_taken
    (c.in-Ok.ensures.answered front taken))

pub returns-clause-closing : goal.returns-clause-closing
returns-clause-closing g c = not_closing _ _ _ _ c.self.view_is c.args.id c.in-Some.ensures.value c.if-session.false _

pub returns-clause-no_session : goal.returns-clause-no_session
returns-clause-no_session g c none =
    absurd (seat_is_there _ _ _ _ c.self.view_is c.args.id c.in-Some.ensures.value none)

pub returns-in_default-clause-idle : goal.returns-in_default-clause-idle
returns-in_default-clause-idle g c =
    let i = c.self.inside in
    holds_no_idle c.args.id (subst (λ (m : BTreeMap ℕ Session). HubIsSound i.database.limits m.entries i.database.store i.last)
    (sym c.get_mut.follows.holds-at-none) c.self.invariant)

pub returns-then-session-clause-idle : goal.returns-then-session-clause-idle
returns-then-session-clause-idle g c = holds_no_idle c.args.id (invariant_of-self-then-session g c)

pub returns-in-Err-clause-idle : goal.returns-in-Err-clause-idle
returns-in-Err-clause-idle g c = holds_no_idle c.args.id (invariant_of-self-in-Err g c)

pub returns-clause-idle : goal.returns-clause-idle
returns-clause-idle g c = holds_no_idle c.args.id (invariant_of-self-2 g c)

pub returns-then-session-clause-within : goal.returns-then-session-clause-within
returns-then-session-clause-within g c =
    let i = c.self.inside in
    let session : Session = c.in-Some.session.now in
    let waits = length session.out.items in
    let size = length c.args.piece.now in
    if_changed _ _ _ _ c.self.view_is i.database.limits i.database.store c.args.id session (c.get_mut.follows.holds _).0
    c.in-Some.ensures.value (λ (s t : Seat). TakesWithin c.args.held (length s.out) (length t.out) t.closing size size)
    (record { within = omega arith; stops = λ less. absurd (omega (arith, less)); onward = λ few some. some })

pub returns-then-session-clause-bounded : goal.returns-then-session-clause-bounded
returns-then-session-clause-bounded g c =
    let i = c.self.inside in
    let session : Session = c.in-Some.session.now in
    still_few _ _ _ _ c.self.view_is i.database.limits i.database.store c.args.id session (c.get_mut.follows.holds _).0
    c.in-Some.ensures.value (c.args.held + c.args.self.now.limits.total) (λ few. few)

pub returns-in-Err-clause-bounded : goal.returns-in-Err-clause-bounded
returns-in-Err-clause-bounded g c =
    answer_is_bounded _ _ _ _ c.self.view_is c.answer-answered.new.database.limits c.answer-answered.new.database.store c.args.id c.answer-answered.new.session _
    (c.get_mut.follows.holds _).0 c.in-Some.ensures.value c.args.held c.answer-answered.ensures.bounded c.shrink.ensures.same_out

pub returns-clause-bounded : goal.returns-clause-bounded
returns-clause-bounded g c =
    answer_is_bounded _ _ _ _ c.self.view_is c.answer-answered.new.database.limits c.answer-answered.new.database.store c.args.id c.answer-answered.new.session _
    (c.get_mut.follows.holds _).0 c.in-Some.ensures.value c.args.held c.answer-answered.ensures.bounded c.shrink.ensures.same_out

pub returns-clause-within : goal.returns-clause-within
returns-clause-within g c =
    let size = length c.args.piece.now in
    let used = c.in-Ok.taken.used in
    let before = length c.in-Some.session.now.out.items in
    if_changed _ _ _ _ c.self.view_is c.answer-answered.new.database.limits c.answer-answered.new.database.store c.args.id c.shrink.new.self
    (c.get_mut.follows.holds _).0 c.in-Some.ensures.value (λ (s t : Seat). TakesWithin c.args.held (length s.out) (length t.out) t.closing size
    used) (subst (λ n. TakesWithin c.args.held before n c.shrink.new.self.closing size used) (sym (ap length c.shrink.ensures.same_out))
    (subst (λ b. TakesWithin c.args.held before (length c.answer-answered.new.session.out.items) b size used) (sym c.shrink.ensures.same_closing)
    c.in-Ok.ensures.within))
