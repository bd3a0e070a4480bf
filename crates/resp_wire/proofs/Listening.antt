-- What has been heard of a piece, a value at a time.
use Rattle.std.specs.Prelude.{not}
use Rattle.std.specs.List.{concat}
use Rattle.std.proofs.Common.{◌≡◌, inl, inr, ℕ, ◌+◌, ◌<◌, Bool, true, false, List, [], ◌∷◌, ◌++◌, length, take, drop, Option, refl, sym, ap, subst, ◌∙◌, arith, append_assoc}
use Rattle.std.proofs.lemmas.List.{append-nil, length-append, take-append-drop, take_all}
use Rattle.std.proofs.lemmas.List.Elements.{filter-append}
use Rattle.resp_value.specs.Bounds.{Bounds}
use Rattle.resp_value.specs.Data.{Datum}
use Rattle.resp_value.specs.Values.{datum_of}
use Rattle.resp_value.specs.declared.value.Value.TheVariants as value
use Rattle.resp_session.specs.Heard.{is_push, numbered_replies, pushes_of, replies_of}
use Rattle.resp_value.specs.declared.cause.Cause.{Cause}
use Rattle.resp_value.specs.declared.cause.Cause.TheVariants as cause
use Rattle.resp_scan.specs.declared.event.Fault.{Fault}
use Rattle.resp_session.specs.Reading.{ClientFault, ReadsAs, Waiting}
use Rattle.resp_session.specs.ReadingLaws.{HearingGoesOn, ReadingsGoOn}
use Rattle.resp_client.specs.Clients.{ClientState, next_number, state_of, with_answer}
use Rattle.resp_client.specs.Hearing.{HasFault, HasTaken, Hears, Refuses, UnlessReplied}
use Rattle.resp_client.specs.declared.client.Client.{Client}
use Rattle.resp_client.specs.declared.heard.What.{What}
use Rattle.resp_client.specs.declared.heard.What.TheVariants.{Reply, Push, Shown, More}
use Rattle.resp_wire.specs.Hearing.{Adds, AddsHeard, HearsAll, HearsFault, HearsSome, ReadsFrom, StillWaits, StopsAtFault, WaitsBefore, pushes_in, replies_in}
use Rattle.resp_wire.specs.Stops.{FailsReading, KeepsFault, StopsClient, StopsListening, error_by, is_of_last_read}
use Rattle.resp_wire.specs.declared.error.AskError.{AskError}
use Rattle.resp_wire.specs.declared.error.AskError.TheVariants as error
use Rattle.resp_wire.specs.declared.asked.Responses.{Responses}
use Rattle.resp_io.proofs.Pieces.{before_more}

-- What has been heard: the bytes before the rest.
pub record HearsUpTo (s : ClientState) (c : Client) (before after : Responses) (front piece rest : List ℕ) : Type 0 where
  pub done : List ℕ
  pub parts : piece ≡ done ++ rest
  pub hears : HearsAll s c before after (front ++ done)

-- nothing is added
adds_nothing : (before : Responses) → Adds before before [] []
adds_nothing before = (sym (append-nil (replies_in before)), sym (append-nil (pushes_in before)))

-- nothing has come
pub hears_no_bytes : (c : Client) (before : Responses) (front : List ℕ) → HasTaken c front → HearsAll (state_of c) c before before (front ++ [])
hears_no_bytes c before front h = record {
  values = [];
  rest = front;
  reads = record { text = []; reads = (refl, refl); whole = append-nil front };
  heard = adds_nothing before;
  takes = h;
  answered = omega arith;
  same_limits = refl;
  same_out = refl;
}

-- no piece has come
pub waits_for_none : (s : ClientState) (before : Responses) (front : List ℕ) → WaitsBefore s before front []
waits_for_none s before front k less = absurd (omega (arith, less))

-- a piece was read while a command waited
pub waits_for_piece : (s : ClientState) (c : Client) (before mid : Responses) (front : List ℕ) (pieces : List (List ℕ)) (piece : List ℕ) →
    HearsAll s c before mid (front ++ concat pieces) → 0 < length (state_of c).waiting.asks → WaitsBefore s before front pieces →
    WaitsBefore s before front (pieces ++ piece ∷ [])
waits_for_piece s c before mid front pieces piece heard waits each =
    before_more (λ texts. StillWaits s before (front ++ concat texts)) pieces piece each (record {
      between = c;
      heard = mid;
      hears = heard;
      waits = λ none. let same = ap length none in omega (arith, waits, same);
    })

pub hears_nothing : (c : Client) (before : Responses) (front piece : List ℕ) → HasTaken c front → HearsUpTo (state_of c) c before before front piece piece
hears_nothing c before front piece h = record { done = []; parts = refl; hears = hears_no_bytes c before front h }

-- The bytes of one turn after those of the turns before.
bytes_on : (front done piece rest : List ℕ) (used : ℕ) → piece ≡ done ++ rest → piece ≡ (done ++ take used rest) ++ drop used rest
bytes_on front done piece rest used parts = parts ∙ ap (λ z. done ++ z) (sym (take-append-drop used rest)) ∙ sym (append_assoc done (take used rest) (drop used
    rest))

-- what comes after a rest that was taken
read_on : (front done text f : List ℕ) (more : List ℕ) → front ++ done ≡ text ++ f → front ++ (done ++ more) ≡ text ++ (f ++ more)
read_on front done text f more whole = sym (append_assoc front done more) ∙ ap (λ z. z ++ more) whole ∙ append_assoc text f more

-- one reply is no push
one_reply : (n : ℕ) (x : Datum) (number : ℕ) (y : Datum) → numbered_replies n (x ∷ []) ≡ (number, y) ∷ [] →
    (pushes_of (x ∷ []) ≡ []) × (length (replies_of (x ∷ [])) ≡ 1)
one_reply n x number y e = by (is_push x) refl
  where
    by : (b : Bool) → is_push x ≡ b → (pushes_of (x ∷ []) ≡ []) × (length (replies_of (x ∷ [])) ≡ 1)
    by true is = absurd (let z : numbered_replies n (x ∷ []) ≡ [] = rw is refl in let w : (number, y) ∷ [] ≡ [] = sym e ∙ z in cc)
    by false is = rw is (refl, refl)

-- more values were read
reads_more : ReadingsGoOn → (s : ClientState) (values others : List Datum) (front done f more : List ℕ) (limits : Bounds) (w after : Waiting) →
    limits ≡ s.limits → ReadsFrom s values (front ++ done) w f → (text rest : List ℕ) → ReadsAs limits w others text after → f ++ more ≡ text ++ rest →
    ReadsFrom s (values ++ others) (front ++ (done ++ more)) after rest
reads_more go_on s values others front done f more limits w after same r text rest given parts = record {
  text = r.text ++ text;
  reads = go_on s.limits s.waiting w after values others r.text text r.reads (subst (λ l. ReadsAs l w others text after) same given);
  whole = read_on front done r.text f more r.whole ∙ ap (λ z. r.text ++ z) parts ∙ sym (append_assoc r.text text rest);
}

-- what was added, and then more
adds_more : (before mid after : Responses) (rs qs : List (ℕ × Datum)) (ps os : List Datum) → Adds before mid rs ps → Adds mid after qs os →
    Adds before after (rs ++ qs) (ps ++ os)
adds_more before mid after rs qs ps os a b =
    (b.0 ∙ ap (λ z. z ++ qs) a.0 ∙ append_assoc (replies_in before) rs qs, b.1 ∙ ap (λ z. z ++ os) a.1 ∙ append_assoc (pushes_in before) ps os)

-- the number of the reply after these values
numbered_on : (s : ClientState) (c : ClientState) (values : List Datum) → c.answered ≡ s.answered + length (replies_of values) →
    next_number c ≡ next_number s + length (replies_of values)
numbered_on s c values e = omega (arith, e)

-- more values were heard
hears_values : HearingGoesOn → (s c : ClientState) (before mid after : Responses) (values others : List Datum) (qs : List (ℕ × Datum)) (os : List Datum) →
    c.answered ≡ s.answered + length (replies_of values) → numbered_replies (next_number c) others ≡ qs → pushes_of others ≡ os →
    Adds before mid (numbered_replies (next_number s) values) (pushes_of values) → Adds mid after qs os →
    Adds before after (numbered_replies (next_number s) (values ++ others)) (pushes_of (values ++ others))
hears_values goes_on s c before mid after values others qs os answered numbered pushed a b =
    let (replies, pushes) = goes_on (next_number s) values others in
    let same : numbered_replies (next_number s + length (replies_of values)) others ≡ qs =
    ap (λ n. numbered_replies n others) (sym (numbered_on s c values answered)) ∙ numbered in
    let added = adds_more before mid after (numbered_replies (next_number s) values) qs (pushes_of values) os a b in (
      added.0 ∙ ap (λ z. replies_in before ++ z) (sym (replies ∙ ap (λ z. numbered_replies (next_number s) values ++ z) same)),
      added.1 ∙ ap (λ z. pushes_in before ++ z) (sym (pushes ∙ ap (λ z. pushes_of values ++ z) pushed)),
    )

-- this many replies are among values and more of them
replies_more : (values others : List Datum) → length (replies_of (values ++ others)) ≡ length (replies_of values) + length (replies_of others)
replies_more values others = ap length (filter-append (λ y. not (is_push y)) values others) ∙ length-append (replies_of values) (replies_of others)

-- What one feed heard, after what was heard before.
hears_on : ReadingsGoOn → HearingGoesOn → (s : ClientState) (c new : Client) (before mid after : Responses) (front done rest : List ℕ) (used : ℕ) (what : What) →
    (h : HearsAll s c before mid (front ++ done)) → Hears c new h.rest rest used what → UnlessReplied what (state_of new ≡ state_of c) →
    AddsHeard mid after what → HearsAll s new before after (front ++ (done ++ take used rest))
hears_on go_on goes_on s c new before mid after front done rest used (Reply number x) h given stays added =
    let old : ClientState = state_of c in
    let one = one_reply (next_number old) (datum_of x) number (datum_of x) given.numbered in
    let same : state_of new ≡ with_answer (datum_of x) old = given.answered in
    record {
      values = h.values ++ datum_of x ∷ [];
      rest = [];
      reads = reads_more go_on s h.values (datum_of x ∷ []) front done h.rest (take used rest) old.limits old.waiting (state_of new).waiting h.same_limits
          h.reads (h.rest ++ take used rest) [] given.reads (sym (append-nil (h.rest ++ take used rest)));
      heard = hears_values goes_on s old before mid after h.values (datum_of x ∷ []) ((number, datum_of x) ∷ []) [] h.answered given.numbered one.0
          h.heard added;
      takes = given.takes;
      answered = ap (λ z. let t : ClientState = z in t.answered) same ∙ omega (arith, h.answered, one.1, replies_more h.values (datum_of x ∷ []));
      same_limits = ap (λ z. let t : ClientState = z in t.limits) same ∙ h.same_limits;
      same_out = ap (λ z. let t : ClientState = z in t.out) same ∙ h.same_out;
    }
hears_on go_on goes_on s c new before mid after front done rest used (Push items) h given stays added =
    let old : ClientState = state_of c in
    let x = datum_of (value.Push items) in
    let same : state_of new ≡ old = stays in
    record {
      values = h.values ++ x ∷ [];
      rest = [];
      reads = subst (λ (z : ClientState). ReadsFrom s (h.values ++ x ∷ []) (front ++ (done ++ take used rest)) z.waiting []) (sym same)
          (reads_more go_on s h.values (x ∷ []) front done h.rest (take used rest) old.limits old.waiting old.waiting h.same_limits h.reads
          (h.rest ++ take used rest) [] given.reads (sym (append-nil (h.rest ++ take used rest))));
      heard = hears_values goes_on s old before mid after h.values (x ∷ []) [] (x ∷ []) h.answered refl refl h.heard added;
      takes = given.takes;
      answered = ap (λ z. let t : ClientState = z in t.answered) same ∙ omega (arith, h.answered, replies_more h.values (x ∷ []));
      same_limits = ap (λ z. let t : ClientState = z in t.limits) same ∙ h.same_limits;
      same_out = ap (λ z. let t : ClientState = z in t.out) same ∙ h.same_out;
    }
hears_on go_on goes_on s c new before mid after front done rest used Shown h given stays added = absurd given
hears_on go_on goes_on s c new before mid after front done rest used More h given stays added =
    let same : state_of new ≡ state_of c = stays in
    let all : take used rest ≡ rest = take_all used rest (omega (arith, given.whole_piece)) in
    record {
      values = h.values;
      rest = h.rest ++ take used rest;
      reads = record {
        text = h.reads.text;
        reads = subst (λ (z : ClientState). ReadsAs s.limits s.waiting h.values h.reads.text z.waiting) (sym same) h.reads.reads;
        whole = read_on front done h.reads.text h.rest (take used rest) h.reads.whole;
      };
      heard = (added.0 ∙ append-nil (replies_in mid) ∙ h.heard.0, added.1 ∙ append-nil (pushes_in mid) ∙ h.heard.1);
      takes = subst (λ z. HasTaken new (h.rest ++ z)) (sym all) given.takes;
      answered = ap (λ z. let t : ClientState = z in t.answered) same ∙ h.answered;
      same_limits = ap (λ z. let t : ClientState = z in t.limits) same ∙ h.same_limits;
      same_out = ap (λ z. let t : ClientState = z in t.out) same ∙ h.same_out;
    }

-- a turn more
pub hears_more : ReadingsGoOn → HearingGoesOn → (s : ClientState) (c new : Client) (before mid after : Responses) (front piece rest beyond : List ℕ)
    (used : ℕ) (what : What) → (w : HearsUpTo s c before mid front piece rest) → Hears c new w.hears.rest rest used what →
    UnlessReplied what (state_of new ≡ state_of c) → AddsHeard mid after what → beyond ≡ drop used rest →
    HearsUpTo s new before after front piece beyond
hears_more go_on goes_on s c new before mid after front piece rest beyond used what w given stays added left = record {
  done = w.done ++ take used rest;
  parts = bytes_on front w.done piece rest used w.parts ∙ ap (λ z. (w.done ++ take used rest) ++ z) (sym left);
  hears = hears_on go_on goes_on s c new before mid after front w.done rest used what w.hears given stays added;
}

-- nothing is left of the piece
pub hears_whole : (s : ClientState) (c : Client) (before after : Responses) (front piece rest : List ℕ) →
    HearsUpTo s c before after front piece rest → length rest ≡ 0 → HearsAll s c before after (front ++ piece)
hears_whole s c before after front piece [] w none =
    subst (λ z. HearsAll s c before after (front ++ z)) (sym (w.parts ∙ append-nil w.done)) w.hears
hears_whole s c before after front piece (byte ∷ rest) w none = absurd (omega (arith, none))

-- all that came is the values, and after them what was taken and the rest
reads_before : (s : ClientState) (c : Client) (before after : Responses) (front piece rest : List ℕ) →
    (w : HearsUpTo s c before after front piece rest) →
    ReadsFrom s w.hears.values (front ++ piece) (state_of c).waiting (w.hears.rest ++ rest)
reads_before s c before after front piece rest w = record {
  text = w.hears.reads.text;
  reads = w.hears.reads.reads;
  whole = ap (λ z. front ++ z) w.parts ∙ read_on front w.done w.hears.reads.text w.hears.rest rest w.hears.reads.whole;
}

-- no memory was found
pub hears_some : (s : ClientState) (c : Client) (before after : Responses) (front piece rest : List ℕ) →
    HearsUpTo s c before after front piece rest → HearsSome s before after (front ++ piece)
hears_some s c before after front piece rest w = record {
  values = w.hears.values;
  waiting = (state_of c).waiting;
  rest = w.hears.rest ++ rest;
  reads = reads_before s c before after front piece rest w;
  heard = w.hears.heard;
}

-- a byte is refused
hears_fault : (s : ClientState) (c new : Client) (before after : Responses) (front piece rest : List ℕ) (fault : Fault) →
    (w : HearsUpTo s c before after front piece rest) → (fault.cause ≡ cause.OutOfMemory → ⊥) → Refuses (state_of c) w.hears.rest rest fault →
    state_of new ≡ state_of c → StopsAtFault s new before after (front ++ piece) fault
unfolding hears_some
hears_fault s c new before after front piece rest fault w other (inr (asked, lacks)) same = absurd (other lacks.names)
hears_fault s c new before after front piece rest fault w other (inl is) same = record {
  hears = record {
    some = hears_some s c before after front piece rest w;
    fault_of = subst (λ limits. ClientFault limits (state_of c).waiting (w.hears.rest ++ rest) fault.cause fault.at) w.hears.same_limits is;
  };
  waits = ap (λ (z : ClientState). z.waiting) same;
  answered = ap (λ (z : ClientState). z.answered) same ∙ w.hears.answered;
  same_limits = ap (λ (z : ClientState). z.limits) same ∙ w.hears.same_limits;
  same_out = ap (λ (z : ClientState). z.out) same ∙ w.hears.same_out;
}

-- the client stopped
stops_by : (k : Cause) (s : ClientState) (c new : Client) (before after : Responses) (front piece rest : List ℕ) (fault : Fault) → fault.cause ≡ k →
    (w : HearsUpTo s c before after front piece rest) → Refuses (state_of c) w.hears.rest rest fault → state_of new ≡ state_of c →
    StopsListening s new before after (front ++ piece) (error_by k fault)
stops_by cause.OutOfMemory s c new before after front piece rest fault is w refused same = hears_some s c before after front piece rest w
stops_by k s c new before after front piece rest fault is w refused same =
    hears_fault s c new before after front piece rest fault w (λ memory. let z : k ≡ cause.OutOfMemory = sym is ∙ memory in absurd (cc)) refused same

pub stops_hearing : (s : ClientState) (c new : Client) (before after : Responses) (front piece rest : List ℕ) (fault : Fault) (error : AskError) →
    error ≡ error_by fault.cause fault → (w : HearsUpTo s c before after front piece rest) → Refuses (state_of c) w.hears.rest rest fault →
    state_of new ≡ state_of c → StopsListening s new before after (front ++ piece) error
stops_hearing s c new before after front piece rest fault error is w refused same =
    subst (StopsListening s new before after (front ++ piece)) (sym is)
    (stops_by fault.cause s c new before after front piece rest fault refl w refused same)

-- a fault of the client stands where it stops the call
keeps_by : (k : Cause) (c : Client) (fault : Fault) → HasFault c fault → KeepsFault c (error_by k fault)
keeps_by cause.OutOfMemory c fault has = tt
keeps_by k c fault has = has

pub keeps_fault : (c : Client) (fault : Fault) → HasFault c fault → KeepsFault c (error_by fault.cause fault)
keeps_fault c fault has = keeps_by fault.cause c fault has

-- what isn't added stays
pub hears_none_more : (s : ClientState) (c : Client) (before mid after : Responses) (front piece rest : List ℕ) →
    HearsUpTo s c before mid front piece rest → replies_in after ≡ replies_in mid → pushes_in after ≡ pushes_in mid →
    HearsSome s before after (front ++ piece)
hears_none_more s c before mid after front piece rest w replies pushes =
    let some = hears_some s c before mid front piece rest w in
    record {
      values = some.values;
      waiting = some.waiting;
      rest = some.rest;
      reads = some.reads;
      heard = (replies ∙ some.heard.0, pushes ∙ some.heard.1);
    }

-- What a piece told, after what was heard before.

reads_on : ReadingsGoOn → (s : ClientState) (c : Client) (values others : List Datum) (front came piece f rest : List ℕ) (after : Waiting) →
    (state_of c).limits ≡ s.limits → ReadsFrom s values (front ++ came) (state_of c).waiting f → ReadsFrom (state_of c) others (f ++ piece) after rest →
    ReadsFrom s (values ++ others) (front ++ (came ++ piece)) after rest
reads_on go_on s c values others front came piece f rest after same first second =
    reads_more go_on s values others front came f piece (state_of c).limits (state_of c).waiting after same first second.text rest second.reads second.whole

pub hears_piece : ReadingsGoOn → HearingGoesOn → (s : ClientState) (c new : Client) (before mid after : Responses) (front came piece : List ℕ) →
    (h : HearsAll s c before mid (front ++ came)) → HearsAll (state_of c) new mid after (h.rest ++ piece) → HearsAll s new before after (front ++ (came ++
    piece))
hears_piece go_on goes_on s c new before mid after front came piece h p = record {
  values = h.values ++ p.values;
  rest = p.rest;
  reads = reads_on go_on s c h.values p.values front came piece h.rest p.rest (state_of new).waiting h.same_limits h.reads p.reads;
  heard = hears_values goes_on s (state_of c) before mid after h.values p.values _ _ h.answered refl refl h.heard p.heard;
  takes = p.takes;
  answered = omega (arith, p.answered, h.answered, replies_more h.values p.values);
  same_limits = p.same_limits ∙ h.same_limits;
  same_out = p.same_out ∙ h.same_out;
}

some_in_piece : ReadingsGoOn → HearingGoesOn → (s : ClientState) (c : Client) (before mid after : Responses) (front came piece : List ℕ) →
    (h : HearsAll s c before mid (front ++ came)) → HearsSome (state_of c) mid after (h.rest ++ piece) → HearsSome s before after (front ++ (came ++ piece))
some_in_piece go_on goes_on s c before mid after front came piece h p = record {
  values = h.values ++ p.values;
  waiting = p.waiting;
  rest = p.rest;
  reads = reads_on go_on s c h.values p.values front came piece h.rest p.rest p.waiting h.same_limits h.reads p.reads;
  heard = hears_values goes_on s (state_of c) before mid after h.values p.values _ _ h.answered refl refl h.heard p.heard;
}

pub fault_in_piece : ReadingsGoOn → HearingGoesOn → (s : ClientState) (c : Client) (before mid after : Responses) (front came piece : List ℕ) (fault : Fault) →
    (h : HearsAll s c before mid (front ++ came)) → HearsFault (state_of c) mid after (h.rest ++ piece) fault →
    HearsFault s before after (front ++ (came ++ piece)) fault
unfolding some_in_piece
fault_in_piece go_on goes_on s c before mid after front came piece fault h p = record {
  some = some_in_piece go_on goes_on s c before mid after front came piece h p.some;
  fault_of = subst (λ limits. ClientFault limits p.some.waiting p.some.rest fault.cause fault.at) h.same_limits p.fault_of;
}

pub stops_piece : ReadingsGoOn → HearingGoesOn → (s : ClientState) (c new : Client) (before mid after : Responses) (front came piece : List ℕ) (error : AskError) →
    (h : HearsAll s c before mid (front ++ came)) → StopsListening (state_of c) new mid after (h.rest ++ piece) error →
    StopsListening s new before after (front ++ (came ++ piece)) error
unfolding fault_in_piece some_in_piece
stops_piece go_on goes_on s c new before mid after front came piece (error.Fault fault) h p = record {
  hears = fault_in_piece go_on goes_on s c before mid after front came piece fault h p.hears;
  waits = p.waits;
  answered = omega (arith, p.answered, h.answered, replies_more h.values p.hears.some.values);
  same_limits = p.same_limits ∙ h.same_limits;
  same_out = p.same_out ∙ h.same_out;
}
stops_piece go_on goes_on s c new before mid after front came piece error.OutOfMemory h p =
    some_in_piece go_on goes_on s c before mid after front came piece h p
stops_piece go_on goes_on s c new before mid after front came piece error.Read h p = hears_piece go_on goes_on s c new before mid after front came piece h p
stops_piece go_on goes_on s c new before mid after front came piece error.TooManyTurns h p =
    hears_piece go_on goes_on s c new before mid after front came piece h p
stops_piece go_on goes_on s c new before mid after front came piece error.Ended h p = hears_piece go_on goes_on s c new before mid after front came piece h p
stops_piece go_on goes_on s c new before mid after front came piece (error.Refused index refusal) h p = absurd p
stops_piece go_on goes_on s c new before mid after front came piece error.Write h p = absurd p

-- a client stops by a fault or when out of memory
stops_client : (k : Cause) (fault : Fault) → StopsClient (error_by k fault)
stops_client cause.OutOfMemory fault = tt
stops_client k fault = tt

pub client_stops : (fault : Fault) (error : AskError) → error ≡ error_by fault.cause fault → StopsClient error
client_stops fault error is = subst StopsClient (sym is) (stops_client fault.cause fault)

-- what holds of faults and where memory is out holds of each such error
pub by_client : (P : AskError → Type 0) → ((fault : Fault) → P (error.Fault fault)) → P error.OutOfMemory → (e : AskError) → StopsClient e → P e
by_client P faults memory (error.Fault fault) h = faults fault
by_client P faults memory error.OutOfMemory h = memory
by_client P faults memory (error.Refused index refusal) h = absurd h
by_client P faults memory error.Read h = absurd h
by_client P faults memory error.Write h = absurd h
by_client P faults memory error.TooManyTurns h = absurd h
by_client P faults memory error.Ended h = absurd h

-- then the last read gave a piece
pub no_last_read : (e : AskError) → StopsClient e → is_of_last_read e ≡ false
no_last_read = by_client (λ e. is_of_last_read e ≡ false) (λ fault. refl) refl

-- then there is no other reason why no more is read
pub fails_reading : (failures failures' : ℕ) (left left' : Option (List ℕ)) (s : ClientState) (e : AskError) → StopsClient e →
    FailsReading failures failures' left left' s e
fails_reading failures failures' left left' s = by_client (FailsReading failures failures' left left' s) (λ fault. tt) tt
