-- What has been received and printed, one value and one piece after another.
use Rattle.std.specs.Prelude.{not, filter, if◌then◌else◌}
use Rattle.std.proofs.Common.{◌≡◌, inl, inr, ℕ, suc, ◌+◌, ◌<◌, ◌≤◌, Bool, true, false, List, [], ◌∷◌, ◌++◌, length, take, drop, Option, Result, Ok, Err, refl, sym, ap, subst, ◌∙◌, arith, append_assoc}
use Rattle.std.proofs.lemmas.List.{append-nil, length-append, length-take, take-append-drop, take_all}
use Rattle.std.proofs.lemmas.List.Elements.{filter-append}
use Rattle.resp_value.specs.Bounds.{Bounds}
use Rattle.resp_value.specs.Data.{Datum}
use Rattle.resp_io.specs.Devices.{Appends, count_after, last_count}
use Rattle.resp_value.specs.Values.{datum_of}
use Rattle.resp_value.specs.declared.cause.Cause.{Cause}
use Rattle.resp_value.specs.declared.cause.Cause.TheVariants as cause
use Rattle.resp_value.specs.declared.value.Value.TheVariants as value
use Rattle.resp_scan.specs.declared.event.Fault.{Fault}
use Rattle.resp_session.specs.Heard.{is_push, numbered_replies, replies_of}
use Rattle.resp_session.specs.Reading.{ClientFault, ReadsAs, Waiting, is_refusal}
use Rattle.resp_session.specs.ReadingLaws.{ReadingsGoOn}
use Rattle.resp_client.specs.Clients.{ClientState, next_number, state_of, with_answer}
use Rattle.resp_client.specs.Hearing.{HasTaken, Hears, Refuses, UnlessReplied}
use Rattle.resp_client.specs.declared.client.Client.{Client}
use Rattle.resp_client.specs.declared.heard.What.{What}
use Rattle.resp_client.specs.declared.heard.What.TheVariants.{Reply, Push, Shown, More}
use Rattle.resp_print.specs.Written.{AppendsPart}
use Rattle.resp_wire.specs.Hearing.{ReadsFrom}
use Rattle.resp_io.proofs.Turning.{appends_more, appends_nothing}
use Rattle.resp_cli_ask.specs.Hearing.{Receives, StopsHearing, StopsTelling, Tells, TellsSome, error_by, error_of}
use Rattle.resp_cli_ask.specs.Tellings.{TellsText, counted_after, errors_among, errors_of, heard_text, push_text, reply_text, text_of}
use Rattle.resp_cli_ask.specs.declared.error.ExchangeError.{ExchangeError}
use Rattle.resp_cli_ask.specs.declared.error.ExchangeError.TheVariants as error
use Rattle.resp_cli_ask.specs.declared.telling.Telling.{Telling}

-- ---- texts

-- the text of more values
pub heard-append : (t : Telling) (number : ℕ) (xs ys : List Datum) →
    heard_text t number (xs ++ ys) ≡ heard_text t number xs ++ heard_text t (number + length (replies_of xs)) ys
heard-append t number [] ys = ap (λ n. heard_text t n ys) (let e : number ≡ number + 0 = omega arith in e)
heard-append t number (x ∷ xs) ys = by (heard-append t number xs ys) (heard-append t (number + 1) xs ys) (is_push x) refl
  where
    by : heard_text t number (xs ++ ys) ≡ heard_text t number xs ++ heard_text t (number + length (replies_of xs)) ys →
        heard_text t (number + 1) (xs ++ ys) ≡ heard_text t (number + 1) xs ++ heard_text t ((number + 1) + length (replies_of xs)) ys →
        (b : Bool) → is_push x ≡ b →
        heard_text t number (x ∷ (xs ++ ys)) ≡ heard_text t number (x ∷ xs) ++ heard_text t (number + length (replies_of (x ∷ xs))) ys
    by same next true is = rw is (
        ap (λ z. push_text t.form x ++ z) same
        ∙ sym (append_assoc (push_text t.form x) (heard_text t number xs) (heard_text t (number + length (replies_of xs)) ys)))
    by same next false is = rw is (
        ap (λ z. reply_text t number x ++ z) (next
        ∙ ap (λ n. heard_text t (number + 1) xs ++ heard_text t n ys)
        (let e : (number + 1) + length (replies_of xs) ≡ number + suc (length (replies_of xs)) = omega arith in e))
        ∙ sym (append_assoc (reply_text t number x) (heard_text t (number + 1) xs) (heard_text t (number + suc (length (replies_of xs))) ys)))

-- this many replies are among values and more of them
replies_more : (values others : List Datum) → length (replies_of (values ++ others)) ≡ length (replies_of values) + length (replies_of others)
replies_more values others = ap length (filter-append (λ y. not (is_push y)) values others) ∙ length-append (replies_of values) (replies_of others)

errors_more : (values others : List Datum) → errors_among (values ++ others) ≡ errors_among values + errors_among others
errors_more values others = ap (λ z. length (filter is_refusal z)) (filter-append (λ y. not (is_push y)) values others)
    ∙ ap length (filter-append is_refusal (replies_of values) (replies_of others))
    ∙ length-append (filter is_refusal (replies_of values)) (filter is_refusal (replies_of others))

counted_more : (a b : ℕ) (t : Telling) → counted_after b (counted_after a t) ≡ counted_after (a + b) t
counted_more a b t = ap (λ n. record t { errors = n }) (let e : count_after b (count_after a t.errors) ≡ count_after (a + b) t.errors = omega arith in e)

-- a text was appended, and then the first part of another
appends_then_part : (a b c : Option (List ℕ)) (xs ys : List ℕ) → Appends a b xs → AppendsPart b c ys → AppendsPart a c (xs ++ ys)
appends_then_part a b c xs ys first second = record {
  part = xs ++ second.part;
  beyond = second.beyond;
  whole = ap (λ z. xs ++ z) second.whole ∙ sym (append_assoc xs second.part second.beyond);
  appended = appends_more a b c xs second.part first second.appended;
}

all_is_part : (a b : Option (List ℕ)) (text : List ℕ) → Appends a b text → AppendsPart a b text
all_is_part a b text all = record { part = text; beyond = []; whole = sym (append-nil text); appended = all }

-- the text does not depend on the errors before
heard_counted : (t : Telling) (n number : ℕ) (xs : List Datum) → heard_text (counted_after n t) number xs ≡ heard_text t number xs
heard_counted t n number [] = refl
heard_counted t n number (x ∷ xs) = by (heard_counted t n number xs) (heard_counted t n (number + 1) xs) (is_push x) refl
  where
    by : heard_text (counted_after n t) number xs ≡ heard_text t number xs → heard_text (counted_after n t) (number + 1) xs ≡ heard_text t (number + 1) xs →
        (b : Bool) → is_push x ≡ b → heard_text (counted_after n t) number (x ∷ xs) ≡ heard_text t number (x ∷ xs)
    by same next true is = rw is (ap (λ z. push_text t.form x ++ z) same)
    by same next false is = rw is (ap (λ z. reply_text t number x ++ z) next)

-- ---- values

-- what comes after a rest that was taken
read_on : (front done text f : List ℕ) (more : List ℕ) → front ++ done ≡ text ++ f → front ++ (done ++ more) ≡ text ++ (f ++ more)
read_on front done text f more whole = sym (append_assoc front done more) ∙ ap (λ z. z ++ more) whole ∙ append_assoc text f more

reads_more : ReadingsGoOn → (s : ClientState) (values others : List Datum) (front done f more : List ℕ) (limits : Bounds) (w after : Waiting) →
    limits ≡ s.limits → ReadsFrom s values (front ++ done) w f → (text rest : List ℕ) → ReadsAs limits w others text after → f ++ more ≡ text ++ rest →
    ReadsFrom s (values ++ others) (front ++ (done ++ more)) after rest
reads_more go_on s values others front done f more limits w after same r text rest given parts = record {
  text = r.text ++ text;
  reads = go_on s.limits s.waiting w after values others r.text text r.reads (subst (λ l. ReadsAs l w others text after) same given);
  whole = read_on front done r.text f more r.whole ∙ ap (λ z. r.text ++ z) parts ∙ sym (append_assoc r.text text rest);
}

pub receives_nothing : (c : Client) (front : List ℕ) → HasTaken c front → Receives (state_of c) c [] (front ++ [])
receives_nothing c front h = record {
  rest = front;
  reads = record { text = []; reads = (refl, refl); whole = append-nil front };
  takes = h;
  answered = omega arith;
  same_limits = refl;
  same_out = refl;
}

receives_more : ReadingsGoOn → (s : ClientState) (c new : Client) (values others : List Datum) (front came piece : List ℕ) →
    (h : Receives s c values (front ++ came)) → Receives (state_of c) new others (h.rest ++ piece) →
    Receives s new (values ++ others) (front ++ (came ++ piece))
receives_more go_on s c new values others front came piece h p = record {
  rest = p.rest;
  reads = reads_more go_on s values others front came h.rest piece (state_of c).limits (state_of c).waiting (state_of new).waiting h.same_limits h.reads
      p.reads.text p.rest p.reads.reads p.reads.whole;
  takes = p.takes;
  answered = omega (arith, p.answered, h.answered, replies_more values others);
  same_limits = p.same_limits ∙ h.same_limits;
  same_out = p.same_out ∙ h.same_out;
}

-- ---- one feed

-- what one feed received, with its text
pub record ReceivesOne (t : Telling) (old new : Client) (what : What) (came : List ℕ) : Type 0 where
  pub values : List Datum
  pub receives : Receives (state_of old) new values came
  pub text : heard_text t (next_number (state_of old)) values ≡ text_of t what
  pub errors : errors_among values ≡ errors_of what

abbrev first_number : List (ℕ × Datum) → ℕ
first_number [] = 0
first_number (reply ∷ replies) = reply.0

-- one reply is no push, and it has the next number
one_reply : (t : Telling) (n : ℕ) (x : Datum) (number : ℕ) → numbered_replies n (x ∷ []) ≡ (number, x) ∷ [] →
    (heard_text t n (x ∷ []) ≡ reply_text t number x) × (errors_among (x ∷ []) ≡ (if is_refusal x then 1 else 0)) × (length (replies_of (x ∷ [])) ≡ 1)
one_reply t n x number e = by (is_push x) refl
  where
    counted : (b : Bool) → is_refusal x ≡ b → length (filter is_refusal (x ∷ [])) ≡ (if is_refusal x then 1 else 0)
    counted true is = rw is refl
    counted false is = rw is refl

    by : (b : Bool) → is_push x ≡ b →
        (heard_text t n (x ∷ []) ≡ reply_text t number x) × (errors_among (x ∷ []) ≡ (if is_refusal x then 1 else 0)) × (length (replies_of (x ∷ [])) ≡ 1)
    by true is = absurd (let z : numbered_replies n (x ∷ []) ≡ [] = rw is refl in let w : (number, x) ∷ [] ≡ [] = sym e ∙ z in cc)
    by false is =
        let z : numbered_replies n (x ∷ []) ≡ (n, x) ∷ [] = rw is refl in
        let same : n ≡ number = ap first_number (sym z ∙ e) in
        rw is (append-nil (reply_text t n x) ∙ ap (λ k. reply_text t k x) same, counted (is_refusal x) refl, refl)

pub receives_one : (t : Telling) (c new : Client) (rest piece : List ℕ) (used : ℕ) (what : What) → Hears c new rest piece used what →
    UnlessReplied what (state_of new ≡ state_of c) → ReceivesOne t c new what (rest ++ take used piece)
receives_one t c new rest piece used (Reply number x) given stays =
    let old : ClientState = state_of c in
    let one = one_reply t (next_number old) (datum_of x) number given.numbered in
    let same : state_of new ≡ with_answer (datum_of x) old = given.answered in
    record {
      values = datum_of x ∷ [];
      receives = record {
        rest = [];
        reads = record {
          text = rest ++ take used piece;
          reads = given.reads;
          whole = sym (append-nil (rest ++ take used piece));
        };
        takes = given.takes;
        answered = ap (λ z. let s : ClientState = z in s.answered) same ∙ omega (arith, one.2);
        same_limits = ap (λ z. let s : ClientState = z in s.limits) same;
        same_out = ap (λ z. let s : ClientState = z in s.out) same;
      };
      text = one.0;
      errors = one.1;
    }
receives_one t c new rest piece used (Push items) given stays =
    let old : ClientState = state_of c in
    let x = datum_of (value.Push items) in
    let same : state_of new ≡ old = stays in
    record {
      values = x ∷ [];
      receives = record {
        rest = [];
        reads = record {
          text = rest ++ take used piece;
          reads = subst (λ (z : ClientState). ReadsAs old.limits old.waiting (x ∷ []) (rest ++ take used piece) z.waiting) (sym same) given.reads;
          whole = sym (append-nil (rest ++ take used piece));
        };
        takes = given.takes;
        answered = ap (λ z. let s : ClientState = z in s.answered) same ∙ omega arith;
        same_limits = ap (λ z. let s : ClientState = z in s.limits) same;
        same_out = ap (λ z. let s : ClientState = z in s.out) same;
      };
      text = append-nil (push_text t.form x);
      errors = refl;
    }
receives_one t c new rest piece used Shown given stays = absurd given
receives_one t c new rest piece used More given stays =
    let old : ClientState = state_of c in
    let same : state_of new ≡ old = stays in
    let all : take used piece ≡ piece = take_all used piece (omega (arith, given.whole_piece)) in
    record {
      values = [];
      receives = record {
        rest = rest ++ take used piece;
        reads = record { text = []; reads = (refl, ap (λ (z : ClientState). z.waiting) same); whole = refl };
        takes = subst (λ z. HasTaken new (rest ++ z)) (sym all) given.takes;
        answered = ap (λ z. let s : ClientState = z in s.answered) same ∙ omega arith;
        same_limits = ap (λ z. let s : ClientState = z in s.limits) same;
        same_out = ap (λ z. let s : ClientState = z in s.out) same;
      };
      text = refl;
      errors = refl;
    }

-- ---- what was told

-- a heading was written, and then a text
pub heading_then : {X : Type 0} → (a b d : Option (List ℕ)) (f g h : ℕ) (r : Result X ExchangeError) (heading text : List ℕ) →
    Appends a b heading × (g ≡ f) → TellsText b d g h r text → TellsText a d f h r (heading ++ text)
heading_then a b d f g h (Ok x) heading text first told = (appends_more a b d heading text first.0 told.0, told.1 ∙ first.1)
heading_then a b d f g h (Err error.Output) heading text first told =
    (appends_then_part a b d heading text first.0 told.0, told.1 ∙ ap (count_after 1) first.1)
heading_then a b d f g h (Err error.Memory) heading text first told = (appends_then_part a b d heading text first.0 told.0, told.1 ∙ first.1)
heading_then a b d f g h (Err other) heading text first told = absurd told

pub no_heading : (X : Type 0) → (a b : Option (List ℕ)) (f g : ℕ) (heading text : List ℕ) → AppendsPart a b heading × (g ≡ count_after 1 f) →
    TellsText {X = X} a b f g (Err error.Output) (heading ++ text)
no_heading X a b f g heading text part = (
  record {
    part = part.0.part;
    beyond = part.0.beyond ++ text;
    whole = ap (λ z. z ++ text) part.0.whole ∙ append_assoc part.0.part part.0.beyond text;
    appended = part.0.appended;
  },
  part.1,
)

pub tells_nothing : (t : Telling) (c : Client) (out : Option (List ℕ)) (front : List ℕ) → t.errors ≤ last_count → HasTaken c front →
    Tells t t (state_of c) c out out (front ++ [])
tells_nothing t c out front few h = record {
  values = [];
  receives = receives_nothing c front h;
  printed = appends_nothing out;
  counted = ap (λ n. record t { errors = n }) (let e : t.errors ≡ count_after 0 t.errors = omega (arith, few) in e);
}

text_more : (t u : Telling) (s : ClientState) (c : Client) (values others : List Datum) → (state_of c).answered ≡ s.answered + length (replies_of values) →
    u ≡ counted_after (errors_among values) t →
    heard_text t (next_number s) values ++ heard_text u (next_number (state_of c)) others ≡ heard_text t (next_number s) (values ++ others)
text_more t u s c values others answered counted =
    ap (λ z. heard_text t (next_number s) values ++ z)
    (ap (λ v. heard_text v (next_number (state_of c)) others) counted
    ∙ heard_counted t (errors_among values) (next_number (state_of c)) others
    ∙ ap (λ n. heard_text t n others) (let e : next_number (state_of c) ≡ next_number s + length (replies_of values) = omega (arith, answered) in e))
    ∙ sym (heard-append t (next_number s) values others)

pub tells_more : ReadingsGoOn → (t u v : Telling) (s : ClientState) (c new : Client) (a b d : Option (List ℕ)) (front came piece : List ℕ) →
    (h : Tells t u s c a b (front ++ came)) → Tells u v (state_of c) new b d (h.receives.rest ++ piece) → Tells t v s new a d (front ++ (came ++ piece))
tells_more go_on t u v s c new a b d front came piece h p = record {
  values = h.values ++ p.values;
  receives = receives_more go_on s c new h.values p.values front came piece h.receives p.receives;
  printed = subst (Appends a d) (text_more t u s c h.values p.values h.receives.answered h.counted)
      (appends_more a b d (heard_text t (next_number s) h.values) (heard_text u (next_number (state_of c)) p.values) h.printed p.printed);
  counted = p.counted ∙ ap (counted_after (errors_among p.values)) h.counted
      ∙ counted_more (errors_among h.values) (errors_among p.values) t ∙ ap (λ n. counted_after n t) (sym (errors_more h.values p.values));
}

-- one feed, whose text was printed
pub tells_one : (t u : Telling) (old new : Client) (what : What) (out out' : Option (List ℕ)) (came : List ℕ) → ReceivesOne t old new what came →
    Appends out out' (text_of t what) → u ≡ counted_after (errors_of what) t → Tells t u (state_of old) new out out' came
tells_one t u old new what out out' came one printed counted = record {
  values = one.values;
  receives = one.receives;
  printed = subst (Appends out out') (sym one.text) printed;
  counted = counted ∙ ap (λ n. counted_after n t) (sym one.errors);
}

-- What has been told after this many turns: the bytes before the rest, of which each turn used one at least.
pub record TellsUpTo (t u : Telling) (s : ClientState) (c : Client) (out out' : Option (List ℕ)) (front piece rest : List ℕ) (turns : ℕ) : Type 0 where
  pub done : List ℕ
  pub parts : piece ≡ done ++ rest
  pub few : turns ≤ length done
  pub tells : Tells t u s c out out' (front ++ done)

pub tells_none_yet : (t : Telling) (c : Client) (out : Option (List ℕ)) (front piece : List ℕ) → t.errors ≤ last_count → HasTaken c front →
    TellsUpTo t t (state_of c) c out out front piece piece 0
tells_none_yet t c out front piece few h =
    record { done = []; parts = refl; few = omega arith; tells = tells_nothing t c out front few h }

-- a turn more
pub tells_turn : ReadingsGoOn → (t u v : Telling) (s : ClientState) (c new : Client) (a b d : Option (List ℕ)) (front piece rest beyond : List ℕ)
    (turns used : ℕ) (what : What) → (w : TellsUpTo t u s c a b front piece rest turns) → Hears c new w.tells.receives.rest rest used what →
    UnlessReplied what (state_of new ≡ state_of c) → 0 < used → used ≤ length rest → Appends b d (text_of u what) → v ≡ counted_after (errors_of what) u →
    beyond ≡ drop used rest → TellsUpTo t v s new a d front piece beyond (turns + 1)
tells_turn go_on t u v s c new a b d front piece rest beyond turns used what w given stays some within printed counted left = record {
  done = w.done ++ take used rest;
  parts = w.parts ∙ ap (λ z. w.done ++ z) (sym (take-append-drop used rest)) ∙ sym (append_assoc w.done (take used rest) (drop used rest))
      ∙ ap (λ z. (w.done ++ take used rest) ++ z) (sym left);
  few = omega (arith, w.few, some, within, length-append w.done (take used rest), length-take used rest);
  tells = tells_more go_on t u v s c new a b d front w.done (take used rest) w.tells
      (tells_one u v c new what b d (w.tells.receives.rest ++ take used rest) (receives_one u c new w.tells.receives.rest rest used what given stays)
      printed counted);
}

-- nothing is left of the piece
pub tells_whole : (t u : Telling) (s : ClientState) (c : Client) (out out' : Option (List ℕ)) (front piece rest : List ℕ) (turns : ℕ) →
    TellsUpTo t u s c out out' front piece rest turns → length rest ≡ 0 → Tells t u s c out out' (front ++ piece)
tells_whole t u s c out out' front piece [] turns w none =
    subst (λ z. Tells t u s c out out' (front ++ z)) (sym (w.parts ∙ append-nil w.done)) w.tells
tells_whole t u s c out out' front piece (byte ∷ rest) turns w none = absurd (omega (arith, none))

-- as many turns as there are bytes leave nothing
pub tells_in_turns : (t u : Telling) (s : ClientState) (c : Client) (out out' : Option (List ℕ)) (front piece rest : List ℕ) (turns : ℕ) →
    TellsUpTo t u s c out out' front piece rest turns → length piece ≤ turns → length rest ≡ 0
tells_in_turns t u s c out out' front piece rest turns w all = omega (arith, w.few, all, ap length w.parts, length-append w.done rest)

-- all that came is the values, and after them what was taken and the rest
reads_before : (t u : Telling) (s : ClientState) (c : Client) (out out' : Option (List ℕ)) (front piece rest : List ℕ) (turns : ℕ) →
    (w : TellsUpTo t u s c out out' front piece rest turns) →
    ReadsFrom s w.tells.values (front ++ piece) (state_of c).waiting (w.tells.receives.rest ++ rest)
reads_before t u s c out out' front piece rest turns w = record {
  text = w.tells.receives.reads.text;
  reads = w.tells.receives.reads.reads;
  whole = ap (λ z. front ++ z) w.parts ∙ read_on front w.done w.tells.receives.reads.text w.tells.receives.rest rest w.tells.receives.reads.whole;
}

-- the client stopped
stops_by : (k : Cause) (t u : Telling) (s : ClientState) (c : Client) (out out' : Option (List ℕ)) (front piece rest : List ℕ) (turns : ℕ)
    (fault : Fault) → fault.cause ≡ k → (w : TellsUpTo t u s c out out' front piece rest turns) → Refuses (state_of c) w.tells.receives.rest rest fault →
    StopsTelling t u s out out' (front ++ piece) (error_by k fault)
stops_by cause.OutOfMemory t u s c out out' front piece rest turns fault is w refused = record {
  values = w.tells.values;
  waiting = (state_of c).waiting;
  rest = w.tells.receives.rest ++ rest;
  reads = reads_before t u s c out out' front piece rest turns w;
  printed = all_is_part out out' _ w.tells.printed;
}
stops_by k t u s c out out' front piece rest turns fault is w (inr (asked, lacks)) =
    let z : k ≡ cause.OutOfMemory = sym is ∙ lacks.names in absurd (cc)
stops_by k t u s c out out' front piece rest turns fault is w (inl fault_is) = record {
  values = w.tells.values;
  waiting = (state_of c).waiting;
  rest = w.tells.receives.rest ++ rest;
  reads = reads_before t u s c out out' front piece rest turns w;
  printed = w.tells.printed;
  counted = w.tells.counted;
  fault_of = subst (λ limits. ClientFault limits (state_of c).waiting (w.tells.receives.rest ++ rest) fault.cause fault.at) w.tells.receives.same_limits
      fault_is;
}

pub stops_telling : (t u : Telling) (s : ClientState) (c : Client) (out out' : Option (List ℕ)) (front piece rest : List ℕ) (turns : ℕ)
    (fault : Fault) (e : ExchangeError) → e ≡ error_of fault → (w : TellsUpTo t u s c out out' front piece rest turns) →
    Refuses (state_of c) w.tells.receives.rest rest fault → StopsTelling t u s out out' (front ++ piece) e
stops_telling t u s c out out' front piece rest turns fault e is w refused =
    subst (StopsTelling t u s out out' (front ++ piece)) (sym is)
    (stops_by fault.cause t u s c out out' front piece rest turns fault refl w refused)

-- the text of a value was printed in part
some_told : ReadingsGoOn → (t u : Telling) (s : ClientState) (c new : Client) (a b d : Option (List ℕ)) (front piece rest : List ℕ)
    (turns used : ℕ) (what : What) → (w : TellsUpTo t u s c a b front piece rest turns) →
    ReceivesOne u c new what (w.tells.receives.rest ++ take used rest) → AppendsPart b d (text_of u what) → TellsSome t s a d (front ++ piece)
some_told go_on t u s c new a b d front piece rest turns used what w one part =
    let all = receives_more go_on s c new w.tells.values one.values front w.done (take used rest) w.tells.receives one.receives in
    record {
      values = w.tells.values ++ one.values;
      waiting = (state_of new).waiting;
      rest = all.rest ++ drop used rest;
      reads = record {
        text = all.reads.text;
        reads = all.reads.reads;
        whole = ap (λ z. front ++ z) (w.parts ∙ ap (λ z. w.done ++ z) (sym (take-append-drop used rest))
            ∙ sym (append_assoc w.done (take used rest) (drop used rest)))
            ∙ read_on front (w.done ++ take used rest) all.reads.text all.rest (drop used rest) all.reads.whole;
      };
      printed = subst (AppendsPart a d) (text_more t u s c w.tells.values one.values w.tells.receives.answered w.tells.counted)
          (appends_then_part a b d (heard_text t (next_number s) w.tells.values) (heard_text u (next_number (state_of c)) one.values) w.tells.printed
          (subst (AppendsPart b d) (sym one.text) part));
    }

pub stops_in_text : ReadingsGoOn → (t u v : Telling) (s : ClientState) (c new : Client) (a b d : Option (List ℕ)) (front piece rest : List ℕ)
    (turns used : ℕ) (what : What) (e : ExchangeError) (f g : ℕ) → (w : TellsUpTo t u s c a b front piece rest turns) →
    Hears c new w.tells.receives.rest rest used what → UnlessReplied what (state_of new ≡ state_of c) →
    TellsText {X = Unit {0}} b d f g (Err e) (text_of u what) → StopsTelling t v s a d (front ++ piece) e
stops_in_text go_on t u v s c new a b d front piece rest turns used what error.Output f g w given stays told =
    some_told go_on t u s c new a b d front piece rest turns used what w (receives_one u c new w.tells.receives.rest rest used what given stays) told.0
stops_in_text go_on t u v s c new a b d front piece rest turns used what error.Memory f g w given stays told =
    some_told go_on t u s c new a b d front piece rest turns used what w (receives_one u c new w.tells.receives.rest rest used what given stays) told.0
stops_in_text go_on t u v s c new a b d front piece rest turns used what other f g w given stays told = absurd told

some_more : ReadingsGoOn → (t u : Telling) (s : ClientState) (c : Client) (a b d : Option (List ℕ)) (front came piece : List ℕ) →
    (h : Tells t u s c a b (front ++ came)) → TellsSome u (state_of c) b d (h.receives.rest ++ piece) → TellsSome t s a d (front ++ (came ++ piece))
some_more go_on t u s c a b d front came piece h p = record {
  values = h.values ++ p.values;
  waiting = p.waiting;
  rest = p.rest;
  reads = reads_more go_on s h.values p.values front came h.receives.rest piece (state_of c).limits (state_of c).waiting p.waiting h.receives.same_limits
      h.receives.reads p.reads.text p.rest p.reads.reads p.reads.whole;
  printed = subst (AppendsPart a d) (text_more t u s c h.values p.values h.receives.answered h.counted)
      (appends_then_part a b d (heard_text t (next_number s) h.values) (heard_text u (next_number (state_of c)) p.values) h.printed p.printed);
}

-- a piece in which the client or its output stopped, after what was told before
pub stops_piece : ReadingsGoOn → (t u v : Telling) (s : ClientState) (c new : Client) (a b d : Option (List ℕ)) (front came piece : List ℕ) (e : ExchangeError) →
    (h : Tells t u s c a b (front ++ came)) → StopsTelling u v (state_of c) b d (h.receives.rest ++ piece) e →
    StopsHearing t v s new a d (front ++ (came ++ piece)) e
stops_piece go_on t u v s c new a b d front came piece (error.Fault fault) h p = record {
  values = h.values ++ p.values;
  waiting = p.waiting;
  rest = p.rest;
  reads = reads_more go_on s h.values p.values front came h.receives.rest piece (state_of c).limits (state_of c).waiting p.waiting h.receives.same_limits
      h.receives.reads p.reads.text p.rest p.reads.reads p.reads.whole;
  printed = subst (Appends a d) (text_more t u s c h.values p.values h.receives.answered h.counted)
      (appends_more a b d (heard_text t (next_number s) h.values) (heard_text u (next_number (state_of c)) p.values) h.printed p.printed);
  counted = p.counted ∙ ap (counted_after (errors_among p.values)) h.counted
      ∙ counted_more (errors_among h.values) (errors_among p.values) t ∙ ap (λ n. counted_after n t) (sym (errors_more h.values p.values));
  fault_of = subst (λ limits. ClientFault limits p.waiting p.rest fault.cause fault.at) h.receives.same_limits p.fault_of;
}
stops_piece go_on t u v s c new a b d front came piece error.Memory h p = some_more go_on t u s c a b d front came piece h p
stops_piece go_on t u v s c new a b d front came piece error.Output h p = some_more go_on t u s c a b d front came piece h p
stops_piece go_on t u v s c new a b d front came piece other h p = absurd p
