-- What a visit has done, step by step.
use Rattle.std.proofs.Common.{◌≡◌, ◌∙◌, inl, inr, ℕ, ◌<◌, ◌≤◌, Bool, true, false, List, [], ◌∷◌, ◌++◌, ◌+◌, ◌-◌, length, take, drop, Option, Result, Ok, Err, ap, append_assoc, arith, refl, subst, sym, take-add, take_all}
use Rattle.std.specs.List.{concat}
use Rattle.std.proofs.lemmas.Bool.{false≢true}
use Rattle.std.proofs.lemmas.List.{append-nil, drop-take, take-append-drop}
use Rattle.resp_io.specs.Devices.{Appends}
use Rattle.resp_io.specs.Pieces.{GivesPieces, ReadsNothing}
use Rattle.resp_io.specs.Turns.{Halts, has_failed, stopped_by}
use Rattle.resp_io.specs.declared.halt.Halt.{Halt}
use Rattle.resp_io.specs.declared.halt.Halt.TheVariants.{Failed, NoTurn}
use Rattle.resp_io.proofs.Pieces.{before_more, concat_more, only_pieces}
use Rattle.resp_io.proofs.Turning.{appends_more, appends_nothing}
use Rattle.resp_wire.specs.Visits.{Answers, EndsVisit, FailsVisit, GoesOn, GoesOnWith, HadServed, MayLeave, Sends, ServesBy, ServesPieces, StaysAfter, StopsAnswering, StopsOverfull, ends_by_read, is_of_writer, read_error, rest_in, write_error}
use Rattle.resp_wire.specs.declared.serve.Served.{Served}
use Rattle.resp_wire.specs.declared.serve.Visit.{Visit}
use Rattle.resp_wire.specs.declared.error.ServeError.{ServeError}
use Rattle.resp_wire.specs.declared.error.ServeError.TheVariants.{NoSession, OutOfMemory, Read, TooManyTurns, Write}

-- bytes before a part of a piece, and then the part
joined : (bytes : List ℕ) (used count : ℕ) (piece : List ℕ) →
    (bytes ++ take used piece) ++ take count (drop used piece) ≡ bytes ++ take (used + count) piece
joined bytes used count piece =
    append_assoc bytes (take used piece) (take count (drop used piece)) ∙ ap (λ b. bytes ++ b) (sym (take-add used count piece))

joined_whole : (bytes : List ℕ) (used : ℕ) (piece : List ℕ) → (bytes ++ take used piece) ++ drop used piece ≡ bytes ++ take (length piece) piece
joined_whole bytes used piece =
    append_assoc bytes (take used piece) (drop used piece) ∙
    ap (λ b. bytes ++ b) (take-append-drop used piece ∙ sym (take_all (length piece) piece (omega arith)))

-- these bytes of a piece were given to the server, and all replies to them were written
pub record HasAnswered {T C : Type 0} (serves : T → C → T → C → List ℕ → List ℕ → Type 0) (waiting : T → C → List ℕ) (closing : T → C → Bool)
    (w w' : Option (List ℕ)) (old : T) (before : C) (new : T) (after : C) (piece : List ℕ) (used : ℕ) (is_closing : Bool) : Type 0 where
  pub within : used ≤ length piece
  pub none_waits : waiting new after ≡ []
  pub is_open : used < length piece → closing new after ≡ false
  pub same : 0 < used → is_closing ≡ closing new after
  pub text : List ℕ
  pub appended : Appends w w' text
  pub served : GoesOn serves old before new after (take used piece) text

-- no byte of the piece was given yet
pub answered_none : {T C : Type 0} → (serves : T → C → T → C → List ℕ → List ℕ → Type 0) (waiting : T → C → List ℕ) (closing : T → C → Bool)
    (w : Option (List ℕ)) (s : T) (c : C) (piece : List ℕ) → waiting s c ≡ [] → closing s c ≡ false →
    HasAnswered serves waiting closing w w s c s c piece 0 false
answered_none serves waiting closing w s c piece none is_open = record {
  within = omega arith;
  none_waits = none;
  is_open = λ less. is_open;
  same = λ some. absurd (omega (arith, some));
  text = [];
  appended = appends_nothing w;
  served = λ first client given came served. subst (λ t. serves first client s c (given ++ []) t) (sym (append-nil came))
      (subst (λ b. serves first client s c b came) (sym (append-nil given)) served);
}

-- bytes of the piece were given, and the bytes that waited were written, or the first of them
goes_on : {T C : Type 0} → (all : ℕ → T → C → T → C → List ℕ → List ℕ → Type 0) (writes : T → C → T → C → List ℕ → Type 0) (waiting : T → C → List ℕ)
    (closing : T → C → Bool) (held : ℕ) (w0 w1 w2 : Option (List ℕ)) (s0 s1 s2 s3 : T) (c0 c1 c2 c3 : C) (piece rest : List ℕ) (used count : ℕ) (b : Bool) →
    (h : HasAnswered (all held) waiting closing w0 w1 s0 c0 s1 c1 piece used b) → rest ≡ drop used piece →
    GoesOnWith (all held) (all held) s1 c1 s2 c2 (take count rest) → (o : Sends all writes w1 w2 s2 c2 s3 c3) →
    GoesOn (all held) s0 c0 s3 c3 (take (used + count) piece) (h.text ++ o.text)
goes_on all writes waiting closing held w0 w1 w2 s0 s1 s2 s3 c0 c1 c2 c3 piece rest used count b h is gives o = λ first client given came served.
    let after = gives first client (given ++ take used piece) (came ++ h.text) (h.served first client given came served) in
    let wrote = o.goes_on held first client ((given ++ take used piece) ++ take count rest) (came ++ h.text) after in
    subst (λ t. all held first client s3 c3 (given ++ take (used + count) piece) t) (append_assoc came h.text o.text)
    (subst (λ l. all held first client s3 c3 l ((came ++ h.text) ++ o.text))
    (ap (λ r. (given ++ take used piece) ++ take count r) is ∙ joined given used count piece) wrote)

-- more bytes of the piece were given, and all replies to them were written
pub answered_more : {T C : Type 0} → (all : ℕ → T → C → T → C → List ℕ → List ℕ → Type 0) (writes : T → C → T → C → List ℕ → Type 0)
    (waiting : T → C → List ℕ) (closing : T → C → Bool) (held : ℕ) (w0 w1 w2 : Option (List ℕ)) (s0 s1 s2 s3 : T) (c0 c1 c2 c3 : C) (piece rest : List ℕ)
    (used count : ℕ) (b b' : Bool) → (h : HasAnswered (all held) waiting closing w0 w1 s0 c0 s1 c1 piece used b) → rest ≡ drop used piece →
    used + count ≤ length piece → GoesOnWith (all held) (all held) s1 c1 s2 c2 (take count rest) → Sends all writes w1 w2 s2 c2 s3 c3 →
    waiting s3 c3 ≡ [] → (used + count < length piece → closing s3 c3 ≡ false) → b' ≡ closing s3 c3 →
    HasAnswered (all held) waiting closing w0 w2 s0 c0 s3 c3 piece (used + count) b'
answered_more all writes waiting closing held w0 w1 w2 s0 s1 s2 s3 c0 c1 c2 c3 piece rest used count b b' h is within gives o none open_then same = record {
  within = within;
  none_waits = none;
  is_open = open_then;
  same = λ some. same;
  text = h.text ++ o.text;
  appended = appends_more w0 w1 w2 h.text o.text h.appended o.appended;
  served = goes_on all writes waiting closing held w0 w1 w2 s0 s1 s2 s3 c0 c1 c2 c3 piece rest used count b h is gives o;
}

-- what is done if a write stops
by_write : {T C : Type 0} → (A : Type 0) (serves cuts : T → C → List ℕ → List ℕ → Type 0) (halt : Halt) (new : T) (after : C) (bytes text : List ℕ) →
    serves new after bytes text → ServesBy {A = A} serves cuts (Err (write_error halt)) new after bytes text
by_write A serves cuts Failed new after bytes text served = served
by_write A serves cuts NoTurn new after bytes text served = served

-- more bytes of the piece were given, and a write stopped
pub answered_part : {T C : Type 0} → (all cuts : ℕ → T → C → T → C → List ℕ → List ℕ → Type 0) (writes : T → C → T → C → List ℕ → Type 0)
    (waiting : T → C → List ℕ) (closing : T → C → Bool) (held : ℕ) (w0 w1 w2 : Option (List ℕ)) (s0 s1 s2 s3 : T) (c0 c1 c2 c3 : C) (piece rest : List ℕ)
    (used count : ℕ) (b : Bool) (halt : Halt) → HasAnswered (all held) waiting closing w0 w1 s0 c0 s1 c1 piece used b → rest ≡ drop used piece →
    GoesOnWith (all held) (all held) s1 c1 s2 c2 (take count rest) → Sends all writes w1 w2 s2 c2 s3 c3 →
    Answers {A = Bool} (all held) (cuts held) w0 w2 s0 c0 s3 c3 (take (used + count) piece) (Err (write_error halt))
answered_part all cuts writes waiting closing held w0 w1 w2 s0 s1 s2 s3 c0 c1 c2 c3 piece rest used count b halt h is gives o = record {
  text = h.text ++ o.text;
  appended = appends_more w0 w1 w2 h.text o.text h.appended o.appended;
  served = λ first client given came served.
      by_write Bool (all held first client) (cuts held first client) halt s3 c3 (given ++ take (used + count) piece) (came ++ (h.text ++ o.text))
      (goes_on all writes waiting closing held w0 w1 w2 s0 s1 s2 s3 c0 c1 c2 c3 piece rest used count b h is gives o first client given came served);
}

-- the whole piece was given, and all replies to it were written
pub answered_all : {T C : Type 0} → (serves cuts : T → C → T → C → List ℕ → List ℕ → Type 0) (waiting : T → C → List ℕ) (closing : T → C → Bool)
    (w0 w1 : Option (List ℕ)) (s0 s1 : T) (c0 c1 : C) (piece : List ℕ) (used : ℕ) (b : Bool) →
    HasAnswered serves waiting closing w0 w1 s0 c0 s1 c1 piece used b →
    Answers {A = Bool} serves cuts w0 w1 s0 c0 s1 c1 (take used piece) (Ok b)
answered_all serves cuts waiting closing w0 w1 s0 s1 c0 c1 piece used b h = record { text = h.text; appended = h.appended; served = h.served }

-- memory ran out in the piece
pub answered_first : {T C : Type 0} → (serves cuts : T → C → T → C → List ℕ → List ℕ → Type 0) (waiting : T → C → List ℕ) (closing : T → C → Bool)
    (w0 w1 : Option (List ℕ)) (s0 s1 s2 : T) (c0 c1 c2 : C) (piece rest : List ℕ) (used : ℕ) (b : Bool) →
    HasAnswered serves waiting closing w0 w1 s0 c0 s1 c1 piece used b → rest ≡ drop used piece → GoesOnWith serves cuts s1 c1 s2 c2 rest →
    Answers {A = Bool} serves cuts w0 w1 s0 c0 s2 c2 (take (length piece) piece) (Err OutOfMemory)
answered_first serves cuts waiting closing w0 w1 s0 s1 s2 c0 c1 c2 piece rest used b h is gives = record {
  text = h.text;
  appended = h.appended;
  served = λ first client given came served.
      subst (λ l. cuts first client s2 c2 l (came ++ h.text))
      (ap (λ r. (given ++ take used piece) ++ r) is ∙ joined_whole given used piece)
      (gives first client (given ++ take used piece) (came ++ h.text) (h.served first client given came served));
}

-- bytes of the piece were not given, since too many bytes waited
pub answered_overfull : {T C : Type 0} → (all : ℕ → T → C → T → C → List ℕ → List ℕ → Type 0) (takes : T → C → T → C → List ℕ → Type 0)
    (writes : T → C → T → C → List ℕ → Type 0)
    (waiting : T → C → List ℕ) (closing : T → C → Bool) (held : ℕ) (w0 w1 w2 : Option (List ℕ)) (s0 s1 s2 s3 : T) (c0 c1 c2 c3 : C) (piece last : List ℕ)
    (used : ℕ) (b : Bool) → HasAnswered (all held) waiting closing w0 w1 s0 c0 s1 c1 piece used b → takes s1 c1 s2 c2 last →
    held < length (waiting s2 c2) → Sends all writes w1 w2 s2 c2 s3 c3 → 0 < length (waiting s3 c3) →
    StopsOverfull held w0 w2 (GoesOn (all held) s0 c0) takes writes waiting s3 c3
answered_overfull all takes writes waiting closing held w0 w1 w2 s0 s1 s2 s3 c0 c1 c2 c3 piece last used b h taken many o some = record {
  bytes = take used piece;
  text = h.text;
  between = s1;
  client = c1;
  held_between = w1;
  before = h.served;
  none_waits = h.none_waits;
  appended = h.appended;
  last = last;
  given = s2;
  taker = c2;
  taken = taken;
  many = many;
  sent = o.text;
  wrote = o.wrote;
  appended_last = o.appended;
  some = some;
}

-- why a write stops
pub stops_by : (f f' left : ℕ) (halt : Halt) → Halts f f' left halt → StopsAnswering f f' left (write_error halt)
stops_by f f' left Failed why = why
stops_by f f' left NoTurn why = why

pub stays_by : (waits : List ℕ) (closing : Bool) (halt : Halt) → 0 < length waits → StaysAfter waits closing (write_error halt)
stays_by waits closing Failed some = some
stays_by waits closing NoTurn some = some

-- Pieces, one after another.

-- after a write that stopped nothing may be left or be read
leaves_none : (halt : Halt) → MayLeave (Err (write_error halt)) []
leaves_none Failed = tt
leaves_none NoTurn = tt

not_by_read : (halt : Halt) → ends_by_read (Err (write_error halt)) ≡ false
not_by_read Failed = refl
not_by_read NoTurn = refl

-- these pieces were read, and all replies to them were written
pub record HasVisited {W R T C : Type 0} (most : ℕ) (written : W → Option (List ℕ)) (remaining : R → Option (List ℕ)) (calls failures : R → ℕ) (w0 w : W)
    (r0 r : R) (serves : T → C → T → C → List ℕ → List ℕ → Type 0) (writes : T → C → T → C → List ℕ → Type 0) (waiting : T → C → List ℕ)
    (closing : T → C → Bool) (s0 : T) (c0 : C) (s : T) (c : C) : Type 0 where
  pub pieces : List (List ℕ)
  pub text : List ℕ
  pub given : GivesPieces most remaining calls failures r0 r pieces
  pub appended : Appends (written w0) (written w) text
  pub none_waits : waiting s c ≡ []
  pub served : serves s0 c0 s c (concat pieces) text
  pub before_each : (k : ℕ) → k < length pieces → HadServed (serves s0 c0) waiting closing (concat (take k pieces)) text
  pub closed : closing s0 c0 ≡ true → (r ≡ r0) × (closing s c ≡ true) × writes s0 c0 s c text

-- nothing was read yet
pub visited_first : {W R T C : Type 0} → (most : ℕ) (written : W → Option (List ℕ)) (remaining : R → Option (List ℕ)) (calls failures : R → ℕ) (w0 w : W)
    (r : R) (all : ℕ → T → C → T → C → List ℕ → List ℕ → Type 0) (writes : T → C → T → C → List ℕ → Type 0) (waiting : T → C → List ℕ)
    (closing : T → C → Bool) (held : ℕ) (s0 s : T) (c0 c : C) → all held s0 c0 s0 c0 [] [] → Sends all writes (written w0) (written w) s0 c0 s c →
    waiting s c ≡ [] → closing s c ≡ closing s0 c0 →
    HasVisited most written remaining calls failures w0 w r r (all held) writes waiting closing s0 c0 s c
visited_first most written remaining calls failures w0 w r all writes waiting closing held s0 s c0 c nothing o none same = record {
  pieces = [];
  text = o.text;
  given = refl;
  appended = o.appended;
  none_waits = none;
  served = o.goes_on held s0 c0 [] [] nothing;
  before_each = λ k less. absurd (omega (arith, less));
  closed = λ closing. (refl, same ∙ closing, o.wrote);
}

-- the bytes that waited were not all written, and nothing was read
pub visited_none : {W R T C : Type 0} → (most : ℕ) (written : W → Option (List ℕ)) (remaining : R → Option (List ℕ)) (calls failures : R → ℕ) (w0 w : W)
    (r : R) (all cuts : ℕ → T → C → T → C → List ℕ → List ℕ → Type 0) (writes : T → C → T → C → List ℕ → Type 0) (waiting : T → C → List ℕ)
    (closing : T → C → Bool) (held : ℕ) (s0 s : T) (c0 c : C) (halt : Halt) → all held s0 c0 s0 c0 [] [] →
    Sends all writes (written w0) (written w) s0 c0 s c →
    ServesPieces most written remaining calls failures w0 w r r (all held s0 c0) (cuts held s0 c0) waiting closing s c (Err (write_error halt)) []
visited_none most written remaining calls failures w0 w r all cuts writes waiting closing held s0 s c0 c halt nothing o = record {
  pieces = [];
  given = [];
  text = o.text;
  whole = refl;
  may_leave = leaves_none halt;
  read = only_pieces most remaining calls failures r r [] (ends_by_read (Err (write_error halt))) refl (not_by_read halt);
  appended = o.appended;
  served = by_write Served (all held s0 c0) (cuts held s0 c0) halt s c [] o.text (o.goes_on held s0 c0 [] [] nothing);
  before_each = λ k less. absurd (omega (arith, less));
}

-- more was written since
had_more : {T C : Type 0} → (serves : T → C → List ℕ → List ℕ → Type 0) (waiting : T → C → List ℕ) (closing : T → C → Bool) (bytes text more : List ℕ) →
    HadServed serves waiting closing bytes text → HadServed serves waiting closing bytes (text ++ more)
had_more serves waiting closing bytes text more h = record {
  first = h.first;
  later = h.later ++ more;
  written = ap (λ t. t ++ more) h.written ∙ append_assoc h.first h.later more;
  between = h.between;
  client = h.client;
  served = h.served;
  none_waits = h.none_waits;
  is_open = h.is_open;
}

-- all replies to these bytes were written, and then more
had_now : {T C : Type 0} → (serves : T → C → List ℕ → List ℕ → Type 0) (waiting : T → C → List ℕ) (closing : T → C → Bool) (bytes text more : List ℕ)
    (s : T) (c : C) → serves s c bytes text → waiting s c ≡ [] → closing s c ≡ false → HadServed serves waiting closing bytes (text ++ more)
had_now serves waiting closing bytes text more s c served none is_open = record {
  first = text;
  later = more;
  written = refl;
  between = s;
  client = c;
  served = served;
  none_waits = none;
  is_open = is_open;
}

piece_more : (pieces : List (List ℕ)) (piece : List ℕ) → concat pieces ++ piece ≡ concat (pieces ++ piece ∷ [])
piece_more pieces piece = sym (concat_more pieces piece)

-- all replies to a piece were written before the next one was read
each_more : {T C : Type 0} → (serves : T → C → List ℕ → List ℕ → Type 0) (waiting : T → C → List ℕ) (closing : T → C → Bool) (pieces : List (List ℕ))
    (piece text more : List ℕ) (s : T) (c : C) → ((k : ℕ) → k < length pieces → HadServed serves waiting closing (concat (take k pieces)) text) →
    serves s c (concat pieces) text → waiting s c ≡ [] → closing s c ≡ false → (k : ℕ) → k < length (pieces ++ piece ∷ []) →
    HadServed serves waiting closing (concat (take k (pieces ++ piece ∷ []))) (text ++ more)
each_more serves waiting closing pieces piece text more s c each served none is_open =
    before_more (λ ps. HadServed serves waiting closing (concat ps) (text ++ more)) pieces piece
    (λ k less. had_more serves waiting closing (concat (take k pieces)) text more (each k less))
    (had_now serves waiting closing (concat pieces) text more s c served none is_open)

-- one more piece was read, and all replies to it were written
pub visited_more : {W R T C : Type 0} → (most : ℕ) (written : W → Option (List ℕ)) (remaining : R → Option (List ℕ)) (calls failures : R → ℕ) (w0 w1 w2 : W)
    (r0 r1 r2 : R) (serves cuts : T → C → T → C → List ℕ → List ℕ → Type 0) (writes : T → C → T → C → List ℕ → Type 0) (waiting : T → C → List ℕ)
    (closing : T → C → Bool) (s0 s1 s2 : T) (c0 c1 c2 : C) (piece : List ℕ) (b : Bool) →
    (h : HasVisited most written remaining calls failures w0 w1 r0 r1 serves writes waiting closing s0 c0 s1 c1) → closing s1 c1 ≡ false →
    GivesPieces most remaining calls failures r0 r2 (h.pieces ++ piece ∷ []) →
    Answers {A = Bool} serves cuts (written w1) (written w2) s1 c1 s2 c2 piece (Ok b) → waiting s2 c2 ≡ [] →
    HasVisited most written remaining calls failures w0 w2 r0 r2 serves writes waiting closing s0 c0 s2 c2
visited_more most written remaining calls failures w0 w1 w2 r0 r1 r2 serves cuts writes waiting closing s0 s1 s2 c0 c1 c2 piece b h is_open given a none =
    record {
      pieces = h.pieces ++ piece ∷ [];
      text = h.text ++ a.text;
      given = given;
      appended = appends_more (written w0) (written w1) (written w2) h.text a.text h.appended a.appended;
      none_waits = none;
      served = subst (λ l. serves s0 c0 s2 c2 l (h.text ++ a.text)) (piece_more h.pieces piece) (a.served s0 c0 (concat h.pieces) h.text h.served);
      before_each = each_more (serves s0 c0) waiting closing h.pieces piece h.text a.text s1 c1 h.before_each h.served h.none_waits is_open;
      closed = λ closed. absurd (false≢true (sym is_open ∙ (h.closed closed).1));
    }

-- an answer stops when out of memory, and if a write stops
not_of_reader : (f f' left : ℕ) (e : ServeError) → StopsAnswering f f' left e → ends_by_read (Err e) ≡ false
not_of_reader f f' left NoSession why = absurd why
not_of_reader f f' left OutOfMemory why = refl
not_of_reader f f' left Read why = absurd why
not_of_reader f f' left Write why = refl
not_of_reader f f' left TooManyTurns why = refl

-- when out of memory nothing is left
may_leave : (f f' left : ℕ) (e : ServeError) (rest : List ℕ) → StopsAnswering f f' left e → (e ≡ OutOfMemory → rest ≡ []) → MayLeave (Err e) rest
may_leave f f' left NoSession rest why memory = absurd why
may_leave f f' left OutOfMemory rest why memory = memory refl
may_leave f f' left Read rest why memory = absurd why
may_leave f f' left Write rest why memory = tt
may_leave f f' left TooManyTurns rest why memory = tt

-- what is done, whatever the result would be
by_same : {T C : Type 0} → (A B : Type 0) (serves cuts : T → C → List ℕ → List ℕ → Type 0) (e : ServeError) (s : T) (c : C) (bytes text : List ℕ) →
    ServesBy {A = A} serves cuts (Err e) s c bytes text → ServesBy {A = B} serves cuts (Err e) s c bytes text
by_same A B serves cuts NoSession s c bytes text served = served
by_same A B serves cuts Read s c bytes text served = served
by_same A B serves cuts Write s c bytes text served = served
by_same A B serves cuts TooManyTurns s c bytes text served = served
by_same A B serves cuts OutOfMemory s c bytes text served = served

-- the last piece was answered in part, or memory ran out in it
pub visited_part : {W R T C : Type 0} → (most : ℕ) (written : W → Option (List ℕ)) (remaining : R → Option (List ℕ)) (calls failures : R → ℕ) (w0 w1 w2 : W)
    (r0 r1 r2 : R) (serves cuts : T → C → T → C → List ℕ → List ℕ → Type 0) (writes : T → C → T → C → List ℕ → Type 0) (waiting : T → C → List ℕ)
    (closing : T → C → Bool) (s0 s1 s2 : T) (c0 c1 c2 : C) (piece rest : List ℕ) (used f f' left : ℕ) (e : ServeError) →
    (h : HasVisited most written remaining calls failures w0 w1 r0 r1 serves writes waiting closing s0 c0 s1 c1) → closing s1 c1 ≡ false →
    GivesPieces most remaining calls failures r0 r2 (h.pieces ++ piece ∷ []) → StopsAnswering f f' left e → (e ≡ OutOfMemory → rest ≡ []) →
    Answers {A = Bool} serves cuts (written w1) (written w2) s1 c1 s2 c2 (take used piece) (Err e) → rest ≡ drop used piece →
    ServesPieces most written remaining calls failures w0 w2 r0 r2 (serves s0 c0) (cuts s0 c0) waiting closing s2 c2 (Err e) rest
visited_part most written remaining calls failures w0 w1 w2 r0 r1 r2 serves cuts writes waiting closing s0 s1 s2 c0 c1 c2 piece rest used f f' left e h is_open
    given why memory a is = record {
      pieces = h.pieces ++ piece ∷ [];
      given = concat h.pieces ++ take used piece;
      text = h.text ++ a.text;
      whole = concat_more h.pieces piece ∙ ap (λ b. concat h.pieces ++ b) (sym (take-append-drop used piece)) ∙
          sym (append_assoc (concat h.pieces) (take used piece) (drop used piece)) ∙ ap (λ b. (concat h.pieces ++ take used piece) ++ b) (sym is);
      may_leave = may_leave f f' left e rest why memory;
      read = only_pieces most remaining calls failures r0 r2 (h.pieces ++ piece ∷ []) (ends_by_read (Err e)) given (not_of_reader f f' left e why);
      appended = appends_more (written w0) (written w1) (written w2) h.text a.text h.appended a.appended;
      served = by_same Bool Served (serves s0 c0) (cuts s0 c0) e s2 c2 (concat h.pieces ++ take used piece) (h.text ++ a.text)
          (a.served s0 c0 (concat h.pieces) h.text h.served);
      before_each = each_more (serves s0 c0) waiting closing h.pieces piece h.text a.text s1 c1 h.before_each h.served h.none_waits is_open;
    }

-- after a visit that has ended no byte is left
pub ended_visit : {W R T C : Type 0} {most : ℕ} {written : W → Option (List ℕ)} {remaining : R → Option (List ℕ)} {calls failures : R → ℕ} {w0 w : W}
    {r0 r : R} {serves cuts : T → C → List ℕ → List ℕ → Type 0} {waiting : T → C → List ℕ} {closing : T → C → Bool} {s : T} {c : C}
    {end : Result Served ServeError} {visit : Visit} (bytes : List ℕ) → visit ≡ record { end = end; rest = record { start = 0; end = 0 } } →
    ServesPieces most written remaining calls failures w0 w r0 r serves cuts waiting closing s c end [] →
    ServesPieces most written remaining calls failures w0 w r0 r serves cuts waiting closing s c visit.end (rest_in visit bytes)
ended_visit {most = most} {written = written} {remaining = remaining} {calls = calls} {failures = failures} {w0 = w0} {w = w} {r0 = r0} {r = r}
    {serves = serves} {cuts = cuts} {waiting = waiting} {closing = closing} {s = s} {c = c} bytes is served =
    subst (λ (v : Visit). ServesPieces most written remaining calls failures w0 w r0 r serves cuts waiting closing s c v.end (rest_in v bytes)) (sym is) served

-- no further piece was read
pub visited_all : {W R T C : Type 0} → (most : ℕ) (written : W → Option (List ℕ)) (remaining : R → Option (List ℕ)) (calls failures : R → ℕ) (w0 w : W)
    (r0 r1 r2 : R) (serves cuts : T → C → T → C → List ℕ → List ℕ → Type 0) (writes : T → C → T → C → List ℕ → Type 0) (waiting : T → C → List ℕ)
    (closing : T → C → Bool) (s0 s : T) (c0 c : C) (end : Served) →
    HasVisited most written remaining calls failures w0 w r0 r1 serves writes waiting closing s0 c0 s c →
    ReadsNothing remaining calls r1 r2 (ends_by_read (Ok end)) →
    ServesPieces most written remaining calls failures w0 w r0 r2 (serves s0 c0) (cuts s0 c0) waiting closing s c (Ok end) []
visited_all most written remaining calls failures w0 w r0 r1 r2 serves cuts writes waiting closing s0 s c0 c end h over = record {
  pieces = h.pieces;
  given = concat h.pieces;
  text = h.text;
  whole = sym (append-nil (concat h.pieces));
  may_leave = refl;
  read = record { between = r1; given = h.given; over = over };
  appended = h.appended;
  served = h.served;
  before_each = h.before_each;
}

-- whether a read failed that stopped
by_halt : (halt : Halt) → ends_by_read (Err (read_error halt)) ≡ has_failed halt
by_halt Failed = refl
by_halt NoTurn = refl

leaves_unread : (halt : Halt) → MayLeave (Err (read_error halt)) []
leaves_unread Failed = refl
leaves_unread NoTurn = tt

by_read : {T C : Type 0} → (serves cuts : T → C → List ℕ → List ℕ → Type 0) (halt : Halt) (new : T) (after : C) (bytes text : List ℕ) →
    serves new after bytes text → ServesBy {A = Served} serves cuts (Err (read_error halt)) new after bytes text
by_read serves cuts Failed new after bytes text served = served
by_read serves cuts NoTurn new after bytes text served = served

-- a read stopped
pub visited_unread : {W R T C : Type 0} → (most : ℕ) (written : W → Option (List ℕ)) (remaining : R → Option (List ℕ)) (calls failures : R → ℕ) (w0 w : W)
    (r0 r1 r2 : R) (serves cuts : T → C → T → C → List ℕ → List ℕ → Type 0) (writes : T → C → T → C → List ℕ → Type 0) (waiting : T → C → List ℕ)
    (closing : T → C → Bool) (s0 s : T) (c0 c : C) (halt : Halt) →
    HasVisited most written remaining calls failures w0 w r0 r1 serves writes waiting closing s0 c0 s c →
    ReadsNothing remaining calls r1 r2 (has_failed halt) →
    ServesPieces most written remaining calls failures w0 w r0 r2 (serves s0 c0) (cuts s0 c0) waiting closing s c (Err (read_error halt)) []
visited_unread most written remaining calls failures w0 w r0 r1 r2 serves cuts writes waiting closing s0 s c0 c halt h over = record {
  pieces = h.pieces;
  given = concat h.pieces;
  text = h.text;
  whole = sym (append-nil (concat h.pieces));
  may_leave = leaves_unread halt;
  read = record { between = r1; given = h.given; over = subst (ReadsNothing remaining calls r1 r2) (sym (by_halt halt)) over };
  appended = h.appended;
  served = by_read (serves s0 c0) (cuts s0 c0) halt s c (concat h.pieces) h.text h.served;
  before_each = h.before_each;
}

-- bytes of the buffer that were not given
pub rest_taken : (used n : ℕ) (xs : List ℕ) → used ≤ n → take (n - used) (drop used xs) ≡ drop used (take n xs)
rest_taken used n xs within =
    let all : used + (n - used) ≡ n = omega arith in
    sym (drop-take used (n - used) xs) ∙ ap (λ k. drop used (take k xs)) all

-- bytes of a piece were left after other pieces
pub stops_overfull : {W R T C : Type 0} → (most : ℕ) (written : W → Option (List ℕ)) (remaining : R → Option (List ℕ)) (calls failures : R → ℕ) (w0 w1 w2 : W)
    (r0 r1 : R) (serves : T → C → T → C → List ℕ → List ℕ → Type 0) (takes writes : T → C → T → C → List ℕ → Type 0) (waiting : T → C → List ℕ)
    (closing : T → C → Bool) (held : ℕ) (s0 s1 s2 : T) (c0 c1 c2 : C) →
    HasVisited most written remaining calls failures w0 w1 r0 r1 serves writes waiting closing s0 c0 s1 c1 →
    StopsOverfull held (written w1) (written w2) (GoesOn serves s1 c1) takes writes waiting s2 c2 →
    StopsOverfull held (written w0) (written w2) (serves s0 c0) takes writes waiting s2 c2
stops_overfull most written remaining calls failures w0 w1 w2 r0 r1 serves takes writes waiting closing held s0 s1 s2 c0 c1 c2 h o = record {
  bytes = concat h.pieces ++ o.bytes;
  text = h.text ++ o.text;
  between = o.between;
  client = o.client;
  held_between = o.held_between;
  before = o.before s0 c0 (concat h.pieces) h.text h.served;
  none_waits = o.none_waits;
  appended = appends_more (written w0) (written w1) o.held_between h.text o.text h.appended o.appended;
  last = o.last;
  given = o.given;
  taker = o.taker;
  taken = o.taken;
  many = o.many;
  sent = o.sent;
  wrote = o.wrote;
  appended_last = o.appended_last;
  some = o.some;
}

-- Ends.

-- the state after a write that stopped
pub ends_write : (left left' : Option (List ℕ)) (waits : List ℕ) (closing : Bool) (halt : Halt) → 0 < length waits →
    EndsVisit left left' waits closing (Err (write_error halt))
ends_write left left' waits closing Failed some = some
ends_write left left' waits closing NoTurn some = inl some

-- the state after a read that stopped
pub ends_read : (left left' : Option (List ℕ)) (waits : List ℕ) (closing : Bool) (halt : Halt) → waits ≡ [] → closing ≡ false →
    EndsVisit left left' waits closing (Err (read_error halt))
ends_read left left' waits closing Failed none is_open = (is_open, none)
ends_read left left' waits closing NoTurn none is_open = inr is_open

-- the state after an answer that stopped
pub ends_answer : (left left' : Option (List ℕ)) (waits : List ℕ) (closing : Bool) (f f' turns : ℕ) (e : ServeError) → StopsAnswering f f' turns e →
    StaysAfter waits closing e → EndsVisit left left' waits closing (Err e)
ends_answer left left' waits closing f f' turns NoSession why stays = absurd why
ends_answer left left' waits closing f f' turns OutOfMemory why stays = stays
ends_answer left left' waits closing f f' turns Read why stays = absurd why
ends_answer left left' waits closing f f' turns Write why stays = stays
ends_answer left left' waits closing f f' turns TooManyTurns why stays = inl stays

-- why each call failed
pub fails_write : (has : Bool) (w w' r r' left : ℕ) (halt : Halt) → Halts w w' left halt → FailsVisit has w w' r r' (write_error halt)
fails_write has w w' r r' left Failed why = why
fails_write has w w' r r' left NoTurn why = tt

pub fails_read : (has : Bool) (w w' r r' left : ℕ) (halt : Halt) → Halts r r' left halt → FailsVisit has w w' r r' (read_error halt)
fails_read has w w' r r' left Failed why = why
fails_read has w w' r r' left NoTurn why = tt

pub fails_answer : (has : Bool) (w w' r r' left : ℕ) (e : ServeError) → StopsAnswering w w' left e → FailsVisit has w w' r r' e
fails_answer has w w' r r' left NoSession why = absurd why
fails_answer has w w' r r' left OutOfMemory why = tt
fails_answer has w w' r r' left Read why = absurd why
fails_answer has w w' r r' left Write why = why
fails_answer has w w' r r' left TooManyTurns why = tt

-- memory is out only after an answer, and the turns are up only if none is left
pub write_memory : (end : Result Served ServeError) (halt : Halt) → end ≡ Err (write_error halt) → end ≡ Err OutOfMemory → ⊥
write_memory end Failed is out = absurd (let z = sym is ∙ out in cc)
write_memory end NoTurn is out = absurd (let z = sym is ∙ out in cc)

pub write_turns : (f f' left : ℕ) (halt : Halt) → Halts f f' left halt → write_error halt ≡ TooManyTurns → left ≡ 0
write_turns f f' left Failed why is = absurd (cc)
write_turns f f' left NoTurn why is = why

pub read_turns : (f f' left : ℕ) (halt : Halt) → Halts f f' left halt → read_error halt ≡ TooManyTurns → left ≡ 0
read_turns f f' left Failed why is = absurd (cc)
read_turns f f' left NoTurn why is = why

pub answer_turns : (f f' left : ℕ) (e : ServeError) → StopsAnswering f f' left e → e ≡ TooManyTurns → left ≡ 0
answer_turns f f' left e why is = subst (StopsAnswering f f' left) is why

-- the error of a result
pub same_error : (end : Result Served ServeError) (e e' : ServeError) → end ≡ Err e → end ≡ Err e' → e ≡ e'
same_error end e e' is other = cc

-- how many calls stopped because of the writer or the reader
pub write_stops : (halt : Halt) → stopped_by {T = Served} is_of_writer (Err (write_error halt)) ≡ has_failed halt
write_stops Failed = refl
write_stops NoTurn = refl

-- the server does not have the client
pub visited_nobody : {W R T C : Type 0} → (most : ℕ) (written : W → Option (List ℕ)) (remaining : R → Option (List ℕ)) (calls failures : R → ℕ) (w : W)
    (r : R) (all cuts : ℕ → T → C → T → C → List ℕ → List ℕ → Type 0) (waiting : T → C → List ℕ) (closing : T → C → Bool) (held : ℕ) (s : T) (c : C) →
    all held s c s c [] [] →
    ServesPieces most written remaining calls failures w w r r (all held s c) (cuts held s c) waiting closing s c (Err NoSession) []
visited_nobody most written remaining calls failures w r all cuts waiting closing held s c nothing = record {
  pieces = [];
  given = [];
  text = [];
  whole = refl;
  may_leave = refl;
  read = only_pieces most remaining calls failures r r [] false refl refl;
  appended = appends_nothing (written w);
  served = nothing;
  before_each = λ k less. absurd (omega (arith, less));
}

-- a visit that has ended with this error
pub ended_by : (visit : Visit) (e e' : ServeError) → visit ≡ record { end = Err e; rest = record { start = 0; end = 0 } } → e ≡ e' →
    visit ≡ record { end = Err e'; rest = record { start = 0; end = 0 } }
ended_by visit e e' is same = is ∙ ap (λ x. record { end = Err x; rest = record { start = 0; end = 0 } }) same
