-- A visit of a client: the bytes that are read, given to a server and written. A server is described by what it says of
-- a client in a state of the server and of the client.
use Rattle.std.specs.Prelude.{◌≡◌, ◌⊎◌, ℕ, ◌-◌, ◌<◌, ◌≤◌, ◌^◌, Bool, true, false, List, [], ◌++◌, length, take, drop, Option, Result, Ok, Err}
use Rattle.std.specs.List.{concat}
use Rattle.resp_io.specs.Devices.{Appends, HasRisen}
use Rattle.resp_io.specs.Pieces.{ReadsPieces}
use Rattle.resp_io.specs.Turns.{TellsEnd}
use Rattle.resp_io.specs.declared.halt.Halt.{Halt}
use Rattle.resp_io.specs.declared.halt.Halt.TheVariants.{Failed, NoTurn}
use Rattle.resp_wire.specs.declared.error.ServeError.{ServeError}
use Rattle.resp_wire.specs.declared.error.ServeError.TheVariants.{NoSession, OutOfMemory, Read, Write, TooManyTurns}
use Rattle.resp_wire.specs.declared.serve.Served.{Served}
use Rattle.resp_wire.specs.declared.serve.Served.TheVariants.{Ended, Closed}
use Rattle.resp_wire.specs.declared.serve.Visit.{Visit}

-- How much of a piece of this size a server uses: less than the whole only if more than `held` bytes wait of an open
-- client.
pub record UsesWithin (held waits : ℕ) (closing : Bool) (size used : ℕ) : Type 0 where
  pub within : used ≤ size
  pub stops : used < size → (closing ≡ false) × (held < waits) × (waits < 2 ^ 64)
  pub onward : 0 < size → 0 < used

-- What a client was given since any earlier state, it was given until now, and these bytes after it.
abbrev pub GoesOnWith : {T C : Type 0} → (T → C → T → C → List ℕ → List ℕ → Type 0) → (T → C → T → C → List ℕ → List ℕ → Type 0) →
    T → C → T → C → List ℕ → Type 0
GoesOnWith {T} {C} serves then old before new after bytes = (first : T) (client : C) (given text : List ℕ) →
    serves first client old before given text → then first client new after (given ++ bytes) text

-- This text was written. What was written to the client since any earlier state was written until now, and this text
-- after it.
pub record Sends {T C : Type 0} (serves : ℕ → T → C → T → C → List ℕ → List ℕ → Type 0) (writes : T → C → T → C → List ℕ → Type 0)
    (held held' : Option (List ℕ)) (old : T) (before : C) (new : T) (after : C) : Type 0 where
  pub text : List ℕ
  pub appended : Appends held held' text
  pub wrote : writes old before new after text
  pub goes_on : (most : ℕ) (first : T) (client : C) (given came : List ℕ) → serves most first client old before given came →
      serves most first client new after given (came ++ text)

-- whether the error is a failed read
abbrev pub is_of_reader : ServeError → Bool
is_of_reader Read = true
is_of_reader _ = false

-- whether the error is a failed write
abbrev pub is_of_writer : ServeError → Bool
is_of_writer Write = true
is_of_writer _ = false

-- whether the last read returned nothing
abbrev pub ends_by_read : Result Served ServeError → Bool
ends_by_read (Ok Ended) = true
ends_by_read (Ok Closed) = false
ends_by_read (Err error) = is_of_reader error

-- the bytes of the buffer that were read and not given to the server
abbrev pub rest_in : Visit → List ℕ → List ℕ
rest_in visit bytes = take (visit.rest.end - visit.rest.start) (drop visit.rest.start bytes)

-- bytes may be left only after a failed write, and if no turn is left
abbrev pub MayLeave : Result Served ServeError → List ℕ → Type 0
MayLeave (Err Write) rest = Unit {0}
MayLeave (Err TooManyTurns) rest = Unit {0}
MayLeave _ rest = rest ≡ []

-- the error of a call of which a read moved no byte
abbrev pub read_error : Halt → ServeError
read_error Failed = Read
read_error NoTurn = TooManyTurns

-- the error of a call of which a write stopped
abbrev pub write_error : Halt → ServeError
write_error Failed = Write
write_error NoTurn = TooManyTurns

-- what was done with the bytes that were given to the server: all of them, or the first of them when out of memory
abbrev pub ServesBy : {T C A : Type 0} → (T → C → List ℕ → List ℕ → Type 0) → (T → C → List ℕ → List ℕ → Type 0) →
    Result A ServeError → T → C → List ℕ → List ℕ → Type 0
ServesBy serves cuts (Err OutOfMemory) new after bytes text = cuts new after bytes text
ServesBy serves cuts _ new after bytes text = serves new after bytes text

-- By then all replies to these bytes were written, and the client was open.
pub record HadServed {T C : Type 0} (serves : T → C → List ℕ → List ℕ → Type 0) (waiting : T → C → List ℕ)
    (closing : T → C → Bool) (bytes text : List ℕ) : Type 0 where
  pub first : List ℕ
  pub later : List ℕ
  pub written : text ≡ first ++ later
  pub between : T
  pub client : C
  pub served : serves between client bytes first
  pub none_waits : waiting between client ≡ []
  pub is_open : closing between client ≡ false

-- The bytes received are pieces of at most `most` bytes, each from one read, and the server was given all of them but
-- the rest. Before each read, all replies to the bytes received before were written.
pub record ServesPieces {W R T C : Type 0} (most : ℕ) (written : W → Option (List ℕ)) (remaining : R → Option (List ℕ))
    (calls failures : R → ℕ) (writer writer' : W) (reader reader' : R) (serves cuts : T → C → List ℕ → List ℕ → Type 0)
    (waiting : T → C → List ℕ) (closing : T → C → Bool) (new : T) (after : C) (end : Result Served ServeError)
    (rest : List ℕ) : Type 0 where
  pub pieces : List (List ℕ)
  pub given : List ℕ
  pub text : List ℕ
  pub whole : concat pieces ≡ given ++ rest
  pub may_leave : MayLeave end rest
  pub read : ReadsPieces most remaining calls failures reader reader' pieces (ends_by_read end)
  pub appended : Appends (written writer) (written writer') text
  pub served : ServesBy serves cuts end new after given text
  pub before_each : (k : ℕ) → k < length pieces → HadServed serves waiting closing (concat (take k pieces)) text

-- The state at each end. After `Write` bytes wait that could not be written. If no turn is left, a write or a read
-- needed one.
abbrev pub EndsVisit : Option (List ℕ) → Option (List ℕ) → List ℕ → Bool → Result Served ServeError → Type 0
EndsVisit left left' waits closing (Ok Ended) = TellsEnd left left' × (closing ≡ false) × (waits ≡ [])
EndsVisit left left' waits closing (Ok Closed) = (closing ≡ true) × (waits ≡ [])
EndsVisit left left' waits closing (Err Read) = (closing ≡ false) × (waits ≡ [])
EndsVisit left left' waits closing (Err Write) = 0 < length waits
EndsVisit left left' waits closing (Err TooManyTurns) = (0 < length waits) ⊎ (closing ≡ false)
EndsVisit left left' waits closing (Err OutOfMemory) = closing ≡ true
EndsVisit left left' waits closing (Err NoSession) = Unit {0}

-- the client was closing: this text, the first of the bytes that waited, was written, and memory did not run out
pub record WritesClosing {T C : Type 0} (writes : T → C → T → C → List ℕ → Type 0) (held held' : Option (List ℕ)) (old : T)
    (before : C) (new : T) (after : C) (end : Result Served ServeError) : Type 0 where
  pub text : List ℕ
  pub appended : Appends held held' text
  pub wrote : writes old before new after text
  pub no_memory : end ≡ Err OutOfMemory → ⊥

-- After bytes of which all replies were written, the client was given more bytes, and then more than `most` bytes
-- waited. A write stopped that left some of them.
pub record StopsOverfull {T C : Type 0} (most : ℕ) (held held' : Option (List ℕ)) (served : T → C → List ℕ → List ℕ → Type 0)
    (takes writes : T → C → T → C → List ℕ → Type 0) (waiting : T → C → List ℕ) (new : T) (after : C) : Type 0 where
  pub bytes : List ℕ
  pub text : List ℕ
  pub between : T
  pub client : C
  pub held_between : Option (List ℕ)
  pub before : served between client bytes text
  pub none_waits : waiting between client ≡ []
  pub appended : Appends held held_between text
  pub last : List ℕ
  pub given : T
  pub taker : C
  pub taken : takes between client given taker last
  pub many : most < length (waiting given taker)
  pub sent : List ℕ
  pub wrote : writes given taker new after sent
  pub appended_last : Appends held_between held' sent
  pub some : 0 < length (waiting new after)

-- each error says: the server does not have the client, or the device's count of failures has risen
abbrev pub FailsVisit : Bool → ℕ → ℕ → ℕ → ℕ → ServeError → Type 0
FailsVisit has writes writes' reads reads' NoSession = has ≡ false
FailsVisit has writes writes' reads reads' Read = HasRisen reads reads'
FailsVisit has writes writes' reads reads' Write = HasRisen writes writes'
FailsVisit has writes writes' reads reads' _ = Unit {0}

-- After other bytes, the server was given these, and this text was written.
pub record Answers {T C A : Type 0} (serves cuts : T → C → T → C → List ℕ → List ℕ → Type 0) (held held' : Option (List ℕ)) (old : T)
    (before : C) (new : T) (after : C) (given : List ℕ) (end : Result A ServeError) : Type 0 where
  pub text : List ℕ
  pub appended : Appends held held' text
  pub served : (first : T) (client : C) (bytes came : List ℕ) → serves first client old before bytes came →
      ServesBy (serves first client) (cuts first client) end new after (bytes ++ given) (came ++ text)

-- After other bytes, the client was given these, and this text was written.
abbrev pub GoesOn : {T C : Type 0} → (T → C → T → C → List ℕ → List ℕ → Type 0) → T → C → T → C → List ℕ → List ℕ → Type 0
GoesOn {T} {C} serves old before new after bytes text = (first : T) (client : C) (given came : List ℕ) →
    serves first client old before given came → serves first client new after (given ++ bytes) (came ++ text)

-- after this error of an answer the client is closing, or bytes wait
abbrev pub StaysAfter : List ℕ → Bool → ServeError → Type 0
StaysAfter waits closing OutOfMemory = closing ≡ true
StaysAfter waits closing _ = 0 < length waits

-- why a write stops, with this many turns left
abbrev pub StopsWriting : ℕ → ℕ → ℕ → ServeError → Type 0
StopsWriting failures failures' left Write = HasRisen failures failures'
StopsWriting failures failures' left TooManyTurns = left ≡ 0
StopsWriting failures failures' left _ = ⊥

-- why answering stops: memory was out, or a write stopped
abbrev pub StopsAnswering : ℕ → ℕ → ℕ → ServeError → Type 0
StopsAnswering failures failures' left OutOfMemory = Unit {0}
StopsAnswering failures failures' left error = StopsWriting failures failures' left error
