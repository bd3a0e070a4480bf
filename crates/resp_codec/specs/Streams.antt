-- The items of a complete stream, and reading a value that was written.
use Rattle.std.specs.Prelude.{◌≡◌, ◌⊎◌, ℕ, List, [], ◌∷◌, ◌++◌, Result, Ok, Err}
use Rattle.resp_value.specs.Data.{Datum}
use Rattle.resp_value.specs.Rules.{Rules}
use Rattle.resp_value.specs.Spellings.{IsSpelling}
use Rattle.resp_value.specs.Values.{datum_of}
use Rattle.resp_value.specs.declared.value.Value.{Value}
use Rattle.resp_value.specs.declared.cause.Cause.TheVariants as cause
use Rattle.resp_scan.specs.declared.event.Fault.{Fault}
use Rattle.resp_decode.specs.Decoding.{LacksMemory, RefusesByte}
use Rattle.resp_decode.specs.Inputs.{EndsInside}
use Rattle.resp_session.specs.declared.words.Requested.{Requested}
use Rattle.tokio_util.specs.Codec.Next.{Next, decoded, partial, at_end}
use Rattle.tokio_util.specs.Codec.Whole.{ReadsAll}
use Rattle.resp_codec.specs.Commands as commands
use Rattle.resp_codec.specs.Commands.{Asks, gives_commands, reads_by}
use Rattle.resp_codec.specs.Values.{HasTaken, Holds, encodes_values, gives_values, rules_of}
use Rattle.resp_codec.specs.declared.command_codec.CommandCodec.{CommandCodec}
use Rattle.resp_codec.specs.declared.error.CodecError.{CodecError}
use Rattle.resp_codec.specs.declared.error.CodecError.TheVariants as error
use Rattle.resp_codec.specs.declared.value_codec.RespCodec.{RespCodec}

-- the rest of an input has a fault in the value that it begins: within its first bytes, or at its end
abbrev pub IsRestRefused : Rules → List ℕ → Fault → Type 0
IsRestRefused r rest fault =
    ((seen : List ℕ) × (beyond : List ℕ) × (rest ≡ seen ++ beyond) ×
    (RefusesByte r [] seen fault ⊎ LacksMemory r [] seen fault)) ⊎ EndsInside r rest fault

-- the items represent the values encoded in the input, in order, up to its end or the error of its first fault
abbrev pub IsReadAs : {T : Type 0} → (T → Datum → Type 0) → Rules → List ℕ → List (Result T CodecError) → Type 0
IsReadAs Is r input [] = input ≡ []
IsReadAs Is r input (Ok item ∷ items) = (x : Datum) × (front : List ℕ) × (rest : List ℕ) × Is item x ×
    IsSpelling r x front × IsReadAs Is r rest items × (input ≡ front ++ rest)
IsReadAs Is r input (Err e ∷ items) = (fault : Fault) × (e ≡ error.Fault fault) × IsRestRefused r input fault

-- a complete input is read as the values encoded in it
abbrev pub AStreamIsItsValues : Type 0
AStreamIsItsValues = (c : RespCodec) (input : List ℕ) (items : List (Result Value CodecError)) → HasTaken c [] →
    ReadsAll gives_values c input items → IsReadAs Holds (rules_of c) input items

-- a complete input is read as the requests of the values encoded in it
abbrev pub AStreamIsItsCommands : Type 0
AStreamIsItsCommands = (c : CommandCodec) (input : List ℕ) (items : List (Result Requested CodecError)) →
    commands.HasTaken c [] → ReadsAll gives_commands c input items → IsReadAs Asks (reads_by c) input items

-- this value is returned, with exactly the bytes of its frame used, or an allocation fails
abbrev pub ComesBack : Datum → List ℕ → Next RespCodec Value CodecError → Type 0
ComesBack x more (decoded (Ok read) t left) = (datum_of read ≡ x) × (left ≡ more)
ComesBack x more (decoded (Err e) t left) =
    (fault : Fault) × (e ≡ error.Fault fault) × (fault.cause ≡ cause.OutOfMemory)
ComesBack x more partial = ⊥
ComesBack x more (at_end answer t left) = ⊥

-- reading the frame of a value with the same rules returns this value, whatever bytes follow
abbrev pub WhatIsWrittenComesBack : Type 0
WhatIsWrittenComesBack = (c d : RespCodec) (value : Value) (frame more : List ℕ)
    (next : Next RespCodec Value CodecError) → encodes_values c value frame c → HasTaken d [] →
    rules_of d ≡ rules_of c → gives_values d (frame ++ more) next → ComesBack (datum_of value) more next
