-- The requests of the program's operations, in the terms of commands.
use Rattle.std.specs.Prelude.{ℕ, List, Option, None, Some}
use Rattle.resp_session.specs.Operations as spec
use Rattle.resp_server.specs.Refusals.{refusal_text}
use Rattle.resp_server.specs.Words.{words_left}
use Rattle.resp_server.specs.declared.operation.Condition.{Condition}
use Rattle.resp_server.specs.declared.operation.Condition.TheVariants.{Always, IfAbsent, IfPresent}
use Rattle.resp_server.specs.declared.operation.Operation.{Operation}
use Rattle.resp_server.specs.declared.operation.Operation.TheVariants as operation

abbrev pub condition_in : Condition → spec.Condition
condition_in Always = spec.Always
condition_in IfAbsent = spec.IfAbsent
condition_in IfPresent = spec.IfPresent

-- the request of a SET of this key and value under the condition that its option asks for, if the option is known
abbrev pub conditional_by : Option Condition → List ℕ → List ℕ → spec.Operation
conditional_by (Some condition) key value = spec.Set (condition_in condition) key value
conditional_by None key value = spec.syntax_error

-- the request of an operation
abbrev pub operation_in : Operation → spec.Operation
operation_in operation.Ping = spec.Ping
operation_in (operation.Echo word) = spec.Echo word.now
operation_in (operation.Get key) = spec.Get key.now
operation_in (operation.Set condition key value) = spec.Set (condition_in condition) key.now value.now
operation_in (operation.Del keys) = spec.Del (words_left keys)
operation_in (operation.Hello asked) = spec.Hello asked
operation_in (operation.Refused refusal) = spec.Refused (refusal_text refusal)
