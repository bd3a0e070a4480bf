-- What a command asks is within the limits, where its words are.
use Rattle.std.proofs.Common.{ℕ, ◌≤◌, Bool, true, false, cond, List, [], ◌∷◌, length, codes, refl, arith}
use Rattle.std.specs.List.{AllByRecursion}
use Rattle.std.specs.Str.{bytes_eq}
use Rattle.resp_value.specs.Bounds.{Bounds}
use Rattle.resp_session.specs.Fitting.{FitsBulk}
use Rattle.resp_session.specs.Operations.{Operation, Ping, Echo, Get, Set, Del, Hello, Refused, is_name, ping_operation, echo_operation, get_operation, set_operation, conditional_operation, del_operation, version_operation, hello_operation, operation_of}
use Rattle.resp_session.proofs.SmallValues.{IsShortLine, short_by_test}
use Rattle.resp_session.proofs.SpelledWords.{AreWithin}

-- what stands of an operation whose words are within the limits
abbrev pub FitsOperation : Bounds → Operation → Type 0
FitsOperation limits Ping = Unit {0}
FitsOperation limits (Echo word) = FitsBulk limits word
FitsOperation limits (Get key) = Unit {0}
FitsOperation limits (Set condition key value) = FitsBulk limits value
FitsOperation limits (Del keys) = length keys ≤ limits.items
FitsOperation limits (Hello asked) = Unit {0}
FitsOperation limits (Refused text) = IsShortLine text

abbrev Within : Bounds → List (List ℕ) → Type 0
Within limits arguments = AllByRecursion (FitsBulk limits) arguments

either : (limits : Bounds) (b : Bool) (x y : Operation) → FitsOperation limits x → FitsOperation limits y → FitsOperation limits (cond b x y)
either limits true x y p q = p
either limits false x y p q = q

syntax_short : IsShortLine (codes "ERR syntax error")
syntax_short = short_by_test (codes "ERR syntax error") refl (omega arith)

ping_fits : (limits : Bounds) (arguments : List (List ℕ)) → Within limits arguments → FitsOperation limits (ping_operation arguments)
ping_fits limits [] h = tt
ping_fits limits (word ∷ []) h = h.0
ping_fits limits (word ∷ next ∷ others) h = short_by_test (codes "ERR wrong number of arguments for 'ping' command") refl (omega arith)

echo_fits : (limits : Bounds) (arguments : List (List ℕ)) → Within limits arguments → FitsOperation limits (echo_operation arguments)
echo_fits limits [] h = short_by_test (codes "ERR wrong number of arguments for 'echo' command") refl (omega arith)
echo_fits limits (word ∷ []) h = h.0
echo_fits limits (word ∷ next ∷ others) h = short_by_test (codes "ERR wrong number of arguments for 'echo' command") refl (omega arith)

get_fits : (limits : Bounds) (arguments : List (List ℕ)) → FitsOperation limits (get_operation arguments)
get_fits limits [] = short_by_test (codes "ERR wrong number of arguments for 'get' command") refl (omega arith)
get_fits limits (key ∷ []) = tt
get_fits limits (key ∷ next ∷ others) = short_by_test (codes "ERR wrong number of arguments for 'get' command") refl (omega arith)

option_fits : (limits : Bounds) (key value option : List ℕ) → FitsBulk limits value → FitsOperation limits (conditional_operation key value option)
option_fits limits key value option h =
    either limits (is_name (codes "nx") option) _ _ h (either limits (is_name (codes "xx") option) _ _ h syntax_short)

set_fits : (limits : Bounds) (arguments : List (List ℕ)) → Within limits arguments → FitsOperation limits (set_operation arguments)
set_fits limits [] h = short_by_test (codes "ERR wrong number of arguments for 'set' command") refl (omega arith)
set_fits limits (key ∷ []) h = short_by_test (codes "ERR wrong number of arguments for 'set' command") refl (omega arith)
set_fits limits (key ∷ value ∷ []) h = h.1.0
set_fits limits (key ∷ value ∷ option ∷ []) h = option_fits limits key value option h.1.0
set_fits limits (key ∷ value ∷ option ∷ next ∷ options) h = syntax_short

del_fits : (limits : Bounds) (arguments : List (List ℕ)) → length arguments ≤ limits.items → FitsOperation limits (del_operation arguments)
del_fits limits [] few = short_by_test (codes "ERR wrong number of arguments for 'del' command") refl (omega arith)
del_fits limits (key ∷ keys) few = few

version_fits : (limits : Bounds) (word : List ℕ) → FitsOperation limits (version_operation word)
version_fits limits word =
    either limits (bytes_eq word (codes "2")) _ _ tt
    (either limits (bytes_eq word (codes "3")) _ _ tt (short_by_test (codes "NOPROTO unsupported protocol version") refl (omega arith)))

hello_fits : (limits : Bounds) (arguments : List (List ℕ)) → FitsOperation limits (hello_operation arguments)
hello_fits limits [] = tt
hello_fits limits (word ∷ []) = version_fits limits word
hello_fits limits (word ∷ option ∷ options) = syntax_short

pub operation_fits : (limits : Bounds) (name : List ℕ) (arguments : List (List ℕ)) → AreWithin limits (name ∷ arguments) →
    FitsOperation limits (operation_of name arguments)
operation_fits limits name arguments h =
    let words : Within limits arguments = h.0.1 in
    let count = h.1 in
    let few : length arguments ≤ limits.items = omega (arith, count) in
    either limits (is_name (codes "ping") name) _ _ (ping_fits limits arguments words)
    (either limits (is_name (codes "echo") name) _ _ (echo_fits limits arguments words)
    (either limits (is_name (codes "get") name) _ _ (get_fits limits arguments)
    (either limits (is_name (codes "set") name) _ _ (set_fits limits arguments words)
    (either limits (is_name (codes "del") name) _ _ (del_fits limits arguments few)
    (either limits (is_name (codes "hello") name) _ _ (hello_fits limits arguments)
    (short_by_test (codes "ERR unknown command") refl (omega arith)))))))
