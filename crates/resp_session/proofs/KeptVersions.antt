-- Which commands leave a session's version as it is.
use Rattle.std.proofs.Common.{◌≡◌, ℕ, Bool, true, false, cond, List, [], ◌∷◌, codes, refl}
use Rattle.std.proofs.lemmas.Bool.{or_parts}
use Rattle.std.specs.List.{list_any}
use Rattle.resp_value.specs.declared.version.Version.{Version}
use Rattle.resp_session.specs.Operations.{Operation, Condition, Always, IfAbsent, IfPresent, Set, Refused, is_name, ping_operation, echo_operation, get_operation, set_operation, conditional_operation, del_operation, hello_operation, operation_of}
use Rattle.resp_session.specs.Requests.{is_unsent, unsent_names}
use Rattle.resp_session.specs.Stores.{Store, Effect, effect_of, effect_of_words, is_met, value_at}

-- the operation leaves the version as it is
abbrev KeepsVersion : Operation → Type 0
KeepsVersion operation = (store : Store) (version : Version) (id : ℕ) → (effect_of store version id operation).version ≡ version

either : (b : Bool) (x y : Operation) → KeepsVersion x → KeepsVersion y → KeepsVersion (cond b x y)
either true x y p q = p
either false x y p q = q

set_version : (met : Bool) (x y : Effect) (version : Version) → x.version ≡ version → y.version ≡ version → (cond met x y).version ≡ version
set_version true x y version p q = p
set_version false x y version p q = q

set_keeps : (condition : Condition) (key value : List ℕ) → KeepsVersion (Set condition key value)
set_keeps condition key value store version id = set_version (is_met condition (value_at store key)) _ _ version refl refl

refused_keeps : (text : List ℕ) → KeepsVersion (Refused text)
refused_keeps text store version id = refl

ping_keeps : (arguments : List (List ℕ)) → KeepsVersion (ping_operation arguments)
ping_keeps [] store version id = refl
ping_keeps (word ∷ []) store version id = refl
ping_keeps (word ∷ next ∷ others) store version id = refl

echo_keeps : (arguments : List (List ℕ)) → KeepsVersion (echo_operation arguments)
echo_keeps [] store version id = refl
echo_keeps (word ∷ []) store version id = refl
echo_keeps (word ∷ next ∷ others) store version id = refl

get_keeps : (arguments : List (List ℕ)) → KeepsVersion (get_operation arguments)
get_keeps [] store version id = refl
get_keeps (word ∷ []) store version id = refl
get_keeps (word ∷ next ∷ others) store version id = refl

option_keeps : (key value option : List ℕ) → KeepsVersion (conditional_operation key value option)
option_keeps key value option =
    either (is_name (codes "nx") option) _ _ (set_keeps IfAbsent key value)
    (either (is_name (codes "xx") option) _ _ (set_keeps IfPresent key value) (refused_keeps (codes "ERR syntax error")))

set_arguments_keep : (arguments : List (List ℕ)) → KeepsVersion (set_operation arguments)
set_arguments_keep [] store version id = refl
set_arguments_keep (key ∷ []) store version id = refl
set_arguments_keep (key ∷ value ∷ []) store version id = set_keeps Always key value store version id
set_arguments_keep (key ∷ value ∷ option ∷ []) store version id = option_keeps key value option store version id
set_arguments_keep (key ∷ value ∷ option ∷ next ∷ options) store version id = refl

del_keeps : (arguments : List (List ℕ)) → KeepsVersion (del_operation arguments)
del_keeps [] store version id = refl
del_keeps (key ∷ keys) store version id = refl

other_than_hello : (hello : Bool) (operation : Operation) → hello ≡ false → KeepsVersion (cond hello operation (Refused (codes "ERR unknown command")))
other_than_hello true operation e = absurd (cc)
other_than_hello false operation e = refused_keeps (codes "ERR unknown command")

named_keeps : (name : List ℕ) (arguments : List (List ℕ)) → is_name (codes "hello") name ≡ false → KeepsVersion (operation_of name arguments)
named_keeps name arguments e =
    either (is_name (codes "ping") name) _ _ (ping_keeps arguments)
    (either (is_name (codes "echo") name) _ _ (echo_keeps arguments)
    (either (is_name (codes "get") name) _ _ (get_keeps arguments)
    (either (is_name (codes "set") name) _ _ (set_arguments_keep arguments)
    (either (is_name (codes "del") name) _ _ (del_keeps arguments)
    (other_than_hello (is_name (codes "hello") name) (hello_operation arguments) e)))))

-- a command that a client sends, other than its own HELLO, leaves the version as it is
pub sent_words_keep : (words : List (List ℕ)) → is_unsent words ≡ false → (store : Store) (version : Version) (id : ℕ) →
    (effect_of_words store version id words).version ≡ version
sent_words_keep [] e store version id = refl
sent_words_keep (name ∷ arguments) e store version id =
    let h = (or_parts (list_any (λ unsent. is_name unsent name) unsent_names) _ e).0 in
    named_keeps name arguments (or_parts (is_name (codes "hello") name) _ h).0 store version id
