-- How a command is answered, from its words, as include/resp.h numbers it.
use Rattle.std.specs.Prelude.{◌≡◌, ◌⊎◌, ℕ, Bool, List, [], ◌∷◌, if◌then◌else◌, codes}
use Rattle.std.specs.List.{list_any}
use Rattle.std.specs.Str.{bytes_eq}
use Rattle.resp_session.specs.Operations.{is_name}
use Rattle.resp_session.specs.Requests.{is_unsent}

-- by exactly one reply
abbrev pub one_reply : ℕ
one_reply = 0

-- a HELLO that requests version 2 or 3
abbrev pub hello_two : ℕ
hello_two = 2

abbrev pub hello_three : ℕ
hello_three = 3

-- a command that subscribes or unsubscribes
abbrev pub subscribing : ℕ
subscribing = 16

-- another command that does not have exactly one reply, or that changes the version in another way than HELLO
abbrev pub not_paired : ℕ
not_paired = 17

-- the names of commands that subscribe or unsubscribe
abbrev pub subscribing_names : List (List ℕ)
subscribing_names = codes "subscribe" ∷ codes "unsubscribe" ∷ codes "psubscribe" ∷ codes "punsubscribe" ∷
    codes "ssubscribe" ∷ codes "sunsubscribe" ∷ []

-- whether a command of this name subscribes or unsubscribes
abbrev pub is_subscribing : List ℕ → Bool
is_subscribing name = list_any (λ other. is_name other name) subscribing_names

-- a HELLO with these arguments, of which the first is the version
abbrev pub kind_of_hello : List (List ℕ) → ℕ
kind_of_hello [] = one_reply
kind_of_hello (word ∷ options) =
    if bytes_eq word (codes "2") then hello_two else
    if bytes_eq word (codes "3") then hello_three else
    one_reply

-- a command with these words, of which the first is its name; a client of resp_client sends it if its kind is that of one
-- reply and it is no HELLO
abbrev pub kind_of_command : List (List ℕ) → ℕ
kind_of_command [] = not_paired
kind_of_command (name ∷ arguments) =
    if is_name (codes "hello") name then kind_of_hello arguments else
    if is_subscribing name then subscribing else
    if is_unsent (name ∷ arguments) then not_paired else
    one_reply

-- the kinds that are not paired
abbrev pub IsUnpaired : ℕ → Type 0
IsUnpaired kind = (kind ≡ subscribing) ⊎ (kind ≡ not_paired)
