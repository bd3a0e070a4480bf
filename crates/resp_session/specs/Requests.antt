-- The requests of a client, the text that is sent for them, and the requests that a client refuses to send.
use Rattle.std.specs.Prelude.{◌≡◌, ℕ, ◌≤◌, ◌^◌, ◌||◌, ◌&&◌, Bool, true, false, List, [], ◌∷◌, Option, None, Some, codes}
use Rattle.std.specs.List.{AllByRecursion, list_any}
use Rattle.resp_value.specs.Bounds.{Bounds}
use Rattle.resp_value.specs.Bytes.{IsText}
use Rattle.resp_value.specs.Canonical.{canonical_text, Fits}
use Rattle.resp_value.specs.Numbers.{decimal}
use Rattle.resp_value.specs.Rules.{rules_under}
use Rattle.resp_value.specs.Words.{command_of}
use Rattle.resp_value.specs.declared.version.Version.{Version}
use Rattle.resp_value.specs.declared.version.Version.TheVariants.{Two}
use Rattle.resp_value.specs.declared.cause.Cause.{Cause}
use Rattle.resp_value.specs.declared.cause.Cause.TheVariants.{TooLarge, BadCommand, TooMany}
use Rattle.resp_session.specs.Operations.{is_name}
use Rattle.resp_session.specs.Replies.{version_number}

-- a request: HELLO with or without a version, or another command
pub data Request : Type 0 where
  Hello : Option Version → Request
  Command : List (List ℕ) → Request

-- the words of a HELLO
abbrev pub hello_words : Option Version → List (List ℕ)
hello_words None = codes "HELLO" ∷ []
hello_words (Some version) = codes "HELLO" ∷ decimal (version_number version) ∷ []

-- the words of a request, its name first
abbrev pub request_words : Request → List (List ℕ)
request_words (Hello asked) = hello_words asked
request_words (Command words) = words

-- the version that a request asks for, if it is a HELLO with a version
abbrev pub version_asked : Request → Option Version
version_asked (Hello asked) = asked
version_asked (Command words) = None

-- the text that is sent for a request
abbrev pub request_text : Request → List ℕ
request_text request = canonical_text Two (command_of (request_words request))

-- whether the first of these words is REPLY
abbrev pub is_reply_word : List (List ℕ) → Bool
is_reply_word [] = false
is_reply_word (word ∷ words) = is_name (codes "reply") word

-- the names of commands that do not have exactly one reply, or that change the version
abbrev pub unsent_names : List (List ℕ)
unsent_names = codes "hello" ∷ codes "subscribe" ∷ codes "unsubscribe" ∷ codes "psubscribe" ∷ codes "punsubscribe" ∷
    codes "ssubscribe" ∷ codes "sunsubscribe" ∷ codes "monitor" ∷ codes "sync" ∷ codes "psync" ∷ codes "reset" ∷ []

-- whether a client does not send these words: there is no word, or the name is one of those names, or it is CLIENT
-- REPLY
abbrev pub is_unsent : List (List ℕ) → Bool
is_unsent [] = true
is_unsent (name ∷ words) =
    list_any (λ unsent. is_name unsent name) unsent_names || (is_name (codes "client") name && is_reply_word words)

-- whether a client does not send this request; it does send a HELLO of its own
abbrev pub is_unsent_request : Request → Bool
is_unsent_request (Hello asked) = false
is_unsent_request (Command words) = is_unsent words

-- the request's text is within the limits
abbrev pub FitsRequest : Bounds → Request → Type 0
FitsRequest limits request = Fits (rules_under Two limits) (command_of (request_words request))

-- why a client that has queued this many requests refuses this request: the first of these causes that applies
abbrev pub RefusesRequest : Bounds → ℕ → Request → Cause → Type 0
RefusesRequest limits count request BadCommand = is_unsent_request request ≡ true
RefusesRequest limits count request TooLarge = (is_unsent_request request ≡ false) × (FitsRequest limits request → ⊥)
RefusesRequest limits count request TooMany =
    (is_unsent_request request ≡ false) × FitsRequest limits request × (2 ^ 63 ≤ count)
RefusesRequest limits count request _ = ⊥

-- the words that a client sends consist of bytes
abbrev pub HasBytes : Request → Type 0
HasBytes request = AllByRecursion IsText (request_words request)
