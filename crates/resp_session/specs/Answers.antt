-- The answer of a server to a text.
use Rattle.std.specs.Prelude.{◌≡◌, ◌⊎◌, ℕ, ◌+◌, Bool, true, false, List, [], ◌∷◌, ◌++◌, if◌then◌else◌, codes}
use Rattle.resp_value.specs.Numbers.{decimal}
use Rattle.resp_value.specs.Data.{Datum}
use Rattle.resp_value.specs.Bounds.{Bounds}
use Rattle.resp_value.specs.Rules.{Rules, Rule, WithinTotal, rules_under}
use Rattle.resp_value.specs.Spellings.{IsSpelling, IsViable, AreSpellings, FaultOf}
use Rattle.resp_value.specs.Canonical.{canonical_text}
use Rattle.resp_value.specs.Causes.{cause_of, name_of}
use Rattle.resp_value.specs.declared.version.Version.{Version}
use Rattle.resp_value.specs.declared.version.Version.TheVariants.{Two}
use Rattle.resp_session.specs.Commands.{Meaning, Call, Nothing, NoCommand, meaning_of}
use Rattle.resp_session.specs.Operations.{operation_of}
use Rattle.resp_session.specs.Replies.{error}
use Rattle.resp_session.specs.Stores.{Store, Effect, effect_of}

-- the store, and the answers of a session so far
pub record SessionState : Type 0 where
  pub store : Store
  pub version : Version
  -- the replies, as they are written
  pub text : List ℕ
  -- whether a protocol error has closed the session
  pub closing : Bool
  -- the number of commands that were run
  pub count : ℕ

-- the state after the error reply for a protocol error, which is the last answer
abbrev pub after_error : List ℕ → ℕ → SessionState → SessionState
after_error name at s = record s {
  text = s.text ++ canonical_text s.version (error (codes "ERR Protocol error: " ++ name ++ codes " at byte " ++
      decimal at));
  closing = true;
}

-- the state after a command with this effect
abbrev pub after_effect : Effect → SessionState → SessionState
after_effect effect s = record s {
  store = effect.store;
  version = effect.version;
  text = s.text ++ canonical_text effect.version effect.reply;
  count = s.count + 1;
}

-- the state after a value with this meaning, in an open session of this number
abbrev pub after_meaning : ℕ → SessionState → Meaning → SessionState
after_meaning id s (Call name arguments) = after_effect (effect_of s.store s.version id (operation_of name arguments)) s
after_meaning id s Nothing = s
after_meaning id s NoCommand = after_error (codes "NotCommand") 0 s

-- the state after a value; a closing session answers nothing
abbrev pub after_value : ℕ → SessionState → Datum → SessionState
after_value id s x = if s.closing then s else after_meaning id s (meaning_of x)

-- the state after values, one after another
abbrev pub after_values : ℕ → SessionState → List Datum → SessionState
after_values id s [] = s
after_values id s (x ∷ xs) = after_values id (after_value id s x) xs

-- the text does not begin with a value
abbrev pub BeginsNoValue : Rules → List ℕ → Type 0
BeginsNoValue rules text = (x : Datum) (front beyond : List ℕ) → IsSpelling rules x front → text ≡ front ++ beyond → ⊥

-- a session waits at a rest that does not begin with a value and is viable
pub record Waits (rules : Rules) (rest : List ℕ) (before after : SessionState) : Type 0 where
  pub is_open : before.closing ≡ false
  pub no_more : BeginsNoValue rules rest
  pub viable : IsViable rules WithinTotal rest
  pub same : after ≡ before

-- a session rejects a rest that does not begin with a value and is not viable
pub record EndsInFault (rules : Rules) (rest : List ℕ) (before after : SessionState) : Type 0 where
  pub is_open : before.closing ≡ false
  pub no_more : BeginsNoValue rules rest
  pub rule : Rule
  pub at : ℕ
  pub fault : FaultOf rules rest rule at
  pub line : after ≡ after_error (name_of (cause_of rule)) at before

-- a session that a value has closed does not read the rest
pub record IsUnread (before after : SessionState) : Type 0 where
  pub closed : before.closing ≡ true
  pub same : after ≡ before

-- the effect of the rest after the values that were answered
abbrev pub Ends : Rules → List ℕ → SessionState → SessionState → Type 0
Ends rules rest before after = Waits rules rest before after ⊎
    (EndsInFault rules rest before after ⊎ IsUnread before after)

-- a server reads version 2, whatever the version of its replies
abbrev pub server_rules : Bounds → Rules
server_rules limits = rules_under Two limits

-- the text consists of spellings of values, which are answered in order, and a rest that does not begin with a value or
-- is not read
pub record Answers (limits : Bounds) (id : ℕ) (before : SessionState) (text : List ℕ) (after : SessionState)
    (rest : List ℕ) :
    Type 0 where
  pub values : List Datum
  pub front : List ℕ
  pub spelled : AreSpellings (server_rules limits) values front
  pub whole : text ≡ front ++ rest
  pub ends : Ends (server_rules limits) rest (after_values id before values) after
