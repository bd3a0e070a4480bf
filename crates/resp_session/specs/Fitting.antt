-- Values within the limits: contents, the store, and the effect of a command.
use Rattle.std.specs.Prelude.{ℕ, ◌<◌, ◌≤◌, ◌^◌, List, length}
use Rattle.std.specs.List.{AllByRecursion, IsDistinct}
use Rattle.std.specs.Map.{keys_of}
use Rattle.std.specs.Str.{bytes_eq}
use Rattle.resp_value.specs.Bounds.{Bounds, AreBounds}
use Rattle.resp_value.specs.Bytes.{IsText}
use Rattle.resp_value.specs.Canonical.{canonical_text, IsValue, Fits}
use Rattle.resp_value.specs.Rules.{rules_under}
use Rattle.resp_value.specs.Spellings.{IsSpelling}
use Rattle.resp_value.specs.Words.{command_of}
use Rattle.resp_value.specs.declared.version.Version.{Version}
use Rattle.resp_value.specs.declared.version.Version.TheVariants.{Two}
use Rattle.resp_session.specs.Answers.{server_rules}
use Rattle.resp_session.specs.Replies.{bulk_string, natural}
use Rattle.resp_session.specs.Stores.{Store, Effect, effect_of_words}

-- the content consists of bytes, and as a bulk string it is within the limits
abbrev pub FitsBulk : Bounds → List ℕ → Type 0
FitsBulk limits content = IsText content × Fits (rules_under Two limits) (bulk_string content)

-- each key is in the store once, and each value is within the limits
pub record FitsStore (limits : Bounds) (store : Store) : Type 0 where
  pub distinct : IsDistinct bytes_eq (keys_of store)
  pub values : AllByRecursion (λ (e : List ℕ × List ℕ). FitsBulk limits e.1) store

-- the reply is a value within the limits in the version in which it is written, and the store is within the limits
pub record FitsEffect (limits : Bounds) (effect : Effect) : Type 0 where
  pub value : IsValue effect.reply
  pub reply : Fits (rules_under effect.version limits) effect.reply
  pub store : FitsStore limits effect.store

-- the effect of a command is within the limits, if its words and the store are, and the session's number is below 2^63
abbrev pub EffectsFit : Type 0
EffectsFit = (limits : Bounds) (store : Store) (version : Version) (id : ℕ) (words : List (List ℕ)) (text : List ℕ) →
    AreBounds limits → FitsStore limits store → id < 2 ^ 63 →
    IsSpelling (server_rules limits) (command_of words) text →
    FitsEffect limits (effect_of_words store version id words)

-- a reply that is a number has at most 22 bytes
abbrev pub NumbersAreShort : Type 0
NumbersAreShort = (version : Version) (n : ℕ) → n < 2 ^ 63 → length (canonical_text version (natural n)) ≤ 22
