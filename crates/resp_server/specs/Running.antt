-- The effect of a command on a database and on the client that sent it.
use Rattle.std.specs.Prelude.{◌≡◌, ℕ, ◌+◌, ◌≤◌, List, ◌++◌, length, OnOk, OnErr, Result}
use Rattle.resp_value.specs.Bounds.{Bounds}
use Rattle.resp_value.specs.Canonical.{canonical_text}
use Rattle.resp_value.specs.Spellings.{IsSpelling}
use Rattle.resp_value.specs.Words.{command_of}
use Rattle.resp_value.specs.declared.version.Version.{Version}
use Rattle.resp_session.specs.Answers.{server_rules}
use Rattle.resp_session.specs.Fitting.{FitsStore}
use Rattle.resp_session.specs.Stores.{Store, Effect}
use Rattle.resp_server.specs.declared.session.Session.{Session}

-- an array of these words is within the limits
pub record FitsWords (limits : Bounds) (words : List (List ℕ)) : Type 0 where
  pub written : List ℕ
  pub spelled : IsSpelling (server_rules limits) (command_of words) written

-- the store and the client's version are those of the effect, and its reply follows the bytes that waited
pub record HasEffect (store : Store) (version : Version) (out out' : List ℕ) (effect : Effect) : Type 0 where
  pub store_of : store ≡ effect.store
  pub version_of : version ≡ effect.version
  pub replied : out' ≡ out ++ canonical_text effect.version effect.reply

-- the store, the version and the waiting bytes are unchanged
pub record IsAsBefore (store store' : Store) (version version' : Version) (out out' : List ℕ) : Type 0 where
  pub same_store : store' ≡ store
  pub same_version : version' ≡ version
  pub same_out : out' ≡ out

-- the store, the version of the session and its waiting bytes are unchanged
abbrev pub IsSessionAsBefore : Store → Store → Session → Session → Type 0
IsSessionAsBefore store store' before after =
    IsAsBefore store store' before.version after.version before.out.items after.out.items

-- a command has had its effect; when out of memory, it has had none
pub record Runs {T E : Type 0} (store store' : Store) (version version' : Version) (out out' : List ℕ) (effect : Effect)
    (result : Result T E) : Type 0 where
  pub done : OnOk result (HasEffect store' version' out out' effect)
  pub unchanged : OnErr result (IsAsBefore store store' version version' out out')

-- the number of the session, its decoder and whether it is closing are unchanged
pub record HasSameRest (before after : Session) : Type 0 where
  pub same_id : after.id ≡ before.id
  pub same_decoder : after.decoder ≡ before.decoder
  pub same_closing : after.closing ≡ before.closing

-- what was queued is within the limits and so is the store, and the limits are unchanged
pub record KeepsWithin (limits limits' : Bounds) (store' : Store) (out out' : List ℕ) : Type 0 where
  pub short : length out' ≤ length out + limits.total
  pub stored : FitsStore limits store'
  pub same_limits : limits' ≡ limits
