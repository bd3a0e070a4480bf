-- The state of a client, and the effect of a command on a server and on its client.
use Rattle.std.specs.Prelude.{◌≡◌, ℕ, List, ◌∷◌, ◌++◌}
use Rattle.resp_value.specs.Canonical.{canonical_text}
use Rattle.resp_value.specs.Rules.{rules_under}
use Rattle.resp_value.specs.Spellings.{IsSpelling}
use Rattle.resp_value.specs.Words.{command_of}
use Rattle.resp_value.specs.declared.version.Version.TheVariants.{Two}
use Rattle.resp_session.specs.Stores.{Store}
use Rattle.resp_server.specs.Deeds.{Asked, Asks}
use Rattle.resp_server.specs.Outcomes.{Standing, outcome_of}
use Rattle.resp_server.specs.Servers.{ServerState}
use Rattle.resp_server.specs.declared.databases.deed.Deed.{Deed}
use Rattle.resp_server.specs.declared.databases.deed.Deed.TheVariants as deed
use Rattle.resp_server.specs.declared.databases.client.Client.{Client}

-- what commands depend on and change of a client
abbrev pub standing_of : Client → Standing
standing_of c = record { id = c.id; version = c.version; database = c.database; name = c.name.items; closing = c.closing }

-- the bytes that wait to be written to a client
abbrev pub waiting_of : Client → List ℕ
waiting_of c = c.out.items

-- the client has begun the same command
abbrev pub KeepsBegun : Client → Client → Type 0
KeepsBegun before after = after.unfinished ≡ before.unfinished

-- it is done of the client alone, and no database is read or changed
abbrev pub IsOfClient : Deed → Type 0
IsOfClient (deed.Exists keys) = ⊥
IsOfClient deed.DbSize = ⊥
IsOfClient deed.FlushDb = ⊥
IsOfClient deed.FlushAll = ⊥
IsOfClient _ = Unit {0}

-- the client is that of the outcome of what was asked for, and its reply follows the bytes that waited
pub record HasChanged (asked : Asked) (before after : Client) : Type 0 where
  pub client : (stores : List Store) → standing_of after ≡ (outcome_of stores (standing_of before) asked).client
  pub replied : (stores : List Store) → waiting_of after ≡ waiting_of before ++
      canonical_text after.version (outcome_of stores (standing_of before) asked).reply

-- no reply was queued, and the client is the same
pub record IsUnchanged (before after : Client) : Type 0 where
  pub client : standing_of after ≡ standing_of before
  pub replied : waiting_of after ≡ waiting_of before

-- The stores and the client are those of the outcome of what was asked for. Its reply, in the client's version, follows
-- the bytes that waited.
pub record HasDone (asked : Asked) (old new : ServerState) (before after : Client) : Type 0 where
  pub state : new ≡ record old { stores = (outcome_of old.stores (standing_of before) asked).stores }
  pub client : standing_of after ≡ (outcome_of old.stores (standing_of before) asked).client
  pub replied : waiting_of after ≡ waiting_of before ++
      canonical_text after.version (outcome_of old.stores (standing_of before) asked).reply

-- no store is changed, and no client
pub record HasDoneNothing (old new : ServerState) (before after : Client) : Type 0 where
  pub state : new ≡ old
  pub client : IsUnchanged before after

-- the text is a command, and it was done
pub record HasRun (text : List ℕ) (old new : ServerState) (before after : Client) : Type 0 where
  pub name : List ℕ
  pub arguments : List (List ℕ)
  pub spelled : IsSpelling (rules_under Two old.limits) (command_of (name ∷ arguments)) text
  pub asked : Asked
  pub asks : Asks name arguments asked
  pub done : HasDone asked old new before after
