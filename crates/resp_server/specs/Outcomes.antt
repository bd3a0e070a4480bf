-- The effect of a command on a server with several databases.
use Rattle.std.specs.Prelude.{ℕ, Bool, true, List, [], ◌∷◌, length, map, filter, set, is_some, unwrap_or, slice_get, codes}
use Rattle.resp_value.specs.Data.{Datum}
use Rattle.resp_value.specs.declared.version.Version.{Version}
use Rattle.resp_session.specs.Replies.{simple_string, error, bulk_string, hello_reply, natural, null}
use Rattle.resp_session.specs.Stores.{Store, Effect, effect_of, value_at}
use Rattle.resp_server.specs.Deeds.{Asked, Request, Select, Exists, DbSize, FlushDb, FlushAll, SetName, GetName, Id, SetInfo, Hello, Quit, Denied}

-- what a command depends on and changes of its client
pub record Standing : Type 0 where
  pub id : ℕ
  -- the version of its replies
  pub version : Version
  -- the number of its database
  pub database : ℕ
  -- without a byte it has no name
  pub name : List ℕ
  -- whether no further command of it is run
  pub closing : Bool

-- the state after a command, and the reply to it in the client's version
pub record Outcome : Type 0 where
  pub stores : List Store
  pub client : Standing
  pub reply : Datum

-- the store of the client's database
abbrev pub store_of : List Store → Standing → Store
store_of stores c = unwrap_or (slice_get stores c.database) []

-- the stores with this one for the client's database
abbrev pub stores_with : List Store → Standing → Store → List Store
stores_with stores c store = set stores c.database store

-- the keys that the store has
abbrev pub keys_in : Store → List (List ℕ) → List (List ℕ)
keys_in store keys = filter (λ key. is_some (value_at store key)) keys

-- the reply with a name, or null without one
abbrev pub name_reply : List ℕ → Datum
name_reply [] = null
name_reply (b ∷ bs) = bulk_string (b ∷ bs)

abbrev pub ok_reply : Datum
ok_reply = simple_string (codes "OK")

-- nothing is changed but the client
abbrev pub with_client : List Store → Standing → Datum → Outcome
with_client stores client reply = record { stores = stores; client = client; reply = reply }

-- the outcome of a request for a server of one store, with the client's number and version, on its database
abbrev pub outcome_by : List Store → Standing → Effect → Outcome
outcome_by stores c effect = record {
  stores = stores_with stores c effect.store;
  client = record c { version = effect.version };
  reply = effect.reply;
}

-- the outcome of what a command asks for
abbrev pub outcome_of : List Store → Standing → Asked → Outcome
outcome_of stores c (Request request) = outcome_by stores c (effect_of (store_of stores c) c.version c.id request)
outcome_of stores c (Select index) = with_client stores (record c { database = index }) ok_reply
outcome_of stores c (Exists keys) = with_client stores c (natural (length (keys_in (store_of stores c) keys)))
outcome_of stores c DbSize = with_client stores c (natural (length (store_of stores c)))
outcome_of stores c FlushDb = record { stores = stores_with stores c []; client = c; reply = ok_reply }
outcome_of stores c FlushAll = record { stores = map (λ store. []) stores; client = c; reply = ok_reply }
outcome_of stores c (SetName name) = with_client stores (record c { name = name }) ok_reply
outcome_of stores c GetName = with_client stores c (name_reply c.name)
outcome_of stores c Id = with_client stores c (natural c.id)
outcome_of stores c SetInfo = with_client stores c ok_reply
outcome_of stores c (Hello version name) =
    with_client stores (record c { version = version; name = unwrap_or name c.name }) (hello_reply version c.id)
outcome_of stores c Quit = with_client stores (record c { closing = true }) ok_reply
outcome_of stores c (Denied text) = with_client stores c (error text)
