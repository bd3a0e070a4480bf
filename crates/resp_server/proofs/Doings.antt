-- The effect of a command on the stores and on its client.
use Rattle.std.proofs.Common.{◌≡◌, ℕ, List, [], ◌++◌, Some, refl, sym, ap, subst, ◌∙◌}
use Rattle.std.proofs.Math.Seq.{map-set_same}
use Rattle.std.proofs.lemmas.Option.{get_or_from_slice_get}
use Rattle.std.specs.Prelude.{set, slice_get}
use Rattle.std.proofs.lemmas.List.{map-set}
use Rattle.resp_value.specs.Bounds.{Bounds}
use Rattle.std.proofs.lemmas.List.{append-nil}
use Rattle.resp_value.specs.Canonical.{canonical_text}
use Rattle.resp_value.specs.Data.{Datum}
use Rattle.resp_value.specs.Rules.{rules_under}
use Rattle.resp_value.specs.Spellings.{IsSpelling}
use Rattle.resp_value.specs.declared.version.Version.TheVariants.{Two}
use Rattle.resp_scan.specs.Whole.{BeginsWith}
use Rattle.resp_session.specs.Operations.{Operation}
use Rattle.resp_session.specs.Stores.{Store, effect_of}
use Rattle.resp_server.specs.Running.{HasEffect, IsAsBefore}
use Rattle.resp_server.specs.declared.database.Database.{Database}
use Rattle.resp_server.specs.Deeds.{Request, asked_by}
use Rattle.resp_server.specs.Outcomes.{Standing, outcome_of, store_of}
use Rattle.resp_server.specs.Doing.{HasChanged, HasDone, HasDoneNothing, IsOfClient, standing_of}
use Rattle.resp_server.specs.Servers.{ServerState, stores_in}
use Rattle.resp_server.specs.declared.databases.client.Client.{Client}
use Rattle.resp_server.specs.declared.databases.deed.Deed.{Deed}
use Rattle.resp_server.specs.declared.databases.deed.Deed.TheVariants as deed
use Rattle.resp_server.proofs.Lists.{store_there}

-- what is done of the client alone keeps the stores
pub stores_kept : (d : Deed) → IsOfClient d → (stores : List Store) (c : Standing) → (outcome_of stores c (asked_by d)).stores ≡ stores
stores_kept (deed.Select index) of stores c = refl
stores_kept (deed.Exists keys) of stores c = absurd of
stores_kept deed.DbSize of stores c = absurd of
stores_kept deed.FlushDb of stores c = absurd of
stores_kept deed.FlushAll of stores c = absurd of
stores_kept (deed.SetName name) of stores c = refl
stores_kept deed.GetName of stores c = refl
stores_kept deed.Id of stores c = refl
stores_kept deed.SetInfo of stores c = refl
stores_kept (deed.Hello version name) of stores c = refl
stores_kept deed.Quit of stores c = refl
stores_kept (deed.Refused refusal) of stores c = refl
stores_kept (deed.UnknownSubcommand word) of stores c = refl

-- what is done of the client alone
pub done_of_client : (d : Deed) → IsOfClient d → (server : ServerState) (before after : Client) → HasChanged (asked_by d) before after →
    HasDone (asked_by d) server server before after
done_of_client d of server before after changed = record {
  state = ap (λ stores. record server { stores = stores }) (sym (stores_kept d of server.stores (standing_of before)));
  client = changed.client server.stores;
  replied = changed.replied server.stores;
}

-- a request is done in the client's database
pub done_there : {S H : Type 0} (limits : Bounds) (databases : List (Database S H)) (last : ℕ) (d d' : Database S H) (before after : Client)
    (request : Operation) → slice_get databases before.database ≡ Some d →
    HasEffect d'.store after.version before.out.items after.out.items (effect_of d.store before.version before.id request) →
    standing_of after ≡ record (standing_of before) { version = after.version } →
    HasDone (Request request) (record { limits = limits; stores = stores_in databases; last = last })
    (record { limits = limits; stores = stores_in (set databases before.database d'); last = last }) before after
done_there {S} {H} limits databases last d d' before after request there has same =
    let c = standing_of before in
    let by = λ (s : Store). effect_of s c.version c.id request in
    let store = store_there databases c d there in
    let stores : stores_in (set databases before.database d') ≡ (outcome_of (stores_in databases) c (Request request)).stores =
    map-set (λ (e : Database S H). e.store) databases before.database d' ∙
    ap (λ s. set (stores_in databases) before.database s) (has.store_of ∙ ap (λ s. (by s).store) (sym store)) in
    let version : after.version ≡ (by (store_of (stores_in databases) c)).version = has.version_of ∙ ap (λ s. (by s).version) (sym store) in
    record {
      state = ap (λ (s : List Store). record { limits = limits; stores = s; last = last }) stores;
      client = same ∙ ap (λ v. record c { version = v }) version;
      replied = has.replied ∙ ap (λ s. before.out.items ++ canonical_text (by s).version (by s).reply) (sym store) ∙
          ap (λ v. before.out.items ++ canonical_text v (by (store_of (stores_in databases) c)).reply) (sym version);
    }

-- a request is not done in the client's database
pub undone_there : {S H : Type 0} (limits : Bounds) (databases : List (Database S H)) (last : ℕ) (server : ServerState) (d d' : Database S H)
    (before after : Client) → record { limits = limits; stores = stores_in databases; last = last } ≡ server →
    slice_get databases before.database ≡ Some d →
    IsAsBefore d.store d'.store before.version after.version before.out.items after.out.items →
    standing_of after ≡ record (standing_of before) { version = after.version } →
    HasDoneNothing server (record { limits = limits; stores = stores_in (set databases before.database d'); last = last }) before after
undone_there {S} {H} limits databases last server d d' before after is there kept same = record {
  state = ap (λ (s : List Store). record { limits = limits; stores = s; last = last })
      (map-set_same (λ (e : Database S H). e.store) databases before.database d' d
      (kept.same_store ∙ ap (λ (e : Database S H). e.store) (sym (get_or_from_slice_get databases before.database d d there)))) ∙ is;
  client = record { client = same ∙ ap (λ v. record (standing_of before) { version = v }) kept.same_version; replied = kept.same_out };
}

-- all other deeds are done of the client alone
pub of_others : (d : Deed) → ((keys : List (List ℕ)) → d ≡ deed.Exists keys → ⊥) → (d ≡ deed.DbSize → ⊥) →
    (d ≡ deed.FlushDb → ⊥) → (d ≡ deed.FlushAll → ⊥) → IsOfClient d
of_others (deed.Select index) exists size flush all = tt
of_others (deed.Exists keys) exists size flush all = exists keys refl
of_others deed.DbSize exists size flush all = size refl
of_others deed.FlushDb exists size flush all = flush refl
of_others deed.FlushAll exists size flush all = all refl
of_others (deed.SetName name) exists size flush all = tt
of_others deed.GetName exists size flush all = tt
of_others deed.Id exists size flush all = tt
of_others deed.SetInfo exists size flush all = tt
of_others (deed.Hello version name) exists size flush all = tt
of_others deed.Quit exists size flush all = tt
of_others (deed.Refused refusal) exists size flush all = tt
of_others (deed.UnknownSubcommand word) exists size flush all = tt

-- a text that begins with a spelling and has no rest is that spelling
pub alone : (limits limits' : Bounds) (text rest : List ℕ) (x : Datum) → BeginsWith limits text x rest → rest ≡ [] → limits ≡ limits' →
    IsSpelling (rules_under Two limits') x text
alone limits limits' text rest x b none same =
    subst (λ l. IsSpelling (rules_under Two l) x text) same
    (subst (IsSpelling (rules_under Two limits) x) (sym (b.whole ∙ ap (λ r. b.written ++ r) none ∙ append-nil b.written)) b.spelled)
