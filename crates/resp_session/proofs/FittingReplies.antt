-- What a command leaves is within the limits, where its words and the store are.
use Rattle.std.proofs.Common.{ℕ, ◌-◌, ◌^◌, ◌<◌, Bool, true, false, cond, List, [], ◌∷◌, length, Some, unwrap_or, codes, refl, arith}
use Rattle.std.specs.List.{AllByRecursion}
use Rattle.std.specs.Str.{bytes_eq}
use Rattle.std.proofs.lemmas.Bool.{cond_both}
use Rattle.resp_value.specs.Bounds.{Bounds, AreBounds}
use Rattle.resp_value.specs.Canonical.{Fits}
use Rattle.resp_value.specs.Data.{Datum}
use Rattle.resp_value.specs.Rules.{rules_under}
use Rattle.resp_value.specs.declared.version.Version.{Version}
use Rattle.resp_session.specs.Fitting.{FitsBulk, FitsStore, FitsEffect, EffectsFit}
use Rattle.resp_session.specs.Operations.{Operation, Ping, Echo, Get, Set, Del, Hello, Refused, operation_of}
use Rattle.resp_session.specs.Replies.{bulk_string, bulk_string_or_null, null, hello_reply}
use Rattle.resp_session.specs.Stores.{Store, Effect, value_at, store_with, store_without, is_met, effect_of}
use Rattle.resp_session.proofs.SmallValues.{IsSmall, small_fits, in_each, short_by_test, small_simple, small_error, small_null, small_natural, small_hello}
use Rattle.resp_session.proofs.SpelledWords.{spelled_words_fit}
use Rattle.resp_session.proofs.FittingOperations.{FitsOperation, operation_fits}
use Rattle.resp_session.proofs.FittingStores.{store_with_fits, store_without_fits, few_go}

-- an effect with a small reply, and a store that is within the limits
small_effect : (limits : Bounds) → AreBounds limits → (store : Store) (version : Version) (x : Datum) → IsSmall version x → FitsStore limits store →
    FitsEffect limits (record { store = store; version = version; reply = x })
small_effect limits bounds store version x small h = record { value = small.value; reply = small_fits limits bounds version x small; store = h }

-- a bulk string is written alike in both versions
bulk_fits : (limits : Bounds) (version : Version) (content : List ℕ) → FitsBulk limits content → Fits (rules_under version limits) (bulk_string content)
bulk_fits limits version content h = record {
  allows_doubles = λ off. tt;
  has_types = in_each version (bulk_string content) tt;
  push_at_top = tt;
  within_depth = h.1.within_depth;
  within_length = h.1.within_length;
  within_items = h.1.within_items;
  within_total = h.1.within_total;
}

bulk_effect : (limits : Bounds) (store : Store) (version : Version) (content : List ℕ) → FitsBulk limits content → FitsStore limits store →
    FitsEffect limits (record { store = store; version = version; reply = bulk_string content })
bulk_effect limits store version content fits h = record { value = fits.0; reply = bulk_fits limits version content fits; store = h }

-- the value of a key is among the values
found : (limits : Bounds) → AreBounds limits → (store whole : Store) (version : Version) (key : List ℕ) →
    AllByRecursion (λ (e : List ℕ × List ℕ). FitsBulk limits e.1) store → FitsStore limits whole →
    FitsEffect limits (record { store = whole; version = version; reply = bulk_string_or_null (value_at store key) })
found limits bounds [] whole version key values h = small_effect limits bounds whole version null (small_null version) h
found limits bounds (e ∷ es) whole version key values h =
    cond_both (bytes_eq key e.0) (Some e.1) (value_at es key)
    (λ o. FitsEffect limits (record { store = whole; version = version; reply = bulk_string_or_null o }))
    (λ same. bulk_effect limits whole version e.1 values.0 h) (λ other. found limits bounds es whole version key values.1 h)

either_effect : (limits : Bounds) (b : Bool) (x y : Effect) → FitsEffect limits x → FitsEffect limits y → FitsEffect limits (cond b x y)
either_effect limits true x y p q = p
either_effect limits false x y p q = q

effect_fits : (limits : Bounds) → AreBounds limits → (store : Store) (version : Version) (id : ℕ) (operation : Operation) → id < 2 ^ 63 →
    FitsStore limits store → FitsOperation limits operation → FitsEffect limits (effect_of store version id operation)
effect_fits limits bounds store version id Ping small h fits =
    small_effect limits bounds store version _ (small_simple version (codes "PONG") (short_by_test (codes "PONG") refl (omega arith))) h
effect_fits limits bounds store version id (Echo word) small h fits = bulk_effect limits store version word fits h
effect_fits limits bounds store version id (Get key) small h fits = found limits bounds store store version key h.values h
effect_fits limits bounds store version id (Set condition key value) small h fits =
    either_effect limits (is_met condition (value_at store key)) _ _
    (small_effect limits bounds (store_with store key value) version _ (small_simple version (codes "OK") (short_by_test (codes "OK") refl (omega arith)))
    (store_with_fits limits store key value fits h))
    (small_effect limits bounds store version null (small_null version) h)
effect_fits limits bounds store version id (Del keys) small h fits =
    let few = few_go store keys h.distinct in
    let most = bounds.items_in_range.1 in
    small_effect limits bounds (store_without store keys) version _
    (small_natural version (length store - length (store_without store keys)) (omega (arith, few, fits, most)))
    (store_without_fits limits store keys h)
effect_fits limits bounds store version id (Hello asked) small h fits =
    let next = unwrap_or asked version in
    small_effect limits bounds store next (hello_reply next id) (small_hello next id small) h
effect_fits limits bounds store version id (Refused text) small h fits = small_effect limits bounds store version _ (small_error version text fits) h

pub effects_fit : EffectsFit
effects_fit limits store version id [] written bounds h small s = small_effect limits bounds store version null (small_null version) h
effects_fit limits store version id (name ∷ arguments) written bounds h small s =
    effect_fits limits bounds store version id (operation_of name arguments) small h
    (operation_fits limits name arguments (spelled_words_fit limits (name ∷ arguments) written s))
