use Rattle.std.specs.Result.{is_err, is_ok}
use Rattle.std.specs.Prelude.{if◌then◌else◌}
use Rattle.std.proofs.Common.{rules, ◌≡◌, arith, Bool, true, false, Result, Ok, Err, OnOk, refl, ℕ, ◌++◌, ◌∷◌, [], List, length, Option, Some, None, sym, ap, ◌∙◌}
use Rattle.std.specs.List.{IsDistinct}
use Rattle.std.specs.Map.{keys_of, lookup}
use Rattle.std.specs.Str.{bytes_eq}
use Rattle.std.proofs.lemmas.List.{length-append}
use Rattle.indexmap.specs.IndexMap.{IndexMap, insert_entry}
use Rattle.indexmap.proofs.CallerLemmas.{insert_entry-new}
use Rattle.resp_value.specs.Values.{content_bytes}
use Rattle.resp_session.specs.Stores.{store_with, value_at}
use Rattle.resp_server.specs.Entries.{HoldsRows, Rows, entries_in, same_bytes}
use Rattle.resp_server.specs.declared.row.Row.{Row}
use Rattle.resp_server.proofs.StoreEntries.{Bytes}
use Rattle.resp_server.proofs.StorePlaces.{added, no_row}
use Rattle.resp_server.proofs.store.Store.add.Goals as goal

-- a key without a value stands last, where a map puts its row last and a list the row's index
stands_last : {S : Type 0} (rows : IndexMap Bytes Row S) (places : List (Option ℕ)) → HoldsRows rows.entries places → (key : Bytes) (row : Row) →
    row.place ≡ length places → value_at (entries_in rows.entries places) key.items ≡ None → (rows' : Rows) →
    rows' ≡ insert_entry same_bytes rows.entries key row → IsDistinct same_bytes (keys_of rows') → (n : ℕ) → n ≡ length rows.entries →
    (places' : List (Option ℕ)) → places' ≡ places ++ Some n ∷ [] →
    HoldsRows rows' places' × (entries_in rows' places' ≡ store_with (entries_in rows.entries places) key.items row.value)
stands_last {S} rows places h key row placed absent rows' is distinct n size places' is' =
    let none : lookup (λ (k : Bytes). bytes_eq key.items k.items) rows.entries ≡ None = no_row h.in_place key.items absent in
    let last : rows' ≡ rows.entries ++ (key, row) ∷ [] = is ∙ insert_entry-new same_bytes rows key row none in
    let (in_place, entries) = added h.in_place key row placed none last distinct size is' in
    let one_row = ap length last ∙ length-append rows.entries ((key, row) ∷ []) in
    let one_place = ap length is' ∙ length-append places (Some n ∷ []) in
    let few = h.few in
    (record { in_place = in_place; few = omega (arith, few, one_row, one_place) }, entries)

not_err : {T E : Type 0} (r : Result T E) (failed : Bool) → failed ≡ is_err r → failed ≡ false → is_ok r ≡ true
not_err (Ok x) failed is ok = refl
not_err (Err e) failed is ok = absurd (cc)

on_ok : {T E : Type 0} (r : Result T E) (P : Type 0) → is_ok r ≡ true → OnOk r P → P
on_ok (Ok x) P ok p = p
on_ok (Err e) P ok p = absurd (cc)

pub returns-clause-added : goal.returns-clause-added
returns-clause-added g c =
    let i = c.self.inside in
    let pushed = c.push.ensures.items ∙ ap (λ b. if b then i.places.items ++ Some c.len-2.result ∷ [] else i.places.items)
    (not_err c.push.result c.is_err.result c.is_err.ensures.value c.if-is_err.false) in
    let ok : c.is_ok-is_added.result ≡ true = search rules in
    let inserted = on_ok c.insert-added.result _ (sym c.is_ok-is_added.ensures.value ∙ ok) c.insert-added.ensures.entries in
    let last = stands_last i.rows i.places.items c.self.invariant c.into_vec.result (record { place = c.len.result; value = c.new.result })
    (c.len.ensures ∙ i.places.ok.0)
    (ap (λ es. value_at es c.into_vec.result.items) c.self.view_is ∙ ap (value_at c.args.self.now) c.into_vec.ensures ∙ c.requires)
    c.insert-added.new.self.entries inserted c.insert-added.ensures.unique c.len-2.result c.len-2.ensures.len c.push.new.self.items
    pushed in
    last.1 ∙ ap (λ k. store_with (entries_in i.rows.entries i.places.items) k c.new.result) c.into_vec.ensures ∙
    ap (store_with (entries_in i.rows.entries i.places.items) (content_bytes c.args.key)) c.new.ensures ∙
    ap (λ es. store_with es (content_bytes c.args.key) (content_bytes c.args.value)) c.self.view_is

pub invariant_of-self-else-not-is_added : goal.invariant_of-self-else-not-is_added
invariant_of-self-else-not-is_added g c =
    let i = c.self.inside in
    let pushed = c.push.ensures.items ∙ ap (λ b. if b then i.places.items ++ Some c.len-2.result ∷ [] else i.places.items)
    (not_err c.push.result c.is_err.result c.is_err.ensures.value c.if-is_err.false) in
    let ok : c.is_ok-is_added.result ≡ true = search rules in
    let inserted = on_ok c.insert-added.result _ (sym c.is_ok-is_added.ensures.value ∙ ok) c.insert-added.ensures.entries in
    (stands_last i.rows i.places.items c.self.invariant c.into_vec.result (record { place = c.len.result; value = c.new.result })
    (c.len.ensures ∙ i.places.ok.0)
    (ap (λ es. value_at es c.into_vec.result.items) c.self.view_is ∙ ap (value_at c.args.self.now) c.into_vec.ensures ∙ c.requires)
    c.insert-added.new.self.entries inserted c.insert-added.ensures.unique c.len-2.result c.len-2.ensures.len c.push.new.self.items
    pushed).0
