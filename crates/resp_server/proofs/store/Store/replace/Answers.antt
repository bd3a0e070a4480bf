use Rattle.std.proofs.Common.{sym, ap, ◌∙◌, arith}
use Rattle.std.specs.Cmp.Lexicographic.{bytes_decides}
use Rattle.std.specs.Str.{bytes_eq}
use Rattle.resp_value.specs.Values.{content_bytes}
use Rattle.resp_session.specs.Stores.{store_with, value_at}
use Rattle.resp_server.specs.Entries.{entries_in}
use Rattle.resp_server.proofs.StoreEntries.{Bytes}
use Rattle.resp_server.proofs.StorePlaces.{as_many_stay, key_at, no_value, not_found, row_at, written_entries, written_in_place}
use Rattle.resp_server.proofs.store.Store.replace.Goals as goal

pub returns-in_default-clause-not_there : goal.returns-in_default-clause-not_there
returns-in_default-clause-not_there g c some =
    let i = c.self.inside in
    let key = c.args.key.now in
    ap (λ es. value_at es key) (sym c.self.view_is) ∙ no_value c.self.invariant.in_place key
    (not_found (λ (k : Bytes). bytes_eq key k.items) i.rows.entries c.in_default.ensures.found)

pub invariant_of-self : goal.invariant_of-self
invariant_of-self g c =
    let i = c.self.inside in
    let (key, at) = row_at i.rows.entries c.in-Some.index c.in-Some-get_index_mut.row.now c.in-Some-get_index_mut.ensures.value in
    record {
      in_place = written_in_place c.self.invariant.in_place c.in-Some.index key c.in-Some-get_index_mut.row.now c.set.new.self
          at c.set.ensures.place;
      few = let size = as_many_stay i.rows.entries c.in-Some.index c.set.new.self in let few = c.self.invariant.few in omega (arith, few, size);
    }

pub returns-clause-set : goal.returns-clause-set
returns-clause-set g c =
    let i = c.self.inside in
    let asked = c.args.key.now in
    let (key, at) = row_at i.rows.entries c.in-Some.index c.in-Some-get_index_mut.row.now c.in-Some-get_index_mut.ensures.value in
    let is = (bytes_decides asked key.items).0 (key_at (λ (k : Bytes). bytes_eq asked k.items) i.rows.entries
    (key, c.in-Some-get_index_mut.row.now) (sym c.in-Some.ensures.index) at) in
    written_entries c.self.invariant.in_place c.in-Some.index key c.in-Some-get_index_mut.row.now c.set.new.self at ∙
    ap (λ k. store_with (entries_in i.rows.entries i.places.items) k c.set.new.self.value) (sym is) ∙
    ap (store_with (entries_in i.rows.entries i.places.items) asked) c.set.ensures.value ∙
    ap (λ es. store_with es asked (content_bytes c.args.value)) c.self.view_is
