use Rattle.std.proofs.Common.{◌≡◌, Some, sym, ◌∙◌, arith}
use Rattle.std.specs.List.{slice_get}
use Rattle.std.proofs.lemmas.Option.{slice_get_within}
use Rattle.resp_server.specs.declared.row.Row.{Row}
use Rattle.resp_server.proofs.StoreEntries.{Bytes}
use Rattle.resp_server.proofs.StorePlaces.{gone_last, gone_moved, was_last}
use Rattle.resp_server.proofs.store.remove_row.Goals as goal

pub index_mut-requires : goal.index_mut-requires
index_mut-requires g c =
    let places = c.args.places.now in
    let gone : Bytes × Row = c.in-Some.removed in
    let at : slice_get c.args.rows.now.entries c.args.index ≡ Some gone = sym c.swap_remove_index.ensures.entry ∙ c.in-Some.is in
    let within = slice_get_within places.items gone.1.place (Some c.args.index) (c.requires.before.there c.args.index gone at) in
    let size = places.ok.0 in
    omega (arith, within, size)

pub index_mut-requires-in-Some-get_index : goal.index_mut-requires-in-Some-get_index
index_mut-requires-in-Some-get_index g c =
    let rows = c.args.rows.now.entries in
    let places = c.args.places.now in
    let gone : Bytes × Row = c.in-Some.removed in
    let moved : Bytes × Row = (c.in-Some-get_index.field-0-0.now, c.in-Some-get_index.moved.now) in
    let at : slice_get rows c.args.index ≡ Some gone = sym c.swap_remove_index.ensures.entry ∙ c.in-Some.is in
    let last = was_last rows c.args.index gone at c.swap_remove_index.new.self.entries c.in-Some.ensures.entries moved
    (sym c.in-Some-get_index.ensures.entry) in
    let within = slice_get_within places.items moved.1.place _ (c.requires.before.there _ moved last) in
    let size = places.ok.0 in
    omega (arith, within, size)

pub returns-in-Some-get_index : goal.returns-in-Some-get_index
returns-in-Some-get_index g c =
    let rows = c.args.rows.now.entries in
    let h = c.requires.before in
    let i = c.args.index in
    let gone : Bytes × Row = c.in-Some.removed in
    let moved : Bytes × Row = (c.in-Some-get_index.field-0-0.now, c.in-Some-get_index.moved.now) in
    let at : slice_get rows i ≡ Some gone = sym c.swap_remove_index.ensures.entry ∙ c.in-Some.is in
    gone_moved h gone at c.swap_remove_index.new.self.entries c.in-Some.ensures.entries c.swap_remove_index.ensures.unique moved
    (sym c.in-Some-get_index.ensures.entry)

pub returns-in_default-get_index : goal.returns-in_default-get_index
returns-in_default-get_index g c =
    let rows = c.args.rows.now.entries in
    let h = c.requires.before in
    let i = c.args.index in
    let gone : Bytes × Row = c.in-Some.removed in
    let at : slice_get rows i ≡ Some gone = sym c.swap_remove_index.ensures.entry ∙ c.in-Some.is in
    gone_last h gone at c.swap_remove_index.new.self.entries c.in-Some.ensures.entries c.swap_remove_index.ensures.unique
    (sym c.in_default-get_index.ensures.entry)
