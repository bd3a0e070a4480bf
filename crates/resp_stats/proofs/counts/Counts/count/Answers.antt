use Rattle.std.proofs.Common.{rules, ◌≡◌, length, refl}
use Rattle.std.specs.Prelude.{slice_get, Some}
use Rattle.std.proofs.lemmas.Option.{slice_get_read}
use Rattle.resp_stats.proofs.RowLemmas.{counts_call}
use Rattle.resp_stats.proofs.counts.Counts.count.Goals as goal

pub returns : goal.returns
returns c =
    let rows = c.args.self.now.rows.items in
    let is : slice_get rows c.args.place ≡ Some c.index_mut.result.now = slice_get_read rows (length rows) c.args.place c.index_mut.result.now refl c.requires (search rules) in
    counts_call c.args.place c.args.call rows c.index_mut.result.now c.add.new.self c.requires is c.add.ensures
