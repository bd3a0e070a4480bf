use Rattle.std.proofs.Common.{rules, ◌≡◌, ◌++◌, ◌∷◌, [], List, length, ℕ, sym, subst, true}
use Rattle.resp_stats.specs.Rows.{has_name}
use Rattle.resp_stats.specs.declared.row.CommandRow.{CommandRow}
use Rattle.resp_stats.proofs.RowLemmas.{added_has}
use Rattle.resp_stats.proofs.counts.Counts.find_or_add.Goals as goal

pub returns-clause-named : goal.returns-clause-named
returns-clause-named c = λ some.
    let rows = c.args.self.now.rows.items in
    let place : c.len-place.result ≡ length rows = search rules in
    let added : c.push.new.self.items ≡ rows ++ c.new.result ∷ [] = search rules in
    let name : c.new.result.name.text.items ≡ c.args.name.now.text.items = search rules in
    subst (λ (n : ℕ). has_name c.args.name.now.text.items c.push.new.self.items n ≡ true) (sym place)
    (subst (λ (l : List CommandRow). has_name c.args.name.now.text.items l (length rows) ≡ true) (sym added)
    (added_has c.args.name.now.text.items rows c.new.result name))
