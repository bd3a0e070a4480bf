use Rattle.std.proofs.Common.{rules, ◌≡◌, ◌++◌, ◌∷◌, [], List, length, ℕ, sym, subst, true}
use Rattle.resp_proxy.specs.ErrorRows.{has_word}
use Rattle.resp_proxy.specs.declared.error_counts.ErrorRow.{ErrorRow}
use Rattle.resp_proxy.proofs.ErrorLemmas.{added_has}
use Rattle.resp_proxy.proofs.error_counts.ErrorCounts.place_of.Goals as goal

pub returns-clause-named : goal.returns-clause-named
returns-clause-named c = λ some.
    let rows = c.args.self.now.rows.items in
    let place : c.len-place.result ≡ length rows = search rules in
    let added : c.push.new.self.items ≡ rows ++ c.row_of.result ∷ [] = search rules in
    subst (λ (n : ℕ). has_word c.args.word.now c.push.new.self.items n ≡ true) (sym place)
    (subst (λ (l : List ErrorRow). has_word c.args.word.now l (length rows) ≡ true) (sym added)
    (added_has c.args.word.now rows c.row_of.result c.row_of.ensures.0))
