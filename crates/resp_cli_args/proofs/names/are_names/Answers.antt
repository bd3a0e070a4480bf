use Rattle.std.proofs.Common.{lit<, rules, tests}
use Rattle.std.proofs.lemmas.Bool.{MatchBool-at_true}
use Rattle.std.proofs.lemmas.Iterator.{cases_from_all}
use Rattle.std.proofs.lemmas.Iterator.Search.{true_from_All}
use Rattle.std.proofs.lemmas.Iterator.Splits.{YieldsList-from_str_split}
use Rattle.std.proofs.lemmas.List.Elements.{All-from_all_within}
use Rattle.resp_cli_args.specs.Names.{IsName}
use Rattle.resp_cli_args.proofs.NameLemmas.{are_names_from_parts, names_in_parts, parts}
use Rattle.resp_cli_args.proofs.names.are_names.Goals as goal

pub returns : goal.returns
returns c =
    let text = c.args.text.now in
    let said = c.split.ensures in
    let split = YieldsList-from_str_split 44 text (lit< tt) said.text said.has_more said.pattern in
    let all = cases_from_all _ _ _ IsName (λ part. IsName part → ⊥) c.all.ensures.ran split
    (λ x q k. search (rules, tests)) (λ x q k. search (rules, tests)) in (
      λ yes. are_names_from_parts text (All-from_all_within IsName (parts text) (MatchBool-at_true _ _ yes all)),
      λ are. true_from_All IsName (λ part. IsName part → ⊥) _ _ (λ part is no. no is) all (names_in_parts text are),
    )
