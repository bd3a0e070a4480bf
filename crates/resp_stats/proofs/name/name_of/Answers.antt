use Rattle.std.proofs.Common.{rules, ◌≡◌, ◌∙◌, ◌++◌, ◌∷◌, [], take, map, sym, slice_index_or, true}
use Rattle.resp_stats.specs.Names.{has_subcommands, name_byte}
use Rattle.resp_stats.proofs.NameLemmas.{named_by_two, two_words}
use Rattle.resp_stats.proofs.name.name_of.Goals as goal

pub returns-then-has_subcommands : goal.returns-then-has_subcommands
returns-then-has_subcommands c =
    let words = c.args.words.now in
    let first = slice_index_or words 0 [] in
    let second = slice_index_or words 1 [] in
    let has : has_subcommands first ≡ true = search rules in
    let name : c.add-then-has_subcommands.new.self.text.items ≡ take 20 (take 20 (take 20 (map name_byte first) ++ 32 ∷ []) ++ map name_byte second) = search rules in
    name ∙ two_words (map name_byte first) (map name_byte second) ∙ sym (named_by_two words (search rules) has)
