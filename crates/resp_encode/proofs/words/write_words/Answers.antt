use Rattle.std.proofs.Common.{Vec, Global, ◌≡◌, ◌+◌, ℕ, List, [], length, map, sym, ap, ◌∙◌, subst, arith}
use Rattle.resp_value.specs.Data.{data_of_list}
use Rattle.resp_value.specs.Data as d
use Rattle.resp_value.specs.Trees.{texts}
use Rattle.resp_value.specs.Canonical.{canonical_text, canonical_trees}
use Rattle.resp_value.specs.declared.version.Version.TheVariants.{Two}
use Rattle.resp_value.specs.Numbers.{decimal}
use Rattle.resp_value.specs.Words.{command_of, word_datum, texts_of}
use Rattle.resp_encode.specs.Walks.Writings.{Fills}
use Rattle.resp_encode.proofs.Counts.{count-words}
use Rattle.resp_encode.proofs.Texts.{Writes-append, aggregate_text, head_split, length-head}
use Rattle.resp_encode.proofs.words.write_words.Goals as goal

-- the length of a command's text
command_length : (words : List (Vec ℕ Global)) → length (canonical_text Two (command_of (texts_of words))) ≡
    length (decimal (length words)) + 3 + length (texts (canonical_trees Two (data_of_list (map word_datum (texts_of words)))))
command_length words =
    let xs = data_of_list (map word_datum (texts_of words)) in
    ap length (aggregate_text Two d.Array xs (length words) (count-words words)) ∙ length-head 42 (length words) (texts (canonical_trees Two xs))

pub write_head-requires : goal.write_head-requires
write_head-requires c =
    omega (arith, c.requires, command_length c.args.words.now)

pub write_each-requires : goal.write_each-requires
write_each-requires c =
    omega (arith, c.requires, c.write_head.ensures.spare, length-head 42 (length c.args.words.now) [], command_length c.args.words.now)

pub returns : goal.returns
returns c =
    let words = c.args.words.now in
    let xs = data_of_list (map word_datum (texts_of words)) in
    subst (Fills c.args.out.now c.write_each.new.out)
    (head_split 42 (length words) (texts (canonical_trees Two xs)) ∙
    sym (aggregate_text Two d.Array xs (length words) (count-words words)))
    (Writes-append c.write_head.ensures c.write_each.ensures)
