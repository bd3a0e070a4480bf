use Rattle.std.proofs.Common.{◌++◌, [], length, map, sym, ap, ◌∙◌, subst, arith, length-append}
use Rattle.std.proofs.lemmas.List.{take_all, length-map}
use Rattle.resp_value.specs.Bytes.{crlf}
use Rattle.resp_value.specs.Data.{data_of_list}
use Rattle.resp_value.specs.Trees.{texts}
use Rattle.resp_value.specs.Canonical.{canonical_trees}
use Rattle.resp_value.specs.declared.version.Version.TheVariants.{Two}
use Rattle.resp_value.specs.Words.{word_datum, texts_of}
use Rattle.resp_encode.specs.Walks.Writings.{Fills}
use Rattle.resp_encode.proofs.SoFar.{word_text_more, word_room}
use Rattle.resp_encode.proofs.Texts.{Writes-none, Writes-append, length-head}
use Rattle.resp_encode.proofs.words.write_each.Goals as goal

pub loop-word-init : goal.loop-word-init
loop-word-init c = Writes-none c.args.out.now

pub write_string-requires : goal.write_string-requires
write_string-requires c =
    let word = c.as_slice.result.now in
    omega (
      arith,
      c.requires,
      c.loop-word.invariant.spare,
      word_room c.args.words.now c.loop-word.word-index c.word-item.result c.loop-word-test.true
          (c.as_slice.ensures.value ∙ ap (λ w. w.items) c.word-item.is),
      length-head 36 (length word) (word ++ crlf []),
      length-append word (crlf []),
    )

pub loop-word-preserved : goal.loop-word-preserved
loop-word-preserved c =
    subst (Fills c.args.out.now c.write_string.new.out)
    (sym (word_text_more c.args.words.now c.loop-word.word-index c.word-item.result c.loop-word-test.true
    (c.as_slice.ensures.value ∙ ap (λ w. w.items) c.word-item.is)))
    (Writes-append c.loop-word.invariant c.write_string.ensures)

pub returns : goal.returns
returns c =
    subst (λ xs. Fills c.args.out.now c.loop-word.out (texts (canonical_trees Two (data_of_list (map word_datum xs)))))
    (take_all c.loop-word.word-index (texts_of c.args.words.now)
    (omega (arith, length-map c.args.words.now (λ word. word.items), c.loop-word-test.false)))
    c.loop-word.invariant
