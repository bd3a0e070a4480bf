use Rattle.std.proofs.Common.{◌<◌, [], length, map, take, get_or, sym, ap, ◌∙◌, subst, arith}
use Rattle.std.proofs.lemmas.List.{take_all, length-map, get_or-map}
use Rattle.resp_value.specs.Data.{data_of_list}
use Rattle.resp_value.specs.declared.version.Version.TheVariants.{Two}
use Rattle.resp_value.specs.Words.{word_datum}
use Rattle.resp_encode.specs.Walks.Measures.{DescribesEach}
use Rattle.resp_encode.proofs.SoFar.{data-take_more}
use Rattle.resp_encode.proofs.words.measure_lengths.Goals as goal

pub loop-counted-init : goal.loop-counted-init
loop-counted-init c = λ words lengths. c.nothing-found.ensures Two

pub loop-counted-preserved : goal.loop-counted-preserved
loop-counted-preserved c = λ words lengths.
    let i = c.loop-counted.counted-index in
    let within : i < length words = omega (
      arith,
      length-map words (λ word. length word),
      ap length lengths.counted,
      c.loop-counted-test.true,
    ) in
    let word = get_or words i [] in
    let counted = sym (get_or-map (λ word. length word) words i [] 0 within) ∙ ap (λ ns. get_or ns i 0) lengths.counted in
    subst (λ xs. DescribesEach Two xs c.with-found.result) (sym (data-take_more word_datum words i [] within))
    (c.with-found.ensures Two (data_of_list (map word_datum (take i words))) (word_datum word)
    (c.loop-counted.invariant words lengths) (c.measure_bulk_of.ensures Two word counted))

pub returns : goal.returns
returns c = λ words lengths.
    let whole = ap (λ xs. data_of_list (map word_datum xs)) (take_all c.loop-counted.counted-index words
    (omega (arith, length-map words (λ word. length word), ap length lengths.counted, c.loop-counted-test.false))) in
    subst (λ xs. DescribesEach Two xs c.loop-counted.found) whole (c.loop-counted.invariant words lengths)
