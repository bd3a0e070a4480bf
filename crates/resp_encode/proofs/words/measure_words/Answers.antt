use Rattle.std.proofs.Common.{map, take, sym, ap, ◌∙◌, subst, arith}
use Rattle.std.proofs.lemmas.List.{take_all, length-map}
use Rattle.resp_value.specs.Data.{data_of_list}
use Rattle.resp_value.specs.Canonical.{AreValues}
use Rattle.resp_value.specs.declared.version.Version.TheVariants.{Two}
use Rattle.resp_encode.specs.Walks.Measures.{DescribesEach}
use Rattle.resp_value.specs.Words.{word_datum, texts_of}
use Rattle.resp_encode.proofs.Extended.{values_with}
use Rattle.resp_encode.proofs.SoFar.{word_take_more}
use Rattle.resp_encode.proofs.words.measure_words.Goals as goal

pub loop-word-init : goal.loop-word-init
loop-word-init c = record { found = c.nothing-found.ensures Two; are_values = tt }

pub loop-word-preserved : goal.loop-word-preserved
loop-word-preserved c =
    let i = c.loop-word.word-index in
    let front = data_of_list (map word_datum (take i (texts_of c.args.words.now))) in
    let word = word_datum c.as_slice.result.now in
    let one_more = word_take_more c.args.words.now i c.word-item.result c.loop-word-test.true
    (c.as_slice.ensures.value ∙ ap (λ w. w.items) c.word-item.is) in
    record {
      found = subst (λ xs. DescribesEach Two xs c.with-found.result) (sym one_more)
          (c.with-found.ensures Two front word c.loop-word.invariant.found (c.measure_bulk.ensures.found Two));
      are_values = subst AreValues (sym one_more)
          (values_with front word c.loop-word.invariant.are_values c.measure_bulk.ensures.is_text);
    }

pub returns : goal.returns
returns c =
    let whole = ap (λ xs. data_of_list (map word_datum xs)) (take_all c.loop-word.word-index (texts_of c.args.words.now)
    (omega (arith, length-map c.args.words.now (λ word. word.items), c.loop-word-test.false))) in
    record {
      found = subst (λ xs. DescribesEach Two xs c.loop-word.found) whole c.loop-word.invariant.found;
      are_values = subst AreValues whole c.loop-word.invariant.are_values;
    }
