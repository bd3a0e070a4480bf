use Rattle.std.proofs.Common.{rules, arith, ◌≡◌, ◌<◌, ◌≤◌, ◌+◌, ◌||◌, Bool, true, false, ℕ, List, [], drop, get_or, length, ap, sym, ◌∙◌}
use Rattle.std.proofs.lemmas.List.{at_drop_all, at_drop_more}
use Rattle.resp_session.specs.Operations.{is_name}
use Rattle.resp_tap.specs.Kinds.{has_word}
use Rattle.resp_tap.proofs.kind.has_argument.Goals as goal

-- the next word, and the rest
next_word : (name : List ℕ) (words : List (List ℕ)) (index : ℕ) (word : List ℕ) → index < length words → word ≡ get_or words index [] →
    has_word name (drop index words) ≡ (is_name name word || has_word name (drop (index + 1) words))
next_word name words index word below is =
    at_drop_more (has_word name) words index [] below ∙ ap (λ w. is_name name w || has_word name (drop (index + 1) words)) (sym is)

found : (a b : Bool) → a ≡ true → (a || b) ≡ true
found a b e = grind (arith, e)

passed : (a b : Bool) → a ≡ false → (a || b) ≡ b
passed a b e = grind (arith, e)

pub returns-then-is_name : goal.returns-then-is_name
returns-then-is_name c =
    let yes : is_name c.args.name.now c.word.result.now ≡ true = search rules in
    sym (c.loop-index.invariant.rest ∙
    next_word c.args.name.now c.args.words.now c.loop-index.index c.word.result.now (search rules) c.word.ensures ∙ found _ _ yes)

pub loop-index-preserved : goal.loop-index-preserved
loop-index-preserved c =
    let no : is_name c.args.name.now c.word.result.now ≡ false = search rules in
    record {
      first = omega (arith, c.loop-index.invariant.first);
      rest = c.loop-index.invariant.rest ∙
          next_word c.args.name.now c.args.words.now c.loop-index.index c.word.result.now (search rules) c.word.ensures ∙ passed _ _ no;
    }

pub returns : goal.returns
returns c =
    let words = c.args.words.now in
    let over : length words ≤ c.loop-index.index = search rules in
    sym (c.loop-index.invariant.rest ∙ at_drop_all (has_word c.args.name.now) words c.loop-index.index over)
