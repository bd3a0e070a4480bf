use Rattle.std.proofs.Common.{◌≡◌, ◌∙◌, [], List, Option, Result, Ok, Err, IfOk, ap, map, sym, codes}
use Rattle.std.specs.Prelude.{option_map, unwrap_or}
use Rattle.std.specs.Borrow.{Bor}
use Rattle.clap.specs.Words.{Text, found_of}
use Rattle.clap.proofs.WalkLemmas.{raw_values-rows}
use Rattle.resp_cli_args.proofs.asking.words_of.Goals as goal

-- the texts of these words
abbrev texts : List (Bor Text) → List Text
texts words = map (λ word. word.now) words

ok_words : {X E : Type 0} (items : X → List (Bor Text)) (given : List (Bor Text)) (all : List Text) (r : Result X E) → texts given ≡ all →
    IfOk r (λ v. items v ≡ given) → IfOk r (λ v. texts (items v) ≡ all)
ok_words items given all (Ok v) same is = ap texts is ∙ same
ok_words items given all (Err e) same is = tt

pub returns-in-Some : goal.returns-in-Some
returns-in-Some c =
    let given = sym (ap (λ (r : Option (Bor (List (Bor Text)))). option_map (λ words. map (λ word. word.now) words.now) r) c.in-Some.is)
    ∙ c.get_strs.ensures ∙ raw_values-rows (found_of c.args.matches.now) (codes "words") in
    ok_words (λ v. v.items) c.in-Some.words.now _ c.from_slice.result (ap (λ o. unwrap_or o []) given) c.from_slice.ensures.items

pub returns-in-None : goal.returns-in-None
returns-in-None c =
    let given = sym (ap (λ (r : Option (Bor (List (Bor Text)))). option_map (λ words. map (λ word. word.now) words.now) r) c.in-None.is)
    ∙ c.get_strs.ensures ∙ raw_values-rows (found_of c.args.matches.now) (codes "words") in
    ap texts c.new.ensures.items ∙ ap (λ o. unwrap_or o []) given
