use Rattle.std.proofs.Common.{rules, ◌≡◌, ◌∷◌, [], true, false, ap, refl, ◌∙◌}
use Rattle.std.specs.Prelude.{codes, option_map}
use Rattle.std.specs.Str.{bytes_eq}
use Rattle.resp_session.specs.Operations.{is_name}
use Rattle.resp_server.specs.Names.{is_client_name}
use Rattle.resp_server.proofs.HelloOptions.{asks_so, bad_name, default_user, named, no_password, unknown}
use Rattle.resp_server.proofs.databases.options.options.Goals as goal

pub returns-in_default-next : goal.returns-in_default-next
returns-in_default-next c =
    let name = option_map (λ n. n.now) c.loop-option.name in
    let option = c.in-Some.option.now in
    let none : c.next-in-Some.new.self ≡ [] = search rules in
    let words : c.loop-option.words ≡ option ∷ [] = c.in-Some.ensures.steps ∙ ap (λ w. option ∷ w) (search rules) in
    asks_so c.args.version name c.loop-option.words c.args.words (option ∷ []) _ words refl c.loop-option.invariant.read

pub returns-then-not-is_client_name : goal.returns-then-not-is_client_name
returns-then-not-is_client_name c =
    let v = c.args.version in
    let name = option_map (λ n. n.now) c.loop-option.name in
    let option = c.in-Some.option.now in
    let word = c.in-Some-next.word.now in
    let rest = c.next-in-Some.new.self in
    let words : c.loop-option.words ≡ option ∷ word ∷ rest = c.in-Some.ensures.steps ∙ ap (λ w. option ∷ w) c.in-Some-next.ensures.steps in
    let set : is_name (codes "setname") option ≡ true = search rules in
    let bad : is_client_name word ≡ false = search rules in
    asks_so v name c.loop-option.words c.args.words (option ∷ word ∷ rest) _ words (bad_name v name option word rest set bad) c.loop-option.invariant.read

pub loop-option-preserved-then-is_name : goal.loop-option-preserved-then-is_name
loop-option-preserved-then-is_name c =
    let v = c.args.version in
    let name = option_map (λ n. n.now) c.loop-option.name in
    let option = c.in-Some.option.now in
    let word = c.in-Some-next.word.now in
    let rest = c.next-in-Some.new.self in
    let words : c.loop-option.words ≡ option ∷ word ∷ rest = c.in-Some.ensures.steps ∙ ap (λ w. option ∷ w) c.in-Some-next.ensures.steps in
    let set : is_name (codes "setname") option ≡ true = search rules in
    let good : is_client_name word ≡ true = search rules in
    record {
      read = asks_so v name c.loop-option.words c.args.words (option ∷ word ∷ rest) _ words (named v name option word rest set good)
          c.loop-option.invariant.read;
    }

pub returns-then-not-is_name : goal.returns-then-not-is_name
returns-then-not-is_name c =
    let v = c.args.version in
    let name = option_map (λ n. n.now) c.loop-option.name in
    let option = c.in-Some.option.now in
    let word = c.in-Some-next.word.now in
    let rest = c.next-in-Some.new.self in
    let words : c.loop-option.words ≡ option ∷ word ∷ rest = c.in-Some.ensures.steps ∙ ap (λ w. option ∷ w) c.in-Some-next.ensures.steps in
    let set : is_name (codes "setname") option ≡ false = search rules in
    let auth : is_name (codes "auth") option ≡ false = search rules in
    asks_so v name c.loop-option.words c.args.words (option ∷ word ∷ rest) _ words (unknown v name option word rest set auth) c.loop-option.invariant.read

pub returns-in_default-next-2 : goal.returns-in_default-next-2
returns-in_default-next-2 c =
    let v = c.args.version in
    let name = option_map (λ n. n.now) c.loop-option.name in
    let option = c.in-Some.option.now in
    let word = c.in-Some-next.word.now in
    let none : c.next-in-Some.new.self ≡ [] = search rules in
    let words : c.loop-option.words ≡ option ∷ word ∷ [] =
    c.in-Some.ensures.steps ∙ ap (λ w. option ∷ w) (c.in-Some-next.ensures.steps ∙ ap (λ w. word ∷ w) none) in
    let set : is_name (codes "setname") option ≡ false = search rules in
    asks_so v name c.loop-option.words c.args.words (option ∷ word ∷ []) _ words (no_password v name option word set) c.loop-option.invariant.read

pub returns : goal.returns
returns c =
    let words : c.loop-option.words ≡ [] = search rules in
    asks_so c.args.version (option_map (λ n. n.now) c.loop-option.name) c.loop-option.words c.args.words [] _ words refl c.loop-option.invariant.read

pub loop-option-preserved : goal.loop-option-preserved
loop-option-preserved c =
    let v = c.args.version in
    let name = option_map (λ n. n.now) c.loop-option.name in
    let option = c.in-Some.option.now in
    let word = c.in-Some-next.word.now in
    let next = c.in-Some-next-2._password.now in
    let rest = c.next-in-Some-2.new.self in
    let words : c.loop-option.words ≡ option ∷ word ∷ next ∷ rest =
    c.in-Some.ensures.steps ∙ ap (λ w. option ∷ w) (c.in-Some-next.ensures.steps ∙ ap (λ w. word ∷ w) c.in-Some-next-2.ensures.steps) in
    let set : is_name (codes "setname") option ≡ false = search rules in
    let auth : is_name (codes "auth") option ≡ true = search rules in
    let same : bytes_eq word (codes "default") ≡ true = search rules in
    record {
      read = asks_so v name c.loop-option.words c.args.words (option ∷ word ∷ next ∷ rest) _ words
          (default_user v name option word next rest set auth same) c.loop-option.invariant.read;
    }
