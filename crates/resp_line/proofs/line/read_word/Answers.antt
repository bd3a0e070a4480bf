use Rattle.std.proofs.Common.{rules, ◌≡◌, ◌∷◌, ◌∙◌, ap}
use Rattle.resp_line.specs.Lines.{quote_byte}
use Rattle.resp_line.proofs.WordLines.{bare_only, bare_word, ends_bare_word, ends_empty, only_quoted, quoted_none, quoted_only}
use Rattle.resp_line.proofs.line.read_word.Goals as goal

pub returns-in_default-clause-only : goal.returns-in_default-clause-only
returns-in_default-clause-only c =
    bare_only c.args.text.now c.in_ok-rest.rest.now c.args.word.now.items c.read_bare.new.word.items c.in_ok-rest.ensures.bare c.in_ok-rest.ensures.ends
    (ends_empty c.in_ok-rest.rest.now (search rules))

pub returns-in_default-of-clause-ended : goal.returns-in_default-of-clause-ended
returns-in_default-of-clause-ended c =
    let none = c.in_default-of.ensures.none in
    bare_word c.args.text.now c.in_ok-rest.rest.now c.args.word.now.items c.read_bare.new.word.items c.requires.empty
    c.in_ok-rest.ensures.bare c.requires.begins
    (ends_bare_word c.in_ok-rest.rest.now c.in-Some.inside.now c.in-Some.byte.now (search rules) c.in_ok-rest.ensures.ends none.0 none.1)

pub returns-in_default-of-clause-only : goal.returns-in_default-of-clause-only
returns-in_default-of-clause-only c =
    let none = c.in_default-of.ensures.none in
    bare_only c.args.text.now c.in_ok-rest.rest.now c.args.word.now.items c.read_bare.new.word.items c.in_ok-rest.ensures.bare c.in_ok-rest.ensures.ends
    (ends_bare_word c.in_ok-rest.rest.now c.in-Some.inside.now c.in-Some.byte.now (search rules) c.in_ok-rest.ensures.ends none.0 none.1)

pub returns-clause-only : goal.returns-clause-only
returns-clause-only c =
    let quote = c.in-Some-of.quote in
    let is : c.in_ok-rest.rest.now ≡ c.in-Some.byte.now ∷ c.in-Some.inside.now = search rules in
    let opens : c.in_ok-rest.rest.now ≡ quote_byte quote ∷ c.in-Some.inside.now = is ∙ ap (λ b. b ∷ c.in-Some.inside.now) c.in-Some-of.ensures.quote in
    quoted_only c.args.text.now c.in_ok-rest.rest.now c.in-Some.inside.now c.args.word.now.items c.read_bare.new.word.items quote c.in_ok-after.after
    c.word_end.result c.in_ok-rest.ensures.bare c.in_ok-rest.ensures.ends opens
    (only_quoted quote c.in_ok-rest.rest.now c.in-Some.inside.now c.in_ok-after.after opens c.in_ok-after.ensures.only c.in_ok-after.ensures.open)
    c.word_end.ensures.closed c.word_end.ensures.open

pub returns-clause-none : goal.returns-clause-none
returns-clause-none c =
    let quote = c.in-Some-of.quote in
    let is : c.in_ok-rest.rest.now ≡ c.in-Some.byte.now ∷ c.in-Some.inside.now = search rules in
    let opens : c.in_ok-rest.rest.now ≡ quote_byte quote ∷ c.in-Some.inside.now = is ∙ ap (λ b. b ∷ c.in-Some.inside.now) c.in-Some-of.ensures.quote in
    quoted_none c.args.text.now c.in_ok-rest.rest.now c.in-Some.inside.now c.args.word.now.items c.read_bare.new.word.items quote c.in_ok-after.after
    c.word_end.result c.in_ok-rest.ensures.bare c.in_ok-rest.ensures.ends opens
    (only_quoted quote c.in_ok-rest.rest.now c.in-Some.inside.now c.in_ok-after.after opens c.in_ok-after.ensures.only c.in_ok-after.ensures.open)
    c.word_end.ensures.glued
