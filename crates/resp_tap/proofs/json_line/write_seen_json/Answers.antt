use Rattle.std.proofs.Common.{◌∙◌, ap, subst, sym}
use Rattle.std.specs.Prelude.{Some}
use Rattle.resp_print.specs.Written.{WritesText}
use Rattle.resp_tap.specs.JsonLines.{command_json, seen_json}
use Rattle.resp_tap.specs.SeenOf.{IsKeptIn}
use Rattle.resp_tap.proofs.KeptWords.{kept_words_tell_the_same}
use Rattle.resp_tap.proofs.JsonLemmas.{reply_as, unpaired_as}
use Rattle.resp_tap.proofs.json_line.write_seen_json.Goals as goal

pub returns-in-Reply : goal.returns-in-Reply
returns-in-Reply g c = λ most whole kept.
    let facts = c.args.facts in
    let name = c.args.name.now in
    subst (WritesText _ _ _ _ c.write_reply.result)
    (reply_as facts _ name whole _ (subst (IsKeptIn (Some 1024) most whole) c.in-Reply.is kept) ∙
    ap (seen_json facts name whole) (sym c.in-Reply.is)) c.write_reply.ensures

pub returns-in-Value : goal.returns-in-Value
returns-in-Value g c = λ most whole kept.
    let facts = c.args.facts in
    subst (WritesText _ _ _ _ c.write_unpaired.result)
    (unpaired_as facts whole _ (subst (IsKeptIn (Some 1024) most whole) c.in-Value.is kept) ∙
    ap (seen_json facts c.args.name.now whole) (sym c.in-Value.is)) c.write_unpaired.ensures

pub returns-in-Command : goal.returns-in-Command
returns-in-Command g c = λ most whole kept.
    let facts = c.args.facts in
    let tells = kept_words_tell_the_same _ _ _ _ _ (subst (IsKeptIn (Some 1024) most whole) c.in-Command.is kept) in
    subst (WritesText _ _ _ _ c.write_words.result)
    ((λ i. command_json facts c.in-Command.number (tells.called i) (tells.count i)) ∙
    ap (seen_json facts c.args.name.now whole) (sym c.in-Command.is)) c.write_words.ensures
