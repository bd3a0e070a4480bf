use Rattle.std.proofs.Common.{◌++◌, ap, ◌∙◌, append_assoc, codes, decimal}
use Rattle.resp_value.specs.Canonical.{canonical_text}
use Rattle.resp_session.specs.Replies.{natural}
use Rattle.resp_server.specs.ReplyTexts.{greeting_begin, greeting_end}
use Rattle.resp_server.proofs.Replies.{greeting_text, number_text}
use Rattle.resp_server.proofs.reply.greeting.Goals as goal

pub returns-clause-appended : goal.returns-clause-appended
returns-clause-appended c =
    let old = c.args.out.now.items in
    let version = c.args.version in
    let id = c.args.id in
    let number = canonical_text version (natural id) in
    c.extend_reserved-2.ensures.items ∙ ap (λ end. c.append_number.new.out.items ++ end) c.greeting_end.ensures.end ∙
    ap (λ l. l ++ greeting_end) (c.append_number.ensures.appended ∙
    ap (λ l. ((l ++ codes ":") ++ decimal id) ++ codes "\r\n") (c.extend_reserved.ensures.items ∙
    ap (λ l. l ++ c.greeting_begin.result.now) c.in_ok-reserve.ensures.items ∙ ap (λ l. old ++ l) c.greeting_begin.ensures.begin) ∙
    number_text (old ++ greeting_begin version) version id (c.digits_are_those_of_std.ensures id c.ranges.id.fits) ∙ append_assoc old (greeting_begin version) number) ∙
    append_assoc old (greeting_begin version ++ number) greeting_end ∙ ap (λ l. old ++ l) (greeting_text version id)
