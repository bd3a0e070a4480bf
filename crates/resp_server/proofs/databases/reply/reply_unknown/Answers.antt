use Rattle.std.proofs.Common.{◌++◌, sym, ap, ◌∙◌, append_assoc, codes}
use Rattle.resp_server.specs.Names.{shown_word}
use Rattle.resp_server.proofs.databases.reply.reply_unknown.Goals as goal

pub returns-clause-appended : goal.returns-clause-appended
returns-clause-appended c =
    let old = c.args.out.now.items in
    let head = codes "-ERR unknown subcommand '" in
    let shown = shown_word 128 c.args.subcommand.now in
    let help = codes "'. Try CLIENT HELP." in
    let end = codes "\r\n" in
    c.extend_reserved-2.ensures.items ∙ ap (λ l. l ++ (help ++ end)) (c.append_shown.ensures.appended ∙
    ap (λ l. l ++ shown) (c.extend_reserved.ensures.items ∙ ap (λ l. l ++ head) c.in_ok-reserve.ensures.items)) ∙
    append_assoc (old ++ head) shown (help ++ end) ∙ append_assoc old head (shown ++ (help ++ end)) ∙
    ap (λ l. old ++ (head ++ l)) (sym (append_assoc shown help end))
