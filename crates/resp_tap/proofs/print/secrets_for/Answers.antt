use Rattle.std.proofs.Common.{rules}
use Rattle.resp_tap.proofs.KeptPrinting.{hidden_secrets, shown_secrets}
use Rattle.resp_tap.proofs.print.secrets_for.Goals as goal

pub returns-then-options : goal.returns-then-options
returns-then-options c = λ whole lengths are.
    shown_secrets c.args.options.shown.most c.args.options.kept.most whole c.args.words.now lengths c.args.options.shows_passwords are (search rules)

pub returns-else-options : goal.returns-else-options
returns-else-options c = λ whole lengths are.
    hidden_secrets c.args.options.shown.most c.args.options.kept.most whole c.args.words.now lengths c.args.options.shows_passwords c.of.result are (search rules) c.of.ensures
