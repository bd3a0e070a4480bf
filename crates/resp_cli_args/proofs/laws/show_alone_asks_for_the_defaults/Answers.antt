use Rattle.std.proofs.Common.{subst, sym}
use Rattle.clap.specs.Words.{App}
use Rattle.resp_cli_args.specs.CommandWords.{AskFor}
use Rattle.resp_cli_args.specs.Commands.{show_alone}
use Rattle.resp_cli_args.specs.declared.asked.Invocation.TheVariants.{Stream}
use Rattle.resp_cli_args.proofs.CommandExamples.{defaults_are_asked}
use Rattle.resp_cli_args.proofs.laws.show_alone_asks_for_the_defaults.Goals as goal

pub returns : goal.returns
returns c = λ program is options are.
    subst (λ (p : App). AskFor p show_alone (Stream options)) (sym is.2) (defaults_are_asked is.0 is.1 options are)
