use Rattle.std.proofs.Common.{true, false, subst, sym}
use Rattle.clap.specs.Words.{App}
use Rattle.resp_cli_args.specs.CommandWords.{AskFor}
use Rattle.resp_cli_args.specs.Commands.{explained_loop}
use Rattle.resp_cli_args.specs.declared.asked.Invocation.TheVariants.{Play}
use Rattle.resp_cli_args.proofs.CommandExamples.{loop_is_asked}
use Rattle.resp_cli_args.proofs.laws.loop_asks_to_play.Goals as goal

pub returns : goal.returns
returns c = λ program is name file. subst (λ (p : App). AskFor p explained_loop (Play true false name)) (sym is.2) (loop_is_asked is.0 name file)
