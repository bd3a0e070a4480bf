use Rattle.std.proofs.Common.{inl, refl, subst, sym}
use Rattle.clap.specs.Words.{App}
use Rattle.clap.specs.declared.error.kind.ErrorKind.TheVariants.{ArgumentConflict, MissingSubcommand, ValueValidation}
use Rattle.resp_cli_args.specs.CommandWords.{AreWrong, AskFor, AskForHelp}
use Rattle.resp_cli_args.specs.declared.asked.Invocation.TheVariants.{Stream}
use Rattle.resp_cli_args.specs.Commands.{depth_twice, help_of_show, no_task, served, too_deep}
use Rattle.resp_cli_args.specs.Program.{resp_app}
use Rattle.resp_cli_args.proofs.CommandExamples.{depth_is_refused, help_is_asked, no_task_is_refused, repetition_is_refused, serve_asks_for_no_stream, serve_is_taken, wrong_of_kind}
use Rattle.resp_cli_args.proofs.laws.other_words_ask_for_no_options.Goals as goal

pub returns : goal.returns
returns c = record {
  too_deep = λ program is. subst (λ (p : App). AreWrong AskFor p too_deep) (sym is.2)
      (wrong_of_kind (resp_app is.0) too_deep ValueValidation (depth_is_refused is.0) (λ e. cc) (λ e. cc));
  depth_twice = λ program is. subst (λ (p : App). AreWrong AskFor p depth_twice) (sym is.2)
      (wrong_of_kind (resp_app is.0) depth_twice ArgumentConflict (repetition_is_refused is.0) (λ e. cc) (λ e. cc));
  no_task = λ program is. subst (λ (p : App). AreWrong AskFor p no_task) (sym is.2)
      (wrong_of_kind (resp_app is.0) no_task MissingSubcommand (no_task_is_refused is.0) (λ e. cc) (λ e. cc));
  served = λ program is.
      (rw is.2 (serve_is_taken is.0), λ options asks. serve_asks_for_no_stream is.0 options (subst (λ (p : App). AskFor p served (Stream options)) is.2 asks));
  help = λ program is. subst (λ (p : App). AskForHelp p help_of_show) (sym is.2) (inl (rw (help_is_asked is.0) (inl refl)));
}
