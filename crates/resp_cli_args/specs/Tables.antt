-- What the tables of subcommands and of their options mean to the parser.
use Rattle.std.specs.Prelude.{◌++◌, Bool, false, true, List, [], ◌∷◌, Some, length, map}
use Rattle.std.specs.Borrow.{Bor}
use Rattle.clap.specs.Lexer.{usize_max}
use Rattle.clap.specs.Words.{App, Rule, Text, app_of, new_app, new_rule, rule_of, with_subcommand}
use Rattle.clap.specs.declared.builder.ArgAction.TheVariants.{SetTrue}
use Rattle.clap.specs.declared.builder.arg.Arg.{Arg}
use Rattle.clap.specs.declared.builder.command.Command.{Command}
use Rattle.clap.specs.declared.builder.command.Command.TheViews.{out-Command}
use Rattle.clap.specs.declared.builder.value_parser.ValueParser.TheVariants as vp
use Rattle.resp_cli_args.specs.Program.{numbers_between, with_options}
use Rattle.resp_cli_args.specs.declared.parameter.Form.{Form}
use Rattle.resp_cli_args.specs.declared.parameter.Form.TheVariants as form
use Rattle.resp_cli_args.specs.declared.parameter.Parameter.{Parameter}
use Rattle.resp_cli_args.specs.declared.parser.Subcommand.{Subcommand}

-- a rule or a command that does not apply to other commands
abbrev pub here : {X : Type 0} → X → X × Bool
here x = (x, false)

-- the rule of an argument, and whether subcommands have the argument too
abbrev pub local_rule : Arg → Rule × Bool
local_rule arg = (rule_of arg, arg.global)

-- the options of a command, and whether one of them applies to other commands
abbrev pub local_app : Command → App × Bool
local_app command = (app_of command, (out-Command command).has_globals)

-- an option or an argument of this name that is written so
abbrev pub with_form : Form → Text → Rule → Rule
with_form form.Flag name rule = record rule { long = Some name; action = Some SetTrue }
with_form (form.ShortFlag short) name rule = record rule { short = Some short; action = Some SetTrue }
with_form form.Text name rule = record rule { long = Some name }
with_form (form.Between least most) name rule = record rule { long = Some name; parser = Some (numbers_between least most) }
with_form (form.OneOf texts) name rule = record rule { long = Some name; parser = Some (vp.Names texts) }
with_form form.Word name rule = rule
with_form form.LastBeforeRest name rule = record rule { trailing_var_arg = true }
with_form form.Rest name rule = record rule {
  range = Some (record { start_inclusive = 1; end_inclusive = usize_max });
  trailing_var_arg = true;
}

-- the option or the argument of a row of a table
abbrev pub parameter_rule : Parameter → Rule
parameter_rule row = with_form row.form row.name.now (record (new_rule row.name.now) {
  value_names = length row.value_names.now;
  defaults = map (λ text. text.now) row.defaults.now;
  required = row.is_required;
})

-- the options of several tables
abbrev pub rules_in : List (Bor (List Parameter)) → List Rule
rules_in [] = []
rules_in (table ∷ tables) = map parameter_rule table.now ++ rules_in tables

-- a subcommand with its options
abbrev pub subcommand_app : Subcommand → App
subcommand_app subcommand = with_options (new_app subcommand.texts.now.name.now) (rules_in subcommand.parameters)

-- a program with these subcommands added
abbrev pub with_subcommands : App → List Subcommand → App
with_subcommands app [] = app
with_subcommands app (subcommand ∷ subcommands) =
    with_subcommands (with_subcommand app (subcommand_app subcommand).top) subcommands
