-- A command with options, and a program with subcommands.
use Rattle.std.proofs.Common.{◌≡◌, ◌∙◌, ◌<◌, ◌++◌, ◌||◌, ap, append-nil, append_assoc, subst, sym, ℕ, ◌+◌, add-one, Bool, List, [], ◌∷◌, false, get_or, length, map, refl}
use Rattle.std.specs.Borrow.{Bor}
use Rattle.std.proofs.Math.ListN.{take}
use Rattle.std.proofs.Math.Seq.{take-suc}
use Rattle.std.proofs.lemmas.List.{map-append}
use Rattle.clap.specs.Words.{AddsArg, AddsInTurn, AddsSubcommand, App, Rule, rule_of, shape_of, with_rule, with_subcommand}
use Rattle.clap.specs.declared.builder.arg.Arg.{Arg}
use Rattle.clap.specs.declared.builder.command.Command.{Command}
use Rattle.clap.specs.declared.builder.command.Command.TheViews.{out-Command}
use Rattle.resp_cli_args.specs.Program.{IsTask, with_options}
use Rattle.resp_cli_args.specs.Tables.{here, local_app, local_rule, parameter_rule, rules_in, subcommand_app, with_subcommands}
use Rattle.resp_cli_args.specs.declared.parameter.Parameter.{Parameter}
use Rattle.resp_cli_args.specs.declared.parser.Subcommand.{Subcommand}

-- the command with an option added
is_task_with_option : (old new : Command) (arg : Arg) (task : App) (option : Rule) → AddsArg old arg new → local_rule arg ≡ here option →
    IsTask old task → IsTask new (with_rule task option)
is_task_with_option old new arg task option adds same is =
    let rule : rule_of arg ≡ option = ap (λ p. p.0) same in
    let here : arg.global ≡ false = ap (λ p. p.1) same in (
      adds.shape here ∙ ap (λ (t : App). with_rule t (rule_of arg)) is.0 ∙ ap (with_rule task) rule,
      adds.globals ∙ ap (λ (b : Bool). b || arg.global) is.1 ∙ here,
    )

-- the program with a subcommand added
is_task_with_subcommand : (old new sub : Command) (app task : App) → AddsSubcommand old sub new → local_app sub ≡ here task → IsTask old app →
    IsTask new (with_subcommand app task.top)
is_task_with_subcommand old new sub app task adds same is =
    let its : (shape_of sub) ≡ task.top = ap (λ p. p.0.top) same in
    let here : (out-Command sub).has_globals ≡ false = ap (λ p. p.1) same in (
      adds.shape here ∙ ap (λ (a : App). with_subcommand a (shape_of sub)) is.0 ∙ ap (with_subcommand app) its,
      adds.globals ∙ ap (λ (b : Bool). b || (out-Command sub).has_globals) is.1 ∙ here,
    )

-- the command with these options added in turn
pub is_task_with_options : (args : List Arg) (options : List Rule) (old new : Command) (task : App) → AddsInTurn AddsArg old args new →
    map local_rule args ≡ map here options → IsTask old task → IsTask new (with_options task options)
is_task_with_options [] [] old new task adds same is = subst (λ command. IsTask command task) adds is
is_task_with_options [] (option ∷ options) old new task adds same is = cc
is_task_with_options (arg ∷ args) [] old new task adds same is = cc
is_task_with_options (arg ∷ args) (option ∷ options) old new task adds same is =
    let more : map local_rule args ≡ map here options = cc in
    is_task_with_options args options adds.0 new (with_rule task option) adds.2 more
    (is_task_with_option old adds.0 arg task option adds.1 (cc) is)

-- the program with these subcommands added in turn
pub is_task_with_subcommands : (commands : List Command) (subcommands : List Subcommand) (old new : Command) (app : App) →
    AddsInTurn AddsSubcommand old commands new → map local_app commands ≡ map here (map subcommand_app subcommands) → IsTask old app →
    IsTask new (with_subcommands app subcommands)
is_task_with_subcommands [] [] old new app adds same is = subst (λ command. IsTask command app) adds is
is_task_with_subcommands [] (subcommand ∷ subcommands) old new app adds same is = cc
is_task_with_subcommands (command ∷ commands) [] old new app adds same is = cc
is_task_with_subcommands (command ∷ commands) (subcommand ∷ subcommands) old new app adds same is =
    let more : map local_app commands ≡ map here (map subcommand_app subcommands) = cc in
    is_task_with_subcommands commands subcommands adds.0 new (with_subcommand app (subcommand_app subcommand).top) adds.2 more
    (is_task_with_subcommand old adds.0 command app (subcommand_app subcommand) adds.1 (cc) is)

-- a command with these options, and none that applies to other commands
pub is_here : (command : Command) (task : App) → IsTask command task → local_app command ≡ here task
is_here command task is = cc (is.0, is.1)

-- the command under another name
pub is_task_with_name : (old new : Command) (task : App) → out-Command new ≡ record (out-Command old) { bin_name = (out-Command new).bin_name } →
    IsTask old task → IsTask new task
is_task_with_name old new task same is = rw same is

-- ---- one more

-- the next row of a table, after those that were added before
pub next_row : {X Y Z : Type 0} (f : X → Z × Bool) (g : Y → Z) (xs : List X) (x : X) (before : List (Z × Bool)) (table : List Y) (i : ℕ) (d : Y) →
    map f xs ≡ before ++ map here (map g (take i table)) → f x ≡ here (g (get_or table i d)) → i < length table →
    map f (xs ++ x ∷ []) ≡ before ++ map here (map g (take (i + 1) table))
next_row f g xs x before table i d are is below =
    rw (
      add-one,
      take-suc table i d below,
      map-append g (take i table) (get_or table i d ∷ []),
      map-append here (map g (take i table)) (g (get_or table i d) ∷ []),
      map-append f xs (x ∷ []),
      are,
      is,
    )
    (append_assoc before (map here (map g (take i table))) (here (g (get_or table i d)) ∷ []))

one_table_more : (tables : List (Bor (List Parameter))) (table : Bor (List Parameter)) →
    rules_in (tables ++ table ∷ []) ≡ rules_in tables ++ map parameter_rule table.now
one_table_more [] table = append-nil (map parameter_rule table.now)
one_table_more (first ∷ tables) table =
    ap (λ z. map parameter_rule first.now ++ z) (one_table_more tables table)
    ∙ sym (append_assoc (map parameter_rule first.now) (rules_in tables) (map parameter_rule table.now))

-- the rows of the next table
pub next_table : (args args' : List Arg) (tables : List (Bor (List Parameter))) (i : ℕ) (d : Bor (List Parameter)) →
    map local_rule args ≡ map here (rules_in (take i tables)) →
    map local_rule args' ≡ map local_rule args ++ map here (map parameter_rule (get_or tables i d).now) → i < length tables →
    map local_rule args' ≡ map here (rules_in (take (i + 1) tables))
next_table args args' tables i d are more below =
    rw (
      add-one,
      take-suc tables i d below,
      one_table_more (take i tables) (get_or tables i d),
      map-append here (rules_in (take i tables)) (map parameter_rule (get_or tables i d).now),
      more,
      are,
    )
    refl
