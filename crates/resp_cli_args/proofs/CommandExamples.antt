-- What the parser makes of the words of the worked examples.
use Rattle.std.specs.Str.{bytes_eq}
use Rattle.std.proofs.Common.{if◌then◌else◌, true≢false, option_map, rules, ◌≢◌, Option, ◌≡◌, ◌∙◌, ap, Bool, true, false, List, [], ◌∷◌, None, Some, codes, refl, sym, inl, inr, subst, arith}
use Rattle.std.specs.Borrow.{Bor}
use Rattle.clap.specs.Words.{App, IsAmong, Row, Text, fault_of, first_of, subcommand_of}
use Rattle.clap.specs.declared.error.kind.ErrorKind.{ErrorKind}
use Rattle.clap.specs.declared.error.kind.ErrorKind.TheVariants.{ArgumentConflict, DisplayHelp, DisplayVersion, MissingSubcommand, ValueValidation}
use Rattle.clap.specs.declared.builder.value_parser.ValueParser.{ValueParser}
use Rattle.clap.specs.Kinds.{or_else}
use Rattle.clap.specs.Values.{refused_kind}
use Rattle.clap.proofs.OnLiterals.{clap_on_literals}
use Rattle.std.specs.Option.{option_map_or}
use Rattle.resp_value.specs.Bounds.{Bounds}
use Rattle.resp_value.specs.declared.version.Version.TheVariants.{Two}
use Rattle.resp_cli_args.specs.declared.sizes.Unit.TheVariants.{Giga, Kilo, Mega}
use Rattle.resp_cli_args.specs.CommandWords.{AreWrong, AskFor, Enters, HasFlag, HasLimits, HasSize, is_on, flag_text, task_word, version_word}
use Rattle.resp_cli_args.specs.declared.asked.Invocation.TheVariants.{Stream, Play}
use Rattle.resp_cli_args.specs.declared.options.Options.{Options}
use Rattle.resp_cli_args.specs.declared.options.Task.{Task}
use Rattle.resp_cli_args.specs.declared.options.Task.TheVariants.{Show, Check, Canon}
use Rattle.resp_cli_args.specs.Commands.{AreOptions, default_limits, depth_twice, explained_loop, help_of_show, no_task, served, show_alone, too_deep}
use Rattle.resp_cli_args.specs.Program.{TakesVersions, resp_app}

pub show_alone_is_taken : (versions : ValueParser) → TakesVersions versions → fault_of (resp_app versions) show_alone ≡ []
unfolding clap_on_literals
show_alone_is_taken versions takes =
    subst (λ taken. or_else (or_else (or_else (or_else (if taken then [] else refused_kind versions ∷ []) []) []) []) [] ≡ [])
    (sym (takes.two_and_three (codes "2"))) refl

pub help_is_asked : (versions : ValueParser) → fault_of (resp_app versions) help_of_show ≡ DisplayHelp ∷ []
unfolding clap_on_literals
help_is_asked versions = refl

pub no_task_is_refused : (versions : ValueParser) → fault_of (resp_app versions) no_task ≡ MissingSubcommand ∷ []
unfolding clap_on_literals
no_task_is_refused versions = refl

pub depth_is_refused : (versions : ValueParser) → fault_of (resp_app versions) too_deep ≡ ValueValidation ∷ []
unfolding clap_on_literals
depth_is_refused versions = refl

pub repetition_is_refused : (versions : ValueParser) → fault_of (resp_app versions) depth_twice ≡ ArgumentConflict ∷ []
unfolding clap_on_literals
repetition_is_refused versions = refl

pub serve_is_taken : (versions : ValueParser) → fault_of (resp_app versions) served ≡ []
unfolding clap_on_literals
serve_is_taken versions = refl

-- what `resp show` gives its options
abbrev given_alone : ValueParser → List Row
given_alone versions = option_map_or (λ p. p.1) (subcommand_of (resp_app versions) show_alone) []

abbrev default_task : ValueParser → Task → Option (Text × List Row)
default_task versions task = Some (task_word task, given_alone versions)

alone_enters_show : (versions : ValueParser) → subcommand_of (resp_app versions) show_alone ≡ default_task versions Show
unfolding clap_on_literals
alone_enters_show versions = refl

alone_gives_limits : (versions : ValueParser) → HasLimits (given_alone versions) default_limits
unfolding clap_on_literals
alone_gives_limits versions = record {
  depth = (codes "32", refl, (omega arith, search rules), refl, omega arith);
  length = (codes "512M", refl, (Mega, (5, omega arith, refl), (codes "512", refl, (omega arith, search rules), refl, omega arith), omega arith, omega arith));
  total = (codes "1G", refl, (Giga, (9, omega arith, refl), (codes "1", refl, (omega arith, search rules), refl, omega arith), omega arith, omega arith));
  items = (codes "1099511627776", refl, (omega arith, search rules), refl, omega arith);
  streamed = refl;
  in_range = record {
    depth_in_range = (omega arith, omega arith);
    length_in_range = (omega arith, omega arith);
    total_in_range = (omega arith, omega arith);
    items_in_range = (omega arith, omega arith);
  };
}

alone_gives_rest : (versions : ValueParser) → (first_of (codes "proto") (given_alone versions) ≡ Some (codes "2"))
    × HasFlag (given_alone versions) (codes "two") false × HasFlag (given_alone versions) (codes "three") false
    × HasFlag (given_alone versions) (codes "doubles") false × HasSize (given_alone versions) (codes "piece") 1 65536 4096
    × (first_of (codes "file") (given_alone versions) ≡ Some (codes "-")) × HasFlag (given_alone versions) (codes "explain") false
    × HasFlag (given_alone versions) (codes "no-explain") false
    × (first_of (codes "color") (given_alone versions) ≡ None) × (first_of (codes "utf8") (given_alone versions) ≡ Some (codes "false"))
    × (first_of (codes "json") (given_alone versions) ≡ Some (codes "false"))
unfolding clap_on_literals
alone_gives_rest versions = (
  refl,
  refl,
  refl,
  refl,
  (codes "4K", refl, (Kilo, (1, omega arith, refl), (codes "4", refl, (omega arith, search rules), refl, omega arith), omega arith, omega arith)),
  refl,
  refl,
  refl,
  refl,
  refl,
  refl,
)

pub defaults_are_asked : (versions : ValueParser) → TakesVersions versions → (options : Options) →
    AreOptions Show Two default_limits 4096 (codes "-") false options → AskFor (resp_app versions) show_alone (Stream options)
defaults_are_asked versions takes options are =
    let rest = alone_gives_rest versions in
    let enters : Enters (default_task versions Show) (Stream options) = (
      ap task_word (sym are.of_task),
      record {
        reading = inr (inr (
          rest.1,
          rest.2,
          rest.0 ∙ ap (λ v. Some (version_word v)) (sym are.of_version),
          rest.3 ∙ ap (λ (l : Bounds). Some (flag_text l.doubles)) (sym are.of_limits),
        ));
        limits = subst (HasLimits (given_alone versions)) (sym are.of_limits) (alone_gives_limits versions);
        piece = rw are.of_piece rest.4;
        file = rest.5 ∙ ap (λ (t : Text). Some t) (sym are.of_file);
        explains = rest.6 ∙ ap (λ b. Some (flag_text b)) (sym are.of_explains);
        never_explains = rest.7 ∙ ap (λ b. Some (flag_text b)) (sym are.of_never_explains);
        styled = record { in_color = are.of_color ∙ sym rest.8; as_utf8 = are.of_utf8 ∙ sym (ap is_on rest.9); as_json = are.of_json ∙ sym (ap is_on rest.10) };
      },
    ) in (
      show_alone_is_taken versions takes,
      subst (λ (entered : Option (Text × List Row)). Enters entered (Stream options)) (sym (alone_enters_show versions)) enters,
    )

pub loop_is_asked : (versions : ValueParser) (name : Bor Text) → name.now ≡ codes "-" → AskFor (resp_app versions) explained_loop (Play true false name)
unfolding clap_on_literals
loop_is_asked versions name is = (refl, (refl, refl, refl, ap (λ (t : Text). Some t) (sym is)))

pub wrong_of_kind : (program : App) (words : List Text) (kind : ErrorKind) → fault_of program words ≡ kind ∷ [] → kind ≢ DisplayHelp →
    kind ≢ DisplayVersion → AreWrong AskFor program words
wrong_of_kind program words kind is help version =
    let among : IsAmong kind (fault_of program words) = rw is (inl refl) in
    inl (kind, among, help, version)

abbrev is_serve : Option Text → Bool
is_serve o = option_map_or (λ t. bytes_eq t (codes "serve")) o false

no_task_serves : (task : Task) → Some (codes "serve") ≡ Some (task_word task) → ⊥
no_task_serves Show is = true≢false (ap is_serve is)
no_task_serves Check is = true≢false (ap is_serve is)
no_task_serves Canon is = true≢false (ap is_serve is)

serve_enters_serve : (versions : ValueParser) → option_map (λ p. p.0) (subcommand_of (resp_app versions) served) ≡ Some (codes "serve")
unfolding clap_on_literals
serve_enters_serve versions = refl

no_stream_is_served : (entered : Option (Text × List Row)) → option_map (λ p. p.0) entered ≡ Some (codes "serve") → (options : Options) →
    Enters entered (Stream options) → ⊥
no_stream_is_served None named options enters = absurd enters
no_stream_is_served (Some entered) named options enters =
    no_task_serves options.task (sym named ∙ ap (λ (t : Text). Some t) enters.0)

pub serve_asks_for_no_stream : (versions : ValueParser) (options : Options) → AskFor (resp_app versions) served (Stream options) → ⊥
serve_asks_for_no_stream versions options asks =
    no_stream_is_served (subcommand_of (resp_app versions) served) (serve_enters_serve versions) options asks.1
