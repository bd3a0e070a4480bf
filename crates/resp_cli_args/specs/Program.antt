-- The program as its parser knows it: its subcommands with their options, the range of each number, and the default of
-- each option.
use Rattle.std.specs.Prelude.{◌≡◌, ◌++◌, ℕ, ℤ, false, true, List, [], ◌∷◌, Some, Result, IfErr, IfOk, codes}
use Rattle.std.specs.Int.{saturate_unsigned, w64}
use Rattle.std.specs.List.{list_any}
use Rattle.std.specs.Ordering.{nat_cmp, ord_max}
use Rattle.std.specs.Str.{bytes_eq}
use Rattle.clap.specs.Lexer.{usize_max}
use Rattle.clap.specs.Simple.{on_top}
use Rattle.clap.specs.Values.{unsigned_up_to}
use Rattle.clap.specs.ValueTests.{accepts}
use Rattle.clap.specs.Words.{App, Rule, Shape, Text, app_of, kind_of, new_app, new_rule, reading_of, with_rule, with_subcommand}
use Rattle.clap.specs.declared.builder.ArgAction.TheVariants.{SetTrue}
use Rattle.clap.specs.declared.builder.command.Command.{Command}
use Rattle.clap.specs.declared.builder.command.Command.TheViews.{out-Command}
use Rattle.clap.specs.declared.error.Error.{Error}
use Rattle.clap.specs.declared.error.kind.ErrorKind.TheVariants.{OutOfMemory}
use Rattle.clap.specs.declared.builder.value_parser.Reading.TheVariants.{AsWritten}
use Rattle.clap.specs.declared.builder.value_parser.ValueParser.{ValueParser}
use Rattle.clap.specs.declared.builder.value_parser.ValueParser.TheVariants as vp

-- ---- options

-- `--name VALUE`: the values that are accepted, and the default
abbrev pub value_option : Text → ValueParser → Text → Rule
value_option name parser default = record (new_rule name) {
  long = Some name;
  value_names = 1;
  parser = Some parser;
  defaults = default ∷ [];
}

-- `--name N`, a number in a range
abbrev pub number_option : Text → ℕ → ℕ → Text → Rule
number_option name least most = value_option name (vp.Unsigned least most)

-- `--name N`, a number in a range, without a default
abbrev pub range_option : Text → ValueParser → Rule
range_option name range = record (new_rule name) { long = Some name; value_names = 1; parser = Some range }

-- `--name N`, a number of bytes: any text for the parser
abbrev pub size_option : Text → Text → Rule
size_option name default = record (new_rule name) { long = Some name; value_names = 1; defaults = default ∷ [] }

-- `--name TIME`, a time: any text for the parser
abbrev pub time_option : Text → Text → Rule
time_option name default = record (new_rule name) { long = Some name; value_names = 1; defaults = default ∷ [] }

-- the parser's representation of a range
abbrev pub numbers_between : ℤ → ℤ → ValueParser
numbers_between least most =
    unsigned_up_to (ord_max nat_cmp 0 (saturate_unsigned w64 least)) 18446744073709551615 (Some most)

-- `--name`, an option without a value
abbrev pub flag_option : Text → Rule
flag_option name = record (new_rule name) { long = Some name; action = Some SetTrue }

-- `-c`, an option without a value and with one character
abbrev pub short_flag_option : Text → ℕ → Rule
short_flag_option name short = record (new_rule name) { short = Some short; action = Some SetTrue }

-- `--name VALUE`, an option with any value and without a default
abbrev pub name_option : Text → Rule
name_option name = record (new_rule name) { long = Some name; value_names = 1 }

-- the options that say how text is printed
abbrev pub style_options : List Rule
style_options = name_option (codes "color") ∷ flag_option (codes "utf8") ∷ []

-- the options that limit values
abbrev pub limit_options : List Rule
limit_options =
    number_option (codes "depth") 4 128 (codes "32") ∷
    size_option (codes "length") (codes "512M") ∷
    size_option (codes "total") (codes "1G") ∷
    number_option (codes "items") 16 1099511627776 (codes "1099511627776") ∷
    flag_option (codes "no-streamed") ∷ []

-- the file to read, an argument without a name
abbrev pub file_word : Rule
file_word = record (new_rule (codes "file")) { value_names = 1; defaults = codes "-" ∷ [] }

-- the options for the version of the protocol, with these versions for `--proto`
abbrev pub version_options : ValueParser → List Rule
version_options versions = value_option (codes "proto") versions (codes "2") ∷
    short_flag_option (codes "two") 50 ∷ short_flag_option (codes "three") 51 ∷ []

-- the file to read, and whether its errors are explained
abbrev pub explained_file : List Rule
explained_file = flag_option (codes "explain") ∷ flag_option (codes "no-explain") ∷ file_word ∷ []

-- the options of `show` after those that limit values
abbrev pub showing_options : List Rule
showing_options = flag_option (codes "doubles") ∷ size_option (codes "piece") (codes "4K") ∷ style_options ++
    flag_option (codes "json") ∷ explained_file

-- the options of `check` and `canon` after those that limit values
abbrev pub reading_options : List Rule
reading_options = flag_option (codes "doubles") ∷ size_option (codes "piece") (codes "4K") ∷ explained_file

-- the options of a command that reads a stream, with these versions for `--proto` and these last options
abbrev pub stream_options : ValueParser → List Rule → List Rule
stream_options versions last = version_options versions ++ limit_options ++ last

-- the options of `loop`
abbrev pub loop_options : List Rule
loop_options = explained_file

-- an address, a required argument without a name
abbrev pub address_word : Text → Rule
address_word name = record (new_rule name) { value_names = 1; required = true }

-- the most clients at once
abbrev pub clients_option : Rule
clients_option = range_option (codes "max-clients") (vp.Unsigned 1 65536)

-- the options that only `serve` has
abbrev pub serving_options : List Rule
serving_options = flag_option (codes "test-server") ∷ number_option (codes "torture") 0 1099511627776 (codes "0") ∷
    clients_option ∷ size_option (codes "client-buffer") (codes "1M") ∷
    time_option (codes "drain-timeout") (codes "30s") ∷ address_word (codes "address") ∷ []

-- the options of `serve`
abbrev pub serve_options : List Rule
serve_options = serving_options ++ limit_options

-- the options of `tap` that say which commands are printed
abbrev pub filter_options : List Rule
filter_options = flag_option (codes "errors") ∷ name_option (codes "slower") ∷ name_option (codes "command") ∷
    name_option (codes "key") ∷ number_option (codes "client") 0 1099511627776 (codes "0") ∷ []

-- the options of `tap` that say that commands are counted
abbrev pub stats_options : List Rule
stats_options = flag_option (codes "stats") ∷ time_option (codes "stats-every") (codes "0") ∷ []

-- an argument without a name that may be missing
abbrev pub optional_word : Text → Rule
optional_word name = record (new_rule name) { value_names = 1 }

-- the options of `tap` that say where the traffic comes from
abbrev pub traffic_options : List Rule
traffic_options = name_option (codes "record") ∷ name_option (codes "replay") ∷
    number_option (codes "port") 0 65535 (codes "0") ∷ []

-- the options of `tap` that say what is printed
abbrev pub watching_options : List Rule
watching_options = stats_options ++ flag_option (codes "time") ∷ flag_option (codes "date") ∷ flag_option (codes "connections") ∷
    flag_option (codes "json") ∷ style_options ++ size_option (codes "shown") (codes "1K") ∷
    flag_option (codes "show-passwords") ∷ filter_options

-- the other options of `tap`, and the addresses
abbrev pub printing_options : List Rule
printing_options = traffic_options ++ clients_option ∷ time_option (codes "drain-timeout") (codes "30s") ∷
    flag_option (codes "no-inline") ∷
    flag_option (codes "exit-with-output") ∷ flag_option (codes "keep-going") ∷ name_option (codes "cut") ∷
    optional_word (codes "listen") ∷ optional_word (codes "server") ∷ []

-- the options of `tap`
abbrev pub tap_options : List Rule
tap_options = watching_options ++ printing_options ++ limit_options

-- the options of `proxy` about its commands and its end, and the addresses
abbrev pub replying_options : List Rule
replying_options =
    time_option (codes "server-timeout") (codes "10s") ∷
    time_option (codes "report") (codes "0") ∷
    flag_option (codes "drain") ∷
    time_option (codes "drain-timeout") (codes "30s") ∷
    flag_option (codes "local-ping") ∷
    name_option (codes "also") ∷
    flag_option (codes "learn") ∷
    flag_option (codes "no-inline") ∷
    number_option (codes "check-every") 0 1000000000 (codes "0") ∷
    flag_option (codes "check") ∷
    flag_option (codes "all") ∷
    address_word (codes "listen") ∷ address_word (codes "server") ∷ []

-- the options of `proxy` that bound its connections and its buffers
abbrev pub sharing_options : List Rule
sharing_options =
    clients_option ∷
    number_option (codes "max-dedicated") 0 65536 (codes "1000") ∷
    number_option (codes "max-shared") 1 256 (codes "16") ∷
    number_option (codes "pipeline") 1 1048576 (codes "1024") ∷
    size_option (codes "client-buffer") (codes "1M") ∷
    size_option (codes "client-buffer-limit") (codes "1G") ∷
    size_option (codes "server-buffer") (codes "1M") ∷ []

-- the options of `proxy`
abbrev pub proxy_options : List Rule
proxy_options = replying_options ++ sharing_options ++ limit_options

-- the words of a command: an argument without a name, to which all words after its first one belong
abbrev pub command_word : Rule
command_word = record (new_rule (codes "words")) {
  range = Some (record { start_inclusive = 1; end_inclusive = usize_max });
  value_names = 1;
  trailing_var_arg = true;
}

-- the options of `ask` that do not limit values
abbrev pub asking_options : List Rule
asking_options = short_flag_option (codes "three") 51 ∷ name_option (codes "user") ∷
    number_option (codes "window") 1 65536 (codes "1000") ∷ time_option (codes "timeout") (codes "0") ∷
    flag_option (codes "raw") ∷ flag_option (codes "count") ∷ style_options ++ flag_option (codes "json") ∷ []

-- the address of the server, after which no word is an option, and the words of a command
abbrev pub server_and_words : List Rule
server_and_words = record (address_word (codes "server")) { trailing_var_arg = true } ∷ command_word ∷ []

-- the options of `ask`
abbrev pub ask_options : List Rule
ask_options = asking_options ++ limit_options ++ server_and_words

-- ---- subcommands

-- a subcommand with these options added after those that it has
abbrev pub with_options : App → List Rule → App
with_options task [] = task
with_options task (option ∷ options) = with_options (with_rule task option) options

abbrev pub task_shape : Text → List Rule → Shape
task_shape name options = (with_options (new_app name) options).top

-- the program without its subcommands: it requires one, and has a version
abbrev pub bare_app : App
bare_app = on_top (λ top. record top { has_version = true; subcommand_required = true }) (new_app (codes "resp"))

-- the whole program, with these versions for `--proto`
abbrev pub resp_app : ValueParser → App
resp_app versions = with_subcommand (with_subcommand (with_subcommand (with_subcommand (with_subcommand
    (with_subcommand (with_subcommand (with_subcommand bare_app
    (task_shape (codes "show") (stream_options versions showing_options)))
    (task_shape (codes "check") (stream_options versions reading_options)))
    (task_shape (codes "canon") (stream_options versions reading_options)))
    (task_shape (codes "loop") loop_options))
    (task_shape (codes "serve") serve_options))
    (task_shape (codes "tap") tap_options))
    (task_shape (codes "proxy") proxy_options))
    (task_shape (codes "ask") ask_options)

-- the versions are 2 and 3, and nothing else
pub record TakesVersions (versions : ValueParser) : Type 0 where
  pub two_and_three : (text : Text) → accepts false versions text ≡
      list_any (λ version. bytes_eq version text) (codes "2" ∷ codes "3" ∷ [])
  pub as_written : reading_of versions ≡ AsWritten

-- the program, with the versions 2 and 3 for `--proto`
abbrev pub IsProgram : App → Type 0
IsProgram program = (versions : ValueParser) × TakesVersions versions × (program ≡ resp_app versions)

-- ---- commands in memory

-- the command has these options, and none that applies to other commands
abbrev pub IsTask : Command → App → Type 0
IsTask command task = (app_of command ≡ task) × ((out-Command command).has_globals ≡ false)

-- the result is a command with these options, and none that applies to other commands, or memory is out
abbrev pub MakesTask : App → Result Command Error → Type 0
MakesTask task result = IfOk result (λ command. IsTask command task) × IfErr result (λ error. kind_of error ≡ OutOfMemory)
