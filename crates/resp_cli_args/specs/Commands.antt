-- The words of the worked examples of command lines.
use Rattle.std.specs.Prelude.{◌≡◌, ℕ, Bool, true, false, List, [], ◌∷◌, None, codes, option_map}
use Rattle.std.specs.Borrow.{Bor}
use Rattle.clap.specs.Words.{App, Text, fault_of}
use Rattle.resp_value.specs.Bounds.{Bounds}
use Rattle.resp_value.specs.declared.version.Version.{Version}
use Rattle.resp_cli_args.specs.CommandWords.{AreWrong, AskFor, AskForHelp}
use Rattle.resp_cli_args.specs.Program.{IsProgram}
use Rattle.resp_cli_args.specs.declared.asked.Invocation.TheVariants.{Stream, Play}
use Rattle.resp_cli_args.specs.declared.options.Options.{Options}
use Rattle.resp_cli_args.specs.declared.options.Task.{Task}

-- the options have these values, whatever holds the file's name, and `--no-explain`, `--color`, `--utf8` and `--json` are not
-- given
pub record AreOptions (task : Task) (version : Version) (limits : Bounds) (piece : ℕ) (file : Text) (explains : Bool)
    (options : Options) : Type 0 where
  pub of_task : options.task ≡ task
  pub of_version : options.version ≡ version
  pub of_limits : options.limits ≡ limits
  pub of_piece : options.piece ≡ piece
  pub of_file : options.file.now ≡ file
  pub of_explains : options.explains ≡ explains
  pub of_never_explains : options.never_explains ≡ false
  pub of_color : option_map (λ text. text.now) options.style.color ≡ None
  pub of_utf8 : options.style.utf8 ≡ false
  pub of_json : options.style.json ≡ false

-- the words ask for a stream to be read, with these options
abbrev pub AskForThese : List Text → (Options → Type 0) → Type 0
AskForThese words These = (program : App) → IsProgram program → (options : Options) → These options
    → AskFor program words (Stream options)

-- the words ask for the script in this file to be played; the flag says whether a bad line is explained
abbrev pub AskToPlay : List Text → Bool → Text → Type 0
AskToPlay words explains file = (program : App) → IsProgram program → (name : Bor Text) → name.now ≡ file →
    AskFor program words (Play explains false name)

-- the words ask for something other than reading a stream
abbrev pub AskForNoStream : List Text → Type 0
AskForNoStream words = (program : App) → IsProgram program → (fault_of program words ≡ []) ×
    ((options : Options) → AskFor program words (Stream options) → ⊥)

-- the words are wrong
abbrev pub AreWrongWords : List Text → Type 0
AreWrongWords words = (program : App) → IsProgram program → AreWrong AskFor program words

-- the words ask for help
abbrev pub AreWordsForHelp : List Text → Type 0
AreWordsForHelp words = (program : App) → IsProgram program → AskForHelp program words

-- `resp show`
abbrev pub show_alone : List Text
show_alone = codes "resp" ∷ codes "show" ∷ []

-- the limits if none is given
abbrev pub default_limits : Bounds
default_limits = record {
  depth = 32;
  length = 536870912;
  total = 1073741824;
  items = 1099511627776;
  streamed = true;
  doubles = false;
}

-- wrong words: a depth over 128, an option given twice, and no subcommand
abbrev pub too_deep : List Text
too_deep = codes "resp" ∷ codes "check" ∷ codes "--depth" ∷ codes "129" ∷ []

abbrev pub depth_twice : List Text
depth_twice = codes "resp" ∷ codes "check" ∷ codes "--depth" ∷ codes "4" ∷ codes "--depth" ∷ codes "5" ∷ []

abbrev pub no_task : List Text
no_task = codes "resp" ∷ []

-- words that serve clients, and read no stream
abbrev pub served : List Text
served = codes "resp" ∷ codes "serve" ∷ codes "127.0.0.1:6380" ∷ []

-- words that play a script and explain a bad line
abbrev pub explained_loop : List Text
explained_loop = codes "resp" ∷ codes "loop" ∷ codes "--explain" ∷ []

abbrev pub help_of_show : List Text
help_of_show = codes "resp" ∷ codes "show" ∷ codes "--help" ∷ []
