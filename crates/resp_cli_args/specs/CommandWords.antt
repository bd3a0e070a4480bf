-- The meaning of the words of a command line.
use Rattle.std.specs.Prelude.{◌≡◌, ◌≢◌, ◌⊎◌, ◌≤◌, ◌<◌, ◌^◌, ℕ, Bool, false, true, not, if◌then◌else◌, codes}
use Rattle.std.specs.Prelude.{List, [], map, option_map, unwrap_or, Option, Some, None, IfSome, Result, Ok, Err}
use Rattle.std.specs.Str.{bytes_eq}
use Rattle.std.specs.Str.Parse.{IsNumeral, digits_value, without_leading_plus}
use Rattle.clap.specs.Words.{App, HasKind, IsAmong, Row, Text, all_of, fault_of, first_of, one_of, subcommand_of}
use Rattle.clap.specs.Words.{subcommand_rows_of}
use Rattle.clap.specs.declared.error.Error.{Error}
use Rattle.clap.specs.declared.error.kind.ErrorKind.{ErrorKind}
use Rattle.clap.specs.declared.error.kind.ErrorKind.TheVariants.{DisplayHelp, DisplayVersion}
use Rattle.clap.specs.declared.parser.matches.ArgMatches.{ArgMatches}
use Rattle.resp_value.specs.Bounds.{AreBounds, Bounds}
use Rattle.resp_value.specs.declared.version.Version.{Version}
use Rattle.resp_value.specs.declared.version.Version.TheVariants.{Two, Three}
use Rattle.resp_cli_args.specs.Durations.{IsPause, IsTime}
use Rattle.resp_cli_args.specs.Hosts.{IsListenText, IsServerText}
use Rattle.resp_cli_args.specs.Names.{AreNamesIfGiven}
use Rattle.resp_cli_args.specs.Sizes.{IsSize}
use Rattle.resp_cli_args.specs.declared.asked.Invocation.{Invocation}
use Rattle.resp_cli_args.specs.declared.asked.Invocation.TheVariants.{Stream, Play, Serve, Tap, Proxy, Ask}
use Rattle.resp_cli_args.specs.declared.asking.AskOptions.{AskOptions}
use Rattle.resp_cli_args.specs.declared.asking.Asking.{Asking}
use Rattle.resp_cli_args.specs.declared.options.Options.{Options}
use Rattle.resp_cli_args.specs.declared.options.Task.{Task}
use Rattle.resp_cli_args.specs.declared.options.Task.TheVariants.{Show, Check, Canon}
use Rattle.resp_cli_args.specs.declared.proxying.ProxyOptions.{ProxyOptions}
use Rattle.resp_cli_args.specs.declared.proxying.ProxyTimes.{ProxyTimes}
use Rattle.resp_cli_args.specs.declared.proxying.Proxying.{Proxying}
use Rattle.resp_cli_args.specs.declared.serving.Serving.{Serving}
use Rattle.resp_cli_args.specs.declared.style.StyleOptions.{StyleOptions}
use Rattle.resp_cli_args.specs.declared.tapping.FilterOptions.{FilterOptions}
use Rattle.resp_cli_args.specs.declared.tapping.StatsOptions.{StatsOptions}
use Rattle.resp_cli_args.specs.declared.tapping.TapOptions.{TapOptions}
use Rattle.resp_cli_args.specs.declared.tapping.Tapping.{Tapping}
use Rattle.resp_cli_args.specs.declared.traffic.Captured.{Captured}
use Rattle.resp_cli_args.specs.declared.traffic.Route.{Route}
use Rattle.resp_cli_args.specs.declared.traffic.Traffic.{Traffic}
use Rattle.resp_cli_args.specs.declared.traffic.Traffic.TheVariants as traffic

-- ---- one option, by the texts that the words or the defaults give for the options of a subcommand

-- the option is this number, which fits into 64 bits
abbrev pub HasNumber : List Row → Text → ℕ → Type 0
HasNumber given name number = (text : Text) × (one_of name given ≡ Some text) ×
    IsNumeral 10 (without_leading_plus text) × (digits_value 10 (without_leading_plus text) ≡ number)
    × (number < 2 ^ 64)

-- the option is this number of bytes, which is in this range
abbrev pub HasSize : List Row → Text → ℕ → ℕ → ℕ → Type 0
HasSize given name least most size = (text : Text) × (first_of name given ≡ Some text) × IsSize text least most size

-- the option is a time with a unit of this many microseconds, which is in this range
abbrev pub HasTime : List Row → Text → ℕ → ℕ → ℕ → Type 0
HasTime given name least most micros = (text : Text) × (first_of name given ≡ Some text) × IsTime text least most micros

-- the option is `0`, or a time with a unit of this many microseconds, which is in this range
abbrev pub HasPause : List Row → Text → ℕ → ℕ → ℕ → Type 0
HasPause given name least most micros = (text : Text) × (first_of name given ≡ Some text) × IsPause text least most micros

-- the option is this number, which is from 1 to 65,536
abbrev pub HasSmallNumber : List Row → Text → ℕ → Type 0
HasSmallNumber given name number = HasNumber given name number × (1 ≤ number) × (number ≤ 65536)

-- the option is this number, or it is not given
abbrev pub HasNumberIfGiven : List Row → Text → Option ℕ → Type 0
HasNumberIfGiven given name None = first_of name given ≡ None
HasNumberIfGiven given name (Some number) = HasNumber given name number

abbrev pub IsSmall : ℕ → Type 0
IsSmall number = (1 ≤ number) × (number ≤ 65536)

-- the option is this number, which is from 1 to 65,536, or it is not given
abbrev pub HasMost : List Row → Text → Option ℕ → Type 0
HasMost given name most = HasNumberIfGiven given name most × IfSome most IsSmall

-- the option is this number, which is in this range
abbrev pub HasNumberBetween : List Row → Text → ℕ → ℕ → ℕ → Type 0
HasNumberBetween given name least most number = HasNumber given name number × (least ≤ number) × (number ≤ most)

abbrev pub flag_text : Bool → Text
flag_text on = if on then codes "true" else codes "false"

-- the option is given, or is not given
abbrev pub HasFlag : List Row → Text → Bool → Type 0
HasFlag given name on = one_of name given ≡ Some (flag_text on)

abbrev pub version_word : Version → Text
version_word Two = codes "2"
version_word Three = codes "3"

-- `--proto` is this version
abbrev pub HasProto : List Row → Version → Type 0
HasProto given version = first_of (codes "proto") given ≡ Some (version_word version)

-- The version, and whether doubles are accepted: `-2` has precedence over `-3`, and `-3` over `--proto`. With `-3`
-- doubles are accepted.
abbrev pub HasReading : List Row → Version → Bool → Type 0
HasReading given version doubles =
    HasFlag given (codes "two") true × (version ≡ Two) × HasFlag given (codes "doubles") doubles
    ⊎ HasFlag given (codes "two") false × HasFlag given (codes "three") true × (version ≡ Three) × (doubles ≡ true)
    ⊎ HasFlag given (codes "two") false × HasFlag given (codes "three") false × HasProto given version
    × HasFlag given (codes "doubles") doubles

-- ---- all options of a subcommand

-- whether the text of the value of an option is that of one that is on
abbrev pub is_on : Option Text → Bool
is_on None = false
is_on (Some text) = bytes_eq text (codes "true")

-- the options that say how text is printed
pub record HasStyle (given : List Row) (style : StyleOptions) : Type 0 where
  pub in_color : option_map (λ text. text.now) style.color ≡ first_of (codes "color") given
  pub as_utf8 : style.utf8 ≡ is_on (first_of (codes "utf8") given)
  pub as_json : style.json ≡ is_on (first_of (codes "json") given)

pub record HasLimits (given : List Row) (limits : Bounds) : Type 0 where
  pub depth : HasNumber given (codes "depth") limits.depth
  pub length : HasSize given (codes "length") 64 1073741824 limits.length
  pub total : HasSize given (codes "total") 256 1099511627776 limits.total
  pub items : HasNumber given (codes "items") limits.items
  pub streamed : HasFlag given (codes "no-streamed") (not limits.streamed)
  pub in_range : AreBounds limits

-- the options of `show`, `check` and `canon`
pub record HasOptions (given : List Row) (options : Options) : Type 0 where
  pub reading : HasReading given options.version options.limits.doubles
  pub limits : HasLimits given options.limits
  pub piece : HasSize given (codes "piece") 1 65536 options.piece
  pub file : first_of (codes "file") given ≡ Some options.file.now
  pub explains : HasFlag given (codes "explain") options.explains
  pub never_explains : HasFlag given (codes "no-explain") options.never_explains
  pub styled : HasStyle given options.style

-- the options of `serve`, with the text of its address
pub record HasServeWords (given : List Row) (address : Text) (limits : Bounds) (clients : Option ℕ)
    (held drain_timeout : ℕ) : Type 0 where
  pub in_limits : HasLimits given limits
  pub no_doubles : limits.doubles ≡ false
  pub at_once : HasMost given (codes "max-clients") clients
  pub waiting : HasSize given (codes "client-buffer") 1 1099511627776 held
  pub drains : HasPause given (codes "drain-timeout") 1000 86400000000 drain_timeout
  pub text : first_of (codes "address") given ≡ Some address

-- the options of `serve`, with its address
abbrev pub HasServing : List Row → Serving → Type 0
HasServing given serving =
    HasServeWords given serving.address_text.now serving.limits serving.clients serving.held serving.drain_timeout ×
    IsListenText serving.address_text.now serving.address ×
    HasFlag given (codes "test-server") serving.is_test_server × HasNumber given (codes "torture") serving.torture

-- the options of `tap` that say which commands are printed
pub record HasFilter (given : List Row) (filter : FilterOptions) : Type 0 where
  pub of_errors : HasFlag given (codes "errors") filter.errors
  pub slow : option_map (λ text. text.now) filter.slower ≡ first_of (codes "slower") given
  pub named : option_map (λ names. names.now) filter.names ≡ first_of (codes "command") given
  pub keyed : option_map (λ glob. glob.now) filter.key ≡ first_of (codes "key") given
  pub only : HasNumber given (codes "client") filter.client
  pub of_connections : HasFlag given (codes "connections") filter.connections

-- the options of `tap` that say that commands are counted
pub record HasStats (given : List Row) (stats : StatsOptions) : Type 0 where
  pub on : HasFlag given (codes "stats") stats.is_on
  pub micros : HasPause given (codes "stats-every") 1000000 86400000000 stats.every

-- the options of `tap` that are no address
pub record HasTapOptions (given : List Row) (options : TapOptions) : Type 0 where
  pub in_limits : HasLimits given options.limits
  pub with_doubles : options.limits.doubles ≡ true
  pub at_once : HasMost given (codes "max-clients") options.clients
  pub drains : HasPause given (codes "drain-timeout") 1000 86400000000 options.drain_timeout
  pub cuts : option_map (λ text. text.now) options.cut ≡ first_of (codes "cut") given
  pub tells : HasFlag given (codes "time") options.tells_time
  pub dates : HasFlag given (codes "date") options.tells_date
  pub exits : HasFlag given (codes "exit-with-output") options.exits_with_output
  pub keeps : HasFlag given (codes "keep-going") options.keeps_going
  pub reads_no_lines : HasFlag given (codes "no-inline") options.refuses_lines
  pub shows : HasFlag given (codes "show-passwords") options.shows_passwords
  pub bytes : HasSize given (codes "shown") 32 1099511627776 options.shown
  pub filters : HasFilter given options.filter
  pub tables : HasStats given options.stats
  pub styled : HasStyle given options.style

abbrev pub tap_options_of : Tapping → TapOptions
tap_options_of tapping = record {
  limits = tapping.limits;
  clients = tapping.clients;
  drain_timeout = tapping.drain_timeout;
  cut = tapping.cut;
  tells_time = tapping.tells_time;
  tells_date = tapping.tells_date;
  exits_with_output = tapping.exits_with_output;
  keeps_going = tapping.keeps_going;
  refuses_lines = tapping.refuses_lines;
  shows_passwords = tapping.shows_passwords;
  shown = tapping.shown;
  style = tapping.style;
  filter = tapping.filter;
  stats = tapping.stats;
}

-- the addresses of `tap`
pub record HasRoute (given : List Row) (route : Route) : Type 0 where
  pub live : first_of (codes "replay") given ≡ None
  pub listen_text : first_of (codes "listen") given ≡ Some route.address_text.now
  pub server_text : Text
  pub server_is : first_of (codes "server") given ≡ Some server_text
  pub listen : IsListenText route.address_text.now route.address
  pub to : IsServerText server_text route.server
  pub recorded : option_map (λ file. file.now) route.record ≡ first_of (codes "record") given

-- the capture of `tap`: no address is given too, and no other capture is written
pub record HasCaptured (given : List Row) (captured : Captured) : Type 0 where
  pub from : first_of (codes "replay") given ≡ Some captured.file.now
  pub no_listener : first_of (codes "listen") given ≡ None
  pub no_record : first_of (codes "record") given ≡ None
  pub at_port : HasNumberBetween given (codes "port") 0 65535 captured.port

-- where the traffic of `tap` comes from
abbrev pub HasTraffic : List Row → Traffic → Type 0
HasTraffic given (traffic.Live route) = HasRoute given route
HasTraffic given (traffic.Captured captured) = HasCaptured given captured

-- the options of `tap`
abbrev pub HasTapping : List Row → Tapping → Type 0
HasTapping given tapping = HasTraffic given tapping.traffic × HasTapOptions given (tap_options_of tapping)

-- the times of `proxy` in microseconds: 1 ms to 1 h, 1 s to 24 h or 0, and 1 ms to 24 h or 0
pub record HasProxyTimes (given : List Row) (times : ProxyTimes) : Type 0 where
  pub server_timeout : HasTime given (codes "server-timeout") 1000 3600000000 times.server_timeout
  pub report : HasPause given (codes "report") 1000000 86400000000 times.report
  pub drain_timeout : HasPause given (codes "drain-timeout") 1000 86400000000 times.drain_timeout

-- whether `--local-ping` and `--drain` are given
abbrev pub HasProxyFlags : List Row → Bool × Bool → Type 0
HasProxyFlags given flags = HasFlag given (codes "local-ping") flags.0 × HasFlag given (codes "drain") flags.1

-- the options of `proxy` that are no address
pub record HasProxyOptions (given : List Row) (options : ProxyOptions) : Type 0 where
  pub in_limits : HasLimits given options.limits
  pub no_doubles : options.limits.doubles ≡ false
  pub at_once : HasMost given (codes "max-clients") options.clients
  pub alone : HasNumberBetween given (codes "max-dedicated") 0 65536 options.own
  pub unanswered : HasNumberBetween given (codes "pipeline") 1 1048576 options.waiting
  pub for_client : HasSize given (codes "client-buffer") 1 1099511627776 options.held
  pub unread : HasSize given (codes "client-buffer-limit") 1 1099511627776 options.unread
  pub for_server : HasSize given (codes "server-buffer") 1 1099511627776 options.unsent
  pub times : HasProxyTimes given options.times
  pub probes : HasNumberBetween given (codes "check-every") 0 1000000000 options.check_every
  pub shared : HasNumberBetween given (codes "max-shared") 1 256 options.lines
  pub flags : HasProxyFlags given (options.local_ping, options.drains)
  pub refuses_lines : HasFlag given (codes "no-inline") options.refuses_lines

-- the options of `proxy`, with the texts of its addresses
pub record HasProxyWords (given : List Row) (address server : Text) (options : ProxyOptions) : Type 0 where
  pub has : HasProxyOptions given options
  pub listen_text : first_of (codes "listen") given ≡ Some address
  pub server_text : first_of (codes "server") given ≡ Some server

-- the options of `proxy`, with its addresses: `--all` is given only with `--check`
pub record HasProxying (given : List Row) (proxying : Proxying) : Type 0 where
  pub server_text : Text
  pub has : HasProxyWords given proxying.address_text.now server_text proxying.options
  pub listen : IsListenText proxying.address_text.now proxying.address
  pub to : IsServerText server_text proxying.server
  pub also : option_map (λ names. names.now) proxying.also ≡ first_of (codes "also") given
  pub are_names : AreNamesIfGiven (first_of (codes "also") given)
  pub learns : proxying.learns ≡ is_on (first_of (codes "learn") given)
  pub checks : proxying.checks ≡ is_on (first_of (codes "check") given)
  pub all : proxying.all ≡ is_on (first_of (codes "all") given)
  pub all_of_check : proxying.all ≡ true → proxying.checks ≡ true

-- the options of `ask` that are neither the address nor the words; the time is 1 ms to 24 h in microseconds, or 0
pub record HasAskOptions (given : List Row) (options : AskOptions) : Type 0 where
  pub three : HasFlag given (codes "three") options.is_three
  pub named : option_map (λ name. name.now) options.user ≡ first_of (codes "user") given
  pub in_flight : HasSmallNumber given (codes "window") options.window
  pub timeout : HasPause given (codes "timeout") 1000 86400000000 options.timeout
  pub raw : HasFlag given (codes "raw") options.raw
  pub counted : HasFlag given (codes "count") options.counts
  pub styled : HasStyle given options.style
  pub in_limits : HasLimits given options.limits
  pub with_doubles : options.limits.doubles ≡ options.is_three

-- the options of `ask`, with its address and the words of the command
pub record HasAsking (given : List Row) (asking : Asking) : Type 0 where
  pub has : HasAskOptions given asking.options
  pub text : first_of (codes "server") given ≡ Some asking.server_text.now
  pub address : IsServerText asking.server_text.now asking.server
  pub words : map (λ word. word.now) asking.words.items ≡ unwrap_or (all_of (codes "words") given) []

abbrev pub task_word : Task → Text
task_word Show = codes "show"
task_word Check = codes "check"
task_word Canon = codes "canon"

-- ---- all words, of which the first is the name of the program

-- the subcommand with this name asks for this with these options
abbrev pub IsAsked : Text → List Row → Invocation → Type 0
IsAsked name given (Stream options) = (name ≡ task_word options.task) × HasOptions given options
IsAsked name given (Play explains never_explains file) = (name ≡ codes "loop") ×
    HasFlag given (codes "explain") explains × HasFlag given (codes "no-explain") never_explains ×
    (first_of (codes "file") given ≡ Some file.now)
IsAsked name given (Serve serving) = (name ≡ codes "serve") × HasServing given serving
IsAsked name given (Tap tapping) = (name ≡ codes "tap") × HasTapping given tapping
IsAsked name given (Proxy proxying) = (name ≡ codes "proxy") × HasProxying given proxying
IsAsked name given (Ask asking) = (name ≡ codes "ask") × HasAsking given asking

-- the subcommand that was given asks for this
abbrev pub Enters : Option (Text × List Row) → Invocation → Type 0
Enters None asked = ⊥
Enters (Some entered) asked = IsAsked entered.0 entered.1 asked

-- the program accepts the words, and they ask for this
abbrev pub AskFor : App → List Text → Invocation → Type 0
AskFor program words asked = (fault_of program words ≡ []) × Enters (subcommand_of program words) asked

-- a time of at most 24 h, in microseconds
abbrev pub IsWithinDay : ℕ → Type 0
IsWithinDay micros = micros ≤ 86400000000

-- The size of a read, the most clients at once if it is given, and the most commands that wait are from 1 to 65,536; for
-- `proxy` at most 65,536 clients have a connection of their own, a client has from 1 to 1,048,576 commands that wait, the
-- server has from 1 ms to 1 h for a reply, and reports follow one another within a day. Clients that are still open are
-- closed at most a day after the drain has begun.
abbrev pub IsInRange : Invocation → Type 0
IsInRange (Stream options) = (1 ≤ options.piece) × (options.piece ≤ 65536)
IsInRange (Play explains never_explains file) = Unit {0}
IsInRange (Serve serving) = IfSome serving.clients IsSmall × IsWithinDay serving.drain_timeout
IsInRange (Tap tapping) = IfSome tapping.clients IsSmall × IsWithinDay tapping.drain_timeout
IsInRange (Proxy proxying) = IfSome proxying.options.clients IsSmall ×
    (proxying.options.own ≤ 65536) ×
    (1 ≤ proxying.options.waiting) × (proxying.options.waiting ≤ 1048576) ×
    (1000 ≤ proxying.options.times.server_timeout) × (proxying.options.times.server_timeout ≤ 3600000000) ×
    IsWithinDay proxying.options.times.report × IsWithinDay proxying.options.times.drain_timeout
IsInRange (Ask asking) = (1 ≤ asking.options.window) × (asking.options.window ≤ 65536)

-- the words ask for help, or for the version of the program
abbrev pub AskForHelp : App → List Text → Type 0
AskForHelp program words =
    IsAmong DisplayHelp (fault_of program words) ⊎ IsAmong DisplayVersion (fault_of program words)

-- the program rejects the words, or it accepts them and they ask for nothing of this sort
abbrev pub AreWrong : {X : Type 0} → (App → List Text → X → Type 0) → App → List Text → Type 0
AreWrong {X} Asks program words =
    ((kind : ErrorKind) × IsAmong kind (fault_of program words) × (kind ≢ DisplayHelp) × (kind ≢ DisplayVersion))
    ⊎ ((fault_of program words ≡ []) × ((x : X) → Asks program words x → ⊥))

-- ---- results

-- the program accepts the words with these options of its subcommand, or it rejects them
abbrev pub FindsWords : App → List Text → Result ArgMatches Error → Type 0
FindsWords program words (Ok found) =
    (fault_of program words ≡ []) × (subcommand_rows_of found ≡ subcommand_of program words)
FindsWords program words (Err error) = HasKind (fault_of program words) error

-- both are a stream, a script, a server, a tap, a proxy, or commands to be sent
abbrev pub IsOfSort : Invocation → Invocation → Type 0
IsOfSort (Stream a) (Stream b) = Unit {0}
IsOfSort (Play a b file) (Play c d file') = Unit {0}
IsOfSort (Serve a) (Serve b) = Unit {0}
IsOfSort (Tap a) (Tap b) = Unit {0}
IsOfSort (Proxy a) (Proxy b) = Unit {0}
IsOfSort (Ask a) (Ask b) = Unit {0}
IsOfSort a b = ⊥

-- words that ask for this are answered by something of its sort, or by status 3
abbrev pub AnswersSort : Invocation → Result Invocation ℕ → Type 0
AnswersSort asked (Ok x) = IsOfSort asked x
AnswersSort asked (Err status) = status ≡ 3

-- what the words ask for, or a status: 0 if they ask for help, and 2 if they are wrong
abbrev pub AnswersStatus : {X : Type 0} → (App → List Text → X → Type 0) → App → List Text → Result X ℕ → Type 0
AnswersStatus Asks program words (Ok x) = Asks program words x
AnswersStatus Asks program words (Err status) =
    (status ≡ 0 → AskForHelp program words) × (status ≡ 2 → AreWrong Asks program words)
