-- What the words give an option, from what the matches read of it.
use Rattle.std.proofs.Common.{subst, ◌&&◌, arith, inl, inr, ◌⊎◌, ◌≢◌, ◌∙◌, ◌≡◌, ℕ, ap, Bool, true, false, List, [], refl, sym, Option, Some, None, Result, Ok, Err, IfOk, IfErr, IfSome, IfNone, OnErr, codes, unwrap_or}
use Rattle.std.specs.Str.Parse.{ParsesBool, ParsesUnsigned}
use Rattle.clap.specs.Words.{App, FailsBy, HasKind, HasMatchesOf, IsAmong, kind_of, ReadsOne, Row, Text, fault_of, first_of, is_simple, is_simple_and_free, one_text, rows_of, subcommand_of, subcommand_rows_of}
use Rattle.clap.specs.declared.error.Error.{Error}
use Rattle.clap.specs.declared.error.kind.ErrorKind.{ErrorKind}
use Rattle.clap.specs.declared.error.kind.ErrorKind.TheVariants.{DisplayHelp, DisplayVersion, OutOfMemory}
use Rattle.clap.specs.declared.builder.value_parser.ValueParser.{ValueParser}
use Rattle.clap.specs.declared.parser.matches.ArgMatches.{ArgMatches}
use Rattle.clap.specs.declared.parser.matches.Found.{Found}
use Rattle.clap.proofs.OnLiterals.{clap_on_literals}
use Rattle.clap.proofs.WalkLemmas.{one_text-rows}
use Rattle.resp_cli_args.specs.CommandWords.{AnswersSort, AnswersStatus, AskFor, Enters, IsOfSort, FindsWords, HasAsking, HasFlag, HasMost, HasNumber, HasProxying, HasReading, HasRoute, HasServing, HasSmallNumber, HasTapping, IsAsked, flag_text, task_word}
use Rattle.resp_cli_args.specs.Addresses.{HasPort, IsAddressText, IsLocalPort}
use Rattle.resp_cli_args.specs.Hosts.{IsListenText, IsServerText}
use Rattle.resp_cli_args.specs.declared.listen_address.ListenAddress.{ListenAddress}
use Rattle.resp_cli_args.specs.declared.server_address.ServerAddress.{ServerAddress}
use Rattle.resp_cli_args.specs.Faults.{IsWordStatus}
use Rattle.std.specs.Str.{bytes_eq}
use Rattle.std.specs.Prelude.{if◌then◌else◌}
use Rattle.std.specs.Result.{IsErrAnd}
use Rattle.clap.specs.Words.{app_of}
use Rattle.clap.specs.declared.builder.command.Command.{Command}
use Rattle.resp_cli_args.specs.Program.{IsProgram, IsTask, resp_app}
use Rattle.std.specs.Net.Grammar.{IsSocketText}
use Rattle.std.specs.declared.net.socket_addr.SocketAddr.{SocketAddr}
use Rattle.resp_value.specs.declared.version.Version.{Version}
use Rattle.resp_cli_args.specs.declared.asked.Invocation.{Invocation}
use Rattle.resp_cli_args.specs.declared.asked.Invocation.TheVariants.{Stream, Play, Serve, Tap, Proxy, Ask}
use Rattle.resp_cli_args.specs.declared.asking.Asking.{Asking}
use Rattle.resp_cli_args.specs.declared.options.Task.{Task}
use Rattle.resp_cli_args.specs.declared.options.Task.TheVariants.{Show, Check, Canon}
use Rattle.resp_cli_args.specs.declared.proxying.Proxying.{Proxying}
use Rattle.resp_cli_args.specs.declared.serving.Serving.{Serving}
use Rattle.resp_cli_args.specs.declared.tapping.Tapping.{Tapping}
use Rattle.resp_cli_args.specs.declared.traffic.Route.{Route}

none≢some : {X : Type 0} (x : X) → Some x ≡ None → ⊥
none≢some x e = cc

module _ {E : Type 0} (f : Found) (name : Text) where
  -- a number that was read is the option's, and where none was read the option has none
  pub number_read : (G : List ℕ → Result ℕ E → Type 0) (r : Option ℕ) → ((t : Text) (x : Result ℕ E) → G t x → ParsesUnsigned 64 10 t x) →
      (one_text f name ≡ None → r ≡ None) → ((t : Text) → one_text f name ≡ Some t → ReadsOne G t r) →
      IfSome r (HasNumber (rows_of f) name)
  number_read G None parses none value = tt
  number_read G (Some v) parses none value = go (one_text f name) refl
    where
      go : (o : Option Text) → one_text f name ≡ o → HasNumber (rows_of f) name v
      go None e = absurd (none≢some v (none e))
      go (Some t) e =
          let p = parses t (Ok v) (value t e) in
          (t, sym (one_text-rows f name) ∙ e, p.0.0, sym p.1, rw p.1 p.0.1)

  pub no_number_read : (G : List ℕ → Result ℕ E → Type 0) (r : Option ℕ) → ((t : Text) (x : Result ℕ E) → G t x → ParsesUnsigned 64 10 t x) →
      ((t : Text) → one_text f name ≡ Some t → ReadsOne G t r) →
      IfNone r ((n : ℕ) → HasNumber (rows_of f) name n → ⊥)
  no_number_read G (Some v) parses value = tt
  no_number_read G None parses value = λ n has.
      let got = value has.0 (one_text-rows f name ∙ has.1) in
      parses has.0 (Err got.0) got.1 (has.2, rw has.3 has.4)

-- and so of a flag
module _ (E : Type 0) (f : Found) (name : Text) where
  pub flag_read : (r : Option Bool) → (one_text f name ≡ None → r ≡ None) →
      ((t : Text) → one_text f name ≡ Some t → ReadsOne (ParsesBool {E = E}) t r) → IfSome r (HasFlag (rows_of f) name)
  flag_read None none value = tt
  flag_read (Some on) none value = go (one_text f name) refl on none value
    where
      go : (o : Option Text) → one_text f name ≡ o → (b : Bool) → (one_text f name ≡ None → Some b ≡ None) →
          ((t : Text) → one_text f name ≡ Some t → ParsesBool {E = E} t (Ok b)) → HasFlag (rows_of f) name b
      go None e b none value = absurd (none≢some b (none e))
      go (Some t) e true none value = sym (one_text-rows f name) ∙ e ∙ ap (λ (w : Text). Some w) (value t e)
      go (Some t) e false none value = sym (one_text-rows f name) ∙ e ∙ ap (λ (w : Text). Some w) (value t e)

  pub no_flag_read : (r : Option Bool) → ((t : Text) → one_text f name ≡ Some t → ReadsOne (ParsesBool {E = E}) t r) →
      IfNone r ((on : Bool) → HasFlag (rows_of f) name on → ⊥)
  no_flag_read (Some b) value = tt
  no_flag_read None value = go
    where
      go : (on : Bool) → HasFlag (rows_of f) name on → ⊥
      go true has = (value (codes "true") (one_text-rows f name ∙ has)).1.0 refl
      go false has = (value (codes "false") (one_text-rows f name ∙ has)).1.1 refl

pub if_none : {X : Type 0} (r : Option X) (P : Type 0) → P → IfNone r P
if_none (Some x) P p = tt
if_none None P p = p

-- words that say how a stream is read say whether `-2` is given, and without it whether `-3` is
module _ (given : List Row) (version : Version) (doubles : Bool) where
  pub reading_has_two : HasReading given version doubles → (on : Bool) × HasFlag given (codes "two") on
  reading_has_two (inl reads) = (true, reads.0)
  reading_has_two (inr (inl reads)) = (false, reads.0)
  reading_has_two (inr (inr reads)) = (false, reads.0)

  pub reading_has_three : HasFlag given (codes "two") false → HasReading given version doubles → (on : Bool) × HasFlag given (codes "three") on
  reading_has_three off (inl reads) = absurd (true_is_not_false (sym reads.0 ∙ off))
    where
      true_is_not_false : Some (flag_text true) ≡ Some (flag_text false) → ⊥
      true_is_not_false e = cc
  reading_has_three off (inr (inl reads)) = (true, reads.1)
  reading_has_three off (inr (inr reads)) = (false, reads.1)

-- a text that is a port after none of the prefixes is no port of this machine
pub no_local_port : (text : Text) (r : Option ℕ) → ((number : ℕ) → HasPort [] text number → ⊥) →
    ((number : ℕ) → HasPort (codes ":") text number → ⊥) → IfNone r ((number : ℕ) → HasPort (codes "localhost:") text number → ⊥) →
    IfNone r ((number : ℕ) → IsLocalPort text number → ⊥)
no_local_port text (Some port) alone colon local = tt
no_local_port text None alone colon local = none
  where
    none : (number : ℕ) → IsLocalPort text number → ⊥
    none number (inl has) = alone number has
    none number (inr (inl has)) = colon number has
    none number (inr (inr has)) = local number has

-- a text that is neither is no address
pub no_address : (text : Text) → ((address : SocketAddr) → IsSocketText text address → ⊥) → ((number : ℕ) → IsLocalPort text number → ⊥) →
    (address : SocketAddr) → IsAddressText text address → ⊥
no_address text socket local address (inl is) = socket address is
no_address text socket local address (inr (number, is, there)) = local number is

-- an option has one text
same_text : (a b : Text) (found : Option Text) → found ≡ Some a → found ≡ Some b → a ≡ b
same_text a b found is is' = ap (λ (o : Option Text). unwrap_or o []) (sym is ∙ is')

-- an option that is given, and is no number in the range, is neither such a number nor missing
pub no_most : (given : List Row) (name text : Text) → first_of name given ≡ Some text →
    ((number : ℕ) → HasSmallNumber given name number → ⊥) → (most : Option ℕ) → HasMost given name most → ⊥
no_most given name text is none None has = none≢some text (sym is ∙ has.0)
no_most given name text is none (Some number) has = none number (has.0, has.1.0, has.1.1)

-- a text that is no address is that of no address in the words
pub no_serving : (given : List Row) (text : Text) → first_of (codes "address") given ≡ Some text →
    ((address : ListenAddress) → IsListenText text address → ⊥) → (serving : Serving) → HasServing given serving → ⊥
no_serving given text is none serving has =
    let same = same_text text serving.address_text.now (first_of (codes "address") given) is has.0.text in
    none serving.address (subst (λ z. IsListenText z serving.address) (sym same) has.1)

pub no_route : (given : List Row) (text text' : Text) → first_of (codes "listen") given ≡ Some text →
    first_of (codes "server") given ≡ Some text' →
    ((here : ListenAddress) (there : ServerAddress) → IsListenText text here → IsServerText text' there → ⊥) →
    (route : Route) → HasRoute given route → ⊥
no_route given text text' is is' none route has =
    let same = same_text text route.address_text.now (first_of (codes "listen") given) is has.listen_text in
    let same' = same_text text' has.server_text (first_of (codes "server") given) is' has.server_is in
    none route.address route.server (subst (λ z. IsListenText z route.address) (sym same) has.listen)
    (subst (λ z. IsServerText z route.server) (sym same') has.to)

pub no_proxy_addresses : (given : List Row) (text text' : Text) → first_of (codes "listen") given ≡ Some text →
    first_of (codes "server") given ≡ Some text' →
    ((here : ListenAddress) (there : ServerAddress) → IsListenText text here → IsServerText text' there → ⊥) →
    (proxying : Proxying) → HasProxying given proxying → ⊥
no_proxy_addresses given text text' is is' none proxying has =
    let same = same_text text proxying.address_text.now (first_of (codes "listen") given) is has.has.listen_text in
    let same' = same_text text' has.server_text (first_of (codes "server") given) is' has.has.server_text in
    none proxying.address proxying.server (subst (λ z. IsListenText z proxying.address) (sym same) has.listen)
    (subst (λ z. IsServerText z proxying.server) (sym same') has.to)

pub no_asking : (given : List Row) (text : Text) → first_of (codes "server") given ≡ Some text →
    ((server : ServerAddress) → IsServerText text server → ⊥) → (asking : Asking) → HasAsking given asking → ⊥
no_asking given text is none asking has =
    let same = same_text text asking.server_text.now (first_of (codes "server") given) is has.text in
    none asking.server (subst (λ z. IsServerText z asking.server) (sym same) has.address)

pub on_err : {X E : Type 0} (r : Result X E) (P : Type 0) → P → OnErr r P
on_err (Ok x) P p = tt
on_err (Err e) P p = p

-- the program is one of which the matches are known
program_is_free : (versions : ValueParser) → is_simple_and_free (resp_app versions) ≡ true
unfolding clap_on_literals
program_is_free versions = refl

first_true : (a b : Bool) → (a && b) ≡ true → a ≡ true
first_true true b e = refl
first_true false b e = e

program_is_simple : (versions : ValueParser) → is_simple (resp_app versions) ≡ true
program_is_simple versions = first_true (is_simple (resp_app versions)) _ (program_is_free versions)

-- what the parser finds is what the program's definition says
pub found_by_program : (versions : ValueParser) (app : App) (words : List Text) (found : Result ArgMatches Error) → app ≡ resp_app versions →
    (is_simple_and_free app ≡ true → FailsBy (fault_of app words) found) → IfOk found (HasMatchesOf app words) →
    FindsWords (resp_app versions) words found
found_by_program versions app words (Ok m) is fails matches =
    let known = rw is at matches in
    let taken = rw is at fails in
    (taken (program_is_free versions), (known (program_is_simple versions)).1)
found_by_program versions app words (Err e) is fails matches =
    let taken = rw is at fails in
    taken (program_is_free versions)

-- what was entered is what the words ask for
module _ (program : App) (words : List Text) (found : Result ArgMatches Error) (m : ArgMatches) (finds : FindsWords program words found)
    (is : found ≡ Ok m) where
  pub asks_if_entered : (asked : Invocation) → Enters (subcommand_rows_of m) asked → AskFor program words asked
  asks_if_entered asked enters =
      let all = rw is at finds in
      (all.0, subst (λ (entered : Option (Text × List Row)). Enters entered asked) all.1 enters)

  entered_if_asks : (asked : Invocation) → AskFor program words asked → Enters (subcommand_rows_of m) asked
  entered_if_asks asked asks =
      let all = rw is at finds in
      subst (λ (entered : Option (Text × List Row)). Enters entered asked) (sym all.1) asks.1

  -- and words that enter nothing are wrong
  pub asked_for_nothing : (status : ℕ) → (status ≡ 2) ⊎ (status ≡ 3) →
      (status ≡ 2 → (asked : Invocation) → Enters (subcommand_rows_of m) asked → ⊥) → AnswersStatus AskFor program words (Err status)
  asked_for_nothing status range none = (
    λ zero'. absurd (elim range [
      | inl two ↦ omega (arith, zero', two)
      | inr three ↦ omega (arith, zero', three)
    ]),
    λ two. inr ((rw is at finds).0, λ asked asks. none two asked (entered_if_asks asked asks)),
  )

-- ---- subcommands

-- whether it is that of a task, or which of the others, by its name and by what it is asked for
abbrev sort_of_word : Text → ℕ
sort_of_word word = if bytes_eq word (codes "loop") then 1 else if bytes_eq word (codes "serve") then 2 else
    if bytes_eq word (codes "tap") then 3 else if bytes_eq word (codes "ask") then 4 else
    if bytes_eq word (codes "proxy") then 5 else 0

abbrev pub sort_of : Invocation → ℕ
sort_of (Stream options) = 0
sort_of (Play explains never_explains file) = 1
sort_of (Serve serving) = 2
sort_of (Tap tapping) = 3
sort_of (Ask asking) = 4
sort_of (Proxy proxying) = 5

sort_of_task : (task : Task) → sort_of_word (task_word task) ≡ 0
sort_of_task Show = refl
sort_of_task Check = refl
sort_of_task Canon = refl

sort_by_word : (name : Text) (given : List Row) (asked : Invocation) → IsAsked name given asked → sort_of_word name ≡ sort_of asked
sort_by_word name given (Stream options) is = ap sort_of_word is.0 ∙ sort_of_task options.task
sort_by_word name given (Play explains never_explains file) is = ap sort_of_word is.0
sort_by_word name given (Serve serving) is = ap sort_of_word is.0
sort_by_word name given (Tap tapping) is = ap sort_of_word is.0
sort_by_word name given (Ask asking) is = ap sort_of_word is.0
sort_by_word name given (Proxy proxying) is = ap sort_of_word is.0

-- where `tap` can't be asked for what is tapped it can't be asked for anything
pub no_tapping : (given : List Row) → ((tapping : Tapping) → HasTapping given tapping → ⊥) → (asked : Invocation) →
    IsAsked (codes "tap") given asked → ⊥
no_tapping given none asked is = go asked is (sort_by_word (codes "tap") given asked is)
  where
    go : (asked : Invocation) → IsAsked (codes "tap") given asked → 3 ≡ sort_of asked → ⊥
    go (Tap tapping) is sort = none tapping is.1
    go other is sort = omega arith

-- where `proxy` can't be asked for a proxy it can't be asked for anything
pub no_proxying : (given : List Row) → ((proxying : Proxying) → HasProxying given proxying → ⊥) → (asked : Invocation) →
    IsAsked (codes "proxy") given asked → ⊥
no_proxying given none asked is = go asked is (sort_by_word (codes "proxy") given asked is)
  where
    go : (asked : Invocation) → IsAsked (codes "proxy") given asked → 5 ≡ sort_of asked → ⊥
    go (Proxy proxying) is sort = none proxying is.1
    go other is sort = omega arith

-- where `ask` can't be asked for what is sent it can't be asked for anything
pub nothing_to_ask : (given : List Row) → ((asking : Asking) → HasAsking given asking → ⊥) → (asked : Invocation) →
    IsAsked (codes "ask") given asked → ⊥
nothing_to_ask given none asked is = go asked is (sort_by_word (codes "ask") given asked is)
  where
    go : (asked : Invocation) → IsAsked (codes "ask") given asked → 4 ≡ sort_of asked → ⊥
    go (Ask asking) is sort = none asking is.1
    go other is sort = omega arith

-- what was entered is of one sort
pub one_sort : (entered : Option (Text × List Row)) (a b : Invocation) → Enters entered a → Enters entered b → sort_of a ≡ sort_of b
one_sort None a b enters enters' = absurd enters
one_sort (Some entered) a b enters enters' = sym (sort_by_word _ _ a enters) ∙ sort_by_word _ _ b enters'

-- a command that has the program's definition finds what it says
pub finds_as_program : (app : App) (command : Command) (words : List Text) (found : Result ArgMatches Error) → IsProgram app → IsTask command app →
    (is_simple_and_free (app_of command) ≡ true → FailsBy (fault_of (app_of command) words) found) → IfOk found (HasMatchesOf (app_of command) words) →
    (program : App) × IsProgram program × FindsWords program words found
finds_as_program app command words found is task fails matches =
    (resp_app is.0, (is.0, is.1, refl), found_by_program is.0 (app_of command) words found (task.0 ∙ is.2) fails matches)

-- without memory nothing is found
pub finds_without_memory : (app : App) (words : List Text) (found : Result ArgMatches Error) → IsProgram app →
    IsErrAnd found (λ error. kind_of error ≡ OutOfMemory) → (program : App) × IsProgram program × FindsWords program words found
finds_without_memory app words (Err error) is memory = (app, is, inl memory)
finds_without_memory app words (Ok found) is memory = absurd memory

-- ---- statuses

among : (k k' : ErrorKind) (kinds : List ErrorKind) → k ≡ k' → IsAmong k kinds → IsAmong k' kinds
among k k' kinds is h = rw is at h

-- the status of what the parser refuses or helps with
pub refused_by_program : {X : Type 0} (Asks : App → List Text → X → Type 0) (program : App) (words : List Text) (error : Error) (status : ℕ) →
    HasKind (fault_of program words) error → (status ≡ 0 → (kind_of error ≡ DisplayHelp) ⊎ (kind_of error ≡ DisplayVersion)) →
    (status ≡ 2 → (kind_of error ≢ OutOfMemory) × (kind_of error ≢ DisplayHelp) × (kind_of error ≢ DisplayVersion)) →
    AnswersStatus Asks program words (Err status)
refused_by_program Asks program words error status (inl memory) helps refuses = (
  λ none. elim (helps none) [
    | inl help ↦ let bad : OutOfMemory ≡ DisplayHelp = sym memory ∙ help in cc
    | inr version ↦ let bad : OutOfMemory ≡ DisplayVersion = sym memory ∙ version in cc
  ],
  λ two. absurd ((refuses two).0 memory),
)
refused_by_program Asks program words error status (inr kind) helps refuses = (
  λ none. elim (helps none) [
    | inl help ↦ inl (among _ _ _ help kind)
    | inr version ↦ inr (among _ _ _ version kind)
  ],
  λ two. inl (kind_of error, kind, (refuses two).1, (refuses two).2),
)

-- ---- words that ask for something

of_sort : (a b : Invocation) → sort_of a ≡ sort_of b → IsOfSort a b
of_sort (Stream a) (Stream b) same = tt
of_sort (Play a f n) (Play b g m) same = tt
of_sort (Serve a) (Serve b) same = tt
of_sort (Tap a) (Tap b) same = tt
of_sort (Ask a) (Ask b) same = tt
of_sort (Proxy a) (Proxy b) same = tt
of_sort (Stream a) (Play b g m) same = absurd (omega (arith, same))
of_sort (Stream a) (Serve b) same = absurd (omega (arith, same))
of_sort (Stream a) (Tap b) same = absurd (omega (arith, same))
of_sort (Stream a) (Ask b) same = absurd (omega (arith, same))
of_sort (Play a f n) (Stream b) same = absurd (omega (arith, same))
of_sort (Play a f n) (Serve b) same = absurd (omega (arith, same))
of_sort (Play a f n) (Tap b) same = absurd (omega (arith, same))
of_sort (Play a f n) (Ask b) same = absurd (omega (arith, same))
of_sort (Serve a) (Stream b) same = absurd (omega (arith, same))
of_sort (Serve a) (Play b g m) same = absurd (omega (arith, same))
of_sort (Serve a) (Tap b) same = absurd (omega (arith, same))
of_sort (Serve a) (Ask b) same = absurd (omega (arith, same))
of_sort (Tap a) (Stream b) same = absurd (omega (arith, same))
of_sort (Tap a) (Play b g m) same = absurd (omega (arith, same))
of_sort (Tap a) (Serve b) same = absurd (omega (arith, same))
of_sort (Tap a) (Ask b) same = absurd (omega (arith, same))
of_sort (Ask a) (Stream b) same = absurd (omega (arith, same))
of_sort (Ask a) (Play b g m) same = absurd (omega (arith, same))
of_sort (Ask a) (Serve b) same = absurd (omega (arith, same))
of_sort (Ask a) (Tap b) same = absurd (omega (arith, same))
of_sort (Stream a) (Proxy b) same = absurd (omega (arith, same))
of_sort (Play a f n) (Proxy b) same = absurd (omega (arith, same))
of_sort (Serve a) (Proxy b) same = absurd (omega (arith, same))
of_sort (Tap a) (Proxy b) same = absurd (omega (arith, same))
of_sort (Ask a) (Proxy b) same = absurd (omega (arith, same))
of_sort (Proxy a) (Stream b) same = absurd (omega (arith, same))
of_sort (Proxy a) (Play b g m) same = absurd (omega (arith, same))
of_sort (Proxy a) (Serve b) same = absurd (omega (arith, same))
of_sort (Proxy a) (Tap b) same = absurd (omega (arith, same))
of_sort (Proxy a) (Ask b) same = absurd (omega (arith, same))

by_status : (status : ℕ) → IsWordStatus status → (status ≡ 0 → ⊥) → (status ≡ 2 → ⊥) → status ≡ 3
by_status status (inl zero') none two = absurd (none zero')
by_status status (inr range) none two = omega (arith, range.0, range.1, two)

-- they are answered by that sort, or by status 3
pub answers_sort : (program : App) (words : List Text) (result : Result Invocation ℕ) → AnswersStatus AskFor program words result →
    IfErr result IsWordStatus → (asked : Invocation) → AskFor program words asked → AnswersSort asked result
answers_sort program words (Ok x) answers range asked asks = of_sort asked x (one_sort (subcommand_of program words) asked x asks.1 answers.1)
answers_sort program words (Err status) answers range asked asks =
    by_status status range
    (λ none. elim (answers.0 none) [
      | inl help ↦ subst (IsAmong DisplayHelp) asks.0 help
      | inr version ↦ subst (IsAmong DisplayVersion) asks.0 version
    ])
    (λ two. elim (answers.1 two) [
      | inl refused ↦ subst (IsAmong refused.0) asks.0 refused.1
      | inr other ↦ other.1 asked asks
    ])
