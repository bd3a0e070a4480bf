-- Requests that were run, and bytes that are rejected.
use Rattle.std.proofs.Common.{◌≡◌, ◌∙◌, inl, inr, ℕ, List, [], ◌∷◌, ◌++◌, take, Option, Some, Result, Ok, Err, ap, refl, subst, sym}
use Rattle.std.specs.Prelude.{IfSome, OnErr, OnOk}
use Rattle.std.proofs.lemmas.List.{append-nil}
use Rattle.resp_frames.proofs.SameWords.{same_words, whole_text}
use Rattle.resp_frames.proofs.WholeTexts.{no_request_in_text, rejects_in_text}
use Rattle.resp_frames.specs.Commands.{IsCommand, IsFrameOfWords}
use Rattle.resp_frames.specs.Framing.{HasBegun, IsReady, OnFault, RejectsByte, frame_limits, frame_rules}
use Rattle.resp_frames.specs.Requests.{EndsNoRequest, IsRequest}
use Rattle.resp_frames.specs.Texts.{text_of, used_of}
use Rattle.resp_frames.specs.declared.begun.Begun.{Begun}
use Rattle.resp_frames.specs.declared.error.FrameError.{FrameError}
use Rattle.resp_frames.specs.declared.error.FrameError.TheVariants as frame
use Rattle.resp_frames.specs.declared.frames.Frames.{Frames}
use Rattle.resp_frames.specs.declared.words.CommandFrame.{CommandFrame}
use Rattle.resp_frames.specs.declared.words.Request.{Request}
use Rattle.resp_line.proofs.InlineLines.{named_words}
use Rattle.resp_line.specs.Inline.{IsArrayOf, IsLineWith, RejectsLine}
use Rattle.resp_line.specs.Lines.{AreWords}
use Rattle.resp_line.specs.declared.inline.InlineError.{InlineError}
use Rattle.resp_line.specs.declared.inline.InlineError.TheVariants as inline
use Rattle.resp_server.specs.declared.database.Database.{Database}
use Rattle.resp_session.specs.Stores.{Store}
use Rattle.resp_value.specs.Bounds.{Bounds}
use Rattle.resp_value.specs.Canonical.{canonical_text}
use Rattle.resp_value.specs.Laws.{NoSpellingBeginsAnother}
use Rattle.resp_value.specs.Rules.{Rules, rules_under}
use Rattle.resp_value.specs.declared.version.Version.TheVariants.{Two}
use Rattle.resp_server.specs.Deeds.{Asked}
use Rattle.resp_server.specs.Outcomes.{Standing, outcome_of}
use Rattle.resp_server.specs.Rejections.{OnRejection, Rejects, inline_error, taking_error}
use Rattle.resp_server.specs.Doing.{HasDone, HasDoneNothing, HasRun, standing_of, waiting_of}
use Rattle.resp_server.specs.Servers.{ServerIsSound, ServerState}
use Rattle.resp_server.specs.Taking.{Progress, TakesPart, after_request, progress_of}
use Rattle.resp_server.specs.declared.databases.client.Client.{Client}
use Rattle.resp_server.specs.declared.databases.rejection.Rejection.{Rejection}
use Rattle.resp_server.specs.declared.databases.rejection.TakeError.{TakeError}
use Rattle.resp_server.specs.declared.databases.rejection.TakeError.TheVariants as error

abbrev pub progress_at : List Store → Standing → List ℕ → Progress
progress_at stores client waiting = record { stores = stores; client = client; waiting = waiting }

-- after a command that was done, its outcome is reached
pub reached_by : (asked : Asked) (old new : ServerState) (before after : Client) → HasDone asked old new before after →
    progress_of new after ≡ after_request (Some asked) (progress_of old before)
reached_by asked old new before after d =
    let o = outcome_of old.stores (standing_of before) asked in
    ap (λ (s : ServerState). progress_at s.stores (standing_of after) (waiting_of after)) d.state ∙
    ap (λ (w : List ℕ). progress_at o.stores (standing_of after) w) d.replied ∙
    ap (λ (c : Standing). progress_at o.stores c (waiting_of before ++ canonical_text c.version o.reply)) d.client

-- nothing was done
pub nothing_reached : (old new : ServerState) (before after : Client) → HasDoneNothing old new before after → progress_of new after ≡ progress_of old before
nothing_reached old new before after n =
    ap (λ (s : ServerState). progress_at s.stores (standing_of after) (waiting_of after)) n.state ∙
    ap (λ (c : Standing). progress_at old.stores c (waiting_of after)) n.client.client ∙
    ap (λ (w : List ℕ). progress_at old.stores (standing_of before) w) n.client.replied

-- only the stores are changed
stores_alone : (old new : ServerState) (stores : List Store) → new ≡ record old { stores = stores } → new ≡ record old { stores = new.stores }
stores_alone old new stores is = is ∙ ap (λ (s : List Store). record old { stores = s }) (ap (λ (v : ServerState). v.stores) (sym is))

pub run_alone : {E : Type 0} (r : Result (Unit {0}) E) (text : List ℕ) (old new : ServerState) (before after : Client) →
    OnOk r (HasRun text old new before after) → OnErr r (HasDoneNothing old new before after) → new ≡ record old { stores = new.stores }
run_alone (Ok x) text old new before after ran failed =
    stores_alone old new (outcome_of old.stores (standing_of before) ran.asked).stores ran.done.state
run_alone (Err e) text old new before after ran failed = stores_alone old new old.stores failed.state

pub nothing_run : {E : Type 0} (r : Result (Unit {0}) E) (old new : ServerState) (before after : Client) → OnErr r (HasDoneNothing old new before after) →
    OnErr r (progress_of new after ≡ progress_of old before)
nothing_run (Ok x) old new before after failed = tt
nothing_run (Err e) old new before after failed = nothing_reached old new before after failed

-- what was found by the rules of the frames is found by those of the server
pub request_found : {own server : ServerState} (f : Frames) (begun after : Begun) (front piece : List ℕ) (found : Option Request) (request : Request) →
    IsReady f → frame_rules f ≡ rules_under Two own.limits → own ≡ server → HasBegun (rules_under Two server.limits) begun front → found ≡ Some request →
    (IsReady f → (before : List ℕ) → HasBegun (frame_rules f) begun before →
    IfSome found (λ request. IsRequest (frame_limits f) before piece request × HasBegun (frame_rules f) after [])) →
    IsRequest server.limits front piece request × HasBegun (rules_under Two server.limits) after []
request_found {own} {server} f begun after front piece found request ready same is has some whole =
    let rules = same ∙ ap (λ (v : ServerState). rules_under Two v.limits) is in
    subst (λ (r : Rules). IsRequest r.limits front piece request × HasBegun r after []) rules
    (subst (λ o. IfSome o (λ request. IsRequest (frame_limits f) front piece request × HasBegun (frame_rules f) after [])) some
    (whole ready front (subst (λ r. HasBegun r begun front) (sym rules) has)))

-- the frames stay those of the server
pub still_sound : {S H : Type 0} {limits : Bounds} {databases : List (Database S H)} {old new : Frames} → ServerIsSound limits databases old →
    (IsReady old → IsReady new) → frame_rules new ≡ frame_rules old → ServerIsSound limits databases new
still_sound sound ready same = record {
  count = sound.count;
  within = sound.within;
  ready = ready sound.ready;
  same_rules = same ∙ sound.same_rules;
}

-- an array that is a command was run
pub array_done : (front piece : List ℕ) (found : CommandFrame) (old new : ServerState) (before after : Client) →
    IsFrameOfWords old.limits front piece found → HasRun (text_of found.frame) old new before after →
    TakesPart old.limits (front ++ take (used_of found.frame) piece) (progress_of old before) (progress_of new after)
array_done front piece found old new before after f r =
    subst (λ text. TakesPart old.limits text (progress_of old before) (progress_of new after)) f.frame.text (record {
      asked = Some r.asked;
      request = record {
        name = r.name;
        arguments = r.arguments;
        command = record { array = text_of found.frame; spelled = r.spelled; form = inl refl };
        asks = r.asks;
      };
      done = reached_by r.asked old new before after r.done;
    })

-- a command is not rejected
pub array_kept : (limits limits' : Bounds) (text : List ℕ) (P : Rejection → Type 0) (e : TakeError) → limits ≡ limits' → IsCommand limits text →
    OnRejection (λ why. IsCommand limits' text → ⊥) e → OnRejection P e
array_kept limits limits' text P (error.Rejected why) same command none = absurd (none (subst (λ l. IsCommand l text) same command))
array_kept limits limits' text P error.OutOfMemory same command none = tt

-- bytes that are no array of words are rejected
pub frame_rejected : (limits : Bounds) (front piece : List ℕ) (e : FrameError) → OnFault e (RejectsByte (rules_under Two limits) front piece) →
    (e ≡ frame.NotACommand → EndsNoRequest (rules_under Two limits) limits front piece) →
    OnRejection (Rejects limits (front ++ piece)) (taking_error e)
frame_rejected limits front piece (frame.Fault fault) rejects none = rejects_in_text (rules_under Two limits) front piece fault rejects
frame_rejected limits front piece frame.NotACommand rejects none = no_request_in_text (rules_under Two limits) limits front piece (none refl)
frame_rejected limits front piece frame.OutOfMemory rejects none = tt

-- an array of the words of a line is a command
pub line_command : (limits : Bounds) (content array : List ℕ) → IsArrayOf limits content array → IsCommand limits array
line_command limits content array a =
    let (name, arguments, spelled) = named_words limits content array a in record { name = name; arguments = arguments; spelled = spelled }

-- the command of a line was run
pub line_done : NoSpellingBeginsAnother → (text content array : List ℕ) (old new : ServerState) (before after : Client) → IsLineWith content text →
    IsArrayOf old.limits content array → HasRun array old new before after → TakesPart old.limits text (progress_of old before) (progress_of new after)
line_done law text content array old new before after line a ran = record {
  asked = Some ran.asked;
  request = record {
    name = ran.name;
    arguments = ran.arguments;
    command = record {
      array = array;
      spelled = ran.spelled;
      form = inr (record {
        content = content;
        line = line;
        are = subst (λ ws. AreWords ws content)
            (sym (same_words law old.limits array (ran.name ∷ ran.arguments) a.words [] (whole_text old.limits array ran.name ran.arguments ran.spelled)
            (record { written = array; spelled = a.spelled; whole = sym (append-nil array) }))) a.are;
      });
    };
    asks = ran.asks;
  };
  done = reached_by ran.asked old new before after ran.done;
}

-- a line that is no command is rejected
pub line_rejected : (limits : Bounds) (text : List ℕ) (e : InlineError) → RejectsLine limits text e → OnRejection (Rejects limits text) (inline_error e)
line_rejected limits text inline.LongLine r = r
line_rejected limits text inline.Quotes r = r
line_rejected limits text inline.OverLimits r = r
line_rejected limits text inline.OutOfMemory r = tt
