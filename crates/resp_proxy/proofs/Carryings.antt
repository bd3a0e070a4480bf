-- A command is carried out.
use Rattle.std.proofs.Common.{◌≡◌, ◌∙◌, inl, inr, ℕ, true, Global, Vec, List, [], ◌∷◌, ◌++◌, take, drop, Option, None, Some, Result, Ok, Err, ap, refl, subst, sym}
use Rattle.std.proofs.lemmas.List.{append-nil, take-append-drop}
use Rattle.std.specs.Prelude.{MatchOption, OnOk}
use Rattle.resp_commands.specs.Classes.{HasClass, HasNoClass}
use Rattle.resp_commands.specs.declared.command.Class.{Class}
use Rattle.resp_commands.specs.declared.command.Class.TheVariants as class
use Rattle.resp_frames.proofs.SameWords.{name_same, rest_same, same_words, whole_text}
use Rattle.resp_frames.specs.Commands.{IsCommand, IsFrameOfWords}
use Rattle.resp_frames.specs.Texts.{text_of, used_of}
use Rattle.resp_frames.specs.declared.words.CommandFrame.{CommandFrame}
use Rattle.resp_line.proofs.InlineLines.{named_words}
use Rattle.resp_line.specs.Inline.{IsArrayOf, IsLineWith}
use Rattle.resp_board.specs.Boards.{Ask, Own}
use Rattle.resp_board.specs.Histories.{with_event}
use Rattle.resp_board.specs.Runs.{HasRun, WhereRun}
use Rattle.resp_board.specs.declared.board.Board.{Board}
use Rattle.resp_proxy.specs.declared.route.Route.{Route}
use Rattle.resp_proxy.specs.declared.error.ClientError.{ClientError}
use Rattle.resp_proxy.specs.declared.answer.Answer.{Answer}
use Rattle.resp_proxy.specs.declared.answer.Answer.TheVariants as answer
use Rattle.resp_proxy.proofs.OwnReplies.{not-shared}
use Rattle.resp_proxy.specs.OwnReplies.{IsReplyBy, Stays, shared_treatment, treatment, unshared_treatment}
use Rattle.resp_proxy.specs.Reasons.{FitsAnswer, Reacts}
use Rattle.resp_proxy.specs.Taking.{AdmitsText, Answers, Carries, Deed, Does, Fits, IsLocalReply, IsOwnReplyTo, Passes, Queues, TakesPart}
use Rattle.resp_proxy.specs.Terms.{IsAdmitted, IsRequestOf, MayBeSent, Terms}
use Rattle.resp_scan.specs.Whole.{BeginsWith}
use Rattle.resp_value.specs.Bounds.{Bounds}
use Rattle.resp_value.specs.Laws.{NoSpellingBeginsAnother}
use Rattle.resp_value.specs.Rules.{rules_under}
use Rattle.resp_value.specs.Words.{command_of}
use Rattle.resp_value.specs.declared.version.Version.TheVariants.{Two}

-- a command that was queued
carried-with : (terms : Terms) (route : Route) (front piece : List ℕ) (found : CommandFrame) (old new : Board) →
    (f : IsFrameOfWords terms.rules.limits front piece found) → MayBeSent terms f.words.name f.words.arguments →
    WhereRun old (λ p. HasRun new (with_event (Ask route.client route.line.place (text_of found.frame)) p)) → Carries terms route (text_of found.frame) old new
carried-with terms route front piece found old new f allowed passed = record {
  name = f.words.name;
  arguments = f.words.arguments;
  spelled = f.words.spelled;
  deed = Queues (text_of found.frame);
  does = (refl, allowed);
  run = passed;
}

class-of : (found : Option Class) (name : List ℕ) (arguments : List (List ℕ)) →
    MatchOption found (HasNoClass name arguments) (λ class. HasClass name arguments class) → found ≡ Some class.Shared → HasClass name arguments class.Shared
class-of found name arguments has is = subst (λ o. MatchOption o (HasNoClass name arguments) (λ class. HasClass name arguments class)) is has

-- a command of a class that clients may share a connection for was queued
pub carried-shared : (result : Result (Unit {0}) ClientError) (terms : Terms) (route : Route) (front piece : List ℕ) (found : CommandFrame)
    (old new : Board) → IsFrameOfWords terms.rules.limits front piece found → found.words.class ≡ Some class.Shared →
    OnOk result (WhereRun old (λ p. HasRun new (with_event (Ask route.client route.line.place (text_of found.frame)) p))) →
    OnOk result (Carries terms route (text_of found.frame) old new)
carried-shared (Ok x) terms route front piece found old new f is passed =
    carried-with terms route front piece found old new f
    (inl (class-of found.words.class f.words.name f.words.arguments f.words.has.class is)) passed
carried-shared (Err e) terms route front piece found old new f is passed = tt

-- a command that is admitted was queued
pub carried-admitted : NoSpellingBeginsAnother → (result : Result (Unit {0}) ClientError) (terms : Terms) (route : Route) (front piece : List ℕ)
    (found : CommandFrame) (old new : Board) → IsFrameOfWords terms.rules.limits front piece found → AdmitsText terms (text_of found.frame) →
    OnOk result (WhereRun old (λ p. HasRun new (with_event (Ask route.client route.line.place (text_of found.frame)) p))) →
    OnOk result (Carries terms route (text_of found.frame) old new)
carried-admitted law (Ok x) terms route front piece found old new f a passed =
    let same : a.name ∷ a.arguments ≡ f.words.name ∷ f.words.arguments =
    same_words law terms.rules.limits (text_of found.frame) (a.name ∷ a.arguments) (f.words.name ∷ f.words.arguments) a.rest a.begins
    (whole_text terms.rules.limits (text_of found.frame) f.words.name f.words.arguments f.words.spelled) in
    carried-with terms route front piece found old new f
    (inr (subst (IsAdmitted terms) (name_same a.name f.words.name a.arguments f.words.arguments same) a.admitted)) passed
carried-admitted law (Err e) terms route front piece found old new f a passed = tt

-- the proxy's own reply to a command for which clients share a connection
pub own-shared : NoSpellingBeginsAnother → (terms : Terms) (route : Route) (answer front piece : List ℕ) (found : CommandFrame) →
    (f : IsFrameOfWords terms.rules.limits front piece found) → found.words.class ≡ Some class.Shared →
    Stays terms route found.words.class f.words.name f.words.arguments →
    IsLocalReply terms.rules.limits terms.pings (text_of found.frame) answer → IsOwnReplyTo terms route f.words.name f.words.arguments answer
own-shared law terms route answer front piece found f is stays l =
    let same : l.name ∷ l.arguments ≡ f.words.name ∷ f.words.arguments =
    same_words law terms.rules.limits (text_of found.frame) (l.name ∷ l.arguments) (f.words.name ∷ f.words.arguments) l.rest l.begins
    (whole_text terms.rules.limits (text_of found.frame) f.words.name f.words.arguments f.words.spelled) in
    let named = name_same l.name f.words.name l.arguments f.words.arguments same in
    let worded = rest_same l.name f.words.name l.arguments f.words.arguments same in
    record {
      class = found.words.class;
      listed = f.words.has.class;
      not_admitted = λ none. let both : Some class.Shared ≡ None = sym is ∙ none in absurd (cc);
      stays = stays;
      called = [];
      reply = subst (λ c. IsReplyBy (treatment terms.pings route.is_first c f.words.name f.words.arguments) route.version route.client.number [] answer)
          (sym is)
          (subst (λ n. IsReplyBy (shared_treatment terms.pings n f.words.arguments) route.version route.client.number [] answer) named
          (subst (λ a. IsReplyBy (shared_treatment terms.pings l.name a) route.version route.client.number [] answer) worded
          (l.reply route.version route.client.number [])));
    }

-- the proxy's own reply to another command
pub own-unshared : (terms : Terms) (route : Route) (called said front piece : List ℕ) (found : CommandFrame) (given : Answer) (text : Vec ℕ Global) →
    (f : IsFrameOfWords terms.rules.limits front piece found) → (found.words.class ≡ Some class.Shared → ⊥) →
    (found.words.class ≡ None → AdmitsText terms (text_of found.frame) → ⊥) →
    Stays terms route found.words.class f.words.name f.words.arguments → given ≡ answer.Reply text → said ≡ text.items →
    FitsAnswer route called (unshared_treatment route.is_first found.words.class f.words.name f.words.arguments) f.words.name f.words.arguments given →
    IsOwnReplyTo terms route f.words.name f.words.arguments said
own-unshared terms route called said front piece found given text f other unadmitted stays is same fits =
    let unshared = unshared_treatment route.is_first found.words.class f.words.name f.words.arguments in
    record {
      class = found.words.class;
      listed = f.words.has.class;
      not_admitted = λ none a. unadmitted none (record {
        name = f.words.name;
        arguments = f.words.arguments;
        rest = [];
        begins = whole_text terms.rules.limits (text_of found.frame) f.words.name f.words.arguments f.words.spelled;
        admitted = a;
      });
      stays = stays;
      called = called;
      reply = subst (λ t. IsReplyBy t route.version route.client.number called said)
          (sym (not-shared terms.pings route.is_first found.words.class f.words.name f.words.arguments other))
          (subst (λ a. IsReplyBy unshared route.version route.client.number called a) (sym same)
          (subst (λ g. Reacts route called unshared f.words.name fits.first g) is fits.reacts));
    }

-- a command was answered
pub carried-own : (result : Result (Unit {0}) ClientError) (terms : Terms) (route : Route) (answer front piece : List ℕ) (found : CommandFrame)
    (old new : Board) → (f : IsFrameOfWords terms.rules.limits front piece found) → IsOwnReplyTo terms route f.words.name f.words.arguments answer →
    OnOk result (WhereRun old (λ p. HasRun new (with_event (Own route.client answer) p))) → OnOk result (Carries terms route (text_of found.frame) old new)
carried-own (Ok x) terms route answer front piece found old new f reply passed = record {
  name = f.words.name;
  arguments = f.words.arguments;
  spelled = f.words.spelled;
  deed = Answers answer;
  does = reply;
  run = passed;
}
carried-own (Err e) terms route answer front piece found old new f reply passed = tt

request-fits : (terms : Terms) (route : Route) (text sent name : List ℕ) (arguments : List (List ℕ)) (deed : Deed) → IsRequestOf terms text sent (name ∷ arguments) →
    Does terms route name arguments sent deed → Fits terms route text deed
request-fits terms route text sent name arguments Passes r does = absurd does
request-fits terms route text sent name arguments (Queues queued) r (is, allowed) = record {
  name = name;
  arguments = arguments;
  request = subst (λ s. IsRequestOf terms text s (name ∷ arguments)) (sym is) r;
  allowed = allowed;
}
request-fits terms route text sent name arguments (Answers answer) r does =
    record { sent = sent; name = name; arguments = arguments; request = r; reply = does }

-- a part that is an array was taken
pub array-part : (terms : Terms) (route : Route) (front piece : List ℕ) (found : CommandFrame) (old new : Board) →
    IsFrameOfWords terms.rules.limits front piece found → Carries terms route (text_of found.frame) old new →
    TakesPart terms route (front ++ take (used_of found.frame) piece) old new
array-part terms route front piece found old new f c =
    subst (λ text. TakesPart terms route text old new) f.frame.text (record {
      deed = c.deed;
      fits = request-fits terms route (text_of found.frame) (text_of found.frame) c.name c.arguments c.deed (record { spelled = c.spelled; form = inl refl }) c.does;
      run = c.run;
    })

-- the words with which the array of a line begins are those of the line
pub line-request : NoSpellingBeginsAnother → (terms : Terms) (content text array name : List ℕ) (arguments : List (List ℕ)) (rest : List ℕ) →
    terms.lines ≡ true → IsLineWith content text → IsArrayOf terms.rules.limits content array →
    BeginsWith terms.rules.limits array (command_of (name ∷ arguments)) rest → IsRequestOf terms text array (name ∷ arguments)
line-request law terms content text array name arguments rest lines line a begins =
    subst (IsRequestOf terms text array)
    (sym (same_words law terms.rules.limits array (name ∷ arguments) a.words rest begins
    (record { written = array; spelled = a.spelled; whole = sym (append-nil array) })))
    (record { spelled = a.spelled; form = inr (lines, record { content = content; line = line; are = a.are }, a.canonical) })

-- a part that is a line was taken
pub line-part : NoSpellingBeginsAnother → (terms : Terms) (route : Route) (content text array : List ℕ) (old new : Board) → terms.lines ≡ true →
    IsLineWith content text → IsArrayOf terms.rules.limits content array → Carries terms route array old new → TakesPart terms route text old new
line-part law terms route content text array old new lines line a c = record {
  deed = c.deed;
  fits = request-fits terms route text array c.name c.arguments c.deed
      (line-request law terms content text array c.name c.arguments [] lines line a
      (whole_text terms.rules.limits array c.name c.arguments c.spelled)) c.does;
  run = c.run;
}

-- an array of the words of a line is a command
pub line-command : (limits : Bounds) (content array : List ℕ) → IsArrayOf limits content array → IsCommand limits array
line-command limits content array a =
    let (name, arguments, spelled) = named_words limits content array a in record { name = name; arguments = arguments; spelled = spelled }

-- a command that lies whole in its text is this text
pub whole-command : NoSpellingBeginsAnother → (limits : Bounds) (text : List ℕ) (found : CommandFrame) → IsCommand limits text →
    IsFrameOfWords limits [] text found → text_of found.frame ≡ text
whole-command law limits text found k f =
    let rules = rules_under Two limits in
    let rest = drop (used_of found.frame) text in
    let whole : text_of found.frame ++ rest ≡ text = ap (λ t. t ++ rest) f.frame.text ∙ take-append-drop (used_of found.frame) text in
    let same = law rules rules (command_of (f.words.name ∷ f.words.arguments)) (command_of (k.name ∷ k.arguments)) (text_of found.frame) text rest []
    f.words.spelled k.spelled (whole ∙ sym (append-nil text)) in
    same.1
