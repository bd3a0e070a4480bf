-- Why commands of a client are not carried out.
use Rattle.std.proofs.Common.{◌≡◌, ◌∙◌, ◌⊎◌, inl, inr, ℕ, true, false, List, [], ◌++◌, codes, take, drop, Result, Ok, Err, ap, append_assoc, refl, subst, sym}
use Rattle.std.proofs.lemmas.List.{append-nil, take-append-drop}
use Rattle.std.specs.Prelude.{◌∷◌, IfErr, OnErr, Option}
use Rattle.resp_frames.proofs.WholeTexts.{no_request_in_text, rejects_in_text}
use Rattle.resp_frames.specs.Commands.{IsFrameOfWords}
use Rattle.resp_frames.specs.Framing.{OnFault, RejectsByte}
use Rattle.resp_frames.specs.Requests.{EndsNoRequest}
use Rattle.resp_frames.specs.Texts.{text_of, used_of}
use Rattle.resp_frames.specs.declared.error.FrameError.{FrameError}
use Rattle.resp_frames.specs.declared.error.FrameError.TheVariants as frame
use Rattle.resp_frames.specs.declared.words.CommandFrame.{CommandFrame}
use Rattle.resp_line.specs.Inline.{IsArrayOf, IsLineWith}
use Rattle.resp_commands.specs.declared.command.Class.{Class}
use Rattle.resp_frames.proofs.SameWords.{whole_text}
use Rattle.resp_proxy.proofs.Carryings.{line-request}
use Rattle.resp_proxy.proofs.OwnReplies.{another-for-own, http-named, none-admitted, own-kind, quits-named}
use Rattle.resp_proxy.specs.OwnReplies.{IsListed, Stays, unshared_treatment}
use Rattle.resp_proxy.specs.declared.answer.Answer.{Answer}
use Rattle.resp_proxy.specs.declared.answer.Answer.TheVariants as answer
use Rattle.resp_proxy.specs.declared.route.Route.{Route}
use Rattle.resp_value.specs.Rules.{rules_under}
use Rattle.resp_value.specs.Spellings.{IsSpelling}
use Rattle.resp_value.specs.declared.version.Version.TheVariants.{Two}
use Rattle.resp_proxy.specs.declared.error.ClientError.{ClientError}
use Rattle.resp_proxy.specs.declared.error.ClientError.TheVariants as error
use Rattle.resp_proxy.specs.declared.error.CommandName.{CommandName}
use Rattle.resp_proxy.specs.Leaving.{NeedsOwn}
use Rattle.resp_proxy.specs.Reasons.{BeginsForOwn, BeginsNamed, BeginsNamedForOwn, FitsAnswer, Reacts, RefusesArray}
use Rattle.resp_proxy.specs.Refusing.{BeginsCommand, BeginsCommandForOwn, Refuses, SameLetters}
use Rattle.resp_proxy.specs.Terms.{Terms}
use Rattle.resp_value.specs.Bounds.{Bounds}
use Rattle.resp_value.specs.Laws.{NoSpellingBeginsAnother}
use Rattle.resp_value.specs.Words.{command_of}

-- a command of these words and this text has this name
begins-named : (limits : Bounds) (text name wanted : List ℕ) (arguments : List (List ℕ)) → IsSpelling (rules_under Two limits) (command_of (name ∷ arguments)) text →
    SameLetters name wanted → BeginsNamed limits text wanted
begins-named limits text name wanted arguments spelled named = record {
  name = name;
  arguments = arguments;
  rest = [];
  begins = whole_text limits text name arguments spelled;
  named = named;
}

-- the client is closed because of QUIT
pub quit-refused : (limits : Bounds) (route : Route) (called text name : List ℕ) (arguments : List (List ℕ)) (found : Option Class) (given : Answer) →
    IsSpelling (rules_under Two limits) (command_of (name ∷ arguments)) text → given ≡ answer.Quit →
    FitsAnswer route called (unshared_treatment route.is_first found name arguments) name arguments given → BeginsNamed limits text (codes "QUIT")
quit-refused limits route called text name arguments found given spelled is fits =
    begins-named limits text name (codes "QUIT") arguments spelled (quits-named route.is_first found name arguments
    (subst (Reacts route called (unshared_treatment route.is_first found name arguments) name fits.first) is fits.reacts))

-- the client is closed because of HTTP
pub http-refused : (limits : Bounds) (route : Route) (called text name : List ℕ) (arguments : List (List ℕ)) (found : Option Class) (given : Answer) →
    IsSpelling (rules_under Two limits) (command_of (name ∷ arguments)) text → given ≡ answer.Http →
    FitsAnswer route called (unshared_treatment route.is_first found name arguments) name arguments given →
    BeginsNamed limits text (codes "POST") ⊎ BeginsNamed limits text (codes "HOST:")
http-refused limits route called text name arguments found given spelled is fits =
    elim (http-named route.is_first found name arguments
    (subst (Reacts route called (unshared_treatment route.is_first found name arguments) name fits.first) is fits.reacts)) [
      | inl named ↦ inl (begins-named limits text name (codes "POST") arguments spelled named)
      | inr named ↦ inr (begins-named limits text name (codes "HOST:") arguments spelled named)
    ]

-- the client is closed because it may get no other connection
pub none-refused : (terms : Terms) (route : Route) (called text name : List ℕ) (arguments : List (List ℕ)) (found : Option Class) (given : Answer)
    (shown : CommandName) → IsSpelling (rules_under Two terms.rules.limits) (command_of (name ∷ arguments)) text → IsListed found name arguments →
    Stays terms route found name arguments → given ≡ answer.NoneLeft shown →
    FitsAnswer route called (unshared_treatment route.is_first found name arguments) name arguments given →
    (terms.own ≡ false) × BeginsNamedForOwn terms.rules.limits text shown
none-refused terms route called text name arguments found given shown spelled listed stays is fits =
    let reacts = subst (Reacts route called (unshared_treatment route.is_first found name arguments) name fits.first) is fits.reacts in (
      none-admitted terms.own route.is_first found name arguments reacts.0 stays,
      record {
        command = record {
          name = name;
          arguments = arguments;
          rest = [];
          begins = whole_text terms.rules.limits text name arguments spelled;
          kind = own-kind found name arguments listed (another-for-own route.is_first found name arguments reacts.0);
        };
        first = fits.first;
        is_first = fits.is_first;
        names = reacts.1;
      },
    )

-- memory ran out
pub memory-refused : (terms : Terms) (text : List ℕ) (e : ClientError) → e ≡ error.OutOfMemory → Refuses terms text e
memory-refused terms text e is = subst (Refuses terms text) (sym is) tt

pub memory-refused-in : (result : Result (Unit {0}) ClientError) (terms : Terms) (text : List ℕ) → IfErr result (λ e. e ≡ error.OutOfMemory) →
    IfErr result (Refuses terms text)
memory-refused-in (Ok x) terms text is = tt
memory-refused-in (Err e) terms text is = memory-refused terms text e is

refuses : (terms : Terms) (array text : List ℕ) (e : ClientError) →
    ((wanted : List ℕ) → BeginsNamed terms.rules.limits array wanted → BeginsCommand terms text wanted) →
    ((shown : CommandName) → BeginsNamedForOwn terms.rules.limits array shown → BeginsCommandForOwn terms text shown) → RefusesArray terms array e → Refuses terms text e
refuses terms array text error.Quit named own r = named (codes "QUIT") r
refuses terms array text error.Http named own (inl r) = inl (named (codes "POST") r)
refuses terms array text error.Http named own (inr r) = inr (named (codes "HOST:") r)
refuses terms array text (error.NoneLeft shown) named own r = (r.0, own shown r.1)
refuses terms array text error.NoClient named own r = tt
refuses terms array text error.OutOfMemory named own r = tt
refuses terms array text error.Closing named own r = tt
refuses terms array text (error.Protocol e) named own r = absurd r
refuses terms array text error.Quotes named own r = absurd r
refuses terms array text error.LongLine named own r = absurd r
refuses terms array text error.OverLimits named own r = absurd r

-- the bytes after a text that begins with a command of this name
named-more : (terms : Terms) (text wanted more : List ℕ) → BeginsNamed terms.rules.limits text wanted → BeginsCommand terms (text ++ more) wanted
named-more terms text wanted more b = record {
  front = b.begins.written;
  rest = b.rest ++ more;
  whole = ap (λ t. t ++ more) b.begins.whole ∙ append_assoc b.begins.written b.rest more;
  sent = b.begins.written;
  name = b.name;
  arguments = b.arguments;
  request = record { spelled = b.begins.spelled; form = inl refl };
  named = b.named;
}

-- the bytes after a text that begins with a command that may need a connection of the client's own
own-more : (terms : Terms) (text more : List ℕ) (shown : CommandName) → BeginsNamedForOwn terms.rules.limits text shown →
    BeginsCommandForOwn terms (text ++ more) shown
own-more terms text more shown n = let b = n.command in record {
  front = b.begins.written;
  rest = b.rest ++ more;
  whole = ap (λ t. t ++ more) b.begins.whole ∙ append_assoc b.begins.written b.rest more;
  needs = record {
    sent = b.begins.written;
    name = b.name;
    arguments = b.arguments;
    request = record { spelled = b.begins.spelled; form = inl refl };
    kind = b.kind;
  };
  first = n.first;
  is_first = n.is_first;
  names = n.names;
}

-- a command that is an array was not carried out
pub array-refused : (terms : Terms) (front piece : List ℕ) (found : CommandFrame) (e : ClientError) → IsFrameOfWords terms.rules.limits front piece found →
    RefusesArray terms (text_of found.frame) e → Refuses terms (front ++ piece) e
array-refused terms front piece found e f r =
    let used = used_of found.frame in
    let whole : text_of found.frame ++ drop used piece ≡ front ++ piece =
    ap (λ t. t ++ drop used piece) f.frame.text ∙ append_assoc front (take used piece) (drop used piece) ∙
    ap (λ t. front ++ t) (take-append-drop used piece) in
    subst (λ text. Refuses terms text e) whole (refuses terms (text_of found.frame) (text_of found.frame ++ drop used piece) e
    (λ wanted. named-more terms (text_of found.frame) wanted (drop used piece)) (own-more terms (text_of found.frame) (drop used piece)) r)

-- the bytes are no command
pub frame-refused : (terms : Terms) (front piece : List ℕ) (e : FrameError) → OnFault e (RejectsByte terms.rules front piece) →
    (e ≡ frame.NotACommand → EndsNoRequest terms.rules terms.rules.limits front piece) → Refuses terms (front ++ piece) (error.Protocol e)
frame-refused terms front piece (frame.Fault fault) rejects none = rejects_in_text terms.rules front piece fault rejects
frame-refused terms front piece frame.NotACommand rejects none = no_request_in_text terms.rules terms.rules.limits front piece (none refl)
frame-refused terms front piece frame.OutOfMemory rejects none = tt

-- a line whose array is a command that may need a connection of the client's own
pub line-needs-own : NoSpellingBeginsAnother → (terms : Terms) (content line array : List ℕ) → terms.lines ≡ true → IsLineWith content line →
    IsArrayOf terms.rules.limits content array → BeginsForOwn terms.rules.limits array → NeedsOwn terms line
line-needs-own law terms content line array lines is a b = record {
  sent = array;
  name = b.name;
  arguments = b.arguments;
  request = line-request law terms content line array b.name b.arguments b.rest lines is a b.begins;
  kind = b.kind;
}

-- the command of a line was not carried out
pub line-refused : NoSpellingBeginsAnother → (terms : Terms) (front piece content array : List ℕ) (count : ℕ) (e : ClientError) → terms.lines ≡ true →
    IsLineWith content (front ++ take count piece) → IsArrayOf terms.rules.limits content array → RefusesArray terms array e →
    Refuses terms (front ++ piece) e
unfolding line-needs-own
line-refused law terms front piece content array count e lines line a r = refuses terms array (front ++ piece) e
    (λ wanted b. record {
      front = front ++ take count piece;
      rest = drop count piece;
      whole = ap (λ t. front ++ t) (sym (take-append-drop count piece)) ∙ sym (append_assoc front (take count piece) (drop count piece));
      sent = array;
      name = b.name;
      arguments = b.arguments;
      request = line-request law terms content (front ++ take count piece) array b.name b.arguments b.rest lines line a b.begins;
      named = b.named;
    })
    (λ shown n. record {
      front = front ++ take count piece;
      rest = drop count piece;
      whole = ap (λ t. front ++ t) (sym (take-append-drop count piece)) ∙ sym (append_assoc front (take count piece) (drop count piece));
      needs = line-needs-own law terms content (front ++ take count piece) array lines line a n.command;
      first = n.first;
      is_first = n.is_first;
      names = n.names;
    }) r

-- after an error the whole piece was taken
pub ended-refused : (end : Result (Unit {0}) ClientError) (terms : Terms) (e : ClientError) (after piece : List ℕ) (used : ℕ) → end ≡ Err e →
    OnErr end (drop used piece ≡ []) → IfErr end (Refuses terms after) → Refuses terms (after ++ drop used piece) e
ended-refused end terms e after piece used is none r =
    subst (λ text. Refuses terms text e) (sym (ap (λ t. after ++ t) (subst (λ o. OnErr o (drop used piece ≡ [])) is none) ∙ append-nil after))
    (subst (λ o. IfErr o (Refuses terms after)) is r)
