-- Events played one after another, and their text.
use Rattle.std.proofs.Common.{◌≡◌, inl, inr, ℕ, List, [], ◌∷◌, ◌++◌, Option, Result, Ok, Err, refl, sym, ap, subst, ◌∙◌, append_assoc}
use Rattle.resp_value.specs.Bounds.{Bounds}
use Rattle.resp_io.specs.Devices.{Appends}
use Rattle.resp_session.specs.Worlds.{World}
use Rattle.resp_print.proofs.WrittenLemmas.{Appends-append, Appends-none}
use Rattle.resp_wire.specs.Worlds.{Shows, WorldState}
use Rattle.resp_cli_loop.specs.Plays.{ArePlayed, EventIn, Plays, PlaysAll, PlaysPart, PlaysScript, PlaysTo, text_of_step}
use Rattle.resp_cli_loop.specs.Printed.{PlayedEvent, PlaysText, counts_text}
use Rattle.resp_cli_loop.specs.declared.play.PlayError.{PlayError}
use Rattle.resp_cli_loop.specs.declared.play.PlayError.TheVariants.{Stopped, Write, Memory}

-- before the first event nothing was played
pub plays_none : {L : Type 0} {is_honest : L → Type 0} {limits : Bounds} {w : World} {world : WorldState L} → Shows is_honest world limits w →
    (held : Option (List ℕ)) → PlaysAll is_honest limits w [] world held held
plays_none {L} {is_honest} {limits} {w} {world} shows held = record {
  played = record { text = []; last = w; plays = (refl, refl) };
  shows = shows;
  appended = Appends-none held;
}

-- some events were played, and then more
pub plays_more : (limits : Bounds) (w mid last : World) (events more : List PlayedEvent) (text text' : List ℕ) → Plays limits w events text mid →
    Plays limits mid more text' last → Plays limits w (events ++ more) (text ++ text') last
plays_more limits w mid last [] more text text' first second =
    let e : text' ≡ text ++ text' = ap (λ z. z ++ text') (sym first.0) in
    subst (λ z. Plays limits w more z last) e (subst (λ z. Plays limits z more text' last) first.1 second)
plays_more limits w mid last (played ∷ events) more text text' (outcome, next, rest, step, plays, is) second = (
  outcome,
  next,
  rest ++ text',
  step,
  plays_more limits next mid last events more rest text' plays second,
  ap (λ z. z ++ text') is ∙ append_assoc (text_of_step w played outcome next) rest text',
)

-- events that were played after others
played_after : (limits : Bounds) (w : World) (events more : List PlayedEvent) (first : ArePlayed limits w events) →
    ArePlayed limits first.last more → ArePlayed limits w (events ++ more)
played_after limits w events more first second = record {
  text = first.text ++ second.text;
  last = second.last;
  plays = plays_more limits w first.last second.last events more first.text second.text first.plays second.plays;
}

-- one of some events, after others
abbrev after_others : (events : List PlayedEvent) {more : List PlayedEvent} → EventIn more → EventIn (events ++ more)
after_others events e = record {
  done = events ++ e.done;
  event = e.event;
  later = e.later;
  whole = ap (λ z. events ++ z) e.whole ∙ sym (append_assoc events e.done (e.event ∷ e.later));
}

-- and before others
abbrev before_others : {events : List PlayedEvent} (more : List PlayedEvent) → EventIn events → EventIn (events ++ more)
before_others more e = record {
  done = e.done;
  event = e.event;
  later = e.later ++ more;
  whole = ap (λ z. z ++ more) e.whole ∙ append_assoc e.done (e.event ∷ e.later) more;
}

module _ {L : Type 0} (is_honest : L → Type 0) (limits : Bounds) (w : World) (events : List PlayedEvent) where
  -- all of some events were played, and then a part of more
  part_then : (more : List PlayedEvent) (between after : WorldState L) (a b c : Option (List ℕ)) (first : PlaysAll is_honest limits w events between a b) →
      PlaysPart is_honest limits first.played.last more after b c → PlaysPart is_honest limits w (events ++ more) after a c
  unfolding played_after
  part_then more between after a b c first second = record {
    failing = after_others events second.failing;
    played = played_after limits w events second.failing.done first.played second.played;
    outcome = second.outcome;
    next = second.next;
    step = second.step;
    shows = second.shows;
    begun = second.begun;
    unwritten = second.unwritten;
    parts = second.parts;
    appended = subst (Appends a c) (sym (append_assoc first.played.text second.played.text second.begun))
        (Appends-append a b c first.played.text (second.played.text ++ second.begun) first.appended second.appended);
  }

  -- all of some events were played, and then more came to something
  pub all_then : (more : List PlayedEvent) (between after : WorldState L) (a b c : Option (List ℕ)) (r : Result (Unit {0}) PlayError)
      (first : PlaysAll is_honest limits w events between a b) → PlaysTo is_honest limits first.played.last more after b c r →
      PlaysTo is_honest limits w (events ++ more) after a c r
  unfolding played_after
  all_then more between after a b c (Ok x) first second = record {
    played = played_after limits w events more first.played second.played;
    shows = second.shows;
    appended = Appends-append a b c first.played.text second.played.text first.appended second.appended;
  }
  all_then more between after a b c (Err (Stopped line cause)) first second = record {
    stopped_at = after_others events second.stopped_at;
    at_line = second.at_line;
    played = played_after limits w events second.stopped_at.done first.played second.played;
    appended = Appends-append a b c first.played.text second.played.text first.appended second.appended;
  }
  all_then more between after a b c (Err Write) first second = part_then more between after a b c first second
  all_then more between after a b c (Err Memory) first second = part_then more between after a b c first second

  -- a part of some events is a part of them and more
  part_before : (more : List PlayedEvent) (after : WorldState L) (a b : Option (List ℕ)) → PlaysPart is_honest limits w events after a b →
      PlaysPart is_honest limits w (events ++ more) after a b
  part_before more after a b first = record {
    failing = before_others more first.failing;
    played = first.played;
    outcome = first.outcome;
    next = first.next;
    step = first.step;
    shows = first.shows;
    begun = first.begun;
    unwritten = first.unwritten;
    parts = first.parts;
    appended = first.appended;
  }

  -- what stopped some events stops them and more
  pub stops_before : (more : List PlayedEvent) (after : WorldState L) (a b : Option (List ℕ)) (error : PlayError) →
      PlaysTo is_honest limits w events after a b (Err error) → PlaysTo is_honest limits w (events ++ more) after a b (Err error)
  stops_before more after a b (Stopped line cause) first = record {
    stopped_at = before_others more first.stopped_at;
    at_line = first.at_line;
    played = first.played;
    appended = first.appended;
  }
  stops_before more after a b Write first = part_before more after a b first
  stops_before more after a b Memory first = part_before more after a b first

  -- what stopped the steps of a script stopped the script
  pub stops_script : (after : WorldState L) (a b : Option (List ℕ)) (error : PlayError) → PlaysTo is_honest limits w events after a b (Err error) →
      PlaysScript is_honest limits w events after a b (Err error)
  stops_script after a b (Stopped line cause) stops = stops
  stops_script after a b Write stops = inl stops
  stops_script after a b Memory stops = inl stops

  -- all of the events were played, and then what came of the line of counts
  pub counts_then : (after : WorldState L) (a b c : Option (List ℕ)) (f g : ℕ) (r : Result (Unit {0}) PlayError)
      (all : PlaysAll is_honest limits w events after a b) → PlaysText b c f g r (counts_text all.played.last) →
      PlaysScript is_honest limits w events after a c r
  counts_then after a b c f g (Ok x) all prints = (b, all, prints.0)
  counts_then after a b c f g (Err Write) all prints = inr (b, all, prints.0)
  counts_then after a b c f g (Err Memory) all prints = inr (b, all, prints.0)
  counts_then after a b c f g (Err (Stopped line cause)) all prints = absurd prints
