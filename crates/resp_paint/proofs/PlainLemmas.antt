-- What painted texts show, one after another.
use Rattle.std.proofs.Common.{◌≡◌, ◌∙◌, ℕ, List, [], ◌++◌, Option, ap, sym, refl, subst, append_assoc, append-nil}
use Rattle.resp_io.specs.Devices.{Appends}
use Rattle.resp_print.proofs.WrittenLemmas.{Appends-append, Appends-none}
use Rattle.resp_paint.specs.Plain.{Shows, plain_text}
use Rattle.resp_paint.specs.Paints.{Paints}
use Rattle.resp_paint.specs.Waiting.{Waits}
use Rattle.resp_paint.specs.declared.style.Style.{Style}

-- no text shows no text
pub shows_none : Shows [] []
shows_none rest = refl

-- one text after another
pub shows_next : (painted plain painted' plain' : List ℕ) → Shows painted plain → Shows painted' plain' → Shows (painted ++ painted') (plain ++ plain')
shows_next painted plain painted' plain' first second rest =
    ap plain_text (append_assoc painted painted' rest) ∙ first (painted' ++ rest) ∙ ap (λ z. plain ++ z) (second rest) ∙
    sym (append_assoc plain plain' (plain_text rest))

-- nothing was painted
pub paints_nothing : (before : Option (List ℕ)) (held : List ℕ) → Paints before before held [] held
paints_nothing before held = record {
  painted = [];
  shown = [];
  appended = Appends-none before;
  shows = shows_none;
  all = append-nil held;
}

-- the text waits
pub paints_later : (before : Option (List ℕ)) (held text held' : List ℕ) → held' ≡ held ++ text → Paints before before held text held'
paints_later before held text held' e = record {
  painted = [];
  shown = [];
  appended = Appends-none before;
  shows = shows_none;
  all = sym e;
}

-- all that waited was painted
pub paints_now : (before after : Option (List ℕ)) (held text held' painted : List ℕ) → Appends before after painted → Shows painted (held ++ text) →
    held' ≡ [] → Paints before after held text held'
paints_now before after held text held' painted appended shows e = record {
  painted = painted;
  shown = held ++ text;
  appended = appended;
  shows = shows;
  all = sym (ap (λ z. (held ++ text) ++ z) e ∙ append-nil (held ++ text));
}

-- one text after another was painted
pub paints_next : (a b c : Option (List ℕ)) (held text held' text' held'' : List ℕ) → Paints a b held text held' → Paints b c held' text' held'' →
    Paints a c held (text ++ text') held''
paints_next a b c held text held' text' held'' first second = record {
  painted = first.painted ++ second.painted;
  shown = first.shown ++ second.shown;
  appended = Appends-append a b c first.painted second.painted first.appended second.appended;
  shows = shows_next first.painted first.shown second.painted second.shown first.shows second.shows;
  all = sym (append_assoc held text text') ∙ ap (λ z. z ++ text') first.all ∙ append_assoc first.shown held' text' ∙
      ap (λ z. first.shown ++ z) second.all ∙ sym (append_assoc first.shown second.shown held'');
}

-- all that waited was painted, in the words of a call
pub paints_all : (before after : Option (List ℕ)) (held text held' painted here there whole pushed : List ℕ) → here ≡ painted → there ≡ painted →
    whole ≡ pushed → pushed ≡ held ++ text → Shows here whole → Appends before after there → held' ≡ [] → Paints before after held text held'
paints_all before after held text held' painted here there whole pushed same same' is is' shows appended none =
    paints_now before after held text held' painted (subst (Appends before after) same' appended)
    (subst (λ z. Shows painted z) (is ∙ is') (subst (λ z. Shows z whole) same shows)) none

-- bytes that wait in a style wait in the same style
pub waits_in : (before after : Style) (held : List ℕ) → before ≡ after → Waits before held → Waits after held
waits_in before after held same waits = subst (λ style. Waits style held) same waits
