-- The end of a value, and a byte that was rejected.
use Rattle.std.proofs.Common.{◌≡◌, ◌∙◌, ℕ, zero, suc, ◌<◌, ◌≤◌, ◌+◌, List, [], ◌∷◌, ◌++◌, length, length-append, take, ap, arith, refl, subst, sym}
use Rattle.std.proofs.Math.Seq.{take-append_seam, take-length}
use Rattle.std.proofs.lemmas.List.{append-nil}
use Rattle.resp_value.specs.Bounds.{Bounds}
use Rattle.resp_value.specs.Data.{Datum}
use Rattle.resp_value.specs.Laws.{NoSpellingIsEmpty}
use Rattle.resp_value.specs.Rules.{Rules, rules_under}
use Rattle.resp_value.specs.Spellings.{IsSpelling}
use Rattle.resp_value.specs.Trees.{Spells}
use Rattle.resp_value.specs.TreeValues.{value}
use Rattle.resp_value.specs.Words.{command_of}
use Rattle.resp_value.specs.declared.version.Version.TheVariants.{Two}
use Rattle.resp_scan.specs.declared.event.ScanError.{ScanError}
use Rattle.resp_scan.specs.declared.event.ScanError.TheVariants as stop
use Rattle.resp_scan.specs.Listening.{HearsRefusal, HearsValue}
use Rattle.resp_scan.specs.Listening as listening
use Rattle.resp_scan.specs.Machine.Tokens.{Place}
use Rattle.resp_scan.specs.Reading.{Events, HasNoValue, IsSpelled}
use Rattle.resp_scan.specs.Whole.{BeginsWith}
use Rattle.resp_frames.specs.declared.error.FrameError.{FrameError}
use Rattle.resp_frames.specs.declared.error.FrameError.TheVariants as error
use Rattle.resp_frames.specs.declared.frame.Frame.{Frame}
use Rattle.resp_frames.specs.declared.words.CommandFrame.{CommandFrame}
use Rattle.resp_frames.specs.Commands.{HasWords, IsFrameOfWords}
use Rattle.resp_frames.specs.Framing.{IsFrame, OnFault, RejectsByte}
use Rattle.resp_frames.specs.Texts.{text_of, used_of}

-- the error of a scan is the error of a frame
pub rejected : (result : FrameError) (stopped : ScanError) (rules rules' : Rules) (HasHeard : Events → Type 0) (front piece : List ℕ) → rules ≡ rules' →
    OnFault result (λ fault. stopped ≡ stop.Fault fault) → listening.OnFault stopped (HearsRefusal rules HasHeard front piece) →
    OnFault result (RejectsByte rules' front piece)
rejected (error.Fault fault) stopped rules rules' HasHeard front piece same is h =
    let here : HearsRefusal rules HasHeard front piece fault = subst (λ e. listening.OnFault e (HearsRefusal rules HasHeard front piece)) is h in
    subst (λ r. RejectsByte r front piece fault) same (record { given = here.heard; refused = here.refused })
rejected error.NotACommand stopped rules rules' HasHeard front piece same is h = tt
rejected error.OutOfMemory stopped rules rules' HasHeard front piece same is h = tt

-- the text of a value that has ended is a spelling
pub spelled : (rules rules' : Rules) (s : Place) (HasHeard : Events → Type 0) (text : List ℕ) → rules ≡ rules' → HearsValue rules s HasHeard text →
    IsSpelled rules' text
spelled rules rules' s HasHeard text same h =
    subst (λ r. IsSpelled r text) same (record { tree = h.is_value.tree; spells = h.is_value.spells; keeps = h.is_value.keeps })

pub frame_of : (rules : Rules) (front piece : List ℕ) (used : ℕ) (frame : Frame) → text_of frame ≡ front ++ take used piece → used_of frame ≡ used →
    used ≤ length piece → 0 < used → IsSpelled rules (front ++ take used piece) → IsFrame rules front piece frame
frame_of rules front piece used frame text same within more h = record {
  text = text ∙ ap (λ n. front ++ take n piece) (sym same);
  within = subst (λ n. n ≤ length piece) (sym same) within;
  some = subst (λ n. 0 < n) (sym same) more;
  spelled = subst (IsSpelled rules) (sym text) h;
}

pub take_whole : (n : ℕ) (xs : List ℕ) → n ≡ length xs → take n xs ≡ xs
take_whole zero [] e = refl
take_whole zero (x ∷ xs) e = absurd (omega (arith, e))
take_whole (suc n) [] e = absurd (omega (arith, e))
take_whole (suc n) (x ∷ xs) e = ap (λ ys. x ∷ ys) (take_whole n xs (omega (arith, e)))

-- a spelling has a byte
pub some_of : NoSpellingIsEmpty → (rules : Rules) (piece : List ℕ) (used : ℕ) → IsSpelled rules (take used piece) → 0 < used
some_of law rules piece zero h = absurd (law rules (value h.tree) (record { tree = h.tree; spells = h.spells; keeps = h.keeps; valued = refl }))
some_of law rules piece (suc n) h = omega arith

-- no value has ended in the bytes before, so a byte of the piece ends it
pub some_more : (rules : Rules) (front piece : List ℕ) (used : ℕ) → HasNoValue front → IsSpelled rules (front ++ take used piece) → 0 < used
some_more rules front piece zero none h =
    absurd (none (length front) h.tree (subst (Spells h.tree) (append-nil front ∙ sym (take-length front)) h.spells))
some_more rules front piece (suc n) none h = omega arith

-- a value is no empty text
begins_some : NoSpellingIsEmpty → (rules : Rules) (x : Datum) (written rest piece : List ℕ) → IsSpelling rules x written → piece ≡ written ++ rest →
    length rest < length piece
begins_some law rules x [] rest piece h whole = absurd (law rules x h)
begins_some law rules x (b ∷ written) rest piece h whole =
    subst (λ text. length rest < length text) (sym whole) (subst (λ n. length rest < suc n) (sym (length-append written rest)) (omega arith))

-- the bytes before those that follow a command are the command
pub whole_command : NoSpellingIsEmpty → (limits : Bounds) (piece : List ℕ) (found : CommandFrame) (used : ℕ) (name : List ℕ) (arguments : List (List ℕ))
    (rest : List ℕ) → BeginsWith limits piece (command_of (name ∷ arguments)) rest → text_of found.frame ≡ take used piece → used_of found.frame ≡ used →
    used + length rest ≡ length piece → HasWords name arguments found.words → IsFrameOfWords limits [] piece found
whole_command law limits piece found used name arguments rest b text same size has =
    let rules = rules_under Two limits in
    let more : length rest < length piece = begins_some law rules (command_of (name ∷ arguments)) b.written rest piece b.spelled b.whole in
    let sum : length piece ≡ length b.written + length rest = ap length b.whole ∙ length-append b.written rest in
    let at : take used piece ≡ b.written =
    ap (λ n. take n piece) (omega (arith, size, sum)) ∙ ap (take (length b.written)) b.whole ∙ take-append_seam b.written rest in
    let spelled = subst (IsSpelling rules (command_of (name ∷ arguments))) (sym (text ∙ at)) b.spelled in
    record {
      frame = record {
        text = text ∙ ap (λ n. take n piece) (sym same);
        within = subst (λ n. n ≤ length piece) (sym same) (omega (arith, size));
        some = subst (λ n. 0 < n) (sym same) (omega (arith, size, more));
        command = record { name = name; arguments = arguments; spelled = spelled };
      };
      words = record { name = name; arguments = arguments; spelled = spelled; has = has };
    }
