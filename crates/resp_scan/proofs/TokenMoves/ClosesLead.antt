-- Closes: the one that is owed of a counted aggregate, and the line of a streamed one.
use Rattle.std.specs.Prelude.{cond}
use Rattle.std.proofs.Common.{◌≡◌, ℕ, ◌+◌, List, [], ◌∷◌, ◌++◌, length, refl, sym, ap, subst, ◌∙◌, arith, append_assoc, append-nil}
use Rattle.resp_value.specs.Trees as t
use Rattle.resp_value.specs.Trees.{Form, HasMembers, Streamed, Trees, close, count, form_line, kind_byte, node, text, texts}
use Rattle.resp_value.specs.Rules.{Rules, Grammar, WithinItems}
use Rattle.resp_value.specs.LocalRules.{LeafKeeps, LeafRule, NodeKeeps, NodeRule}
use Rattle.resp_value.specs.declared.cause.Cause.TheVariants as cause
use Rattle.resp_value.proofs.Unique.{not_close}
use Rattle.resp_value.specs.declared.kind.OpenKind.{OpenKind}
use Rattle.resp_value.proofs.Choices.{if_equal}
use Rattle.resp_fronts.specs.Frames as opened
use Rattle.resp_fronts.specs.Frames.{text_around, open_text}
use Rattle.resp_fronts.specs.MayFollow.{IsWholeText, MayFollowFrames, members_missing}
use Rattle.resp_fronts.specs.Events.{Event, close_event, events, events_around, without_places}
use Rattle.resp_fronts.specs.Events as e
use Rattle.resp_fronts.proofs.FrameLaws.Composition.{determine}
use Rattle.resp_fronts.proofs.Between.BetweenValues.{ready_open}
use Rattle.resp_fronts.proofs.EventLaws.EventsAround.{events-closed}
use Rattle.resp_fronts.proofs.Refusals.FirstRuleBroken.{grammar_cause}
use Rattle.resp_fronts.specs.OpenLevels as level
use Rattle.resp_fronts.proofs.Refusals.RefusedFronts.{CompletesFront}
use Rattle.resp_fronts.proofs.FrameLaws.WholeValues.{closed_text}
use Rattle.resp_scan.specs.declared.frame.Frame.{Frame}
use Rattle.resp_scan.specs.Machine.Tokens as k
use Rattle.resp_scan.specs.Machine.Tokens.{Give, Go, Move, Place, Refuse, AtCloseCr, AtCloseLf, AtEnd, at, at_boundary, token_at_boundary}
use Rattle.resp_scan.specs.Machine.Moves.{only_byte, without_first}
use Rattle.resp_scan.specs.Kinds.{IsRefusedFor, rules_of}
use Rattle.resp_scan.specs.Machine.Standing.{IsBeingClosed, IsClosingIn, Leads, StandsAfterAt, busy_levels, StandsAfter}
use Rattle.resp_scan.proofs.TokenMoves.Moves.{given-append, longer, value_lies, ALead}

-- the rest of the close ends the aggregate
closing_ends : (r : Rules) (k : OpenKind) (fs : List Frame) (last rest front : List ℕ) (es : List Event) → IsBeingClosed r k fs last rest front es →
    StandsAfterAt r (token_at_boundary fs) fs (front ++ rest) (es ++ e.Close ∷ [])
closing_ends r k fs last rest front es w =
    let f = w.frame in
    let tree = node f.kind f.form f.done in
    let all : count f.done + members_missing f.kind f.form (count f.done) ≡ count f.done = omega (arith, w.has_all) in
    let from = length (text_around w.outer []) in
    value_lies r fs w.outer tree (front ++ rest) (es ++ e.Close ∷ []) w.begun w.of_levels w.ready.3
    (subst (HasMembers f.kind f.form) all w.ready.0.0, w.ready.1)
    (subst (NodeKeeps r WithinItems (length w.outer) f.kind f.form) all w.ready.0.1, w.ready.2)
    (longer (f ∷ w.outer) front last rest w.whole ∙ ap (text_around (f ∷ w.outer)) (sym w.closes) ∙ closed_text f w.outer)
    (ap (λ z. z ++ e.Close ∷ []) w.told ∙ sym (given-append (events_around (f ∷ w.outer)) (close_event from (text tree) ∷ [])) ∙
    ap without_places (events-closed f w.outer) ∙ given-append (events_around w.outer) (events from tree))

-- the close that is owed is given without a byte
pub close_is_owed : (s : Place) (f : Frame) (fs : List Frame) (front : List ℕ) (es : List Event) →
    StandsAfter (record s { token = AtEnd; frames = f ∷ fs }) front es → StandsAfter (at_boundary (record s { frames = fs })) front (es ++ e.Close ∷ [])
close_is_owed s f fs front es w =
    subst (λ z. StandsAfterAt (rules_of s) (token_at_boundary fs) fs z (es ++ e.Close ∷ [])) (append-nil front)
    (closing_ends (rules_of s) f.kind fs [] [] front es w)

-- A byte of a close.

-- one byte more of it
closes_more : (r : Rules) (k : OpenKind) (fs : List Frame) (last rest front : List ℕ) (es : List Event) (byte : ℕ) →
    IsBeingClosed r k fs last (byte ∷ rest) front es → IsBeingClosed r k fs (last ++ byte ∷ []) rest (front ++ byte ∷ []) es
closes_more r k fs last rest front es byte w = record {
  frame = w.frame;
  outer = w.outer;
  begun = w.begun;
  of_kind = w.of_kind;
  has_all = w.has_all;
  closes = w.closes ∙ sym (append_assoc last (byte ∷ []) rest);
  of_levels = w.of_levels;
  ready = w.ready;
  whole = longer (w.frame ∷ w.outer) front last (byte ∷ []) w.whole;
  told = w.told;
}

-- what follows a `.` is the close's line
stop_follows : (L : LeafRule) (N : NodeRule) (f : opened.Frame) (fs : List opened.Frame) (beyond : List ℕ) → f.form ≡ Streamed →
    MayFollowFrames L N (f ∷ fs) (46 ∷ beyond) → (rest : List ℕ) × (beyond ≡ 13 ∷ 10 ∷ rest)
stop_follows L N f fs beyond streamed m = case m.members m.whole
  where
    case : (ts : Trees) → (texts ts ++ close f.form) ++ m.rest ≡ 46 ∷ beyond → (rest : List ℕ) × (beyond ≡ 13 ∷ 10 ∷ rest)
    case t.none e =
        let line : 46 ∷ 13 ∷ 10 ∷ m.rest ≡ 46 ∷ beyond = ap (λ z. close z ++ m.rest) (sym streamed) ∙ e in
        (m.rest, sym cc)
    case (t.more u us) e = absurd (not_close u ((texts us ++ close f.form) ++ m.rest) beyond (sym (append_assoc (text u) (texts us ++ close f.form) m.rest) ∙
        ap (λ z. z ++ m.rest) (sym (append_assoc (text u) (texts us) (close f.form))) ∙ e))

-- what completes a front after `.` completes its line
line_follows : (r : Rules) (k : OpenKind) (fs : List Frame) (last rest front beyond : List ℕ) (es : List Event) →
    (w : IsBeingClosed r k fs (46 ∷ last) rest front es) → w.frame.form ≡ Streamed → CompletesFront r Grammar front beyond →
    (more : List ℕ) × (last ++ beyond ≡ 13 ∷ 10 ∷ more)
line_follows r k fs last rest front beyond es w streamed c =
    let f = w.frame in
    let levels = record { kind = f.kind; shape = level.so_far (count f.done) } ∷ busy_levels fs in
    let e : front ++ beyond ≡ text_around (f ∷ w.outer) (46 ∷ (last ++ beyond)) = longer (f ∷ w.outer) front (46 ∷ last) beyond w.whole in
    let are_open = ready_open (LeafKeeps r WithinItems) (NodeKeeps r WithinItems) levels (f ∷ w.outer) (refl, (streamed, refl), w.of_levels) w.ready in
    stop_follows (LeafKeeps r Grammar) (NodeKeeps r Grammar) f w.outer (last ++ beyond) streamed
    (determine (LeafKeeps r Grammar) (NodeKeeps r Grammar) (f ∷ w.outer) (46 ∷ (last ++ beyond)) are_open
    (subst (IsWholeText (LeafKeeps r Grammar) (NodeKeeps r Grammar)) e c))

-- a form that has a close is streamed
pub is_streamed : (form : Form) (byte : ℕ) (rest : List ℕ) → close form ≡ byte ∷ rest → form ≡ Streamed
is_streamed (t.Counted digits) byte rest e = absurd (omega (arith, ap length e))
is_streamed Streamed byte rest e = refl

syntax : (r : Rules) (front : List ℕ) → ((rest : List ℕ) → CompletesFront r Grammar front rest → ⊥) → IsRefusedFor r front cause.Syntax
syntax r front dead = record { rule = Grammar; names = refl; cause = grammar_cause r front dead }

no_return : (r : Rules) (k : OpenKind) (fs : List Frame) (front : List ℕ) (es : List Event) (byte : ℕ) → (byte ≡ 13 → ⊥) →
    IsBeingClosed r k fs (46 ∷ []) (13 ∷ 10 ∷ []) front es → (rest : List ℕ) → CompletesFront r Grammar (front ++ byte ∷ []) rest → ⊥
no_return r k fs front es byte other w rest c =
    let x = line_follows r k fs [] (13 ∷ 10 ∷ []) front (byte ∷ rest) es w (is_streamed w.frame.form 46 (13 ∷ 10 ∷ []) w.closes)
    (subst (IsWholeText (LeafKeeps r Grammar) (NodeKeeps r Grammar)) (append_assoc front (byte ∷ []) rest) c) in
    let is : byte ∷ rest ≡ 13 ∷ 10 ∷ x.0 = x.1 in
    other cc

no_newline : (r : Rules) (k : OpenKind) (fs : List Frame) (front : List ℕ) (es : List Event) (byte : ℕ) → (byte ≡ 10 → ⊥) →
    IsBeingClosed r k fs (46 ∷ 13 ∷ []) (10 ∷ []) front es → (rest : List ℕ) → CompletesFront r Grammar (front ++ byte ∷ []) rest → ⊥
no_newline r k fs front es byte other w rest c =
    let x = line_follows r k fs (13 ∷ []) (10 ∷ []) front (byte ∷ rest) es w (is_streamed w.frame.form 46 (13 ∷ 10 ∷ []) w.closes)
    (subst (IsWholeText (LeafKeeps r Grammar) (NodeKeeps r Grammar)) (append_assoc front (byte ∷ []) rest) c) in
    let is : 13 ∷ byte ∷ rest ≡ 13 ∷ 10 ∷ x.0 = x.1 in
    other cc

-- every byte after the `.` of a close
pub close_cr_leads : (s : Place) → ALead (at s AtCloseCr)
close_cr_leads s used byte front es is_byte c w = case s.frames w
  where
    case : (fs : List Frame) → IsClosingIn (rules_of s) fs (46 ∷ []) (13 ∷ 10 ∷ []) front es →
        Leads (record s { token = AtCloseCr; frames = fs }) front es byte (only_byte 13 byte (Go (record s { token = AtCloseLf; frames = fs })))
    case [] w = absurd w
    case (f ∷ fs) w = if_equal byte 13 (λ z. Leads (record s { token = AtCloseCr; frames = f ∷ fs }) front es byte
        (cond z (Go (record s { token = AtCloseLf; frames = f ∷ fs })) (Refuse cause.Syntax)))
        (λ is. subst (λ z. IsBeingClosed (rules_of s) f.kind fs (46 ∷ 13 ∷ []) (10 ∷ []) (front ++ z ∷ []) es) (sym is)
        (closes_more (rules_of s) f.kind fs (46 ∷ []) (10 ∷ []) front es 13 w))
        (λ other. syntax (rules_of s) (front ++ byte ∷ []) (no_return (rules_of s) f.kind fs front es byte other w))

-- every byte after a close's CR
pub close_end_leads : (s : Place) → ALead (at s AtCloseLf)
close_end_leads s used byte front es is_byte c w = case s.frames w
  where
    case : (fs : List Frame) → IsClosingIn (rules_of s) fs (46 ∷ 13 ∷ []) (10 ∷ []) front es →
        Leads (record s { token = AtCloseLf; frames = fs }) front es byte
        (only_byte 10 byte (Give k.Close (at_boundary (record s { token = AtCloseLf; frames = without_first fs }))))
    case [] w = absurd w
    case (f ∷ fs) w = if_equal byte 10 (λ z. Leads (record s { token = AtCloseLf; frames = f ∷ fs }) front es byte
        (cond z (Give k.Close (at_boundary (record s { token = AtCloseLf; frames = fs }))) (Refuse cause.Syntax)))
        (λ is. subst (λ z. StandsAfterAt (rules_of s) (token_at_boundary fs) fs (front ++ z ∷ []) (es ++ e.Close ∷ [])) (sym is)
        (closing_ends (rules_of s) f.kind fs (46 ∷ 13 ∷ []) (10 ∷ []) front es w))
        (λ other. syntax (rules_of s) (front ++ byte ∷ []) (no_newline (rules_of s) f.kind fs front es byte other w))
