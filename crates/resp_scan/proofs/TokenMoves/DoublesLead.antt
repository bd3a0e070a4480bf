-- Doubles.
use Rattle.std.specs.Prelude.{Bool, true, false, cond, eqb, nat_le, Option, None, Some}
use Rattle.std.proofs.lemmas.Bool.Decides.{nat_tests}
use Rattle.std.proofs.Common.{◌≡◌, ℕ, ◌+◌, ◌-◌, ◌<◌, ◌≤◌, List, [], ◌∷◌, ◌++◌, refl, sym, ap, subst, ◌∙◌, arith}
use Rattle.resp_value.specs.DoubleStages.{stage_after, stage_needs}
use Rattle.resp_value.specs.Rules.{Rules, WithinDepth, WithinLength}
use Rattle.resp_value.specs.Trees as t
use Rattle.resp_value.specs.Trees.{line}
use Rattle.resp_value.specs.declared.cause.Cause.TheVariants as cause
use Rattle.resp_value.specs.declared.double_stage.DoubleStage.{DoubleStage}
use Rattle.resp_value.specs.declared.double_stage.DoubleStage.TheVariants.{Begun}
use Rattle.resp_fronts.specs.Events.{Event}
use Rattle.resp_fronts.specs.Events as e
use Rattle.resp_fronts.specs.Tokens.{HasLine}
use Rattle.resp_fronts.proofs.Tokens.BegunFronts.{IsBegunBy}
use Rattle.resp_fronts.proofs.Tokens.DoubleTokens.{double_begun, double_broken, double_broken_at_end, double_token_begins, double_token_line, double_token_more, double_token_over}
use Rattle.resp_scan.specs.Machine.Tokens.{Go, Byte, Refuse, Place, AtLineLf, InDouble, at}
use Rattle.resp_scan.specs.Machine.Room.{has_total_room}
use Rattle.resp_scan.specs.Machine.Moves.{double_byte, double_next, only_byte}
use Rattle.resp_scan.specs.Kinds.{content_events, rules_of}
use Rattle.resp_scan.specs.Machine.Beginnings.{DoubleBegun, TextReturned}
use Rattle.resp_scan.specs.Machine.Standing.{HasCountsOf, Leads, StandsAfter}
use Rattle.resp_scan.proofs.TokenMoves.LeafEvents.{content_events-append, given-line}
use Rattle.resp_scan.proofs.TokenMoves.Moves.{goes, tells, ALead}
use Rattle.resp_scan.proofs.TokenMoves.RefusedMoves.{broken, fits_or_total, refused}
use Rattle.resp_scan.proofs.TokenMoves.ByteTests.{by_test, wanted}

-- a double needs what its stage needs, and its end
pub double_row : (r : Rules) (stage : DoubleStage) (room level : ℕ) (bytes : List ℕ) (shown : List Event) → DoubleBegun r stage room level bytes shown →
    IsBegunBy r level bytes (stage_needs stage + 2)
double_row r stage room level bytes shown w = double_begun r stage w.size level bytes w.token

-- its type byte
pub double_begun_by : (r : Rules) (level : ℕ) → HasLine r t.Double → 1 ≤ r.limits.length →
    DoubleBegun r Begun r.limits.length level (44 ∷ []) (e.Text e.Double ∷ [])
unfolding double_token_begins
double_begun_by r level p roomy = record { size = 0; token = double_token_begins r level p roomy; leaves = omega arith; told = refl }

-- its CR
double_returns : (r : Rules) (stage : DoubleStage) (room level : ℕ) (bytes : List ℕ) (shown : List Event) → stage_needs stage ≡ 0 →
    DoubleBegun r stage room level bytes shown → TextReturned r level (bytes ++ 13 ∷ []) shown
double_returns r stage room level bytes shown none w = record {
  leaf = line t.Double w.token.content;
  returned = record { begun = bytes; line_of = double_token_line r stage w.size level bytes w.token none; returned = refl };
  told = given-line 0 t.Double w.token.content ∙ ap (λ z. z ++ e.TextEnd ∷ []) (sym w.told);
  begun = λ negative same. no_big negative (content_events w.token.content) (sym w.told ∙ same);
}
  where
    no_big : (negative : Bool) (es : List Event) → e.Text e.Double ∷ es ≡ e.Text (e.Big negative) ∷ [] → ⊥
    no_big negative es same = cc

-- a byte more of its text
double_goes_on : (r : Rules) (stage next : DoubleStage) (room level byte : ℕ) (bytes : List ℕ) (shown : List Event) → stage_after stage byte ≡ Some next →
    stage_needs next < room → DoubleBegun r stage room level bytes shown →
    DoubleBegun r next (room - 1) level (bytes ++ byte ∷ []) (shown ++ e.Byte byte ∷ [])
unfolding double_token_more
double_goes_on r stage next room level byte bytes shown leads roomy w = record {
  size = w.size + 1;
  token = double_token_more r stage next w.size level bytes byte leads (omega (arith, roomy, w.leaves)) w.token;
  leaves = omega (arith, roomy, w.leaves);
  told = ap (λ z. z ++ e.Byte byte ∷ []) w.told ∙ ap (λ z. e.Text e.Double ∷ z) (sym (content_events-append w.token.content (byte ∷ [])));
}

-- a byte that leads to another stage, unless length or total refuses it
double_byte_leads : (s : Place) (stage next : DoubleStage) (room used byte : ℕ) (front : List ℕ) (es : List Event) → stage_after stage byte ≡ Some next →
    HasCountsOf (at s (InDouble stage room)) used front → StandsAfter (at s (InDouble stage room)) front es →
    Leads (at s (InDouble stage room)) front es byte (double_byte (at s (InDouble stage room)) (used + 1) room next)
double_byte_leads s stage next room used byte front es leads c w =
    let r = rules_of s in
    let q = at s (InDouble stage room) in
    elim (nat_le room (stage_needs next)) as (λ z. nat_le room (stage_needs next) ≡ z → Leads q front es byte
    (cond z (Refuse cause.Length) (cond (has_total_room q (used + 1) (stage_needs next + 2)) (Byte (at s (InDouble next (room - 1)))) (Refuse cause.Total)))) [
      | true ↦ λ z. refused r (DoubleBegun r stage room) WithinLength WithinDepth s.frames front (byte ∷ []) es refl (omega arith) w
          (λ level bytes shown e t.
          let full : r.limits.length < (t.size + 1) + stage_needs next =
          (let n : room ≤ stage_needs next = grind (arith, nat_tests) in omega (arith, n, t.leaves)) in
          let over = double_token_over r stage next t.size level bytes byte leads full t.token in
          (_, _, over.0, over.1))
      | false ↦ λ z.
          let roomy : stage_needs next < room = grind (arith, nat_tests) in
          let more = tells r (DoubleBegun r stage room) (DoubleBegun r next (room - 1)) s.frames front (byte ∷ []) es (e.Byte byte ∷ []) w
          (λ level bytes shown e t. double_goes_on r stage next room level byte bytes shown leads roomy t) in
          fits_or_total q (DoubleBegun r next (room - 1)) front es (es ++ e.Byte byte ∷ []) used byte (stage_needs next + 2)
          (Byte (at s (InDouble next (room - 1)))) c more
          (λ level bytes shown e t. double_row r next (room - 1) level bytes shown t) more
    ] refl

-- a byte that leads to no stage
double_end_leads : (s : Place) (stage : DoubleStage) (room byte : ℕ) (front : List ℕ) (es : List Event) → stage_after stage byte ≡ None →
    StandsAfter (at s (InDouble stage room)) front es → Leads (at s (InDouble stage room)) front es byte
    (cond (eqb (stage_needs stage) 0) (only_byte 13 byte (Go (at s AtLineLf))) (Refuse cause.Syntax))
double_end_leads s stage room byte front es none w =
    let r = rules_of s in
    let q = at s (InDouble stage room) in
    by_test q front es byte (eqb (stage_needs stage) 0) (only_byte 13 byte (Go (at s AtLineLf))) (Refuse cause.Syntax)
    (λ may. wanted q front es 13 byte (Go (at s AtLineLf))
    (λ is. let ends : stage_needs stage ≡ 0 = grind (arith, nat_tests) in
    subst (λ z. StandsAfter (at s AtLineLf) (front ++ z ∷ []) es) (sym is)
    (goes r (DoubleBegun r stage room) (TextReturned r) s.frames front (13 ∷ []) es w
    (λ level bytes shown e t. double_returns r stage room level bytes shown ends t)))
    (λ other. broken r (DoubleBegun r stage room) s.frames front es (stage_needs stage + 2) byte w
    (λ level bytes shown e t. double_row r stage room level bytes shown t)
    (λ level bytes rest shown t d. double_broken_at_end r stage t.size level bytes rest byte none other t.token d)))
    (λ needs. broken r (DoubleBegun r stage room) s.frames front es (stage_needs stage + 2) byte w
    (λ level bytes shown e t. double_row r stage room level bytes shown t)
    (λ level bytes rest shown t d. double_broken r stage t.size level bytes rest byte none needs t.token d))

-- every byte within a double
pub doubles_lead : (s : Place) (stage : DoubleStage) (room : ℕ) → ALead (at s (InDouble stage room))
doubles_lead s stage room used byte front es is_byte c w = case (stage_after stage byte) refl
  where
    case : (o : Option DoubleStage) → stage_after stage byte ≡ o → Leads (at s (InDouble stage room)) front es byte
        (double_next (at s (InDouble stage room)) (used + 1) room stage byte o)
    case None none = double_end_leads s stage room byte front es none w
    case (Some next) leads = double_byte_leads s stage next room used byte front es leads c w
