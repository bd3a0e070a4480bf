-- Lines of text.
use Rattle.std.specs.Prelude.{Bool, true, false, cond, eqb}
use Rattle.std.proofs.lemmas.Bool.Decides.{nat_tests}
use Rattle.std.proofs.Common.{◌≡◌, ℕ, ◌+◌, ◌-◌, ◌<◌, ◌≤◌, List, [], ◌∷◌, ◌++◌, refl, sym, ap, subst, ◌∙◌, arith}
use Rattle.resp_value.specs.Rules.{Rules, Grammar, WithinDepth, WithinLength}
use Rattle.resp_value.specs.Trees as t
use Rattle.resp_value.specs.Trees.{LineKind, leaf, line}
use Rattle.resp_value.specs.declared.cause.Cause.TheVariants as cause
use Rattle.resp_fronts.specs.Events.{Event}
use Rattle.resp_fronts.specs.Events as e
use Rattle.resp_fronts.proofs.FirstLines.CountRows.{CompletesUnder}
use Rattle.resp_fronts.proofs.Tokens.BegunFronts.{IsBegunBy}
use Rattle.resp_fronts.proofs.Tokens.LineTokens.{line_begun, line_broken_by_newline, returned_begun, returned_broken, returned_whole, text_token_line, text_token_more, text_token_over}
use Rattle.resp_scan.specs.Machine.Tokens.{Go, Byte, Give, Refuse, TextEnd, Place, at_boundary, InLine, AtLineLf, at}
use Rattle.resp_scan.specs.Machine.Room.{has_total_room}
use Rattle.resp_scan.specs.Machine.Moves.{content_byte}
use Rattle.resp_scan.specs.Kinds.{content_events, rules_of}
use Rattle.resp_scan.specs.Machine.Beginnings.{LineBegun, TextReturned}
use Rattle.resp_scan.specs.Machine.Standing.{HasCountsOf, Leads, StandsAfter}
use Rattle.resp_scan.proofs.TokenMoves.LeafEvents.{content_events-append, given-line, leaf_told}
use Rattle.resp_scan.proofs.TokenMoves.Moves.{Ends, goes, tells, value_ends, ALead}
use Rattle.resp_scan.proofs.TokenMoves.RefusedMoves.{broken, fits_or_total, refused}

-- a line needs its end
pub line_row : (r : Rules) (room level : ℕ) (bytes : List ℕ) (shown : List Event) → LineBegun r room level bytes shown → IsBegunBy r level bytes 2
line_row r room level bytes shown w = line_begun r (line w.kind w.token.content) level bytes (text_token_line r w.kind w.size level bytes w.token)

-- it is no big number
text_of_line : (k : LineKind) (negative : Bool) (es : List Event) → e.Text (e.line_text_kind k) ∷ es ≡ e.Text (e.Big negative) ∷ [] → ⊥
text_of_line t.Simple negative es same = cc
text_of_line t.Error negative es same = cc
text_of_line t.Double negative es same = cc

-- its CR
line_returns : (r : Rules) (room level : ℕ) (bytes : List ℕ) (shown : List Event) → LineBegun r room level bytes shown →
    TextReturned r level (bytes ++ 13 ∷ []) shown
line_returns r room level bytes shown w = record {
  leaf = line w.kind w.token.content;
  returned = record { begun = bytes; line_of = text_token_line r w.kind w.size level bytes w.token; returned = refl };
  told = given-line 0 w.kind w.token.content ∙ ap (λ z. z ++ e.TextEnd ∷ []) (sym w.told);
  begun = λ negative same. text_of_line w.kind negative (content_events w.token.content) (sym w.told ∙ same);
}

-- a byte more of its text
line_goes_on : (r : Rules) (room level byte : ℕ) (bytes : List ℕ) (shown : List Event) → byte < 256 → (byte ≡ 13 → ⊥) → (byte ≡ 10 → ⊥) → 0 < room →
    LineBegun r room level bytes shown → LineBegun r (room - 1) level (bytes ++ byte ∷ []) (shown ++ e.Byte byte ∷ [])
unfolding text_token_more
line_goes_on r room level byte bytes shown is_byte no_return no_newline some w = record {
  kind = w.kind;
  size = w.size + 1;
  token = text_token_more r w.kind w.size level bytes (byte ∷ []) w.token ((no_return, no_newline), tt) (is_byte, tt) (omega (arith, w.leaves));
  leaves = omega (arith, w.leaves);
  told = ap (λ z. z ++ e.Byte byte ∷ []) w.told ∙ ap (λ z. e.Text (e.line_text_kind w.kind) ∷ z) (sym (content_events-append w.token.content (byte ∷ [])));
}

-- a byte of content, unless length or total refuses it
line_byte_leads : (s : Place) (room used byte : ℕ) (front : List ℕ) (es : List Event) → byte < 256 → (byte ≡ 13 → ⊥) → (byte ≡ 10 → ⊥) →
    HasCountsOf (at s (InLine room)) used front → StandsAfter (at s (InLine room)) front es →
    Leads (at s (InLine room)) front es byte (content_byte (at s (InLine room)) (used + 1) room InLine)
line_byte_leads s room used byte front es is_byte no_return no_newline c w =
    let r = rules_of s in
    elim (eqb room 0) as (λ z. eqb room 0 ≡ z → Leads (at s (InLine room)) front es byte
    (cond z (Refuse cause.Length) (cond (has_total_room (at s (InLine room)) (used + 1) 2) (Byte (at s (InLine (room - 1)))) (Refuse cause.Total)))) [
      | true ↦ λ z. refused r (LineBegun r room) WithinLength WithinDepth s.frames front (byte ∷ []) es refl (omega arith) w
          (λ level bytes shown e t.
          let full : r.limits.length ≤ t.size = (let n : room ≡ 0 = grind (arith, nat_tests) in omega (arith, t.leaves)) in
          let over = text_token_over r t.kind t.size level bytes byte (no_return, no_newline) is_byte full t.token in
          (_, _, over.0, over.1))
      | false ↦ λ z.
          let some : 0 < room = grind (arith, nat_tests) in
          let more = tells r (LineBegun r room) (LineBegun r (room - 1)) s.frames front (byte ∷ []) es (e.Byte byte ∷ []) w
          (λ level bytes shown e t. line_goes_on r room level byte bytes shown is_byte no_return no_newline some t) in
          fits_or_total (at s (InLine room)) (LineBegun r (room - 1)) front es (es ++ e.Byte byte ∷ []) used byte 2 (Byte (at s (InLine (room - 1)))) c more
          (λ level bytes shown e t. line_row r (room - 1) level bytes shown t) more
    ] refl

-- every byte within a line
pub lines_lead : (s : Place) (room : ℕ) → ALead (at s (InLine room))
lines_lead s room used byte front es is_byte c w =
    let r = rules_of s in
    elim (eqb byte 13) as (λ x. eqb byte 13 ≡ x → Leads (at s (InLine room)) front es byte
    (cond x (Go (at s AtLineLf)) (cond (eqb byte 10) (Refuse cause.Syntax) (content_byte (at s (InLine room)) (used + 1) room InLine)))) [
      | true ↦ λ x.
          let b : byte ≡ 13 = grind (arith, nat_tests) in
          subst (λ z. StandsAfter (at s AtLineLf) (front ++ z ∷ []) es) (sym b)
          (goes r (LineBegun r room) (TextReturned r) s.frames front (13 ∷ []) es w (λ level bytes shown e t. line_returns r room level bytes shown t))
      | false ↦ λ x.
          elim (eqb byte 10) as (λ y. eqb byte 10 ≡ y → Leads (at s (InLine room)) front es byte
          (cond y (Refuse cause.Syntax) (content_byte (at s (InLine room)) (used + 1) room InLine))) [
            | true ↦ λ y.
                let b : byte ≡ 10 = grind (arith, nat_tests) in
                broken r (LineBegun r room) s.frames front es 2 byte w (λ level bytes shown e t. line_row r room level bytes shown t)
                (λ level bytes rest shown t d. line_broken_by_newline r (line t.kind t.token.content) level bytes rest
                (text_token_line r t.kind t.size level bytes t.token) (subst (λ z. CompletesUnder r Grammar level bytes (z ∷ rest)) b d))
            | false ↦ λ y. line_byte_leads s room used byte front es is_byte (λ b. grind (arith, nat_tests)) (λ b. grind (arith, nat_tests)) c w
          ] refl
    ] refl

-- the LF after the CR of a leaf's line ends its text
returned_text_ends : (r : Rules) (level : ℕ) (bytes : List ℕ) (shown : List Event) → TextReturned r level bytes shown →
    Ends r level (bytes ++ 10 ∷ []) (shown ++ e.TextEnd ∷ [])
returned_text_ends r level bytes shown w =
    record {
      tree = leaf w.leaf;
      is_tree = w.returned.line_of.is_leaf;
      keep = w.returned.line_of.keeps;
      whole = returned_whole r w.leaf level bytes w.returned;
      told = leaf_told w.leaf (shown ++ e.TextEnd ∷ []) w.told;
    }

-- every byte after a line's CR
pub line_ends_lead : (s : Place) → ALead (at s AtLineLf)
line_ends_lead s used byte front es is_byte c w =
    let r = rules_of s in
    elim (eqb byte 10) as (λ x. eqb byte 10 ≡ x → Leads (at s AtLineLf) front es byte (cond x (Give TextEnd (at_boundary s)) (Refuse cause.Syntax))) [
      | true ↦ λ x.
          let b : byte ≡ 10 = grind (arith, nat_tests) in
          subst (λ z. StandsAfter (at_boundary s) (front ++ z ∷ []) (es ++ e.TextEnd ∷ [])) (sym b)
          (value_ends r (TextReturned r) s.frames front (10 ∷ []) es (e.TextEnd ∷ []) w (λ level bytes shown i t. returned_text_ends r level bytes shown t))
      | false ↦ λ x.
          broken r (TextReturned r) s.frames front es 1 byte w (λ level bytes shown i t. returned_begun r t.leaf level bytes t.returned)
          (λ level bytes rest shown t d. returned_broken r t.leaf level bytes rest byte (λ b. grind (arith, nat_tests)) t.returned d)
    ] refl
