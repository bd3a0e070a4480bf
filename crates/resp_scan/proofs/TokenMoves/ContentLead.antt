-- Counted content, and its end.
use Rattle.std.specs.Prelude.{true, false, cond, eqb}
use Rattle.std.proofs.lemmas.Bool.Decides.{nat_tests}
use Rattle.std.proofs.Common.{◌≡◌, ℕ, ◌-◌, ◌<◌, List, [], ◌∷◌, ◌++◌, refl, sym, ap, subst, ◌∙◌, arith, append_assoc}
use Rattle.resp_value.specs.Rules.{Rules, Grammar}
use Rattle.resp_value.specs.Trees.{leaf, string}
use Rattle.resp_fronts.specs.Events.{Event}
use Rattle.resp_fronts.specs.Events as e
use Rattle.resp_fronts.proofs.FirstLines.CountRows.{CompletesUnder}
use Rattle.resp_fronts.proofs.Tokens.BegunFronts.{IsBegunBy}
use Rattle.resp_fronts.proofs.Tokens.ContentTokens.{content_begun, content_broken, content_returned_begun}
use Rattle.resp_fronts.proofs.Tokens.PayloadTokens.{content_returned_broken, payload_more, whole_content}
use Rattle.resp_scan.specs.Machine.Tokens.{Place, Go, Give, TextEnd, AtContentCr, AtContentLf, InContent, at, at_boundary}
use Rattle.resp_scan.specs.Machine.Heads.{content_at}
use Rattle.resp_scan.specs.Kinds.{rules_of}
use Rattle.resp_scan.specs.Machine.Beginnings.{ContentBegun, ContentReturned, string_text_kind}
use Rattle.resp_scan.specs.Machine.Standing.{IsInside, StandsAfter}
use Rattle.resp_scan.proofs.TokenMoves.ByteTests.{wanted}
use Rattle.resp_scan.proofs.TokenMoves.LeafEvents.{content_events-append, given-string, leaf_told}
use Rattle.resp_scan.proofs.TokenMoves.Moves.{Ends, goes, retold, tells, value_ends, ALead}
use Rattle.resp_scan.proofs.TokenMoves.RefusedMoves.{broken}

-- content, whether bytes of it are left or none
pub content_lies : (s : Place) (n : ℕ) (front : List ℕ) (es : List Event) → IsInside (rules_of s) (ContentBegun (rules_of s) n) s.frames front es →
    StandsAfter (content_at n s) front es
content_lies s n front es w =
    elim (eqb n 0) as (λ z. eqb n 0 ≡ z → StandsAfter (at s (cond z AtContentCr (InContent n))) front es) [
      | true ↦ λ z. let e : n ≡ 0 = grind (arith, nat_tests) in subst (λ m. IsInside (rules_of s) (ContentBegun (rules_of s) m) s.frames front es) e w
      | false ↦ λ z. retold (rules_of s) (ContentBegun (rules_of s) n) (λ level bytes shown. ContentBegun (rules_of s) n level bytes shown × (0 < n)) s.frames
          front es w (λ level bytes shown t. (t, grind (arith, nat_tests)))
    ] refl

content_more : (r : Rules) (n level byte : ℕ) (bytes : List ℕ) (shown : List Event) → byte < 256 → 0 < n → ContentBegun r n level bytes shown →
    ContentBegun r (n - 1) level (bytes ++ byte ∷ []) (shown ++ e.Byte byte ∷ [])
content_more r n level byte bytes shown is_byte some w = record {
  kind = w.kind;
  first = w.first;
  digits = w.digits;
  part = w.part ++ byte ∷ [];
  token = payload_more r w.kind w.first w.digits w.part (byte ∷ []) n level bytes (is_byte, tt) (omega arith) w.token;
  told = ap (λ z. z ++ e.Byte byte ∷ []) w.told ∙ ap (λ z. e.Text (string_text_kind w.kind) ∷ z) (sym (content_events-append w.part (byte ∷ [])));
}

-- every byte within a string's content
pub content_leads : (s : Place) (n : ℕ) → ALead (at s (InContent n))
content_leads s n used byte front es is_byte c w =
    content_lies s (n - 1) (front ++ byte ∷ []) (es ++ e.Byte byte ∷ [])
    (tells (rules_of s) (λ level bytes shown. ContentBegun (rules_of s) n level bytes shown × (0 < n)) (ContentBegun (rules_of s) (n - 1)) s.frames front
    (byte ∷ []) es (e.Byte byte ∷ []) w (λ level bytes shown i t. content_more (rules_of s) n level byte bytes shown is_byte t.1 t.0))

-- every byte after a string's content
pub content_returns_lead : (s : Place) → ALead (at s AtContentCr)
content_returns_lead s used byte front es is_byte c w = wanted (at s AtContentCr) front es 13 byte (Go (at s AtContentLf))
    (λ is_return. subst (λ z. StandsAfter (at s AtContentLf) (front ++ z ∷ []) es) (sym is_return)
    (goes (rules_of s) (ContentBegun (rules_of s) 0) (ContentReturned (rules_of s)) s.frames front (13 ∷ []) es w
    (λ level bytes shown i t. record { before = bytes; content = t; returned = refl })))
    (λ other. broken (rules_of s) (ContentBegun (rules_of s) 0) s.frames front es 2 byte w
    (λ level bytes shown i t. content_begun (rules_of s) t.kind t.first t.digits _ 0 level bytes t.token)
    (λ level bytes rest shown t d. content_broken (rules_of s) t.kind t.first t.digits _ level bytes rest byte other t.token d))

content_ends_value : (r : Rules) (level : ℕ) (bytes : List ℕ) (shown : List Event) → ContentReturned r level bytes shown →
    Ends r level (bytes ++ 10 ∷ []) (shown ++ e.TextEnd ∷ [])
content_ends_value r level bytes shown w =
    let t = w.content in
    let l = whole_content r t.kind t.first t.digits t.part level w.before t.token in
    record {
      tree = leaf (string t.kind (t.first ∷ t.digits) t.part);
      is_tree = l.0;
      keep = l.1;
      whole = l.2 ∙ sym (append_assoc w.before (13 ∷ []) (10 ∷ [])) ∙ ap (λ z. z ++ 10 ∷ []) (sym w.returned);
      told = leaf_told (string t.kind (t.first ∷ t.digits) t.part) (shown ++ e.TextEnd ∷ []) (given-string 0 t.kind (t.first ∷ t.digits) t.part ∙
          ap (λ z. z ++ e.TextEnd ∷ []) (sym t.told));
    }

-- every byte after the CR of a string's content
pub content_ends_lead : (s : Place) → ALead (at s AtContentLf)
content_ends_lead s used byte front es is_byte c w = wanted (at s AtContentLf) front es 10 byte (Give TextEnd (at_boundary s))
    (λ is_newline. subst (λ z. StandsAfter (at_boundary s) (front ++ z ∷ []) (es ++ e.TextEnd ∷ [])) (sym is_newline)
    (value_ends (rules_of s) (ContentReturned (rules_of s)) s.frames front (10 ∷ []) es (e.TextEnd ∷ []) w
    (λ level bytes shown i t. content_ends_value (rules_of s) level bytes shown t)))
    (λ other. broken (rules_of s) (ContentReturned (rules_of s)) s.frames front es 1 byte w
    (λ level bytes shown i t. subst (λ z. IsBegunBy (rules_of s) level z 1) (sym t.returned)
    (content_returned_begun (rules_of s) t.content.kind t.content.first t.content.digits _ level t.before t.content.token))
    (λ level bytes rest shown t d. content_returned_broken (rules_of s) t.content.kind t.content.first t.content.digits _ level t.before rest byte other
    t.content.token (subst (λ z. CompletesUnder (rules_of s) Grammar level z (byte ∷ rest)) t.returned d)))
