-- The LF after a string's length, where its content or its format begins.
use Rattle.std.proofs.Common.{◌≡◌, ℕ, ◌+◌, List, [], ◌∷◌, ◌++◌, refl, sym, ap, subst, ◌∙◌, append_assoc}
use Rattle.resp_value.specs.Bytes.{crlf}
use Rattle.resp_value.specs.Trees as t
use Rattle.resp_value.specs.Trees.{StringKind, HasFormat, payload}
use Rattle.resp_value.specs.Rules.{Rules, Grammar}
use Rattle.resp_fronts.specs.Events.{Event}
use Rattle.resp_fronts.specs.Events as e
use Rattle.resp_fronts.proofs.FirstLines.CountRows.{CompletesUnder}
use Rattle.resp_fronts.proofs.Tokens.BegunFronts.{IsBegunBy}
use Rattle.resp_fronts.proofs.Tokens.StringTokens.{HasRoom, length_returned_begun, length_returned_broken, payload_begins}
use Rattle.resp_fronts.specs.Tokens.{IsContentToken, zeros}
use Rattle.resp_scan.specs.declared.machine.Head.{Head}
use Rattle.resp_scan.specs.declared.machine.Head.TheVariants as head
use Rattle.resp_scan.specs.Machine.Tokens.{Move, Place, AtHeadLf, at}
use Rattle.resp_scan.specs.Machine.Moves.{only_byte}
use Rattle.resp_scan.specs.Machine.Heads.{content_at}
use Rattle.resp_scan.specs.Kinds.{rules_of}
use Rattle.resp_scan.specs.Machine.Beginnings.{ContentBegun, FormatBegun, HeadReturned, LengthReturned, string_text_kind}
use Rattle.resp_scan.specs.Machine.Standing.{IsInside, Leads, StandsAfter}
use Rattle.resp_scan.proofs.TokenMoves.ByteTests.{wanted}
use Rattle.resp_scan.proofs.TokenMoves.ContentLead.{content_lies}
use Rattle.resp_scan.proofs.TokenMoves.Moves.{goes, retold, tells, ALead, IsOfString}
use Rattle.resp_scan.proofs.TokenMoves.RefusedMoves.{broken}
use Rattle.resp_scan.proofs.HeadMoves.StringHeads.{IsStringHead, bulk, bulk_error, verbatim}

-- a length that is whole, with its CR
abbrev Returned : Rules → StringKind → ℕ → ℕ → List ℕ → List Event → Type 0
Returned r kind n level bytes shown = HasRoom kind n × LengthReturned r kind n level bytes shown

-- after its LF the payload begins
payload_token : (r : Rules) (kind : StringKind) (n level : ℕ) (bytes : List ℕ) (shown : List Event) → HasFormat kind →
    (w : Returned r kind n level bytes shown) → IsContentToken r kind w.1.length.first w.1.length.digits [] n level (bytes ++ 10 ∷ [])
payload_token r kind n level bytes shown f w =
    let t = w.1.length in
    let begun = payload_begins r kind t.first t.digits level w.1.before f (subst (HasRoom kind) (sym t.valued) w.0) t.token in
    let said = subst (λ m. IsContentToken r kind t.first t.digits [] m level (w.1.before ++ crlf [])) t.valued begun in
    subst (IsContentToken r kind t.first t.digits [] n level) (sym (append_assoc w.1.before (13 ∷ []) (10 ∷ [])) ∙ ap (λ z. z ++ 10 ∷ []) (sym w.1.returned))
    said

-- after a length's CR its LF, the content and the line's end
pub returned_row : (r : Rules) (h : Head) (kind : StringKind) (k : IsStringHead h kind) (n level : ℕ) (bytes : List ℕ) (shown : List Event) →
    HeadReturned r h n level bytes shown → IsBegunBy r level bytes (n + 3)
returned_row r h kind k n level bytes shown u =
    let t = k.ended r n level bytes shown u in
    let l = t.1.length in
    subst (λ z. IsBegunBy r level z (n + 3)) (sym t.1.returned) (subst (λ m. IsBegunBy r level (t.1.before ++ 13 ∷ []) (m + 3)) l.valued
    (length_returned_begun r kind l.first l.digits level t.1.before k.has_format (subst (HasRoom kind) (sym l.valued) t.0) l.token))

-- the LF alone goes on
length_end_leads : (s : Place) (h : Head) (kind : StringKind) (k : IsStringHead h kind) (n byte : ℕ) (front : List ℕ) (es : List Event) (v : Move) →
    IsInside (rules_of s) (HeadReturned (rules_of s) h n) s.frames front es → Leads s front es 10 v → Leads s front es byte (only_byte 10 byte v)
length_end_leads s h kind k n byte front es v w leads =
    let r = rules_of s in
    wanted s front es 10 byte v
    (λ is_newline. subst (λ z. Leads s front es z v) (sym is_newline) leads)
    (λ other. broken r (HeadReturned r h n) s.frames front es (n + 3) byte w
    (λ level bytes shown i u. returned_row r h kind k n level bytes shown u)
    (λ level bytes rest shown u d.
    let t = (k.ended r n level bytes shown u) in
    let l = t.1.length in
    length_returned_broken r kind l.first l.digits level t.1.before rest byte other l.token
    (subst (λ z. CompletesUnder r Grammar level z (byte ∷ rest)) t.1.returned d)))

-- content begins, where the payload is the content
content_begins_at : (s : Place) (kind : StringKind) (n : ℕ) (front : List ℕ) (es : List Event) → HasFormat kind → payload kind [] ≡ [] →
    IsInside (rules_of s) (Returned (rules_of s) kind n) s.frames front es →
    StandsAfter (content_at n s) (front ++ 10 ∷ []) (es ++ e.Text (string_text_kind kind) ∷ [])
content_begins_at s kind n front es f plain w =
    let r = rules_of s in
    content_lies s n (front ++ 10 ∷ []) (es ++ e.Text (string_text_kind kind) ∷ [])
    (tells r (Returned r kind n) (ContentBegun r n) s.frames front (10 ∷ []) es (e.Text (string_text_kind kind) ∷ []) w
    (λ level bytes shown i u. record {
      kind = kind;
      first = u.1.length.first;
      digits = u.1.length.digits;
      part = [];
      token = subst (λ z. IsContentToken r kind u.1.length.first u.1.length.digits z n level (bytes ++ 10 ∷ [])) (sym plain)
          (payload_token r kind n level bytes shown f u);
      told = ap (λ z. z ++ e.Text (string_text_kind kind) ∷ []) u.1.length.told;
    }))

-- every byte after the CR of a string's length
pub string_length_ends_lead : (s : Place) (h : Head) (n : ℕ) → IsOfString h → ALead (at s (AtHeadLf h n))
string_length_ends_lead s head.Bulk n p used byte front es is_byte c w =
    length_end_leads (at s (AtHeadLf head.Bulk n)) head.Bulk t.Bulk bulk n byte front es _ w
    (content_begins_at s t.Bulk n front es tt refl (retold (rules_of s) _ _ s.frames front es w (λ level bytes shown u. (tt, u))))
string_length_ends_lead s head.BulkError n p used byte front es is_byte c w =
    length_end_leads (at s (AtHeadLf head.BulkError n)) head.BulkError t.BulkError bulk_error n byte front es _ w
    (content_begins_at s t.BulkError n front es tt refl (retold (rules_of s) _ _ s.frames front es w (λ level bytes shown u. (tt, u))))
string_length_ends_lead s head.Verbatim n p used byte front es is_byte c w =
    length_end_leads (at s (AtHeadLf head.Verbatim n)) head.Verbatim (t.Verbatim (zeros 3)) verbatim n byte front es _ w
    (goes (rules_of s) (Returned (rules_of s) (t.Verbatim (zeros 3)) n) (FormatBegun (rules_of s) (zeros 3) [] n) s.frames front (10 ∷ []) es w
    (λ level bytes shown i u. record {
      first = u.1.length.first;
      digits = u.1.length.digits;
      token =
          payload_token (rules_of s) (t.Verbatim (zeros 3)) n level bytes shown verbatim.has_format u;
      told = u.1.length.told;
    }))
string_length_ends_lead s (head.Chunk room) n p used byte front es is_byte c w = absurd p
string_length_ends_lead s _ n p used byte front es is_byte c w = absurd p
