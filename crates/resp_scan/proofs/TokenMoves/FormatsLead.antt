-- Formats of verbatim strings, and the colon after them.
use Rattle.std.proofs.Common.{◌≡◌, ℕ, suc, ◌+◌, ◌-◌, ◌<◌, List, [], ◌∷◌, ◌++◌, refl, sym, ap, subst, arith}
use Rattle.resp_value.specs.Trees as t
use Rattle.resp_value.specs.Rules.{Rules}
use Rattle.resp_fronts.specs.Events.{Event}
use Rattle.resp_fronts.specs.Events as e
use Rattle.resp_fronts.proofs.Tokens.ContentTokens.{content_begun}
use Rattle.resp_fronts.proofs.Tokens.PayloadTokens.{format_broken, format_ends, format_more}
use Rattle.resp_fronts.specs.Tokens.{IsContentToken, zeros}
use Rattle.resp_scan.specs.declared.event.TextKind.TheVariants as text
use Rattle.resp_scan.specs.Machine.Tokens.{Place, Give, Text, AtFormatColon, at, AtFormat, AtFormatSecond, AtFormatThird}
use Rattle.resp_scan.specs.Machine.Heads.{content_at}
use Rattle.resp_scan.specs.Kinds.{rules_of}
use Rattle.resp_scan.specs.Machine.Beginnings.{ContentBegun, FormatBegun}
use Rattle.resp_scan.specs.Machine.Standing.{IsInside, Leads}
use Rattle.resp_scan.proofs.TokenMoves.ByteTests.{wanted}
use Rattle.resp_scan.proofs.TokenMoves.ContentLead.{content_lies}
use Rattle.resp_scan.proofs.TokenMoves.Moves.{goes, tells, ALead}
use Rattle.resp_scan.proofs.TokenMoves.RefusedMoves.{broken}

-- the next byte of a format, of which this many are to come after it; any byte is one
format_byte_goes : (s : Place) (before : List ℕ) (beyond left next byte : ℕ) (front : List ℕ) (es : List Event) → byte < 256 → left - 1 ≡ next →
    IsInside (rules_of s) (FormatBegun (rules_of s) (before ++ zeros (suc beyond)) before left) s.frames front es →
    IsInside (rules_of s) (FormatBegun (rules_of s) (before ++ byte ∷ zeros beyond) (before ++ byte ∷ []) next) s.frames (front ++ byte ∷ []) es
format_byte_goes s before beyond left next byte front es is_byte fewer w =
    let r = rules_of s in
    goes r (FormatBegun r (before ++ zeros (suc beyond)) before left) (FormatBegun r (before ++ byte ∷ zeros beyond) (before ++ byte ∷ []) next) s.frames front
    (byte ∷ []) es w
    (λ level bytes shown i f. record {
      first = f.first;
      digits = f.digits;
      token = subst (λ n. IsContentToken r (t.Verbatim (before ++ byte ∷ zeros beyond)) f.first f.digits (before ++ byte ∷ []) n level (bytes ++ byte ∷ []))
          fewer (format_more r before byte beyond f.first f.digits left level bytes is_byte f.token);
      told = f.told;
    })

-- every byte where a verbatim string's format begins
pub formats_lead : (s : Place) (n : ℕ) → ALead (at s (AtFormat n))
formats_lead s n used byte front es is_byte c w = format_byte_goes s [] 2 n (n - 1) byte front es is_byte refl w

-- every byte after the first byte of a format
pub second_format_bytes_lead : (s : Place) (x n : ℕ) → ALead (at s (AtFormatSecond x n))
second_format_bytes_lead s x n used byte front es is_byte c w = format_byte_goes s (x ∷ []) 1 (n - 1) (n - 2) byte front es is_byte (omega arith) w

-- every byte after the second byte of a format
pub third_format_bytes_lead : (s : Place) (x y n : ℕ) → ALead (at s (AtFormatThird x y n))
third_format_bytes_lead s x y n used byte front es is_byte c w = format_byte_goes s (x ∷ y ∷ []) 0 (n - 2) (n - 3) byte front es is_byte (omega arith) w

colon_begins : (r : Rules) (format : List ℕ) (n level : ℕ) (bytes : List ℕ) (shown : List Event) → FormatBegun r format format (n - 3) level bytes shown →
    ContentBegun r (n - 4) level (bytes ++ 58 ∷ []) (shown ++ e.Text (e.Verbatim format) ∷ [])
colon_begins r format n level bytes shown f = record {
  kind = t.Verbatim format;
  first = f.first;
  digits = f.digits;
  part = [];
  token = subst (λ m. IsContentToken r (t.Verbatim format) f.first f.digits (format ++ 58 ∷ []) m level (bytes ++ 58 ∷ [])) (omega arith)
      (format_ends r format f.first f.digits (n - 3) level bytes f.token);
  told = ap (λ z. z ++ e.Text (e.Verbatim format) ∷ []) f.told;
}

-- every byte after a format
pub colons_lead : (s : Place) (format : List ℕ) (n : ℕ) → ALead (at s (AtFormatColon format n))
colons_lead s format n used byte front es is_byte c w =
    let r = rules_of s in
    let v = Give (Text (text.Verbatim format)) (content_at (n - 4) s) in
    wanted (at s (AtFormatColon format n)) front es 58 byte v
    (λ is_colon. subst (λ z. Leads (at s (AtFormatColon format n)) front es z v) (sym is_colon)
    (content_lies s (n - 4) (front ++ 58 ∷ []) (es ++ e.Text (e.Verbatim format) ∷ [])
    (tells r (FormatBegun r format format (n - 3)) (ContentBegun r (n - 4)) s.frames front (58 ∷ []) es (e.Text (e.Verbatim format) ∷ []) w
    (λ level bytes shown i f. colon_begins r format n level bytes shown f))))
    (λ other. broken r (FormatBegun r format format (n - 3)) s.frames front es (n - 3 + 2) byte w
    (λ level bytes shown i f. content_begun r (t.Verbatim format) f.first f.digits format (n - 3) level bytes f.token)
    (λ level bytes rest shown f d. format_broken r format f.first f.digits (n - 3) level bytes rest byte other f.token d))
