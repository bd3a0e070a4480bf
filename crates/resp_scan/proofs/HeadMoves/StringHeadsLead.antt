-- Heads of counted strings, byte by byte.
use Rattle.std.specs.Prelude.{cond}
use Rattle.std.proofs.Common.{◌≡◌, ℕ, ◌+◌, ◌-◌, ◌*◌, ◌≤◌, List, [], ◌∷◌, ◌++◌, refl, sym, subst, arith}
use Rattle.resp_value.specs.Numbers.{IsDigit}
use Rattle.resp_value.specs.Trees as t
use Rattle.resp_value.specs.Trees.{StringKind}
use Rattle.resp_value.specs.Rules.{Rules, WithinDepth, WithinLength}
use Rattle.resp_value.specs.declared.cause.Cause.TheVariants as cause
use Rattle.resp_value.proofs.DigitLemmas.{number-digit}
use Rattle.resp_fronts.specs.Events.{Event}
use Rattle.resp_fronts.proofs.Refusals.BrokenHeads.{IsNoLength}
use Rattle.resp_fronts.proofs.Tokens.BegunTypeBytes.{length_token_over}
use Rattle.resp_fronts.proofs.Tokens.HeadTokens.{length_token_more}
use Rattle.resp_fronts.proofs.Tokens.StringTokens.{IsStringBegun, length_token_begins, length_token_broken, string_begun_broken}
use Rattle.resp_fronts.specs.Tokens.{zeros}
use Rattle.resp_scan.specs.declared.machine.Head.{Head}
use Rattle.resp_scan.specs.declared.machine.Head.TheVariants as head
use Rattle.resp_scan.specs.Machine.Tokens.{Place, Go, Refuse, AtHead, InHead, AtHeadLf, at}
use Rattle.resp_scan.specs.Machine.Heads.{first_needed, head_needed, may_end}
use Rattle.resp_scan.specs.Machine.Moves.{head_digit, head_first, is_digit, streamed_move, only_byte}
use Rattle.resp_scan.specs.Kinds.{IsRefusedFor, rules_of}
use Rattle.resp_scan.specs.Machine.Beginnings.{HeadCounts, HeadReturned, LengthBegun}
use Rattle.resp_scan.specs.Machine.Standing.{HasCountsOf, IsInside, Leads, StandsAfter}
use Rattle.resp_scan.proofs.TokenMoves.ByteTests.{by_byte, by_digit, by_test, wanted}
use Rattle.resp_scan.proofs.HeadMoves.HeadDigits.{head_digit_leads}
use Rattle.resp_scan.proofs.TokenMoves.Moves.{goes, retold, ALead, IsOfString}
use Rattle.resp_scan.proofs.TokenMoves.RefusedMoves.{broken, refused}
use Rattle.resp_scan.proofs.HeadMoves.StringHeads.{IsStringHead, bulk, bulk_error, verbatim}

-- a string's type byte
abbrev pub TypeByte : Rules → StringKind → ℕ → List ℕ → List Event → Type 0
TypeByte r kind level bytes shown = IsStringBegun r kind bytes × (shown ≡ [])

-- the first digit of a length, which no limit but total refuses
pub first_digit_leads : (s : Place) (h : Head) (kind : StringKind) (k : IsStringHead h kind) (used byte : ℕ) (front : List ℕ) (es : List Event) → IsDigit byte →
    HasCountsOf s used front → IsInside (rules_of s) (TypeByte (rules_of s) kind) s.frames front es →
    Leads s front es byte (head_digit s (used + 1) h (byte - 48))
first_digit_leads s h kind k used byte front es digit c w =
    let r = rules_of s in
    let roomy : 64 ≤ s.bounds.length = c.sound.bounds.length_in_range.0 in
    head_digit_leads s h (byte - 48) used byte front es c
    (λ past. absurd (omega (arith, k.most s, digit.1, roomy)))
    (λ within. goes r (TypeByte r kind) (HeadCounts r h (byte - 48)) s.frames front (byte ∷ []) es w
    (λ level bytes shown e t. k.counts r (byte - 48) level (bytes ++ byte ∷ []) shown
    (record {
      first = byte;
      digits = [];
      token = length_token_begins r kind level byte bytes digit (omega (arith, digit.1, roomy)) t.0;
      valued =
          omega arith;
      told = t.1;
    })))
    (λ level bytes shown e t. k.row r (byte - 48) level bytes shown (omega arith) (k.length r (byte - 48) level bytes shown t))

-- what stands after a type byte where no `?` may
pub string_head_leads : (s : Place) (h : Head) (kind : StringKind) (k : IsStringHead h kind) (used byte : ℕ) (front : List ℕ) (es : List Event) →
    HasCountsOf s used front → IsInside (rules_of s) (TypeByte (rules_of s) kind) s.frames front es → ((IsDigit byte → ⊥) → IsNoLength kind byte) →
    Leads s front es byte (head_first s (used + 1) h byte)
string_head_leads s h kind k used byte front es c w none =
    let r = rules_of s in
    let roomy : 64 ≤ s.bounds.length = c.sound.bounds.length_in_range.0 in
    let dead : (IsDigit byte → ⊥) → IsRefusedFor r (front ++ byte ∷ []) cause.Syntax = λ other.
    broken r (TypeByte r kind) s.frames front es (first_needed h) byte w (λ level bytes shown e t. k.first_row r level bytes (omega arith) t.0)
    (λ level bytes rest shown t d. string_begun_broken r kind level bytes rest byte (none other) t.0 d) in
    by_byte s front es 63 byte _ _
    (λ is_mark. subst (λ z. Leads s front es byte (streamed_move s (used + 1) z)) (sym k.not_streamed) (dead (λ d. omega (arith, d.1))))
    (λ no_mark. by_digit s front es byte _ _ (λ digit. first_digit_leads s h kind k used byte front es digit c w) dead)

-- every byte after the type byte of a bulk error or a verbatim string, or after `$`
pub string_heads_lead : (s : Place) (h : Head) → IsOfString h → ALead (at s (AtHead h))
string_heads_lead s head.Bulk p used byte front es is_byte c w = absurd w.took
string_heads_lead s head.BulkError p used byte front es is_byte c w =
    string_head_leads (at s (AtHead head.BulkError)) head.BulkError t.BulkError bulk_error used byte front es c
    (retold (rules_of s) _ _ s.frames front es w (λ level bytes shown t. ((t.0, t.1), t.2))) (λ other. other)
string_heads_lead s head.Verbatim p used byte front es is_byte c w =
    string_head_leads (at s (AtHead head.Verbatim)) head.Verbatim (t.Verbatim (zeros 3)) verbatim used byte front es c
    (retold (rules_of s) _ _ s.frames front es w (λ level bytes shown t. ((t.0, t.1), t.2))) (λ other. other)
string_heads_lead s _ p used byte front es is_byte c w = absurd p

-- a digit of a length, or its CR
string_length_leads : (s : Place) (h : Head) (kind : StringKind) (k : IsStringHead h kind) (n used byte : ℕ) (front : List ℕ) (es : List Event) →
    HasCountsOf s used front → IsInside (rules_of s) (LengthBegun (rules_of s) kind n) s.frames front es →
    Leads s front es byte (cond (is_digit byte) (head_digit s (used + 1) h (n * 10 + (byte - 48)))
    (cond (may_end h n) (only_byte 13 byte (Go (at s (AtHeadLf h n)))) (Refuse cause.Syntax)))
string_length_leads s h kind k n used byte front es c w =
    let r = rules_of s in
    let roomy : 64 ≤ s.bounds.length = c.sound.bounds.length_in_range.0 in
    let m = n * 10 + (byte - 48) in
    by_digit s front es byte _ _
    (λ digit. head_digit_leads s h m used byte front es c
    (λ past. subst (IsRefusedFor r (front ++ byte ∷ [])) k.cause
    (refused r (LengthBegun r kind n) WithinLength WithinDepth s.frames front (byte ∷ []) es refl (omega arith) w
    (λ level bytes shown e t.
    let over = length_token_over r kind t.first t.digits level byte bytes k.has_format (omega arith) digit
    (omega (arith, number-digit (t.first ∷ t.digits) byte, t.valued, k.most s)) t.token in
    (_, _, over.0, over.1))))
    (λ within. goes r (LengthBegun r kind n) (HeadCounts r h m) s.frames front (byte ∷ []) es w
    (λ level bytes shown e t. k.counts r m level (bytes ++ byte ∷ []) shown (record {
      first = t.first;
      digits = t.digits ++ byte ∷ [];
      token = length_token_more r kind t.first t.digits level byte bytes digit (omega (arith, number-digit (t.first ∷ t.digits) byte, t.valued, k.most s))
          t.token;
      valued = omega (arith, number-digit (t.first ∷ t.digits) byte, t.valued);
      told = t.told;
    })))
    (λ level bytes shown e t. k.row r m level bytes shown (omega arith) (k.length r m level bytes shown t)))
    (λ other. by_test s front es byte (may_end h n) _ _
    (λ long. wanted s front es 13 byte (Go (at s (AtHeadLf h n)))
    (λ is_return. subst (λ z. StandsAfter (at s (AtHeadLf h n)) (front ++ z ∷ []) es) (sym is_return)
    (goes r (LengthBegun r kind n) (HeadReturned r h n) s.frames front (13 ∷ []) es w
    (λ level bytes shown e t. k.ends r n level (bytes ++ 13 ∷ []) shown long (record { before = bytes; length = t; returned = refl }))))
    (λ no_return. broken r (LengthBegun r kind n) s.frames front es (head_needed h n) byte w
    (λ level bytes shown e t. k.row r n level bytes shown (omega arith) t)
    (λ level bytes rest shown t d. length_token_broken r kind t.first t.digits level bytes rest byte no_return other t.token d)))
    (λ short. broken r (LengthBegun r kind n) s.frames front es (head_needed h n) byte w (λ level bytes shown e t. k.row r n level bytes shown (omega arith) t)
    (λ level bytes rest shown t d. k.short r n level bytes rest shown byte short other t d)))

-- every byte after the digits of a string's length
pub string_lengths_lead : (s : Place) (h : Head) (n : ℕ) → IsOfString h → ALead (at s (InHead h n))
string_lengths_lead s head.Bulk n p used byte front es is_byte c w =
    string_length_leads (at s (InHead head.Bulk n)) head.Bulk t.Bulk bulk n used byte front es c w
string_lengths_lead s head.BulkError n p used byte front es is_byte c w =
    string_length_leads (at s (InHead head.BulkError n)) head.BulkError t.BulkError bulk_error n used byte front es c w
string_lengths_lead s head.Verbatim n p used byte front es is_byte c w =
    string_length_leads (at s (InHead head.Verbatim n)) head.Verbatim (t.Verbatim (zeros 3)) verbatim n used byte front es c w
string_lengths_lead s (head.Chunk room) n p used byte front es is_byte c w = absurd p
string_lengths_lead s _ n p used byte front es is_byte c w = absurd p
