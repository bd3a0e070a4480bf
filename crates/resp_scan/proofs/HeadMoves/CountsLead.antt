-- The digits of an aggregate's count.
use Rattle.std.specs.Prelude.{cond, nat_lt, Some}
use Rattle.std.proofs.Common.{◌≡◌, ℕ, ◌+◌, ◌-◌, ◌*◌, ◌<◌, ◌≤◌, List, [], ◌∷◌, ◌++◌, refl, sym, ap, subst, ◌∙◌, arith}
use Rattle.resp_value.specs.Data.{Kind, items_of, members_of}
use Rattle.resp_value.specs.Data as d
use Rattle.resp_value.specs.Numbers.{IsDigit, number}
use Rattle.resp_value.specs.Rules.{Rules, WithinItems, WithinLength}
use Rattle.resp_value.specs.declared.cause.Cause.TheVariants as cause
use Rattle.resp_value.proofs.DigitLemmas.{number-digit}
use Rattle.resp_value.proofs.Choices.{if_below}
use Rattle.resp_fronts.specs.Events.{Event}
use Rattle.resp_fronts.proofs.FirstLines.CountRows.{IsRefusedHere}
use Rattle.resp_fronts.proofs.Tokens.BegunFronts.{IsBegunBy}
use Rattle.resp_fronts.proofs.Tokens.HeadTokens.{count_begun, count_token_broken, count_token_more, count_token_over}
use Rattle.resp_scan.specs.declared.machine.Head.{Head}
use Rattle.resp_scan.specs.declared.machine.Head.TheVariants as head
use Rattle.resp_scan.specs.Machine.Tokens.{Go, Move, Place, Token, AtHeadLf, InHead, at}
use Rattle.resp_scan.specs.Machine.Room.{over_total}
use Rattle.resp_scan.specs.Machine.Moves.{is_digit, move_unless, only_byte}
use Rattle.resp_scan.specs.Kinds.{rules_of}
use Rattle.resp_scan.specs.Machine.Beginnings.{CountBegun, CountReturned}
use Rattle.resp_scan.specs.Machine.Standing.{HasCountsOf, IsInside, Leads, StandsAfter}
use Rattle.resp_scan.proofs.TokenMoves.Moves.{goes, ALead, IsOfAggregate}
use Rattle.resp_scan.proofs.TokenMoves.RefusedMoves.{fits_or_total, refused, unless_over}
use Rattle.resp_scan.proofs.TokenMoves.ByteTests.{by_digit, wants_leads}

-- the items of the members that a count asks for
pub items_of-members_of : (k : Kind) (n : ℕ) → items_of k (members_of k n) ≡ n
items_of-members_of d.Map n = omega arith
items_of-members_of d.Attr n = omega arith
items_of-members_of _ n = refl

-- after a count's digits the line's end and the members
pub count_row : (r : Rules) (k : Kind) (n needed level : ℕ) (bytes : List ℕ) (shown : List Event) → 3 * members_of k n + 2 ≡ needed →
    CountBegun r k n level bytes shown → IsBegunBy r level bytes needed
count_row r k n needed level bytes shown e w = subst (IsBegunBy r level bytes) (ap (λ m. 3 * members_of k m + 2) w.valued ∙ e)
    (count_begun r k w.first w.digits level bytes w.token)

more_value : (r : Rules) (k : Kind) (n byte level : ℕ) (bytes : List ℕ) (shown : List Event) (w : CountBegun r k n level bytes shown) →
    number (w.first ∷ (w.digits ++ byte ∷ [])) ≡ n * 10 + (byte - 48)
more_value r k n byte level bytes shown w = number-digit (w.first ∷ w.digits) byte ∙ ap (λ m. m * 10 + (byte - 48)) w.valued

counts_more : (r : Rules) (k : Kind) (n byte level : ℕ) (bytes : List ℕ) (shown : List Event) → IsDigit byte → n * 10 + (byte - 48) ≤ r.limits.items →
    CountBegun r k n level bytes shown → CountBegun r k (n * 10 + (byte - 48)) level (bytes ++ byte ∷ []) shown
counts_more r k n byte level bytes shown d fits w =
    let value = more_value r k n byte level bytes shown w in
    record {
      first = w.first;
      digits = w.digits ++ byte ∷ [];
      token = count_token_more r k w.first w.digits level byte bytes d
          (omega (arith, items_of-members_of k (number (w.first ∷ (w.digits ++ byte ∷ []))), value, fits)) w.token;
      valued = value;
      told = w.told;
    }

too_many : (r : Rules) (k : Kind) (n byte level : ℕ) (bytes : List ℕ) (shown : List Event) → IsDigit byte → r.limits.items < n * 10 + (byte - 48) →
    CountBegun r k n level bytes shown → (first : ℕ) × (tail : List ℕ) × (bytes ++ byte ∷ [] ≡ first ∷ tail) ×
    IsRefusedHere r WithinItems WithinLength level (first ∷ tail)
too_many r k n byte level bytes shown d past w =
    let over = count_token_over r k w.first w.digits level byte bytes d
    (omega (arith, items_of-members_of k (number (w.first ∷ (w.digits ++ byte ∷ []))), more_value r k n byte level bytes shown w, past)) w.token in
    (_, _, over.0, over.1)

-- a digit of a count, where items and total test the number m
abbrev pub count_digit : Place → ℕ → ℕ → ℕ → Token → Move
count_digit s used m needed token = move_unless (cond (nat_lt s.bounds.items m) (Some cause.Items) (over_total s used needed)) (Go (at s token))

-- a digit more
digit_leads : (s : Place) (k : Kind) (n needed used byte : ℕ) (token : Token) (front : List ℕ) (es : List Event) → 3 * members_of k (n * 10 + (byte - 48)) + 2 ≡
    needed → IsDigit byte → HasCountsOf s used front → IsInside (rules_of s) (CountBegun (rules_of s) k n) s.frames front es →
    (IsInside (rules_of s) (CountBegun (rules_of s) k (n * 10 + (byte - 48))) s.frames (front ++ byte ∷ []) es →
    StandsAfter (at s token) (front ++ byte ∷ []) es) → Leads s front es byte (count_digit s (used + 1) (n * 10 + (byte - 48)) needed token)
digit_leads s k n needed used byte token front es e d c w lies =
    let r = rules_of s in
    let m = n * 10 + (byte - 48) in
    if_below s.bounds.items m (λ x. Leads s front es byte (move_unless (cond x (Some cause.Items) (over_total s (used + 1) needed)) (Go (at s token))))
    (λ past. refused r (CountBegun r k n) WithinItems WithinLength s.frames front (byte ∷ []) es refl (omega arith) w
    (λ level bytes shown i t. too_many r k n byte level bytes shown d past t))
    (λ fits.
    let more = goes r (CountBegun r k n) (CountBegun r k m) s.frames front (byte ∷ []) es w
    (λ level bytes shown i t. counts_more r k n byte level bytes shown d fits t) in
    unless_over s front es used byte needed (Go (at s token)) (fits_or_total s (CountBegun r k m) front es es used byte needed (Go (at s token)) c more
    (λ level bytes shown i t. count_row r k m needed level bytes shown e t) (lies more)))

returns : (r : Rules) (k : Kind) (n level : ℕ) (bytes : List ℕ) (shown : List Event) → CountBegun r k n level bytes shown →
    CountReturned r k n level (bytes ++ 13 ∷ []) shown
returns r k n level bytes shown w = record {
  first = w.first;
  digits = w.digits;
  returned = record { begun = bytes; count = w.token; returned = refl };
  valued =
      w.valued;
  told = w.told;
}

-- the CR of a count
return_leads : (s : Place) (k : Kind) (n byte : ℕ) (token : Token) (front : List ℕ) (es : List Event) → (IsDigit byte → ⊥) →
    IsInside (rules_of s) (CountBegun (rules_of s) k n) s.frames front es →
    (IsInside (rules_of s) (CountReturned (rules_of s) k n) s.frames (front ++ 13 ∷ []) es → StandsAfter (at s token) (front ++ 13 ∷ []) es) →
    Leads s front es byte (only_byte 13 byte (Go (at s token)))
return_leads s k n byte token front es no_digit w lies =
    let r = rules_of s in
    wants_leads s (CountBegun r k n) front es (3 * members_of k n + 2) byte 13 (Go (at s token)) w
    (λ level bytes shown i t. count_row r k n (3 * members_of k n + 2) level bytes shown refl t)
    (λ other level bytes rest shown t dead. count_token_broken r k t.first t.digits level bytes rest byte other no_digit t.token dead)
    (λ is. subst (λ z. StandsAfter (at s token) (front ++ z ∷ []) es) (sym is)
    (lies (goes r (CountBegun r k n) (CountReturned r k n) s.frames front (13 ∷ []) es w (λ level bytes shown i t. returns r k n level bytes shown t))))

-- a digit more, or the CR
count_leads : (s : Place) (h : Head) (k : Kind) (n needed used byte : ℕ) (front : List ℕ) (es : List Event) → 3 * members_of k (n * 10 + (byte - 48)) + 2 ≡
    needed → HasCountsOf (at s (InHead h n)) used front → IsInside (rules_of s) (CountBegun (rules_of s) k n) s.frames front es →
    ((m : ℕ) (longer : List ℕ) → IsInside (rules_of s) (CountBegun (rules_of s) k m) s.frames longer es → StandsAfter (at s (InHead h m)) longer es) →
    ((longer : List ℕ) → IsInside (rules_of s) (CountReturned (rules_of s) k n) s.frames longer es → StandsAfter (at s (AtHeadLf h n)) longer es) →
    Leads (at s (InHead h n)) front es byte (cond (is_digit byte)
    (count_digit (at s (InHead h n)) (used + 1) (n * 10 + (byte - 48)) needed (InHead h (n * 10 + (byte - 48)))) (only_byte 13 byte (Go (at s (AtHeadLf h n)))))
count_leads s h k n needed used byte front es e c w counts ends =
    let p = at s (InHead h n) in
    let m = n * 10 + (byte - 48) in
    by_digit p front es byte _ _
    (λ digit. digit_leads p k n needed used byte (InHead h m) front es e digit c w (λ x. counts m (front ++ byte ∷ []) x))
    (λ no_digit. return_leads p k n byte (AtHeadLf h n) front es no_digit w (λ x. ends (front ++ 13 ∷ []) x))

-- every byte after the digits of an aggregate's head
pub counts_lead : (s : Place) (h : Head) (n : ℕ) → IsOfAggregate h → ALead (at s (InHead h n))
counts_lead s head.Array n h used byte front es is_byte c w = count_leads s head.Array d.Array n ((n * 10 + (byte - 48)) * 3 + 2) used byte front es
    (omega arith) c w (λ m longer x. x) (λ longer x. x)
counts_lead s head.Set n h used byte front es is_byte c w = count_leads s head.Set d.Set n ((n * 10 + (byte - 48)) * 3 + 2) used byte front es (omega arith) c w
    (λ m longer x. x) (λ longer x. x)
counts_lead s head.Map n h used byte front es is_byte c w = count_leads s head.Map d.Map n ((n * 10 + (byte - 48)) * 6 + 2) used byte front es (omega arith) c w
    (λ m longer x. x) (λ longer x. x)
counts_lead s head.Attr n h used byte front es is_byte c w = count_leads s head.Attr d.Attr n ((n * 10 + (byte - 48)) * 6 + 5) used byte front es (omega arith)
    c w (λ m longer x. x) (λ longer x. x)
counts_lead s head.Push n h used byte front es is_byte c w = count_leads s head.Push d.Push n ((n * 10 + (byte - 48)) * 3 + 2) used byte front es (omega arith)
    c w (λ m longer x. x) (λ longer x. x)
counts_lead s _ n h used byte front es is_byte c w = absurd h
