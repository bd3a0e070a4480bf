-- Digits of the number of a head.
use Rattle.std.specs.Prelude.{nat_lt}
use Rattle.std.proofs.lemmas.Bool.Decides.{nat_tests}
use Rattle.std.proofs.Common.{◌≡◌, ℕ, ◌+◌, ◌<◌, ◌≤◌, List, [], ◌∷◌, ◌++◌, length, arith}
use Rattle.resp_fronts.specs.Events.{Event}
use Rattle.resp_fronts.proofs.Tokens.BegunFronts.{IsBegunBy}
use Rattle.resp_scan.specs.declared.machine.Head.{Head}
use Rattle.resp_scan.specs.Machine.Tokens.{Place, Go, InHead, at}
use Rattle.resp_scan.specs.Machine.Room.{over_total}
use Rattle.resp_scan.specs.Machine.Heads.{number_cause, head_needed, greatest_number}
use Rattle.resp_scan.specs.Machine.Moves.{head_digit}
use Rattle.resp_scan.specs.Kinds.{IsRefusedFor, rules_of}
use Rattle.resp_scan.specs.Machine.Beginnings.{HeadCounts}
use Rattle.resp_scan.specs.Machine.Standing.{HasCountsOf, IsInside, Leads}
use Rattle.resp_scan.proofs.TokenMoves.ByteTests.{unless_test}
use Rattle.resp_scan.proofs.TokenMoves.RefusedMoves.{fits_or_total, unless_over}

-- a digit of a head's number, where its limit and total allow
pub head_digit_leads : (s : Place) (h : Head) (n used byte : ℕ) (front : List ℕ) (es : List Event) → HasCountsOf s used front →
    (greatest_number s h < n → IsRefusedFor (rules_of s) (front ++ byte ∷ []) (number_cause h)) →
    (n ≤ greatest_number s h → IsInside (rules_of s) (HeadCounts (rules_of s) h n) s.frames (front ++ byte ∷ []) es) →
    ((level : ℕ) (bytes : List ℕ) (shown : List Event) → level ≡ length s.frames → HeadCounts (rules_of s) h n level bytes shown →
    IsBegunBy (rules_of s) level bytes (head_needed h n)) → Leads s front es byte (head_digit s (used + 1) h n)
head_digit_leads s h n used byte front es c past within row =
    unless_test s front es byte (nat_lt (greatest_number s h) n) (number_cause h) (over_total s (used + 1) (head_needed h n)) (Go (at s (InHead h n)))
    (λ z. past (grind (arith, nat_tests)))
    (λ z.
    let begun = within (grind (arith, nat_tests)) in
    unless_over s front es used byte (head_needed h n) (Go (at s (InHead h n)))
    (fits_or_total s (HeadCounts (rules_of s) h n) front es es used byte (head_needed h n) (Go (at s (InHead h n))) c begun row begun))
