-- The type byte of a bulk string.
use Rattle.std.specs.Prelude.{Bool, true, false, cond, Some}
use Rattle.std.proofs.Common.{◌≡◌, ℕ, ◌+◌, List, [], ◌∷◌, ◌++◌, refl, sym, ap, subst, ◌∙◌, arith, inl}
use Rattle.resp_value.specs.Rules.{InVersion, NoDouble, NotStreamed, InRange}
use Rattle.resp_value.specs.Trees as t
use Rattle.resp_value.specs.declared.version.Version.{Version}
use Rattle.resp_value.specs.declared.version.Version.TheVariants as version
use Rattle.resp_value.specs.declared.cause.Cause.TheVariants as cause
use Rattle.resp_fronts.specs.Events.{Event}
use Rattle.resp_fronts.proofs.Tokens.BegunFronts.{IsBegunBy}
use Rattle.resp_fronts.proofs.Tokens.StreamedHeads.{streamed_string_begun, streamed_string_in_two, streamed_string_off}
use Rattle.resp_fronts.specs.Tokens.{HasStreamed}
use Rattle.resp_scan.specs.declared.machine.Head.TheVariants as head
use Rattle.resp_scan.specs.Machine.Tokens.{Place, Go, AtBulkHead, AtNullOne, AtStreamCr, at}
use Rattle.resp_scan.specs.Machine.Heads.{cause_in_three, string_cause}
use Rattle.resp_scan.specs.Machine.Room.{over_total}
use Rattle.resp_scan.specs.Machine.Moves.{move_unless}
use Rattle.resp_scan.specs.Kinds.{rules_of}
use Rattle.resp_scan.specs.Machine.Beginnings.{IsNullBegun}
use Rattle.resp_scan.specs.Machine.Standing.{HasCountsOf, Leads, StandsAfter}
use Rattle.resp_scan.proofs.TokenMoves.ByteTests.{by_byte}
use Rattle.resp_scan.proofs.HeadMoves.StringHeadsLead.{string_head_leads}
use Rattle.resp_scan.proofs.HeadMoves.StringHeads.{bulk}
use Rattle.resp_scan.proofs.TokenMoves.Moves.{goes, retold, ALead}
use Rattle.resp_scan.proofs.TokenMoves.RefusedMoves.{fits_or_total, refused, unless_over}

-- `$` alone
abbrev IsDollar : ℕ → List ℕ → List Event → Type 0
IsDollar level bytes shown = (bytes ≡ 36 ∷ []) × (shown ≡ [])

-- `?` begins a streamed string, in version 3 where such are allowed
mark_leads : (s : Place) (used : ℕ) (front : List ℕ) (es : List Event) → HasCountsOf (at s AtBulkHead) used front → StandsAfter (at s AtBulkHead) front es →
    Leads (at s AtBulkHead) front es 63 (move_unless (string_cause (at s AtBulkHead) (used + 1)) (Go (at s AtStreamCr)))
mark_leads s used front es c w = cases s.version s.bounds.streamed refl refl
  where
    cases : (v : Version) (on : Bool) → s.version ≡ v → s.bounds.streamed ≡ on →
        Leads (at s AtBulkHead) front es 63 (move_unless (cause_in_three v (cond on (over_total (at s AtBulkHead) (used + 1) 6) (Some cause.Streamed)))
        (Go (at s AtStreamCr)))
    cases version.Two on e o = refused (rules_of s) IsDollar InVersion NoDouble s.frames front (63 ∷ []) es refl (omega arith) w
        (λ level bytes shown i t. (36, 63 ∷ [], ap (λ z. z ++ 63 ∷ []) t.0, streamed_string_in_two (rules_of s) level e))
    cases version.Three true e o =
        let h : HasStreamed (rules_of s) = (
          λ two. (let x : version.Three ≡ version.Two = sym e ∙ two in absurd (cc)),
          λ off. (let x : true ≡ false = sym o ∙ off in absurd (cc)),
        ) in
        let begun = goes (rules_of s) IsDollar (λ level bytes shown. HasStreamed (rules_of s) × (bytes ≡ 36 ∷ 63 ∷ []) × (shown ≡ [])) s.frames front (63 ∷ [])
        es w (λ level bytes shown i t. (h, ap (λ z. z ++ 63 ∷ []) t.0, t.1)) in
        unless_over (at s AtBulkHead) front es used 63 6 (Go (at s AtStreamCr))
        (fits_or_total (at s AtBulkHead) (λ level bytes shown. HasStreamed (rules_of s) × (bytes ≡ 36 ∷ 63 ∷ []) × (shown ≡ [])) front es es used 63 6
        (Go (at s AtStreamCr)) c begun (λ level bytes shown i t. subst (λ z. IsBegunBy (rules_of s) level z 6) (sym t.1)
        (streamed_string_begun (rules_of s) level t.0)) begun)
    cases version.Three false e o = refused (rules_of s) IsDollar NotStreamed InRange s.frames front (63 ∷ []) es refl (omega arith) w
        (λ level bytes shown i t. (
          36,
          63 ∷ [],
          ap (λ z. z ++ 63 ∷ []) t.0,
          streamed_string_off (rules_of s) level (λ two. (let x : version.Three ≡ version.Two = sym e ∙ two in absurd (cc))) o,
        ))

-- every byte after `$`
pub bulk_head_leads : (s : Place) → ALead (at s AtBulkHead)
bulk_head_leads s used byte front es is_byte c w = by_byte (at s AtBulkHead) front es 45 byte _ _
    (λ is_minus. subst (λ z. StandsAfter (at s AtNullOne) (front ++ z ∷ []) es) (sym is_minus)
    (goes (rules_of s) IsDollar (λ level bytes shown. IsNullBegun bytes × (shown ≡ [])) s.frames front (45 ∷ []) es w
    (λ level bytes shown e t. (inl (ap (λ z. z ++ 45 ∷ []) t.0), t.1))))
    (λ no_minus. by_byte (at s AtBulkHead) front es 63 byte _ _
    (λ is_mark. subst (λ z. Leads (at s AtBulkHead) front es z (move_unless (string_cause (at s AtBulkHead) (used + 1)) (Go (at s AtStreamCr)))) (sym is_mark)
    (mark_leads s used front es c w))
    (λ no_mark. string_head_leads (at s AtBulkHead) head.Bulk t.Bulk bulk used byte front es c
    (retold (rules_of s) _ _ s.frames front es w (λ level bytes shown i. ((tt, i.0), i.1))) (λ other. (no_minus, no_mark, other))))
