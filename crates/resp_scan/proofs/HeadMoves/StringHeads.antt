-- The three heads of counted strings, as one.
use Rattle.std.specs.Prelude.{true, false, cond, eqb, nat_lt, None}
use Rattle.std.proofs.lemmas.Bool.Decides.{nat_tests}
use Rattle.std.proofs.Common.{◌≡◌, ℕ, ◌+◌, ◌*◌, ◌<◌, ◌≤◌, List, ◌∷◌, refl, sym, subst, ◌∙◌, arith}
use Rattle.resp_value.specs.Numbers.{IsDigit}
use Rattle.resp_value.specs.Trees as t
use Rattle.resp_value.specs.Trees.{StringKind, HasFormat}
use Rattle.resp_value.specs.Rules.{Rules, Grammar}
use Rattle.resp_value.specs.declared.cause.Cause.TheVariants as cause
use Rattle.resp_fronts.specs.Events.{Event}
use Rattle.resp_fronts.proofs.FirstLines.CountRows.{CompletesUnder}
use Rattle.resp_fronts.proofs.FirstLines.FirstLineRows.{are_zeros}
use Rattle.resp_fronts.proofs.Tokens.BegunFronts.{IsBegunBy}
use Rattle.resp_fronts.proofs.Tokens.BegunTypeBytes.{dollar_begun, bulk_error_begun, verbatim_begun}
use Rattle.resp_fronts.proofs.Tokens.HeadTokens.{plain_length_begun, verbatim_length_begun, short_length_begun, zero_length_begun}
use Rattle.resp_fronts.proofs.Tokens.StringTokens.{HasRoom, IsStringBegun, short_token_broken}
use Rattle.resp_fronts.specs.Tokens.{zeros}
use Rattle.resp_scan.specs.declared.machine.Head.{Head}
use Rattle.resp_scan.specs.declared.machine.Head.TheVariants as head
use Rattle.resp_scan.specs.Machine.Tokens.{Place}
use Rattle.resp_scan.specs.Machine.Heads.{number_cause, first_needed, head_needed, may_end, greatest_number, streamed_kind}
use Rattle.resp_scan.specs.Machine.Beginnings.{HeadCounts, HeadReturned, LengthBegun, LengthReturned}

-- a head that is one of a counted string of this kind, and what is said of it in the words of strings
pub record IsStringHead (h : Head) (kind : StringKind) : Type 0 where
  pub has_format : HasFormat kind
  pub not_streamed : streamed_kind h ≡ None
  pub most : (s : Place) → greatest_number s h ≡ s.bounds.length
  pub cause : cause.Length ≡ number_cause h
  pub first_row : (r : Rules) (level : ℕ) (bytes : List ℕ) → 4 ≤ r.limits.length → IsStringBegun r kind bytes → IsBegunBy r level bytes (first_needed h)
  pub row : (r : Rules) (n level : ℕ) (bytes : List ℕ) (shown : List Event) → 30 ≤ r.limits.length → LengthBegun r kind n level bytes shown →
      IsBegunBy r level bytes (head_needed h n)
  pub counts : (r : Rules) (n level : ℕ) (bytes : List ℕ) (shown : List Event) → LengthBegun r kind n level bytes shown → HeadCounts r h n level bytes shown
  pub length : (r : Rules) (n level : ℕ) (bytes : List ℕ) (shown : List Event) → HeadCounts r h n level bytes shown → LengthBegun r kind n level bytes shown
  -- where its line may end
  pub ends : (r : Rules) (n level : ℕ) (bytes : List ℕ) (shown : List Event) → may_end h n ≡ true → LengthReturned r kind n level bytes shown →
      HeadReturned r h n level bytes shown
  pub ended : (r : Rules) (n level : ℕ) (bytes : List ℕ) (shown : List Event) → HeadReturned r h n level bytes shown →
      HasRoom kind n × LengthReturned r kind n level bytes shown
  -- and where only a digit goes on
  pub short : (r : Rules) (n level : ℕ) (bytes rest : List ℕ) (shown : List Event) (byte : ℕ) → may_end h n ≡ false → (IsDigit byte → ⊥) →
      LengthBegun r kind n level bytes shown → CompletesUnder r Grammar level bytes (byte ∷ rest) → ⊥

verbatim_row : (r : Rules) (n level : ℕ) (bytes : List ℕ) (shown : List Event) → 30 ≤ r.limits.length →
    LengthBegun r (t.Verbatim (zeros 3)) n level bytes shown → IsBegunBy r level bytes (head_needed head.Verbatim n)
verbatim_row r n level bytes shown roomy w =
    elim (eqb n 0) as (λ z. eqb n 0 ≡ z → IsBegunBy r level bytes (cond z 9 (cond (nat_lt n 4) (n * 10 + 5) (n + 4)))) [
      | true ↦ λ z. let e : n ≡ 0 = grind (arith, nat_tests) in zero_length_begun r w.first w.digits level bytes (omega arith) (w.valued ∙ e) w.token
      | false ↦ λ z.
          let some : 0 < n = grind (arith, nat_tests) in
          elim (nat_lt n 4) as (λ y. nat_lt n 4 ≡ y → IsBegunBy r level bytes (cond y (n * 10 + 5) (n + 4))) [
            | true ↦ λ y. let few : n < 4 = grind (arith, nat_tests) in
                subst (IsBegunBy r level bytes) (omega (arith, w.valued))
                (short_length_begun r w.first w.digits level bytes roomy (omega (arith, w.valued)) (omega (arith, w.valued)) w.token)
            | false ↦ λ y. let enough : 4 ≤ n = grind (arith, nat_tests) in
                subst (IsBegunBy r level bytes) (omega (arith, w.valued))
                (verbatim_length_begun r w.first w.digits level bytes (omega (arith, w.valued)) w.token)
          ] refl
    ] refl

-- `$`
pub bulk : IsStringHead head.Bulk t.Bulk
bulk = record {
  has_format = tt;
  not_streamed = refl;
  most = λ s. refl;
  cause = refl;
  first_row = λ r level bytes roomy w. subst (λ z. IsBegunBy r level z 4) (sym w.1) (dollar_begun r level);
  row = λ r n level bytes shown roomy w. subst (IsBegunBy r level bytes) (omega (arith, w.valued))
      (plain_length_begun r t.Bulk w.first w.digits level bytes tt (λ s. refl) w.token);
  counts = λ r n level bytes shown w. w;
  length = λ r n level bytes shown w. w;
  ends = λ r n level bytes shown e w. w;
  ended = λ r n level bytes shown w. (tt, w);
  short = λ r n level bytes rest shown byte e no_digit w c. absurd (cc);
}

-- `!`
pub bulk_error : IsStringHead head.BulkError t.BulkError
bulk_error = record {
  has_format = tt;
  not_streamed = refl;
  most = λ s. refl;
  cause = refl;
  first_row = λ r level bytes roomy w. subst (λ z. IsBegunBy r level z 5) (sym w.1) (bulk_error_begun r level w.0);
  row = λ r n level bytes shown roomy w. subst (IsBegunBy r level bytes) (omega (arith, w.valued))
      (plain_length_begun r t.BulkError w.first w.digits level bytes tt (λ s. refl) w.token);
  counts = λ r n level bytes shown w. w;
  length = λ r n level bytes shown w. w;
  ends = λ r n level bytes shown e w. w;
  ended = λ r n level bytes shown w. (tt, w);
  short = λ r n level bytes rest shown byte e no_digit w c. absurd (cc);
}

-- `=`
pub verbatim : IsStringHead head.Verbatim (t.Verbatim (zeros 3))
verbatim = record {
  has_format = (refl, are_zeros 3);
  not_streamed = refl;
  most = λ s. refl;
  cause = refl;
  first_row = λ r level bytes roomy w. subst (λ z. IsBegunBy r level z 9) (sym w.1) (verbatim_begun r level w.0 roomy);
  row = λ r n level bytes shown roomy w. verbatim_row r n level bytes shown roomy w;
  counts = λ r n level bytes shown w. w;
  length = λ r n level bytes shown w. w;
  ends = λ r n level bytes shown e w. (grind (arith, nat_tests), w);
  ended = λ r n level bytes shown w. w;
  short = λ r n level bytes rest shown byte e no_digit w c. (let few : n < 4 = grind (arith, nat_tests) in
      short_token_broken r (zeros 3) w.first w.digits level bytes rest byte (omega (arith, w.valued)) no_digit w.token c);
}
