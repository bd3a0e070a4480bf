-- Which texts begin a valid value, from what one scan of them says.
use Rattle.std.proofs.Common.{◌≡◌, ◌↔◌, ◌⊎◌, inl, inr, ◌≤◌, ◌<◌, ℕ, ◌+◌, ◌∷◌, Bool, true, false, List, [], ◌++◌, length, take, drop, Option, Some, None, IfSome, IsSome, Bor, option_map, refl, sym, ap, subst, ◌∙◌, arith, nat_eq, append-nil, append_assoc, length-append}
use Rattle.std.proofs.Math.Bool.{beq}
use Rattle.std.proofs.lemmas.Bool.{cases_order, eq-eqb, eqb-true}
use Rattle.std.proofs.lemmas.List.Elements.{Contains-append_left, Contains-push, Contains-push_cases}
use Rattle.std.specs.List.{Contains}
use Rattle.std.proofs.lemmas.List.{length-take-le, take_all, take-append-drop}
use Rattle.resp_value.specs.Rules.{Rules, WithinTotal}
use Rattle.resp_value.specs.Spellings.{IsViable}
use Rattle.resp_value.specs.Trees.{Spells}
use Rattle.resp_value.proofs.Unique.{same_tree}
use Rattle.resp_value.proofs.ViabilityLaws.{fronts_of_viable_texts_are_viable, viable_under_each}
use Rattle.resp_cli_stream.specs.Explained.{Hints, IsHeld, IsHintOf, IsNextOf, Says, reason_text}
use Rattle.resp_cli_stream.specs.Valid.{AreNext, GoesOn, NamesNext, next_text}
use Rattle.resp_cli_stream.specs.Hints.{IsHint}
use Rattle.resp_cli_stream.specs.declared.hint.Hint.{Hint}
use Rattle.resp_cli_stream.specs.declared.valid.NextBytes.{NextBytes}
use Rattle.resp_cli_args.specs.declared.tool_error.ToolError.{ToolError}
use Rattle.std.proofs.Math.Seq.{drop-append_seam}
use Rattle.resp_scan.specs.Kinds.{rules_of}
use Rattle.resp_scan.specs.Listening.{HearsPiece, HearsRefusal, HearsValue, OnFault, OnStopped, StopsAfter}
use Rattle.resp_scan.specs.Machine.Tokens.{Place}
use Rattle.resp_scan.specs.Reading.{Events}
use Rattle.resp_scan.specs.declared.event.Fault.{Fault}
use Rattle.resp_scan.specs.declared.event.ScanError.{ScanError}
use Rattle.resp_scan.specs.declared.event.ScanError.TheVariants as stop

module _ (r : Rules) (H : Events → Type 0) (s : Place) (text : List ℕ) (used : ℕ) where
  -- a value that the whole text spells
  pub value_is_viable : used ≡ length text → HearsValue r s H (take used text) → IsViable r WithinTotal text
  value_is_viable all w =
      let whole : take used text ≡ text ++ [] = take_all used text (omega (arith, all)) ∙ sym (append-nil text) in
      record { rest = []; tree = w.is_value.tree; spells = subst (Spells w.is_value.tree) whole w.is_value.spells; keeps = w.is_value.keeps }

  -- a text that goes on to a value contains none
  pub viable_is_used : used ≤ length text → HearsValue r s H (take used text) → IsViable r WithinTotal text → used ≡ length text
  viable_is_used within w v =
      let split : take used text ++ (drop used text ++ v.rest) ≡ (text ++ v.rest) ++ [] =
      sym (append_assoc (take used text) (drop used text) v.rest) ∙ ap (λ z. z ++ v.rest) (take-append-drop used text)
      ∙ sym (append-nil (text ++ v.rest)) in
      let same = same_tree w.is_value.tree v.tree (take used text) (text ++ v.rest) (drop used text ++ v.rest) [] w.is_value.spells v.spells split in
      let sizes : length (take used text) ≡ length (text ++ v.rest) = ap (λ z. length z) same.1 in
      omega (arith, within, sizes, length-take-le used text within, length-append text v.rest)

  -- after a scan of the whole text or of a value, the text begins a value if the scan used all of it
  pub viable_if_used : (whole : Bool) → (whole ≡ true → HearsValue r s H (take used text)) → (whole ≡ false → HearsPiece s H text) →
      (whole ≡ false → used ≡ length text) → used ≤ length text → rules_of s ≡ r →
      (nat_eq used (length text) ≡ true → IsViable r WithinTotal text) × (IsViable r WithinTotal text → nat_eq used (length text) ≡ true)
  viable_if_used true value piece all within same = (
    λ e. value_is_viable (eqb-true used (length text) e) (value refl),
    λ v. eq-eqb used (length text) (viable_is_used within (value refl) v),
  )
  viable_if_used false value piece all within same = (
    λ e. subst (λ z. IsViable z WithinTotal text) same (piece refl).viable,
    λ v. eq-eqb used (length text) (all refl),
  )

-- a text with a byte that is refused begins no value
pub refused_is_not_viable : (r : Rules) (H : Events → Type 0) (before piece : List ℕ) (fault : Fault) → HearsRefusal r H before piece fault →
    IsViable r WithinTotal (before ++ piece) → ⊥
refused_is_not_viable r H before piece fault w v =
    let text = before ++ piece in
    let front = take (fault.at + 1) text in
    let whole : IsViable r WithinTotal (front ++ drop (fault.at + 1) text) =
    subst (IsViable r WithinTotal) (sym (take-append-drop (fault.at + 1) text)) v in
    w.refused.refused.cause.not_viable
    (viable_under_each r w.refused.refused.rule front (fronts_of_viable_texts_are_viable r WithinTotal front (drop (fault.at + 1) text) whole))

-- if a listener that never stops did not go on, a byte was refused
pub stop_is_not_viable : (r : Rules) (H : Events → Type 0) (before piece : List ℕ) (e : ScanError) → OnFault e (HearsRefusal r H before piece) →
    OnStopped e (StopsAfter r (λ (es : Events). ⊥) before piece) → IsViable r WithinTotal (before ++ piece) → ⊥
stop_is_not_viable r H before piece (stop.Fault fault) refused stopped v = refused_is_not_viable r H before piece fault refused v
stop_is_not_viable r H before piece (stop.Stopped taken) refused stopped v = stopped.has_stopped

-- the byte is one of those that are looked for, or it is not
pub goes_on_if_same : (r : Rules) (front : List ℕ) (goes_on begins : Bool) (byte : ℕ) →
    ((begins ≡ true) ↔ IsViable r WithinTotal (front ++ byte ∷ [])) → beq begins goes_on ≡ true → GoesOn r front goes_on byte
goes_on_if_same r front true true byte is same = is.0 refl
goes_on_if_same r front true false byte is same = absurd (cc)
goes_on_if_same r front false true byte is same = absurd (cc)
goes_on_if_same r front false false byte is same = λ v. let e = is.1 v in absurd (cc)

pub not_if_other : (r : Rules) (front : List ℕ) (goes_on begins : Bool) (byte : ℕ) →
    ((begins ≡ true) ↔ IsViable r WithinTotal (front ++ byte ∷ [])) → beq begins goes_on ≡ false → GoesOn r front goes_on byte → ⊥
not_if_other r front true true byte is other goes = absurd (cc)
not_if_other r front true false byte is other goes = let e = is.1 goes in absurd (cc)
not_if_other r front false true byte is other goes = goes (is.0 refl)
not_if_other r front false false byte is other goes = absurd (cc)

-- one more byte was looked at
module _ (r : Rules) (front found : List ℕ) (goes_on : Bool) (byte : ℕ) (below : (b : ℕ) → Contains found b → b < byte)
    (exact : (b : ℕ) → b < byte → Contains found b ↔ GoesOn r front goes_on b) where
  pub below_more : (b : ℕ) → Contains (found ++ byte ∷ []) b → b < byte + 1
  below_more b has = cases (Contains-push_cases found byte b has)
    where
      cases : Contains found b ⊎ (byte ≡ b) → b < byte + 1
      cases (inl old) = let less = below b old in omega (arith, less)
      cases (inr is) = omega (arith, is)

  pub exact_more : GoesOn r front goes_on byte → (b : ℕ) → b < byte + 1 → Contains (found ++ byte ∷ []) b ↔ GoesOn r front goes_on b
  exact_more goes b less = (
    λ has. cases (Contains-push_cases found byte b has),
    λ goes'. order (cases_order b byte) goes',
  )
    where
      cases : Contains found b ⊎ (byte ≡ b) → GoesOn r front goes_on b
      cases (inl old) = (exact b (below b old)).0 old
      cases (inr is) = subst (GoesOn r front goes_on) is goes

      order : (b ≡ byte) ⊎ (b < byte) ⊎ (byte < b) → GoesOn r front goes_on b → Contains (found ++ byte ∷ []) b
      order (inl is) g = subst (λ z. Contains (found ++ byte ∷ []) z) (sym is) (Contains-push found byte)
      order (inr (inl below)) g = Contains-append_left found (byte ∷ []) b ((exact b below).1 g)
      order (inr (inr above)) g = absurd (omega (arith, less, above))

  pub exact_less : (GoesOn r front goes_on byte → ⊥) → (b : ℕ) → b < byte + 1 → Contains found b ↔ GoesOn r front goes_on b
  exact_less none b less = (λ has. (exact b (below b has)).0 has, λ g. order (cases_order b byte) g)
    where
      order : (b ≡ byte) ⊎ (b < byte) ⊎ (byte < b) → GoesOn r front goes_on b → Contains found b
      order (inl is) g = absurd (none (subst (GoesOn r front goes_on) is g))
      order (inr (inl below)) g = (exact b below).1 g
      order (inr (inr above)) g = absurd (omega (arith, less, above))

-- what is known of a place, when the front of its value is looked for
module _ (r : Rules) (held : ℕ) (bytes front rest : List ℕ) (at missing : ℕ) (after : List ℕ) (error : ToolError) (whole : bytes ≡ front ++ rest)
    (found : Option (List ℕ)) (is_front : IfSome found (λ text. text ≡ take at (drop (length front) bytes)))
    (is_found : IsHeld held bytes front at → IsSome found) where
  pub says_reason : (next : Option NextBytes) → IsNextOf r error found next → Says r held bytes front rest at missing after error (reason_text r missing after error next)
  says_reason next known = go found refl next known
    where
      go : (o : Option (List ℕ)) → found ≡ o → (next : Option NextBytes) → IsNextOf r error o next →
          Says r held bytes front rest at missing after error (reason_text r missing after error next)
      go None is (Some next) known = absurd known
      go None is None known = record {
        either = inl refl;
        named = λ syntax is_held. let some = is_found is_held in absurd (cc);
      }
      go (Some text) is None known = record { either = inl refl; named = λ syntax is_held. absurd (known syntax) }
      go (Some text) is (Some next) known =
          let at_front = rw is at is_front in
          let of_rest : text ≡ take at rest = at_front ∙ ap (λ z. take at (drop (length front) z)) whole ∙ ap (take at) (drop-append_seam front rest) in
          let names : NamesNext r (take at rest) (next_text next.goes_on next.bytes.items) = record {
            goes_on = next.goes_on;
            bytes = next.bytes.items;
            are_next = subst (λ z. AreNext r z next.goes_on next.bytes.items) of_rest known.1;
            is_text = refl;
          } in
          record { either = inr (known.0, names); named = λ syntax is_held. names }

  pub hints_reason : (hint : Option Hint) → IsHintOf error found after hint → Hints held bytes front rest at after error hint
  hints_reason hint known = go found refl known
    where
      go : (o : Option (List ℕ)) → found ≡ o → IsHintOf error o after hint → Hints held bytes front rest at after error hint
      go None is known = record {
        either = inl known;
        hinted = λ syntax is_held. let some = is_found is_held in absurd (cc);
      }
      go (Some text) is known =
          let at_front = rw is at is_front in
          let of_rest : text ≡ take at rest = at_front ∙ ap (λ z. take at (drop (length front) z)) whole ∙ ap (take at) (drop-append_seam front rest) in
          cases text of_rest known
        where
          cases : (text : List ℕ) → text ≡ take at rest → IsHintOf error (Some text) after hint → Hints held bytes front rest at after error hint
          cases text of_rest (inl (syntax, is_hint)) = record {
            either = inr (syntax, subst (λ z. IsHint z after hint) of_rest is_hint);
            hinted = λ _ is_held. subst (λ z. IsHint z after hint) of_rest is_hint;
          }
          cases text of_rest (inr (other, none)) = record { either = inl none; hinted = λ syntax is_held. absurd (other syntax) }

-- what holds of a reference holds of what it points at
pub of_text : (o : Option (Bor (List ℕ))) (P : List ℕ → Type 0) → IfSome o (λ x. P x.now) → IfSome (option_map (λ x. x.now) o) P
of_text None P h = tt
of_text (Some x) P h = h

pub is_text : (o : Option (Bor (List ℕ))) → IsSome o → IsSome (option_map (λ x. x.now) o)
is_text None h = h
is_text (Some x) h = h
