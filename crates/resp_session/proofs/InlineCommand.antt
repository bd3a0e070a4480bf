-- A command as a bare line of words.
use Rattle.std.proofs.Common.{◌≡◌, inl, inr, ℕ, List, [], ◌∷◌, ◌++◌, codes, refl, ap, subst, ◌∙◌, eqb, false}
use Rattle.resp_value.specs.Bounds.{AreBounds}
use Rattle.resp_value.specs.Data.{Datum}
use Rattle.resp_value.specs.Rules.{Rules, Grammar, WithinTotal}
use Rattle.resp_value.specs.Spellings.{IsSpelling, IsViable, IsCause}
use Rattle.resp_value.specs.Laws.{NoSpellingIsEmpty, FrontsOfSpellingsAreViable, TheEmptyTextIsViable, NoOtherByteBeginsATree}
use Rattle.resp_session.specs.Answers.{server_rules}
use Rattle.resp_session.specs.Examples.{AnInlineCommandIsRefused, new_session, refused_at_once}
use Rattle.resp_session.proofs.AddedAnswers.{no_value_answered}

-- `P` is another byte than this one
other : (byte : ℕ) → eqb 80 byte ≡ false → 80 ≡ byte → ⊥
other byte h e = let f : eqb 80 80 ≡ false = ap (eqb 80) e ∙ h in absurd (cc)

no_value_begins : NoSpellingIsEmpty → FrontsOfSpellingsAreViable → (r : Rules) → IsCause r (80 ∷ []) Grammar → (x : Datum) (front beyond : List ℕ) →
    IsSpelling r x front →
    codes "PING\r\n" ≡ front ++ beyond → ⊥
no_value_begins full viable r cause x [] beyond s e = full r x s
no_value_begins full viable r cause x (byte ∷ front) beyond s e =
    let f : byte ≡ 80 = cc in
    cause.not_viable (viable r x (80 ∷ []) front (subst (λ b. IsSpelling r x (b ∷ front)) f s) Grammar)

nothing_before : TheEmptyTextIsViable → (r : Rules) → AreBounds r.limits → (before : List ℕ) (byte : ℕ) (after : List ℕ) → 80 ∷ [] ≡ before ++ byte ∷ after →
    IsViable r WithinTotal before
nothing_before empty r bounds [] byte after e = empty r bounds WithinTotal
nothing_before empty r bounds (first ∷ []) byte after e = absurd (cc)
nothing_before empty r bounds (first ∷ second ∷ before) byte after e = absurd (cc)

pub an_inline_command_is_refused : NoSpellingIsEmpty → FrontsOfSpellingsAreViable → TheEmptyTextIsViable → NoOtherByteBeginsATree → AnInlineCommandIsRefused
an_inline_command_is_refused full viable empty no_other limits bounds =
    let r = server_rules limits in
    let cause : IsCause r (80 ∷ []) Grammar = no_other r 80 (
      other _ refl,
      (
        other _ refl,
        (
          other _ refl,
          (
            other _ refl,
            (
              other _ refl,
              (
                other _ refl,
                (
                  other _ refl,
                  (
                    other _ refl,
                    (
                      other _ refl,
                      (other _ refl, (other _ refl, (other _ refl, (other _ refl, (other _ refl, (other _ refl, tt)))))),
                    ),
                  ),
                ),
              ),
            ),
          ),
        ),
      ),
    ) in
    no_value_answered limits 1 new_session refused_at_once (codes "PING\r\n") (inr (inl (record {
      is_open = refl;
      no_more = no_value_begins full viable r cause;
      rule = Grammar;
      at = 0;
      fault = record {
        front = 80 ∷ [];
        beyond = codes "ING\r\n";
        whole = refl;
        place = refl;
        cause = cause;
        first = nothing_before empty r bounds;
      };
      line = refl;
    })))
