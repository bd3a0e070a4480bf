-- A text is lines by its bytes just if it is one line after another.
use Rattle.std.proofs.Common.{refl, sym, ap, subst, ◌∙◌}
use Rattle.std.proofs.lemmas.Bool.{eqb-true, false_from_ne_true}
use Rattle.std.proofs.lemmas.List.{append_assoc}
use Rattle.std.specs.Prelude.{◌≡◌, ℕ, Bool, true, false, List, [], ◌∷◌, ◌++◌, cond, nat_le, ◌==◌, ◌&&◌, ◌⊎◌}
use Rattle.std.specs.List.{AllByRecursion, concat}
use mathlib.Core.Logic.{inl, inr}
use Rattle.resp_cli_ask.specs.Lined.{is_end, begins_with_end, is_in_line, lines_after, is_plain, IsLine, AreLines, TellsLines}

-- ---- a text of lines is one line after another

both : (b c : Bool) → cond b c false ≡ true → (b ≡ true) × (c ≡ true)
both true c h = (refl, h)
both false c h = absurd (cc)

kinds : (p t e r b : Bool) → cond p true (cond t true (cond e true (cond r b false))) ≡ true →
    (cond p true t ≡ true) ⊎ ((e ≡ true) ⊎ ((r ≡ true) × (b ≡ true)))
kinds true t e r b h = inl refl
kinds false true e r b h = inl refl
kinds false false true r b h = inr (inl refl)
kinds false false false true b h = inr (inr (refl, h))
kinds false false false false b h = absurd (cc)

kind_of : (x : ℕ) (xs : List ℕ) → is_in_line x xs ≡ true →
    (is_plain x ≡ true) ⊎ (((x == 10) ≡ true) ⊎ (((x == 13) ≡ true) × (begins_with_end xs ≡ true)))
kind_of x xs = kinds (nat_le 32 x && nat_le x 126) (x == 9) (x == 10) (x == 13) (begins_with_end xs)

-- LF is no plain character
not_end : (x : ℕ) → is_plain x ≡ true → is_end x ≡ false
not_end x plain = false_from_ne_true (is_end x) (λ end.
    let is : x ≡ 10 = eqb-true x 10 end in
    let wrong : false ≡ true = subst (λ k. is_plain k ≡ true) is plain in cc)

longer : (x : ℕ) (bytes content : List ℕ) → (bytes ≡ content ++ (10 ∷ [])) ⊎ (bytes ≡ content ++ (13 ∷ 10 ∷ [])) →
    (x ∷ bytes ≡ (x ∷ content) ++ (10 ∷ [])) ⊎ (x ∷ bytes ≡ (x ∷ content) ++ (13 ∷ 10 ∷ []))
longer x bytes content (inl h) = inl (ap (λ z. x ∷ z) h)
longer x bytes content (inr h) = inr (ap (λ z. x ∷ z) h)

plain_before : (x : ℕ) (xs : List ℕ) → is_plain x ≡ true → AreLines xs → AreLines (x ∷ xs)
plain_before x xs plain lines = record {
  first = x ∷ lines.first;
  others = lines.others;
  one = record {
    content = x ∷ lines.one.content;
    plain = (plain, lines.one.plain);
    ended = longer x lines.first lines.one.content lines.one.ended;
  };
  each = lines.each;
  whole = ap (λ z. x ∷ z) lines.whole;
}

empty_line : IsLine (10 ∷ [])
empty_line = record { content = []; plain = tt; ended = inl refl }

end_before : (xs : List ℕ) → (lines_after false xs ≡ true → AreLines xs) → lines_after true xs ≡ true → AreLines (10 ∷ xs)
end_before [] told h = record { first = 10 ∷ []; others = []; one = empty_line; each = tt; whole = refl }
end_before (y ∷ ys) told h = let lines = told h in record {
  first = 10 ∷ [];
  others = lines.first ∷ lines.others;
  one = empty_line;
  each = (lines.one, lines.each);
  whole = ap (λ z. 10 ∷ z) lines.whole;
}

-- CR before a line that begins with LF
cr_line : (content first rest : List ℕ) → AllByRecursion (λ byte. is_plain byte ≡ true) content →
    (first ≡ content ++ (10 ∷ [])) ⊎ (first ≡ content ++ (13 ∷ 10 ∷ [])) → begins_with_end (first ++ rest) ≡ true →
    IsLine (13 ∷ first)
cr_line [] first rest plain (inl h) begins = record { content = []; plain = tt; ended = inr (ap (λ z. 13 ∷ z) h) }
cr_line [] first rest plain (inr h) begins =
    let wrong : false ≡ true = subst (λ z. begins_with_end (z ++ rest) ≡ true) h begins in absurd (cc)
cr_line (c ∷ cs) first rest plain (inl h) begins =
    let end : (c == 10) ≡ true = subst (λ z. begins_with_end (z ++ rest) ≡ true) h begins in
    let wrong : is_end c ≡ false = not_end c plain.0 in absurd (cc)
cr_line (c ∷ cs) first rest plain (inr h) begins =
    let end : (c == 10) ≡ true = subst (λ z. begins_with_end (z ++ rest) ≡ true) h begins in
    let wrong : is_end c ≡ false = not_end c plain.0 in absurd (cc)

cr_before : (xs : List ℕ) → begins_with_end xs ≡ true → AreLines xs → AreLines (13 ∷ xs)
cr_before xs begins lines = record {
  first = 13 ∷ lines.first;
  others = lines.others;
  one = cr_line lines.one.content lines.first (concat lines.others) lines.one.plain lines.one.ended
      (subst (λ z. begins_with_end z ≡ true) lines.whole begins);
  each = lines.each;
  whole = ap (λ z. 13 ∷ z) lines.whole;
}

before : (x : ℕ) (xs : List ℕ) → (lines_after false xs ≡ true → AreLines xs) →
    (is_plain x ≡ true) ⊎ (((x == 10) ≡ true) ⊎ (((x == 13) ≡ true) × (begins_with_end xs ≡ true))) →
    lines_after (is_end x) xs ≡ true → AreLines (x ∷ xs)
before x xs told (inl plain) h =
    plain_before x xs plain (told (subst (λ e. lines_after e xs ≡ true) (not_end x plain) h))
before x xs told (inr (inl end)) h =
    let is = eqb-true x 10 end in
    subst (λ k. AreLines (k ∷ xs)) (sym is) (end_before xs told (subst (λ k. lines_after (is_end k) xs ≡ true) is h))
before x xs told (inr (inr cr)) h =
    let is = eqb-true x 13 cr.0 in
    subst (λ k. AreLines (k ∷ xs)) (sym is)
    (cr_before xs cr.1 (told (subst (λ k. lines_after (is_end k) xs ≡ true) is h)))

lines_in : (bytes : List ℕ) → lines_after false bytes ≡ true → AreLines bytes
lines_in [] h = absurd (cc)
lines_in (x ∷ xs) h =
    let parts = both (is_in_line x xs) (lines_after (is_end x) xs) h in
    before x xs (lines_in xs) (kind_of x xs parts.0) parts.1

-- ---- one line after another is a text of lines

plain_kinds : (p t q : Bool) → cond p true t ≡ true → cond p true (cond t true q) ≡ true
plain_kinds true t q h = refl
plain_kinds false true q h = refl
plain_kinds false false q h = absurd (cc)

all_true : (b c : Bool) → b ≡ true → c ≡ true → cond b c false ≡ true
all_true true c h k = k
all_true false c h k = h

plain_step : (x : ℕ) (xs : List ℕ) → is_plain x ≡ true → lines_after false xs ≡ true → lines_after false (x ∷ xs) ≡ true
plain_step x xs plain h =
    all_true (is_in_line x xs) (lines_after (is_end x) xs) (plain_kinds (nat_le 32 x && nat_le x 126) (x == 9) _ plain)
    (subst (λ e. lines_after e xs ≡ true) (sym (not_end x plain)) h)

ends_with_lf : (content rest : List ℕ) → AllByRecursion (λ byte. is_plain byte ≡ true) content →
    lines_after true rest ≡ true → lines_after false (content ++ (10 ∷ rest)) ≡ true
ends_with_lf [] rest plain h = h
ends_with_lf (c ∷ cs) rest plain h = plain_step c (cs ++ (10 ∷ rest)) plain.0 (ends_with_lf cs rest plain.1 h)

ends_with_cr_lf : (content rest : List ℕ) → AllByRecursion (λ byte. is_plain byte ≡ true) content →
    lines_after true rest ≡ true → lines_after false (content ++ (13 ∷ 10 ∷ rest)) ≡ true
ends_with_cr_lf [] rest plain h = h
ends_with_cr_lf (c ∷ cs) rest plain h =
    plain_step c (cs ++ (13 ∷ 10 ∷ rest)) plain.0 (ends_with_cr_lf cs rest plain.1 h)

line_by : (content first rest : List ℕ) → AllByRecursion (λ byte. is_plain byte ≡ true) content →
    (first ≡ content ++ (10 ∷ [])) ⊎ (first ≡ content ++ (13 ∷ 10 ∷ [])) → lines_after true rest ≡ true →
    lines_after false (first ++ rest) ≡ true
line_by content first rest plain (inl e) h =
    subst (λ z. lines_after false z ≡ true) (sym (ap (λ z. z ++ rest) e ∙ append_assoc content (10 ∷ []) rest))
    (ends_with_lf content rest plain h)
line_by content first rest plain (inr e) h =
    subst (λ z. lines_after false z ≡ true) (sym (ap (λ z. z ++ rest) e ∙ append_assoc content (13 ∷ 10 ∷ []) rest))
    (ends_with_cr_lf content rest plain h)

line_then : (first rest : List ℕ) → IsLine first → lines_after true rest ≡ true → lines_after false (first ++ rest) ≡ true
line_then first rest line = line_by line.content first rest line.plain line.ended

after_line : (bytes : List ℕ) → lines_after false bytes ≡ true → lines_after true bytes ≡ true
after_line [] h = refl
after_line (x ∷ xs) h = h

many : (others : List (List ℕ)) → AllByRecursion IsLine others → lines_after true (concat others) ≡ true
many [] each = refl
many (first ∷ others) each =
    after_line (first ++ concat others) (line_then first (concat others) each.0 (many others each.1))

of_lines : (bytes : List ℕ) → AreLines bytes → lines_after false bytes ≡ true
of_lines bytes lines = subst (λ z. lines_after false z ≡ true) (sym lines.whole)
    (line_then lines.first (concat lines.others) lines.one (many lines.others lines.each))

pub told : TellsLines
told bytes = (lines_in bytes, of_lines bytes)
