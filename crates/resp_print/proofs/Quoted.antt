-- Quoted text.
use Rattle.std.proofs.Common.{◌≡◌, ℕ, ◌+◌, ◌≤◌, true, List, [], ◌∷◌, ◌++◌, length, take, drop, refl, sym, ap, ◌∙◌}
use Rattle.std.proofs.lemmas.Grind.{flat_map-append}
use Rattle.std.proofs.lemmas.List.{length-take-le, take-append-le}
use Rattle.std.proofs.Math.Seq.{take-add, take-append-add}
use Rattle.resp_print.specs.Shown.{is_plain, quoted_byte, quoted_text}

-- what is quoted is quoted part by part
pub quoted-append : (text next : List ℕ) → quoted_text (text ++ next) ≡ quoted_text text ++ quoted_text next
quoted-append text next = flat_map-append quoted_byte text next

-- one byte, as it stands inside quotes
pub quoted-plain : (byte : ℕ) → is_plain byte ≡ true → quoted_text (byte ∷ []) ≡ byte ∷ []
quoted-plain byte h = rw h refl

-- plain bytes more
pub quoted-front : (text : List ℕ) (n m : ℕ) → quoted_text (take n text) ≡ take n text → quoted_text (take m (drop n text)) ≡ take m (drop n text) →
    quoted_text (take (n + m) text) ≡ take (n + m) text
quoted-front text n m front more =
    let parts : take (n + m) text ≡ take n text ++ take m (drop n text) = take-add n m text in
    ap quoted_text parts ∙ quoted-append (take n text) (take m (drop n text)) ∙ ap (λ xs. xs ++ quoted_text (take m (drop n text))) front ∙
    ap (λ xs. take n text ++ xs) more ∙ sym parts

-- a front that is quoted so, and what lies after it
pub quoted-split : (text front part beyond shown : List ℕ) → text ≡ front ++ (part ++ beyond) → quoted_text part ≡ shown →
    quoted_text text ≡ quoted_text front ++ (shown ++ quoted_text beyond)
quoted-split text front part beyond shown e is_shown =
    ap quoted_text e ∙ quoted-append front (part ++ beyond) ∙ ap (λ more. quoted_text front ++ more) (quoted-append part beyond ∙
    ap (λ more. more ++ quoted_text beyond) is_shown)

-- two lists after a front, up to a place in the first of them
pub take-put : (a n : ℕ) (xs ys zs : List ℕ) → a ≤ length xs → n ≤ length ys → take (a + n) (take a xs ++ (ys ++ zs)) ≡ take a xs ++ take n ys
take-put a n xs ys zs within inside =
    ap (λ m. take (m + n) (take a xs ++ (ys ++ zs))) (sym (length-take-le a xs within)) ∙ take-append-add (take a xs) (ys ++ zs) n ∙
    ap (λ ws. take a xs ++ ws) (take-append-le n ys zs inside)
