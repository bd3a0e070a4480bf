-- The first bytes of a name that is made from words.
use Rattle.std.proofs.Common.{◌≡◌, ℕ, ◌<◌, Bool, true, List, [], ◌∷◌, ◌++◌, length, take, drop, map, refl, ap, zero, suc, sym, ◌∙◌, arith, slice_index_or}
use Rattle.std.proofs.lemmas.List.{append_assoc, take-append-le, take_all}
use Rattle.std.specs.Prelude.{if◌then◌else◌}
use Rattle.resp_stats.specs.Names.{has_subcommands, name_byte, table_name}

-- what does not fit is dropped at once or at the end
pub take-append-take : (n : ℕ) (a b : List ℕ) → take n (take n a ++ b) ≡ take n (a ++ b)
take-append-take zero a b = refl
take-append-take (suc n) [] b = refl
take-append-take (suc n) (x ∷ a) b = ap (λ (l : List ℕ). x ∷ l) (take-append-take n a b)

-- nothing more fits
pub full_take : (xs ys : List ℕ) → length xs ≡ 20 → xs ≡ take 20 (xs ++ ys)
full_take xs ys full = sym (take-append-le 20 xs ys (omega (arith, full)) ∙ take_all 20 xs (omega (arith, full)))

-- the bytes of a word up to an index, and the others
map_split : (i : ℕ) (word : List ℕ) → map name_byte word ≡ map name_byte (take i word) ++ map name_byte (drop i word)
map_split zero word = refl
map_split (suc i) [] = refl
map_split (suc i) (x ∷ word) = ap (λ (l : List ℕ). name_byte x ∷ l) (map_split i word)

pub full_at : (old word text : List ℕ) (i : ℕ) → text ≡ old ++ map name_byte (take i word) → length text ≡ 20 →
    text ≡ take 20 (old ++ map name_byte word)
full_at old word text i is full =
    full_take text (map name_byte (drop i word)) full ∙
    ap (λ (l : List ℕ). take 20 l) (ap (λ (l : List ℕ). l ++ map name_byte (drop i word)) is ∙ append_assoc old (map name_byte (take i word)) (map name_byte (drop i word)) ∙
    ap (λ (l : List ℕ). old ++ l) (sym (map_split i word)))

-- the name of a command and its subcommand, each as far as there is room
pub two_words : (a b : List ℕ) → take 20 (take 20 (take 20 a ++ 32 ∷ []) ++ b) ≡ take 20 (a ++ 32 ∷ b)
two_words a b = take-append-take 20 (take 20 a ++ 32 ∷ []) b ∙
    ap (λ (l : List ℕ). take 20 l) (append_assoc (take 20 a) (32 ∷ []) b) ∙ take-append-take 20 a (32 ∷ b)

pub named_by_two : (words : List (List ℕ)) → 1 < length words → has_subcommands (slice_index_or words 0 []) ≡ true →
    table_name words ≡ take 20 (map name_byte (slice_index_or words 0 []) ++ 32 ∷ map name_byte (slice_index_or words 1 []))
named_by_two [] some has = absurd (omega (arith, some))
named_by_two (a ∷ []) some has = absurd (omega (arith, some))
named_by_two (a ∷ (b ∷ words)) some has =
    ap (λ (c : Bool). take 20 (map name_byte a ++ (if c then 32 ∷ map name_byte b else []))) has
