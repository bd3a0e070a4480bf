-- Pieces, one after another.
use Rattle.std.specs.List.{concat}
use Rattle.std.proofs.Common.{◌≡◌, inl, inr, ℕ, ◌+◌, ◌-◌, ◌<◌, ◌≤◌, Bool, false, List, [], ◌∷◌, ◌++◌, length, take, drop, Option, refl, sym, ap, subst, ◌∙◌, append_assoc, arith}
use Rattle.std.proofs.lemmas.Bool.{cases_lt}
use Rattle.std.proofs.lemmas.List.{append-nil, drop-take, length-append, take-append-drop, take-append-le, take_all}
use Rattle.std.proofs.lemmas.List.Folds.{concat-append}
use Rattle.resp_io.specs.Pieces.{GivesPiece, GivesPieces, ReadsPieces}
use Rattle.resp_io.specs.Turns.{WereRead}
use Rattle.resp_io.proofs.Turning.{has_read_more, reads_none}

-- nothing was read
pub no_pieces : {R : Type 0} → (most : ℕ) (remaining : R → Option (List ℕ)) (calls failures : R → ℕ) (r : R) →
    ReadsPieces most remaining calls failures r r [] false
no_pieces most remaining calls failures r = record { between = r; given = refl; over = refl }

-- no read was made after these pieces
pub only_pieces : {R : Type 0} → (most : ℕ) (remaining : R → Option (List ℕ)) (calls failures : R → ℕ) (a b : R) (pieces : List (List ℕ)) (is_over : Bool) →
    GivesPieces most remaining calls failures a b pieces → is_over ≡ false → ReadsPieces most remaining calls failures a b pieces is_over
only_pieces most remaining calls failures a b pieces is_over given none =
    subst (ReadsPieces most remaining calls failures a b pieces) (sym none) (record { between = b; given = given; over = refl })

-- a piece more
pub given_more : {R : Type 0} → (most : ℕ) (remaining : R → Option (List ℕ)) (calls failures : R → ℕ) (a b c : R) (pieces : List (List ℕ)) (piece : List ℕ) →
    GivesPieces most remaining calls failures a b pieces → GivesPiece most remaining calls failures b c piece →
    GivesPieces most remaining calls failures a c (pieces ++ piece ∷ [])
given_more most remaining calls failures a b c [] piece same gives =
    (c, subst (λ r. GivesPiece most remaining calls failures r c piece) same gives, refl)
given_more most remaining calls failures a b c (first ∷ pieces) piece (between, gives_first, given) gives =
    (between, gives_first, given_more most remaining calls failures between b c pieces piece given gives)

-- a piece more, which was read into room for fewer bytes
pub gives : {R : Type 0} → (most room : ℕ) (remaining : R → Option (List ℕ)) (calls failures : R → ℕ) (a b c : R) (pieces : List (List ℕ)) (piece : List ℕ) →
    room ≤ most → GivesPieces most remaining calls failures a b pieces → GivesPiece room remaining calls failures b c piece →
    GivesPieces most remaining calls failures a c (pieces ++ piece ∷ [])
gives most room remaining calls failures a b c pieces piece within given first =
    let short = first.short in
    given_more most remaining calls failures a b c pieces piece given (record {
      some = first.some;
      short = omega (arith, within, short);
      read = first.read;
      once = first.once;
      none_failed = first.none_failed;
    })

-- what was read are the pieces, joined
pub all_read : {R : Type 0} → (most : ℕ) (remaining : R → Option (List ℕ)) (calls failures : R → ℕ) (a b : R) (pieces : List (List ℕ)) →
    GivesPieces most remaining calls failures a b pieces → WereRead (remaining a) (remaining b) (concat pieces)
all_read most remaining calls failures a b [] same = subst (λ r. WereRead (remaining a) (remaining r) []) (sym same) (reads_none (remaining a))
all_read most remaining calls failures a b (piece ∷ pieces) (between, gives, given) =
    has_read_more (remaining a) (remaining between) (remaining b) piece (concat pieces) gives.read
    (all_read most remaining calls failures between b pieces given)

pub concat_more : (pieces : List (List ℕ)) (piece : List ℕ) → concat (pieces ++ piece ∷ []) ≡ concat pieces ++ piece
concat_more pieces piece = concat-append pieces (piece ∷ []) ∙ ap (λ z. concat pieces ++ z) (append-nil piece)

-- what holds of the pieces before each, and of all, holds of the pieces before each where there is one more
pub before_more : (P : List (List ℕ) → Type 0) → (pieces : List (List ℕ)) (piece : List ℕ) → ((k : ℕ) → k < length pieces → P (take k pieces)) →
    P pieces → (k : ℕ) → k < length (pieces ++ piece ∷ []) → P (take k (pieces ++ piece ∷ []))
before_more P pieces piece each all k less = elim (cases_lt k (length pieces)) as (λ _. P (take k (pieces ++ piece ∷ []))) [
  | inl below ↦ subst P (sym (take-append-le k pieces (piece ∷ []) (omega (arith, below)))) (each k below)
  | inr most ↦ subst P
      (sym (take-append-le k pieces (piece ∷ []) (omega (arith, less, length-append pieces (piece ∷ []))) ∙ take_all k pieces (omega (arith, most)))) all
]

-- The rest of a piece, of which the first bytes were used.

pub none_left : (count used : ℕ) (bytes : List ℕ) → used ≡ count → take (count - used) (drop used bytes) ≡ []
none_left count used bytes all = let none : count - used ≡ 0 = omega (arith, all) in ap (λ n. take n (drop used bytes)) none

pub rest_of : (pieces : List (List ℕ)) (bytes : List ℕ) (count used : ℕ) → used ≤ count →
    concat (pieces ++ take count bytes ∷ []) ≡ (concat pieces ++ take used (take count bytes)) ++ take (count - used) (drop used bytes)
rest_of pieces bytes count used within =
    let piece = take count bytes in
    let whole : used + (count - used) ≡ count = omega (arith, within) in
    let rest : drop used piece ≡ take (count - used) (drop used bytes) =
    ap (λ n. drop used (take n bytes)) (sym whole) ∙ drop-take used (count - used) bytes in
    concat_more pieces piece ∙ ap (λ l. concat pieces ++ l) (sym (take-append-drop used piece) ∙ ap (λ l. take used piece ++ l) rest) ∙
    sym (append_assoc (concat pieces) (take used piece) (take (count - used) (drop used bytes)))

-- where bytes are left, not all of the piece was used
pub some_left : (count used : ℕ) (bytes : List ℕ) → (take (count - used) (drop used bytes) ≡ [] → ⊥) → used < count
some_left count used bytes some = elim (cases_lt used count) [
  | inl less ↦ less
  | inr all ↦ absurd (some (let none : count - used ≡ 0 = omega (arith, all) in ap (λ n. take n (drop used bytes)) none))
]
