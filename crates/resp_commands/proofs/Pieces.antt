-- Lemmas on the pieces of a glob.
use Rattle.std.proofs.Common.{◌≡◌, ◌∙◌, ℕ, zero, suc, ◌+◌, ◌-◌, ◌<◌, ◌≤◌, List, [], ◌∷◌, length, drop, Bool, true, false, refl, ap, sym, arith}
use Rattle.std.specs.Prelude.{◌==◌, ◌&&◌, ◌||◌, nat_lt, slice_index, if◌then◌else◌}
use Rattle.std.proofs.lemmas.List.{drop-drop}
use Rattle.resp_commands.specs.Globs.{class_length_after, class_of, is_in_any, is_negated, is_within, member_at, member_length, members_after, piece_at, piece_length, pieces_after, pieces_of}

-- after more than no bytes
drop_one : (n : ℕ) (byte : ℕ) (rest : List ℕ) → 0 < n → drop n (byte ∷ rest) ≡ drop (n - 1) rest
drop_one zero byte rest h = absurd (omega arith)
drop_one (suc n) byte rest h = ap (λ k. drop k rest) (omega arith)

choice_positive : (a b : Bool) → 0 < (if a then 2 else if b then 3 else 1)
choice_positive true b = omega arith
choice_positive false true = omega arith
choice_positive false false = omega arith

pub member_positive : (text : List ℕ) → 0 < member_length text
member_positive text =
    choice_positive (slice_index text 0 == 92 && nat_lt 1 (length text)) (slice_index text 1 == 45 && nat_lt 2 (length text))

choice_more : (a b c : Bool) (n : ℕ) → 0 < (if a then (if b then 2 else 1) + n else if c then 2 else 1)
choice_more true true c n = omega arith
choice_more true false c n = omega arith
choice_more false b true n = omega arith
choice_more false b false n = omega arith

pub piece_positive : (glob : List ℕ) → 0 < piece_length glob
piece_positive glob =
    choice_more (slice_index glob 0 == 91) (is_negated glob) (slice_index glob 0 == 92 && nat_lt 1 (length glob))
    (class_length_after 0 (class_of glob))

-- ---- members

members_skip : (n : ℕ) (text : List ℕ) → members_after n text ≡ members_after 0 (drop n text)
unfolding members_after
members_skip zero text = refl
members_skip (suc n) [] = refl
members_skip (suc n) (byte ∷ rest) = members_skip n rest

class_skip : (n : ℕ) (text : List ℕ) → n ≤ length text → class_length_after n text ≡ n + class_length_after 0 (drop n text)
unfolding class_length_after
class_skip zero text h = omega arith
class_skip (suc n) [] h = absurd (omega arith)
class_skip (suc n) (byte ∷ rest) h =
    let less : n ≤ length rest = omega arith in
    let e = class_skip n rest less in omega arith

-- the first member of a class that does not end
pub members_front : (text : List ℕ) → 0 < length text → (slice_index text 0 == 93) ≡ false →
    members_after 0 text ≡ member_at text ∷ members_after 0 (drop (member_length text) text)
unfolding members_after
members_front [] h e = absurd (omega arith)
members_front (byte ∷ rest) h e =
    ap (λ b. if b then [] else member_at (byte ∷ rest) ∷ members_after (member_length (byte ∷ rest) - 1) rest) e ∙
    ap (λ ms. member_at (byte ∷ rest) ∷ ms) (members_skip (member_length (byte ∷ rest) - 1) rest ∙
    ap (λ t. members_after 0 t) (sym (drop_one (member_length (byte ∷ rest)) byte rest (member_positive (byte ∷ rest)))))

pub members_end : (text : List ℕ) → 0 < length text → (slice_index text 0 == 93) ≡ true → members_after 0 text ≡ []
unfolding members_after
members_end [] h e = absurd (omega arith)
members_end (byte ∷ rest) h e =
    ap (λ b. if b then [] else member_at (byte ∷ rest) ∷ members_after (member_length (byte ∷ rest) - 1) rest) e

pub members_none : (text : List ℕ) → length text ≡ 0 → members_after 0 text ≡ []
unfolding members_after
members_none [] h = refl
members_none (byte ∷ rest) h = absurd (omega arith)

pub class_front : (text : List ℕ) → 0 < length text → (slice_index text 0 == 93) ≡ false → member_length text ≤ length text →
    class_length_after 0 text ≡ member_length text + class_length_after 0 (drop (member_length text) text)
unfolding class_length_after
class_front [] h e w = absurd (omega arith)
class_front (byte ∷ rest) h e w =
    let positive = member_positive (byte ∷ rest) in
    let within : member_length (byte ∷ rest) - 1 ≤ length rest = omega arith in
    let skip = class_skip (member_length (byte ∷ rest) - 1) rest within in
    let same = ap (λ t. class_length_after 0 t) (drop_one (member_length (byte ∷ rest)) byte rest positive) in
    ap (λ b. if b then 1 else class_length_after (member_length (byte ∷ rest) - 1) rest + 1) e ∙ omega arith

pub class_end : (text : List ℕ) → 0 < length text → (slice_index text 0 == 93) ≡ true → class_length_after 0 text ≡ 1
unfolding class_length_after
class_end [] h e = absurd (omega arith)
class_end (byte ∷ rest) h e = ap (λ b. if b then 1 else class_length_after (member_length (byte ∷ rest) - 1) rest + 1) e

-- ---- pieces

pieces_skip : (n : ℕ) (glob : List ℕ) → pieces_after n glob ≡ pieces_after 0 (drop n glob)
unfolding pieces_after
pieces_skip zero glob = refl
pieces_skip (suc n) [] = refl
pieces_skip (suc n) (byte ∷ rest) = pieces_skip n rest

pub pieces_front : (glob : List ℕ) → 0 < length glob → pieces_of glob ≡ piece_at glob ∷ pieces_of (drop (piece_length glob) glob)
unfolding pieces_after
pieces_front [] h = absurd (omega arith)
pieces_front (byte ∷ rest) h =
    ap (λ ps. piece_at (byte ∷ rest) ∷ ps) (pieces_skip (piece_length (byte ∷ rest) - 1) rest ∙
    ap (λ t. pieces_of t) (sym (drop_one (piece_length (byte ∷ rest)) byte rest (piece_positive (byte ∷ rest)))))

-- ---- the loop over the members of a class

ended : (fits whole : Bool) → whole ≡ (fits || false) → fits ≡ whole
ended true whole e = sym e
ended false whole e = sym e

pub class_ended : (byte : ℕ) (fits : Bool) (text rest : List ℕ) → members_after 0 rest ≡ [] →
    is_in_any byte (members_after 0 text) ≡ (fits || is_in_any byte (members_after 0 rest)) →
    fits ≡ is_in_any byte (members_after 0 text)
class_ended byte fits text rest none e = ended fits _ (e ∙ ap (λ ms. fits || is_in_any byte ms) none)

either : (fits : Bool) (byte : ℕ) (first : Bool) (more : Bool) → (fits || (first || more)) ≡ ((fits || first) || more)
either true byte first more = refl
either false byte first more = refl

pub class_fits_on : (byte : ℕ) (fits first : Bool) (text rest : List ℕ) → 0 < length rest → (slice_index rest 0 == 93) ≡ false →
    first ≡ is_within byte (member_at rest) →
    is_in_any byte (members_after 0 text) ≡ (fits || is_in_any byte (members_after 0 rest)) →
    is_in_any byte (members_after 0 text) ≡ ((fits || first) || is_in_any byte (members_after 0 (drop (member_length rest) rest)))
class_fits_on byte fits first text rest some no_end f e =
    let more = is_in_any byte (members_after 0 (drop (member_length rest) rest)) in
    e ∙ ap (λ ms. fits || is_in_any byte ms) (members_front rest some no_end) ∙
    ap (λ b. fits || (b || more)) (sym f) ∙ either fits byte first more

pub class_rest_on : (rest : List ℕ) → 0 < length rest → (slice_index rest 0 == 93) ≡ false → member_length rest ≤ length rest →
    drop (class_length_after 0 rest) rest ≡
    drop (class_length_after 0 (drop (member_length rest) rest)) (drop (member_length rest) rest)
class_rest_on rest some no_end within =
    ap (λ n. drop n rest) (class_front rest some no_end within) ∙
    sym (drop-drop (class_length_after 0 (drop (member_length rest) rest)) (member_length rest) rest)
