-- Lemmas on texts that fit a glob.
use Rattle.std.proofs.Common.{◌≡◌, ◌∙◌, ℕ, zero, suc, ◌+◌, ◌<◌, List, [], ◌∷◌, length, drop, Bool, true, false, refl, ap, sym, subst, arith}
use Rattle.std.specs.Prelude.{◌==◌, ◌&&◌, not, nat_lt, slice_index, if◌then◌else◌}
use Rattle.std.proofs.lemmas.List.{drop-drop}
use Rattle.resp_commands.specs.Fits.{ReachesStar}
use Rattle.resp_commands.specs.Globs.{Matches, MatchesPieces, Piece, Range, among, outside, star, class_of, fits, is_negated, members_after, piece_at, piece_length, pieces_after, pieces_of, single}
use Rattle.resp_commands.proofs.Pieces.{pieces_front}

-- ---- pieces that are no star

IsByte : Piece → Type 0
IsByte star = ⊥
IsByte (among ranges) = Unit {0}
IsByte (outside ranges) = Unit {0}

byte_choice : (a b c d e : Bool) (m : List Range) (x y : List Range) → a ≡ false →
    IsByte (if a then star else if b then outside [] else if c then (if d then outside m else among m) else
    if e then among x else among y)
unfolding IsByte
byte_choice true b c d e m x y h = absurd (cc)
byte_choice false true c d e m x y h = tt
byte_choice false false true true e m x y h = tt
byte_choice false false true false e m x y h = tt
byte_choice false false false d true m x y h = tt
byte_choice false false false d false m x y h = tt

is_byte : (glob : List ℕ) → (slice_index glob 0 == 42) ≡ false → IsByte (piece_at glob)
is_byte glob h =
    byte_choice (slice_index glob 0 == 42) (slice_index glob 0 == 63) (slice_index glob 0 == 91) (is_negated glob)
    (slice_index glob 0 == 92 && nat_lt 1 (length glob)) (members_after 0 (class_of glob)) (single (slice_index glob 1) ∷ [])
    (single (slice_index glob 0) ∷ []) h

not_true : (b : Bool) → not b ≡ true → b ≡ false
not_true true h = absurd (cc)
not_true false h = refl

not_false : (b : Bool) → not b ≡ false → b ≡ true
not_false true h = refl
not_false false h = absurd (cc)

step_back : (piece : Piece) (pieces : List Piece) (byte : ℕ) (rest : List ℕ) → fits byte piece ≡ true →
    MatchesPieces pieces rest → MatchesPieces (piece ∷ pieces) (byte ∷ rest)
unfolding MatchesPieces
step_back star pieces byte rest h m = absurd (cc)
step_back (among ranges) pieces byte rest h m = (h, m)
step_back (outside ranges) pieces byte rest h m = (not_true _ h, m)

step_forth : (piece : Piece) (pieces : List Piece) (byte : ℕ) (other : List ℕ) → fits byte piece ≡ true →
    MatchesPieces (piece ∷ pieces) other → MatchesPieces pieces (drop 1 other)
unfolding MatchesPieces
step_forth star pieces byte other h m = absurd (cc)
step_forth (among ranges) pieces byte [] h m = absurd m
step_forth (among ranges) pieces byte (first ∷ other) h m = m.1
step_forth (outside ranges) pieces byte [] h m = absurd m
step_forth (outside ranges) pieces byte (first ∷ other) h m = m.1

differ : (b : Bool) → b ≡ true → b ≡ false → ⊥
differ true h e = cc
differ false h e = cc

step_not : (piece : Piece) (pieces : List Piece) (byte : ℕ) (rest : List ℕ) → IsByte piece → fits byte piece ≡ false →
    MatchesPieces (piece ∷ pieces) (byte ∷ rest) → ⊥
unfolding IsByte MatchesPieces
step_not star pieces byte rest is h m = is
step_not (among ranges) pieces byte rest is h m = differ _ m.0 h
step_not (outside ranges) pieces byte rest is h m = differ _ (not_false _ h) m.0

step_empty : (piece : Piece) (pieces : List Piece) → IsByte piece → MatchesPieces (piece ∷ pieces) [] → ⊥
unfolding IsByte MatchesPieces
step_empty star pieces is m = is
step_empty (among ranges) pieces is m = m
step_empty (outside ranges) pieces is m = m

-- ---- globs

pub fit_back : (later rest : List ℕ) → 0 < length later → 0 < length rest → fits (slice_index rest 0) (piece_at later) ≡ true →
    Matches (drop (piece_length later) later) (drop 1 rest) → Matches later rest
fit_back later [] some more h m = absurd (omega arith)
fit_back later (byte ∷ rest) some more h m =
    subst (λ ps. MatchesPieces ps (byte ∷ rest)) (sym (pieces_front later some))
    (step_back (piece_at later) (pieces_of (drop (piece_length later) later)) byte rest h m)

pub fit_forth : (later : List ℕ) (byte : ℕ) (other : List ℕ) → 0 < length later → fits byte (piece_at later) ≡ true →
    Matches later other → Matches (drop (piece_length later) later) (drop 1 other)
fit_forth later byte other some h m =
    step_forth (piece_at later) (pieces_of (drop (piece_length later) later)) byte other h
    (subst (λ ps. MatchesPieces ps other) (pieces_front later some) m)

pub no_fit : (later rest : List ℕ) → 0 < length later → 0 < length rest → (slice_index later 0 == 42) ≡ false →
    fits (slice_index rest 0) (piece_at later) ≡ false → Matches later rest → ⊥
no_fit later [] some more no_star h m = absurd (omega arith)
no_fit later (byte ∷ rest) some more no_star h m =
    step_not (piece_at later) (pieces_of (drop (piece_length later) later)) byte rest (is_byte later no_star) h
    (subst (λ ps. MatchesPieces ps (byte ∷ rest)) (pieces_front later some) m)

pub no_text : (later rest : List ℕ) → 0 < length later → length rest ≡ 0 → (slice_index later 0 == 42) ≡ false →
    Matches later rest → ⊥
no_text later [] some none no_star m =
    step_empty (piece_at later) (pieces_of (drop (piece_length later) later)) (is_byte later no_star)
    (subst (λ ps. MatchesPieces ps []) (pieces_front later some) m)
no_text later (byte ∷ rest) some none no_star m = absurd (omega arith)

-- a glob that is over matches the empty text only
pub over_back : (later rest : List ℕ) → length later ≡ 0 → length rest ≡ 0 → Matches later rest
unfolding MatchesPieces pieces_after
over_back [] [] none e = refl
over_back [] (byte ∷ rest) none e = absurd (omega arith)
over_back (first ∷ later) rest none e = absurd (omega arith)

pub over_not : (later rest : List ℕ) → length later ≡ 0 → 0 < length rest → Matches later rest → ⊥
unfolding MatchesPieces pieces_after
over_not [] [] none e m = absurd (omega arith)
over_not [] (byte ∷ rest) none e m = cc
over_not (first ∷ later) rest none e m = absurd (omega arith)

star_at : (byte : ℕ) (rest : List ℕ) → byte ≡ 42 → piece_at (byte ∷ rest) ∷ pieces_of (drop (piece_length (byte ∷ rest)) (byte ∷ rest)) ≡
    star ∷ pieces_of rest
star_at byte rest h =
    subst (λ b. piece_at (b ∷ rest) ∷ pieces_of (drop (piece_length (b ∷ rest)) (b ∷ rest)) ≡ star ∷ pieces_of rest) (sym h) refl

pub star_front : (glob : List ℕ) → 0 < length glob → slice_index glob 0 ≡ 42 → pieces_of glob ≡ star ∷ pieces_of (drop 1 glob)
star_front [] some h = absurd (omega arith)
star_front (byte ∷ rest) some h = pieces_front (byte ∷ rest) some ∙ star_at byte rest h

-- ---- stars

drop_on : (n : ℕ) (text : List ℕ) → drop (suc n) text ≡ drop n (drop 1 text)
drop_on n text =
    let e : suc n ≡ 1 + n = omega arith in
    ap (λ k. drop k text) e ∙ sym (drop-drop n 1 text)

drop_none : (n : ℕ) → drop {A = ℕ} n [] ≡ []
drop_none zero = refl
drop_none (suc n) = refl

pub star_back : (pieces : List Piece) (rest : List ℕ) → MatchesPieces (star ∷ pieces) (drop 1 rest) →
    MatchesPieces (star ∷ pieces) rest
unfolding MatchesPieces
star_back pieces rest m = (suc m.0, subst (λ t. MatchesPieces pieces t) (sym (drop_on m.0 rest)) m.1)

later_star : (pieces : List Piece) (rest : List ℕ) (n : ℕ) → (MatchesPieces pieces rest → ⊥) → MatchesPieces pieces (drop n rest) →
    MatchesPieces (star ∷ pieces) (drop 1 rest)
unfolding MatchesPieces
later_star pieces rest zero fails m = absurd (fails m)
later_star pieces rest (suc n) fails m = (n, subst (λ t. MatchesPieces pieces t) (drop_on n rest) m)

pub star_forth : (pieces : List Piece) (rest : List ℕ) → (MatchesPieces pieces rest → ⊥) → MatchesPieces (star ∷ pieces) rest →
    MatchesPieces (star ∷ pieces) (drop 1 rest)
unfolding MatchesPieces
star_forth pieces rest fails m = later_star pieces rest m.0 fails m.1

pub star_empty : (pieces : List Piece) (rest : List ℕ) → length rest ≡ 0 → (MatchesPieces pieces rest → ⊥) →
    MatchesPieces (star ∷ pieces) rest → ⊥
unfolding MatchesPieces
star_empty pieces [] none fails m = fails (subst (λ t. MatchesPieces pieces t) (drop_none m.0) m.1)
star_empty pieces (byte ∷ rest) none fails m = absurd (omega arith)

pub star_whole : (pieces : List Piece) (rest : List ℕ) → MatchesPieces pieces rest → MatchesPieces (star ∷ pieces) rest
unfolding MatchesPieces
star_whole pieces rest m = (0, m)

-- from one star to the next
pub next_back : (later rest next shorter : List ℕ) → ReachesStar later rest next shorter →
    MatchesPieces (star ∷ pieces_of next) shorter → MatchesPieces (star ∷ pieces_of later) rest
next_back later rest next shorter r m = star_whole (pieces_of later) rest (r.back m)

sums : (pieces : List Piece) (rest : List ℕ) (k count : ℕ) → MatchesPieces (star ∷ pieces) (drop count (drop k rest)) →
    MatchesPieces (star ∷ pieces) (drop count rest)
unfolding MatchesPieces
sums pieces rest k count m =
    let e : k + (count + m.0) ≡ count + (k + m.0) = omega arith in (
      k + m.0,
      subst (λ t. MatchesPieces pieces t) (drop-drop m.0 count (drop k rest) ∙ drop-drop (count + m.0) k rest ∙ ap (λ n. drop n rest) e ∙
          sym (drop-drop (k + m.0) count rest)) m.1,
    )

pub next_forth : (later rest next shorter : List ℕ) → ReachesStar later rest next shorter →
    MatchesPieces (star ∷ pieces_of later) rest → MatchesPieces (star ∷ pieces_of next) shorter
unfolding MatchesPieces
next_forth later rest next shorter r m =
    subst (λ t. MatchesPieces (star ∷ pieces_of next) t) (sym r.there) (sums (pieces_of next) rest m.0 r.count (r.forth (drop m.0 rest) m.1))
