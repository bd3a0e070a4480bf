-- Moves that keep the numbers of a place, and those within the same frames.
use Rattle.std.proofs.Common.{◌≡◌, ℕ, ◌+◌, ◌<◌, ◌≤◌, Bool, true, false, cond, length, Option, Some, None, refl, arith}
use Rattle.std.proofs.lemmas.Bool.Decides.{nat_tests}
use Rattle.resp_value.specs.declared.cause.Cause.{Cause}
use Rattle.resp_value.specs.declared.cause.Cause.TheVariants as cause
use Rattle.resp_value.specs.declared.version.Version.{Version}
use Rattle.resp_value.specs.declared.version.Version.TheVariants as version
use Rattle.resp_scan.specs.Machine.Tokens.{Token, Place, Happening, Digit, Move, Go, Byte, Give, Refuse, at, AtStart, AtEnd, AtBigDigit, AtTextEnd, Dead}
use Rattle.resp_scan.specs.Machine.Room.{has_total_room, over_total, is_full}
use Rattle.resp_scan.specs.Machine.Heads.{cause_in_three}
use Rattle.resp_scan.specs.Machine.Moves.{move_unless}
use Rattle.resp_scan.specs.Kinds.{rules_of}
use Rattle.resp_scan.specs.Machine.Sound.{token_needed, IsTokenSound, IsSoundBy}

-- what holds of a choice holds of what a test chooses
pub cond_if : {A : Type 0} (P : A → Type 0) (b : Bool) (x y : A) → (b ≡ true → P x) → (b ≡ false → P y) → P (cond b x y)
cond_if P true x y f g = f refl
cond_if P false x y f g = g refl

-- Whether a token is a value's first byte, at which no more than that byte is used, or one at which no byte is looked at.
abbrev pub is_outside : Token → Bool
is_outside AtStart = true
is_outside AtEnd = true
is_outside AtTextEnd = true
is_outside (AtBigDigit d room) = true
is_outside (Dead c) = true
is_outside _ = false

-- a move leads to this place, which keeps its numbers
pub record IsNext (i : ℕ) (s t : Place) : Type 0 where
  pub taken : t.taken ≡ s.taken
  pub rules : rules_of t ≡ rules_of s
  pub sound : IsSoundBy i t

-- a move leads to this place within a value, which keeps its numbers
pub record IsInside (i : ℕ) (s t : Place) : Type 0 where
  pub taken : t.taken ≡ s.taken
  pub rules : rules_of t ≡ rules_of s
  pub sound : IsSoundBy i t
  pub inside : is_outside t.token ≡ false

-- the digit of a big number is owed and never comes of a byte
abbrev pub IsPlain : Happening → Type 0
IsPlain (Digit d) = ⊥
IsPlain _ = Unit {0}

-- a move from a place of this many bytes keeps its numbers
abbrev pub IsMove : ℕ → Place → Move → Type 0
IsMove i s (Go t) = IsInside i s t
IsMove i s (Byte t) = IsInside i s t
IsMove i s (Give e t) = IsNext i s t × IsPlain e
IsMove i s (Refuse c) = Unit {0}

-- Causes that refuse nothing.

-- a move after a cause keeps them where the move by itself does
pub unless_is : (i : ℕ) (s : Place) (o : Option Cause) (v : Move) → (o ≡ None → IsMove i s v) → IsMove i s (move_unless o v)
unless_is i s None v f = f refl
unless_is i s (Some c) v f = tt

-- where one cause or another is none, neither is
pub none_else : (b : Bool) (c : Cause) (o : Option Cause) → cond b (Some c) o ≡ None → (b ≡ false) × (o ≡ None)
none_else true c o e = absurd (cc)
none_else false c o e = (refl, e)

-- where a cause is none, so is the one that a test leaves
pub none_then : (b : Bool) (c : Cause) (o : Option Cause) → cond b o (Some c) ≡ None → (b ≡ true) × (o ≡ None)
none_then true c o e = (refl, e)
none_then false c o e = absurd (cc)

-- where a cause of version 3 is none, so is the cause after it
pub none_version : (v : Version) (o : Option Cause) → cause_in_three v o ≡ None → o ≡ None
none_version version.Two o e = absurd (cc)
none_version version.Three o e = e

-- what total has room for fits it
pub fits_room : (s : Place) (used n : ℕ) → has_total_room s used n ≡ true → 0 < n → s.taken + used + n + s.frames_need ≤ s.bounds.total
fits_room s used n e l = grind (arith, nat_tests)

-- what is not over total fits it
pub total_room : (s : Place) (used n : ℕ) → over_total s used n ≡ None → 0 < n → s.taken + used + n + s.frames_need ≤ s.bounds.total
total_room s used n e l = fits_room s used n (none_then (has_total_room s used n) cause.Total None e).0 l

-- where a further aggregate may open the frames are below the depth
pub not_full : (s : Place) → is_full s ≡ false → length s.frames < s.bounds.depth
not_full s e = grind (arith, nat_tests)

-- A token is reached within the same frames.

still : (s : Place) (t u : Token) (i j : ℕ) → IsSoundBy i (at s t) → s.taken + j + token_needed u s.bounds.depth s.frames + s.frames_need ≤ s.bounds.total →
    IsTokenSound u s.bounds.depth s.frames → is_outside u ≡ false → IsInside j s (at s u)
still s t u i j h w f g = record {
  taken = refl;
  rules = refl;
  sound =
      record { bounds = h.bounds; nested = h.nested; counted = h.counted; frames_need = h.frames_need; total = w; token = f };
  inside = g;
}

-- a token within the same frames at which no byte is looked at
pub stays : (s : Place) (t u : Token) (i j : ℕ) → IsSoundBy i (at s t) → s.taken + j + token_needed u s.bounds.depth s.frames + s.frames_need ≤ s.bounds.total →
    IsTokenSound u s.bounds.depth s.frames → IsNext j s (at s u) × Unit {0}
stays s t u i j h w f = (
  record {
    taken = refl;
    rules = refl;
    sound =
        record { bounds = h.bounds; nested = h.nested; counted = h.counted; frames_need = h.frames_need; total = w; token = f };
  },
  tt,
)

-- a byte brings the end nearer by one
pub less : (s : Place) (t u : Token) (i : ℕ) → IsSoundBy i (at s t) → token_needed u s.bounds.depth s.frames + 1 ≤ token_needed t s.bounds.depth s.frames →
    IsTokenSound u s.bounds.depth s.frames → is_outside u ≡ false → IsInside (i + 1) s (at s u)
less s t u i h q f g = let w : s.taken + i + token_needed t s.bounds.depth s.frames + s.frames_need ≤ s.bounds.total = h.total in
    still s t u i (i + 1) h (omega (arith, w, q)) f g

-- total leaves room for it
pub within_total : (s : Place) (t u : Token) (i n : ℕ) → IsSoundBy i (at s t) → s.taken + (i + 1) + n + s.frames_need ≤ s.bounds.total →
    token_needed u s.bounds.depth s.frames ≤ n → IsTokenSound u s.bounds.depth s.frames → is_outside u ≡ false → IsInside (i + 1) s (at s u)
within_total s t u i n h w q f g = still s t u i (i + 1) h (omega (arith, w, q)) f g
