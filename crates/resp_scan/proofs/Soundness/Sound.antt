-- Every byte keeps the numbers of every place.
use Rattle.std.proofs.Common.{◌≡◌, ℕ, ◌+◌, ◌-◌, ◌*◌, ◌<◌, ◌≤◌, Bool, true, false, eqb, nat_le, Option, None, Some, [], ◌∷◌, refl, sym, subst, arith}
use Rattle.std.proofs.lemmas.Bool.{false≢true}
use Rattle.std.proofs.lemmas.Bool.Decides.{nat_tests}
use Rattle.resp_value.specs.declared.cause.Cause.TheVariants as cause
use Rattle.resp_value.specs.DoubleStages.{stage_after, stage_needs}
use Rattle.resp_value.specs.declared.double_stage.DoubleStage.{DoubleStage}
use Rattle.resp_scan.specs.declared.machine.Head.TheVariants as head
use Rattle.resp_scan.specs.Machine.Magnitudes.{greatest_magnitude}
use Rattle.resp_scan.specs.Machine.Tokens.{Token, Place, Move, Go, Refuse, at, AtStart, InLine, InDouble, AtLineLf, AtIntSign, AtIntFirst, InInt, AtIntLf, AtBigSign, AtBigFirst, InBigZeros, AtBigZeroLf, AtBigDigit, InBig, AtTextEnd, AtNullOne, AtNullCr, AtNullLf, AtBool, AtBoolCr, AtBoolLf, AtBulkHead, AtArrayHead, AtHead, InHead, AtHeadLf, AtFormat, AtFormatSecond, AtFormatThird, AtFormatColon, InContent, AtContentCr, AtContentLf, AtStreamCr, AtStreamLf, AtChunk, InChunk, AtChunkCr, AtChunkLf, AtOpenCr, AtOpenLf, AtCloseCr, AtCloseLf}
use Rattle.resp_scan.specs.Machine.Room.{has_total_room, over_total}
use Rattle.resp_scan.specs.Machine.Heads.{may_end, content_at}
use Rattle.resp_scan.specs.Machine.Moves.{move_unless, only_byte, is_digit, int_digit, int_first, big_digit, big_first, content_byte, double_next, start_next, next_in}
use Rattle.resp_scan.specs.Machine.Sound.{token_needed, IsTokenSound, IsSoundBy}
use Rattle.resp_scan.proofs.Soundness.SoundMoves.{cond_if, is_outside, IsInside, IsMove, unless_is, fits_room, total_room, stays, less, within_total}
use Rattle.resp_scan.proofs.Soundness.SoundFrames.{is_ended, is_opened_streamed, sound_closed}
pub use Rattle.resp_scan.proofs.Soundness.SoundHeads.{head_more}
use Rattle.resp_scan.proofs.Soundness.SoundHeads.{head_some, is_head_digit, is_head_first, is_bulk_head, is_array_head, is_content_at, is_chunk_at, next_of, is_counted}
use Rattle.resp_scan.proofs.Soundness.SoundStarts.{is_first}

is_byte : (s : Place) (i room : ℕ) (f : ℕ → Token) → ((r : ℕ) → has_total_room s (i + 1) 2 ≡ true → IsInside (i + 1) s (at s (f r))) →
    IsMove (i + 1) s (content_byte s (i + 1) room f)
is_byte s i room f g = cond_if (IsMove (i + 1) s) (eqb room 0) _ _ (λ e. tt)
    (λ e. cond_if (IsMove (i + 1) s) (has_total_room s (i + 1) 2) _ _ (λ e. g (room - 1) e) (λ e. tt))

most_ten : (negative : Bool) (b : ℕ) → is_digit b ≡ true → b - 48 ≤ greatest_magnitude negative
most_ten true b e = grind (arith, nat_tests)
most_ten false b e = grind (arith, nat_tests)

le_of : (a b : ℕ) → nat_le a b ≡ true → a ≤ b
le_of a b e = grind (arith, nat_tests)

is_int_first : (s : Place) (t : Token) (i : ℕ) (negative : Bool) (b : ℕ) → IsSoundBy i (at s t) → 3 ≤ token_needed t s.bounds.depth s.frames →
    IsMove (i + 1) s (int_first s negative b)
is_int_first s t i negative b h q = cond_if (IsMove (i + 1) s) (is_digit b) _ _ (λ e. less s t (InInt negative (b - 48)) i h q (most_ten negative b e) refl)
    (λ e. tt)

is_int_digit : (s : Place) (t : Token) (i : ℕ) (negative : Bool) (n : ℕ) → IsSoundBy i (at s t) → IsMove (i + 1) s (int_digit s (i + 1) negative n)
is_int_digit s t i negative n h =
    cond_if (IsMove (i + 1) s) (nat_le n (greatest_magnitude negative)) _ _ (λ e.
    cond_if (IsMove (i + 1) s) (has_total_room s (i + 1) 2) _ _ (λ f. within_total s t (InInt negative n) i 2 h (fits_room s (i + 1) 2 f (omega arith))
    (omega arith) (le_of n (greatest_magnitude negative) e) refl) (λ f. tt)) (λ e. tt)

is_sign : (s : Place) (t u : Token) (i : ℕ) → IsSoundBy i (at s t) → token_needed u s.bounds.depth s.frames ≤ 3 → IsTokenSound u s.bounds.depth s.frames →
    is_outside u ≡ false → IsMove (i + 1) s (move_unless (over_total s (i + 1) 3) (Go (at s u)))
is_sign s t u i h q f g = unless_is (i + 1) s (over_total s (i + 1) 3) _ (λ c. within_total s t u i 3 h (total_room s (i + 1) 3 c (omega arith)) q f g)

is_big_digit : (s : Place) (t : Token) (i : ℕ) (negative : Bool) (b : ℕ) → IsSoundBy i (at s t) → is_digit b ≡ true →
    s.taken + (i + 1) + 2 + s.frames_need ≤ s.bounds.total → IsMove (i + 1) s (big_digit s negative b)
is_big_digit s t i negative b h d w =
    cond_if (IsMove (i + 1) s) (eqb b 48) _ _
    (λ e. within_total s t (InBigZeros negative) i 2 h w (omega arith) tt refl)
    (λ e. stays s t (AtBigDigit b (s.bounds.length - 1)) i (i + 1) h (omega (arith, w)) d)

is_big_first : (s : Place) (t : Token) (i : ℕ) (negative : Bool) (b : ℕ) → IsSoundBy i (at s t) → 3 ≤ token_needed t s.bounds.depth s.frames →
    IsMove (i + 1) s (big_first s negative b)
is_big_first s t i negative b h q =
    let w : s.taken + i + token_needed t s.bounds.depth s.frames + s.frames_need ≤ s.bounds.total = h.total in
    cond_if (IsMove (i + 1) s) (is_digit b) _ _ (λ e. is_big_digit s t i negative b h e (omega (arith, w, q))) (λ e. tt)

wants_is : (i : ℕ) (s : Place) (x b : ℕ) (v : Move) → IsMove i s v → IsMove i s (only_byte x b v)
wants_is i s x b v m = cond_if (IsMove i s) (eqb b x) v (Refuse cause.Syntax) (λ e. m) (λ e. tt)

-- a byte of a double, given the stage that it leads to
is_double_next : (s : Place) (i room b : ℕ) (stage : DoubleStage) (o : Option DoubleStage) → IsSoundBy i (at s (InDouble stage room)) →
    IsMove (i + 1) s (double_next s (i + 1) room stage b o)
is_double_next s i room b stage None h = cond_if (IsMove (i + 1) s) (eqb (stage_needs stage) 0) _ _
    (λ e. wants_is (i + 1) s 13 b _ (less s (InDouble stage room) AtLineLf i h (omega arith) tt refl)) (λ e. tt)
is_double_next s i room b stage (Some next) h =
    cond_if (IsMove (i + 1) s) (nat_le room (stage_needs next)) _ _ (λ e. tt) (λ e.
    cond_if (IsMove (i + 1) s) (has_total_room s (i + 1) (stage_needs next + 2)) _ _ (λ f. within_total s (InDouble stage room) (InDouble next (room - 1)) i
    (stage_needs next + 2) h (fits_room s (i + 1) (stage_needs next + 2) f (omega arith)) (omega arith) tt refl) (λ f. tt))

-- Every token.

-- every byte, at every token, keeps the numbers of a place
pub is_move : (t : Token) (s : Place) (i b : ℕ) → IsSoundBy i (at s t) → (is_outside t ≡ true → i ≡ 0) → IsMove (i + 1) s (next_in t s (i + 1) b)
is_move AtStart s i b h g = subst (λ k. IsMove (k + 1) s (start_next s b)) (sym (g refl)) (is_first s b (subst (λ k. IsSoundBy k (at s AtStart)) (g refl) h))
is_move (InLine room) s i b h g =
    cond_if (IsMove (i + 1) s) (eqb b 13) _ _ (λ e. less s (InLine room) AtLineLf i h (omega arith) tt refl) (λ e.
    cond_if (IsMove (i + 1) s) (eqb b 10) _ _ (λ e. tt) (λ e.
    is_byte s i room InLine (λ r f. within_total s (InLine room) (InLine r) i 2 h (fits_room s (i + 1) 2 f (omega arith)) (omega arith) tt refl)))
is_move (InDouble stage room) s i b h g = is_double_next s i room b stage (stage_after stage b) h
is_move AtLineLf s i b h g = wants_is (i + 1) s 10 b _ (is_ended s AtLineLf i h (omega arith), tt)
is_move AtIntSign s i b h g =
    cond_if (IsMove (i + 1) s) (eqb b 45) _ _ (λ e. is_sign s AtIntSign (AtIntFirst true) i h (omega arith) tt refl) (λ e.
    cond_if (IsMove (i + 1) s) (eqb b 43) _ _ (λ e. is_sign s AtIntSign (AtIntFirst false) i h (omega arith) tt refl) (λ e.
    is_int_first s AtIntSign i false b h (omega arith)))
is_move (AtIntFirst negative) s i b h g = is_int_first s (AtIntFirst negative) i negative b h (omega arith)
is_move (InInt negative n) s i b h g =
    cond_if (IsMove (i + 1) s) (is_digit b) _ _ (λ e. is_int_digit s (InInt negative n) i negative (n * 10 + (b - 48)) h) (λ e.
    wants_is (i + 1) s 13 b _ (less s (InInt negative n) (AtIntLf negative n) i h (omega arith) h.token refl))
is_move (AtIntLf negative n) s i b h g = wants_is (i + 1) s 10 b _ (is_ended s (AtIntLf negative n) i h (omega arith), tt)
is_move AtBigSign s i b h g =
    cond_if (IsMove (i + 1) s) (eqb b 45) _ _ (λ e. is_sign s AtBigSign (AtBigFirst true) i h (omega arith) tt refl) (λ e.
    cond_if (IsMove (i + 1) s) (eqb b 43) _ _ (λ e. is_sign s AtBigSign (AtBigFirst false) i h (omega arith) tt refl) (λ e.
    is_big_first s AtBigSign i false b h (omega arith)))
is_move (AtBigFirst negative) s i b h g = is_big_first s (AtBigFirst negative) i negative b h (omega arith)
is_move (InBigZeros negative) s i b h g =
    cond_if (IsMove (i + 1) s) (is_digit b) _ _ (λ e.
    cond_if (IsMove (i + 1) s) (has_total_room s (i + 1) 2) _ _ (λ f. is_big_digit s (InBigZeros negative) i negative b h e
    (fits_room s (i + 1) 2 f (omega arith))) (λ f. tt)) (λ e.
    wants_is (i + 1) s 13 b _ (less s (InBigZeros negative) AtBigZeroLf i h (omega arith) tt refl))
is_move AtBigZeroLf s i b h g = wants_is (i + 1) s 10 b _ (let q : s.taken + i + 1 + s.frames_need ≤ s.bounds.total = h.total in
    stays s AtBigZeroLf AtTextEnd i (i + 1) h (omega (arith, q)) tt)
is_move (InBig room) s i b h g =
    cond_if (IsMove (i + 1) s) (is_digit b) _ _
    (λ e. is_byte s i room InBig (λ r f. within_total s (InBig room) (InBig r) i 2 h (fits_room s (i + 1) 2 f (omega arith)) (omega arith) tt refl))
    (λ e. wants_is (i + 1) s 13 b _ (less s (InBig room) AtLineLf i h (omega arith) tt refl))
is_move AtNullOne s i b h g = wants_is (i + 1) s 49 b _ (less s AtNullOne AtNullCr i h (omega arith) tt refl)
is_move AtNullCr s i b h g = wants_is (i + 1) s 13 b _ (less s AtNullCr AtNullLf i h (omega arith) tt refl)
is_move AtNullLf s i b h g = wants_is (i + 1) s 10 b _ (is_ended s AtNullLf i h (omega arith), tt)
is_move AtBool s i b h g =
    cond_if (IsMove (i + 1) s) (eqb b 116) _ _ (λ e. less s AtBool (AtBoolCr true) i h (omega arith) tt refl) (λ e.
    wants_is (i + 1) s 102 b _ (less s AtBool (AtBoolCr false) i h (omega arith) tt refl))
is_move (AtBoolCr v) s i b h g = wants_is (i + 1) s 13 b _ (less s (AtBoolCr v) (AtBoolLf v) i h (omega arith) tt refl)
is_move (AtBoolLf v) s i b h g = wants_is (i + 1) s 10 b _ (is_ended s (AtBoolLf v) i h (omega arith), tt)
is_move AtBulkHead s i b h g = is_bulk_head s i b h
is_move AtArrayHead s i b h g = is_array_head s i b h
is_move (AtHead x) s i b h g = is_head_first s (AtHead x) i x b h h.token
is_move (InHead x n) s i b h g =
    cond_if (IsMove (i + 1) s) (is_digit b) _ _ (λ e. is_head_digit s (InHead x n) i x (n * 10 + (b - 48)) h h.token.0) (λ e.
    cond_if (IsMove (i + 1) s) (may_end x n) _ _ (λ f. wants_is (i + 1) s 13 b _
    (less s (InHead x n) (AtHeadLf x n) i h (omega (arith, head_some x n)) (h.token.0, h.token.1, f) refl)) (λ f. tt))
is_move (AtHeadLf x n) s i b h g = wants_is (i + 1) s 10 b _ (is_counted s x n i h h.token.0 h.token.2)
is_move (AtFormat n) s i b h g = less s (AtFormat n) (AtFormatSecond b n) i h (omega arith) h.token refl
is_move (AtFormatSecond x n) s i b h g = less s (AtFormatSecond x n) (AtFormatThird x b n) i h (omega arith) h.token refl
is_move (AtFormatThird x y n) s i b h g = let f : 4 ≤ n = h.token in
    less s (AtFormatThird x y n) (AtFormatColon (x ∷ y ∷ b ∷ []) n) i h (omega (arith, f)) f refl
is_move (AtFormatColon format n) s i b h g =
    let f : 4 ≤ n = h.token in
    wants_is (i + 1) s 58 b _ (next_of (i + 1) s (content_at (n - 4) s) (is_content_at s (AtFormatColon format n) i (n - 4) h (omega (arith, f))))
is_move (InContent n) s i b h g = let f : 0 < n = h.token in is_content_at s (InContent n) i (n - 1) h (omega (arith, f))
is_move AtContentCr s i b h g = wants_is (i + 1) s 13 b _ (less s AtContentCr AtContentLf i h (omega arith) tt refl)
is_move AtContentLf s i b h g = wants_is (i + 1) s 10 b _ (is_ended s AtContentLf i h (omega arith), tt)
is_move AtStreamCr s i b h g = wants_is (i + 1) s 13 b _ (less s AtStreamCr AtStreamLf i h (omega arith) tt refl)
is_move AtStreamLf s i b h g = wants_is (i + 1) s 10 b _ (next_of (i + 1) s (at s (AtChunk s.bounds.length))
    (less s AtStreamLf (AtChunk s.bounds.length) i h (omega arith) tt refl))
is_move (AtChunk room) s i b h g = wants_is (i + 1) s 59 b _ (less s (AtChunk room) (AtHead (head.Chunk room)) i h (omega arith) (λ o. absurd (false≢true o))
    refl)
is_move (InChunk room n) s i b h g = let f : 0 < n = h.token in is_chunk_at s (InChunk room n) i room (n - 1) h (omega (arith, f))
is_move (AtChunkCr room) s i b h g = wants_is (i + 1) s 13 b _ (less s (AtChunkCr room) (AtChunkLf room) i h (omega arith) tt refl)
is_move (AtChunkLf room) s i b h g = wants_is (i + 1) s 10 b _ (less s (AtChunkLf room) (AtChunk room) i h (omega arith) tt refl)
is_move (AtOpenCr k) s i b h g = wants_is (i + 1) s 13 b _ (less s (AtOpenCr k) (AtOpenLf k) i h (omega arith) h.token refl)
is_move (AtOpenLf k) s i b h g = wants_is (i + 1) s 10 b _ (is_opened_streamed s (AtOpenLf k) k i h h.token (omega arith), tt)
is_move AtCloseCr s i b h g = wants_is (i + 1) s 13 b _ (less s AtCloseCr AtCloseLf i h (omega arith) h.token refl)
is_move AtCloseLf s i b h g =
    let w : s.taken + i + 1 + s.frames_need ≤ s.bounds.total = h.total in
    wants_is (i + 1) s 10 b _ (record { taken = refl; rules = refl; sound = sound_closed s AtCloseLf s.frames i (i + 1) refl h h.token (omega (arith, w)) }, tt)
is_move _ s i b h g = tt
