-- A head keeps the numbers of a place.
use Rattle.std.proofs.Common.{◌≡◌, ℕ, ◌+◌, ◌-◌, ◌*◌, ◌<◌, ◌≤◌, true, false, cond, eqb, nat_le, nat_lt, Option, Some, None, refl, arith}
use Rattle.std.proofs.lemmas.Bool.{false≢true}
use Rattle.std.proofs.lemmas.Bool.Decides.{nat_tests}
use Rattle.resp_value.specs.declared.cause.Cause.TheVariants as cause
use Rattle.resp_value.specs.declared.kind.OpenKind.{OpenKind}
use Rattle.resp_value.specs.declared.kind.OpenKind.TheVariants as kind
use Rattle.resp_scan.specs.declared.machine.Head.{Head}
use Rattle.resp_scan.specs.declared.machine.Head.TheVariants as head
use Rattle.resp_scan.specs.Machine.Tokens.{Token, Place, at, AtNullOne, AtBulkHead, AtArrayHead, InHead, AtHeadLf, AtFormat, InContent, AtContentCr, AtStreamCr, InChunk, AtChunkCr, AtOpenCr}
use Rattle.resp_scan.specs.Machine.Room.{over_total, is_full}
use Rattle.resp_scan.specs.Machine.Heads.{greatest_number, number_cause, over, head_needed, may_end, streamed_kind, string_cause, aggregate_cause, content_at, chunk_at, head_move}
use Rattle.resp_scan.specs.Machine.Moves.{is_digit, streamed_move, head_digit, head_first, bulk_head, array_head}
use Rattle.resp_scan.specs.Machine.Sound.{token_needed, HasLevel, IsWithinRoom, IsSoundBy}
use Rattle.resp_scan.proofs.Soundness.SoundMoves.{cond_if, IsNext, IsInside, IsMove, unless_is, none_else, none_then, none_version, total_room, not_full, less, within_total}
use Rattle.resp_scan.proofs.Soundness.SoundFrames.{is_ended, is_opened}

-- a head needs more bytes than its number counts
pub head_more : (h : Head) (n : ℕ) → n + 1 ≤ head_needed h n
head_more head.Verbatim n = cond_if (λ v. n + 1 ≤ v) (eqb n 0) _ _ (λ e. let z : n ≡ 0 = grind (arith, nat_tests) in
    omega (arith, z)) (λ e. cond_if (λ v. n + 1 ≤ v) (nat_lt n 4) _ _ (λ e. omega arith) (λ e. omega arith))
head_more (head.Chunk room) n = cond_if (λ v. n + 1 ≤ v) (eqb n 0) _ _ (λ e. let z : n ≡ 0 = grind (arith, nat_tests) in omega (arith, z)) (λ e. omega arith)
head_more _ n = omega arith

-- a head needs a byte
pub head_some : (h : Head) (n : ℕ) → 0 < head_needed h n
head_some h n = omega (arith, head_more h n)

room_of : (s : Place) (x : Head) (n : ℕ) → nat_lt (greatest_number s x) n ≡ false → IsWithinRoom x n
room_of s (head.Chunk room) n e = grind (arith, nat_tests)
room_of s _ n e = tt

-- a digit of a head keeps the numbers of a place
pub is_head_digit : (s : Place) (t : Token) (i : ℕ) (x : Head) (n : ℕ) → IsSoundBy i (at s t) → HasLevel x s.bounds.depth s.frames →
    IsMove (i + 1) s (head_digit s (i + 1) x n)
is_head_digit s t i x n h l = unless_is (i + 1) s (over s (i + 1) x n) _ (λ c.
    let z = none_else (nat_lt (greatest_number s x) n) (number_cause x) (over_total s (i + 1) (head_needed x n)) c in
    within_total s t (InHead x n) i (head_needed x n) h (total_room s (i + 1) (head_needed x n) z.1 (head_some x n)) (omega arith) (l, room_of s x n z.0) refl)

is_open_streamed : (s : Place) (t : Token) (i : ℕ) (o : Option OpenKind) → IsSoundBy i (at s t) → IsMove (i + 1) s (streamed_move s (i + 1) o)
is_open_streamed s t i None h = tt
is_open_streamed s t i (Some k) h = unless_is (i + 1) s (aggregate_cause s (i + 1)) _ (λ c.
    let v = none_version s.version (cond s.bounds.streamed (cond (is_full s) (Some cause.Depth) (over_total s (i + 1) 5)) (Some cause.Streamed)) c in
    let x = none_then s.bounds.streamed cause.Streamed (cond (is_full s) (Some cause.Depth) (over_total s (i + 1) 5)) v in
    let y = none_else (is_full s) cause.Depth (over_total s (i + 1) 5) x.1 in
    within_total s t (AtOpenCr k) i 5 h (total_room s (i + 1) 5 y.1 (omega arith)) (omega arith) (not_full s y.0) refl)

-- the first byte of a head keeps the numbers of a place
pub is_head_first : (s : Place) (t : Token) (i : ℕ) (x : Head) (b : ℕ) → IsSoundBy i (at s t) → HasLevel x s.bounds.depth s.frames →
    IsMove (i + 1) s (head_first s (i + 1) x b)
is_head_first s t i x b h l =
    cond_if (IsMove (i + 1) s) (eqb b 63) _ _ (λ e. is_open_streamed s t i (streamed_kind x) h) (λ e.
    cond_if (IsMove (i + 1) s) (is_digit b) _ _ (λ e. is_head_digit s t i x (b - 48) h l) (λ e. tt))

-- the byte after `$` keeps the numbers of a place
pub is_bulk_head : (s : Place) (i b : ℕ) → IsSoundBy i (at s AtBulkHead) → IsMove (i + 1) s (bulk_head s (i + 1) b)
is_bulk_head s i b h =
    cond_if (IsMove (i + 1) s) (eqb b 45) _ _ (λ e. less s AtBulkHead AtNullOne i h (omega arith) tt refl) (λ e.
    cond_if (IsMove (i + 1) s) (eqb b 63) _ _ (λ e. unless_is (i + 1) s (string_cause s (i + 1)) _ (λ c.
    let v = none_version s.version (cond s.bounds.streamed (over_total s (i + 1) 6) (Some cause.Streamed)) c in
    let x = none_then s.bounds.streamed cause.Streamed (over_total s (i + 1) 6) v in
    within_total s AtBulkHead AtStreamCr i 6 h (total_room s (i + 1) 6 x.1 (omega arith)) (omega arith) tt refl)) (λ e.
    is_head_first s AtBulkHead i head.Bulk b h (λ o. absurd (false≢true o))))

-- the byte after `*` keeps the numbers of a place
pub is_array_head : (s : Place) (i b : ℕ) → IsSoundBy i (at s AtArrayHead) → IsMove (i + 1) s (array_head s (i + 1) b)
is_array_head s i b h =
    cond_if (IsMove (i + 1) s) (eqb b 45) _ _ (λ e. unless_is (i + 1) s (over_total s (i + 1) 3) _
    (λ c. within_total s AtArrayHead AtNullOne i 3 h (total_room s (i + 1) 3 c (omega arith)) (omega arith) tt refl)) (λ e.
    cond_if (IsMove (i + 1) s) (is_full s) _ _ (λ e. tt) (λ e. is_head_first s AtArrayHead i head.Array b h (λ o. not_full s e)))

-- a place with this many bytes of content to come keeps its numbers
pub is_content_at : (s : Place) (t : Token) (i n : ℕ) → IsSoundBy i (at s t) → n + 3 ≤ token_needed t s.bounds.depth s.frames →
    IsInside (i + 1) s (content_at n s)
is_content_at s t i n h q =
    cond_if (λ u. IsInside (i + 1) s (at s u)) (eqb n 0) AtContentCr (InContent n)
    (λ e. less s t AtContentCr i h (omega (arith, q)) tt refl)
    (λ e. less s t (InContent n) i h (omega (arith, q)) (let w : 0 < n = grind (arith, nat_tests) in w) refl)

-- a place with this many bytes of a chunk's content to come keeps its numbers
pub is_chunk_at : (s : Place) (t : Token) (i room n : ℕ) → IsSoundBy i (at s t) → n + 7 ≤ token_needed t s.bounds.depth s.frames →
    IsInside (i + 1) s (chunk_at room n s)
is_chunk_at s t i room n h q =
    cond_if (λ u. IsInside (i + 1) s (at s u)) (eqb n 0) (AtChunkCr room) (InChunk room n)
    (λ e. less s t (AtChunkCr room) i h (omega (arith, q)) tt refl)
    (λ e. less s t (InChunk room n) i h (omega (arith, q)) (let w : 0 < n = grind (arith, nat_tests) in w) refl)

-- a place within a value is one that a move leads to
pub next_of : (i : ℕ) (s t : Place) → IsInside i s t → IsNext i s t × Unit {0}
next_of i s t h = (record { taken = h.taken; rules = h.rules; sound = h.sound }, tt)

four_of : (n : ℕ) → nat_le 4 n ≡ true → 4 ≤ n
four_of n e = grind (arith, nat_tests)

verbatim_four : (n : ℕ) → 4 ≤ n → head_needed head.Verbatim n ≡ n + 4
verbatim_four n l =
    let e : eqb n 0 ≡ false = grind (arith, nat_tests) in
    let f : nat_lt n 4 ≡ false = grind (arith, nat_tests) in
    simp (e, f)

chunk_some : (room n : ℕ) → eqb n 0 ≡ false → head_needed (head.Chunk room) n ≡ n + 8
chunk_some room n e = simp e

chunk_none : (room n : ℕ) → eqb n 0 ≡ true → head_needed (head.Chunk room) n ≡ 2
chunk_none room n e = simp e

-- the LF of a counted head keeps the numbers of a place
pub is_counted : (s : Place) (x : Head) (n i : ℕ) → IsSoundBy i (at s (AtHeadLf x n)) → HasLevel x s.bounds.depth s.frames → may_end x n ≡ true →
    IsMove (i + 1) s (head_move s x n)
is_counted s head.Bulk n i h l m = next_of (i + 1) s (content_at n s) (is_content_at s (AtHeadLf head.Bulk n) i n h (omega arith))
is_counted s head.BulkError n i h l m = next_of (i + 1) s (content_at n s) (is_content_at s (AtHeadLf head.BulkError n) i n h (omega arith))
is_counted s head.Verbatim n i h l m =
    let f : 4 ≤ n = four_of n m in
    less s (AtHeadLf head.Verbatim n) (AtFormat n) i h (omega (arith, f, verbatim_four n f)) f refl
is_counted s (head.Chunk room) n i h l m =
    cond_if (IsMove (i + 1) s) (eqb n 0) _ _
    (λ e. (is_ended s (AtHeadLf (head.Chunk room) n) i h (omega (arith, chunk_none room n e)), tt))
    (λ e. less s (AtHeadLf (head.Chunk room) n) (InChunk (room - n) n) i h (omega (arith, chunk_some room n e)) (let w : 0 < n = grind (arith, nat_tests) in
    w) refl)
is_counted s head.Array n i h l m = (is_opened s (AtHeadLf head.Array n) kind.Array n i h (l refl) (omega arith), tt)
is_counted s head.Set n i h l m = (is_opened s (AtHeadLf head.Set n) kind.Set n i h (l refl) (omega arith), tt)
is_counted s head.Map n i h l m = (is_opened s (AtHeadLf head.Map n) kind.Map (n * 2) i h (l refl) (omega arith), tt)
is_counted s head.Attr n i h l m = (is_opened s (AtHeadLf head.Attr n) kind.Attr (n * 2 + 1) i h (l refl) (omega arith), tt)
is_counted s head.Push n i h l m = (is_opened s (AtHeadLf head.Push n) kind.Push n i h (l refl) (omega arith), tt)
