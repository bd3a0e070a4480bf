-- A bulk string of few bytes that begins.
use Rattle.std.proofs.Common.{◌≡◌, ℕ, Bool, true, false, cond, nat_le, ◌+◌, ◌<◌, ◌≤◌, List, [], ◌∷◌, length, drop, get_or, Option, None, Some, arith, refl, sym, ap, ◌∙◌}
use Rattle.std.proofs.lemmas.Bool.Decides.{nat_tests}
use Rattle.resp_value.specs.declared.cause.Cause.{Cause}
use Rattle.resp_value.specs.declared.cause.Cause.TheVariants as cause
use Rattle.resp_scan.specs.declared.event.TextKind.TheVariants as text
use Rattle.resp_scan.specs.declared.frame.Frame.{Frame}
use Rattle.resp_scan.specs.Machine.Heads.{content_at}
use Rattle.resp_scan.specs.Machine.Room.{after_begin, after_begin_in, begin_cause, has_all, items_cause, over_total, total_room}
use Rattle.resp_scan.specs.Machine.Scan.{Gave, scan}
use Rattle.resp_scan.specs.Machine.Tokens.{AtBulkHead, AtStart, Place, Text, at}
use Rattle.resp_scan.proofs.Soundness.Starts.{begun_answer, first_is}

none_true : (b : Bool) (c : Cause) → None ≡ cond b None (Some c) → b ≡ true
none_true true c e = refl
none_true false c e = absurd (cc)

over_fits : (s : Place) (used n : ℕ) → None ≡ over_total s used n → used + n ≤ total_room s
over_fits s used n e =
    let fits : nat_le (used + n) (total_room s) ≡ true = none_true (nat_le (used + n) (total_room s)) cause.Total e in
    grind (arith, nat_tests)

fits_over : (s : Place) (used n : ℕ) → used + n ≤ total_room s → None ≡ over_total s used n
fits_over s used n h =
    let fits : nat_le (used + n) (total_room s) ≡ true = grind (arith, nat_tests) in
    ap (λ b. cond b None (Some cause.Total)) (sym fits)

-- where nothing refuses a member, items don't
no_items : (fs : List Frame) (items : ℕ) (other : Option Cause) → None ≡ items_cause fs items other →
    (None ≡ other) × ((another : Option Cause) → None ≡ another → None ≡ items_cause fs items another)
no_items [] items other e = (e, λ another f. f)
no_items (f ∷ fs) items other e = by_all (has_all f.kind f.shape items) e
  where
    by_all : (b : Bool) → None ≡ cond b (Some cause.Items) other →
        (None ≡ other) × ((another : Option Cause) → None ≡ another → None ≡ cond b (Some cause.Items) another)
    by_all true e = absurd (cc)
    by_all false e = (e, λ another f. f)

same_bounds : (s : Place) (fs : List Frame) → (after_begin_in s fs).bounds ≡ s.bounds
same_bounds s [] = refl
same_bounds s (f ∷ fs) = refl

some_byte : (p : List ℕ) → get_or p 0 0 ≡ 36 → 0 < length p
some_byte [] e = absurd (omega (arith, e))
some_byte (b ∷ bs) e = omega arith

-- a member that begins leaves the limits as they are
pub bounds_stay : (s u : Place) → at u AtStart ≡ after_begin (at s AtStart) → u.bounds ≡ s.bounds
bounds_stay s u begun = ap (λ v. v.bounds) begun ∙ same_bounds (at s AtStart) (at s AtStart).frames

-- where a member begins that needs this many bytes more, total has room for them
pub begun_room : (s u : Place) (needed : ℕ) → None ≡ begin_cause (at s AtStart) needed → at u AtStart ≡ after_begin (at s AtStart) →
    1 + needed ≤ total_room u
begun_room s u needed none begun =
    let begins = at s AtStart in
    let other = no_items begins.frames begins.bounds.items (over_total (after_begin begins) 1 needed) none in
    let room = over_fits (after_begin begins) 1 needed other.0 in
    let rooms : total_room u ≡ total_room (after_begin begins) = ap total_room begun in
    omega (arith, room, rooms)

-- A bulk string begins for which total has room, with a head that may be read where it has.
pub short_begun : (s u : Place) (head count : ℕ) (p : List ℕ) → get_or p 0 0 ≡ 36 → 4 ≤ head → count ≤ s.bounds.length →
    None ≡ begin_cause (at s AtStart) (head + count + 1) → at u AtStart ≡ after_begin (at s AtStart) →
    ((v : Place) → count ≤ v.bounds.length → head + count + 2 ≤ total_room v →
    Gave head (Text text.Bulk) (content_at count v) ≡ scan 1 (at v AtBulkHead) (drop 1 p)) →
    Gave head (Text text.Bulk) (content_at count u) ≡ scan 0 (at s AtStart) p
short_begun s u head count p byte long fits none begun reads =
    let begins = at s AtStart in
    let other = no_items begins.frames begins.bounds.items (over_total (after_begin begins) 1 (head + count + 1)) none in
    let room = over_fits (after_begin begins) 1 (head + count + 1) other.0 in
    let small : None ≡ begin_cause begins 4 =
    other.1 (over_total (after_begin begins) 1 4) (fits_over (after_begin begins) 1 4 (omega (arith, room, long))) in
    let bounds : u.bounds ≡ s.bounds = ap (λ v. v.bounds) begun ∙ same_bounds begins begins.frames in
    let rooms : total_room u ≡ total_room (after_begin begins) = ap total_room begun in
    reads u (omega (arith, fits, ap (λ b. b.length) bounds)) (omega (arith, room, rooms))
    ∙ sym (begun_answer begins u 4 AtBulkHead (drop 1 p) small begun) ∙ first_is s p 36 (some_byte p byte) byte
