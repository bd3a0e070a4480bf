-- What a token says of the machine's fields.
use Rattle.std.proofs.Common.{◌≡◌, ◌≢◌, ℕ, ◌+◌, ◌*◌, ◌^◌, ◌<◌, ◌≤◌, true, eqb, List, [], ◌∷◌, length, Some, refl, ap, subst, ◌∙◌, arith}
use Rattle.std.proofs.lemmas.Bool.{false≢true}
use Rattle.std.proofs.lemmas.Bool.Decides.{nat_tests}
use Rattle.resp_scan.specs.declared.frame.Frame.{Frame}
use Rattle.resp_scan.specs.declared.frame.Shape.{Shape}
use Rattle.resp_scan.specs.declared.frame.Shape.TheVariants.{Left, Begun}
use Rattle.resp_scan.specs.declared.machine.State.{State}
use Rattle.resp_scan.specs.declared.machine.State.TheVariants as state
use Rattle.resp_scan.specs.declared.machine.Machine.{Machine}
use Rattle.resp_scan.specs.Machine.Magnitudes.{greatest_magnitude}
use Rattle.resp_scan.specs.Machine.Tokens.{Place, at, token_at_boundary, token_in_shape, AtStart, AtEnd}
use Rattle.resp_scan.specs.Machine.Heads.{head_needed, may_end, HasFrame}
use Rattle.resp_scan.specs.Machine.Room.{begun_count, innermost}
use Rattle.resp_scan.specs.Machine.Moves.{may_close}
use Rattle.resp_scan.specs.Machine.Fields.{place_of, token_at}
use Rattle.resp_scan.specs.Machine.Sound.{IsWithinRoom, MayHaveMore, IsOpenShape, need_of_frame, need_of_frames, IsSound, AreCounted, token_needed}
use Rattle.resp_scan.proofs.Soundness.SoundMoves.{cond_if}
use Rattle.resp_scan.proofs.Soundness.SoundHeads.{head_more}
use Rattle.resp_scan.proofs.Soundness.SoundFrames.{closes_three}

-- the place of a machine whose state is known
there : (m : Machine) (x : State) → IsSound (place_of m) → m.state ≡ x → IsSound (at (place_of m) (token_at x m))
there m x h e = subst (λ v. IsSound (at (place_of m) (token_at v m))) e h

-- the bytes that a sound machine needs are few
pub few_needed : (m : Machine) (x : State) → IsSound (place_of m) → m.state ≡ x →
    m.frames_need + token_needed (token_at x m) m.limits.depth (place_of m).frames ≤ 2 ^ 40
few_needed m x h e = let k = there m x h e in omega (arith, k.total, k.bounds.total_in_range.1)

-- a sound machine at a start has a sound place
pub sound_start : (m : Machine) → IsSound (place_of m) → m.state ≡ state.Start → IsSound (at (place_of m) AtStart)
sound_start m h e = there m state.Start h e

within_open : (f : Frame) (fs : List Frame) (x : Shape) → f.shape ≡ x → x ≢ Left 0 → token_at_boundary (f ∷ fs) ≡ AtStart
within_open f fs (Left n) e h = ap token_in_shape e ∙ cond_if (λ t. t ≡ AtStart) (eqb n 0) AtEnd AtStart
    (λ z. absurd (h (ap Left (let w : n ≡ 0 = grind (arith, nat_tests) in w)))) (λ z. refl)
within_open f fs (Begun n) e h = ap token_in_shape e

-- after a member that isn't the last of its aggregate the next may begin
pub sound_member : (m : Machine) (f : Frame) (fs : List Frame) → IsSound (place_of m) → m.state ≡ state.Boundary → (place_of m).frames ≡ f ∷ fs →
    f.shape ≢ Left 0 → IsSound (at (place_of m) AtStart)
sound_member m f fs h e q n = subst (λ t. IsSound (at (place_of m) t)) (ap token_at_boundary q ∙ within_open f fs f.shape refl n) (there m state.Boundary h e)

-- an integer so far is no greater than it may be
pub int_most : (m : Machine) → IsSound (place_of m) → m.state ≡ state.Int → m.magnitude ≤ greatest_magnitude m.negative
int_most m h e = (there m state.Int h e).token

-- an integer after its CR is no greater than it may be
pub int_lf_most : (m : Machine) → IsSound (place_of m) → m.state ≡ state.IntLf → m.magnitude ≤ greatest_magnitude m.negative
int_lf_most m h e = (there m state.IntLf h e).token

-- content has a byte to come
pub content_some : (m : Machine) → IsSound (place_of m) → m.state ≡ state.Content → 0 < m.count
content_some m h e = (there m state.Content h e).token

-- a chunk's content has a byte to come
pub chunk_some : (m : Machine) → IsSound (place_of m) → m.state ≡ state.ChunkContent → 0 < m.count
chunk_some m h e = (there m state.ChunkContent h e).token

-- there is room for the frame of a head at its first byte
pub first_frame : (m : Machine) → IsSound (place_of m) → m.state ≡ state.HeadFirst → HasFrame (place_of m) m.head
first_frame m h e = let k = there m state.HeadFirst h e in λ o. let l : length (place_of m).frames < m.limits.depth = k.token o in
    omega (arith, l, k.bounds.depth_in_range.1)

-- there is room for the frame of a head at its digits
pub more_frame : (m : Machine) → IsSound (place_of m) → m.state ≡ state.HeadMore → HasFrame (place_of m) m.head
more_frame m h e = let k = there m state.HeadMore h e in λ o. let l : length (place_of m).frames < m.limits.depth = k.token.0 o in
    omega (arith, l, k.bounds.depth_in_range.1)

-- the number of a head fits its room
pub more_room : (m : Machine) → IsSound (place_of m) → m.state ≡ state.HeadMore → IsWithinRoom m.head m.count
more_room m h e = (there m state.HeadMore h e).token.1

-- the bytes that a head and its frames need are few
pub more_need : (m : Machine) → IsSound (place_of m) → m.state ≡ state.HeadMore → m.frames_need + head_needed m.head m.count ≤ 2 ^ 41
more_need m h e = omega (arith, few_needed m state.HeadMore h e)

-- the number of a head is small
pub more_few : (m : Machine) → IsSound (place_of m) → m.state ≡ state.HeadMore → m.count ≤ 2 ^ 40
more_few m h e = omega (arith, few_needed m state.HeadMore h e, head_more m.head m.count)

-- there is room for the frame of a head at its LF
pub lf_frame : (m : Machine) → IsSound (place_of m) → m.state ≡ state.HeadLf → HasFrame (place_of m) m.head
lf_frame m h e = let k = there m state.HeadLf h e in λ o. let l : length (place_of m).frames < m.limits.depth = k.token.0 o in
    omega (arith, l, k.bounds.depth_in_range.1)

-- the bytes that a head and its frames need at its LF are few
pub lf_need : (m : Machine) → IsSound (place_of m) → m.state ≡ state.HeadLf → m.frames_need + head_needed m.head m.count ≤ 2 ^ 41
lf_need m h e = omega (arith, few_needed m state.HeadLf h e)

-- the number of a head at its LF is small
pub lf_few : (m : Machine) → IsSound (place_of m) → m.state ≡ state.HeadLf → m.count ≤ 2 ^ 40
lf_few m h e = omega (arith, few_needed m state.HeadLf h e, head_more m.head m.count)

-- a streamed aggregate's head at its CR is below the greatest depth
pub open_cr_level : (m : Machine) → IsSound (place_of m) → m.state ≡ state.OpenCr → length (place_of m).frames < 128
open_cr_level m h e = let k = there m state.OpenCr h e in let l : length (place_of m).frames < m.limits.depth = k.token in
    omega (arith, l, k.bounds.depth_in_range.1)

-- a streamed aggregate's head at its LF is below the greatest depth
pub open_lf_level : (m : Machine) → IsSound (place_of m) → m.state ≡ state.OpenLf → length (place_of m).frames < 128
open_lf_level m h e = let k = there m state.OpenLf h e in let l : length (place_of m).frames < m.limits.depth = k.token in
    omega (arith, l, k.bounds.depth_in_range.1)

-- the bytes to come at the first byte of a format are few
pub format_first_few : (m : Machine) → IsSound (place_of m) → m.state ≡ state.FormatFirst → m.count + 2 ≤ 2 ^ 40
format_first_few m h e = omega (arith, few_needed m state.FormatFirst h e)

-- the bytes to come at the second byte of a format are few
pub format_second_few : (m : Machine) → IsSound (place_of m) → m.state ≡ state.FormatSecond → m.count + 1 ≤ 2 ^ 40
format_second_few m h e = omega (arith, few_needed m state.FormatSecond h e)

-- the number of a head at its LF fits its room
pub lf_room : (m : Machine) → IsSound (place_of m) → m.state ≡ state.HeadLf → IsWithinRoom m.head m.count
lf_room m h e = (there m state.HeadLf h e).token.1

-- the number of a head at its LF may end there
pub lf_ends : (m : Machine) → IsSound (place_of m) → m.state ≡ state.HeadLf → may_end m.head m.count ≡ true
lf_ends m h e = (there m state.HeadLf h e).token.2

-- a verbatim string has four bytes at the first byte of its format
pub first_four : (m : Machine) → IsSound (place_of m) → m.state ≡ state.FormatFirst → 4 ≤ m.count
first_four m h e = (there m state.FormatFirst h e).token

-- a verbatim string has four bytes at the second byte of its format
pub second_four : (m : Machine) → IsSound (place_of m) → m.state ≡ state.FormatSecond → 4 ≤ m.count
second_four m h e = (there m state.FormatSecond h e).token

-- a verbatim string has four bytes at the third byte of its format
pub third_four : (m : Machine) → IsSound (place_of m) → m.state ≡ state.FormatThird → 4 ≤ m.count
third_four m h e = (there m state.FormatThird h e).token

-- a verbatim string has four bytes at its `:`
pub colon_four : (m : Machine) → IsSound (place_of m) → m.state ≡ state.FormatColon → 4 ≤ m.count
colon_four m h e = (there m state.FormatColon h e).token

-- the bytes of content to come are few
pub content_few : (m : Machine) → IsSound (place_of m) → m.state ≡ state.Content → m.count + 2 ≤ 2 ^ 40
content_few m h e = omega (arith, few_needed m state.Content h e)

-- the bytes of a chunk's content to come are few
pub chunk_few : (m : Machine) → IsSound (place_of m) → m.state ≡ state.ChunkContent → m.count + 6 ≤ 2 ^ 40
chunk_few m h e = omega (arith, few_needed m state.ChunkContent h e)

-- What holds of the innermost aggregate where a member may begin.

top_open : (fs : List Frame) (f : Frame) → innermost fs ≡ Some f → MayHaveMore fs → IsOpenShape f.shape
top_open [] f e h = absurd (cc)
top_open (g ∷ fs) f e h = let q : g ≡ f = cc in subst (λ v. IsOpenShape v.shape) q h

top_need : (fs : List Frame) (f : Frame) → innermost fs ≡ Some f → need_of_frame f.kind f.shape ≤ need_of_frames fs
top_need [] f e = absurd (cc)
top_need (g ∷ fs) f e = let q : g ≡ f = cc in subst (λ v. need_of_frame v.kind v.shape ≤ need_of_frames (g ∷ fs)) q (omega arith)

top_few : (items : ℕ) (fs : List Frame) (f : Frame) → innermost fs ≡ Some f → AreCounted items fs → begun_count f.shape ≤ items * 2
top_few items [] f e h = absurd (cc)
top_few items (g ∷ fs) f e h = let q : g ≡ f = cc in subst (λ v. begun_count v.shape ≤ items * 2) q h.0

-- the innermost frame of a place
pub record IsTop (s : Place) (f : Frame) : Type 0 where
  pub more : IsOpenShape f.shape
  pub frames_need : need_of_frame f.kind f.shape ≤ s.frames_need
  pub few : s.frames_need < 2 ^ 62
  pub counted : begun_count f.shape < 2 ^ 62

-- the innermost frame that a place shows
pub top_is : (s : Place) (f : Frame) → IsSound (at s AtStart) → innermost s.frames ≡ Some f → IsTop s f
top_is s f h e =
    let c : begun_count f.shape ≤ s.bounds.items * 2 = top_few s.bounds.items s.frames f e h.counted in
    let o : s.frames_need ≡ need_of_frames s.frames = h.frames_need in
    let w : s.taken + 0 + token_needed AtStart s.bounds.depth s.frames + s.frames_need ≤ s.bounds.total = h.total in
    record {
      more = top_open s.frames f e h.token;
      frames_need = omega (arith, o, top_need s.frames f e);
      few = omega (arith, w, h.bounds.total_in_range.1);
      counted = omega (arith, c, h.bounds.items_in_range.1);
    }

closing_three : (fs : List Frame) → may_close fs ≡ true → 3 ≤ need_of_frames fs
closing_three [] m = absurd (false≢true m)
closing_three (f ∷ fs) m = omega (arith, closes_three f.kind f.shape m)

-- a close was owed
pub close_owed : (s : Place) → IsSound (at s AtStart) → may_close s.frames ≡ true → 3 ≤ s.frames_need
close_owed s h m = let o : s.frames_need ≡ need_of_frames s.frames = h.frames_need in omega (arith, o, closing_three s.frames m)

-- what each token says of the machine's fields
pub ruleset tokens_fit = (
  sound_start,
  int_most,
  int_lf_most,
  content_some,
  chunk_some,
  first_frame,
  more_frame,
  more_need,
  more_few,
  lf_few,
  lf_ends,
  lf_room,
  more_room,
  first_four,
  second_four,
  third_four,
  colon_four,
  lf_frame,
  lf_need,
  open_cr_level,
  open_lf_level,
)

-- what each token needs is a number that a `u64` holds
pub ruleset needs_fit = (more_few, lf_few, head_more, format_first_few, format_second_few, colon_four, content_few, chunk_few)

-- what the tokens in which a piece often begins say
pub ruleset hot_tokens = (sound_start, content_some)
