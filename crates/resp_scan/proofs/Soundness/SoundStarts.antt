-- The first byte of a value keeps the numbers of a place.
use Rattle.std.proofs.Common.{◌≡◌, ℕ, ◌<◌, ◌≤◌, false, cond, nat_le, List, [], ◌∷◌, refl, sym, subst, arith}
use Rattle.std.proofs.lemmas.Bool.{false≢true}
use Rattle.std.specs.List.{AllByRecursion}
use Rattle.std.specs.Str.{byte}
use Rattle.resp_value.specs.declared.cause.Cause.TheVariants as cause
use Rattle.resp_value.specs.declared.double_stage.DoubleStage.TheVariants.{Begun}
use Rattle.resp_value.specs.declared.version.Version.{Version}
use Rattle.resp_value.specs.declared.version.Version.TheVariants as version
use Rattle.resp_fronts.proofs.Refusals.FirstByteCauses.{at_answer, and_rows}
use Rattle.resp_scan.specs.declared.frame.Frame.{Frame}
use Rattle.resp_scan.specs.declared.machine.Head.{Head}
use Rattle.resp_scan.specs.declared.machine.Head.TheVariants as head
use Rattle.resp_scan.specs.Machine.Tokens.{Token, Place, Happening, Text, Move, Refuse, at, AtStart, InLine, InDouble, AtIntSign, AtBigSign, AtNullCr, AtBool, AtBulkHead, AtArrayHead, AtHead}
use Rattle.resp_scan.specs.Machine.Room.{is_full, after_begin, begin_cause}
use Rattle.resp_scan.specs.Machine.Heads.{first_needed}
use Rattle.resp_scan.specs.Machine.Moves.{begin_move, line_move, double_line_move, double_move, aggregate_move, push_move, move_in_three, may_close, close_move, start_next}
use Rattle.resp_scan.specs.Machine.Sound.{token_needed, IsTokenSound, IsSoundBy}
use Rattle.resp_scan.proofs.Soundness.SoundMoves.{cond_if, is_outside, IsPlain, IsMove, unless_is, not_full}
use Rattle.resp_scan.proofs.Soundness.SoundFrames.{begun_length, begun_taken, begun_rules, sound_begun, sound_closing}
use Rattle.resp_scan.specs.declared.event.TextKind.TheVariants as text

is_begun : (s : Place) (n : ℕ) (u : Token) → IsSoundBy 0 (at s AtStart) → 0 < n → token_needed u s.bounds.depth (after_begin s).frames ≤ n →
    IsTokenSound u s.bounds.depth (after_begin s).frames → is_outside u ≡ false → IsMove 1 s (begin_move s n u)
is_begun s n u h l q f g = unless_is 1 s (begin_cause s n) _ (λ c. record {
  taken = begun_taken s s.frames;
  rules = begun_rules s s.frames;
  sound =
      sound_begun s s.frames n u refl h c l q f;
  inside = g;
})

is_line : (s : Place) (e : Happening) → IsPlain e → IsSoundBy 0 (at s AtStart) → IsMove 1 s (line_move s e)
is_line s e y h = unless_is 1 s (begin_cause s 2) _ (λ c. (
  record {
    taken = begun_taken s s.frames;
    rules = begun_rules s s.frames;
    sound =
        sound_begun s s.frames 2 (InLine s.bounds.length) refl h c (omega arith) (omega arith) tt;
  },
  y,
))

is_double_line : (s : Place) → IsSoundBy 0 (at s AtStart) → IsMove 1 s (double_line_move s)
is_double_line s h = unless_is 1 s (begin_cause s 3) _ (λ c. (
  record {
    taken = begun_taken s s.frames;
    rules = begun_rules s s.frames;
    sound =
        sound_begun s s.frames 3 (InDouble Begun s.bounds.length) refl h c (omega arith) (omega arith) tt;
  },
  tt,
))

is_aggregate : (s : Place) (x : Head) → IsSoundBy 0 (at s AtStart) → 0 < first_needed x → IsMove 1 s (aggregate_move s x)
is_aggregate s x h l = cond_if (IsMove 1 s) (is_full s) _ _ (λ e. tt)
    (λ e. is_begun s (first_needed x) (AtHead x) h l (omega arith) (λ o. omega (arith, begun_length s s.frames refl, not_full s e)) refl)

is_push : (s : Place) (fs : List Frame) → IsSoundBy 0 (at s AtStart) → IsMove 1 s (push_move s fs)
is_push s [] h = is_aggregate s head.Push h (omega arith)
is_push s (f ∷ fs) h = tt

is_three : (i : ℕ) (s : Place) (x : Version) (v : Move) → IsMove i s v → IsMove i s (move_in_three x v)
is_three i s version.Two v m = tt
is_three i s version.Three v m = m

is_closing : (s : Place) → IsSoundBy 0 (at s AtStart) → IsMove 1 s (close_move s)
is_closing s h = cond_if (IsMove 1 s) (may_close s.frames) _ _ (λ e. record {
  taken = refl;
  rules = refl;
  sound = sound_closing s s.frames refl h e;
  inside =
      refl;
}) (λ e. tt)

is_double : (s : Place) → IsSoundBy 0 (at s AtStart) → IsMove 1 s (double_move s)
is_double s h = cond_if (IsMove 1 s) s.bounds.doubles _ _ (λ e. is_three 1 s s.version _ (is_double_line s h)) (λ e. tt)

-- each byte at which a value or a close begins, with its move
abbrev pub start_rows : Place → List (ℕ × Move)
start_rows s =
    (byte "+", line_move s (Text text.Simple))
    ∷ (byte "-", line_move s (Text text.Error))
    ∷ (byte ":", begin_move s 3 AtIntSign)
    ∷ (byte "$", begin_move s 4 AtBulkHead)
    ∷ (byte "*", begin_move s (cond (is_full s) 4 3) AtArrayHead)
    ∷ (byte ".", close_move s)
    ∷ (byte ",", double_move s)
    ∷ (byte "_", move_in_three s.version (begin_move s 2 AtNullCr))
    ∷ (byte "#", move_in_three s.version (begin_move s 3 AtBool))
    ∷ (byte "(", move_in_three s.version (begin_move s 3 AtBigSign))
    ∷ (byte "!", move_in_three s.version (begin_move s 5 (AtHead head.BulkError)))
    ∷ (byte "=", move_in_three s.version (begin_move s 9 (AtHead head.Verbatim)))
    ∷ (byte "~", move_in_three s.version (aggregate_move s head.Set))
    ∷ (byte "%", move_in_three s.version (aggregate_move s head.Map))
    ∷ (byte "|", move_in_three s.version (aggregate_move s head.Attr))
    ∷ (byte ">", move_in_three s.version (push_move s s.frames))
    ∷ []

array_some : (s : Place) → 0 < cond (is_full s) 4 3
array_some s = cond_if (λ n. 0 < n) (is_full s) 4 3 (λ e. omega arith) (λ e. omega arith)

array_needed : (s : Place) → token_needed AtArrayHead s.bounds.depth (after_begin s).frames ≤ cond (is_full s) 4 3
array_needed s = subst (λ n. cond (nat_le s.bounds.depth n) 4 3 ≤ cond (is_full s) 4 3) (sym (begun_length s s.frames refl)) (omega arith)

-- each of these bytes keeps the numbers of a place
are_first : (s : Place) → IsSoundBy 0 (at s AtStart) → AllByRecursion (λ row. IsMove 1 s row.1) (start_rows s)
are_first s h =
    and_rows (is_line s _ tt h)
    (and_rows (is_line s _ tt h)
    (and_rows (is_begun s 3 AtIntSign h (omega arith) (omega arith) tt refl)
    (and_rows (is_begun s 4 AtBulkHead h (omega arith) (omega arith) tt refl)
    (and_rows (is_begun s (cond (is_full s) 4 3) AtArrayHead h (array_some s) (array_needed s) tt refl)
    (and_rows (is_closing s h)
    (and_rows (is_double s h)
    (and_rows (is_three 1 s s.version _ (is_begun s 2 AtNullCr h (omega arith) (omega arith) tt refl))
    (and_rows (is_three 1 s s.version _ (is_begun s 3 AtBool h (omega arith) (omega arith) tt refl))
    (and_rows (is_three 1 s s.version _ (is_begun s 3 AtBigSign h (omega arith) (omega arith) tt refl))
    (and_rows (is_three 1 s s.version _ (is_begun s 5 (AtHead head.BulkError) h (omega arith) (omega arith) (λ o. absurd (false≢true o)) refl))
    (and_rows (is_three 1 s s.version _ (is_begun s 9 (AtHead head.Verbatim) h (omega arith) (omega arith) (λ o. absurd (false≢true o)) refl))
    (and_rows (is_three 1 s s.version _ (is_aggregate s head.Set h (omega arith)))
    (and_rows (is_three 1 s s.version _ (is_aggregate s head.Map h (omega arith)))
    (and_rows (is_three 1 s s.version _ (is_aggregate s head.Attr h (omega arith)))
    (and_rows (is_three 1 s s.version _ (is_push s s.frames h)) tt)))))))))))))))

-- every byte where a value may begin keeps the numbers of a place
pub is_first : (s : Place) (b : ℕ) → IsSoundBy 0 (at s AtStart) → IsMove 1 s (start_next s b)
is_first s b h = at_answer (λ x v. IsMove 1 s v) (start_rows s) (Refuse cause.Syntax) b (are_first s h) (λ apart. tt)
