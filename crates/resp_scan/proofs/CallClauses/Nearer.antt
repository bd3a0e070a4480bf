-- An event that uses no byte is one of those owed: where it leads, fewer are owed.
use Rattle.std.specs.Prelude.{cond, eqb, true, false}
use Rattle.std.proofs.Common.{◌≡◌, ℕ, ◌+◌, ◌<◌, ◌≤◌, List, [], ◌∷◌, length, ap, arith}
use Rattle.resp_value.specs.declared.kind.OpenKind.{OpenKind}
use Rattle.resp_fronts.specs.Events as e
use Rattle.resp_scan.specs.declared.frame.Frame.{Frame}
use Rattle.resp_scan.specs.declared.frame.Shape.{Shape}
use Rattle.resp_scan.specs.declared.frame.Shape.TheVariants.{Left, Begun}
use Rattle.resp_scan.specs.Machine.Tokens.{Token, Place, Move, Go, Byte, Give, Refuse, at, token_at_boundary, token_in_shape, AtStart, AtEnd, AtBigDigit, AtTextEnd, Dead}
use Rattle.resp_scan.specs.Machine.Owed.{events_owed, events_owed_at, events_owed_at_end, events_owed_in}
use Rattle.resp_scan.specs.Machine.Moves.{next}
use Rattle.resp_scan.specs.Machine.Scan.{Out, More, Gave, Part, Whole, Bad, and_more, answer, content, out_at_end, out_from, out_from_token, scan}
use Rattle.resp_scan.specs.Machine.Sound.{IsClosed, IsSound, IsTokenSound}

-- A scan after this many bytes uses more of them where it gives an event.
abbrev UsesSome : ℕ → Out → Type 0
UsesSome i (Gave n x t) = i < n
UsesSome i (Part k n t) = i < n
UsesSome i _ = Unit {0}

weaker : (i : ℕ) (o : Out) → UsesSome (i + 1) o → UsesSome i o
weaker i (Gave n x t) h = omega (arith, h)
weaker i (Part k n t) h = omega (arith, h)
weaker i (More n t) h = tt
weaker i (Whole t) h = tt
weaker i (Bad n c t) h = tt

more_some : (v : Move) (i : ℕ) (s : Place) (more : Place → ℕ × Place) → ((t : Place) → i + 1 ≤ (more t).0) → i ≤ (and_more v (i, s) more).0
more_some (Byte t) i s more h = omega (arith, h t)
more_some (Go t) i s more h = omega arith
more_some (Give x t) i s more h = omega arith
more_some (Refuse c) i s more h = omega arith

content_some : (i : ℕ) (s : Place) (p : List ℕ) → i ≤ (content i s p).0
content_some i s [] = omega arith
content_some i s (b ∷ bs) = more_some (next s (i + 1) b) i s (λ t. content (i + 1) t bs) (λ t. content_some (i + 1) t bs)

answer_some : (v : Move) (i : ℕ) (s : Place) (more : Place → Out) (rest : Place → ℕ × Place) → ((t : Place) → UsesSome (i + 1) (more t)) →
    ((t : Place) → i + 1 ≤ (rest t).0) → UsesSome i (answer v i s more rest)
answer_some (Go t) i s more rest h k = weaker i (more t) (h t)
answer_some (Byte t) i s more rest h k = omega (arith, k t)
answer_some (Give x t) i s more rest h k = omega arith
answer_some (Refuse c) i s more rest h k = tt

scan_some : (i : ℕ) (s : Place) (p : List ℕ) → UsesSome i (scan i s p)
scan_some i s [] = tt
scan_some i s (b ∷ bs) = answer_some (next s (i + 1) b) i s (λ t. scan (i + 1) t bs) (λ t. content (i + 1) t bs)
    (λ t. scan_some (i + 1) t bs) (λ t. content_some (i + 1) t bs)

-- what an answer from this place leaves to give, where it uses no byte
abbrev pub IsNearer : Place → Out → Type 0
IsNearer s (Gave n x t) = n ≡ 0 → length (events_owed t) < length (events_owed s)
IsNearer s (Part k n t) = 0 < n
IsNearer s _ = Unit {0}

used_nearer : (s : Place) (o : Out) → UsesSome 0 o → IsNearer s o
used_nearer s (Gave n x t) h = λ none. absurd (omega (arith, h, none))
used_nearer s (Part k n t) h = h
used_nearer s (More n t) h = tt
used_nearer s (Whole t) h = tt
used_nearer s (Bad n c t) h = tt

-- after a value no more is owed than where it ends
boundary_owed : (fs : List Frame) → length (events_owed_at (token_at_boundary fs) fs) ≤ length (events_owed_at_end fs)
boundary_owed [] = omega arith
boundary_owed (f ∷ fs) = by_shape f.kind f.shape
  where
    by_shape : (k : OpenKind) (x : Shape) →
        length (events_owed_at (token_in_shape x) (record { kind = k; shape = x } ∷ fs)) ≤ length (events_owed_in x (events_owed_at_end fs))
    by_shape k (Begun n) = omega arith
    by_shape k (Left n) = elim (eqb n 0) as (λ b. length (events_owed_at (cond b AtEnd AtStart) (record { kind = k; shape = Left n } ∷ fs)) ≤
        length (events_owed_in (Left n) (events_owed_at_end fs))) [ true ↦ omega arith | false ↦ omega arith ]

close_nearer : (s : Place) (fs : List Frame) → IsClosed fs → IsNearer (record s { token = AtEnd; frames = fs })
    (out_at_end (record s { token = AtEnd; frames = fs }) fs)
close_nearer s [] closed = tt
close_nearer s (f ∷ fs) closed = λ none.
    let owed : events_owed_in f.shape (events_owed_at_end fs) ≡ e.Close ∷ events_owed_at_end fs = ap (λ x. events_owed_in x (events_owed_at_end fs)) closed in
    omega (arith, ap length owed, boundary_owed fs)

nearer_at : (t : Token) (s : Place) (p : List ℕ) → IsTokenSound t s.bounds.depth s.frames → IsNearer (at s t) (out_from_token t (at s t) p)
nearer_at AtEnd s p closed = close_nearer s s.frames closed
nearer_at AtTextEnd s p sound = λ none. omega (arith, boundary_owed s.frames)
nearer_at (AtBigDigit digit room) s p sound = λ none. omega arith
nearer_at (Dead c) s p sound = tt
nearer_at t s p sound = used_nearer (at s t) (scan 0 (at s t) p) (scan_some 0 (at s t) p)

-- so it is from every place
pub is_nearer : (s : Place) (p : List ℕ) → IsSound s → IsNearer s (out_from s p)
is_nearer s p sound = nearer_at s.token s p sound.token
