-- Reading a piece up to the next event.
use Rattle.std.specs.Prelude.{ℕ, ◌+◌, List, [], ◌∷◌}
use Rattle.resp_value.specs.declared.cause.Cause.{Cause}
use Rattle.resp_scan.specs.declared.frame.Frame.{Frame}
use Rattle.resp_scan.specs.Machine.Tokens.{Token, Place, Happening, Move, Go, Byte, Give, Refuse, at, at_boundary, TextEnd, Close, Digit, AtStart, AtEnd, AtBigDigit, InBig, AtTextEnd, Dead}
use Rattle.resp_scan.specs.Machine.Moves.{next}

-- the bytes of the piece that are used, and the event after them
pub data Out : Type 0 where
  -- the piece has ended
  More : ℕ → Place → Out
  Gave : ℕ → Happening → Place → Out
  -- the bytes from the first number to the second are content
  Part : ℕ → ℕ → Place → Out
  -- the value is complete
  Whole : Place → Out
  Bad : ℕ → Cause → Place → Out

-- continues after a byte of content, and stops at any other move
abbrev pub and_more : Move → ℕ × Place → (Place → ℕ × Place) → ℕ × Place
and_more (Byte t) stop more = more t
and_more (Go t) stop more = stop
and_more (Give e t) stop more = stop
and_more (Refuse c) stop more = stop

-- the number of bytes used after the content at the beginning, and the place after them
abbrev pub content : ℕ → Place → List ℕ → ℕ × Place
content i s [] = (i, s)
content i s (b ∷ bs) = and_more (next s (i + 1) b) (i, s) (λ t. content (i + 1) t bs)

-- the result of a move: more of the piece, consecutive content, an event, or a fault
abbrev pub answer : Move → ℕ → Place → (Place → Out) → (Place → ℕ × Place) → Out
answer (Go t) i s more rest = more t
answer (Byte t) i s more rest = Part i (rest t).0 (rest t).1
answer (Give e t) i s more rest = Gave (i + 1) e t
answer (Refuse c) i s more rest = Bad i c (at s (Dead c))

-- the result of the rest of a piece of which this many bytes are used
abbrev pub scan : ℕ → Place → List ℕ → Out
scan i s [] = More i s
scan i s (b ∷ bs) = answer (next s (i + 1) b) i s (λ t. scan (i + 1) t bs) (λ t. content (i + 1) t bs)

-- the event due after a value has ended: the close of its aggregate, or the end of the value
abbrev pub out_at_end : Place → List Frame → Out
out_at_end s [] = Whole (record s { token = AtStart; taken = 0 })
out_at_end s (f ∷ fs) = Gave 0 Close (at_boundary (record s { frames = fs }))

-- the event due at this token, or the result of the piece
abbrev pub out_from_token : Token → Place → List ℕ → Out
out_from_token AtEnd s p = out_at_end s s.frames
out_from_token AtTextEnd s p = Gave 0 TextEnd (at_boundary s)
out_from_token (AtBigDigit d room) s p = Gave 0 (Digit d) (at s (InBig room))
out_from_token (Dead c) s p = Bad 0 c s
out_from_token _ s p = scan 0 s p

-- the event due, or the result of the piece
abbrev pub out_from : Place → List ℕ → Out
out_from s p = out_from_token s.token s p
