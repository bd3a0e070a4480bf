-- A piece keeps what stands of every place.
use Rattle.std.proofs.Common.{◌≡◌, ℕ, ◌+◌, ◌≤◌, true, false, List, [], ◌∷◌, refl, sym, ap, subst, ◌∙◌, arith}
use Rattle.std.proofs.lemmas.Bool.{false≢true}
use Rattle.resp_value.specs.Bounds.{Bounds, AreBounds}
use Rattle.resp_value.specs.declared.cause.Cause.{Cause}
use Rattle.resp_value.specs.declared.version.Version.{Version}
use Rattle.resp_scan.specs.declared.frame.Frame.{Frame}
use Rattle.resp_scan.specs.Machine.Tokens.{Token, Place, Happening, Digit, Move, Go, Byte, Give, Refuse, at, AtStart, AtEnd, AtBigDigit, InBig, AtTextEnd, Dead}
use Rattle.resp_scan.specs.Machine.Moves.{is_digit, next}
use Rattle.resp_scan.specs.Machine.Scan.{Out, More, Gave, Part, Whole, Bad, and_more, content, answer, scan, out_at_end, out_from_token, out_from}
use Rattle.resp_scan.specs.Kinds.{rules_of}
use Rattle.resp_scan.specs.Machine.Sound.{IsTokenSound, token_needed, need_of_frames, IsClosed, IsSoundBy, IsSound}
use Rattle.resp_scan.proofs.Soundness.Sound.{is_move}
use Rattle.resp_scan.proofs.Soundness.SoundMoves.{is_outside, stays, IsPlain, IsNext, IsInside, IsMove}
use Rattle.resp_scan.proofs.Soundness.SoundFrames.{sound_ended, sound_closed}

-- a digit stands after no byte
abbrev pub IsGiven : ℕ → Happening → Type 0
IsGiven n (Digit d) = (n ≡ 0) × (is_digit d ≡ true)
IsGiven n _ = Unit {0}

given : (n : ℕ) (e : Happening) → IsPlain e → IsGiven n e
given n (Digit d) h = absurd h
given n _ h = tt

-- what an answer says keeps what stands
abbrev pub IsOut : Place → Out → Type 0
IsOut s (More n t) = IsNext n s t
IsOut s (Gave n e t) = IsNext n s t × IsGiven n e
IsOut s (Part k n t) = IsNext n s t
IsOut s (Whole t) = IsSound t × (t.taken ≡ 0) × (rules_of t ≡ rules_of s)
IsOut s (Bad n c t) = IsNext n s t × (t.token ≡ Dead c)

joined : (i n : ℕ) (s t u : Place) → IsInside i s t → IsNext n t u → IsNext n s u
joined i n s t u a b = record { taken = b.taken ∙ a.taken; rules = b.rules ∙ a.rules; sound = b.sound }

out_joined : (i : ℕ) (s t : Place) (o : Out) → IsInside i s t → IsOut t o → IsOut s o
out_joined i s t (More n u) a h = joined i n s t u a h
out_joined i s t (Gave n e u) a h = (joined i n s t u a h.0, h.1)
out_joined i s t (Part k n u) a h = joined i n s t u a h
out_joined i s t (Whole u) a h = (h.0, h.1, h.2 ∙ a.rules)
out_joined i s t (Bad n c u) a h = (joined i n s t u a h.0, h.1)

same : (i : ℕ) (s : Place) → IsSoundBy i s → IsNext i s s
same i s h = record { taken = refl; rules = refl; sound = h }

no_outside : (i j : ℕ) (t : Token) → is_outside t ≡ false → is_outside t ≡ true → i ≡ j
no_outside i j t e f = absurd (false≢true (sym e ∙ f))

-- the bytes used of a run, and where it leads
abbrev IsRun : Place → ℕ × Place → Type 0
IsRun s r = IsNext r.0 s r.1

content_next : (v : Move) (i : ℕ) (s : Place) (bs : List ℕ) → IsSoundBy i s → IsMove (i + 1) s v →
    ((t : Place) → IsSoundBy (i + 1) t → is_outside t.token ≡ false → IsRun t (content (i + 1) t bs)) → IsRun s (and_more v (i, s) (λ t. content (i + 1) t bs))
content_next (Byte t) i s bs h m f = joined (i + 1) (content (i + 1) t bs).0 s t (content (i + 1) t bs).1 m (f t m.sound m.inside)
content_next _ i s bs h m f = same i s h

is_content : (i : ℕ) (s : Place) (p : List ℕ) → IsSoundBy i s → is_outside s.token ≡ false → IsRun s (content i s p)
is_content i s [] h g = same i s h
is_content i s (b ∷ bs) h g = content_next (next s (i + 1) b) i s bs h (is_move s.token s i b h (no_outside i 0 s.token g)) (λ t. is_content (i + 1) t bs)

pub dead : (i : ℕ) (s : Place) (c : Cause) → IsSoundBy i s → IsNext i s (at s (Dead c))
dead i s c h = (stays s s.token (Dead c) i i h (omega (arith, h.total)) tt).0

scan_next : (v : Move) (i : ℕ) (s : Place) (bs : List ℕ) → IsSoundBy i s → IsMove (i + 1) s v →
    ((t : Place) → IsSoundBy (i + 1) t → is_outside t.token ≡ false → IsOut t (scan (i + 1) t bs)) →
    IsOut s (answer v i s (λ t. scan (i + 1) t bs) (λ t. content (i + 1) t bs))
scan_next (Go t) i s bs h m f = out_joined (i + 1) s t (scan (i + 1) t bs) m (f t m.sound m.inside)
scan_next (Byte t) i s bs h m f = joined (i + 1) (content (i + 1) t bs).0 s t (content (i + 1) t bs).1 m (is_content (i + 1) t bs m.sound m.inside)
scan_next (Give e t) i s bs h m f = (m.0, given (i + 1) e m.1)
scan_next (Refuse c) i s bs h m f = (dead i s c h, refl)

scan_by : (i : ℕ) (s : Place) (p : List ℕ) → IsSoundBy i s → (is_outside s.token ≡ true → i ≡ 0) → IsOut s (scan i s p)
scan_by i s [] h g = same i s h
scan_by i s (b ∷ bs) h g = scan_next (next s (i + 1) b) i s bs h (is_move s.token s i b h g) (λ t k e. scan_by (i + 1) t bs k (no_outside (i + 1) 0 t.token e))

-- a scan keeps the numbers of a place
pub is_scan : (s : Place) (p : List ℕ) → IsSound s → IsOut s (scan 0 s p)
is_scan s p h = scan_by 0 s p h (λ e. refl)

is_closes : (s : Place) (fs : List Frame) → s.token ≡ AtEnd → s.frames ≡ fs → IsSound s → IsOut s (out_at_end s fs)
is_closes s [] t e h =
    let o : s.frames_need ≡ 0 = h.frames_need ∙ ap need_of_frames e in (
      record {
        bounds = h.bounds;
        nested = h.nested;
        counted = h.counted;
        frames_need = h.frames_need;
        total =
            subst (λ v. 0 + 0 + token_needed AtStart s.bounds.depth v + s.frames_need ≤ s.bounds.total) (sym e) (omega (arith, o, h.bounds.total_in_range.0));
        token = subst (λ v. IsTokenSound AtStart s.bounds.depth v) (sym e) tt;
      },
      refl,
      refl,
    )
is_closes s (f ∷ fs) t e h =
    let c : IsClosed (f ∷ fs) = subst IsClosed e (subst (λ v. IsTokenSound v s.bounds.depth s.frames) t h.token) in
    (record { taken = refl; rules = refl; sound = sound_closed s s.token (f ∷ fs) 0 0 e h c (omega (arith, h.total)) }, tt)

-- what is owed comes next
moved : (s : Place) (t u : Token) → s.token ≡ t → IsSound s → token_needed u s.bounds.depth s.frames ≤ token_needed t s.bounds.depth s.frames →
    IsTokenSound u s.bounds.depth s.frames → IsNext 0 s (at s u)
moved s t u e h q f =
    let w : s.taken + 0 + token_needed s.token s.bounds.depth s.frames + s.frames_need ≤ s.bounds.total = h.total in
    let r : token_needed s.token s.bounds.depth s.frames ≡ token_needed t s.bounds.depth s.frames = ap (λ v. token_needed v s.bounds.depth s.frames) e in
    (stays s s.token u 0 0 h (omega (arith, w, r, q)) f).0

is_in : (t : Token) (s : Place) (p : List ℕ) → s.token ≡ t → IsSound s → IsOut s (out_from_token t s p)
is_in AtEnd s p e h = is_closes s s.frames e refl h
is_in AtTextEnd s p e h = (
  record { taken = refl; rules = refl; sound = sound_ended s 0 h.bounds h.nested h.counted h.frames_need (omega (arith, h.total)) },
  tt,
)
is_in (AtBigDigit d room) s p e h = (
  moved s (AtBigDigit d room) (InBig room) e h (omega arith) tt,
  (refl, subst (λ v. IsTokenSound v s.bounds.depth s.frames) e h.token),
)
is_in (Dead c) s p e h = (same 0 s h, e)
is_in _ s p e h = is_scan s p h

-- what comes of a piece keeps the numbers of a place
pub is_advanced : (s : Place) (p : List ℕ) → IsSound s → IsOut s (out_from s p)
is_advanced s p h = is_in s.token s p refl h

-- between two values, at the start
pub sound_new : (version : Version) (bounds : Bounds) (fs : List Frame) → AreBounds bounds → fs ≡ [] →
    IsSound (record { token = AtStart; frames = fs; version = version; bounds = bounds; taken = 0; frames_need = 0 })
sound_new version bounds fs h e =
    let f : IsSound (record { token = AtStart; frames = []; version = version; bounds = bounds; taken = 0; frames_need = 0 }) =
    record { bounds = h; nested = omega arith; counted = tt; frames_need = refl; total = omega (arith, h.total_in_range.0); token = tt } in
    subst (λ v. IsSound (record { token = AtStart; frames = v; version = version; bounds = bounds; taken = 0; frames_need = 0 })) (sym e) f
