-- The events due of a text: that it begins, and of its content the bytes that have come.
use Rattle.std.proofs.Common.{◌≡◌, ℕ, suc, ◌+◌, ◌<◌, ◌≤◌, List, [], ◌∷◌, ◌++◌, length, sym, ap, subst, ◌∙◌, arith}
use Rattle.std.proofs.lemmas.Bool.{lt-ltb}
use Rattle.resp_value.specs.Trees.{Chunk}
use Rattle.resp_fronts.specs.Events as e
use Rattle.resp_fronts.specs.Events.{TextKind, Timed, bytes_from, chunk_events, events_due, text_events}
use Rattle.resp_fronts.proofs.EventLaws.EventsDue.{AreFrom, due_none}
use Rattle.resp_scan.specs.Kinds.{content_events}
use Rattle.resp_scan.proofs.DueEvents.FramesDue.{from-append}

-- content that comes after a byte
pub bytes_later : (n from : ℕ) (s : List ℕ) → n ≤ from → AreFrom n (bytes_from from s)
bytes_later n from [] l = tt
bytes_later n from (b ∷ s) l = (l, bytes_later n (from + 1) s (omega (arith, l)))

-- the events of a text come no earlier than its first
pub text_later : (n : ℕ) (k : TextKind) (begins from : ℕ) (s : List ℕ) (ends : ℕ) → n ≤ begins → n ≤ from → n ≤ ends →
    AreFrom n (text_events k begins from s ends)
text_later n k begins from s ends a b c = (a, from-append n (bytes_from from s) (record { at = ends; event = e.TextEnd } ∷ []) (bytes_later n from s b) (c, tt))

-- the events of chunks come no earlier than the first chunk
pub chunks_later : (n at : ℕ) (cs : List Chunk) → n ≤ at → AreFrom n (chunk_events at cs)
chunks_later n at [] l = tt
chunks_later n at (c ∷ cs) l =
    from-append n (bytes_from (at + length c.digits + 3) c.content) (chunk_events (at + length c.digits + length c.content + 5) cs)
    (bytes_later n (at + length c.digits + 3) c.content (omega (arith, l)))
    (chunks_later n (at + length c.digits + length c.content + 5) cs (omega (arith, l)))

-- the content before a byte, where the rest comes after it
pub due_bytes : (n from : ℕ) (a b : List ℕ) (beyond : List Timed) → from + length a ≤ n → AreFrom n (bytes_from (from + length a) b ++ beyond) →
    events_due n (bytes_from from (a ++ b) ++ beyond) ≡ content_events a
due_bytes n from [] b beyond l p =
    let here : from + 0 ≡ from = omega arith in
    ap (λ m. events_due n (bytes_from m b ++ beyond)) (sym here) ∙ due_none n (bytes_from (from + 0) b ++ beyond) p
due_bytes n from (x ∷ a) b beyond l p =
    let before : from < n = omega (arith, l) in
    let next : from + suc (length a) ≡ from + 1 + length a = omega arith in
    rw (lt-ltb from n before) (ap (λ z. e.Byte x ∷ z) (due_bytes n (from + 1) a b beyond (omega (arith, l))
    (subst (λ m. AreFrom n (bytes_from m b ++ beyond)) next p)))

-- a text that has begun, whose content is here or whole
pub due_text : (n : ℕ) (k : TextKind) (begins from : ℕ) (a b : List ℕ) (ends : ℕ) → begins < n → from + length a ≤ n →
    AreFrom n (bytes_from (from + length a) b) → n ≤ ends → events_due n (text_events k begins from (a ++ b) ends) ≡ e.Text k ∷ content_events a
due_text n k begins from a b ends begun l p later =
    rw (lt-ltb begins n begun) (ap (λ z. e.Text k ∷ z) (due_bytes n from a b (record { at = ends; event = e.TextEnd } ∷ []) l
    (from-append n (bytes_from (from + length a) b) (record { at = ends; event = e.TextEnd } ∷ []) p (later, tt))))
