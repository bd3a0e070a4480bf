-- Where the events of a tree come: at bytes of its text.
use Rattle.std.proofs.Common.{◌≡◌, ℕ, ◌+◌, ◌-◌, ◌<◌, ◌≤◌, Bool, List, [], ◌∷◌, ◌++◌, length, arith, length-append}
use Rattle.std.specs.List.{AllByRecursion}
use Rattle.resp_value.specs.Bytes.{crlf}
use Rattle.resp_value.specs.Numbers.{sign_text, significant_digits, is_below_zero}
use Rattle.resp_value.specs.Trees as t
use Rattle.resp_value.specs.Trees.{Tree, Trees, leaf, node, none, more, Leaf, line, numeral, null, truth, string, chunked, Form, Chunk, chunks_text, text, texts, close, kind_byte, form_line, leaf_text, leaf_rest, leaf_line, payload, number_byte, null_line, truth_line}
use Rattle.resp_value.proofs.DigitLemmas.{length-significant_digits}
use Rattle.resp_value.proofs.DefaultLimits.{text_at_least}
use Rattle.resp_fronts.specs.Frames.{Frame, text_around}
use Rattle.resp_fronts.specs.Events.{TextKind, line_text_kind, Bulk, BulkError, Verbatim, Big, Timed, bytes_from, text_events, last_of, big_events, chunk_events, leaf_events, events, events_each, frame_events, events_around}
use Rattle.resp_fronts.proofs.EventLaws.EventsAround.{next_member_at}

-- each event comes at one of the bytes from here to there
abbrev pub AreWithin : ℕ → ℕ → List Timed → Type 0
AreWithin from to es = AllByRecursion (λ e. (from ≤ e.at) × (e.at < to)) es

-- one list after another
pub within-append : (from to : ℕ) (a b : List Timed) → AreWithin from to a → AreWithin from to b → AreWithin from to (a ++ b)
within-append from to [] b p q = q
within-append from to (e ∷ a) b p q = (p.0, within-append from to a b p.1 q)

-- a wider place
pub within_wider : (from to from' to' : ℕ) (es : List Timed) → from' ≤ from → to ≤ to' → AreWithin from to es → AreWithin from' to' es
within_wider from to from' to' [] l g p = tt
within_wider from to from' to' (e ∷ es) l g p = ((omega (arith, p.0.0), omega (arith, p.0.1)), within_wider from to from' to' es l g p.1)

bytes_within : (at : ℕ) (bytes : List ℕ) → AreWithin at (at + length bytes) (bytes_from at bytes)
bytes_within at [] = tt
bytes_within at (byte ∷ bytes) = (
  (omega arith, omega arith),
  within_wider (at + 1) (at + 1 + length bytes) at (at + length (byte ∷ bytes))
      (bytes_from (at + 1) bytes) (omega arith) (omega arith) (bytes_within (at + 1) bytes),
)

text_within : (kind : TextKind) (begins from : ℕ) (content : List ℕ) (ends low high : ℕ) → low ≤ begins → begins < high → low ≤ from →
    from + length content ≤ high → low ≤ ends → ends < high → AreWithin low high (text_events kind begins from content ends)
text_within kind begins from content ends low high a b c d e f = (
  (a, b),
  within-append low high (bytes_from from content) _ (within_wider from (from + length content) low high (bytes_from from content) c d
      (bytes_within from content)) ((e, f), tt),
)

big_within : (negative : Bool) (digits : List ℕ) (last low : ℕ) → low + 2 + length digits ≤ last → AreWithin low (last + 1) (big_events negative digits last)
big_within negative [] last low h = text_within (Big negative) last last [] last low (last + 1) (omega arith) (omega arith) (omega arith) (omega arith)
    (omega arith) (omega arith)
big_within negative (d ∷ ds) last low h = text_within (Big negative) (last - 2 - length ds) (last - 2 - length ds) (d ∷ ds) last low (last + 1) (omega arith)
    (omega arith) (omega arith) (omega arith) (omega arith) (omega arith)

chunks_within : (at : ℕ) (cs : List Chunk) (rest : List ℕ) → AreWithin at (at + length (chunks_text cs rest)) (chunk_events at cs)
chunks_within at [] rest = tt
chunks_within at (c ∷ cs) rest =
    let whole : length (chunks_text (c ∷ cs) rest) ≡ length c.digits + length c.content + 5 + length (chunks_text cs rest) =
    omega (arith, length-append (59 ∷ c.digits) (crlf (c.content ++ crlf (chunks_text cs rest))), length-append c.content (crlf (chunks_text cs rest))) in
    within-append at (at + length (chunks_text (c ∷ cs) rest)) (bytes_from (at + length c.digits + 3) c.content)
    (chunk_events (at + length c.digits + length c.content + 5) cs)
    (within_wider (at + length c.digits + 3) (at + length c.digits + 3 + length c.content) at (at + length (chunks_text (c ∷ cs) rest))
    (bytes_from (at + length c.digits + 3) c.content) (omega arith) (omega arith) (bytes_within (at + length c.digits + 3) c.content))
    (within_wider (at + length c.digits + length c.content + 5) (at + length c.digits + length c.content + 5 + length (chunks_text cs rest))
    at (at + length (chunks_text (c ∷ cs) rest)) (chunk_events (at + length c.digits + length c.content + 5) cs) (omega arith) (omega arith)
    (chunks_within (at + length c.digits + length c.content + 5) cs rest))

leaf_within : (from : ℕ) (l : Leaf) → AreWithin from (from + length (leaf_text l)) (leaf_events from l)
leaf_within from (line k s) =
    let n : length (leaf_text (line k s)) ≡ length s + 3 = omega (arith, length-append s (crlf [])) in
    text_within (line_text_kind k) from (from + 1) s (last_of from (leaf_text (line k s))) from (from + length (leaf_text (line k s))) (omega arith)
    (omega arith) (omega arith) (omega arith) (omega arith) (omega arith)
leaf_within from (numeral t.Int sign digits) = let n = text_at_least (leaf (numeral t.Int sign digits)) in ((omega arith, omega arith), tt)
leaf_within from (numeral t.Big sign digits) =
    let whole = leaf_text (numeral t.Big sign digits) in
    let n : length whole ≡ length (sign_text sign) + length digits + 3 =
    omega (arith, length-append (40 ∷ (sign_text sign ++ digits)) (crlf []), length-append (sign_text sign) digits) in
    within_wider from (last_of from whole + 1) from (from + length whole)
    (big_events (is_below_zero sign digits) (significant_digits digits) (last_of from whole)) (omega arith) (omega arith)
    (big_within (is_below_zero sign digits) (significant_digits digits) (last_of from whole) from (omega (arith, length-significant_digits digits)))
leaf_within from (null form) = let n = text_at_least (leaf (null form)) in ((omega arith, omega arith), tt)
leaf_within from (truth b) = let n = text_at_least (leaf (truth b)) in ((omega arith, omega arith), tt)
leaf_within from (string t.Bulk digits s) =
    let whole = leaf_text (string t.Bulk digits s) in
    let n : length whole ≡ length digits + length s + 5 = omega (arith, length-append (36 ∷ digits) (crlf (s ++ crlf [])), length-append s (crlf [])) in
    text_within Bulk (from + length digits + 2) (from + length digits + 3) s (last_of from whole) from (from + length whole) (omega arith) (omega arith)
    (omega arith) (omega arith) (omega arith) (omega arith)
leaf_within from (string t.BulkError digits s) =
    let whole = leaf_text (string t.BulkError digits s) in
    let n : length whole ≡ length digits + length s + 5 = omega (arith, length-append (33 ∷ digits) (crlf (s ++ crlf [])), length-append s (crlf [])) in
    text_within BulkError (from + length digits + 2) (from + length digits + 3) s (last_of from whole) from (from + length whole) (omega arith) (omega arith)
    (omega arith) (omega arith) (omega arith) (omega arith)
leaf_within from (string (t.Verbatim format) digits s) =
    let whole = leaf_text (string (t.Verbatim format) digits s) in
    let n : length whole ≡ length digits + length format + length s + 6 =
    omega (
      arith,
      length-append (61 ∷ digits) (crlf ((format ++ 58 ∷ s) ++ crlf [])),
      length-append (format ++ 58 ∷ s) (crlf []),
      length-append format (58 ∷ s),
    ) in
    text_within (Verbatim format) (from + length digits + length format + 3) (from + length digits + length format + 4) s (last_of from whole) from
    (from + length whole) (omega arith) (omega arith) (omega arith) (omega arith) (omega arith) (omega arith)
leaf_within from (chunked chunks zeros) =
    let whole = leaf_text (chunked chunks zeros) in
    let rest = (59 ∷ zeros) ++ crlf [] in
    let n : length whole ≡ length (chunks_text chunks rest) + 4 = omega arith in
    let m = text_at_least (leaf (chunked chunks zeros)) in (
      (omega arith, omega arith),
      within-append from (from + length whole) (chunk_events (from + 4) chunks) _
          (within_wider (from + 4) (from + 4 + length (chunks_text chunks rest)) from (from + length whole) (chunk_events (from + 4) chunks) (omega arith)
          (omega arith) (chunks_within (from + 4) chunks rest))
          ((omega arith, omega arith), tt),
    )

mutual
  -- the events of a tree come at its bytes
  pub events_within : (from : ℕ) (u : Tree) → AreWithin from (from + length (text u)) (events from u)
  events_within from (leaf l) = leaf_within from l
  events_within from (node k form ts) =
      let whole = text (node k form ts) in
      let n : length whole ≡ length (form_line form) + 3 + length (texts ts) + length (close form) =
      omega (arith, length-append (kind_byte k ∷ form_line form) (crlf (texts ts ++ close form)), length-append (texts ts) (close form)) in (
        (omega arith, omega arith),
        within-append from (from + length whole) (events_each (from + length (form_line form) + 3) ts) _
            (within_wider (from + length (form_line form) + 3) (from + length (form_line form) + 3 + length (texts ts)) from (from + length whole)
            (events_each (from + length (form_line form) + 3) ts) (omega arith) (omega arith) (each_within (from + length (form_line form) + 3) ts))
            ((omega arith, omega arith), tt),
      )

  pub each_within : (from : ℕ) (ts : Trees) → AreWithin from (from + length (texts ts)) (events_each from ts)
  each_within from none = tt
  each_within from (more u ts) =
      let n = length-append (text u) (texts ts) in
      within-append from (from + length (text u ++ texts ts)) (events from u) (events_each (from + length (text u)) ts)
      (within_wider from (from + length (text u)) from (from + length (text u ++ texts ts)) (events from u) (omega arith) (omega arith) (events_within from u))
      (within_wider (from + length (text u)) (from + length (text u) + length (texts ts)) from (from + length (text u ++ texts ts))
      (events_each (from + length (text u)) ts) (omega arith) (omega arith) (each_within (from + length (text u)) ts))

-- the events of what the frames have taken come at its bytes
pub around_within : (frames : List Frame) → AreWithin 0 (length (text_around frames [])) (events_around frames)
around_within [] = tt
around_within (f ∷ fs) =
    let start = length (text_around fs []) in
    let end = length (text_around (f ∷ fs) []) in
    let n = next_member_at f fs in
    within-append 0 end (events_around fs) (frame_events start f)
    (within_wider 0 start 0 end (events_around fs) (omega arith) (omega arith) (around_within fs)) (
      (omega arith, omega arith),
      within_wider (start + length (form_line f.form) + 3) (start + length (form_line f.form) + 3 + length (texts f.done)) 0 end
          (events_each (start + length (form_line f.form) + 3) f.done) (omega arith) (omega arith) (each_within (start + length (form_line f.form) + 3) f.done),
    )
