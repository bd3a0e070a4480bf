-- A tree has no more events than its text has bytes, and so have the frames of a front.
use Rattle.std.proofs.Common.{◌≡◌, ℕ, ◌+◌, ◌≤◌, List, [], ◌∷◌, ◌++◌, length, Bool, refl, ap, arith, length-append}
use Rattle.resp_value.specs.Bytes.{crlf}
use Rattle.resp_value.specs.Numbers.{is_below_zero, sign_text, significant_digits}
use Rattle.resp_value.specs.Trees as t
use Rattle.resp_value.specs.Trees.{Chunk, Tree, Trees, Leaf, StringKind, leaf, node, line, numeral, null, truth, string, chunked, chunks_text, close, form_line, joined_content, kind_byte, leaf_text, payload, string_byte, text, texts}
use Rattle.resp_value.proofs.DigitLemmas.{length-significant_digits}
use Rattle.resp_value.proofs.DefaultLimits.{text_at_least}
use Rattle.resp_fronts.specs.Frames.{Frame, text_around}
use Rattle.resp_fronts.specs.Events as e
use Rattle.resp_fronts.specs.Events.{Event, big_events, close_event, events, events_around, events_each, frame_events, without_places, last_of, leaf_events}
use Rattle.resp_fronts.proofs.EventLaws.EventsAround.{next_member_at}
use Rattle.resp_scan.specs.Kinds.{content_events}
use Rattle.resp_scan.proofs.TokenMoves.LeafEvents.{given-big, given-chunked, given-line, given-string}
use Rattle.resp_scan.proofs.TokenMoves.Moves.{given-append}

-- one event for each byte of content
pub length-content : (s : List ℕ) → length (content_events s) ≡ length s
length-content [] = refl
length-content (b ∷ s) = omega (arith, length-content s)

-- a payload has its content in it
pub content_in_payload : (k : StringKind) (s : List ℕ) → length s ≤ length (payload k s)
content_in_payload t.Bulk s = omega arith
content_in_payload t.BulkError s = omega arith
content_in_payload (t.Verbatim format) s = omega (arith, length-append format (58 ∷ s))

-- chunks have their content in them, and what follows
pub content_in_chunks : (cs : List Chunk) (rest : List ℕ) → length (joined_content cs) + length rest ≤ length (chunks_text cs rest)
content_in_chunks [] rest = omega arith
content_in_chunks (c ∷ cs) rest = omega (
  arith,
  content_in_chunks cs rest,
  length-append c.content (joined_content cs),
  length-append (59 ∷ c.digits) (crlf (c.content ++ crlf (chunks_text cs rest))),
  length-append c.content (crlf (chunks_text cs rest)),
)

-- a text begins, has a byte for each of its content, and ends
text_count : (k : e.TextKind) (s : List ℕ) (es : List Event) → es ≡ (e.Text k ∷ content_events s) ++ e.TextEnd ∷ [] → length es ≡ length s + 2
text_count k s es h = omega (arith, ap length h, length-append (e.Text k ∷ content_events s) (e.TextEnd ∷ []), length-content s)

-- of a leaf
pub leaf_few : (from : ℕ) (l : Leaf) → length (without_places (leaf_events from l)) ≤ length (leaf_text l)
leaf_few from (line k s) = omega (arith, text_count (e.line_text_kind k) s _ (given-line from k s), length-append s (crlf []))
leaf_few from (numeral t.Int sign digits) = omega (arith, text_at_least (leaf (numeral t.Int sign digits)))
leaf_few from (numeral t.Big sign digits) =
    let whole : length (leaf_text (numeral t.Big sign digits)) ≡ length (sign_text sign) + length digits + 3 =
    omega (arith, length-append (40 ∷ (sign_text sign ++ digits)) (crlf []), length-append (sign_text sign) digits) in
    omega (
      arith,
      case (is_below_zero sign digits) (significant_digits digits) (last_of from (leaf_text (numeral t.Big sign digits))),
      length-significant_digits digits,
    )
  where
    case : (negative : Bool) (kept : List ℕ) (last : ℕ) → length (without_places (big_events negative kept last)) ≡ length kept + 2
    case negative [] last = refl
    case negative (d ∷ ds) last = text_count (e.Big negative) (d ∷ ds) _ (given-big negative d ds last)
leaf_few from (null form) = omega (arith, text_at_least (leaf (null form)))
leaf_few from (truth b) = omega (arith, text_at_least (leaf (truth b)))
leaf_few from (string k digits s) = omega (
  arith,
  text_count _ s _ (given-string from k digits s),
  content_in_payload k s,
  length-append (string_byte k ∷ digits) (crlf (payload k s ++ crlf [])),
  length-append (payload k s) (crlf []),
)
leaf_few from (chunked cs zeros) = omega (
  arith,
  text_count e.Bulk (joined_content cs) _ (given-chunked from cs zeros),
  content_in_chunks cs ((59 ∷ zeros) ++ crlf []),
)

mutual
  -- of a tree
  pub tree_few : (from : ℕ) (u : Tree) → length (without_places (events from u)) ≤ length (text u)
  tree_few from (leaf l) = leaf_few from l
  tree_few from (node k form ts) =
      let at = from + length (form_line form) + 3 in
      let end = close_event from (text (node k form ts)) ∷ [] in
      omega (
        arith,
        tree_few_each at ts,
        ap length (given-append (events_each at ts) end),
        length-append (without_places (events_each at ts)) (without_places end),
        length-append (kind_byte k ∷ form_line form) (crlf (texts ts ++ close form)),
        length-append (texts ts) (close form),
      )

  pub tree_few_each : (from : ℕ) (ts : Trees) → length (without_places (events_each from ts)) ≤ length (texts ts)
  tree_few_each from t.none = omega arith
  tree_few_each from (t.more u ts) =
      let a = events from u in
      let b = events_each (from + length (text u)) ts in
      omega (
        arith,
        tree_few from u,
        tree_few_each (from + length (text u)) ts,
        ap length (given-append a b),
        length-append (without_places a) (without_places b),
        length-append (text u) (texts ts),
      )

-- of what frames have taken
pub frames_few : (frames : List Frame) → length (without_places (events_around frames)) ≤ length (text_around frames [])
frames_few [] = omega arith
frames_few (f ∷ fs) =
    let start = length (text_around fs []) in
    let at = start + length (form_line f.form) + 3 in
    omega (
      arith,
      frames_few fs,
      tree_few_each at f.done,
      ap length (given-append (events_around fs) (frame_events start f)),
      length-append (without_places (events_around fs)) (without_places (frame_events start f)),
      next_member_at f fs,
    )
