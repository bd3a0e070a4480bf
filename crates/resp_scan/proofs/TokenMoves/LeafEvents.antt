-- The events of leaves, without their places.
use Rattle.std.proofs.Common.{◌≡◌, ℕ, ◌+◌, ◌-◌, List, [], ◌∷◌, ◌++◌, length, Bool, refl, sym, ap, ◌∙◌, append_assoc}
use Rattle.resp_value.specs.Numbers.{is_below_zero, significant_digits}
use Rattle.resp_value.specs.Trees as t
use Rattle.resp_value.specs.Trees.{Leaf, LineKind, StringKind, Chunk, line, numeral, null, truth, string, chunked, joined_content, leaf_text}
use Rattle.resp_fronts.specs.Events.{Event, Timed, TextKind, bytes_from, big_events, chunk_events, without_places, leaf_events, text_events}
use Rattle.resp_fronts.specs.Events as e
use Rattle.resp_scan.specs.Kinds.{content_events}
use Rattle.resp_scan.specs.Machine.Beginnings.{string_text_kind}

-- the events of content and of more content
pub content_events-append : (a b : List ℕ) → content_events (a ++ b) ≡ content_events a ++ content_events b
content_events-append [] b = refl
content_events-append (x ∷ a) b = ap (λ z. e.Byte x ∷ z) (content_events-append a b)

-- the events of bytes, without their places
pub given-bytes : (from : ℕ) (s : List ℕ) (es : List Timed) → without_places (bytes_from from s ++ es) ≡ content_events s ++ without_places es
given-bytes from [] es = refl
given-bytes from (b ∷ s) es = ap (λ z. e.Byte b ∷ z) (given-bytes (from + 1) s es)

-- a text's events
pub given-text : (k : TextKind) (begins from : ℕ) (s : List ℕ) (ends : ℕ) → without_places (text_events k begins from s ends) ≡ (e.Text k ∷ content_events s) ++
    e.TextEnd ∷ []
given-text k begins from s ends = ap (λ z. e.Text k ∷ z) (given-bytes from s (record { at = ends; event = e.TextEnd } ∷ []))

-- the events of a simple line, without their places
pub given-line : (from : ℕ) (k : LineKind) (s : List ℕ) → without_places (leaf_events from (line k s)) ≡
    (e.Text (e.line_text_kind k) ∷ content_events s) ++ e.TextEnd ∷ []
given-line from k s = given-text (e.line_text_kind k) from (from + 1) s (e.last_of from (leaf_text (line k s)))

-- the events of a string, without their places
pub given-string : (from : ℕ) (k : StringKind) (digits s : List ℕ) → without_places (leaf_events from (string k digits s)) ≡
    (e.Text (string_text_kind k) ∷ content_events s) ++ e.TextEnd ∷ []
given-string from t.Bulk digits s = given-text e.Bulk (from + length digits + 2) (from + length digits + 3) s
    (e.last_of from (leaf_text (string t.Bulk digits s)))
given-string from t.BulkError digits s = given-text e.BulkError (from + length digits + 2) (from + length digits + 3) s
    (e.last_of from (leaf_text (string t.BulkError digits s)))
given-string from (t.Verbatim format) digits s = given-text (e.Verbatim format) (from + length digits + length format + 3)
    (from + length digits + length format + 4) s (e.last_of from (leaf_text (string (t.Verbatim format) digits s)))

-- those of a big number that isn't zero
pub given-big : (negative : Bool) (digit : ℕ) (digits : List ℕ) (last : ℕ) → without_places (big_events negative (digit ∷ digits) last) ≡
    (e.Text (e.Big negative) ∷ content_events (digit ∷ digits)) ++ e.TextEnd ∷ []
given-big negative digit digits last = given-text (e.Big negative) (last - 2 - length digits) (last - 2 - length digits) (digit ∷ digits) last

given-chunks : (at : ℕ) (cs : List Chunk) (es : List Timed) → without_places (chunk_events at cs ++ es) ≡ content_events (joined_content cs) ++
    without_places es
given-chunks at [] es = refl
given-chunks at (c ∷ cs) es =
    ap without_places (append_assoc (bytes_from (at + length c.digits + 3) c.content) (chunk_events (at + length c.digits + length c.content + 5) cs) es)
    ∙ given-bytes (at + length c.digits + 3) c.content (chunk_events (at + length c.digits + length c.content + 5) cs ++ es)
    ∙ ap (λ z. content_events c.content ++ z) (given-chunks (at + length c.digits + length c.content + 5) cs es)
    ∙ sym (append_assoc (content_events c.content) (content_events (joined_content cs)) (without_places es))
    ∙ ap (λ z. z ++ without_places es) (sym (content_events-append c.content (joined_content cs)))

-- the events of a streamed string, without their places
pub given-chunked : (from : ℕ) (cs : List Chunk) (zeros : List ℕ) → without_places (leaf_events from (chunked cs zeros)) ≡
    (e.Text e.Bulk ∷ content_events (joined_content cs)) ++ e.TextEnd ∷ []
given-chunked from cs zeros = ap (λ z. e.Text e.Bulk ∷ z) (given-chunks (from + 4) cs
    (record { at = e.last_of from (leaf_text (chunked cs zeros)); event = e.TextEnd } ∷ []))

-- wherever the leaf stands
given_anywhere : (from : ℕ) (l : Leaf) → without_places (leaf_events from l) ≡ without_places (leaf_events 0 l)
given_anywhere from (line k s) = given-line from k s ∙ sym (given-line 0 k s)
given_anywhere from (numeral t.Int sign digits) = refl
given_anywhere from (numeral t.Big sign digits) = case (is_below_zero sign digits) (significant_digits digits)
    (e.last_of from (leaf_text (numeral t.Big sign digits))) (e.last_of 0 (leaf_text (numeral t.Big sign digits)))
  where
    case : (negative : Bool) (kept : List ℕ) (m n : ℕ) → without_places (big_events negative kept m) ≡ without_places (big_events negative kept n)
    case negative [] m n = refl
    case negative (d ∷ ds) m n = given-big negative d ds m ∙ sym (given-big negative d ds n)
given_anywhere from (null form) = refl
given_anywhere from (truth b) = refl
given_anywhere from (string k digits s) = given-string from k digits s ∙ sym (given-string 0 k digits s)
given_anywhere from (chunked cs zeros) = given-chunked from cs zeros ∙ sym (given-chunked 0 cs zeros)

-- the events of a leaf are the same wherever it begins
pub leaf_told : (l : Leaf) (shown : List Event) → without_places (leaf_events 0 l) ≡ shown → (from : ℕ) → without_places (leaf_events from l) ≡ shown
leaf_told l shown e from = given_anywhere from l ∙ e
