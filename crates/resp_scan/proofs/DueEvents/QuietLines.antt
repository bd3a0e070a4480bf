-- Where a value doesn't begin as a text or a big number, no event comes before the end of its first line.
use Rattle.std.proofs.Common.{◌≡◌, ℕ, suc, ◌+◌, List, [], ◌∷◌, ◌++◌, length, refl, sym, ap, subst, ◌∙◌, arith, append_assoc, append-nil, length-append}
use Rattle.resp_value.specs.Bytes.{IsLine, crlf}
use Rattle.resp_value.specs.Trees as t
use Rattle.resp_value.specs.Trees.{Tree, Leaf, leaf, node, line, numeral, null, truth, string, chunked, close, form_line, kind_byte, leaf_line, leaf_text, text, texts}
use Rattle.resp_value.specs.Rules.{Rules}
use Rattle.resp_value.proofs.FirstBytes.{leaf_begins, first_byte, first_byte_is, leaf_byte}
use Rattle.resp_value.proofs.FirstLines.{after_line, first_is_line, first_line}
use Rattle.resp_value.proofs.Splitting.{return_split}
use Rattle.resp_fronts.specs.Events as e
use Rattle.resp_fronts.specs.Events.{Event, chunk_events, events, events_each, last_of, leaf_events}
use Rattle.resp_fronts.proofs.FirstLines.BegunLines.{line_begins, text_first}
use Rattle.resp_fronts.proofs.EventLaws.EventPlaces.{each_within}
use Rattle.resp_fronts.proofs.EventLaws.EventsDue.{AreFrom, due_none}
use Rattle.resp_fronts.proofs.Tokens.LineTokens.{no_break_in_line}
use Rattle.resp_fronts.specs.Tokens.{IsLineOf, IsReturned}
use Rattle.resp_scan.proofs.DueEvents.FramesDue.{from-append, from_later, from_within}
use Rattle.resp_scan.proofs.DueEvents.InsideDue.{AreDueWithin}
use Rattle.resp_scan.proofs.DueEvents.TextsDue.{chunks_later, text_later}

-- the byte begins neither a simple string, nor an error, nor a double, nor a big number
abbrev pub IsQuiet : ℕ → Type 0
IsQuiet byte = (byte ≡ 43 → ⊥) × (byte ≡ 45 → ⊥) × (byte ≡ 44 → ⊥) × (byte ≡ 40 → ⊥)

leaf_quiet : (from : ℕ) (l : Leaf) → IsQuiet (leaf_byte l) → AreFrom (from + length (leaf_line l) + 1) (leaf_events from l)
leaf_quiet from (line t.Simple s) q = absurd (q.0 refl)
leaf_quiet from (line t.Error s) q = absurd (q.1 refl)
leaf_quiet from (line t.Double s) q = absurd (q.2 refl)
leaf_quiet from (numeral t.Int sign digits) q = (omega (arith, length-append (leaf_line (numeral t.Int sign digits)) (crlf [])), tt)
leaf_quiet from (numeral t.Big sign digits) q = absurd (q.3 refl)
leaf_quiet from (null form) q = (omega (arith, length-append (leaf_line (null form)) (crlf [])), tt)
leaf_quiet from (truth b) q = (omega (arith, length-append (leaf_line (truth b)) (crlf [])), tt)
leaf_quiet from (string t.Bulk digits s) q =
    let whole = leaf_text (string t.Bulk digits s) in
    text_later (from + suc (length digits) + 1) e.Bulk (from + length digits + 2) (from + length digits + 3) s (last_of from whole) (omega arith) (omega arith)
    (omega (arith, length-append (36 ∷ digits) (crlf (s ++ crlf [])), length-append s (crlf [])))
leaf_quiet from (string t.BulkError digits s) q =
    let whole = leaf_text (string t.BulkError digits s) in
    text_later (from + suc (length digits) + 1) e.BulkError (from + length digits + 2) (from + length digits + 3) s (last_of from whole) (omega arith)
    (omega arith) (omega (arith, length-append (33 ∷ digits) (crlf (s ++ crlf [])), length-append s (crlf [])))
leaf_quiet from (string (t.Verbatim format) digits s) q =
    let whole = leaf_text (string (t.Verbatim format) digits s) in
    text_later (from + suc (length digits) + 1) (e.Verbatim format) (from + length digits + length format + 3) (from + length digits + length format + 4) s
    (last_of from whole) (omega arith) (omega arith) (omega (
      arith,
      length-append (61 ∷ digits) (crlf ((format ++ 58 ∷ s) ++ crlf [])),
      length-append (format ++ 58 ∷ s) (crlf []),
    ))
leaf_quiet from (chunked cs zeros) q =
    (omega arith, from-append (from + 2 + 1) (chunk_events (from + 4) cs) _ (chunks_later (from + 2 + 1) (from + 4) cs (omega arith)) (omega arith, tt))

-- none comes before the LF of the first line
pub line_quiet : (from : ℕ) (u : Tree) → IsQuiet (first_byte u) → AreFrom (from + length (first_line u) + 1) (events from u)
unfolding first_line
line_quiet from (leaf l) q = leaf_quiet from l q
line_quiet from (node k form ts) q =
    let low = from + suc (length (form_line form)) + 1 in
    let at = from + length (form_line form) + 3 in (
      omega arith,
      from-append low (events_each at ts) _ (from_later at low (events_each at ts) (omega arith)
          (from_within at (at + length (texts ts)) (events_each at ts) (each_within at ts)))
          (omega (arith, length-append (kind_byte k ∷ form_line form) (crlf (texts ts ++ close form))), tt),
    )

-- nothing is due of a line that may go on
pub quiet_line : (bytes : List ℕ) (shown : List Event) (head : ℕ) (tail : List ℕ) → bytes ≡ head ∷ tail → shown ≡ [] → IsQuiet head → IsLine (head ∷ tail) →
    AreDueWithin bytes shown
quiet_line bytes shown head tail are told q is_line from value beyond is_tree e =
    let whole : text value ≡ (head ∷ tail) ++ beyond = e ∙ ap (λ z. z ++ beyond) are in
    let (l, h, w) = line_begins (first_line value) (head ∷ tail) (after_line value) beyond is_line (sym (text_first value) ∙ whole) in
    let quiet : IsQuiet (first_byte value) = subst IsQuiet (sym (first_byte_is value [] (tail ++ beyond) head (append-nil (text value) ∙ whole))) q in
    due_none (from + length bytes) (events from value) (from_later (from + length (first_line value) + 1) (from + length bytes) (events from value)
    (omega (arith, ap length are, ap length h, length-append (head ∷ tail) l)) (line_quiet from value quiet))
    ∙ sym told

-- nor of a line and its CR
pub quiet_returned : (bytes : List ℕ) (shown : List Event) (head : ℕ) (tail : List ℕ) → bytes ≡ (head ∷ tail) ++ 13 ∷ [] → shown ≡ [] → IsQuiet head →
    IsLine (head ∷ tail) → AreDueWithin bytes shown
quiet_returned bytes shown head tail are told q is_line from value beyond is_tree e =
    let whole : text value ≡ (head ∷ tail) ++ 13 ∷ beyond = e ∙ ap (λ z. z ++ beyond) are ∙ append_assoc (head ∷ tail) (13 ∷ []) beyond in
    let h = (return_split (first_line value) (head ∷ tail) (10 ∷ after_line value) beyond (first_is_line value is_tree) is_line (sym (text_first value) ∙
    whole)).0 in
    let quiet : IsQuiet (first_byte value) = subst IsQuiet (sym (first_byte_is value [] (tail ++ 13 ∷ beyond) head (append-nil (text value) ∙ whole))) q in
    due_none (from + length bytes) (events from value) (from_later (from + length (first_line value) + 1) (from + length bytes) (events from value)
    (omega (arith, ap length are, ap length h, length-append (head ∷ tail) (13 ∷ []))) (line_quiet from value quiet))
    ∙ sym told

-- Leaves that are one line.

-- such a line, whole
pub line_of_quiet : (r : Rules) (l : Leaf) (level : ℕ) (bytes : List ℕ) (shown : List Event) → IsLineOf r l level bytes → shown ≡ [] → IsQuiet (leaf_byte l) →
    AreDueWithin bytes shown
line_of_quiet r l level bytes shown w told q =
    let (cs, begins) = leaf_begins l in
    let are : bytes ≡ leaf_byte l ∷ cs = w.is_line ∙ begins in
    quiet_line bytes shown (leaf_byte l) cs are told q (subst IsLine are (no_break_in_line r l level bytes w))

-- nothing is due of a leaf's line and its CR
pub returned_quiet : (r : Rules) (l : Leaf) (level : ℕ) (bytes : List ℕ) (shown : List Event) → IsReturned r l level bytes → shown ≡ [] →
    IsQuiet (leaf_byte l) → AreDueWithin bytes shown
returned_quiet r l level bytes shown w told q =
    let (cs, begins) = leaf_begins l in
    let are : w.begun ≡ leaf_byte l ∷ cs = w.line_of.is_line ∙ begins in
    quiet_returned bytes shown (leaf_byte l) cs (w.returned ∙ ap (λ z. z ++ 13 ∷ []) are) told q
    (subst IsLine are (no_break_in_line r l level w.begun w.line_of))
