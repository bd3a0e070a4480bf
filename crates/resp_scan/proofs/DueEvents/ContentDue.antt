-- The events due of a counted string: none before its content, and then the content so far.
use Rattle.std.proofs.Common.{◌≡◌, ℕ, ◌+◌, ◌≤◌, List, [], ◌∷◌, ◌++◌, length, refl, sym, ap, subst, ◌∙◌, arith, append_assoc, length-append}
use Rattle.resp_value.specs.Bytes.{crlf}
use Rattle.resp_value.specs.Numbers.{IsDigits, number}
use Rattle.resp_value.specs.Rules.{Rules}
use Rattle.resp_value.specs.Trees as t
use Rattle.resp_value.specs.Trees.{Tree, StringKind, HasFormat, IsTree, leaf, string, leaf_text, payload, string_byte, text}
use Rattle.resp_value.proofs.FirstLines.{after_line, first_is_line, first_line, sort_of-line}
use Rattle.resp_value.proofs.Splitting.{length_split, line_split}
use Rattle.resp_fronts.specs.Events as e
use Rattle.resp_fronts.specs.Events.{Event, bytes_from, events_due, events, last_of, leaf_events}
use Rattle.resp_fronts.proofs.FirstLines.BegunLines.{text_first}
use Rattle.resp_fronts.proofs.EventLaws.EventsDue.{AreFrom, due_none}
use Rattle.resp_fronts.proofs.FirstLines.FirstLineRows.{is_string, string_line}
use Rattle.resp_scan.specs.Kinds.{content_events}
use Rattle.resp_scan.specs.Machine.Beginnings.{ContentBegun, ContentReturned, FormatBegun, string_text_kind}
use Rattle.resp_scan.proofs.DueEvents.InsideDue.{AreDueWithin, longer_front}
use Rattle.resp_scan.proofs.DueEvents.TextsDue.{bytes_later, due_text, text_later}

-- the string that a value is whose length's line has come
record IsStringOf (K : StringKind) (digits begun beyond : List ℕ) (value : Tree) : Type 0 where
  pub kind : StringKind
  pub content : List ℕ
  pub byte : string_byte kind ≡ string_byte K
  pub same : value ≡ leaf (string kind digits content)
  pub format : HasFormat kind
  pub size : number digits ≡ length (payload kind content)
  pub goes_on : payload kind content ++ crlf [] ≡ begun ++ beyond

string_of : (K : StringKind) (first : ℕ) (digits begun beyond : List ℕ) (value : Tree) → IsDigits (first ∷ digits) → IsTree value →
    text value ≡ ((string_byte K ∷ first ∷ digits) ++ crlf begun) ++ beyond → IsStringOf K (first ∷ digits) begun beyond value
string_of K first digits begun beyond value are is_tree whole =
    let line = string_byte K ∷ first ∷ digits in
    let s = line_split (first_line value) line (after_line value) (begun ++ beyond) (first_is_line value is_tree) (string_line K (first ∷ digits) are.1)
    (sym (text_first value) ∙ whole ∙ append_assoc line (crlf begun) beyond) in
    let w = is_string value K first digits are.1.0 (sort_of-line value is_tree s.0) in
    let i : IsTree (leaf (string w.0 (first ∷ digits) w.1)) = subst IsTree w.3 is_tree in
    record { kind = w.0; content = w.1; byte = w.2; same = w.3; format = i.1; size = i.0.1; goes_on = ap after_line (sym w.3) ∙ s.1 }

-- Formats.

verbatim_later : (from n : ℕ) (k : StringKind) (digits s : List ℕ) → string_byte k ≡ 61 → HasFormat k → n ≤ from + length digits + 6 →
    AreFrom n (leaf_events from (string k digits s))
verbatim_later from n t.Bulk digits s b f l = absurd (omega arith)
verbatim_later from n t.BulkError digits s b f l = absurd (omega arith)
verbatim_later from n (t.Verbatim format) digits s b f l =
    text_later n (e.Verbatim format) (from + length digits + length format + 3) (from + length digits + length format + 4) s
    (last_of from (leaf_text (string (t.Verbatim format) digits s))) (omega (arith, f.0, l)) (omega (arith, f.0, l))
    (omega (
      arith,
      f.0,
      l,
      length-append (61 ∷ digits) (crlf ((format ++ 58 ∷ s) ++ crlf [])),
      length-append (format ++ 58 ∷ s) (crlf []),
      length-append format (58 ∷ s),
    ))

-- the format of a verbatim string, or its first bytes
pub format_due : (r : Rules) (format begun : List ℕ) (n level : ℕ) (bytes : List ℕ) (shown : List Event) → length begun ≤ 3 →
    FormatBegun r format begun n level bytes shown → AreDueWithin bytes shown
format_due r format begun n level bytes shown short w from value beyond is_tree whole =
    let digits = w.first ∷ w.digits in
    let v = string_of (t.Verbatim format) w.first w.digits begun beyond value w.token.are_digits is_tree (whole ∙ ap (λ z. z ++ beyond) w.token.are) in
    ap (λ z. events_due (from + length bytes) (events from z)) v.same
    ∙ due_none (from + length bytes) (leaf_events from (string v.kind digits v.content))
    (verbatim_later from (from + length bytes) v.kind digits v.content v.byte v.format
    (omega (arith, ap length w.token.are, length-append (61 ∷ digits) (crlf begun), short)))
    ∙ sym w.told

-- Content.

length-payload : (k : StringKind) (a b : List ℕ) → length (payload k (a ++ b)) ≡ length (payload k a) + length b
length-payload t.Bulk a b = length-append a b
length-payload t.BulkError a b = length-append a b
length-payload (t.Verbatim format) a b = omega (arith, length-append format (58 ∷ (a ++ b)), length-append format (58 ∷ a), length-append a b)

-- of two payloads of one type byte the longer has the kind and the content of the shorter
payload_goes_on : (k j : StringKind) (part content beyond : List ℕ) → string_byte j ≡ string_byte k → HasFormat k → HasFormat j →
    length (payload k part) ≤ length (payload j content) → payload j content ++ crlf [] ≡ payload k part ++ beyond →
    (j ≡ k) × ((l : List ℕ) × (content ≡ part ++ l))
payload_goes_on t.Bulk t.Bulk part content beyond b f g l same = (refl, longer_front content part (crlf []) beyond same l)
payload_goes_on t.BulkError t.BulkError part content beyond b f g l same = (refl, longer_front content part (crlf []) beyond same l)
payload_goes_on (t.Verbatim p) (t.Verbatim q) part content beyond b f g l same =
    let s = length_split q p (58 ∷ (content ++ crlf [])) (58 ∷ (part ++ beyond)) (omega (arith, f.0, g.0)) (sym (append_assoc q (58 ∷ content) (crlf [])) ∙
    same ∙ append_assoc p (58 ∷ part) beyond) in
    let next : 58 ∷ (content ++ crlf []) ≡ 58 ∷ (part ++ beyond) = s.1 in
    let same_content : content ++ crlf [] ≡ part ++ beyond = cc in (
      ap t.Verbatim s.0,
      longer_front content part (crlf []) beyond same_content
          (omega (arith, l, f.0, g.0, length-append q (58 ∷ content), length-append p (58 ∷ part))),
    )
payload_goes_on _ _ part content beyond b f g l same = absurd (omega arith)

-- such a string with more content
content_goes_on : (r : Rules) (n level : ℕ) (bytes : List ℕ) (shown : List Event) (w : ContentBegun r n level bytes shown) (value : Tree) (beyond : List ℕ) →
    IsTree value → text value ≡ bytes ++ beyond → (l : List ℕ) × (value ≡ leaf (string w.kind (w.first ∷ w.digits) (w.part ++ l))) × (length l ≡ n)
content_goes_on r n level bytes shown w value beyond is_tree whole =
    let c = w.token in
    let digits = w.first ∷ w.digits in
    let v = string_of w.kind w.first w.digits (payload w.kind w.part) beyond value c.are_digits is_tree (whole ∙ ap (λ z. z ++ beyond) c.are) in
    let size : number digits ≡ length (payload w.kind w.part) + n =
    omega (arith, c.size, ap length c.split, length-append (payload w.kind w.part) c.rest, c.rest_size) in
    let (kind, (l, content)) = payload_goes_on w.kind v.kind w.part v.content beyond v.byte c.has_format v.format (omega (arith, size, v.size)) v.goes_on in
    let longer : length (payload v.kind v.content) ≡ length (payload w.kind (w.part ++ l)) = ap (λ z. length (payload z v.content)) kind ∙
    ap (λ z. length (payload w.kind z)) content in (
      l,
      v.same ∙ ap (λ z. leaf (string z digits v.content)) kind ∙ ap (λ z. leaf (string w.kind digits z)) content,
      omega (arith, longer, v.size, size, length-payload w.kind w.part l),
    )

string_due : (from n m : ℕ) (k : StringKind) (digits part l : List ℕ) → m ≡ from + length digits + 3 + length (payload k part) → m ≤ n → n ≤ m + length l + 1 →
    AreFrom n (bytes_from m l) → events_due n (leaf_events from (string k digits (part ++ l))) ≡ e.Text (string_text_kind k) ∷ content_events part
string_due from n m t.Bulk digits part l at low high later =
    let s = part ++ l in
    let here : m ≡ from + length digits + 3 + length part = at in
    due_text n e.Bulk (from + length digits + 2) (from + length digits + 3) part l (last_of from (leaf_text (string t.Bulk digits s))) (omega (arith, at, low))
    (omega (arith, at, low)) (subst (λ z. AreFrom n (bytes_from z l)) here later)
    (omega (arith, at, high, length-append (36 ∷ digits) (crlf (s ++ crlf [])), length-append s (crlf []), length-append part l))
string_due from n m t.BulkError digits part l at low high later =
    let s = part ++ l in
    let here : m ≡ from + length digits + 3 + length part = at in
    due_text n e.BulkError (from + length digits + 2) (from + length digits + 3) part l (last_of from (leaf_text (string t.BulkError digits s)))
    (omega (arith, at, low)) (omega (arith, at, low)) (subst (λ z. AreFrom n (bytes_from z l)) here later)
    (omega (arith, at, high, length-append (33 ∷ digits) (crlf (s ++ crlf [])), length-append s (crlf []), length-append part l))
string_due from n m (t.Verbatim format) digits part l at low high later =
    let s = part ++ l in
    let size = length-append format (58 ∷ part) in
    let here : m ≡ from + length digits + length format + 4 + length part = omega (arith, at, size) in
    due_text n (e.Verbatim format) (from + length digits + length format + 3) (from + length digits + length format + 4) part l
    (last_of from (leaf_text (string (t.Verbatim format) digits s))) (omega (arith, here, low)) (omega (arith, here, low))
    (subst (λ z. AreFrom n (bytes_from z l)) here later)
    (omega (
      arith,
      here,
      high,
      length-append (61 ∷ digits) (crlf ((format ++ 58 ∷ s) ++ crlf [])),
      length-append (format ++ 58 ∷ s) (crlf []),
      length-append format (58 ∷ s),
      length-append part l,
    ))

-- content so far
pub content_due : (r : Rules) (n level : ℕ) (bytes : List ℕ) (shown : List Event) → ContentBegun r n level bytes shown → AreDueWithin bytes shown
content_due r n level bytes shown w from value beyond is_tree whole =
    let digits = w.first ∷ w.digits in
    let (l, same, size) = content_goes_on r n level bytes shown w value beyond is_tree whole in
    let at = from + length bytes in
    let place : at ≡ from + length digits + 3 + length (payload w.kind w.part) =
    omega (arith, ap length w.token.are, length-append (string_byte w.kind ∷ digits) (crlf (payload w.kind w.part))) in
    ap (λ z. events_due at (events from z)) same
    ∙ string_due from at at w.kind digits w.part l place (omega arith) (omega arith) (bytes_later at at l (omega arith))
    ∙ sym w.told

-- the events due after the CR of a string's content
pub content_returned_due : (r : Rules) (level : ℕ) (bytes : List ℕ) (shown : List Event) → ContentReturned r level bytes shown → AreDueWithin bytes shown
content_returned_due r level bytes shown w from value beyond is_tree whole =
    let c = w.content in
    let digits = c.first ∷ c.digits in
    let (l, same, size) = content_goes_on r 0 level w.before shown c value (13 ∷ beyond) is_tree (whole ∙ ap (λ z. z ++ beyond) w.returned ∙
    append_assoc w.before (13 ∷ []) beyond) in
    let n = from + length bytes in
    let m = from + length w.before in
    let place : m ≡ from + length digits + 3 + length (payload c.kind c.part) =
    omega (arith, ap length c.token.are, length-append (string_byte c.kind ∷ digits) (crlf (payload c.kind c.part))) in
    let next : n ≡ m + 1 = omega (arith, ap length w.returned, length-append w.before (13 ∷ [])) in
    ap (λ z. events_due n (events from z)) same
    ∙ string_due from n m c.kind digits c.part l place (omega (arith, next)) (omega (arith, next)) (none_later n m l size)
    ∙ sym c.told
  where
    none_later : (n m : ℕ) (l : List ℕ) → length l ≡ 0 → AreFrom n (bytes_from m l)
    none_later n m [] s = tt
    none_later n m (x ∷ l) s = absurd (omega (arith, s))
