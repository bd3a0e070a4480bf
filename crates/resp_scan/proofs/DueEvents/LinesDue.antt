-- The events due of a line of text: its content so far, and before its LF all but its end.
use Rattle.std.proofs.Common.{◌≡◌, ℕ, suc, ◌+◌, ◌-◌, ◌<◌, ◌≤◌, Bool, List, [], ◌∷◌, ◌++◌, length, refl, sym, ap, subst, ◌∙◌, arith, append_assoc, append-nil, length-append}
use Rattle.resp_value.specs.Bytes.{IsLine, crlf}
use Rattle.resp_value.specs.Numbers.{is_below_zero, sign_text, significant_digits}
use Rattle.resp_value.specs.Rules.{Rules}
use Rattle.resp_value.specs.Trees as t
use Rattle.resp_value.specs.Trees.{Tree, Leaf, LineKind, IsTree, leaf, line, numeral, null, truth, string, chunked, leaf_rest, leaf_text, line_byte, payload, text}
use Rattle.resp_value.proofs.FirstLines.{after_line, first_is_line, first_line, sort_of-line}
use Rattle.resp_value.proofs.Unique.{unique}
use Rattle.resp_value.proofs.DigitLemmas.{length-significant_digits}
use Rattle.resp_value.proofs.Splitting.{return_split}
use Rattle.resp_fronts.specs.Events as e
use Rattle.resp_fronts.specs.Events.{Event, TextKind, big_events, events_due, events, without_places, last_of, leaf_events, text_events}
use Rattle.resp_fronts.proofs.FirstLines.BegunLines.{line_begins, text_first, tree_of_line}
use Rattle.resp_fronts.proofs.Tokens.LineTokens.{no_break_in_line, returned_whole, text_token_line}
use Rattle.resp_value.specs.declared.double_stage.DoubleStage.{DoubleStage}
use Rattle.resp_fronts.proofs.Tokens.DoubleTokens.{double_no_break}
use Rattle.resp_fronts.specs.Tokens.{IsReturned}
use Rattle.resp_fronts.proofs.FirstLines.TextLines.{sort_of_text}
use Rattle.resp_scan.specs.Kinds.{content_events}
use Rattle.resp_scan.specs.Machine.Beginnings.{DoubleBegun, LineBegun, TextReturned}
use Rattle.resp_scan.proofs.DueEvents.FewEvents.{content_in_chunks}
use Rattle.resp_scan.proofs.DueEvents.InsideDue.{AreDueWithin}
use Rattle.resp_scan.proofs.TokenMoves.LeafEvents.{given-big, given-line, leaf_told}
use Rattle.resp_scan.proofs.DueEvents.TextsDue.{bytes_later, due_text}

line_due : (from : ℕ) (k : LineKind) (a b : List ℕ) → events_due (from + suc (length a)) (leaf_events from (line k (a ++ b))) ≡
    e.Text (e.line_text_kind k) ∷ content_events a
line_due from k a b =
    let n = from + suc (length a) in
    due_text n (e.line_text_kind k) from (from + 1) a b (last_of from (leaf_text (line k (a ++ b)))) (omega arith) (omega arith)
    (bytes_later n (from + 1 + length a) b (omega arith)) (omega (arith, length-append a b, length-append (a ++ b) (crlf [])))

-- the text of a line so far
text_begun_due : (k : LineKind) (content bytes : List ℕ) (shown : List Event) → IsLine (line_byte k ∷ content) → bytes ≡ line_byte k ∷ content →
    shown ≡ e.Text (e.line_text_kind k) ∷ content_events content → AreDueWithin bytes shown
text_begun_due k content bytes shown is_line are told from value beyond is_tree whole =
    let (l, h, after_is) = line_begins (first_line value) (line_byte k ∷ content) (after_line value) beyond is_line (sym (text_first value) ∙ whole ∙
    ap (λ z. z ++ beyond) are) in
    let same : value ≡ leaf (line k (content ++ l)) = tree_of_line value k (content ++ l) (sort_of-line value is_tree h ∙
    sort_of_text k (content ++ l)) in
    ap (λ z. events_due (from + length z) (events from value)) are
    ∙ ap (λ z. events_due (from + suc (length content)) (events from z)) same
    ∙ line_due from k content l
    ∙ sym told

-- a double so far
pub double_begun_due : (r : Rules) (stage : DoubleStage) (room level : ℕ) (bytes : List ℕ) (shown : List Event) → DoubleBegun r stage room level bytes shown →
    AreDueWithin bytes shown
double_begun_due r stage room level bytes shown w =
    text_begun_due t.Double w.token.content bytes shown (double_no_break stage w.token.content w.token.at_stage) w.token.are w.told

-- a simple string or an error so far
pub line_begun_due : (r : Rules) (room level : ℕ) (bytes : List ℕ) (shown : List Event) → LineBegun r room level bytes shown → AreDueWithin bytes shown
line_begun_due r room level bytes shown w =
    text_begun_due w.kind w.token.content bytes shown
    (subst IsLine w.token.are (no_break_in_line r (line w.kind w.token.content) level bytes (text_token_line r w.kind w.size level bytes w.token)))
    w.token.are w.told

-- after its CR a leaf is all that the value can be
pub returned_is : (r : Rules) (l : Leaf) (level : ℕ) (bytes : List ℕ) (value : Tree) (beyond : List ℕ) → IsReturned r l level bytes → IsTree value →
    text value ≡ bytes ++ beyond → value ≡ leaf l
returned_is r l level bytes value beyond w is_tree whole =
    let s = return_split (first_line value) w.begun (10 ∷ after_line value) beyond (first_is_line value is_tree) (no_break_in_line r l level w.begun w.line_of)
    (sym (text_first value) ∙ whole ∙ ap (λ z. z ++ beyond) w.returned ∙ append_assoc w.begun (13 ∷ []) beyond) in
    (unique value (leaf l) [] (after_line value) is_tree w.line_of.is_leaf (append-nil (text value) ∙ whole ∙ ap (λ z. bytes ++ z) (sym s.1) ∙
    sym (append_assoc bytes (10 ∷ []) (after_line value)) ∙ ap (λ z. z ++ after_line value) (sym (returned_whole r l level bytes w)))).0

-- the LF is its last byte
pub returned_last : (r : Rules) (l : Leaf) (level : ℕ) (bytes : List ℕ) (from : ℕ) → IsReturned r l level bytes →
    from + length bytes ≡ last_of from (leaf_text l)
returned_last r l level bytes from w = omega (arith, ap length (returned_whole r l level bytes w), length-append bytes (10 ∷ []))

-- lists that end alike
but_last : (a b : List Event) (x : Event) → a ++ x ∷ [] ≡ b ++ x ∷ [] → a ≡ b
but_last [] [] x same = refl
but_last [] (y ∷ b) x same = absurd (omega (arith, ap length same, length-append b (x ∷ [])))
but_last (y ∷ a) [] x same = absurd (omega (arith, ap length same, length-append a (x ∷ [])))
but_last (y ∷ a) (z ∷ b) x same =
    let rest : a ++ x ∷ [] ≡ b ++ x ∷ [] = cc in
    let first : y ≡ z = cc in
    let beyond : a ≡ b = but_last a b x rest in
    cc

-- one event is no text
one_ends : (x : Event) (shown : List Event) → x ∷ [] ≡ shown ++ e.TextEnd ∷ [] → x ≡ e.TextEnd
one_ends x [] same = cc
one_ends x (y ∷ shown) same = absurd (omega (arith, ap length same, length-append shown (e.TextEnd ∷ [])))

-- a whole text but for its end
due_but_end : (n : ℕ) (k : TextKind) (begins from : ℕ) (s : List ℕ) (ends : ℕ) (shown : List Event) → begins < n → from + length s ≤ n → n ≤ ends →
    (e.Text k ∷ content_events s) ++ e.TextEnd ∷ [] ≡ shown ++ e.TextEnd ∷ [] → events_due n (text_events k begins from s ends) ≡ shown
due_but_end n k begins from s ends shown a b c told =
    ap (λ z. events_due n (text_events k begins from z ends)) (sym (append-nil s))
    ∙ due_text n k begins from s [] ends a b tt c
    ∙ but_last (e.Text k ∷ content_events s) shown e.TextEnd told

-- a text is more than the sign of a big number
abbrev HasMore : List Event → Type 0
HasMore shown = (negative : Bool) → shown ≡ e.Text (e.Big negative) ∷ [] → ⊥

leaf_but_end : (from : ℕ) (l : Leaf) (shown : List Event) → leaf_rest l ≡ [] → without_places (leaf_events from l) ≡ shown ++ e.TextEnd ∷ [] → HasMore shown →
    events_due (last_of from (leaf_text l)) (leaf_events from l) ≡ shown
leaf_but_end from (line k s) shown p told some =
    let last = last_of from (leaf_text (line k s)) in
    due_but_end last (e.line_text_kind k) from (from + 1) s last shown (omega (arith, length-append s (crlf []))) (omega (arith, length-append s (crlf [])))
    (omega arith) (sym (given-line from k s) ∙ told)
leaf_but_end from (numeral t.Int sign digits) shown p told some = absurd (let x = one_ends _ shown told in cc)
leaf_but_end from (numeral t.Big sign digits) shown p told some =
    let whole : length (leaf_text (numeral t.Big sign digits)) ≡ length (sign_text sign) + length digits + 3 =
    omega (arith, length-append (40 ∷ (sign_text sign ++ digits)) (crlf []), length-append (sign_text sign) digits) in
    case (is_below_zero sign digits) (significant_digits digits) (last_of from (leaf_text (numeral t.Big sign digits)))
    (omega (arith, length-significant_digits digits, whole)) told
  where
    case : (negative : Bool) (kept : List ℕ) (last : ℕ) → length kept + 2 ≤ last → without_places (big_events negative kept last) ≡ shown ++ e.TextEnd ∷ [] →
        events_due last (big_events negative kept last) ≡ shown
    case negative [] last l told = absurd (some negative (sym (but_last (e.Text (e.Big negative) ∷ []) shown e.TextEnd told)))
    case negative (d ∷ ds) last l told = due_but_end last (e.Big negative) (last - 2 - length ds) (last - 2 - length ds) (d ∷ ds) last shown (omega (arith, l))
        (omega (arith, l)) (omega arith) (sym (given-big negative d ds last) ∙ told)
leaf_but_end from (null form) shown p told some = absurd (let x = one_ends _ shown told in cc)
leaf_but_end from (truth b) shown p told some = absurd (let x = one_ends _ shown told in cc)
leaf_but_end from (string k digits s) shown p told some = absurd (omega (arith, ap length p, length-append (payload k s) (crlf [])))
leaf_but_end from (chunked cs zeros) shown p told some = absurd (omega (arith, ap length p, content_in_chunks cs ((59 ∷ zeros) ++ crlf [])))

-- before the LF of a text all but its end
pub text_returned_due : (r : Rules) (level : ℕ) (bytes : List ℕ) (shown : List Event) → TextReturned r level bytes shown → AreDueWithin bytes shown
text_returned_due r level bytes shown w from value beyond is_tree whole =
    ap (λ n. events_due n (events from value)) (returned_last r w.leaf level bytes from w.returned)
    ∙ ap (λ z. events_due (last_of from (leaf_text w.leaf)) (events from z)) (returned_is r w.leaf level bytes value beyond w.returned is_tree whole)
    ∙ leaf_but_end from w.leaf shown w.returned.line_of.no_rest (leaf_told w.leaf (shown ++ e.TextEnd ∷ []) w.told from) w.begun
