-- What is open in the lines so far.
use Rattle.std.proofs.Common.{◌≡◌, ℕ, ℤ, suc, ◌+◌, ◌-◌, ◌<◌, ◌≤◌, ◌^◌, Option, None, Some, Result, Ok, Err, OnOk, List, [], ◌∷◌, ◌++◌, length, map, reverse, codes, decimal, refl, sym, ap, subst, ◌∙◌, append_assoc, append-nil, arith}
use Rattle.std.specs.Fmt.{signed_decimal}
use Rattle.std.specs.Result.{IsErr}
use Rattle.std.proofs.lemmas.List.{length-reverse}
use Rattle.std.specs.List.{AllByRecursion}
use Rattle.resp_fronts.specs.Events as e
use Rattle.resp_fronts.specs.Events.{TextKind}
use Rattle.resp_scan.specs.Kinds.{content_events}
use Rattle.resp_value.specs.Data.{items_of}
use Rattle.resp_value.specs.Kinds.{kind_of}
use Rattle.resp_io.specs.Devices.{Appends, count_after}
use Rattle.resp_print.specs.Shown.{indentation, quoted_byte, quoted_text}
use Rattle.resp_print.specs.Written.{AppendsPart, WritesText}
use Rattle.resp_cli_stream.specs.Lines.{HasRoomFor, innermost, line_of, page_of}
use Rattle.resp_cli_stream.specs.Pages.{OpenLine, Page, beginning, end_of_text, is_big, last_line, page_after, shown_on, text_line, text_words, with_bytes, with_member, with_value}
use Rattle.resp_cli_stream.specs.declared.lines.Lines.{Lines}
use Rattle.resp_cli_stream.specs.declared.lines.OpenText.{OpenText}
use Rattle.resp_cli_stream.specs.declared.lines.OpenLine as line
use Rattle.resp_cli_stream.proofs.ShownTrees.{page-append, shown-append}
use Rattle.resp_print.proofs.WrittenLemmas.{writes_next, writes_part}

map_size : (ls : List line.OpenLine) → length (map line_of ls) ≡ length ls
map_size [] = refl
map_size (l ∷ ls) = ap suc (map_size ls)

-- as many lines as aggregates
pub page_level : (lines : Lines) → length (page_of lines).open_lines ≡ length lines.aggregates.items
page_level lines = map_size (reverse lines.aggregates.items) ∙ length-reverse lines.aggregates.items

-- the last line of the innermost aggregate
pub last_line_is : (ls : List line.OpenLine) (l : line.OpenLine) → innermost ls ≡ Some l →
    last_line (map line_of ls) ≡ indentation (length (map line_of ls) - 1) ++ (codes "end " ++ decimal (items_of (kind_of l.kind) l.members) ++ codes "\n")
last_line_is [] l is = absurd (cc)
last_line_is (x ∷ ls) l is =
    let same : x ≡ l = cc in
    let level : length (map line_of ls) ≡ suc (length (map line_of ls)) - 1 = omega arith in
    ap (λ z. let y : line.OpenLine = z in indentation (length (map line_of ls)) ++
    (codes "end " ++ decimal (items_of (kind_of y.kind) y.members) ++ codes "\n")) same ∙
    ap (λ n. indentation n ++ (codes "end " ++ decimal (items_of (kind_of l.kind) l.members) ++ codes "\n")) level

-- it is written on its level
pub writes_last_line : (ls : List line.OpenLine) (l : line.OpenLine) (level : ℕ) → innermost ls ≡ Some l → level ≡ length (map line_of ls) - 1 →
    indentation level ++ (codes "end " ++ decimal (items_of (kind_of l.kind) l.members) ++ codes "\n") ≡ last_line (map line_of ls)
writes_last_line ls l level is at =
    ap (λ n. indentation n ++ (codes "end " ++ decimal (items_of (kind_of l.kind) l.members) ++ codes "\n")) at ∙ sym (last_line_is ls l is)

-- content on a page
pub content_shown : (p : Page) (s : List ℕ) → shown_on p (content_events s) ≡ quoted_text s
content_shown p [] = refl
content_shown p (c ∷ s) = ap (λ z. quoted_byte c ++ z) (content_shown (record p { text = with_bytes 1 p.text }) s)

with_one_more : (n : ℕ) (t : Option OpenText) → with_bytes n (with_bytes 1 t) ≡ with_bytes (suc n) t
with_one_more n None = refl
with_one_more n (Some t) = ap (λ z. Some (record t { size = z })) (omega arith)

pub content_page : (p : Page) (s : List ℕ) → page_after (content_events s) p ≡ record p { text = with_bytes (length s) p.text }
content_page p [] = ap (λ z. let q : Page = record p { text = z } in q) (none_more p.text)
  where
    none_more : (t : Option OpenText) → t ≡ with_bytes 0 t
    none_more None = refl
    none_more (Some t) = ap (λ z. Some (record t { size = z })) (omega arith)
content_page p (c ∷ s) =
    content_page (record p { text = with_bytes 1 p.text }) s ∙
    ap (λ z. let q : Page = record p { text = z } in q) (with_one_more (length s) p.text)

-- nothing is said of what a call leaves that failed
pub no_page : {X E : Type 0} (r : Result X E) (P : Type 0) → IsErr r → OnOk r P
no_page (Ok x) P is = absurd (cc)
no_page (Err e) P is = tt

-- a text in two parts, of which the first failed
pub first_fails : {X E : Type 0} (r : Result X E) (before after : Option (List ℕ)) (failures failures' : ℕ) (text next whole : List ℕ) → IsErr r →
    text ++ next ≡ whole → AppendsPart before after text × (failures' ≡ count_after 1 failures) → WritesText before after failures failures' r whole
first_fails r before after failures failures' text next whole is_err same written =
    subst (WritesText before after failures failures' r) same (writes_part r before after failures failures' text next is_err written)

-- of which the second did
pub second_fails : {X E : Type 0} (r : Result X E) (a b c : Option (List ℕ)) (f g h : ℕ) (text next rest whole : List ℕ) → IsErr r →
    text ++ (next ++ rest) ≡ whole → Appends a b text × (g ≡ f) → AppendsPart b c next × (h ≡ count_after 1 g) → WritesText a c f h r whole
second_fails r a b c f g h text next rest whole is_err same first written =
    subst (WritesText a c f h r) same (writes_next r a b c f g h text (next ++ rest) first (writes_part r b c g h next rest is_err written))

-- of which both were written, or the second failed
pub both_written : {X E : Type 0} (r : Result X E) (a b c : Option (List ℕ)) (f g h : ℕ) (text next whole : List ℕ) → text ++ next ≡ whole →
    Appends a b text × (g ≡ f) → WritesText b c g h r next → WritesText a c f h r whole
both_written r a b c f g h text next whole same first second = subst (WritesText a c f h r) same (writes_next r a b c f g h text next first second)

-- as many events as bytes
pub content_length : (s : List ℕ) → length (content_events s) ≡ length s
content_length [] = refl
content_length (c ∷ s) = ap suc (content_length s)

-- the text of a whole text is what begins its line, and its line
pub whole_shown : (p : Page) (k : TextKind) (s : List ℕ) → shown_on p (e.Text k ∷ (content_events s ++ e.TextEnd ∷ [])) ≡ beginning p ++ text_line k s
whole_shown p k s =
    let begun : Page = record p { text = Some (record { is_big = is_big k; size = 0 }) } in
    let ends : Page → List ℕ = λ q. end_of_text q.text ++ [] in
    ap (λ z. (beginning p ++ text_words k) ++ z) (shown-append (content_events s) (e.TextEnd ∷ []) begun
    ∙ ap (λ z. z ++ ends (page_after (content_events s) begun)) (content_shown begun s)
    ∙ ap (λ q. quoted_text s ++ ends q) (content_page begun s)
    ∙ ap (λ z. quoted_text s ++ z) (append-nil (end_of_text (with_bytes (length s) begun.text)))
    ∙ ap (λ n. quoted_text s ++ end_of_text (Some (record { is_big = is_big k; size = n }))) (let z : 0 + length s ≡ length s = omega arith in z))
    ∙ append_assoc (beginning p) (text_words k) (quoted_text s ++ end_of_text (Some (record { is_big = is_big k; size = length s })))

-- after it one value more was written
pub whole_page : (p : Page) (k : TextKind) (s : List ℕ) →
    page_after (e.Text k ∷ (content_events s ++ e.TextEnd ∷ [])) p ≡ with_value (record p { text = None })
whole_page p k s =
    let begun : Page = record p { text = Some (record { is_big = is_big k; size = 0 }) } in
    page-append (content_events s) (e.TextEnd ∷ []) begun ∙
    ap (λ q. let z : Page = q in let y : Page = record { open_lines = with_member z.open_lines; text = None } in y) (content_page begun s)

-- where no text was begun there is as much room
pub room_without_text : (p : Page) → HasRoomFor 1 p → HasRoomFor 1 (record p { text = None })
room_without_text p room = record { members = room.members; size = omega arith }

fewer_members : (n : ℕ) (ls : List OpenLine) → 1 ≤ n → AllByRecursion (λ l. l.members + n < 2 ^ 64) ls → AllByRecursion (λ l. l.members + 1 < 2 ^ 64) ls
fewer_members n [] some h = tt
fewer_members n (l ∷ ls) some h = (omega (arith, some, h.0), fewer_members n ls some h.1)

-- room for some is room for one
pub room_for_one : (n : ℕ) (p : Page) → 1 ≤ n → HasRoomFor n p → HasRoomFor 1 p
room_for_one n p some room = record { members = fewer_members n p.open_lines some room.members; size = omega (arith, some, room.size) }

-- the line of an integer, of which a write failed
pub int_fails : {X E : Type 0} (r : Result X E) (a b c : Option (List ℕ)) (f g h : ℕ) (first : List ℕ) (i j : ℤ) → i ≡ j → IsErr r →
    Appends a b first × (g ≡ f) → AppendsPart b c (codes "int " ++ signed_decimal i ++ codes "\n") × (h ≡ count_after 1 g) →
    WritesText a c f h r ((first ++ (codes "int " ++ signed_decimal j ++ codes "\n")) ++ [])
int_fails r a b c f g h first i j same is_err written failed =
    let words = codes "int " ++ signed_decimal j ++ codes "\n" in
    let part = subst (λ n. AppendsPart b c (codes "int " ++ signed_decimal n ++ codes "\n") × (h ≡ count_after 1 g)) same failed in
    second_fails r a b c f g h first words [] ((first ++ words) ++ []) is_err (ap (λ z. first ++ z) (append-nil words) ∙ sym (append-nil (first ++ words)))
    written part
