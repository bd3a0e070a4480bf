-- The events due of a streamed string: the content of its whole chunks, and of a begun one the content so far.
use Rattle.std.proofs.Common.{◌≡◌, ℕ, ◌+◌, ◌<◌, ◌≤◌, List, [], ◌∷◌, ◌++◌, length, refl, sym, ap, subst, ◌∙◌, arith, append_assoc, append-nil, length-append}
use Rattle.std.proofs.lemmas.Bool.{lt-ltb}
use Rattle.std.specs.List.{AllByRecursion}
use Rattle.resp_value.specs.Bytes.{crlf}
use Rattle.resp_value.specs.Numbers.{IsDigits, IsNumber, number}
use Rattle.resp_value.specs.Rules.{Rules}
use Rattle.resp_value.specs.Trees.{Chunk, IsChunk, Tree, IsTree, leaf, chunked, chunks_text, joined_content, leaf_text, text}
use Rattle.resp_value.proofs.FirstLines.{after_line, first_is_line, first_line, sort_of-line}
use Rattle.resp_value.proofs.Splitting.{line_split}
use Rattle.resp_value.proofs.Unique.{chunk_line, chunks_text-append}
use Rattle.resp_fronts.specs.Events as e
use Rattle.resp_fronts.specs.Events.{Event, Timed, bytes_from, chunk_events, events_due, events, last_of, leaf_events}
use Rattle.resp_fronts.proofs.FirstLines.BegunLines.{line_begins, text_first}
use Rattle.resp_fronts.proofs.EventLaws.EventsDue.{AreFrom, due-append, due_none}
use Rattle.resp_fronts.proofs.FirstLines.FirstLineRows.{tree_of_chunked}
use Rattle.resp_fronts.proofs.Tokens.StreamedHeads.{mark_line}
use Rattle.resp_fronts.proofs.Tokens.StreamedStrings.{chunks_begin, last, with_chunks}
use Rattle.resp_scan.specs.Kinds.{content_events}
use Rattle.resp_scan.specs.Machine.Beginnings.{ChunkBegun, ChunksBegun}
use Rattle.resp_scan.proofs.DueEvents.FramesDue.{from-append}
use Rattle.resp_scan.proofs.DueEvents.InsideDue.{AreDueWithin, longer_front}
use Rattle.resp_scan.proofs.TokenMoves.LeafEvents.{content_events-append}
use Rattle.resp_scan.proofs.DueEvents.TextsDue.{bytes_later, chunks_later, due_bytes}

length-chunks : (cs : List Chunk) (rest : List ℕ) → length (chunks_text cs rest) ≡ length (chunks_text cs []) + length rest
length-chunks cs rest = sym (ap length (chunks_text-append cs [] rest)) ∙ length-append (chunks_text cs []) rest

length-chunk : (c : Chunk) (rest : List ℕ) → length ((59 ∷ c.digits) ++ crlf (c.content ++ crlf rest)) ≡ length c.digits + length c.content + 5 + length rest
length-chunk c rest = omega (arith, length-append (59 ∷ c.digits) (crlf (c.content ++ crlf rest)), length-append c.content (crlf rest))

-- chunks after chunks
chunk_events-with : (at : ℕ) (cs more : List Chunk) → chunk_events at (with_chunks cs more) ≡ chunk_events at cs ++
    chunk_events (at + length (chunks_text cs [])) more
chunk_events-with at [] more = let here : at ≡ at + 0 = omega arith in ap (λ n. chunk_events n more) here
chunk_events-with at (c ∷ cs) more =
    let next = at + length c.digits + length c.content + 5 in
    let here : next + length (chunks_text cs []) ≡ at + length (chunks_text (c ∷ cs) []) = omega (arith, length-chunk c (chunks_text cs [])) in
    let bytes = bytes_from (at + length c.digits + 3) c.content in
    ap (λ z. bytes ++ z) (chunk_events-with next cs more ∙ ap (λ n. chunk_events next cs ++ chunk_events n more) here)
    ∙ sym (append_assoc bytes (chunk_events next cs) (chunk_events (at + length (chunks_text (c ∷ cs) [])) more))

bytes_all : (n from : ℕ) (s : List ℕ) → from + length s ≤ n → events_due n (bytes_from from s) ≡ content_events s
bytes_all n from [] l = refl
bytes_all n from (b ∷ s) l = let before : from < n = omega (arith, l) in
    rw (lt-ltb from n before) (ap (λ z. e.Byte b ∷ z) (bytes_all n (from + 1) s (omega (arith, l))))

chunks_all : (n at : ℕ) (cs : List Chunk) → at + length (chunks_text cs []) ≤ n → events_due n (chunk_events at cs) ≡ content_events (joined_content cs)
chunks_all n at [] l = refl
chunks_all n at (c ∷ cs) l =
    let size = length-chunk c (chunks_text cs []) in
    let next = at + length c.digits + length c.content + 5 in
    due-append n (bytes_from (at + length c.digits + 3) c.content) (chunk_events next cs)
    ∙ ap (λ z. z ++ events_due n (chunk_events next cs)) (bytes_all n (at + length c.digits + 3) c.content (omega (arith, l, size)))
    ∙ ap (λ z. content_events c.content ++ z) (chunks_all n next cs (omega (arith, l, size)))
    ∙ sym (content_events-append c.content (joined_content cs))

-- whole chunks first, and then what is due after them
stream_due : (from n : ℕ) (cs more : List Chunk) (zeros : List ℕ) (shown : List Event) → from + 4 + length (chunks_text cs []) ≤ n →
    events_due n (chunk_events (from + 4 + length (chunks_text cs [])) more ++
    record { at = last_of from (leaf_text (chunked (with_chunks cs more) zeros)); event = e.TextEnd } ∷ []) ≡ shown →
    events_due n (leaf_events from (chunked (with_chunks cs more) zeros)) ≡ (e.Text e.Bulk ∷ content_events (joined_content cs)) ++ shown
stream_due from n cs more zeros shown l beyond =
    let end : List Timed = record { at = last_of from (leaf_text (chunked (with_chunks cs more) zeros)); event = e.TextEnd } ∷ [] in
    let next = from + 4 + length (chunks_text cs []) in
    let begun : from + 3 < n = omega (arith, l) in
    rw (lt-ltb (from + 3) n begun) (ap (λ z. e.Text e.Bulk ∷ z)
    (ap (λ z. events_due n (z ++ end)) (chunk_events-with (from + 4) cs more)
    ∙ ap (events_due n) (append_assoc (chunk_events (from + 4) cs) (chunk_events next more) end)
    ∙ due-append n (chunk_events (from + 4) cs) (chunk_events next more ++ end)
    ∙ ap (λ z. z ++ events_due n (chunk_events next more ++ end)) (chunks_all n (from + 4) cs l)
    ∙ ap (λ z. content_events (joined_content cs) ++ z) beyond))

-- the streamed string that a value is of which whole chunks have come
record IsStreamOf (cs : List Chunk) (begun beyond : List ℕ) (value : Tree) : Type 0 where
  pub more : List Chunk
  pub zeros : List ℕ
  pub are_chunks : AllByRecursion IsChunk more
  pub is_zero : IsNumber 0 zeros
  pub same : value ≡ leaf (chunked (with_chunks cs more) zeros)
  pub goes_on : chunks_text more (last zeros) ≡ begun ++ beyond

stream_of : (cs : List Chunk) (begun beyond : List ℕ) (value : Tree) → AllByRecursion IsChunk cs → IsTree value →
    text value ≡ (36 ∷ 63 ∷ crlf (chunks_text cs begun)) ++ beyond → IsStreamOf cs begun beyond value
stream_of cs begun beyond value are is_tree whole =
    let s = line_split (first_line value) (36 ∷ 63 ∷ []) (after_line value) (chunks_text cs begun ++ beyond) (first_is_line value is_tree) mark_line
    (sym (text_first value) ∙ whole) in
    let u = tree_of_chunked value (sort_of-line value is_tree s.0) in
    let i : IsTree (leaf (chunked u.0 u.1)) = subst IsTree u.2 is_tree in
    let after : chunks_text u.0 (last u.1) ≡ chunks_text cs begun ++ beyond = ap after_line (sym u.2) ∙ s.1 in
    let (more, split, chunks, goes_on) = chunks_begin cs u.0 u.1 (begun ++ beyond) are i.0 i.1.0 i.1.1 (after ∙ chunks_text-append cs begun beyond) in
    record { more = more; zeros = u.1; are_chunks = chunks; is_zero = i.1; same = u.2 ∙ ap (λ z. leaf (chunked z u.1)) split; goes_on = goes_on }

-- Between chunks.

-- the line that comes next, of a chunk or of the end, before which there are no events
record HasLine (more : List Chunk) (zeros : List ℕ) : Type 0 where
  pub digits : List ℕ
  pub beyond : List ℕ
  pub are : chunks_text more (last zeros) ≡ (59 ∷ digits) ++ crlf beyond
  pub quiet : (at n : ℕ) → n ≤ at + length digits + 3 → AreFrom n (chunk_events at more)

has_line : (more : List Chunk) (zeros : List ℕ) → HasLine more zeros
has_line [] zeros = record { digits = zeros; beyond = []; are = refl; quiet = λ at n l. tt }
has_line (c ∷ cs) zeros = record {
  digits = c.digits;
  beyond = c.content ++ crlf (chunks_text cs (last zeros));
  are = refl;
  quiet = λ at n l. from-append n (bytes_from (at + length c.digits + 3) c.content) (chunk_events (at + length c.digits + length c.content + 5) cs)
      (bytes_later n (at + length c.digits + 3) c.content l) (chunks_later n (at + length c.digits + length c.content + 5) cs (omega (arith, l)));
}

-- bytes of such a line, up to its LF
abbrev pub IsInLine : List ℕ → Type 0
IsInLine begun = (digits after beyond : List ℕ) → (59 ∷ digits) ++ crlf after ≡ begun ++ beyond → length begun ≤ length digits + 2

-- whole chunks, and bytes of the next line
pub chunks_due : (r : Rules) (room : ℕ) (begun : List ℕ) (level : ℕ) (bytes : List ℕ) (shown : List Event) → IsInLine begun →
    ChunksBegun r room begun level bytes shown → AreDueWithin bytes shown
chunks_due r room begun level bytes shown in_line w from value beyond is_tree whole =
    let v = stream_of w.chunks begun beyond value w.are_chunks is_tree (whole ∙ ap (λ z. z ++ beyond) w.are) in
    let n = from + length bytes in
    let next = from + 4 + length (chunks_text w.chunks []) in
    let h = has_line v.more v.zeros in
    let short : length begun ≤ length h.digits + 2 = in_line h.digits h.beyond beyond (sym h.are ∙ v.goes_on) in
    let place : n ≡ next + length begun = omega (arith, ap length w.are, length-chunks w.chunks begun) in
    let some : 0 < length beyond = omega (
      arith,
      short,
      ap length (sym h.are ∙ v.goes_on),
      length-append (59 ∷ h.digits) (crlf h.beyond),
      length-append begun beyond,
    ) in
    let end : n ≤ last_of from (leaf_text (chunked (with_chunks w.chunks v.more) v.zeros)) =
    omega (arith, ap (λ z. length (text z)) v.same, ap length whole, length-append bytes beyond, some) in
    ap (λ z. events_due n (events from z)) v.same
    ∙ stream_due from n w.chunks v.more v.zeros [] (omega (arith, place))
    (due_none n _ (from-append n (chunk_events next v.more) _ (h.quiet next n (omega (arith, place, short))) (end, tt)))
    ∙ append-nil (e.Text e.Bulk ∷ content_events (joined_content w.chunks))
    ∙ sym w.told

-- no byte
pub none_in_line : IsInLine []
none_in_line digits after beyond same = omega arith

-- a chunk's type byte
pub mark_in_line : IsInLine (59 ∷ [])
mark_in_line digits after beyond same = omega arith

-- its digits
pub length_in_line : (digits : List ℕ) → IsDigits digits → IsInLine ((59 ∷ digits) ++ [])
length_in_line digits are others after beyond same =
    let (l, h, rest) = line_begins (59 ∷ others) (59 ∷ digits) after beyond (chunk_line digits are) (same ∙ ap (λ z. z ++ beyond) (append-nil (59 ∷ digits))) in
    omega (arith, ap length h, length-append (59 ∷ digits) l, length-append (59 ∷ digits) [])

-- a chunk's line and its CR are within a line
pub returned_in_line : (digits : List ℕ) → IsDigits digits → IsInLine ((59 ∷ digits) ++ 13 ∷ [])
returned_in_line digits are others after beyond same =
    let (l, h, rest) = line_begins (59 ∷ others) (59 ∷ digits) after (13 ∷ beyond) (chunk_line digits are)
    (same ∙ append_assoc (59 ∷ digits) (13 ∷ []) beyond) in
    omega (arith, ap length h, length-append (59 ∷ digits) l, length-append (59 ∷ digits) (13 ∷ []))

-- Within a chunk.

-- the chunk that is begun, with more content, and those after it
record IsChunkOf (digits part : List ℕ) (n : ℕ) (more : List Chunk) : Type 0 where
  pub content : List ℕ
  pub rest : List Chunk
  pub are : more ≡ record { digits = digits; content = part ++ content } ∷ rest
  pub size : length content ≡ n

chunk_of : (more : List Chunk) (zeros digits part beyond : List ℕ) (n : ℕ) → AllByRecursion IsChunk more → IsNumber 0 zeros → IsDigits digits →
    0 < number digits → number digits ≡ length part + n → chunks_text more (last zeros) ≡ (59 ∷ digits) ++ crlf (part ++ beyond) → IsChunkOf digits part n more
chunk_of [] zeros digits part beyond n chunks zero are some valued goes_on =
    let s = line_split (59 ∷ zeros) (59 ∷ digits) [] (part ++ beyond) (chunk_line zeros zero.0) (chunk_line digits are) goes_on in
    let line : 59 ∷ zeros ≡ 59 ∷ digits = s.0 in
    let same : zeros ≡ digits = cc in
    let none : number zeros ≡ number digits = ap number same in
    absurd (omega (arith, zero.1, none, some))
chunk_of (c ∷ cs) zeros digits part beyond n chunks zero are some valued goes_on =
    let s = line_split (59 ∷ c.digits) (59 ∷ digits) (c.content ++ crlf (chunks_text cs (last zeros))) (part ++ beyond) (chunk_line c.digits chunks.0.0.0)
    (chunk_line digits are) goes_on in
    let line : 59 ∷ c.digits ≡ 59 ∷ digits = s.0 in
    let same : c.digits ≡ digits = cc in
    let says : number c.digits ≡ length c.content = chunks.0.0.1 in
    let size : length c.content ≡ length part + n = omega (arith, says, valued, ap number same) in
    let (l, h) = longer_front c.content part (crlf (chunks_text cs (last zeros))) beyond s.1 (omega (arith, size)) in
    let c0 : c ≡ record { digits = digits; content = part ++ l } = λ i. record { digits = same i; content = h i } in
    record { content = l; rest = cs; are = ap (λ z. z ∷ cs) c0; size = omega (arith, size, ap length h, length-append part l) }

-- nothing after its content, or its CR
abbrev pub IsAfter : ℕ → List ℕ → Type 0
IsAfter n [] = Unit {0}
IsAfter n (c ∷ cs) = (n ≡ 0) × (length cs ≡ 0)

later_content : (n at : ℕ) (l : List ℕ) (size : ℕ) (beyond : List ℕ) → IsAfter size beyond → length l ≡ size → n ≡ at + length beyond →
    AreFrom n (bytes_from at l)
later_content n at l size [] p s place = bytes_later n at l (omega (arith, place))
later_content n at [] size (c ∷ cs) p s place = tt
later_content n at (x ∷ l) size (c ∷ cs) p s place = absurd (omega (arith, s, p.0))

short_after : (size : ℕ) (beyond : List ℕ) → IsAfter size beyond → length beyond + size ≤ 1 + size
short_after size [] p = omega arith
short_after size (c ∷ cs) p = omega (arith, p.1)

-- whole chunks, and the content so far of the next
pub chunk_due : (r : Rules) (room n : ℕ) (after : List ℕ) (level : ℕ) (bytes : List ℕ) (shown : List Event) → IsAfter n after →
    ChunkBegun r room n after level bytes shown → AreDueWithin bytes shown
chunk_due r room n after level bytes shown short w from value beyond is_tree whole =
    let c = w.chunks in
    let begun = (59 ∷ w.digits) ++ crlf (w.part ++ after) in
    let v = stream_of c.chunks begun beyond value c.are_chunks is_tree (whole ∙ ap (λ z. z ++ beyond) c.are) in
    let goes_on : chunks_text v.more (last v.zeros) ≡ (59 ∷ w.digits) ++ crlf (w.part ++ (after ++ beyond)) =
    v.goes_on ∙ append_assoc (59 ∷ w.digits) (crlf (w.part ++ after)) beyond ∙ ap (λ z. (59 ∷ w.digits) ++ crlf z) (append_assoc w.part after beyond) in
    let k = chunk_of v.more v.zeros w.digits w.part (after ++ beyond) n v.are_chunks v.is_zero w.are_digits w.some w.valued goes_on in
    let chunk : Chunk = record { digits = w.digits; content = w.part ++ k.content } in
    let now = from + length bytes in
    let next = from + 4 + length (chunks_text c.chunks []) in
    let at = next + length w.digits + 3 in
    let rest = next + length w.digits + length (w.part ++ k.content) + 5 in
    let ends = last_of from (leaf_text (chunked (with_chunks c.chunks v.more) v.zeros)) in
    let end : List Timed = record { at = ends; event = e.TextEnd } ∷ [] in
    let size : length begun ≡ length w.digits + 3 + length w.part + length after =
    omega (arith, length-append (59 ∷ w.digits) (crlf (w.part ++ after)), length-append w.part after) in
    let place : now ≡ at + length w.part + length after = omega (arith, size, ap length c.are, length-chunks c.chunks begun) in
    let few = short_after n after short in
    let some : 0 < length beyond = omega (
      arith,
      few,
      k.size,
      ap length (sym goes_on ∙ ap (λ z. chunks_text z (last v.zeros)) k.are),
      length-chunk chunk (chunks_text k.rest (last v.zeros)),
      length-append w.part k.content,
      length-append (59 ∷ w.digits) (crlf (w.part ++ (after ++ beyond))),
      length-append w.part (after ++ beyond),
      length-append after beyond,
    ) in
    let ended : now ≤ ends = omega (arith, ap (λ z. length (text z)) v.same, ap length whole, length-append bytes beyond, some) in
    let later : AreFrom now (bytes_from (at + length w.part) k.content ++ (chunk_events rest k.rest ++ end)) =
    from-append now (bytes_from (at + length w.part) k.content) (chunk_events rest k.rest ++ end)
    (later_content now (at + length w.part) k.content n after short k.size place)
    (from-append now (chunk_events rest k.rest) end (chunks_later now rest k.rest (omega (arith, place, few, length-append w.part k.content))) (ended, tt)) in
    ap (λ z. events_due now (events from z)) v.same
    ∙ stream_due from now c.chunks v.more v.zeros (content_events w.part) (omega (arith, place))
    (ap (λ z. events_due now (chunk_events next z ++ end)) k.are
    ∙ ap (events_due now) (append_assoc (bytes_from at (w.part ++ k.content)) (chunk_events rest k.rest) end)
    ∙ due_bytes now at w.part k.content (chunk_events rest k.rest ++ end) (omega (arith, place)) later)
    ∙ ap (λ z. z ++ content_events w.part) (sym c.told)
    ∙ sym w.told
