-- The events shown of a token: they leave no aggregate open, none is Done, and they are no more than the token has bytes.
use Rattle.std.proofs.Common.{◌≡◌, ℕ, ◌+◌, ◌≤◌, List, [], ◌∷◌, ◌++◌, length, Bool, refl, sym, ap, subst, arith, length-append}
use Rattle.resp_value.specs.Bytes.{crlf}
use Rattle.resp_value.specs.Numbers.{number, sign_text}
use Rattle.resp_value.specs.Trees.{Leaf, joined_content, leaf_text, payload, string_byte}
use Rattle.resp_value.specs.Rules.{Rules}
use Rattle.resp_value.proofs.DigitLemmas.{length-significant_digits}
use Rattle.resp_fronts.specs.Events as e
use Rattle.resp_fronts.specs.Events.{Event, without_places, leaf_events}
use Rattle.resp_fronts.proofs.Tokens.LineTokens.{returned_whole}
use Rattle.resp_scan.specs.declared.machine.Head.{Head}
use Rattle.resp_scan.specs.declared.machine.Head.TheVariants as head
use Rattle.resp_scan.specs.Machine.Tokens.{Token, AtStart, AtEnd, InLine, InDouble, AtLineLf, AtIntSign, AtBigSign, InBigZeros, AtBigDigit, InBig, AtTextEnd, AtNullOne, AtBool, AtBoolCr, AtBoolLf, AtBulkHead, AtArrayHead, AtHead, InHead, AtHeadLf, InContent, AtContentCr, AtContentLf, AtStreamCr, AtStreamLf, AtChunk, InChunk, AtChunkCr, AtChunkLf, AtCloseCr, AtCloseLf, Dead}
use Rattle.resp_scan.specs.Kinds.{content_events}
use Rattle.resp_scan.specs.Machine.Beginnings.{TokenHas, BigBegun, ChunkBegun, ChunksBegun, ContentBegun, HeadBegun, HeadCounts, HeadReturned}
use Rattle.resp_scan.specs.Counts.{open_count, close_count}
use Rattle.resp_scan.proofs.DueEvents.FewEvents.{content_in_chunks, content_in_payload, leaf_few, length-content}
use Rattle.resp_scan.specs.Reading.{HasNoDone}
use Rattle.resp_scan.proofs.DueEvents.NoDone.{content_no_done, leaf_no_done, no_done-append, no_done_before}
use Rattle.resp_scan.proofs.DueEvents.Opens.{LeaveOpen, closes-append, content_opens, leaf_opens, open-append, opens-append}

-- as many opens as closes, no Done, and no more events than bytes
pub record IsShown (bytes : List ℕ) (shown : List Event) : Type 0 where
  pub none_open : LeaveOpen 0 shown
  pub no_done : HasNoDone shown
  pub few : length shown ≤ length bytes

none_shown : (bytes : List ℕ) (shown : List Event) → shown ≡ [] → IsShown bytes shown
none_shown bytes shown told = record {
  none_open = subst (LeaveOpen 0) (sym told) refl;
  no_done = subst HasNoDone (sym told) tt;
  few = omega (arith, ap length told);
}

-- a text's kind, and content
text_shown : (bytes : List ℕ) (k : e.TextKind) (s : List ℕ) (shown : List Event) → shown ≡ e.Text k ∷ content_events s → length s + 1 ≤ length bytes →
    IsShown bytes shown
text_shown bytes k s shown told fits = record {
  none_open = subst (LeaveOpen 0) (sym told) (omega (arith, content_opens s));
  no_done = subst HasNoDone (sym told) (tt, content_no_done s);
  few = omega (arith, ap length told, length-content s);
}

-- the events of a leaf but for the end of its text
leaf_shown : (bytes : List ℕ) (l : Leaf) (shown : List Event) → without_places (leaf_events 0 l) ≡ shown ++ e.TextEnd ∷ [] →
    length (leaf_text l) ≤ length bytes + 1 → IsShown bytes shown
leaf_shown bytes l shown told fits = record {
  none_open = omega (arith, leaf_opens 0 l, ap open_count told, ap close_count told, opens-append shown (e.TextEnd ∷ []), closes-append shown (e.TextEnd ∷ []));
  no_done = no_done_before shown (e.TextEnd ∷ []) (subst HasNoDone told (leaf_no_done 0 l));
  few = omega (arith, leaf_few 0 l, ap length told, length-append shown (e.TextEnd ∷ []));
}

big_shown : (r : Rules) (negative : Bool) (kept : List ℕ) (level : ℕ) (bytes : List ℕ) (shown : List Event) → BigBegun r negative kept level bytes →
    (s : List ℕ) → length s ≤ length kept → shown ≡ e.Text (e.Big negative) ∷ content_events s → IsShown bytes shown
big_shown r negative kept level bytes shown w s fits told = text_shown bytes (e.Big negative) s shown told
    (omega (
      arith,
      fits,
      ap length w.left,
      length-significant_digits (w.first ∷ w.digits),
      ap length w.token.are,
      length-append (sign_text w.sign) (w.first ∷ w.digits),
    ))

content_shown : (r : Rules) (n level : ℕ) (bytes : List ℕ) (shown : List Event) → ContentBegun r n level bytes shown → IsShown bytes shown
content_shown r n level bytes shown w = text_shown bytes _ w.part shown w.told
    (omega (
      arith,
      ap length w.token.are,
      length-append (string_byte w.kind ∷ w.first ∷ w.digits) (crlf (payload w.kind w.part)),
      content_in_payload w.kind w.part,
    ))

-- bytes after chunks that are no more than these
chunks_shown : (r : Rules) (room : ℕ) (begun : List ℕ) (level : ℕ) (bytes : List ℕ) (shown : List Event) → ChunksBegun r room begun level bytes shown →
    LeaveOpen 0 shown × HasNoDone shown × (length shown + length begun ≤ length bytes)
chunks_shown r room begun level bytes shown w = (
  subst (LeaveOpen 0) (sym w.told) (omega (arith, content_opens (joined_content w.chunks))),
  subst HasNoDone (sym w.told) (tt, content_no_done (joined_content w.chunks)),
  omega (arith, ap length w.told, length-content (joined_content w.chunks), ap length w.are, content_in_chunks w.chunks begun),
)

streamed_shown : (r : Rules) (room : ℕ) (begun : List ℕ) (level : ℕ) (bytes : List ℕ) (shown : List Event) → ChunksBegun r room begun level bytes shown →
    IsShown bytes shown
streamed_shown r room begun level bytes shown w = let h = chunks_shown r room begun level bytes shown w in
    record { none_open = h.0; no_done = h.1; few = omega (arith, h.2) }

chunk_shown : (r : Rules) (room n : ℕ) (beyond : List ℕ) (level : ℕ) (bytes : List ℕ) (shown : List Event) → ChunkBegun r room n beyond level bytes shown →
    IsShown bytes shown
chunk_shown r room n beyond level bytes shown w =
    let begun = (59 ∷ w.digits) ++ crlf (w.part ++ beyond) in
    let h = chunks_shown r (room + number w.digits) begun level bytes w.before w.chunks in record {
      none_open = subst (LeaveOpen 0) (sym w.told) (open-append 0 0 w.before (content_events w.part) h.0 (content_opens w.part));
      no_done = subst HasNoDone (sym w.told) (no_done-append w.before (content_events w.part) h.1 (content_no_done w.part));
      few = omega (
        arith,
        h.2,
        ap length w.told,
        length-append w.before (content_events w.part),
        length-content w.part,
        length-append (59 ∷ w.digits) (crlf (w.part ++ beyond)),
        length-append w.part beyond,
      );
    }

head_shown : (r : Rules) (h : Head) (level : ℕ) (bytes : List ℕ) (shown : List Event) → HeadBegun r h level bytes shown → IsShown bytes shown
head_shown r head.Bulk level bytes shown w = absurd w
head_shown r head.BulkError level bytes shown w = none_shown bytes shown w.2
head_shown r head.Verbatim level bytes shown w = none_shown bytes shown w.2
head_shown r (head.Chunk room) level bytes shown w = streamed_shown r room (59 ∷ []) level bytes shown w
head_shown r head.Array level bytes shown w = absurd w
head_shown r _ level bytes shown w = none_shown bytes shown w.told

count_shown : (r : Rules) (h : Head) (n level : ℕ) (bytes : List ℕ) (shown : List Event) → HeadCounts r h n level bytes shown → IsShown bytes shown
count_shown r (head.Chunk room) n level bytes shown w = streamed_shown r room _ level bytes shown w.chunks
count_shown r _ n level bytes shown w = none_shown bytes shown w.told

returned_shown : (r : Rules) (h : Head) (n level : ℕ) (bytes : List ℕ) (shown : List Event) → HeadReturned r h n level bytes shown → IsShown bytes shown
returned_shown r head.Bulk n level bytes shown w = none_shown bytes shown w.length.told
returned_shown r head.BulkError n level bytes shown w = none_shown bytes shown w.length.told
returned_shown r head.Verbatim n level bytes shown w = none_shown bytes shown w.1.length.told
returned_shown r (head.Chunk room) n level bytes shown w = streamed_shown r room _ level bytes shown w.chunks
returned_shown r _ n level bytes shown w = none_shown bytes shown w.told

-- of each token
pub is_shown : (token : Token) (r : Rules) (level : ℕ) (bytes : List ℕ) (shown : List Event) → TokenHas r token level bytes shown → IsShown bytes shown
is_shown AtStart r level bytes shown w = absurd w
is_shown AtEnd r level bytes shown w = absurd w
is_shown (InLine room) r level bytes shown w = text_shown bytes _ w.token.content shown w.told (omega (arith, ap length w.token.are))
is_shown (InDouble stage room) r level bytes shown w = text_shown bytes _ w.token.content shown w.told (omega (arith, ap length w.token.are))
is_shown AtLineLf r level bytes shown w = leaf_shown bytes w.leaf shown w.told
    (omega (arith, ap length (returned_whole r w.leaf level bytes w.returned), length-append bytes (10 ∷ [])))
is_shown AtIntSign r level bytes shown w = none_shown bytes shown w.1
is_shown AtBigSign r level bytes shown w = none_shown bytes shown w.1
is_shown (InBigZeros negative) r level bytes shown w = none_shown bytes shown w.1
is_shown (AtBigDigit digit room) r level bytes shown w = big_shown r w.negative (digit ∷ []) level bytes shown w.token [] (omega arith) w.told
is_shown (InBig room) r level bytes shown w = big_shown r w.negative (w.digit ∷ w.digits) level bytes shown w.token (w.digit ∷ w.digits) (omega arith) w.told
is_shown AtTextEnd r level bytes shown w = leaf_shown bytes w.leaf shown w.told (omega (arith, ap length w.whole))
is_shown AtNullOne r level bytes shown w = none_shown bytes shown w.1
is_shown AtBool r level bytes shown w = none_shown bytes shown w.2
is_shown (AtBoolCr b) r level bytes shown w = none_shown bytes shown w.1
is_shown (AtBoolLf b) r level bytes shown w = none_shown bytes shown w.1
is_shown AtBulkHead r level bytes shown w = none_shown bytes shown w.1
is_shown AtArrayHead r level bytes shown w = none_shown bytes shown w.1
is_shown (AtHead h) r level bytes shown w = head_shown r h level bytes shown w
is_shown (InHead h n) r level bytes shown w = count_shown r h n level bytes shown w
is_shown (AtHeadLf h n) r level bytes shown w = returned_shown r h n level bytes shown w
is_shown (InContent n) r level bytes shown w = content_shown r n level bytes shown w.0
is_shown AtContentCr r level bytes shown w = content_shown r 0 level bytes shown w
is_shown AtContentLf r level bytes shown w =
    let h = content_shown r 0 level w.before shown w.content in
    record { none_open = h.none_open; no_done = h.no_done; few = omega (arith, h.few, ap length w.returned, length-append w.before (13 ∷ [])) }
is_shown AtStreamCr r level bytes shown w = none_shown bytes shown w.2
is_shown AtStreamLf r level bytes shown w = none_shown bytes shown w.2
is_shown (AtChunk room) r level bytes shown w = streamed_shown r room [] level bytes shown w
is_shown (InChunk room n) r level bytes shown w = chunk_shown r room n [] level bytes shown w.0
is_shown (AtChunkCr room) r level bytes shown w = chunk_shown r room 0 [] level bytes shown w
is_shown (AtChunkLf room) r level bytes shown w = chunk_shown r room 0 (13 ∷ []) level bytes shown w
is_shown AtCloseCr r level bytes shown w = absurd w
is_shown AtCloseLf r level bytes shown w = absurd w
is_shown (Dead c) r level bytes shown w = absurd w
is_shown _ r level bytes shown w = none_shown bytes shown w.told
