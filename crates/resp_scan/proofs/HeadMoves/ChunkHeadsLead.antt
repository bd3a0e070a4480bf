-- Heads of chunks, byte by byte.
use Rattle.std.specs.Prelude.{true, false, cond, eqb}
use Rattle.std.proofs.lemmas.Bool.Decides.{nat_tests}
use Rattle.std.specs.List.{AllByRecursion}
use Rattle.std.proofs.Common.{◌≡◌, ℕ, ◌+◌, ◌-◌, ◌*◌, ◌<◌, ◌≤◌, List, [], ◌∷◌, ◌++◌, refl, sym, ap, subst, ◌∙◌, arith, append_assoc, append-nil, length-append}
use Rattle.resp_value.specs.Bytes.{crlf}
use Rattle.resp_value.specs.Numbers.{IsDigit, number}
use Rattle.resp_value.specs.Trees.{leaf, chunked}
use Rattle.resp_value.specs.Rules.{Rules, Grammar, WithinDepth, WithinItems, WithinLength}
use Rattle.resp_value.specs.declared.cause.Cause.TheVariants as cause
use Rattle.resp_value.proofs.Unique.{chunks_text-append}
use Rattle.resp_value.proofs.FirstBytes.{all_append}
use Rattle.resp_value.proofs.DigitLemmas.{number-digit}
use Rattle.resp_fronts.specs.Events.{Event}
use Rattle.resp_fronts.specs.Events as e
use Rattle.resp_fronts.proofs.FirstLines.CountRows.{CompletesUnder, IsRefusedHere}
use Rattle.resp_fronts.proofs.Tokens.BegunFronts.{IsBegunBy}
use Rattle.resp_fronts.proofs.Tokens.ChunkTokens.{chunk_length_begun, chunk_length_over, chunk_length_returned_begun, chunk_mark_begun, chunk_zero_begun, chunk_zero_returned_begun, chunked_keeps, streamed_text}
use Rattle.resp_fronts.proofs.Refusals.BrokenChunks.{chunk_length_broken, chunk_length_returned_broken, chunk_mark_broken}
use Rattle.resp_scan.specs.declared.machine.Head.TheVariants as head
use Rattle.resp_scan.specs.Machine.Tokens.{Move, Place, Go, Give, TextEnd, AtHead, InHead, AtHeadLf, InChunk, at, at_boundary}
use Rattle.resp_scan.specs.Machine.Heads.{chunk_needed}
use Rattle.resp_scan.specs.Machine.Moves.{head_digit}
use Rattle.resp_scan.specs.Kinds.{IsRefusedFor, rules_of}
use Rattle.resp_scan.specs.Machine.Beginnings.{ChunkBegun, ChunkLength, ChunksBegun}
use Rattle.resp_scan.specs.Machine.Standing.{HasCountsOf, IsInside, Leads, StandsAfter}
use Rattle.resp_scan.proofs.TokenMoves.ByteTests.{by_byte, by_digit, by_test, wanted}
use Rattle.resp_scan.proofs.TokenMoves.ChunksBegun.{are_whole, chunks_more, text_more}
use Rattle.resp_scan.proofs.HeadMoves.HeadDigits.{head_digit_leads}
use Rattle.resp_scan.proofs.TokenMoves.LeafEvents.{given-chunked, leaf_told}
use Rattle.resp_scan.proofs.TokenMoves.Moves.{Ends, goes, retold, value_ends, ALead}
use Rattle.resp_scan.proofs.TokenMoves.RefusedMoves.{broken, refused}
use Rattle.resp_scan.specs.declared.machine.Head.TheVariants.{Chunk}

-- Lengths.

-- the digits of a chunk's length so far, or none
record Digits (r : Rules) (room n : ℕ) (level : ℕ) (bytes : List ℕ) (shown : List Event) : Type 0 where
  digits : List ℕ
  are_digits : AllByRecursion IsDigit digits
  valued : number digits ≡ n
  chunks : ChunksBegun r room (59 ∷ digits) level bytes shown

-- a digit more
with_digit : (r : Rules) (room n level byte : ℕ) (bytes : List ℕ) (shown : List Event) → IsDigit byte → n * 10 + (byte - 48) ≤ room →
    Digits r room n level bytes shown → ChunkLength r room (n * 10 + (byte - 48)) [] level (bytes ++ byte ∷ []) shown
with_digit r room n level byte bytes shown digit fits w = record {
  digits = w.digits ++ byte ∷ [];
  are_digits = (omega (arith, length-append w.digits (byte ∷ [])), all_append IsDigit w.digits (byte ∷ []) w.are_digits (digit, tt));
  valued = omega (arith, number-digit w.digits byte, w.valued);
  fits = fits;
  chunks = subst (λ z. ChunksBegun r room z level (bytes ++ byte ∷ []) shown) (ap (λ z. 59 ∷ z) (sym (append-nil (w.digits ++ byte ∷ []))))
      (chunks_more r room (59 ∷ w.digits) (byte ∷ []) level bytes shown w.chunks);
}

-- and one past the limit
past_room : (r : Rules) (room n level byte : ℕ) (bytes : List ℕ) (shown : List Event) → IsDigit byte → room < n * 10 + (byte - 48) →
    (w : Digits r room n level bytes shown) → (bytes ++ byte ∷ [] ≡ streamed_text w.chunks.chunks (59 ∷ (w.digits ++ byte ∷ []))) ×
    IsRefusedHere r WithinLength WithinDepth level (streamed_text w.chunks.chunks (59 ∷ (w.digits ++ byte ∷ [])))
past_room r room n level byte bytes shown digit past w = (
  text_more (byte ∷ []) w.chunks,
  chunk_length_over r level w.chunks.chunks (w.digits ++ byte ∷ []) (are_whole w.chunks) (
    omega (arith, length-append w.digits (byte ∷ [])),
    all_append IsDigit w.digits (byte ∷ []) w.are_digits (digit, tt),
  ) (omega (arith, number-digit w.digits byte, w.valued, w.chunks.leaves)),
)

plain : (r : Rules) (room n level : ℕ) (bytes : List ℕ) (shown : List Event) (w : ChunkLength r room n [] level bytes shown) →
    ChunksBegun r room (59 ∷ w.digits) level bytes shown
plain r room n level bytes shown w = subst (λ z. ChunksBegun r room (59 ∷ z) level bytes shown) (append-nil w.digits) w.chunks

-- what is needed after the digits
pub length_row : (r : Rules) (room n level : ℕ) (bytes : List ℕ) (shown : List Event) → ChunkLength r room n [] level bytes shown →
    IsBegunBy r level bytes (chunk_needed n)
length_row r room n level bytes shown w =
    let c = plain r room n level bytes shown w in
    subst (λ z. IsBegunBy r level z (chunk_needed n)) (sym c.are)
    (elim (eqb n 0) as (λ z. eqb n 0 ≡ z → IsBegunBy r level (streamed_text c.chunks (59 ∷ w.digits)) (cond z 2 (n + 8))) [
      | true ↦ λ z. let e : n ≡ 0 = grind (arith, nat_tests) in chunk_zero_begun r level c.chunks w.digits (are_whole c) w.are_digits (w.valued ∙ e)
      | false ↦ λ z. let some : 0 < n = grind (arith, nat_tests) in
          subst (IsBegunBy r level (streamed_text c.chunks (59 ∷ w.digits))) (omega (arith, w.valued))
          (chunk_length_begun r level c.chunks w.digits (are_whole c) w.are_digits (omega (arith, w.valued)) (omega (arith, w.valued, w.fits, c.leaves)))
    ] refl)

chunk_digit_leads : (s : Place) (room n used byte : ℕ) (front : List ℕ) (es : List Event) → IsDigit byte → HasCountsOf s used front →
    IsInside (rules_of s) (Digits (rules_of s) room n) s.frames front es →
    Leads s front es byte (head_digit s (used + 1) (head.Chunk room) (n * 10 + (byte - 48)))
chunk_digit_leads s room n used byte front es digit c w =
    let r = rules_of s in
    let m = n * 10 + (byte - 48) in
    head_digit_leads s (head.Chunk room) m used byte front es c
    (λ past. refused r (Digits r room n) WithinLength WithinDepth s.frames front (byte ∷ []) es refl (omega arith) w
    (λ level bytes shown i t. (let over = past_room r room n level byte bytes shown digit past t in (_, _, over.0, over.1))))
    (λ within. goes r (Digits r room n) (ChunkLength r room m []) s.frames front (byte ∷ []) es w
    (λ level bytes shown i t. with_digit r room n level byte bytes shown digit within t))
    (λ level bytes shown i t. length_row r room m level bytes shown t)

-- every byte after `;`
pub chunk_heads_lead : (s : Place) (room : ℕ) → ALead (at s (AtHead (Chunk room)))
chunk_heads_lead s room used byte front es is_byte c w =
    let r = rules_of s in
    let here = at s (AtHead (head.Chunk room)) in
    let dead : (IsDigit byte → ⊥) → IsRefusedFor r (front ++ byte ∷ []) cause.Syntax = λ other.
    broken r (ChunksBegun r room (59 ∷ [])) s.frames front es 3 byte w
    (λ level bytes shown i t. subst (λ z. IsBegunBy r level z 3) (sym t.are) (chunk_mark_begun r level t.chunks (are_whole t)))
    (λ level bytes rest shown t d. chunk_mark_broken r level t.chunks rest byte t.are_chunks other
    (subst (λ z. CompletesUnder r Grammar level z (byte ∷ rest)) t.are d)) in
    by_byte here front es 63 byte _ _
    (λ is_mark. dead (λ d. omega (arith, d.1)))
    (λ no_mark. by_digit here front es byte _ _
    (λ digit. subst (λ m. Leads here front es byte (head_digit here (used + 1) (head.Chunk room) m)) (omega arith)
    (chunk_digit_leads here room 0 used byte front es digit c (retold r (ChunksBegun r room (59 ∷ [])) (Digits r room 0) s.frames front es w
    (λ level bytes shown t. record { digits = []; are_digits = tt; valued = refl; chunks = t }))))
    dead)

-- every byte after the digits of a chunk's length
pub chunk_lengths_lead : (s : Place) (room n : ℕ) → ALead (at s (InHead (Chunk room) n))
chunk_lengths_lead s room n used byte front es is_byte c w =
    let r = rules_of s in
    let here = at s (InHead (head.Chunk room) n) in
    by_digit here front es byte _ _
    (λ digit. chunk_digit_leads here room n used byte front es digit c
    (retold r (ChunkLength r room n []) (Digits r room n) s.frames front es w
    (λ level bytes shown t. record { digits = t.digits; are_digits = t.are_digits.1; valued = t.valued; chunks = plain r room n level bytes shown t })))
    (λ other. wanted here front es 13 byte (Go (at s (AtHeadLf (head.Chunk room) n)))
    (λ is_return. subst (λ z. StandsAfter (at s (AtHeadLf (head.Chunk room) n)) (front ++ z ∷ []) es) (sym is_return)
    (goes r (ChunkLength r room n []) (ChunkLength r room n (13 ∷ [])) s.frames front (13 ∷ []) es w
    (λ level bytes shown i t. record {
      digits = t.digits;
      are_digits = t.are_digits;
      valued = t.valued;
      fits = t.fits;
      chunks =
          chunks_more r room (59 ∷ t.digits) (13 ∷ []) level bytes shown (plain r room n level bytes shown t);
    })))
    (λ no_return. broken r (ChunkLength r room n []) s.frames front es (chunk_needed n) byte w
    (λ level bytes shown i t. length_row r room n level bytes shown t)
    (λ level bytes rest shown t d.
    let p = plain r room n level bytes shown t in
    chunk_length_broken r level p.chunks t.digits rest byte p.are_chunks t.are_digits no_return other
    (subst (λ z. CompletesUnder r Grammar level z (byte ∷ rest)) p.are d))))

-- Their ends.

returned_text : (r : Rules) (room n level : ℕ) (bytes : List ℕ) (shown : List Event) (w : ChunkLength r room n (13 ∷ []) level bytes shown) →
    bytes ≡ streamed_text w.chunks.chunks (59 ∷ w.digits) ++ 13 ∷ []
returned_text r room n level bytes shown w = w.chunks.are ∙ ap (λ z. 36 ∷ 63 ∷ crlf z) (sym (chunks_text-append w.chunks.chunks (59 ∷ w.digits) (13 ∷ [])))

-- one less than before the CR
unfoldable pub returned_needed : ℕ → ℕ
returned_needed n = cond (eqb n 0) 1 (n + 7)

-- what is needed after the CR
pub returned_row : (r : Rules) (room n level : ℕ) (bytes : List ℕ) (shown : List Event) → ChunkLength r room n (13 ∷ []) level bytes shown →
    IsBegunBy r level bytes (returned_needed n)
unfolding returned_needed
returned_row r room n level bytes shown w =
    let c = w.chunks in
    let b = streamed_text c.chunks (59 ∷ w.digits) ++ 13 ∷ [] in
    subst (λ z. IsBegunBy r level z (returned_needed n)) (sym (returned_text r room n level bytes shown w))
    (elim (eqb n 0) as (λ z. eqb n 0 ≡ z → IsBegunBy r level b (cond z 1 (n + 7))) [
      | true ↦ λ z. let e : n ≡ 0 = grind (arith, nat_tests) in chunk_zero_returned_begun r level c.chunks w.digits (are_whole c) w.are_digits (w.valued ∙ e)
      | false ↦ λ z. let some : 0 < n = grind (arith, nat_tests) in
          subst (IsBegunBy r level b) (omega (arith, w.valued)) (chunk_length_returned_begun r level c.chunks w.digits (are_whole c) w.are_digits
          (omega (arith, w.valued)) (omega (arith, w.valued, w.fits, c.leaves)))
    ] refl)

-- zero ends the string
string_ends : (r : Rules) (room level : ℕ) (bytes : List ℕ) (shown : List Event) → ChunkLength r room 0 (13 ∷ []) level bytes shown →
    Ends r level (bytes ++ 10 ∷ []) (shown ++ e.TextEnd ∷ [])
string_ends r room level bytes shown w =
    let c = w.chunks in
    record {
      tree = leaf (chunked c.chunks w.digits);
      is_tree = (c.are_chunks, (w.are_digits, w.valued));
      keep = chunked_keeps r WithinItems level c.chunks w.digits c.has_streamed (omega (arith, c.leaves));
      whole = ap (λ z. streamed_text c.chunks z) (sym (append_assoc (59 ∷ w.digits) (13 ∷ []) (10 ∷ []))) ∙ sym (text_more (10 ∷ []) c);
      told = leaf_told (chunked c.chunks w.digits) (shown ++ e.TextEnd ∷ []) (given-chunked 0 c.chunks w.digits ∙ ap (λ z. z ++ e.TextEnd ∷ []) (sym c.told));
    }

-- and another number begins a chunk
content_begins : (r : Rules) (room n level : ℕ) (bytes : List ℕ) (shown : List Event) → 0 < n → ChunkLength r room n (13 ∷ []) level bytes shown →
    ChunkBegun r (room - n) n [] level (bytes ++ 10 ∷ []) shown
content_begins r room n level bytes shown some w =
    let more = chunks_more r room ((59 ∷ w.digits) ++ 13 ∷ []) (10 ∷ []) level bytes shown w.chunks in
    let all : room ≡ room - n + number w.digits = omega (arith, w.fits, w.valued) in
    record {
      digits = w.digits;
      part = [];
      before = shown;
      are_digits = w.are_digits;
      is_text = tt;
      valued = omega (arith, w.valued);
      some = omega (arith, w.valued);
      chunks = subst (λ m. ChunksBegun r m ((59 ∷ w.digits) ++ crlf []) level (bytes ++ 10 ∷ []) shown) all
          (subst (λ z. ChunksBegun r room z level (bytes ++ 10 ∷ []) shown) (append_assoc (59 ∷ w.digits) (13 ∷ []) (10 ∷ [])) more);
      told = sym (append-nil shown);
    }

-- every byte after the CR of a chunk's length
pub chunk_length_ends_lead : (s : Place) (room n : ℕ) → ALead (at s (AtHeadLf (Chunk room) n))
chunk_length_ends_lead s room n used byte front es is_byte c w =
    let r = rules_of s in
    let here = at s (AtHeadLf (head.Chunk room) n) in
    let v : Move = cond (eqb n 0) (Give TextEnd (at_boundary s)) (Go (at s (InChunk (room - n) n))) in
    wanted here front es 10 byte v
    (λ is_newline. subst (λ z. Leads here front es z v) (sym is_newline)
    (by_test here front es 10 (eqb n 0) (Give TextEnd (at_boundary s)) (Go (at s (InChunk (room - n) n)))
    (λ z. (let none : n ≡ 0 = grind (arith, nat_tests) in
    value_ends r (ChunkLength r room n (13 ∷ [])) s.frames front (10 ∷ []) es (e.TextEnd ∷ []) w
    (λ level bytes shown i t. string_ends r room level bytes shown (subst (λ m. ChunkLength r room m (13 ∷ []) level bytes shown) none t))))
    (λ z. (let some : 0 < n = grind (arith, nat_tests) in
    goes r (ChunkLength r room n (13 ∷ [])) (λ level bytes shown. ChunkBegun r (room - n) n [] level bytes shown × (0 < n)) s.frames front (10 ∷ []) es w
    (λ level bytes shown i t. (content_begins r room n level bytes shown some t, some))))))
    (λ other. broken r (ChunkLength r room n (13 ∷ [])) s.frames front es (returned_needed n) byte w
    (λ level bytes shown i t. returned_row r room n level bytes shown t)
    (λ level bytes rest shown t d. chunk_length_returned_broken r level t.chunks.chunks t.digits rest byte t.chunks.are_chunks t.are_digits other
    (subst (λ z. CompletesUnder r Grammar level z (byte ∷ rest)) t.chunks.are d)))
