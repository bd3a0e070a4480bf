-- Replies to HELLO.
use Rattle.std.proofs.Common.{◌≡◌, ℕ, zero, suc, ◌+◌, ◌<◌, ◌^◌, ◌==◌, List, [], ◌∷◌, ◌++◌, Option, None, Some, IfSome, refl, subst, codes, length, take, drop, sym, ap, ◌∙◌, arith, append_assoc, length-append, take-append-drop}
use Rattle.std.proofs.Math.Seq.{drop-append_seam, take-add, take-append_seam}
use Rattle.std.proofs.Math.ListN.{get_or}
use Rattle.std.proofs.lemmas.Bool.{eqb-true}
use Rattle.std.proofs.lemmas.List.{append-nil, get_or-take, length-take}
use Rattle.std.specs.Prelude.{slice_get, unwrap_or}
use Rattle.std.specs.Fmt as fmt
use Rattle.memchr.specs.Find.{IsFirstByte, Nowhere, OccursAt, is_byte}
use Rattle.memchr.proofs.lemmas.MatchLemmas.{OccursAt-from_part, OccursAt-part}
use Rattle.resp_value.proofs.StdDigits.{decimal-std}
use Rattle.resp_proxy.specs.Hellos.{EndsAtLine, HasId, HasNumber, IsIdAround, id_key, own_reply}
use Rattle.resp_value.specs.Canonical.{canonical_text}
use Rattle.resp_value.specs.Numbers.{decimal}
use Rattle.resp_value.specs.declared.version.Version.TheVariants.{Two}

abbrev pub before_id : List ℕ
before_id = codes "*14\r\n$6\r\nserver\r\n$5\r\nredis\r\n$7\r\nversion\r\n$6\r\n7.0.15\r\n$5\r\nproto\r\n:2\r\n"

abbrev pub after_id : List ℕ
after_id = codes "$4\r\nmode\r\n$10\r\nstandalone\r\n$4\r\nrole\r\n$6\r\nmaster\r\n$7\r\nmodules\r\n*0\r\n"

-- the parts of the proxy's own reply, appended one after another
pub own-parts : (number : ℕ) (text id shown between new : List ℕ) → number < 2 ^ 64 → text ≡ before_id →
    id ≡ id_key ++ fmt.decimal number ++ codes "\r\n" → shown ≡ id → between ≡ text ++ shown → new ≡ between ++ after_id →
    new ≡ canonical_text Two (own_reply number)
own-parts number text id shown between new fits is is_id same next then =
    let digits = ap (λ d. id_key ++ d ++ codes "\r\n") (decimal-std number fits) in
    let front : between ≡ before_id ++ (id_key ++ decimal number ++ codes "\r\n") =
    next ∙ ap (λ z. z ++ shown) is ∙ ap (λ z. before_id ++ z) (same ∙ is_id ∙ digits) in
    then ∙ ap (λ z. z ++ after_id) front ∙
    ap (λ z. before_id ++ id_key ++ z) (sym (append-nil ((decimal number ++ codes "\r\n") ++ after_id)))

-- a key that occurs nowhere is not in the reply
pub nowhere-id : (reply : List ℕ) → Nowhere (OccursAt reply id_key) 0 (length reply + 1) → HasId reply → ⊥
nowhere-id reply nowhere h =
    let whole : reply ≡ h.front ++ (id_key ++ h.rest) = h.whole ∙ append_assoc h.front id_key h.rest in
    let size : length reply ≡ length h.front + length (id_key ++ h.rest) =
    ap length whole ∙ length-append h.front (id_key ++ h.rest) in
    let key : length (id_key ++ h.rest) ≡ 9 + length h.rest = length-append id_key h.rest in
    let part : take 9 (drop (length h.front) reply) ≡ id_key =
    ap (λ z. take 9 (drop (length h.front) z)) whole ∙ ap (take 9) (drop-append_seam h.front (id_key ++ h.rest)) ∙
    take-append_seam id_key h.rest in
    nowhere (length h.front) (omega arith) (omega (arith, size, key))
    (OccursAt-from_part reply id_key (length h.front) (omega (arith, size, key)) part)

first-of-drop : (rest : List ℕ) (k : ℕ) → k < length rest → slice_get (drop k rest) 0 ≡ Some (get_or rest k 0)
first-of-drop [] k within = absurd (omega (arith, within))
first-of-drop (x ∷ rest) zero within = refl
first-of-drop (x ∷ rest) (suc k) within = first-of-drop rest k (omega (arith, within))

drop-all : (rest : List ℕ) → slice_get (drop (length rest) rest) 0 ≡ None
drop-all [] = refl
drop-all (x ∷ rest) = drop-all rest

-- the bytes up to the first CR, or all bytes if there is none
ends-at-line : (rest : List ℕ) (found : Option ℕ) → IsFirstByte (is_byte 13) rest found →
    EndsAtLine (take (unwrap_or found (length rest)) rest) (drop (unwrap_or found (length rest)) rest)
ends-at-line rest None nowhere = record {
  inside = λ place within e.
      let size = length-take (length rest) rest in
      nowhere place (omega arith) (omega (arith, within, size))
      (ap (λ x. x == 13) (sym (get_or-take (length rest) rest place 0 (omega (arith, within, size))) ∙ e));
  end = subst (λ o. IfSome o (λ byte. byte ≡ 13)) (sym (drop-all rest)) tt;
}
ends-at-line rest (Some k) found = record {
  inside = λ place within e.
      let size = length-take k rest in
      found.0.before place (omega arith) (omega (arith, within, size))
      (ap (λ x. x == 13) (sym (get_or-take k rest place 0 (omega (arith, within, size))) ∙ e));
  end = subst (λ o. IfSome o (λ byte. byte ≡ 13)) (sym (first-of-drop rest k found.0.high)) (eqb-true (get_or rest k 0) 13 found.1);
}

-- the parts of a reply around the digits after a key
pub around-key : (reply before rest after : List ℕ) (start count : ℕ) (found : Option ℕ) → OccursAt reply id_key start →
    before ≡ take (start + 9) reply → rest ≡ drop (start + 9) reply → IsFirstByte (is_byte 13) rest found →
    count ≡ unwrap_or found (length rest) → after ≡ drop count rest → IsIdAround reply before after
around-key reply before rest after start count found occurs front back first last end =
    let key : take 9 (drop start reply) ≡ id_key = OccursAt-part reply id_key start occurs in
    let tail : rest ≡ take count rest ++ after =
    sym (take-append-drop count rest) ∙ ap (λ z. take count rest ++ z) (sym end) in
    let whole : reply ≡ before ++ rest =
    sym (take-append-drop (start + 9) reply) ∙ ap (λ z. z ++ drop (start + 9) reply) (sym front) ∙ ap (λ z. before ++ z) (sym back) in
    record {
      front = take start reply;
      digits = take count rest;
      key = front ∙ take-add start 9 reply ∙ ap (λ z. take start reply ++ z) key;
      whole = whole ∙ ap (λ z. before ++ z) tail ∙ sym (append_assoc before (take count rest) after);
      line = subst (λ z. EndsAtLine (take count rest) z) (sym end)
          (subst (λ n. EndsAtLine (take n rest) (drop n rest)) (sym last) (ends-at-line rest found first));
    }

-- the text before the digits, other digits, and the text after them, appended one after another
pub with-number : (number : ℕ) (reply before after shown other a b new : List ℕ) → number < 2 ^ 64 → IsIdAround reply before after →
    shown ≡ fmt.decimal number → other ≡ shown → a ≡ before → b ≡ a ++ other → new ≡ b ++ after → HasNumber number reply new
with-number number reply before after shown other a b new fits around is same first second third = record {
  before = before;
  after = after;
  around = around;
  written = third ∙ ap (λ z. z ++ after) (second ∙ ap (λ z. z ++ other) first ∙
      ap (λ z. before ++ z) (same ∙ is ∙ decimal-std number fits));
}
