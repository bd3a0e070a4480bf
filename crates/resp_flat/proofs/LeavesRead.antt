-- The leaves that are read.
use Rattle.std.proofs.Common.{◌≡◌, ℕ, zero, suc, ℤ, pos, drop, take, get_or, ◌+◌, ◌-◌, ◌<◌, ◌≤◌, Bool, true, false, inl, inr, List, [], ◌∷◌, ◌++◌, length, refl, sym, ap, subst, ◌∙◌, arith, append_assoc, length-append, length-drop}
use Rattle.std.proofs.Math.Seq.{take-append_seam}
use Rattle.resp_value.specs.Bytes.{IsByte, IsText, crlf}
use Rattle.resp_value.specs.LocalRules.{LeafKeeps, LeafMeets}
use Rattle.resp_value.specs.Numbers.{Unsigned, Minus}
use Rattle.std.proofs.Common.{neg_ℤ}
use Rattle.resp_value.specs.declared.version.Version.TheVariants.{Two}
use Rattle.resp_fronts.specs.Tokens.{HasAnyText}
use Rattle.resp_fronts.proofs.FirstLines.TextLines.{any_number}
use Rattle.resp_fronts.proofs.FrameLaws.KeptNodes.{at_each_rule, leaf_keeps}
use Rattle.std.proofs.lemmas.List.{drop-drop, length-take-le, take-append-drop}
use Rattle.resp_flat.specs.Numbers.{line_form, string_form, truth_number}
use Rattle.resp_value.specs.Doubles.{IsDouble}
use Rattle.resp_value.specs.Rules.{Rules, WithinItems, IsInRange, IsLeafInTwo, IsNoDouble}
use Rattle.resp_value.specs.Trees.{LineKind, Simple, Error, Double, Int, StringKind, Bulk, BulkError, Verbatim, NullForm, BulkNull, ArrayNull, PlainNull, line, numeral, null, truth, string, null_line, truth_line, HasFormat, line_byte, string_byte, payload, IsNumberIn}
use Rattle.resp_value.specs.TreeValues.{line_value, string_value}
use Rattle.resp_value.proofs.FirstBytes.{all_front}
use Rattle.resp_flat.specs.declared.node.Node.{Node}
use Rattle.resp_flat.specs.Nodes.{IsLeafNode, IsTextNode, leaf_node, text_node, verbatim_node}
use Rattle.resp_flat.specs.Plain.{BeginsWithLine, BeginsWithNumber, HasNoFormat, IsLeafAt, IsNullByte}
use Rattle.resp_flat.proofs.Digits.{byte_first}

-- bytes are numbers below 256
pub is_text : (p : List ℕ) → ((i : ℕ) → get_or p i 0 < 256) → IsText p
is_text [] h = tt
is_text (b ∷ bs) h = (h 0, is_text bs (λ i. h (suc i)))

-- what holds of each byte of two texts holds of each of the second
all_back : (a b : List ℕ) → IsText (a ++ b) → IsText b
all_back [] b h = h
all_back (x ∷ a) b h = all_back a b h.1

-- the bytes from a place on are bytes
pub text_from : (n : ℕ) (p : List ℕ) → IsText p → IsText (drop n p)
text_from n p h = all_back (take n p) (drop n p) (subst IsText (sym (take-append-drop n p)) h)

-- the first bytes of a text, by their number
pub first_bytes : (n : ℕ) (all s rest : List ℕ) → all ≡ s ++ rest → length s ≡ n → s ≡ take n all
first_bytes n all s rest e size = sym (ap (λ k. take k all) (sym size) ∙ ap (take (length s)) e ∙ take-append_seam s rest)

-- a text of the buffer
pub text_of_buffer : (buffer : List ℕ) (form start n : ℕ) (s rest : List ℕ) → drop start buffer ≡ s ++ rest → length s ≡ n → 0 < length rest →
    IsTextNode buffer (text_node form start n) form s
text_of_buffer buffer form start n s rest e size some = record {
  kind_is = refl;
  form_is = refl;
  within = let long = ap length e ∙ length-append s rest in let left = length-drop start buffer in omega (arith, long, left, size, some);
  text_is = first_bytes n (drop start buffer) s rest e size;
}

-- what lines keep
line_keeps : (r : Rules) (k : LineKind) → (r.version ≡ Two → IsLeafInTwo (line k [])) → (r.limits.doubles ≡ false → IsNoDouble (line k [])) → (s : List ℕ) →
    length s ≤ r.limits.length → (level : ℕ) → LeafKeeps r WithinItems level (line k s)
line_keeps r Simple two double s fits level earlier e = leaf_keeps r WithinItems level (line Simple s) tt (λ is. tt) tt (λ off. tt) fits earlier e
line_keeps r Error two double s fits level earlier e = leaf_keeps r WithinItems level (line Error s) tt (λ is. tt) tt (λ off. tt) fits earlier e
line_keeps r Double two double s fits level earlier e =
    at_each_rule (λ rule. LeafMeets r rule level (line Double s)) tt double two tt tt (λ off. tt) tt fits tt tt earlier

line_stands : (buffer : List ℕ) (node : Node) (k : LineKind) (s : List ℕ) → IsTextNode buffer node (line_form k) s →
    IsLeafNode buffer node (line_value k s)
line_stands buffer node Simple s h = h
line_stands buffer node Error s h = h
line_stands buffer node Double s h = h

any_in_two : (k : LineKind) → HasAnyText k → IsLeafInTwo (line k [])
any_in_two Simple any = tt
any_in_two Error any = tt
any_in_two Double any = absurd any

any_no_double : (k : LineKind) → HasAnyText k → IsNoDouble (line k [])
any_no_double Simple any = tt
any_no_double Error any = tt
any_no_double Double any = absurd any

-- the line that a text begins with is the text before its end
pub line_taken : (text rest : List ℕ) (n : ℕ) (b : BeginsWithLine text n rest) → take n text ≡ b.line
line_taken text rest n b = sym (first_bytes n text b.line rest b.whole b.sized)

-- a line and its type byte are a leaf
pub line_read : (r : Rules) (buffer : List ℕ) (at n end : ℕ) (k : LineKind) → IsText buffer → at < length buffer →
    get_or buffer at 0 ≡ line_byte k → (b : BeginsWithLine (drop (at + 1) buffer) n (crlf (drop end buffer))) → end ≤ length buffer →
    n ≤ r.limits.length → (r.version ≡ Two → IsLeafInTwo (line k [])) → (r.limits.doubles ≡ false → IsNoDouble (line k [])) →
    IsNumberIn k b.line → IsLeafAt r buffer at end (text_node (line_form k) (at + 1) n)
line_read r buffer at n end k bytes some first b within fits two double number =
    let body : IsText (b.line ++ crlf (drop end buffer)) = subst IsText b.whole (text_from (at + 1) buffer bytes) in
    let size = b.sized in
    record {
      leaf = line k b.line;
      is_leaf = (b.is_line, all_front IsByte b.line (crlf (drop end buffer)) body, number);
      keeps = line_keeps r k two double b.line (omega (arith, size, fits));
      plain = λ level. tt;
      whole = byte_first buffer at some ∙ ap (λ c. c ∷ drop (at + 1) buffer) first ∙ ap (λ l. line_byte k ∷ l) b.whole ∙
          sym (append_assoc (line_byte k ∷ b.line) (crlf []) (drop end buffer));
      within = within;
      one = refl;
      stands = line_stands buffer (text_node (line_form k) (at + 1) n) k b.line
          (text_of_buffer buffer (line_form k) (at + 1) n b.line (crlf (drop end buffer)) b.whole b.sized (omega arith));
    }

string_keeps : (r : Rules) (k : StringKind) → HasNoFormat k → (r.version ≡ Two → IsLeafInTwo (string k [] [])) → (digits s : List ℕ) →
    length s ≤ r.limits.length → (level : ℕ) → LeafKeeps r WithinItems level (string k digits s)
string_keeps r Bulk none two digits s fits level = leaf_keeps r WithinItems level (string Bulk digits s) tt (λ is. tt) tt (λ off. tt) fits
string_keeps r BulkError none two digits s fits level = leaf_keeps r WithinItems level (string BulkError digits s) tt two tt (λ off. tt) fits
string_keeps r (Verbatim format) none two digits s fits level = absurd none

string_stands : (buffer : List ℕ) (node : Node) (k : StringKind) → HasNoFormat k → (s : List ℕ) → IsTextNode buffer node (string_form k) s →
    IsLeafNode buffer node (string_value k s)
string_stands buffer node Bulk none s h = h
string_stands buffer node BulkError none s h = h
string_stands buffer node (Verbatim format) none s h = absurd none

-- the bytes that the length counts are the text, and there is no format
no_format : (k : StringKind) → HasNoFormat k → (s : List ℕ) → (payload k s ≡ s) × HasFormat k
no_format Bulk none s = (refl, tt)
no_format BulkError none s = (refl, tt)
no_format (Verbatim format) none s = absurd none

string_on : (c : ℕ) (digits p s rest : List ℕ) → p ≡ s → ((c ∷ digits) ++ crlf (p ++ crlf [])) ++ rest ≡ (c ∷ digits) ++ crlf (s ++ crlf rest)
string_on c digits p s rest e =
    append_assoc (c ∷ digits) (crlf (p ++ crlf [])) rest ∙ ap (λ l. (c ∷ digits) ++ crlf l) (append_assoc p (crlf []) rest) ∙
    ap (λ l. (c ∷ digits) ++ crlf (l ++ crlf rest)) e

-- a string, its length and its type byte are a leaf
pub string_read : (r : Rules) (buffer : List ℕ) (at n start end : ℕ) (k : StringKind) → IsText buffer → at < length buffer →
    get_or buffer at 0 ≡ string_byte k → BeginsWithNumber (drop (at + 1) buffer) n (drop start buffer) → start + n ≤ length buffer →
    drop (start + n) buffer ≡ crlf (drop end buffer) → end ≤ length buffer → n ≤ r.limits.length → HasNoFormat k →
    (r.version ≡ Two → IsLeafInTwo (string k [] [])) → IsLeafAt r buffer at end (text_node (string_form k) start n)
string_read r buffer at n start end k bytes some first b room ends within fits none two =
    let s = take n (drop start buffer) in
    let left = length-drop start buffer in
    let size : length s ≡ n = length-take-le n (drop start buffer) (omega (arith, left, room)) in
    let parts : drop start buffer ≡ s ++ crlf (drop end buffer) =
    sym (take-append-drop n (drop start buffer)) ∙ ap (λ l. s ++ l) (drop-drop n start buffer ∙ ends) in
    let (plain, format) = no_format k none s in
    let body : IsText (s ++ crlf (drop end buffer)) = subst IsText parts (text_from start buffer bytes) in
    let long : length (payload k s) ≡ n = ap length plain ∙ size in
    record {
      leaf = string k b.digits s;
      is_leaf = ((b.counted.0, b.counted.1 ∙ sym long), format, all_front IsByte s (crlf (drop end buffer)) body);
      keeps = string_keeps r k none two b.digits s (omega (arith, size, fits));
      plain = λ level. tt;
      whole = byte_first buffer at some ∙ ap (λ c. c ∷ drop (at + 1) buffer) first ∙ ap (λ l. string_byte k ∷ l) b.whole ∙
          ap (λ l. (string_byte k ∷ b.digits) ++ crlf l) parts ∙ sym (string_on (string_byte k) b.digits (payload k s) s (drop end buffer) plain);
      within = within;
      one = refl;
      stands = string_stands buffer (text_node (string_form k) start n) k none s
          (text_of_buffer buffer (string_form k) start n s (crlf (drop end buffer)) parts size (omega arith));
    }

-- a leaf of one line without more is read
line_alone : (first rest : List ℕ) → (first ++ crlf []) ++ rest ≡ first ++ crlf rest
line_alone first rest = append_assoc first (crlf []) rest

-- an integer without a sign
pub integer_read : (r : Rules) (buffer : List ℕ) (at n end : ℕ) → at < length buffer → get_or buffer at 0 ≡ 58 →
    BeginsWithNumber (drop (at + 1) buffer) n (drop end buffer) → end ≤ length buffer → n ≤ 9223372036854775807 →
    IsLeafAt r buffer at end (leaf_node 3 (pos n))
integer_read r buffer at n end some first b within few = record {
  leaf = numeral Int Unsigned b.digits;
  is_leaf = b.counted.0;
  keeps = λ level. leaf_keeps r WithinItems level (numeral Int Unsigned b.digits) tt (λ is. tt) in_range (λ off. tt) (omega arith);
  plain = λ level. tt;
  whole = byte_first buffer at some ∙ ap (λ c. c ∷ drop (at + 1) buffer) first ∙ ap (λ l. 58 ∷ l) b.whole ∙
      sym (line_alone (58 ∷ b.digits) (drop end buffer));
  within = within;
  one = refl;
  stands = (refl, sym (ap pos b.counted.1));
}
  where
    in_range : IsInRange (numeral Int Unsigned b.digits)
    in_range = let e = b.counted.1 in (grind (arith, e, few), grind (arith, e, few))

-- a negative integer
pub negative_read : (r : Rules) (buffer : List ℕ) (at n end : ℕ) → at + 1 < length buffer → get_or buffer at 0 ≡ 58 → get_or buffer (at + 1) 0 ≡ 45 →
    BeginsWithNumber (drop (at + 1 + 1) buffer) n (drop end buffer) → end ≤ length buffer → n ≤ 9223372036854775808 →
    (number : ℤ) → number ≡ neg_ℤ (pos n) → IsLeafAt r buffer at end (leaf_node 3 number)
negative_read r buffer at n end some first sign b within few number is = record {
  leaf = numeral Int Minus b.digits;
  is_leaf = b.counted.0;
  keeps = λ level. leaf_keeps r WithinItems level (numeral Int Minus b.digits) tt (λ is. tt) in_range (λ off. tt) (omega arith);
  plain = λ level. tt;
  whole = byte_first buffer at (omega (arith, some)) ∙ ap (λ c. c ∷ drop (at + 1) buffer) first ∙ ap (λ l. 58 ∷ l)
      (byte_first buffer (at + 1) some ∙ ap (λ c. c ∷ drop (at + 1 + 1) buffer) sign ∙ ap (λ l. 45 ∷ l) b.whole) ∙
      sym (line_alone (58 ∷ 45 ∷ b.digits) (drop end buffer));
  within = within;
  one = refl;
  stands = (refl, is ∙ sym (ap (λ m. neg_ℤ (pos m)) b.counted.1));
}
  where
    in_range : IsInRange (numeral Int Minus b.digits)
    in_range = let e = b.counted.1 in (grind (arith, e, few), grind (arith, e, few))

-- a null of either version
pub null_read : (r : Rules) (buffer : List ℕ) (at end : ℕ) → IsNullByte (get_or buffer at 0) → get_or buffer (at + 1) 0 ≡ 45 → get_or buffer (at + 2) 0 ≡ 49 →
    drop (at + 3) buffer ≡ crlf (drop end buffer) → at + 5 ≤ length buffer → end ≤ length buffer → IsLeafAt r buffer at end (leaf_node 1 (pos zero))
null_read r buffer at end first second third ends some within = cases first
  where
    begun : drop at buffer ≡ get_or buffer at 0 ∷ 45 ∷ 49 ∷ crlf (drop end buffer)
    begun = byte_first buffer at (omega (arith, some)) ∙ ap (λ l. get_or buffer at 0 ∷ l)
        (byte_first buffer (at + 1) (omega (arith, some)) ∙ ap (λ c. c ∷ drop (at + 1 + 1) buffer) second ∙ ap (λ l. 45 ∷ l)
        (let e : at + 1 + 1 ≡ at + 2 = omega arith in ap (λ k. drop k buffer) e ∙
        byte_first buffer (at + 2) (omega (arith, some)) ∙ ap (λ c. c ∷ drop (at + 2 + 1) buffer) third ∙ ap (λ l. 49 ∷ l)
        (let f : at + 2 + 1 ≡ at + 3 = omega arith in ap (λ k. drop k buffer) f ∙ ends)))

    of_form : (form : NullForm) (b : ℕ) → get_or buffer at 0 ≡ b → null_line form ≡ b ∷ 45 ∷ 49 ∷ [] → (r.version ≡ Two → IsLeafInTwo (null form)) →
        IsLeafAt r buffer at end (leaf_node 1 (pos zero))
    of_form form b is written two = record {
      leaf = null form;
      is_leaf = tt;
      keeps = λ level. leaf_keeps r WithinItems level (null form) tt two tt (λ off. tt) (omega arith);
      plain = λ level. tt;
      whole = begun ∙ ap (λ c. c ∷ 45 ∷ 49 ∷ crlf (drop end buffer)) is ∙ sym (ap (λ l. (l ++ crlf []) ++ drop end buffer) written);
      within = within;
      one = refl;
      stands = refl;
    }

    cases : IsNullByte (get_or buffer at 0) → IsLeafAt r buffer at end (leaf_node 1 (pos zero))
    cases (inl is) = of_form BulkNull 36 is refl (λ two. tt)
    cases (inr is) = of_form ArrayNull 42 is refl (λ two. tt)

-- a null of version 3
pub plain_null_read : (r : Rules) (buffer : List ℕ) (at end : ℕ) → (r.version ≡ Two → ⊥) → at < length buffer → get_or buffer at 0 ≡ 95 →
    drop (at + 1) buffer ≡ crlf (drop end buffer) → end ≤ length buffer → IsLeafAt r buffer at end (leaf_node 1 (pos zero))
plain_null_read r buffer at end three some first ends within = record {
  leaf = null PlainNull;
  is_leaf = tt;
  keeps = λ level. leaf_keeps r WithinItems level (null PlainNull) tt three tt (λ off. tt) (omega arith);
  plain = λ level. tt;
  whole = byte_first buffer at some ∙ ap (λ c. c ∷ drop (at + 1) buffer) first ∙ ap (λ l. 95 ∷ l) ends;
  within = within;
  one = refl;
  stands = refl;
}

-- a boolean
pub truth_read : (r : Rules) (buffer : List ℕ) (at end : ℕ) (t : Bool) (b : ℕ) → (r.version ≡ Two → ⊥) → at + 1 < length buffer → get_or buffer at 0 ≡ 35 →
    get_or buffer (at + 1) 0 ≡ b → truth_line t ≡ 35 ∷ b ∷ [] → drop (at + 2) buffer ≡ crlf (drop end buffer) → end ≤ length buffer →
    IsLeafAt r buffer at end (leaf_node 2 (truth_number t))
truth_read r buffer at end t b three some first second written ends within = record {
  leaf = truth t;
  is_leaf = tt;
  keeps = λ level. leaf_keeps r WithinItems level (truth t) tt three tt (λ off. tt) (omega arith);
  plain = λ level. tt;
  whole = byte_first buffer at (omega (arith, some)) ∙ ap (λ c. c ∷ drop (at + 1) buffer) first ∙ ap (λ l. 35 ∷ l)
      (byte_first buffer (at + 1) some ∙ ap (λ c. c ∷ drop (at + 1 + 1) buffer) second ∙ ap (λ l. b ∷ l)
      (let e : at + 1 + 1 ≡ at + 2 = omega arith in ap (λ k. drop k buffer) e ∙ ends)) ∙
      sym (ap (λ l. (l ++ crlf []) ++ drop end buffer) written);
  within = within;
  one = refl;
  stands = (refl, refl);
}

-- a text of the buffer, after the format of a verbatim string
verbatim_text : (buffer format : List ℕ) (start n : ℕ) (s rest : List ℕ) → drop start buffer ≡ s ++ rest → length s ≡ n → 0 < length rest →
    IsTextNode buffer (verbatim_node format start n) 5 s
verbatim_text buffer format start n s rest e size some = record {
  kind_is = refl;
  form_is = refl;
  within = let long = ap length e ∙ length-append s rest in let left = length-drop start buffer in omega (arith, long, left, size, some);
  text_is = first_bytes n (drop start buffer) s rest e size;
}

verbatim_on : (digits format s rest : List ℕ) →
    ((61 ∷ digits) ++ crlf ((format ++ 58 ∷ s) ++ crlf [])) ++ rest ≡ (61 ∷ digits) ++ crlf (format ++ 58 ∷ (s ++ crlf rest))
verbatim_on digits format s rest =
    append_assoc (61 ∷ digits) (crlf ((format ++ 58 ∷ s) ++ crlf [])) rest ∙
    ap (λ l. (61 ∷ digits) ++ crlf l) (append_assoc (format ++ 58 ∷ s) (crlf []) rest ∙ append_assoc format (58 ∷ s) (crlf rest))

-- a verbatim string
pub verbatim_read : (r : Rules) (buffer : List ℕ) (at n head end : ℕ) → (r.version ≡ Two → ⊥) → IsText buffer → at < length buffer → get_or buffer at 0 ≡ 61 →
    BeginsWithNumber (drop (at + 1) buffer) n (drop head buffer) → 4 ≤ n → head + n ≤ length buffer → get_or buffer (head + 3) 0 ≡ 58 →
    drop (head + n) buffer ≡ crlf (drop end buffer) → end ≤ length buffer → n ≤ r.limits.length →
    IsLeafAt r buffer at end (verbatim_node (get_or buffer head 0 ∷ get_or buffer (head + 1) 0 ∷ get_or buffer (head + 2) 0 ∷ []) (head + 4) (n - 4))
verbatim_read r buffer at n head end three bytes some first b least room colon ends within fits =
    let format = get_or buffer head 0 ∷ get_or buffer (head + 1) 0 ∷ get_or buffer (head + 2) 0 ∷ [] in
    let start = head + 4 in
    let s = take (n - 4) (drop start buffer) in
    let left = length-drop start buffer in
    let size : length s ≡ n - 4 = length-take-le (n - 4) (drop start buffer) (omega (arith, left, room, least)) in
    let place : start + (n - 4) ≡ head + n = omega (arith, least) in
    let parts : drop start buffer ≡ s ++ crlf (drop end buffer) =
    sym (take-append-drop (n - 4) (drop start buffer)) ∙
    ap (λ l. s ++ l) (drop-drop (n - 4) start buffer ∙ ap (λ k. drop k buffer) place ∙ ends) in
    let begun : drop head buffer ≡ format ++ 58 ∷ (s ++ crlf (drop end buffer)) =
    byte_first buffer head (omega (arith, room, least)) ∙ ap (λ l. get_or buffer head 0 ∷ l)
    (byte_first buffer (head + 1) (omega (arith, room, least)) ∙ ap (λ l. get_or buffer (head + 1) 0 ∷ l)
    (let e : head + 1 + 1 ≡ head + 2 = omega arith in ap (λ k. drop k buffer) e ∙ byte_first buffer (head + 2) (omega (arith, room, least)) ∙
    ap (λ l. get_or buffer (head + 2) 0 ∷ l)
    (let f : head + 2 + 1 ≡ head + 3 = omega arith in ap (λ k. drop k buffer) f ∙ byte_first buffer (head + 3) (omega (arith, room, least)) ∙
    ap (λ c. c ∷ drop (head + 3 + 1) buffer) colon ∙ ap (λ l. 58 ∷ l)
    (let g : head + 3 + 1 ≡ head + 4 = omega arith in ap (λ k. drop k buffer) g ∙ parts)))) in
    let body : IsText (format ++ 58 ∷ (s ++ crlf (drop end buffer))) = subst IsText begun (text_from head buffer bytes) in
    let long : length (payload (Verbatim format) s) ≡ n = length-append format (58 ∷ s) ∙ omega (arith, size, least) in
    record {
      leaf = string (Verbatim format) b.digits s;
      is_leaf = (
        (b.counted.0, b.counted.1 ∙ sym long),
        (refl, all_front IsByte format (58 ∷ (s ++ crlf (drop end buffer))) body),
        all_front IsByte s (crlf (drop end buffer)) (subst IsText parts (text_from start buffer bytes)),
      );
      keeps = λ level. leaf_keeps r WithinItems level (string (Verbatim format) b.digits s) tt three tt (λ off. tt) (omega (arith, size, fits, least));
      plain = λ level. tt;
      whole = byte_first buffer at some ∙ ap (λ c. c ∷ drop (at + 1) buffer) first ∙ ap (λ l. 61 ∷ l) b.whole ∙
          ap (λ l. (61 ∷ b.digits) ++ crlf l) begun ∙ sym (verbatim_on b.digits format s (drop end buffer));
      within = within;
      one = refl;
      stands = (verbatim_text buffer format start (n - 4) s (crlf (drop end buffer)) parts size (omega arith), refl);
    }

-- a simple string or an error and its type byte are a leaf
pub any_line_read : (r : Rules) (buffer : List ℕ) (at n end : ℕ) (k : LineKind) → IsText buffer → at < length buffer →
    get_or buffer at 0 ≡ line_byte k → BeginsWithLine (drop (at + 1) buffer) n (crlf (drop end buffer)) → end ≤ length buffer →
    n ≤ r.limits.length → HasAnyText k → IsLeafAt r buffer at end (text_node (line_form k) (at + 1) n)
any_line_read r buffer at n end k bytes some first b within fits any =
    line_read r buffer at n end k bytes some first b within fits (λ two. any_in_two k any) (λ off. any_no_double k any) (any_number k b.line any)

-- a double and its type byte are a leaf
pub double_read : (r : Rules) (buffer : List ℕ) (at n end : ℕ) → IsText buffer → at < length buffer → get_or buffer at 0 ≡ 44 →
    BeginsWithLine (drop (at + 1) buffer) n (crlf (drop end buffer)) → end ≤ length buffer → n ≤ r.limits.length → (r.version ≡ Two → ⊥) →
    r.limits.doubles ≡ true → IsDouble (take n (drop (at + 1) buffer)) → IsLeafAt r buffer at end (text_node 2 (at + 1) n)
double_read r buffer at n end bytes some first b within fits no_two allowed double =
    line_read r buffer at n end Double bytes some first b within fits (λ two. absurd (no_two two)) (λ off. absurd (cc))
    (subst IsDouble (line_taken (drop (at + 1) buffer) (crlf (drop end buffer)) n b) double)
