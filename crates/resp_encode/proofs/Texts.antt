-- Canonical texts in parts, and one write after another.
use Rattle.std.proofs.Common.{◌≡◌, ℕ, ◌+◌, ◌-◌, ◌<◌, ◌≤◌, List, [], ◌∷◌, ◌++◌, length, take, drop, set, sym, ap, ◌∙◌, arith, append_assoc, append-nil, length-append, length-drop}
use Rattle.std.proofs.lemmas.List.{drop-set, take_all}
use Rattle.bytes.specs.Filled.{Filled}
use Rattle.resp_value.specs.Bytes.{crlf}
use Rattle.resp_value.specs.Numbers.{decimal}
use Rattle.resp_value.specs.Data.{Kind, Datum, Data, aggregate, items_of, count}
use Rattle.resp_value.specs.Trees.{kind_byte, texts}
use Rattle.resp_value.specs.Canonical.{canonical_text, canonical_trees, IsValue, Fits}
use Rattle.resp_value.specs.Rules.{Rules}
use Rattle.resp_value.specs.Spellings.{IsSpelling}
use Rattle.resp_value.proofs.SpellingLaws.{canonical_text_spells_what_fits}
use Rattle.resp_value.specs.declared.version.Version.{Version}
use Rattle.resp_encode.specs.Walks.Writings.{Fills}

-- nothing was appended
pub Writes-none : (a : Filled) → Fills a a []
Writes-none a = record { items = sym (append-nil a.items); spare = omega arith }

-- one text was appended, and then another
pub Writes-append : {a b c : Filled} {x y : List ℕ} → Fills a b x → Fills b c y → Fills a c (x ++ y)
Writes-append {a = a} {x = x} {y = y} first second = record {
  items = second.items ∙ ap (λ items. items ++ y) first.items ∙ append_assoc a.items x y;
  spare = omega (arith, first.spare, second.spare, length-append x y);
}

-- a head, and what follows it
pub head_split : (byte n : ℕ) (rest : List ℕ) → (byte ∷ decimal n ++ crlf []) ++ rest ≡ byte ∷ decimal n ++ crlf rest
head_split byte n rest = ap (λ xs. byte ∷ xs) (append_assoc (decimal n) (crlf []) rest)

pub length-head : (byte n : ℕ) (rest : List ℕ) → length (byte ∷ decimal n ++ crlf rest) ≡
    length (decimal n) + 3 + length rest
length-head byte n rest = omega (arith, length-append (decimal n) (crlf rest))

-- the text of an aggregate is its head and the texts of its members
pub aggregate_text : (version : Version) (k : Kind) (xs : Data) (n : ℕ) → items_of k (count xs) ≡ n →
    canonical_text version (aggregate k xs) ≡ kind_byte k ∷
    decimal n ++ crlf (texts (canonical_trees version xs))
aggregate_text version k xs n e =
    ap (λ m. (kind_byte k ∷ decimal m) ++ crlf (texts (canonical_trees version xs) ++ [])) e
    ∙ ap (λ rest. (kind_byte k ∷ decimal n) ++ crlf rest) (append-nil (texts (canonical_trees version xs)))

-- the end of a line of 24 bytes, with one byte put before it
pub line_with : (line : List ℕ) (start byte : ℕ) (end : List ℕ) → length line ≡ 24 → 0 < start → start ≤ 24 →
    drop start line ≡ end →
    take (24 - (start - 1)) (drop (start - 1) (set line (start - 1) byte)) ≡ byte ∷ end
line_with line start byte end n full within e =
    let at : start - 1 < length line = omega arith in
    let beyond : start - 1 + 1 ≡ start = omega arith in
    let whole : drop (start - 1) (set line (start - 1) byte) ≡ byte ∷ end = drop-set line (start - 1) byte at ∙
    ap (λ i. byte ∷ drop i line) beyond ∙
    ap (λ xs. byte ∷ xs) e in
    ap (take (24 - (start - 1))) whole ∙ take_all (24 - (start - 1)) (byte ∷ end)
    (omega (arith, ap length e, length-drop start line))

-- the text of a value that fits is a spelling of it
pub spells_if_fits : (rules : Rules) (x : Datum) → IsValue x → Fits rules x →
    IsSpelling rules x (canonical_text rules.version x)
spells_if_fits rules x value fits = (canonical_text_spells_what_fits rules x value).1 fits

-- one append writes its bytes
pub Writes-bytes : {a b : Filled} {written text : List ℕ} → b.items ≡ a.items ++ written →
    b.spare + length written ≡ a.spare → written ≡ text → Fills a b text
Writes-bytes {a = a} {b = b} items spare same = record {
  items = items ∙ ap (λ xs. a.items ++ xs) same;
  spare =
      ap (λ xs. b.spare + length xs) (sym same) ∙ spare;
}
