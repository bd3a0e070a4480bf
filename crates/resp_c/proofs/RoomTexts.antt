-- What stands in the room after one more text, and after the last.
use Rattle.std.proofs.Common.{◌≡◌, ℕ, ◌+◌, ◌<◌, ◌≤◌, List, [], ◌∷◌, ◌++◌, length, map, refl, sym, ap, ◌∙◌, arith, append_assoc, append-nil, length-append}
use Rattle.resp_value.specs.Bytes.{crlf}
use Rattle.resp_value.specs.Canonical.{canonical_text, canonical_trees}
use Rattle.resp_value.specs.Data.{count, data_of_list}
use Rattle.resp_value.specs.Data as d
use Rattle.resp_value.specs.Numbers.{decimal}
use Rattle.resp_value.specs.Trees.{texts}
use Rattle.resp_value.specs.Words.{command_of, word_datum}
use Rattle.resp_value.specs.declared.version.Version.TheVariants.{Two}
use Rattle.resp_encode.proofs.Counts.{count-map}
use Rattle.resp_encode.specs.Encodings.{head_text}
use Rattle.resp_c.specs.Writes.{StandsInRoom, Writes, bulk_texts}

-- nothing was put there
pub stands_none : (old : List ℕ) → StandsInRoom old [] old 0
stands_none old = record { place = refl; filled = refl }

-- a text that stands there was written
pub writes_whole : (old text new : List ℕ) (size at : ℕ) → StandsInRoom old text new at → size ≡ at → size ≤ length old →
    Writes old new text size 0
writes_whole old text new size at stands last room = grind arith

-- a text that has no room was not
pub writes_nothing : (old text : List ℕ) (size : ℕ) → size ≡ length text → length old < size →
    Writes old old text size 65
writes_nothing old text size told short = grind arith

-- a head, a prefix, the bytes and the end of the line
pub string_parts : (head line prefix bytes end : List ℕ) →
    (((head ++ line) ++ prefix) ++ bytes) ++ end ≡ head ++ (line ++ (prefix ++ (bytes ++ end)))
string_parts head line prefix bytes end = grind (arith, append_assoc)

-- how long they are
pub length-string : (byte : ℕ) (digits prefix bytes : List ℕ) →
    length ((byte ∷ digits) ++ crlf (prefix ++ (bytes ++ crlf []))) ≡
    length bytes + length digits + length prefix + 5
length-string byte digits prefix bytes = omega (
  arith,
  length-append digits (crlf (prefix ++ (bytes ++ crlf []))),
  length-append prefix (bytes ++ crlf []),
  length-append bytes (crlf []),
)

bulk_texts_are : (words : List (List ℕ)) →
    bulk_texts words ≡ texts (canonical_trees Two (data_of_list (map word_datum words)))
bulk_texts_are [] = refl
bulk_texts_are (word ∷ words) = ap (λ rest. canonical_text Two (word_datum word) ++ rest) (bulk_texts_are words)

-- the head of an array and each word as a bulk string
pub head_and_words : (words : List (List ℕ)) →
    head_text d.Array (length words) ++ bulk_texts words ≡ canonical_text Two (command_of words)
head_and_words words =
    let members = texts (canonical_trees Two (data_of_list (map word_datum words))) in
    ap (λ rest. head_text d.Array (length words) ++ rest) (bulk_texts_are words)
    ∙ ap (λ n. head_text d.Array n ++ members) (sym (count-map word_datum words))
    ∙ append_assoc (42 ∷ decimal (count (data_of_list (map word_datum words)))) (crlf []) members
    ∙ ap (λ rest. (42 ∷ decimal (count (data_of_list (map word_datum words)))) ++ crlf rest) (sym (append-nil members))
