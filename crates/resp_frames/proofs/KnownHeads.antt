-- The first bytes of commands, and commands that begin with them.
use Rattle.std.proofs.Common.{◌≡◌, ◌∙◌, ◌⊎◌, ℕ, zero, suc, true, ◌+◌, ◌-◌, ◌<◌, ◌≤◌, Contains, List, [], ◌∷◌, ◌++◌, length, take, drop, get_or, arith, refl, subst, sym, ap, append_assoc, length-append}
use Rattle.std.proofs.Math.Seq.{take-add, take-append_seam}
use Rattle.std.proofs.lemmas.List.{get_or-drop, length-take-le, take-append-drop}
use Rattle.std.proofs.lemmas.Nat.{le_bytes_8}
use Rattle.std.specs.Int.{from_le_bytes, to_le_bytes, w64}
use Rattle.resp_value.specs.Bounds.{Bounds, AreBounds}
use Rattle.resp_value.specs.Bytes.{IsText, crlf}
use Rattle.resp_value.specs.Numbers.{IsNumber}
use Rattle.resp_value.specs.Words.{command_of, word_datum}
use Rattle.resp_commands.specs.Classes.{HasClass, HasSubcommands}
use Rattle.resp_commands.specs.Names.{HasName, IsAt, IsUnknown}
use Rattle.resp_commands.specs.declared.command.Class.{Class}
use Rattle.resp_commands.specs.declared.command.Command.{Command}
use Rattle.resp_commands.specs.declared.table.TheConstants.{COMMANDS}
use Rattle.resp_commands.proofs.Found.{only_command}
use Rattle.resp_scan.specs.Whole.{BeginsWith, BeginsWithHead, BeginsWithWord, BeginsWithWords}
use Rattle.resp_scan.proofs.Wholes.Commands.{command_parts, command_spelled, number_of_words, rest_is_shorter, word_parts_of, word_spelled}
use Rattle.resp_scan.proofs.Wholes.WordFronts.{one_head, one_word}
use Rattle.resp_frames.specs.KnownHeads.{IsDecidedByWords, IsHead, IsKnownHead}

-- bytes of a text are bytes of its parts
byte_of_front : (n : ℕ) (xs : List ℕ) → ((i : ℕ) → get_or xs i 0 < 256) → (i : ℕ) → get_or (take n xs) i 0 < 256
byte_of_front zero xs p i = omega arith
byte_of_front (suc n) [] p i = omega arith
byte_of_front (suc n) (x ∷ xs) p zero = p 0
byte_of_front (suc n) (x ∷ xs) p (suc i) = byte_of_front n xs (λ j. p (suc j)) i

byte_of_part : (at n : ℕ) (xs : List ℕ) → ((i : ℕ) → get_or xs i 0 < 256) → (i : ℕ) → get_or (take n (drop at xs)) i 0 < 256
byte_of_part at n xs p = byte_of_front n (drop at xs) (λ j. subst (λ b. b < 256) (sym (get_or-drop at xs j 0)) (p (at + j)))

-- eight bytes are those of their number
pub same_bytes : (a b : List ℕ) (at : ℕ) → length (take 8 (drop at a)) ≡ 8 → length (take 8 (drop at b)) ≡ 8 → ((i : ℕ) → get_or a i 0 < 256) →
    ((i : ℕ) → get_or b i 0 < 256) → from_le_bytes w64 (take 8 (drop at a)) ≡ from_le_bytes w64 (take 8 (drop at b)) →
    take 8 (drop at a) ≡ take 8 (drop at b)
same_bytes a b at m n p q same =
    sym (le_bytes_8 (take 8 (drop at a)) (from_le_bytes w64 (take 8 (drop at a))) m (byte_of_part at 8 a p) refl) ∙ ap (to_le_bytes w64) same ∙
    le_bytes_8 (take 8 (drop at b)) (from_le_bytes w64 (take 8 (drop at b))) n (byte_of_part at 8 b q) refl

-- the first bytes of the first bytes
take_of_take : (n m : ℕ) (xs : List ℕ) → n ≤ m → take n (take m xs) ≡ take n xs
take_of_take zero m xs less = refl
take_of_take (suc n) zero xs less = absurd (omega (arith, less))
take_of_take (suc n) (suc m) [] less = refl
take_of_take (suc n) (suc m) (x ∷ xs) less = ap (λ ys. x ∷ ys) (take_of_take n m xs (omega (arith, less)))

-- two texts begin with the same bytes, if the bytes before the last eight and these are the same
front_and_last : (n m : ℕ) (a b : List ℕ) → n ≡ m + 8 → take m a ≡ take m b → take 8 (drop m a) ≡ take 8 (drop m b) → take n a ≡ take n b
front_and_last n m a b is front last =
    ap (λ k. take k a) is ∙ take-add m 8 a ∙ ap (λ l. l ++ take 8 (drop m a)) front ∙ ap (λ l. take m b ++ l) last ∙ sym (take-add m 8 b) ∙
    ap (λ k. take k b) (sym is)

pub same_in_two : (n m : ℕ) (a b : List ℕ) → n ≡ m + 8 → m ≤ 8 → take 8 a ≡ take 8 b → take 8 (drop m a) ≡ take 8 (drop m b) → take n a ≡ take n b
same_in_two n m a b is few first last =
    front_and_last n m a b is (sym (take_of_take m 8 a few) ∙ ap (take m) first ∙ take_of_take m 8 b few) last

pub same_in_three : (n m : ℕ) (a b : List ℕ) → n ≡ m + 8 → m ≤ 16 → take 8 a ≡ take 8 b → take 8 (drop 8 a) ≡ take 8 (drop 8 b) →
    take 8 (drop m a) ≡ take 8 (drop m b) → take n a ≡ take n b
same_in_three n m a b is few first second last =
    let sixteen = front_and_last 16 8 a b refl first second in
    front_and_last n m a b is (sym (take_of_take m 16 a few) ∙ ap (take m) sixteen ∙ take_of_take m 16 b few) last

-- a head, a name and what follows them
head_on : (count size name rest : List ℕ) → ((42 ∷ count) ++ crlf ((36 ∷ size) ++ crlf (name ++ crlf []))) ++ rest ≡
    (42 ∷ count) ++ crlf ((36 ∷ size) ++ crlf (name ++ crlf rest))
head_on count size name rest =
    append_assoc (42 ∷ count) (crlf ((36 ∷ size) ++ crlf (name ++ crlf []))) rest ∙
    ap (λ l. (42 ∷ count) ++ crlf l)
    (append_assoc (36 ∷ size) (crlf (name ++ crlf [])) rest ∙ ap (λ l. (36 ∷ size) ++ crlf l) (append_assoc name (crlf []) rest))

-- the first bytes of a text, without its last
front_of : (front rest text : List ℕ) (n : ℕ) → text ≡ front ++ rest → n ≡ length text - length rest → take n text ≡ front
front_of front rest text n whole is =
    let sum = ap length whole ∙ length-append front rest in
    ap (λ k. take k text) (omega (arith, is, sum)) ∙ ap (take (length front)) whole ∙ take-append_seam front rest

-- the same first bytes have the same parts
part_of_front : (p n k : ℕ) (xs : List ℕ) → p + k ≤ n → take k (drop p (take n xs)) ≡ take k (drop p xs)
part_of_front zero n k xs less = take_of_take k n xs (omega (arith, less))
part_of_front (suc p) zero k xs less = absurd (omega (arith, less))
part_of_front (suc p) (suc n) k [] less = refl
part_of_front (suc p) (suc n) k (x ∷ xs) less = part_of_front p n k xs (omega (arith, less))

pub same_part : (p n k : ℕ) (a b : List ℕ) → p + k ≤ n → take n a ≡ take n b → take k (drop p a) ≡ take k (drop p b)
same_part p n k a b less same = sym (part_of_front p n k a less) ∙ ap (λ xs. take k (drop p xs)) same ∙ part_of_front p n k b less

-- the bytes of a command up to the end of its name are known
pub head_is_known : (limits : Bounds) (piece body name rest : List ℕ) (number n : ℕ) (c : Class) (place : ℕ) (copy more : List ℕ) →
    BeginsWithHead piece 42 number body → BeginsWith limits body (word_datum name) rest → (number ≡ 0 → ⊥) → n ≡ length piece - length rest →
    n ≤ length piece → copy ≡ take n piece → ((others : List (List ℕ)) → HasClass name others c) → IsAt place name →
    IsKnownHead (take n (copy ++ more)) (number - 1) c place
head_is_known limits piece body name rest number n c place copy more head word some is within copied class at =
    let begins = (word_parts_of limits body name rest word).0 in
    let front = (42 ∷ head.digits) ++ crlf ((36 ∷ begins.digits) ++ crlf (name ++ crlf [])) in
    let whole : piece ≡ front ++ rest =
    head.whole ∙ ap (λ l. (42 ∷ head.digits) ++ crlf l) begins.whole ∙ sym (head_on head.digits begins.digits name rest) in
    let size : n ≡ length copy = sym (length-take-le n piece within) ∙ ap length (sym copied) in
    record {
      name = name;
      head = record {
        count = head.digits;
        size = begins.digits;
        counted = subst (λ k. IsNumber k head.digits) (omega (arith, some)) head.counted;
        sized = begins.counted;
        whole = ap (λ k. take k (copy ++ more)) size ∙ take-append_seam copy more ∙ copied ∙ front_of front rest piece n whole is;
      };
      class = class;
      at = at;
    }

-- a text that begins with few bytes of a head begins with the head of an array, and then with the name
pub record HasHead (most : ℕ) (piece : List ℕ) (arguments : ℕ) (name rest : List ℕ) : Type 0 where
  pub body : List ℕ
  pub head : BeginsWithHead piece 42 (arguments + 1) body
  pub word : BeginsWithWord most body name rest
  pub short : length body ≤ 24 + length rest

pub head_of_bytes : (limits : Bounds) → AreBounds limits → (piece bytes name : List ℕ) (n arguments : ℕ) → IsHead (take n bytes) arguments name →
    take n piece ≡ take n bytes → n ≤ length piece → n ≤ 24 → HasHead limits.length piece arguments name (drop n piece)
head_of_bytes limits bounds piece bytes name n arguments h same within short =
    let body = (36 ∷ h.size) ++ crlf (name ++ crlf (drop n piece)) in
    let whole : piece ≡ (42 ∷ h.count) ++ crlf body =
    sym (take-append-drop n piece) ∙ ap (λ l. l ++ drop n piece) (same ∙ h.whole) ∙ head_on h.count h.size name (drop n piece) in
    let size = sym (length-take-le n piece within) ∙ ap length (same ∙ h.whole) in
    let first = length-append (42 ∷ h.count) (crlf ((36 ∷ h.size) ++ crlf (name ++ crlf []))) in
    let second = length-append (36 ∷ h.size) (crlf (name ++ crlf [])) in
    let third = length-append name (crlf []) in
    let fourth = length-append (36 ∷ h.size) (crlf (name ++ crlf (drop n piece))) in
    let fifth = length-append name (crlf (drop n piece)) in
    let length_least = bounds.length_in_range.0 in
    record {
      body = body;
      head = record { digits = h.count; counted = h.counted; whole = whole };
      word = record { digits = h.size; counted = h.sized; short = omega (arith, size, first, second, third, short, length_least); whole = refl };
      short = omega (arith, size, first, second, third, fourth, fifth, short);
    }

-- a text that begins with the first bytes of a command, and then with its other words, begins with a command
pub head_begins : (limits : Bounds) → AreBounds limits → (piece bytes : List ℕ) (n arguments : ℕ) (c : Class) (place : ℕ) → IsKnownHead (take n bytes) arguments c place →
    IsText piece → n ≤ length piece → n ≤ 24 → arguments ≤ 15 → take n piece ≡ take n bytes → (words : List (List ℕ)) (rest : List ℕ) → length words ≡ arguments →
    BeginsWithWords limits.length (drop n piece) words rest → length piece ≤ length rest + limits.total → (name : List ℕ) ×
    BeginsWith limits piece (command_of (name ∷ words)) rest × ((others : List (List ℕ)) → HasClass name others c) × IsAt place name
head_begins limits bounds piece bytes n arguments c place known are within short few same words rest as_many others small =
    let h = head_of_bytes limits bounds piece bytes known.name n arguments known.head same within short in
    let items_least = bounds.items_in_range.0 in (
      known.name,
      command_spelled limits bounds piece (known.name ∷ words) rest are
          (record {
            body = h.body;
            head = subst (λ k. BeginsWithHead piece 42 k h.body) (omega (arith, as_many)) h.head;
            begins = (drop n piece, h.word, others);
            few = omega (arith, as_many, few, items_least);
            small = small;
          }),
      known.class,
      known.at,
    )

-- after the first bytes of a command that a text begins with come its other words
pub words_after_head : (limits : Bounds) → AreBounds limits → (piece bytes : List ℕ) (n arguments : ℕ) (c : Class) (place : ℕ) → IsKnownHead (take n bytes) arguments c place →
    n ≤ length piece → n ≤ 24 → take n piece ≡ take n bytes → (name : List ℕ) (words : List (List ℕ)) (rest : List ℕ) →
    BeginsWith limits piece (command_of (name ∷ words)) rest →
    (length words ≡ arguments) × BeginsWithWords limits.length (drop n piece) words rest × (length piece ≤ length rest + limits.total)
words_after_head limits bounds piece bytes n arguments c place known within short same name words rest begins =
    let h = head_of_bytes limits bounds piece bytes known.name n arguments known.head same within short in
    let parts = command_parts limits piece (name ∷ words) rest begins in
    let (as_many, (next, first, others)) = number_of_words limits piece (name ∷ words) rest (arguments + 1) h.body h.head parts in (
      omega (arith, as_many),
      subst (λ t. BeginsWithWords limits.length t words rest) (one_word limits.length h.body name next known.name (drop n piece) first h.word).1 others,
      parts.small,
    )

-- the head and the name that a text begins with are those that were read
pub same_head : (limits : Bounds) (piece body content rest : List ℕ) (arguments number : ℕ) (name after : List ℕ) → HasHead limits.length piece arguments name after →
    BeginsWithHead piece 42 number body → BeginsWith limits body (word_datum content) rest → (number ≡ arguments + 1) × (content ≡ name) × (rest ≡ after)
same_head limits piece body content rest arguments number name after h head word =
    let (same, bodies) = one_head piece 42 number (arguments + 1) body h.body (omega arith) head h.head in
    let read = subst (λ t. BeginsWithWord limits.length t content rest) bodies (word_parts_of limits body content rest word).0 in
    let both = one_word limits.length h.body content rest name after read h.word in
    (same, both.0, both.1)

-- the name that a text begins with is spelled
pub name_spelled : (limits : Bounds) → AreBounds limits → (piece body : List ℕ) (arguments number : ℕ) (name after : List ℕ) →
    HasHead limits.length piece arguments name after → BeginsWithHead piece 42 number body → IsText body → BeginsWith limits body (word_datum name) after
name_spelled limits bounds piece body arguments number name after h head are =
    let bodies = (one_head piece 42 number (arguments + 1) body h.body (omega arith) head h.head).1 in
    let size = ap length bodies in
    let total_least = bounds.total_in_range.0 in
    word_spelled limits body name after are (subst (λ t. BeginsWithWord limits.length t name after) (sym bodies) h.word)
    (let short = h.short in omega (arith, size, short, total_least))

-- the bytes after the first bytes of a text are a text
text_back : (a b : List ℕ) → IsText (a ++ b) → IsText b
text_back [] b h = h
text_back (x ∷ a) b h = text_back a b h.1

pub text_after_head : (text : List ℕ) (kind n : ℕ) (rest : List ℕ) → BeginsWithHead text kind n rest → IsText text → IsText rest
text_after_head text kind n rest head h = (text_back (kind ∷ head.digits) (crlf rest) (subst IsText head.whole h)).1.1

pub text_after_words : (most : ℕ) (text : List ℕ) (words : List (List ℕ)) (rest : List ℕ) → BeginsWithWords most text words rest → IsText text → IsText rest
text_after_words most text [] rest b h = subst IsText b h
text_after_words most text (word ∷ words) rest (next, first, others) h =
    let content : IsText (word ++ crlf next) = (text_back (36 ∷ first.digits) (crlf (word ++ crlf next)) (subst IsText first.whole h)).1.1 in
    text_after_words most next words rest others (text_back word (crlf next) content).1.1

-- after the words read comes the next of the words that a text begins with, and the others follow it
pub next_word_of : (most : ℕ) (text : List ℕ) (read words : List (List ℕ)) (middle rest : List ℕ) → BeginsWithWords most text read middle →
    BeginsWithWords most text words rest → length read < length words →
    (word : List ℕ) × (next : List ℕ) × BeginsWithWord most middle word next × (length rest ≤ length next)
next_word_of most text [] [] middle rest a b less = absurd (omega (arith, less))
next_word_of most text (r ∷ read) [] middle rest a b less = absurd (omega (arith, less))
next_word_of most text [] (w ∷ words) middle rest a (next, first, more) less =
    (w, next, subst (λ t. BeginsWithWord most t w next) a first, rest_is_shorter most next words rest more)
next_word_of most text (r ∷ read) (w ∷ words) middle rest (next, first, more) (next', first', more') less =
    let same = (one_word most text r next w next' first first').1 in
    next_word_of most next read words middle rest more (subst (λ t. BeginsWithWords most t words rest) (sym same) more') (omega (arith, less))

-- the words of a command decide its class, if they decide that of the row with its name
pub decided_by_words : (command : Command) (name : List ℕ) → Contains COMMANDS command → HasName command name →
    (command.may_block ≡ true) ⊎ HasSubcommands command → IsDecidedByWords name
decided_by_words command name among named decided = λ k d less same.
    subst (λ row. (row.may_block ≡ true) ⊎ HasSubcommands row) (sym (only_command command name k d among named less same)) decided

-- no words decide the class of a command that is not in the table
pub unknown_is_decided : (name : List ℕ) → IsUnknown name → IsDecidedByWords name
unknown_is_decided name unknown = λ k d less named. absurd (unknown k d less named)
