-- The kept part of a value is a command exactly if the value is one, and its words are the kept parts of the words.
use Rattle.std.proofs.Common.{◌≡◌, ◌≢◌, ◌∙◌, ◌⊎◌, ℕ, ◌+◌, ◌^◌, ◌<◌, ◌≤◌, false, List, [], ◌∷◌, ◌++◌, length, map, Option, refl, sym, ap, subst, arith}
use Rattle.std.specs.Prelude.{None, Some, option_map}
use Rattle.resp_value.specs.Cuts.{cut, cut_each, cut_lengths, kept_part, lengths_of_each, longer}
use Rattle.resp_value.specs.Data.{Datum, Data, Scalar, Array, Set, Map, Attr, Push, scalar, aggregate, none, more}
use Rattle.resp_session.specs.Commands.{Call, Meaning, NoCommand, Nothing, array_meaning, bulk_content, bulk_contents, contents_with, meaning_of}
use Rattle.resp_tap.specs.Kinds.{command_kind}
use Rattle.resp_tap.specs.Parts.{AreKeptOf, IsEnough, IsKeptOf, cut_within, lengths_within, word_lengths, words_within}
use Rattle.resp_tap.specs.Taps.{TapState}
use Rattle.resp_tap.specs.Watching.{IsLeftOut}
use Rattle.resp_tap.specs.Lines.{due_of}
use Rattle.resp_tap.specs.declared.kind.CommandKind.{CommandKind}
use Rattle.resp_value.specs.Values.{datum_of}
use Rattle.resp_value.specs.declared.cause.Cause.{Cause}
use Rattle.resp_value.specs.declared.cause.Cause.TheVariants as causes
use Rattle.resp_value.specs.declared.cut_value.CutValue.{CutValue}
use Rattle.resp_tap.proofs.LineReading.{no_other, same_words}

-- ---- the words of an array

content_kept : (n : ℕ) (x : Datum) → bulk_content (cut n x) ≡ option_map (kept_part n) (bulk_content x)
content_kept n x = grind arith

both_kept : (n : ℕ) (content : Option (List ℕ)) (contents : Option (List (List ℕ))) →
    contents_with (option_map (kept_part n) content) (option_map (map (kept_part n)) contents) ≡
    option_map (map (kept_part n)) (contents_with content contents)
both_kept n content contents = grind arith

contents_kept : (n : ℕ) (xs : Data) → bulk_contents (cut_each n xs) ≡ option_map (map (kept_part n)) (bulk_contents xs)
contents_kept n none = refl
contents_kept n (more x xs) =
    (λ i. contents_with (content_kept n x i) (contents_kept n xs i)) ∙ both_kept n (bulk_content x) (bulk_contents xs)

abbrev contents_or : Option (List (List ℕ)) → List (List ℕ)
contents_or None = []
contents_or (Some words) = words

-- the first word, and the words after it
record First (content : Option (List ℕ)) (contents : Option (List (List ℕ))) (words : List (List ℕ)) : Type 0 where
  word : List ℕ
  is : content ≡ Some word
  rest : List (List ℕ)
  are : contents ≡ Some rest
  all : words ≡ word ∷ rest

first_of : (content : Option (List ℕ)) (contents : Option (List (List ℕ))) (words : List (List ℕ)) → contents_with content contents ≡ Some words →
    First content contents words
first_of None contents words e = absurd (cc)
first_of (Some word) None words e = absurd (cc)
first_of (Some word) (Some rest) words e = record { word = word; is = refl; rest = rest; are = refl; all = sym (ap contents_or e) }

bulk_lengths : (n : ℕ) (x : Datum) (word : List ℕ) → bulk_content x ≡ Some word → cut_lengths n x ≡ longer n (length word)
bulk_lengths n x word is = grind arith

lengths_kept : (n : ℕ) (xs : Data) (words : List (List ℕ)) → bulk_contents xs ≡ Some words → lengths_of_each n xs ≡ word_lengths (Some n) words
lengths_kept n none words e = ap (word_lengths (Some n)) (ap contents_or e)
lengths_kept n (more x xs) words e =
    let first = first_of (bulk_content x) (bulk_contents xs) words e in
    (λ i. bulk_lengths n x first.word first.is i ++ lengths_kept n xs first.rest first.are i) ∙ ap (word_lengths (Some n)) (sym first.all)

-- ---- a command

-- the whole command of which these words are kept
pub record WholeCommand (most : Option ℕ) (whole : Datum) (words : List (List ℕ)) : Type 0 where
  pub all : List (List ℕ)
  pub some : 0 < length all
  pub means : meaning_of whole ≡ array_meaning (Some all)
  pub first_bytes : words ≡ words_within most all
  pub lengths : lengths_within most whole ≡ word_lengths most all

of_array : (n : ℕ) (xs : Data) (words : List (List ℕ)) (contents : Option (List (List ℕ))) → bulk_contents xs ≡ contents → 0 < length words →
    array_meaning (option_map (map (kept_part n)) contents) ≡ array_meaning (Some words) → WholeCommand (Some n) (aggregate Array xs) words
of_array n xs words None are some same = absurd (no_other words NoCommand some refl same)
of_array n xs words (Some []) are some same = absurd (no_other words Nothing some refl same)
of_array n xs words (Some (name ∷ arguments)) are some same = record {
  all = name ∷ arguments;
  some = omega arith;
  means = ap array_meaning are;
  first_bytes = same_words words (map (kept_part n) (name ∷ arguments)) some (omega arith) (sym same);
  lengths = lengths_kept n xs (name ∷ arguments) are;
}

no_words : (n : ℕ) (s : Scalar) (words : List (List ℕ)) → 0 < length words → meaning_of (cut n (scalar s)) ≡ array_meaning (Some words) → ⊥
no_words n s words some same = grind arith

of_part : (n : ℕ) (whole : Datum) (words : List (List ℕ)) → 0 < length words → meaning_of (cut n whole) ≡ array_meaning (Some words) →
    WholeCommand (Some n) whole words
of_part n (scalar s) words some same = absurd (no_words n s words some same)
of_part n (aggregate Array xs) words some same =
    of_array n xs words (bulk_contents xs) refl some (sym (ap array_meaning (contents_kept n xs)) ∙ same)
of_part n (aggregate Set xs) words some same = absurd (no_other words NoCommand some refl same)
of_part n (aggregate Map xs) words some same = absurd (no_other words NoCommand some refl same)
of_part n (aggregate Attr xs) words some same = absurd (no_other words NoCommand some refl same)
of_part n (aggregate Push xs) words some same = absurd (no_other words NoCommand some refl same)

all_words : (words : List (List ℕ)) → words ≡ words_within None words
all_words [] = refl
all_words (word ∷ words) = ap (λ l. word ∷ l) (all_words words)

no_lengths : (words : List (List ℕ)) → [] ≡ word_lengths None words
no_lengths [] = refl
no_lengths (word ∷ words) = no_lengths words

pub whole_command : (most : Option ℕ) (whole : Datum) (words : List (List ℕ)) → 0 < length words →
    meaning_of (cut_within most whole) ≡ array_meaning (Some words) → WholeCommand most whole words
whole_command None whole words some same = record { all = words; some = some; means = same; first_bytes = all_words words; lengths = no_lengths words }
whole_command (Some n) whole words some same = of_part n whole words some same

-- ---- no command

abbrev kept_meaning : ℕ → Meaning → Meaning
kept_meaning n (Call name arguments) = Call (kept_part n name) (map (kept_part n) arguments)
kept_meaning n Nothing = Nothing
kept_meaning n NoCommand = NoCommand

array_kept : (n : ℕ) (contents : Option (List (List ℕ))) → array_meaning (option_map (map (kept_part n)) contents) ≡ kept_meaning n (array_meaning contents)
array_kept n contents = grind arith

scalar_meaning_kept : (n : ℕ) (s : Scalar) → meaning_of (cut n (scalar s)) ≡ kept_meaning n (meaning_of (scalar s))
scalar_meaning_kept n s = grind arith

meaning_kept : (n : ℕ) (x : Datum) → meaning_of (cut n x) ≡ kept_meaning n (meaning_of x)
meaning_kept n x = grind (arith, contents_kept, array_kept)

nothing_by : (n : ℕ) (m : Meaning) → kept_meaning n m ≡ Nothing → m ≡ Nothing
nothing_by n m e = grind arith

no_command_by : (n : ℕ) (m : Meaning) → kept_meaning n m ≡ NoCommand → m ≡ NoCommand
no_command_by n m e = grind arith

pub whole_nothing : (most : Option ℕ) (whole : Datum) → meaning_of (cut_within most whole) ≡ Nothing → meaning_of whole ≡ Nothing
whole_nothing None whole same = same
whole_nothing (Some n) whole same = nothing_by n (meaning_of whole) (sym (meaning_kept n whole) ∙ same)

pub whole_no_command : (most : Option ℕ) (whole : Datum) → meaning_of (cut_within most whole) ≡ NoCommand → meaning_of whole ≡ NoCommand
whole_no_command None whole same = same
whole_no_command (Some n) whole same = no_command_by n (meaning_of whole) (sym (meaning_kept n whole) ∙ same)

-- ---- a command that a tap has read

pub command_read : (shown most : Option ℕ) (whole : Datum) (kept : CutValue) (words : List (List ℕ)) → IsEnough shown most → IsKeptOf most whole kept →
    0 < length words → array_meaning (Some words) ≡ meaning_of (datum_of kept.value) →
    (command : WholeCommand most whole words) × AreKeptOf shown most command.all words kept.lengths.items
command_read shown most whole kept words enough is some means =
    let command = whole_command most whole words some (sym (ap meaning_of is.value) ∙ sym means) in (
      command,
      record { enough = enough; first_bytes = command.first_bytes; longer = is.lengths ∙ command.lengths },
    )

-- why a command is left out depends on how it is answered
abbrev IsLeftOutBy : TapState → CommandKind → Cause → Type 0
IsLeftOutBy s kind cause =
    ((cause ≡ causes.TooMany) × ((2 ^ 20 ≤ length s.line.due) ⊎ (2 ^ 63 ≤ s.commands))) ⊎
    ((cause ≡ causes.OutOfMemory) × (s.line.is_lost ≡ false) × (due_of (s.commands + 1) kind s.line.is_open ≢ []))

pub left_out_whole : (s : TapState) (words all : List (List ℕ)) (cause : Cause) → command_kind words ≡ command_kind all → IsLeftOut s words cause → IsLeftOut s all cause
left_out_whole s words all cause same left = subst (λ kind. IsLeftOutBy s kind cause) same left
