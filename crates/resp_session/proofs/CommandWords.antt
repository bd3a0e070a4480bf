-- Commands and their words.
use Rattle.std.proofs.Common.{◌≡◌, ℕ, List, [], ◌∷◌, map, Option, None, Some, refl, sym, ap, ◌∙◌}
use Rattle.resp_value.specs.Data.{Datum, Data, scalar, aggregate, none, more, data_of_list}
use Rattle.resp_value.specs.Data as d
use Rattle.resp_value.specs.Words.{word_datum, command_of}
use Rattle.resp_session.specs.Commands.{Call, bulk_content, contents_with, bulk_contents, array_meaning, meaning_of}
use Rattle.resp_session.specs.AnswerLaws.{ACommandIsItsWords}

-- a value with a bulk string's content is that bulk string
bulk_content_of : (x : Datum) (content : List ℕ) → bulk_content x ≡ Some content → x ≡ word_datum content
bulk_content_of (scalar d.Null) content e = absurd (cc)
bulk_content_of (scalar (d.Bool b)) content e = absurd (cc)
bulk_content_of (scalar (d.Int i)) content e = absurd (cc)
bulk_content_of (scalar (d.Simple s)) content e = absurd (cc)
bulk_content_of (scalar (d.Error s)) content e = absurd (cc)
bulk_content_of (scalar (d.Double s)) content e = absurd (cc)
bulk_content_of (scalar (d.Bulk s)) content e = let f : s ≡ content = cc in ap word_datum f
bulk_content_of (scalar (d.BulkError s)) content e = absurd (cc)
bulk_content_of (scalar (d.Verbatim format s)) content e = absurd (cc)
bulk_content_of (scalar (d.Big negative digits)) content e = absurd (cc)
bulk_content_of (aggregate k xs) content e = absurd (cc)

-- contents that are there have a first and the others
both_there : (first : Option (List ℕ)) (others : Option (List (List ℕ))) (contents : List (List ℕ)) → contents_with first others ≡ Some contents →
    (content : List ℕ) × (rest : List (List ℕ)) × (first ≡ Some content) × (others ≡ Some rest) × (contents ≡ content ∷ rest)
both_there None None contents e = absurd (cc)
both_there None (Some rest) contents e = absurd (cc)
both_there (Some content) None contents e = absurd (cc)
both_there (Some content) (Some rest) contents e = let f : contents ≡ content ∷ rest = cc in (content, rest, refl, refl, f)

-- members with bulk strings' contents are those bulk strings
bulk_contents_of : (xs : Data) (contents : List (List ℕ)) → bulk_contents xs ≡ Some contents → xs ≡ data_of_list (map word_datum contents)
bulk_contents_of none contents e = let f : [] ≡ contents = cc in ap (λ l. data_of_list (map word_datum l)) f
bulk_contents_of (more x xs) contents e =
    let (content, rest, first, others, whole) = both_there (bulk_content x) (bulk_contents xs) contents e in
    ap (λ y. more y xs) (bulk_content_of x content first) ∙ ap (λ ys. more (word_datum content) ys) (bulk_contents_of xs rest others) ∙
    sym (ap (λ l. data_of_list (map word_datum l)) whole)

-- the contents of bulk strings
contents_of_words : (words : List (List ℕ)) → bulk_contents (data_of_list (map word_datum words)) ≡ Some words
contents_of_words [] = refl
contents_of_words (word ∷ words) = ap (contents_with (Some word)) (contents_of_words words)

array_words : (contents : Option (List (List ℕ))) (name : List ℕ) (arguments : List (List ℕ)) → array_meaning contents ≡ Call name arguments →
    contents ≡ Some (name ∷ arguments)
array_words None name arguments e = absurd (cc)
array_words (Some []) name arguments e = absurd (cc)
array_words (Some (word ∷ words)) name arguments e = cc

words_of_command : (x : Datum) (name : List ℕ) (arguments : List (List ℕ)) → meaning_of x ≡ Call name arguments → x ≡ command_of (name ∷ arguments)
words_of_command (scalar d.Null) name arguments e = absurd (cc)
words_of_command (scalar (d.Bool b)) name arguments e = absurd (cc)
words_of_command (scalar (d.Int i)) name arguments e = absurd (cc)
words_of_command (scalar (d.Simple s)) name arguments e = absurd (cc)
words_of_command (scalar (d.Error s)) name arguments e = absurd (cc)
words_of_command (scalar (d.Double s)) name arguments e = absurd (cc)
words_of_command (scalar (d.Bulk s)) name arguments e = absurd (cc)
words_of_command (scalar (d.BulkError s)) name arguments e = absurd (cc)
words_of_command (scalar (d.Verbatim format s)) name arguments e = absurd (cc)
words_of_command (scalar (d.Big negative digits)) name arguments e = absurd (cc)
words_of_command (aggregate d.Array xs) name arguments e =
    ap (aggregate d.Array) (bulk_contents_of xs (name ∷ arguments) (array_words (bulk_contents xs) name arguments e))
words_of_command (aggregate d.Set xs) name arguments e = absurd (cc)
words_of_command (aggregate d.Map xs) name arguments e = absurd (cc)
words_of_command (aggregate d.Attr xs) name arguments e = absurd (cc)
words_of_command (aggregate d.Push xs) name arguments e = absurd (cc)

-- what an array of these words means
pub meaning_of-command_of : (name : List ℕ) (arguments : List (List ℕ)) → meaning_of (command_of (name ∷ arguments)) ≡ Call name arguments
meaning_of-command_of name arguments = ap array_meaning (contents_of_words (name ∷ arguments))

pub a_command_is_its_words : ACommandIsItsWords
a_command_is_its_words x name arguments = (words_of_command x name arguments, λ e. ap meaning_of e ∙ meaning_of-command_of name arguments)
