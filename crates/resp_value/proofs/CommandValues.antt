-- What commands are, whatever their words: values of version 2, without doubles and without pushes.
use Rattle.std.proofs.Common.{ℕ, List, [], ◌∷◌, map}
use Rattle.std.specs.List.{AllByRecursion}
use Rattle.resp_value.specs.Bytes.{IsText}
use Rattle.resp_value.specs.Canonical.{IsValue, AreValues, AreInTwo, HaveNoDouble, HaveNoPush}
use Rattle.resp_value.specs.Data.{data_of_list}
use Rattle.resp_value.specs.Words.{word_datum, command_of}

words_are_values : (words : List (List ℕ)) → AllByRecursion IsText words → AreValues (data_of_list (map word_datum words))
words_are_values [] h = tt
words_are_values (word ∷ words) h = (h.0, words_are_values words h.1)

-- words of bytes make a value
pub command_is_value : (words : List (List ℕ)) → AllByRecursion IsText words → IsValue (command_of words)
command_is_value words h = (tt, words_are_values words h)

pub words_are_in_two : (words : List (List ℕ)) → AreInTwo (data_of_list (map word_datum words))
words_are_in_two [] = tt
words_are_in_two (word ∷ words) = (tt, words_are_in_two words)

pub words_have_no_double : (words : List (List ℕ)) → HaveNoDouble (data_of_list (map word_datum words))
words_have_no_double [] = tt
words_have_no_double (word ∷ words) = (tt, words_have_no_double words)

pub words_have_no_push : (words : List (List ℕ)) → HaveNoPush (data_of_list (map word_datum words))
words_have_no_push [] = tt
words_have_no_push (word ∷ words) = (tt, words_have_no_push words)
