-- What commands are refused for, and what describes them.
use Rattle.std.proofs.Common.{◌≡◌, ℕ, List, length, map, refl, sym, ap, ◌∙◌, subst}
use Rattle.std.proofs.lemmas.List.{length-map}
use Rattle.resp_value.specs.Bounds.{Bounds}
use Rattle.resp_value.specs.Canonical.{IsFirstOver}
use Rattle.resp_value.specs.Data.{Array, Data, aggregate, count, data_of_list}
use Rattle.resp_value.specs.Rules.{rules_under}
use Rattle.resp_value.specs.Words.{word_datum, command_of}
use Rattle.resp_value.specs.declared.cause.Limit.{Limit}
use Rattle.resp_value.specs.declared.version.Version.TheVariants.{Two}
use Rattle.resp_encode.specs.Refusals.{IsFirstFault}
use Rattle.resp_encode.specs.declared.error.EncodeError.{EncodeError}
use Rattle.resp_encode.specs.declared.error.EncodeError.TheVariants.{Double, NotInVersion, NestedPush, OverLimits, OutOfMemory}
use Rattle.resp_encode.specs.declared.measure.Measure.{Measure}
use Rattle.resp_encode.specs.Lengths.{HaveLengths}
use Rattle.resp_encode.specs.Walks.Measures.{Describes, DescribesEach}
use Rattle.resp_value.proofs.CommandValues.{words_are_in_two, words_have_no_double, words_have_no_push}
use Rattle.resp_encode.proofs.Counts.{count-map}
use Rattle.resp_value.specs.declared.version.Version.{Version}

-- the only fault of a command is a limit that it breaks
pub limit_of_fault : (limits : Bounds) (words : List (List ℕ)) (error : EncodeError) (limit : Limit) →
    IsFirstFault (rules_under Two limits) (command_of words) error → (error ≡ OutOfMemory → ⊥) →
    ((over : Limit) → error ≡ OverLimits over → limit ≡ over) →
    IsFirstOver (rules_under Two limits) (command_of words) limit
limit_of_fault limits words Double limit fault other same = absurd (fault (λ off. words_have_no_double words))
limit_of_fault limits words NotInVersion limit fault other same = absurd (fault.1 (tt, words_are_in_two words))
limit_of_fault limits words NestedPush limit fault other same = absurd (fault.2 (words_have_no_push words))
limit_of_fault limits words (OverLimits over) limit fault other same =
    subst (λ l. IsFirstOver (rules_under Two limits) (command_of words) l) (sym (same over refl)) fault.2
limit_of_fault limits words OutOfMemory limit fault other same = absurd (other refl)

-- what describes the words of some lengths describes a command of them
pub describes_command : (lengths : List ℕ) (each found : Measure) →
    ((words : List (List ℕ)) → HaveLengths words lengths → DescribesEach Two (data_of_list (map word_datum words)) each) →
    ((version : Version) (xs : Data) → DescribesEach version xs each → length lengths ≡ count xs →
    Describes version (aggregate Array xs) found) →
    (words : List (List ℕ)) → HaveLengths words lengths → Describes Two (command_of words) found
describes_command lengths each found words_described inside words have = inside Two (data_of_list (map word_datum words))
    (words_described words have)
    (sym (count-map word_datum words ∙ sym (length-map words (λ word. length word)) ∙ ap length have.counted))
