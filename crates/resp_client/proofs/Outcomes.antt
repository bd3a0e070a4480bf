-- What follows of a result by its cases.
use Rattle.std.proofs.Common.{◌≡◌, ℕ, List, [], ◌∷◌, map, Result, Ok, Err, IfErr, OnOk, subst}
use Rattle.std.specs.List.{AllByRecursion}
use Rattle.resp_value.specs.Bytes.{IsText}
use Rattle.resp_value.specs.Canonical.{AreValues, IsValue}
use Rattle.resp_value.specs.Data.{data_of_list}
use Rattle.resp_value.specs.Words.{command_of, word_datum}
use Rattle.resp_session.specs.Requests.{Command, HasBytes}
use Rattle.resp_value.specs.declared.value.Value.{Value}
use Rattle.resp_scan.specs.declared.event.Fault.{Fault}
use Rattle.resp_decode.specs.Decoding.{IfNoValue, IfValue}
use Rattle.resp_decode.specs.declared.fed.Fed.{Fed}

pub if_value : (result : Result (Fed Value) Fault) (P Q : ℕ → Value → Type 0) → ((used : ℕ) (x : Value) → P used x → Q used x) → IfValue result P → IfValue result Q
if_value (Ok fed) P Q f h = λ x e. f fed.used x (h x e)
if_value (Err fault) P Q f h = h

pub if_no_value : (result : Result (Fed Value) Fault) (P Q : ℕ → Type 0) → ((used : ℕ) → P used → Q used) → IfNoValue result P → IfNoValue result Q
if_no_value (Ok fed) P Q f h = λ e. f fed.used (h e)
if_no_value (Err fault) P Q f h = h

pub if_err : (result : Result (Fed Value) Fault) (P Q : Fault → Type 0) → ((fault : Fault) → P fault → Q fault) → IfErr result P → IfErr result Q
if_err (Ok fed) P Q f h = h
if_err (Err fault) P Q f h = f fault h

-- what always holds holds after a success
pub always : {T E P : Type 0} (r : Result T E) → P → OnOk r P
always (Ok x) p = p
always (Err e) p = tt

are_texts : (words : List (List ℕ)) → AreValues (data_of_list (map word_datum words)) → AllByRecursion IsText words
are_texts [] all = tt
are_texts (word ∷ words) all = (all.0, are_texts words all.1)

-- the words of a command that is a value are bytes
pub words_have_bytes : {lent words : List (List ℕ)} → lent ≡ words → IsValue (command_of lent) → HasBytes (Command words)
words_have_bytes {lent} {words} same value = subst (λ l. HasBytes (Command l)) same (are_texts lent value.1)
