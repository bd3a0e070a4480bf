-- What the options of HELLO ask for, one after another.
use Rattle.std.proofs.Common.{◌≡◌, ℕ, Option, None, Some, true, false, List, [], ◌∷◌, refl, sym, ap, ◌∙◌}
use Rattle.std.specs.Prelude.{codes}
use Rattle.std.specs.Str.{bytes_eq}
use Rattle.resp_value.specs.declared.version.Version.{Version}
use Rattle.resp_session.specs.Operations.{is_name}
use Rattle.resp_server.specs.Deeds.{Asked, Denied, options_ask}
use Rattle.resp_server.specs.Names.{is_client_name}
use Rattle.resp_server.specs.Refusals.{refusal_text}
use Rattle.resp_server.specs.declared.refusal.Refusal.TheVariants.{Syntax, BadName, WrongPassword}

-- what the words ask for, once some of them are read
pub asks_so : (v : Version) (name : Option (List ℕ)) (words all read : List (List ℕ)) (asked : Asked) → words ≡ read → options_ask v name read ≡ asked →
    options_ask v name words ≡ options_ask v None all → asked ≡ options_ask v None all
asks_so v name words all read asked is asks so_far = sym (ap (options_ask v name) is ∙ asks) ∙ so_far

pub bad_name : (v : Version) (name : Option (List ℕ)) (option word : List ℕ) (words : List (List ℕ)) → is_name (codes "setname") option ≡ true →
    is_client_name word ≡ false → options_ask v name (option ∷ word ∷ words) ≡ Denied (refusal_text BadName)
bad_name v name option word [] set bad = rw set (rw bad refl)
bad_name v name option word (next ∷ words) set bad = rw set (rw bad refl)

pub named : (v : Version) (name : Option (List ℕ)) (option word : List ℕ) (words : List (List ℕ)) → is_name (codes "setname") option ≡ true →
    is_client_name word ≡ true → options_ask v name (option ∷ word ∷ words) ≡ options_ask v (Some word) words
named v name option word [] set good = rw set (rw good refl)
named v name option word (next ∷ words) set good = rw set (rw good refl)

pub unknown : (v : Version) (name : Option (List ℕ)) (option word : List ℕ) (words : List (List ℕ)) → is_name (codes "setname") option ≡ false →
    is_name (codes "auth") option ≡ false → options_ask v name (option ∷ word ∷ words) ≡ Denied (refusal_text Syntax)
unknown v name option word [] set auth = rw set refl
unknown v name option word (next ∷ words) set auth = rw set (rw auth refl)

pub no_password : (v : Version) (name : Option (List ℕ)) (option word : List ℕ) → is_name (codes "setname") option ≡ false →
    options_ask v name (option ∷ word ∷ []) ≡ Denied (refusal_text Syntax)
no_password v name option word set = rw set refl

pub another_user : (v : Version) (name : Option (List ℕ)) (option word next : List ℕ) (words : List (List ℕ)) → is_name (codes "setname") option ≡ false →
    is_name (codes "auth") option ≡ true → bytes_eq word (codes "default") ≡ false →
    options_ask v name (option ∷ word ∷ next ∷ words) ≡ Denied (refusal_text WrongPassword)
another_user v name option word next words set auth other = rw set (rw auth (rw other refl))

pub default_user : (v : Version) (name : Option (List ℕ)) (option word next : List ℕ) (words : List (List ℕ)) → is_name (codes "setname") option ≡ false →
    is_name (codes "auth") option ≡ true → bytes_eq word (codes "default") ≡ true →
    options_ask v name (option ∷ word ∷ next ∷ words) ≡ options_ask v name words
default_user v name option word next words set auth same = rw set (rw auth (rw same refl))
