-- The bytes received of texts that were sent one after another.
use Rattle.std.specs.Prelude.{◌≡◌, ℕ, List, [], ◌∷◌, ◌++◌, length, take}
use Rattle.resp_value.specs.Bounds.{Bounds}
use Rattle.resp_value.specs.Data.{Datum}
use Rattle.resp_value.specs.Rules.{Rules, WithinTotal}
use Rattle.resp_value.specs.Spellings.{IsSpelling, IsViable, AreSpellings}
use Rattle.resp_value.specs.declared.cause.Cause.{Cause}
use Rattle.resp_session.specs.Answers.{BeginsNoValue}
use Rattle.resp_session.specs.Connections.{whole_within}
use Rattle.resp_session.specs.Reading.{Waiting, ReadsAs, MayGoOn, ClientFault}

-- each text is a spelling of the value at the same index
abbrev pub SpellEach : Rules → List Datum → List (List ℕ) → Type 0
SpellEach rules [] [] = Unit {0}
SpellEach rules (x ∷ xs) (text ∷ texts) = IsSpelling rules x text × SpellEach rules xs texts
SpellEach rules _ _ = ⊥

-- the bytes received consist of spellings of the values whose texts are complete, and a viable rest that does not begin
-- with a value
pub record HasCome (rules : Rules) (xs : List Datum) (texts : List (List ℕ)) (came : List ℕ) : Type 0 where
  pub front : List ℕ
  pub rest : List ℕ
  pub spelled : AreSpellings rules (take (whole_within texts (length came)) xs) front
  pub whole : came ≡ front ++ rest
  pub no_more : BeginsNoValue rules rest
  pub viable : IsViable rules WithinTotal rest

-- the bytes received by a client are read as these values, and leave a viable rest
pub record HasBeenRead (limits : Bounds) (before : Waiting) (xs : List Datum) (came : List ℕ) : Type 0 where
  pub front : List ℕ
  pub rest : List ℕ
  pub after : Waiting
  pub read : ReadsAs limits before xs front after
  pub whole : came ≡ front ++ rest
  pub goes_on : MayGoOn limits after rest

-- whatever values are read of the bytes received by a client, the rest has no fault
abbrev pub MeetsNoFault : Bounds → Waiting → List ℕ → Type 0
MeetsNoFault limits before came = (xs : List Datum) (front rest : List ℕ) (after : Waiting) (cause : Cause) (at : ℕ) →
    ReadsAs limits before xs front after → came ≡ front ++ rest → ClientFault limits after rest cause at → ⊥
