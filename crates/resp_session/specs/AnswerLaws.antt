-- Statements that have to be true if the definitions of commands and of a server's answers are right.
use Rattle.std.specs.Prelude.{◌≡◌, ◌↔◌, ℕ, ◌+◌, true, false, List, ◌∷◌, ◌++◌}
use Rattle.std.specs.List.{concat}
use Rattle.resp_value.specs.Bounds.{Bounds, AreBounds}
use Rattle.resp_value.specs.Data.{Datum}
use Rattle.resp_value.specs.Rules.{Rules}
use Rattle.resp_value.specs.Spellings.{Cut}
use Rattle.resp_value.specs.Words.{command_of}
use Rattle.resp_session.specs.Answers.{SessionState, Answers, Ends, after_values, server_rules}
use Rattle.resp_session.specs.Arrivals.{SpellEach, HasCome}
use Rattle.resp_session.specs.Commands.{Call, meaning_of}

-- a value is a command exactly if it is an array of the words as bulk strings
abbrev pub ACommandIsItsWords : Type 0
ACommandIsItsWords = (x : Datum) (name : List ℕ) (arguments : List (List ℕ)) →
    (meaning_of x ≡ Call name arguments) ↔ (x ≡ command_of (name ∷ arguments))

-- the answers to a text up to a rest, and then the answers to the rest and more bytes, are the answers to the whole
-- text
abbrev pub AnswersGoOn : Type 0
AnswersGoOn = (limits : Bounds) (id : ℕ) (a b c : SessionState) (text more rest rest' : List ℕ) →
    Answers limits id a text b rest → b.closing ≡ false → Answers limits id b (rest ++ more) c rest' →
    Answers limits id a (text ++ more) c rest'

-- a session that is closing answers nothing more
abbrev pub AnswersEnd : Type 0
AnswersEnd = (limits : Bounds) (id : ℕ) (a b : SessionState) (text more rest : List ℕ) →
    Answers limits id a text b rest → b.closing ≡ true → Answers limits id a (text ++ more) b (rest ++ more)

-- a session after other commands: this many commands were run before, and this text was written before
abbrev pub after_others : List ℕ → ℕ → SessionState → SessionState
after_others written count s = record s { text = written ++ s.text; count = count + s.count }

-- the answers do not depend on the output written and the commands run before
abbrev pub AnswersAreAdded : Type 0
AnswersAreAdded = (limits : Bounds) (id : ℕ) (a b : SessionState) (text rest written : List ℕ) (count : ℕ) →
    Answers limits id a text b rest →
    Answers limits id (after_others written count a) text (after_others written count b) rest

-- a text has at most one answer
abbrev pub ATextHasOneAnswer : Type 0
ATextHasOneAnswer = (limits : Bounds) (id : ℕ) (a b c : SessionState) (text rest rest' : List ℕ) →
    Answers limits id a text b rest → Answers limits id a text c rest' → b ≡ c

-- if a text has a cut, its answer is the answer to the cut's values and rest
abbrev pub AnswersAreOfTheCut : Type 0
AnswersAreOfTheCut = (limits : Bounds) (id : ℕ) (a b c : SessionState) (text rest rest' : List ℕ) (xs : List Datum) →
    Cut (server_rules limits) text xs rest' → Ends (server_rules limits) rest' (after_values id a xs) c →
    Answers limits id a text b rest → b ≡ c

-- the bytes received of texts that were sent are a number of whole texts and a viable rest that does not begin with a
-- value
abbrev pub WhatComesIsWholeTexts : Type 0
WhatComesIsWholeTexts = (rules : Rules) (xs : List Datum) (texts : List (List ℕ)) (came more : List ℕ) →
    AreBounds rules.limits → SpellEach rules xs texts → came ++ more ≡ concat texts → HasCome rules xs texts came
