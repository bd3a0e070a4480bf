-- The answers to one client's commands, in the order of the commands.
use Rattle.std.specs.Prelude.{◌≡◌, ℕ, ◌+◌, ◌-◌, ◌≤◌, List, ◌++◌, length, map, replicate, Option, None, Some, slice_get}
use Rattle.std.specs.List.{concat}
use Rattle.resp_board.specs.declared.desk.Desk.{Desk}
use Rattle.resp_board.specs.Answers.{BeginsMissing, answers_of}

-- the bytes that wait to be given to the client
abbrev pub out_of : Desk → List ℕ
out_of d = d.out

-- the answers after those that were added to these bytes
abbrev pub later : Desk → List (Option (List ℕ))
later d = answers_of d.early.items ++ replicate (d.asked - (d.done + length d.early.items)) None

-- The client's commands have these answers, and it was given these bytes: with those that wait they are the answers up to
-- the first missing one.
pub record HasAnswers (d : Desk) (answers : List (Option (List ℕ))) (given : List ℕ) : Type 0 where
  pub told : List (List ℕ)
  pub whole : answers ≡ map Some told ++ later d
  pub count : d.done ≡ length told
  pub out : given ++ out_of d ≡ concat told
  pub missing : BeginsMissing (later d)

-- this holds of the answers to the client's commands, whatever they are, and of the bytes that it was given
abbrev pub WhereAnswered : Desk → (List (Option (List ℕ)) → List ℕ → Type 0) → Type 0
WhereAnswered d P = (answers : List (Option (List ℕ))) (given : List ℕ) → HasAnswers d answers given → P answers given

-- the answers and the bytes that were given stay
abbrev pub KeepsAnswers : Desk → Desk → Type 0
KeepsAnswers old new = WhereAnswered old (λ answers given. HasAnswers new answers given)

-- the parts of a desk stay
pub record IsSame (old new : Desk) : Type 0 where
  pub asked : new.asked ≡ old.asked
  pub done : new.done ≡ old.done
  pub early : new.early.items ≡ old.early.items
  pub out : out_of new ≡ out_of old

-- the command of this number has no answer
pub record Awaits (d : Desk) (number : ℕ) : Type 0 where
  pub after : d.done ≤ number
  pub missing : slice_get (later d) (number - d.done) ≡ Some None

-- the number of commands from the first one without a reply on
abbrev pub waiting_count : Desk → ℕ
waiting_count d = d.asked - d.done

-- the client has had 2^64 - 1 commands
abbrev pub HasNoNumberLeft : Desk → Type 0
HasNoNumberLeft d = d.asked ≡ 18446744073709551615
