-- Which command lines run a task over standard input.
use Rattle.std.proofs.Common.{◌≤◌, zero, suc, arith, inl, inr, ◌⊎◌, ◌∙◌, ◌≡◌, ℕ, ap, Bool, true, false, List, [], refl, sym, Option, Some, None, Err, codes}
use Rattle.clap.specs.Words.{App, Row, Text, subcommand_of}
use Rattle.resp_cli_args.specs.CommandWords.{AnswersStatus, AreWrong, AskFor, Enters, flag_text}
use Rattle.resp_cli_args.specs.Faults.{IsWordStatus}
use Rattle.resp_cli_args.proofs.AskingLemmas.{one_sort, sort_of}
use Rattle.resp_cli_stream.specs.Runs.{AskForRun, DoesWords}
use Rattle.std.specs.Str.{bytes_eq}
use Rattle.std.specs.Prelude.{not, unwrap_or}
use Rattle.resp_cli_args.specs.declared.asked.Invocation.{Invocation}
use Rattle.resp_cli_args.specs.declared.asked.Invocation.TheVariants.{Stream}
use Rattle.resp_cli_args.specs.declared.options.Options.{Options}

two_or_three : (n : ℕ) → 2 ≤ n → n ≤ 3 → (n ≡ 2) ⊎ (n ≡ 3)
two_or_three zero low high = absurd (omega arith)
two_or_three (suc zero) low high = absurd (omega arith)
two_or_three (suc (suc zero)) low high = inl refl
two_or_three (suc (suc (suc zero))) low high = inr refl
two_or_three (suc (suc (suc (suc n)))) low high = absurd (omega arith)

wrong_for_run : (program : App) (words : List Text) → AreWrong AskFor program words → AreWrong AskForRun program words
wrong_for_run program words (inl refused) = inl refused
wrong_for_run program words (inr other) = inr (other.0, λ options asks. other.1 (Stream options) asks.0)

-- what comes of words that ask for nothing to be run
pub does_nothing : (program : App) (words : List Text) (Stays Helps : Type 0) (Runs : Options → Type 0) (status : ℕ) → Stays →
    (status ≡ 0 → Helps) → AnswersStatus AskFor program words (Err status) → IsWordStatus status → DoesWords program words Stays Helps Runs status
does_nothing program words Stays Helps Runs status stays helps answers (inl none) = inl (stays, helps none, none, answers.0 none)
does_nothing program words Stays Helps Runs status stays helps answers (inr range) = elim (two_or_three status range.0 range.1) [
  | inl two ↦ inr (inl (stays, two, wrong_for_run program words (answers.1 two)))
  | inr three ↦ inr (inr (inl (stays, three)))
]

flag_of_text : (a b : Bool) → flag_text a ≡ flag_text b → a ≡ b
flag_of_text true true e = refl
flag_of_text false false e = refl
flag_of_text true false e = ap (λ (t : Text). bytes_eq t (codes "true")) e
flag_of_text false true e = ap (λ (t : Text). bytes_eq t (codes "false")) (sym e)

text_in : Option Text → Text
text_in o = unwrap_or o []

same_options : (entered : Option (Text × List Row)) (a b : Options) → Enters entered (Stream a) → Enters entered (Stream b) →
    (a.file.now ≡ b.file.now) × (a.explains ≡ b.explains)
unfolding text_in
same_options None a b enters enters' = absurd enters
same_options (Some entered) a b enters enters' = (
  ap text_in (sym enters.1.file ∙ enters'.1.file),
  flag_of_text _ _ (ap text_in (sym enters.1.explains ∙ enters'.1.explains)),
)

-- words ask for one file, and either for explanations or for none
asked_once : (program : App) (words : List Text) (a b : Options) → AskFor program words (Stream a) → AskFor program words (Stream b) →
    (a.file.now ≡ b.file.now) × (a.explains ≡ b.explains)
asked_once program words a b asks asks' = same_options (subcommand_of program words) a b asks.1 asks'.1

none_of_sort : (asked : Invocation) → ((options : Options) → asked ≡ Stream options → ⊥) → sort_of asked ≡ 0 → ⊥
none_of_sort (Stream options) other sort = other options refl
none_of_sort asked other sort = omega arith

-- words that ask for no stream ask for nothing to be run
pub runs_no_stream : (program : App) (words : List Text) (asked : Invocation) → AskFor program words asked →
    ((options : Options) → asked ≡ Stream options → ⊥) → AreWrong AskForRun program words
runs_no_stream program words asked asks other = inr (
  asks.0,
  λ options runs. none_of_sort asked other (one_sort (subcommand_of program words) asked (Stream options) asks.1 runs.0.1),
)

-- and neither do words that name a file, or ask for an explanation
module _ (program : App) (words : List Text) (options : Options) (asks : AskFor program words (Stream options)) where
  pub runs_no_file : not (bytes_eq options.file.now (codes "-")) ≡ true → AreWrong AskForRun program words
  runs_no_file named = inr (
    asks.0,
    λ other runs.
        let is : options.file.now ≡ codes "-" = (asked_once program words options other asks runs.0).0 ∙ runs.1 in
        let bad : true ≡ false = sym named ∙ ap (λ (t : Text). not (bytes_eq t (codes "-"))) is in
        cc,
  )

  pub runs_no_explanation : options.explains ≡ true → AreWrong AskForRun program words
  runs_no_explanation explains = inr (
    asks.0,
    λ other runs.
        let bad : true ≡ false = sym explains ∙ (asked_once program words options other asks runs.0).1 ∙ runs.2 in
        cc,
  )
