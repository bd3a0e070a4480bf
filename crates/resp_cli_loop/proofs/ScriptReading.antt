-- Reading a script, line by line.
use Rattle.std.proofs.Common.{◌≡◌, ℕ, ◌+◌, ◌-◌, ◌≤◌, List, [], ◌∷◌, ◌++◌, length, map, true, false, Option, None, Some, refl, sym, ap, subst, ◌∙◌, inl, arith, append_assoc}
use Rattle.std.specs.Prelude.{All, ◌⊎◌, sum_by}
use Rattle.std.proofs.lemmas.List.{append-nil, length_push, map_push}
use Rattle.std.proofs.lemmas.List.Elements.{All-head, All-nil, All-push, All-tail}
use Rattle.std.proofs.lemmas.List.Sums.{sum_by-append}
use Rattle.resp_wire.specs.declared.event.Event.{Event}
use Rattle.resp_cli_loop.specs.ScriptSteps.{SaysClients, SaysStep, clients_words, joined_words, step_words}
use Rattle.resp_cli_loop.specs.Reasons.{IsReason, parts_of_line}
use Rattle.resp_cli_loop.specs.Scripts.{AreWithin, IsFirstBad, IsWithin, NameNoClients, PassesLimit, Says, SayScript, SaySoFar, SaysNothing, bytes_to_end, is_passed_over, lines_of, step_line}
use Rattle.resp_cli_loop.specs.declared.script.reasons.BadLine.{BadLine}
use Rattle.resp_cli_loop.specs.declared.script.reasons.BadLine.TheVariants as reasons
use Rattle.resp_cli_loop.specs.declared.script.steps.Saying.TheVariants.{Nothing, Clients, Step}
use Rattle.resp_cli_loop.proofs.ScriptLines.{none_said_names_none, said_nothing_more, said_one_more}

-- this many lines were read, which say this
pub record HaveRead (text rest : List ℕ) (done : List (List ℕ)) (line : ℕ) (clients : Option ℕ) (steps : List (ℕ × Option Event)) : Type 0 where
  pub lines : lines_of text ≡ done ++ lines_of rest
  pub counted : length done ≡ line
  pub said : SaySoFar clients done steps
  pub within : AreWithin text done
  pub left : length rest ≡ length text - sum_by (λ line. length line + 1) done

-- no line was read
pub read_nothing : (text : List ℕ) → HaveRead text text [] 0 None []
read_nothing text = record {
  lines = refl;
  counted = refl;
  said = (refl, refl);
  within = record { few = omega arith; short = All-nil (λ line. length line ≤ 4096); small = omega arith };
  left = omega arith;
}

sum_more : (done : List (List ℕ)) (line : List ℕ) →
    sum_by (λ line. length line + 1) (done ++ line ∷ []) ≡ sum_by (λ line. length line + 1) done + (length line + 1)
sum_more done line = sum_by-append (λ line. length line + 1) done (line ∷ []) ∙ ap (λ n. sum_by (λ line. length line + 1) done + n) (omega arith)

-- how many bytes stand up to the end of a line more
bytes_more : (text rest beyond line : List ℕ) (done : List (List ℕ)) → length rest ≡ length text - sum_by (λ line. length line + 1) done →
    length beyond ≡ length rest - (length line + 1) → bytes_to_end text (done ++ line ∷ []) ≡ length text - length beyond
bytes_more text rest beyond line done left left' =
    let more = sum_more done line in
    omega (arith, left, left', more)

within_more : (text rest beyond line : List ℕ) (done : List (List ℕ)) (number : ℕ) → AreWithin text done → length done + 1 ≡ number →
    length rest ≡ length text - sum_by (λ line. length line + 1) done → length beyond ≡ length rest - (length line + 1) → number ≤ 10000 →
    length line ≤ 4096 → length text - length beyond ≤ 1048576 → AreWithin text (done ++ line ∷ [])
within_more text rest beyond line done number within counted left left' few short small = record {
  few = omega (arith, length_push done line, counted);
  short = All-push (λ line. length line ≤ 4096) done line within.short short;
  small =
      let same = bytes_more text rest beyond line done left left' in
      omega (arith, same);
}

-- what holds of each holds of the last
all_at_last : (P : List ℕ → Type 0) (done : List (List ℕ)) (line : List ℕ) → All P (done ++ line ∷ []) → P line
all_at_last P [] line all = All-head P line [] all
all_at_last P (first ∷ done) line all = all_at_last P done line (All-tail P first (done ++ line ∷ []) all)

-- a line more was read, which says this together with those before it
read_more : (text rest beyond line : List ℕ) (done : List (List ℕ)) (number : ℕ) (clients clients' : Option ℕ) (steps steps' : List (ℕ × Option Event)) →
    HaveRead text rest done number clients steps → lines_of rest ≡ line ∷ lines_of beyond → length beyond ≡ length rest - (length line + 1) →
    number + 1 ≤ 10000 → length line ≤ 4096 → length text - length beyond ≤ 1048576 → SaySoFar clients' (done ++ line ∷ []) steps' →
    HaveRead text beyond (done ++ line ∷ []) (number + 1) clients' steps'
read_more text rest beyond line done number clients clients' steps steps' read parts left' few short small said = record {
  lines = read.lines ∙ ap (λ z. done ++ z) parts ∙ sym (append_assoc done (line ∷ []) (lines_of beyond));
  counted = length_push done line ∙ ap (λ n. n + 1) read.counted;
  said = said;
  within = within_more text rest beyond line done (number + 1) read.within (ap (λ n. n + 1) read.counted) read.left left' few short small;
  left =
      let more = sum_more done line in
      let before = read.left in
      omega (arith, left', more, before);
}

say_nothing_more : (clients : Option ℕ) (done : List (List ℕ)) (line : List ℕ) (steps : List (ℕ × Option Event)) → is_passed_over line ≡ true →
    SaySoFar clients done steps → SaySoFar clients (done ++ line ∷ []) steps
say_nothing_more None done line steps passed said = (said_nothing_more done line passed ∙ said.0, said.1)
say_nothing_more (Some clients) done line steps passed said = record {
  number = said.number;
  in_turn = said_nothing_more done line passed ∙ said.in_turn;
  clients_named = said.clients_named;
  steps_said = said.steps_said;
}

say_clients : (clients : ℕ) (done : List (List ℕ)) (line : List ℕ) (number : ℕ) (steps : List (ℕ × Option Event)) → is_passed_over line ≡ false →
    length done + 1 ≡ number → SaysClients line clients → SaySoFar None done steps → SayScript clients (done ++ line ∷ []) steps
say_clients clients done line number steps passed counted says said =
    let text : line ≡ joined_words (clients_words clients) = says.words.text in
    record {
      number = number;
      in_turn =
          said_one_more done line number passed counted ∙ ap (λ z. z ++ (number, line) ∷ []) said.0
          ∙ ap (λ z. (number, z) ∷ []) text ∙ ap (λ z. (number, joined_words (clients_words clients)) ∷ map step_line z) (sym said.1);
      clients_named = subst (λ z. SaysClients z clients) text says;
      steps_said =
          subst (All (λ (step : ℕ × Option Event). SaysStep clients (joined_words (step_words step.1)) step.1)) (sym said.1)
          (All-nil (λ (step : ℕ × Option Event). SaysStep clients (joined_words (step_words step.1)) step.1));
    }

say_step : (clients : ℕ) (done : List (List ℕ)) (line : List ℕ) (number : ℕ) (steps : List (ℕ × Option Event)) (step : Option Event) →
    is_passed_over line ≡ false → length done + 1 ≡ number → SaysStep clients line step → SayScript clients done steps →
    SayScript clients (done ++ line ∷ []) (steps ++ (number, step) ∷ [])
say_step clients done line number steps step passed counted says said =
    let text : line ≡ joined_words (step_words step) = says.words.text in
    record {
      number = said.number;
      in_turn =
          said_one_more done line number passed counted ∙ ap (λ z. z ++ (number, line) ∷ []) said.in_turn
          ∙ ap (λ z. (said.number, joined_words (clients_words clients)) ∷ (map step_line steps ++ (number, z) ∷ [])) text
          ∙ ap (λ z. (said.number, joined_words (clients_words clients)) ∷ z) (sym (map_push step_line steps (number, step)));
      clients_named = said.clients_named;
      steps_said =
          All-push (λ (step : ℕ × Option Event). SaysStep clients (joined_words (step_words step.1)) step.1) steps (number, step) said.steps_said
          (subst (λ z. SaysStep clients z step) text says);
    }

-- the answers for one line

pub reads_nothing : (text rest beyond line : List ℕ) (done : List (List ℕ)) (number : ℕ) (clients : Option ℕ) (steps : List (ℕ × Option Event)) →
    HaveRead text rest done number clients steps → lines_of rest ≡ line ∷ lines_of beyond → length beyond ≡ length rest - (length line + 1) →
    number + 1 ≤ 10000 → length line ≤ 4096 → length text - length beyond ≤ 1048576 → Says clients line Nothing →
    HaveRead text beyond (done ++ line ∷ []) (number + 1) clients steps
reads_nothing text rest beyond line done number clients steps read parts left' few short small says =
    read_more text rest beyond line done number clients clients steps steps read parts left' few short small
    (say_nothing_more clients done line steps says read.said)

pub reads_clients : (text rest beyond line : List ℕ) (done : List (List ℕ)) (number : ℕ) (clients : Option ℕ) (count : ℕ) (steps : List (ℕ × Option Event)) →
    HaveRead text rest done number clients steps → lines_of rest ≡ line ∷ lines_of beyond → length beyond ≡ length rest - (length line + 1) →
    number + 1 ≤ 10000 → length line ≤ 4096 → length text - length beyond ≤ 1048576 → Says clients line (Clients count) →
    HaveRead text beyond (done ++ line ∷ []) (number + 1) (Some count) steps
reads_clients text rest beyond line done number None count steps read parts left' few short small says =
    read_more text rest beyond line done number None (Some count) steps steps read parts left' few short small
    (say_clients count done line (number + 1) steps says.0 (ap (λ n. n + 1) read.counted) says.1 read.said)
reads_clients text rest beyond line done number (Some named) count steps read parts left' few short small says = absurd says

pub reads_step : (text rest beyond line : List ℕ) (done : List (List ℕ)) (number : ℕ) (clients : Option ℕ) (step : Option Event)
    (steps : List (ℕ × Option Event)) →
    HaveRead text rest done number clients steps → lines_of rest ≡ line ∷ lines_of beyond → length beyond ≡ length rest - (length line + 1) →
    number + 1 ≤ 10000 → length line ≤ 4096 → length text - length beyond ≤ 1048576 → Says clients line (Step step) →
    HaveRead text beyond (done ++ line ∷ []) (number + 1) clients (steps ++ (number + 1, step) ∷ [])
reads_step text rest beyond line done number None step steps read parts left' few short small says = absurd says
reads_step text rest beyond line done number (Some clients) step steps read parts left' few short small says =
    read_more text rest beyond line done number (Some clients) (Some clients) steps (steps ++ (number + 1, step) ∷ []) read parts left' few short small
    (say_step clients done line (number + 1) steps step says.0 (ap (λ n. n + 1) read.counted) says.1 read.said)

-- the line is the first bad one
pub is_first_bad : (text rest beyond line : List ℕ) (done : List (List ℕ)) (number : ℕ) (clients : Option ℕ) (steps : List (ℕ × Option Event)) →
    HaveRead text rest done number clients steps → lines_of rest ≡ line ∷ lines_of beyond →
    (reason : BadLine) → (AreWithin text (done ++ line ∷ []) → ⊥) ⊎ SaysNothing clients line →
    PassesLimit (number + 1) (length line) (bytes_to_end text (done ++ line ∷ [])) reason ⊎
    IsWithin (number + 1) (length line) (bytes_to_end text (done ++ line ∷ [])) × IsReason clients (parts_of_line line) reason →
    IsFirstBad text (number + 1) reason
is_first_bad text rest beyond line done number clients steps read parts reason bad why = record {
  before = done;
  bad = line;
  beyond = lines_of beyond;
  whole = read.lines ∙ ap (λ z. done ++ z) parts;
  counted = ap (λ n. n + 1) read.counted;
  named = clients;
  steps = steps;
  said = read.said;
  within = read.within;
  is_bad = bad;
  why = why;
}

-- where a limit is passed, the lines aren't within the limits
not_within : (text line : List ℕ) (done : List (List ℕ)) (reason : BadLine) →
    PassesLimit (length done + 1) (length line) (bytes_to_end text (done ++ line ∷ [])) reason → AreWithin text (done ++ line ∷ []) → ⊥
not_within text line done reasons.ManyLines passed within = omega (arith, passed, within.few, length_push done line)
not_within text line done reasons.LongLine passed within =
    omega (arith, passed.1, all_at_last (λ line. length line ≤ 4096) done line within.short)
not_within text line done reasons.LongScript passed within = omega (arith, passed.2, within.small)
not_within text line done _ passed within = absurd passed

-- where no limit is passed, the line is within all
pub is_within : (text rest beyond line : List ℕ) (done : List (List ℕ)) (number : ℕ) (clients : Option ℕ) (steps : List (ℕ × Option Event)) →
    HaveRead text rest done number clients steps → length beyond ≡ length rest - (length line + 1) →
    IsWithin (number + 1) (length line) (length text - length beyond) →
    IsWithin (number + 1) (length line) (bytes_to_end text (done ++ line ∷ []))
is_within text rest beyond line done number clients steps read left' within =
    subst (IsWithin (number + 1) (length line)) (sym (bytes_more text rest beyond line done read.left left')) within

-- the line that passes a limit is the first bad one
pub passes_a_limit : (text rest beyond line : List ℕ) (done : List (List ℕ)) (number : ℕ) (clients : Option ℕ) (steps : List (ℕ × Option Event)) →
    HaveRead text rest done number clients steps → lines_of rest ≡ line ∷ lines_of beyond → length beyond ≡ length rest - (length line + 1) →
    (reason : BadLine) → PassesLimit (number + 1) (length line) (length text - length beyond) reason → IsFirstBad text (number + 1) reason
passes_a_limit text rest beyond line done number clients steps read parts left' reason passed =
    let same = bytes_more text rest beyond line done read.left left' in
    let passed' = subst (λ n. PassesLimit (number + 1) (length line) n reason) (sym same) passed in
    is_first_bad text rest beyond line done number clients steps read parts reason
    (inl (not_within text line done reason
    (subst (λ n. PassesLimit (n + 1) (length line) (bytes_to_end text (done ++ line ∷ [])) reason) (sym read.counted) passed')))
    (inl passed')

-- all lines were read
all_read : (text : List ℕ) (done : List (List ℕ)) (number : ℕ) (clients : Option ℕ) (steps : List (ℕ × Option Event)) (rest : List ℕ) → rest ≡ [] →
    HaveRead text rest done number clients steps → done ≡ lines_of text
all_read text done number clients steps rest over read =
    sym (append-nil done) ∙ ap (λ z. done ++ lines_of z) (sym over) ∙ sym read.lines

pub reads_no_clients : (text : List ℕ) (done : List (List ℕ)) (number : ℕ) (steps : List (ℕ × Option Event)) (rest : List ℕ) → rest ≡ [] →
    HaveRead text rest done number None steps → NameNoClients (lines_of text)
reads_no_clients text done number steps rest over read =
    let all = all_read text done number None steps rest over read in
    subst NameNoClients all (none_said_names_none 1 done read.said.0)
