-- The turn of a command that lies whole in the piece.
use Rattle.std.proofs.Common.{◌≡◌, ℕ, ◌+◌, ◌-◌, ◌≤◌, false, List, [], ◌∷◌, ◌++◌, length, take, refl, sym, ap, subst, ◌∙◌, arith, length-append, take_at}
use Rattle.resp_value.specs.Bounds.{Bounds, AreBounds}
use Rattle.resp_value.specs.Laws.{NoSpellingIsEmpty, TheEmptyTextIsViable}
use Rattle.resp_value.specs.Spellings.{IsSpelling}
use Rattle.resp_value.specs.Words.{command_of}
use Rattle.resp_scan.specs.Whole.{BeginsWith}
use Rattle.resp_session.specs.AnswerLaws.{ACommandIsItsWords}
use Rattle.resp_session.specs.Answers.{server_rules}
use Rattle.resp_session.specs.Operations.{operation_of}
use Rattle.resp_session.specs.Stores.{Store, effect_of}
use Rattle.resp_server.specs.Answering.{AnswersBytes}
use Rattle.resp_server.specs.Reading.{HasReadFront}
use Rattle.resp_server.specs.Running.{HasEffect}
use Rattle.resp_server.specs.declared.session.Session.{Session}
use Rattle.resp_server.proofs.Turns.{none_taken, spelled_turn}
use Rattle.resp_server.proofs.ValueAnswers.{command_answer}

-- the bytes that are used are the spelling
used_is : {piece written : List ℕ} (rest : List ℕ) → piece ≡ written ++ rest → (take (length piece - length rest) piece ≡ written) ×
    (length piece - length rest ≤ length piece)
used_is {piece} {written} rest whole =
    let size : length piece ≡ length written + length rest = ap length whole ∙ length-append written rest in
    let used : length piece - length rest ≡ length written = omega (arith, size) in (
      ap (λ n. take n piece) used ∙ ap (take (length written)) whole ∙ take_at written rest (length written) refl,
      omega arith,
    )

pub whole_turn : NoSpellingIsEmpty → TheEmptyTextIsViable → ACommandIsItsWords → {limits : Bounds} → AreBounds limits → {store store' : Store}
    {before after : Session} {piece rest : List ℕ} (name : List ℕ) (arguments : List (List ℕ)) → HasReadFront before.decoder [] → before.closing ≡ false →
    BeginsWith limits piece (command_of (name ∷ arguments)) rest → HasEffect store' after.version before.out.items after.out.items
    (effect_of store before.version before.id (operation_of name arguments)) → after.decoder ≡ before.decoder → after.closing ≡ before.closing → AnswersBytes limits store store' before after [] piece (length piece - length rest) 1
whole_turn full empty words_law {limits} bounds {before} {rest} name arguments between is_open begins effect same_decoder same_closing =
    let x = command_of (name ∷ arguments) in
    let (bytes, within) = used_is rest begins.whole in
    spelled_turn full empty bounds (none_taken full (server_rules limits) before.decoder [] between)
    (subst (IsSpelling (server_rules limits) x) (sym bytes) begins.spelled) within
    (subst (λ d. HasReadFront d []) (sym same_decoder) between)
    (command_answer name arguments (sym ((words_law x name arguments).1 refl)) is_open effect same_closing)
