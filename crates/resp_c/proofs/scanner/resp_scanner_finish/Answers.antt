use Rattle.std.proofs.Common.{◌≡◌, sym, ◌∙◌, subst}
use Rattle.std.proofs.lemmas.Option.{same_Some}
use Rattle.std.proofs.lemmas.Result.{IfErr-at_err}
use Rattle.resp_scan.specs.Reading.{IsFaulted}
use Rattle.resp_value.specs.Causes.{number_of}
use Rattle.resp_c.proofs.scanner.resp_scanner_finish.Goals as goal

-- the scanner that lies there answers the fault that stands
pub returns-in-Err-clause-fault_is_final : goal.returns-in-Err-clause-fault_is_final
returns-in-Err-clause-fault_is_final c place held fault faulted =
    let same = same_Some place c.scanner.result.now (sym held ∙ c.scanner.ensures.value) in
    let answered = c.in-Err.ensures.fault_is_final fault (subst (λ p. IsFaulted p fault) same faulted) in
    IfErr-at_err (λ f. c.number.result ≡ number_of f.cause) answered c.number.ensures
