use Rattle.std.proofs.Common.{◌∙◌, []}
use Rattle.resp_scan.specs.Reading.{Events}
use Rattle.resp_value.specs.Rules.{rules_under}
use Rattle.resp_cli_stream.proofs.ValidLemmas.{stop_is_not_viable, viable_if_used}
use Rattle.resp_cli_stream.proofs.valid.begins_value.Goals as goal

pub returns-in-Ok : goal.returns-in-Ok
returns-in-Ok c =
    let r = rules_under c.args.version c.args.limits.now in
    let reads = c.new-scanner.ensures.nothing_read in
    let same = c.in-Ok.ensures.same_rules ∙ c.new-scanner.ensures.rules in
    viable_if_used r (λ (es : Events). Unit {0}) c.scan.new.self c.args.text.now c.in-Ok.scanned.used c.in-Ok.scanned.is_whole
    (rw c.new-scanner.ensures.rules at c.in-Ok.ensures.value_whole tt [] [] reads tt) (c.in-Ok.ensures.used_up tt [] [] reads tt) c.in-Ok.ensures.whole_piece c.in-Ok.ensures.within_piece same

pub returns-in-Err : goal.returns-in-Err
returns-in-Err c =
    let r = rules_under c.args.version c.args.limits.now in
    let reads = c.new-scanner.ensures.nothing_read in (
      λ e. absurd (cc),
      λ v. absurd (stop_is_not_viable r (λ (es : Events). Unit {0}) [] c.args.text.now c.in-Err.field-0
          (rw c.new-scanner.ensures.rules at c.in-Err.ensures.refusal tt [] [] reads tt)
          (rw c.new-scanner.ensures.rules at c.in-Err.ensures.stopped tt [] [] reads tt) v),
    )
