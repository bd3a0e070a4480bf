use Rattle.std.proofs.Common.{◌≡◌, ◌+◌, [], ◌∷◌, ◌++◌, None, cond, refl, sym, ap, subst, ◌∙◌, inl, inr}
use Rattle.resp_cli_loop.specs.Scripts.{IsFirstBad, Says}
use Rattle.resp_cli_loop.proofs.ScriptReading.{HaveRead, is_first_bad, is_within, passes_a_limit, read_nothing, reads_clients, reads_no_clients, reads_nothing, reads_step}
use Rattle.resp_cli_loop.proofs.script.read_script.Goals as goal

pub loop-content-init : goal.loop-content-init
loop-content-init c =
    let bytes = c.args.bytes.now in
    ([], subst (λ z. HaveRead bytes bytes [] 0 None z) (sym c.new-steps.ensures.items) (read_nothing bytes))

pub returns-in-Some-passed_limit-clause-refused : goal.returns-in-Some-passed_limit-clause-refused
returns-in-Some-passed_limit-clause-refused c =
    let (done, read) = c.loop-content.invariant in
    inr (
      c.if-not-names_clients.ensures,
      passes_a_limit c.args.bytes.now c.loop-content.rest.now c.in-Some.beyond.now c.in-Some.content.now done c.loop-content.line c.loop-content.clients
          c.loop-content.steps.items read c.in-Some.ensures.line c.in-Some.ensures.left c.in-Some-passed_limit.reason c.in-Some-passed_limit.ensures.passed,
    )

pub returns-in-Err-Bad-clause-refused : goal.returns-in-Err-Bad-clause-refused
returns-in-Err-Bad-clause-refused c =
    let (done, read) = c.loop-content.invariant in
    inr (
      c.if-not-names_clients.ensures,
      subst (IsFirstBad c.args.bytes.now (c.loop-content.line + 1)) (sym c.in-Err-Bad.reason-is)
          (is_first_bad c.args.bytes.now c.loop-content.rest.now c.in-Some.beyond.now c.in-Some.content.now done c.loop-content.line
          c.loop-content.clients c.loop-content.steps.items read c.in-Some.ensures.line c.in-Err-Bad.reason
          (inr (rw c.in-Err-Bad.field-0-is at c.in-Err-Bad.ensures.bad)) (inr (
            is_within c.args.bytes.now c.loop-content.rest.now c.in-Some.beyond.now c.in-Some.content.now done c.loop-content.line
                c.loop-content.clients c.loop-content.steps.items read c.in-Some.ensures.left c.in_default-passed_limit.ensures.within,
            rw c.in-Err-Bad.field-0-is at c.in-Err-Bad.ensures.reason,
          ))),
    )

pub loop-content-preserved-in-Ok-Nothing : goal.loop-content-preserved-in-Ok-Nothing
loop-content-preserved-in-Ok-Nothing c =
    let (done, read) = c.loop-content.invariant in (
      done ++ c.in-Some.content.now ∷ [],
      reads_nothing c.args.bytes.now c.loop-content.rest.now c.in-Some.beyond.now c.in-Some.content.now done c.loop-content.line c.loop-content.clients
          c.loop-content.steps.items read c.in-Some.ensures.line c.in-Some.ensures.left c.in_default-passed_limit.ensures.within.0
          c.in_default-passed_limit.ensures.within.1 c.in_default-passed_limit.ensures.within.2
          (subst (Says c.loop-content.clients c.in-Some.content.now) c.in-Ok-Nothing.field-0-is c.in-Ok-Nothing.ensures.said),
    )

pub loop-content-preserved-in-Ok-Clients : goal.loop-content-preserved-in-Ok-Clients
loop-content-preserved-in-Ok-Clients c =
    let (done, read) = c.loop-content.invariant in (
      done ++ c.in-Some.content.now ∷ [],
      reads_clients c.args.bytes.now c.loop-content.rest.now c.in-Some.beyond.now c.in-Some.content.now done c.loop-content.line c.loop-content.clients
          c.in-Ok-Clients.count c.loop-content.steps.items read c.in-Some.ensures.line c.in-Some.ensures.left c.in_default-passed_limit.ensures.within.0
          c.in_default-passed_limit.ensures.within.1 c.in_default-passed_limit.ensures.within.2
          (subst (Says c.loop-content.clients c.in-Some.content.now) c.in-Ok-Clients.field-0-is c.in-Ok-Clients.ensures.said),
    )

pub loop-content-preserved : goal.loop-content-preserved
loop-content-preserved c =
    let (done, read) = c.loop-content.invariant in
    let before = c.loop-content.steps.items in
    let more = before ++ (c.loop-content.line + 1, c.in-Ok-Step.step) ∷ [] in
    let pushed : c.push.new.self.items ≡ more = c.push.ensures.items ∙ ap (λ t. cond t more before) c.if-is_err.ensures.negation in (
      done ++ c.in-Some.content.now ∷ [],
      subst
          (HaveRead c.args.bytes.now c.in-Some.beyond.now (done ++ c.in-Some.content.now ∷ []) (c.loop-content.line + 1) c.loop-content.clients)
          (sym pushed)
          (reads_step c.args.bytes.now c.loop-content.rest.now c.in-Some.beyond.now c.in-Some.content.now done c.loop-content.line c.loop-content.clients
          c.in-Ok-Step.step before read c.in-Some.ensures.line c.in-Some.ensures.left c.in_default-passed_limit.ensures.within.0
          c.in_default-passed_limit.ensures.within.1 c.in_default-passed_limit.ensures.within.2
          (subst (Says c.loop-content.clients c.in-Some.content.now) c.in-Ok-Step.field-0-is c.in-Ok-Step.ensures.said)),
    )

pub returns-in-None-clause-refused : goal.returns-in-None-clause-refused
returns-in-None-clause-refused c =
    let (done, read) = c.loop-content.invariant in
    inl (
      reads_no_clients c.args.bytes.now done c.loop-content.line c.loop-content.steps.items c.loop-content.rest.now c.in_default.ensures.end
          (subst (λ z. HaveRead c.args.bytes.now c.loop-content.rest.now done c.loop-content.line z c.loop-content.steps.items) c.in-None.is read),
      refl,
      refl,
    )
