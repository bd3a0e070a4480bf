use Rattle.std.proofs.Common.{◌≡◌, ◌∙◌, List, OnOk, ℕ, refl, subst, sym}
use Rattle.std.proofs.lemmas.Bool.{true≢false}
use Rattle.resp_frames.specs.Commands.{TellsWords}
use Rattle.resp_frames.specs.Texts.{text_of}
use Rattle.resp_frames.specs.declared.words.CommandFrame.{CommandFrame}
use Rattle.resp_proxy.specs.OwnReplies.{unshared_treatment}
use Rattle.resp_proxy.specs.Reasons.{FitsAnswer}
use Rattle.resp_proxy.specs.declared.answer.Answer.{Answer}
use Rattle.resp_proxy.specs.declared.route.Route.{Route}
use Rattle.resp_value.specs.Bounds.{Bounds}
use Rattle.resp_board.specs.Boards.{Ask}
use Rattle.resp_board.specs.Histories.{with_event}
use Rattle.resp_board.specs.Runs.{HasRun, WhereRun}
use Rattle.resp_proxy.proofs.Carryings.{carried-admitted, carried-own, carried-shared, own-shared, own-unshared}
use Rattle.resp_proxy.proofs.Refusals.{http-refused, none-refused, quit-refused}
use Rattle.resp_proxy.specs.Taking.{IsLocalReply}
use Rattle.resp_proxy.specs.Unfinished.{terms_of}
use Rattle.std.specs.Prelude.{IfSome}
use Rattle.resp_proxy.proofs.carrying.answer_or_send.Goals as goal

-- what an answer is under some limits, if they are these
abbrev IsGiven : Route → List ℕ → CommandFrame → Answer → Bounds → Type 0
IsGiven route called command given limits = (words : TellsWords limits (text_of command.frame) command.words) →
    FitsAnswer route called (unshared_treatment route.is_first command.words.class words.name words.arguments) words.name words.arguments given

at_limits : (limits other : Bounds) (route : Route) (called : List ℕ) (command : CommandFrame) (given : Answer) → other ≡ limits →
    IsGiven route called command given other → IsGiven route called command given limits
at_limits limits other route called command given same is = subst (IsGiven route called command given) same is

pub returns-in-Ok-Some-clause-carried : goal.returns-in-Ok-Some-clause-carried
returns-in-Ok-Some-clause-carried c front piece f stays =
    let terms = terms_of c.args.intake.now in
    let text = text_of c.args.command.now.frame in
    let answer = c.deref.result.now in
    let local = subst (λ o. IfSome o (λ a. IsLocalReply c.limits-limits.result terms.pings text a.items)) c.in-Ok-Some.field-0-is c.in-Ok-Some.ensures in
    carried-own c.own.result terms c.args.route answer front piece c.args.command.now c.args.board.now c.own.new.board f
    (own-shared c.no_spelling_begins_another.ensures terms c.args.route answer front piece c.args.command.now f (c.if-is_shared.ensures.0 refl) stays
    (subst (IsLocalReply terms.rules.limits terms.pings text) (sym c.deref.ensures.value)
    (subst (λ l. IsLocalReply l terms.pings text c.in-Ok-Some.answer.items) c.limits-limits.ensures local)))
    c.own.ensures.run

pub returns-in-Ok-None-clause-carried : goal.returns-in-Ok-None-clause-carried
returns-in-Ok-None-clause-carried c front piece f stays =
    carried-shared c.forward.result (terms_of c.args.intake.now) c.args.route front piece c.args.command.now c.args.board.now c.forward.new.board f
    (c.if-is_shared.ensures.0 refl)
    (subst (λ text. OnOk c.forward.result (WhereRun c.args.board.now (λ p. HasRun c.forward.new.board (with_event (Ask c.args.route.client c.args.route.line.place text) p)))) c.text.ensures
    c.forward.ensures.run)

pub returns-then-admits-clause-carried : goal.returns-then-admits-clause-carried
returns-then-admits-clause-carried c front piece f stays =
    let sent = c.forward-then-admits in
    carried-admitted c.no_spelling_begins_another.ensures sent.result (terms_of c.args.intake.now) c.args.route front piece c.args.command.now c.args.board.now
    sent.new.board f (c.if-admits.ensures.admitted refl)
    (subst (λ text. OnOk sent.result (WhereRun c.args.board.now (λ p. HasRun sent.new.board (with_event (Ask c.args.route.client c.args.route.line.place text) p)))) c.text-then-admits.ensures
    sent.ensures.run)

pub returns-in-Ok-Reply-clause-carried : goal.returns-in-Ok-Reply-clause-carried
returns-in-Ok-Reply-clause-carried c front piece f stays =
    let terms = terms_of c.args.intake.now in
    let own = c.own-in-Ok-Reply in
    let given = at_limits (terms_of c.args.intake.now).rules.limits c.limits.result c.args.route c.args.name.now.items c.args.command.now c.in-Ok-Reply.field-0 c.limits.ensures c.in-Ok-Reply.ensures f.words in
    carried-own own.result terms c.args.route c.deref-in-Ok-Reply.result.now front piece c.args.command.now c.args.board.now own.new.board f
    (own-unshared terms c.args.route c.args.name.now.items c.deref-in-Ok-Reply.result.now front piece c.args.command.now c.in-Ok-Reply.field-0 c.in-Ok-Reply.answer f
    (λ e. true≢false (sym (c.is_shared.ensures.1 e) ∙ c.if-is_shared.false))
    (λ none a. true≢false (sym (c.admits.ensures.all none a) ∙ c.if-admits.false))
    stays c.in-Ok-Reply.field-0-is c.deref-in-Ok-Reply.ensures.value given)
    own.ensures.run

pub returns-in-Ok-Quit-clause-refused : goal.returns-in-Ok-Quit-clause-refused
returns-in-Ok-Quit-clause-refused c words stays =
    quit-refused (terms_of c.args.intake.now).rules.limits c.args.route c.args.name.now.items (text_of c.args.command.now.frame) words.name words.arguments
    c.args.command.now.words.class c.in-Ok-Quit.field-0 words.spelled c.in-Ok-Quit.field-0-is (at_limits (terms_of c.args.intake.now).rules.limits c.limits.result c.args.route c.args.name.now.items c.args.command.now c.in-Ok-Quit.field-0 c.limits.ensures
    c.in-Ok-Quit.ensures words)

pub returns-in-Ok-Http-clause-refused : goal.returns-in-Ok-Http-clause-refused
returns-in-Ok-Http-clause-refused c words stays =
    http-refused (terms_of c.args.intake.now).rules.limits c.args.route c.args.name.now.items (text_of c.args.command.now.frame) words.name words.arguments
    c.args.command.now.words.class c.in-Ok-Http.field-0 words.spelled c.in-Ok-Http.field-0-is (at_limits (terms_of c.args.intake.now).rules.limits c.limits.result c.args.route c.args.name.now.items c.args.command.now c.in-Ok-Http.field-0 c.limits.ensures
    c.in-Ok-Http.ensures words)

pub returns-in-Ok-NoneLeft-clause-refused : goal.returns-in-Ok-NoneLeft-clause-refused
returns-in-Ok-NoneLeft-clause-refused c words stays =
    none-refused (terms_of c.args.intake.now) c.args.route c.args.name.now.items (text_of c.args.command.now.frame) words.name words.arguments
    c.args.command.now.words.class c.in-Ok-NoneLeft.field-0 c.in-Ok-NoneLeft.name words.spelled words.has.class stays c.in-Ok-NoneLeft.field-0-is
    (at_limits (terms_of c.args.intake.now).rules.limits c.limits.result c.args.route c.args.name.now.items c.args.command.now c.in-Ok-NoneLeft.field-0 c.limits.ensures
    c.in-Ok-NoneLeft.ensures words)

pub returns-in-Ok-Some-clause-refused : goal.returns-in-Ok-Some-clause-refused
returns-in-Ok-Some-clause-refused c words stays = c.own.ensures.refused (terms_of c.args.intake.now) (text_of c.args.command.now.frame)

pub returns-in-Ok-None-clause-refused : goal.returns-in-Ok-None-clause-refused
returns-in-Ok-None-clause-refused c words stays = c.forward.ensures.refused (terms_of c.args.intake.now) (text_of c.args.command.now.frame)

pub returns-then-admits-clause-refused : goal.returns-then-admits-clause-refused
returns-then-admits-clause-refused c words stays = c.forward-then-admits.ensures.refused (terms_of c.args.intake.now) (text_of c.args.command.now.frame)

pub returns-in-Ok-Reply-clause-refused : goal.returns-in-Ok-Reply-clause-refused
returns-in-Ok-Reply-clause-refused c words stays = c.own-in-Ok-Reply.ensures.refused (terms_of c.args.intake.now) (text_of c.args.command.now.frame)
