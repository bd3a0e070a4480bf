use Rattle.std.proofs.Common.{◌∷◌, subst, sym}
use Rattle.resp_frames.specs.Texts.{text_of}
use Rattle.resp_proxy.proofs.Intakes.{not-unknown, one-command}
use Rattle.resp_proxy.specs.Terms.{IsAmong}
use Rattle.resp_scan.specs.Whole.{BeginsWith}
use Rattle.resp_value.specs.Words.{command_of, texts_of}
use Rattle.resp_proxy.proofs.intake.Intake.admits.Goals as goal

pub returns-in_default-clause-all : goal.returns-in_default-clause-all
returns-in_default-clause-all c none a =
    absurd (c.in_default.ensures.none a.name a.arguments a.rest
    (subst (λ t. BeginsWith c.limits.result t (command_of (a.name ∷ a.arguments)) a.rest) (sym c.text.ensures)
    (subst (λ l. BeginsWith l (text_of c.args.command.now.frame) (command_of (a.name ∷ a.arguments)) a.rest) (sym c.limits.ensures) a.begins)))

pub returns-in-Some-entry-clause-all : goal.returns-in-Some-entry-clause-all
returns-in-Some-entry-clause-all c none a =
    let read = c.in-Some.words in
    let limits = c.args.self.now.frames.limits in
    let text = text_of c.args.command.now.frame in
    let begins = subst (λ l. BeginsWith l text (command_of (read.name.now ∷ read.arguments)) read.rest.now) c.limits.ensures
    (subst (λ t. BeginsWith c.limits.result t (command_of (read.name.now ∷ read.arguments)) read.rest.now) c.text.ensures c.in-Some.ensures.begins) in
    absurd (not-unknown _ read.name.now a.name
    (one-command c.no_spelling_begins_another.ensures limits text read.name.now a.name read.arguments a.arguments read.rest.now a.rest begins a.begins)
    c.in-Some-entry.ensures.found c.in-Some-entry.ensures.named a.admitted.unknown)

pub returns-in-None-clause-all : goal.returns-in-None-clause-all
returns-in-None-clause-all c none a =
    let read = c.in-Some.words in
    let limits = c.args.self.now.frames.limits in
    let text = text_of c.args.command.now.frame in
    let begins = subst (λ l. BeginsWith l text (command_of (read.name.now ∷ read.arguments)) read.rest.now) c.limits.ensures
    (subst (λ t. BeginsWith c.limits.result t (command_of (read.name.now ∷ read.arguments)) read.rest.now) c.text.ensures c.in-Some.ensures.begins) in
    let same = one-command c.no_spelling_begins_another.ensures limits text read.name.now a.name read.arguments a.arguments read.rest.now a.rest begins a.begins in
    c.is_among.ensures.all (subst (λ ns. IsAmong (texts_of ns) read.name.now) (sym c.deref.ensures.value)
    (subst (IsAmong (texts_of c.args.self.now.admitted.items)) (sym same) a.admitted.among))
