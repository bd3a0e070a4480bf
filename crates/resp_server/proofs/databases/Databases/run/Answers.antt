use Rattle.std.proofs.Common.{◌∷◌, [], arith, length, sym, ap, subst, ◌≡◌, ◌∙◌}
use Rattle.std.proofs.lemmas.Bool.{eqb-true}
use Rattle.std.proofs.lemmas.Grind.{common_steps}
use Rattle.std.proofs.lemmas.List.{nil_from_length}
use Rattle.resp_frames.proofs.Others.{no_command, no_rest}
use Rattle.resp_frames.specs.Commands.{IsCommand}
use Rattle.resp_value.specs.Words.{command_of}
use Rattle.resp_value.specs.Spellings.{IsSpelling}
use Rattle.resp_session.specs.Answers.{server_rules}
use Rattle.resp_session.specs.Operations.{operation_of}
use Rattle.resp_server.specs.Deeds.{Request, asked_by}
use Rattle.resp_server.specs.Doing.{HasDone}
use Rattle.resp_server.specs.Servers.{ServerState}
use Rattle.resp_server.proofs.Doings.{alone}
use Rattle.resp_server.proofs.databases.Databases.run.Goals as goal

pub returns-in_default-clause-no_command : goal.returns-in_default-clause-no_command
returns-in_default-clause-no_command g c command =
    let text = c.args.command.now in
    no_command c.self.inside.limits text c.in_default.ensures.none
    (subst (λ l. IsCommand l text) (sym (ap (λ (v : ServerState). v.limits) c.self.view_is)) command)

pub returns-then-not-is_empty-clause-no_command : goal.returns-then-not-is_empty-clause-no_command
returns-then-not-is_empty-clause-no_command g c command =
    let text = c.args.command.now in
    let w = c.in-Some.words in
    let none : w.rest.now ≡ [] =
    no_rest c.no_spelling_begins_another.ensures c.self.inside.limits text w.name.now w.arguments w.rest.now c.in-Some.ensures.begins
    (subst (λ l. IsCommand l text) (sym (ap (λ (v : ServerState). v.limits) c.self.view_is)) command) in
    absurd (grind (arith, common_steps))

pub returns-in-Ok-perform-clause-done : goal.returns-in-Ok-perform-clause-done
returns-in-Ok-perform-clause-done g c =
    let w = c.in-Some.words in
    let none = nil_from_length w.rest.now (eqb-true (length w.rest.now) 0 (sym c.is_empty.ensures ∙ c.if-not-is_empty.false)) in
    record {
      name = w.name.now;
      arguments = w.arguments;
      spelled = alone c.self.inside.limits c.args.self.now.limits c.args.command.now w.rest.now (command_of (w.name.now ∷ w.arguments))
          c.in-Some.ensures.begins none (ap (λ (v : ServerState). v.limits) c.self.view_is);
      asked = asked_by c.in-Ok.deed;
      asks = c.in-Ok.ensures.deed;
      done = c.in-Ok-perform.ensures.done;
    }

pub pass-requires : goal.pass-requires
pass-requires g c =
    let w = c.in-Some.words in
    let none = nil_from_length w.rest.now (eqb-true (length w.rest.now) 0 (sym c.is_empty.ensures ∙ c.if-not-is_empty.false)) in
    record {
      written = c.args.command.now;
      spelled = subst (λ words. IsSpelling (server_rules c.args.self.now.limits) (command_of (w.name.now ∷ words)) c.args.command.now)
          (sym c.in-Err.ensures.back) (alone c.self.inside.limits c.args.self.now.limits c.args.command.now w.rest.now
          (command_of (w.name.now ∷ w.arguments)) c.in-Some.ensures.begins none (ap (λ (v : ServerState). v.limits) c.self.view_is));
    }

pub returns-in-Ok-pass-clause-done : goal.returns-in-Ok-pass-clause-done
returns-in-Ok-pass-clause-done g c =
    let w = c.in-Some.words in
    let none = nil_from_length w.rest.now (eqb-true (length w.rest.now) 0 (sym c.is_empty.ensures ∙ c.if-not-is_empty.false)) in
    record {
      name = w.name.now;
      arguments = w.arguments;
      spelled = alone c.self.inside.limits c.args.self.now.limits c.args.command.now w.rest.now (command_of (w.name.now ∷ w.arguments))
          c.in-Some.ensures.begins none (ap (λ (v : ServerState). v.limits) c.self.view_is);
      asked = Request (operation_of w.name.now w.arguments);
      asks = c.in-Err.ensures.request;
      done = subst (λ words. HasDone (Request (operation_of w.name.now words)) c.args.self.now c.pass.new.self c.args.client.now c.pass.new.client)
          c.in-Err.ensures.back c.in-Ok-pass.ensures.done;
    }
