use Rattle.std.proofs.Common.{rules, ◌≡◌, ◌++◌, length, refl, ap, ◌∙◌, arith}
use Rattle.resp_value.specs.Canonical.{canonical_text}
use Rattle.resp_value.specs.Causes.{name_of}
use Rattle.resp_session.specs.Replies.{error}
use Rattle.resp_server.specs.ReplyTexts.{fault_text}
use Rattle.resp_server.proofs.turn.refuse.Goals as goal

pub returns-clause-refused : goal.returns-clause-refused
returns-clause-refused c =
    let before = c.args.session.now in
    let name : c.as_bytes-name.result.now ≡ name_of c.args.fault.cause = search rules in
    record {
      caused = c.in_default.not-OutOfMemory;
      closes = refl;
      line = c.in_ok-fault.ensures.appended ∙
          ap (λ name. before.out.items ++ canonical_text before.version (error (fault_text name c.args.fault.at))) name;
    }

pub returns-clause-short : goal.returns-clause-short
returns-clause-short c =
    let name : c.as_bytes-name.result.now ≡ name_of c.args.fault.cause = search rules in
    omega (arith, ap length name, c.in_ok-fault.ensures.short, (c.requires c.in_default.not-OutOfMemory).short)
