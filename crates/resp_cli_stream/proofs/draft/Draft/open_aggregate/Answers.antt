use Rattle.std.proofs.Common.{rules, ◌≡◌, [], ◌∷◌, ◌++◌, length, reverse, refl, ap, ◌∙◌}
use Rattle.std.proofs.lemmas.List.{reverse-append}
use Rattle.resp_value.specs.Kinds.{kind_of}
use Rattle.resp_cli_stream.specs.Drafts.{AppendsKnownHead}
use Rattle.resp_cli_stream.specs.declared.draft.OpenAggregate.{OpenAggregate}
use Rattle.resp_cli_stream.proofs.Drafting.{draft_opened}
use Rattle.resp_cli_stream.proofs.draft.Draft.open_aggregate.Goals as goal

pub returns : goal.returns
returns c = λ b may is goes.
    let old = c.args.self.now in
    let new = record old { text = c.append_known_head.new.text; aggregates = c.push_reserved.new.self } in
    let appended : AppendsKnownHead (kind_of c.args.kind) c.args.count old.text.items new.text.items = c.in_ok-append_known_head.ensures in
    let before : c.len-head_at.result ≡ length old.text.items = c.len-head_at.ensures.value in
    let after : c.len-members_at.result ≡ length new.text.items = c.len-members_at.ensures.value in
    let pushed : OpenAggregate = record {
      kind = c.args.kind;
      count = c.args.count;
      head_at = c.len-head_at.result;
      members_at = c.len-members_at.result;
      members = 0;
    } in
    let grown : new.aggregates.items ≡ old.aggregates.items ++ pushed ∷ [] = search rules in (
      refl,
      draft_opened old new b c.args.kind c.args.count c.len-head_at.result c.len-members_at.result may.0 is refl refl refl appended before after
          (ap reverse grown ∙ reverse-append old.aggregates.items (pushed ∷ [])),
    )
