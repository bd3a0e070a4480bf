use Rattle.std.proofs.Common.{rules, ◌≡◌, ◌++◌, refl}
use Rattle.resp_scan.specs.Kinds.{content_events}
use Rattle.resp_cli_stream.proofs.Drafting.{draft_hears, draft_part}
use Rattle.resp_cli_stream.proofs.draft.DraftListener.part.Goals as goal

pub returns : goal.returns
returns c =
    let old = c.args.self.now in
    let part = c.args.part.now in
    let new = record old { content = c.extend_from_slice.new.self } in
    draft_hears old new (content_events part) c.is_ok.result (λ b may is goes.
    let more : new.content.items ≡ old.content.items ++ part = search rules in
    (refl, draft_part old new b part may is refl refl refl refl more))
