use Rattle.std.proofs.Common.{rules, ◌≡◌, ◌++◌, ap}
use Rattle.resp_value.specs.Canonical.{canonical_text}
use Rattle.resp_scan.specs.Kinds.{text_kind_of}
use Rattle.resp_scan.specs.Listening.{whole_text_events}
use Rattle.resp_decode.specs.Builds.{text_value}
use Rattle.resp_cli_stream.specs.declared.draft.Draft.{Draft}
use Rattle.resp_cli_stream.proofs.Drafting.{draft_hears, draft_whole_text}
use Rattle.resp_cli_stream.proofs.draft.DraftListener.whole_text.Goals as goal

pub returns : goal.returns
returns c = draft_hears c.args.self.now c.end_value.new.self (whole_text_events c.args.kind c.args.bytes.now) c.end_value.result (λ b may is goes.
    let old = c.args.self.now in
    let new = c.end_value.new.self in
    let same = c.end_value.ensures.same in
    let done = c.end_value.ensures.written goes in
    let written = c.append_text-written.ensures old.version in
    let added : new.text.items ≡ old.text.items ++ canonical_text old.version (text_value (text_kind_of c.args.kind) c.args.bytes.now) = search rules in
    let version = ap (λ z. let h : Draft = z in h.version) same in (
      version,
      draft_whole_text old new b c.args.kind c.args.bytes.now may is version
          (ap (λ z. let h : Draft = z in h.kind) same) (ap (λ z. let h : Draft = z in h.content) same) added (c.end_value.ensures.counted goes),
    ))
