use Rattle.std.proofs.Common.{rules, ◌≡◌, ◌++◌, [], ◌∷◌, None, Some, refl, ap}
use Rattle.resp_value.specs.Canonical.{canonical_text}
use Rattle.resp_fronts.specs.Events as e
use Rattle.resp_scan.specs.Kinds.{text_kind_of}
use Rattle.resp_decode.specs.Builds.{text_value}
use Rattle.resp_cli_stream.specs.declared.draft.Draft.{Draft}
use Rattle.resp_cli_stream.proofs.Drafting.{draft_ended, draft_hears}
use Rattle.resp_cli_stream.proofs.draft.DraftListener.text_end.Goals as goal

pub returns : goal.returns
returns c = draft_hears c.args.self.now c.end_value.new.self (e.TextEnd ∷ []) c.end_value.result (λ b may is goes.
    let old = c.args.self.now in
    let new = c.end_value.new.self in
    let same = c.end_value.ensures.same in
    let had : old.kind ≡ Some c.in-Some.kind = search rules in
    let done = c.end_value.ensures.written goes in
    let written = c.append_text-written.ensures old.version in
    let added : new.text.items ≡ old.text.items ++ canonical_text old.version (text_value (text_kind_of c.in-Some.kind) old.content.items) = search rules in
    let no_kind : new.kind ≡ None = search rules in
    let empty : new.content.items ≡ [] = search rules in
    let version = ap (λ z. let h : Draft = z in h.version) same in (
      version,
      draft_ended old new b c.in-Some.kind b.text refl may.0.1 is had version no_kind empty added
          (c.end_value.ensures.counted goes),
    ))
