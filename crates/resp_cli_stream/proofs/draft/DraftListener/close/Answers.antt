use Rattle.std.proofs.Common.{rules, ◌≡◌, [], ◌∷◌, ◌++◌, reverse, ap, subst, ◌∙◌}
use Rattle.std.proofs.lemmas.List.{reverse-append}
use Rattle.resp_fronts.specs.Events as e
use Rattle.resp_cli_stream.specs.Drafts.{StandOpen, CountsOne, WithHead}
use Rattle.resp_cli_stream.specs.declared.draft.Draft.{Draft}
use Rattle.resp_cli_stream.proofs.Drafting.{draft_closed, draft_hears, open_at, still}
use Rattle.resp_cli_stream.proofs.draft.DraftListener.close.Goals as goal

pub returns : goal.returns
returns c = draft_hears c.args.self.now c.end_value.new.self (e.Close ∷ []) c.end_value.result (λ b may is goes.
    let old = c.args.self.now in
    let o = c.in-Some.aggregate in
    let left = c.pop.new.self in
    let put = c.put_head-written.new.self in
    let new = c.end_value.new.self in
    let had = c.put_head-written.ensures.same in
    let same = c.end_value.ensures.same in
    let split : old.aggregates.items ≡ left.items ++ o ∷ [] = search rules in
    let opened = subst (λ zs. StandOpen old.version zs b.groups [] old.text.items) (ap reverse split ∙ reverse-append left.items (o ∷ []))
    (open_at old b may.0.0.1 is) in
    let done = c.end_value.ensures.written goes in
    let with_head : WithHead o old.text.items put.text.items = search rules in
    let counts : CountsOne (reverse left.items) (reverse new.aggregates.items) =
    subst (λ zs. CountsOne (reverse zs.items) (reverse new.aggregates.items)) (ap (λ z. let h : Draft = z in h.aggregates) had)
    (c.end_value.ensures.counted goes) in
    let version = ap (λ z. let h : Draft = z in h.version) same ∙ ap (λ z. let h : Draft = z in h.version) had in
    let kind = ap (λ z. let h : Draft = z in h.kind) same ∙ ap (λ z. let h : Draft = z in h.kind) had in
    let content = ap (λ z. let h : Draft = z in h.content.items) same ∙ ap (λ z. let h : Draft = z in h.content.items) had in (
      version,
      draft_closed old.version o (reverse left.items) b.groups old.text.items put.text.items new b may.0.0.0 may.0.0.1 opened with_head version
          (still old.kind new.kind old.content.items new.content.items b.text kind content may.0.0.0 is.read)
          (ap (λ z. let h : Draft = z in h.text.items) same) counts,
    ))
