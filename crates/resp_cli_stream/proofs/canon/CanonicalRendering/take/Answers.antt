use Rattle.std.proofs.Common.{rules, ◌≡◌, inl, inr, ℕ, true, false, List, ◌++◌, take, Option, Err, sym, ap, subst, ◌∙◌}
use Rattle.resp_value.specs.Canonical.{canonical_text, Fits}
use Rattle.resp_value.specs.Rules.{rules_under}
use Rattle.resp_scan.specs.Kinds.{rules_of}
use Rattle.resp_scan.specs.Listening.{HearsRefusal, HearsValue, OnFault}
use Rattle.resp_scan.specs.declared.event.ScanError.TheVariants as stop
use Rattle.resp_cli_stream.specs.Counts.{LeavesNothing}
use Rattle.resp_cli_stream.specs.Drafts.{HasBegunDraft, HasDrafted}
use Rattle.resp_cli_stream.specs.Takings.{Takes}
use Rattle.resp_cli_stream.specs.declared.rendering.RenderStop.{RenderStop}
use Rattle.resp_cli_stream.specs.declared.rendering.RenderStop.TheVariants.{OverLimits}
use Rattle.resp_cli_stream.proofs.Drafted.{declines, drafts_front, drafts_value, part_of_draft}
use Rattle.resp_cli_stream.proofs.Outcomes.{is_that_error}
use Rattle.resp_cli_stream.proofs.Scanned.{byte_fault, no_part, nothing_left}
use Rattle.resp_cli_stream.proofs.canon.CanonicalRendering.take.Goals as goal

pub returns-in-Err-Fault-clause-takes : goal.returns-in-Err-Fault-clause-takes
returns-in-Err-Fault-clause-takes g c = λ front so_far w.
    let self = c.args.self.now in
    let r = rules_under self.version self.limits.now in
    let piece = c.args.piece.now in
    let heard = HasDrafted self.version c.scan.new.listener in
    let is : c.in-Err-Fault.field-0 ≡ stop.Fault c.in-Err-Fault.fault = search rules in
    let refusal = subst (λ z. OnFault z (HearsRefusal (rules_of self.scanner) heard front piece)) is
    (c.in-Err-Fault.ensures.refusal self.version front w.given w.scanned.reads w.drafted) in
    let h = subst (λ z. HearsRefusal z heard front piece c.in-Err-Fault.fault) w.same_rules refusal in
    nothing_left w.nothing (byte_fault r front piece c.in-Err-Fault.fault h.heard h.refused) h.refused.no_value

pub returns-in-Err-Stopped-clause-takes : goal.returns-in-Err-Stopped-clause-takes
returns-in-Err-Stopped-clause-takes g c = λ front so_far w. no_part w.nothing

pub returns-else-scanned-clause-takes : goal.returns-else-scanned-clause-takes
returns-else-scanned-clause-takes g c = λ front so_far w.
    let self = c.args.self.now in
    let is : c.in-Ok.scanned.is_whole ≡ false = search rules in
    let heard = c.in-Ok.ensures.used_up self.version front w.given w.scanned.reads w.drafted is in rw is (
      c.in-Ok.ensures.whole_piece is,
      drafts_front (rules_under self.version self.limits.now) c.scan.new.self c.scan.new.listener front c.args.piece.now so_far
          (g.W.Sink.written c.args.writer.now) w.nothing heard (c.in-Ok.ensures.same_rules ∙ w.same_rules),
    )

pub returns-in_ok-write_draft-clause-takes : goal.returns-in_ok-write_draft-clause-takes
returns-in_ok-write_draft-clause-takes g c = λ front so_far w.
    let self = c.args.self.now in
    let r = rules_under self.version self.limits.now in
    let piece = c.args.piece.now in
    let used = c.in-Ok.scanned.used in
    let is : c.in-Ok.scanned.is_whole ≡ true = search rules in
    let heard = subst (λ z. HearsValue z c.scan.new.self (HasDrafted self.version c.scan.new.listener) (front ++ take used piece)) w.same_rules
    (c.in-Ok.ensures.value_whole self.version front w.given w.scanned.reads w.drafted is) in
    rw is (drafts_value c.what_was_read_can_be_written.ensures.fits_but_for_total r c.scan.new.self c.scan.new.listener c.write_draft.new.draft front piece so_far
    (g.W.Sink.written c.args.writer.now) (g.W.Sink.written c.write_draft.new.writer) used w.scanned.no_value w.nothing heard
    (c.in-Ok.ensures.same_rules ∙ w.same_rules) c.in_ok-write_draft.ensures.same_version c.in_ok-write_draft.ensures.next
    c.in_ok-write_draft.ensures.within_total c.in_ok-write_draft.ensures.whole.0)

pub returns-in_err-write_draft-clause-takes : goal.returns-in_err-write_draft-clause-takes
returns-in_err-write_draft-clause-takes g c = λ front so_far w.
    let self = c.args.self.now in
    let r = rules_under self.version self.limits.now in
    let piece = c.args.piece.now in
    let before = g.W.Sink.written c.args.writer.now in
    let after = g.W.Sink.written c.write_draft.new.writer in
    let used = c.in-Ok.scanned.used in
    let draft = c.scan.new.listener in
    let is : c.in-Ok.scanned.is_whole ≡ true = search rules in
    let heard = subst (λ z. HearsValue z c.scan.new.self (HasDrafted self.version draft) (front ++ take used piece)) w.same_rules
    (c.in-Ok.ensures.value_whole self.version front w.given w.scanned.reads w.drafted is) in
    let Comes = λ (b : Option (List ℕ)) (z : RenderStop).
    Takes r (canonical_text r.version) (Fits r) LeavesNothing LeavesNothing (HasBegunDraft r c.scan.new.self c.write_draft.new.draft) front piece so_far before b
    (Err z) in
    rw (is_that_error c.from_residual.result _ c.from_residual.ensures.1) (elim c.in_err-write_draft.ensures.stops [
      | inl over ↦
          let (same, long) = c.in_err-write_draft.ensures.over_total (ap Err over) in
          subst (Comes after) (sym over) (subst (λ b. Comes b OverLimits) (ap g.W.Sink.written (sym same))
          (declines r c.scan.new.self draft front piece so_far used before w.nothing heard long))
      | inr broke ↦
          subst (Comes after) (sym broke)
          (part_of_draft r c.scan.new.self draft front piece so_far used before after w.nothing heard (c.in_err-write_draft.ensures.part (ap Err broke)).0)
    ])
