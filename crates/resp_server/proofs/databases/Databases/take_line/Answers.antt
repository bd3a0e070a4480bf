use Rattle.std.proofs.Common.{◌∙◌, ◌++◌, [], None, ap, inl, inr, refl, subst, sym, take}
use Rattle.resp_frames.specs.Framing.{HasBegun}
use Rattle.resp_frames.specs.declared.unfinished.Unfinished.{Unfinished}
use Rattle.resp_line.specs.Inline.{HasText, IsArrayOf, ReadsLine, RejectsLine}
use Rattle.resp_value.specs.Rules.{rules_under}
use Rattle.resp_value.specs.declared.version.Version.TheVariants.{Two}
use Rattle.resp_server.specs.Rejections.{OnRejection, Rejects}
use Rattle.resp_server.specs.Servers.{ServerState}
use Rattle.resp_server.proofs.Runs.{array_kept, line_command, line_done, line_rejected}
use Rattle.resp_server.proofs.databases.Databases.take_line.Goals as goal

pub returns-in-Err-clause-rejected : goal.returns-in-Err-clause-rejected
returns-in-Err-clause-rejected g c on =
    let limits = c.args.self.now.limits in
    let text = c.args.client.now.unfinished.line.items ++ c.args.piece.now in
    subst (OnRejection (Rejects limits text)) (sym c.rejection_of_line.ensures)
    (line_rejected limits text c.in-Err.error
    (subst (λ l. RejectsLine l text c.in-Err.error) (ap (λ (v : ServerState). v.limits) c.self.view_is) (c.in-Err.ensures.rejected on)))

pub returns-in-Ok-clause-taken : goal.returns-in-Ok-clause-taken
returns-in-Ok-clause-taken g c no_array on =
    let server = c.args.self.now in
    let limits = server.limits in
    let front = c.args.client.now.unfinished.line.items in
    let piece = c.args.piece.now in
    let array = c.as_slice.result.now in
    let client = c.args.client.now in
    let between = record client { unfinished = record client.unfinished { line = c.next_inline.new.line }; small = c.client-1.given.0 } in
    let read = subst (λ l. ReadsLine l front piece between.unfinished.line.items c.in-Ok-Some.field-0) (ap (λ (v : ServerState). v.limits) c.self.view_is)
    (c.in-Ok-Some.ensures.read on) in
    let (none, line) = subst (ReadsLine limits front piece between.unfinished.line.items) c.in-Ok-Some.field-0-is read in
    let is = subst (IsArrayOf limits line.content) (sym c.as_slice.ensures) (subst (HasText limits line.content) c.in-Some.is line.has) in (
      inl (record {
        begun = subst (λ (u : Unfinished). HasBegun (rules_under Two limits) u.begun []) (sym c.in-Ok.ensures.same_begun) no_array;
        no_line = ap (λ (u : Unfinished). u.line.items) c.in-Ok.ensures.same_begun ∙ none;
      }),
      line_done c.no_spelling_begins_another.ensures (front ++ take c.in-Ok-Some.command.used piece) line.content array server c.run.new.self between
          c.run.new.client line.line is c.in-Ok.ensures.done,
    )

pub returns-clause-rejected : goal.returns-clause-rejected
returns-clause-rejected g c on =
    let limits = c.args.self.now.limits in
    let front = c.args.client.now.unfinished.line.items in
    let piece = c.args.piece.now in
    let array = c.as_slice.result.now in
    let read = subst (λ l. ReadsLine l front piece c.next_inline.new.line.items c.in-Ok-Some.field-0) (ap (λ (v : ServerState). v.limits) c.self.view_is)
    (c.in-Ok-Some.ensures.read on) in
    let (none, line) = subst (ReadsLine limits front piece c.next_inline.new.line.items) c.in-Ok-Some.field-0-is read in
    let is = subst (IsArrayOf limits line.content) (sym c.as_slice.ensures) (subst (HasText limits line.content) c.in-Some.is line.has) in
    array_kept limits limits array (Rejects limits (front ++ piece)) c.in-Err-run.error refl (line_command limits line.content array is)
    c.in-Err-run.ensures.no_command

pub returns-in_default-clause-taken : goal.returns-in_default-clause-taken
returns-in_default-clause-taken g c no_array on =
    let limits = c.args.self.now.limits in
    let front = c.args.client.now.unfinished.line.items in
    let piece = c.args.piece.now in
    let left = c.next_inline.new.line.items in
    let read = subst (λ l. ReadsLine l front piece left c.in-Ok-Some.field-0) (ap (λ (v : ServerState). v.limits) c.self.view_is) (c.in-Ok-Some.ensures.read on) in
    let (none, line) = subst (ReadsLine limits front piece left) c.in-Ok-Some.field-0-is read in (
      inl (record { begun = no_array; no_line = none }),
      record {
        asked = None;
        request = inr (record { content = line.content; line = line.line; are = subst (HasText limits line.content) c.in_default.is line.has });
        done = refl;
      },
    )
