use Rattle.std.proofs.Common.{◌≡◌, ◌∙◌, ◌++◌, ◌<◌, [], None, Err, inl, ap, arith, subst, sym, take}
use Rattle.std.specs.Prelude.{IfNone}
use Rattle.resp_frames.specs.Commands.{IsCommand}
use Rattle.resp_frames.specs.Framing.{HasBegun, OnFault, RejectsByte, frame_rules}
use Rattle.resp_frames.specs.Requests.{EndsNoRequest}
use Rattle.resp_frames.specs.declared.unfinished.Unfinished.{Unfinished}
use Rattle.resp_frames.specs.declared.words.Request.TheVariants.{Command, Empty}
use Rattle.resp_scan.specs.Reading.{HasNoValue}
use Rattle.resp_value.specs.Rules.{Rules, rules_under}
use Rattle.resp_value.specs.declared.version.Version.TheVariants.{Two}
use Rattle.resp_server.specs.Rejections.{OnRejection, Rejects}
use Rattle.resp_server.specs.Doing.{HasRun, standing_of, waiting_of}
use Rattle.resp_server.specs.Servers.{ServerState}
use Rattle.resp_server.specs.Taking.{TakesPart, progress_of}
use Rattle.resp_server.proofs.Runs.{array_done, array_kept, frame_rejected, progress_at, request_found, still_sound}
use Rattle.resp_server.proofs.databases.Databases.take_array.Goals as goal

pub returns-in-Err-clause-rejected : goal.returns-in-Err-clause-rejected
returns-in-Err-clause-rejected g c front h =
    let i = c.self.inside in
    let piece = c.args.piece.now in
    let limits = c.args.self.now.limits in
    let rules : frame_rules i.frames ≡ rules_under Two limits =
    c.self.invariant.same_rules ∙ ap (λ (v : ServerState). rules_under Two v.limits) c.self.view_is in
    let begun = subst (λ r. HasBegun r c.args.client.now.unfinished.begun front) (sym rules) h.begun in
    subst (OnRejection (Rejects limits (front ++ piece))) (sym c.rejection_of.ensures)
    (frame_rejected limits front piece c.in-Err.error
    (subst (λ r. OnFault c.in-Err.error (RejectsByte r front piece)) rules (c.in-Err.ensures.refused c.self.invariant.ready front begun))
    (λ is. subst (λ (r : Rules). EndsNoRequest r r.limits front piece) rules
    (c.in-Err.ensures.no_request c.self.invariant.ready front begun (ap Err is))))

pub invariant_of-self-in-Some-Empty : goal.invariant_of-self-in-Some-Empty
invariant_of-self-in-Some-Empty g c = still_sound c.self.invariant c.next_request.ensures.ready c.next_request.ensures.same_rules

pub returns-in-Some-Empty-clause-taken : goal.returns-in-Some-Empty-clause-taken
returns-in-Some-Empty-clause-taken g c front h =
    let client = c.args.client.now in
    let whole = request_found c.self.inside.frames client.unfinished.begun c.next_request.new.begun front c.args.piece.now c.in-Ok.found
    (Empty c.in-Some-Empty.used) c.self.invariant.ready c.self.invariant.same_rules c.self.view_is h.begun (grind arith) c.in-Ok.ensures.whole in (
      inl (record { begun = whole.1; no_line = h.no_line }),
      record {
        asked = None;
        request = inl whole.0.empty;
        done = ap (λ (v : ServerState). progress_at v.stores (standing_of client) (waiting_of client)) c.self.view_is;
      },
    )

pub returns-in-Some-Empty-clause-onward : goal.returns-in-Some-Empty-clause-onward
returns-in-Some-Empty-clause-onward g c front h =
    (request_found c.self.inside.frames c.args.client.now.unfinished.begun c.next_request.new.begun front c.args.piece.now c.in-Ok.found
    (Empty c.in-Some-Empty.used) c.self.invariant.ready c.self.invariant.same_rules c.self.view_is h.begun (grind arith) c.in-Ok.ensures.whole).0.some

pub invariant_of-self-in-None : goal.invariant_of-self-in-None
invariant_of-self-in-None g c = still_sound c.self.invariant c.next_request.ensures.ready c.next_request.ensures.same_rules

pub returns-in-None-clause-taken : goal.returns-in-None-clause-taken
returns-in-None-clause-taken g c front h =
    let i = c.self.inside in
    let piece = c.args.piece.now in
    let client = c.args.client.now in
    let after = c.next_request.new.begun in
    let rules : frame_rules i.frames ≡ rules_under Two c.args.self.now.limits =
    c.self.invariant.same_rules ∙ ap (λ (v : ServerState). rules_under Two v.limits) c.self.view_is in
    let begun = subst (λ r. HasBegun r client.unfinished.begun front) (sym rules) h.begun in
    let is : c.in-Ok.found ≡ None = grind arith in
    let more = subst (λ o. IfNone o (HasNoValue (front ++ piece) × HasBegun (frame_rules i.frames) after (front ++ piece))) is
    (c.in-Ok.ensures.more c.self.invariant.ready front begun) in (
      inl (record { begun = subst (λ r. HasBegun r after (front ++ piece)) rules more.1; no_line = h.no_line }),
      ap (λ (v : ServerState). progress_at v.stores (standing_of client) (waiting_of client)) c.self.view_is,
    )

pub invariant_of-self-2 : goal.invariant_of-self-2
invariant_of-self-2 g c = still_sound c.self.invariant c.next_request.ensures.ready c.next_request.ensures.same_rules

pub returns-in-Ok-run-clause-taken : goal.returns-in-Ok-run-clause-taken
returns-in-Ok-run-clause-taken g c front h =
    let server = c.args.self.now in
    let piece = c.args.piece.now in
    let limits = server.limits in
    let client = c.args.client.now in
    let found = c.in-Some-Command.command in
    let between = record client { unfinished = record client.unfinished { begun = c.next_request.new.begun }; small = c.client-1.given.0 } in
    let after = c.run.new.client in
    let whole = request_found c.self.inside.frames client.unfinished.begun c.next_request.new.begun front piece c.in-Ok.found (Command found)
    c.self.invariant.ready c.self.invariant.same_rules c.self.view_is h.begun (grind arith) c.in-Ok.ensures.whole in
    let ran = subst (λ text. HasRun text server c.run.new.self between after) c.text.ensures
    (subst (λ v. HasRun c.text.result.now v c.run.new.self between after) c.self.view_is c.in-Ok-run.ensures.done) in (
      inl (record {
        begun = subst (λ (u : Unfinished). HasBegun (rules_under Two limits) u.begun []) (sym c.in-Ok-run.ensures.same_begun) whole.1;
        no_line = ap (λ (u : Unfinished). u.line.items) c.in-Ok-run.ensures.same_begun ∙ h.no_line;
      }),
      subst (λ n. TakesPart limits (front ++ take n piece) (progress_of server client) (progress_of c.run.new.self after)) (sym c.used.ensures)
          (array_done front piece found server c.run.new.self between after whole.0 ran),
    )

pub returns-in-Ok-run-clause-onward : goal.returns-in-Ok-run-clause-onward
returns-in-Ok-run-clause-onward g c front h =
    subst (λ n. 0 < n) (sym c.used.ensures)
    (request_found c.self.inside.frames c.args.client.now.unfinished.begun c.next_request.new.begun front c.args.piece.now c.in-Ok.found
    (Command c.in-Some-Command.command) c.self.invariant.ready c.self.invariant.same_rules c.self.view_is h.begun (grind arith)
    c.in-Ok.ensures.whole).0.frame.some

pub returns-clause-rejected : goal.returns-clause-rejected
returns-clause-rejected g c front h =
    let limits = c.args.self.now.limits in
    let whole = request_found c.self.inside.frames c.args.client.now.unfinished.begun c.next_request.new.begun front c.args.piece.now c.in-Ok.found
    (Command c.in-Some-Command.command) c.self.invariant.ready c.self.invariant.same_rules c.self.view_is h.begun (grind arith) c.in-Ok.ensures.whole in
    array_kept limits c.self.inside.limits c.text.result.now (Rejects limits (front ++ c.args.piece.now)) c.in-Err-run.error
    (sym (ap (λ (v : ServerState). v.limits) c.self.view_is))
    (subst (IsCommand limits) (sym c.text.ensures) whole.0.frame.command) c.in-Err-run.ensures.no_command
