use Rattle.std.proofs.Common.{◌≡◌, ◌+◌, ◌<◌, arith, refl, sym, ap, subst, ◌∙◌}
use Rattle.resp_scan.specs.declared.machine.EventTag.TheVariants as tag
use Rattle.resp_scan.specs.Machine.Fields.{out_by, place_of}
use Rattle.resp_scan.specs.Machine.Scan.{out_from}
use Rattle.resp_scan.proofs.CallClauses.Calls.{is_text}
use Rattle.resp_scan.proofs.CallClauses.Loops.{Runs, less_work, piece_scanned, refusal_scanned, runs_on, stop_scanned, value_scanned, work_left}
use Rattle.resp_scan.proofs.CallClauses.Passing.{is_ended, is_used_up}
use Rattle.resp_scan.proofs.CallClauses.WholeTexts.{text_after}
use Rattle.resp_scan.proofs.machine.Machine.scan.Goals as goal

-- the turn that ends the value, after the event
pub returns-then-begins_anew : goal.returns-then-begins_anew
returns-then-begins_anew g c =
    let used = c.loop-self.used + c.turn-turned.result.used in
    let went_on = runs_on c.loop-self.invariant (rw c.beyond.ensures at c.turn-turned.ensures.is_turn) c.in-On.is in
    value_scanned (omega arith) went_on
    (is_ended c.begins_anew.new.self (text_after used c.args.piece.now
    (is_text c.args.piece.now (λ i. (c.type_inv.piece i).fits))) went_on.sound
    (subst (λ p. out_by tag.Done 0 c.begins_anew.new.self ≡ out_from (place_of c.turn-turned.new.self) p) c.beyond-in-On.ensures
    (c.begins_anew.ensures.ended c.if-begins_anew.true))) refl

-- the turn that uses up the piece, where it has ended inside a content
pub returns-then-is_cut : goal.returns-then-is_cut
returns-then-is_cut g c =
    let used = c.loop-self.used + c.turn-turned.result.used in
    let went_on = runs_on c.loop-self.invariant (rw c.beyond.ensures at c.turn-turned.ensures.is_turn) c.in-On.is in
    let same = c.begins_anew.ensures.unchanged c.if-begins_anew.false in
    piece_scanned (omega arith) went_on
    (is_used_up c.begins_anew.new.self (text_after used c.args.piece.now
    (is_text c.args.piece.now (λ i. (c.type_inv.piece i).fits))) went_on.sound
    (subst (λ p. out_by tag.More 0 c.begins_anew.new.self ≡ out_from (place_of c.turn-turned.new.self) p) c.beyond-in-On-2.ensures
    (c.is_cut.ensures.cut c.if-is_cut.true ∙ ap (λ m. out_from (place_of m) c.beyond-in-On-2.result.now) same))) refl

pub loop-self-smaller : goal.loop-self-smaller
loop-self-smaller g c =
    subst (λ m. work_left (place_of m) c.args.piece.now (c.loop-self.used + c.turn-turned.result.used) <
    work_left (place_of c.loop-self.self) c.args.piece.now c.loop-self.used) (sym (c.begins_anew.ensures.unchanged c.if-begins_anew.false))
    (less_work c.args.piece.now c.loop-self.used c.loop-self.invariant.within
    (rw c.beyond.ensures at c.turn-turned.ensures.is_turn) c.in-On.is)

pub loop-self-preserved : goal.loop-self-preserved
loop-self-preserved g c =
    subst (λ m. Runs g.L.Listener.Origin (place_of c.args.self.now) (place_of m) (g.L.Listener.has_heard c.args.listener.now)
    (g.L.Listener.has_heard c.turn-turned.new.listener) c.args.piece.now (c.loop-self.used + c.turn-turned.result.used))
    (sym (c.begins_anew.ensures.unchanged c.if-begins_anew.false))
    (runs_on c.loop-self.invariant (rw c.beyond.ensures at c.turn-turned.ensures.is_turn) c.in-On.is)

pub returns-in-More : goal.returns-in-More
returns-in-More g c = piece_scanned refl c.loop-self.invariant (rw c.beyond.ensures at c.turn-turned.ensures.is_turn)
    c.in-More.is

pub returns-in-Done : goal.returns-in-Done
returns-in-Done g c = value_scanned refl c.loop-self.invariant (rw c.beyond.ensures at c.turn-turned.ensures.is_turn)
    c.in-Done.is

pub returns-in-Failed : goal.returns-in-Failed
returns-in-Failed g c =
    refusal_scanned c.loop-self.invariant (rw c.beyond.ensures at c.turn-turned.ensures.is_turn) c.in-Failed.is
    (c.turn-turned.ensures.failed c.in-Failed.is)

pub returns-in-Stopped : goal.returns-in-Stopped
returns-in-Stopped g c =
    rw c.stop.ensures (stop_scanned c.loop-self.invariant (rw c.beyond.ensures at c.turn-turned.ensures.is_turn)
    c.in-Stopped.is)
