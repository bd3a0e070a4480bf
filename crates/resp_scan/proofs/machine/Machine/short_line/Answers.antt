use Rattle.std.proofs.Common.{◌≡◌, ◌≤◌, ◌-◌, drop, length, min, arith, ap, subst, sym, refl, ◌∙◌}
use Rattle.std.proofs.lemmas.Grind.{common_steps}
use Rattle.resp_scan.specs.Machine.Fields.{place_of}
use Rattle.resp_scan.specs.Machine.Room.{total_room}
use Rattle.resp_scan.specs.Machine.Runs.{plain_run}
use Rattle.resp_scan.specs.Machine.Turns.{EndsAt}
use Rattle.resp_scan.proofs.Soundness.Runs.{plain_run_take}
use Rattle.resp_scan.proofs.Soundness.ShortTexts.{begun_room, bounds_stay}
use Rattle.resp_scan.proofs.machine.Machine.short_line.Goals as goal

pub returns-in-None-clause-line : goal.returns-in-None-clause-line
returns-in-None-clause-line c =
    let p = drop 1 c.args.piece.now in
    let run = c.in_ok-run.run' in
    let s = place_of c.args.self.now in
    let u = place_of c.begin.new.self in
    let is_run : run ≡ plain_run p = c.in_ok-run.ensures.0 ∙ c.line_run.ensures.run ∙ ap plain_run c.beyond-line.ensures in
    let ends : EndsAt p run = subst (λ n. EndsAt p n) (sym c.in_ok-run.ensures.0) (subst (λ z. EndsAt z c.line_run.result) c.beyond-line.ensures c.in_ok-run.ensures.1) in
    let room = begun_room s u _ c.in-None.ensures.cause c.in-None.ensures.begun in
    let limit : c.length-self.result ≡ c.length.result =
    c.length-self.ensures.length ∙ ap (λ b. b.length) (bounds_stay s u c.in-None.ensures.begun) ∙ sym c.length.ensures.length in
    let most = min (min c.length-self.result (total_room u - 3)) (length p) in
    let fits : plain_run p ≤ most = omega (arith, is_run, ends.within, room, limit, c.if-run-length.false) in
    (omega (arith, c.if-run-gt-LINE.false), grind (arith, common_steps, ends.within), refl, ends, is_run ∙ sym (plain_run_take most p fits))
