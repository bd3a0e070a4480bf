use Rattle.std.proofs.Common.{◌≢◌, ◌-◌, length, sym, ◌∙◌, ap, arith, zero-add}
use Rattle.std.proofs.lemmas.Bool.{eqb-false}
use Rattle.resp_scan.specs.Machine.Scan.{Part}
use Rattle.resp_scan.specs.Machine.Heads.{content_at}
use Rattle.resp_scan.specs.Machine.Fields.{place_of}
use Rattle.resp_scan.proofs.Soundness.Runs.{content_part}
use Rattle.resp_scan.proofs.machine.Machine.content.Goals as goal

pub returns : goal.returns
returns c =
    let s = place_of c.args.self.now in
    let n = c.args.self.now.count in
    let k = c.min-run.result in
    let ne : length c.args.piece.now ≢ 0 = eqb-false (length c.args.piece.now) 0 (sym c.is_empty.ensures ∙ c.if-is_empty.false) in
    rw (c.content_begins.ensures.gives, c.content_begins.ensures.place)
    (sym (content_part s 0 n k c.args.piece.now c.requires (omega arith) c.min-run.ensures ∙ ap (λ j. Part 0 j (content_at (n - k) s)) (zero-add k)))
