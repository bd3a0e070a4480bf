use Rattle.std.proofs.Common.{◌≡◌, ◌+◌, ◌-◌, ◌<◌, length, drop, min, sym, ◌∙◌, ap, arith}
use Rattle.std.proofs.lemmas.Grind.{common_steps}
use Rattle.resp_scan.specs.Machine.Fields.{place_of, out_of}
use Rattle.resp_scan.specs.Machine.Scan.{Part}
use Rattle.resp_scan.proofs.Soundness.Runs.{chunk_part}
use Rattle.resp_scan.proofs.machine.Machine.chunk_content.Goals as goal

pub returns : goal.returns
returns c =
    let s = place_of c.args.self.now in
    let p = c.args.piece.now in
    let i = c.args.i in
    let d : length (drop i p) ≡ length p - i = grind (arith, common_steps) in
    let l : 0 < length (drop i p) = omega (arith, d, c.requires.within, c.if-i-piece.false) in
    let e : c.min-run.result ≡ min (length (drop i p)) c.args.self.now.count = c.min-run.ensures ∙ ap (λ n. min n c.args.self.now.count) (sym d) in
    let k = c.min-run.result in
    let m = c.chunk_rests.new.self in
    ap (λ g. out_of g m) c.gives.ensures ∙ ap (λ j. Part j (i + k) (place_of m)) c.chunk_rests.ensures.start ∙
    ap (λ q. Part i (i + k) q) c.chunk_rests.ensures.place ∙ sym
    (chunk_part s c.args.self.now.room i c.args.self.now.count c.min-run.result (drop i p) c.requires.some l e)
