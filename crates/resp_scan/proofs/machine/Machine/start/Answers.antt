use Rattle.std.proofs.Common.{◌≡◌, ◌<◌, length, drop, get_or, refl, sym, ap, ◌∙◌, arith}
use Rattle.std.proofs.lemmas.Grind.{common_steps}
use Rattle.resp_scan.specs.Machine.First.{after_first}
use Rattle.resp_scan.specs.Machine.Tokens.{at, AtStart}
use Rattle.resp_scan.specs.Machine.Fields.{place_of}
use Rattle.resp_scan.proofs.Soundness.Starts.{first_is, first_scan, three_is}
use Rattle.resp_scan.proofs.machine.Machine.start.Goals as goal

pub returns-in-43 : goal.returns-in-43
returns-in-43 c =
    let p = c.args.piece.now in
    let l : 0 < length p = grind (arith, common_steps) in
    let b : get_or p 0 0 ≡ 43 = grind (arith, common_steps) in
    c.line_begins.ensures.simple (drop 1 p) refl ∙ first_is (place_of c.args.self.now) p 43 l b

pub returns-in-45 : goal.returns-in-45
returns-in-45 c =
    let p = c.args.piece.now in
    let l : 0 < length p = grind (arith, common_steps) in
    let b : get_or p 0 0 ≡ 45 = grind (arith, common_steps) in
    c.line_begins-in-45.ensures.error (drop 1 p) refl ∙ first_is (place_of c.args.self.now) p 45 l b

pub returns-in-44 : goal.returns-in-44
returns-in-44 c =
    let p = c.args.piece.now in
    let l : 0 < length p = grind (arith, common_steps) in
    let b : get_or p 0 0 ≡ 44 = grind (arith, common_steps) in
    c.double_begins.ensures (drop 1 p) ∙ first_is (place_of c.args.self.now) p 44 l b

pub returns-in-Three : goal.returns-in-Three
returns-in-Three c =
    let s = place_of c.args.self.now in
    let p = c.args.piece.now in
    let b = get_or p 0 0 in
    let l : 0 < length p = grind (arith, common_steps) in
    let q = three_is (at s AtStart) b c.in-Some-first_of.first (omega arith) (omega arith) (omega arith) (omega arith) (omega arith) (omega arith) (omega arith)
    c.in-Three.is (c.in-Some-first_of.ensures (at s AtStart)) in
    c.start_three.ensures ∙ ap (λ v. after_first v (at s AtStart) (drop 1 p)) (sym q) ∙ first_scan s p l
