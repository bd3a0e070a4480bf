use Rattle.std.proofs.Common.{rules, ◌≡◌, ◌++◌, Some, ap, arith}
use Rattle.resp_decode.specs.Holding.{text_held}
use Rattle.resp_decode.specs.declared.held.HeldParts.{HeldParts}
use Rattle.resp_decode.proofs.HeldLemmas.{extended_text}
use Rattle.resp_decode.proofs.Taking.{takes_in_part}
use Rattle.resp_decode.proofs.held.HeldParts.extend_text.Goals as goal

pub returns-in-Some : goal.returns-in-Some
returns-in-Some c =
    let old = c.args.self.now in
    let part = c.args.part.now in
    takes_in_part old (record c.add_weight.new.self { text = Some c.extend.new.self }) part c.is_ok.result (λ goes.
    let added : text_held c.extend.new.self ≡ record (text_held c.in-Some.text) { content = (text_held c.in-Some.text).content ++ part } = search rules in
    extended_text old c.add_weight.new.self _ c.in-Some.text c.extend.new.self part c.add_weight.ensures c.in-Some.is added)
    (λ room. omega (arith, ap (λ h. let z : HeldParts = h in z.weight) c.add_weight.ensures, room))
