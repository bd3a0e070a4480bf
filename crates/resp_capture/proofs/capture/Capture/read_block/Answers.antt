use Rattle.std.proofs.Common.{rules, ◌≡◌, ◌∙◌, List, ℕ, ap, arith, sym, subst}
use Rattle.resp_capture.specs.Frames.{IsDescribed}
use Rattle.resp_capture.specs.Numbers.{number32}
use Rattle.resp_capture.specs.declared.number.ByteOrder.TheVariants.{Big}
use Rattle.resp_capture.proofs.ReadingLemmas.{described_interface}
use Rattle.resp_capture.proofs.capture.Capture.read_block.Goals as goal

pub returns-clause-interfaces : goal.returns-clause-interfaces
returns-clause-interfaces c =
    let bytes = c.args.self.now.held.items in
    let held : c.as_slice-bytes.result.now ≡ bytes = search rules in
    let first : c.number32.result ≡ number32 Big 0 bytes = c.number32.ensures ∙ ap (number32 Big 0) held in
    let kind : c.number32-2.result ≡ number32 c.args.order 0 bytes = c.number32-2.ensures ∙ ap (number32 c.args.order 0) held in
    described_interface c.add.result c.args.order bytes c.args.self.now.interfaces.items c.add.new.self.interfaces.items c.of_block-interface.result
    (λ is. c.if-number32-eq-SECTION.false (first ∙ is)) (sym kind ∙ search (rules, arith))
    (subst (λ (block : List ℕ). IsDescribed c.args.order block c.of_block-interface.result) held c.of_block-interface.ensures)
    c.add.ensures.added
