use mir.Syntax.{w64}
use mir.Val.{of_z, to_z}
use Rattle.std.proofs.Common.{rules, ◌≡◌, refl, [], ◌∷◌}
use Rattle.resp_fronts.specs.Events as e
use Rattle.resp_cli_stream.proofs.Showing.{level_deep, prints}
use Rattle.resp_cli_stream.proofs.printer.LinePrinterListener.int.Goals as goal

pub returns : goal.returns
returns g c call given had may =
    let number : to_z w64 (of_z w64 c.args.number) ≡ c.args.number = search rules in
    let written = rw number at c.int.ensures.0 in
    rw c.is_ok.ensures.value (prints c.int.result call _ _ c.args.self.now.lines.now c.int.new.self _ _ _ _ given (e.Int c.args.number ∷ []) had may
    (level_deep given (e.Int c.args.number ∷ []) (record { opens = refl; closes = refl })) (λ some. refl) written c.int.ensures.1)
