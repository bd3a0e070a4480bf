use Rattle.std.proofs.Common.{◌<◌, arith}
use Rattle.std.proofs.lemmas.List.Elements.{Contains-get_or}
use Rattle.resp_commands.specs.declared.table.TheConstants.{COMMANDS}
use Rattle.resp_commands.proofs.Found.{listed, named_at}
use Rattle.resp_commands.proofs.class.listing_of.Goals as goal

pub returns-clause-class : goal.returns-clause-class
returns-clause-class c =
    let at = c.in-Some.ensures.found in
    let within : c.from.result < 240 = omega (arith, c.from.ensures, at.within) in
    listed _ c.args.name.now c.args.arguments c.class_by.result (Contains-get_or COMMANDS c.from.result _ within)
    (named_at c.args.name.now c.in-Some.place c.from.result _ c.from.ensures at) c.class_by.ensures.known c.class_by.ensures.unknown
