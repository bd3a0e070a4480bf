use Rattle.std.proofs.Common.{◌<◌, arith}
use Rattle.std.proofs.lemmas.List.Elements.{Contains-get_or}
use Rattle.resp_commands.specs.declared.table.TheConstants.{COMMANDS}
use Rattle.resp_commands.proofs.Found.{named_at}
use Rattle.resp_commands.proofs.lookup.entry.Goals as goal

pub returns-clause-found : goal.returns-clause-found
returns-clause-found c =
    let within : c.from.result < 240 = omega (arith, c.from.ensures, c.in_ok-place.ensures.found.within) in
    Contains-get_or COMMANDS c.from.result _ within

pub returns-clause-named : goal.returns-clause-named
returns-clause-named c = named_at c.args.name.now c.in_ok-place.place c.from.result _ c.from.ensures c.in_ok-place.ensures.found
