use Rattle.std.proofs.Common.{◌<◌, ◌∙◌, sym, arith}
use Rattle.std.proofs.lemmas.List.Elements.{Contains-get_or}
use Rattle.resp_commands.specs.declared.table.TheConstants.{SUBCOMMANDS}
use Rattle.resp_commands.proofs.Found.{inner_named_in_lower, no_subcommand_named}
use Rattle.resp_commands.proofs.lookup.subcommand.Goals as goal

pub returns-then-not-is_lower_case_of-clause-unknown : goal.returns-then-not-is_lower_case_of-clause-unknown
returns-then-not-is_lower_case_of-clause-unknown c =
    let within : c.inner_place_of-place.result < 126 = omega (arith, c.if-place-ge126.false) in
    no_subcommand_named c.args.command.now c.args.name.now c.inner_place_of-place.result _ c.inner_place_of-place.ensures within
    (λ same. c.if-not-is_lower_case_of.ensures (same ∙ sym c.name.ensures))

pub returns-clause-found : goal.returns-clause-found
returns-clause-found c =
    let within : c.inner_place_of-place.result < 126 = omega (arith, c.if-place-ge126.false) in
    Contains-get_or SUBCOMMANDS c.inner_place_of-place.result _ within

pub returns-clause-named : goal.returns-clause-named
returns-clause-named c =
    let within : c.inner_place_of-place.result < 126 = omega (arith, c.if-place-ge126.false) in
    (c.if-subcommand-command.false, inner_named_in_lower c.args.name.now c.inner_place_of-place.result _ within (c.if-not-is_lower_case_of.ensures ∙ c.name.ensures))
