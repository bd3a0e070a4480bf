use Rattle.std.proofs.Common.{refl}
use Rattle.clap.specs.declared.builder.value_parser.ValueParser.TheVariants as vp
use Rattle.resp_cli_args.proofs.CommandLemmas.{names_take_versions}
use Rattle.resp_cli_args.proofs.tables.versions.Goals as goal

pub returns : goal.returns
returns c = (vp.Names _, names_take_versions _ refl, refl)
