use Rattle.resp_value.specs.Rules.{rules_under}
use Rattle.resp_value.specs.declared.version.Version.TheVariants.{Two}
use Rattle.resp_server.proofs.databases.Databases.take_one.Goals as goal

pub returns-else-is_line-clause-rejected : goal.returns-else-is_line-clause-rejected
returns-else-is_line-clause-rejected g c front begun =
    c.take_array.ensures.rejected front (c.is_line.ensures.array (rules_under Two c.args.self.now.limits) front begun c.if-is_line.false)

pub returns-else-is_line-clause-onward : goal.returns-else-is_line-clause-onward
returns-else-is_line-clause-onward g c front begun =
    c.take_array.ensures.onward front (c.is_line.ensures.array (rules_under Two c.args.self.now.limits) front begun c.if-is_line.false)
