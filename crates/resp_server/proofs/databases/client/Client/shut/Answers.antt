use Rattle.std.proofs.Common.{true}
use Rattle.resp_value.specs.Rules.{rules_under}
use Rattle.resp_value.specs.declared.version.Version.TheVariants.{Two}
use Rattle.resp_server.proofs.databases.client.Client.shut.Goals as goal

pub returns-clause-nothing_begun : goal.returns-clause-nothing_begun
returns-clause-nothing_begun c limits = c.new.ensures.nothing (rules_under Two limits) true
