use Rattle.std.proofs.Common.{◌∙◌}
use Rattle.resp_value.specs.declared.version.Version.TheVariants.{Two}
use Rattle.resp_server.proofs.Replies.{number_text}
use Rattle.resp_server.proofs.reply.reserved_number.Goals as goal

pub returns : goal.returns
returns c = c.append_number.ensures.appended ∙ number_text c.args.out.now.items Two c.args.number (c.digits_are_those_of_std.ensures c.args.number c.ranges.number.fits)
