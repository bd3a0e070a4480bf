use Rattle.resp_proxy.proofs.Hellos.{around-key, nowhere-id}
use Rattle.resp_proxy.proofs.hello.around_id.Goals as goal

pub returns-in_default-clause-none : goal.returns-in_default-clause-none
returns-in_default-clause-none c = nowhere-id c.args.reply.now c.in_default.ensures

pub returns-clause-some : goal.returns-clause-some
returns-clause-some c =
    around-key c.args.reply.now _ _ _ c.in-Some.start c.unwrap_or-count.result c.memchr.result c.in-Some.ensures.1 c.split_at.ensures.front
    c.split_at.ensures.back c.memchr.ensures c.unwrap_or-count.ensures c.split_at-2.ensures.back
