use Rattle.std.proofs.Common.{rules, ◌++◌, take}
use Rattle.resp_io.proofs.Turning.{has_read_more, spends_more}
use Rattle.resp_wire.proofs.link.tcp.receive.Goals as goal

pub loop-count-preserved : goal.loop-count-preserved
loop-count-preserved g c =
    let i = c.loop-count.invariant in
    let spends = spends_more (g.R.Source.calls c.args.to.now) (g.R.Source.calls c.loop-count.to) (g.R.Source.calls c.read_some.new.reader)
    c.args.turns.now c.loop-count.turns c.read_some.new.turns i.spends c.read_some.ensures.turns in
    let (came, read) = i.read in
    record {
      within = search rules;
      room = search rules;
      spends = spends;
      onward = λ some. let spent = i.spends.spent in let less = c.in-Ok.ensures.onward in search rules;
      read = (
        came ++ take c.in-Ok.more c.read_some.new.into,
        has_read_more (g.R.Source.remaining c.args.to.now) (g.R.Source.remaining c.loop-count.to) (g.R.Source.remaining c.read_some.new.reader) came
            (take c.in-Ok.more c.read_some.new.into) read (c.in-Ok.ensures.piece (search rules)).read,
      );
      none_failed = search rules;
    }
