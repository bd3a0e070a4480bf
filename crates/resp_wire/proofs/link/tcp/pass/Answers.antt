use Rattle.std.proofs.Common.{rules}
use Rattle.resp_io.specs.Turns.{Halts}
use Rattle.resp_io.specs.declared.halt.Halt.TheVariants.{NoTurn}
use Rattle.resp_io.proofs.Turning.{if_err, spends_writes}
use Rattle.resp_wire.proofs.link.tcp.pass.Goals as goal

pub returns-in-Err-Failed-clause-turns : goal.returns-in-Err-Failed-clause-turns
returns-in-Err-Failed-clause-turns g c = (
  c.write_text.new.turns,
  spends_writes (g.W.Sink.calls c.args.from.now) (g.W.Sink.calls c.write_text.new.writer) (g.R.Source.calls c.args.to.now) 65536
      c.write_text.new.turns c.write_text.ensures.turns,
  λ is. absurd (cc),
)

pub returns-in-Err-NoTurn-clause-turns : goal.returns-in-Err-NoTurn-clause-turns
returns-in-Err-NoTurn-clause-turns g c = (
  c.write_text.new.turns,
  spends_writes (g.W.Sink.calls c.args.from.now) (g.W.Sink.calls c.write_text.new.writer) (g.R.Source.calls c.args.to.now) 65536
      c.write_text.new.turns c.write_text.ensures.turns,
  λ is. if_err c.write_text.result.end NoTurn (search rules)
      (Halts (g.W.Sink.failures c.args.from.now) (g.W.Sink.failures c.write_text.new.writer) c.write_text.new.turns) c.write_text.ensures.halted,
)
