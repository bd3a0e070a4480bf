use Rattle.resp_cli_stream.proofs.BegunLemmas.{read_if_viable}
use Rattle.resp_cli_stream.proofs.starts.Starts.needed.Goals as goal

pub returns : goal.returns
returns c = λ rest come viable.
    let read = read_if_viable c.args.self.now.scanner rest come viable in
    c.needed.ensures.least_completion rest read.0 read.1.reads
