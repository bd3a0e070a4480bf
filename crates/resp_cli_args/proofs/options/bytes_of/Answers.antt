use Rattle.std.proofs.Common.{sym}
use Rattle.clap.specs.Words.{found_of, rows_of}
use Rattle.resp_cli_args.proofs.SizeLemmas.{no_size}
use Rattle.resp_cli_args.proofs.options.bytes_of.Goals as goal

pub returns-in-Some-clause-none : goal.returns-in-Some-clause-none
returns-in-Some-clause-none c = no_size (rows_of (found_of c.args.matches.now)) c.args.name.now c.in-Some.text.now c.args.least c.args.most
    c.size_of.result (sym c.in-Some.ensures) c.size_of.ensures.none
