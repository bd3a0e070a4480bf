use Rattle.resp_cli_args.proofs.traffic.captured_of.Goals as goal

pub returns-in-None-clause-err : goal.returns-in-None-clause-err
returns-in-None-clause-err c = λ captured has. c.in-None.ensures.none captured.port has.at_port
