use Rattle.resp_cli_args.specs.Hosts.{IsServerText}
use Rattle.resp_cli_args.specs.declared.server_address.ServerAddress.{ServerAddress}
use Rattle.resp_cli_args.specs.declared.server_address.ServerAddress.TheVariants.{Socket, Named, Path}
use Rattle.resp_cli_args.proofs.server_address.server_of.Goals as goal

pub returns-in-None-clause-err : goal.returns-in-None-clause-err
returns-in-None-clause-err c = none
  where
    none : (server : ServerAddress) → IsServerText c.args.text.now server → ⊥
    none (Socket address) is = c.in_default.ensures.err address is
    none (Named host port) is = c.in-None.ensures.none host.now port is.1
    none (Path path) is = let path' = c.is_path.ensures.1 is.1 in cc
