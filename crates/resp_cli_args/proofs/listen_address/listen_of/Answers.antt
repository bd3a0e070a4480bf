use Rattle.resp_cli_args.specs.Hosts.{IsListenText}
use Rattle.resp_cli_args.specs.declared.listen_address.ListenAddress.{ListenAddress}
use Rattle.resp_cli_args.specs.declared.listen_address.ListenAddress.TheVariants.{Socket, Path}
use Rattle.resp_cli_args.proofs.listen_address.listen_of.Goals as goal

pub returns-in-Err-clause-err : goal.returns-in-Err-clause-err
returns-in-Err-clause-err c = none
  where
    none : (address : ListenAddress) → IsListenText c.args.text.now address → ⊥
    none (Socket address) is = c.in-Err.ensures.err address is
    none (Path path) is = let path' = c.is_path.ensures.1 is.1 in cc
