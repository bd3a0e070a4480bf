use Rattle.resp_cli_args.specs.Hosts.{IsListenText, IsServerText}
use Rattle.resp_cli_args.specs.declared.listen_address.ListenAddress.{ListenAddress}
use Rattle.resp_cli_args.specs.declared.server_address.ServerAddress.{ServerAddress}
use Rattle.resp_cli_args.proofs.AskingLemmas.{on_err}
use Rattle.resp_cli_args.proofs.proxying.addresses_of.Goals as goal

pub returns-in_err-address-clause-err : goal.returns-in_err-address-clause-err
returns-in_err-address-clause-err c =
    let none : (here : ListenAddress) (there : ServerAddress) → IsListenText c.args.listen.now here → IsServerText c.args.server.now there → ⊥ =
    λ here there listens serves. c.in_err-address.ensures.err here listens in
    on_err _ _ none

pub returns-in_err-server_of-clause-err : goal.returns-in_err-server_of-clause-err
returns-in_err-server_of-clause-err c =
    let none : (here : ListenAddress) (there : ServerAddress) → IsListenText c.args.listen.now here → IsServerText c.args.server.now there → ⊥ =
    λ here there listens serves. c.in_err-server_of.ensures.err there serves in
    on_err _ _ none
