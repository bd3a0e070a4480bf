use Rattle.std.proofs.Common.{◌≡◌, drop}
use Rattle.resp_server.specs.Names.{is_client_name}
use Rattle.resp_server.proofs.databases.deed.is_client_name.Given as goal

abbrev pub invariant-loop-byte : goal.invariant-loop-byte
invariant-loop-byte l = is_client_name l.name ≡ is_client_name (drop l.byte-index l.name)
