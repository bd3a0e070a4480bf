-- The addresses of a listener and of a server in words. Each may be a path, and that of a server may have the name of a host.
use Rattle.std.specs.Prelude.{◌≡◌, ◌≤◌, ◌++◌, ◌⊎◌, ℕ, All, List, codes, take}
use Rattle.std.specs.declared.net.socket_addr.SocketAddr.{SocketAddr}
use Rattle.resp_cli_args.specs.Addresses.{HasPort, IsAddressText}
use Rattle.resp_cli_args.specs.declared.listen_address.ListenAddress.{ListenAddress}
use Rattle.resp_cli_args.specs.declared.listen_address.ListenAddress.TheVariants as listen
use Rattle.resp_cli_args.specs.declared.server_address.ServerAddress.{ServerAddress}
use Rattle.resp_cli_args.specs.declared.server_address.ServerAddress.TheVariants.{Socket, Named, Path}

abbrev IsBetween : ℕ → ℕ → ℕ → Type 0
IsBetween least most byte = (least ≤ byte) × (byte ≤ most)

abbrev pub IsDigitByte : ℕ → Type 0
IsDigitByte = IsBetween 48 57

-- the byte is a letter or a digit, or `-`, `_` or `.`
abbrev pub IsHostByte : ℕ → Type 0
IsHostByte byte = IsDigitByte byte ⊎ IsBetween 65 90 byte ⊎ IsBetween 97 122 byte ⊎ (byte ≡ 45) ⊎ (byte ≡ 95) ⊎ (byte ≡ 46)

-- the text has only such bytes, and not only digits
abbrev pub IsHost : List ℕ → Type 0
IsHost text = All IsHostByte text × (All IsDigitByte text → ⊥)

-- the text is the name of a host, with `:` and a port, or without them if the port is 6379
abbrev pub IsHostText : List ℕ → List ℕ → ℕ → Type 0
IsHostText text host port = IsHost host ×
    ((text ≡ host) × (port ≡ 6379) ⊎ HasPort (host ++ codes ":") text port)

-- the text begins with `/` or `./`
abbrev pub IsPath : List ℕ → Type 0
IsPath text = (take 1 text ≡ codes "/") ⊎ (take 2 text ≡ codes "./")

-- the text is a path, or an IP address and a port, or a port of this machine
abbrev pub IsListenText : List ℕ → ListenAddress → Type 0
IsListenText text (listen.Socket address) = IsAddressText text address
IsListenText text (listen.Path path) = (path.now ≡ text) × IsPath text

-- the text is that of a listener, or else the name of a host with its port
abbrev pub IsServerText : List ℕ → ServerAddress → Type 0
IsServerText text (Socket address) = IsAddressText text address
IsServerText text (Path path) = (path.now ≡ text) × IsPath text
IsServerText text (Named host port) =
    ((address : SocketAddr) → IsAddressText text address → ⊥) × IsHostText text host.now port
