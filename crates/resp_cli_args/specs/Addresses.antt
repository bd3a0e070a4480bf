-- Addresses of this machine in words.
use Rattle.std.specs.Prelude.{◌≡◌, ◌⊎◌, ◌<◌, ℕ, [], ◌∷◌, ◌++◌, codes}
use Rattle.std.specs.Net.Addr.{ipv4_octets}
use Rattle.std.specs.Net.Grammar.{IsSocketText}
use Rattle.std.specs.Net.Socket.{v4_ip, v4_port}
use Rattle.std.specs.Str.Parse.{IsNumeral, digits_value, without_leading_plus}
use Rattle.std.specs.declared.net.socket_addr.SocketAddr.{SocketAddr}
use Rattle.std.specs.declared.net.socket_addr.SocketAddr.TheVariants as Socket
use Rattle.clap.specs.Words.{Text}

-- the text is the number of a port after this prefix
abbrev pub HasPort : Text → Text → ℕ → Type 0
HasPort before text number = (port : Text) × (text ≡ before ++ port) × IsNumeral 10 (without_leading_plus port) ×
    (digits_value 10 (without_leading_plus port) ≡ number) × (number < 65536)

-- the text is a port of this machine, as `6379`, `:6379` or `localhost:6379`
abbrev pub IsLocalPort : Text → ℕ → Type 0
IsLocalPort text number =
    HasPort [] text number ⊎ HasPort (codes ":") text number ⊎ HasPort (codes "localhost:") text number

-- the address is this port of 127.0.0.1
abbrev pub IsLoopback : SocketAddr → ℕ → Type 0
IsLoopback (Socket.V4 address) number =
    (ipv4_octets (v4_ip address) ≡ 127 ∷ 0 ∷ 0 ∷ 1 ∷ []) × (v4_port address ≡ number)
IsLoopback (Socket.V6 address) number = ⊥

-- the text is an IP address and a port, or a port of this machine
abbrev pub IsAddressText : Text → SocketAddr → Type 0
IsAddressText text address =
    IsSocketText text address ⊎ (number : ℕ) × IsLocalPort text number × IsLoopback address number
