-- How many file descriptors some clients need.
use Rattle.std.specs.Prelude.{◌+◌, ℕ, min}

-- some descriptors without a client, one for each client, and a second one for each of the first `second` clients
abbrev pub descriptors_of : ℕ → ℕ → ℕ → ℕ
descriptors_of fixed second clients = fixed + clients + min clients second
