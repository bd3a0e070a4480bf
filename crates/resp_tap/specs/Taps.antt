-- The state of a tap, and how commands, values and errors change it.
use Rattle.std.specs.Prelude.{ℕ, ◌+◌, Bool, true, false, List, [], ◌∷◌, Option}
use Rattle.resp_value.specs.Bounds.{Bounds}
use Rattle.resp_value.specs.Data.{Datum}
use Rattle.resp_value.specs.declared.version.Version.{Version}
use Rattle.resp_value.specs.declared.version.Version.TheVariants.{Two}
use Rattle.resp_tap.specs.Lines.{LineState, line_after, line_sent, new_line, next_version, settled}
use Rattle.resp_tap.specs.LinesOf.{line_of}
use Rattle.resp_tap.specs.declared.kind.CommandKind.{CommandKind}
use Rattle.resp_tap.specs.declared.tap.Tap.{Tap}

pub record TapState : Type 0 where
  -- the limits within which both sides are read
  pub limits : Bounds
  -- the most bytes of each text of the server that are shown, if not all are
  pub shown : Option ℕ
  -- the most bytes of each word of the client that are kept, apart from one more, if not all are
  pub kept : Option ℕ
  -- the number of commands that were read
  pub commands : ℕ
  -- the commands that wait, and what is known of the connection
  pub line : LineState
  -- the version in which the server's last value is read
  pub reading : Version
  -- whether the client's bytes are still read
  pub reads_commands : Bool
  -- whether the server's bytes are still read
  pub reads_replies : Bool

abbrev pub tap_state : Tap → TapState
tap_state t = record {
  limits = t.limits;
  shown = t.values.shown.most;
  kept = t.requests.shown.most;
  commands = t.commands;
  line = line_of t.line;
  reading = t.values.version;
  reads_commands = t.requests.is_reading;
  reads_replies = t.values.is_reading;
}

-- a new connection: nothing was read, and the version is 2
abbrev pub new_tap : Bounds → Option ℕ → Option ℕ → TapState
new_tap limits shown kept = record {
  limits = limits;
  shown = shown;
  kept = kept;
  commands = 0;
  line = new_line;
  reading = Two;
  reads_commands = true;
  reads_replies = true;
}

-- the state after a command of this kind
abbrev pub with_command : CommandKind → TapState → TapState
with_command kind s = record s {
  commands = s.commands + 1;
  line = line_sent (s.commands + 1) kind s.line;
}

-- the state after a value
abbrev pub with_value : Datum → TapState → TapState
with_value x s = record s { line = line_after s.line x }

-- The state after an error in the client's bytes. The replies to the commands before it are still paired.
abbrev pub with_refused_command : TapState → TapState
with_refused_command s = record s { reads_commands = false }

-- the state after an error in the server's bytes
abbrev pub with_refused_reply : TapState → TapState
with_refused_reply s = record s { reads_replies = false }

-- the state before the first byte of a value of the server, which begins with these bytes
abbrev pub begun : List ℕ → TapState → TapState
begun piece s = record s {
  line = settled piece s.line;
  reading = next_version (settled piece s.line);
}

-- The state after the first of these bytes of a value, before the others. How a value is read is decided before its
-- first byte.
abbrev pub at_front : List ℕ → List ℕ → TapState → TapState
at_front [] piece s = begun piece s
at_front (byte ∷ bytes) piece s = s
