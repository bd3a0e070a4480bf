-- The command that a client has begun.
use Rattle.std.specs.Prelude.{ℕ, false, List, []}
use Rattle.resp_frames.specs.Framing.{IsReady, frame_rules}
use Rattle.resp_frames.specs.Unfinished.{HasBegunRequest}
use Rattle.resp_frames.specs.declared.unfinished.Unfinished.{Unfinished}
use Rattle.resp_proxy.specs.declared.intake.Intake.{Intake}
use Rattle.resp_proxy.specs.declared.settings.Settings.{Settings}
use Rattle.resp_proxy.specs.Terms.{Terms}
use Rattle.resp_value.specs.Rules.{rules_under}
use Rattle.resp_value.specs.Words.{texts_of}
use Rattle.resp_value.specs.declared.version.Version.TheVariants.{Two}

-- which bytes are commands, and which commands are sent
abbrev pub terms_of : Intake → Terms
terms_of i = record {
  rules = frame_rules i.frames;
  lines = i.lines;
  admitted = texts_of i.admitted.items;
  pings = i.local_ping;
  own = i.admits_own;
}

-- the terms of a proxy with these settings that admits no command which the table does not have, and no connection of a client's own
abbrev pub terms_by : Settings → Terms
terms_by s = record { rules = rules_under Two s.limits; lines = s.lines; admitted = []; pings = s.local_ping; own = false }

-- a client has begun a command with these bytes, or none
abbrev pub HasUnfinished : Terms → Unfinished → List ℕ → Type 0
HasUnfinished terms = HasBegunRequest terms.rules terms.lines

-- this is true of all bytes with which a client has begun a command
abbrev pub WhereUnfinished : Intake → Unfinished → (List ℕ → Type 0) → Type 0
WhereUnfinished i u P = IsReady i.frames → (front : List ℕ) → HasUnfinished (terms_of i) u front → P front
