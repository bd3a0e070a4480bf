-- The state of a connection to a server that clients share.
use Rattle.std.specs.Prelude.{ℕ, Bool, true, false, List, Option}
use Rattle.resp_frames.specs.declared.begun.Begun.{Begun}
use Rattle.resp_frames.specs.Framing.{HasBegun}
use Rattle.resp_board.specs.declared.ticket.ClientId.{ClientId}
use Rattle.resp_board.specs.declared.ticket.LineId.{LineId}
use Rattle.resp_proxy.specs.declared.route.Route.{Route}
use Rattle.resp_proxy.specs.declared.settings.Settings.{Settings}
use Rattle.resp_proxy.specs.Wishes.{Situation}
use Rattle.resp_value.specs.Bounds.{Bounds}
use Rattle.resp_value.specs.Rules.{Rules}
use Rattle.resp_value.specs.declared.version.Version.{Version}
use Rattle.resp_value.specs.declared.version.Version.TheVariants.{Two, Three}

-- what stays of a line while a connection continues it
pub record LineTerms : Type 0 where
  pub id : LineId
  -- the situation in which the commands on the line run
  pub situation : Situation
  -- whether every client begins on this line
  pub is_first : Bool
  -- the rules of replies
  pub rules : Rules

pub record Lined : Type 0 where
  pub terms : LineTerms
  -- whether a connection to the server continues the line
  pub attached : Bool
  -- the reply of the server to HELLO over the last connection
  pub hello : List ℕ
  -- the reply that the server has begun
  pub begun : Begun
  -- the client of the proxy's own that sends probes, if there is one
  pub prober : Option ClientId
  -- the replies to its commands, without those that were removed
  pub expected : List ℕ

-- what stays of the line while a connection continues it
abbrev pub line_terms : Lined → LineTerms
line_terms l = l.terms

-- the commands on the line run in this situation, and all else is as it was
abbrev pub with_situation : Situation → LineTerms → LineTerms
with_situation s t = record t { situation = s }

-- the place of the line on the board
abbrev pub line_of : Lined → ℕ
line_of l = l.terms.id.place

-- the situation in which the commands on the line run
abbrev pub situation_on : Lined → Situation
situation_on l = l.terms.situation

abbrev pub reply_rules_of : Lined → Rules
reply_rules_of l = l.terms.rules

-- whether a connection to the server continues the line
abbrev pub is_attached : Lined → Bool
is_attached l = l.attached

-- the reply of the server to HELLO over the last connection
abbrev pub hello_on : Lined → List ℕ
hello_on l = l.hello

-- the reply that the server has begun
abbrev pub server_begun : Lined → Begun
server_begun l = l.begun

-- the client of the proxy's own that sends probes, if there is one
abbrev pub prober_of : Lined → Option ClientId
prober_of l = l.prober

-- the replies to its commands, without those that were removed
abbrev pub expected_of : Lined → List ℕ
expected_of l = l.expected

-- the server has begun a reply with these bytes
abbrev pub HasBegunBy : Lined → List ℕ → Type 0
HasBegunBy l front = HasBegun l.terms.rules l.begun front

-- this is true of the bytes with which the server has begun a reply
abbrev pub WhereBegunBy : Lined → (List ℕ → Type 0) → Type 0
WhereBegunBy l P = (front : List ℕ) → HasBegunBy l front → P front

-- the commands of the client go to this line
abbrev pub route_to : Lined → ClientId → Route
route_to l client =
    record { client = client; line = l.terms.id; version = l.terms.situation.version; is_first = l.terms.is_first }

-- only version 3 has doubles
abbrev pub has_doubles : Version → Bool
has_doubles Two = false
has_doubles Three = true

-- the limits on the replies of this version
abbrev pub reply_limits : Settings → Version → Bounds
reply_limits s version = record s.limits { doubles = has_doubles version }
