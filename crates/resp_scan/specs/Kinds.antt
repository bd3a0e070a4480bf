-- The scanner's types, translated to the terms of the grammar.
use Rattle.std.specs.Prelude.{◌≡◌, ℕ, List, [], ◌∷◌}
use Rattle.resp_value.specs.Rules.{Rules, Rule}
use Rattle.resp_value.specs.Spellings.{IsCause}
use Rattle.resp_value.specs.Causes.{cause_of}
use Rattle.resp_value.specs.declared.cause.Cause.{Cause}
use Rattle.resp_fronts.specs.Events.{Event}
use Rattle.resp_fronts.specs.Events as e
use Rattle.resp_scan.specs.declared.event.TextKind.{TextKind}
use Rattle.resp_scan.specs.declared.event.TextKind.TheVariants as text
use Rattle.resp_value.specs.Kinds.{kind_of}
use Rattle.resp_scan.specs.Machine.Tokens.{Place, Happening, Null, Truth, Int, Text, Digit, TextEnd, Open, Close}

-- the kind of text for a kind of the program
abbrev pub text_kind_of : TextKind → e.TextKind
text_kind_of text.Simple = e.Simple
text_kind_of text.Error = e.Error
text_kind_of text.Double = e.Double
text_kind_of text.Bulk = e.Bulk
text_kind_of text.BulkError = e.BulkError
text_kind_of (text.Verbatim format) = e.Verbatim format
text_kind_of (text.Big negative) = e.Big negative

-- the event that a move gives
abbrev pub event_of : Happening → Event
event_of Null = e.Null
event_of (Truth b) = e.Bool b
event_of (Int n) = e.Int n
event_of (Text k) = e.Text (text_kind_of k)
event_of (Digit d) = e.Byte d
event_of TextEnd = e.TextEnd
event_of (Open k n) = e.Open (kind_of k) n
event_of Close = e.Close

-- content, as events
abbrev pub content_events : List ℕ → List Event
content_events [] = []
content_events (b ∷ bs) = e.Byte b ∷ content_events bs

-- the rules of a place
abbrev pub rules_of : Place → Rules
rules_of s = record { version = s.version; limits = s.bounds }

-- after the front, the first rule that no spelling keeps has this cause
pub record IsRefusedFor (r : Rules) (front : List ℕ) (c : Cause) : Type 0 where
  pub rule : Rule
  pub names : c ≡ cause_of rule
  pub cause : IsCause r front rule
