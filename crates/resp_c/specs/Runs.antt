-- Runs of the calls that pair values: resp_pairing_first with the first byte of a value, and resp_pairing_take with each
-- event that a scanner gives in the version that was set.
use Rattle.std.specs.Prelude.{◌≡◌, ◌⊎◌, ℕ, ◌+◌, ◌<◌, ◌^◌, Bool, List, [], ◌∷◌, ◌++◌, length, flat_map, map, cond, eqb, Some}
use Rattle.resp_value.specs.Bounds.{Bounds}
use Rattle.resp_value.specs.Data.{Datum}
use Rattle.resp_value.specs.Rules.{rules_under}
use Rattle.resp_value.specs.Trees.{Tree, text}
use Rattle.resp_value.specs.TreeValues.{value}
use Rattle.resp_fronts.specs.Events.{events, without_places}
use Rattle.resp_scan.specs.declared.event.Event.{Event}
use Rattle.resp_scan.specs.declared.event.TextKind.{TextKind}
use Rattle.resp_scan.specs.Listening.{whole_text_events}
use Rattle.resp_scan.specs.Reading.{Events, events_of}
use Rattle.resp_session.specs.Heard.{is_push, numbered_replies}
use Rattle.resp_session.specs.Reading.{IsUnasked, ReadsAs, is_refusal, reading_version, waiting_after}
use Rattle.resp_c.specs.EventNumbers.{more_number}
use Rattle.resp_c.specs.Pairs.{after_events, look_of, new_look, number_of_reply, reads_push, waiting_of}
use Rattle.resp_c.specs.Scans.{IsTreeWithin}
use Rattle.resp_c.specs.Told.{Tells, TellsWhole}
use Rattle.resp_c.specs.Versions.{version_of}
use Rattle.resp_c.specs.declared.event.RespEvent.{RespEvent}
use Rattle.resp_c.specs.declared.pairing.RespPairing.{RespPairing}

-- A value that begins with this byte was asked for or may be a push, and it is read in this version.
pub record Begins (old new : RespPairing) (byte version : ℕ) : Type 0 where
  pub asked : (beyond : List ℕ) → IsUnasked (waiting_of old) (byte ∷ beyond) → ⊥
  pub reads_in : version_of version ≡ reading_version (waiting_of old).version (waiting_of old).asks
  pub look : look_of new ≡ new_look
  pub first_byte : new.first ≡ byte
  pub same_waiting : waiting_of new ≡ waiting_of old
  pub same_answered : new.answered ≡ old.answered

-- An event other than the end of the value: it changes only what the events have shown of the value.
pub record Shows (old new : RespPairing) (out : RespEvent) : Type 0 where
  pub event : old.nested < 2 ^ 63 → (told : Event) → Tells out (Some told) →
      look_of new ≡ after_events (look_of old) (events_of told)
  pub whole : old.nested < 2 ^ 63 → (kind : TextKind) (bytes : List ℕ) → TellsWhole out kind bytes →
      look_of new ≡ after_events (look_of old) (whole_text_events kind bytes)
  pub none : old.nested < 2 ^ 63 → out.kind ≡ more_number → look_of new ≡ look_of old
  pub same_waiting : waiting_of new ≡ waiting_of old
  pub same_answered : new.answered ≡ old.answered

-- The end of a value of which the events have shown whether it is an error: a reply belongs to the first command that
-- waits, and a push to none. The last push that answers the command which waits first ends as a reply to it does.
pub record Ends (old new : RespPairing) (ends_as_push : Bool) : Type 0 where
  pub waiting : (x : Datum) → is_push x ≡ ends_as_push → is_refusal x ≡ (look_of old).refuses →
      waiting_of new ≡ waiting_after (waiting_of old) x
  pub counted : old.answered < 2 ^ 63 → new.answered ≡ old.answered + cond ends_as_push 0 1
  pub same_look : look_of new ≡ look_of old

-- an event, or a text with its end, as C receives it
abbrev pub StandsFor : RespEvent → Events → Type 0
StandsFor out told = ((event : Event) × Tells out (Some event) × (told ≡ events_of event)) ⊎
    ((kind : TextKind) × (bytes : List ℕ) × TellsWhole out kind bytes × (told ≡ whole_text_events kind bytes))

-- events before the end of a value, each of which was received, with this number
abbrev pub TakesAll : ℕ → RespPairing → List RespEvent → Events → RespPairing → Type 0
TakesAll number p [] told q = (q ≡ p) × (told ≡ [])
TakesAll number p (out ∷ outs) told q = (between : RespPairing) × (first : Events) × (rest : Events) ×
    StandsFor out first × (told ≡ first ++ rest) × Shows p between out × (between.first ≡ p.first) ×
    (number ≡ number_of_reply p) × TakesAll number between outs rest q

-- The calls for one value: its first byte, its events, and its end. The scanner read its text in the version that was
-- set.
pub record PairsValue (limits : Bounds) (old : RespPairing) (tree : Tree) (number : ℕ) (new : RespPairing) : Type 0 where
  pub byte : ℕ
  pub beyond : List ℕ
  pub version : ℕ
  pub begun : RespPairing
  pub outs : List RespEvent
  pub shown : RespPairing
  pub bytes : text tree ≡ byte ∷ beyond
  pub begins : Begins old begun byte version
  pub reads : IsTreeWithin (rules_under (version_of version) limits) tree
  pub takes : TakesAll number begun outs (without_places (events 0 tree)) shown
  pub few : length (without_places (events 0 tree)) < 2 ^ 63
  pub ends : Ends shown new (reads_push shown)
  pub told : number ≡ number_of_reply shown

-- the calls for values, one after another, each with the number that was set
abbrev pub Pairs : Bounds → RespPairing → List (ℕ × Tree) → RespPairing → Type 0
Pairs limits p [] q = q ≡ p
Pairs limits p ((number, tree) ∷ rest) q = (between : RespPairing) × PairsValue limits p tree number between ×
    Pairs limits between rest q

abbrev pub trees_of : List (ℕ × Tree) → List Tree
trees_of told = map (λ (it : ℕ × Tree). it.1) told

-- the values whose number is not 0, each with its number
abbrev pub replies_told : List (ℕ × Tree) → List (ℕ × Datum)
replies_told [] = []
replies_told ((number, tree) ∷ rest) = cond (eqb number 0) (replies_told rest) ((number, value tree) ∷ replies_told rest)

-- A run of these calls is a client's reading: each value is read in the version in which the client reads it, the same
-- commands wait in the end, and each reply has the number of its command.
abbrev pub CallsReadAsAClient : Type 0
CallsReadAsAClient = (limits : Bounds) (old new : RespPairing) (told : List (ℕ × Tree)) →
    old.answered + length told < 2 ^ 63 → Pairs limits old told new →
    ReadsAs limits (waiting_of old) (map value (trees_of told)) (flat_map text (trees_of told)) (waiting_of new) ×
    (replies_told told ≡ numbered_replies (old.answered + 1) (map value (trees_of told)))
