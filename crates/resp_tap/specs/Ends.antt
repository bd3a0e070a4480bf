-- The end of one side of a connection.
use Rattle.std.specs.Prelude.{◌≡◌, ◌<◌, ◌+◌, true, false, ℕ, List, [], ◌∷◌, ◌++◌, length, Option, None, Some, codes, decimal}
use Rattle.resp_tap.specs.Stamps.{ending_text}
use Rattle.resp_tap.specs.Taps.{tap_state}
use Rattle.resp_tap.specs.Texts.{about_client, place_text}
use Rattle.resp_tap.specs.Watching.{WhereAnswered, WhereRequested, place_of_value}
use Rattle.resp_tap.specs.declared.end.Cut.{Cut}
use Rattle.resp_tap.specs.declared.seen.Place.{Place}
use Rattle.resp_tap.specs.declared.seen.Place.TheVariants as place
use Rattle.resp_tap.specs.declared.stamp.Stamp.{Stamp}
use Rattle.resp_tap.specs.declared.tap.Tap.{Tap}
use Rattle.resp_tap.specs.declared.watch.Side.{Side}
use Rattle.resp_tap.specs.declared.watch.Side.TheVariants.{Client, Server}

-- the incomplete part that these bytes begin, if there are any
abbrev pub cut_of : Place → List ℕ → Option Cut
cut_of where' [] = None
cut_of where' (byte ∷ bytes) = Some (record { place = where'; bytes = length (byte ∷ bytes) })

-- The incomplete command of the client: that of these bytes of a line, or that of an array.
pub record CutsCommand (held : List ℕ) (t : Tap) (cut : Option Cut) : Type 0 where
  pub line : (tap_state t).reads_commands ≡ true → 0 < length held →
      cut ≡ cut_of (place.Command ((tap_state t).commands + 1)) held
  pub array : (tap_state t).reads_commands ≡ true → held ≡ [] →
      WhereRequested t (λ front. cut ≡ cut_of (place.Command ((tap_state t).commands + 1)) front)
  pub unread : (tap_state t).reads_commands ≡ false → cut ≡ None

-- the incomplete reply or value of the server
pub record CutsReply (t : Tap) (cut : Option Cut) : Type 0 where
  pub read : (tap_state t).reads_replies ≡ true → WhereAnswered t (λ front. cut ≡ cut_of (place_of_value (tap_state t)) front)
  pub unread : (tap_state t).reads_replies ≡ false → cut ≡ None

-- what is incomplete of this side, if the client has sent these bytes of a line
abbrev pub CutsOff : Side → List ℕ → Tap → Option Cut → Type 0
CutsOff Client held t cut = CutsCommand held t cut
CutsOff Server held t cut = CutsReply t cut

-- the words about the side that has ended
abbrev pub ended_words : Side → List ℕ
ended_words Client = codes " closed"
ended_words Server = codes ": the server closed the connection"

-- the parenthesis before the name of a connection, if it has one
abbrev pub before_name : List ℕ → List ℕ
before_name [] = []
before_name (byte ∷ name) = codes " ("

-- the parenthesis after it
abbrev pub after_name : List ℕ → List ℕ
after_name [] = []
after_name (byte ∷ name) = codes ")"

-- a line about a client's connection with this name, if it has one
abbrev pub about_connection : ℕ → List ℕ → List ℕ → List ℕ
about_connection client name rest = about_client client (before_name name) (name ++ (after_name name ++ rest))

-- a line about a client's connection
abbrev pub named_line : ℕ → List ℕ → List ℕ → Option Stamp → List ℕ
named_line client name what stamp = about_connection client name (what ++ ending_text stamp)

-- the line about a side that has ended inside a command, reply or value
abbrev pub cut_end : ℕ → List ℕ → Side → Cut → Option Stamp → List ℕ
cut_end client name side cut stamp = about_connection client name (ended_words side ++ (codes " in " ++
    (place_text cut.place ++ ((codes ", after " ++ decimal cut.bytes) ++ (codes " bytes" ++ ending_text stamp)))))

-- the line about the side that has ended
abbrev pub end_text : ℕ → List ℕ → Side → Option Cut → Option Stamp → List ℕ
end_text client name side None stamp = named_line client name (ended_words side) stamp
end_text client name side (Some cut) stamp = cut_end client name side cut stamp
