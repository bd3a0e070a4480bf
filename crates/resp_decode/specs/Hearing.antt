-- The events that a decoder's listener has received, and the effect of a call on its state.
use Rattle.std.specs.Prelude.{◌≡◌, ◌+◌, ◌<◌, ◌^◌, Bool, true}
use Rattle.resp_scan.specs.Reading.{Events}
use Rattle.resp_decode.specs.Builds.{built_from, nothing, with_events}
use Rattle.resp_decode.specs.Fits.{MayAllCome, events_weight}
use Rattle.resp_decode.specs.Holding.{construction_of}
use Rattle.resp_decode.specs.declared.held.HeldParts.{HeldParts}

-- the state is the result of these events, and so is its weight
pub record HasHeard (held : HeldParts) (es : Events) : Type 0 where
  pub holds : construction_of held ≡ built_from es
  pub weighs : held.weight ≡ events_weight es nothing

-- nothing is held
abbrev pub HoldsNothing : HeldParts → Type 0
HoldsNothing held = (held.weight ≡ 0) × (construction_of held ≡ nothing)

-- more events are applied, which may come next, and for whose weight there is room
pub record TakesIn (old new : HeldParts) (more : Events) : Type 0 where
  pub holds : construction_of new ≡ with_events more (construction_of old)
  pub weighs : new.weight ≡ old.weight + events_weight more (construction_of old)

-- if the events may come next, there is room for their weight, and the call continues, they are applied
abbrev pub TakesInWhereFit : HeldParts → HeldParts → Events → Bool → Type 0
TakesInWhereFit old new more goes_on = MayAllCome more (construction_of old) →
    old.weight + events_weight more (construction_of old) < 2 ^ 64 → goes_on ≡ true → TakesIn old new more
