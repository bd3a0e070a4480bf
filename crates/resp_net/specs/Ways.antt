-- The bytes that are forwarded in one direction.
use Rattle.std.specs.Prelude.{◌≡◌, ◌≢◌, ◌⊎◌, ℕ, ◌<◌, List, [], ◌++◌, length, Option, None, Some}
use Rattle.resp_net.specs.declared.way.Visited.{Visited}
use Rattle.resp_net.specs.declared.way.Visited.TheVariants.{OutOfMemory}
use Rattle.resp_io.specs.Devices.{Appends, count_after}

pub record WayState : Type 0 where
  -- the bytes that were read and wait to be written
  pub waiting : List ℕ

-- Bytes were read. If the device's remaining input is known, they are its first bytes.
abbrev pub HaveCome : Option (List ℕ) → Option (List ℕ) → List ℕ → Type 0
HaveCome None after came = Unit {0}
HaveCome (Some left) after came = (rest : List ℕ) × (left ≡ came ++ rest) × (after ≡ Some rest)

-- if the device's remaining input is known, it is empty
abbrev pub AtItsEnd : Option (List ℕ) → Type 0
AtItsEnd None = Unit {0}
AtItsEnd (Some left) = left ≡ []

-- the first bytes that waited were written, and the others wait
pub record Sends (out out' : Option (List ℕ)) (waiting waiting' : List ℕ) : Type 0 where
  pub gone : List ℕ
  pub written : Appends out out' gone
  pub whole : waiting ≡ gone ++ waiting'

-- The first bytes were written, and the others wait. If memory was out, the others are lost.
pub record SendsOrLoses (out out' : Option (List ℕ)) (piece waiting' : List ℕ) (visited : Visited) : Type 0 where
  pub rest : List ℕ
  pub sends : Sends out out' piece rest
  pub waits : visited ≢ OutOfMemory → rest ≡ waiting'

-- fewer bytes wait than before, or a write failed
abbrev pub MovesOrFails : List ℕ → List ℕ → ℕ → ℕ → Type 0
MovesOrFails waiting waiting' failures failures' =
    (length waiting' < length waiting) ⊎ (failures' ≡ count_after 1 failures)

-- Bytes were read from one side. The bytes that waited, followed by these, are the bytes written to the other side,
-- followed by the bytes that wait now: no byte is lost, changed, doubled or reordered.
pub record HandsOn (left left' out out' : Option (List ℕ)) (waiting waiting' came : List ℕ) : Type 0 where
  pub come : HaveCome left left' came
  pub gone : List ℕ
  pub written : Appends out out' gone
  pub whole : waiting ++ came ≡ gone ++ waiting'

-- Bytes were read, and handed on. If memory was out, the bytes that were not written are lost.
pub record HandsOnOrLoses (left left' out out' : Option (List ℕ)) (waiting waiting' came : List ℕ) (visited : Visited) : Type 0 where
  pub rest : List ℕ
  pub hands : HandsOn left left' out out' waiting rest came
  pub waits : visited ≢ OutOfMemory → rest ≡ waiting'

-- successive visits forward what one visit of all their bytes would forward
abbrev pub VisitsAddUp : Type 0
VisitsAddUp = (left left' left'' out out' out'' : Option (List ℕ)) (waiting waiting' waiting'' came more : List ℕ) →
    HandsOn left left' out out' waiting waiting' came → HandsOn left' left'' out' out'' waiting' waiting'' more →
    HandsOn left left'' out out'' waiting waiting'' (came ++ more)
