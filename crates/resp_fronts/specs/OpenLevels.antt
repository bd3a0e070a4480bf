-- Open aggregates as a scanner counts them.
use Rattle.std.specs.Prelude.{◌≡◌, ℕ, suc, ◌+◌, ◌<◌, List, [], ◌∷◌, length}
use Rattle.resp_value.specs.Data.{Kind, members_of}
use Rattle.resp_value.specs.LocalRules.{HoldsFromEach, LeafRule, NodeRule}
use Rattle.resp_value.specs.Numbers.{IsDigits, number}
use Rattle.resp_value.specs.Trees.{AreTrees, Counted, Form, Streamed, count}
use Rattle.resp_fronts.specs.Frames.{Frame}
use Rattle.resp_fronts.specs.MayFollow.{CanAllEnd, CanEnd}

-- the members that a scanner counts: the members to come of a counted aggregate, or the members received of a streamed
-- one
pub data Shape : Type 0 where
  to_come : ℕ → Shape
  so_far : ℕ → Shape

-- an open aggregate, as a scanner counts it
pub record Level : Type 0 where
  pub kind : Kind
  pub shape : Shape

-- an aggregate of this form with n members has this shape
abbrev pub HasShape : Kind → Shape → Form → ℕ → Type 0
HasShape k (to_come m) f n = (ds : List ℕ) × (f ≡ Counted ds) × IsDigits ds × (members_of k (number ds) ≡ n + m) ×
    (0 < m)
HasShape k (so_far m) f n = (f ≡ Streamed) × (m ≡ n)

-- the levels count these frames
abbrev pub AreLevelsOf : List Level → List Frame → Type 0
AreLevelsOf [] [] = Unit {0}
AreLevelsOf (v ∷ vs) (f ∷ fs) = (v.kind ≡ f.kind) × HasShape f.kind v.shape f.form (count f.done) × AreLevelsOf vs fs
AreLevelsOf _ _ = ⊥

-- the frames of a scanner that waits for a member
abbrev pub AreReady : LeafRule → NodeRule → List Frame → Type 0
AreReady L N [] = Unit {0}
AreReady L N (f ∷ fs) = CanEnd N (length fs) f.kind f.form (count f.done) × AreTrees f.done ×
    HoldsFromEach L N (suc (length fs)) f.done × CanAllEnd L N fs
