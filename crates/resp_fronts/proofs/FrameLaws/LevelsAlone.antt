-- What may come after a value, from the levels alone: the front's bytes don't matter.
use Rattle.std.proofs.Common.{◌++◌, ◌+◌, ◌∷◌, ◌≡◌, List, [], ap, arith, length, refl, subst, suc, ℕ}
use Rattle.resp_value.specs.Bytes.{crlf}
use Rattle.resp_value.specs.Data.{Kind, members_of}
use Rattle.resp_value.specs.LocalRules.{HoldsFromEach, LeafRule, NodeRule}
use Rattle.resp_value.specs.Numbers.{number}
use Rattle.resp_value.specs.Trees.{AreTrees, CanStream, Counted, Form, HasMembers, Streamed, Trees, close, count, texts}
use Rattle.resp_fronts.specs.Frames.{Frame}
use Rattle.resp_fronts.specs.OpenLevels.{AreLevelsOf, HasShape, Level, Shape, to_come, so_far}

-- that this many members may come after the open one
abbrev pub MayCount : NodeRule → ℕ → Kind → Shape → ℕ → Type 0
MayCount N l k (to_come m) c = suc c ≡ m
MayCount N l k (so_far m) c = CanStream k (suc m + c) × N l k Streamed (suc m + c)

-- what closes an aggregate of this shape
abbrev pub shape_close : Shape → List ℕ
shape_close (to_come m) = []
shape_close (so_far m) = 46 ∷ crlf []

-- the members after the open one, the close, and a rest of which P holds
pub record LaterMembers (L : LeafRule) (N : NodeRule) (l : ℕ) (v : Level) (P : List ℕ → Type 0) (x : List ℕ) : Type 0 where
  pub members : Trees
  pub rest : List ℕ
  pub are_trees : AreTrees members
  pub keep : HoldsFromEach L N (suc l) members
  pub counts : MayCount N l v.kind v.shape (count members)
  pub whole : (texts members ++ shape_close v.shape) ++ rest ≡ x
  pub after : P rest

-- what may follow a whole value, by the levels alone
abbrev pub MayFollowLevels : LeafRule → NodeRule → List Level → List ℕ → Type 0
MayFollowLevels L N [] x = x ≡ []
MayFollowLevels L N (v ∷ vs) x = LaterMembers L N (length vs) v (MayFollowLevels L N vs) x

-- there are as many levels as frames
pub same_length : (vs : List Level) (fs : List Frame) → AreLevelsOf vs fs → length vs ≡ length fs
same_length [] [] h = refl
same_length [] (f ∷ fs) h = absurd h
same_length (v ∷ vs) [] h = absurd h
same_length (v ∷ vs) (f ∷ fs) h = omega (arith, same_length vs fs h.2)

may_count : (N : NodeRule) (l : ℕ) (k : Kind) (s : Shape) (f : Form) (n c : ℕ) → HasShape k s f n → HasMembers k f (suc n + c) → N l k f (suc n + c) →
    MayCount N l k s c × (close f ≡ shape_close s)
may_count N l k (to_come m) (Counted ds) n c h i g =
    let e : Counted ds ≡ Counted h.0 = h.1 in
    let d : ds ≡ h.0 = cc in
    let b : members_of k (number ds) ≡ members_of k (number h.0) = ap (λ z. members_of k (number z)) d in
    (omega (arith, i.1, h.3), refl)
may_count N l k (to_come m) Streamed n c h i g = let e : Streamed ≡ Counted h.0 = h.1 in absurd (cc)
may_count N l k (so_far m) (Counted ds) n c h i g = let e : Counted ds ≡ Streamed = h.0 in absurd (cc)
may_count N l k (so_far m) Streamed n c h i g = let e : suc n + c ≡ suc m + c = omega (arith, h.1) in
    ((subst (CanStream k) e i, subst (N l k Streamed) e g), refl)
