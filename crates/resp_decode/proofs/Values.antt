-- What is known of the events given of a front: each could come, they weigh no more than the front, and at the end of a
-- value they build it.
use Rattle.std.proofs.Common.{◌≡◌, inl, inr, ℕ, ◌≤◌, Bool, true, false, cond, ltb, Some, List, [], ◌∷◌, ◌++◌, length, refl, ap, subst, ◌∙◌, arith}
use Rattle.resp_value.specs.Data as d
use Rattle.resp_value.specs.Trees as t
use Rattle.resp_value.specs.Trees.{Tree, Spells, text, leaf, node, line, numeral, null, truth, string, chunked}
use Rattle.resp_value.specs.TreeValues.{value}
use Rattle.resp_value.specs.Rules.{Rules, WithinTotal}
use Rattle.resp_value.specs.Spellings.{IsSpelling, IsViable}
use Rattle.resp_fronts.specs.Events.{Event, Timed, all_events, events_due, events, without_places}
use Rattle.resp_fronts.specs.Events as e
use Rattle.resp_scan.specs.Reading.{BeginDue, Events, IsValue}
use Rattle.resp_decode.specs.Builds.{Construction, Group, nothing, built_from, with_value, with_value_in, with_event, with_events}
use Rattle.resp_decode.specs.Brief.{AreBrief, IsBriefByte}
use Rattle.resp_decode.specs.Weights.{weight_of}
use Rattle.resp_decode.specs.Fits.{MayAllCome, events_weight}
use Rattle.resp_decode.proofs.Folds.{builds-tree}
use Rattle.resp_decode.proofs.Comes.{all_come, due_light, first_add, first_come}
use Rattle.resp_decode.proofs.Counted.{events_weigh}

-- what is known of the events given of a viable front
pub record AreGood (front : List ℕ) (es : Events) : Type 0 where
  pub may : MayAllCome es nothing
  pub light : events_weight es nothing ≤ length front
  pub weight : weight_of (built_from es) ≤ length front

pub are_good : (r : Rules) (front : List ℕ) (es : Events) → IsViable r WithinTotal front → BeginDue front es → AreGood front es
are_good r front es v begin =
    let (owed, is) = begin v.rest v.tree v.spells in
    let come = all_come v.tree v.spells.is_tree in
    let whole = due_light (length front) 0 0 (all_events v.tree) nothing (omega arith) come in
    let may : MayAllCome (es ++ owed) nothing = subst (λ z. MayAllCome z nothing) is whole.may in
    let first : MayAllCome es nothing = first_come es owed nothing may in
    let light : events_weight es nothing ≤ length front = omega (arith, whole.light, ap (λ z. events_weight z nothing) is, first_add es owed nothing) in
    record { may = first; light = light; weight = omega (arith, light, events_weigh es nothing first) }

-- a whole value is built of its events
pub record IsBuilt (r : Rules) (front : List ℕ) (es : Events) : Type 0 where
  pub tree : Tree
  pub spelling : IsSpelling r (value tree) front
  pub is : built_from es ≡ record nothing { whole = Some (value tree) }

pub value_is_built : (r : Rules) (front : List ℕ) (es : Events) → IsValue r front es → IsBuilt r front es
value_is_built r front es v = record {
  tree = v.tree;
  spelling = record { tree = v.tree; spells = v.spells; keeps = v.keeps; valued = refl };
  is = ap built_from v.told ∙ builds-tree 0 v.tree nothing refl;
}

-- Values without content.

-- the text begins with another byte
other_byte : (byte : ℕ) (front rest beyond : List ℕ) (wrong : ℕ) → wrong ∷ beyond ≡ (byte ∷ front) ++ rest → IsBriefByte byte → (wrong ≡ 58 → ⊥) →
    (wrong ≡ 35 → ⊥) → (wrong ≡ 95 → ⊥) → ⊥
other_byte byte front rest beyond wrong same brief a b c =
    let first : wrong ≡ byte = cc in
    elim brief [ inl p ↦ a (first ∙ p) | inr q ↦ elim q [ inl p ↦ b (first ∙ p) | inr p ↦ c (first ∙ p) ] ]

-- a tree whose text begins so has such events alone
brief_tree : (u : Tree) (byte : ℕ) (front rest : List ℕ) → text u ≡ (byte ∷ front) ++ rest → IsBriefByte byte → AreBrief (without_places (all_events u))
brief_tree (leaf (line t.Simple s)) byte front rest same brief = absurd
    (other_byte byte front rest _ 43 same brief (λ p. omega arith) (λ p. omega arith) (λ p. omega arith))
brief_tree (leaf (line t.Error s)) byte front rest same brief = absurd
    (other_byte byte front rest _ 45 same brief (λ p. omega arith) (λ p. omega arith) (λ p. omega arith))
brief_tree (leaf (line t.Double s)) byte front rest same brief = absurd
    (other_byte byte front rest _ 44 same brief (λ p. omega arith) (λ p. omega arith) (λ p. omega arith))
brief_tree (leaf (numeral t.Int sign digits)) byte front rest same brief = (tt, (tt, tt))
brief_tree (leaf (numeral t.Big sign digits)) byte front rest same brief =
    absurd (other_byte byte front rest _ 40 same brief (λ p. omega arith) (λ p. omega arith) (λ p. omega arith))
brief_tree (leaf (null form)) byte front rest same brief = (tt, (tt, tt))
brief_tree (leaf (truth b)) byte front rest same brief = (tt, (tt, tt))
brief_tree (leaf (string t.Bulk digits s)) byte front rest same brief =
    absurd (other_byte byte front rest _ 36 same brief (λ p. omega arith) (λ p. omega arith) (λ p. omega arith))
brief_tree (leaf (string t.BulkError digits s)) byte front rest same brief =
    absurd (other_byte byte front rest _ 33 same brief (λ p. omega arith) (λ p. omega arith) (λ p. omega arith))
brief_tree (leaf (string (t.Verbatim format) digits s)) byte front rest same brief =
    absurd (other_byte byte front rest _ 61 same brief (λ p. omega arith) (λ p. omega arith) (λ p. omega arith))
brief_tree (leaf (chunked cs zeros)) byte front rest same brief =
    absurd (other_byte byte front rest _ 36 same brief (λ p. omega arith) (λ p. omega arith) (λ p. omega arith))
brief_tree (node d.Array form us) byte front rest same brief = absurd
    (other_byte byte front rest _ 42 same brief (λ p. omega arith) (λ p. omega arith) (λ p. omega arith))
brief_tree (node d.Set form us) byte front rest same brief = absurd
    (other_byte byte front rest _ 126 same brief (λ p. omega arith) (λ p. omega arith) (λ p. omega arith))
brief_tree (node d.Map form us) byte front rest same brief = absurd
    (other_byte byte front rest _ 37 same brief (λ p. omega arith) (λ p. omega arith) (λ p. omega arith))
brief_tree (node d.Attr form us) byte front rest same brief = absurd
    (other_byte byte front rest _ 124 same brief (λ p. omega arith) (λ p. omega arith) (λ p. omega arith))
brief_tree (node d.Push form us) byte front rest same brief = absurd
    (other_byte byte front rest _ 62 same brief (λ p. omega arith) (λ p. omega arith) (λ p. omega arith))

-- what is due of such events is such
brief_due : (n : ℕ) (xs : List Timed) → AreBrief (without_places xs) → AreBrief (events_due n xs)
brief_due n [] h = tt
brief_due n (x ∷ xs) h = case (ltb x.at n) (brief_due n xs h.1)
  where
    case : (early : Bool) → AreBrief (events_due n xs) → AreBrief (cond early (x.event ∷ events_due n xs) (events_due n xs))
    case true others = (h.0, others)
    case false others = others

pub brief_first : (es owed : List Event) → AreBrief (es ++ owed) → AreBrief es
brief_first [] owed h = tt
brief_first (x ∷ es) owed h = (h.0, brief_first es owed h.1)

-- the events given of a front that begins so are such
pub are_brief : (r : Rules) (byte : ℕ) (front : List ℕ) (es : Events) → IsBriefByte byte → IsViable r WithinTotal (byte ∷ front) → BeginDue (byte ∷ front) es →
    AreBrief es
are_brief r byte front es brief v begin =
    let (owed, is) = begin v.rest v.tree v.spells in
    brief_first es owed (subst AreBrief is (brief_due (length (byte ∷ front)) (all_events v.tree) (brief_tree v.tree byte front v.rest v.spells.spelled brief)))

put_groups : (x : d.Datum) (b : Construction) → b.groups ≡ [] → (with_value x b).groups ≡ []
put_groups x b none = case b.groups none
  where
    case : (gs : List Group) → gs ≡ [] → (with_value_in gs x b).groups ≡ []
    case [] e = none
    case (g ∷ gs) e = absurd (cc)

-- such events open no aggregate
pub brief_groups : (es : List Event) (b : Construction) → AreBrief es → b.groups ≡ [] → (with_events es b).groups ≡ []
brief_groups [] b h none = none
brief_groups (e.Null ∷ es) b h none = brief_groups es (with_event e.Null b) h.1 (put_groups (d.scalar d.Null) b none)
brief_groups (e.Bool v ∷ es) b h none = brief_groups es (with_event (e.Bool v) b) h.1 (put_groups (d.scalar (d.Bool v)) b none)
brief_groups (e.Int number ∷ es) b h none = brief_groups es (with_event (e.Int number) b) h.1 (put_groups (d.scalar (d.Int number)) b none)
brief_groups (e.Text kind ∷ es) b h none = absurd h.0
brief_groups (e.Byte byte ∷ es) b h none = absurd h.0
brief_groups (e.TextEnd ∷ es) b h none = absurd h.0
brief_groups (e.Open kind members ∷ es) b h none = absurd h.0
brief_groups (e.Close ∷ es) b h none = absurd h.0
brief_groups (e.Done ∷ es) b h none = brief_groups es b h.1 none
