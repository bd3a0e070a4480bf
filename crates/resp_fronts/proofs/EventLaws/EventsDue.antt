-- The events due of a front: those of what its frames have taken, and of the begun value those at its begun bytes.
use Rattle.std.proofs.Common.{◌≡◌, ℕ, suc, ◌+◌, ◌<◌, ◌≤◌, Bool, true, false, cond, ltb, List, [], ◌∷◌, ◌++◌, length, refl, sym, ap, subst, ◌∙◌, arith, append_assoc, append-nil, length-append}
use Rattle.std.specs.List.{AllByRecursion}
use Rattle.std.proofs.lemmas.Bool.{lt-ltb, le-ltb}
use Rattle.resp_value.specs.Trees.{Tree, Trees, leaf, node, none, more, text, texts, count, close, IsTree, AreTrees}
use Rattle.resp_value.specs.LocalRules.{LeafRule, NodeRule, HoldsFrom, HoldsFromEach}
use Rattle.resp_value.proofs.FirstBytes.{byte_at_start}
use Rattle.resp_value.proofs.Unique.{unique}
use Rattle.resp_value.proofs.DefaultLimits.{text_at_least}
use Rattle.resp_fronts.specs.Frames.{Frame, open_text, text_around}
use Rattle.resp_fronts.specs.MayFollow.{MembersThen, MayFollowValue, ValueThen, AreKept, AreOpen}
use Rattle.resp_fronts.specs.Events.{Timed, events, events_each, close_event, events_around, events_due, without_places}
use Rattle.resp_fronts.proofs.FrameLaws.OpenFrames.{joined_trees}
use Rattle.resp_fronts.proofs.FrameLaws.Composition.{around-append, text-node, frame_value, compose_member, determine, first_member}
use Rattle.resp_fronts.proofs.EventLaws.EventsAround.{events-node, length-around}
use Rattle.resp_fronts.proofs.EventLaws.EventPlaces.{AreWithin, within_wider, each_within, around_within}

-- each event comes at this byte or after it
abbrev pub AreFrom : ℕ → List Timed → Type 0
AreFrom from es = AllByRecursion (λ e. from ≤ e.at) es

-- one list after another
pub due-append : (n : ℕ) (a b : List Timed) → events_due n (a ++ b) ≡ events_due n a ++ events_due n b
due-append n [] b = refl
due-append n (e ∷ a) b = cases (ltb e.at n) (due-append n a b)
  where
    cases : (t : Bool) → events_due n (a ++ b) ≡ events_due n a ++ events_due n b → cond t (e.event ∷ events_due n (a ++ b)) (events_due n (a ++ b)) ≡
        cond t (e.event ∷ events_due n a) (events_due n a) ++ events_due n b
    cases true h = ap (λ z. e.event ∷ z) h
    cases false h = h

-- events that come before a byte are due there
pub due_all : (from n : ℕ) (es : List Timed) → AreWithin from n es → events_due n es ≡ without_places es
due_all from n [] p = refl
due_all from n (e ∷ es) p = rw (lt-ltb e.at n p.0.1) (ap (λ z. e.event ∷ z) (due_all from n es p.1))

-- events that come after this many bytes are not due
pub due_none : (n : ℕ) (es : List Timed) → AreFrom n es → events_due n es ≡ []
due_none n [] p = refl
due_none n (e ∷ es) p = rw (le-ltb e.at n p.0) (due_none n es p.1)

-- the tree that a value in a frame makes of the frame
frame_tree : (L : LeafRule) (N : NodeRule) (f : Frame) (fs : List Frame) (x : List ℕ) (p : AreTrees f.done) (q : HoldsFromEach L N (suc (length fs)) f.done)
    (m : ValueThen L N (f ∷ fs) x) → (ts : Trees) × ((frame_value L N f fs x p q m).tree ≡ node f.kind f.form (joined_trees f.done (more m.tree ts)))
unfolding frame_value
frame_tree L N f fs x p q m =
    let a : MembersThen L N (length fs) f.kind f.form (suc (count f.done)) (MayFollowValue L N fs) m.rest = m.after in
    (a.members, refl)

-- each event comes at the byte before this one, or after it
abbrev pub AreAbout : ℕ → List Timed → Type 0
AreAbout from es = AllByRecursion (λ e. from ≤ e.at + 1) es

about-append : (from : ℕ) (a b : List Timed) → AreAbout from a → AreAbout from b → AreAbout from (a ++ b)
about-append from [] b p q = q
about-append from (e ∷ a) b p q = (p.0, about-append from a b p.1 q)

about_earlier : (from low : ℕ) (es : List Timed) → low ≤ from → AreAbout from es → AreAbout low es
about_earlier from low [] l p = tt
about_earlier from low (e ∷ es) l p = (omega (arith, p.0), about_earlier from low es l p.1)

about_within : (from to : ℕ) (es : List Timed) → AreWithin from to es → AreAbout from es
about_within from to [] p = tt
about_within from to (e ∷ es) p = (omega (arith, p.0.0), about_within from to es p.1)

-- the events of the tree that a value makes with the frames around it, the later ones at the value's last byte or after it
pub record EventsThen (frames : List Frame) (value whole : Tree) : Type 0 where
  pub later : List Timed
  pub are : events 0 whole ≡ events_around frames ++ (events (length (text_around frames [])) value ++ later)
  pub beyond : AreAbout (length (text_around frames (text value))) later

-- within one frame more
events_in_frame : (f : Frame) (fs : List Frame) (value : Tree) (ts : Trees) (whole : Tree) →
    EventsThen fs (node f.kind f.form (joined_trees f.done (more value ts))) whole → EventsThen (f ∷ fs) value whole
events_in_frame f fs value ts whole h =
    let start = length (text_around fs []) in
    let u = node f.kind f.form (joined_trees f.done (more value ts)) in
    let here = events (length (text_around (f ∷ fs) [])) value in
    let next = length (text_around (f ∷ fs) (text value)) in
    let mid = events_each next ts ++ close_event start (text u) ∷ [] in
    let total : length (text_around fs (text u)) ≡ start + length (text u) = length-around fs (text u) in
    let inner : length (text u) ≡ length (open_text f ++ ((text value ++ texts ts) ++ close f.form)) =
    sym (ap length (append-nil (text u))) ∙ ap length (text-node f (more value ts) []) ∙
    ap (λ z. length (open_text f ++ z)) (append-nil ((text value ++ texts ts) ++ close f.form)) in
    let outer : next ≡ start + length (open_text f ++ text value) = length-around fs (open_text f ++ text value) in
    let size : next ≤ start + length (text u) = omega (
      arith,
      length-append (open_text f) ((text value ++ texts ts) ++ close f.form),
      length-append (text value ++ texts ts) (close f.form),
      length-append (text value) (texts ts),
      length-append (open_text f) (text value),
    ) in
    record {
      later = mid ++ h.later;
      are = h.are ∙ sym (append_assoc (events_around fs) (events start u) h.later) ∙ ap (λ z. z ++ h.later) (events-node f fs value ts) ∙
          append_assoc (events_around (f ∷ fs)) (here ++ mid) h.later ∙ ap (λ z. events_around (f ∷ fs) ++ z) (append_assoc here mid h.later);
      beyond = about-append next mid h.later
          (about-append next (events_each next ts) _ (about_within next (next + length (texts ts)) (events_each next ts) (each_within next ts))
          (omega (arith, text_at_least u), tt))
          (about_earlier (length (text_around fs (text u))) next h.later (omega arith) h.beyond);
    }

-- the events of a whole front, by the value that its frames are around
pub compose_events : (L : LeafRule) (N : NodeRule) (fs : List Frame) (x : List ℕ) (kept : AreKept L N fs) (m : ValueThen L N fs x) →
    EventsThen fs m.tree (compose_member L N fs x kept m).tree
unfolding compose_member
compose_events L N [] x kept m = record { later = []; are = sym (append-nil (events 0 m.tree)); beyond = tt }
compose_events L N (f ∷ fs) x kept m =
    let (ts, e) = frame_tree L N f fs x kept.0 kept.1 m in
    let whole = (compose_member L N fs (open_text f ++ x) kept.2 (frame_value L N f fs x kept.0 kept.1 m)).tree in
    events_in_frame f fs m.tree ts whole (subst (λ z. EventsThen fs z whole) e
    (compose_events L N fs (open_text f ++ x) kept.2 (frame_value L N f fs x kept.0 kept.1 m)))

-- no rule
abbrev AnyLeaf : LeafRule
AnyLeaf level l = Unit {0}

abbrev AnyNode : NodeRule
AnyNode level k form n = Unit {0}

mutual
  any_from : (level : ℕ) (u : Tree) → HoldsFrom AnyLeaf AnyNode level u
  any_from level (leaf l) = tt
  any_from level (node k form ts) = (tt, any_from_each (suc level) ts)

  any_from_each : (level : ℕ) (ts : Trees) → HoldsFromEach AnyLeaf AnyNode level ts
  any_from_each level none = tt
  any_from_each level (more u ts) = (any_from level u, any_from_each level ts)

any_kept : (fs : List Frame) → AreOpen fs → AreKept AnyLeaf AnyNode fs
any_kept [] o = tt
any_kept (f ∷ fs) o = (o.3, any_from_each (suc (length fs)) f.done, any_kept fs o.4)

-- the value that a spelled tree has where the frames leave off, and the tree's events by it
pub record BegunIn (frames : List Frame) (begun rest : List ℕ) (whole : Tree) : Type 0 where
  pub value : Tree
  pub beyond : List ℕ
  pub is_tree : IsTree value
  pub begins : text value ++ beyond ≡ begun ++ rest
  pub all : EventsThen frames value whole

-- each tree that a front begins has its frames' events first, then those of the value that it begins
pub front_events : (frames : List Frame) (begun rest : List ℕ) (whole : Tree) → AreOpen frames → (byte_at_start (begun ++ rest) ≡ 46 → ⊥) → IsTree whole →
    text whole ≡ text_around frames begun ++ rest → BegunIn frames begun rest whole
front_events frames begun rest whole o no_stop is_tree e =
    let spelled : text whole ≡ text_around frames (begun ++ rest) = e ∙ around-append frames begun rest in
    let m = first_member AnyLeaf AnyNode frames (begun ++ rest) o no_stop
    (determine AnyLeaf AnyNode frames (begun ++ rest) o (record { tree = whole; is_tree = is_tree; keep = any_from 0 whole; whole = spelled })) in
    let kept = any_kept frames o in
    let c = compose_member AnyLeaf AnyNode frames (begun ++ rest) kept m in
    let same = unique c.tree whole [] [] c.is_tree is_tree (ap (λ z. z ++ []) (c.whole ∙ sym spelled)) in
    record {
      value = m.tree;
      beyond = m.rest;
      is_tree = m.is_tree;
      begins = m.whole;
      all =
          subst (EventsThen frames m.tree) same.0 (compose_events AnyLeaf AnyNode frames (begun ++ rest) kept m);
    }

-- the events due of a front in which a value is begun: those of its frames, and those due of the value
pub due_around : (frames : List Frame) (begun : List ℕ) (value whole : Tree) → EventsThen frames value whole → length begun < length (text value) →
    events_due (length (text_around frames begun)) (events 0 whole) ≡ without_places (events_around frames) ++
    events_due (length (text_around frames begun)) (events (length (text_around frames [])) value)
due_around frames begun value whole h unfinished =
    let n = length (text_around frames begun) in
    let start = length (text_around frames []) in
    let place : n ≡ start + length begun = length-around frames begun in
    let end : length (text_around frames (text value)) ≡ start + length (text value) = length-around frames (text value) in
    ap (events_due n) h.are
    ∙ due-append n (events_around frames) (events start value ++ h.later)
    ∙ ap (λ z. z ++ events_due n (events start value ++ h.later))
    (due_all 0 n (events_around frames) (within_wider 0 start 0 n (events_around frames) (omega arith) (omega arith) (around_within frames)))
    ∙ ap (λ z. without_places (events_around frames) ++ z) (due-append n (events start value) h.later ∙
    ap (λ z. events_due n (events start value) ++ z) (due_none n h.later
    (beyond (length (text_around frames (text value))) n h.later (omega arith) h.beyond)) ∙ append-nil (events_due n (events start value)))
  where
    beyond : (from n : ℕ) (es : List Timed) → n < from → AreAbout from es → AreFrom n es
    beyond from n [] l p = tt
    beyond from n (e ∷ es) l p = (omega (arith, p.0), beyond from n es l p.1)
