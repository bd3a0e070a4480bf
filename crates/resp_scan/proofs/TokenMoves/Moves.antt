-- What bytes make of what has come: inside a value, at its end, and where one begins.
use Rattle.std.specs.Prelude.{false, cond, eqb, ℕ, ◌+◌, ◌<◌, List}
use Rattle.std.proofs.lemmas.Bool.Decides.{nat_tests}
use Rattle.std.proofs.Common.{◌≡◌, ℕ, zero, suc, ◌+◌, ◌-◌, List, [], ◌∷◌, ◌++◌, length, refl, sym, ap, subst, ◌∙◌, arith, append_assoc}
use Rattle.resp_value.specs.Data.{members_of}
use Rattle.resp_value.specs.Numbers.{number}
use Rattle.resp_value.specs.Trees as t
use Rattle.resp_value.specs.Trees.{Tree, Trees, Form, Counted, Streamed, IsTree, close, count, form_line, kind_byte, none, text}
use Rattle.resp_value.specs.Rules.{Rules, WithinItems}
use Rattle.resp_value.specs.LocalRules.{LeafKeeps, NodeKeeps, HoldsFrom}
use Rattle.resp_value.specs.Kinds.{kind_of}
use Rattle.resp_fronts.specs.Frames as opened
use Rattle.resp_fronts.specs.Frames.{text_around}
use Rattle.resp_fronts.specs.MayFollow.{CanAllEnd, CanEnd, members_missing}
use Rattle.resp_fronts.specs.Events.{Event, Timed, events, events_around, without_places}
use Rattle.resp_fronts.proofs.FrameLaws.Composition.{around-append, joined_trees_hold}
use Rattle.resp_fronts.proofs.FrameLaws.OpenFrames.{are_joined, count-joined_trees, joined_trees}
use Rattle.resp_fronts.proofs.FrameLaws.Levels.{around-with, with_member}
use Rattle.resp_fronts.proofs.FrameLaws.LevelsAlone.{same_length}
use Rattle.resp_fronts.proofs.EventLaws.EventsAround.{events-member}
use Rattle.resp_fronts.proofs.Tokens.BegunFronts.{FollowsBy}
use Rattle.resp_fronts.specs.OpenLevels.{AreLevelsOf, AreReady, HasShape}
use Rattle.resp_scan.specs.declared.frame.Frame.{Frame}
use Rattle.resp_scan.specs.declared.frame.Shape.{Shape}
use Rattle.resp_scan.specs.declared.frame.Shape.TheVariants.{Left, Begun}
use Rattle.resp_scan.specs.Machine.Tokens.{AtStart, AtEnd, token_at_boundary, token_in_shape, Place}
use Rattle.resp_scan.specs.Machine.Standing.{HasBegunMember, HaveBegun, IsInside, StandsAfterAt, busy_shape, busy_levels, StandsAfter, Leads, HasCountsOf}
use Rattle.resp_scan.specs.declared.machine.Head.{Head}
use Rattle.resp_scan.specs.declared.machine.Head.TheVariants.{Bulk, BulkError, Verbatim, Chunk}
use Rattle.resp_scan.specs.Machine.Moves.{next}

-- the place that a byte leads to lies at the longer front, and a byte that is refused has its cause
abbrev pub ALead : Place → Type 0
ALead s = (used byte : ℕ) (front : List ℕ) (es : List Event) → byte < 256 → HasCountsOf s used front → StandsAfter s front es →
    Leads s front es byte (next s (used + 1) byte)

-- the head of an aggregate
abbrev pub IsOfAggregate : Head → Type 0
IsOfAggregate Bulk = ⊥
IsOfAggregate BulkError = ⊥
IsOfAggregate Verbatim = ⊥
IsOfAggregate (Chunk room) = ⊥
IsOfAggregate _ = Unit {0}

-- the head of a string that isn't streamed
abbrev pub IsOfString : Head → Type 0
IsOfString Bulk = Unit {0}
IsOfString BulkError = Unit {0}
IsOfString Verbatim = Unit {0}
IsOfString _ = ⊥

-- Lists of events.

-- events and more events, without their places
pub given-append : (a b : List Timed) → without_places (a ++ b) ≡ without_places a ++ without_places b
given-append [] b = refl
given-append (e ∷ es) b = ap (λ z. e.event ∷ z) (given-append es b)

-- Levels.

-- as many levels are busy as frames are open
pub length-busy : (fs : List Frame) → length (busy_levels fs) ≡ length fs
length-busy [] = refl
length-busy (f ∷ fs) = ap suc (length-busy fs)

-- as many frames as the scanner has
pub at_level : {r : Rules} {T : ℕ → List ℕ → List Event → Type 0} {fs : List Frame} {front : List ℕ} {es : List Event} (w : IsInside r T fs front es) →
    length w.frames ≡ length fs
at_level {fs = fs} w = sym (same_length (busy_levels fs) w.frames w.of_levels) ∙ length-busy fs

-- bytes of which T tells something
abbrev pub Tells : (ℕ → List ℕ → List Event → Type 0) → ℕ → List ℕ → Type 0
Tells T level bytes = (shown : List Event) × T level bytes shown

-- the events aside
pub follows_by : (r : Rules) (T : ℕ → List ℕ → List Event → Type 0) (fs : List Frame) (front : List ℕ) (es : List Event) → IsInside r T fs front es →
    FollowsBy r (Tells T) (busy_levels fs) front
follows_by r T fs front es w = record {
  frames = w.frames;
  bytes = w.bytes;
  of_levels = w.of_levels;
  can_end = w.can_end;
  took = (w.shown, w.took);
  whole =
      w.whole;
}

-- a longer front has more bytes within the same frames
pub longer : (frames : List opened.Frame) (front bytes more : List ℕ) → front ≡ text_around frames bytes → front ++ more ≡ text_around frames (bytes ++ more)
longer frames front bytes more e = ap (λ q. q ++ more) e ∙ around-append frames bytes more

-- bytes more of the same value, and events more
pub tells : (r : Rules) (T U : ℕ → List ℕ → List Event → Type 0) (fs : List Frame) (front more : List ℕ) (es new : List Event) → IsInside r T fs front es →
    ((level : ℕ) (bytes : List ℕ) (shown : List Event) → level ≡ length fs → T level bytes shown → U level (bytes ++ more) (shown ++ new)) →
    IsInside r U fs (front ++ more) (es ++ new)
tells r T U fs front more es new w step = record {
  frames = w.frames;
  bytes = w.bytes ++ more;
  shown = w.shown ++ new;
  begun = w.begun;
  of_levels = w.of_levels;
  can_end = w.can_end;
  took = step (length w.frames) w.bytes w.shown (at_level w) w.took;
  whole = longer w.frames front w.bytes more w.whole;
  told = ap (λ z. z ++ new) w.told ∙ append_assoc (without_places (events_around w.frames)) w.shown new;
}

-- more bytes without an event lead within the same value
pub goes : (r : Rules) (T U : ℕ → List ℕ → List Event → Type 0) (fs : List Frame) (front more : List ℕ) (es : List Event) → IsInside r T fs front es →
    ((level : ℕ) (bytes : List ℕ) (shown : List Event) → level ≡ length fs → T level bytes shown → U level (bytes ++ more) shown) →
    IsInside r U fs (front ++ more) es
goes r T U fs front more es w step = record {
  frames = w.frames;
  bytes = w.bytes ++ more;
  shown = w.shown;
  begun = w.begun;
  of_levels = w.of_levels;
  can_end = w.can_end;
  took = step (length w.frames) w.bytes w.shown (at_level w) w.took;
  whole = longer w.frames front w.bytes more w.whole;
  told = w.told;
}

-- bytes within a value, as another token tells them
pub retold : (r : Rules) (T U : ℕ → List ℕ → List Event → Type 0) (fs : List Frame) (front : List ℕ) (es : List Event) → IsInside r T fs front es →
    ((level : ℕ) (bytes : List ℕ) (shown : List Event) → T level bytes shown → U level bytes shown) → IsInside r U fs front es
retold r T U fs front es w words = record {
  frames = w.frames;
  bytes = w.bytes;
  shown = w.shown;
  begun = w.begun;
  of_levels = w.of_levels;
  can_end = w.can_end;
  took = words (length w.frames) w.bytes w.shown w.took;
  whole = w.whole;
  told = w.told;
}

-- the bytes end a tree, whose events are those shown and these
pub record Ends (r : Rules) (level : ℕ) (bytes : List ℕ) (shown : List Event) : Type 0 where
  pub tree : Tree
  pub is_tree : IsTree tree
  pub keep : HoldsFrom (LeafKeeps r WithinItems) (NodeKeeps r WithinItems) level tree
  pub whole : text tree ≡ bytes
  pub told : (from : ℕ) → without_places (events from tree) ≡ shown

-- a member more, where the innermost frame has it counted already
ready_with : (r : Rules) (g : opened.Frame) (gs : List opened.Frame) (u : Tree) → CanAllEnd (LeafKeeps r WithinItems) (NodeKeeps r WithinItems) (g ∷ gs) →
    IsTree u → HoldsFrom (LeafKeeps r WithinItems) (NodeKeeps r WithinItems) (suc (length gs)) u →
    AreReady (LeafKeeps r WithinItems) (NodeKeeps r WithinItems) (with_member g u ∷ gs)
ready_with r g gs u o p q =
    let us : Trees = t.more u none in
    let c : suc (count g.done) ≡ count (joined_trees g.done us) = omega (arith, count-joined_trees g.done us) in (
      subst (CanEnd (NodeKeeps r WithinItems) (length gs) g.kind g.form) c o.0,
      are_joined g.done us o.1 (p, tt),
      joined_trees_hold (LeafKeeps r WithinItems) (NodeKeeps r WithinItems) (suc (length gs)) g.done us o.2 (q, tt),
      o.3,
    )

count_with : (g : opened.Frame) (u : Tree) → count (with_member g u).done ≡ count g.done + 1
count_with g u = omega (arith, count-joined_trees g.done (t.more u none))

-- the innermost frame has all of its members, or waits for one more
member_ends : (r : Rules) (f : Frame) (fs : List Frame) (g : opened.Frame) (gs : List opened.Frame) (u : Tree) (shape : Shape) (front : List ℕ)
    (es : List Event) → kind_of f.kind ≡ g.kind → HasShape g.kind (busy_shape shape) g.form (count g.done) → HasBegunMember shape → HaveBegun fs →
    AreLevelsOf (busy_levels fs) gs → AreReady (LeafKeeps r WithinItems) (NodeKeeps r WithinItems) (with_member g u ∷ gs) →
    front ≡ text_around (with_member g u ∷ gs) [] → es ≡ without_places (events_around (with_member g u ∷ gs)) →
    StandsAfterAt r (token_in_shape shape) (record f { shape = shape } ∷ fs) front es
member_ends r f fs g gs u (Left zero) front es k h b bs a o e told =
    let c = count_with g u in
    let m : members_of g.kind (number h.0) ≡ count g.done + (0 + 1) = h.3 in
    let x : members_missing g.kind g.form (count (with_member g u).done) ≡ members_missing g.kind (Counted h.0) (count (with_member g u).done) =
    ap (λ z. members_missing g.kind z (count (with_member g u).done)) h.1 in
    record {
      frame = with_member g u;
      outer = gs;
      begun = bs;
      of_kind = k;
      has_all = omega arith;
      closes = ap close h.1;
      of_levels = a;
      ready = o;
      whole = e;
      told = told;
    }
member_ends r f fs g gs u (Left (suc n)) front es k h b bs a o e told =
    let c = count_with g u in
    let m : members_of g.kind (number h.0) ≡ count g.done + (suc n + 1) = h.3 in
    let z : eqb (suc n) 0 ≡ false = grind (arith, nat_tests) in
    subst (λ v. StandsAfterAt r (cond v AtEnd AtStart) (record f { shape = Left (suc n) } ∷ fs) front es) (sym z) (record {
      frames = with_member g u ∷ gs;
      begun = bs;
      of_levels = (k, (h.0, h.1, h.2, omega arith, omega arith), a);
      ready = o;
      whole = e;
      told = told;
    })
member_ends r f fs g gs u (Begun n) front es k h b bs a o e told =
    let c = count_with g u in
    let m : n - 1 ≡ count g.done = h.1 in
    record {
      frames = with_member g u ∷ gs;
      begun = bs;
      of_levels = (k, (h.0, omega arith), a);
      ready = o;
      whole = e;
      told = told;
    }

-- a whole value within open frames
pub value_lies : (r : Rules) (fs : List Frame) (frames : List opened.Frame) (u : Tree) (front : List ℕ) (es : List Event) → HaveBegun fs →
    AreLevelsOf (busy_levels fs) frames → CanAllEnd (LeafKeeps r WithinItems) (NodeKeeps r WithinItems) frames → IsTree u →
    HoldsFrom (LeafKeeps r WithinItems) (NodeKeeps r WithinItems) (length frames) u → front ≡ text_around frames (text u) →
    es ≡ without_places (events_around frames) ++ without_places (events (length (text_around frames [])) u) →
    StandsAfterAt r (token_at_boundary fs) fs front es
value_lies r [] [] u front es b a o p q e told = record { tree = u; is_tree = p; keep = q; whole = e; told = told }
value_lies r [] (g ∷ gs) u front es b a o p q e told = absurd a
value_lies r (f ∷ fs) [] u front es b a o p q e told = absurd a
value_lies r (f ∷ fs) (g ∷ gs) u front es b a o p q e told =
    member_ends r f fs g gs u f.shape front es a.0 a.1 b.0 b.1 a.2 (ready_with r g gs u o p q) (e ∙ around-with g gs u)
    (told ∙ sym (given-append (events_around (g ∷ gs)) (events (length (text_around (g ∷ gs) [])) u)) ∙ ap without_places (sym (events-member g gs u)))

-- bytes that end the value, and events more
pub value_ends : (r : Rules) (T : ℕ → List ℕ → List Event → Type 0) (fs : List Frame) (front more : List ℕ) (es new : List Event) → IsInside r T fs front es →
    ((level : ℕ) (bytes : List ℕ) (shown : List Event) → level ≡ length fs → T level bytes shown → Ends r level (bytes ++ more) (shown ++ new)) →
    StandsAfterAt r (token_at_boundary fs) fs (front ++ more) (es ++ new)
value_ends r T fs front more es new w last =
    let t = last (length w.frames) w.bytes w.shown (at_level w) w.took in
    value_lies r fs w.frames t.tree (front ++ more) (es ++ new) w.begun w.of_levels w.can_end t.is_tree t.keep (longer w.frames front w.bytes more w.whole ∙
    ap (text_around w.frames) (sym t.whole))
    (ap (λ z. z ++ new) w.told ∙ append_assoc (without_places (events_around w.frames)) w.shown new ∙
    ap (λ z. without_places (events_around w.frames) ++ z) (sym (t.told (length (text_around w.frames [])))))
