-- What has come and what may follow make a spelling, and only that may follow.
use Rattle.std.proofs.Common.{◌++◌, ◌+◌, ◌<◌, ◌∙◌, ◌∷◌, ◌≡◌, ◌≤◌, List, [], ap, append-nil, append_assoc, arith, length, refl, subst, suc, sym, ℕ}
use Rattle.resp_value.specs.Bytes.{crlf}
use Rattle.resp_value.specs.Data.{Array, Kind, members_of}
use Rattle.resp_value.specs.LocalRules.{HoldsFrom, HoldsFromEach, LeafRule, NodeRule}
use Rattle.resp_value.specs.Numbers.{number}
use Rattle.resp_value.specs.Trees.{AreTrees, Counted, Form, HasMembers, IsTree, Streamed, Tree, Trees, close, count, form_line, kind_byte, more, node, none, text, texts}
use Rattle.resp_value.proofs.FirstBytes.{byte_at_start}
use Rattle.resp_value.proofs.Unique.{not_close, unique}
use Rattle.resp_fronts.specs.Frames.{Frame, text_around, open_text}
use Rattle.resp_fronts.specs.MayFollow.{AreKept, AreOpen, IsWholeText, MayFollowFrames, MayFollowValue, MembersThen, ValueThen}
use Rattle.resp_fronts.proofs.FrameLaws.OpenFrames.{are_joined, count-joined_trees, is_node, joined_trees, texts-joined_trees}

-- what the frames have taken goes on with what follows
pub around-append : (fs : List Frame) (a b : List ℕ) → text_around fs a ++ b ≡ text_around fs (a ++ b)
around-append [] a b = refl
around-append (f ∷ fs) a b = around-append fs (open_text f ++ a) b ∙ ap (text_around fs) (append_assoc (open_text f) a b)

-- the text of a node whose first members a frame has
pub text-node : (f : Frame) (us : Trees) (z : List ℕ) → text (node f.kind f.form (joined_trees f.done us)) ++ z ≡ open_text f ++
    ((texts us ++ close f.form) ++ z)
text-node f us z =
    let h = kind_byte f.kind ∷ form_line f.form in
    ap (λ w. (h ++ crlf (w ++ close f.form)) ++ z) (texts-joined_trees f.done us)
    ∙ ap (λ w. (h ++ crlf w) ++ z) (append_assoc (texts f.done) (texts us) (close f.form))
    ∙ append_assoc h (crlf (texts f.done ++ (texts us ++ close f.form))) z
    ∙ ap (λ w. h ++ crlf w) (append_assoc (texts f.done) (texts us ++ close f.form) z)
    ∙ sym (append_assoc h (crlf (texts f.done)) ((texts us ++ close f.form) ++ z))

-- rules that hold of two lists of trees hold of one after the other
pub joined_trees_hold : (L : LeafRule) (N : NodeRule) (k : ℕ) (ts us : Trees) → HoldsFromEach L N k ts → HoldsFromEach L N k us →
    HoldsFromEach L N k (joined_trees ts us)
joined_trees_hold L N k none us p q = q
joined_trees_hold L N k (more t ts) us p q = (p.0, joined_trees_hold L N k ts us p.1 q)

-- an aggregate is whole with the members that may still come
pub joined_is : (L : LeafRule) (N : NodeRule) (k : ℕ) (f : Frame) (us : Trees) (n : ℕ) → AreTrees f.done → HoldsFromEach L N (suc k) f.done → AreTrees us →
    HoldsFromEach L N (suc k) us → n ≡ count f.done + count us → HasMembers f.kind f.form n → N k f.kind f.form n →
    IsTree (node f.kind f.form (joined_trees f.done us)) × HoldsFrom L N k (node f.kind f.form (joined_trees f.done us))
joined_is L N k f us n p q p2 q2 e i g =
    let m : n ≡ count (joined_trees f.done us) = omega (arith, count-joined_trees f.done us) in
    ((subst (HasMembers f.kind f.form) m i, are_joined f.done us p p2), (subst (N k f.kind f.form) m g, joined_trees_hold L N (suc k) f.done us q q2))

-- a value that follows in a frame makes the frame a value that follows outside it
unfoldable pub frame_value : (L : LeafRule) (N : NodeRule) (f : Frame) (fs : List Frame) (x : List ℕ) → AreTrees f.done →
    HoldsFromEach L N (suc (length fs)) f.done → ValueThen L N (f ∷ fs) x → ValueThen L N fs (open_text f ++ x)
frame_value L N f fs x p q m =
    let a : MembersThen L N (length fs) f.kind f.form (suc (count f.done)) (MayFollowValue L N fs) m.rest = m.after in
    let us : Trees = more m.tree a.members in
    let w = joined_is L N (length fs) f us (suc (count f.done) + count a.members) p q (m.is_tree, a.are_trees) (m.keep, a.keep) (omega arith) a.is_form
    a.is_kept in
    let e : (texts us ++ close f.form) ++ a.rest ≡ x = ap (λ z. z ++ a.rest) (append_assoc (text m.tree) (texts a.members) (close f.form)) ∙
    append_assoc (text m.tree) (texts a.members ++ close f.form) a.rest ∙ ap (λ z. text m.tree ++ z) a.whole ∙ m.whole in
    record {
      tree = node f.kind f.form (joined_trees f.done us);
      rest = a.rest;
      is_tree = w.0;
      keep = w.1;
      whole = text-node f us a.rest ∙ ap (λ z. open_text f ++ z) e;
      after = a.after;
    }

-- a value, and what may follow it, within the frames
unfoldable pub compose_member : (L : LeafRule) (N : NodeRule) (fs : List Frame) (x : List ℕ) → AreKept L N fs → ValueThen L N fs x →
    IsWholeText L N (text_around fs x)
compose_member L N [] x h m = record {
  tree = m.tree;
  is_tree = m.is_tree;
  keep = m.keep;
  whole =
      sym (append-nil (text m.tree)) ∙ ap (λ z. text m.tree ++ z) (sym m.after) ∙ m.whole;
}
compose_member L N (f ∷ fs) x h m = compose_member L N fs (open_text f ++ x) h.2 (frame_value L N f fs x h.0 h.1 m)

-- composition
pub compose : (L : LeafRule) (N : NodeRule) (fs : List Frame) (x : List ℕ) → AreKept L N fs → MayFollowFrames L N fs x → IsWholeText L N (text_around fs x)
compose L N [] x h m = m
compose L N (f ∷ fs) x h m =
    let w = joined_is L N (length fs) f m.members (count f.done + count m.members) h.0 h.1 m.are_trees m.keep (omega arith) m.is_form m.is_kept in
    compose_member L N fs (open_text f ++ x) h.2 (record {
      tree = node f.kind f.form (joined_trees f.done m.members);
      rest = m.rest;
      is_tree = w.0;
      keep = w.1;
      whole = text-node f m.members m.rest ∙ ap (λ z. open_text f ++ z) m.whole;
      after = m.after;
    })

parted_trees_hold : (L : LeafRule) (N : NodeRule) (k : ℕ) (ts us : Trees) → HoldsFromEach L N k (joined_trees ts us) → HoldsFromEach L N k us
parted_trees_hold L N k none us p = p
parted_trees_hold L N k (more t ts) us p = parted_trees_hold L N k ts us p.1

are_parted : (ts us : Trees) → AreTrees (joined_trees ts us) → AreTrees us
are_parted none us p = p
are_parted (more t ts) us p = are_parted ts us p.1

-- the members that are whole stand first
pub parted : (f : Form) (ds ts : Trees) (x z : List ℕ) → AreTrees ds → AreTrees ts → ((es : List ℕ) → f ≡ Counted es → count ds ≤ count ts) →
    (texts ts ++ close f) ++ x ≡ texts ds ++ z → (us : Trees) × (ts ≡ joined_trees ds us) × ((texts us ++ close f) ++ x ≡ z)
parted f none ts x z p q l e = (ts, refl, e)
parted (Counted es) (more d ds) none x z p q l e = let n : suc (count ds) ≤ 0 = omega (arith, l es refl) in absurd (omega arith)
parted Streamed (more d ds) none x z p q l e = absurd (not_close d (texts ds ++ z) (crlf x) (sym (e ∙ append_assoc (text d) (texts ds) z)))
parted f (more d ds) (more t ts) x z p q l e =
    let a = unique t d ((texts ts ++ close f) ++ x) (texts ds ++ z) q.0 p.0 (sym (append_assoc (text t) (texts ts ++ close f) x) ∙
    ap (λ w. w ++ x) (sym (append_assoc (text t) (texts ts) (close f))) ∙ e ∙ append_assoc (text d) (texts ds) z) in
    let (us, h, w) = parted f ds ts x z p.1 q.1 (λ es i. omega (arith, l es i)) a.1 in
    let a0 : t ≡ d = a.0 in
    (us, cc, w)

first_member_of : (L : LeafRule) (N : NodeRule) (fs : List Frame) (k : Kind) (f : Form) (d n : ℕ) (x : List ℕ) → HasMembers k f n → d < n →
    (byte_at_start x ≡ 46 → ⊥) → (ts : Trees) (rest : List ℕ) → AreTrees ts → HoldsFromEach L N (suc (length fs)) ts → HasMembers k f (d + count ts) →
    N (length fs) k f (d + count ts) → (texts ts ++ close f) ++ rest ≡ x → MayFollowValue L N fs rest →
    (t : Tree) × (r : List ℕ) × IsTree t × HoldsFrom L N (suc (length fs)) t × (text t ++ r ≡ x) ×
    MembersThen L N (length fs) k f (suc d) (MayFollowValue L N fs) r
first_member_of L N fs k (Counted ds) d n x i l b none rest p q i2 g e a =
    let u : members_of k (number ds) ≡ n = i.1 in
    let v : members_of k (number ds) ≡ d + 0 = i2.1 in
    absurd (omega arith)
first_member_of L N fs k Streamed d n x i l b none rest p q i2 g e a = absurd (b (sym (ap byte_at_start e)))
first_member_of L N fs k f d n x i l b (more t ts) rest p q i2 g e a =
    let m : d + suc (count ts) ≡ suc d + count ts = omega arith in
    let m2 : d + count (more t ts) ≡ suc d + count ts = omega arith in (
      t,
      (texts ts ++ close f) ++ rest,
      p.0,
      q.0,
      sym (append_assoc (text t) (texts ts ++ close f) rest) ∙ ap (λ w. w ++ rest) (sym (append_assoc (text t) (texts ts) (close f))) ∙ e,
      record {
        members = ts;
        rest = rest;
        are_trees = p.1;
        keep = q.1;
        is_form = subst (HasMembers k f) m2 i2;
        is_kept = subst (N (length fs) k f) m2 g;
        whole =
            refl;
        after = a;
      },
    )

-- a value in an open aggregate begins what may come there
pub first_member : (L : LeafRule) (N : NodeRule) (fs : List Frame) (x : List ℕ) → AreOpen fs → (byte_at_start x ≡ 46 → ⊥) → MayFollowFrames L N fs x →
    ValueThen L N fs x
first_member L N [] x o h m = record { tree = m.tree; rest = []; is_tree = m.is_tree; keep = m.keep; whole = append-nil (text m.tree) ∙ m.whole; after = refl }
first_member L N (f ∷ fs) x o h m =
    let (t, r, p, q, e, a) = first_member_of L N fs f.kind f.form (count f.done) o.0 x o.1 o.2 h m.members m.rest m.are_trees m.keep m.is_form m.is_kept m.whole
    m.after in
    record { tree = t; rest = r; is_tree = p; keep = q; whole = e; after = a }

-- a value and what may follow it may come within the frames
pub member_rest : (L : LeafRule) (N : NodeRule) (fs : List Frame) (x : List ℕ) → ValueThen L N fs x → MayFollowFrames L N fs x
member_rest L N [] x m = record {
  tree = m.tree;
  is_tree = m.is_tree;
  keep = m.keep;
  whole =
      sym (append-nil (text m.tree)) ∙ ap (λ z. text m.tree ++ z) (sym m.after) ∙ m.whole;
}
member_rest L N (f ∷ fs) x m =
    let a : MembersThen L N (length fs) f.kind f.form (suc (count f.done)) (MayFollowValue L N fs) m.rest = m.after in
    let c : suc (count f.done) + count a.members ≡ count f.done + count (more m.tree a.members) = omega arith in
    record {
      members = more m.tree a.members;
      rest = a.rest;
      are_trees = (m.is_tree, a.are_trees);
      keep = (m.keep, a.keep);
      is_form = subst (HasMembers f.kind f.form) c a.is_form;
      is_kept = subst (N (length fs) f.kind f.form) c a.is_kept;
      whole = ap (λ z. z ++ a.rest) (append_assoc (text m.tree) (texts a.members) (close f.form)) ∙
          append_assoc (text m.tree) (texts a.members ++ close f.form) a.rest ∙ ap (λ z. text m.tree ++ z) a.whole ∙ m.whole;
      after = a.after;
    }

-- a counted aggregate has one number of members
pub one_count : (k : Kind) (f : Form) (n c : ℕ) → HasMembers k f n → HasMembers k f c → (digits : List ℕ) → f ≡ Counted digits → n ≡ c
one_count k (Counted ds) n c i j digits e =
    let u : members_of k (number ds) ≡ n = i.1 in
    let v : members_of k (number ds) ≡ c = j.1 in
    omega arith
one_count k Streamed n c i j digits e = absurd (cc)

-- what the open aggregates' texts leave is what may come within the innermost
pub within_frame : (L : LeafRule) (N : NodeRule) (f : Frame) (fs : List Frame) (x : List ℕ) (n : ℕ) → HasMembers f.kind f.form n → count f.done < n →
    AreTrees f.done → ValueThen L N fs (open_text f ++ x) → MayFollowFrames L N (f ∷ fs) x
within_frame L N f fs x n i l p m =
    let (ts, e, w) = is_node m.tree f.kind f.form n m.rest (texts f.done ++ x) m.is_tree i
    (m.whole ∙ append_assoc (kind_byte f.kind ∷ form_line f.form) (crlf (texts f.done)) x) in
    let q : IsTree (node f.kind f.form ts) = subst IsTree e m.is_tree in
    let r : HoldsFrom L N (length fs) (node f.kind f.form ts) = subst (HoldsFrom L N (length fs)) e m.keep in
    let (us, h, v) = parted f.form f.done ts m.rest x p q.1 (λ digits e. omega (arith, l, one_count f.kind f.form n (count ts) i q.0 digits e)) w in
    let h0 : ts ≡ joined_trees f.done us = h in
    let c : count ts ≡ count f.done + count us = ap count h0 ∙ count-joined_trees f.done us in
    record {
      members = us;
      rest = m.rest;
      are_trees = are_parted f.done us (subst AreTrees h0 q.1);
      keep = parted_trees_hold L N (suc (length fs)) f.done us (subst (HoldsFromEach L N (suc (length fs))) h0 r.1);
      is_form = subst (HasMembers f.kind f.form) c q.0;
      is_kept = subst (N (length fs) f.kind f.form) c r.0;
      whole = v;
      after = m.after;
    }

-- no aggregate begins with the `.` of a close
pub kind_no_stop : (k : Kind) (x : List ℕ) → byte_at_start (kind_byte k ∷ x) ≡ 46 → ⊥
kind_no_stop Array x e = omega arith
kind_no_stop _ x e = omega arith

-- determinism
pub determine : (L : LeafRule) (N : NodeRule) (fs : List Frame) (x : List ℕ) → AreOpen fs → IsWholeText L N (text_around fs x) → MayFollowFrames L N fs x
determine L N [] x o w = w
determine L N (f ∷ fs) x o w =
    let r : MayFollowFrames L N fs (open_text f ++ x) = determine L N fs (open_text f ++ x) o.4 w in
    let m = first_member L N fs (open_text f ++ x) o.4 (kind_no_stop f.kind ((form_line f.form ++ crlf (texts f.done)) ++ x)) r in
    within_frame L N f fs x o.0 o.1 o.2 o.3 m
