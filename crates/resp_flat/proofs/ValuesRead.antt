-- The values that are read.
use Rattle.std.proofs.Common.{◌≡◌, ℕ, zero, suc, drop, take, set, ◌+◌, ◌-◌, ◌*◌, ◌<◌, ◌≤◌, List, [], ◌∷◌, ◌++◌, length, refl, sym, ap, subst, ◌∙◌, arith, append_assoc, append-nil, length-append, length-drop}
use Rattle.std.proofs.Math.Seq.{take-append_seam}
use Rattle.std.proofs.lemmas.List.{take_more_set}
use Rattle.resp_value.specs.Bytes.{crlf}
use Rattle.resp_value.specs.Kinds.{kind_of}
use Rattle.resp_value.specs.declared.kind.OpenKind.{OpenKind}
use Rattle.resp_value.specs.LocalRules.{HoldsFrom, HoldsFromEach, LeafKeeps, NodeKeeps}
use Rattle.resp_value.specs.Rules.{Rules, WithinItems}
use Rattle.resp_value.specs.Spellings.{IsSpelling}
use Rattle.resp_value.specs.Data.{Datum, Data, Kind, scalar, aggregate}
use Rattle.resp_value.specs.Data as d
use Rattle.resp_value.proofs.FirstBytes.{leaf_begins}
use Rattle.resp_value.specs.Trees.{Form, Leaf, Tree, Trees, leaf, node, none, more, Counted, leaf_line, leaf_rest, leaf_text, IsTree, AreTrees, close, count, form_line, text, texts, kind_byte}
use Rattle.resp_value.specs.TreeValues.{value, values}
use Rattle.resp_value.proofs.LocalRuleLemmas.{count-values, keeps_locally}
use Rattle.resp_fronts.proofs.FrameLaws.FrontLaws.{all_rules}
use Rattle.resp_flat.specs.declared.node.Node.{Node}
use Rattle.resp_flat.specs.declared.reading.Filled.{Filled}
use Rattle.resp_flat.specs.Nodes.{AreNodesOf, AreNodesOfEach, aggregate_node, node_count, node_count_of_each}
use Rattle.resp_flat.specs.Numbers.{kind_form}
use Rattle.resp_flat.specs.Plain.{IsHeadAt, IsLeafAt, IsPlain, IsPlainLeaf, IsPlainNode, IsValueAt, LacksNodes}

-- trees, and one more after them
abbrev pub with_tree : Trees → Tree → Trees
with_tree none t = more t none
with_tree (more u us) t = more u (with_tree us t)

count_with : (ts : Trees) (t : Tree) → count (with_tree ts t) ≡ count ts + 1
count_with none t = refl
count_with (more u us) t = let h = count_with us t in omega (arith, h)

texts_with : (ts : Trees) (t : Tree) → texts (with_tree ts t) ≡ texts ts ++ text t
texts_with none t = append-nil (text t)
texts_with (more u us) t = ap (λ l. text u ++ l) (texts_with us t) ∙ sym (append_assoc (text u) (texts us) (text t))

trees_with : (ts : Trees) (t : Tree) → AreTrees ts → IsTree t → AreTrees (with_tree ts t)
trees_with none t p q = (q, tt)
trees_with (more u us) t p q = (p.0, trees_with us t p.1 q)

holds_with : (L : ℕ → Leaf → Type 0) (N : ℕ → Kind → Form → ℕ → Type 0) (level : ℕ) (ts : Trees) (t : Tree) → HoldsFromEach L N level ts →
    HoldsFrom L N level t → HoldsFromEach L N level (with_tree ts t)
holds_with L N level none t p q = (q, tt)
holds_with L N level (more u us) t p q = (p.0, holds_with L N level us t p.1 q)

nodes_with : (buffer : List ℕ) (ts : Trees) (t : Tree) (ns ns' : List Node) → AreNodesOfEach buffer (values ts) ns → AreNodesOf buffer (value t) ns' →
    AreNodesOfEach buffer (values (with_tree ts t)) (ns ++ ns')
nodes_with buffer none t ns ns' p is = record {
  first = ns';
  others = [];
  nodes_are = ap (λ z. z ++ ns') p ∙ sym (append-nil ns');
  is_first = is;
  are_others = refl;
}
nodes_with buffer (more u us) t ns ns' p is = record {
  first = p.first;
  others = p.others ++ ns';
  nodes_are = ap (λ z. z ++ ns') p.nodes_are ∙ append_assoc p.first p.others ns';
  is_first = p.is_first;
  are_others = nodes_with buffer us t p.others ns' p.are_others is;
}

-- what is the same up to a place is the same up to a place before it
pub same_before : (k n : ℕ) (xs ys : List Node) → k ≤ n → take n xs ≡ take n ys → take k xs ≡ take k ys
same_before zero n xs ys few e = refl
same_before (suc k) zero xs ys few e = absurd (omega arith)
same_before (suc k) (suc n) [] [] few e = refl
same_before (suc k) (suc n) [] (y ∷ ys) few e = let h = ap length e in absurd (omega (arith, h))
same_before (suc k) (suc n) (x ∷ xs) [] few e = let h = ap length e in absurd (omega (arith, h))
same_before (suc k) (suc n) (x ∷ xs) (y ∷ ys) few e =
    let h : x ≡ y = cc in
    let t : take n xs ≡ take n ys = cc in
    let r = same_before k n xs ys (omega arith) t in
    cc

-- the node before others is set
set_head : (i k : ℕ) (old nodes own : List Node) (item : Node) → i < length old → take k nodes ≡ take (suc i) old ++ own →
    take k (set nodes i item) ≡ take i old ++ item ∷ own
set_head i k [] nodes own item within e = absurd (omega arith)
set_head i zero (o ∷ old) nodes own item within e = let h = ap length e in absurd (omega (arith, h))
set_head i (suc k) (o ∷ old) [] own item within e = let h = ap length e in absurd (omega (arith, h))
set_head zero (suc k) (o ∷ old) (n ∷ nodes) own item within e =
    let t : take k nodes ≡ own = cc in
    ap (λ l. item ∷ l) t
set_head (suc i) (suc k) (o ∷ old) (n ∷ nodes) own item within e =
    let same : n ≡ o = cc in
    let t : take k nodes ≡ take (suc i) old ++ own = cc in
    let r = set_head i k old nodes own item (omega arith) t in
    ap (λ l. n ∷ l) r ∙ ap (λ z. z ∷ (take i old ++ item ∷ own)) same

-- a leaf is a value
pub leaf_is_value : (r : Rules) (level : ℕ) (buffer : List ℕ) (before : Filled) (end : ℕ) (item : Node) (old : List Node) →
    length (set old before.count item) ≡ length old → IsLeafAt r buffer before.end end item →
    IsValueAt r level buffer before (record { end = end; count = before.count + 1 }) old (set old before.count item)
leaf_is_value r level buffer before end item old same l = record {
  tree = leaf l.leaf;
  own = item ∷ [];
  is_tree = l.is_leaf;
  keeps = l.keeps level;
  plain = l.plain level;
  whole = l.whole;
  within = l.within;
  stand = record { node = item; alone = refl; one = l.one; is_leaf = l.stands };
  filled = λ fits. take_more_set old before.count item (omega (arith, fits, same));
  counted = refl;
}

-- The members that were read so far, after the head of an aggregate.
pub record HasMembers (r : Rules) (level : ℕ) (buffer : List ℕ) (start : Filled) (inner : Filled) (old nodes : List Node) (n : ℕ) : Type 0 where
  pub trees : Trees
  pub own : List Node
  pub are_trees : AreTrees trees
  pub keeps : HoldsFromEach (LeafKeeps r WithinItems) (NodeKeeps r WithinItems) level trees
  pub plain : HoldsFromEach IsPlainLeaf IsPlainNode level trees
  pub whole : drop start.end buffer ≡ texts trees ++ drop inner.end buffer
  pub within : inner.end ≤ length buffer
  pub stand : AreNodesOfEach buffer (values trees) own
  pub filled : inner.count ≤ length nodes → take inner.count nodes ≡ take start.count old ++ own
  pub counted : inner.count ≡ start.count + length own
  pub many : count trees ≡ n
  pub same_room : length nodes ≡ length old

-- no member was read
pub no_member : (r : Rules) (level : ℕ) (buffer : List ℕ) (start : Filled) (old : List Node) → start.end ≤ length buffer →
    (n : ℕ) → n ≡ zero → HasMembers r level buffer start start old old n
no_member r level buffer start old within n e = record {
  trees = none;
  own = [];
  are_trees = tt;
  keeps = tt;
  plain = tt;
  whole = refl;
  within = within;
  stand = refl;
  filled = λ fits. sym (append-nil (take start.count old));
  counted = omega arith;
  many = sym e;
  same_room = refl;
}

-- one member more was read
pub one_member_more : (r : Rules) (level : ℕ) (buffer : List ℕ) (start inner next : Filled) (old nodes nodes' : List Node) (n m : ℕ) →
    HasMembers r level buffer start inner old nodes n → IsValueAt r level buffer inner next nodes nodes' → length nodes' ≡ length nodes → m ≡ n + 1 →
    HasMembers r level buffer start next old nodes' m
one_member_more r level buffer start inner next old nodes nodes' n m h v same e = record {
  trees = with_tree h.trees v.tree;
  own = h.own ++ v.own;
  are_trees = trees_with h.trees v.tree h.are_trees v.is_tree;
  keeps = holds_with (LeafKeeps r WithinItems) (NodeKeeps r WithinItems) level h.trees v.tree h.keeps v.keeps;
  plain = holds_with IsPlainLeaf IsPlainNode level h.trees v.tree h.plain v.plain;
  whole = h.whole ∙ ap (λ l. texts h.trees ++ l) v.whole ∙ sym (append_assoc (texts h.trees) (text v.tree) (drop next.end buffer)) ∙
      ap (λ l. l ++ drop next.end buffer) (sym (texts_with h.trees v.tree));
  within = v.within;
  stand = nodes_with buffer h.trees v.tree h.own v.own h.stand v.stand;
  filled = λ fits. v.filled fits ∙ ap (λ l. l ++ v.own) (h.filled (let b = v.counted in omega (arith, fits, same, b))) ∙
      append_assoc (take start.count old) h.own v.own;
  counted = let a = h.counted in let b = v.counted in let c = length-append h.own v.own in omega (arith, a, b, c);
  many = count_with h.trees v.tree ∙ ap (λ k. k + 1) h.many ∙ sym e;
  same_room = same ∙ h.same_room;
}

-- the members are as they were
pub same_members : (r : Rules) (level : ℕ) (buffer : List ℕ) (start inner : Filled) (old nodes nodes' : List Node) (n : ℕ) →
    HasMembers r level buffer start inner old nodes n → take inner.count nodes' ≡ take inner.count nodes → length nodes' ≡ length nodes →
    HasMembers r level buffer start inner old nodes' n
same_members r level buffer start inner old nodes nodes' n h kept same = record {
  trees = h.trees;
  own = h.own;
  are_trees = h.are_trees;
  keeps = h.keeps;
  plain = h.plain;
  whole = h.whole;
  within = h.within;
  stand = h.stand;
  filled = λ fits. kept ∙ h.filled (omega (arith, fits, same));
  counted = h.counted;
  many = h.many;
  same_room = same ∙ h.same_room;
}

-- a head and its members are a value
pub aggregate_is_value : (r : Rules) (level : ℕ) (buffer : List ℕ) (before start inner : Filled) (kind : OpenKind) (members : ℕ) (old nodes : List Node) →
    level < 16 → IsHeadAt r level buffer before.end kind members start.end → start.count ≡ before.count + 1 →
    HasMembers r (level + 1) buffer start inner old nodes members → (size : ℕ) → size ≡ inner.count - before.count →
    length (set nodes before.count (aggregate_node (kind_form (kind_of kind)) members size)) ≡ length nodes →
    IsValueAt r level buffer before inner old (set nodes before.count (aggregate_node (kind_form (kind_of kind)) members size))
aggregate_is_value r level buffer before start inner kind members old nodes shallow h placed m size sized same =
    let agg = aggregate_node (kind_form (kind_of kind)) members size in
    let many = m.many in
    let counted = m.counted in
    let up : level + 1 ≡ suc level = omega arith in
    let next : start.count ≡ suc before.count = omega (arith, placed) in
    record {
      tree = node (kind_of kind) (Counted h.digits) m.trees;
      own = agg ∷ m.own;
      is_tree = ((h.are_digits, h.counted ∙ sym many), m.are_trees);
      keeps = (
        subst (λ n. NodeKeeps r WithinItems level (kind_of kind) (Counted h.digits) n) (sym many) h.keeps,
        subst (λ l. HoldsFromEach (LeafKeeps r WithinItems) (NodeKeeps r WithinItems) l m.trees) up m.keeps,
      );
      plain = (record { shallow = shallow; counted = tt }, subst (λ l. HoldsFromEach IsPlainLeaf IsPlainNode l m.trees) up m.plain);
      whole = h.whole ∙ ap (λ l. (kind_byte (kind_of kind) ∷ h.digits) ++ crlf l) m.whole ∙
          sym (aggregate_on (kind_byte (kind_of kind)) h.digits (texts m.trees) (drop inner.end buffer));
      within = m.within;
      stand = record {
        node = agg;
        inner = m.own;
        parts = refl;
        kind_is = refl;
        form_is = refl;
        counted = sym (count-values m.trees ∙ many);
        sized = omega (arith, sized, counted, placed);
        are_members = m.stand;
      };
      filled = λ fits.
          let room = m.same_room in
          set_head before.count inner.count old nodes m.own agg (omega (arith, fits, same, room, counted, placed))
          (m.filled (omega (arith, fits, same)) ∙ ap (λ k. take k old ++ m.own) next);
      counted = omega (arith, counted, placed);
    }
  where
    aggregate_on : (c : ℕ) (digits others rest : List ℕ) → ((c ∷ digits) ++ crlf (others ++ [])) ++ rest ≡ (c ∷ digits) ++ crlf (others ++ rest)
    aggregate_on c digits others rest = append_assoc (c ∷ digits) (crlf (others ++ [])) rest ∙
        ap (λ l. (c ∷ digits) ++ crlf (l ++ rest)) (append-nil others)

-- the nodes of a value are as many as there are values in it
mutual
  pub own_count : (buffer : List ℕ) (x : Datum) (ns : List Node) → AreNodesOf buffer x ns → length ns ≡ node_count x
  own_count buffer (scalar s) ns h = ap length h.alone
  own_count buffer (aggregate kind xs) ns h =
      let all = ap length h.parts in
      let inner = own_counts buffer xs h.inner h.are_members in
      omega (arith, all, inner)

  own_counts : (buffer : List ℕ) (xs : Data) (ns : List Node) → AreNodesOfEach buffer xs ns → length ns ≡ node_count_of_each xs
  own_counts buffer d.none ns h = ap length h
  own_counts buffer (d.more x xs) ns h =
      let all = ap length h.nodes_are ∙ length-append h.first h.others in
      let first = own_count buffer x h.first h.is_first in
      let others = own_counts buffer xs h.others h.are_others in
      omega (arith, all, first, others)

-- a value has at most a third as many nodes as bytes
mutual
  pub third : (t : Tree) → node_count (value t) * 3 ≤ length (text t)
  third (leaf l) =
      let parts = length-append (leaf_line l) (crlf (leaf_rest l)) in
      let some = ap length (leaf_begins l).1 in
      omega (arith, parts, some)
  third (node k form ts) =
      let parts = length-append (kind_byte k ∷ form_line form) (crlf (texts ts ++ close form)) in
      let members = length-append (texts ts) (close form) in
      let h = thirds ts in
      omega (arith, parts, members, h)

  thirds : (ts : Trees) → node_count_of_each (values ts) * 3 ≤ length (texts ts)
  thirds none = omega arith
  thirds (more t ts) =
      let parts = length-append (text t) (texts ts) in
      let first = third t in
      let others = thirds ts in
      omega (arith, parts, first, others)

-- a leaf has bytes
pub leaf_forward : (r : Rules) (buffer : List ℕ) (at end : ℕ) (item : Node) → IsLeafAt r buffer at end item → at < end
leaf_forward r buffer at end item h =
    let long = ap length h.whole ∙ length-append (leaf_text h.leaf) (drop end buffer) in
    let parts = length-append (leaf_line h.leaf) (crlf (leaf_rest h.leaf)) in
    let left = length-drop at buffer in
    let right = length-drop end buffer in
    let within = h.within in
    omega (arith, long, parts, left, right, within)

-- a head has bytes
pub head_forward : (r : Rules) (level : ℕ) (buffer : List ℕ) (at : ℕ) (kind : OpenKind) (members end : ℕ) → IsHeadAt r level buffer at kind members end → at < end
head_forward r level buffer at kind members end h =
    let long = ap length h.whole in
    let parts = length-append (kind_byte (kind_of kind) ∷ h.digits) (crlf (drop end buffer)) in
    let left = length-drop at buffer in
    let right = length-drop end buffer in
    let within = h.within in
    omega (arith, long, parts, left, right, within)

-- members have at least as many bytes as nodes
pub members_near : (r : Rules) (level : ℕ) (buffer : List ℕ) (start inner : Filled) (old nodes : List Node) (n : ℕ) →
    HasMembers r level buffer start inner old nodes n → start.end ≤ length buffer → inner.count + start.end ≤ start.count + inner.end
members_near r level buffer start inner old nodes n h before =
    let counted = h.counted in
    let own = own_counts buffer (values h.trees) h.own h.stand in
    let few = thirds h.trees in
    let long = ap length h.whole ∙ length-append (texts h.trees) (drop inner.end buffer) in
    let left = length-drop start.end buffer in
    let right = length-drop inner.end buffer in
    let within = h.within in
    omega (arith, counted, own, few, long, left, right, within, before)

-- a value has a node
one_node : (t : Tree) → 0 < node_count (value t)
one_node (leaf l) = omega arith
one_node (node k form ts) = omega arith

-- a value adds nodes
pub value_has_node : (r : Rules) (buffer : List ℕ) (before after : Filled) (old new : List Node) → IsValueAt r zero buffer before after old new →
    before.count < after.count
value_has_node r buffer before after old new v =
    let own = own_count buffer (value v.tree) v.own v.stand in
    let some = one_node v.tree in
    let counted = v.counted in
    omega (arith, own, some, counted)

-- the number of bytes of a value
pub value_size : (r : Rules) (buffer : List ℕ) (before after : Filled) (old new : List Node) (v : IsValueAt r zero buffer before after old new) →
    (length (text v.tree) ≡ after.end - before.end) × (before.end < after.end)
value_size r buffer before after old new v =
    let long = ap length v.whole ∙ length-append (text v.tree) (drop after.end buffer) in
    let left = length-drop before.end buffer in
    let right = length-drop after.end buffer in
    let end = v.within in
    let some = third v.tree in
    let one = one_node v.tree in
    (omega (arith, long, left, right, end, some, one), omega (arith, long, left, right, end, some, one))

-- a value within the limit of total is spelled
pub value_is_spelled : (r : Rules) (buffer : List ℕ) (before after : Filled) (old new : List Node) → after.end - before.end ≤ r.limits.total →
    (v : IsValueAt r zero buffer before after old new) → IsSpelling r (value v.tree) (take (after.end - before.end) (drop before.end buffer))
value_is_spelled r buffer before after old new fits v =
    let (size, forward) = value_size r buffer before after old new v in
    record {
      tree = v.tree;
      spells = record {
        is_tree = v.is_tree;
        spelled = sym (ap (λ k. take k (drop before.end buffer)) (sym size) ∙ ap (take (length (text v.tree))) v.whole ∙
            take-append_seam (text v.tree) (drop after.end buffer));
      };
      keeps = all_rules r v.tree ((keeps_locally r WithinItems v.tree (omega arith)).1 v.keeps) (omega (arith, size, fits));
      valued = refl;
    }

-- a value within the limit of total is a reply, if there is room for its nodes
pub value_is_plain : (r : Rules) (buffer : List ℕ) (end count start : ℕ) (after : Filled) (old new : List Node) → start ≡ count →
    after.end - end ≤ r.limits.total → after.count ≤ length new → IsValueAt r zero buffer (record { end = end; count = start }) after old new →
    IsPlain r buffer (record { end = end; count = count }) after old new
value_is_plain r buffer end count start after old new same fits room v =
    let (size, forward) = value_size r buffer (record { end = end; count = start }) after old new v in
    record {
      value = value v.tree;
      own = v.own;
      spelling = value_is_spelled r buffer (record { end = end; count = start }) after old new fits v;
      forward = forward;
      within = v.within;
      stand = v.stand;
      filled = v.filled room ∙ ap (λ k. take k old ++ v.own) same;
      counted = let counted = v.counted in omega (arith, counted, same);
      room = room;
    }

-- a value within the limit of total lacks nodes
pub value_lacks_nodes : (r : Rules) (buffer : List ℕ) (before after : Filled) (old new : List Node) (room : ℕ) → after.end - before.end ≤ r.limits.total →
    before.count + room < after.count → IsValueAt r zero buffer before after old new → LacksNodes r (drop before.end buffer) room
unfolding value_is_spelled
value_lacks_nodes r buffer before after old new room fits many v =
    let (size, forward) = value_size r buffer before after old new v in
    let spelled = value_is_spelled r buffer before after old new fits v in
    let counted = v.counted in
    let own = own_count buffer (value v.tree) v.own v.stand in
    let few = third v.tree in
    let left = length-drop before.end buffer in
    let within = v.within in
    let lacks : room < node_count (value v.tree) = omega (arith, counted, own, many) in
    record {
      reply = record {
        size = after.end - before.end;
        tree = v.tree;
        within = omega (arith, left, within, forward);
        spells = spelled.spells;
        keeps = spelled.keeps;
        plain = v.plain;
      };
      lacks = lacks;
      few = omega (arith, lacks, few, size);
    }
