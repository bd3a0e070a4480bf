-- Values that are not there.
use Rattle.std.proofs.Common.{◌≡◌, ℕ, zero, suc, drop, get_or, ◌+◌, ◌-◌, ◌<◌, ◌≤◌, List, [], ◌∷◌, ◌++◌, length, refl, sym, ap, subst, ◌∙◌, arith, append_assoc, append-nil, length-drop}
use Rattle.std.proofs.lemmas.List.{take-append-drop}
use Rattle.resp_value.specs.Bytes.{IsLine, crlf}
use Rattle.resp_value.specs.Data.{Kind, Array, Set, Map, Attr, Push, items_of, members_of}
use Rattle.resp_value.specs.Kinds.{kind_of}
use Rattle.resp_value.specs.declared.kind.OpenKind.{OpenKind}
use Rattle.resp_value.specs.declared.version.Version.TheVariants.{Two}
use Rattle.resp_value.specs.LocalRules.{HoldsFrom, HoldsFromEach, LeafKeeps, NodeKeeps}
use Rattle.resp_value.specs.Numbers.{IsDigits, number}
use Rattle.resp_value.specs.Rules.{Rules, WithinItems, WithinTotal, InVersion, IsNodeInTwo}
use Rattle.resp_value.specs.Trees.{Form, Tree, Trees, leaf, node, none, more, Counted, Streamed, IsTree, AreTrees, count, text, texts, kind_byte}
use Rattle.resp_value.proofs.FirstBytes.{kind_of_byte}
use Rattle.resp_value.proofs.LocalRuleLemmas.{keeps_locally}
use Rattle.resp_value.proofs.Splitting.{line_from_digits, line_split, plain_above}
use Rattle.resp_value.proofs.Unique.{unique}
use Rattle.resp_flat.specs.declared.node.Node.{Node}
use Rattle.resp_flat.specs.declared.reading.Filled.{Filled}
use Rattle.resp_flat.specs.Plain.{BeginsWithPlain, BeginsWithNumber, HasAggregate, HasLeaf, IsHeadAt, IsPlainLeaf, IsPlainNode, IsValueAt}
use Rattle.resp_flat.proofs.NoneThere.{first_of_rest, rest_after}
use Rattle.resp_flat.proofs.ValuesRead.{value_size}

-- the buffer has a plain tree within the rules from this index on, this deep in aggregates
pub record HasTree (r : Rules) (level : ℕ) (buffer : List ℕ) (at : ℕ) : Type 0 where
  pub tree : Tree
  pub rest : List ℕ
  pub is_tree : IsTree tree
  pub keeps : HoldsFrom (LeafKeeps r WithinItems) (NodeKeeps r WithinItems) level tree
  pub plain : HoldsFrom IsPlainLeaf IsPlainNode level tree
  pub whole : drop at buffer ≡ text tree ++ rest

-- the buffer has this many plain trees from this index on, one after another
pub record HasTrees (r : Rules) (level : ℕ) (buffer : List ℕ) (at n : ℕ) : Type 0 where
  pub trees : Trees
  pub rest : List ℕ
  pub are_trees : AreTrees trees
  pub keeps : HoldsFromEach (LeafKeeps r WithinItems) (NodeKeeps r WithinItems) level trees
  pub plain : HoldsFromEach IsPlainLeaf IsPlainNode level trees
  pub whole : drop at buffer ≡ texts trees ++ rest
  pub many : count trees ≡ n

-- the head of an aggregate is a line
kind_is_line : (k : Kind) (digits : List ℕ) → IsDigits digits → IsLine (kind_byte k ∷ digits)
kind_is_line Array digits p = (plain_above 42 (omega arith), line_from_digits digits p)
kind_is_line Set digits p = (plain_above 126 (omega arith), line_from_digits digits p)
kind_is_line Map digits p = (plain_above 37 (omega arith), line_from_digits digits p)
kind_is_line Attr digits p = (plain_above 124 (omega arith), line_from_digits digits p)
kind_is_line Push digits p = (plain_above 62 (omega arith), line_from_digits digits p)

aggregate_on : (c : ℕ) (digits others rest : List ℕ) → ((c ∷ digits) ++ crlf (others ++ [])) ++ rest ≡ (c ∷ digits) ++ crlf (others ++ rest)
aggregate_on c digits others rest = append_assoc (c ∷ digits) (crlf (others ++ [])) rest ∙
    ap (λ l. (c ∷ digits) ++ crlf (l ++ rest)) (append-nil others)

-- a plain aggregate is counted: its kind, its digits and its members
pub record HasCounted (r : Rules) (level : ℕ) (buffer : List ℕ) (at : ℕ) : Type 0 where
  pub kind : Kind
  pub digits : List ℕ
  pub members : Trees
  pub rest : List ℕ
  pub are_digits : IsDigits digits
  pub counted : members_of kind (number digits) ≡ count members
  pub are_trees : AreTrees members
  pub node_keeps : NodeKeeps r WithinItems level kind (Counted digits) (count members)
  pub keep : HoldsFromEach (LeafKeeps r WithinItems) (NodeKeeps r WithinItems) (suc level) members
  pub shallow : level < 16
  pub plain : HoldsFromEach IsPlainLeaf IsPlainNode (suc level) members
  pub whole : drop at buffer ≡ (kind_byte kind ∷ digits) ++ crlf (texts members ++ rest)

pub counted_aggregate : (r : Rules) (level : ℕ) (buffer : List ℕ) (at : ℕ) → HasAggregate r level buffer at → HasCounted r level buffer at
counted_aggregate r level buffer at a = go a.form a.is_tree a.keeps a.plain a.whole
  where
    go : (form : Form) → IsTree (node a.kind form a.members) → HoldsFrom (LeafKeeps r WithinItems) (NodeKeeps r WithinItems) level (node a.kind form a.members) →
        HoldsFrom IsPlainLeaf IsPlainNode level (node a.kind form a.members) → drop at buffer ≡ text (node a.kind form a.members) ++ a.rest →
        HasCounted r level buffer at
    go (Counted digits) p q s e = record {
      kind = a.kind;
      digits = digits;
      members = a.members;
      rest = a.rest;
      are_digits = p.0.0;
      counted = p.0.1;
      are_trees = p.1;
      node_keeps = q.0;
      keep = q.1;
      shallow = s.0.shallow;
      plain = s.1;
      whole = e ∙ aggregate_on (kind_byte a.kind) digits (texts a.members) a.rest;
    }
    go Streamed p q s e = absurd s.0.counted

-- the members of a plain aggregate, after its head
pub members_there : (r : Rules) (level : ℕ) (buffer : List ℕ) (at : ℕ) (kind : OpenKind) (members end : ℕ) → IsHeadAt r level buffer at kind members end →
    (next : ℕ) → next ≡ suc level → HasAggregate r level buffer at → HasTrees r next buffer end members
members_there r level buffer at kind members end h next below a =
    let d = counted_aggregate r level buffer at a in
    let s = line_split (kind_byte d.kind ∷ d.digits) (kind_byte (kind_of kind) ∷ h.digits) (texts d.members ++ d.rest) (drop end buffer)
    (kind_is_line d.kind d.digits d.are_digits) (kind_is_line (kind_of kind) h.digits h.are_digits) (sym d.whole ∙ h.whole) in
    let heads : kind_byte d.kind ∷ d.digits ≡ kind_byte (kind_of kind) ∷ h.digits = s.0 in
    let byte : kind_byte d.kind ≡ kind_byte (kind_of kind) = cc in
    let same : d.kind ≡ kind_of kind = kind_of_byte d.kind (kind_of kind) byte in
    let digits : d.digits ≡ h.digits = cc in
    let many : members_of d.kind (number d.digits) ≡ members_of (kind_of kind) (number h.digits) = cc in
    subst (λ n. HasTrees r n buffer end members) (sym below) (record {
      trees = d.members;
      rest = d.rest;
      are_trees = d.are_trees;
      keeps = d.keep;
      plain = d.plain;
      whole = sym s.1;
      many = sym d.counted ∙ many ∙ h.counted;
    })

-- the members after one that was read
pub members_left : (r : Rules) (level : ℕ) (buffer : List ℕ) (before after : Filled) (old new : List Node) (n m : ℕ) → n ≡ m + 1 →
    IsValueAt r level buffer before after old new → HasTrees r level buffer before.end n → HasTrees r level buffer after.end m
members_left r level buffer before after old new n m e v h = go h.trees h.are_trees h.keeps h.plain h.whole h.many
  where
    go : (ts : Trees) → AreTrees ts → HoldsFromEach (LeafKeeps r WithinItems) (NodeKeeps r WithinItems) level ts → HoldsFromEach IsPlainLeaf IsPlainNode level ts →
        drop before.end buffer ≡ texts ts ++ h.rest → count ts ≡ n → HasTrees r level buffer after.end m
    go none p q s w many = absurd (omega (arith, many, e))
    go (more t ts) p q s w many = record {
      trees = ts;
      rest = h.rest;
      are_trees = p.1;
      keeps = q.1;
      plain = s.1;
      whole = sym (unique t v.tree (texts ts ++ h.rest) (drop after.end buffer) p.0 v.is_tree (sym (append_assoc (text t) (texts ts) h.rest) ∙ sym w ∙ v.whole)).1;
      many = omega (arith, many, e);
    }

-- no tree is there, if no leaf and no aggregate is there
pub no_tree : (r : Rules) (level : ℕ) (buffer : List ℕ) (at : ℕ) → (HasLeaf r level buffer at → ⊥) → (HasAggregate r level buffer at → ⊥) →
    HasTree r level buffer at → ⊥
no_tree r level buffer at no_leaf no_aggregate h = go h.tree h.is_tree h.keeps h.plain h.whole
  where
    go : (t : Tree) → IsTree t → HoldsFrom (LeafKeeps r WithinItems) (NodeKeeps r WithinItems) level t → HoldsFrom IsPlainLeaf IsPlainNode level t →
        drop at buffer ≡ text t ++ h.rest → ⊥
    go (leaf l) p q s w = no_leaf (record { leaf = l; rest = h.rest; is_leaf = p; keeps = q; plain = s; whole = w })
    go (node k form ts) p q s w = no_aggregate (record { kind = k; form = form; members = ts; rest = h.rest; is_tree = p; keeps = q; plain = s; whole = w })

-- no members are there, if no tree is there
pub no_members : (r : Rules) (level : ℕ) (buffer : List ℕ) (at n : ℕ) → 0 < n → (HasTree r level buffer at → ⊥) → HasTrees r level buffer at n → ⊥
no_members r level buffer at n some no_first h = go h.trees h.are_trees h.keeps h.plain h.whole h.many
  where
    go : (ts : Trees) → AreTrees ts → HoldsFromEach (LeafKeeps r WithinItems) (NodeKeeps r WithinItems) level ts → HoldsFromEach IsPlainLeaf IsPlainNode level ts →
        drop at buffer ≡ texts ts ++ h.rest → count ts ≡ n → ⊥
    go none p q s w many = omega (arith, some, many)
    go (more t ts) p q s w many =
        no_first (record { tree = t; rest = texts ts ++ h.rest; is_tree = p.0; keeps = q.0; plain = s.0; whole = w ∙ append_assoc (text t) (texts ts) h.rest })

-- the first byte of a plain aggregate
pub kind_there : (r : Rules) (level : ℕ) (buffer : List ℕ) (at : ℕ) (d : HasCounted r level buffer at) → get_or buffer at 0 ≡ kind_byte d.kind
kind_there r level buffer at d = sym (first_of_rest buffer at) ∙ ap (λ z. get_or z 0 0) d.whole

-- a plain aggregate has bytes
pub bytes_there : (r : Rules) (level : ℕ) (buffer : List ℕ) (at : ℕ) (d : HasCounted r level buffer at) → at < length buffer
bytes_there r level buffer at d =
    let long = ap length d.whole in
    let left = length-drop at buffer in
    omega (arith, long, left)

-- version 2 has no aggregates but arrays
pub array_there : (r : Rules) (level : ℕ) (buffer : List ℕ) (at : ℕ) (d : HasCounted r level buffer at) → r.version ≡ Two → d.kind ≡ Array
array_there r level buffer at d two = go d.kind (d.node_keeps InVersion (omega arith) two)
  where
    go : (k : Kind) → IsNodeInTwo k (Counted d.digits) → k ≡ Array
    go Array h = refl
    go Set h = absurd h
    go Map h = absurd h
    go Attr h = absurd h
    go Push h = absurd h

-- the number in the head is within the limit of items
pub few_items : (r : Rules) (level : ℕ) (buffer : List ℕ) (at : ℕ) (d : HasCounted r level buffer at) → number d.digits ≤ r.limits.items
few_items r level buffer at d =
    let within : items_of d.kind (count d.members) ≤ r.limits.items = d.node_keeps WithinItems (omega arith) in
    let same = ap (items_of d.kind) d.counted in
    let back = items_back d.kind (number d.digits) in
    omega (arith, within, same, back)
  where
    items_back : (k : Kind) (n : ℕ) → items_of k (members_of k n) ≡ n
    items_back Array n = refl
    items_back Set n = refl
    items_back Map n = omega arith
    items_back Attr n = omega arith
    items_back Push n = refl

-- the digits after the first byte of a plain aggregate
pub head_there : (r : Rules) (level : ℕ) (buffer : List ℕ) (at : ℕ) (d : HasCounted r level buffer at) →
    BeginsWithNumber (drop (at + 1) buffer) (number d.digits) (texts d.members ++ d.rest)
head_there r level buffer at d = record {
  digits = d.digits;
  counted = (d.are_digits, refl);
  whole = rest_after (kind_byte d.kind ∷ []) at buffer (d.digits ++ crlf (texts d.members ++ d.rest)) d.whole;
}

-- the bytes of a plain reply, and those after it
plain_whole : (r : Rules) (bytes : List ℕ) (b : BeginsWithPlain r bytes) → bytes ≡ text b.tree ++ drop b.size bytes
plain_whole r bytes b = sym (take-append-drop b.size bytes) ∙ ap (λ z. z ++ drop b.size bytes) (sym b.spells.spelled)

-- a plain reply is a plain tree that no aggregate contains
pub tree_there : (r : Rules) (buffer : List ℕ) (at : ℕ) → BeginsWithPlain r (drop at buffer) → HasTree r zero buffer at
tree_there r buffer at b = record {
  tree = b.tree;
  rest = drop b.size (drop at buffer);
  is_tree = b.spells.is_tree;
  keeps = (keeps_locally r WithinItems b.tree (omega arith)).0 (λ earlier e. b.keeps earlier (omega (arith, e)));
  plain = b.plain;
  whole = plain_whole r (drop at buffer) b;
}

-- a value that is longer than the limit of total is no reply
pub too_long : (r : Rules) (buffer : List ℕ) (before after : Filled) (old new : List Node) → r.limits.total < after.end - before.end →
    IsValueAt r zero buffer before after old new → BeginsWithPlain r (drop before.end buffer) → ⊥
too_long r buffer before after old new long v b =
    let rest = drop b.size (drop before.end buffer) in
    let same = unique b.tree v.tree rest (drop after.end buffer) b.spells.is_tree v.is_tree (sym (plain_whole r (drop before.end buffer) b) ∙ v.whole) in
    let size = ap (λ z. length (text z)) same.0 in
    let (own, forward) = value_size r buffer before after old new v in
    let within : length (text b.tree) ≤ r.limits.total = b.keeps WithinTotal (omega arith) in
    omega (arith, size, own, within, long)
