-- Least completions of an aggregate's type byte and of its count, and what refuses a count.
use Rattle.std.proofs.Common.{◌*◌, ◌++◌, ◌+◌, ◌<◌, ◌∷◌, ◌≡◌, ◌≤◌, List, [], ap, append-nil, arith, false, length, length-append, refl, subst, suc, sym, true, ℕ}
use Rattle.resp_value.specs.Bytes.{IsLine, crlf}
use Rattle.resp_value.specs.Data.{Array, Attr, Kind, Map, Push, Set, items_of, members_of}
use Rattle.resp_value.specs.LocalRules.{HoldsFrom, LeafKeeps, LeafMeets, NodeKeeps, NodeMeets}
use Rattle.resp_value.specs.Numbers.{IsDigits, number}
use Rattle.resp_value.specs.Rules.{Grammar, InRange, InVersion, NoDouble, NotStreamed, PushAtTop, Rule, Rules, WithinDepth, WithinItems, WithinTotal, WithinLength, rank}
use Rattle.resp_value.specs.Trees.{ArrayNull, Big, Bulk, BulkError, BulkNull, Counted, Double, Error, Int, IsTree, PlainNull, Simple, Streamed, Tree, Trees, Verbatim, chunked, count, kind_byte, leaf, line, node, none, null, numeral, string, texts, truth}
use Rattle.resp_value.proofs.FirstBytes.{byte_at_start}
use Rattle.resp_value.proofs.FirstLines.{after_line, first_is_line, first_line, sort, sort_of, sort_of-line}
use Rattle.resp_value.proofs.DigitLemmas.{number-more}
use Rattle.resp_value.proofs.DefaultLimits.{texts_at_least}
use Rattle.resp_fronts.specs.LeastCompletions.{HasLeast}
use Rattle.resp_fronts.specs.MayFollow.{CompletesValue}
use Rattle.resp_fronts.proofs.FirstLines.BegunLines.{completes_line, counted_is, line_least, members-more}
use Rattle.resp_fronts.proofs.FrameLaws.LeastAround.{length-shortest_trees, shortest_trees_hold}
use Rattle.resp_fronts.proofs.FrameLaws.OpenFrames.{are_shortest_trees, count-shortest_trees, shortest_trees}
use Rattle.resp_fronts.proofs.FrameLaws.KeptNodes.{shortest_keeps}

-- completes b under the rules up to g
abbrev pub CompletesUnder : Rules → Rule → ℕ → List ℕ → List ℕ → Type 0
CompletesUnder r g k b c = CompletesValue (LeafKeeps r g) (NodeKeeps r g) k b c

-- nothing completes b under the rules up to g, and something does under those up to h
pub record IsRefusedHere (r : Rules) (g h : Rule) (k : ℕ) (b : List ℕ) : Type 0 where
  pub dead : (c : List ℕ) → CompletesUnder r g k b c → ⊥
  pub rest : List ℕ
  pub alive : CompletesUnder r h k b rest
  pub some : 0 < length rest

-- a counted aggregate's first line
pub first_counted : (k : Kind) (ds : List ℕ) (ts : Trees) → first_line (node k (Counted ds) ts) ≡ kind_byte k ∷ ds
unfolding first_line
first_counted k ds ts = refl

-- a count's line has no break in it
pub kind_line : (k : Kind) (ds : List ℕ) → IsDigits ds → IsLine (kind_byte k ∷ ds)
kind_line k ds p = subst IsLine (first_counted k ds (shortest_trees (members_of k (number ds))))
    (first_is_line (node k (Counted ds) (shortest_trees (members_of k (number ds)))) ((p, sym (count-shortest_trees _)), are_shortest_trees _))

-- nor has an aggregate's type byte
pub byte_line : (k : Kind) → IsLine (kind_byte k ∷ [])
byte_line k = let l = kind_line k (48 ∷ []) ((omega arith, ((omega arith, omega arith), tt))) in (l.0, tt)

-- a count's line: three bytes for each member, and 2
pub count_row : (r : Rules) (g : Rule) (k : ℕ) (j : Kind) (d : ℕ) (ds : List ℕ) → IsDigits (d ∷ ds) →
    NodeKeeps r g k j (Counted (d ∷ ds)) (members_of j (number (d ∷ ds))) →
    HasLeast (CompletesUnder r g k (kind_byte j ∷ d ∷ ds)) (3 * members_of j (number (d ∷ ds)) + 2)
unfolding first_line
count_row r g k j d ds p q =
    let n = members_of j (number (d ∷ ds)) in
    let ts = shortest_trees n in
    let t = node j (Counted (d ∷ ds)) ts in
    line_least (LeafKeeps r g) (NodeKeeps r g) k t (3 * n)
    ((p, sym (count-shortest_trees n)), are_shortest_trees n) (
      subst (NodeKeeps r g k j (Counted (d ∷ ds))) (sym (count-shortest_trees n)) q,
      shortest_trees_hold (LeafKeeps r g) (NodeKeeps r g) (suc k) n (shortest_keeps r g (suc k)),
    )
    (omega (arith, length-shortest_trees n, ap length (append-nil (texts ts))))
    (λ u l i e b. (let w = counted_is u j d (ds ++ l) i p.1.0 b in
    let i2 : IsTree (node j (Counted (d ∷ ds ++ l)) w.0) = subst IsTree w.1 i in
    let c : members_of j (number (d ∷ ds ++ l)) ≡ count w.0 = i2.0.1 in
    let h : length (after_line u) ≡ length (texts w.0 ++ []) = ap (λ z. length (after_line z)) w.1 in
    let m = members-more j (number (d ∷ ds)) (number (d ∷ ds ++ l)) (number-more (d ∷ ds) l) in
    omega (arith, texts_at_least w.0, length-append (texts w.0) [])))

-- what completes a count's line the shortest way
pub count_ends : (r : Rules) (g : Rule) (k : ℕ) (j : Kind) (d : ℕ) (ds : List ℕ) → IsDigits (d ∷ ds) →
    NodeKeeps r g k j (Counted (d ∷ ds)) (members_of j (number (d ∷ ds))) →
    CompletesUnder r g k (kind_byte j ∷ d ∷ ds) (crlf (texts (shortest_trees (members_of j (number (d ∷ ds))))))
count_ends r g k j d ds p q =
    let n = members_of j (number (d ∷ ds)) in
    let ts = shortest_trees n in
    record {
      tree = node j (Counted (d ∷ ds)) ts;
      is_tree = ((p, sym (count-shortest_trees n)), are_shortest_trees n);
      keep = (
        subst (NodeKeeps r g k j (Counted (d ∷ ds))) (sym (count-shortest_trees n)) q,
        shortest_trees_hold (LeafKeeps r g) (NodeKeeps r g) (suc k) n (shortest_keeps r g (suc k)),
      );
      whole = ap (λ z. (kind_byte j ∷ d ∷ ds) ++ crlf z) (append-nil (texts ts));
    }

-- the rules of a node before items do not look at its number
pub node_counts : (r : Rules) (k : ℕ) (j : Kind) (ds es : List ℕ) (m n : ℕ) → NodeKeeps r WithinItems k j (Counted ds) m → (h : Rule) → rank h ≤ 7 →
    NodeMeets r h k j (Counted es) n
node_counts r k Array ds es m n p InVersion e = λ v. tt
node_counts r k Set ds es m n p InVersion e = λ v. p InVersion (omega arith) v
node_counts r k Map ds es m n p InVersion e = λ v. p InVersion (omega arith) v
node_counts r k Attr ds es m n p InVersion e = λ v. p InVersion (omega arith) v
node_counts r k Push ds es m n p InVersion e = λ v. p InVersion (omega arith) v
node_counts r k j ds es m n p PushAtTop e = p PushAtTop (omega arith)
node_counts r k j ds es m n p NotStreamed e = λ v. tt
node_counts r k j ds es m n p WithinDepth e = p WithinDepth (omega arith)
node_counts r k j ds es m n p WithinItems e = absurd (omega arith)
node_counts r k j ds es m n p _ e = tt

-- the rules of an aggregate but that of items don't look at its number
pub node_recounts : (r : Rules) (k : ℕ) (j : Kind) (ds es : List ℕ) (m n : ℕ) → NodeKeeps r WithinItems k j (Counted ds) m → items_of j n ≤ r.limits.items →
    (h : Rule) → NodeMeets r h k j (Counted es) n
node_recounts r k j ds es m n p l Grammar = node_counts r k j ds es m n p Grammar (omega arith)
node_recounts r k j ds es m n p l NoDouble = node_counts r k j ds es m n p NoDouble (omega arith)
node_recounts r k j ds es m n p l InVersion = node_counts r k j ds es m n p InVersion (omega arith)
node_recounts r k j ds es m n p l PushAtTop = node_counts r k j ds es m n p PushAtTop (omega arith)
node_recounts r k j ds es m n p l InRange = node_counts r k j ds es m n p InRange (omega arith)
node_recounts r k j ds es m n p l NotStreamed = node_counts r k j ds es m n p NotStreamed (omega arith)
node_recounts r k j ds es m n p l WithinDepth = node_counts r k j ds es m n p WithinDepth (omega arith)
node_recounts r k j ds es m n p l WithinLength = node_counts r k j ds es m n p WithinLength (omega arith)
node_recounts r k j ds es m n p l WithinItems = l
node_recounts r k j ds es m n p l WithinTotal = tt

items-more : (k : Kind) (m n : ℕ) → m ≤ n → items_of k m ≤ items_of k n
items-more Map m n h = omega arith
items-more Attr m n h = omega arith
items-more _ m n h = h

-- too many items
pub count_too_many : (r : Rules) (k : ℕ) (j : Kind) (d : ℕ) (ds : List ℕ) → IsDigits (d ∷ ds) →
    NodeKeeps r WithinLength k j (Counted (d ∷ ds)) (members_of j (number (d ∷ ds))) → r.limits.items < items_of j (members_of j (number (d ∷ ds))) →
    IsRefusedHere r WithinItems WithinLength k (kind_byte j ∷ d ∷ ds)
unfolding first_line
count_too_many r k j d ds p q l = record {
  dead = λ c t. (let u = completes_line (LeafKeeps r WithinItems) (NodeKeeps r WithinItems) k (kind_byte j ∷ d ∷ ds) c (kind_line j (d ∷ ds) p) t in
      let w = counted_is u.tree j d (ds ++ u.line) u.is_tree p.1.0 u.begins in
      let i2 : IsTree (node j (Counted (d ∷ ds ++ u.line)) w.0) = subst IsTree w.1 u.is_tree in
      let k2 : HoldsFrom (LeafKeeps r WithinItems) (NodeKeeps r WithinItems) k (node j (Counted (d ∷ ds ++ u.line)) w.0) =
      subst (HoldsFrom (LeafKeeps r WithinItems) (NodeKeeps r WithinItems) k) w.1 u.keep in
      let n : items_of j (count w.0) ≤ r.limits.items = k2.0 WithinItems (omega arith) in
      let c : members_of j (number (d ∷ ds ++ u.line)) ≡ count w.0 = i2.0.1 in
      let m = members-more j (number (d ∷ ds)) (number (d ∷ ds ++ u.line)) (number-more (d ∷ ds) u.line) in
      omega (arith, items-more j (members_of j (number (d ∷ ds))) (count w.0) (omega arith)));
  rest = _;
  alive = (count_row r WithinLength k j d ds p q).holds;
  some = omega (arith, (count_row r WithinLength k j d ds p q).size);
}

-- `*` at full depth: only the null is left
star_deep : (r : Rules) (k : ℕ) (t : Tree) (l : List ℕ) → r.limits.depth ≤ k → HoldsFrom (LeafKeeps r WithinItems) (NodeKeeps r WithinItems) k t →
    first_line t ≡ 42 ∷ l → 2 ≤ length l
unfolding first_line
star_deep r k (node j f ts) l d a b = let m : k < r.limits.depth = a.0 WithinDepth (omega arith) in absurd (omega arith)
star_deep r k (leaf (null ArrayNull)) l d a b = omega (arith, ap length b)
star_deep r k (leaf (null BulkNull)) l d a b = omega (arith, ap byte_at_start b)
star_deep r k (leaf (null PlainNull)) l d a b = omega (arith, ap byte_at_start b)
star_deep r k (leaf (line Simple s)) l d a b = omega (arith, ap byte_at_start b)
star_deep r k (leaf (line Error s)) l d a b = omega (arith, ap byte_at_start b)
star_deep r k (leaf (line Double s)) l d a b = omega (arith, ap byte_at_start b)
star_deep r k (leaf (numeral Int g ds)) l d a b = omega (arith, ap byte_at_start b)
star_deep r k (leaf (numeral Big g ds)) l d a b = omega (arith, ap byte_at_start b)
star_deep r k (leaf (truth true)) l d a b = omega (arith, ap byte_at_start b)
star_deep r k (leaf (truth false)) l d a b = omega (arith, ap byte_at_start b)
star_deep r k (leaf (string Bulk ds s)) l d a b = omega (arith, ap byte_at_start b)
star_deep r k (leaf (string BulkError ds s)) l d a b = omega (arith, ap byte_at_start b)
star_deep r k (leaf (string (Verbatim f) ds s)) l d a b = omega (arith, ap byte_at_start b)
star_deep r k (leaf (chunked cs z)) l d a b = omega (arith, ap byte_at_start b)

-- the null of `*` is within every rule
pub null_keeps : (r : Rules) (k : ℕ) (h : Rule) → LeafMeets r h k (null ArrayNull)
null_keeps r k NoDouble = λ off. tt
null_keeps r k InVersion = λ v. tt
null_keeps r k NotStreamed = λ v. tt
null_keeps r k WithinLength = omega arith
null_keeps r k _ = tt

-- `*` at full depth: 4
pub star_row_deep : (r : Rules) (k : ℕ) → r.limits.depth ≤ k → HasLeast (CompletesUnder r WithinItems k (42 ∷ [])) 4
star_row_deep r k d = record {
  some = 45 ∷ 49 ∷ crlf [];
  holds = record { tree = leaf (null ArrayNull); is_tree = tt; keep = λ h e. null_keeps r k h; whole = refl };
  size = refl;
  least = λ c t. (let u = completes_line (LeafKeeps r WithinItems) (NodeKeeps r WithinItems) k (42 ∷ []) c ((λ e. omega arith, λ e. omega arith), tt) t in
      omega (arith, star_deep r k u.tree u.line d u.keep u.begins, ap length u.whole, length-append u.line (crlf (after_line u.tree))));
}

-- after an aggregate's type byte the line goes on
pub line_after : (t : Tree) (j : Kind) (l : List ℕ) → IsTree t → sort_of t ≡ sort (kind_byte j ∷ l) → 0 < length l
line_after t j (c ∷ l) p e = omega arith
line_after (leaf x) Array [] p e = absurd (cc)
line_after (leaf x) Set [] p e = absurd (cc)
line_after (leaf x) Map [] p e = absurd (cc)
line_after (leaf x) Attr [] p e = absurd (cc)
line_after (leaf x) Push [] p e = absurd (cc)
line_after (node i (Counted ds) ts) Array [] p e = absurd (cc)
line_after (node i (Counted ds) ts) Set [] p e = let n : 0 < length ds = p.0.0.0 in let m : ds ≡ [] = cc in omega (arith, ap length m)
line_after (node i (Counted ds) ts) Map [] p e = let n : 0 < length ds = p.0.0.0 in let m : ds ≡ [] = cc in omega (arith, ap length m)
line_after (node i (Counted ds) ts) Attr [] p e = let n : 0 < length ds = p.0.0.0 in let m : ds ≡ [] = cc in omega (arith, ap length m)
line_after (node i (Counted ds) ts) Push [] p e = let n : 0 < length ds = p.0.0.0 in let m : ds ≡ [] = cc in omega (arith, ap length m)
line_after (node i Streamed ts) Array [] p e = absurd (cc)
line_after (node i Streamed ts) Set [] p e = absurd (cc)
line_after (node i Streamed ts) Map [] p e = absurd (cc)
line_after (node i Streamed ts) Attr [] p e = absurd (cc)
line_after (node i Streamed ts) Push [] p e = absurd (cc)

-- below full depth: 3, but for an attribute 6
pub star_row : (r : Rules) (k : ℕ) (j : Kind) → NodeKeeps r WithinItems k j (Counted (48 ∷ [])) 0 → members_of j 0 ≡ 0 →
    HasLeast (CompletesUnder r WithinItems k (kind_byte j ∷ [])) 3
unfolding first_line
star_row r k j q z = record {
  some = 48 ∷ crlf [];
  holds = record { tree = node j (Counted (48 ∷ [])) none; is_tree = (((omega arith, ((omega arith, omega arith), tt)), z), tt); keep = (q, tt); whole = refl };
  size = refl;
  least = λ c t. (let u = completes_line (LeafKeeps r WithinItems) (NodeKeeps r WithinItems) k (kind_byte j ∷ []) c (byte_line j) t in
      omega (
        arith,
        line_after u.tree j u.line u.is_tree (sort_of-line u.tree u.is_tree u.begins),
        ap length u.whole,
        length-append u.line (crlf (after_line u.tree)),
      ));
}
