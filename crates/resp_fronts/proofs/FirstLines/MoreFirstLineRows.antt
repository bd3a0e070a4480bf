-- Least completions of begun first lines: `$`, `!`, `=`, `|`, and the `?` of streamed aggregates.
use Rattle.std.proofs.Common.{◌*◌, ◌++◌, ◌+◌, ◌-◌, ◌<◌, ◌∙◌, ◌∷◌, ◌≡◌, ◌≤◌, List, [], ap, append-nil, arith, length, length-append, map, refl, subst, suc, ℕ}
use Rattle.std.proofs.lemmas.Int.Digits.{number_after_append, number_after_ge}
use Rattle.std.proofs.lemmas.List.{map-append}
use Rattle.std.specs.Int.Digits.{number_from_digits, number_from_digits_after}
use Rattle.resp_value.specs.Bytes.{crlf}
use Rattle.resp_value.specs.Data.{Array, Attr, Kind, members_of}
use Rattle.resp_value.specs.LocalRules.{LeafRule, NodeRule}
use Rattle.resp_value.specs.Numbers.{IsDigit, IsDigits, number}
use Rattle.resp_value.specs.Trees.{BulkError, BulkNull, CanStream, Counted, Form, HasFormat, IsTree, Simple, Streamed, StringKind, Tree, Verbatim, kind_byte, leaf, line, more, node, none, null, payload, string, string_byte, texts}
use Rattle.resp_value.proofs.FirstLines.{after_line, first_line, form_of, leaf_of, node_of, sort, sort_of, string_sort, sort_of-line}
use Rattle.resp_value.proofs.DigitLemmas.{number-digit}
use Rattle.resp_value.proofs.DefaultLimits.{texts_at_least}
use Rattle.resp_fronts.specs.LeastCompletions.{HasLeast}
use Rattle.resp_fronts.specs.MayFollow.{CompletesValue}
use Rattle.resp_fronts.proofs.FirstLines.BegunLines.{completes_line}
use Rattle.resp_fronts.proofs.Tokens.CountedContent.{verbatim_kind}
use Rattle.resp_fronts.proofs.FirstLines.FirstLineRows.{are_zeros, dollar_more, length-zeros, line_row, string_line, tree_of_string}
use Rattle.resp_fronts.proofs.FrameLaws.OpenFrames.{shortest_trees}
use Rattle.resp_fronts.proofs.FirstLines.CountRows.{byte_line, line_after}
use Rattle.resp_fronts.specs.Tokens.{zeros}

-- `$`: 4
pub dollar_row : (L : LeafRule) (N : NodeRule) (k : ℕ) → L k (null BulkNull) → HasLeast (CompletesValue L N k (36 ∷ [])) 4
unfolding first_line
dollar_row L N k h = record {
  some = 45 ∷ 49 ∷ crlf [];
  holds = record { tree = leaf (null BulkNull); is_tree = tt; keep = h; whole = refl };
  size = refl;
  least = λ c w. (let u = completes_line L N k (36 ∷ []) c ((λ e. omega arith, λ e. omega arith), tt) w in
      omega (
        arith,
        dollar_more u.tree u.line u.is_tree (sort_of-line u.tree u.is_tree u.begins) u.begins,
        ap length u.whole,
        length-append u.line (crlf (after_line u.tree)),
      ));
}

-- what strings of this byte have
pub string_size : (u : Tree) (b : ℕ) (ds : List ℕ) → IsTree u → sort_of u ≡ leaf_of (string_sort b ds) → (J : StringKind) × (s : List ℕ) × (string_byte J ≡ b) ×
    HasFormat J × IsDigits ds × (number ds ≡ length (payload J s)) × (length (after_line u) ≡ length (payload J s) + 2)
string_size u b ds i e =
    let w = tree_of_string u b ds e in
    let i2 : IsTree (leaf (string w.0 ds w.1)) = subst IsTree w.3 i in
    let a : length (after_line u) ≡ length (payload w.0 w.1 ++ crlf []) = ap (λ z. length (after_line z)) w.3 in
    (w.0, w.1, w.2, i2.1, i2.0.0, i2.0.1, omega (arith, length-append (payload w.0 w.1) (crlf [])))

-- `!`: 5
pub bulk_error_row : (L : LeafRule) (N : NodeRule) (k : ℕ) → L k (string BulkError (48 ∷ []) []) → HasLeast (CompletesValue L N k (33 ∷ [])) 5
unfolding first_line
bulk_error_row L N k h = line_row L N k (33 ∷ []) (48 ∷ []) (leaf (string BulkError (48 ∷ []) [])) 3 ((λ e. omega arith, λ e. omega arith), tt)
    (((omega arith, ((omega arith, omega arith), tt)), refl), tt, tt) h refl refl
    (λ u l i j e. (let w = string_size u 33 l i e in let n : 0 < length l = w.4.0 in omega (arith, w.6)))

-- a verbatim string counts four bytes at least
pub verbatim_least : (J : StringKind) (s : List ℕ) → string_byte J ≡ 61 → HasFormat J → 4 ≤ length (payload J s)
verbatim_least J s e p = let v = verbatim_kind J e p s in omega (arith, ap length v.2, length-append v.0 (58 ∷ s), v.1)

-- `=`: 9
pub verbatim_row : (L : LeafRule) (N : NodeRule) (k : ℕ) → L k (string (Verbatim (zeros 3)) (52 ∷ []) []) → HasLeast (CompletesValue L N k (61 ∷ [])) 9
unfolding first_line
verbatim_row L N k h = line_row L N k (61 ∷ []) (52 ∷ []) (leaf (string (Verbatim (zeros 3)) (52 ∷ []) [])) 7 ((λ e. omega arith, λ e. omega arith), tt)
    (((omega arith, ((omega arith, omega arith), tt)), refl), (refl, are_zeros 3), tt) h refl refl
    (λ u l i j e. (let w = string_size u 61 l i e in let n : 0 < length l = w.4.0 in omega (arith, w.6, verbatim_least w.0 w.1 w.2 w.3)))

number-ten : (ds : List ℕ) (x : ℕ) (l : List ℕ) → number ds * 10 ≤ number (ds ++ x ∷ l)
number-ten ds x l =
    let e : number (ds ++ x ∷ l) ≡ number_from_digits_after 10 (number ds * 10 + (x - 48)) (map (λ c. c - 48) l) =
    ap (number_from_digits 10) (map-append (λ c. c - 48) ds (x ∷ l)) ∙ number_after_append 10 0 (map (λ c. c - 48) ds) (map (λ c. c - 48) (x ∷ l)) in
    omega (arith, number_after_ge 10 (number ds * 10 + (x - 48)) (map (λ c. c - 48) l))

short_verbatim : (d : ℕ) (ds l : List ℕ) (u : Tree) → IsDigit d → IsTree u → 0 < number (d ∷ ds) → number (d ∷ ds) < 4 → sort_of u ≡ sort (61 ∷ d ∷ ds ++ l) →
    number (d ∷ ds) * 10 + 3 ≤ length l + length (after_line u)
short_verbatim d ds [] u q i n m e =
    let w = string_size u 61 (d ∷ ds ++ []) i e in
    omega (arith, w.5, verbatim_least w.0 w.1 w.2 w.3, ap (λ z. number (d ∷ z)) (append-nil ds))
short_verbatim d ds (x ∷ l) u q i n m e =
    let w = string_size u 61 (d ∷ ds ++ x ∷ l) i e in
    omega (arith, w.5, w.6, number-ten (d ∷ ds) x l)

-- `=1`, `=2`, `=3`: 15, 25, 35
pub short_verbatim_row : (L : LeafRule) (N : NodeRule) (k d : ℕ) (ds : List ℕ) → IsDigits (d ∷ ds) → IsDigits ((d ∷ ds) ++ 48 ∷ []) → 0 < number (d ∷ ds) →
    number (d ∷ ds) < 4 → L k (string (Verbatim (zeros 3)) ((d ∷ ds) ++ 48 ∷ []) (zeros (number (d ∷ ds) * 10 - 4))) →
    HasLeast (CompletesValue L N k (61 ∷ d ∷ ds)) (number (d ∷ ds) * 10 + 3 + 2)
unfolding first_line
short_verbatim_row L N k d ds p p2 n m h =
    let v = number (d ∷ ds) in
    let s = zeros (v * 10 - 4) in
    let a : length s ≡ v * 10 - 4 = length-zeros (v * 10 - 4) in
    line_row L N k (61 ∷ d ∷ ds) (48 ∷ []) (leaf (string (Verbatim (zeros 3)) ((d ∷ ds) ++ 48 ∷ []) s)) (v * 10 + 3) (string_line (Verbatim []) (d ∷ ds) p.1)
    ((p2, omega (arith, number-digit (d ∷ ds) 48, length-zeros (v * 10 - 4))), (refl, are_zeros 3), are_zeros (v * 10 - 4)) h refl
    (omega (arith, length-append s (crlf []), length-zeros (v * 10 - 4)))
    (λ u l i j e. short_verbatim d ds l u p.1.0 i n m e)

attr_size : (u : Tree) (f : Form) → IsTree u → sort_of u ≡ node_of Attr f → 3 ≤ length (after_line u)
attr_size (leaf x) f i e = absurd (cc)
attr_size (node k (Counted ds) (more t ts)) f i e = omega (arith, texts_at_least (more t ts), length-append (texts (more t ts)) [])
attr_size (node k (Counted ds) none) f i e =
    let k0 : k ≡ Attr = cc in
    let c : members_of k (number ds) ≡ 0 = i.0.1 in
    let b : members_of k (number ds) ≡ number ds + number ds + 1 = ap (λ z. members_of z (number ds)) k0 in
    omega arith
attr_size (node k Streamed ts) f i e = omega (arith, length-append (texts ts) (46 ∷ crlf []))

-- `|`: 6
pub attr_row : (L : LeafRule) (N : NodeRule) (k : ℕ) → N k Attr (Counted (48 ∷ [])) 1 → L (suc k) (line Simple []) →
    HasLeast (CompletesValue L N k (124 ∷ [])) 6
unfolding first_line
attr_row L N k g h = line_row L N k (124 ∷ []) (48 ∷ []) (node Attr (Counted (48 ∷ [])) (shortest_trees 1)) 4 ((λ e. omega arith, λ e. omega arith), tt)
    (((omega arith, ((omega arith, omega arith), tt)), refl), ((tt, tt, tt), tt)) (g, (h, tt)) refl refl
    (λ u l i j e. omega (arith, line_after u Attr l i e, attr_size u (form_of l) i e))

mark_size : (u : Tree) (j : Kind) → IsTree u → sort_of u ≡ node_of j Streamed → 3 ≤ length (after_line u)
mark_size (leaf x) j i e = absurd (cc)
mark_size (node k (Counted ds) ts) j i e = absurd (cc)
mark_size (node k Streamed ts) j i e = omega (arith, length-append (texts ts) (46 ∷ crlf []))

-- `?` after an aggregate's type byte says that it is streamed
pub sort_mark : (j : Kind) (l : List ℕ) → sort (kind_byte j ∷ 63 ∷ l) ≡ node_of j Streamed
sort_mark Array l = refl
sort_mark _ l = refl

-- `*?`, `~?`, `%?`: 5
pub mark_row : (L : LeafRule) (N : NodeRule) (k : ℕ) (j : Kind) → CanStream j 0 → N k j Streamed 0 → HasLeast (CompletesValue L N k (kind_byte j ∷ 63 ∷ [])) 5
unfolding first_line
mark_row L N k j s g = line_row L N k (kind_byte j ∷ 63 ∷ []) [] (node j Streamed none) 3 ((byte_line j).0, ((λ e. omega arith, λ e. omega arith), tt)) (s, tt)
    (g, tt) refl refl
    (λ u l i h e. omega (arith, mark_size u j i (e ∙ sort_mark j l)))
