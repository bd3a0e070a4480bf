-- The limit of items is never the first to be broken where it is as great as the limit of total.
use Rattle.std.proofs.Common.{◌≡◌, ◌↔◌, ℕ, ◌+◌, ◌*◌, ◌≤◌, true, ◌∷◌, ◌++◌, length, ap, arith, length-append}
use Rattle.resp_value.specs.Bytes.{crlf}
use Rattle.resp_value.specs.Data.{Kind, Array, Set, Map, Attr, Push, items_of, most_items, most_items_among}
use Rattle.resp_value.specs.Data as d
use Rattle.resp_value.specs.Trees.{Tree, Trees, leaf, node, none, more, text, texts, count, leaf_line, leaf_rest, kind_byte, form_line, close}
use Rattle.resp_value.specs.TreeValues.{value, values}
use Rattle.resp_value.specs.Rules.{Rules, Rule, Grammar, NoDouble, InVersion, PushAtTop, InRange, NotStreamed, WithinDepth, WithinLength, WithinItems, WithinTotal, Meets, Keeps}
use Rattle.resp_value.specs.Laws.{DefaultItemsRefuseNothing, MeetsTheOtherRules}
use Rattle.resp_value.proofs.FirstBytes.{leaf_byte, leaf_begins}
use Rattle.resp_value.proofs.SpellingLaws.{up_to_total}
use Rattle.resp_value.proofs.LocalRuleLemmas.{count-values}

-- a tree's text has a type byte, a CR and an LF
pub text_at_least : (t : Tree) → 3 ≤ length (text t)
text_at_least (leaf l) =
    let (cs, e) = leaf_begins l in
    let one : length (leaf_line l) ≡ length (leaf_byte l ∷ cs) = ap length e in
    let both : length (leaf_line l ++ crlf (leaf_rest l)) ≡ length (leaf_line l) + length (crlf (leaf_rest l)) =
    length-append (leaf_line l) (crlf (leaf_rest l)) in
    omega arith
text_at_least (node k form ts) =
    let both : length ((kind_byte k ∷ form_line form) ++ crlf (texts ts ++ close form)) ≡
    length (kind_byte k ∷ form_line form) + length (crlf (texts ts ++ close form)) =
    length-append (kind_byte k ∷ form_line form) (crlf (texts ts ++ close form)) in
    omega arith

-- each member takes three bytes at least
pub texts_at_least : (ts : Trees) → 3 * count ts ≤ length (texts ts)
texts_at_least none = omega arith
texts_at_least (more t ts) = omega (arith, text_at_least t, texts_at_least ts, length-append (text t) (texts ts))

-- an aggregate has no more items than members
pub items_of_at_most : (k : Kind) (n : ℕ) → items_of k n ≤ n
items_of_at_most Array n = omega arith
items_of_at_most Set n = omega arith
items_of_at_most Map n = omega arith
items_of_at_most Attr n = omega arith
items_of_at_most Push n = omega arith

mutual
  -- no aggregate has more items than the tree's text has bytes
  pub most_items_at_most : (t : Tree) → most_items (value t) ≤ length (text t)
  most_items_at_most (leaf l) = omega arith
  most_items_at_most (node k form ts) =
      let among = most_items_among_at_most ts in
      let here = items_of_at_most k (d.count (values ts)) in
      let same = count-values ts in
      let members = texts_at_least ts in
      let head : length ((kind_byte k ∷ form_line form) ++ crlf (texts ts ++ close form)) ≡
      length (kind_byte k ∷ form_line form) + length (crlf (texts ts ++ close form)) =
      length-append (kind_byte k ∷ form_line form) (crlf (texts ts ++ close form)) in
      let rest : length (texts ts ++ close form) ≡ length (texts ts) + length (close form) = length-append (texts ts) (close form) in
      omega arith

  pub most_items_among_at_most : (ts : Trees) → most_items_among (values ts) ≤ length (texts ts)
  most_items_among_at_most none = omega arith
  most_items_among_at_most (more t ts) = omega (arith, most_items_at_most t, most_items_among_at_most ts, length-append (text t) (texts ts))

-- the limit of items as great as the limit of total, and streamed forms allowed
record AllowsAll (r : Rules) : Type 0 where
  items : r.limits.total ≤ r.limits.items
  streamed : r.limits.streamed ≡ true

others_are_all : (r : Rules) (t : Tree) → AllowsAll r → MeetsTheOtherRules r t → (rule : Rule) → Meets r rule t
others_are_all r t a meets Grammar = tt
others_are_all r t a meets NoDouble = meets NoDouble (λ e. cc) (λ e. cc)
others_are_all r t a meets InVersion = meets InVersion (λ e. cc) (λ e. cc)
others_are_all r t a meets PushAtTop = meets PushAtTop (λ e. cc) (λ e. cc)
others_are_all r t a meets InRange = meets InRange (λ e. cc) (λ e. cc)
others_are_all r t a meets NotStreamed = λ off. let on = a.streamed in absurd (cc)
others_are_all r t a meets WithinDepth = meets WithinDepth (λ e. cc) (λ e. cc)
others_are_all r t a meets WithinLength = meets WithinLength (λ e. cc) (λ e. cc)
others_are_all r t a meets WithinItems =
    let within : length (text t) ≤ r.limits.total = meets WithinTotal (λ e. cc) (λ e. cc) in
    let items = a.items in
    let most = most_items_at_most t in
    omega arith
others_are_all r t a meets WithinTotal = meets WithinTotal (λ e. cc) (λ e. cc)

keeps_others : (r : Rules) (t : Tree) → AllowsAll r → Keeps r WithinTotal t ↔ MeetsTheOtherRules r t
keeps_others r t a =
    (λ keeps rule p q. keeps rule (up_to_total rule), λ meets rule h. others_are_all r t a meets rule)

-- the limit of items refuses nothing that total allows, where it is as great
pub default_items_refuse_nothing : DefaultItemsRefuseNothing
default_items_refuse_nothing r total items streamed =
    let a : AllowsAll r = record { items = omega arith; streamed = streamed } in (
      λ t. keeps_others r t a,
      λ x written. (
        λ s. (s.tree, s.spells, (keeps_others r s.tree a).0 s.keeps, s.valued),
        λ w. record { tree = w.0; spells = w.1; keeps = (keeps_others r w.0 a).1 w.2; valued = w.3 },
      ),
    )
