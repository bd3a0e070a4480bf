-- What the events of a tree build: its value, put where a finished value goes; and each of them may come.
use Rattle.std.proofs.Common.{◌≡◌, ℕ, ◌+◌, ◌-◌, Bool, None, Some, List, [], ◌∷◌, ◌++◌, length, refl, sym, ap, ◌∙◌, append_assoc}
use Rattle.std.proofs.lemmas.List.{append-nil}
use Rattle.resp_value.specs.Numbers.{is_below_zero, significant_digits, zero_if_none}
use Rattle.resp_value.specs.Data.{Kind, Datum, Data, scalar, aggregate, data_of_list}
use Rattle.resp_value.specs.Data as d
use Rattle.resp_value.specs.Trees as t
use Rattle.resp_value.specs.Trees.{Tree, Trees, leaf, node, none, more, Leaf, line, numeral, null, truth, string, chunked, Chunk, joined_content, Form, form_line, leaf_text, text, count, IsTree, AreTrees, IsLeaf}
use Rattle.resp_value.specs.TreeValues.{value, values, leaf_value}
use Rattle.resp_fronts.specs.Events.{Event, Timed, TextKind, bytes_from, text_events, last_of, big_events, chunk_events, leaf_events, events, events_each, open_event, close_event, without_places}
use Rattle.resp_fronts.specs.Events as e
use Rattle.resp_decode.specs.Builds.{Construction, with_value, scalar_of, with_event, with_events}

-- events side by side
pub without_places-append : (xs ys : List Timed) → without_places (xs ++ ys) ≡ without_places xs ++ without_places ys
without_places-append [] ys = refl
without_places-append (x ∷ xs) ys = ap (λ es. x.event ∷ es) (without_places-append xs ys)

-- what is built so far goes on
pub with_events-append : (xs ys : List Event) (b : Construction) → with_events (xs ++ ys) b ≡ with_events ys (with_events xs b)
with_events-append [] ys b = refl
with_events-append (x ∷ xs) ys b = with_events-append xs ys (with_event x b)

-- a text in which this much content has come
abbrev pub in_text : TextKind → List ℕ → Construction → Construction
in_text kind s b = record b { text = Some (record { kind = kind; content = s }) }

-- content comes
pub builds-content : (from : ℕ) (kind : TextKind) (so_far s : List ℕ) (b : Construction) →
    with_events (without_places (bytes_from from s)) (in_text kind so_far b) ≡ in_text kind (so_far ++ s) b
builds-content from kind so_far [] b = ap (λ z. in_text kind z b) (sym (append-nil so_far))
builds-content from kind so_far (c ∷ s) b = builds-content (from + 1) kind (so_far ++ c ∷ []) s b ∙ ap (λ z. in_text kind z b) (append_assoc so_far (c ∷ []) s)

-- no text is being read
abbrev pub Rests : Construction → Type 0
Rests b = b.text ≡ None

-- a built value without a text is what it is
pub without_text : (b : Construction) → Rests b → record b { text = None } ≡ b
without_text b rests = ap (λ z. let c : Construction = record b { text = z } in c) (sym rests)

-- a text's events build its value
pub builds-text : (kind : TextKind) (begins from : ℕ) (s : List ℕ) (ends : ℕ) (b : Construction) → Rests b →
    with_events (without_places (text_events kind begins from s ends)) b ≡ with_value (scalar (scalar_of kind s)) b
builds-text kind begins from s ends b rests =
    let ending : List Timed = record { at = ends; event = e.TextEnd } ∷ [] in
    let opened : Construction = in_text kind [] b in
    ap (λ es. with_events es opened) (without_places-append (bytes_from from s) ending)
    ∙ with_events-append (without_places (bytes_from from s)) (e.TextEnd ∷ []) opened
    ∙ ap (with_events (e.TextEnd ∷ [])) (builds-content from kind [] s b)
    ∙ ap (with_value (scalar (scalar_of kind s))) (without_text b rests)

-- the content of chunks comes
pub builds-chunks : (at : ℕ) (kind : TextKind) (so_far : List ℕ) (cs : List Chunk) (b : Construction) →
    with_events (without_places (chunk_events at cs)) (in_text kind so_far b) ≡ in_text kind (so_far ++ joined_content cs) b
builds-chunks at kind so_far [] b = ap (λ z. in_text kind z b) (sym (append-nil so_far))
builds-chunks at kind so_far (c ∷ cs) b =
    let first = bytes_from (at + length c.digits + 3) c.content in
    let others = chunk_events (at + length c.digits + length c.content + 5) cs in
    ap (λ es. with_events es (in_text kind so_far b)) (without_places-append first others)
    ∙ with_events-append (without_places first) (without_places others) (in_text kind so_far b)
    ∙ ap (with_events (without_places others)) (builds-content (at + length c.digits + 3) kind so_far c.content b)
    ∙ builds-chunks (at + length c.digits + length c.content + 5) kind (so_far ++ c.content) cs b
    ∙ ap (λ z. in_text kind z b) (append_assoc so_far c.content (joined_content cs))

-- the events of a leaf
pub builds-leaf : (from : ℕ) (l : Leaf) (b : Construction) → Rests b → with_events (without_places (leaf_events from l)) b ≡
    with_value (scalar (leaf_value l)) b
builds-leaf from (line t.Simple s) b rests = builds-text e.Simple from (from + 1) s _ b rests
builds-leaf from (line t.Error s) b rests = builds-text e.Error from (from + 1) s _ b rests
builds-leaf from (line t.Double s) b rests = builds-text e.Double from (from + 1) s _ b rests
builds-leaf from (numeral t.Int sign digits) b rests = refl
builds-leaf from (numeral t.Big sign digits) b rests = big (is_below_zero sign digits) (significant_digits digits)
    (last_of from (leaf_text (numeral t.Big sign digits)))
  where
    big : (negative : Bool) (s : List ℕ) (last : ℕ) → with_events (without_places (big_events negative s last)) b ≡
        with_value (scalar (d.Big negative (zero_if_none s))) b
    big negative [] last = builds-text (e.Big negative) last last [] last b rests
    big negative (c ∷ s) last = builds-text (e.Big negative) (last - 2 - length s) (last - 2 - length s) (c ∷ s) last b rests
builds-leaf from (null form) b rests = refl
builds-leaf from (truth x) b rests = refl
builds-leaf from (string t.Bulk digits s) b rests = builds-text e.Bulk (from + length digits + 2) (from + length digits + 3) s
    (last_of from (leaf_text (string t.Bulk digits s))) b rests
builds-leaf from (string t.BulkError digits s) b rests = builds-text e.BulkError (from + length digits + 2) (from + length digits + 3) s
    (last_of from (leaf_text (string t.BulkError digits s))) b rests
builds-leaf from (string (t.Verbatim format) digits s) b rests =
    builds-text (e.Verbatim format) (from + length digits + length format + 3) (from + length digits + length format + 4) s
    (last_of from (leaf_text (string (t.Verbatim format) digits s))) b rests
builds-leaf from (chunked cs zeros) b rests =
    let ending : List Timed = record { at = last_of from (leaf_text (chunked cs zeros)); event = e.TextEnd } ∷ [] in
    let opened : Construction = in_text e.Bulk [] b in
    ap (λ es. with_events es opened) (without_places-append (chunk_events (from + 4) cs) ending)
    ∙ with_events-append (without_places (chunk_events (from + 4) cs)) (e.TextEnd ∷ []) opened
    ∙ ap (with_events (e.TextEnd ∷ [])) (builds-chunks (from + 4) e.Bulk [] cs b)
    ∙ ap (with_value (scalar (d.Bulk (joined_content cs)))) (without_text b rests)

-- the values of trees, as a list
abbrev pub value_list : Trees → List Datum
value_list none = []
value_list (more u us) = value u ∷ value_list us

pub values_listed : (us : Trees) → data_of_list (value_list us) ≡ values us
values_listed none = refl
values_listed (more u us) = ap (d.more (value u)) (values_listed us)

-- within an aggregate that has these members
abbrev pub in_group : Kind → List Datum → Construction → Construction
in_group kind xs b = record b { groups = record { kind = kind; members = xs } ∷ b.groups }

mutual
  -- the events of a tree
  pub builds-tree : (from : ℕ) (u : Tree) (b : Construction) → Rests b → with_events (without_places (events from u)) b ≡
      with_value (value u) b
  builds-tree from (leaf l) b rests = builds-leaf from l b rests
  builds-tree from (node k form us) b rests =
      let at = from + length (form_line form) + 3 in
      let ending : List Timed = close_event from (text (node k form us)) ∷ [] in
      let opened : Construction = in_group k [] b in
      ap (λ es. with_events es opened) (without_places-append (events_each at us) ending)
      ∙ with_events-append (without_places (events_each at us)) (e.Close ∷ []) opened
      ∙ ap (with_events (e.Close ∷ [])) (builds-trees at us k [] b rests)
      ∙ ap (λ xs. with_value (aggregate k xs) b) (values_listed us)

  -- the events of trees, the members of an aggregate
  pub builds-trees : (from : ℕ) (us : Trees) (k : Kind) (so_far : List Datum) (b : Construction) → Rests b →
      with_events (without_places (events_each from us)) (in_group k so_far b) ≡ in_group k (so_far ++ value_list us) b
  builds-trees from none k so_far b rests = ap (λ z. in_group k z b) (sym (append-nil so_far))
  builds-trees from (more u us) k so_far b rests =
      let first = events from u in
      let others = events_each (from + length (text u)) us in
      ap (λ es. with_events es (in_group k so_far b)) (without_places-append first others)
      ∙ with_events-append (without_places first) (without_places others) (in_group k so_far b)
      ∙ ap (with_events (without_places others)) (builds-tree from u (in_group k so_far b) rests)
      ∙ builds-trees (from + length (text u)) us k (so_far ++ value u ∷ []) b rests
      ∙ ap (λ z. in_group k z b) (append_assoc so_far (value u ∷ []) (value_list us))
