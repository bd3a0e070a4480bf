-- The events of a tree that begins somewhere else: only their places are others.
use Rattle.std.proofs.Common.{◌≡◌, ℕ, ◌+◌, ◌-◌, Bool, List, [], ◌∷◌, ◌++◌, length, refl, sym, ap, ◌∙◌}
use Rattle.resp_value.specs.Numbers.{is_below_zero, significant_digits}
use Rattle.resp_value.specs.Trees as t
use Rattle.resp_value.specs.Trees.{Tree, Trees, leaf, node, none, more, Leaf, line, numeral, null, truth, string, chunked, Chunk, form_line, leaf_text, text}
use Rattle.resp_fronts.specs.Events.{Event, Timed, TextKind, bytes_from, text_events, last_of, big_events, chunk_events, leaf_events, events, events_each, close_event, without_places}
use Rattle.resp_fronts.specs.Events as e
use Rattle.resp_decode.proofs.Folds.{without_places-append}

-- two runs of events, side by side
both : (p q v w : List Timed) → without_places p ≡ without_places q → without_places v ≡ without_places w →
    without_places (p ++ v) ≡ without_places (q ++ w)
both p q v w one other = without_places-append p v ∙ ap (λ z. z ++ without_places v) one
    ∙ ap (λ z. without_places q ++ z) other ∙ sym (without_places-append q w)

-- content
bytes_elsewhere : (m n : ℕ) (s : List ℕ) → without_places (bytes_from m s) ≡ without_places (bytes_from n s)
bytes_elsewhere m n [] = refl
bytes_elsewhere m n (byte ∷ s) = ap (λ es. e.Byte byte ∷ es) (bytes_elsewhere (m + 1) (n + 1) s)

-- a text, whose first index no event tells
text_elsewhere : (kind : TextKind) (from ends from' ends' : ℕ) (s : List ℕ) →
    without_places (text_events kind 0 from s ends) ≡ without_places (text_events kind 0 from' s ends')
text_elsewhere kind from ends from' ends' s = ap (λ es. e.Text kind ∷ es)
    (both (bytes_from from s) (bytes_from from' s) (record { at = ends; event = e.TextEnd } ∷ [])
    (record { at = ends'; event = e.TextEnd } ∷ []) (bytes_elsewhere from from' s) refl)

-- a big number
big_elsewhere : (negative : Bool) (digits : List ℕ) (last last' : ℕ) →
    without_places (big_events negative digits last) ≡ without_places (big_events negative digits last')
big_elsewhere negative [] last last' = refl
big_elsewhere negative (digit ∷ digits) last last' =
    let from = last - 2 - length digits in
    let from' = last' - 2 - length digits in
    text_elsewhere (e.Big negative) from last from' last' (digit ∷ digits)

-- the content of chunks
chunks_elsewhere : (m n : ℕ) (cs : List Chunk) → without_places (chunk_events m cs) ≡ without_places (chunk_events n cs)
chunks_elsewhere m n [] = refl
chunks_elsewhere m n (c ∷ cs) =
    let digits = length c.digits in
    both (bytes_from (m + digits + 3) c.content) (bytes_from (n + digits + 3) c.content)
    (chunk_events (m + digits + length c.content + 5) cs) (chunk_events (n + digits + length c.content + 5) cs)
    (bytes_elsewhere (m + digits + 3) (n + digits + 3) c.content)
    (chunks_elsewhere (m + digits + length c.content + 5) (n + digits + length c.content + 5) cs)

-- a leaf
leaf_elsewhere : (m n : ℕ) (l : Leaf) → without_places (leaf_events m l) ≡ without_places (leaf_events n l)
leaf_elsewhere m n (line t.Simple s) =
    let whole = leaf_text (line t.Simple s) in
    text_elsewhere e.Simple (m + 1) (last_of m whole) (n + 1) (last_of n whole) s
leaf_elsewhere m n (line t.Error s) =
    let whole = leaf_text (line t.Error s) in
    text_elsewhere e.Error (m + 1) (last_of m whole) (n + 1) (last_of n whole) s
leaf_elsewhere m n (line t.Double s) =
    let whole = leaf_text (line t.Double s) in
    text_elsewhere e.Double (m + 1) (last_of m whole) (n + 1) (last_of n whole) s
leaf_elsewhere m n (numeral t.Int sign digits) = refl
leaf_elsewhere m n (numeral t.Big sign digits) =
    big_elsewhere (is_below_zero sign digits) (significant_digits digits)
    (last_of m (leaf_text (numeral t.Big sign digits))) (last_of n (leaf_text (numeral t.Big sign digits)))
leaf_elsewhere m n (null form) = refl
leaf_elsewhere m n (truth b) = refl
leaf_elsewhere m n (string t.Bulk digits s) =
    let whole = leaf_text (string t.Bulk digits s) in
    text_elsewhere e.Bulk (m + length digits + 3) (last_of m whole) (n + length digits + 3) (last_of n whole) s
leaf_elsewhere m n (string t.BulkError digits s) =
    let whole = leaf_text (string t.BulkError digits s) in
    text_elsewhere e.BulkError (m + length digits + 3) (last_of m whole) (n + length digits + 3) (last_of n whole) s
leaf_elsewhere m n (string (t.Verbatim format) digits s) =
    let whole = leaf_text (string (t.Verbatim format) digits s) in
    text_elsewhere (e.Verbatim format) (m + length digits + length format + 4) (last_of m whole) (n + length digits + length format + 4) (last_of n whole) s
leaf_elsewhere m n (chunked cs zeros) =
    let whole = leaf_text (chunked cs zeros) in
    ap (λ es. e.Text e.Bulk ∷ es) (both (chunk_events (m + 4) cs) (chunk_events (n + 4) cs)
    (record { at = last_of m whole; event = e.TextEnd } ∷ []) (record { at = last_of n whole; event = e.TextEnd } ∷ [])
    (chunks_elsewhere (m + 4) (n + 4) cs) refl)

mutual
  -- a tree
  pub events_elsewhere : (m n : ℕ) (u : Tree) → without_places (events m u) ≡ without_places (events n u)
  events_elsewhere m n (leaf l) = leaf_elsewhere m n l
  events_elsewhere m n (node k form us) =
      let head = length (form_line form) in
      let whole = text (node k form us) in
      ap (λ es. e.Open k (e.declared_count form) ∷ es)
      (both (events_each (m + head + 3) us) (events_each (n + head + 3) us) (close_event m whole ∷ [])
      (close_event n whole ∷ []) (members_elsewhere (m + head + 3) (n + head + 3) us) refl)

  -- the members of an aggregate
  members_elsewhere : (m n : ℕ) (us : Trees) → without_places (events_each m us) ≡ without_places (events_each n us)
  members_elsewhere m n none = refl
  members_elsewhere m n (more u us) =
      let beyond = length (text u) in
      both (events m u) (events n u) (events_each (m + beyond) us) (events_each (n + beyond) us)
      (events_elsewhere m n u) (members_elsewhere (m + beyond) (n + beyond) us)
