-- No Done stands among the events of content, of a leaf, of a tree, or of open frames.
use Rattle.std.proofs.Common.{◌≡◌, ℕ, ◌+◌, List, [], ◌∷◌, ◌++◌, length, Bool, sym, subst}
use Rattle.resp_value.specs.Numbers.{is_below_zero, significant_digits}
use Rattle.resp_value.specs.Trees as t
use Rattle.resp_value.specs.Trees.{Tree, Trees, Leaf, leaf, node, line, numeral, null, truth, string, chunked, form_line, leaf_text, text}
use Rattle.resp_fronts.specs.Frames.{Frame, text_around}
use Rattle.resp_fronts.specs.Events as e
use Rattle.resp_fronts.specs.Events.{Event, TextKind, big_events, close_event, events, events_around, events_each, frame_events, without_places, last_of, leaf_events}
use Rattle.resp_scan.specs.Kinds.{content_events}
use Rattle.resp_scan.specs.Reading.{HasNoDone}
use Rattle.resp_scan.proofs.TokenMoves.LeafEvents.{given-big, given-chunked, given-line, given-string}
use Rattle.resp_scan.proofs.TokenMoves.Moves.{given-append}

-- one list after another
pub no_done-append : (a b : List Event) → HasNoDone a → HasNoDone b → HasNoDone (a ++ b)
no_done-append [] b p q = q
no_done-append (x ∷ a) b p q = (p.0, no_done-append a b p.1 q)

-- the first of two lists
pub no_done_before : (a b : List Event) → HasNoDone (a ++ b) → HasNoDone a
no_done_before [] b h = tt
no_done_before (x ∷ a) b h = (h.0, no_done_before a b h.1)

-- the second of two lists
pub no_done_after : (a b : List Event) → HasNoDone (a ++ b) → HasNoDone b
no_done_after [] b h = h
no_done_after (x ∷ a) b h = no_done_after a b h.1

-- content
pub content_no_done : (s : List ℕ) → HasNoDone (content_events s)
content_no_done [] = tt
content_no_done (b ∷ s) = (tt, content_no_done s)

-- a text with its content
text_no_done : (es : List Event) (k : TextKind) (s : List ℕ) → es ≡ (e.Text k ∷ content_events s) ++ e.TextEnd ∷ [] → HasNoDone es
text_no_done es k s told = subst HasNoDone (sym told) (no_done-append (e.Text k ∷ content_events s) (e.TextEnd ∷ []) (tt, content_no_done s) (tt, tt))

-- a leaf
pub leaf_no_done : (from : ℕ) (l : Leaf) → HasNoDone (without_places (leaf_events from l))
leaf_no_done from (line k s) = text_no_done _ _ s (given-line from k s)
leaf_no_done from (numeral t.Int sign digits) = (tt, tt)
leaf_no_done from (numeral t.Big sign digits) = case (is_below_zero sign digits) (significant_digits digits)
    (last_of from (leaf_text (numeral t.Big sign digits)))
  where
    case : (negative : Bool) (kept : List ℕ) (last : ℕ) → HasNoDone (without_places (big_events negative kept last))
    case negative [] last = (tt, (tt, tt))
    case negative (d ∷ ds) last = text_no_done _ _ (d ∷ ds) (given-big negative d ds last)
leaf_no_done from (null form) = (tt, tt)
leaf_no_done from (truth b) = (tt, tt)
leaf_no_done from (string k digits s) = text_no_done _ _ s (given-string from k digits s)
leaf_no_done from (chunked cs zeros) = text_no_done _ _ (t.joined_content cs) (given-chunked from cs zeros)

mutual
  -- a tree
  pub tree_no_done : (from : ℕ) (u : Tree) → HasNoDone (without_places (events from u))
  tree_no_done from (leaf l) = leaf_no_done from l
  tree_no_done from (node k form ts) =
      let at = from + length (form_line form) + 3 in
      let last = close_event from (text (node k form ts)) ∷ [] in (
        tt,
        subst HasNoDone (sym (given-append (events_each at ts) last))
            (no_done-append (without_places (events_each at ts)) (e.Close ∷ []) (trees_no_done at ts) (tt, tt)),
      )

  pub trees_no_done : (from : ℕ) (ts : Trees) → HasNoDone (without_places (events_each from ts))
  trees_no_done from t.none = tt
  trees_no_done from (t.more u ts) =
      let beyond = from + length (text u) in
      subst HasNoDone (sym (given-append (events from u) (events_each beyond ts)))
      (no_done-append (without_places (events from u)) (without_places (events_each beyond ts)) (tree_no_done from u) (trees_no_done beyond ts))

-- open frames
pub frames_no_done : (frames : List Frame) → HasNoDone (without_places (events_around frames))
frames_no_done [] = tt
frames_no_done (f ∷ fs) =
    let start = length (text_around fs []) in
    subst HasNoDone (sym (given-append (events_around fs) (frame_events start f)))
    (no_done-append (without_places (events_around fs)) (without_places (frame_events start f)) (frames_no_done fs)
    (tt, trees_no_done (start + length (form_line f.form) + 3) f.done))
