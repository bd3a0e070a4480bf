-- Each open aggregate has its close among the events of a tree, and those of the open frames have none yet.
use Rattle.std.proofs.Common.{◌≡◌, ℕ, ◌+◌, List, [], ◌∷◌, ◌++◌, length, Bool, refl, sym, ap, subst, arith}
use Rattle.resp_value.specs.Numbers.{is_below_zero, significant_digits}
use Rattle.resp_value.specs.Trees as t
use Rattle.resp_value.specs.Trees.{Tree, Trees, Leaf, leaf, node, line, numeral, null, truth, string, chunked, form_line, leaf_text, text}
use Rattle.resp_fronts.specs.Frames.{Frame, text_around}
use Rattle.resp_fronts.specs.Events as e
use Rattle.resp_fronts.specs.Events.{Event, TextKind, big_events, close_event, events, events_around, events_each, frame_events, without_places, last_of, leaf_events}
use Rattle.resp_scan.specs.Machine.Beginnings.{string_text_kind}
use Rattle.resp_scan.specs.Counts.{open_count, close_count}
use Rattle.resp_scan.specs.Kinds.{content_events}
use Rattle.resp_scan.proofs.TokenMoves.LeafEvents.{given-big, given-chunked, given-line, given-string}
use Rattle.resp_scan.proofs.TokenMoves.Moves.{given-append}

-- that this many more aggregates open than close
abbrev pub LeaveOpen : ℕ → List Event → Type 0
LeaveOpen n es = open_count es ≡ n + close_count es

-- the opens of one list after another
pub opens-append : (a b : List Event) → open_count (a ++ b) ≡ open_count a + open_count b
opens-append [] b = omega arith
opens-append (x ∷ a) b = omega (arith, opens-append a b)

-- the closes of two runs of events
pub closes-append : (a b : List Event) → close_count (a ++ b) ≡ close_count a + close_count b
closes-append [] b = omega arith
closes-append (x ∷ a) b = omega (arith, closes-append a b)

-- one list after another
pub open-append : (m n : ℕ) (a b : List Event) → LeaveOpen m a → LeaveOpen n b → LeaveOpen (m + n) (a ++ b)
open-append m n a b p q = omega (arith, opens-append a b, closes-append a b)

-- content opens nothing
pub content_opens : (s : List ℕ) → LeaveOpen 0 (content_events s)
content_opens [] = refl
content_opens (b ∷ s) = omega (arith, content_opens s)

-- neither does a text
text_opens : (k : TextKind) (s : List ℕ) → LeaveOpen 0 ((e.Text k ∷ content_events s) ++ e.TextEnd ∷ [])
text_opens k s = open-append 0 0 (e.Text k ∷ content_events s) (e.TextEnd ∷ []) (omega (arith, content_opens s)) refl

told_opens : (es told : List Event) → es ≡ told → LeaveOpen 0 told → LeaveOpen 0 es
told_opens es told h p = subst (LeaveOpen 0) (sym h) p

-- nor a leaf
pub leaf_opens : (from : ℕ) (l : Leaf) → LeaveOpen 0 (without_places (leaf_events from l))
leaf_opens from (line k s) = told_opens _ _ (given-line from k s) (text_opens (e.line_text_kind k) s)
leaf_opens from (numeral t.Int sign digits) = refl
leaf_opens from (numeral t.Big sign digits) = case (is_below_zero sign digits) (significant_digits digits)
    (last_of from (leaf_text (numeral t.Big sign digits)))
  where
    case : (negative : Bool) (kept : List ℕ) (last : ℕ) → LeaveOpen 0 (without_places (big_events negative kept last))
    case negative [] last = refl
    case negative (d ∷ ds) last = told_opens _ _ (given-big negative d ds last) (text_opens (e.Big negative) (d ∷ ds))
leaf_opens from (null form) = refl
leaf_opens from (truth b) = refl
leaf_opens from (string k digits s) = told_opens _ _ (given-string from k digits s) (text_opens (string_text_kind k) s)
leaf_opens from (chunked cs zeros) = told_opens _ _ (given-chunked from cs zeros) (text_opens e.Bulk (t.joined_content cs))

mutual
  -- what a tree opens it closes
  pub tree_opens : (from : ℕ) (u : Tree) → LeaveOpen 0 (without_places (events from u))
  tree_opens from (leaf l) = leaf_opens from l
  tree_opens from (node k form ts) =
      let at = from + length (form_line form) + 3 in
      let h = tree_opens_each at ts in
      let g : without_places (events_each at ts ++ close_event from (text (node k form ts)) ∷ []) ≡ without_places (events_each at ts) ++ e.Close ∷ [] =
      given-append (events_each at ts) (close_event from (text (node k form ts)) ∷ []) in
      omega (
        arith,
        h,
        ap open_count g,
        ap close_count g,
        opens-append (without_places (events_each at ts)) (e.Close ∷ []),
        closes-append (without_places (events_each at ts)) (e.Close ∷ []),
      )

  pub tree_opens_each : (from : ℕ) (ts : Trees) → LeaveOpen 0 (without_places (events_each from ts))
  tree_opens_each from t.none = refl
  tree_opens_each from (t.more u ts) =
      told_opens _ _ (given-append (events from u) (events_each (from + length (text u)) ts))
      (open-append 0 0 (without_places (events from u)) (without_places (events_each (from + length (text u)) ts)) (tree_opens from u)
      (tree_opens_each (from + length (text u)) ts))

-- each frame has one open more
pub frames_open : (frames : List Frame) → LeaveOpen (length frames) (without_places (events_around frames))
frames_open [] = refl
frames_open (f ∷ fs) =
    let start = length (text_around fs []) in
    let at = start + length (form_line f.form) + 3 in
    let h = frames_open fs in
    let i = tree_opens_each at f.done in
    let g = given-append (events_around fs) (frame_events start f) in
    let a = without_places (events_around fs) in
    let b = without_places (frame_events start f) in
    omega (arith, h, i, ap open_count g, ap close_count g, opens-append a b, closes-append a b)
