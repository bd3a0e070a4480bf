-- The events due of a front: those of its open frames, and of the begun value those at its begun bytes.
use Rattle.std.proofs.Common.{◌≡◌, ◌⊎◌, inl, inr, ℕ, ◌+◌, ◌<◌, ◌≤◌, List, [], ◌∷◌, ◌++◌, length, refl, sym, ap, subst, ◌∙◌, arith, append_assoc, append-nil, length-append}
use Rattle.resp_value.specs.Bytes.{crlf}
use Rattle.resp_value.specs.Trees as t
use Rattle.resp_value.specs.Trees.{Tree, Trees, Form, Counted, Streamed, HasMembers, IsTree, close, count, form_line, kind_byte, node, text, texts}
use Rattle.resp_value.proofs.Unique.{not_close}
use Rattle.resp_value.proofs.DefaultLimits.{text_at_least}
use Rattle.resp_fronts.specs.Frames as opened
use Rattle.resp_fronts.specs.Frames.{text_around, open_text}
use Rattle.resp_fronts.specs.MayFollow.{AreOpen}
use Rattle.resp_fronts.specs.Events as e
use Rattle.resp_fronts.specs.Events.{Timed, all_events, close_event, events_due, events, events_around, events_each, frame_events, without_places, last_of, open_event}
use Rattle.resp_fronts.proofs.FrameLaws.Composition.{parted, text-node, kind_no_stop, one_count}
use Rattle.resp_fronts.proofs.EventLaws.EventPlaces.{AreWithin, each_within, within_wider}
use Rattle.resp_fronts.proofs.EventLaws.EventsAround.{events_each-joined, length-around, length-open_text}
use Rattle.resp_fronts.proofs.EventLaws.EventsDue.{AreFrom, BegunIn, due-append, due_all, due_around, due_none, front_events}
use Rattle.resp_fronts.proofs.FrameLaws.OpenFrames.{count-joined_trees, is_node, joined_trees}
use Rattle.resp_scan.proofs.TokenMoves.Moves.{given-append}

-- Done comes at the last byte
pub done_later : (n : ℕ) (whole : Tree) → n < length (text whole) → events_due n (all_events whole) ≡ events_due n (events 0 whole)
done_later n whole before =
    due-append n (events 0 whole) (record { at = last_of 0 (text whole); event = e.Done } ∷ [])
    ∙ ap (λ z. events_due n (events 0 whole) ++ z) (due_none n (record { at = last_of 0 (text whole); event = e.Done } ∷ []) (omega arith, tt))
    ∙ append-nil (events_due n (events 0 whole))

-- events at a byte or after it, from a place before
pub from_later : (low n : ℕ) (es : List Timed) → n ≤ low → AreFrom low es → AreFrom n es
from_later low n [] l p = tt
from_later low n (x ∷ es) l p = (omega (arith, p.0), from_later low n es l p.1)

-- from where they come
pub from_within : (low high : ℕ) (es : List Timed) → AreWithin low high es → AreFrom low es
from_within low high [] p = tt
from_within low high (x ∷ es) p = (p.0.0, from_within low high es p.1)

-- one list after another
pub from-append : (n : ℕ) (a b : List Timed) → AreFrom n a → AreFrom n b → AreFrom n (a ++ b)
from-append n [] b p q = q
from-append n (x ∷ a) b p q = (p.0, from-append n a b p.1 q)

-- of a value that is begun and unfinished
pub due_in : (gs : List opened.Frame) (begun rest : List ℕ) (whole : Tree) (b : BegunIn gs begun rest whole) → length begun < length (text b.value) →
    text whole ≡ text_around gs begun ++ rest → events_due (length (text_around gs begun)) (all_events whole) ≡ without_places (events_around gs) ++
    events_due (length (text_around gs []) + length begun) (events (length (text_around gs [])) b.value)
due_in gs begun rest whole b unfinished spelled =
    let place : length (text_around gs begun) ≡ length (text_around gs []) + length begun = length-around gs begun in
    done_later (length (text_around gs begun)) whole (omega (
      arith,
      ap length spelled,
      length-append (text_around gs begun) rest,
      ap length b.begins,
      length-append (text b.value) b.beyond,
      length-append begun rest,
    ))
    ∙ due_around gs begun b.value whole b.all unfinished
    ∙ ap (λ n. without_places (events_around gs) ++ events_due n (events (length (text_around gs [])) b.value)) place

-- Frames.

-- nothing, or the begin of a close
abbrev pub IsStop : List ℕ → Type 0
IsStop last = (last ≡ []) ⊎ ((x : List ℕ) × (last ≡ 46 ∷ x))

-- members after those taken, or the close, don't come before a begun close
later_members : (n at : ℕ) (last : List ℕ) (us : Trees) (form : Form) (beyond rest : List ℕ) → n ≡ at + length last → IsStop last →
    (texts us ++ close form) ++ beyond ≡ last ++ rest → AreFrom n (events_each at us)
later_members n at last t.none form beyond rest place stop same = tt
later_members n at last (t.more u us) form beyond rest place (inl none) same =
    let m : n ≤ at = omega (arith, place, ap length none) in
    from_later at n (events_each at (t.more u us)) m (from_within at (at + length (texts (t.more u us))) (events_each at (t.more u us))
    (each_within at (t.more u us)))
later_members n at last (t.more u us) form beyond rest place (inr (x, stop)) same =
    absurd (not_close u ((texts us ++ close form) ++ beyond) (x ++ rest) (sym (append_assoc (text u) (texts us ++ close form) beyond) ∙
    ap (λ z. z ++ beyond) (sym (append_assoc (text u) (texts us) (close form))) ∙ same ∙ ap (λ z. z ++ rest) stop))

-- and the aggregate is unfinished
unfinished_by : (last : List ℕ) (us : Trees) (form : Form) (beyond rest : List ℕ) → length last < 3 → IsStop last →
    ((digits : List ℕ) → form ≡ Counted digits → 0 < count us) → (texts us ++ close form) ++ beyond ≡ last ++ rest →
    length last < length (texts us) + length (close form)
unfinished_by last t.none (Counted digits) beyond rest short stop some same = absurd (omega (arith, some digits refl))
unfinished_by last t.none Streamed beyond rest short stop some same = omega (arith, short)
unfinished_by last (t.more u us) form beyond rest short stop some same = omega (arith, short, text_at_least u, length-append (text u) (texts us))

-- of an aggregate of which a frame has the first members those of the frame are due, and none of the later ones
node_due : (g : opened.Frame) (us : Trees) (start n : ℕ) → start + length (open_text g) ≤ n →
    n < start + length (text (node g.kind g.form (joined_trees g.done us))) → AreFrom n (events_each (start + length (open_text g)) us) →
    events_due n (events start (node g.kind g.form (joined_trees g.done us))) ≡ without_places (frame_events start g)
node_due g us start n after before later =
    let at = start + length (form_line g.form) + 3 in
    let next = start + length (open_text g) in
    let v = node g.kind g.form (joined_trees g.done us) in
    let end = close_event start (text v) ∷ [] in
    let here : at + length (texts g.done) ≡ next = omega (arith, length-open_text g) in
    let split : events start v ≡ frame_events start g ++ (events_each next us ++ end) =
    ap (λ z. open_event start g.kind g.form ∷ (z ++ end)) (events_each-joined at g.done us ∙ ap (λ m. events_each at g.done ++ events_each m us) here) ∙
    ap (λ z. open_event start g.kind g.form ∷ z) (append_assoc (events_each at g.done) (events_each next us) end) in
    let within : AreWithin start n (frame_events start g) = (
      (omega arith, omega (arith, here)),
      within_wider at (at + length (texts g.done)) start n (events_each at g.done) (omega arith) (omega (arith, here)) (each_within at g.done),
    ) in
    ap (events_due n) split
    ∙ due-append n (frame_events start g) (events_each next us ++ end)
    ∙ ap (λ z. z ++ events_due n (events_each next us ++ end)) (due_all start n (frame_events start g) within)
    ∙ ap (λ z. without_places (frame_events start g) ++ z) (due_none n (events_each next us ++ end)
    (from-append n (events_each next us) end later (omega arith, tt)))
    ∙ append-nil (without_places (frame_events start g))

-- what the frames have taken
pub frames_due : (g : opened.Frame) (gs : List opened.Frame) (last rest : List ℕ) (whole : Tree) → AreOpen (g ∷ gs) → length last < 3 → IsStop last →
    IsTree whole → text whole ≡ text_around (g ∷ gs) last ++ rest → events_due (length (text_around (g ∷ gs) last)) (all_events whole) ≡
    without_places (events_around (g ∷ gs))
frames_due g gs last rest whole o short stop is_tree spelled =
    let begun = open_text g ++ last in
    let start = length (text_around gs []) in
    let b = front_events gs begun rest whole o.4 (kind_no_stop g.kind (((form_line g.form ++ crlf (texts g.done)) ++ last) ++ rest)) is_tree spelled in
    let head = kind_byte g.kind ∷ form_line g.form in
    let parts : text b.value ++ b.beyond ≡ head ++ crlf (texts g.done ++ (last ++ rest)) = b.begins ∙ append_assoc (open_text g) last rest ∙
    append_assoc head (crlf (texts g.done)) (last ++ rest) in
    let (ts, same, after) = is_node b.value g.kind g.form o.0 b.beyond (texts g.done ++ (last ++ rest)) b.is_tree o.1 parts in
    let q : IsTree (node g.kind g.form ts) = subst IsTree same b.is_tree in
    let (us, joined, left) = parted g.form g.done ts b.beyond (last ++ rest) o.3 q.1
    (λ ds i. omega (arith, o.2, one_count g.kind g.form o.0 (count ts) o.1 q.0 ds i)) after in
    let n : count ts ≡ count g.done + count us = ap count joined ∙ count-joined_trees g.done us in
    let some : (ds : List ℕ) → g.form ≡ Counted ds → 0 < count us =
    λ ds i. omega (arith, n, o.2, one_count g.kind g.form o.0 (count ts) o.1 q.0 ds i) in
    let v = node g.kind g.form (joined_trees g.done us) in
    let value : b.value ≡ v = same ∙ ap (node g.kind g.form) joined in
    let size : length (text v) ≡ length (open_text g ++ (texts us ++ close g.form)) = sym (ap length (append-nil (text v))) ∙ ap length (text-node g us []) ∙
    ap (λ z. length (open_text g ++ z)) (append-nil (texts us ++ close g.form)) in
    let size_of : length (text b.value) ≡ length (text v) = ap (λ z. length (text z)) value in
    let short_of : length begun < length (text v) = omega (
      arith,
      size,
      unfinished_by last us g.form b.beyond rest short stop some left,
      length-append (open_text g) last,
      length-append (open_text g) (texts us ++ close g.form),
      length-append (texts us) (close g.form),
    ) in
    let place : start + length begun ≡ start + length (open_text g) + length last = omega (arith, length-append (open_text g) last) in
    due_in gs begun rest whole b (omega (arith, size_of, short_of)) spelled
    ∙ ap (λ z. without_places (events_around gs) ++ z) (ap (λ z. events_due (start + length begun) (events start z)) value ∙
    node_due g us start (start + length begun) (omega (arith, place)) (omega (arith, short_of))
    (later_members (start + length begun) (start + length (open_text g)) last us g.form b.beyond rest place stop left))
    ∙ sym (given-append (events_around gs) (frame_events start g))
