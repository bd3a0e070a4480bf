-- Events of what open frames have taken: as a head opens one, as a member of it ends, and as it closes.
use Rattle.std.proofs.Common.{◌≡◌, ℕ, ◌+◌, List, [], ◌∷◌, ◌++◌, length, sym, ap, ◌∙◌, arith, append_assoc, append-nil, length-append}
use Rattle.resp_value.specs.Bytes.{crlf}
use Rattle.resp_value.specs.Trees.{Tree, Trees, node, none, more, text, texts, kind_byte, form_line}
use Rattle.resp_fronts.specs.Frames.{Frame, open_text, text_around}
use Rattle.resp_fronts.specs.Events.{events, events_each, open_event, close_event, frame_events, events_around}
use Rattle.resp_fronts.proofs.FrameLaws.OpenFrames.{joined_trees}
use Rattle.resp_fronts.proofs.FrameLaws.Composition.{around-append}
use Rattle.resp_fronts.proofs.FrameLaws.Levels.{with_member}

-- the bytes that frames have taken, and then more
pub length-around : (frames : List Frame) (begun : List ℕ) → length (text_around frames begun) ≡ length (text_around frames []) + length begun
length-around frames begun = sym (ap length (around-append frames [] begun)) ∙ length-append (text_around frames []) begun

-- the bytes of a frame's head and members
pub length-open_text : (frame : Frame) → length (open_text frame) ≡ length (form_line frame.form) + 3 + length (texts frame.done)
length-open_text frame = omega (arith, length-append (kind_byte frame.kind ∷ form_line frame.form) (crlf (texts frame.done)))

-- where a frame's next member begins
pub next_member_at : (frame : Frame) (frames : List Frame) → length (text_around (frame ∷ frames) []) ≡
    length (text_around frames []) + length (form_line frame.form) + 3 + length (texts frame.done)
next_member_at frame frames = omega (arith, length-around frames (open_text frame ++ []), ap length (append-nil (open_text frame)), length-open_text frame)

-- the events of trees, one list after another
pub events_each-joined : (from : ℕ) (ts us : Trees) → events_each from (joined_trees ts us) ≡ events_each from ts ++ events_each (from + length (texts ts)) us
events_each-joined from none us = let e : from ≡ from + 0 = omega arith in ap (λ n. events_each n us) e
events_each-joined from (more t ts) us =
    let e : from + length (text t) + length (texts ts) ≡ from + length (text t ++ texts ts) = omega (arith, length-append (text t) (texts ts)) in
    ap (λ z. events from t ++ z) (events_each-joined (from + length (text t)) ts us ∙ ap (λ n. events_each (from + length (text t)) ts ++ events_each n us) e)
    ∙ sym (append_assoc (events from t) (events_each (from + length (text t)) ts) (events_each (from + length (text t ++ texts ts)) us))

-- a member ends in a frame
pub events-member : (frame : Frame) (frames : List Frame) (t : Tree) → events_around (with_member frame t ∷ frames) ≡ events_around (frame ∷ frames) ++
    events (length (text_around (frame ∷ frames) [])) t
events-member frame frames t =
    let from = length (text_around frames []) + length (form_line frame.form) + 3 in
    let here : from + length (texts frame.done) ≡ length (text_around (frame ∷ frames) []) = sym (next_member_at frame frames) in
    let each : events_each from (joined_trees frame.done (more t none)) ≡ events_each from frame.done ++ events (length (text_around (frame ∷ frames) [])) t =
    events_each-joined from frame.done (more t none) ∙ ap (λ z. events_each from frame.done ++ z) (append-nil (events (from + length (texts frame.done)) t)) ∙
    ap (λ n. events_each from frame.done ++ events n t) here in
    ap (λ z. events_around frames ++ open_event (length (text_around frames [])) frame.kind frame.form ∷ z) each
    ∙ sym (append_assoc (events_around frames) (frame_events (length (text_around frames [])) frame) (events (length (text_around (frame ∷ frames) [])) t))

-- a frame closes: its events are those of the aggregate
pub events-closed : (frame : Frame) (frames : List Frame) → events_around (frame ∷ frames) ++
    close_event (length (text_around frames [])) (text (node frame.kind frame.form frame.done)) ∷ [] ≡ events_around frames ++
    events (length (text_around frames [])) (node frame.kind frame.form frame.done)
events-closed frame frames = append_assoc (events_around frames) (frame_events (length (text_around frames [])) frame)
    (close_event (length (text_around frames [])) (text (node frame.kind frame.form frame.done)) ∷ [])

-- the events of an aggregate of which a frame has the first members
pub events-node : (frame : Frame) (frames : List Frame) (t : Tree) (ts : Trees) →
    events_around frames ++ events (length (text_around frames [])) (node frame.kind frame.form (joined_trees frame.done (more t ts)))
    ≡ events_around (frame ∷ frames) ++ (events (length (text_around (frame ∷ frames) [])) t ++
    (events_each (length (text_around (frame ∷ frames) (text t))) ts ++
    close_event (length (text_around frames [])) (text (node frame.kind frame.form (joined_trees frame.done (more t ts)))) ∷ []))
events-node frame frames t ts =
    let start = length (text_around frames []) in
    let from = start + length (form_line frame.form) + 3 in
    let here = length (text_around (frame ∷ frames) []) in
    let at : from + length (texts frame.done) ≡ here = sym (next_member_at frame frames) in
    let next : here + length (text t) ≡ length (text_around (frame ∷ frames) (text t)) = sym (length-around (frame ∷ frames) (text t)) in
    let end = close_event start (text (node frame.kind frame.form (joined_trees frame.done (more t ts)))) ∷ [] in
    let each : events_each from (joined_trees frame.done (more t ts)) ≡ events_each from frame.done ++
    (events here t ++ events_each (length (text_around (frame ∷ frames) (text t))) ts) =
    events_each-joined from frame.done (more t ts) ∙ ap (λ n. events_each from frame.done ++ (events n t ++ events_each (n + length (text t)) ts)) at ∙
    ap (λ n. events_each from frame.done ++ (events here t ++ events_each n ts)) next in
    ap (λ z. events_around frames ++ open_event start frame.kind frame.form ∷ (z ++ end)) each
    ∙ ap (λ z. events_around frames ++ open_event start frame.kind frame.form ∷ z)
    (append_assoc (events_each from frame.done) (events here t ++ events_each (length (text_around (frame ∷ frames) (text t))) ts) end ∙
    ap (λ z. events_each from frame.done ++ z) (append_assoc (events here t) (events_each (length (text_around (frame ∷ frames) (text t))) ts) end))
    ∙ sym (append_assoc (events_around frames) (frame_events start frame)
    (events here t ++ (events_each (length (text_around (frame ∷ frames) (text t))) ts ++ end)))
