-- The events due where a value is begun: those of its frames, and those due of every value that its bytes begin.
use Rattle.std.specs.Prelude.{true, false, nat_le}
use Rattle.std.proofs.lemmas.Bool.Decides.{nat_tests}
use Rattle.std.proofs.Common.{◌≡◌, ℕ, ◌+◌, ◌<◌, ◌≤◌, List, [], ◌∷◌, ◌++◌, length, refl, sym, ap, ◌∙◌, arith, append_assoc, append-nil, length-append}
use Rattle.resp_value.specs.Rules.{Rules, WithinItems}
use Rattle.resp_value.specs.LocalRules.{LeafKeeps, NodeKeeps}
use Rattle.resp_value.specs.Trees.{Tree, IsTree, text}
use Rattle.resp_value.proofs.FirstBytes.{byte_at_start}
use Rattle.resp_value.proofs.Unique.{not_close, unique}
use Rattle.resp_fronts.specs.Frames.{text_around}
use Rattle.resp_fronts.specs.Events.{Event, all_events, events_due, events, events_around, without_places}
use Rattle.resp_fronts.proofs.Tokens.BegunFronts.{IsBegunBy}
use Rattle.resp_fronts.proofs.EventLaws.EventsDue.{front_events}
use Rattle.resp_fronts.proofs.FrameLaws.LeastAround.{are_open}
use Rattle.resp_scan.specs.declared.frame.Frame.{Frame}
use Rattle.resp_scan.specs.Machine.Standing.{IsInside}
use Rattle.resp_scan.proofs.DueEvents.FramesDue.{due_in}
use Rattle.resp_scan.proofs.TokenMoves.Moves.{at_level}
use Rattle.resp_scan.proofs.DueEvents.OutsideDue.{AreDue}

-- in every value that the bytes begin these are the events due by then
abbrev pub AreDueWithin : List ℕ → List Event → Type 0
AreDueWithin bytes shown = (from : ℕ) (value : Tree) (beyond : List ℕ) → IsTree value → text value ≡ bytes ++ beyond →
    events_due (from + length bytes) (events from value) ≡ shown

-- of two fronts of one text the longer begins with the shorter
pub longer_front : (a b x y : List ℕ) → a ++ x ≡ b ++ y → length b ≤ length a → (z : List ℕ) × (a ≡ b ++ z)
longer_front a [] x y e l = (a, refl)
longer_front [] (d ∷ b) x y e l = absurd (omega (arith, l))
longer_front (c ∷ a) (d ∷ b) x y e l =
    let t : a ++ x ≡ b ++ y = cc in
    let c0 : c ≡ d = cc in
    let (z, h) = longer_front a b x y t (omega (arith, l)) in
    let h0 : a ≡ b ++ z = h in
    (z, cc)

-- a value whose bytes have begun goes on after them
goes_after : (r : Rules) (level : ℕ) (bytes : List ℕ) (n : ℕ) (value : Tree) (beyond rest : List ℕ) → IsBegunBy r level bytes n → IsTree value →
    text value ++ beyond ≡ bytes ++ rest → (length bytes < length (text value)) × ((c : List ℕ) × (text value ≡ bytes ++ c))
goes_after r level bytes n value beyond rest b is_tree e =
    elim (nat_le (length (text value)) (length bytes)) as (λ x. nat_le (length (text value)) (length bytes) ≡ x →
    (length bytes < length (text value)) × ((c : List ℕ) × (text value ≡ bytes ++ c))) [
      | true ↦ λ z. absurd (
          let shorter : length (text value) ≤ length bytes = grind (arith, nat_tests) in
          let (c, h) = longer_front bytes (text value) rest beyond (sym e) shorter in
          let least = b.least.holds in
          let u = unique value least.tree (c ++ b.least.some) [] is_tree least.is_tree (sym (append_assoc (text value) c b.least.some) ∙
          ap (λ z. z ++ b.least.some) (sym h) ∙ sym least.whole ∙ sym (append-nil (text least.tree))) in
          omega (arith, ap length u.1, length-append c b.least.some, b.least.size, b.some))
      | false ↦ λ z.
          let longer : length bytes < length (text value) = grind (arith, nat_tests) in
          (longer, longer_front (text value) bytes beyond rest e (omega (arith, longer)))
    ] refl

-- the events of the frames, and those shown of the token
pub inside_due : (r : Rules) (T : ℕ → List ℕ → List Event → Type 0) (fs : List Frame) (front : List ℕ) (es : List Event) (n : ℕ) → IsInside r T fs front es →
    ((level : ℕ) (bytes : List ℕ) (shown : List Event) → level ≡ length fs → T level bytes shown → IsBegunBy r level bytes n) →
    ((level : ℕ) (bytes : List ℕ) (shown : List Event) → T level bytes shown → AreDueWithin bytes shown) → AreDue front es
inside_due r T fs front es n w row told rest whole is_tree spelled =
    let begun = row (length w.frames) w.bytes w.shown (at_level w) w.took in
    let h = begun.least.holds in
    let no_stop : byte_at_start (w.bytes ++ rest) ≡ 46 → ⊥ = λ i.
    not_close h.tree [] (begun.tail ++ begun.least.some) (append-nil (text h.tree) ∙ h.whole ∙ ap (λ z. z ++ begun.least.some) begun.parts ∙
    ap (λ z. z ∷ (begun.tail ++ begun.least.some)) (sym (ap (λ z. byte_at_start (z ++ rest)) begun.parts) ∙ i)) in
    let spelled_in : text whole ≡ text_around w.frames w.bytes ++ rest = spelled ∙ ap (λ z. z ++ rest) w.whole in
    let b = front_events w.frames w.bytes rest whole (are_open (LeafKeeps r WithinItems) (NodeKeeps r WithinItems) w.frames w.can_end) no_stop is_tree
    spelled_in in
    let g = goes_after r (length w.frames) w.bytes n b.value b.beyond rest begun b.is_tree b.begins in
    ap (λ z. events_due (length z) (all_events whole)) w.whole
    ∙ due_in w.frames w.bytes rest whole b g.0 spelled_in
    ∙ ap (λ z. without_places (events_around w.frames) ++ z) (told (length w.frames) w.bytes w.shown w.took (length (text_around w.frames [])) b.value g.1.0
    b.is_tree g.1.1)
    ∙ sym w.told
