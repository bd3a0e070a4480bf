-- The events of a flush, and those of steps, up to a place and beyond it.
use Rattle.std.proofs.Common.{◌≡◌, ℕ, zero, suc, ◌+◌, ◌-◌, ◌<◌, true, List, [], ◌∷◌, ◌++◌, Option, Err, length, take, drop, get_or, sym, ap, subst, ◌∙◌, arith, append_assoc, append-nil, add-zero, add-suc, add-one, take-append-drop}
use Rattle.std.proofs.lemmas.Grind.{flat_map-append}
use Rattle.resp_value.specs.Bounds.{Bounds}
use Rattle.resp_io.specs.Devices.{last_count}
use Rattle.resp_session.specs.Worlds.{World, ToServer, ToClient}
use Rattle.resp_wire.specs.Worlds.{WorldState}
use Rattle.resp_wire.specs.declared.event.Event.{Event}
use Rattle.resp_cli_loop.specs.Plays.{PlaysTo, flush_events, played, step_events, steps_events}
use Rattle.resp_cli_loop.specs.Printed.{PlayedEvent}
use Rattle.resp_cli_loop.specs.declared.play.PlayError.{PlayError}
use Rattle.resp_cli_loop.proofs.Played.{stops_before}

-- the event by which what waits of a client goes to its session, and that by which what waits there goes to it
abbrev pub to_server : ℕ → ℕ → PlayedEvent
to_server line client = played line true (ToServer client last_count)

abbrev pub to_client : ℕ → ℕ → PlayedEvent
to_client line client = played line true (ToClient client last_count)

-- the events of one client more
pub flush_more : (line i : ℕ) → flush_events line (i + 1) ≡ (flush_events line i ++ to_server line (i + 1) ∷ []) ++ to_client line (i + 1) ∷ []
flush_more line i =
    let next : i + 1 ≡ suc i = add-one i in
    ap (flush_events line) next
    ∙ ap (λ n. flush_events line i ++ (to_server line n ∷ to_client line n ∷ [])) (sym next)
    ∙ sym (append_assoc (flush_events line i) (to_server line (i + 1) ∷ []) (to_client line (i + 1) ∷ []))

flush_front : (line i k : ℕ) → (rest : List PlayedEvent) × (flush_events line (i + k) ≡ flush_events line i ++ rest)
flush_front line i zero = ([], ap (flush_events line) (add-zero i) ∙ sym (append-nil (flush_events line i)))
flush_front line i (suc k) =
    let (rest, is) = flush_front line i k in
    let last = to_server line (suc (i + k)) ∷ to_client line (suc (i + k)) ∷ [] in (
      rest ++ last,
      ap (flush_events line) (add-suc i k) ∙ ap (λ z. z ++ last) is ∙ append_assoc (flush_events line i) rest last,
    )

-- the events of a flush up to a client are the first of it
pub flush_splits : (line i n : ℕ) → i < n → (rest : List PlayedEvent) ×
    (flush_events line n ≡ ((flush_events line i ++ to_server line (i + 1) ∷ []) ++ to_client line (i + 1) ∷ []) ++ rest)
flush_splits line i n within =
    let (rest, is) = flush_front line (i + 1) (n - (i + 1)) in
    let whole : (i + 1) + (n - (i + 1)) ≡ n = omega (arith, within) in
    (rest, ap (flush_events line) (sym whole) ∙ is ∙ ap (λ z. z ++ rest) (flush_more line i))

-- what stopped the first of some events stops all of them
pub stops_within : {L : Type 0} (is_honest : L → Type 0) (limits : Bounds) (w : World) (first more whole : List PlayedEvent) (after : WorldState L)
    (a b : Option (List ℕ)) (error : PlayError) → whole ≡ first ++ more → PlaysTo is_honest limits w first after a b (Err error) →
    PlaysTo is_honest limits w whole after a b (Err error)
stops_within is_honest limits w first more whole after a b error is stops =
    subst (λ es. PlaysTo is_honest limits w es after a b (Err error)) (sym is) (stops_before is_honest limits w first more after a b error stops)

taken_suc : {A : Type 0} (xs : List A) (i : ℕ) (x : A) → i < length xs → x ≡ get_or xs i x → take (suc i) xs ≡ take i xs ++ x ∷ []
taken_suc {A} [] i x within is = absurd (omega (arith, within))
taken_suc {A} (y ∷ ys) zero x within is = ap (λ z. z ∷ []) (sym is)
taken_suc {A} (y ∷ ys) (suc i) x within is = ap (λ z. y ∷ z) (taken_suc ys i x (omega (arith, within)) is)

-- the events of one step more
pub steps_more : (clients : ℕ) (steps items : List (ℕ × Option Event)) → items ≡ steps → (i : ℕ) (step : ℕ × Option Event) →
    i < length items → step ≡ get_or items i step →
    steps_events clients (take (i + 1) steps) ≡ steps_events clients (take i steps) ++ step_events clients step.0 step.1
steps_more clients steps items same i step less found =
    let within = subst (λ items. i < length items) same less in
    let is = subst (λ items. step ≡ get_or items i step) same found in
    let events : ℕ × Option Event → List PlayedEvent = λ step. step_events clients step.0 step.1 in
    ap (λ n. steps_events clients (take n steps)) (add-one i)
    ∙ ap (steps_events clients) (taken_suc steps i step within is)
    ∙ flat_map-append events (take i steps) (step ∷ [])
    ∙ ap (λ z. steps_events clients (take i steps) ++ z) (append-nil (events step))

-- the events of steps up to one are the first of them
pub steps_split : (clients : ℕ) (steps items : List (ℕ × Option Event)) → items ≡ steps → (i : ℕ) (step : ℕ × Option Event) →
    i < length items → step ≡ get_or items i step →
    steps_events clients steps ≡ (steps_events clients (take i steps) ++ step_events clients step.0 step.1) ++ steps_events clients (drop (i + 1) steps)
steps_split clients steps items same i step less found =
    let events : ℕ × Option Event → List PlayedEvent = λ step. step_events clients step.0 step.1 in
    ap (steps_events clients) (sym (take-append-drop (i + 1) steps))
    ∙ flat_map-append events (take (i + 1) steps) (drop (i + 1) steps)
    ∙ ap (λ z. z ++ steps_events clients (drop (i + 1) steps)) (steps_more clients steps items same i step less found)
