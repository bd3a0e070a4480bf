-- The bytes that a link carries, and the links of a world after an event.
use Rattle.std.proofs.Common.{◌≡◌, ℕ, ◌+◌, ◌-◌, ◌≤◌, List, [], ◌++◌, Option, None, Some, length, min, set, take, drop, slice_get, IfSome, sym, ap, subst, ◌∙◌, arith, append_assoc}
use Rattle.std.proofs.Math.Seq.{take-add}
use Rattle.std.proofs.lemmas.List.{append-nil, take_min}
use Rattle.resp_server.proofs.Slots.{get_set_other}
use Rattle.resp_server.specs.Hubs.{HubState, Seat, seat_at, seated}
use Rattle.resp_wire.specs.Links.{Carries, Traffic, with_carried}
use Rattle.resp_wire.specs.Worlds.{OthersStay}
use Rattle.resp_wire.specs.declared.link.Direction.{Direction}
use Rattle.resp_wire.specs.declared.link.Direction.TheVariants.{ToServer, ToClient}
use Rattle.resp_wire.proofs.Showing.{at_there, if_there, there_still, without}

carried_none : (way : Direction) (t : Traffic) → with_carried way [] t ≡ t
carried_none ToServer t = ap (λ bytes. let z : Traffic = record { to_server = bytes; to_client = t.to_client } in z) (append-nil t.to_server)
carried_none ToClient t = ap (λ bytes. let z : Traffic = record { to_server = t.to_server; to_client = bytes } in z) (append-nil t.to_client)

carried_more : (way : Direction) (xs ys : List ℕ) (t : Traffic) → with_carried way ys (with_carried way xs t) ≡ with_carried way (xs ++ ys) t
carried_more ToServer xs ys t =
    ap (λ bytes. let z : Traffic = record { to_server = bytes; to_client = t.to_client } in z) (append_assoc t.to_server xs ys)
carried_more ToClient xs ys t =
    ap (λ bytes. let z : Traffic = record { to_server = t.to_server; to_client = bytes } in z) (append_assoc t.to_client xs ys)

pub carries_none : (way : Direction) (t : Option Traffic) → Carries way [] t t
carries_none way None = tt
carries_none way (Some t) = ap Some (sym (carried_none way t))

carries_more : (way : Direction) (a b c : Option Traffic) (xs ys : List ℕ) → Carries way xs a b → Carries way ys b c → Carries way (xs ++ ys) a c
carries_more way None b c xs ys first second = tt
carries_more way (Some t) b c xs ys first second =
    subst (λ z. Carries way ys z c) first second ∙ ap Some (carried_more way xs ys t)

-- these many bytes of a text, and then more of it
pub carries_part : (way : Direction) (a b c : Option Traffic) (text : List ℕ) (done n : ℕ) → Carries way (take done text) a b →
    Carries way (take n (drop done text)) b c → Carries way (take (done + n) text) a c
carries_part way a b c text done n first second =
    subst (λ z. Carries way z a c) (sym (take-add done n text)) (carries_more way a b c (take done text) (take n (drop done text)) first second)

-- all that was to be carried, or all that waited
pub carries_whole : (way : Direction) (a b : Option Traffic) (text : List ℕ) (done count : ℕ) → done ≡ min count (length text) →
    Carries way (take done text) a b → Carries way (take count text) a b
carries_whole way a b text done count all = subst (λ z. Carries way z a b) (ap (λ k. take k text) all ∙ take_min count text)

-- the same of what waits in a session
pub shown_none : (hub : HubState) (id : ℕ) (t : Option Traffic) → IfSome (seat_at hub id) (λ (s : Seat). Carries ToClient (take 0 s.out) t t)
shown_none hub id t = if_there hub id _ (λ s here. carries_none ToClient t)

pub shown_part : (old cur : HubState) (id done n : ℕ) (a b c : Option Traffic) →
    IfSome (seat_at old id) (λ s. cur ≡ seated old id (without done s)) →
    IfSome (seat_at old id) (λ (s : Seat). Carries ToClient (take done s.out) a b) →
    IfSome (seat_at cur id) (λ (s : Seat). Carries ToClient (take n s.out) b c) →
    IfSome (seat_at old id) (λ (s : Seat). Carries ToClient (take (done + n) s.out) a c)
shown_part old cur id done n a b c dropped first second = if_there old id _ (λ s here.
    let state = at_there old id (λ t. cur ≡ seated old id (without done t)) s here dropped in
    carries_part ToClient a b c s.out done n (at_there old id (λ (t : Seat). Carries ToClient (take done t.out) a b) s here first)
    (at_there cur id (λ (t : Seat). Carries ToClient (take n t.out) b c) (without done s) (there_still old cur id s done here state) second))

pub shown_whole : (old : HubState) (id done count : ℕ) (text : List ℕ) (a b : Option Traffic) →
    ((s : Seat) → seat_at old id ≡ Some s → s.out ≡ text) → done ≡ min count (length text) →
    IfSome (seat_at old id) (λ (s : Seat). Carries ToClient (take done s.out) a b) →
    IfSome (seat_at old id) (λ (s : Seat). Carries ToClient (take count s.out) a b)
shown_whole old id done count text a b same all so_far = if_there old id _ (λ s here.
    carries_whole ToClient a b s.out done count (all ∙ ap (λ z. min count (length z)) (sym (same s here)))
    (at_there old id (λ (t : Seat). Carries ToClient (take done t.out) a b) s here so_far))

-- The links of a world.

pub others_stay : {L : Type 0} (links : List L) (client : ℕ) (link : L) → 1 ≤ client → OthersStay client links (set links (client - 1) link)
others_stay {L} links client link some k other = get_set_other links (client - 1) k link (λ same. other (omega (arith, same, some)))

pub same_links : {L : Type 0} (client : ℕ) (old new : List L) → new ≡ old → OthersStay client old new
same_links {L} client old new same k other = ap (λ l. slice_get l k) same
