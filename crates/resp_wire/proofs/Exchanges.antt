-- All requests queued, written and heard, one after another.
use Rattle.std.proofs.Common.{◌≡◌, ℕ, ◌≤◌, List, [], ◌++◌, length, take, drop, Option, Err, sym, ap, subst, ◌∙◌, arith}
use Rattle.std.specs.Prelude.{IsErrOf, Result}
use Rattle.std.proofs.lemmas.List.{append-nil, take-append-drop, take_all}
use Rattle.resp_io.specs.Devices.{Appends}
use Rattle.resp_client.specs.Clients.{ClientState, state_of, without_front}
use Rattle.resp_client.specs.declared.client.Client.{Client}
use Rattle.resp_wire.specs.Asking.{SendsAll, SendsPart, asked, sent}
use Rattle.resp_wire.specs.Requests.{MayAllBeSent, with_requests}
use Rattle.resp_wire.specs.Stops.{FailsWriting, KeepsFault, QueuesFirst, StopsQueueing}
use Rattle.resp_wire.specs.declared.asked.Request.{Request}
use Rattle.resp_wire.specs.declared.error.AskError.{AskError}
use Rattle.resp_wire.specs.declared.error.AskError.TheVariants as error

-- what a write of all that waits says of it
abbrev pub HasSent : Client → Client → Option (List ℕ) → Option (List ℕ) → Type 0
HasSent old new held held' = (count : ℕ) × (count ≤ length (state_of old).out) × Appends held held' (take count (state_of old).out) ×
    (state_of new ≡ without_front count (state_of old))

-- all requests are queued
all_asked : (old mid : Client) (requests : List Request) → QueuesFirst old mid requests (length requests) → state_of mid ≡ asked old requests
all_asked old mid requests q = q.queued ∙ ap (λ z. with_requests z (state_of old)) (take_all (length requests) requests (omega arith))

all_may : (old mid : Client) (requests : List Request) → QueuesFirst old mid requests (length requests) → MayAllBeSent requests (state_of old)
all_may old mid requests q = subst (λ z. MayAllBeSent z (state_of old)) (take_all (length requests) requests (omega arith)) q.may_be_sent

-- nothing waits after a write of all
all_taken : (count : ℕ) (out : List ℕ) → drop count out ≡ [] → take count out ≡ out
all_taken count out none = sym (append-nil (take count out)) ∙ ap (λ z. take count out ++ z) (sym none) ∙ take-append-drop count out

pub sends_all : (old mid new : Client) (requests : List Request) (held held' : Option (List ℕ)) → QueuesFirst old mid requests (length requests) →
    HasSent mid new held held' → (state_of new).out ≡ [] → SendsAll old requests held held'
sends_all old mid new requests held held' q (count, within, appended, left) none =
    let over : drop count (state_of mid).out ≡ [] = sym (ap (λ z. let t : ClientState = z in t.out) left) ∙ none in
    record {
      may_be_sent = all_may old mid requests q;
      appended = subst (λ (s : ClientState). Appends held held' s.out) (all_asked old mid requests q)
          (subst (Appends held held') (all_taken count (state_of mid).out over) appended);
    }

pub sends_part : (old mid new : Client) (requests : List Request) (held held' : Option (List ℕ)) → QueuesFirst old mid requests (length requests) →
    HasSent mid new held held' → SendsPart old new requests held held'
sends_part old mid new requests held held' q (count, within, appended, left) =
    let same = all_asked old mid requests q in
    record {
      may_be_sent = all_may old mid requests q;
      count = count;
      within = subst (λ (s : ClientState). count ≤ length s.out) same within;
      appended = subst (λ (s : ClientState). Appends held held' (take count s.out)) same appended;
      waits = left ∙ ap (λ s. without_front count s) same;
    }

-- what the client shows then
abbrev with_out : ClientState → List ℕ → ClientState
with_out s out = record { limits = s.limits; waiting = s.waiting; answered = s.answered; out = out }

pub all_sent : (old mid new : Client) (requests : List Request) (held held' : Option (List ℕ)) → QueuesFirst old mid requests (length requests) →
    HasSent mid new held held' → (state_of new).out ≡ [] → state_of new ≡ sent old requests
all_sent old mid new requests held held' q (count, within, appended, left) none =
    let over : (without_front count (state_of mid)).out ≡ [] = sym (ap (λ z. let t : ClientState = z in t.out) left) ∙ none in
    left ∙ ap (with_out (state_of mid)) over ∙ ap (λ (s : ClientState). with_out s []) (all_asked old mid requests q)

-- Turns.

-- no request is refused for want of turns
pub queue_takes_no_turn : (old new : Client) (requests : List Request) (answer : Result (Unit {0}) AskError) (e : AskError) → answer ≡ Err e →
    StopsQueueing old new requests e → IsErrOf answer error.TooManyTurns → ⊥
queue_takes_no_turn old new requests answer e here stops is =
    let same : e ≡ error.TooManyTurns = let z = sym here ∙ is in cc in
    subst (StopsQueueing old new requests) same stops

-- Faults.

-- no request is refused by a fault
pub no_fault_queued : (old new : Client) (requests : List Request) (e : AskError) → StopsQueueing old new requests e → KeepsFault new e
no_fault_queued old new requests (error.Fault fault) stops = absurd stops
no_fault_queued old new requests e stops = tt

-- no write stops by one
pub no_fault_written : (c : Client) (failures failures' : ℕ) (waits : List ℕ) (e : AskError) → FailsWriting failures failures' waits e → KeepsFault c e
no_fault_written c failures failures' waits (error.Fault fault) stops = absurd stops
no_fault_written c failures failures' waits e stops = tt
