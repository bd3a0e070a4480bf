-- Requests that are queued one after another.
use Rattle.std.proofs.Common.{◌≡◌, ℕ, suc, ◌+◌, ◌<◌, List, [], ◌∷◌, ◌++◌, length, take, drop, refl, sym, ap, subst, ◌∙◌, arith, slice_index_or}
use Rattle.std.proofs.lemmas.List.{length-drop}
use Rattle.std.proofs.Math.Seq.{drop-cons, take-add}
use Rattle.resp_client.specs.Clients.{ClientState, state_of, with_request}
use Rattle.resp_client.specs.Hearing.{KeepsReading}
use Rattle.resp_client.specs.Sending.{DeclinesRequest, MayBeSent}
use Rattle.resp_client.specs.declared.client.Client.{Client}
use Rattle.resp_client.specs.declared.send_error.SendError.{SendError}
use Rattle.resp_client.specs.declared.send_error.SendError.TheVariants as send
use Rattle.resp_wire.specs.Requests.{MayAllBeSent, request_of, with_requests}
use Rattle.resp_wire.specs.Stops.{DeclinesAt, QueuesFirst, StopsQueueing, error_at}
use Rattle.resp_wire.specs.declared.asked.Request.{Request}

pub keeps_on : (old mid new : Client) → KeepsReading old mid → KeepsReading mid new → KeepsReading old new
keeps_on old mid new first second = record {
  same_front = λ front h. second.same_front front (first.same_front front h);
  same_fault = λ fault h. second.same_fault fault (first.same_fault fault h);
}

-- one request more
with_one_more : (requests : List Request) (request : Request) (s : ClientState) →
    with_requests (requests ++ request ∷ []) s ≡ with_request (request_of request) (with_requests requests s)
with_one_more [] request s = refl
with_one_more (first ∷ requests) request s = with_one_more requests request (with_request (request_of first) s)

may_one_more : (requests : List Request) (request : Request) (s : ClientState) → MayAllBeSent requests s →
    MayBeSent (with_requests requests s) (request_of request) → MayAllBeSent (requests ++ request ∷ []) s
may_one_more [] request s all may = (may, tt)
may_one_more (first ∷ requests) request s all may = (all.0, may_one_more requests request (with_request (request_of first) s) all.1 may)

-- the first requests, and one more
take_one_more : (index : ℕ) (requests later : List Request) (request : Request) → drop index requests ≡ request ∷ later →
    take (index + 1) requests ≡ take index requests ++ request ∷ []
take_one_more index requests later request here = take-add index 1 requests ∙ ap (λ z. take index requests ++ take 1 z) here

pub queues_one : (old mid new : Client) (requests later : List Request) (request : Request) (index : ℕ) → QueuesFirst old mid requests index →
    drop index requests ≡ request ∷ later → MayBeSent (state_of mid) (request_of request) → state_of new ≡ with_request (request_of request) (state_of mid) →
    QueuesFirst old new requests (index + 1)
queues_one old mid new requests later request index q here may queued =
    let more = take_one_more index requests later request here in
    record {
      within = omega (arith, ap length here, length-drop index requests);
      may_be_sent = subst (λ z. MayAllBeSent z (state_of old)) (sym more) (may_one_more (take index requests) request (state_of old) q.may_be_sent
          (subst (λ (s : ClientState). MayBeSent s (request_of request)) q.queued may));
      queued = queued ∙ ap (λ s. with_request (request_of request) s) q.queued ∙ sym (with_one_more (take index requests) request (state_of old))
          ∙ ap (λ z. with_requests z (state_of old)) (sym more);
    }

-- a request is refused
declines_at : (old mid new : Client) (requests later : List Request) (request : Request) (index : ℕ) (error : SendError) → QueuesFirst old mid requests index →
    drop index requests ≡ request ∷ later → DeclinesRequest (state_of mid) (request_of request) error → state_of new ≡ state_of mid →
    DeclinesAt old new requests index error
declines_at old mid new requests later request index error q here declined same = record {
  before = record { within = q.within; may_be_sent = q.may_be_sent; queued = same ∙ q.queued };
  request = request;
  later = later;
  here = here;
  declined = subst (λ (s : ClientState). DeclinesRequest s (request_of request) error) (sym same) declined;
}

stops_at : (error : SendError) (old new : Client) (requests : List Request) (index : ℕ) → DeclinesAt old new requests index error →
    StopsQueueing old new requests (error_at index error)
stops_at send.OutOfMemory old new requests index d = (index, d)
stops_at error old new requests index d = d

pub stops_queueing : (old mid new : Client) (requests later : List Request) (request : Request) (index : ℕ) (error : SendError) →
    QueuesFirst old mid requests index → drop index requests ≡ request ∷ later → DeclinesRequest (state_of mid) (request_of request) error →
    state_of new ≡ state_of mid → StopsQueueing old new requests (error_at index error)
stops_queueing old mid new requests later request index error q here declined same = stops_at error old new requests index
    (declines_at old mid new requests later request index error q here declined same)

-- the request at this index stands before the later ones
pub next_request : (requests : List Request) (index : ℕ) (request : Request) → request ≡ slice_index_or requests index request →
    index < length requests → drop index requests ≡ request ∷ drop (index + 1) requests
next_request requests index request is within = drop-cons requests index request within ∙ ap (λ x. x ∷ drop (suc index) requests) (sym is)
    ∙ ap (λ n. request ∷ drop n requests) (let z : suc index ≡ index + 1 = omega arith in z)
