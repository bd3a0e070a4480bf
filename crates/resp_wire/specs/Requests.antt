-- The requests of a client.
use Rattle.std.specs.Prelude.{List, [], ◌∷◌}
use Rattle.resp_value.specs.Commands.{words_of}
use Rattle.resp_session.specs.Requests as session
use Rattle.resp_client.specs.Clients.{ClientState, with_request}
use Rattle.resp_client.specs.Sending.{MayBeSent}
use Rattle.resp_wire.specs.declared.asked.Request.{Request}
use Rattle.resp_wire.specs.declared.asked.Request.TheVariants.{Hello, Command}

-- a request, as in the definitions
abbrev pub request_of : Request → session.Request
request_of (Hello asked) = session.Hello asked
request_of (Command command) = session.Command (words_of command)

-- the state after these requests, which were queued one after another
abbrev pub with_requests : List Request → ClientState → ClientState
with_requests [] s = s
with_requests (request ∷ requests) s = with_requests requests (with_request (request_of request) s)

-- each request may be sent
abbrev pub MayAllBeSent : List Request → ClientState → Type 0
MayAllBeSent [] s = Unit {0}
MayAllBeSent (request ∷ requests) s = MayBeSent s (request_of request) ×
    MayAllBeSent requests (with_request (request_of request) s)
