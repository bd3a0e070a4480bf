use Rattle.std.proofs.Common.{length}
use Rattle.resp_wire.proofs.HubVisits.{hub_has_none, session_closing, session_ends, session_fails, session_few, session_overfull, session_pieces}
use Rattle.resp_wire.proofs.serve.serve_with.Goals as goal

pub returns-clause-served : goal.returns-clause-served
returns-clause-served g c =
    let v = c.serve_client in
    session_pieces (length c.args.buffer.now) c.args.held g.W.Sink.written g.R.Source.remaining g.R.Source.calls g.R.Source.failures c.args.writer.now
    v.new.writer c.args.reader.now v.new.reader c.args.hub.now v.new.sessions c.args.id v.new.client (g.W.Sink.failures c.args.writer.now)
    (g.W.Sink.failures v.new.writer) (g.R.Source.failures c.args.reader.now) (g.R.Source.failures v.new.reader) v.result.end _ v.ensures.served
    (v.ensures.ends c.requires) v.ensures.refusal

pub returns-clause-end : goal.returns-clause-end
returns-clause-end g c =
    let v = c.serve_client in
    session_ends c.args.held c.args.hub.now v.new.sessions c.args.id v.new.client v.ensures.served.given v.ensures.served.text
    (g.R.Source.remaining c.args.reader.now) (g.R.Source.remaining v.new.reader) v.result.end (λ none. (v.ensures.nobody none).0) v.ensures.served.served
    (v.ensures.ends c.requires)

pub returns-clause-full : goal.returns-clause-full
returns-clause-full g c = λ some.
    let v = c.serve_client in
    session_overfull c.args.held c.args.hub.now v.new.sessions c.args.id v.new.client (g.W.Sink.written c.args.writer.now) (g.W.Sink.written v.new.writer)
    (v.ensures.full some)

pub returns-clause-bounded : goal.returns-clause-bounded
returns-clause-bounded g c =
    let v = c.serve_client in
    session_few c.args.held c.args.hub.now v.new.sessions c.args.id v.new.client v.ensures.served.given v.ensures.served.text v.result.end
    v.ensures.served.served

pub returns-clause-closing : goal.returns-clause-closing
returns-clause-closing g c =
    let v = c.serve_client in
    session_closing c.args.hub.now v.new.sessions c.args.id v.new.client (g.W.Sink.written c.args.writer.now) (g.W.Sink.written v.new.writer)
    (g.R.Source.remaining c.args.reader.now) (g.R.Source.remaining v.new.reader) (g.W.Sink.failures c.args.writer.now) (g.W.Sink.failures v.new.writer)
    (g.R.Source.failures c.args.reader.now) (g.R.Source.failures v.new.reader) c.args.reader.now v.new.reader v.result.end v.ensures.closing
    (v.ensures.ends c.requires) v.ensures.refusal

pub returns-clause-refusal : goal.returns-clause-refusal
returns-clause-refusal g c =
    let v = c.serve_client in
    session_fails c.args.hub.now c.args.id (g.W.Sink.failures c.args.writer.now) (g.W.Sink.failures v.new.writer)
    (g.R.Source.failures c.args.reader.now) (g.R.Source.failures v.new.reader) v.result.end v.ensures.refusal

pub returns-clause-no_session : goal.returns-clause-no_session
returns-clause-no_session g c none =
    let (end, hub, client, reader, writer) = c.serve_client.ensures.nobody (hub_has_none c.args.hub.now c.args.id none) in
    (end, hub, reader, writer)
