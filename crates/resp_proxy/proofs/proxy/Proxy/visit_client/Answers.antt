use Rattle.std.proofs.Common.{subst}
use Rattle.resp_proxy.specs.Clients.{route_of}
use Rattle.resp_proxy.specs.Visiting.{GivesSome}
use Rattle.resp_proxy.specs.declared.route.Route.{Route}
use Rattle.resp_proxy.specs.Proxies.{board_in, terms_of}
use Rattle.resp_proxy.proofs.Others.{visit-others}
use Rattle.resp_proxy.proofs.Takings.{kept-clients}
use Rattle.resp_proxy.proofs.proxy.Proxy.visit_client.Goals as goal

pub returns-clause-others : goal.returns-clause-others
returns-clause-others g c held h p passed =
    let read = c.read_client-read in
    let gave = c.give-written in
    let old = board_in c.args.self.now in
    let between = board_in read.new.self in
    let new = board_in gave.new.self in
    visit-others (terms_of c.args.self.now) (route_of c.args.client.now) (route_of read.new.client) (g.R.Source.remaining c.args.reader.now)
    (g.R.Source.remaining read.new.reader) (g.W.Sink.written c.args.writer.now) (g.W.Sink.written gave.new.writer) held read.new.client read.result old between new p
    read.ensures.same_client (read.ensures.reads held h) gave.ensures.gives
    (kept-clients old between new read.ensures.same_clients gave.ensures.same_clients) passed

pub returns-clause-visited : goal.returns-clause-visited
returns-clause-visited g c held h =
    let read = c.read_client-read in
    let gave = c.give-written in
    record {
      between = board_in read.new.self;
      reads = read.ensures.reads held h;
      gives =
          subst (λ (r : Route). GivesSome (g.W.Sink.written c.args.writer.now) (g.W.Sink.written gave.new.writer) r.client (board_in read.new.self) (board_in gave.new.self))
          read.ensures.same_client gave.ensures.gives;
    }
