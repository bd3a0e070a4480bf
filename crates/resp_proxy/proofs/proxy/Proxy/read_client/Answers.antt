use Rattle.std.proofs.Common.{◌≡◌, [], arith, inr, refl, subst, sym, take}
use Rattle.resp_proxy.specs.Clients.{Holds}
use Rattle.resp_proxy.specs.Proxies.{board_in, terms_of}
use Rattle.resp_proxy.specs.declared.visit.Read.TheVariants as read
use Rattle.resp_proxy.specs.Visiting.{HaveCome, ReadsClient}
use Rattle.resp_proxy.proofs.Readings.{ended, not-read, nothing-came, read-bytes, read-nothing, told-taken}
use Rattle.resp_proxy.proofs.proxy.Proxy.read_client.Goals as goal

pub returns-then-client-clause-reads : goal.returns-then-client-clause-reads
returns-then-client-clause-reads g c held h =
    let left = g.R.Source.remaining c.args.reader.now in
    nothing-came (terms_of c.args.self.now) c.args.client.now.route left left held c.args.client.now (board_in c.args.self.now) (not-read left) h _ (inr (refl, refl, refl))

pub returns-then-not-has_room-clause-reads : goal.returns-then-not-has_room-clause-reads
returns-then-not-has_room-clause-reads g c held h =
    let left = g.R.Source.remaining c.args.reader.now in
    nothing-came (terms_of c.args.self.now) c.args.client.now.route left left held c.args.client.now (board_in c.args.self.now) (not-read left) h _ (refl, refl)

pub returns-in-Ok-eq0-clause-reads : goal.returns-in-Ok-eq0-clause-reads
returns-in-Ok-eq0-clause-reads g c held h =
    let left = g.R.Source.remaining c.args.reader.now in
    let left' = g.R.Source.remaining c.read.new.self in
    let shut = c.shut.new.client in
    let rules = terms_of c.args.self.now in
    let m = board_in c.args.self.now in
    let none : c.in-Ok-eq0.field-0 ≡ 0 = grind arith in
    subst (λ s. ReadsClient rules c.args.client.now.route left left' held shut read.Ended m (board_in s)) (sym c.shut.ensures.same_state)
    (ended rules c.args.client.now.route left left' held shut m
    (subst (λ n. HaveCome left left' (take n c.read.new.into)) none (read-bytes left left' c.read.new.into c.in-Ok-eq0.field-0 c.in-Ok-eq0.ensures.bytes))
    (subst (λ s. Holds (terms_of s) shut []) c.shut.ensures.same_state c.shut.ensures.nothing) c.shut.ensures.closing)

pub returns-in-Ok-clause-reads : goal.returns-in-Ok-clause-reads
returns-in-Ok-clause-reads g c held h = record {
  came = take c.in-Ok.count c.read.new.into;
  come = read-bytes (g.R.Source.remaining c.args.reader.now) (g.R.Source.remaining c.read.new.self) c.read.new.into c.in-Ok.count c.in-Ok.ensures.bytes;
  end = c.from_client-in-Ok.result;
  told = told-taken c.from_client-in-Ok.result _ _ c.read_result-in-Ok.ensures.taken c.read_result-in-Ok.ensures.refused;
  takes = c.from_client-in-Ok.ensures.taken held h;
}

pub returns-in-Err-clause-reads : goal.returns-in-Err-clause-reads
returns-in-Err-clause-reads g c held h =
    let left = g.R.Source.remaining c.args.reader.now in
    let left' = g.R.Source.remaining c.read.new.self in
    nothing-came (terms_of c.args.self.now) c.args.client.now.route left left' held c.args.client.now (board_in c.args.self.now)
    (read-nothing left left' c.read.new.into c.in-Err.field-0 c.in-Err.ensures.bytes) h _ (refl, refl)

pub returns-then-not-is_empty-clause-reads : goal.returns-then-not-is_empty-clause-reads
returns-then-not-is_empty-clause-reads g c held h = record {
  came = [];
  come = not-read (g.R.Source.remaining c.args.reader.now);
  end = c.from_client.result;
  told = told-taken c.from_client.result _ _ c.read_result.ensures.taken c.read_result.ensures.refused;
  takes = c.from_client.ensures.taken held h;
}
