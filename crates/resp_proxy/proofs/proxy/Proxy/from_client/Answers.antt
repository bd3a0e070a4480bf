use Rattle.std.proofs.Common.{◌≡◌, ap, subst, sym}
use Rattle.resp_proxy.specs.Clients.{Holds}
use Rattle.resp_proxy.specs.Leaving.{LeavesRightly}
use Rattle.resp_proxy.specs.Proxies.{Proxied}
use Rattle.resp_proxy.specs.Unfinished.{terms_of}
use Rattle.resp_proxy.proofs.proxy.Proxy.from_client.Goals as goal

pub returns-clause-leaves : goal.returns-clause-leaves
returns-clause-leaves c held h l =
    let client = c.args.client.now in
    let same : terms_of c.self.inside.intake ≡ c.args.self.now.terms = ap (λ (p : Proxied). p.terms) c.self.view_is in
    subst (λ terms. LeavesRightly terms c.take_in.new.client) same
    (c.take_in.ensures.leaves c.self.invariant held (subst (λ terms. Holds terms client held) (sym same) h)
    (subst (λ terms. LeavesRightly terms client) (sym same) l))
