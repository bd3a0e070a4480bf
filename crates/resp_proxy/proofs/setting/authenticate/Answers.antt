use Rattle.std.proofs.Common.{ap}
use Rattle.std.specs.Option.{option_map}
use Rattle.resp_proxy.proofs.Openings.{password-parts, user-parts}
use Rattle.resp_proxy.proofs.setting.authenticate.Goals as goal

pub returns-in_ok-bulk-in-Some-2 : goal.returns-in_ok-bulk-in-Some-2
returns-in_ok-bulk-in-Some-2 c =
    user-parts _ _ _ c.args.login.now.password.items _ c.args.out.now.items _ _ _ (ap (option_map (λ word. word.items)) c.in-Some.is) c.deref.ensures.value c.deref-in-Some.ensures.value
    c.in_ok-extend_from_slice-in-Some.ensures.items c.in_ok-bulk-in-Some.ensures c.in_ok-bulk-in-Some-2.ensures

pub returns-in_ok-bulk-in-None : goal.returns-in_ok-bulk-in-None
returns-in_ok-bulk-in-None c =
    password-parts _ c.args.login.now.password.items _ c.args.out.now.items _ _ (ap (option_map (λ word. word.items)) c.in-None.is) c.deref-in-None.ensures.value
    c.in_ok-extend_from_slice-in-None.ensures.items c.in_ok-bulk-in-None.ensures
