use Rattle.std.proofs.Common.{◌≡◌, ◌++◌, [], ◌∷◌, subst, sym}
use Rattle.std.specs.Prelude.{OnOk}
use Rattle.resp_server.specs.Rejections.{rejection_text}
use Rattle.resp_server.proofs.databases.rejection.append.Goals as goal

pub returns-in-OverLimits-clause-appended : goal.returns-in-OverLimits-clause-appended
returns-in-OverLimits-clause-appended c =
    let out = c.extend_from_slice-in-OverLimits in
    subst (λ why. OnOk out.result (out.new.self.items ≡ c.args.out.now.items ++ 45 ∷ (rejection_text why ++ 13 ∷ 10 ∷ []))) (sym c.in-OverLimits.is)
    out.ensures.ok
