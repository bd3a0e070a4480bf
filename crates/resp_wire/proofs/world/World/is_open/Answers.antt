use Rattle.std.proofs.Common.{◌≡◌, ◌∙◌, ◌<◌, ◌⊎◌, Bool, false, inl, inr, length, not, refl, rules, sym, subst, true}
use Rattle.std.specs.Bool.{OnFalse}
use Rattle.resp_session.specs.Worlds.{client_of}
use Rattle.resp_wire.proofs.world.World.is_open.Goals as goal
use Rattle.resp_wire.proofs.world.World.is_open.Goals.{then-number-eq0-via-then-number-eq0, then-number-eq0-via-else-number-eq0+then-number-len}
use Rattle.resp_wire.proofs.worlds.Parts.{nobody, of_dropped}

on_false : (b : Bool) (P : Type 0) → (b ≡ true → P) → OnFalse (not b) P
on_false true P p = p refl
on_false false P p = tt

pub returns-then-number-eq0-clause-gone : goal.returns-then-number-eq0-clause-gone
returns-then-number-eq0-clause-gone g c event its =
    nobody g.L.Link.is_honest c.args.self.now event
    (elim c.then-number-eq0.branch as (λ _. (client_of event ≡ 0) ⊎ (length c.args.self.now.ends < client_of event)) [
      | then-number-eq0-via-then-number-eq0 w ↦ inl (sym its ∙ w.if-number-eq0.true)
      | then-number-eq0-via-else-number-eq0+then-number-len w ↦
          let beyond : length c.args.self.now.ends < c.args.number = search rules in
          inr (subst (λ n. length c.args.self.now.ends < n) its beyond)
    ])

pub returns-clause-gone : goal.returns-clause-gone
returns-clause-gone g c = on_false c.index.result.now.is_dropped _ (λ dropped event its.
    of_dropped g.L.Link.is_honest c.args.self.now _ event c.args.number c.index.result.now (sym c.self.view_is) its (search rules) c.index.ensures dropped)
