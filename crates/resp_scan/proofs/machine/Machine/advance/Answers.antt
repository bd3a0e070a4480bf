use Rattle.std.proofs.Common.{ap, subst, ◌∙◌}
use Rattle.resp_scan.specs.Machine.Fields.{out_of, place_of}
use Rattle.resp_scan.specs.Machine.Passing.{StandsAt}
use Rattle.resp_scan.proofs.machine.Machine.advance.Goals as goal

pub tell_value-requires-clause-sound : goal.tell_value-requires-clause-sound
tell_value-requires-clause-sound g c =
    (subst (λ w. StandsAt w (place_of c.args.self.now) c.stands.new.self c.args.rest.now) c.in-Member.is (c.stands.ensures c.args.rest.now)).0

pub resume_content-taken-requires : goal.resume_content-taken-requires
resume_content-taken-requires g c =
    (subst (λ w. StandsAt w (place_of c.args.self.now) c.stands.new.self c.args.rest.now) c.in-Inside.is (c.stands.ensures c.args.rest.now)).0

pub returns-in-Member : goal.returns-in-Member
returns-in-Member g c =
    let s = place_of c.args.self.now in
    c.tell_value.ensures s c.requires
    (subst (λ w. StandsAt w s c.stands.new.self c.args.rest.now) c.in-Member.is (c.stands.ensures c.args.rest.now)).1

pub returns-in-Done : goal.returns-in-Done
returns-in-Done g c =
    let s = place_of c.args.self.now in
    c.tell.ensures s c.requires
    (ap (λ taken. out_of taken c.stands.new.self) c.owed.ensures ∙
    subst (λ w. StandsAt w s c.stands.new.self c.args.rest.now) c.in-Done.is (c.stands.ensures c.args.rest.now))

pub returns-in-Close : goal.returns-in-Close
returns-in-Close g c =
    let s = place_of c.args.self.now in
    c.tell-in-Close.ensures s c.requires
    (ap (λ taken. out_of taken c.stands.new.self) c.owed-in-Close.ensures ∙
    subst (λ w. StandsAt w s c.stands.new.self c.args.rest.now) c.in-Close.is (c.stands.ensures c.args.rest.now))

pub returns-in-Inside : goal.returns-in-Inside
returns-in-Inside g c =
    let s = place_of c.args.self.now in
    c.tell-in-Inside.ensures s c.requires
    (c.resume_content-taken.ensures ∙
    (subst (λ w. StandsAt w s c.stands.new.self c.args.rest.now) c.in-Inside.is (c.stands.ensures c.args.rest.now)).1)
