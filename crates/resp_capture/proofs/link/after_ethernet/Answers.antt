use Rattle.resp_capture.proofs.HeaderLemmas.{no_ethernet}
use Rattle.resp_capture.proofs.link.after_ethernet.Goals as goal

pub returns-clause-none : goal.returns-clause-none
returns-clause-none c = no_ethernet _ c.args.frame.now _ c.type_place-place.ensures.place c.after_type.ensures.none
