use Rattle.resp_capture.proofs.link.packet_of.Goals as goal

pub returns-in-Cooked-clause-none : goal.returns-in-Cooked-clause-none
returns-in-Cooked-clause-none c = rw c.in-Cooked.is c.after_type.ensures.none

pub returns-in-CookedTwo-clause-none : goal.returns-in-CookedTwo-clause-none
returns-in-CookedTwo-clause-none c = rw c.in-CookedTwo.is c.after_type-in-CookedTwo.ensures.none
