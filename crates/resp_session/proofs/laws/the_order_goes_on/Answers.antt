use Rattle.resp_session.proofs.OrdersGoOn.{the_order_only_grows}
use Rattle.resp_session.proofs.WorldLaws.{a_run_is_cut, shown_replies_are_of_the_order}
use Rattle.resp_session.proofs.laws.the_order_goes_on.Goals as goal

pub returns-clause-cut_anywhere : goal.returns-clause-cut_anywhere
returns-clause-cut_anywhere c = a_run_is_cut

pub returns-clause-only_grows : goal.returns-clause-only_grows
returns-clause-only_grows c = the_order_only_grows

pub returns-clause-holds_what_is_shown : goal.returns-clause-holds_what_is_shown
returns-clause-holds_what_is_shown c = shown_replies_are_of_the_order
