use Rattle.resp_session.proofs.ClientFaults.{a_rest_has_one_client_fault}
use Rattle.resp_session.proofs.laws.a_rest_has_one_client_fault.Goals as goal

pub returns : goal.returns
returns c = a_rest_has_one_client_fault c.fronts_of_viable_texts_are_viable.ensures c.a_viable_text_has_no_cause.ensures c.a_rest_has_one_fault.ensures
