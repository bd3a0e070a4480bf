use Rattle.resp_proxy.proofs.answer.protocol_error.Goals as goal

pub returns : goal.returns
returns c version = record { message = _; is_reply = c.in_ok-text.ensures version }
