use Rattle.resp_client.proofs.Outcomes.{always, words_have_bytes}
use Rattle.resp_client.proofs.client.Client.send.Goals as goal

pub returns-clause-bytes : goal.returns-clause-bytes
returns-clause-bytes c = always c.wait_for.result (words_have_bytes c.words-words.ensures.same_words c.in_default.ensures.is_value)
