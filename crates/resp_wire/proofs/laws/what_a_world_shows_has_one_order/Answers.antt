use Rattle.resp_wire.proofs.laws.what_a_world_shows_has_one_order.Goals as goal

pub returns : goal.returns
returns c = λ limits hub ends order w shown. c.a_world_has_one_order.ensures limits shown.n shown.events w shown.run
