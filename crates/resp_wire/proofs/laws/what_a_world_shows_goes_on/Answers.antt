use Rattle.resp_wire.proofs.laws.what_a_world_shows_goes_on.Goals as goal

pub returns-clause-holds_what_is_shown : goal.returns-clause-holds_what_is_shown
returns-clause-holds_what_is_shown c = λ limits hub ends order w shown i connection its.
    c.the_order_goes_on.ensures.holds_what_is_shown limits shown.n shown.events w shown.run i connection its
