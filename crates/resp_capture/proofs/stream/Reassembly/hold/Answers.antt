use Rattle.std.proofs.Common.{◌≡◌, [], ◌∷◌, ◌++◌, is_ok, rules, true}
use Rattle.resp_capture.proofs.stream.Reassembly.hold.Goals as goal

pub returns-clause-held : goal.returns-clause-held
returns-clause-held c =
    let ok : is_ok c.push.result ≡ true = search rules in
    let items : c.push.new.self.items ≡ c.self.inside.held.items ++ c.in_ok-part.part ∷ [] = rw ok at c.push.ensures.items in
    (c.in_ok-part.part, c.in_ok-part.ensures.at, c.in_ok-part.ensures.bytes, rw (← c.self.view_is) items)
