use Rattle.std.proofs.Common.{rules, ◌≡◌, ◌<◌, ◌++◌, ℕ, List, [], ◌∷◌, OnOk, length, refl, subst, arith}
use Rattle.resp_value.specs.Canonical.{canonical_text}
use Rattle.resp_session.specs.Replies.{bulk_string}
use Rattle.resp_server.specs.Outcomes.{name_reply}
use Rattle.resp_server.proofs.databases.reply.reply_name.Goals as goal

-- the reply with a name of some bytes
some_name : (name : List ℕ) → 0 < length name → bulk_string name ≡ name_reply name
some_name [] some = absurd (omega (arith, some))
some_name (b ∷ bs) some = refl

pub returns-clause-appended : goal.returns-clause-appended
returns-clause-appended c =
    let name = c.args.name.now in
    let some : 0 < length name = search rules in
    subst (λ reply. OnOk c.bulk.result (c.bulk.new.out.items ≡ c.args.out.now.items ++ canonical_text c.args.version reply))
    (some_name name some) (c.bulk.ensures c.args.version).appended

pub returns-clause-unchanged : goal.returns-clause-unchanged
returns-clause-unchanged c = (c.bulk.ensures c.args.version).unchanged
