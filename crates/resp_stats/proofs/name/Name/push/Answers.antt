use Rattle.std.proofs.Common.{rules, ◌≡◌, ◌∷◌, [], length}
use Rattle.resp_stats.proofs.NameLemmas.{full_take}
use Rattle.resp_stats.proofs.name.Name.push.Goals as goal

pub returns-else-not-is_full : goal.returns-else-not-is_full
returns-else-not-is_full c =
    let full : length c.args.self.now.text.items ≡ 20 = search rules in full_take c.args.self.now.text.items (c.args.byte ∷ []) full
