use Rattle.std.proofs.Common.{rules, ◌≡◌, length}
use Rattle.resp_stats.proofs.NameLemmas.{full_at}
use Rattle.resp_stats.proofs.name.Name.add.Goals as goal

pub returns : goal.returns
returns c =
    let full : length c.loop-byte.self.text.items ≡ 20 = search rules in
    full_at c.args.self.now.text.items c.args.word.now c.loop-byte.self.text.items c.loop-byte.index c.loop-byte.invariant.so_far full
