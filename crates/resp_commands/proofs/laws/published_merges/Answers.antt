use Rattle.std.proofs.Common.{refl}
use Rattle.std.specs.Prelude.{codes}
use Rattle.resp_commands.specs.declared.command.Merge.TheVariants as merge
use Rattle.resp_commands.specs.declared.command.Split.TheVariants as split
use Rattle.resp_commands.proofs.Found.{merged}
use Rattle.resp_commands.proofs.laws.published_merges.Goals as goal

pub returns : goal.returns
returns c = record {
  del = merged (codes "del") split.ByKeys merge.Sum (λ d. (refl, refl));
  unlink = merged (codes "unlink") split.ByKeys merge.Sum (λ d. (refl, refl));
  exists = merged (codes "exists") split.ByKeys merge.Sum (λ d. (refl, refl));
  touch = merged (codes "touch") split.ByKeys merge.Sum (λ d. (refl, refl));
  mget = merged (codes "mget") split.ByKeys merge.InOrder (λ d. (refl, refl));
  mset = merged (codes "mset") split.ByKeys merge.AllSucceeded (λ d. (refl, refl));
  dbsize = merged (codes "dbsize") split.AllShards merge.Sum (λ d. (refl, refl));
  keys = merged (codes "keys") split.AllShards merge.InOrder (λ d. (refl, refl));
  flushall = merged (codes "flushall") split.AllShards merge.AllSucceeded (λ d. (refl, refl));
  get = merged (codes "get") split.Never merge.InOrder (λ d. (refl, refl));
}
