-- Which nodes get a part of a command, and how the replies are merged.
use Rattle.std.specs.Prelude.{◌≡◌, ℕ, List, All, codes}
use Rattle.resp_commands.specs.declared.command.Merge.{Merge}
use Rattle.resp_commands.specs.declared.command.Merge.TheVariants as merge
use Rattle.resp_commands.specs.declared.command.Split.{Split}
use Rattle.resp_commands.specs.declared.command.Split.TheVariants as split
use Rattle.resp_commands.specs.declared.table.TheConstants.{COMMANDS}
use Rattle.resp_commands.specs.Names.{HasName}

-- the parts of the command with this name go there, and their replies are merged so
abbrev pub IsMerged : List ℕ → Split → Merge → Type 0
IsMerged name parts replies =
    All (λ command. HasName command name → (command.split ≡ parts) × (command.merge ≡ replies)) COMMANDS

-- the commands that the specification of Redis Cluster splits
pub record PublishedMerges : Type 0 where
  pub del : IsMerged (codes "del") split.ByKeys merge.Sum
  pub unlink : IsMerged (codes "unlink") split.ByKeys merge.Sum
  pub exists : IsMerged (codes "exists") split.ByKeys merge.Sum
  pub touch : IsMerged (codes "touch") split.ByKeys merge.Sum
  pub mget : IsMerged (codes "mget") split.ByKeys merge.InOrder
  pub mset : IsMerged (codes "mset") split.ByKeys merge.AllSucceeded
  pub dbsize : IsMerged (codes "dbsize") split.AllShards merge.Sum
  pub keys : IsMerged (codes "keys") split.AllShards merge.InOrder
  pub flushall : IsMerged (codes "flushall") split.AllShards merge.AllSucceeded
  pub get : IsMerged (codes "get") split.Never merge.InOrder
