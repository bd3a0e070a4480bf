-- The state of a server of 16 databases.
use Rattle.std.specs.Prelude.{◌≡◌, ℕ, List, length, map}
use Rattle.std.specs.List.{AllByRecursion}
use Rattle.resp_value.specs.Bounds.{Bounds}
use Rattle.resp_value.specs.Rules.{rules_under}
use Rattle.resp_value.specs.declared.version.Version.TheVariants.{Two}
use Rattle.resp_frames.specs.Framing.{IsReady, frame_rules}
use Rattle.resp_frames.specs.declared.frames.Frames.{Frames}
use Rattle.resp_session.specs.Fitting.{FitsStore}
use Rattle.resp_session.specs.Stores.{Store}
use Rattle.resp_server.specs.declared.database.Database.{Database}

-- the limits, the store of each database in order, and the last id that was given to a client
pub record ServerState : Type 0 where
  pub limits : Bounds
  pub stores : List Store
  pub last : ℕ

-- the stores of these databases
abbrev pub stores_in : {S H : Type 0} → List (Database S H) → List Store
stores_in {S} {H} databases = map (λ (d : Database S H). d.store) databases

-- the database has these limits, and its store is within them
pub record IsWithin {S H : Type 0} (limits : Bounds) (database : Database S H) : Type 0 where
  pub same_limits : database.limits ≡ limits
  pub fits : FitsStore limits database.store

-- There are 16 databases, and each is within the limits. Commands are found by the rules of version 2.
pub record ServerIsSound {S H : Type 0} (limits : Bounds) (databases : List (Database S H)) (frames : Frames) : Type 0 where
  pub count : length databases ≡ 16
  pub within : AllByRecursion (IsWithin limits) databases
  pub ready : IsReady frames
  pub same_rules : frame_rules frames ≡ rules_under Two limits
