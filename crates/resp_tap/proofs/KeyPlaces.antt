-- The keys of a command that a glob matches.
use Rattle.std.proofs.Common.{◌≡◌, inl, inr, Bool, true, false, Option, List, ℕ, subst}
use Rattle.std.specs.Bool.{MatchBool}
use Rattle.std.specs.Borrow.{Bor}
use Rattle.resp_commands.specs.Rows.{HasRow}
use Rattle.resp_commands.specs.declared.command.Command.{Command}
use Rattle.resp_tap.specs.Keyed.{HasKeyLike, IsFirstArgument, IsKeyed, IsUnkeyed, has_channels, name_in}

-- a glob matches one of the keys by the row of the command, or none
pub by_row : (glob : List ℕ) (words : List (List ℕ)) (name : List ℕ) (first : Option (Bor (List ℕ))) (row : Command) (result : Bool) → name ≡ name_in words →
    IsFirstArgument words first → HasRow name first row → has_channels name ≡ false →
    MatchBool result (HasKeyLike glob words row.keys) (HasKeyLike glob words row.keys → ⊥) → MatchBool result (IsKeyed glob words) (IsUnkeyed glob words)
by_row glob words name first row true named is_first has keyed like = record {
  first = first;
  is_first = is_first;
  row = row;
  has = subst (λ n. HasRow n first row) named has;
  no_channels = subst (λ n. has_channels n ≡ false) named keyed;
  like = like;
}
by_row glob words name first row false named is_first has keyed unlike = record {
  first = first;
  is_first = is_first;
  none = inr (inl (record { row = row; has = subst (λ n. HasRow n first row) named has; unlike = unlike }));
}
