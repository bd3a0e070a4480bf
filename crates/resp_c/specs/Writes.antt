-- The contracts of the functions that write.
use Rattle.std.specs.Prelude.{◌≡◌, ℕ, ◌<◌, ◌≤◌, List, ◌++◌, length, drop, flat_map, cond, eqb}
use Rattle.resp_value.specs.Canonical.{canonical_text, canonical_trees}
use Rattle.resp_value.specs.Causes.{number_of}
use Rattle.resp_value.specs.Data.{Data, Kind, aggregate, count, items_of, scalar}
use Rattle.resp_value.specs.Data as d
use Rattle.resp_value.specs.Trees.{texts}
use Rattle.resp_value.specs.Words.{command_of}
use Rattle.resp_value.specs.declared.cause.Cause.TheVariants as cause
use Rattle.resp_value.specs.declared.cause.Limit.{Limit}
use Rattle.resp_value.specs.declared.cause.Limit.TheVariants.{Depth, Length, Items, Total}
use Rattle.resp_value.specs.declared.kind.OpenKind.{OpenKind}
use Rattle.resp_value.specs.declared.kind.OpenKind.TheVariants as kind
use Rattle.resp_value.specs.declared.version.Version.{Version}
use Rattle.resp_value.specs.declared.version.Version.TheVariants.{Two}
use Rattle.resp_encode.specs.Encodings.{head_text}
use Rattle.resp_c.specs.Answers.{no_room}
use Rattle.resp_c.specs.EventNumbers.{kind_form}

-- If the result is 0, the text is at the beginning of the buffer, and the bytes after it are unchanged. Otherwise the
-- result is that of no room, the buffer is shorter than the text, and nothing was written. The size of the text is set in both
-- cases.
pub record Writes (old new text : List ℕ) (size answer : ℕ) : Type 0 where
  pub size_told : size ≡ length text
  pub written : answer ≡ 0 → new ≡ text ++ drop (length text) old
  pub has_room : answer ≡ 0 → length text ≤ length old
  pub too_short : (answer ≡ 0 → ⊥) → length old < length text
  pub nothing_written : (answer ≡ 0 → ⊥) → new ≡ old
  pub cause : (answer ≡ 0 → ⊥) → answer ≡ no_room

-- nothing was written, and the size was not set
pub record WritesNothing (old new : List ℕ) (size size' : ℕ) : Type 0 where
  pub same_room : new ≡ old
  pub same_size : size' ≡ size

-- the text is in the buffer before this place, and the bytes after it are unchanged
pub record StandsInRoom (old text new : List ℕ) (at : ℕ) : Type 0 where
  pub place : at ≡ length text
  pub filled : new ≡ text ++ drop (length text) old

-- a number that names a kind of aggregate
abbrev pub IsAggregate : ℕ → Type 0
IsAggregate n = n ≤ kind_form kind.Push

-- the kind that it names
abbrev pub aggregate_of : ℕ → OpenKind
aggregate_of n = cond (eqb n (kind_form kind.Array)) kind.Array (cond (eqb n (kind_form kind.Set)) kind.Set
    (cond (eqb n (kind_form kind.Map)) kind.Map (cond (eqb n (kind_form kind.Attr)) kind.Attr kind.Push)))

-- the error number of exceeding a limit
abbrev pub limit_number : Limit → ℕ
limit_number Depth = number_of cause.Depth
limit_number Length = number_of cause.Length
limit_number Total = number_of cause.Total
limit_number Items = number_of cause.Items

-- the texts of words as bulk strings, one after another
abbrev pub bulk_texts : List (List ℕ) → List ℕ
bulk_texts words = flat_map (λ word. canonical_text Two (scalar (d.Bulk word))) words

-- the head of an aggregate and then the texts of its members are together its text
abbrev pub AHeadAndItsMembersAreTheText : Type 0
AHeadAndItsMembersAreTheText = (version : Version) (k : Kind) (xs : Data) →
    head_text k (items_of k (count xs)) ++ texts (canonical_trees version xs) ≡ canonical_text version (aggregate k xs)

-- the head of an array with as many members as a command has words, and then each word as a bulk string, are together
-- its text
abbrev pub AHeadAndItsWordsAreTheCommand : Type 0
AHeadAndItsWordsAreTheCommand = (words : List (List ℕ)) →
    head_text d.Array (length words) ++ bulk_texts words ≡ canonical_text Two (command_of words)
