-- The values that are commands.
use Rattle.std.specs.Prelude.{ℕ, List, [], ◌∷◌, Option, None, Some}
use Rattle.resp_value.specs.Data.{Datum, Data, scalar, aggregate, none, more}
use Rattle.resp_value.specs.Data as d

-- the meaning of a value for a server
pub data Meaning : Type 0 where
  -- a command: its name, and the words after it
  Call : List ℕ → List (List ℕ) → Meaning
  -- an empty array or a null, which the server ignores
  Nothing : Meaning
  -- not a command
  NoCommand : Meaning

-- the content of a bulk string
abbrev pub bulk_content : Datum → Option (List ℕ)
bulk_content (scalar (d.Bulk s)) = Some s
bulk_content _ = None

-- a content and the contents after it, if all exist
abbrev pub contents_with : Option (List ℕ) → Option (List (List ℕ)) → Option (List (List ℕ))
contents_with (Some content) (Some contents) = Some (content ∷ contents)
contents_with _ _ = None

-- the contents of members that are all bulk strings
abbrev pub bulk_contents : Data → Option (List (List ℕ))
bulk_contents none = Some []
bulk_contents (more x xs) = contents_with (bulk_content x) (bulk_contents xs)

-- the meaning of an array, given the contents of its members if all members are bulk strings
abbrev pub array_meaning : Option (List (List ℕ)) → Meaning
array_meaning None = NoCommand
array_meaning (Some []) = Nothing
array_meaning (Some (name ∷ arguments)) = Call name arguments

-- an array of bulk strings is a command; the server ignores an empty array and a null; any other value is not a command
abbrev pub meaning_of : Datum → Meaning
meaning_of (scalar d.Null) = Nothing
meaning_of (aggregate d.Array xs) = array_meaning (bulk_contents xs)
meaning_of _ = NoCommand
