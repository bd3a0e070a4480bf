-- Clients that get a connection of their own.
use Rattle.std.specs.Prelude.{◌≡◌, ◌⊎◌, ℕ, true, List, [], ◌∷◌, ◌++◌, Option, None, Some}
use Rattle.resp_commands.specs.Classes.{HasClass}
use Rattle.resp_commands.specs.declared.command.Class.{Class}
use Rattle.resp_commands.specs.declared.command.Class.TheVariants as class
use Rattle.resp_proxy.specs.Clients.{is_leaving}
use Rattle.resp_proxy.specs.Terms.{IsRequestOf, Terms}
use Rattle.resp_proxy.specs.Unfinished.{HasUnfinished}
use Rattle.resp_proxy.specs.declared.client.Client.{Client}
use Rattle.resp_proxy.specs.declared.part.Part.{Part}
use Rattle.resp_proxy.specs.declared.part.Part.TheVariants.{Aside, Partial, Whole}

-- a command of this class may need a connection of the client's own
abbrev pub IsForOwn : Option Class → Type 0
IsForOwn found = (found ≡ Some class.OwnConnection) ⊎ (found ≡ Some class.Setting)

-- a command of these words may need a connection of the client's own
abbrev pub MayNeedOwn : List ℕ → List (List ℕ) → Type 0
MayNeedOwn name arguments = HasClass name arguments class.OwnConnection ⊎ HasClass name arguments class.Setting

-- the text is a command, an array or a line, that may need a connection of the client's own
pub record NeedsOwn (terms : Terms) (text : List ℕ) : Type 0 where
  pub sent : List ℕ
  pub name : List ℕ
  pub arguments : List (List ℕ)
  pub request : IsRequestOf terms text sent (name ∷ arguments)
  pub kind : MayNeedOwn name arguments

-- the number of bytes of the piece that belong to the part
abbrev pub part_used : Part → ℕ
part_used (Whole used) = used
part_used Partial = 0
part_used (Aside used text) = used

-- the part was put aside
abbrev pub IsAside : Part → Type 0
IsAside (Whole used) = ⊥
IsAside Partial = ⊥
IsAside (Aside used text) = Unit {0}

-- the next command of the client, with which the bytes that it holds begin, needs a connection of its own
pub record Leaves (terms : Terms) (c : Client) : Type 0 where
  pub text : List ℕ
  pub rest : List ℕ
  pub whole : c.rest.items ≡ text ++ rest
  pub needs : NeedsOwn terms text
  pub nothing : HasUnfinished terms c.unfinished []

-- if the client is leaving, its next command needs a connection of its own
abbrev pub LeavesRightly : Terms → Client → Type 0
LeavesRightly terms c = is_leaving c ≡ true → Leaves terms c

-- a command was put before the bytes that wait, and the client is leaving; or there is none, and nothing has changed
abbrev pub PutsBack : Option (List ℕ) → Client → Client → Type 0
PutsBack None c c' = c' ≡ c
PutsBack (Some text) c c' =
    (c'.rest.items ≡ text ++ c.rest.items) × (c'.unfinished ≡ c.unfinished) × (is_leaving c' ≡ true)
