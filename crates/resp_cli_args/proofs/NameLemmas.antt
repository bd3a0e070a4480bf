-- The names of commands in words.
use Rattle.std.proofs.Common.{◌≡◌, ◌∙◌, ◌≤◌, ℕ, List, [], ◌∷◌, Bool, All, ap, arith, eqb, false, length, ne_eqb, refl, subst, sym}
use Rattle.std.proofs.lemmas.List.Elements.{All-head, All-tail}
use Rattle.std.proofs.lemmas.List.Splits.{join_with_byte-slice_split, length-slice_split, slice_split_at, slice_split_none}
use Rattle.std.specs.List.{join_with_byte, slice_split}
use Rattle.resp_cli_args.specs.Names.{AreNames, IsName}

-- the byte is a comma
abbrev is_comma : ℕ → Bool
is_comma byte = eqb byte 44

-- the parts of a text that is split at its commas
abbrev pub parts : List ℕ → List (List ℕ)
parts text = slice_split is_comma text

-- a name has no comma
no_comma : (name : List ℕ) → IsName name → All (λ byte. is_comma byte ≡ false) name
no_comma name is place default within = ne_eqb _ 44 (is.2 place default within).1

-- names with a comma between two of them are split into the names
parts_of_names : (name : List ℕ) (names : List (List ℕ)) → All IsName (name ∷ names) →
    parts (join_with_byte 44 (name ∷ names)) ≡ name ∷ names
parts_of_names name [] all = slice_split_none is_comma name (no_comma name (All-head IsName name [] all))
parts_of_names name (next ∷ names) all =
    slice_split_at is_comma name 44 (join_with_byte 44 (next ∷ names))
    (no_comma name (All-head IsName name (next ∷ names) all)) refl
    ∙ ap (λ rest. name ∷ rest) (parts_of_names next names (All-tail IsName name (next ∷ names) all))

-- a text of which each part is a name is names
pub are_names_from_parts : (text : List ℕ) → All IsName (parts text) → AreNames text
are_names_from_parts text all =
    (parts text, omega (arith, length-slice_split is_comma text), all, sym (join_with_byte-slice_split 44 text))

-- each part of a text that is names is a name
pub names_in_parts : (text : List ℕ) → AreNames text → All IsName (parts text)
names_in_parts text are = go are.0 are.1 are.2 are.3
  where
    go : (names : List (List ℕ)) → 1 ≤ length names → All IsName names → text ≡ join_with_byte 44 names →
        All IsName (parts text)
    go [] some all joined = absurd (omega (arith, some))
    go (name ∷ names) some all joined =
        subst (All IsName) (sym (ap parts joined ∙ parts_of_names name names all)) all
