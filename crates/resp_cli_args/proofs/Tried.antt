-- Lines, piece by piece, and a text that was tried to be written.
use Rattle.std.proofs.Common.{◌≡◌, inl, inr, ℕ, List, ◌++◌, Option, Result, Ok, Err, sym, ap, ◌∙◌, codes, append_assoc, subst}
use Rattle.resp_print.specs.Written.{WritesText}
use Rattle.resp_cli_args.specs.Faults.{reason_line}
use Rattle.resp_cli_args.specs.Tried.{TriesText}

-- a line of two pieces and of a number between two more, piece by piece
pub line_parts : (first second before number beyond : List ℕ) → (((first ++ second) ++ before) ++ number) ++ beyond ≡ first ++
    (second ++ ((before ++ number) ++ beyond))
line_parts first second before number beyond = simp append_assoc

-- the line of counts, number by number
pub counts_parts : (values bytes : List ℕ) → codes "values " ++ values ++ codes " bytes " ++ bytes ++ codes "\n" ≡
    (codes "values " ++ values ++ codes " ") ++ (codes "bytes " ++ bytes ++ codes "\n")
counts_parts values bytes =
    let first = codes "values " ++ values in
    let beyond = first ++ codes " " in
    ap (λ z. (z ++ bytes) ++ codes "\n") (sym (append_assoc first (codes " ") (codes "bytes ")))
    ∙ ap (λ z. z ++ codes "\n") (append_assoc beyond (codes "bytes ") bytes)
    ∙ append_assoc beyond (codes "bytes " ++ bytes) (codes "\n")

-- whatever came of it, the text was tried
pub tries_text : {X E : Type 0} (r : Result X E) (before after : Option (List ℕ)) (failures failures' : ℕ) (text : List ℕ) →
    WritesText before after failures failures' r text → TriesText before after failures failures' text
tries_text (Ok x) before after failures failures' text written = inl written
tries_text (Err e) before after failures failures' text written = inr written

-- and so a line about a name, whatever holds the name and the reason
pub tries_line : {X E : Type 0} (r : Result X E) (before after : Option (List ℕ)) (failures failures' : ℕ) (front name name' why why' : List ℕ) →
    name ≡ name' → why ≡ why' → WritesText before after failures failures' r (reason_line front name why) →
    TriesText before after failures failures' (reason_line front name' why')
tries_line r before after failures failures' front name name' why why' same same' written =
    subst (λ z. TriesText before after failures failures' (reason_line front z why')) same
    (subst (λ z. TriesText before after failures failures' (reason_line front name z)) same'
    (tries_text r before after failures failures' (reason_line front name why) written))
