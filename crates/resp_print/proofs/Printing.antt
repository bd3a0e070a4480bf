-- Text that is printed part after part.
use Rattle.std.proofs.Common.{◌≡◌, ℕ, ◌≤◌, List, [], ◌++◌, Option, Result, Ok, Err, sym, ap, subst, ◌∙◌, append_assoc, append-nil, arith}
use Rattle.std.specs.Result.{IsErr, IsErrAnd}
use Rattle.resp_io.specs.Devices.{Appends, count_after}
use Rattle.resp_print.specs.Printed.{Prints}
use Rattle.resp_print.specs.Written.{AppendsPart, WritesText}
use Rattle.resp_print.specs.declared.print_error.PrintError.{PrintError}
use Rattle.resp_print.specs.declared.print_error.PrintError.TheVariants.{Write, TooDeep}
use Rattle.resp_print.proofs.WrittenLemmas.{Appends-append, writes_next, writes_part}

-- an outcome whose error is this one
pub is_that_error : {X E : Type 0} (r : Result X E) (e : E) → IsErrAnd r (λ found. found ≡ e) → r ≡ Err e
is_that_error (Ok x) e p = absurd p
is_that_error (Err found) e p = ap Err p

-- a part of a text after a text that was appended whole
pub part_next : (a b c : Option (List ℕ)) (text next : List ℕ) → Appends a b text → AppendsPart b c next → AppendsPart a c (text ++ next)
part_next a b c text next first second = record {
  part = text ++ second.part;
  beyond = second.beyond;
  whole = ap (λ z. text ++ z) second.whole ∙ sym (append_assoc text second.part second.beyond);
  appended = Appends-append a b c text second.part first second.appended;
}

-- a part of a text is a part of a longer one
pub part_of_more : (a b : Option (List ℕ)) (text next : List ℕ) → AppendsPart a b text → AppendsPart a b (text ++ next)
part_of_more a b text next written = record {
  part = written.part;
  beyond = written.beyond ++ next;
  whole = ap (λ z. z ++ next) written.whole ∙ append_assoc written.part written.beyond next;
  appended = written.appended;
}

-- the text before a rest was written, and no write failed
abbrev pub HasPrintedUpTo : (whole rest : List ℕ) (before after : Option (List ℕ)) (failures failures' : ℕ) → Type 0
HasPrintedUpTo whole rest before after failures failures' =
    (front : List ℕ) × (whole ≡ front ++ rest) × (Appends before after front × (failures' ≡ failures))

-- the same of a rest that is equal
pub printed_as : (whole rest rest' : List ℕ) (a b : Option (List ℕ)) (f g : ℕ) → rest ≡ rest' → HasPrintedUpTo whole rest a b f g →
    HasPrintedUpTo whole rest' a b f g
printed_as whole rest rest' a b f g e printed = subst (λ z. HasPrintedUpTo whole z a b f g) e printed

-- one part more was written
pub printed_more : (whole part rest : List ℕ) (a b c : Option (List ℕ)) (f g h : ℕ) → HasPrintedUpTo whole (part ++ rest) a b f g →
    Appends b c part × (h ≡ g) → HasPrintedUpTo whole rest a c f h
printed_more whole part rest a b c f g h (front, e, written) next = (
  front ++ part,
  e ∙ sym (append_assoc front part rest),
  (Appends-append a b c front part written.0 next.0, next.1 ∙ written.1),
)

-- nothing is left
pub printed_all : (whole : List ℕ) (a b : Option (List ℕ)) (f g : ℕ) → HasPrintedUpTo whole [] a b f g → Appends a b whole × (g ≡ f)
printed_all whole a b f g (front, e, written) =
    (subst (Appends a b) (sym (append-nil front) ∙ sym e) written.0, written.1)

-- a write of the next part failed
pub write_failed : {X E : Type 0} (r : Result X E) (whole part rest : List ℕ) (a b c : Option (List ℕ)) (f g h : ℕ) →
    HasPrintedUpTo whole (part ++ rest) a b f g → IsErr r → AppendsPart b c part × (h ≡ count_after 1 g) → WritesText a c f h r whole
write_failed r whole part rest a b c f g h (front, e, written) is_err next =
    subst (WritesText a c f h r) (sym e)
    (writes_next r a b c f g h front (part ++ rest) written (writes_part r b c g h part rest is_err next))

-- a write of a text failed, before the next
pub failed_part : (before after : Option (List ℕ)) (failures failures' : ℕ) (text next : List ℕ) (levels : ℕ) →
    AppendsPart before after text × (failures' ≡ count_after 1 failures) →
    Prints {X = Unit {0}} before after failures failures' (Err Write) (text ++ next) levels
failed_part before after failures failures' text next levels written = (part_of_more before after text next written.0, written.1)

-- what was printed of a text was printed of one that is equal, with as many levels or more
pub prints_as : (r : Result (Unit {0}) PrintError) (a b : Option (List ℕ)) (f g : ℕ) (text text' : List ℕ) (levels levels' : ℕ) → text ≡ text' →
    levels ≤ levels' → Prints a b f g r text levels → Prints a b f g r text' levels'
prints_as (Ok x) a b f g text text' levels levels' e more printed = (subst (Appends a b) e printed.0, printed.1)
prints_as (Err Write) a b f g text text' levels levels' e more printed = (subst (AppendsPart a b) e printed.0, printed.1)
prints_as (Err TooDeep) a b f g text text' levels levels' e more (part, same, deep) = (subst (AppendsPart a b) e part, same, omega (arith, more, deep))

-- a text was appended, and then what was printed of the next
pub prints_next : (r : Result (Unit {0}) PrintError) (a b c : Option (List ℕ)) (f g h : ℕ) (text next : List ℕ) (levels : ℕ) →
    Appends a b text × (g ≡ f) → Prints b c g h r next levels → Prints a c f h r (text ++ next) levels
prints_next (Ok x) a b c f g h text next levels first second = (Appends-append a b c text next first.0 second.0, second.1 ∙ first.1)
prints_next (Err Write) a b c f g h text next levels first second =
    (part_next a b c text next first.0 second.0, subst (λ n. h ≡ count_after 1 n) first.1 second.1)
prints_next (Err TooDeep) a b c f g h text next levels first (part, same, deep) =
    (part_next a b c text next first.0 part, same ∙ first.1, deep)

-- a first part of a text is one of a longer text
pub prints_part : (error : PrintError) (a b : Option (List ℕ)) (f g : ℕ) (text next : List ℕ) (levels : ℕ) →
    Prints {X = Unit {0}} a b f g (Err error) text levels → Prints {X = Unit {0}} a b f g (Err error) (text ++ next) levels
prints_part Write a b f g text next levels printed = (part_of_more a b text next printed.0, printed.1)
prints_part TooDeep a b f g text next levels (part, same, deep) = (part_of_more a b text next part, same, deep)

-- printing more after a front
pub prints_on : (error : PrintError) (whole part rest : List ℕ) (a b c : Option (List ℕ)) (f g h levels : ℕ) →
    HasPrintedUpTo whole (part ++ rest) a b f g → Prints {X = Unit {0}} b c g h (Err error) part levels →
    Prints {X = Unit {0}} a c f h (Err error) whole levels
prints_on error whole part rest a b c f g h levels (front, e, written) next =
    subst (λ z. Prints {X = Unit {0}} a c f h (Err error) z levels) (sym e)
    (prints_next (Err error) a b c f g h front (part ++ rest) levels written (prints_part error b c g h part rest levels next))

-- the first of two texts failed
pub first_fails : (error : PrintError) (a b : Option (List ℕ)) (f g : ℕ) (text rest whole : List ℕ) (levels levels' : ℕ) →
    text ++ rest ≡ whole → levels ≤ levels' → Prints {X = Unit {0}} a b f g (Err error) text levels →
    Prints {X = Unit {0}} a b f g (Err error) whole levels'
first_fails error a b f g text rest whole levels levels' e more printed =
    prints_as (Err error) a b f g (text ++ rest) whole levels levels' e more (prints_part error a b f g text rest levels printed)

-- the second of three texts failed
pub second_fails : (error : PrintError) (a b c : Option (List ℕ)) (f g h : ℕ) (first text rest whole : List ℕ) (levels levels' : ℕ) →
    first ++ (text ++ rest) ≡ whole → levels ≤ levels' → Appends a b first × (g ≡ f) → Prints {X = Unit {0}} b c g h (Err error) text levels →
    Prints {X = Unit {0}} a c f h (Err error) whole levels'
second_fails error a b c f g h first text rest whole levels levels' e more written printed =
    prints_as (Err error) a c f h (first ++ (text ++ rest)) whole levels levels' e more
    (prints_next (Err error) a b c f g h first (text ++ rest) levels written (prints_part error b c g h text rest levels printed))

-- two texts were appended, and then what was printed of the last
pub last_printed : (r : Result (Unit {0}) PrintError) (a b c d : Option (List ℕ)) (f g h i : ℕ) (first second last whole : List ℕ) (levels levels' : ℕ) →
    first ++ (second ++ last) ≡ whole → levels ≤ levels' → Appends a b first × (g ≡ f) → Appends b c second × (h ≡ g) → Prints c d h i r last levels →
    Prints a d f i r whole levels'
last_printed r a b c d f g h i first second last whole levels levels' e more written next printed =
    prints_as r a d f i (first ++ (second ++ last)) whole levels levels' e more
    (prints_next r a b d f g i first (second ++ last) levels written (prints_next r b c d g h i second last levels next printed))
