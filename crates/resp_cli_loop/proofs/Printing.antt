-- Text that is printed part after part.
use Rattle.std.proofs.Common.{◌≡◌, ℕ, List, ◌++◌, Option, Result, Ok, Err, sym, ap, subst, ◌∙◌}
use Rattle.resp_io.specs.Devices.{Appends, count_after}
use Rattle.resp_print.specs.Written.{AppendsPart}
use Rattle.resp_print.proofs.WrittenLemmas.{Appends-append}
use Rattle.resp_print.proofs.Printing.{HasPrintedUpTo, part_next, part_of_more}
use Rattle.resp_cli_loop.specs.Printed.{PlaysText}
use Rattle.resp_cli_loop.specs.declared.play.PlayError.{PlayError}
use Rattle.resp_cli_loop.specs.declared.play.PlayError.TheVariants.{Stopped, Write, Memory}

-- a write of a text failed, before the next
pub failed_part : (before after : Option (List ℕ)) (failures failures' : ℕ) (text next : List ℕ) →
    AppendsPart before after text × (failures' ≡ count_after 1 failures) → PlaysText {X = Unit {0}} before after failures failures' (Err Write) (text ++ next)
failed_part before after failures failures' text next written = (part_of_more before after text next written.0, written.1)

-- what was printed of a text was printed of one that is equal
pub prints_as : (r : Result (Unit {0}) PlayError) (a b : Option (List ℕ)) (f g : ℕ) (text text' : List ℕ) → text ≡ text' → PlaysText a b f g r text →
    PlaysText a b f g r text'
prints_as r a b f g text text' e printed = subst (PlaysText a b f g r) e printed

-- and a text that was appended
pub printed_text : (a b : Option (List ℕ)) (f g : ℕ) (text text' : List ℕ) → text ≡ text' → Appends a b text × (g ≡ f) → Appends a b text' × (g ≡ f)
printed_text a b f g text text' e printed = (subst (Appends a b) e printed.0, printed.1)

-- a text was appended, and then what was printed of the next
pub prints_next : (r : Result (Unit {0}) PlayError) (a b c : Option (List ℕ)) (f g h : ℕ) (text next : List ℕ) → Appends a b text × (g ≡ f) →
    PlaysText b c g h r next → PlaysText a c f h r (text ++ next)
prints_next (Ok x) a b c f g h text next first second = (Appends-append a b c text next first.0 second.0, second.1 ∙ first.1)
prints_next (Err Write) a b c f g h text next first second = (part_next a b c text next first.0 second.0, subst (λ n. h ≡ count_after 1 n) first.1 second.1)
prints_next (Err Memory) a b c f g h text next first second = (part_next a b c text next first.0 second.0, second.1 ∙ first.1)
prints_next (Err (Stopped line cause)) a b c f g h text next first second = absurd second

-- a first part of a text is one of a longer text
pub prints_part : (error : PlayError) (a b : Option (List ℕ)) (f g : ℕ) (text next : List ℕ) → PlaysText {X = Unit {0}} a b f g (Err error) text →
    PlaysText {X = Unit {0}} a b f g (Err error) (text ++ next)
prints_part Write a b f g text next printed = (part_of_more a b text next printed.0, printed.1)
prints_part Memory a b f g text next printed = (part_of_more a b text next printed.0, printed.1)
prints_part (Stopped line cause) a b f g text next printed = absurd printed

-- printing more after a front
pub prints_on : (error : PlayError) (whole part rest : List ℕ) (a b c : Option (List ℕ)) (f g h : ℕ) →
    HasPrintedUpTo whole (part ++ rest) a b f g → PlaysText {X = Unit {0}} b c g h (Err error) part → PlaysText {X = Unit {0}} a c f h (Err error) whole
prints_on error whole part rest a b c f g h (front, e, written) next =
    subst (PlaysText {X = Unit {0}} a c f h (Err error)) (sym e)
    (prints_next (Err error) a b c f g h front (part ++ rest) written (prints_part error b c g h part rest next))
