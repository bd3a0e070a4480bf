use Rattle.std.proofs.Common.{rules, ◌++◌, ◌≡◌, [], ℕ, Bool, Err, true, Option, ap, sym, ◌∙◌}
use Rattle.std.specs.Prelude.{if◌then◌else◌}
use Rattle.resp_value.specs.Data.{Datum}
use Rattle.resp_print.specs.declared.print_error.PrintError.TheVariants.{Write}
use Rattle.resp_print.proofs.Printing.{failed_part, prints_next}
use Rattle.resp_tap.specs.Filters.{keeps}
use Rattle.resp_tap.specs.Noted.{before_text, filtered_text, waited_in}
use Rattle.resp_tap.specs.Texts.{seen_text}
use Rattle.resp_tap.specs.declared.filter.Filter.{Filter}
use Rattle.resp_tap.specs.declared.note.Note.{Note}
use Rattle.resp_tap.specs.declared.print.TextOptions.{TextOptions}
use Rattle.resp_tap.specs.declared.seen.Seen.{Seen}
use Rattle.resp_tap.specs.declared.stamp.Stamp.{Stamp}
use Rattle.resp_tap.proofs.KeptItems.{prints_same}
use Rattle.resp_tap.proofs.note.write_filtered.Goals as goal

-- the whole text of a result that is let through
let_through : (f : Filter) (p : TextOptions) (is_line is_chosen : Bool) (note : Option Note) (stamp : Option Stamp)
    (waited : Option ℕ) (passes : Bool) (whole : Datum) (what : Seen) → waited ≡ waited_in stamp →
    passes ≡ keeps f p.client is_chosen waited what → passes ≡ true →
    before_text f p.client note what ++ seen_text p is_line stamp whole what ≡
    filtered_text f p is_line is_chosen note stamp whole what
let_through f p is_line is_chosen note stamp waited passes whole what is kept pass =
    sym (ap (λ b. if b then before_text f p.client note what ++ seen_text p is_line stamp whole what else [])
    (ap (λ w. keeps f p.client is_chosen w what) (sym is) ∙ sym kept ∙ pass))

pub returns-in-Ok : goal.returns-in-Ok
returns-in-Ok g c = λ whole kept_in.
    prints_same _ _ _ _ _ _ _ _
    (let_through c.args.filter.now c.args.options c.args.is_line c.args.is_chosen _ c.args.stamp _ _ whole
    c.args.seen.now (search rules) c.keeps.ensures (search rules))
    (prints_next _ _ _ _ _ _ _ _ _ _ c.in-Ok.ensures (c.write_seen.ensures whole kept_in))

pub returns-in-Err : goal.returns-in-Err
returns-in-Err g c = λ whole kept_in.
    prints_same (Err Write) _ _ _ _ _ _ 0
    (let_through c.args.filter.now c.args.options c.args.is_line c.args.is_chosen _ c.args.stamp _ _ whole
    c.args.seen.now (search rules) c.keeps.ensures (search rules))
    (failed_part _ _ _ _ _ _ 0 c.in-Err.ensures)
