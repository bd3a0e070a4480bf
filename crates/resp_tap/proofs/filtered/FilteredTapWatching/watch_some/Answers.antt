use Rattle.std.proofs.Common.{◌≡◌, ◌∙◌, ◌-◌, ℕ, Option, ap, refl, subst, sym}
use Rattle.std.specs.Prelude.{option_map, slice_get}
use Rattle.resp_value.specs.Data.{Datum}
use Rattle.resp_tap.specs.Filtering.{note_of}
use Rattle.resp_tap.specs.Noted.{IsChosen, IsNoteBehind, NotesAfter, filtered_text}
use Rattle.resp_tap.specs.SeenOf.{IsKeptIn, with_whole}
use Rattle.resp_tap.specs.declared.print.TextOptions.{TextOptions}
use Rattle.resp_tap.specs.declared.note.Note.{Note}
use Rattle.resp_tap.proofs.KeptItems.{has_words, kept_at, kept_by, none_gone_also, prints_same}
use Rattle.resp_tap.proofs.filtered.FilteredTapWatching.watch_some.Goals as goal

pub returns-clause-watches : goal.returns-clause-watches
returns-clause-watches g c =
    let old = c.args.self.now in
    let f = old.filter in
    let now = c.args.given.now in
    let next = c.step-next.result in
    let steps = c.step-next.ensures in
    let what = next.step.seen in
    let is_chosen = c.is_chosen-is_chosen.result in
    let options = c.options-options.ensures in
    let note : option_map (λ note. note.now) c.get-note.result ≡ note_of old =
    kept_at old.kept.items next.at c.get-note.result c.get-note.ensures.item ∙ ap (slice_get old.kept.items) steps.at in (
      what,
      (
        refl,
        next.is_line,
        is_chosen,
        next.size,
        record {
          seen = steps.sees;
          chosen = subst (λ (n : Option Note). IsChosen f n what is_chosen) note c.is_chosen-is_chosen.ensures;
          notes = subst (λ (t : TextOptions × ℕ × ℕ). (whole : Datum) →
              IsKeptIn t.0.shown.most t.0.kept.most whole what →
              NotesAfter f t.0 now next.is_line is_chosen (with_whole whole what) t.1 t.2 old.kept.items c.follow.new.kept.items)
              (λ i. (options i, steps.before i, steps.left i)) (λ whole kept.
              kept_by (IsNoteBehind f c.options-options.result now next.is_line is_chosen old.kept.items) _
              (next.before - next.left) c.note_for-note.result old.kept.items c.follow.new.kept.items
              (λ words has. none_gone_also next.before next.left _ (has_words _ _ words has))
              (c.note_for-note.ensures whole kept) c.follow.ensures);
        },
        record {
          asked = next.asked;
          of_command = steps.asked;
          text = λ whole kept. prints_same _ _ _ _ _ _ _ _
              (λ i. filtered_text f (options i) next.is_line is_chosen (note i) (c.stamp_of-stamp.ensures i) whole what)
              (c.write_filtered-printed.ensures whole
              (subst (λ (o : TextOptions). IsKeptIn o.shown.most o.kept.most whole what) (sym options) kept));
        },
      ),
    )
