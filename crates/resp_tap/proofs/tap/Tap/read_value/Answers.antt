use Rattle.std.proofs.Common.{◌≡◌, ◌++◌, [], ap, subst, sym, take, ◌∙◌}
use Rattle.resp_value.specs.Rules.{rules_under}
use Rattle.resp_value.specs.Spellings.{IsSpelling}
use Rattle.resp_value.specs.Values.{datum_of}
use Rattle.resp_tap.specs.Lines.{number_for}
use Rattle.resp_tap.specs.SeenOf.{ToldAs}
use Rattle.resp_tap.specs.Sides.{HasSent}
use Rattle.resp_tap.specs.Taps.{TapState, tap_state, with_value}
use Rattle.resp_tap.proofs.KeptLemmas.{sees_told, state_of_values}
use Rattle.resp_tap.proofs.tap.Tap.read_value.Goals as goal

pub returns-in-Some-clause-seen : goal.returns-in-Some-clause-seen
returns-in-Some-clause-seen c = λ front taken.
    let old = c.args.self.now in
    let fed = c.in-Ok.ensures in
    let kept = c.in-Some.kept in
    let text = front ++ take c.in-Ok.fed.used c.args.piece.now in
    let ends = fed.value_whole front taken kept c.in-Some.is in
    let mid : TapState = record (tap_state old) {
      shown = c.feed.new.self.shown.most;
      reading = c.feed.new.self.version;
      reads_replies = c.feed.new.self.is_reading;
    } in
    let same = state_of_values (tap_state old) c.feed.new.self fed.same_version (ap (λ shown. shown.most) fed.same_shown) (fed.goes_on ∙ sym c.requires) in
    sees_told (tap_state old) c.value_of.new.self front c.args.piece.now c.in-Ok.fed.used kept ends.whole c.value_of.result
    (subst (λ l. IsSpelling (rules_under old.values.version l) ends.whole text) old.value_limits ends.spelling) ends.is_kept old.values.shown.enough
    (subst (λ k. tap_state c.value_of.new.self ≡ with_value (datum_of k.value) mid) c.in-Some.kept-is c.value_of.ensures.after ∙
    ap (with_value (datum_of kept.value)) same)
    (subst (λ v. HasSent v []) (sym c.value_of.ensures.same_values) ends.takes)
    (subst (λ k. ToldAs (number_for (tap_state old).line (datum_of k.value)) k c.value_of.result) c.in-Some.kept-is c.value_of.ensures.told)
