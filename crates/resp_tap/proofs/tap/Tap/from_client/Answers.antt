use Rattle.std.proofs.Common.{◌++◌, ap, subst, sym, take, ◌∙◌}
use Rattle.resp_value.specs.Rules.{Rules}
use Rattle.resp_value.specs.Spellings.{IsSpelling}
use Rattle.resp_tap.specs.Parts.{IsKeptOf}
use Rattle.resp_tap.specs.Taps.{tap_state}
use Rattle.resp_tap.specs.Watching.{SeesRequest}
use Rattle.resp_tap.proofs.tap.Tap.from_client.Goals as goal

pub returns-in-Some-clause-seen : goal.returns-in-Some-clause-seen
returns-in-Some-clause-seen c = λ reads front taken.
    let old = c.args.self.now in
    let fed = c.in-Ok.ensures in
    let kept = c.in-Some.kept in
    let piece = c.args.piece.now in
    let used = c.in-Ok.fed.used in
    let text = front ++ take used piece in
    let ends = fed.value_whole front taken kept c.in-Some.is in
    let reading = fed.goes_on ∙ sym reads in
    let shown = ap (λ part. part.most) fed.same_shown in
    subst (λ s. SeesRequest s c.command_of.new.self front piece used c.command_of.result)
    (λ i. record (tap_state old) { kept = shown i; reads_commands = reading i })
    (c.command_of.ensures.seen ends.takes ends.whole front piece used
    (subst (λ (r : Rules). IsSpelling r ends.whole text) old.request_rules ends.spelling)
    (subst (λ k. IsKeptOf c.feed.new.self.shown.most ends.whole k) (sym c.in-Some.kept-is)
    (subst (λ most. IsKeptOf most ends.whole kept) (sym shown) ends.is_kept)))
