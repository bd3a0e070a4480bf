use Rattle.std.proofs.Common.{◌≡◌, ◌∙◌, ◌++◌, ap, subst, sym, take}
use Rattle.std.proofs.Math.Logic.{∥∥₁_map}
use Rattle.std.specs.Box.{with_value}
use Rattle.resp_value.specs.Cuts.{IsCutOf}
use Rattle.resp_value.specs.Spellings.{IsSpelling}
use Rattle.resp_decode.specs.CutDecoding.{HasTaken, rules_of, shown_of}
use Rattle.resp_decode.specs.declared.cut_decoder.CutDecoder.{CutDecoder}
use Rattle.resp_tap.specs.Parts.{kept_bytes}
use Rattle.resp_tap.specs.Sides.{side_rules}
use Rattle.resp_tap.proofs.Fronts.{HasFront, front_after}
use Rattle.resp_tap.proofs.KeptLemmas.{kept_of}
use Rattle.resp_tap.proofs.side_reader.SideReader.feed.Goals as goal

pub invariant_of-self-in-Ok-feed : goal.invariant_of-self-in-Ok-feed
invariant_of-self-in-Ok-feed c =
    let old = c.args.self.now in
    let fed = c.in-Ok-feed in
    let rules : rules_of c.deref_mut.result.now ≡ side_rules old = ap rules_of c.deref_mut.ensures.value ∙ c.in-Ok.ensures.rules in
    let shown : shown_of c.deref_mut.result.now ≡ kept_bytes old.shown.most = ap shown_of c.deref_mut.ensures.value ∙ c.in-Ok.ensures.shown in
    record {
      same_rules = λ kept is. c.kept.ensures.rules kept is ∙ fed.ensures.same_rules ∙ rules;
      same_shown = λ kept is. c.kept.ensures.shown kept is ∙ fed.ensures.same_shown ∙ shown;
      reading = λ on. ∥∥₁_map (old.reading on) (λ h.
          let here : HasTaken c.deref_mut.result.now h.0 = subst (λ (d : CutDecoder). HasTaken d h.0) (sym c.deref_mut.ensures.value)
          (c.in-Ok.ensures.sent h.0 (subst (λ d. HasFront d h.0) (sym c.take-held.ensures.value) h.1)) in
          front_after (rules_of c.deref_mut.result.now) (shown_of c.deref_mut.result.now) (with_value c.in-Ok.decoder c.feed.new.self) c.kept.result h.0
          c.args.piece.now fed.fed.used fed.fed.value (fed.ensures.value_whole h.0 here) (fed.ensures.used_up h.0 here) c.kept.ensures.nothing_sent
          c.kept.ensures.inside);
    }

pub returns-in-Ok-feed-clause-value_whole : goal.returns-in-Ok-feed-clause-value_whole
returns-in-Ok-feed-clause-value_whole c = λ front sent kept is.
    let old = c.args.self.now in
    let text = front ++ take c.in-Ok-feed.fed.used c.args.piece.now in
    let rules : rules_of c.deref_mut.result.now ≡ side_rules old = ap rules_of c.deref_mut.ensures.value ∙ c.in-Ok.ensures.rules in
    let shown : shown_of c.deref_mut.result.now ≡ kept_bytes old.shown.most = ap shown_of c.deref_mut.ensures.value ∙ c.in-Ok.ensures.shown in
    let here : HasTaken c.deref_mut.result.now front = subst (λ (d : CutDecoder). HasTaken d front) (sym c.deref_mut.ensures.value)
    (c.in-Ok.ensures.sent front (subst (λ d. HasFront d front) (sym c.take-held.ensures.value) sent)) in
    let given = c.in-Ok-feed.ensures.value_whole front here kept is in
    let spelling : IsSpelling (side_rules old) given.whole text = subst (λ r. IsSpelling r given.whole text) rules given.spelling in
    record {
      whole = given.whole;
      spelling = spelling;
      is_kept = kept_of old.shown.most (side_rules old) given.whole text kept spelling c.are_in_range.ensures
          (subst (λ n. IsCutOf n given.whole kept) shown given.is_cut);
      takes = c.kept.ensures.nothing_sent given.takes;
    }
