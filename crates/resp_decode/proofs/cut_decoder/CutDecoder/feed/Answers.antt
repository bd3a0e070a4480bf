use Rattle.std.proofs.Common.{arith, rules, true, false, ◌≡◌, ◌⊎◌, ◌≤◌, [], ◌++◌, length, take, Some, None, inr, refl, subst, sym, ◌∙◌}
use Rattle.resp_scan.specs.Kinds.{rules_of}
use Rattle.resp_scan.specs.Listening.{fault_of}
use Rattle.resp_decode.specs.Decoding.{LacksMemory, RefusesByte}
use Rattle.resp_decode.specs.Holding.{construction_of, maybe_datum}
use Rattle.resp_decode.specs.Keeping.{HasKept}
use Rattle.resp_decode.proofs.CutFeeding.{as_many_shown, gives_cut, keeps_some_value, keeps_whole, takes_next_cut, where_none, where_some}
use Rattle.resp_decode.proofs.Feeding.{reads_on, refuses_or_lacks, takes_on, takes_piece, within}
use Rattle.resp_decode.proofs.cut_decoder.CutDecoder.feed.Goals as goal

pub returns-in-Err-clause-refusal : goal.returns-in-Err-clause-refusal
returns-in-Err-clause-refusal c = λ front w.
    let r = rules_of c.args.self.now.scanner in
    let piece = c.args.piece.now in
    let kept = c.args.self.now.kept in
    subst (λ fault. RefusesByte r front piece fault ⊎ LacksMemory r front piece fault) (sym c.fault_of.ensures)
    (refuses_or_lacks r (HasKept c.scan.new.listener kept.shown) front piece c.in-Err.stop
    (c.in-Err.ensures.refusal kept.shown front w.given w.reads w.heard)
    (c.in-Err.ensures.stopped kept.shown front w.given w.reads w.heard))

pub returns-then-not-scanned-clause-used_up : goal.returns-then-not-scanned-clause-used_up
returns-then-not-scanned-clause-used_up c = λ front w none.
    let part : c.in-Ok.scanned.is_whole ≡ false = search rules in
    takes_piece (c.in-Ok.ensures.whole_piece part) c.in-Ok.ensures.same_rules
    (c.in-Ok.ensures.used_up c.args.self.now.kept.shown front w.given w.reads w.heard part)
    (λ es heard. (refl, heard.1))

pub returns-clause-value_whole : goal.returns-clause-value_whole
returns-clause-value_whole c = λ front w x is.
    let r = rules_of c.args.self.now.scanner in
    let kept = c.args.self.now.kept in
    let written = front ++ take c.in-Ok.scanned.used c.args.piece.now in
    let whole : c.in-Ok.scanned.is_whole ≡ true = search rules in
    let heard = c.in-Ok.ensures.value_whole kept.shown front w.given w.reads w.heard whole in
    let k = keeps_whole r c.scan.new.self c.scan.new.listener kept.shown written heard in
    record {
      whole = k.whole;
      spelling = k.spelling;
      is_cut = gives_cut r c.scan.new.listener kept.shown written x k
          (where_some c.take_whole-value.result (λ y. maybe_datum (Some y.value) ≡ (construction_of c.scan.new.listener.held).whole) x is
          c.take_whole-value.ensures.value)
          (where_some c.take_whole-value.result (λ y. y.lengths.items ≡ c.scan.new.listener.lengths.items) x is c.take_whole-value.ensures.lengths);
      takes = takes_next_cut r c.scan.new.self c.scan.new.listener c.take_whole-value.new.self kept.shown written heard
          c.take_whole-value.ensures.holds c.take_whole-value.ensures.weighs c.take_whole-value.ensures.no_lengths;
    }

pub returns-clause-used_up : goal.returns-clause-used_up
returns-clause-used_up c = λ front w none.
    let r = rules_of c.args.self.now.scanner in
    let kept = c.args.self.now.kept in
    let written = front ++ take c.in-Ok.scanned.used c.args.piece.now in
    let whole : c.in-Ok.scanned.is_whole ≡ true = search rules in
    let heard = c.in-Ok.ensures.value_whole kept.shown front w.given w.reads w.heard whole in
    absurd (keeps_some_value r c.scan.new.listener kept.shown written (keeps_whole r c.scan.new.self c.scan.new.listener kept.shown written heard)
    (where_none c.take_whole-value.result ((construction_of c.scan.new.listener.held).whole ≡ None) none c.take_whole-value.ensures.no_value))

pub returns-then-not-scanned-clause-uses_bytes : goal.returns-then-not-scanned-clause-uses_bytes
returns-then-not-scanned-clause-uses_bytes c = λ some.
    within 1 c.in-Ok.scanned.used c.args.self.now.reading
    (λ fault stands. let wrong = (c.scan.ensures.fault_is_final fault stands).0 in search rules)
    (λ front w. c.in-Ok.ensures.uses_bytes c.args.self.now.kept.shown front w.given w.reads w.heard w.no_value some)

pub returns-clause-uses_bytes : goal.returns-clause-uses_bytes
returns-clause-uses_bytes c = λ some.
    within 1 c.in-Ok.scanned.used c.args.self.now.reading
    (λ fault stands. let wrong = (c.scan.ensures.fault_is_final fault stands).0 in search rules)
    (λ front w. c.in-Ok.ensures.uses_bytes c.args.self.now.kept.shown front w.given w.reads w.heard w.no_value some)

pub returns-clause-whole_piece : goal.returns-clause-whole_piece
returns-clause-whole_piece c = λ none.
    let r = rules_of c.args.self.now.scanner in
    let shown = c.args.self.now.kept.shown in
    let piece = c.args.piece.now in
    let used = c.in-Ok.scanned.used in
    let whole : c.in-Ok.scanned.is_whole ≡ true = search rules in
    let most : length piece ≤ used = within (length piece) used c.args.self.now.reading
    (λ fault stands. let wrong = (c.scan.ensures.fault_is_final fault stands).0 in search rules)
    (λ front w. absurd (keeps_some_value r c.scan.new.listener shown (front ++ take used piece)
    (keeps_whole r c.scan.new.self c.scan.new.listener shown (front ++ take used piece)
    (c.in-Ok.ensures.value_whole shown front w.given w.reads w.heard whole))
    (where_none c.take_whole-value.result ((construction_of c.scan.new.listener.held).whole ≡ None) none
    c.take_whole-value.ensures.no_value))) in
    let least = c.in-Ok.ensures.within_piece in omega (arith, most, least)

pub returns-then-not-scanned-clause-same_shown : goal.returns-then-not-scanned-clause-same_shown
returns-then-not-scanned-clause-same_shown c =
    let part : c.in-Ok.scanned.is_whole ≡ false = search rules in
    as_many_shown c.args.self.now.scanner c.args.self.now.kept c.scan.new.listener c.args.self.now.reading
    (λ fault stands. let wrong = (c.scan.ensures.fault_is_final fault stands).0 in search rules)
    (λ front w. (c.in-Ok.ensures.used_up c.args.self.now.kept.shown front w.given w.reads w.heard part).has_heard.0)

pub returns-clause-same_shown : goal.returns-clause-same_shown
returns-clause-same_shown c =
    let whole : c.in-Ok.scanned.is_whole ≡ true = search rules in
    c.take_whole-value.ensures.same_shown
    ∙ as_many_shown c.args.self.now.scanner c.args.self.now.kept c.scan.new.listener c.args.self.now.reading
    (λ fault stands. let wrong = (c.scan.ensures.fault_is_final fault stands).0 in search rules)
    (λ front w. (c.in-Ok.ensures.value_whole c.args.self.now.kept.shown front w.given w.reads w.heard
    whole).has_heard.0)

pub invariant_of-self-then-not-scanned : goal.invariant_of-self-then-not-scanned
invariant_of-self-then-not-scanned c =
    let inside : c.in-Ok.scanned.is_whole ≡ false = search rules in
    record {
      reading = reads_on c.args.self.now.reading
          (λ fault stands. let wrong = (c.scan.ensures.fault_is_final fault stands).0 in search rules)
          (λ front w. (
            front ++ c.args.piece.now,
            takes_on (c.in-Ok.ensures.used_up c.args.self.now.kept.shown front w.given w.reads w.heard inside)
                (λ es heard. (refl, heard.1)),
          ));
    }

pub invariant_of-self-2 : goal.invariant_of-self-2
invariant_of-self-2 c =
    let whole : c.in-Ok.scanned.is_whole ≡ true = search rules in
    let shown = c.args.self.now.kept.shown in
    record {
      reading = reads_on c.args.self.now.reading
          (λ fault stands. let wrong = (c.scan.ensures.fault_is_final fault stands).0 in search rules)
          (λ front w. (
            [],
            takes_next_cut (rules_of c.args.self.now.scanner) c.scan.new.self c.scan.new.listener
                c.take_whole-value.new.self shown
                (front ++ take c.in-Ok.scanned.used c.args.piece.now)
                (c.in-Ok.ensures.value_whole shown front w.given w.reads w.heard whole)
                c.take_whole-value.ensures.holds c.take_whole-value.ensures.weighs
                c.take_whole-value.ensures.no_lengths,
          ));
    }

pub invariant_of-self : goal.invariant_of-self
invariant_of-self c = record {
  reading = ∣ inr (fault_of c.in-Err.stop, (c.in-Err.ensures.fault_is_kept, c.new.ensures.nothing_kept)) ∣₁;
}
