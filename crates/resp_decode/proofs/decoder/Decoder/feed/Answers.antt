use Rattle.std.proofs.Common.{arith, rules, true, false, ◌≡◌, ◌⊎◌, ◌≤◌, [], ◌++◌, length, take, subst, sym, ap, ◌∙◌}
use Rattle.resp_scan.specs.Kinds.{rules_of}
use Rattle.resp_decode.specs.Decoding.{LacksMemory, RefusesByte}
use Rattle.resp_decode.specs.Hearing.{HasHeard}
use Rattle.resp_decode.specs.Holding.{maybe_datum}
use Rattle.resp_decode.proofs.Feeding.{holds_some_value, reads_on, refuses_or_lacks, spells_value, takes_next, takes_on, takes_piece, within}
use Rattle.resp_decode.proofs.decoder.Decoder.feed.Goals as goal

pub returns-in-Err-clause-refusal : goal.returns-in-Err-clause-refusal
returns-in-Err-clause-refusal c = λ front w.
    let r = rules_of c.args.self.now.scanner in
    let piece = c.args.piece.now in
    subst (λ fault. RefusesByte r front piece fault ⊎ LacksMemory r front piece fault) (sym c.fault_of.ensures)
    (refuses_or_lacks r (HasHeard c.scan.new.listener) front piece c.in-Err.stop (c.in-Err.ensures.refusal tt front w.given w.reads w.heard)
    (c.in-Err.ensures.stopped tt front w.given w.reads w.heard))

pub returns-then-not-scanned-clause-used_up : goal.returns-then-not-scanned-clause-used_up
returns-then-not-scanned-clause-used_up c = λ front w none.
    let part : c.in-Ok.scanned.is_whole ≡ false = search rules in
    takes_piece (c.in-Ok.ensures.whole_piece part) c.in-Ok.ensures.same_rules
    (c.in-Ok.ensures.used_up tt front w.given w.reads w.heard part) (λ es heard. heard)

pub returns-clause-value_whole : goal.returns-clause-value_whole
returns-clause-value_whole c = λ front w x is.
    let r = rules_of c.args.self.now.scanner in
    let written = front ++ take c.in-Ok.scanned.used c.args.piece.now in
    let whole : c.in-Ok.scanned.is_whole ≡ true = search rules in
    let heard = c.in-Ok.ensures.value_whole tt front w.given w.reads w.heard whole in
    record {
      spelling = spells_value r c.scan.new.self c.scan.new.listener written x heard
          (ap maybe_datum (sym is) ∙ c.take_whole-value.ensures.taken);
      takes = takes_next r c.scan.new.self c.scan.new.listener c.take_whole-value.new.self written heard
          c.take_whole-value.ensures.holds c.take_whole-value.ensures.weighs;
    }

pub returns-clause-used_up : goal.returns-clause-used_up
returns-clause-used_up c = λ front w none.
    let r = rules_of c.args.self.now.scanner in
    let written = front ++ take c.in-Ok.scanned.used c.args.piece.now in
    let whole : c.in-Ok.scanned.is_whole ≡ true = search rules in
    let heard = c.in-Ok.ensures.value_whole tt front w.given w.reads w.heard whole in
    absurd (holds_some_value r c.scan.new.self c.scan.new.listener written heard (sym c.take_whole-value.ensures.taken ∙ ap maybe_datum none))

pub returns-then-not-scanned-clause-uses_bytes : goal.returns-then-not-scanned-clause-uses_bytes
returns-then-not-scanned-clause-uses_bytes c = λ some.
    within 1 c.in-Ok.scanned.used c.args.self.now.reading
    (λ fault stands. let wrong = (c.scan.ensures.fault_is_final fault stands).0 in search rules)
    (λ front w. c.in-Ok.ensures.uses_bytes tt front w.given w.reads w.heard w.no_value some)

pub returns-clause-uses_bytes : goal.returns-clause-uses_bytes
returns-clause-uses_bytes c = λ some.
    within 1 c.in-Ok.scanned.used c.args.self.now.reading
    (λ fault stands. let wrong = (c.scan.ensures.fault_is_final fault stands).0 in search rules)
    (λ front w. c.in-Ok.ensures.uses_bytes tt front w.given w.reads w.heard w.no_value some)

pub returns-clause-whole_piece : goal.returns-clause-whole_piece
returns-clause-whole_piece c = λ none.
    let r = rules_of c.args.self.now.scanner in
    let piece = c.args.piece.now in
    let used = c.in-Ok.scanned.used in
    let whole : c.in-Ok.scanned.is_whole ≡ true = search rules in
    let most : length piece ≤ used = within (length piece) used c.args.self.now.reading
    (λ fault stands. let wrong = (c.scan.ensures.fault_is_final fault stands).0 in search rules)
    (λ front w. absurd (holds_some_value r c.scan.new.self c.scan.new.listener (front ++ take used piece)
    (c.in-Ok.ensures.value_whole tt front w.given w.reads w.heard whole)
    (sym c.take_whole-value.ensures.taken ∙ ap maybe_datum none))) in
    let least = c.in-Ok.ensures.within_piece in omega (arith, most, least)

pub invariant_of-self-then-not-scanned : goal.invariant_of-self-then-not-scanned
invariant_of-self-then-not-scanned c =
    let inside : c.in-Ok.scanned.is_whole ≡ false = search rules in
    record {
      reading = reads_on c.args.self.now.reading
          (λ fault stands. let wrong = (c.scan.ensures.fault_is_final fault stands).0 in search rules)
          (λ front w. (
            front ++ c.args.piece.now,
            takes_on (c.in-Ok.ensures.used_up tt front w.given w.reads w.heard
                inside) (λ es heard. heard),
          ));
    }

pub invariant_of-self-2 : goal.invariant_of-self-2
invariant_of-self-2 c =
    let whole : c.in-Ok.scanned.is_whole ≡ true = search rules in
    record {
      reading = reads_on c.args.self.now.reading
          (λ fault stands. let wrong = (c.scan.ensures.fault_is_final fault stands).0 in search rules)
          (λ front w. (
            [],
            takes_next (rules_of c.args.self.now.scanner) c.scan.new.self c.scan.new.listener
                c.take_whole-value.new.self
                (front ++ take c.in-Ok.scanned.used c.args.piece.now)
                (c.in-Ok.ensures.value_whole tt front w.given w.reads w.heard whole)
                c.take_whole-value.ensures.holds c.take_whole-value.ensures.weighs,
          ));
    }
