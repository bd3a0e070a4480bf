use Rattle.std.proofs.Common.{◌≡◌, ◌∷◌, ◌++◌, ◌∙◌, [], false, append_assoc, ap, subst, sym}
use Rattle.std.proofs.lemmas.List.{nil_from_length}
use Rattle.resp_cli_stream.specs.Hints.{is_one_of}
use Rattle.resp_cli_stream.proofs.HintLemmas.{AreDigits, is_mark, only_digits}
use Rattle.resp_cli_stream.proofs.hint.ends_with_any.Goals as goal

pub returns-then-not-is_one_of : goal.returns-then-not-is_one_of
returns-then-not-is_one_of c =
    let inv = c.loop-byte.invariant in
    let byte = c.in-Some.byte.now in
    let front = c.in-Some.front.now in
    let not : is_one_of c.args.digits.now byte ≡ false = sym c.is_one_of.ensures ∙ c.if-not-is_one_of.true in (
      λ e. record {
        front = c.loop-byte.rest.now;
        has_mark = record { front = front; mark = byte; is_mark = sym c.is_one_of-then-not-is_one_of.ensures ∙ e; whole = c.in-Some.ensures.cases.0 };
        last = inv.last;
        are_digits = inv.are_digits;
        whole = inv.whole;
      },
      λ w. c.is_one_of-then-not-is_one_of.ensures ∙
          is_mark c.requires.no_digits w front inv.last byte (inv.whole ∙ ap (λ z. z ++ inv.last) c.in-Some.ensures.cases.0) inv.are_digits not,
    )

pub loop-byte-preserved : goal.loop-byte-preserved
loop-byte-preserved c =
    let inv = c.loop-byte.invariant in
    record {
      last = c.in-Some.byte.now ∷ inv.last;
      whole = inv.whole ∙ ap (λ z. z ++ inv.last) c.in-Some.ensures.cases.0 ∙ append_assoc c.in-Some.front.now (c.in-Some.byte.now ∷ []) inv.last;
      are_digits = (sym c.is_one_of.ensures ∙ c.if-not-is_one_of.false, inv.are_digits);
    }

pub returns : goal.returns
returns c =
    let inv = c.loop-byte.invariant in
    let whole = inv.whole ∙ ap (λ z. z ++ inv.last) (nil_from_length c.loop-byte.rest.now c.in_default.ensures.cases) in
    (λ e. absurd (cc), λ w. absurd (only_digits c.requires.no_digits w (subst (AreDigits c.args.digits.now) (sym whole) inv.are_digits)))
