use Rattle.std.proofs.Common.{rules, ap, ◌∙◌, arith, inl, inr, map, refl, sym}
use Rattle.resp_cli_stream.proofs.Failures.{fails_by_words, status_is}
use Rattle.resp_cli_stream.proofs.RunWords.{does_nothing, runs_no_explanation, runs_no_file, runs_no_stream}
use Rattle.resp_cli_stream.proofs.SameBytes.{same_bytes}
use Rattle.resp_cli_stream.proofs.command_line.command.Goals as goal

pub returns-in-Err-clause-does : goal.returns-in-Err-clause-does
returns-in-Err-clause-does g c =
    let asked = c.in-Err.ensures.asked in (
      asked.0,
      asked.1,
      does_nothing asked.0 (map g.S.AsStr.text c.args.words.now) _ _ _ c.in-Err.status refl
          (λ none. c.in-Err.ensures.help_is_written (status_is c.in-Err.status 0 none)) asked.2
          c.in-Err.ensures.never_one,
    )

pub returns-in-Err-clause-failures : goal.returns-in-Err-clause-failures
returns-in-Err-clause-failures g c = record {
  at_three = λ three. fails_by_words _ _ _ _ _ _ _ (c.in-Err.ensures.told_at_three (status_is c.in-Err.status 3 three));
  at_others = search rules;
}

pub returns-in_default : goal.returns-in_default
returns-in_default g c =
    let asked = c.in-Ok.ensures.asked in
    let said = c.in-Ok.ensures.nothing_said in
    record {
      at_most_three = omega arith;
      does = (
        asked.0,
        asked.1,
        inr (inl (refl, c.refuse_request.ensures.status, runs_no_stream asked.0 (map g.S.AsStr.text c.args.words.now) c.in-Ok.asked asked.2 c.in_default.not-Stream)),
      );
      reads_bounded = omega arith;
      nothing_told_at_zero = λ none. absurd (omega arith);
      failures = record { at_three = λ three. absurd (omega arith); at_others = λ others. (refl, ap g.W.Sink.failures said.0) };
      nothing_at_two = λ two. (refl, said.0);
    }

pub returns-then-ne-clause-does : goal.returns-then-ne-clause-does
returns-then-ne-clause-does g c =
    let asked = c.in-Ok.ensures.asked in
    let asks = rw c.in-Stream.is at asked.2 in
    let wrong = runs_no_file asked.0 (map g.S.AsStr.text c.args.words.now) c.in-Stream.options asks (sym c.ne.ensures ∙ c.if-ne.true) in
    (asked.0, asked.1, inr (inl (refl, refl, wrong)))

pub returns-then-options-clause-does : goal.returns-then-options-clause-does
returns-then-options-clause-does g c =
    let asked = c.in-Ok.ensures.asked in
    let asks = rw c.in-Stream.is at asked.2 in
    let wrong = runs_no_explanation asked.0 (map g.S.AsStr.text c.args.words.now) c.in-Stream.options asks c.if-options.true in
    (asked.0, asked.1, inr (inl (refl, refl, wrong)))

pub returns-clause-does : goal.returns-clause-does
returns-clause-does g c =
    let asked = c.in-Ok.ensures.asked in
    let asks = rw c.in-Stream.is at asked.2 in
    let said = c.in-Ok.ensures.nothing_said in
    let run = rw (said.0, said.1) at c.run_options.ensures.ran in (
      asked.0,
      asked.1,
      inr (inr (inr (
        c.in-Stream.options,
        (asks, same_bytes _ _ (sym c.ne.ensures ∙ c.if-ne.false), c.if-options.false),
        run,
      ))),
    )
