use Rattle.std.proofs.Common.{Some, inl, inr, ◌∙◌, ap, subst, sym, true≢false, arith}
use Rattle.resp_commands.proofs.Sorted.{Read, all_read, option_read}
use Rattle.resp_commands.proofs.sorts.last_store.Goals as goal
use Rattle.resp_commands.proofs.sorts.last_store.Goals.{then-is_word+then-left-gt0, else-is_word, else-is_word-via-then-is_word+else-left-gt0, else-is_word-via-else-is_word}

pub loop-word-preserved : goal.loop-word-preserved
loop-word-preserved g c =
    let words = g.A.Arguments.words in (
      c.left-left.ensures,
      c.left-total.ensures,
      option_read (words c.args.words) (words c.loop-word.words) (words c.next_word.new.self) (words c.skip.new.words) c.in-Some.word.now
          c.sort_argument_count.result c.loop-word.last c.if-is_word.last c.in-Some.ensures.steps c.sort_argument_count.ensures
          c.skip.ensures c.loop-word.invariant.2
          (elim c.if-is_word.branch [
            | then-is_word+then-left-gt0 w ↦ inl (
              sym w.if-is_word.ensures,
              omega (arith, w.if-left-gt0.true, w.left.ensures),
              w.last-is ∙ ap Some (omega (arith, c.left-total.ensures, c.loop-word.invariant.0)),
            )
            | else-is_word w ↦
                elim w.else-is_word.branch [
                  | else-is_word-via-then-is_word+else-left-gt0 w' ↦
                      inr (λ named some. absurd (omega (arith, w'.if-left-gt0.false, w'.left.ensures, some)), w.last-is)
                  | else-is_word-via-else-is_word w' ↦ inr (λ named some. true≢false (sym named ∙ sym w'.if-is_word.ensures), w.last-is)
                ]
          ]),
    )

pub returns-clause-last : goal.returns-clause-last
returns-clause-last g c =
    let all = g.A.Arguments.words c.args.words in
    (all_read all c.loop-word.last (subst (λ ws. Read all ws c.loop-word.last) c.in_default.ensures.steps.0 c.loop-word.invariant.2)).0

pub returns-clause-none : goal.returns-clause-none
returns-clause-none g c =
    let all = g.A.Arguments.words c.args.words in
    (all_read all c.loop-word.last (subst (λ ws. Read all ws c.loop-word.last) c.in_default.ensures.steps.0 c.loop-word.invariant.2)).1
