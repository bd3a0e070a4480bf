use Rattle.std.proofs.Common.{◌∙◌, sym, subst, arith}
use Rattle.resp_commands.specs.Migrates.{HasKeysAfter}
use Rattle.resp_commands.proofs.Migrated.{all_passed, keys_found, option_passed}
use Rattle.resp_commands.proofs.migrate.words_before_keys.Goals as goal

pub returns-then-is_word-clause-found : goal.returns-then-is_word-clause-found
returns-then-is_word-clause-found g c =
    let words = g.A.Arguments.words in
    subst (HasKeysAfter (words c.args.words)) (omega (arith, c.loop-word.invariant.0, c.loop-word.invariant.1))
    (keys_found (words c.args.words) (words c.loop-word.words) (words c.next_word.new.self) c.in-Some.word.now c.in-Some.ensures.steps
    (sym c.is_word.ensures ∙ c.if-is_word.true) c.loop-word.invariant.2)

pub loop-word-preserved : goal.loop-word-preserved
loop-word-preserved g c =
    let words = g.A.Arguments.words in (
      c.left-left.ensures,
      c.left-total.ensures,
      option_passed (words c.args.words) (words c.loop-word.words) (words c.next_word.new.self) (words c.skip.new.words) c.in-Some.word.now
          c.migrate_argument_count.result c.in-Some.ensures.steps (sym c.is_word.ensures ∙ c.if-is_word.false) c.migrate_argument_count.ensures
          c.skip.ensures c.loop-word.invariant.2,
    )

pub returns-clause-none : goal.returns-clause-none
returns-clause-none g c =
    let words = g.A.Arguments.words in
    all_passed (words c.args.words) (words c.loop-word.words) c.in_default.ensures.steps.0 c.loop-word.invariant.2
