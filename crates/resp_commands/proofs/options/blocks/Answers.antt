use Rattle.std.proofs.Common.{◌∙◌, sym, subst}
use Rattle.resp_commands.specs.Options.{Blocks}
use Rattle.resp_commands.proofs.Blocking.{block_first, blocks_after, blocks_before, none_blocks, other_word}
use Rattle.resp_commands.proofs.options.blocks.Goals as goal

pub returns-then-is_word : goal.returns-then-is_word
returns-then-is_word c =
    c.loop-word.invariant.1 (subst Blocks (sym c.in-Some.ensures.steps)
    (block_first c.in-Some.word.now c.next.new.self (sym c.is_word.ensures ∙ c.if-is_word.true)))

pub returns-in_default-argument_count : goal.returns-in_default-argument_count
returns-in_default-argument_count c = λ b.
    other_word c.in-Some.word.now c.next.new.self (sym c.argument_count.ensures ∙ c.in_default-argument_count.is)
    (sym c.is_word.ensures ∙ c.if-is_word.false) (subst Blocks c.in-Some.ensures.steps (c.loop-word.invariant.0 b))

pub loop-word-preserved : goal.loop-word-preserved
loop-word-preserved c =
    let counted = sym c.argument_count.ensures ∙ c.in-Some-argument_count.is in (
      λ b. subst Blocks (sym c.skip.ensures) (blocks_after c.in-Some.word.now c.next.new.self c.in-Some-argument_count.count counted
          (sym c.is_word.ensures ∙ c.if-is_word.false) (subst Blocks c.in-Some.ensures.steps (c.loop-word.invariant.0 b))),
      λ b. c.loop-word.invariant.1 (subst Blocks (sym c.in-Some.ensures.steps)
          (blocks_before c.in-Some.word.now c.next.new.self c.in-Some-argument_count.count counted (subst Blocks c.skip.ensures b))),
    )

pub returns : goal.returns
returns c = λ b. none_blocks (subst Blocks c.in_default.ensures.steps.0 (c.loop-word.invariant.0 b))
