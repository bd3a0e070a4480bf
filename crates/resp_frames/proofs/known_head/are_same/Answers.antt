use Rattle.std.proofs.Common.{◌∙◌, ap, sym, arith, length-take, length-drop}
use Rattle.std.proofs.lemmas.Grind.{common_steps}
use Rattle.std.specs.Int.{from_le_bytes, w64}
use Rattle.resp_frames.proofs.KnownHeads.{same_bytes}
use Rattle.resp_frames.proofs.known_head.are_same.Goals as goal

pub returns : goal.returns
returns c = (
  λ same.
      same_bytes c.args.text.now c.args.other.now c.args.at (grind (arith, common_steps, length-take, length-drop))
      (grind (arith, common_steps, length-take, length-drop)) (λ i. (c.type_inv.text i).fits) (λ i. (c.type_inv.other i).fits)
      (sym c.word_at.ensures ∙ grind (arith, common_steps) ∙ c.word_at-2.ensures),
  λ same. let numbers = c.word_at.ensures ∙ ap (from_le_bytes w64) same ∙ sym c.word_at-2.ensures in grind (arith, common_steps),
)
