use Rattle.std.proofs.Common.{rules, ◌∙◌}
use Rattle.std.specs.Int.{w64}
use Rattle.std.proofs.lemmas.Int.{to_z-of_z}
use Rattle.resp_capture.proofs.interface.Interface.of_block.Goals as goal

pub returns : goal.returns
returns c =
    let back = to_z-of_z w64 c.offset_in.result (search rules) in
    record {
      link_is = search rules;
      most_is = search rules;
      ticks = search rules;
      micros = search rules;
      offset_is = λ offset has. back ∙ c.offset_in.ensures.offset offset has;
      no_offset = λ none. back ∙ c.offset_in.ensures.none none;
    }
