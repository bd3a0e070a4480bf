use Rattle.std.proofs.Common.{◌≡◌, ◌∙◌, ◌++◌, ap, arith, take}
use Rattle.std.proofs.lemmas.Grind.{common_steps}
use Rattle.resp_frames.proofs.Ends.{rejected, some_more, spelled, take_whole}
use Rattle.resp_frames.proofs.frames.extend.Goals as goal

pub returns-in-Err-clause-refused : goal.returns-in-Err-clause-refused
returns-in-Err-clause-refused c rules front h =
    rejected c.frame_error.result c.in-Err.error _ _ _ front c.args.piece.now h.same_rules c.frame_error.ensures.fault
    (c.in-Err.ensures.refusal front h.given h.read)

pub returns-clause-whole : goal.returns-clause-whole
returns-clause-whole c rules front h whole =
    let heard = c.in-Ok.ensures.value_whole front h.given h.read whole in
    let text = take c.in-Ok.scanned.used c.args.piece.now in
    let added : c.extend_from_slice.new.self.items ≡ c.args.held.now.bytes.items ++ text = grind (arith, common_steps) in
    let is = spelled _ _ _ _ (front ++ text) h.same_rules heard in
    record {
      bytes = added ∙ ap (λ bytes. bytes ++ text) h.bytes;
      within = c.in-Ok.ensures.within_piece;
      some = some_more rules front c.args.piece.now c.in-Ok.scanned.used h.no_value is;
      spelled = is;
    }

pub returns-clause-more : goal.returns-clause-more
returns-clause-more c rules front h more =
    let heard = c.in-Ok.ensures.used_up front h.given h.read more in
    let text = take c.in-Ok.scanned.used c.args.piece.now in
    let added : c.extend_from_slice.new.self.items ≡ c.args.held.now.bytes.items ++ text = grind (arith, common_steps) in (
      heard.no_value,
      record {
        bytes = added ∙ ap (λ bytes. bytes ++ text) h.bytes ∙
            ap (λ t. front ++ t) (take_whole c.in-Ok.scanned.used c.args.piece.now (c.in-Ok.ensures.whole_piece more));
        given = heard.heard;
        read = heard.reads;
        same_rules = c.in-Ok.ensures.same_rules ∙ h.same_rules;
        no_value = heard.no_value;
      },
    )
