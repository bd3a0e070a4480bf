use Rattle.std.proofs.Common.{rules, ◌∙◌, [], ap, inr, refl, subst, sym}
use Rattle.resp_session.specs.Commands.{meaning_of}
use Rattle.resp_tap.specs.Sides.{HasSent}
use Rattle.resp_tap.specs.Taps.{tap_state, with_command, with_refused_command}
use Rattle.resp_tap.specs.declared.seen.Place.TheVariants as place
use Rattle.resp_tap.proofs.KeptWords.{kept_words_tell_the_same}
use Rattle.resp_tap.proofs.WholeCommands.{command_read, left_out_whole, whole_no_command, whole_nothing}
use Rattle.resp_tap.proofs.tap.Tap.command_of.Goals as goal

pub returns-in-Ok-clause-seen : goal.returns-in-Ok-clause-seen
returns-in-Ok-clause-seen c = λ taken whole front piece used spelled is.
    let (command, are) = command_read _ _ whole c.args.kept c.in-Command.words c.args.self.now.enough is c.in-Command.ensures.has_name c.in-Command.ensures.meaning in
    let kind = (kept_words_tell_the_same _ _ command.all c.in-Command.words c.args.kept.lengths.items are).kind in
    record {
      whole = command.all;
      some = command.some;
      value = whole;
      spelled = spelled;
      means = command.means;
      are_kept = are;
      numbered = search rules;
      after = c.in-Ok.ensures.counted ∙ ap (λ k. with_command k (tap_state c.args.self.now)) kind;
      takes = subst (λ r. HasSent r []) (sym c.in-Ok.ensures.same_request) taken;
    }

pub returns-in-Err-clause-seen : goal.returns-in-Err-clause-seen
returns-in-Err-clause-seen c = λ taken whole front piece used spelled is.
    let (command, are) = command_read _ _ whole c.args.kept c.in-Command.words c.args.self.now.enough is c.in-Command.ensures.has_name c.in-Command.ensures.meaning in
    let kind = (kept_words_tell_the_same _ _ command.all c.in-Command.words c.args.kept.lengths.items are).kind in
    record {
      refused = inr (
        record {
          value = whole;
          words = command.all;
          spelled = spelled;
          means = command.means;
          left_out = left_out_whole (tap_state c.args.self.now) c.in-Command.words command.all c.in-Err.cause kind c.in-Err.ensures.refusal;
        },
        refl,
      );
      place = ap place.Command (search rules);
      after = c.stop_commands.ensures.after ∙ ap with_refused_command c.in-Err.ensures.unchanged;
    }

pub returns-in-Nothing-clause-seen : goal.returns-in-Nothing-clause-seen
returns-in-Nothing-clause-seen c = λ taken whole front piece used spelled is. record {
  value = whole;
  spelled = spelled;
  means = whole_nothing c.args.self.now.requests.shown.most whole (sym (ap meaning_of is.value) ∙ sym c.in-Nothing.ensures.meaning);
  after = refl;
  takes = taken;
}

pub returns-in-NoCommand-clause-seen : goal.returns-in-NoCommand-clause-seen
returns-in-NoCommand-clause-seen c = λ taken whole front piece used spelled is. record {
  value = whole;
  spelled = spelled;
  means = whole_no_command c.args.self.now.requests.shown.most whole (sym (ap meaning_of is.value) ∙ sym c.in-NoCommand.ensures.meaning);
  numbered = search rules;
  after = c.stop_commands-in-NoCommand.ensures.after;
}
