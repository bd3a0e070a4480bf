use Rattle.std.proofs.Common.{◌∙◌, inl, inr, subst, sym}
use Rattle.resp_commands.specs.Keys.{AreKeys, TellsNoKeys}
use Rattle.resp_commands.specs.KeyWords.{AreKeyWords}
use Rattle.resp_commands.specs.Rows.{HasNoRow, HasRow}
use Rattle.resp_frames.specs.Framing.{frame_limits}
use Rattle.resp_frames.specs.Keys.{IsFirst, Spells}
use Rattle.resp_frames.proofs.Others.{on_none}
use Rattle.resp_frames.proofs.SameWords.{first_of}
use Rattle.resp_frames.proofs.frames.Frames.keys.Goals as goal

pub returns-in_err-command-clause-none : goal.returns-in_err-command-clause-none
returns-in_err-command-clause-none c = λ name arguments spelled.
    let here = subst (λ t. Spells (frame_limits c.args.self.now) t name arguments) (sym c.text-text.ensures) spelled in
    on_none c.from_residual.result _ (absurd (c.in_err-command.ensures.found name arguments here))

pub returns-in_err-row-clause-none : goal.returns-in_err-row-clause-none
returns-in_err-row-clause-none c = λ name arguments spelled.
    let here = subst (λ t. Spells (frame_limits c.args.self.now) t name arguments) (sym c.text-text.ensures) spelled in
    let words = c.in_ok-command.ensures.words name arguments here in
    on_none c.from_residual-in_err-row.result _ (record {
      first = c.next.result;
      is_first = subst (λ a. IsFirst a c.next.result) (c.iter.ensures ∙ words.1) (first_of c.iter.result c.next.new.self c.next.result c.next.ensures.steps);
      none = inl (subst (λ n. HasNoRow n c.next.result) words.0 c.in_err-row.ensures.unknown);
    })

pub returns-in_err-places-clause-none : goal.returns-in_err-places-clause-none
returns-in_err-places-clause-none c = λ name arguments spelled.
    let here = subst (λ t. Spells (frame_limits c.args.self.now) t name arguments) (sym c.text-text.ensures) spelled in
    let words = c.in_ok-command.ensures.words name arguments here in
    on_none c.from_residual-in_err-places.result _ (record {
      first = c.next.result;
      is_first = subst (λ a. IsFirst a c.next.result) (c.iter.ensures ∙ words.1) (first_of c.iter.result c.next.new.self c.next.result c.next.ensures.steps);
      none = inr (record {
        row = c.in_ok-row.row.now;
        has = subst (λ n. HasRow n c.next.result c.in_ok-row.row.now) words.0 c.in_ok-row.ensures.known;
        hidden = subst (TellsNoKeys c.in_ok-row.row.now.keys) (c.iter-2.ensures ∙ words.1) c.in_err-places.ensures.none;
      });
    })

pub returns-clause-keys : goal.returns-clause-keys
returns-clause-keys c = λ name arguments spelled.
    let here = subst (λ t. Spells (frame_limits c.args.self.now) t name arguments) (sym c.text-text.ensures) spelled in
    let words = c.in_ok-command.ensures.words name arguments here in
    record {
      first = c.next.result;
      is_first = subst (λ a. IsFirst a c.next.result) (c.iter.ensures ∙ words.1) (first_of c.iter.result c.next.new.self c.next.result c.next.ensures.steps);
      row = c.in_ok-row.row.now;
      has = subst (λ n. HasRow n c.next.result c.in_ok-row.row.now) words.0 c.in_ok-row.ensures.known;
      keys = subst (λ a. AreKeyWords c.in_ok-row.row.now.keys a c.key_words.result) words.1
          (c.key_words.ensures c.in_ok-row.row.now.keys
          (subst (λ a. AreKeys c.in_ok-row.row.now.keys a c.in_ok-places.places) c.iter-2.ensures c.in_ok-places.ensures.keys));
    }
