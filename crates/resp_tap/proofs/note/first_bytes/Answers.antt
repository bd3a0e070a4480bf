use Rattle.std.proofs.Common.{rules, arith, ◌≡◌, ◌∙◌, ◌⊎◌, inl, inr, ℕ, ◌<◌, List, Some, false, ap, length, subst}
use Rattle.std.specs.Result.{is_err}
use Rattle.resp_tap.specs.Noted.{shown_words}
use Rattle.resp_tap.specs.Parts.{AreKeptOf}
use Rattle.resp_tap.specs.Texts.{words_text}
use Rattle.resp_tap.proofs.NoteLemmas.{Begun, begun, kept_front, kept_part, kept_whole}
use Rattle.resp_tap.proofs.note.first_bytes.Goals.{else-is_err-via-then-is_err+else-text-room, else-is_err-via-else-is_err}
use Rattle.resp_tap.proofs.note.first_bytes.Goals as goal

-- the sink holds the first bytes of the text of the whole words
started : (c : goal.After-drop-sink-inside-2) (whole : List (List ℕ)) →
    AreKeptOf c.args.options.shown.most c.args.options.kept.most whole c.args.words.now c.args.lengths.now →
    Begun c.bytes-text.result.now (shown_words c.args.options whole) (is_err c.write_words-written.result)
started c whole are =
    let secrets = c.secrets_for-secrets.ensures whole c.args.lengths.now are in
    subst (λ text. Begun c.bytes-text.result.now text (is_err c.write_words-written.result)) (ap (words_text c.args.options.shown.most) secrets)
    (begun c.write_words-written.result (Some c.in_ok-sink.sink.held) (Some c.write_words-written.new.writer.held) c.bytes-text.result.now _
    c.in_ok-sink.sink.failures c.write_words-written.new.writer.failures (c.write_words-written.ensures whole are) (search rules) (search rules))

-- it holds all of the text, or more bytes than there is room for
either : (c : goal.After-drop-sink-inside-2) →
    (is_err c.write_words-written.result ≡ false) ⊎ (c.args.room < length c.bytes-text.result.now)
either c = elim c.else-is_err.branch [
  | else-is_err-via-then-is_err+else-text-room w ↦ inr (search (rules, arith))
  | else-is_err-via-else-is_err w ↦ inl (search rules)
]

pub returns-clause-bytes : goal.returns-clause-bytes
returns-clause-bytes c = λ whole are.
    c.in_ok-from_slice.ensures.items ∙ kept_front c.args.room c.min.result _ _ _ (started c whole are) (either c) (search rules)

pub returns-clause-whole : goal.returns-clause-whole
returns-clause-whole c = λ whole are small.
    kept_whole c.args.room _ _ _ (started c whole are) (either c) (grind (arith, small))

pub returns-clause-part : goal.returns-clause-part
returns-clause-part c = λ whole are large some. kept_part c.args.room _ _ _ (started c whole are) (grind (arith, large))
