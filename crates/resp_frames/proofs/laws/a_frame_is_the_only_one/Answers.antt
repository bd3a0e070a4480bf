use Rattle.std.proofs.Common.{◌∙◌, ◌++◌, ap, append_assoc, drop, refl, sym, take}
use Rattle.std.proofs.lemmas.List.{take-append-drop}
use Rattle.resp_value.specs.TreeValues.{value}
use Rattle.resp_frames.specs.Texts.{text_of, used_of}
use Rattle.resp_frames.proofs.laws.a_frame_is_the_only_one.Goals as goal

pub returns : goal.returns
returns c rules front piece frame other rest is spelled same =
    (c.no_spelling_begins_another.ensures rules rules (value spelled.tree) (value is.spelled.tree) other (text_of frame) rest (drop (used_of frame) piece)
    (record { tree = spelled.tree; spells = spelled.spells; keeps = spelled.keeps; valued = refl })
    (record { tree = is.spelled.tree; spells = is.spelled.spells; keeps = is.spelled.keeps; valued = refl })
    (sym same ∙ ap (λ t. front ++ t) (sym (take-append-drop (used_of frame) piece)) ∙
    sym (append_assoc front (take (used_of frame) piece) (drop (used_of frame) piece)) ∙
    ap (λ t. t ++ drop (used_of frame) piece) (sym is.text))).1
