use Rattle.std.proofs.Common.{◌∷◌, ◌∙◌, []}
use Rattle.std.proofs.lemmas.Slice.Eq.{strip_suffix_is}
use Rattle.std.proofs.lemmas.Bool.Decides.{Decides-eqb}
use Rattle.resp_cli_stream.proofs.HintLemmas.{length_ends, length_split, line_of_length, mark_of_length, not_stripped, stripped}
use Rattle.resp_cli_stream.proofs.hint.ends_with_length.Goals as goal

pub returns-in-Some-strip_suffix : goal.returns-in-Some-strip_suffix
returns-in-Some-strip_suffix c =
    let head = c.args.head.now in
    let line = c.in-Some.line.now in
    let front = c.in-Some-strip_suffix.front.now in
    let digits = c.as_bytes-digits.result.now in
    let size = c.args.length in
    let is_line = stripped head (13 ∷ 10 ∷ []) c.strip_suffix.result c.in-Some.line
    (strip_suffix_is Decides-eqb head (13 ∷ 10 ∷ []) c.strip_suffix.result c.strip_suffix.ensures.cases) c.in-Some.is in
    let is_front = stripped line digits c.strip_suffix-in-Some.result c.in-Some-strip_suffix.front
    (strip_suffix_is Decides-eqb line digits c.strip_suffix-in-Some.result c.strip_suffix-in-Some.ensures.cases) c.in-Some-strip_suffix.is in
    let are = c.as_bytes-digits.ensures.value ∙ c.format.ensures.text in (
      λ e. record { front = front; has_mark = c.ends_with_any.ensures.0 e; whole = length_split head line front digits size is_line are is_front },
      λ w. c.ends_with_any.ensures.1 (mark_of_length head line front digits size is_line are is_front w),
    )

pub returns-in-None-strip_suffix : goal.returns-in-None-strip_suffix
returns-in-None-strip_suffix c =
    let head = c.args.head.now in
    let line = c.in-Some.line.now in
    let digits = c.as_bytes-digits.result.now in
    let is_line = stripped head (13 ∷ 10 ∷ []) c.strip_suffix.result c.in-Some.line
    (strip_suffix_is Decides-eqb head (13 ∷ 10 ∷ []) c.strip_suffix.result c.strip_suffix.ensures.cases) c.in-Some.is in
    let are = c.as_bytes-digits.ensures.value ∙ c.format.ensures.text in (
      λ e. absurd (cc),
      λ w. absurd (not_stripped line digits c.strip_suffix-in-Some.result
          (strip_suffix_is Decides-eqb line digits c.strip_suffix-in-Some.result c.strip_suffix-in-Some.ensures.cases) c.in-None-strip_suffix.is
          (w.front, line_of_length head line [] digits c.args.length is_line are w)),
    )

pub returns-in-None : goal.returns-in-None
returns-in-None c =
    let head = c.args.head.now in (
      λ e. absurd (cc),
      λ w. absurd (not_stripped head (13 ∷ 10 ∷ []) c.strip_suffix.result
          (strip_suffix_is Decides-eqb head (13 ∷ 10 ∷ []) c.strip_suffix.result c.strip_suffix.ensures.cases) c.in-None.is (length_ends head c.args.length w)),
    )
