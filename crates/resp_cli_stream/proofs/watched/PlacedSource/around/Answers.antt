use Rattle.std.proofs.Common.{◌≡◌, ◌≤◌, ◌+◌, ◌-◌, ◌++◌, ℕ, List, length, drop, take, min, ap, subst, sym, ◌∙◌, arith, length-append}
use Rattle.std.proofs.Math.Seq.{drop-append-add, drop-append_seam, take-append-add}
use Rattle.std.proofs.lemmas.List.{take_min}
use Rattle.resp_cli_stream.specs.Explained.{AreAround, last_of}
use Rattle.resp_cli_stream.proofs.watched.PlacedSource.around.Goals as goal

-- the bytes around a place among the last ones of a stream
around_in : (gone held bytes : List ℕ) (place index : ℕ) (before after : List ℕ) → bytes ≡ gone ++ held → place ≡ length gone + index →
    index ≤ length held → before ≡ last_of 16 (take index held) → after ≡ take (min 16 (length (drop index held))) (drop index held) →
    AreAround (length held) bytes place before after
around_in gone held bytes place index before after whole placed within is_before is_after =
    let size = ap (λ z. length z) whole ∙ length-append gone held in
    let start : length bytes - length held ≡ length gone = omega (arith, size) in
    let first : drop (length bytes - length held) (take place bytes) ≡ take index held =
    ap (λ k. drop k (take place bytes)) start ∙ ap (λ k. drop (length gone) (take k bytes)) placed
    ∙ ap (λ z. drop (length gone) (take (length gone + index) z)) whole ∙ ap (drop (length gone)) (take-append-add gone held index)
    ∙ drop-append_seam gone (take index held) in
    let beyond : drop place bytes ≡ drop index held = ap (λ k. drop k bytes) placed ∙ ap (drop (length gone + index)) whole ∙ drop-append-add gone held index in
    record {
      in_memory = λ a b. (
        is_before ∙ ap (last_of 16) (sym first),
        is_after ∙ take_min 16 (drop index held) ∙ ap (take 16) (sym beyond),
      );
      elsewhere = λ not. absurd (not (omega (arith, placed, size)) (omega (arith, placed, size, within)));
    }

pub returns : goal.returns
returns g c = λ bytes holds fits.
    let held = c.as_slice-held.result.now in
    let index = c.saturating_sub-index.result in
    let gone = holds.gone in
    let items : held ≡ c.args.self.now.held.items = c.as_slice-held.ensures in
    let whole : bytes ≡ gone ++ held = holds.held_last ∙ ap (λ z. gone ++ z) (sym items) in
    let size = ap (λ z. length z) whole ∙ length-append gone held in
    let first : c.saturating_sub-first.result ≡ length gone = omega (arith, c.saturating_sub-first.ensures, holds.counted fits, size) in
    let placed : c.args.place ≡ length gone + index = omega (arith, first, c.saturating_sub-index.ensures, c.if-place-first.false) in
    let after = take c.min.result c.split_at.result.1.now in
    subst (λ z. AreAround (length z) bytes c.args.place c.last.result.now after) items
    (around_in gone held bytes c.args.place index c.last.result.now after whole placed c.if-index-held.false
    (c.last.ensures ∙ ap (last_of 16) c.split_at.ensures.front)
    (ap (λ k. take k c.split_at.result.1.now) c.min.ensures ∙ ap (λ z. take (min 16 (length z)) z) c.split_at.ensures.back))
