use Rattle.std.proofs.Common.{rules, ◌≡◌, ◌∙◌, ◌+◌, ◌<◌, ℕ, List, [], ◌∷◌, ◌++◌, Ok, ap, append-nil, drop, get_or, length, refl, subst, sym}
use Rattle.std.proofs.lemmas.List.{drop_all, drop_more}
use Rattle.resp_print.proofs.WrittenLemmas.{Appends-none, writes_next, writes_part}
use Rattle.resp_print.specs.Written.{WritesText}
use Rattle.resp_io.specs.declared.device.DeviceFault.{DeviceFault}
use Rattle.resp_tap.specs.Segments.{segment_text, segments_text}
use Rattle.resp_tap.specs.declared.segment.Segment.{Segment}
use Rattle.resp_tap.proofs.segment.write_segments.Goals as goal

first_segment : (segment : Segment) (more : List Segment) →
    segment_text segment ++ segments_text more ≡ segments_text (segment ∷ more)
first_segment segment [] = append-nil (segment_text segment)
first_segment segment (next ∷ more) = refl

-- the text of the segment at this index, and that of all after it
next_segment : (all : List Segment) (i : ℕ) (d : Segment) → i < length all →
    segment_text (get_or all i d) ++ segments_text (drop (i + 1) all) ≡ segments_text (drop i all)
next_segment all i d below =
    first_segment (get_or all i d) (drop (i + 1) all) ∙ ap segments_text (sym (drop_more all i d below))

pub returns-in_err-write_segment : goal.returns-in_err-write_segment
returns-in_err-write_segment g c =
    let next = next_segment c.args.segments.now c.loop-segment.segment-index _ (search rules) in
    c.loop-segment.invariant c.from_residual.result _ _ (subst (WritesText _ _ _ _ _) next
    (writes_part _ _ _ _ _ _ _ c.from_residual.ensures.0 c.in_err-write_segment.ensures))

pub loop-segment-preserved : goal.loop-segment-preserved
loop-segment-preserved g c = λ r after failures written.
    let next = next_segment c.args.segments.now c.loop-segment.segment-index _ (search rules) in
    c.loop-segment.invariant r after failures (subst (WritesText _ _ _ _ r) next
    (writes_next _ _ _ _ _ _ _ _ _ c.in_ok-write_segment.ensures written))

pub returns : goal.returns
returns g c =
    let none = ap segments_text (sym (drop_all c.loop-segment.segment-index c.args.segments.now (search rules))) in
    c.loop-segment.invariant (Ok (tt {0})) _ _
    (subst (WritesText {E = DeviceFault} _ _ _ _ (Ok (tt {0}))) none (Appends-none _, refl))
