use Rattle.std.proofs.Common.{rules, arith, ◌≡◌, ◌<◌, ◌==◌, ◌∙◌, false, true, length, drop, slice_index, ap, sym}
use Rattle.std.specs.Prelude.{◌||◌}
use Rattle.resp_commands.specs.Globs.{class_length_after, is_in_any, members_after}
use Rattle.resp_commands.proofs.Pieces.{class_end, class_ended, class_fits_on, class_rest_on, members_end, members_none}
use Rattle.resp_commands.proofs.glob.members.Goals as goal
use Rattle.resp_commands.proofs.glob.members.Goals.{then-fits, else-fits}

pub returns-then-rest-eq93-clause-fits : goal.returns-then-rest-eq93-clause-fits
returns-then-rest-eq93-clause-fits c =
    let some : 0 < length c.loop-rest.rest.now = search rules in
    let end : (slice_index c.loop-rest.rest.now 0 == 93) ≡ true = search rules in
    class_ended c.args.byte c.loop-rest.fits c.args.text.now c.loop-rest.rest.now (members_end c.loop-rest.rest.now some end)
    c.loop-rest.invariant.fits

pub returns-then-rest-eq93-clause-rest : goal.returns-then-rest-eq93-clause-rest
returns-then-rest-eq93-clause-rest c =
    let some : 0 < length c.loop-rest.rest.now = search rules in
    let end : (slice_index c.loop-rest.rest.now 0 == 93) ≡ true = search rules in
    c.after_first.ensures ∙ ap (λ n. drop n c.loop-rest.rest.now) (sym (class_end c.loop-rest.rest.now some end)) ∙ sym c.loop-rest.invariant.rest

pub loop-rest-preserved : goal.loop-rest-preserved
loop-rest-preserved c =
    let rest = c.loop-rest.rest.now in
    let next = c.member-tried.result.rest.now in
    let some : 0 < length rest = search rules in
    let no_end : (slice_index rest 0 == 93) ≡ false = search rules in
    let now : c.if-fits.fits ≡ (c.loop-rest.fits || c.member-tried.result.fits) =
    elim c.if-fits.branch [
      | then-fits w ↦ grind (arith, w.fits-is, w.if-fits)
      | else-fits w ↦ grind (arith, w.fits-is, w.if-fits)
    ] in
    record {
      fits = class_fits_on c.args.byte c.loop-rest.fits c.member-tried.result.fits c.args.text.now rest some no_end c.member-tried.ensures.fits
          c.loop-rest.invariant.fits ∙ ap (λ t. (c.loop-rest.fits || c.member-tried.result.fits) || is_in_any c.args.byte (members_after 0 t))
          (sym c.member-tried.ensures.rest) ∙ ap (λ b. b || is_in_any c.args.byte (members_after 0 next)) (sym now);
      rest = c.loop-rest.invariant.rest ∙ class_rest_on rest some no_end c.member-tried.ensures.within ∙
          ap (λ t. drop (class_length_after 0 t) t) (sym c.member-tried.ensures.rest);
    }

pub returns-clause-fits : goal.returns-clause-fits
returns-clause-fits c =
    let none : length c.loop-rest.rest.now ≡ 0 = search rules in
    class_ended c.args.byte c.loop-rest.fits c.args.text.now c.loop-rest.rest.now (members_none c.loop-rest.rest.now none)
    c.loop-rest.invariant.fits
