use Rattle.std.proofs.Common.{rules, ◌≡◌, ◌∷◌, length, subst, sym}
use Rattle.resp_commands.specs.Globs.{MatchesPieces, pieces_of, star}
use Rattle.resp_commands.proofs.Fitting.{next_back, next_forth, star_back, star_empty, star_forth, star_whole}
use Rattle.resp_commands.proofs.glob.matches.Goals as goal

pub returns-in-Whole-fit_to_star : goal.returns-in-Whole-fit_to_star
returns-in-Whole-fit_to_star c =
    c.loop-next.invariant.back (star_whole (pieces_of c.loop-next.later.now) c.loop-next.rest.now c.in-Whole-fit_to_star.ensures)

pub loop-next-preserved-in-ToStar-fit_to_star : goal.loop-next-preserved-in-ToStar-fit_to_star
loop-next-preserved-in-ToStar-fit_to_star c =
    let later = c.loop-next.later.now in
    let rest = c.loop-next.rest.now in
    let next = c.in-ToStar-fit_to_star.next.now in
    let shorter = c.in-ToStar-fit_to_star.shorter.now in
    let reaches = c.in-ToStar-fit_to_star.ensures in
    record {
      back = λ m. c.loop-next.invariant.back (next_back later rest next shorter reaches m);
      forth = λ m. next_forth later rest next shorter reaches (c.loop-next.invariant.forth m);
    }

pub returns-in-Not-fit_to_star : goal.returns-in-Not-fit_to_star
returns-in-Not-fit_to_star c =
    let none : length c.loop-next.rest.now ≡ 0 = search rules in
    λ m. star_empty (pieces_of c.loop-next.later.now) c.loop-next.rest.now none c.in-Not-fit_to_star.ensures (c.loop-next.invariant.forth m)

pub loop-next-preserved : goal.loop-next-preserved
loop-next-preserved c =
    let pieces = pieces_of c.loop-next.later.now in
    let rest = c.loop-next.rest.now in
    let after = c.after_first-rest.ensures in
    record {
      back = λ m. c.loop-next.invariant.back (star_back pieces rest (subst (λ t. MatchesPieces (star ∷ pieces) t) after m));
      forth = λ m. subst (λ t. MatchesPieces (star ∷ pieces) t) (sym after)
          (star_forth pieces rest c.in-Not-2.ensures (c.loop-next.invariant.forth m));
    }
