use Rattle.std.proofs.Common.{rules, arith, ◌≡◌, ◌<◌, ◌==◌, ◌∙◌, ◌+◌, ◌∷◌, false, true, length, drop, slice_index, ap, sym, subst}
use Rattle.std.proofs.lemmas.List.{drop-drop, length-drop}
use Rattle.resp_commands.specs.Globs.{Matches, MatchesPieces, fits, piece_at, star, pieces_of}
use Rattle.resp_commands.proofs.Fitting.{fit_back, fit_forth, no_fit, no_text, over_back, over_not, star_front}
use Rattle.resp_commands.proofs.glob.fit_to_star.Goals as goal

pub returns-then-later-eq42 : goal.returns-then-later-eq42
returns-then-later-eq42 c =
    let later = c.loop-later.later.now in
    let rest = c.loop-later.rest.now in
    let inv = c.loop-later.invariant in
    let some : 0 < length later = search rules in
    let front : pieces_of later ≡ star ∷ pieces_of c.after_first.result.now =
    star_front later some c.if-later-eq42.true ∙ ap (λ t. star ∷ pieces_of t) (sym c.after_first.ensures) in
    record {
      count = inv.count;
      there = inv.there;
      back = λ m. inv.back (subst (λ ps. MatchesPieces ps rest) (sym front) m);
      forth = λ other m. subst (λ ps. MatchesPieces ps (drop inv.count other)) front (inv.forth other m);
      shorter = omega (arith, ap length c.after_first.ensures, length-drop 1 later);
      no_longer = inv.no_longer;
    }

pub returns-then-is_empty : goal.returns-then-is_empty
returns-then-is_empty c =
    let later = c.loop-later.later.now in
    let rest = c.loop-later.rest.now in
    let inv = c.loop-later.invariant in
    let some : 0 < length later = search rules in
    let none : length rest ≡ 0 = search rules in
    let no_star : (slice_index later 0 == 42) ≡ false = search rules in
    λ m. no_text later rest some none no_star (subst (λ t. Matches later t) (sym inv.there) (inv.forth c.args.text.now m))

pub returns-then-not-tried : goal.returns-then-not-tried
returns-then-not-tried c =
    let later = c.loop-later.later.now in
    let rest = c.loop-later.rest.now in
    let inv = c.loop-later.invariant in
    let some : 0 < length later = search rules in
    let more : 0 < length rest = search rules in
    let no_star : (slice_index later 0 == 42) ≡ false = search rules in
    let misfit : fits (slice_index rest 0) (piece_at later) ≡ false = sym c.piece-tried.ensures.fits ∙ c.if-not-tried.true in
    λ m. no_fit later rest some more no_star misfit (subst (λ t. Matches later t) (sym inv.there) (inv.forth c.args.text.now m))

pub loop-later-preserved : goal.loop-later-preserved
loop-later-preserved c =
    let later = c.loop-later.later.now in
    let rest = c.loop-later.rest.now in
    let inv = c.loop-later.invariant in
    let some : 0 < length later = search rules in
    let more : 0 < length rest = search rules in
    let fit : fits (slice_index rest 0) (piece_at later) ≡ true = sym c.piece-tried.ensures.fits ∙ c.if-not-tried.false in
    record {
      count = inv.count + 1;
      there = c.after_first-rest.ensures ∙ ap (λ t. drop 1 t) inv.there ∙ drop-drop 1 inv.count c.args.text.now;
      back = λ m. inv.back (fit_back later rest some more fit
          (subst (λ t. Matches t (drop 1 rest)) c.piece-tried.ensures.rest (subst (λ t. Matches c.piece-tried.result.rest.now t) c.after_first-rest.ensures m)));
      forth = λ other m. subst (λ t. Matches c.piece-tried.result.rest.now t) (drop-drop 1 inv.count other)
          (subst (λ t. Matches t (drop 1 (drop inv.count other))) (sym c.piece-tried.ensures.rest)
          (fit_forth later (slice_index rest 0) (drop inv.count other) some fit (inv.forth other m)));
      shorter = omega (arith, c.piece-tried.ensures.shorter);
      no_longer = omega (arith, ap length c.after_first-rest.ensures, length-drop 1 rest);
    }

pub returns-then-is_empty-2 : goal.returns-then-is_empty-2
returns-then-is_empty-2 c =
    let none : length c.loop-later.later.now ≡ 0 = search rules in
    let over : length c.loop-later.rest.now ≡ 0 = search rules in
    c.loop-later.invariant.back (over_back c.loop-later.later.now c.loop-later.rest.now none over)

pub returns-else-is_empty-2 : goal.returns-else-is_empty-2
returns-else-is_empty-2 c =
    let none : length c.loop-later.later.now ≡ 0 = search rules in
    let more : 0 < length c.loop-later.rest.now = search rules in
    λ m. over_not c.loop-later.later.now c.loop-later.rest.now none more
    (subst (λ t. Matches c.loop-later.later.now t) (sym c.loop-later.invariant.there) (c.loop-later.invariant.forth c.args.text.now m))
