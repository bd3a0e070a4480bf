use Rattle.std.proofs.Common.{sym}
use Rattle.clap.specs.Words.{found_of, rows_of}
use Rattle.resp_value.specs.Bounds.{Bounds}
use Rattle.resp_cli_args.specs.CommandWords.{HasLimits}
use Rattle.resp_cli_args.proofs.AskingLemmas.{if_none}
use Rattle.resp_cli_args.proofs.SizeLemmas.{has_limits, is_right, made_limits, of_value}
use Rattle.resp_cli_args.proofs.options.limits_of.Goals as goal

pub returns-in_err-depth-clause-none : goal.returns-in_err-depth-clause-none
returns-in_err-depth-clause-none c =
    let none : (limits : Bounds) → HasLimits (rows_of (found_of c.args.matches.now)) limits → ⊥ =
    λ limits has. c.in_err-depth.ensures.none _ has.depth in
    if_none _ _ none

pub returns-in_err-length-clause-none : goal.returns-in_err-length-clause-none
returns-in_err-length-clause-none c =
    let none : (limits : Bounds) → HasLimits (rows_of (found_of c.args.matches.now)) limits → ⊥ =
    λ limits has. c.in_err-length.ensures.none _ has.length in
    if_none _ _ none

pub returns-in_err-total-clause-none : goal.returns-in_err-total-clause-none
returns-in_err-total-clause-none c =
    let none : (limits : Bounds) → HasLimits (rows_of (found_of c.args.matches.now)) limits → ⊥ =
    λ limits has. c.in_err-total.ensures.none _ has.total in
    if_none _ _ none

pub returns-in_err-items-clause-none : goal.returns-in_err-items-clause-none
returns-in_err-items-clause-none c =
    let none : (limits : Bounds) → HasLimits (rows_of (found_of c.args.matches.now)) limits → ⊥ =
    λ limits has. c.in_err-items.ensures.none _ has.items in
    if_none _ _ none

pub returns-clause-some : goal.returns-clause-some
returns-clause-some c =
    let new_ok = sym c.in_ok-limits.ensures.value in
    let items_ok = sym c.in_ok-limits-2.ensures.value in
    let new = of_value _ c.new.result c.in_ok-limits.limits new_ok c.new.ensures.kept in
    let with_items = of_value _ c.with_items.result c.in_ok-limits-2.limits items_ok c.with_items.ensures.kept in
    has_limits (rows_of (found_of c.args.matches.now)) c.in_ok-depth.depth c.in_ok-length.length c.in_ok-total.total
    c.in_ok-items.items c.in_ok-no_streamed.no_streamed c.with_streamed.result c.in_ok-depth.ensures.some c.in_ok-length.ensures.some
    c.in_ok-total.ensures.some c.in_ok-items.ensures.some c.in_ok-no_streamed.ensures.some
    ((c.new.ensures.ok.0 (is_right c.new.result c.in_ok-limits.limits new_ok)).0)
    (c.with_items.ensures.ok.0 (is_right c.with_items.result c.in_ok-limits-2.limits items_ok))
    (made_limits _ _ _ _ _ c.in_ok-limits.limits c.in_ok-limits-2.limits _ new with_items c.with_streamed.ensures)
