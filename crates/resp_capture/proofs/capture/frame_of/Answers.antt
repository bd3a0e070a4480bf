use Rattle.std.proofs.Common.{rules, ◌≡◌, ◌==◌, ◌||◌, ℕ, true, refl, subst, sym}
use Rattle.resp_capture.specs.Frames.{has_time}
use Rattle.resp_capture.specs.Numbers.{number32}
use Rattle.resp_capture.proofs.FrameLemmas.{if_ok_none, on_err, only_enhanced, only_simple}
use Rattle.resp_capture.proofs.capture.frame_of.Goals as goal

pub returns-in-6-clause-none : goal.returns-in-6-clause-none
returns-in-6-clause-none c =
    let is : number32 c.args.order 0 c.args.block.now ≡ 6 = search rules in
    let timed : has_time c.args.order c.args.block.now ≡ true =
    subst (λ (kind : ℕ). (kind == 6) || (kind == 2) ≡ true) (sym is) refl in
    if_ok_none c.enhanced_of.result (only_enhanced c.args.order c.args.interfaces.now c.args.block.now timed) c.enhanced_of.ensures.none

pub returns-in-6-clause-fault : goal.returns-in-6-clause-fault
returns-in-6-clause-fault c =
    let is : number32 c.args.order 0 c.args.block.now ≡ 6 = search rules in
    let timed : has_time c.args.order c.args.block.now ≡ true =
    subst (λ (kind : ℕ). (kind == 6) || (kind == 2) ≡ true) (sym is) refl in
    on_err c.enhanced_of.result (only_enhanced c.args.order c.args.interfaces.now c.args.block.now timed) c.enhanced_of.ensures.fault

pub returns-in-2-clause-none : goal.returns-in-2-clause-none
returns-in-2-clause-none c =
    let is : number32 c.args.order 0 c.args.block.now ≡ 2 = search rules in
    let timed : has_time c.args.order c.args.block.now ≡ true =
    subst (λ (kind : ℕ). (kind == 6) || (kind == 2) ≡ true) (sym is) refl in
    if_ok_none c.enhanced_of-in-2.result (only_enhanced c.args.order c.args.interfaces.now c.args.block.now timed) c.enhanced_of-in-2.ensures.none

pub returns-in-2-clause-fault : goal.returns-in-2-clause-fault
returns-in-2-clause-fault c =
    let is : number32 c.args.order 0 c.args.block.now ≡ 2 = search rules in
    let timed : has_time c.args.order c.args.block.now ≡ true =
    subst (λ (kind : ℕ). (kind == 6) || (kind == 2) ≡ true) (sym is) refl in
    on_err c.enhanced_of-in-2.result (only_enhanced c.args.order c.args.interfaces.now c.args.block.now timed) c.enhanced_of-in-2.ensures.fault

pub returns-in-3-clause-none : goal.returns-in-3-clause-none
returns-in-3-clause-none c =
    let is : number32 c.args.order 0 c.args.block.now ≡ 3 = search rules in
    if_ok_none c.simple_of.result (only_simple c.args.order c.args.interfaces.now c.args.block.now is) c.simple_of.ensures.none

pub returns-in-3-clause-fault : goal.returns-in-3-clause-fault
returns-in-3-clause-fault c =
    let is : number32 c.args.order 0 c.args.block.now ≡ 3 = search rules in
    on_err c.simple_of.result (only_simple c.args.order c.args.interfaces.now c.args.block.now is) c.simple_of.ensures.fault
