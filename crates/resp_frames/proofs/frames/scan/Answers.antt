use Rattle.std.proofs.Common.{◌++◌, subst, sym, take}
use Rattle.resp_scan.specs.Kinds.{rules_of}
use Rattle.resp_scan.specs.Listening.{HearsRefusal, HearsValue, IfRefused, IfWhole}
use Rattle.resp_scan.specs.Reading.{HasRead}
use Rattle.resp_frames.proofs.frames.scan.Goals as goal

pub returns-clause-value_whole : goal.returns-clause-value_whole
returns-clause-value_whole g c = λ front given h.
    subst (λ s. IfWhole c.scan.result (λ used. HearsValue (rules_of s) c.scan.new.self (λ _. Unit {0}) (front ++ take used c.args.piece.now)))
    c.deref_mut.ensures.value
    (c.scan.ensures.value_whole tt front given (subst (λ s. HasRead s front given) (sym c.deref_mut.ensures.value) h) tt)

pub returns-clause-used_up : goal.returns-clause-used_up
returns-clause-used_up g c = λ front given h.
    c.scan.ensures.used_up tt front given (subst (λ s. HasRead s front given) (sym c.deref_mut.ensures.value) h) tt

pub returns-clause-refusal : goal.returns-clause-refusal
returns-clause-refusal g c = λ front given h.
    subst (λ s. IfRefused c.scan.result (HearsRefusal (rules_of s) (λ _. Unit {0}) front c.args.piece.now)) c.deref_mut.ensures.value
    (c.scan.ensures.refusal tt front given (subst (λ s. HasRead s front given) (sym c.deref_mut.ensures.value) h) tt)
