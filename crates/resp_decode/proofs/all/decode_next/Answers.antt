use Rattle.std.proofs.Common.{rules, ◌≡◌, None, [], length, ap, ◌∙◌}
use Rattle.resp_value.specs.declared.cause.Cause.TheVariants as cause
use Rattle.resp_scan.specs.declared.event.Fault.{Fault}
use Rattle.resp_decode.proofs.ReadingInputs.{ends_inside, lacks_room, refuses_rest}
use Rattle.resp_decode.proofs.all.decode_next.Goals as goal

pub returns-in-Err-clause-refusal : goal.returns-in-Err-clause-refusal
returns-in-Err-clause-refusal c = refuses_rest _ _ _ (c.in-Err.ensures.refusal [] c.requires.between)

pub returns-in_default-clause-refusal : goal.returns-in_default-clause-refusal
returns-in_default-clause-refusal c =
    let bytes = c.args.bytes.now in
    let fault = c.fault_at.result in
    let none : c.in-Ok.fed.value ≡ None = search rules in
    let names : fault.cause ≡ cause.Truncated = ap (λ f. let z : Fault = f in z.cause) c.fault_at.ensures in
    let place : fault.at ≡ length bytes = ap (λ f. let z : Fault = f in z.at) c.fault_at.ensures ∙ search rules in
    ends_inside _ c.feed.new.self bytes c.in-Ok.fed.used fault (c.in-Ok.ensures.used_up [] c.requires.between none) c.requires.not_empty names place

pub returns-then-is_err-clause-refusal : goal.returns-then-is_err-clause-refusal
returns-then-is_err-clause-refusal c =
    let fault = c.fault_at-then-is_err.result in
    let names : fault.cause ≡ cause.OutOfMemory = ap (λ f. let z : Fault = f in z.cause) c.fault_at-then-is_err.ensures in
    let place : fault.at ≡ c.in-Ok.fed.used = ap (λ f. let z : Fault = f in z.at) c.fault_at-then-is_err.ensures in
    lacks_room _ c.feed.new.self c.in-Some.value c.args.bytes.now c.in-Ok.fed.used fault
    (c.in-Ok.ensures.value_whole [] c.requires.between c.in-Some.value c.in-Some.is) c.in-Ok.ensures.within_piece names place

pub returns-clause-read : goal.returns-clause-read
returns-clause-read c = (
  c.in-Some.value,
  c.in-Ok.ensures.value_whole [] c.requires.between c.in-Some.value c.in-Some.is,
  search rules,
)
