use Rattle.std.proofs.Common.{◌≡◌, ◌∙◌, Bool, false, sym, true}
use Rattle.std.specs.Prelude.{IsTrue}
use Rattle.resp_capture.specs.Headers.{IsFragment}
use Rattle.resp_capture.proofs.HeaderLemmas.{no_fragment, no_segment, no_segment_in, no_tcp_in_fragment}
use Rattle.resp_capture.proofs.packet.read_packet.Goals as goal

not_both : (b : Bool) → b ≡ false → IsTrue b → ⊥
not_both b is_false is_true = let wrong : ◌≡◌ {A = Bool} false true = sym is_false ∙ is_true in cc

pub returns-then-is_fragment-clause-none : goal.returns-then-is_fragment-clause-none
returns-then-is_fragment-clause-none c = no_segment c.args.link c.args.frame.now c.in-Some.packet.now c.in-Some.ensures.some
    (no_tcp_in_fragment c.in-Some.packet.now (c.is_fragment.ensures.0 c.if-is_fragment.true))

pub returns-in-Some-segment_of-clause-segment : goal.returns-in-Some-segment_of-clause-segment
returns-in-Some-segment_of-clause-segment c = record {
  packet = c.in-Some.packet.now;
  carries = c.in-Some.ensures.some;
  from = c.in-Some-read_tcp.carried.from;
  to = c.in-Some-read_tcp.carried.to;
  bytes = c.in-Some-read_tcp.carried.bytes.now;
  tcp = c.in-Some-read_tcp.ensures.some;
  segment_is = c.in-Some-segment_of.ensures.some;
}

pub returns-in-None-segment_of-clause-none : goal.returns-in-None-segment_of-clause-none
returns-in-None-segment_of-clause-none c = no_segment_in c.args.link c.args.frame.now c.in-Some.packet.now c.in-Some-read_tcp.carried.from
    c.in-Some-read_tcp.carried.to c.in-Some-read_tcp.carried.bytes.now c.in-Some.ensures.some c.in-Some-read_tcp.ensures.some
    c.in-None-segment_of.ensures.none

pub returns-in-None-clause-none : goal.returns-in-None-clause-none
returns-in-None-clause-none c = no_segment c.args.link c.args.frame.now c.in-Some.packet.now c.in-Some.ensures.some c.in-None.ensures.none

pub returns-in-Some-segment_of-clause-no_fragment : goal.returns-in-Some-segment_of-clause-no_fragment
returns-in-Some-segment_of-clause-no_fragment c = λ has.
    let other : IsFragment c.in-Some.packet.now → ⊥ = λ is. not_both c.is_fragment.result c.if-is_fragment.false (c.is_fragment.ensures.1 is) in
    absurd (no_fragment c.args.link c.args.frame.now c.in-Some.packet.now c.in-Some.ensures.some other has)

pub returns-in-None-segment_of-clause-no_fragment : goal.returns-in-None-segment_of-clause-no_fragment
returns-in-None-segment_of-clause-no_fragment c = λ has.
    let other : IsFragment c.in-Some.packet.now → ⊥ = λ is. not_both c.is_fragment.result c.if-is_fragment.false (c.is_fragment.ensures.1 is) in
    absurd (no_fragment c.args.link c.args.frame.now c.in-Some.packet.now c.in-Some.ensures.some other has)

pub returns-in-None-clause-no_fragment : goal.returns-in-None-clause-no_fragment
returns-in-None-clause-no_fragment c = λ has.
    let other : IsFragment c.in-Some.packet.now → ⊥ = λ is. not_both c.is_fragment.result c.if-is_fragment.false (c.is_fragment.ensures.1 is) in
    absurd (no_fragment c.args.link c.args.frame.now c.in-Some.packet.now c.in-Some.ensures.some other has)
