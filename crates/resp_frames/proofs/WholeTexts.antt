-- What is known of a piece and the bytes before it is known of them as one text.
use Rattle.std.proofs.Common.{ℕ, ◌+◌, List, [], ◌++◌, length, arith, subst, sym}
use Rattle.std.proofs.Math.Seq.{take-append-add}
use Rattle.resp_value.specs.Bounds.{Bounds}
use Rattle.resp_value.specs.Rules.{Rules}
use Rattle.resp_scan.specs.declared.event.Fault.{Fault}
use Rattle.resp_scan.specs.Reading.{IsSpelled}
use Rattle.resp_frames.specs.Commands.{IsCommand}
use Rattle.resp_frames.specs.Framing.{RejectsByte}
use Rattle.resp_frames.specs.Requests.{EndsNoRequest, IsEmptyArray}

pub rejects_in_text : (rules : Rules) (front piece : List ℕ) (fault : Fault) → RejectsByte rules front piece fault → RejectsByte rules [] (front ++ piece) fault
rejects_in_text rules front piece fault r = record {
  given = r.given;
  refused = record {
    in_piece = omega arith;
    before_end = r.refused.before_end;
    viable = r.refused.viable;
    refused = r.refused.refused;
    all_due = r.refused.all_due;
    no_value = r.refused.no_value;
  };
}

pub no_request_in_text : (rules : Rules) (limits : Bounds) (front piece : List ℕ) → EndsNoRequest rules limits front piece →
    EndsNoRequest rules limits [] (front ++ piece)
no_request_in_text rules limits front piece e =
    let same = sym (take-append-add front piece e.used) in
    record {
      used = length front + e.used;
      spelled = subst (IsSpelled rules) same e.spelled;
      other = subst (λ text. IsCommand limits text → ⊥) same e.other;
      some = subst (λ text. IsEmptyArray text → ⊥) same e.some;
    }
