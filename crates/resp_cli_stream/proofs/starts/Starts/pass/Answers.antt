use Rattle.std.proofs.Common.{rules, ◌≡◌, ◌++◌, ℕ, List, [], ◌+◌, length, take, refl, sym, subst, ◌∙◌, arith, append_assoc, append-nil, length-append}
use Rattle.std.proofs.lemmas.List.{length-take-le}
use Rattle.std.proofs.Math.Seq.{take-length}
use Rattle.resp_scan.specs.Kinds.{rules_of}
use Rattle.resp_scan.specs.Listening.{fault_of}
use Rattle.resp_scan.specs.Reading.{Events}
use Rattle.resp_cli_stream.specs.Begun.{BeginsAt, HavePassed}
use Rattle.resp_cli_stream.specs.Scans.{HasScanned}
use Rattle.resp_cli_stream.specs.declared.starts.Starts.{Starts}
use Rattle.resp_cli_stream.proofs.BegunLemmas.{begins_at_on, came, passed_on, passed_refused, passed_value}
use Rattle.resp_cli_stream.proofs.Rendered.{all_done, done_more, left_to_do}
use Rattle.resp_cli_stream.proofs.ValidLemmas.{stop_is_not_viable}
use Rattle.resp_cli_stream.proofs.starts.Starts.pass.Goals as goal
use Rattle.resp_cli_stream.proofs.starts.Starts.pass.Goals.{At-loop-self, In-Ok}

-- where the next value begins, with the rest of the piece
begins : (c : At-loop-self) (bytes : List ℕ) → HavePassed c.args.self.now bytes →
    BeginsAt (rules_of c.args.self.now.scanner) (bytes ++ c.args.piece.now) c.loop-self.self.values c.loop-self.self.start
begins c bytes h =
    let w = c.loop-self.invariant in
    rw (sym (left_to_do bytes w.done c.loop-self.rest.now w.split))
    (begins_at_on c.loop-self.rest.now (sym w.same_rules) refl refl (w.stands bytes h).stands)

-- what the scanner has read before the call, since no fault stands
read : (c : In-Ok) (bytes : List ℕ) (h : HavePassed c.loop-self.self bytes) → (given : Events) × HasScanned c.loop-self.self.scanner h.stands.begins.rest given
read c bytes h = came c.loop-self.self.scanner h.stands.begins.rest h.come
    (λ fault faulted. let e = (c.in-Ok.ensures.fault_is_final fault faulted).0 in absurd (cc))

pub loop-self-init : goal.loop-self-init
loop-self-init c = record {
  done = [];
  split = refl;
  stands = λ bytes h. subst (HavePassed c.args.self.now) (sym (append-nil bytes)) h;
  same_rules = refl;
  at_most = λ h. h;
}

pub returns-in-Err-clause-passed : goal.returns-in-Err-clause-passed
returns-in-Err-clause-passed c = λ bytes h is.
    let w = c.loop-self.invariant in
    let rest = c.loop-self.rest.now in
    let s = w.stands bytes h in
    let after : Starts = record { scanner = c.scan.new.self; values = c.loop-self.self.values; start = c.loop-self.self.start } in
    subst (HavePassed after) (left_to_do bytes w.done rest w.split)
    (passed_refused after rest (fault_of c.in-Err.field-0) s c.in-Err.ensures.same_rules refl refl c.in-Err.ensures.fault_is_kept
    (λ given scanned. stop_is_not_viable (rules_of c.loop-self.self.scanner) (λ (es : Events). Unit {0}) s.stands.begins.rest rest c.in-Err.field-0
    (c.in-Err.ensures.refusal tt s.stands.begins.rest given scanned.reads tt) (c.in-Err.ensures.stopped tt s.stands.begins.rest given scanned.reads tt)))

pub returns-in-Err-clause-begins : goal.returns-in-Err-clause-begins
returns-in-Err-clause-begins c = begins (goal.at.returns-in-Err-clause-begins c).At-loop-self

pub returns-then-scanned-eq0-clause-begins : goal.returns-then-scanned-eq0-clause-begins
returns-then-scanned-eq0-clause-begins c = begins (goal.at.returns-then-scanned-eq0-clause-begins c).At-loop-self

pub returns-clause-begins : goal.returns-clause-begins
returns-clause-begins c = begins (goal.at.returns-clause-begins c).At-loop-self

pub loop-self-preserved-then-scanned : goal.loop-self-preserved-then-scanned
loop-self-preserved-then-scanned c =
    let w = c.loop-self.invariant in
    let front = take c.in-Ok.scanned.used c.loop-self.rest.now in
    let after : Starts = record { scanner = c.scan.new.self; values = c.loop-self.self.values + 1; start = c.saturating_add-self.result } in
    record {
      done = w.done ++ front;
      split = done_more c.args.piece.now w.done c.loop-self.rest.now c.in-Ok.scanned.used w.split;
      stands = λ bytes h.
          let s = w.stands bytes h in
          let read = read (goal.at.loop-self-preserved-then-scanned c).In-Ok (bytes ++ w.done) s in
          let size : c.taken-taken.result ≡ length s.stands.begins.rest = c.taken-taken.ensures.length_of_front s.stands.begins.rest read.0 read.1.reads in
          let more = length-take-le c.in-Ok.scanned.used c.loop-self.rest.now c.in-Ok.ensures.within_piece in
          let whole = length-append s.stands.begins.rest front in
          subst (HavePassed after) (append_assoc bytes w.done front)
          (passed_value after front s c.in-Ok.ensures.same_rules refl
          (λ small. omega (arith, small, size, more, whole, c.saturating_add-self.ensures, c.saturating_add-size.ensures))
          (c.in-Ok.ensures.value_whole tt s.stands.begins.rest read.0 read.1.reads tt c.if-scanned.true));
      same_rules = c.in-Ok.ensures.same_rules ∙ w.same_rules;
      at_most = λ h. omega (arith, c.loop-self-test.true);
    }

pub loop-self-preserved : goal.loop-self-preserved
loop-self-preserved c =
    let w = c.loop-self.invariant in
    let rest = c.loop-self.rest.now in
    let after : Starts = record { scanner = c.scan.new.self; values = c.loop-self.self.values; start = c.loop-self.self.start } in
    record {
      done = w.done ++ take c.in-Ok.scanned.used rest;
      split = done_more c.args.piece.now w.done rest c.in-Ok.scanned.used w.split;
      stands = λ bytes h.
          let s = w.stands bytes h in
          let read = read (goal.at.loop-self-preserved c).In-Ok (bytes ++ w.done) s in
          rw (c.in-Ok.ensures.whole_piece c.if-scanned.false, take-length rest) (subst (HavePassed after) (append_assoc bytes w.done rest)
          (passed_on after rest s c.in-Ok.ensures.same_rules refl refl (c.in-Ok.ensures.used_up tt s.stands.begins.rest read.0 read.1.reads tt c.if-scanned.false)));
      same_rules = c.in-Ok.ensures.same_rules ∙ w.same_rules;
      at_most = w.at_most;
    }

pub returns-clause-passed : goal.returns-clause-passed
returns-clause-passed c = λ bytes h is.
    let w = c.loop-self.invariant in
    rw (sym (all_done w.done c.loop-self.rest.now w.split (search rules))) (w.stands bytes h)
