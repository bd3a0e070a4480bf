use Rattle.std.proofs.Common.{rules, refl, [], ◌≡◌, ◌++◌, take, subst, sym}
use Rattle.resp_client.specs.Clients.{state_of}
use Rattle.resp_io.specs.Pieces.{ReadsNothing}
use Rattle.resp_io.specs.Turns.{WereRead, has_failed}
use Rattle.resp_io.specs.declared.halt.Halt.TheVariants.{Failed, NoTurn}
use Rattle.resp_io.proofs.Turning.{end_after, has_read_more, has_read_same, reads_none}
use Rattle.resp_cli_ask.specs.Hearing.{StopsTelling, Tells}
use Rattle.resp_cli_ask.proofs.Receiving.{stops_piece, tells_more, tells_nothing}
use Rattle.resp_cli_ask.proofs.hear.hear_until.Goals as goal

pub loop-reader-init : goal.loop-reader-init
loop-reader-init g c = record {
  told = (
    [],
    reads_none (g.R.Source.remaining c.args.reader.now),
    λ front h. tells_nothing c.args.telling.now c.args.client.now (g.O.Sink.written c.args.output.now) front (search rules) h,
  );
  reads = refl;
  prints = refl;
}

pub loop-reader-preserved : goal.loop-reader-preserved
loop-reader-preserved g c =
    let (came, given, told) = c.loop-reader.invariant.told in
    let before = g.R.Source.remaining c.loop-reader.reader in
    let into = c.read_some.new.into in
    let n = c.in-Ok.count in
    record {
      told = (
        came ++ take n into,
        has_read_more (g.R.Source.remaining c.args.reader.now) before (g.R.Source.remaining c.read_some.new.reader) came (take n into) given
            (c.in-Ok.ensures.piece (search rules)).read,
        λ front h.
            let so_far = told front h in
            tells_more c.readings_go_on.ensures c.args.telling.now c.loop-reader.telling c.tell_piece.new.telling (state_of c.args.client.now)
            c.loop-reader.client c.tell_piece.new.client (g.O.Sink.written c.args.output.now) (g.O.Sink.written c.loop-reader.output)
            (g.O.Sink.written c.tell_piece.new.output) front came (take n into) so_far
            (subst (λ z. Tells c.loop-reader.telling c.tell_piece.new.telling (state_of c.loop-reader.client) c.tell_piece.new.client
            (g.O.Sink.written c.loop-reader.output) (g.O.Sink.written c.tell_piece.new.output) (so_far.receives.rest ++ z)) (search rules)
            (c.in_default.ensures.told so_far.receives.rest so_far.receives.takes)),
      );
      reads = search rules;
      prints = search rules;
    }

pub returns-clause-told : goal.returns-clause-told
returns-clause-told g c =
    let (came, given, told) = c.loop-reader.invariant.told in
    (came, given, λ front h. (told front h, tt))

pub returns-in-Ok-eq0-clause-told : goal.returns-in-Ok-eq0-clause-told
returns-in-Ok-eq0-clause-told g c =
    let (came, given, told) = c.loop-reader.invariant.told in
    let none : c.in-Ok-eq0.field-0 ≡ 0 = search rules in (
      came,
      has_read_same (g.R.Source.remaining c.args.reader.now) (g.R.Source.remaining c.loop-reader.reader) (g.R.Source.remaining c.read_some.new.reader) came []
          refl given (c.in-Ok-eq0.ensures.empty none).0,
      λ front h. (tt, told front h),
    )

pub returns-in-Err-Failed-clause-told : goal.returns-in-Err-Failed-clause-told
returns-in-Err-Failed-clause-told g c =
    let (came, given, told) = c.loop-reader.invariant.told in (
      came,
      has_read_same (g.R.Source.remaining c.args.reader.now) (g.R.Source.remaining c.loop-reader.reader) (g.R.Source.remaining c.read_some.new.reader) came []
          refl given
          (subst (λ h. ReadsNothing g.R.Source.remaining g.R.Source.calls c.loop-reader.reader c.read_some.new.reader (has_failed h)) {y = Failed} (search rules)
          c.in-Err-Failed.ensures.unread).0,
      λ front h. (tt, told front h),
    )

pub returns-in-Err-NoTurn-clause-told : goal.returns-in-Err-NoTurn-clause-told
returns-in-Err-NoTurn-clause-told g c =
    let (came, given, told) = c.loop-reader.invariant.told in (
      came,
      subst (λ r. WereRead (g.R.Source.remaining c.args.reader.now) (g.R.Source.remaining r) came) (sym
          (subst (λ h. ReadsNothing g.R.Source.remaining g.R.Source.calls c.loop-reader.reader c.read_some.new.reader (has_failed h)) {y = NoTurn} (search rules)
          c.in-Err-NoTurn.ensures.unread)) given,
      λ front h. (tt, told front h),
    )

pub returns-in-Err-clause-told : goal.returns-in-Err-clause-told
returns-in-Err-clause-told g c =
    let (came, given, told) = c.loop-reader.invariant.told in
    let before = g.R.Source.remaining c.loop-reader.reader in
    let into = c.read_some.new.into in
    let n = c.in-Ok.count in (
      came ++ take n into,
      has_read_more (g.R.Source.remaining c.args.reader.now) before (g.R.Source.remaining c.read_some.new.reader) came (take n into) given
          (c.in-Ok.ensures.piece (search rules)).read,
      λ front h.
          let so_far = told front h in (
            tt,
            stops_piece c.readings_go_on.ensures c.args.telling.now c.loop-reader.telling c.tell_piece.new.telling (state_of c.args.client.now)
                c.loop-reader.client c.tell_piece.new.client (g.O.Sink.written c.args.output.now) (g.O.Sink.written c.loop-reader.output)
                (g.O.Sink.written c.tell_piece.new.output) front came (take n into) c.in-Err.error so_far
                (subst (λ z. StopsTelling c.loop-reader.telling c.tell_piece.new.telling (state_of c.loop-reader.client)
                (g.O.Sink.written c.loop-reader.output) (g.O.Sink.written c.tell_piece.new.output) (so_far.receives.rest ++ z) c.in-Err.error)
                (search rules) (c.in-Err.ensures.refusal so_far.receives.rest so_far.receives.takes)),
          ),
    )

pub returns-in-Ok-eq0-clause-end : goal.returns-in-Ok-eq0-clause-end
returns-in-Ok-eq0-clause-end g c = λ _.
    let (came, given, told) = c.loop-reader.invariant.told in
    end_after (g.R.Source.remaining c.args.reader.now) (g.R.Source.remaining c.loop-reader.reader) (g.R.Source.remaining c.read_some.new.reader) came given
    (c.in-Ok-eq0.ensures.end (search rules) (search rules))
