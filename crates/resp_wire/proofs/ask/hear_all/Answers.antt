use Rattle.std.specs.List.{concat}
use Rattle.std.proofs.Common.{rules, refl, Bool, true, false, ℕ, List, [], ◌≡◌, ◌∷◌, ◌++◌, take, subst, sym, length}
use Rattle.resp_client.specs.Clients.{state_of}
use Rattle.resp_client.specs.Hearing.{WhereTaken}
use Rattle.resp_wire.specs.Hearing.{HearsAll, WaitsBefore}
use Rattle.resp_wire.specs.Stops.{StopsListening, is_of_last_read}
use Rattle.resp_wire.proofs.Listening.{fails_reading, hears_no_bytes, hears_piece, no_last_read, stops_piece, waits_for_none, waits_for_piece}
use Rattle.resp_io.specs.Pieces.{ReadsNothing, ReadsPieces}
use Rattle.resp_io.specs.Turns.{has_failed}
use Rattle.resp_io.specs.declared.halt.Halt.TheVariants.{Failed, NoTurn}
use Rattle.resp_io.proofs.Pieces.{all_read, concat_more, gives, only_pieces}
use Rattle.resp_io.proofs.Turning.{end_after, spends_more, spends_nothing}
use Rattle.resp_wire.proofs.ask.hear_all.Goals as goal
use Rattle.resp_wire.proofs.ask.hear_all.Goals.{After-read_some}

pub loop-reader-init : goal.loop-reader-init
loop-reader-init g c = record {
  heard = (
    [],
    refl,
    λ front h. (
      hears_no_bytes c.args.client.now c.args.heard.now front h,
      waits_for_none (state_of c.args.client.now) c.args.heard.now front,
    ),
  );
  spends = spends_nothing (g.R.Source.calls c.args.reader.now) c.args.turns.now;
  none_failed = refl;
}

pub loop-reader-preserved : goal.loop-reader-preserved
loop-reader-preserved g c =
    let i = c.loop-reader.invariant in
    let (pieces, given, heard) = i.heard in
    let into = c.read_some.new.into in
    let n = c.in-Ok.count in
    let s = state_of c.args.client.now in
    record {
      heard = (
        pieces ++ take n into ∷ [],
        gives (length c.args.buffer.now) _ g.R.Source.remaining g.R.Source.calls g.R.Source.failures c.args.reader.now c.loop-reader.reader
            c.read_some.new.reader pieces (take n into) (search rules) given (c.in-Ok.ensures.piece (search rules)),
        λ front h.
            let (so_far, each) = heard front h in (
              subst (λ z. HearsAll s c.hear_piece.new.client c.args.heard.now c.hear_piece.new.heard (front ++ z)) (sym (concat_more pieces (take n into)))
                  (hears_piece c.readings_go_on.ensures c.hearing_goes_on.ensures s c.loop-reader.client c.hear_piece.new.client c.args.heard.now
                  c.loop-reader.heard c.hear_piece.new.heard front (concat pieces) (take n into) so_far
                  (subst (λ z. HearsAll (state_of c.loop-reader.client) c.hear_piece.new.client c.loop-reader.heard c.hear_piece.new.heard (so_far.rest ++ z))
                  (search rules) (c.in_default.ensures.heard so_far.rest so_far.takes))),
              waits_for_piece s c.loop-reader.client c.args.heard.now c.loop-reader.heard front pieces (take n into) so_far (search rules) each,
            ),
      );
      spends = spends_more (g.R.Source.calls c.args.reader.now) (g.R.Source.calls c.loop-reader.reader) (g.R.Source.calls c.read_some.new.reader) c.args.turns.now
          c.loop-reader.turns c.read_some.new.turns i.spends c.read_some.ensures.turns;
      none_failed = search rules;
    }

-- nothing was read after the pieces
no_more_read : (g : _) (c : After-read_some g) (is_over : Bool) →
    ReadsNothing g.R.Source.remaining g.R.Source.calls c.loop-reader.reader c.read_some.new.reader is_over →
    (pieces : List (List ℕ)) × ReadsPieces (length c.args.buffer.now) g.R.Source.remaining g.R.Source.calls
    g.R.Source.failures c.args.reader.now c.read_some.new.reader pieces is_over ×
    WhereTaken c.args.client.now (λ front. Unit {0} × HearsAll (state_of c.args.client.now) c.loop-reader.client
    c.args.heard.now c.loop-reader.heard (front ++ concat pieces) × WaitsBefore (state_of c.args.client.now) c.args.heard.now front pieces)
no_more_read g c is_over over =
    let (pieces, given, heard) = c.loop-reader.invariant.heard in (
      pieces,
      record { between = c.loop-reader.reader; given = given; over = over },
      λ front h. let (so_far, each) = heard front h in (tt, so_far, each),
    )

pub returns-in-Ok-eq0-clause-heard : goal.returns-in-Ok-eq0-clause-heard
returns-in-Ok-eq0-clause-heard g c =
    no_more_read g (goal.at.returns-in-Ok-eq0-clause-heard g c).After-read_some true (c.in-Ok-eq0.ensures.empty (search rules))

pub returns-in-Err-Failed-clause-heard : goal.returns-in-Err-Failed-clause-heard
returns-in-Err-Failed-clause-heard g c = no_more_read g (goal.at.returns-in-Err-Failed-clause-heard g c).After-read_some true
    (subst (λ h. ReadsNothing g.R.Source.remaining g.R.Source.calls c.loop-reader.reader c.read_some.new.reader (has_failed h)) {y = Failed}
    (search rules) c.in-Err-Failed.ensures.unread)

pub returns-in-Err-NoTurn-clause-heard : goal.returns-in-Err-NoTurn-clause-heard
returns-in-Err-NoTurn-clause-heard g c = no_more_read g (goal.at.returns-in-Err-NoTurn-clause-heard g c).After-read_some false
    (subst (λ h. ReadsNothing g.R.Source.remaining g.R.Source.calls c.loop-reader.reader c.read_some.new.reader (has_failed h)) {y = NoTurn}
    (search rules) c.in-Err-NoTurn.ensures.unread)

pub returns-in-Ok-eq0-clause-turns : goal.returns-in-Ok-eq0-clause-turns
returns-in-Ok-eq0-clause-turns g c = spends_more _ _ _ _ _ _ c.loop-reader.invariant.spends c.read_some.ensures.turns

pub returns-in-Err-Failed-clause-turns : goal.returns-in-Err-Failed-clause-turns
returns-in-Err-Failed-clause-turns g c = spends_more _ _ _ _ _ _ c.loop-reader.invariant.spends c.read_some.ensures.turns

pub returns-in-Err-NoTurn-clause-turns : goal.returns-in-Err-NoTurn-clause-turns
returns-in-Err-NoTurn-clause-turns g c = spends_more _ _ _ _ _ _ c.loop-reader.invariant.spends c.read_some.ensures.turns

pub returns-in-Err-clause-turns : goal.returns-in-Err-clause-turns
returns-in-Err-clause-turns g c = spends_more _ _ _ _ _ _ c.loop-reader.invariant.spends c.read_some.ensures.turns

pub returns-in-Err-clause-heard : goal.returns-in-Err-clause-heard
returns-in-Err-clause-heard g c =
    let (pieces, given, heard) = c.loop-reader.invariant.heard in
    let into = c.read_some.new.into in
    let n = c.in-Ok.count in
    let s = state_of c.args.client.now in
    let error = c.in-Err.error in
    let given_all = gives (length c.args.buffer.now) _ g.R.Source.remaining g.R.Source.calls g.R.Source.failures c.args.reader.now c.loop-reader.reader
    c.read_some.new.reader pieces (take n into) (search rules) given (c.in-Ok.ensures.piece (search rules)) in (
      pieces ++ take n into ∷ [],
      only_pieces (length c.args.buffer.now) g.R.Source.remaining g.R.Source.calls g.R.Source.failures c.args.reader.now c.read_some.new.reader (pieces ++ take n into ∷ [])
          (is_of_last_read error) given_all (no_last_read error c.in-Err.ensures.fault_or_memory),
      λ front h.
          let (so_far, each) = heard front h in (
            tt,
            subst (λ z. StopsListening s c.hear_piece.new.client c.args.heard.now c.hear_piece.new.heard (front ++ z) error)
                (sym (concat_more pieces (take n into)))
                (stops_piece c.readings_go_on.ensures c.hearing_goes_on.ensures s c.loop-reader.client c.hear_piece.new.client c.args.heard.now c.loop-reader.heard c.hear_piece.new.heard
                front (concat pieces) (take n into) error so_far
                (subst (λ z. StopsListening (state_of c.loop-reader.client) c.hear_piece.new.client c.loop-reader.heard c.hear_piece.new.heard (so_far.rest ++ z) error)
                (search rules) (c.in-Err.ensures.refusal so_far.rest so_far.takes))),
            waits_for_piece s c.loop-reader.client c.args.heard.now c.loop-reader.heard front pieces (take n into) so_far (search rules) each,
          ),
    )

pub returns-in-Err-clause-refusal : goal.returns-in-Err-clause-refusal
returns-in-Err-clause-refusal g c = fails_reading (g.R.Source.failures c.args.reader.now) (g.R.Source.failures c.read_some.new.reader)
    (g.R.Source.remaining c.args.reader.now) (g.R.Source.remaining c.read_some.new.reader) (state_of c.hear_piece.new.client)
    c.in-Err.error c.in-Err.ensures.fault_or_memory

pub returns-clause-heard : goal.returns-clause-heard
returns-clause-heard g c =
    let (pieces, given, heard) = c.loop-reader.invariant.heard in (
      pieces,
      only_pieces (length c.args.buffer.now) g.R.Source.remaining g.R.Source.calls g.R.Source.failures c.args.reader.now c.loop-reader.reader pieces false given refl,
      λ front h. let (so_far, each) = heard front h in (so_far, tt, each),
    )

pub returns-in-Ok-eq0-clause-refusal : goal.returns-in-Ok-eq0-clause-refusal
returns-in-Ok-eq0-clause-refusal g c =
    let (pieces, given, heard) = c.loop-reader.invariant.heard in
    let before = g.R.Source.remaining c.loop-reader.reader in
    let after = g.R.Source.remaining c.read_some.new.reader in (
      end_after (g.R.Source.remaining c.args.reader.now) before after (concat pieces)
          (all_read (length c.args.buffer.now) g.R.Source.remaining g.R.Source.calls g.R.Source.failures c.args.reader.now c.loop-reader.reader pieces given)
          (c.in-Ok-eq0.ensures.end (search rules) (search rules)),
      search rules,
    )
