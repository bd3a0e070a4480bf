use Rattle.std.proofs.Common.{◌≡◌, ◌+◌, ◌++◌, ◌∷◌, [], ◌∙◌, Ok, Err, refl, sym, subst, arith, append_assoc}
use Rattle.resp_cli_loop.specs.Plays.{PlaysAll, flush_events}
use Rattle.resp_print.proofs.Printing.{is_that_error}
use Rattle.resp_cli_loop.proofs.Flushed.{flush_more, flush_splits, stops_within, to_client, to_server}
use Rattle.resp_cli_loop.proofs.Played.{all_then, plays_none}
use Rattle.resp_cli_loop.proofs.play.flush.Goals as goal

pub loop-index-init : goal.loop-index-init
loop-index-init g c =
    record { plays = λ limits w shows. plays_none shows (g.W.Sink.written c.args.writer.now); none_failed = refl; going = λ going. going }

pub returns-in_err-take-clause-plays : goal.returns-in_err-take-clause-plays
returns-in_err-take-clause-plays g c = λ limits w shows.
    let line = c.args.line in
    let i = c.loop-index.index in
    let so_far = c.loop-index.invariant.plays limits w shows in
    let (rest, whole) = flush_splits line i c.args.clients c.loop-index-test.true in
    let first = flush_events line i ++ to_server line (i + 1) ∷ [] in
    rw (is_that_error c.from_residual.result _ c.from_residual.ensures.1)
    (stops_within g.L.Link.is_honest limits w first (to_client line (i + 1) ∷ [] ++ rest) (flush_events line c.args.clients) c.take.new.world _ _
    c.in_err-take.field-0.0 (whole ∙ append_assoc first (to_client line (i + 1) ∷ []) rest)
    (all_then g.L.Link.is_honest limits w (flush_events line i) (to_server line (i + 1) ∷ []) c.loop-index.world c.take.new.world _ _ _
    (Err c.in_err-take.field-0.0) so_far (c.in_err-take.ensures.plays limits so_far.played.last so_far.shows)))

pub returns-in_err-take-2-clause-plays : goal.returns-in_err-take-2-clause-plays
returns-in_err-take-2-clause-plays g c = λ limits w shows.
    let line = c.args.line in
    let i = c.loop-index.index in
    let so_far = c.loop-index.invariant.plays limits w shows in
    let (rest, whole) = flush_splits line i c.args.clients c.loop-index-test.true in
    let first = flush_events line i ++ to_server line (i + 1) ∷ [] in
    let half : PlaysAll g.L.Link.is_honest limits w first c.take.new.world (g.W.Sink.written c.args.writer.now)
    (g.W.Sink.written c.take.new.writer) =
    all_then g.L.Link.is_honest limits w (flush_events line i) (to_server line (i + 1) ∷ []) c.loop-index.world c.take.new.world _ _ _
    (Ok tt) so_far (c.in_ok-take.ensures.plays limits so_far.played.last so_far.shows) in
    rw (is_that_error c.from_residual-in_err-take-2.result _ c.from_residual-in_err-take-2.ensures.1)
    (stops_within g.L.Link.is_honest limits w (first ++ to_client line (i + 1) ∷ []) rest (flush_events line c.args.clients)
    c.take-in-loop-index.new.world _ _ c.in_err-take-2.field-0.0 whole
    (all_then g.L.Link.is_honest limits w first (to_client line (i + 1) ∷ []) c.take.new.world c.take-in-loop-index.new.world _ _ _
    (Err c.in_err-take-2.field-0.0) half (c.in_err-take-2.ensures.plays limits half.played.last half.shows)))

pub loop-index-preserved : goal.loop-index-preserved
loop-index-preserved g c = record {
  plays = λ limits w shows.
      let line = c.args.line in
      let i = c.loop-index.index in
      let so_far = c.loop-index.invariant.plays limits w shows in
      let first = flush_events line i ++ to_server line (i + 1) ∷ [] in
      let half : PlaysAll g.L.Link.is_honest limits w first c.take.new.world (g.W.Sink.written c.args.writer.now)
      (g.W.Sink.written c.take.new.writer) =
      all_then g.L.Link.is_honest limits w (flush_events line i) (to_server line (i + 1) ∷ []) c.loop-index.world c.take.new.world _ _ _
      (Ok tt) so_far (c.in_ok-take.ensures.plays limits so_far.played.last so_far.shows) in
      subst (λ es. PlaysAll g.L.Link.is_honest limits w es c.take-in-loop-index.new.world (g.W.Sink.written c.args.writer.now)
      (g.W.Sink.written c.take-in-loop-index.new.writer)) (sym (flush_more line i))
      (all_then g.L.Link.is_honest limits w first (to_client line (i + 1) ∷ []) c.take.new.world c.take-in-loop-index.new.world _ _ _
      (Ok tt) half (c.in_ok-take-2.ensures.plays limits half.played.last half.shows));
  none_failed = c.in_ok-take-2.ensures.failed ∙ c.in_ok-take.ensures.failed ∙ c.loop-index.invariant.none_failed;
  going = λ going. c.in_ok-take-2.ensures.cause (c.in_ok-take.ensures.cause (c.loop-index.invariant.going going));
}

pub returns-clause-plays : goal.returns-clause-plays
returns-clause-plays g c = λ limits w shows.
    let all : c.loop-index.index ≡ c.args.clients = omega (arith, c.loop-index-test.false, c.loop-index.auto.index-end) in
    subst (λ n. PlaysAll g.L.Link.is_honest limits w (flush_events c.args.line n) c.loop-index.world (g.W.Sink.written c.args.writer.now)
    (g.W.Sink.written c.loop-index.writer)) all (c.loop-index.invariant.plays limits w shows)

pub returns-in_err-take-clause-memory : goal.returns-in_err-take-clause-memory
returns-in_err-take-clause-memory g c = λ memory limits w shows.
    let so_far = c.loop-index.invariant.plays limits w shows in
    c.in_err-take.ensures.memory (sym (is_that_error c.from_residual.result _ c.from_residual.ensures.1) ∙ memory) limits so_far.played.last so_far.shows

pub returns-in_err-take-2-clause-memory : goal.returns-in_err-take-2-clause-memory
returns-in_err-take-2-clause-memory g c = λ memory limits w shows.
    let so_far = c.loop-index.invariant.plays limits w shows in
    let half = c.in_ok-take.ensures.plays limits so_far.played.last so_far.shows in
    c.in_err-take-2.ensures.memory (sym (is_that_error c.from_residual-in_err-take-2.result _ c.from_residual-in_err-take-2.ensures.1) ∙ memory) limits half.played.last half.shows
