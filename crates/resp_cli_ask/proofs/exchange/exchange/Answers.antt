use Rattle.std.proofs.Common.{◌++◌, ◌≢◌, [], Result, Ok, Err, OnOk, IfErr, subst}
use Rattle.resp_client.specs.Clients.{state_of}
use Rattle.resp_io.proofs.Turning.{reads_none}
use Rattle.resp_cli_ask.specs.Hearing.{StopsHearing, Tells}
use Rattle.resp_cli_ask.specs.declared.error.ExchangeError.{ExchangeError}
use Rattle.resp_cli_ask.specs.declared.error.ExchangeError.TheVariants.{Write}
use Rattle.resp_cli_ask.proofs.exchange.exchange.Goals as goal

unless_written : {X : Type 0} (r : Result X ExchangeError) (P : ExchangeError → Type 0) → IfErr r P → IfErr r (λ e. e ≢ Write → P e)
unless_written (Ok x) P h = tt
unless_written (Err e) P h = λ _. h

pub returns-in-Err-clause-told : goal.returns-in-Err-clause-told
returns-in-Err-clause-told g c =
    ([], reads_none (g.R.Source.remaining c.args.reader.now), λ front h. (tt, λ other. absurd (other c.in-Err.ensures.write_error)))

pub returns-clause-told : goal.returns-clause-told
returns-clause-told g c =
    let (came, read, told) = c.hear_until.ensures.told in
    let t = c.args.telling.now in
    let t' = c.hear_until.new.telling in
    let new = c.hear_until.new.client in
    let out = g.O.Sink.written c.args.output.now in
    let out' = g.O.Sink.written c.hear_until.new.output in
    let r = c.hear_until.result in (
      came,
      read,
      λ front h.
          let (all, stopped) = told front (c.send_all.ensures.same_reading.same_front front h) in
          subst (λ s. OnOk r (Tells t t' s new out out' (front ++ came)) ×
          IfErr r (λ e. e ≢ Write → StopsHearing t t' s new out out' (front ++ came) e)) c.in_default.ensures.sent.nothing_waits
          (all, unless_written r (StopsHearing t t' (state_of c.send_all.new.client) new out out' (front ++ came)) stopped),
    )
