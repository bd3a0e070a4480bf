use Rattle.std.proofs.Common.{◌≡◌, ◌++◌, ℕ, List, Result, Ok, Err, OnOk, IfErr, subst}
use Rattle.resp_value.specs.Commands.{words_of}
use Rattle.resp_session.specs.Requests as request
use Rattle.resp_session.specs.Requests.{Request}
use Rattle.resp_client.specs.Clients.{ClientState, state_of}
use Rattle.resp_client.specs.Hearing.{HasTaken, WhereTaken}
use Rattle.resp_client.specs.declared.client.Client.{Client}
use Rattle.resp_client.specs.declared.send_error.SendError.{SendError}
use Rattle.resp_io.specs.Turns.{WereRead}
use Rattle.resp_cli_ask.specs.Exchanging.{IsRefused, sent_state}
use Rattle.resp_cli_ask.specs.Hearing.{IsOfConnection, Tells}
use Rattle.resp_cli_ask.specs.declared.error.ExchangeError.{ExchangeError}
use Rattle.resp_cli_ask.specs.declared.error.ExchangeError.TheVariants as error
use Rattle.resp_cli_ask.proofs.ask.ask_command.Goals as goal

told_if_ok : {X : Type 0} (r : Result X ExchangeError) (old mid : Client) (Read : List ℕ → Type 0) (Told : List ℕ → List ℕ → Type 0) →
    ((front : List ℕ) → HasTaken old front → HasTaken mid front) →
    (came : List ℕ) → Read came → WhereTaken mid (λ front. OnOk r (Told came front)) →
    OnOk r ((came : List ℕ) × Read came × WhereTaken old (λ front. Told came front))
told_if_ok (Ok x) old mid Read Told same came read told = (came, read, λ front h. told front (same front h))
told_if_ok (Err e) old mid Read Told same came read told = tt

no_refusal : (s : ClientState) (request : Request) (e : ExchangeError) → IsOfConnection e → IsRefused s request e
no_refusal s request (error.Refused refusal) is = absurd is
no_refusal s request other is = tt

none_refused : {X : Type 0} (r : Result X ExchangeError) (s : ClientState) (request : Request) → IfErr r IsOfConnection → IfErr r (IsRefused s request)
none_refused (Ok x) s request is = tt
none_refused (Err e) s request is = no_refusal s request e is

is_refusal : (e : ExchangeError) (refusal : SendError) → IsOfConnection e → e ≡ error.Refused refusal → ⊥
is_refusal e refusal is same = subst IsOfConnection same is

unless_refused : {X : Type 0} (r : Result X ExchangeError) (P : Type 0) → IfErr r IsOfConnection →
    IfErr r (λ e. (refusal : SendError) → e ≡ error.Refused refusal → P)
unless_refused (Ok x) P is = tt
unless_refused (Err e) P is = λ refusal same. absurd (is_refusal e refusal is same)

pub returns-clause-told : goal.returns-clause-told
returns-clause-told g c =
    let (came, read, told) = c.exchange.ensures.told in
    let told_in : (s : ClientState) → List ℕ → List ℕ → Type 0 = λ s came front. Tells c.args.telling.now c.exchange.new.telling (sent_state s)
    c.exchange.new.client (g.O.Sink.written c.args.output.now) (g.O.Sink.written c.exchange.new.output) (front ++ came) in
    subst (λ s. OnOk c.exchange.result ((came : List ℕ) × WereRead (g.R.Source.remaining c.args.reader.now) (g.R.Source.remaining c.exchange.new.reader) came ×
    WhereTaken c.args.client.now (λ front. told_in s came front))) c.in_default.ensures.queued
    (told_if_ok c.exchange.result c.args.client.now c.send.new.self
    (WereRead (g.R.Source.remaining c.args.reader.now) (g.R.Source.remaining c.exchange.new.reader)) (told_in (state_of c.send.new.self))
    c.send.ensures.same_reading.same_front came read (λ front h. (told front h).0))

pub returns-clause-refused : goal.returns-clause-refused
returns-clause-refused g c = none_refused c.exchange.result (state_of c.args.client.now) (request.Command (words_of c.args.command.now))
    c.exchange.ensures.never_refuses

pub returns-clause-nothing_done : goal.returns-clause-nothing_done
returns-clause-nothing_done g c = unless_refused c.exchange.result _ c.exchange.ensures.never_refuses
