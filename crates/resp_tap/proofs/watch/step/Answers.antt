use Rattle.std.proofs.Common.{◌≡◌, ℕ, List, Option, length, true, false, ap, sym, subst}
use Rattle.resp_tap.specs.Taps.{tap_state}
use Rattle.resp_tap.specs.Times.{KeepsTimes}
use Rattle.resp_tap.specs.Watches.{HasSentSome, SeesFirst, is_read_of, SeesSent, WhereSent}
use Rattle.resp_tap.specs.declared.moment.Moment.{Moment}
use Rattle.resp_tap.specs.declared.seen.Seen.TheVariants as seen
use Rattle.resp_tap.specs.declared.seen.Step.{Step}
use Rattle.resp_tap.specs.declared.tap.Tap.{Tap}
use Rattle.resp_tap.specs.declared.watch.Side.{Side}
use Rattle.resp_tap.specs.declared.watch.Side.TheVariants.{Client, Server}
use Rattle.resp_tap.proofs.watch.step.Goals as goal

-- what a side's own call says of a piece is what is said of either side
sees_first : (own side : Side) (now : Option Moment) (old new : Tap) (piece : List ℕ) (step : Step) → side ≡ own →
    HasSentSome own old → (is_read_of own (tap_state old) ≡ true → WhereSent own old (λ front.
    SeesSent own (tap_state old) new front piece step.used step.seen × KeepsTimes now old new)) →
    (is_read_of own (tap_state old) ≡ false → (new ≡ old) × (step ≡ record { used = length piece; seen = seen.Nothing })) →
    SeesFirst side now old new piece step.used step.seen
sees_first own side now old new piece step is some read unread =
    subst (λ s. SeesFirst s now old new piece step.used step.seen) (sym is) (record {
      some = some;
      read = read;
      unread = λ e. let same = unread e in (same.0, ap (λ (z : Step). z.used) same.1, ap (λ (z : Step). z.seen) same.1);
    })

pub returns-in-Client-clause-sees : goal.returns-in-Client-clause-sees
returns-in-Client-clause-sees c =
    let done = c.from_client.ensures in
    sees_first Client c.args.side c.args.now c.args.tap.now c.from_client.new.self c.args.piece.now c.from_client.result c.in-Client.is c.args.tap.now.requests.reading
    (λ read. λ front taken. (done.seen read front taken, done.times)) done.unread

pub returns-in-Server-clause-sees : goal.returns-in-Server-clause-sees
returns-in-Server-clause-sees c =
    let done = c.from_server.ensures in
    sees_first Server c.args.side c.args.now c.args.tap.now c.from_server.new.self c.args.piece.now c.from_server.result c.in-Server.is c.args.tap.now.values.reading
    (λ read. λ front taken. (done.seen read front taken, done.times c.args.now)) done.unread
