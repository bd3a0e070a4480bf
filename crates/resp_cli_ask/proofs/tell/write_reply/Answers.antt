use Rattle.std.proofs.Common.{◌-◌, ◌++◌, ℕ, List, Option, Err, subst, sym, codes}
use Rattle.std.specs.Prelude.{decimal}
use Rattle.resp_value.specs.Values.{datum_of}
use Rattle.resp_print.specs.Shown.{lines_on}
use Rattle.resp_cli_ask.specs.Tellings.{TellsText, numbered_text}
use Rattle.resp_cli_ask.specs.declared.error.ExchangeError.TheVariants.{Output}
use Rattle.resp_cli_ask.specs.declared.telling.ReplyForm.TheVariants.{Numbered}
use Rattle.resp_cli_ask.proofs.Receiving.{heading_then, no_heading}
use Rattle.resp_cli_ask.proofs.tell.write_reply.Goals as goal

-- a write of the heading failed
abbrev Whole : Option (List ℕ) → Option (List ℕ) → ℕ → ℕ → List ℕ → Type 0
Whole a b f k text = TellsText {X = Unit {0}} a b f k (Err Output) text

pub returns-in-Ok : goal.returns-in-Ok
returns-in-Ok g c =
    let a = g.O.Sink.written c.args.output.now in
    let b = g.O.Sink.written c.write_number.new.writer in
    let d = g.O.Sink.written c.write_value-in-Ok.new.writer in
    let f = g.O.Sink.failures c.args.output.now in
    let k = g.O.Sink.failures c.write_number.new.writer in
    let h = g.O.Sink.failures c.write_value-in-Ok.new.writer in
    let x = datum_of c.args.value.now in
    let heading = codes "reply " ++ decimal c.saturating_sub-number.result ++ codes "\n" in
    let told = c.told-in-Ok.ensures _ _ _ _ _ _ c.write_value-in-Ok.ensures in
    let whole = heading_then a b d f k h c.told-in-Ok.result heading (lines_on 1 x) c.in-Ok.ensures told in
    subst (λ form. TellsText a d f h c.told-in-Ok.result (numbered_text form (c.args.number - c.args.telling.before) x)) (sym c.in-Numbered.is)
    (subst (λ n. TellsText a d f h c.told-in-Ok.result (numbered_text Numbered n x)) c.saturating_sub-number.ensures whole)

pub returns-in-Err : goal.returns-in-Err
returns-in-Err g c =
    let a = g.O.Sink.written c.args.output.now in
    let b = g.O.Sink.written c.write_number.new.writer in
    let f = g.O.Sink.failures c.args.output.now in
    let k = g.O.Sink.failures c.write_number.new.writer in
    let x = datum_of c.args.value.now in
    let heading = codes "reply " ++ decimal c.saturating_sub-number.result ++ codes "\n" in
    let none = no_heading (Unit {0}) a b f k heading (lines_on 1 x) c.in-Err.ensures in
    subst (λ form. Whole a b f k (numbered_text form (c.args.number - c.args.telling.before) x)) (sym c.in-Numbered.is)
    (subst (λ n. Whole a b f k (numbered_text Numbered n x)) c.saturating_sub-number.ensures none)
