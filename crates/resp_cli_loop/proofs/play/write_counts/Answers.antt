use Rattle.std.proofs.Common.{◌≡◌, ◌∙◌, ◌++◌, ℕ, List, length, ap, subst, codes, decimal}
use Rattle.std.proofs.lemmas.List.{length-map}
use Rattle.resp_session.specs.Serving.{clients_in}
use Rattle.resp_session.specs.Worlds.{World}
use Rattle.resp_io.specs.Devices.{Appends}
use Rattle.resp_print.specs.Written.{AppendsPart}
use Rattle.resp_cli_loop.specs.Printed.{counts_text, key_count}
use Rattle.resp_cli_loop.specs.declared.play.PlayError.TheVariants.{Write}
use Rattle.resp_print.proofs.Printing.{is_that_error}
use Rattle.resp_cli_loop.proofs.play.write_counts.Goals as goal

-- what holds of the line of counts as it is written holds of it by the definitions
counts_as : (P : List ℕ → Type 0) (w : World) (order : List ℕ) (keys : ℕ) → order ≡ clients_in w → keys ≡ key_count w →
    P ((codes "commands " ++ decimal (length order) ++ codes " keys ") ++ (decimal keys ++ codes "\n")) → P (counts_text w)
counts_as P w order keys ordered counted written =
    let ran = ap length ordered ∙ length-map w.order (λ (command : ℕ × List (List ℕ)). command.0) in
    subst (λ n. P ((codes "commands " ++ decimal (length w.order) ++ codes " keys ") ++ (decimal n ++ codes "\n"))) counted
    (subst (λ n. P ((codes "commands " ++ decimal n ++ codes " keys ") ++ (decimal keys ++ codes "\n"))) ran written)

pub returns-clause-prints : goal.returns-clause-prints
returns-clause-prints g c = λ limits w shows. (
  counts_as (Appends (g.W.Sink.written c.args.writer.now) (g.W.Sink.written c.write_numbers.new.writer)) w c.order.result.now
      c.count_keys.result (c.order.ensures limits w shows) (c.count_keys.ensures limits w shows) c.in_ok-write_numbers.ensures.0,
  c.in_ok-write_numbers.ensures.1,
)

pub returns-in_err-write_numbers-clause-prints : goal.returns-in_err-write_numbers-clause-prints
returns-in_err-write_numbers-clause-prints g c = λ limits w shows. rw (is_that_error c.from_residual.result Write c.from_residual.ensures.1) (
  counts_as (AppendsPart (g.W.Sink.written c.args.writer.now) (g.W.Sink.written c.write_numbers.new.writer)) w c.order.result.now
      c.count_keys.result (c.order.ensures limits w shows) (c.count_keys.ensures limits w shows) c.in_err-write_numbers.ensures.0,
  c.in_err-write_numbers.ensures.1,
)
