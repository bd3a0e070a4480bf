use Rattle.std.proofs.Common.{rules, ◌≡◌, ◌++◌, ℕ, List, arith, length-append, take, sym, ap, subst, ◌∙◌}
use Rattle.resp_cli_stream.specs.Begun.{HavePassed}
use Rattle.resp_cli_stream.specs.declared.watched.PlacedSource.{PlacedSource}
use Rattle.resp_cli_stream.proofs.BegunLemmas.{last_kept, last_of}
use Rattle.resp_cli_stream.proofs.watched.PlacedSource.keep.Goals.{then-is_err, else-is_err}
use Rattle.resp_cli_stream.proofs.watched.PlacedSource.keep.Goals as goal

pub returns-clause-watched : goal.returns-clause-watched
returns-clause-watched g c = λ before h sound. elim c.if-is_err.branch [
  | then-is_err w ↦
      let lost = sym (ap (λ (z : PlacedSource g.row.R.Denot). z.is_lost) w.self-is) ∙ sound in
      absurd (cc)
  | else-is_err w ↦
      let ok = sym (ap (λ (z : PlacedSource g.row.R.Denot). z.is_lost) w.self-is) ∙ sound in
      let held : c.if-is_err.self.held.items ≡ c.advance.new.self.items ++ c.args.bytes.now = ap (λ (z : PlacedSource g.row.R.Denot). z.held.items) w.self-is ∙
      search rules in
      let old = (c.settle.ensures.watched before h ok).holds in
      let beyond = c.saturating_sub-beyond.result in
      let was : List ℕ = c.settle.new.self.held.items in
      let read : c.if-is_err.self.read ≡ c.settle.new.self.read = ap (λ (z : PlacedSource g.row.R.Denot). z.read) w.self-is in
      record {
        done = before;
        whole = ap (λ z. before ++ z) (sym (last_of c.advance.new.self.items c.args.bytes.now c.if-is_err.self.held.items held));
        passed = subst (λ z. HavePassed z before) (sym (ap (λ (z : PlacedSource g.row.R.Denot). z.starts) w.self-is)) (c.settle.ensures.gone_through before h ok);
        holds = record {
          gone = old.gone ++ take beyond was;
          held_last = last_kept before c.args.bytes.now old.gone was beyond old.held_last
              ∙ ap (λ z. (old.gone ++ take beyond was) ++ z) (sym (held ∙ ap (λ z. z ++ c.args.bytes.now) c.advance.ensures.items));
          counted = λ fits.
              let size = length-append before c.args.bytes.now in
              let counted = old.counted (omega (arith, fits, size)) in
              omega (arith, fits, size, counted, read, c.saturating_add-self.ensures);
        };
      }
]
