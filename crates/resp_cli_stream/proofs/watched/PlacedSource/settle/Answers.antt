use Rattle.std.proofs.Common.{◌≡◌, ◌-◌, ◌++◌, length, drop, sym, ap, subst, ◌∙◌, append-nil, arith}
use Rattle.std.proofs.lemmas.List.{drop_all}
use Rattle.resp_cli_stream.specs.Begun.{HavePassed}
use Rattle.resp_cli_stream.specs.declared.watched.PlacedSource.{PlacedSource}
use Rattle.resp_cli_stream.proofs.watched.PlacedSource.settle.Goals.{then-not-pass, else-not-pass}
use Rattle.resp_cli_stream.proofs.watched.PlacedSource.settle.Goals as goal

pub returns-clause-gone_through : goal.returns-clause-gone_through
returns-clause-gone_through g c = λ bytes h sound. elim c.if-not-pass.branch [
  | then-not-pass w ↦ let lost = sym (ap (λ (z : PlacedSource g.row.R.Denot). z.is_lost) w.self-is) ∙ sound in absurd (cc)
  | else-not-pass w ↦
      let s = h (sym (ap (λ (z : PlacedSource g.row.R.Denot). z.is_lost) w.self-is) ∙ sound) in
      let fresh : c.last-fresh.result.now ≡ drop (length c.args.self.now.held.items - c.args.self.now.fresh) c.args.self.now.held.items =
      c.last-fresh.ensures ∙ ap (λ z. drop (length z - c.args.self.now.fresh) z) c.as_slice.ensures in
      subst (λ z. HavePassed z bytes) (sym (ap (λ (z : PlacedSource g.row.R.Denot). z.starts) w.self-is))
      (subst (HavePassed c.pass.new.self) (ap (λ z. s.done ++ z) fresh ∙ sym s.whole) (c.pass.ensures.passed s.done s.passed w.if-not-pass.false))
]

pub returns-clause-watched : goal.returns-clause-watched
returns-clause-watched g c = λ bytes h sound. elim c.if-not-pass.branch [
  | then-not-pass w ↦ let lost = sym (ap (λ (z : PlacedSource g.row.R.Denot). z.is_lost) w.self-is) ∙ sound in absurd (cc)
  | else-not-pass w ↦
      let held = c.if-not-pass.self.held.items in
      let old = (h (sym (ap (λ (z : PlacedSource g.row.R.Denot). z.is_lost) w.self-is) ∙ sound)).holds in
      record {
        done = bytes;
        whole = sym (append-nil bytes) ∙ ap (λ z. bytes ++ z) (sym (drop_all (length held - 0) held (omega arith)));
        passed = returns-clause-gone_through g c bytes h sound;
        holds = record {
          gone = old.gone;
          held_last = old.held_last ∙ ap (λ z. old.gone ++ z) (sym (ap (λ (z : PlacedSource g.row.R.Denot). z.held.items) w.self-is));
          counted = λ fits. ap (λ (z : PlacedSource g.row.R.Denot). z.read) w.self-is ∙ old.counted fits;
        };
      }
]
