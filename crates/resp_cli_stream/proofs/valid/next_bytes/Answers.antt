use Rattle.std.proofs.Common.{◌≡◌, ◌∙◌, ◌↔◌, ◌<◌, ◌+◌, ◌++◌, ◌∷◌, ℕ, List, [], true, length, slice_set, subst, sym, refl, arith}
use Rattle.std.specs.List.{Contains}
use Rattle.resp_cli_stream.specs.Valid.{GoesOn}
use Rattle.std.proofs.Math.Seq.{set-append_seam}
use Rattle.resp_value.specs.Rules.{WithinTotal, rules_under}
use Rattle.resp_value.specs.Spellings.{IsViable}
use Rattle.resp_cli_stream.proofs.ValidLemmas.{below_more, exact_less, exact_more, goes_on_if_same, not_if_other}
use Rattle.resp_cli_stream.proofs.valid.next_bytes.Goals as goal
use Rattle.resp_cli_stream.proofs.valid.next_bytes.Goals.{then-begins_value-goes_on+in_ok-push-2, else-begins_value-goes_on}

pub loop-byte-preserved : goal.loop-byte-preserved
loop-byte-preserved c =
    let inv = c.loop-byte.invariant in
    let byte = c.loop-byte.byte in
    let front = c.args.front.now in
    let r = rules_under c.args.version c.args.limits.now in
    let is_text : slice_set c.loop-byte.text.items (length front) byte ≡ front ++ byte ∷ [] =
    rw inv.is_text (set-append_seam front inv.last_byte [] byte) in
    let answers : (c.begins_value.result ≡ true) ↔ IsViable r WithinTotal (front ++ byte ∷ []) =
    subst (λ z. (c.begins_value.result ≡ true) ↔ IsViable r WithinTotal z) (c.as_slice.ensures.value ∙ is_text) c.begins_value.ensures in
    let old : List ℕ = c.loop-byte.bytes.items in
    let Below : List ℕ → Type 0 = λ z. (b : ℕ) → Contains z b → b < byte + 1 in
    let Exact : List ℕ → Type 0 = λ z. (b : ℕ) → b < byte + 1 → Contains z b ↔ GoesOn r front c.args.goes_on b in
    elim c.if-begins_value-goes_on.branch [
      | then-begins_value-goes_on+in_ok-push-2 w ↦
          let items : c.if-begins_value-goes_on.bytes.items ≡ old ++ byte ∷ [] = rw w.bytes-is w.in_ok-push-2.ensures.items in
          let goes = goes_on_if_same r front c.args.goes_on c.begins_value.result byte answers w.if-begins_value-goes_on.true in
          record {
            last_byte = byte;
            is_text = is_text;
            found = subst Below (sym items) (below_more r front old c.args.goes_on byte inv.found inv.exact);
            exact = subst Exact (sym items) (exact_more r front old c.args.goes_on byte inv.found inv.exact goes);
          }
      | else-begins_value-goes_on w ↦
          let items : c.if-begins_value-goes_on.bytes.items ≡ old = rw w.bytes-is refl in
          let none = not_if_other r front c.args.goes_on c.begins_value.result byte answers w.if-begins_value-goes_on.false in
          record {
            last_byte = byte;
            is_text = is_text;
            found = subst Below (sym items) (λ b has. let less = inv.found b has in omega (arith, less));
            exact = subst Exact (sym items) (exact_less r front old c.args.goes_on byte inv.found inv.exact none);
          }
    ]
