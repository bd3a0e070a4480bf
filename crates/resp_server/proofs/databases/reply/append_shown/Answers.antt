use Rattle.std.proofs.Common.{rules, ◌≡◌, ◌≢◌, ◌+◌, ◌-◌, ◌++◌, ℕ, suc, cond, List, [], ◌∷◌, sym, ap, ◌∙◌, append_assoc, arith}
use Rattle.std.proofs.lemmas.Bool.{ne_eqb}
use Rattle.resp_server.specs.Names.{shown_byte, shown_word}
use Rattle.resp_server.proofs.databases.reply.append_shown.Goals as goal
use Rattle.resp_server.proofs.databases.reply.append_shown.Goals.{then-byte-eq13, else-byte-eq13}
use Rattle.resp_server.proofs.databases.reply.append_shown.Goals.{then-byte-eq10, else-byte-eq10}

-- a word is shown by its first byte and the others
shown_more : (most b : ℕ) (bs : List ℕ) → b ≢ 0 → shown_word (suc most) (b ∷ bs) ≡ shown_byte b ∷ shown_word most bs
shown_more most b bs other = ap (λ t. cond t [] (shown_byte b ∷ shown_word most bs)) (ne_eqb b 0 other)

pub loop-preserved : goal.loop-preserved
loop-preserved c =
    let b = c.in-Some.byte.now in
    let bs = c.in-Some.beyond.now in
    let most = 128 - (c.loop.counter + 1) in
    let out = c.loop.out.items in
    let left : 128 - c.loop.counter ≡ suc most = omega (arith, c.loop-test.true) in
    let is : c.if-byte-eq10.shown ≡ shown_byte b = search rules in
    let one : out ++ (shown_byte b ∷ []) ≡ c.extend_reserved.new.self.items =
    ap (λ x. out ++ (x ∷ [])) (sym is) ∙ sym c.extend_reserved.ensures.items in
    record {
      shown = c.loop.invariant.shown ∙ ap (λ l. out ++ shown_word (128 - c.loop.counter) l) c.in-Some.ensures.cases.0 ∙
          ap (λ k. out ++ shown_word k (b ∷ bs)) left ∙ ap (λ l. out ++ l) (shown_more most b bs c.if-byte-eq0.false) ∙
          sym (append_assoc out (shown_byte b ∷ []) (shown_word most bs)) ∙ ap (λ l. l ++ shown_word most bs) one;
      spare = let s = c.loop.invariant.spare in let t = c.extend_reserved.ensures.spare in omega (arith, s, t);
    }
