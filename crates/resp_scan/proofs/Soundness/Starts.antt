-- A value's first byte, and an array's head, as the machine's methods scan them.
use Rattle.std.proofs.Common.{◌≡◌, ◌≢◌, ℕ, false, eqb, ◌<◌, List, [], ◌∷◌, length, get_or, drop, None, Some, arith, refl, sym, ap, ◌∙◌}
use Rattle.std.proofs.lemmas.Bool.Decides.{nat_tests}
use Rattle.resp_value.specs.declared.cause.Cause.{Cause}
use Rattle.resp_value.specs.declared.version.Version.TheVariants as version
use Rattle.resp_value.specs.declared.double_stage.DoubleStage.TheVariants.{Begun}
use Rattle.resp_scan.specs.declared.event.TextKind.TheVariants as text
use Rattle.resp_scan.specs.declared.start.First.{First}
use Rattle.resp_scan.specs.Machine.Tokens.{Token, Place, Happening, Text, Go, Give, at, AtStart, InLine, InDouble, Dead}
use Rattle.resp_scan.specs.Machine.Room.{after_begin, begin_cause}
use Rattle.resp_scan.specs.Machine.Moves.{move_unless, begin_move, line_move, double_line_move, start_next, start_three, move_in_three}
use Rattle.resp_scan.specs.Machine.Scan.{Gave, Bad, scan}
use Rattle.resp_scan.specs.Machine.First.{after_first, first_move, by_first}

-- a value that begins answers with its token
pub begun_answer : (s u : Place) (n : ℕ) (t : Token) (p : List ℕ) → None ≡ begin_cause s n → at u AtStart ≡ after_begin s →
    after_first (begin_move s n t) s p ≡ scan 1 (at u t) p
begun_answer s u n t p e f =
    ap (λ v. after_first (move_unless v (Go (at (after_begin s) t))) s p) (sym e) ∙ ap (λ v. scan 1 (at v t) p) (sym f)

-- a value that may not begin answers with its cause
pub refused_answer : (s : Place) (n : ℕ) (t : Token) (c : Cause) (p : List ℕ) → Some c ≡ begin_cause s n →
    after_first (begin_move s n t) s p ≡ Bad 0 c (at s (Dead c))
refused_answer s n t c p e = ap (λ v. after_first (move_unless v (Go (at (after_begin s) t))) s p) (sym e)

-- a line that begins answers with its event
pub begun_line : (s u : Place) (e : Happening) (p : List ℕ) → None ≡ begin_cause s 2 → at u AtStart ≡ after_begin s →
    after_first (line_move s e) s p ≡ Gave 1 e (at u (InLine s.bounds.length))
begun_line s u e p h f =
    ap (λ v. after_first (move_unless v (Give e (at (after_begin s) (InLine s.bounds.length)))) s p) (sym h) ∙
    ap (λ v. Gave 1 e (at v (InLine s.bounds.length))) (sym f)

-- a line that may not begin answers with its cause
pub refused_line : (s : Place) (e : Happening) (c : Cause) (p : List ℕ) → Some c ≡ begin_cause s 2 → after_first (line_move s e) s p ≡ Bad 0 c (at s (Dead c))
refused_line s e c p h = ap (λ v. after_first (move_unless v (Give e (at (after_begin s) (InLine s.bounds.length)))) s p) (sym h)

-- a double that begins answers with its event
pub begun_double : (s u : Place) (p : List ℕ) → None ≡ begin_cause s 3 → at u AtStart ≡ after_begin s →
    after_first (double_line_move s) s p ≡ Gave 1 (Text text.Double) (at u (InDouble Begun s.bounds.length))
begun_double s u p h f =
    ap (λ v. after_first (move_unless v (Give (Text text.Double) (at (after_begin s) (InDouble Begun s.bounds.length)))) s p) (sym h) ∙
    ap (λ v. Gave 1 (Text text.Double) (at v (InDouble Begun s.bounds.length))) (sym f)

-- a double that may not begin answers with its cause
pub refused_double : (s : Place) (c : Cause) (p : List ℕ) → Some c ≡ begin_cause s 3 → after_first (double_line_move s) s p ≡ Bad 0 c (at s (Dead c))
refused_double s c p h = ap (λ v. after_first (move_unless v (Give (Text text.Double) (at (after_begin s) (InDouble Begun s.bounds.length)))) s p) (sym h)

-- a scan of the first byte of a value
pub first_scan : (s : Place) (p : List ℕ) → 0 < length p → after_first (start_next (at s AtStart) (get_or p 0 0)) (at s AtStart) (drop 1 p) ≡
    scan 0 (at s AtStart) p
first_scan s [] h = absurd (omega arith)
first_scan s (b ∷ bs) h = refl

-- where the first byte is known
pub first_is : (s : Place) (p : List ℕ) (b : ℕ) → 0 < length p → get_or p 0 0 ≡ b → after_first (start_next (at s AtStart) b) (at s AtStart) (drop 1 p) ≡
    scan 0 (at s AtStart) p
first_is s p b l e = ap (λ v. after_first (start_next (at s AtStart) v) (at s AtStart) (drop 1 p)) (sym e) ∙ first_scan s p l

-- the move of a byte that version 3 alone has
pub three_is : (s : Place) (b : ℕ) (f : First) → b ≢ 43 → b ≢ 45 → b ≢ 58 → b ≢ 36 → b ≢ 42 → b ≢ 46 → b ≢ 44 → s.version ≡ version.Three →
    start_three s b ≡ by_first s (Some f) → start_next s b ≡ first_move s f
three_is s b f n1 n2 n3 n4 n5 n6 n7 v e =
    let e1 : eqb b 43 ≡ false = grind (arith, nat_tests) in
    let e2 : eqb b 45 ≡ false = grind (arith, nat_tests) in
    let e3 : eqb b 58 ≡ false = grind (arith, nat_tests) in
    let e4 : eqb b 36 ≡ false = grind (arith, nat_tests) in
    let e5 : eqb b 42 ≡ false = grind (arith, nat_tests) in
    let e6 : eqb b 46 ≡ false = grind (arith, nat_tests) in
    let e7 : eqb b 44 ≡ false = grind (arith, nat_tests) in
    simp (e1, e2, e3, e4, e5, e6, e7, e) (ap (λ x. move_in_three x (first_move s f)) v)

-- what comes of a first byte that is refused, or with which a value begins
pub ruleset answers = (refused_answer, begun_answer)

-- what comes of a line's type byte
pub ruleset lines = (begun_line, refused_line)

-- what comes of the type byte of a double
pub ruleset double_lines = (begun_double, refused_double)

-- what a scan comes to at a value's first byte
pub ruleset first_byte = (first_scan, refused_answer, begun_answer)
