use Rattle.std.proofs.Common.{◌≡◌, ℕ, Bool, true, false, List, Result, Ok, Err, MatchResult, is_ok, sym, ◌∙◌}
use Rattle.std.specs.Str.{IsUtf8, is_utf8}
use Rattle.std.proofs.lemmas.Str.{IsUtf8-from_is_utf8, is_utf8-from_IsUtf8}
use Rattle.resp_json.proofs.text.is_utf8.Goals as goal

not_utf8 : (bytes : List ℕ) (test : Bool) → is_utf8 bytes ≡ test → (IsUtf8 bytes → ⊥) → false ≡ is_utf8 bytes
not_utf8 bytes true e refuted = absurd (refuted (IsUtf8-from_is_utf8 bytes e))
not_utf8 bytes false e refuted = sym e

tested : {S E : Type 0} (F : S → Type 0) (G : E → Type 0) (r : Result S E) (bytes : List ℕ) →
    MatchResult r (λ s. F s × IsUtf8 bytes) (λ e. (IsUtf8 bytes → ⊥) × G e) → is_ok r ≡ is_utf8 bytes
tested F G (Ok s) bytes h = sym (is_utf8-from_IsUtf8 bytes h.1)
tested F G (Err e) bytes h = not_utf8 bytes (is_utf8 bytes) (λ i. is_utf8 bytes) h.0

pub returns : goal.returns
returns c = c.is_ok.ensures.value ∙ tested _ _ c.from_utf8.result c.args.text.now c.from_utf8.ensures.cases
