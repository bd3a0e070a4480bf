use Rattle.std.proofs.Common.{◌≡◌, ℕ, true, subst, sym}
use Rattle.resp_value.specs.Bounds.{Bounds}
use Rattle.resp_value.specs.Canonical.{IsValue, canonical_text}
use Rattle.resp_value.specs.Data.{Datum, Scalar, scalar}
use Rattle.resp_value.specs.Values.{datum_of}
use Rattle.resp_value.specs.declared.version.Version.{Version}
use Rattle.bytes.specs.Filled.{Filled}
use Rattle.resp_encode.specs.Walks.Attempts.{Attempt, FitsSpare}
use Rattle.resp_encode.specs.Walks.Writings.{Fills}
use Rattle.resp_encode.proofs.Attempted.{scalar_done}
use Rattle.resp_encode.proofs.attempt.scalars.attempt_scalar.Goals as goal

done : (version : Version) (bounds : Bounds) (spare : ℕ) (x : Datum) (a b : Filled) → FitsSpare version bounds spare x →
    IsValue x → Fills a b (canonical_text version x) → (content : Scalar) → x ≡ scalar content → (deeper : ℕ) →
    Attempt version bounds deeper x a b true
done version bounds spare x a b fits value writes content is deeper =
    (subst (λ x. FitsSpare version bounds spare x → IsValue x → Fills a b (canonical_text version x) →
    Attempt version bounds deeper x a b true) (sym is) (λ fits value writes. scalar_done fits value writes deeper))
    fits value writes

pub write_value-requires : goal.write_value-requires
write_value-requires c = (c.if-not-suits.ensures (datum_of c.args.value.now) c.measure_value-found.ensures.found).room

pub returns : goal.returns
returns c = done c.args.version c.args.limits.now _ _ _ _
    (c.if-not-suits.ensures (datum_of c.args.value.now) c.measure_value-found.ensures.found)
    c.measure_value-found.ensures.is_value c.write_value.ensures
