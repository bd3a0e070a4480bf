-- What a value that was read is refused for.
use Rattle.std.proofs.Common.{inl, inr, ℕ, ◌≤◌, List, length, refl, subst, arith}
use Rattle.resp_value.specs.Data.{Datum}
use Rattle.resp_value.specs.Rules.{Rules, WithinTotal}
use Rattle.resp_value.specs.Spellings.{IsSpelling}
use Rattle.resp_value.specs.Canonical.{canonical_text}
use Rattle.resp_value.specs.Laws.{WhatWasReadCountedCanBeWritten, WhatWasReadFitsButForTotal}
use Rattle.resp_value.specs.declared.cause.Limit.TheVariants.{Depth, Length, Items, Total}
use Rattle.resp_encode.specs.Laws.{WhatWasReadCountedIsRefusedForMemory, WhatWasReadIsRefusedForTotalOrMemory}
use Rattle.resp_encode.specs.declared.error.EncodeError.TheVariants.{Double, NotInVersion, NestedPush, OverLimits, OutOfMemory}

pub total_or_memory : WhatWasReadFitsButForTotal → WhatWasReadIsRefusedForTotalOrMemory
total_or_memory fits r x text Double s fault = absurd (fault (fits r x text s).1)
total_or_memory fits r x text NotInVersion s fault = absurd (fault.1 (fits r x text s).2)
total_or_memory fits r x text NestedPush s fault = absurd (fault.2 (fits r x text s).3)
total_or_memory fits r x text (OverLimits Depth) s fault = let w = fits r x text s in absurd (omega (arith, w.4, fault.2))
total_or_memory fits r x text (OverLimits Length) s fault = let w = fits r x text s in absurd (omega (arith, w.5, fault.2.1))
total_or_memory fits r x text (OverLimits Items) s fault = let w = fits r x text s in absurd (omega (arith, w.6, fault.2.2))
total_or_memory fits r x text (OverLimits Total) s fault = inl refl
total_or_memory fits r x text OutOfMemory s fault = inr refl

-- a text that is a spelling is within the limit of total
is_within : (r : Rules) (x : Datum) (text : List ℕ) → IsSpelling r x text → length text ≤ r.limits.total
is_within r x text s = subst (λ z. length z ≤ r.limits.total) s.spells.spelled (s.keeps WithinTotal (omega arith))

pub memory_alone : WhatWasReadFitsButForTotal → WhatWasReadCountedCanBeWritten → WhatWasReadCountedIsRefusedForMemory
memory_alone fits writes r x text (OverLimits Total) off s fault =
    absurd (omega (arith, is_within r x (canonical_text r.version x) (writes r x text off s), fault.2.3))
memory_alone fits writes r x text OutOfMemory off s fault = refl
memory_alone fits writes r x text Double off s fault = absurd (fault (fits r x text s).1)
memory_alone fits writes r x text NotInVersion off s fault = absurd (fault.1 (fits r x text s).2)
memory_alone fits writes r x text NestedPush off s fault = absurd (fault.2 (fits r x text s).3)
memory_alone fits writes r x text (OverLimits Depth) off s fault = let w = fits r x text s in absurd (omega (arith, w.4, fault.2))
memory_alone fits writes r x text (OverLimits Length) off s fault = let w = fits r x text s in absurd (omega (arith, w.5, fault.2.1))
memory_alone fits writes r x text (OverLimits Items) off s fault = let w = fits r x text s in absurd (omega (arith, w.6, fault.2.2))
