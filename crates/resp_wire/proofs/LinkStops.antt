-- Which stops are for a cause of links, and which links failed then.
use Rattle.std.proofs.Common.{◌≡◌, inl, inr, ◌∙◌, ℕ, zero, suc, ◌<◌, Bool, true, false, List, [], ◌∷◌, length, map, set, get_or, slice_get, Some, IfErr, Result, Ok, Err, refl, sym, ap, subst, arith}
use Rattle.std.proofs.lemmas.List.{map-set}
use Rattle.std.proofs.lemmas.Option.{slice_get-map, slice_get_read}
use Rattle.std.specs.Option.{option_map}
use Rattle.resp_io.specs.Devices.{HasRisen, count_after, failures_after}
use Rattle.resp_value.specs.declared.cause.Cause.{Cause}
use Rattle.resp_value.specs.declared.cause.Cause.TheVariants as cause
use Rattle.resp_client.specs.Standing.{IsOfBytes}
use Rattle.resp_server.specs.declared.error.PushError.{PushError}
use Rattle.resp_server.specs.declared.error.PushError.TheVariants as push
use Rattle.resp_wire.specs.Carrying.{StopsCarrying}
use Rattle.resp_wire.specs.Ends.{outcome_of_push}
use Rattle.resp_wire.specs.Links.{is_of_link}
use Rattle.resp_io.specs.Turns.{stopped_by}
use Rattle.resp_wire.specs.Worlds.{CountsFailures, KeepFailures}

-- a cause of bytes that come is none of a link
pub not_of_link : (c : Cause) → IsOfBytes c → is_of_link c ≡ false
not_of_link cause.Syntax few = refl
not_of_link cause.Double few = refl
not_of_link cause.Version few = refl
not_of_link cause.NestedPush few = refl
not_of_link cause.Range few = refl
not_of_link cause.Depth few = refl
not_of_link cause.Length few = refl
not_of_link cause.Total few = refl
not_of_link cause.Truncated few = refl
not_of_link cause.OutOfMemory few = refl
not_of_link cause.Streamed few = refl
not_of_link cause.Items few = refl
not_of_link cause.Unasked few = refl
not_of_link cause.TooLarge few = refl
not_of_link cause.BadCommand few = refl
not_of_link cause.TooMany few = refl
not_of_link cause.TooManySessions few = refl
not_of_link cause.NoSession few = refl
not_of_link cause.Closing few = refl
not_of_link cause.NotInVersion few = refl
not_of_link cause.PushBelowTop few = refl
not_of_link (cause.OverLimits limit) few = refl
not_of_link cause.Read few = absurd (omega (arith, few))
not_of_link cause.Write few = absurd (omega (arith, few))
not_of_link cause.TooManyTurns few = absurd (omega (arith, few))
not_of_link cause.Ended few = refl
not_of_link cause.BadLine few = refl
not_of_link cause.BadDigits few = refl
not_of_link cause.Busy few = refl
not_of_link cause.BadLimits few = refl

-- nor does a push that isn't queued stop for one
pub push_of_no_link : (error : PushError) → IfErr (outcome_of_push error) (λ c. is_of_link c ≡ false)
push_of_no_link push.NoSession = refl
push_of_no_link push.Closing = refl
push_of_no_link push.OutOfMemory = refl
push_of_no_link _ = tt

-- memory is no cause of links
pub of_no_link : {T : Type 0} (r : Result T Cause) → IfErr r (λ c. c ≡ cause.OutOfMemory) → IfErr r (λ c. is_of_link c ≡ false)
of_no_link {T} (Ok x) memory = tt
of_no_link {T} (Err c) memory = ap is_of_link memory

-- nor does one stop a result that has no such cause
pub stopped_by_none : {T : Type 0} (r : Result T Cause) → IfErr r (λ c. is_of_link c ≡ false) → stopped_by is_of_link r ≡ false
stopped_by_none {T} (Ok x) none = refl
stopped_by_none {T} (Err c) none = none

-- where no link failed and the stop, if any, is for no cause of links
pub counts_none : {L T : Type 0} (failures : L → ℕ) (client : ℕ) (old new : List L) (r : Result T Cause) → KeepFailures failures old new →
    IfErr r (λ c. is_of_link c ≡ false) → CountsFailures failures client old new (stopped_by is_of_link r)
counts_none {L} {T} failures client old new (Ok x) keep none = keep
counts_none {L} {T} failures client old new (Err c) keep none = subst (CountsFailures failures client old new) (sym none) keep

-- one link is another, which failed once or not
pub counts_one : {L : Type 0} (failures : L → ℕ) (client : ℕ) (links : List L) (i : ℕ) (link link' : L) (failed : Bool) → suc i ≡ client →
    i < length links → link ≡ get_or links i link → failures link' ≡ failures_after failed (failures link) →
    CountsFailures failures client links (set links i link') failed
counts_one {L} failures client links i link link' false its within is same =
    map-set failures links i link' ∙ ap (set (map failures links) i) same ∙ sym (map-set failures links i link) ∙ ap (map failures) (set_back links i is)
  where
    set_back : (xs : List L) (k : ℕ) → link ≡ get_or xs k link → set xs k link ≡ xs
    set_back [] k e = refl
    set_back (x ∷ xs) zero e = ap (λ z. z ∷ xs) e
    set_back (x ∷ xs) (suc k) e = ap (λ l. x ∷ l) (set_back xs k e)
counts_one {L} failures client links i link link' true its within is risen = (
  i,
  its,
  failures link,
  slice_get-map failures links i ∙ ap (option_map failures) (slice_get_read links (length links) i link refl within is),
  map-set failures links i link' ∙ ap (set (map failures links) i) risen,
)

-- and no other did before
pub counts_on : {L : Type 0} (failures : L → ℕ) (client : ℕ) (a b c : List L) (failed : Bool) → KeepFailures failures a b → CountsFailures failures client b c failed →
    CountsFailures failures client a c failed
counts_on {L} failures client a b c false keep h = h ∙ keep
counts_on {L} failures client a b c true keep (at, its, before, there, once) = (
  at,
  its,
  before,
  subst (λ l. slice_get l at ≡ Some before) keep there,
  once ∙ ap (λ l. set l at (count_after 1 before)) keep,
)

-- a stop after bytes that were carried without a failure of the link
pub stops_with : (P Q : Cause → Type 0) (failures failures' failures'' : ℕ) (k : Cause) → failures' ≡ failures → (P k → Q k) →
    StopsCarrying P failures' failures'' k → StopsCarrying Q failures failures'' k
stops_with P Q failures failures' failures'' k none f (inl memory) = inl memory
stops_with P Q failures failures' failures'' k none f (inr (inl risen)) = inr (inl (subst (λ n. HasRisen n failures'') none risen.0, risen.1))
stops_with P Q failures failures' failures'' k none f (inr (inr p)) = inr (inr (f p))
