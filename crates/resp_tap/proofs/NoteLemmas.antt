-- The first bytes of a text that were written to a sink with little room.
use Rattle.std.proofs.Common.{arith, ◌≡◌, ◌∙◌, ◌⊎◌, inl, inr, ℕ, ◌<◌, ◌≤◌, Bool, false, List, [], ◌++◌, Option, Ok, Err, ap, length, min, subst, sym, take}
use Rattle.std.specs.Prelude.{None, Some, Result}
use Rattle.std.specs.Result.{is_err}
use Rattle.std.proofs.lemmas.List.{append-nil, length-append, take-append-le, take_min}
use Rattle.resp_io.specs.Devices.{Appends}
use Rattle.resp_print.specs.Written.{WritesText}

-- these bytes were written of a text, or the whole text if no write failed
pub record Begun (held text : List ℕ) (failed : Bool) : Type 0 where
  pub beyond : List ℕ
  pub whole : text ≡ held ++ beyond
  pub all : failed ≡ false → text ≡ held

abbrev bytes_or : Option (List ℕ) → List ℕ
bytes_or None = []
bytes_or (Some bytes) = bytes

appended : (before after : Option (List ℕ)) (held part : List ℕ) → before ≡ Some [] → after ≡ Some held → Appends before after part → part ≡ held
appended before after held part begins ends h =
    let there : after ≡ Some part = subst (λ b. Appends b after part) begins h in
    ap bytes_or (sym there ∙ ends)

pub begun : {X E : Type 0} (r : Result X E) (before after : Option (List ℕ)) (held text : List ℕ) (failures failures' : ℕ) →
    WritesText before after failures failures' r text → before ≡ Some [] → after ≡ Some held → Begun held text (is_err r)
begun (Ok x) before after held text failures failures' h begins ends =
    let same : text ≡ held = appended before after held text begins ends h.0 in
    record { beyond = []; whole = same ∙ sym (append-nil held); all = λ fine. same }
begun (Err e) before after held text failures failures' h begins ends =
    let same : h.0.part ≡ held = appended before after held h.0.part begins ends h.0.appended in
    record { beyond = h.0.beyond; whole = h.0.whole ∙ ap (λ l. l ++ h.0.beyond) same; all = λ fine. absurd (cc) }

-- as many bytes are kept as there is room for
pub kept_front : (room n : ℕ) (held text : List ℕ) (failed : Bool) → Begun held text failed → (failed ≡ false) ⊎ (room < length held) → n ≡ min room (length held) →
    take n held ≡ take room text
kept_front room n held text failed started (inl fine) is =
    ap (λ k. take k held) is ∙ take_min room held ∙ ap (take room) (sym (started.all fine))
kept_front room n held text failed started (inr more) is =
    ap (λ k. take k held) (let e : n ≡ room = omega (arith, is, more) in e) ∙
    sym (take-append-le room held started.beyond (omega (arith, more))) ∙ ap (take room) (sym started.whole)

pub kept_whole : (room : ℕ) (held text : List ℕ) (failed : Bool) → Begun held text failed → (failed ≡ false) ⊎ (room < length held) → length held ≤ room →
    length text ≤ room
kept_whole room held text failed started (inl fine) few = let same = ap length (started.all fine) in omega (arith, same, few)
kept_whole room held text failed started (inr more) few = absurd (omega (arith, more, few))

pub kept_part : (room : ℕ) (held text : List ℕ) (failed : Bool) → Begun held text failed → room < length held → room < length text
kept_part room held text failed started more =
    let same = ap length started.whole ∙ length-append held started.beyond in
    omega (arith, same, more)
