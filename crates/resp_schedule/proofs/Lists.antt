-- How often a place is in a list, and sums over states.
use Rattle.std.proofs.Common.{◌≡◌, ◌≢◌, inl, inr, ℕ, ◌+◌, ◌<◌, ◌≤◌, ◌==◌, true, cond, List, [], ◌∷◌, ◌++◌, length, get_or, take, drop, refl, sym, ap, ◌∙◌, arith, zero, suc}
use Rattle.std.specs.List.{count_by, sum_by}
use Rattle.std.proofs.lemmas.List.Sums.{sum_by-cons, sum_by_push, sum_by-take-drop}
use Rattle.std.proofs.lemmas.Bool.{cases_eq}
use Rattle.std.proofs.lemmas.Bool.Decides.{nat_tests}
use Rattle.resp_schedule.specs.Places.{times, without}
use Rattle.resp_schedule.specs.Plans.{is_open}
use Rattle.resp_schedule.specs.declared.schedule.PlaceState.{PlaceState}
use Rattle.resp_schedule.specs.declared.schedule.PlaceState.TheVariants.{Closed, Idle, Queued}
use Rattle.resp_schedule.specs.Stands.{queued, closed}

pub times-cons_same : (place : ℕ) (places : List ℕ) → times place (place ∷ places) ≡ 1 + times place places
times-cons_same place places = grind (arith, nat_tests, sum_by-cons (λ other. cond (other == place) 1 0) place places)

pub times-cons_other : (place other : ℕ) (places : List ℕ) → other ≢ place → times other (place ∷ places) ≡ times other places
times-cons_other place other places apart = grind (arith, nat_tests, sum_by-cons (λ q. cond (q == other) 1 0) place places)

pub times_push_same : (place : ℕ) (places : List ℕ) → times place (places ++ place ∷ []) ≡ times place places + 1
times_push_same place places = grind (arith, nat_tests, sum_by_push (λ q. cond (q == place) 1 0) places place)

pub times_push_other : (place other : ℕ) (places : List ℕ) → other ≢ place → times other (places ++ place ∷ []) ≡ times other places
times_push_other place other places apart = grind (arith, nat_tests, sum_by_push (λ q. cond (q == other) 1 0) places place)

pub times-drop-le : (place n : ℕ) (places : List ℕ) → times place (drop n places) ≤ times place places
times-drop-le place n places = omega (arith, sum_by-take-drop (λ q. cond (q == place) 1 0) places n)

-- a place beyond the list is in no state
pub queued_within : (states : List PlaceState) (place : ℕ) → 0 < queued (get_or states place Closed) → place < length states
queued_within [] place some = absurd (omega (arith, some))
queued_within (state ∷ states) zero some = omega arith
queued_within (state ∷ states) (suc place) some = omega (arith, queued_within states place some)

pub closed_within : (states : List PlaceState) (place : ℕ) → 0 < closed (get_or states place Idle) → place < length states
closed_within [] place some = absurd (omega (arith, some))
closed_within (state ∷ states) zero some = omega arith
closed_within (state ∷ states) (suc place) some = omega (arith, closed_within states place some)

pub open_within : (states : List PlaceState) (place : ℕ) → is_open (get_or states place Closed) ≡ true → place < length states
open_within [] place is = absurd (cc)
open_within (state ∷ states) zero is = omega arith
open_within (state ∷ states) (suc place) is = omega (arith, open_within states place is)

pub queued_is : (state : PlaceState) → 0 < queued state → state ≡ Queued
queued_is Closed some = absurd (omega (arith, some))
queued_is Idle some = absurd (omega (arith, some))
queued_is Queued some = refl

pub closed_is : (state : PlaceState) → 0 < closed state → state ≡ Closed
closed_is Closed some = refl
closed_is Idle some = absurd (omega (arith, some))
closed_is Queued some = absurd (omega (arith, some))

pub queued-le : (state : PlaceState) → queued state ≤ 1
queued-le Closed = omega arith
queued-le Idle = omega arith
queued-le Queued = omega arith

-- there are at least as many states as queued ones and a place that is open and not queued
pub queued_sum : (states : List PlaceState) → sum_by queued states ≤ length states
queued_sum [] = omega arith
queued_sum (state ∷ states) = omega (arith, sum_by-cons queued state states, queued-le state, queued_sum states)

pub room_to_queue : (states : List PlaceState) (place : ℕ) → get_or states place Closed ≡ Idle → sum_by queued states < length states
room_to_queue [] place is = absurd (cc)
room_to_queue (state ∷ states) zero is =
    omega (arith, sum_by-cons queued state states, ap queued is, queued_sum states)
room_to_queue (state ∷ states) (suc place) is =
    omega (arith, sum_by-cons queued state states, queued-le state, room_to_queue states place is)

pub closed-le : (state : PlaceState) → closed state + cond (is_open state) 1 0 ≡ 1
closed-le Closed = refl
closed-le Idle = refl
closed-le Queued = refl

-- each place is closed or open
pub closed_or_open : (states : List PlaceState) → sum_by closed states + count_by is_open states ≡ length states
closed_or_open [] = refl
closed_or_open (state ∷ states) =
    omega (arith, sum_by-cons closed state states, sum_by-cons (λ s. cond (is_open s) 1 0) state states, closed-le state, closed_or_open states)

-- a list without a place
pub times-without_same : (place : ℕ) (places : List ℕ) → times place (without place places) ≡ 0
times-without_same place [] = refl
times-without_same place (q ∷ places) = elim (cases_eq q place) [
  | inl same ↦ grind (arith, nat_tests, same, times-without_same place places)
  | inr apart ↦ grind (arith, nat_tests, times-without_same place places, times-cons_other q place (without place places) (λ e. apart (sym e)))
]

pub times-without_other : (place other : ℕ) (places : List ℕ) → other ≢ place → times other (without place places) ≡ times other places
times-without_other place other [] apart = refl
times-without_other place other (q ∷ places) apart = elim (cases_eq q place) [
  | inl same ↦ grind (arith, nat_tests, same, times-without_other place other places apart, times-cons_other q other places (λ e. apart (e ∙ same)))
  | inr differs ↦ grind (arith, nat_tests, times-without_other place other places apart, sum_by-cons (λ o. cond (o == other) 1 0) q places, sum_by-cons (λ o. cond (o == other) 1 0) q (without place places))
]

pub length-without : (place : ℕ) (places : List ℕ) → length (without place places) + times place places ≡ length places
length-without place [] = refl
length-without place (q ∷ places) = elim (cases_eq q place) [
  | inl same ↦ grind (arith, nat_tests, same, length-without place places, sum_by-cons (λ o. cond (o == place) 1 0) q places)
  | inr differs ↦ grind (arith, nat_tests, length-without place places, sum_by-cons (λ o. cond (o == place) 1 0) q places)
]

pub without-none : (place : ℕ) (places : List ℕ) → times place places ≡ 0 → without place places ≡ places
without-none place [] none = refl
without-none place (q ∷ places) none = elim (cases_eq q place) [
  | inl same ↦ absurd (grind (arith, nat_tests, same, none, sum_by-cons (λ o. cond (o == place) 1 0) q places))
  | inr differs ↦
      let rest : without place places ≡ places = without-none place places (grind (arith, none, sum_by-cons (λ o. cond (o == place) 1 0) q places)) in
      grind (arith, nat_tests, rest)
]

pub without_push_same : (place : ℕ) (places : List ℕ) → without place (places ++ place ∷ []) ≡ without place places
without_push_same place [] = grind (arith, nat_tests)
without_push_same place (q ∷ places) = elim (cases_eq q place) [
  | inl same ↦ grind (arith, nat_tests, same, without_push_same place places)
  | inr differs ↦ grind (arith, nat_tests, without_push_same place places)
]

pub without_push_other : (place other : ℕ) (places : List ℕ) → other ≢ place → without place (places ++ other ∷ []) ≡ without place places ++ other ∷ []
without_push_other place other [] apart = grind (arith, nat_tests)
without_push_other place other (q ∷ places) apart = elim (cases_eq q place) [
  | inl same ↦ grind (arith, nat_tests, same, without_push_other place other places apart)
  | inr differs ↦ grind (arith, nat_tests, without_push_other place other places apart)
]

pub closed_one : (state : PlaceState) → closed state ≤ 1
closed_one Closed = omega arith
closed_one Idle = omega arith
closed_one Queued = omega arith

pub without-take : (place n : ℕ) (places : List ℕ) → times place places ≡ 0 → without place (take n places) ≡ take n places
without-take place n places none =
    without-none place (take n places) (omega (arith, none, sum_by-take-drop (λ q. cond (q == place) 1 0) places n))
