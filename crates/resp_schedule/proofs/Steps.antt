-- Each call keeps the lists of a schedule together.
use Rattle.std.proofs.Common.{◌≡◌, ◌≢◌, inl, inr, ℕ, zero, suc, subst, ◌+◌, ◌-◌, ◌<◌, ◌≤◌, true, cond, List, [], ◌∷◌, ◌++◌, length, take, drop, get_or, refl, sym, ap, ◌∙◌, arith}
use Rattle.std.specs.List.{count_by, sum_by}
use Rattle.std.proofs.Math.ListN.{set}
use Rattle.std.proofs.lemmas.List.{length-set, length-append, get_or-set_same, get_or-set_other, get_or_default, get_or_past}
use Rattle.std.proofs.lemmas.List.Sums.{sum_by_push, sum_by-set}
use Rattle.std.proofs.lemmas.Bool.{cases_eq}
use Rattle.resp_schedule.specs.Places.{times, without}
use Rattle.resp_schedule.specs.Plans.{is_open}
use Rattle.resp_schedule.specs.declared.schedule.PlaceState.{PlaceState}
use Rattle.resp_schedule.specs.declared.schedule.PlaceState.TheVariants.{Closed, Idle, Queued}
use Rattle.resp_schedule.specs.Stands.{Stands, queued, closed}
use Rattle.resp_schedule.proofs.Lists.{times-cons_same, times-cons_other, times_push_same, times_push_other, times-without_same, times-without_other, length-without, queued_within, closed_within, open_within, queued_is, closed_is, closed_or_open, closed_one, times-drop-le}

-- 1 for an open place
abbrev pub opened : PlaceState → ℕ
opened state = cond (is_open state) 1 0

-- sums after a place changed its state
pub sum-set : (f : PlaceState → ℕ) (states : List PlaceState) (place : ℕ) (before after default : PlaceState) → place < length states →
    get_or states place default ≡ before → sum_by f (set states place after) + f before ≡ sum_by f states + f after
sum-set f states place before after default within was =
    ap (λ s. sum_by f (set states place after) + f s) (sym was) ∙ sum_by-set f states place after default within

-- what holds of each place, after one place changed its state
pub each-set : (f : PlaceState → ℕ) (states : List PlaceState) (place : ℕ) (after default : PlaceState) (old new : List ℕ) → place < length states →
    ((other : ℕ) → times other old ≡ f (get_or states other default)) → times place new ≡ f after →
    ((other : ℕ) → other ≢ place → times other new ≡ times other old) →
    (other : ℕ) → times other new ≡ f (get_or (set states place after) other default)
each-set f states place after default old new within before here there other = elim (cases_eq other place) [
  | inl same ↦ subst (λ p. times p new ≡ f (get_or (set states place after) p default)) (sym same)
      (here ∙ sym (ap f (get_or-set_same states place after default within)))
  | inr apart ↦ there other apart ∙ before other ∙ ap f (sym (get_or-set_other states place other after default apart))
]

-- the first place of the queue leaves it
pub pops : (states : List PlaceState) (place : ℕ) (rest : List ℕ) (due : ℕ) (free : List ℕ) (reusable opens most q f : ℕ) → 0 < due →
    Stands states (place ∷ rest) due free reusable opens most q f →
    Stands (set states place Idle) rest (due - 1) free reusable opens most q f
pops states place rest due free reusable opens most q f some s =
    let count : 0 < queued (get_or states place Closed) = omega (arith, s.is_queued place, times-cons_same place rest) in
    let was : get_or states place Closed ≡ Queued = queued_is _ count in
    let within : place < length states = queued_within states place count in
    let was_too : get_or states place Idle ≡ Queued = get_or_default states place Idle Closed within ∙ was in
    let all : sum_by queued (set states place Idle) + 1 ≡ sum_by queued states + 0 = sum-set queued states place Queued Idle Closed within was in
    let shut : sum_by closed (set states place Idle) + 0 ≡ sum_by closed states + 0 = sum-set closed states place Queued Idle Closed within was in
    let live : count_by is_open (set states place Idle) + 1 ≡ count_by is_open states + 1 = sum-set opened states place Queued Idle Closed within was in
    record {
      is_queued = each-set queued states place Idle Closed (place ∷ rest) rest within s.is_queued
          (omega (arith, s.is_queued place, times-cons_same place rest, ap queued was)) (λ other apart. sym (times-cons_other place other rest apart));
      is_free = each-set closed states place Idle Idle free free within s.is_free (s.is_free place ∙ ap closed was_too) (λ _ _. refl);
      queue_length = omega (arith, s.queue_length, all);
      free_length = omega (arith, s.free_length, shut);
      open_count = omega (arith, s.open_count, live);
      at_most = s.at_most;
      due_within = omega (arith, s.due_within);
      reusable_within = s.reusable_within;
      queue_room = omega (arith, s.queue_room, length-set states place Idle);
      free_room = omega (arith, s.free_room, length-set states place Idle);
    }

-- an idle place is queued last
pub pushes : (states : List PlaceState) (place : ℕ) (queue : List ℕ) (due : ℕ) (free : List ℕ) (reusable opens most q f : ℕ) →
    get_or states place Closed ≡ Idle → Stands states queue due free reusable opens most q f →
    Stands (set states place Queued) (queue ++ place ∷ []) due free reusable opens most q f
pushes states place queue due free reusable opens most q f was s =
    let within : place < length states = open_within states place (ap is_open was) in
    let was_too : get_or states place Idle ≡ Idle = get_or_default states place Idle Closed within ∙ was in
    let all : sum_by queued (set states place Queued) + 0 ≡ sum_by queued states + 1 = sum-set queued states place Idle Queued Closed within was in
    let shut : sum_by closed (set states place Queued) + 0 ≡ sum_by closed states + 0 = sum-set closed states place Idle Queued Closed within was in
    let live : count_by is_open (set states place Queued) + 1 ≡ count_by is_open states + 1 = sum-set opened states place Idle Queued Closed within was in
    record {
      is_queued = each-set queued states place Queued Closed queue (queue ++ place ∷ []) within s.is_queued
          (omega (arith, s.is_queued place, times_push_same place queue, ap queued was)) (λ other apart. times_push_other place other queue apart);
      is_free = each-set closed states place Queued Idle free free within s.is_free (s.is_free place ∙ ap closed was_too) (λ _ _. refl);
      queue_length = omega (arith, s.queue_length, all, length-append queue (place ∷ []));
      free_length = omega (arith, s.free_length, shut);
      open_count = omega (arith, s.open_count, live);
      at_most = s.at_most;
      due_within = omega (arith, s.due_within, length-append queue (place ∷ []));
      reusable_within = s.reusable_within;
      queue_room = omega (arith, s.queue_room, length-set states place Queued);
      free_room = omega (arith, s.free_room, length-set states place Queued);
    }

-- the first free place is opened again
pub reuses : (states : List PlaceState) (queue : List ℕ) (due place : ℕ) (rest : List ℕ) (reusable opens most q f : ℕ) → 0 < reusable → opens < most →
    Stands states queue due (place ∷ rest) reusable opens most q f →
    Stands (set states place Idle) queue due rest (reusable - 1) (opens + 1) most q f
reuses states queue due place rest reusable opens most q f some few s =
    let count : 0 < closed (get_or states place Idle) = omega (arith, s.is_free place, times-cons_same place rest) in
    let was_too : get_or states place Idle ≡ Closed = closed_is _ count in
    let within : place < length states = closed_within states place count in
    let was : get_or states place Closed ≡ Closed = get_or_default states place Closed Idle within ∙ was_too in
    let all : sum_by queued (set states place Idle) + 0 ≡ sum_by queued states + 0 = sum-set queued states place Closed Idle Closed within was in
    let shut : sum_by closed (set states place Idle) + 1 ≡ sum_by closed states + 0 = sum-set closed states place Closed Idle Closed within was in
    let live : count_by is_open (set states place Idle) + 0 ≡ count_by is_open states + 1 = sum-set opened states place Closed Idle Closed within was in
    record {
      is_queued = each-set queued states place Idle Closed queue queue within s.is_queued (s.is_queued place ∙ ap queued was) (λ _ _. refl);
      is_free = each-set closed states place Idle Idle (place ∷ rest) rest within s.is_free
          (omega (arith, s.is_free place, times-cons_same place rest, ap closed was_too)) (λ other apart. sym (times-cons_other place other rest apart));
      queue_length = omega (arith, s.queue_length, all);
      free_length = omega (arith, s.free_length, shut);
      open_count = omega (arith, s.open_count, live);
      at_most = omega (arith, few);
      due_within = s.due_within;
      reusable_within = omega (arith, s.reusable_within);
      queue_room = omega (arith, s.queue_room, length-set states place Idle);
      free_room = omega (arith, s.free_room, length-set states place Idle);
    }

-- a place beyond the list has the same number as a new one
pub push_same : (f : PlaceState → ℕ) (states : List PlaceState) (default : PlaceState) → f default ≡ f Idle →
    (other : ℕ) → f (get_or states other default) ≡ f (get_or (states ++ Idle ∷ []) other default)
push_same f [] default same zero = same
push_same f [] default same (suc other) = refl
push_same f (state ∷ states) default same zero = refl
push_same f (state ∷ states) default same (suc other) = push_same f states default same other

-- a new place is opened
pub adds : (states : List PlaceState) (queue : List ℕ) (due : ℕ) (free : List ℕ) (reusable opens most q f q' f' : ℕ) → opens < most →
    length states + 1 ≤ q' → length states + 1 ≤ f' → Stands states queue due free reusable opens most q f →
    Stands (states ++ Idle ∷ []) queue due free reusable (opens + 1) most q' f'
adds states queue due free reusable opens most q f q' f' few to_queue to_free s = record {
  is_queued = λ other. s.is_queued other ∙ push_same queued states Closed refl other;
  is_free = λ other. s.is_free other ∙ push_same closed states Idle refl other;
  queue_length = omega (arith, s.queue_length, sum_by_push queued states Idle);
  free_length = omega (arith, s.free_length, sum_by_push closed states Idle);
  open_count = omega (arith, s.open_count, sum_by_push opened states Idle);
  at_most = omega (arith, few);
  due_within = s.due_within;
  reusable_within = s.reusable_within;
  queue_room = omega (arith, to_queue, length-append states (Idle ∷ []));
  free_room = omega (arith, to_free, length-append states (Idle ∷ []));
}

-- an idle place is closed
pub closes_idle : (states : List PlaceState) (place : ℕ) (queue : List ℕ) (due : ℕ) (free : List ℕ) (reusable opens most q f : ℕ) →
    get_or states place Closed ≡ Idle → Stands states queue due free reusable opens most q f →
    Stands (set states place Closed) queue due (free ++ place ∷ []) reusable (opens - 1) most q f
closes_idle states place queue due free reusable opens most q f was s =
    let within : place < length states = open_within states place (ap is_open was) in
    let was_too : get_or states place Idle ≡ Idle = get_or_default states place Idle Closed within ∙ was in
    let all : sum_by queued (set states place Closed) + 0 ≡ sum_by queued states + 0 = sum-set queued states place Idle Closed Closed within was in
    let shut : sum_by closed (set states place Closed) + 0 ≡ sum_by closed states + 1 = sum-set closed states place Idle Closed Closed within was in
    let live : count_by is_open (set states place Closed) + 1 ≡ count_by is_open states + 0 = sum-set opened states place Idle Closed Closed within was in
    record {
      is_queued = each-set queued states place Closed Closed queue queue within s.is_queued (s.is_queued place ∙ ap queued was) (λ _ _. refl);
      is_free = each-set closed states place Closed Idle free (free ++ place ∷ []) within s.is_free
          (omega (arith, s.is_free place, times_push_same place free, ap closed was_too)) (λ other apart. times_push_other place other free apart);
      queue_length = omega (arith, s.queue_length, all);
      free_length = omega (arith, s.free_length, shut, length-append free (place ∷ []));
      open_count = omega (arith, s.open_count, live);
      at_most = omega (arith, s.at_most);
      due_within = s.due_within;
      reusable_within = omega (arith, s.reusable_within, length-append free (place ∷ []));
      queue_room = omega (arith, s.queue_room, length-set states place Closed);
      free_room = omega (arith, s.free_room, length-set states place Closed);
    }

-- the same three of lists that are known to begin with the place
pub queue_within : (states : List PlaceState) (place : ℕ) (queue rest : List ℕ) (due : ℕ) (free : List ℕ) (reusable opens most q f : ℕ) →
    queue ≡ place ∷ rest → Stands states queue due free reusable opens most q f → place < length states
queue_within states place queue rest due free reusable opens most q f begins s =
    queued_within states place (omega (arith, sym (s.is_queued place) ∙ ap (times place) begins, times-cons_same place rest))

pub free_within : (states : List PlaceState) (place : ℕ) (queue : List ℕ) (due : ℕ) (free rest : List ℕ) (reusable opens most q f : ℕ) →
    free ≡ place ∷ rest → Stands states queue due free reusable opens most q f → place < length states
free_within states place queue due free rest reusable opens most q f begins s =
    closed_within states place (omega (arith, sym (s.is_free place) ∙ ap (times place) begins, times-cons_same place rest))

pub pops_first : (states : List PlaceState) (place : ℕ) (queue rest : List ℕ) (due : ℕ) (free : List ℕ) (reusable opens most q q' f : ℕ) →
    queue ≡ place ∷ rest → q' ≡ q → 0 < due → Stands states queue due free reusable opens most q f →
    Stands (set states place Idle) rest (due - 1) free reusable opens most q' f
pops_first states place queue rest due free reusable opens most q q' f begins same some s =
    subst (λ room. Stands (set states place Idle) rest (due - 1) free reusable opens most room f) (sym same)
    (pops states place rest due free reusable opens most q f some
    (subst (λ xs. Stands states xs due free reusable opens most q f) begins s))

pub reuses_first : (states : List PlaceState) (place : ℕ) (queue : List ℕ) (due : ℕ) (free rest : List ℕ) (reusable opens most q f f' : ℕ) →
    free ≡ place ∷ rest → f' ≡ f → 0 < reusable → opens < most → Stands states queue due free reusable opens most q f →
    Stands (set states place Idle) queue due rest (reusable - 1) (opens + 1) most q f'
reuses_first states place queue due free rest reusable opens most q f f' begins same some few s =
    subst (λ room. Stands (set states place Idle) queue due rest (reusable - 1) (opens + 1) most q room) (sym same)
    (reuses states queue due place rest reusable opens most q f some few
    (subst (λ xs. Stands states queue due xs reusable opens most q f) begins s))

-- the number of open places stays, where an open place stays open
pub count-set : (states : List PlaceState) (place : ℕ) (before after : PlaceState) → get_or states place Closed ≡ before → is_open before ≡ true →
    is_open after ≡ true → count_by is_open (set states place after) ≡ count_by is_open states
count-set states place before after was live stays =
    let within : place < length states = open_within states place (ap is_open was ∙ live) in
    omega (arith, sum-set opened states place before after Closed within was, ap {B = ℕ} (λ b. cond b 1 0) live, ap {B = ℕ} (λ b. cond b 1 0) stays)

-- the state of the first place of the queue
pub first_is : (states : List PlaceState) (place : ℕ) (queue rest : List ℕ) (due : ℕ) (free : List ℕ) (reusable opens most q f : ℕ) →
    queue ≡ place ∷ rest → Stands states queue due free reusable opens most q f → get_or states place Closed ≡ Queued
first_is states place queue rest due free reusable opens most q f begins s =
    queued_is _ (omega (arith, sym (s.is_queued place) ∙ ap (times place) begins, times-cons_same place rest))

-- the first place of a list that is not empty, and what is taken of the rest
pub take_first : (due : ℕ) (queue : List ℕ) (place : ℕ) (rest : List ℕ) → queue ≡ place ∷ rest → 0 < due →
    take due queue ≡ place ∷ take (due - 1) rest
take_first zero queue place rest begins some = absurd (omega (arith, some))
take_first (suc due) queue place rest begins some =
    let less : due ≡ suc due - 1 = omega arith in
    ap (take (suc due)) begins ∙ ap (λ n. place ∷ take n rest) less

pub drop_first : (n : ℕ) (free : List ℕ) (place : ℕ) (rest : List ℕ) → free ≡ place ∷ rest → 0 < n → drop n free ≡ drop (n - 1) rest
drop_first zero free place rest begins some = absurd (omega (arith, some))
drop_first (suc n) free place rest begins some =
    let less : n ≡ suc n - 1 = omega arith in
    ap (drop (suc n)) begins ∙ ap (λ m. drop m rest) less

-- the first free place is not among those that were closed in this round
pub not_gone : (states : List PlaceState) (place : ℕ) (queue : List ℕ) (due : ℕ) (free rest : List ℕ) (reusable opens most q f : ℕ) →
    free ≡ place ∷ rest → 0 < reusable → Stands states queue due free reusable opens most q f → times place (drop reusable free) ≡ 0
not_gone states place queue due free rest reusable opens most q f begins some s =
    let known : times place (place ∷ rest) ≡ closed (get_or states place Idle) = sym (ap (times place) begins) ∙ s.is_free place in
    ap (times place) (drop_first reusable free place rest begins some) ∙
    omega (arith, known, times-cons_same place rest, closed_one (get_or states place Idle), times-drop-le place (reusable - 1) rest)

-- a new place is not free
pub new_is_not_gone : (states : List PlaceState) (place : ℕ) (queue : List ℕ) (due : ℕ) (free : List ℕ) (reusable opens most q f : ℕ) →
    length states ≤ place → Stands states queue due free reusable opens most q f → times place (drop reusable free) ≡ 0
new_is_not_gone states place queue due free reusable opens most q f beyond s =
    omega (arith, times-drop-le place reusable free, s.is_free place, ap closed (get_or_past states place Idle beyond))

-- the state of the first free place
pub free_is : (states : List PlaceState) (place : ℕ) (queue : List ℕ) (due : ℕ) (free rest : List ℕ) (reusable opens most q f : ℕ) →
    free ≡ place ∷ rest → Stands states queue due free reusable opens most q f → get_or states place Closed ≡ Closed
free_is states place queue due free rest reusable opens most q f begins s =
    let within : place < length states = free_within states place queue due free rest reusable opens most q f begins s in
    get_or_default states place Closed Idle within ∙
    closed_is _ (omega (arith, sym (s.is_free place) ∙ ap (times place) begins, times-cons_same place rest))

-- one more place is open
pub count-open : (states : List PlaceState) (place : ℕ) → place < length states → get_or states place Closed ≡ Closed →
    count_by is_open (set states place Idle) ≡ count_by is_open states + 1
count-open states place within was = omega (arith, sum-set opened states place Closed Idle Closed within was)

-- one place fewer is open
pub count-close : (states : List PlaceState) (place : ℕ) (before : PlaceState) → get_or states place Closed ≡ before → is_open before ≡ true →
    count_by is_open (set states place Closed) + 1 ≡ count_by is_open states
count-close states place before was live =
    let within : place < length states = open_within states place (ap is_open was ∙ live) in
    omega (arith, sum-set opened states place before Closed Closed within was, ap {B = ℕ} (λ b. cond b 1 0) live)

-- the same of lists that are known to be these
pub adds_to : (states states' : List PlaceState) (queue queue' : List ℕ) (due : ℕ) (free free' : List ℕ) (reusable opens most q f q' f' : ℕ) →
    states' ≡ states ++ Idle ∷ [] → queue' ≡ queue → free' ≡ free → opens < most → length states + 1 ≤ q' → length states + 1 ≤ f' →
    Stands states queue due free reusable opens most q f → Stands states' queue' due free' reusable (opens + 1) most q' f'
adds_to states states' queue queue' due free free' reusable opens most q f q' f' grown same_queue same_free few to_queue to_free s =
    subst (λ xs. Stands xs queue' due free' reusable (opens + 1) most q' f') (sym grown)
    (subst (λ xs. Stands (states ++ Idle ∷ []) xs due free' reusable (opens + 1) most q' f') (sym same_queue)
    (subst (λ xs. Stands (states ++ Idle ∷ []) queue due xs reusable (opens + 1) most q' f') (sym same_free)
    (adds states queue due free reusable opens most q f q' f' few to_queue to_free s)))

-- a queued place is taken out of the queue
pub dequeues : (states : List PlaceState) (place : ℕ) (queue queue' : List ℕ) (due left : ℕ) (free : List ℕ) (reusable opens most q q' f : ℕ) →
    get_or states place Closed ≡ Queued → queue' ≡ without place queue → left ≤ length queue' → q' ≡ q →
    Stands states queue due free reusable opens most q f → Stands (set states place Idle) queue' left free reusable opens most q' f
dequeues states place queue queue' due left free reusable opens most q q' f was removed fits same s =
    let within : place < length states = open_within states place (ap is_open was) in
    let was_too : get_or states place Idle ≡ Queued = get_or_default states place Idle Closed within ∙ was in
    let once : times place queue ≡ 1 = s.is_queued place ∙ ap queued was in
    let all : sum_by queued (set states place Idle) + 1 ≡ sum_by queued states + 0 = sum-set queued states place Queued Idle Closed within was in
    let shut : sum_by closed (set states place Idle) + 0 ≡ sum_by closed states + 0 = sum-set closed states place Queued Idle Closed within was in
    let live : count_by is_open (set states place Idle) + 1 ≡ count_by is_open states + 1 = sum-set opened states place Queued Idle Closed within was in
    record {
      is_queued = each-set queued states place Idle Closed queue queue' within s.is_queued
          (ap (times place) removed ∙ times-without_same place queue) (λ other apart. ap (times other) removed ∙ times-without_other place other queue apart);
      is_free = each-set closed states place Idle Idle free free within s.is_free (s.is_free place ∙ ap closed was_too) (λ _ _. refl);
      queue_length = omega (arith, s.queue_length, all, length-without place queue, once, ap length removed);
      free_length = omega (arith, s.free_length, shut);
      open_count = omega (arith, s.open_count, live);
      at_most = s.at_most;
      due_within = fits;
      reusable_within = s.reusable_within;
      queue_room = omega (arith, s.queue_room, same, length-set states place Idle);
      free_room = omega (arith, s.free_room, length-set states place Idle);
    }

-- there is room for one more free place beside an open one
pub room_to_close : (states : List PlaceState) (place : ℕ) (queue : List ℕ) (due : ℕ) (free : List ℕ) (reusable opens most q f : ℕ) →
    get_or states place Closed ≡ Idle → Stands states queue due free reusable opens most q f → length free < f
room_to_close states place queue due free reusable opens most q f was s =
    omega (arith, s.free_length, s.free_room, closed_or_open states, count-close states place Idle was refl)

-- an idle place is closed, in lists that are known to be these
pub closes : (states : List PlaceState) (place : ℕ) (queue : List ℕ) (due : ℕ) (free free' : List ℕ) (reusable opens most q f f' : ℕ) →
    get_or states place Closed ≡ Idle → free' ≡ free ++ place ∷ [] → f' ≡ f → Stands states queue due free reusable opens most q f →
    Stands (set states place Closed) queue due free' reusable (opens - 1) most q f'
closes states place queue due free free' reusable opens most q f f' was grown same s =
    subst (λ xs. Stands (set states place Closed) queue due xs reusable (opens - 1) most q f') (sym grown)
    (subst (λ room. Stands (set states place Closed) queue due (free ++ place ∷ []) reusable (opens - 1) most q room) (sym same)
    (closes_idle states place queue due free reusable opens most q f was s))
