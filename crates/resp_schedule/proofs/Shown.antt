-- What a plan shows after a place changed its state.
use Rattle.std.proofs.Common.{◌≡◌, ℕ, ◌-◌, ◌<◌, List, ◌∷◌, length, take, get_or, refl, sym, ap, subst, ◌∙◌}
use Rattle.std.specs.List.{count_by}
use Rattle.std.proofs.Math.ListN.{set}
use Rattle.std.proofs.lemmas.List.{get_or-set_same, get_or-set_other}
use Rattle.resp_schedule.specs.Plans.{Plan, Changes, VisitsNext, due_of, is_open}
use Rattle.resp_schedule.specs.declared.schedule.PlaceState.{PlaceState}
use Rattle.resp_schedule.specs.declared.schedule.PlaceState.TheVariants.{Closed, Idle, Queued}
use Rattle.resp_schedule.proofs.Steps.{take_first, count-set}

-- one place was written
pub changes_at : (shown old new : Plan) (place : ℕ) (before after : PlaceState) → shown ≡ old → get_or shown.states place Closed ≡ before →
    place < length shown.states → new.states ≡ set shown.states place after → Changes old new place before after
changes_at shown old new place before after same was within written =
    subst (λ plan. Changes plan new place before after) same record {
      was = was;
      now = ap (λ states. get_or states place Closed) written ∙ get_or-set_same shown.states place after Closed within;
      others = λ other apart. ap (λ states. get_or states other Closed) written ∙ get_or-set_other shown.states place other after Closed apart;
    }

-- the same places are due
pub due_is : (old new : Plan) → new.queue ≡ old.queue → new.due ≡ old.due → due_of new ≡ due_of old
due_is old new queue due = ap (λ n. take n new.queue) due ∙ ap (take old.due) queue

-- nothing else changes
pub rest_is : (shown old : Plan) (states : List PlaceState) (gone : List ℕ) → shown ≡ old → gone ≡ shown.gone →
    record shown { states = states; gone = gone } ≡ record old { states = states }
rest_is shown old states gone same kept =
    ap (λ g. record shown { states = states; gone = g }) kept ∙ ap (λ (plan : Plan). record plan { states = states }) same

-- the first place that is due was visited
pub visits_first : (shown old new : Plan) (place : ℕ) → shown ≡ old → shown.queue ≡ place ∷ new.queue → 0 < shown.due →
    new.due ≡ shown.due - 1 → new.states ≡ set shown.states place Idle → get_or shown.states place Closed ≡ Queued →
    place < length shown.states → new.gone ≡ shown.gone → new.backlog ≡ shown.backlog → new.most ≡ shown.most → VisitsNext old new place
visits_first shown old new place same begins some fewer written was within gone backlog most =
    subst (λ plan. VisitsNext plan new place) same record {
      due = take_first shown.due shown.queue place new.queue begins some ∙ ap (λ n. place ∷ take n new.queue) (sym fewer);
      queue = begins;
      idle = changes_at shown shown new place Queued Idle refl was within written;
      counted = ap (count_by is_open) written ∙ count-set shown.states place Queued Idle was refl refl;
      gone = gone;
      backlog = backlog;
      most = most;
    }
