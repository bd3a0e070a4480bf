-- A step counts the bytes that it takes, and changes nothing else.
use Rattle.std.proofs.Common.{◌≡◌, ℕ, ◌+◌, List, Option, Some, None, Result, Ok, Err, Bool, true, false, eqb, refl, ap, arith}
use Rattle.resp_scan.specs.declared.machine.State.{State}
use Rattle.resp_scan.specs.declared.machine.State.TheVariants as state
use Rattle.resp_scan.specs.declared.machine.Machine.{Machine}
use Rattle.resp_scan.specs.declared.event.Event.{Event}
use Rattle.resp_scan.specs.declared.event.Event.TheVariants as event
use Rattle.resp_scan.specs.declared.event.Step.{Step}
use Rattle.resp_scan.specs.declared.event.Fault.{Fault}
use Rattle.resp_scan.specs.Machine.Tokens.{Place}
use Rattle.resp_scan.specs.Machine.Scan.{Out, More, Gave, Part, Whole, Bad}
use Rattle.resp_scan.specs.Machine.Fields.{place_of, token_at}
use Rattle.resp_scan.specs.Machine.Sound.{IsSoundBy, IsSound}
use Rattle.resp_scan.specs.Machine.StepOutcomes.{after_bytes, after_step, out_of_step, out_of_event, out_of_part}
use Rattle.resp_scan.proofs.Soundness.Kept.{IsOut}

token_counted : (x : State) (m : Machine) (n : ℕ) → token_at x (record m { taken = n }) ≡ token_at x m
token_counted state.Start m n = refl
token_counted x m n = refl

-- the place of a machine that counts more bytes
pub place_counted : (m : Machine) (n : ℕ) → place_of (record m { taken = m.taken + n }) ≡ after_bytes n (place_of m)
place_counted m n = ap (λ t. record (after_bytes n (place_of m)) { token = t }) (token_counted m.state m (m.taken + n))

-- a place is as sound once the bytes of a piece are counted
pub sound_counted : (s : Place) (n : ℕ) → IsSoundBy n s → IsSound (after_bytes n s)
sound_counted s n h = record {
  bounds = h.bounds;
  nested = h.nested;
  counted = h.counted;
  frames_need = h.frames_need;
  total = omega (arith, h.total);
  token =
      h.token;
}

-- where a step leads is as sound as where it began
abbrev pub IsCounted : Out → Type 0
IsCounted (More n t) = IsSound t
IsCounted (Gave n e t) = IsSound t
IsCounted (Part k n t) = IsSound t
IsCounted (Whole t) = IsSound t × (t.taken ≡ 0)
IsCounted (Bad n c t) = IsSound t

-- an outcome is as sound once its bytes are counted
pub counted_out : (s : Place) (o : Out) → IsOut s o → IsCounted (after_step o)
counted_out s (More n t) h = sound_counted t n h.sound
counted_out s (Gave n e t) h = sound_counted t n h.0.sound
counted_out s (Part k n t) h = sound_counted t n h.sound
counted_out s (Whole t) h = (h.0, h.1)
counted_out s (Bad n c t) h = sound_counted t n h.0.sound

part_sound : (b : Bool) (n : ℕ) (p : List ℕ) (t : Place) → IsCounted (out_of_part b n p t) → IsSound t
part_sound true n p t h = h
part_sound false n p t h = h

whole_sound : (n : ℕ) (t : Place) → IsSound (after_bytes n t) → (after_bytes n t).taken ≡ 0 → IsSound t
whole_sound n t h e = record {
  bounds = h.bounds;
  nested = h.nested;
  counted = h.counted;
  frames_need = h.frames_need;
  total =
      omega (arith, h.total, e);
  token = h.token;
}

-- the place that a step leaves is sound
pub sound_heard : (u : ℕ) (r : Result Step Fault) (t : Place) → IsCounted (out_of_step u r t) → IsSound t
sound_heard u (Ok a) t h = go a.event h
  where
    go : (e : Option Event) → IsCounted (out_of_event a.used e t) → IsSound t
    go None h = h
    go (Some event.Null) h = h
    go (Some (event.Bool v)) h = h
    go (Some (event.Int i)) h = h
    go (Some (event.Text k)) h = h
    go (Some (event.Part p)) h = part_sound (eqb a.used 0) a.used p.now t h
    go (Some event.TextEnd) h = h
    go (Some (event.Open k c)) h = h
    go (Some event.Close) h = h
    go (Some event.Done) h = whole_sound a.used t h.0 h.1
sound_heard u (Err f) t h = h
