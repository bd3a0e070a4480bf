use Rattle.std.proofs.Common.{◌≡◌, ℕ, ◌<◌, ◌^◌, Bool, eqb, refl, ap, ◌∙◌, arith}
use Rattle.resp_c.specs.Pairs.{ValueLook, look_of, nested_by}
use Rattle.resp_c.proofs.ShownEvents.{none_shown_by, shown, shown_by, whole_shown_by}
use Rattle.resp_c.proofs.pairing.resp_pairing_take.Goals as goal

pub returns-clause-shows : goal.returns-clause-shows
returns-clause-shows c = λ not_done.
    let out = c.args.event.now in
    let look = look_of c.args.pairing.now in
    let now : ValueLook = record { nested = c.nested_after-pairing.result; refuses = eqb c.refuses_after-pairing.result 1 } in
    let told : look.nested < 2 ^ 63 → now ≡ shown look out.kind out.form = λ few.
    ap (λ (n : ℕ). let z : ValueLook = record { nested = n; refuses = eqb c.refuses_after-pairing.result 1 } in z)
    (c.nested_after-pairing.ensures (omega (arith, few)))
    ∙ ap (λ (b : Bool). let z : ValueLook = record { nested = nested_by look.nested out.kind out.form; refuses = b } in z)
    c.refuses_after-pairing.ensures in
    record {
      event = λ few event tells. told few ∙ shown_by look out event tells;
      whole = λ few kind bytes tells. told few ∙ whole_shown_by look out kind bytes tells;
      none = λ few none. told few ∙ none_shown_by look out none;
      same_waiting = refl;
      same_answered = refl;
    }
