-- What a client has heard, by what its world shows.
use Rattle.std.proofs.Common.{◌≡◌, inr, ◌≤◌, ℕ, zero, suc, true, false, List, [], ◌∷◌, Option, None, Some, length, drop, refl, sym, ap, subst, ◌∙◌, arith}
use Rattle.std.specs.List.{drop-map}
use Rattle.std.specs.Option.{IfSome}
use Rattle.resp_session.specs.Connections.{Connection, shown_pushes, shown_replies}
use Rattle.resp_session.specs.Runs.{is_gone}
use Rattle.resp_session.specs.Worlds.{connection_at}
use Rattle.resp_value.specs.Values.{datum_of}
use Rattle.resp_value.specs.declared.value.Members.{Members}
use Rattle.resp_value.specs.declared.value.Value.{Value}
use Rattle.resp_value.specs.declared.value.Value.TheVariants as value
use Rattle.resp_wire.specs.Worlds.{pushes_with, values_in}
use Rattle.resp_wire.specs.declared.event.Outcome.{Outcome}
use Rattle.resp_wire.specs.declared.event.Outcome.TheVariants.{Done, Refused, Gone}
use Rattle.resp_value.specs.Data.{Datum}
use Rattle.resp_cli_loop.specs.Plays.{AreThere}
use Rattle.resp_cli_loop.specs.Printed.{HaveTooDeep}

-- there is no client 0
pub none_at_zero : (cs : List Connection) → connection_at cs 0 ≡ None
none_at_zero [] = refl
none_at_zero (c ∷ cs) = refl

-- a client of no connection has none
pub never_there : (cs : List Connection) (i : ℕ) (c : Connection) (P : Type 0) → connection_at cs i ≡ Some c → connection_at cs i ≡ None → P
never_there cs i c P there none = let never : Some c ≡ None = sym there ∙ none in absurd (cc)

-- where a client has a connection among some, it has one among as many others
pub still_there : (cs ds : List Connection) (i : ℕ) (c : Connection) → length ds ≡ length cs → connection_at cs i ≡ Some c →
    (d : Connection) × (connection_at ds i ≡ Some d)
still_there cs ds zero c as_many there = never_there cs 0 c ((d : Connection) × (connection_at ds 0 ≡ Some d)) there (none_at_zero cs)
still_there [] ds (suc i) c as_many there = absurd (cc)
still_there (c' ∷ cs) [] (suc i) c as_many there = absurd (omega (arith, as_many))
still_there (c' ∷ cs) (d ∷ ds) (suc zero) c as_many there = (d, refl)
still_there (c' ∷ cs) (d ∷ ds) (suc (suc i)) c as_many there = still_there cs ds (suc i) c (omega (arith, as_many)) there

-- an event that happened is of a connection that stands before and after
pub are_there : (outcome : Outcome) (c d : Option Connection) → (outcome ≡ Done → is_gone c ≡ false) →
    ((x : Connection) → c ≡ Some x → (y : Connection) × (d ≡ Some y)) → AreThere outcome c d
are_there Done None d stands still = let never : true ≡ false = stands refl in absurd (cc)
are_there Done (Some x) d stands still = let (y, is) = still x refl in subst (AreThere Done (Some x)) (sym is) tt
are_there (Refused cause) c d stands still = tt
are_there Gone c d stands still = tt

-- what was heard beyond some replies, as it is shown
pub replies_beyond : (replies : List Value) (count : ℕ) (o : Option Connection) (c : Connection) → o ≡ Some c →
    IfSome o (λ c. values_in replies ≡ shown_replies c) → values_in (drop count replies) ≡ drop count (shown_replies c)
replies_beyond replies count o c is shown =
    let all : values_in replies ≡ shown_replies c = subst (λ o. IfSome o (λ c. values_in replies ≡ shown_replies c)) is shown in
    sym (drop-map datum_of count replies) ∙ ap (drop count) all

-- and beyond some pushes
pub pushes_beyond : (pushes : List Members) (count : ℕ) (o : Option Connection) (c : Connection) → o ≡ Some c →
    IfSome o (λ c. pushes_with pushes ≡ shown_pushes c) → pushes_with (drop count pushes) ≡ drop count (shown_pushes c)
pushes_beyond pushes count o c is shown =
    let all : pushes_with pushes ≡ shown_pushes c = subst (λ o. IfSome o (λ c. pushes_with pushes ≡ shown_pushes c)) is shown in
    sym (drop-map (λ (items : Members). datum_of (value.Push items)) count pushes) ∙ ap (drop count) all

-- a client among all of them has a connection
pub there_is : (cs : List Connection) (i : ℕ) → 1 ≤ i → i ≤ length cs → (c : Connection) × (connection_at cs i ≡ Some c)
there_is [] i some few = absurd (omega (arith, some, few))
there_is (c ∷ cs) zero some few = absurd (omega (arith, some))
there_is (c ∷ cs) (suc zero) some few = (c, refl)
there_is (c ∷ cs) (suc (suc i)) some few = there_is cs (suc i) (omega arith) (omega (arith, few))

-- a value beyond some that is nested too deeply is among all of them
pub deep_beyond : (count : ℕ) (xs : List Datum) → HaveTooDeep (drop count xs) → HaveTooDeep xs
deep_beyond zero xs deep = deep
deep_beyond (suc count) [] deep = deep
deep_beyond (suc count) (x ∷ xs) deep = inr (deep_beyond count xs deep)
