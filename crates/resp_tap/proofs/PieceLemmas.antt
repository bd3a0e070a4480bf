-- A piece that is read result by result.
use Rattle.std.proofs.Common.{◌≡◌, ◌∙◌, ◌-◌, ℕ, List, [], ◌∷◌, drop, length, take, Option, Result, Ok, Err, ap, refl, subst, sym}
use Rattle.std.proofs.lemmas.List.{take_rest}
use Rattle.std.specs.Result.{result_and}
use Rattle.resp_print.specs.declared.print_error.PrintError.{PrintError}
use Rattle.resp_tap.specs.Watches.{KeepsOther, StepOn, WatchesAll}
use Rattle.resp_tap.specs.declared.seen.Seen.{Seen}
use Rattle.resp_tap.specs.declared.tap.Tap.{Tap}
use Rattle.resp_tap.specs.declared.watch.Side.{Side}
use Rattle.resp_tap.specs.declared.watch.Side.TheVariants.{Client, Server}
use Rattle.resp_tap.specs.declared.watch.Watched.{Watched}

-- a list without a length is empty
pub no_bytes : (bytes : List ℕ) → length bytes ≡ 0 → bytes ≡ []
no_bytes [] none = refl
no_bytes (byte ∷ bytes) none = absurd (cc)

pub keeps_on : (side : Side) (first next last : Tap) → KeepsOther side first next → KeepsOther side next last → KeepsOther side first last
keeps_on Client first next last keeps more = λ front taken. more front (keeps front taken)
keeps_on Server first next last keeps more = λ front taken. more front (keeps front taken)

-- a success after a result changes nothing
pub no_error_after : (a : Result (Unit {0}) PrintError) → result_and a (Ok tt) ≡ a
no_error_after (Ok done) = refl
no_error_after (Err error) = refl

-- the first error of three results
pub error_of_three : (a b c : Result (Unit {0}) PrintError) → result_and a (result_and b c) ≡ result_and (result_and a b) c
error_of_three (Ok done) b c = refl
error_of_three (Err error) b c = refl

-- the bytes read of the rest, after the bytes read before it, are read of the piece
pub record HasWatched {S : Type 0} (Step : StepOn S) (first now : S) (piece rest : List ℕ) (before so_far : Option (List ℕ))
    (failures failed : ℕ) (printed : Result (Unit {0}) PrintError) : Type 0 where
  pub and_all : (more : List Seen) (new : S) (after : Option (List ℕ)) (failures' : ℕ) (later : Result (Unit {0}) PrintError) →
      WatchesAll Step more now new rest so_far after failed failures' later → (all : List Seen) ×
      WatchesAll Step all first new piece before after failures failures' (result_and printed later)

-- one step more
pub watched_more : {S : Type 0} (Step : StepOn S) (first now next : S) (piece rest : List ℕ) (watched : Watched)
    (before so_far written : Option (List ℕ)) (failures failed failed' : ℕ) (printed printed' : Result (Unit {0}) PrintError) →
    HasWatched Step first now piece rest before so_far failures failed printed →
    (what : Seen) × Step now next rest watched what so_far written failed failed' →
    printed' ≡ result_and printed watched.printed →
    HasWatched Step first next piece (take (length rest - watched.used) (drop watched.used rest)) before written failures failed' printed'
watched_more Step first now next piece rest watched before so_far written failures failed failed' printed printed' has step is_printed =
    record {
      and_all = λ more new after failures' later beyond.
          let all = has.and_all (step.0 ∷ more) new after failures' (result_and watched.printed later) (
            next,
            watched,
            written,
            failed',
            later,
            step.1,
            refl,
            subst (λ rest. WatchesAll Step more next new rest written after failed' failures' later) (take_rest rest watched.used) beyond,
          ) in (
            all.0,
            subst (WatchesAll Step all.0 first new piece before after failures failures')
                (error_of_three printed watched.printed later ∙ ap (λ told. result_and told later) (sym is_printed))
                all.1,
          );
    }

-- the whole piece
pub watched_all : {S : Type 0} (Step : StepOn S) (first now : S) (piece rest : List ℕ)
    (before so_far : Option (List ℕ)) (failures failed : ℕ) (printed : Result (Unit {0}) PrintError) →
    HasWatched Step first now piece rest before so_far failures failed printed → length rest ≡ 0 →
    (all : List Seen) × WatchesAll Step all first now piece before so_far failures failed printed
watched_all Step first now piece rest before so_far failures failed printed has none =
    let all = has.and_all [] now so_far failed (Ok tt) (no_bytes rest none, refl, refl, refl, refl) in (
      all.0,
      subst (WatchesAll Step all.0 first now piece before so_far failures failed) (no_error_after printed) all.1,
    )
