-- The items kept for the commands that wait, and the texts printed from them.
use Rattle.std.proofs.Common.{arith, ◌≡◌, ◌∙◌, ◌-◌, ◌&&◌, ℕ, Bool, true, false, List, Option, ap, drop, inl, inr, length, nat_lt, refl, subst, sym}
use Rattle.std.specs.Prelude.{IfSome, None, Result, Some, option_map, slice_get}
use Rattle.std.specs.Slice.{IsItemAt}
use Rattle.std.specs.Borrow.{Bor}
use Rattle.std.proofs.lemmas.Bool.{ltb-true}
use Rattle.std.proofs.lemmas.Option.{slice_get_past, slice_get_read}
use Rattle.resp_print.specs.Printed.{Prints}
use Rattle.resp_print.specs.declared.print_error.PrintError.{PrintError}
use Rattle.resp_tap.specs.Keeping.{Follows, IsNew, KeptBy, new_words}
use Rattle.resp_tap.specs.declared.seen.Seen.{Seen}

-- what is kept at an index, as it is read
pub kept_at : {A : Type 0} (kept : List A) (i : ℕ) (r : Option (Bor A)) → IsItemAt kept i r → option_map (λ item. item.now) r ≡ slice_get kept i
kept_at kept i None item = sym (slice_get_past kept i item.3)
kept_at kept i (Some x) item = sym (slice_get_read kept (length kept) i x.now refl item.3.0 item.1)

-- no command waits no more where one more waits
pub none_gone : (before after : ℕ) → nat_lt before after ≡ true → before - after ≡ 0
none_gone before after more = omega (arith, ltb-true before after more)

pub none_gone_also : (before after : ℕ) (also : Bool) → (nat_lt before after && also) ≡ true → before - after ≡ 0
none_gone_also before after also more = none_gone before after (grind (arith, more))

-- only a command that waits has words
pub has_words : (more : Bool) (what : Seen) (words : List (List ℕ)) → new_words more what ≡ Some words → more ≡ true
has_words true what words is = refl
has_words false what words is = absurd (cc)

-- the items after a result, to which one was added or not
pub kept_by : {A : Type 0} (IsOf : List (List ℕ) → A → Type 0) (words : Option (List (List ℕ))) (gone : ℕ) (item : Option A)
    (old new : List A) → ((some : List (List ℕ)) → words ≡ Some some → gone ≡ 0) → IfSome item (IsNew IsOf words) →
    Follows item gone old new → KeptBy IsOf words gone old new
kept_by IsOf None gone None old new none is follows = follows
kept_by IsOf (Some words) gone None old new none is follows = inl (follows ∙ ap (λ n. drop n old) (none words refl))
kept_by IsOf None gone (Some item) old new none is follows = absurd is
kept_by IsOf (Some words) gone (Some item) old new none is (inl same) = inl same
kept_by IsOf (Some words) gone (Some item) old new none is (inr added) = inr (item, is, added)

-- a text was printed, and so was an equal one
pub prints_same : (r : Result (Unit {0}) PrintError) (a b : Option (List ℕ)) (f g : ℕ) (text text' : List ℕ)
    (levels : ℕ) → text ≡ text' → Prints a b f g r text levels → Prints a b f g r text' levels
prints_same r a b f g text text' levels e printed = subst (λ t. Prints a b f g r t levels) e printed
