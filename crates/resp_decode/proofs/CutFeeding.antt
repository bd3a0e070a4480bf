-- What a decoder that keeps the first bytes of each text has taken, from what its scanner and its listener say.
use Rattle.std.proofs.Common.{◌≡◌, ℕ, ◌≤◌, Option, None, Some, List, [], length, refl, sym, ap, subst, ◌∙◌, arith}
use Rattle.std.specs.Prelude.{IfNone, IfSome}
use Rattle.std.proofs.lemmas.List.{append-nil}
use Rattle.resp_value.specs.TreeValues.{value}
use Rattle.resp_value.specs.Data.{Datum}
use Rattle.resp_value.specs.Rules.{Rules, WithinTotal}
use Rattle.resp_value.specs.Spellings.{IsSpelling, IsViable}
use Rattle.resp_value.specs.Values.{datum_of}
use Rattle.resp_value.specs.Cuts.{IsCutOf, cut, cut_lengths}
use Rattle.resp_value.specs.declared.cut_value.CutValue.{CutValue}
use Rattle.resp_scan.specs.Kinds.{rules_of}
use Rattle.resp_scan.specs.Reading.{BeginDue, IsFaulted}
use Rattle.resp_scan.specs.Listening.{HearsValue}
use Rattle.resp_scan.specs.Machine.Tokens.{Place}
use Rattle.resp_scan.specs.declared.event.Fault.{Fault}
use Rattle.resp_decode.specs.Builds.{Construction, built_from, nothing}
use Rattle.resp_decode.specs.CutBuilds.{cut_construction, lengths_of}
use Rattle.resp_decode.specs.Holding.{construction_of, maybe_datum}
use Rattle.resp_decode.specs.Keeping.{HasKept, KeepsNothing}
use Rattle.resp_decode.specs.Standing.{TakesFront, TakesOrStands}
use Rattle.resp_decode.specs.declared.kept.Kept.{Kept}
use Rattle.resp_decode.proofs.Feeding.{takes_nothing, within}
use Rattle.resp_decode.proofs.Keeping.{kept_is_lighter}
use Rattle.resp_decode.proofs.Values.{are_good, value_is_built}

-- what keeps nothing keeps the first bytes of nothing
pub keeps_nothing : (kept : Kept) → KeepsNothing kept → HasKept kept kept.shown []
keeps_nothing kept none = (
  refl,
  record { holds = none.holds; weighs = none.weighs; lengths = none.lengths; counts = tt },
)

-- the weight of what is kept is at most the bytes taken
pub is_kept_light : (s : Place) (kept : Kept) (front : List ℕ) → TakesFront (HasKept kept kept.shown) s front →
    IsViable (rules_of s) WithinTotal front → kept.held.weight ≤ length front
is_kept_light s kept front w viable =
    let begin : BeginDue front w.given = λ rest whole spells. ([], w.all_due rest whole spells ∙ sym (append-nil w.given)) in
    let good = are_good (rules_of s) front w.given viable begin in
    omega (arith, w.heard.1.weighs, kept_is_lighter kept.shown (built_from w.given), good.weight)

-- where a value ends the first bytes of its texts are held, and their lengths
pub record KeepsWhole (r : Rules) (kept : Kept) (shown : ℕ) (written : List ℕ) : Type 0 where
  pub whole : Datum
  pub spelling : IsSpelling r whole written
  pub holds : construction_of kept.held ≡ record nothing { whole = Some (cut shown whole) }
  pub lengths : kept.lengths.items ≡ cut_lengths shown whole

pub keeps_whole : (r : Rules) (s : Place) (kept : Kept) (shown : ℕ) (written : List ℕ) → HearsValue r s (HasKept kept shown) written →
    KeepsWhole r kept shown written
keeps_whole r s kept shown written h =
    let b = value_is_built r written h.heard h.is_value in
    let same = h.has_heard.0 in
    let k = h.has_heard.1 in
    record {
      whole = value b.tree;
      spelling = b.spelling;
      holds = k.holds ∙ ap (cut_construction kept.shown) b.is ∙ ap (λ n. cut_construction n (record nothing { whole = Some (value b.tree) })) same;
      lengths = k.lengths ∙ ap (lengths_of kept.shown) b.is ∙ ap (λ n. lengths_of n (record nothing { whole = Some (value b.tree) })) same;
    }

-- what is left when they are taken out is nothing
leaves_nothing : (r : Rules) (kept left : Kept) (shown : ℕ) (written : List ℕ) → KeepsWhole r kept shown written →
    construction_of left.held ≡ record (construction_of kept.held) { whole = None } → left.held.weight ≡ 0 →
    left.lengths.items ≡ [] → KeepsNothing left
leaves_nothing r kept left shown written k holds weighs lengths = record {
  holds = holds ∙ ap (λ b. let c : Construction = record b { whole = None } in c) k.holds;
  weighs = weighs;
  lengths = lengths;
}

-- and nothing is taken of the next
pub takes_next_cut : (r : Rules) (s : Place) (kept left : Kept) (shown : ℕ) (written : List ℕ) →
    HearsValue r s (HasKept kept shown) written →
    construction_of left.held ≡ record (construction_of kept.held) { whole = None } → left.held.weight ≡ 0 →
    left.lengths.items ≡ [] → TakesFront (HasKept left left.shown) s []
takes_next_cut r s kept left shown written h holds weighs lengths = takes_nothing (HasKept left left.shown) s h.reads
    (keeps_nothing left (leaves_nothing r kept left shown written (keeps_whole r s kept shown written h) holds weighs
    lengths))

-- what is taken out is the cut value
pub gives_cut : (r : Rules) (kept : Kept) (shown : ℕ) (written : List ℕ) (x : CutValue) → (k : KeepsWhole r kept shown written) →
    maybe_datum (Some x.value) ≡ (construction_of kept.held).whole → x.lengths.items ≡ kept.lengths.items → IsCutOf shown k.whole x
gives_cut r kept shown written x k taken lengths =
    let same : Some (datum_of x.value) ≡ Some (cut shown k.whole) = taken ∙ ap (λ b. let c : Construction = b in c.whole) k.holds in
    record { value = of_some same; lengths = lengths ∙ k.lengths }
  where
    of_some : {y z : Datum} → Some y ≡ Some z → y ≡ z
    of_some e = cc

-- what a call says where it returns nothing, and where it returns something
pub where_none : {A : Type 0} (o : Option A) (P : Type 0) → o ≡ None → IfNone o P → P
where_none o P none h = subst (λ z. IfNone z P) none h

pub where_some : {A : Type 0} (o : Option A) (P : A → Type 0) (x : A) → o ≡ Some x → IfSome o P → P x
where_some o P x some h = subst (λ z. IfSome z P) some h

-- so one is taken out
pub keeps_some_value : (r : Rules) (kept : Kept) (shown : ℕ) (written : List ℕ) → KeepsWhole r kept shown written → (construction_of kept.held).whole ≡ None → ⊥
keeps_some_value r kept shown written k none =
    let wrong : None ≡ Some (cut shown k.whole) = sym none ∙ ap (λ b. let c : Construction = b in c.whole) k.holds in
    cc

-- as many bytes are shown as before, whatever was taken
pub as_many_shown : (s : Place) (kept kept' : Kept) →
    ∥ TakesOrStands (HasKept kept kept.shown) (KeepsNothing kept) s ∥₁ → ((fault : Fault) → IsFaulted s fault → ⊥) →
    ((front : List ℕ) → TakesFront (HasKept kept kept.shown) s front → kept'.shown ≡ kept.shown) →
    kept'.shown ≡ kept.shown
as_many_shown s kept kept' reading never same =
    let less : kept'.shown ≤ kept.shown = within kept'.shown kept.shown reading never
    (λ front w. omega (arith, same front w)) in
    let more : kept.shown ≤ kept'.shown = within kept.shown kept'.shown reading never
    (λ front w. omega (arith, same front w)) in
    omega (arith, less, more)
