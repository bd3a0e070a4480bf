-- What a scanner has read of a value, from what its calls say.
use Rattle.std.specs.Prelude.{◌↔◌, IfErr, IsErrAnd, IsOk, MatchResult}
use Rattle.std.proofs.Common.{◌≡◌, inl, inr, ℕ, zero, suc, ◌<◌, Bool, true, false, List, [], ◌∷◌, ◌++◌, length, take, drop, MatchBool, Option, Result, Ok, Err, refl, sym, ap, subst, ◌∙◌, arith, append_assoc, append-nil, take-append-drop}
use Rattle.std.proofs.lemmas.List.{take_all}
use Rattle.resp_value.specs.Data.{Datum}
use Rattle.resp_value.specs.Trees.{Tree, Spells}
use Rattle.resp_value.specs.TreeValues.{value}
use Rattle.resp_value.specs.Rules.{Rules, WithinTotal}
use Rattle.resp_value.specs.Spellings.{IsSpelling, IsViable}
use Rattle.resp_value.specs.declared.cause.Cause.{Cause}
use Rattle.resp_value.specs.declared.cause.Cause.TheVariants as cause
use Rattle.resp_fronts.specs.Events.{all_events}
use Rattle.resp_scan.specs.Kinds.{rules_of}
use Rattle.resp_scan.specs.Listening.{HearsPiece, HearsRefusal, HearsValue}
use Rattle.resp_scan.specs.Machine.Tokens.{Place}
use Rattle.resp_scan.specs.Reading.{Events, HasNoSpelling, HasNoValue, HasRead, IsRefused, MayEnd}
use Rattle.resp_scan.specs.declared.event.Fault.{Fault}
use Rattle.resp_scan.specs.declared.event.Scanned.{Scanned}
use Rattle.resp_decode.proofs.Feeding.{due_at_start, fault_of_refused, no_value_at_start}
use Rattle.resp_cli_stream.specs.Counts.{IsAny, LeavesNothing, no_text}
use Rattle.resp_cli_stream.specs.Scans.{HasLookedAt, HasScanned}
use Rattle.resp_cli_stream.specs.Takings.{EndsInput, IsByteFault, IsEndFault, LeavesRefused, TakesUnfinished, WritesPart, WritesValue}
use Rattle.resp_cli_stream.specs.declared.rendering.RenderStop.{RenderStop}
use Rattle.resp_cli_stream.specs.declared.rendering.RenderStop.TheVariants as stop
use Rattle.resp_print.specs.Written.{AppendsPart}
use Rattle.resp_print.proofs.WrittenLemmas.{Appends-none}
use Rattle.resp_cli_stream.proofs.Outcomes.{is_that_error}
use Rattle.resp_cli_stream.proofs.Rendered.{begins_none, spelled_one}

-- between two values nothing was scanned
pub scanned_nothing : (s : Place) → HasRead s [] [] → HasScanned s [] []
scanned_nothing s reads = record {
  reads = reads;
  all_due = λ rest whole spells. due_at_start (all_events whole);
  no_value = no_value_at_start;
}

-- a front without a value is no text
pub no_whole_text : (front : List ℕ) → HasNoValue front → (tree : Tree) → Spells tree front → ⊥
no_whole_text front none tree spells =
    none (length front) tree (subst (Spells tree) (sym (take_all (length front) front (omega arith))) spells)

-- so a value that ends after it uses bytes
pub value_uses_some : (front piece : List ℕ) (used : ℕ) (tree : Tree) → HasNoValue front → Spells tree (front ++ take used piece) → 0 < used
value_uses_some front piece zero tree none spells = absurd (no_whole_text front none tree (subst (Spells tree) (append-nil front) spells))
value_uses_some front piece (suc used) tree none spells = omega arith

-- the byte that is refused is the first after which nothing can follow
pub byte_fault : (r : Rules) (front piece : List ℕ) (fault : Fault) (given : Events) → IsRefused r front given piece fault →
    IsByteFault r (front ++ piece) fault.cause fault.at
byte_fault r front piece fault given w = record {
  rule = w.refused.rule;
  names = w.refused.names;
  fault_of = fault_of_refused r front piece fault given w;
}

-- no front of a text without a value is a spelling
pub no_spelling_without_value : (r : Rules) (front : List ℕ) → HasNoValue front → HasNoSpelling r front
no_spelling_without_value r front none n spelled = none n spelled.tree spelled.spells

-- an input that ends between two values
pub ends_between : (r : Rules) (front : List ℕ) → HasNoValue front → MayEnd r front → front ≡ []
ends_between r front none (inl is) = is
ends_between r front none (inr s) = absurd (no_whole_text front none s.tree s.spells)

-- an input that ends inside one
pub ends_inside : (r : Rules) (front : List ℕ) (c : Cause) (at : ℕ) → IsViable r WithinTotal front → c ≡ cause.Truncated → at ≡ length front →
    (front ≡ [] → ⊥) → IsEndFault r front c at
ends_inside r front c at viable names place begun = record { names = names; place = place; begun = some front begun; viable = viable }
  where
    some : (xs : List ℕ) → (xs ≡ [] → ⊥) → 0 < length xs
    some [] h = absurd (h refl)
    some (x ∷ xs) h = omega arith

-- What comes of a piece that is only looked at.

pub looks_on : (r : Rules) (s s' : Place) (H : Events → Type 0) (front piece so_far : List ℕ) (held : Option (List ℕ)) (scanned : Scanned) →
    HasLookedAt s front so_far →
    ((given : Events) → HasRead s front given → scanned.is_whole ≡ true → HearsValue r s' H (front ++ take scanned.used piece)) →
    ((given : Events) → HasRead s front given → scanned.is_whole ≡ false → HearsPiece s' H (front ++ piece)) →
    (scanned.is_whole ≡ false → scanned.used ≡ length piece) → rules_of s' ≡ r →
    MatchBool scanned.is_whole
    ((0 < scanned.used) × WritesValue r no_text IsAny (HasLookedAt s') (front ++ take scanned.used piece) so_far held held)
    ((scanned.used ≡ length piece) × TakesUnfinished r (HasLookedAt s') (front ++ piece) so_far held held)
looks_on r s s' H front piece so_far held scanned looked whole part all same = case scanned.is_whole refl
  where
    case : (b : Bool) → scanned.is_whole ≡ b → MatchBool b
        ((0 < scanned.used) × WritesValue r no_text IsAny (HasLookedAt s') (front ++ take scanned.used piece) so_far held held)
        ((scanned.used ≡ length piece) × TakesUnfinished r (HasLookedAt s') (front ++ piece) so_far held held)
    case true is =
        let ((given, scanned_so), nothing) = looked in
        let h = whole given scanned_so.reads is in (
          value_uses_some front piece scanned.used h.is_value.tree scanned_so.no_value h.is_value.spells,
          record {
            value = value h.is_value.tree;
            spelling = record { tree = h.is_value.tree; spells = h.is_value.spells; keeps = h.is_value.keeps; valued = refl };
            written = tt;
            more = [];
            appended = Appends-none held;
            whole = sym (append-nil so_far ∙ nothing);
            takes = (([], scanned_nothing s' h.reads), refl);
          },
        )
    case false is =
        let ((given, scanned_so), nothing) = looked in
        let h = part given scanned_so.reads is in (
          all is,
          record {
            no_value = h.no_value;
            viable = subst (λ z. IsViable z WithinTotal (front ++ piece)) same h.viable;
            more = [];
            appended = Appends-none held;
            takes = ((h.heard, record { reads = h.reads; all_due = h.all_due; no_value = h.no_value }), append-nil so_far ∙ nothing);
          },
        )

-- a rest that is refused where nothing was written
pub nothing_left : {r : Rules} {F : List ℕ → Cause → ℕ → Type 0} {whole so_far : List ℕ} {held : Option (List ℕ)} {c : Cause} {at : ℕ} → so_far ≡ [] →
    F whole c at → HasNoSpelling r whole → LeavesRefused r F LeavesNothing whole so_far held held c at
nothing_left {r} {F} {whole} {so_far} {held} nothing fault none =
    record { fault = fault; no_spelling = none; more = []; appended = Appends-none held; is_left = append-nil so_far ∙ nothing }

pub looks_refused : (r : Rules) (s : Place) (H : Events → Type 0) (front piece so_far : List ℕ) (held : Option (List ℕ)) (fault : Fault) →
    HasLookedAt s front so_far →
    ((given : Events) → HasRead s front given → HearsRefusal r H front piece fault) →
    LeavesRefused r (IsByteFault r) LeavesNothing (front ++ piece) so_far held held fault.cause fault.at
looks_refused r s H front piece so_far held fault looked refusal =
    let ((given, scanned_so), nothing) = looked in
    let h = refusal given scanned_so.reads in
    nothing_left nothing (byte_fault r front piece fault h.heard h.refused) h.refused.no_value

-- nothing more was written
pub no_part : {r : Rules} {text : Datum → List ℕ} {whole so_far : List ℕ} {held : Option (List ℕ)} → so_far ≡ [] →
    WritesPart r text LeavesNothing whole so_far held held
no_part {r} {text} {whole} {so_far} {held} nothing = record {
  begins = begins_none whole;
  begun = [];
  is_begun = refl;
  more = [];
  later = [];
  parts = sym (append-nil so_far ∙ nothing);
  appended = Appends-none held;
}

-- a piece at the place where a value ends
pub cut : (front piece : List ℕ) (used : ℕ) → front ++ piece ≡ (front ++ take used piece) ++ drop used piece
cut front piece used = ap (λ z. front ++ z) (sym (take-append-drop used piece)) ∙ sym (append_assoc front (take used piece) (drop used piece))

-- a first part of the text of a value that was read
pub part_of_value : {r : Rules} (text : Datum → List ℕ) (x : Datum) (front piece : List ℕ) {so_far : List ℕ} (used : ℕ) {before after : Option (List ℕ)} →
    so_far ≡ [] → IsSpelling r x (front ++ take used piece) → AppendsPart before after (text x) →
    WritesPart r text LeavesNothing (front ++ piece) so_far before after
part_of_value {r} text x front piece {so_far} used {before} {after} nothing spelling written = record {
  begins = record { values = x ∷ []; front = front ++ take used piece; rest = drop used piece; spelled = spelled_one spelling; whole = cut front piece used };
  begun = [];
  is_begun = refl;
  more = written.part;
  later = written.beyond;
  parts = append-nil (text x ++ []) ∙ append-nil (text x) ∙ written.whole ∙ ap (λ z. z ++ (written.part ++ written.beyond)) (sym nothing);
  appended = written.appended;
}

-- the end of the input, where nothing was written
pub looks_ended : (r : Rules) (text : Datum → List ℕ) (front so_far : List ℕ) (held : Option (List ℕ)) (ended : Result (Unit {0}) Fault)
    (result : Result (Unit {0}) RenderStop) → HasNoValue front → IsViable r WithinTotal front → so_far ≡ [] → (IsOk ended ↔ MayEnd r front) →
    IfErr ended (λ fault. (fault.cause ≡ cause.Truncated) × (fault.at ≡ length front)) →
    MatchResult ended (λ x. result ≡ Ok x) (λ fault. IsErrAnd result (λ s. s ≡ stop.Fault fault)) →
    EndsInput r text LeavesNothing LeavesNothing front so_far held held result
looks_ended r text front so_far held (Ok x) result none viable nothing may truncated is =
    subst (EndsInput r text LeavesNothing LeavesNothing front so_far held held) (sym is) (ends_between r front none (may.0 refl), nothing, Appends-none held)
looks_ended r text front so_far held (Err fault) result none viable nothing may truncated is =
    subst (EndsInput r text LeavesNothing LeavesNothing front so_far held held) (sym (is_that_error result (stop.Fault fault) is))
    (nothing_left nothing (ends_inside r front fault.cause fault.at viable truncated.0 truncated.1 (λ e. let wrong = may.1 (inl e) in absurd (cc)))
    (no_spelling_without_value r front none))
