-- What `canon` has taken and written of a value, from what the scanner says and the draft has.
use Rattle.std.proofs.Common.{◌≡◌, ℕ, ◌<◌, ◌≤◌, List, [], ◌++◌, length, take, drop, Option, Some, refl, sym, ap, subst, ◌∙◌, arith, append-nil}
use Rattle.resp_value.specs.Canonical.{canonical_text, Fits}
use Rattle.resp_value.specs.Data.{Datum}
use Rattle.resp_io.specs.Devices.{Appends}
use Rattle.resp_value.specs.Laws.{WhatWasReadFitsButForTotal}
use Rattle.resp_value.specs.Rules.{Rules, WithinTotal}
use Rattle.resp_value.specs.Spellings.{IsSpelling, IsViable}
use Rattle.resp_value.specs.TreeValues.{value}
use Rattle.resp_scan.specs.Kinds.{rules_of}
use Rattle.resp_scan.specs.Listening.{HearsPiece, HearsValue}
use Rattle.resp_scan.specs.Machine.Tokens.{Place}
use Rattle.resp_scan.specs.Reading.{HasNoValue}
use Rattle.resp_decode.specs.Builds.{nothing}
use Rattle.resp_decode.proofs.Values.{value_is_built}
use Rattle.resp_cli_stream.specs.Counts.{LeavesNothing}
use Rattle.resp_cli_stream.specs.Drafts.{HasBegunDraft, HasDrafted, IsDraftOf}
use Rattle.resp_cli_stream.specs.Takings.{BeginsUnwritten, TakesUnfinished, WritesPart, WritesValue}
use Rattle.resp_print.specs.Written.{AppendsPart}
use Rattle.resp_cli_stream.specs.declared.draft.Draft.{Draft}
use Rattle.resp_cli_stream.proofs.Drafting.{draft_is_text}
use Rattle.resp_cli_stream.proofs.Scanned.{cut, part_of_value, scanned_nothing, value_uses_some}
use Rattle.resp_print.proofs.WrittenLemmas.{Appends-none}

-- a value that was read whole, and the draft of it, which has its text
pub record IsDrafted (r : Rules) (draft : Draft) (written : List ℕ) : Type 0 where
  pub x : Datum
  pub spelling : IsSpelling r x written
  pub drafted : IsDraftOf draft (record nothing { whole = Some x })
  pub text : draft.text.items ≡ canonical_text r.version x

pub is_drafted : (r : Rules) (s : Place) (draft : Draft) (written : List ℕ) → HearsValue r s (HasDrafted r.version draft) written → IsDrafted r draft written
is_drafted r s draft written h =
    let b = value_is_built r written h.heard h.is_value in
    let drafted : IsDraftOf draft (record nothing { whole = Some (value b.tree) }) = subst (IsDraftOf draft) b.is h.has_heard.1 in
    record {
      x = value b.tree;
      spelling = b.spelling;
      drafted = drafted;
      text = draft_is_text draft (value b.tree) drafted ∙ ap (λ v. canonical_text v (value b.tree)) h.has_heard.0;
    }

-- a value that was read and written whole
pub drafts_value : WhatWasReadFitsButForTotal → (r : Rules) (s : Place) (draft next : Draft) (front piece so_far : List ℕ) (before after : Option (List ℕ))
    (used : ℕ) → HasNoValue front → so_far ≡ [] → HearsValue r s (HasDrafted r.version draft) (front ++ take used piece) → rules_of s ≡ r →
    next.version ≡ draft.version → ((x : Datum) → IsDraftOf draft (record nothing { whole = Some x }) → IsDraftOf next nothing) → length draft.text.items ≤ r.limits.total →
    Appends before after draft.text.items →
    (0 < used) × WritesValue r (canonical_text r.version) (Fits r) (HasBegunDraft r s next) (front ++ take used piece) so_far before after
drafts_value law r s draft next front piece so_far before after used none nothing h same same_version begins short appended =
    let is = is_drafted r s draft (front ++ take used piece) h in
    let (is_value, doubles, types, push, depth, longest, items) = law r is.x (front ++ take used piece) is.spelling in (
      value_uses_some front piece used is.spelling.tree none is.spelling.spells,
      record {
        value = is.x;
        spelling = is.spelling;
        written = record {
          allows_doubles = doubles;
          has_types = types;
          push_at_top = push;
          within_depth = depth;
          within_length = longest;
          within_items = items;
          within_total = omega (arith, short, ap length is.text);
        };
        more = draft.text.items;
        appended = appended;
        whole = sym is.text ∙ ap (λ z. z ++ draft.text.items) (sym nothing);
        takes = record {
          given = [];
          scanned = scanned_nothing s h.reads;
          drafted = (same_version ∙ h.has_heard.0, begins is.x is.drafted);
          same_rules = same;
          nothing = refl;
        };
      },
    )

-- a value whose text is over the limit of total
pub declines : (r : Rules) (s : Place) (draft : Draft) (front piece so_far : List ℕ) (used : ℕ) (held : Option (List ℕ)) → so_far ≡ [] →
    HearsValue r s (HasDrafted r.version draft) (front ++ take used piece) → r.limits.total < length draft.text.items →
    BeginsUnwritten r (Fits r) (front ++ piece) × (so_far ≡ []) × Appends held held []
declines r s draft front piece so_far used held nothing h over =
    let is = is_drafted r s draft (front ++ take used piece) h in
    let over_total : Fits r is.x → ⊥ = λ fits. omega (arith, over, ap length is.text, fits.within_total) in (
      record { value = is.x; front = front ++ take used piece; beyond = drop used piece; split = cut front piece used; spelling = is.spelling; not_written = over_total },
      nothing,
      Appends-none held,
    )

-- a first part of the text of a draft
pub part_of_draft : (r : Rules) (s : Place) (draft : Draft) (front piece so_far : List ℕ) (used : ℕ) (before after : Option (List ℕ)) → so_far ≡ [] →
    HearsValue r s (HasDrafted r.version draft) (front ++ take used piece) → AppendsPart before after draft.text.items →
    WritesPart r (canonical_text r.version) LeavesNothing (front ++ piece) so_far before after
part_of_draft r s draft front piece so_far used before after nothing h written =
    let is = is_drafted r s draft (front ++ take used piece) h in
    part_of_value (canonical_text r.version) is.x front piece used nothing is.spelling (subst (AppendsPart before after) is.text written)

-- a piece that was taken whole
pub drafts_front : (r : Rules) (s : Place) (draft : Draft) (front piece so_far : List ℕ) (held : Option (List ℕ)) → so_far ≡ [] →
    HearsPiece s (HasDrafted r.version draft) (front ++ piece) → rules_of s ≡ r →
    TakesUnfinished r (HasBegunDraft r s draft) (front ++ piece) so_far held held
drafts_front r s draft front piece so_far held nothing h same = record {
  no_value = h.no_value;
  viable = subst (λ z. IsViable z WithinTotal (front ++ piece)) same h.viable;
  more = [];
  appended = Appends-none held;
  takes = record {
    given = h.heard;
    scanned = record { reads = h.reads; all_due = h.all_due; no_value = h.no_value };
    drafted = h.has_heard;
    same_rules = same;
    nothing = append-nil so_far ∙ nothing;
  };
}
