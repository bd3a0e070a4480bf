-- What `check` writes, after a stream of which nothing was written.
use Rattle.std.proofs.Common.{◌≡◌, ℕ, List, [], ◌∷◌, length, flat_map, Option, Err, refl, ap, subst, ◌∙◌}
use Rattle.resp_value.specs.Data.{Datum}
use Rattle.resp_io.specs.Devices.{Appends}
use Rattle.resp_value.specs.Rules.{Rules}
use Rattle.resp_cli_stream.specs.Counts.{Counts, CountsBy, IsAny, LeavesNothing, counts_line, no_text}
use Rattle.resp_cli_stream.specs.Streams.{RendersCounted, RendersStopped}
use Rattle.resp_print.specs.Written.{AppendsPart}
use Rattle.resp_cli_stream.specs.declared.stream.Totals.{Totals}
use Rattle.resp_cli_args.specs.declared.tool_error.ToolError.{ToolError}
use Rattle.resp_cli_args.specs.declared.tool_error.ToolError.TheVariants as e
use Rattle.resp_print.proofs.WrittenLemmas.{Appends-append}

-- values without texts
no_texts : (xs : List Datum) → flat_map no_text xs ≡ []
no_texts [] = refl
no_texts (x ∷ xs) = no_texts xs

-- the line of the counts
same_line : (r : Rules) (bytes : List ℕ) (before after : Option (List ℕ)) (totals : Totals) (s : RendersCounted r no_text IsAny bytes before after totals) →
    counts_line totals.values totals.bytes ≡ counts_line (length s.values) (length bytes)
same_line r bytes before after totals s = ap (λ n. counts_line n totals.bytes) s.value_count ∙ ap (λ n. counts_line (length s.values) n) s.byte_count

nothing_before : (r : Rules) (bytes : List ℕ) (before mid : Option (List ℕ)) (totals : Totals) → RendersCounted r no_text IsAny bytes before mid totals →
    Appends before mid []
nothing_before r bytes before mid totals s = subst (Appends before mid) (no_texts s.values) s.all.appended

-- what holds of the line as it is written, after a stream of which nothing was
counts_by : (IsLine : List ℕ → Type 0) {r rules : Rules} {bytes : List ℕ} {before mid : Option (List ℕ)} {totals : Totals} → rules ≡ r →
    RendersCounted rules no_text IsAny bytes before mid totals →
    (Appends before mid [] → IsLine (counts_line totals.values totals.bytes)) → CountsBy IsLine r bytes
counts_by IsLine {r = r} {rules = rules} {bytes = bytes} {before = before} {mid = mid} {totals = totals} same stream line =
    let s = subst (λ q. RendersCounted q no_text IsAny bytes before mid totals) same stream in
    record {
      values = s.values;
      cut = s.all.cut;
      few = s.all.few;
      line = subst IsLine (same_line r bytes before mid totals s) (line (nothing_before r bytes before mid totals s));
    }

pub counts_all : {r rules : Rules} {bytes : List ℕ} {before mid : Option (List ℕ)} {totals : Totals} (after : Option (List ℕ)) → rules ≡ r →
    RendersCounted rules no_text IsAny bytes before mid totals → Appends mid after (counts_line totals.values totals.bytes) →
    CountsBy (Appends before after) r bytes
counts_all {before = before} {mid = mid} {totals = totals} after same stream line = counts_by (Appends before after) same stream
    (λ nothing. Appends-append before mid after [] (counts_line totals.values totals.bytes) nothing line)

pub counts_part : {r rules : Rules} {bytes : List ℕ} {before mid after : Option (List ℕ)} {totals : Totals} → rules ≡ r →
    RendersCounted rules no_text IsAny bytes before mid totals → AppendsPart mid after (counts_line totals.values totals.bytes) →
    CountsBy (AppendsPart before after) r bytes
counts_part {before = before} {mid = mid} {after = after} same stream line = counts_by (AppendsPart before after) same stream (λ nothing. record {
  part = line.part;
  beyond = line.beyond;
  whole = line.whole;
  appended = Appends-append before mid after [] line.part nothing line.appended;
})

-- what comes of a stop: a writer that wasn't written to doesn't fail
pub counts_stopped : (r : Rules) (bytes : List ℕ) (before after : Option (List ℕ)) (error : ToolError) → (error ≡ e.Write → ⊥) →
    RendersStopped r no_text IsAny LeavesNothing LeavesNothing bytes before after error → Counts r bytes before after (Err error)
counts_stopped r bytes before after (e.Refused number c at) other s = s
counts_stopped r bytes before after (e.OverLimits number) other s = s
counts_stopped r bytes before after e.TooManyValues other s = s
counts_stopped r bytes before after e.Read other s = s
counts_stopped r bytes before after e.Write other s = absurd (other refl)
counts_stopped r bytes before after e.TooManyTurns other s = s
counts_stopped r bytes before after e.Memory other s = s
