-- What each call of a listener that keeps the first bytes of texts has kept.
use Rattle.std.proofs.Common.{Vec, Global, ◌≡◌, ℕ, suc, ◌+◌, ◌-◌, ◌<◌, ◌≤◌, ◌^◌, min, Bool, true, false, cond, Option, None, Some, List, [], ◌∷◌, ◌++◌, length, map, take, refl, sym, ap, subst, ◌∙◌, length-append, arith}
use Rattle.std.proofs.lemmas.List.{append-nil}
use Rattle.resp_value.specs.Rules.{WithinTotal}
use Rattle.resp_value.specs.Trees.{text}
use Rattle.resp_fronts.specs.Events.{Event, TextKind}
use Rattle.resp_fronts.specs.Events as e
use Rattle.resp_value.specs.Cuts.{kept_part, longer}
use Rattle.resp_scan.specs.Kinds.{content_events, text_kind_of}
use Rattle.resp_scan.specs.Listening.{Hears, IsTextOf, MayBeGiven, whole_text_events}
use Rattle.resp_scan.specs.Reading.{Events}
use Rattle.resp_scan.specs.declared.event.TextKind.{TextKind as ReadKind}
use Rattle.resp_value.proofs.Cutting.{longer-none}
use Rattle.resp_decode.specs.Brief.{WantMemory}
use Rattle.resp_decode.specs.Builds.{Construction, Group, Text, built_from, nothing, text_value, with_bytes, with_event, with_events, with_text_ended, with_value}
use Rattle.resp_decode.specs.CutBuilds.{cut_construction, cut_group, cut_text, cut_whole, kept_content, lengths_of, may_cut}
use Rattle.resp_decode.specs.Fits.{IsContentOf, IsInText, MayAllCome, MayBegin, MayCome, MayEndText, events_weight}
use Rattle.resp_decode.specs.Hearing.{TakesInWhereFit}
use Rattle.resp_decode.specs.Holding.{construction_of}
use Rattle.resp_decode.specs.Keeping.{CountsText, HasKept, KeepsOf}
use Rattle.resp_decode.specs.Weights.{weight_of, weight_of_text}
use Rattle.resp_decode.specs.declared.held.HeldParts.{HeldParts}
use Rattle.resp_decode.specs.declared.kept.Kept.{Kept}
use Rattle.resp_decode.proofs.Counted.{events_weigh}
use Rattle.resp_decode.proofs.Folds.{with_events-append}
use Rattle.resp_decode.proofs.HeldLemmas.{content_held}
use Rattle.resp_decode.proofs.Keeping.{IsNoByte, IsNoText, all_may_come, content_is_in_text, content_is_kept, content_may_come, event_kept, kept_is_lighter, kept_more, may_come_kept, next_kept, no_byte, put_is_cut, put_leaves_text, put_lengths, same_lengths, same_text, text_is_content, text_is_cut, text_lengths}
use Rattle.resp_decode.proofs.Taking.{brief_last, room_for, whole_text_builds}
use Rattle.resp_decode.proofs.Values.{are_good, brief_first, brief_groups}

-- events that are passed on in place of others: they may come after what is kept, and build what is kept of what the
-- others build
pub record PassesFor (shown : ℕ) (passed more : Events) (b : Construction) : Type 0 where
  pub may : MayAllCome passed (cut_construction shown b)
  pub builds : with_events passed (cut_construction shown b) ≡ cut_construction shown (with_events more b)

-- what is held then is what is kept, and so is its weight
pub record HoldsKept (shown : ℕ) (held : HeldParts) (b : Construction) : Type 0 where
  pub holds : construction_of held ≡ cut_construction shown b
  pub weighs : held.weight ≡ weight_of (cut_construction shown b)

pub holds_kept : (shown : ℕ) (old new : HeldParts) (passed more : Events) (b : Construction) (goes_on : Bool) → HoldsKept shown old b →
    TakesInWhereFit old new passed goes_on → PassesFor shown passed more b → weight_of (with_events more b) < 2 ^ 64 → goes_on ≡ true →
    HoldsKept shown new (with_events more b)
holds_kept shown old new passed more b goes_on h takes p small goes =
    let may : MayAllCome passed (construction_of old) = subst (MayAllCome passed) (sym h.holds) p.may in
    let adds : weight_of (with_events passed (cut_construction shown b)) ≡
    weight_of (cut_construction shown b) + events_weight passed (cut_construction shown b) =
    events_weigh passed (cut_construction shown b) p.may in
    let same : weight_of (with_events passed (cut_construction shown b)) ≡ weight_of (cut_construction shown (with_events more b)) = ap weight_of p.builds in
    let added : events_weight passed (construction_of old) ≡ events_weight passed (cut_construction shown b) = ap (events_weight passed) h.holds in
    let light = kept_is_lighter shown (with_events more b) in
    let t = takes may (omega (arith, adds, same, added, light, small, h.weighs)) goes in
    record {
      holds = t.holds ∙ ap (with_events passed) h.holds ∙ p.builds;
      weighs = omega (arith, t.weighs, adds, same, added, h.weighs);
    }

-- an event outside a text's content passes for itself
passes_for_itself : (shown : ℕ) (event : Event) (b : Construction) → IsNoByte event → MayAllCome (event ∷ []) b → PassesFor shown (event ∷ []) (event ∷ []) b
passes_for_itself shown event b h may = record { may = (may_come_kept shown event b may.0, tt); builds = event_kept shown event b h }

-- a call that hears events, or stops where they want memory
abbrev pub KeptHears : Kept → Kept → Events → Bool → Type 0
KeptHears old new = Hears {O = ℕ} (λ shown. HasKept old shown) (λ shown. HasKept new shown) (λ shown. WantMemory)

-- events that may be given weigh little
small_enough : (given more : Events) → MayBeGiven (given ++ more) → weight_of (with_events more (built_from given)) < 2 ^ 64
small_enough given more h =
    let good = are_good h.rules h.front (given ++ more) h.viable h.first_due in
    let within : length (text h.viable.tree) ≤ h.rules.limits.total = h.viable.keeps WithinTotal (omega arith) in
    let whole : length (text h.viable.tree) ≡ length h.front + length h.viable.rest = ap length h.viable.spells.spelled ∙ length-append h.front h.viable.rest in
    omega (arith, good.weight, ap weight_of (with_events-append given more nothing), within, whole, h.limits_in_range.total_in_range.1)

-- what one call keeps of the events of a partial value
abbrev pub KeepsMore : Kept → Kept → Events → Bool → Type 0
KeepsMore old new more goes_on = (b : Construction) → KeepsOf old b → MayAllCome more b → weight_of (with_events more b) < 2 ^ 64 → goes_on ≡ true →
    KeepsOf new (with_events more b)

-- a call that keeps its events hears them, where it may stop at the last of them
kept_hears_or_stops : (old new : Kept) (more : Events) (goes_on : Bool) → new.shown ≡ old.shown → KeepsMore old new more goes_on →
    ((given : Events) → KeepsOf old (built_from given) → goes_on ≡ false → WantMemory (given ++ more)) → KeptHears old new more goes_on
kept_hears_or_stops old new more true same keeps stops shown given h may = (
  same ∙ h.0,
  subst (KeepsOf new) (sym (with_events-append given more nothing))
      (keeps (built_from given) h.1 (room_for given more may).may (small_enough given more may) refl),
)
kept_hears_or_stops old new more false same keeps stops shown given h may =
    record { told = more; later = []; parts = sym (append-nil more); has_stopped = stops given h.1 refl }

-- a call over events of a text or an aggregate hears them, and may stop
pub kept_hears : (old new : Kept) (more : Events) (goes_on : Bool) → new.shown ≡ old.shown → KeepsMore old new more goes_on → WantMemory more →
    KeptHears old new more goes_on
kept_hears old new more goes_on same keeps want =
    kept_hears_or_stops old new more goes_on same keeps (λ given h stop brief. want (brief_last given more brief))

-- a call that stops at such events has heard them
pub kept_stops : (old new : Kept) (more : Events) (goes_on : Bool) → goes_on ≡ false → WantMemory more → KeptHears old new more goes_on
kept_stops old new more true stop want shown given h may = let wrong : true ≡ false = stop in absurd (cc)
kept_stops old new more false stop want shown given h may =
    record { told = more; later = []; parts = sym (append-nil more); has_stopped = λ brief. want (brief_last given more brief) }

no_groups : (shown : ℕ) (gs : List Group) → gs ≡ [] → map (cut_group shown) gs ≡ []
no_groups shown gs none = ap (map (cut_group shown)) none

-- Events outside texts.

pub keeps_event : (old : Kept) (held : HeldParts) (event : Event) (goes_on : Bool) → IsNoText event → TakesInWhereFit old.held held (event ∷ []) goes_on →
    ((b : Construction) → MayCome event b → b.text ≡ None) → KeepsMore old (record old { held = held }) (event ∷ []) goes_on
keeps_event old held event goes_on h takes outside b k may small goes =
    let shown = old.shown in
    let kept = holds_kept shown old.held held (event ∷ []) (event ∷ []) b goes_on (record { holds = k.holds; weighs = k.weighs }) takes
    (passes_for_itself shown event b (no_byte event h) may) small goes in
    let rests : (with_event event b).text ≡ None = same_text event b h ∙ outside b may.0 in
    record {
      holds = kept.holds;
      weighs = kept.weighs;
      lengths = k.lengths ∙ sym (same_lengths shown event b h may.0);
      counts = subst (CountsText (record old { held = held })) (sym rests) tt;
    }

-- a call over a scalar without content hears it, and stops in an aggregate alone
pub kept_hears_scalar : (old : Kept) (held : HeldParts) (event : Event) (goes_on : Bool) → IsNoText event → TakesInWhereFit old.held held (event ∷ []) goes_on →
    ((b : Construction) → MayCome event b → b.text ≡ None) → (goes_on ≡ false → (construction_of old.held).groups ≡ [] → ⊥) →
    KeptHears old (record old { held = held }) (event ∷ []) goes_on
kept_hears_scalar old held event goes_on h takes outside within =
    kept_hears_or_stops old (record old { held = held }) (event ∷ []) goes_on refl (keeps_event old held event goes_on h takes outside)
    (λ given k stop brief.
    let none : (built_from given).groups ≡ [] = brief_groups given nothing (brief_first given (event ∷ []) brief) refl in
    let same : (construction_of old.held).groups ≡ [] =
    ap (λ b. let c : Construction = b in c.groups) k.holds ∙ no_groups old.shown (built_from given).groups none in
    within stop same)

-- a call over the head or the end of an aggregate hears it
pub kept_hears_event : (old : Kept) (held : HeldParts) (event : Event) (goes_on : Bool) → IsNoText event → TakesInWhereFit old.held held (event ∷ []) goes_on →
    ((b : Construction) → MayCome event b → b.text ≡ None) → WantMemory (event ∷ []) → KeptHears old (record old { held = held }) (event ∷ []) goes_on
kept_hears_event old held event goes_on h takes outside want =
    kept_hears old (record old { held = held }) (event ∷ []) goes_on refl (keeps_event old held event goes_on h takes outside) want

-- Texts.

-- a text begins
pub keeps_text : (old : Kept) (held : HeldParts) (kind : TextKind) (cuts : Bool) → cuts ≡ may_cut kind → TakesInWhereFit old.held held (e.Text kind ∷ []) true →
    KeepsMore old (record old { held = held; cuts = cuts; count = 0 }) (e.Text kind ∷ []) true
keeps_text old held kind cuts is takes b k may small goes =
    let kept = holds_kept old.shown old.held held (e.Text kind ∷ []) (e.Text kind ∷ []) b true (record { holds = k.holds; weighs = k.weighs }) takes
    (passes_for_itself old.shown (e.Text kind) b tt may) small goes in
    record { holds = kept.holds; weighs = kept.weighs; lengths = k.lengths; counts = (is, no_count (may_cut kind)) }
  where
    no_count : (cut : Bool) → ◌≡◌ {A = ℕ} 0 (cond cut 0 0)
    no_count true = refl
    no_count false = refl

-- the text that is being read has the content and its next part
part_builds : (part : List ℕ) (b : Construction) → with_events (content_events part) b ≡ record b { text = with_bytes b.text part }
part_builds part b = content_held part b.text b

-- the first bytes of a part pass for the part
part_passes : (shown : ℕ) (part kept : List ℕ) (text : Option Text) (b : Construction) → b.text ≡ text → IsInText text → b.whole ≡ None →
    ((t : Text) → text ≡ Some t → kept ≡ next_kept shown t.kind (length t.content) part) → PassesFor shown (content_events kept) (content_events part) b
part_passes shown part kept None b is h unended same = absurd h
part_passes shown part kept (Some t) b is h unended same =
    let c = cut_construction shown b in
    let inside : cut_text shown b.text ≡ Some (record { kind = t.kind; content = kept_content shown t.kind t.content }) = ap (cut_text shown) is in
    let F : Option Text → Construction = λ z. record c { text = z } in
    let more : with_bytes (cut_text shown (Some t)) kept ≡ cut_text shown (with_bytes (Some t) part) =
    ap (λ z. Some (record { kind = t.kind; content = kept_content shown t.kind t.content ++ z })) (same t refl)
    ∙ ap (λ z. Some (record { kind = t.kind; content = z })) (kept_more shown t.kind t.content part) in
    record {
      may = content_may_come kept (cut_text shown b.text) c (subst IsInText (sym inside) tt) (ap (cut_whole shown) unended);
      builds = part_builds kept c
          ∙ ap (λ z. F (with_bytes (cut_text shown z) kept)) is
          ∙ ap F more
          ∙ ap (λ z. F (cut_text shown (with_bytes z part))) (sym is)
          ∙ ap (cut_construction shown) (sym (part_builds part b));
    }

-- the number of bytes of the text that is being read is small
text_is_small : (b : Construction) (t : Text) → b.text ≡ Some t → weight_of b < 2 ^ 64 → length t.content < 2 ^ 64
text_is_small b t is small = omega (arith, small, ap weight_of_text is)

-- a part of a text
pub keeps_part : (old : Kept) (held : HeldParts) (part kept : List ℕ) (count : ℕ) (goes_on : Bool) → 0 < length part →
    TakesInWhereFit old.held held (content_events kept) goes_on →
    kept ≡ cond old.cuts (take (suc old.shown - old.count) part) part →
    count ≡ cond old.cuts (min (old.count + length part) (2 ^ 64 - 1)) old.count →
    KeepsMore old (record old { held = held; count = count }) (content_events part) goes_on
keeps_part old held part kept count goes_on full takes is_kept counted b k may small goes =
    let inside = content_is_in_text part b full may in
    of b.text refl inside.0 inside.1
  where
    of : (text : Option Text) → b.text ≡ text → IsInText b.text → b.whole ≡ None →
        KeepsOf (record old { held = held; count = count }) (with_events (content_events part) b)
    of None is h unended = absurd (subst IsInText is h)
    of (Some t) is h unended =
        let shown = old.shown in
        let counts : CountsText old (Some t) = subst (CountsText old) is k.counts in
        let next : kept ≡ next_kept shown t.kind (length t.content) part = is_kept ∙ same_part (may_cut t.kind) counts.0 counts.1 in
        let passes = part_passes shown part kept b.text b refl h unended (λ u same_text.
        let other : t ≡ u = same_texts t u (sym is ∙ same_text) in
        subst (λ (z : Text). kept ≡ next_kept shown z.kind (length z.content) part) other next) in
        let holds = holds_kept shown old.held held (content_events kept) (content_events part) b goes_on
        (record { holds = k.holds; weighs = k.weighs }) takes passes
        small goes in
        let built : with_events (content_events part) b ≡ record b { text = with_bytes b.text part } = part_builds part b in
        let now : (with_events (content_events part) b).text ≡ Some (record t { content = t.content ++ part }) =
        ap (λ c. let z : Construction = c in z.text) built ∙ ap (λ z. with_bytes z part) is in
        let few = text_is_small (with_events (content_events part) b) (record t { content = t.content ++ part }) now small in
        record {
          holds = holds.holds;
          weighs = holds.weighs;
          lengths = k.lengths ∙ sym (ap (lengths_of shown) built);
          counts = subst (CountsText (record old { held = held; count = count })) (sym now)
              (counts.0, counted ∙ same_count (may_cut t.kind) counts.0 counts.1 (omega (arith, few, length-append t.content part)));
        }
      where
        same_texts : (t u : Text) → Some t ≡ Some u → t ≡ u
        same_texts t u e = cc

        same_part : (cuts : Bool) → old.cuts ≡ cuts → old.count ≡ cond cuts (length t.content) 0 →
            cond old.cuts (take (suc old.shown - old.count) part) part ≡ cond cuts (take (suc old.shown - length t.content) part) part
        same_part true is_cut same = ap (λ z. cond z (take (suc old.shown - old.count) part) part) is_cut ∙ ap (λ n. take (suc old.shown - n) part) same
        same_part false is_cut same = ap (λ z. cond z (take (suc old.shown - old.count) part) part) is_cut

        same_count : (cuts : Bool) → old.cuts ≡ cuts → old.count ≡ cond cuts (length t.content) 0 → length t.content + length part < 2 ^ 64 →
            cond old.cuts (min (old.count + length part) (2 ^ 64 - 1)) old.count ≡ cond cuts (length (t.content ++ part)) 0
        same_count true is_cut same few = ap (λ z. cond z (min (old.count + length part) (2 ^ 64 - 1)) old.count) is_cut
            ∙ omega (arith, same, few, length-append t.content part)
        same_count false is_cut same few = ap (λ z. cond z (min (old.count + length part) (2 ^ 64 - 1)) old.count) is_cut ∙ same

-- a text ends
pub keeps_text_end : (old : Kept) (held : HeldParts) (lengths : Vec ℕ Global) (goes_on : Bool) →
    (goes_on ≡ true → lengths.items ≡ old.lengths.items ++ longer old.shown old.count) → TakesInWhereFit old.held held (e.TextEnd ∷ []) goes_on →
    KeepsMore old (record old { held = held; lengths = lengths }) (e.TextEnd ∷ []) goes_on
keeps_text_end old held lengths goes_on added takes b k may small goes =
    let kept = holds_kept old.shown old.held held (e.TextEnd ∷ []) (e.TextEnd ∷ []) b goes_on (record { holds = k.holds; weighs = k.weighs }) takes
    (passes_for_itself old.shown e.TextEnd b tt may) small goes in
    let ended = text_ends b.text refl may.0.0 in
    record {
      holds = kept.holds;
      weighs = kept.weighs;
      lengths = added goes ∙ ap (λ ns. ns ++ longer old.shown old.count) k.lengths ∙ sym ended.0;
      counts = subst (CountsText (record old { held = held; lengths = lengths })) (sym ended.1) tt;
    }
  where
    text_ends : (text : Option Text) → b.text ≡ text → MayEndText b.text →
        (lengths_of old.shown (with_event e.TextEnd b) ≡ lengths_of old.shown b ++ longer old.shown old.count) × ((with_event e.TextEnd b).text ≡ None)
    text_ends None is h = absurd (subst MayEndText is h)
    text_ends (Some t) is h =
        let shown = old.shown in
        let counts : CountsText old (Some t) = subst (CountsText old) is k.counts in
        let x = text_value t.kind t.content in
        let rested : Construction = record b { text = None } in
        let ended : with_event e.TextEnd b ≡ with_value x rested = ap (λ z. with_text_ended z b) is in (
          ap (lengths_of shown) ended
              ∙ put_lengths shown x rested may.0.1
              ∙ ap (λ ns. lengths_of shown b ++ ns) (text_lengths shown t.kind t.content)
              ∙ ap (λ n. lengths_of shown b ++ longer shown n) (sym counts.1),
          ap (λ c. let z : Construction = c in z.text) ended ∙ put_leaves_text x rested,
        )

-- the first bytes of a text that is told whole pass for the text
whole_text_passes : (shown : ℕ) (kind : TextKind) (bytes kept : List ℕ) (b : Construction) → MayBegin b → IsContentOf kind bytes →
    kept ≡ kept_content shown kind bytes →
    PassesFor shown (e.Text kind ∷ (content_events kept ++ e.TextEnd ∷ [])) (e.Text kind ∷ (content_events bytes ++ e.TextEnd ∷ [])) b
whole_text_passes shown kind bytes kept b begins whole same =
    let c = cut_construction shown b in
    let opened : Text = record { kind = kind; content = [] } in
    let rests : c.text ≡ None = ap (cut_text shown) begins.0 in
    let unended : c.whole ≡ None = ap (cut_whole shown) begins.1 in
    let fits : IsContentOf kind kept = subst (IsContentOf kind) (sym same) (content_is_kept shown kind bytes whole) in
    record {
      may = (
        (rests, unended),
        all_may_come (content_events kept) (e.TextEnd ∷ []) (with_event (e.Text kind) c) (content_may_come kept (Some opened) c tt unended)
            (subst (MayAllCome (e.TextEnd ∷ [])) (sym (content_held kept (Some opened) c)) ((fits, unended), tt)),
      );
      builds = whole_text_builds kind kept c rests
          ∙ ap (λ s. with_value (text_value kind s) c) same
          ∙ ap (λ x. with_value x c) (sym (text_is_cut shown kind bytes))
          ∙ put_is_cut shown (text_value kind bytes) b
          ∙ ap (cut_construction shown) (sym (whole_text_builds kind bytes b begins.0));
    }

-- what is kept of a text that is told whole
keeps_kept_text : (old : Kept) (held : HeldParts) (lengths : Vec ℕ Global) (kind : ReadKind) (bytes kept : List ℕ) (goes_on : Bool) → IsTextOf kind bytes →
    kept ≡ kept_content old.shown (text_kind_of kind) bytes → (goes_on ≡ true →
    lengths.items ≡ old.lengths.items ++ longer old.shown (cond (may_cut (text_kind_of kind)) (length bytes) 0)) →
    TakesInWhereFit old.held held (whole_text_events kind kept) goes_on →
    KeepsMore old (record old { held = held; lengths = lengths }) (whole_text_events kind bytes) goes_on
keeps_kept_text old held lengths kind bytes kept goes_on is_text same added takes b k may small goes =
    let shown = old.shown in
    let read = text_kind_of kind in
    let x = text_value read bytes in
    let passes = whole_text_passes shown read bytes kept b may.0 (text_is_content kind bytes is_text) same in
    let holds = holds_kept shown old.held held (whole_text_events kind kept) (whole_text_events kind bytes) b goes_on
    (record { holds = k.holds; weighs = k.weighs }) takes passes small goes in
    let built : with_events (whole_text_events kind bytes) b ≡ with_value x b = whole_text_builds read bytes b may.0.0 in
    let rests : (with_events (whole_text_events kind bytes) b).text ≡ None =
    ap (λ c. let z : Construction = c in z.text) built ∙ put_leaves_text x b ∙ may.0.0 in
    record {
      holds = holds.holds;
      weighs = holds.weighs;
      lengths = added goes
          ∙ ap (λ ns. ns ++ longer shown (cond (may_cut read) (length bytes) 0)) k.lengths
          ∙ ap (λ ns. lengths_of shown b ++ ns) (sym (text_lengths shown read bytes))
          ∙ sym (put_lengths shown x b may.0.1)
          ∙ sym (ap (lengths_of shown) built);
      counts = subst (CountsText (record old { held = held; lengths = lengths })) (sym rests) tt;
    }

-- the first bytes of a text that is told whole
pub keeps_whole_text : (old : Kept) (held : HeldParts) (lengths : Vec ℕ Global) (kind : ReadKind) (bytes kept : List ℕ) (goes_on : Bool) → IsTextOf kind bytes →
    may_cut (text_kind_of kind) ≡ true → kept ≡ take (suc old.shown - 0) bytes →
    (goes_on ≡ true → lengths.items ≡ old.lengths.items ++ longer old.shown (length bytes)) →
    TakesInWhereFit old.held held (whole_text_events kind kept) goes_on →
    KeepsMore old (record old { held = held; lengths = lengths }) (whole_text_events kind bytes) goes_on
keeps_whole_text old held lengths kind bytes kept goes_on is_text cuts is_kept added takes =
    let shown = old.shown in
    let whole_room : suc shown - 0 ≡ suc shown = omega arith in
    keeps_kept_text old held lengths kind bytes kept goes_on is_text
    (is_kept ∙ ap (λ n. take n bytes) whole_room ∙ ap (λ z. cond z (kept_part shown bytes) bytes) (sym cuts))
    (λ goes. added goes ∙ ap (λ z. old.lengths.items ++ longer shown (cond z (length bytes) 0)) (sym cuts)) takes

-- all bytes of a text that is told whole
pub keeps_all_of_text : (old : Kept) (held : HeldParts) (kind : ReadKind) (bytes : List ℕ) (goes_on : Bool) → IsTextOf kind bytes →
    may_cut (text_kind_of kind) ≡ false → TakesInWhereFit old.held held (whole_text_events kind bytes) goes_on →
    KeepsMore old (record old { held = held }) (whole_text_events kind bytes) goes_on
keeps_all_of_text old held kind bytes goes_on is_text whole takes =
    let shown = old.shown in
    keeps_kept_text old held old.lengths kind bytes bytes goes_on is_text
    (ap (λ z. cond z (kept_part shown bytes) bytes) (sym whole))
    (λ goes. sym (append-nil old.lengths.items) ∙ ap (λ ns. old.lengths.items ++ ns) (sym (longer-none shown 0 (omega arith))) ∙
    ap (λ z. old.lengths.items ++ longer shown (cond z (length bytes) 0)) (sym whole)) takes
