-- What was written for the bytes so far, and what more bytes add to it.
use Rattle.std.proofs.Common.{◌≡◌, ◌≤◌, ◌⊎◌, inl, inr, ℕ, ◌+◌, ◌-◌, ◌<◌, List, [], ◌∷◌, ◌++◌, length, take, drop, flat_map, Option, Err, refl, sym, ap, subst, ◌∙◌, arith, append_assoc, append-nil, length-append, take-append-drop}
use Rattle.std.specs.List.{AllByRecursion}
use Rattle.std.proofs.lemmas.Grind.{flat_map-append}
use Rattle.std.proofs.lemmas.List.{length-drop, take_rest}
use Rattle.std.proofs.Math.Seq.{take-append_seam}
use Rattle.resp_value.specs.Data.{Datum}
use Rattle.resp_value.specs.Rules.{Rules, Rule, Grammar, NoDouble, InVersion, PushAtTop, InRange, NotStreamed, WithinDepth, WithinLength, WithinItems, WithinTotal}
use Rattle.resp_value.specs.Causes.{cause_of}
use Rattle.resp_value.specs.Trees.{Spells}
use Rattle.resp_value.specs.Spellings.{IsSpelling, AreSpellings}
use Rattle.resp_value.specs.Laws.{NoSpellingIsEmpty}
use Rattle.resp_io.specs.Devices.{Appends}
use Rattle.resp_value.specs.declared.cause.Cause.{Cause}
use Rattle.resp_scan.specs.Reading.{HasNoSpelling}
use Rattle.resp_cli_stream.specs.Stops.{error_of}
use Rattle.resp_cli_stream.specs.Takings.{Begins, BeginsUnwritten, EndsInput, IsByteFault, IsEndFault, LeavesRefused, Takes, TakesUnfinished, WritesValue, WritesPart}
use Rattle.resp_cli_stream.specs.Streams.{HasRendered, IsBeforeEnd, RendersCounted, RendersFront, RendersMost, RendersStopped, RendersUpTo, most_values}
use Rattle.resp_cli_stream.specs.declared.rendering.RenderStop.{RenderStop}
use Rattle.resp_cli_stream.specs.declared.rendering.RenderStop.TheVariants as stop
use Rattle.resp_cli_args.specs.declared.tool_error.ToolError.TheVariants as e
use Rattle.resp_print.proofs.WrittenLemmas.{Appends-append, Appends-none}

-- a relation of a text
abbrev pub Relation : Type 1
Relation = List ℕ → List ℕ → Type 0

-- spellings, and more after them
pub spelled_on : (r : Rules) (xs ys : List Datum) (front next : List ℕ) → AreSpellings r xs front → AreSpellings r ys next →
    AreSpellings r (xs ++ ys) (front ++ next)
spelled_on r [] ys front next p q = let none : front ≡ [] = p in subst (λ f. AreSpellings r ys (f ++ next)) (sym none) q
spelled_on r (x ∷ xs) ys front next (first, rest, spelling, others, is) q =
    (first, rest ++ next, spelling, spelled_on r xs ys rest next others q, ap (λ more. more ++ next) is ∙ append_assoc first rest next)

-- one spelling
pub spelled_one : {r : Rules} {x : Datum} {text : List ℕ} → IsSpelling r x text → AreSpellings r (x ∷ []) text
spelled_one {r} {x} {text} spelling = (text, [], spelling, refl, sym (append-nil text))

-- what holds of each of a list, and of one more
pub all_on : {A : Type 0} (P : A → Type 0) (xs : List A) (x : A) → AllByRecursion P xs → P x → AllByRecursion P (xs ++ x ∷ [])
all_on P [] x all p = (p, tt)
all_on P (y ∷ ys) x all p = (all.0, all_on P ys x all.1 p)

-- one text more
text_on : (text : Datum → List ℕ) (xs : List Datum) (x : Datum) → flat_map text (xs ++ x ∷ []) ≡ flat_map text xs ++ text x
text_on text xs x = flat_map-append text xs (x ∷ []) ∙ ap (λ last. flat_map text xs ++ last) (append-nil (text x))

-- no spelling begins what has none at its front
pub no_more : (r : Rules) (rest : List ℕ) → HasNoSpelling r rest → (x : Datum) (next beyond : List ℕ) → IsSpelling r x next → rest ≡ next ++ beyond → ⊥
no_more r rest none x next beyond spelling is =
    let front : take (length next) rest ≡ next = ap (take (length next)) is ∙ take-append_seam next beyond in
    none (length next) (record { tree = spelling.tree; spells = subst (Spells spelling.tree) (sym front) spelling.spells; keeps = spelling.keeps })

-- a front of nothing is nothing
none_before : (front beyond : List ℕ) → [] ≡ front ++ beyond → front ≡ []
none_before [] beyond is = refl
none_before (byte ∷ front) beyond is = absurd (cc)

-- no values
abbrev pub begins_none : {r : Rules} (bytes : List ℕ) → Begins r bytes
begins_none bytes = record { values = []; front = []; rest = bytes; spelled = refl; whole = refl }

-- more bytes, under the same rules
abbrev pub begins_more : {r r' : Rules} {bytes : List ℕ} (more : List ℕ) → r' ≡ r → Begins r bytes → Begins r' (bytes ++ more)
begins_more more same b = record {
  values = b.values;
  front = b.front;
  rest = b.rest ++ more;
  spelled = rw same b.spelled;
  whole = ap (λ z. z ++ more) b.whole ∙ append_assoc b.front b.rest more;
}

-- more values
abbrev pub begins_on : {r : Rules} {bytes : List ℕ} (b : Begins r bytes) → Begins r b.rest → Begins r bytes
begins_on {r} b next = record {
  values = b.values ++ next.values;
  front = b.front ++ next.front;
  rest = next.rest;
  spelled = spelled_on r b.values next.values b.front next.front b.spelled next.spelled;
  whole = b.whole ∙ ap (λ z. b.front ++ z) next.whole ∙ sym (append_assoc b.front next.front next.rest);
}

-- one value
abbrev pub begins_one : {r : Rules} {x : Datum} {text : List ℕ} → IsSpelling r x text → Begins r text
begins_one {r} {x} {text} spelling =
    record { values = x ∷ []; front = text; rest = []; spelled = spelled_one spelling; whole = sym (append-nil text) }

-- before the first value
pub nothing_rendered : (r : Rules) (text : Datum → List ℕ) (W : Datum → Type 0) (H : Relation) (held : Option (List ℕ)) → H [] [] →
    HasRendered r text W H [] held held 0
nothing_rendered r text W H held takes = record {
  begins = begins_none [];
  so_far = [];
  counted = refl;
  all_written = tt;
  takes = takes;
  appended = Appends-none held;
  at_most = λ is. refl;
}

-- what more bytes, or the end of the input, add to the text that was written so far
module _ {r : Rules} {text : Datum → List ℕ} {W : Datum → Type 0} {H : Relation} {bytes : List ℕ} {start mid : Option (List ℕ)} {n : ℕ}
    (s : HasRendered r text W H bytes start mid n) where
  -- a piece more
  abbrev begins_with : (piece : List ℕ) → Begins r (bytes ++ piece)
  begins_with piece = begins_more piece refl s.begins

  -- more text
  appended_on : (after : Option (List ℕ)) (more : List ℕ) → Appends mid after more → Appends start after (flat_map text s.begins.values ++ (s.so_far ++ more))
  appended_on after more appended =
      subst (Appends start after) (append_assoc (flat_map text s.begins.values) s.so_far more)
      (Appends-append start mid after (flat_map text s.begins.values ++ s.so_far) more s.appended appended)

  -- no text after those of complete values
  appended_none : (after : Option (List ℕ)) → s.so_far ≡ [] → Appends mid after [] → Appends start after (flat_map text s.begins.values)
  appended_none after nothing appended =
      let same : flat_map text s.begins.values ++ (s.so_far ++ []) ≡ flat_map text s.begins.values =
      ap (λ z. flat_map text s.begins.values ++ z) (append-nil s.so_far ∙ nothing) ∙ append-nil (flat_map text s.begins.values) in
      subst (Appends start after) same (appended_on after [] appended)

  -- a flush writes nothing
  pub flushed : {after : Option (List ℕ)} → Appends mid after [] → HasRendered r text W H bytes start after n
  flushed {after} appended = record {
    begins = s.begins;
    so_far = s.so_far;
    counted = s.counted;
    all_written = s.all_written;
    takes = s.takes;
    at_most = s.at_most;
    appended = subst (λ z. Appends start after (flat_map text s.begins.values ++ z)) (append-nil s.so_far) (appended_on after [] appended);
  }

  -- a value more
  pub renders_value : {H' : Relation} {after : Option (List ℕ)} (piece : List ℕ) → WritesValue r text W H' (s.begins.rest ++ piece) s.so_far mid after →
      HasRendered r text W H' (bytes ++ piece) start after (n + 1)
  renders_value {H'} {after} piece t = record {
    begins = begins_on (begins_with piece) (begins_one t.spelling);
    so_far = [];
    counted = omega (arith, s.counted, length-append s.begins.values (t.value ∷ []));
    all_written = all_on W s.begins.values t.value s.all_written t.written;
    takes = t.takes;
    appended =
        let same : flat_map text s.begins.values ++ (s.so_far ++ t.more) ≡ flat_map text (s.begins.values ++ t.value ∷ []) ++ [] =
        ap (λ z. flat_map text s.begins.values ++ z) (sym t.whole) ∙ sym (text_on text s.begins.values t.value) ∙
        sym (append-nil (flat_map text (s.begins.values ++ t.value ∷ []))) in
        subst (Appends start after) same (appended_on after t.more t.appended);
    at_most = λ is. refl;
  }

  -- more of the value that was begun
  pub renders_on : {H' : Relation} {after : Option (List ℕ)} (piece : List ℕ) → (n ≡ most_values → ⊥) →
      TakesUnfinished r H' (s.begins.rest ++ piece) s.so_far mid after → HasRendered r text W H' (bytes ++ piece) start after n
  renders_on {H'} {after} piece few t = record {
    begins = begins_with piece;
    so_far = s.so_far ++ t.more;
    counted = s.counted;
    all_written = s.all_written;
    takes = t.takes;
    appended = appended_on after t.more t.appended;
    at_most = λ is. absurd (few is);
  }

  -- a refused rest
  renders_refused : (F : List ℕ → Cause → ℕ → Type 0) (L : Relation) (piece : List ℕ) (after : Option (List ℕ)) (c : Cause) (at : ℕ) →
      ((rest : List ℕ) → F rest c at → IsByteFault r rest c at ⊎ IsEndFault r rest c at) → LeavesRefused r F L (s.begins.rest ++ piece) s.so_far mid after c at →
      RendersFront r text W L (bytes ++ piece) start after (n + 1) c at
  renders_refused F L piece after c at why t = record {
    values = s.begins.values;
    rest = s.begins.rest ++ piece;
    cut = record { front = s.begins.front; spelled = s.begins.spelled; whole = (begins_with piece).whole; no_more = no_more r (s.begins.rest ++ piece) t.no_spelling };
    counted = omega (arith, s.counted);
    fault = why (s.begins.rest ++ piece) t.fault;
    all_written = s.all_written;
    left = s.so_far ++ t.more;
    is_left = t.is_left;
    appended = appended_on after t.more t.appended;
  }

  -- a value that isn't written
  renders_declined : (piece : List ℕ) (after : Option (List ℕ)) →
      BeginsUnwritten r W (s.begins.rest ++ piece) × (s.so_far ≡ []) × Appends mid after [] → RendersUpTo r text W (bytes ++ piece) start after (n + 1)
  renders_declined piece after (unwritten, nothing, appended) = record {
    begins = begins_with piece;
    counted = omega (arith, s.counted);
    all_written = s.all_written;
    unwritten = unwritten;
    appended = appended_none after nothing appended;
  }

  -- a part of what was to be written
  renders_part : (B : Relation) (piece : List ℕ) (after : Option (List ℕ)) → WritesPart r text B (s.begins.rest ++ piece) s.so_far mid after →
      WritesPart r text B (bytes ++ piece) [] start after
  renders_part B piece after t = record {
    begins = begins_on (begins_with piece) t.begins;
    begun = t.begun;
    is_begun = t.is_begun;
    more = flat_map text s.begins.values ++ (s.so_far ++ t.more);
    later = t.later;
    parts =
        let more = t.begins.values in
        ap (λ z. z ++ t.begun) (flat_map-append text s.begins.values more) ∙ append_assoc (flat_map text s.begins.values) (flat_map text more) t.begun ∙
        ap (λ z. flat_map text s.begins.values ++ z) (t.parts ∙ sym (append_assoc s.so_far t.more t.later)) ∙
        sym (append_assoc (flat_map text s.begins.values) (s.so_far ++ t.more) t.later);
    appended = appended_on after t.more t.appended;
  }

  -- what was written so far is a part of what may be written
  pub renders_so_far : {B : Relation} → ((front so_far : List ℕ) → H front so_far → (later : List ℕ) × B front (so_far ++ later)) →
      WritesPart r text B bytes [] start mid
  renders_so_far {B} stands =
      let (later, is_begun) = stands s.begins.rest s.so_far s.takes in
      record {
        begins = s.begins;
        begun = s.so_far ++ later;
        is_begun = is_begun;
        more = flat_map text s.begins.values ++ s.so_far;
        later = later;
        parts = sym (append_assoc (flat_map text s.begins.values) s.so_far later);
        appended = s.appended;
      }

  -- the most values of one run, and more
  pub renders_most : (piece : List ℕ) → n ≡ most_values → 0 < length piece → RendersMost r text W (bytes ++ piece) start mid
  renders_most piece most some = record {
    begins = begins_with piece;
    some_rest = omega (arith, some, length-append s.begins.rest piece);
    counted = s.counted ∙ most;
    all_written = s.all_written;
    appended =
        let same : flat_map text s.begins.values ++ s.so_far ≡ flat_map text s.begins.values =
        ap (λ z. flat_map text s.begins.values ++ z) (s.at_most most) ∙ append-nil (flat_map text s.begins.values) in
        subst (Appends start mid) same s.appended;
  }

  -- what a piece leaves that stops
  pub took_stop : (L B H' : Relation) (piece : List ℕ) (after : Option (List ℕ)) (why : RenderStop) →
      Takes r text W L B H' s.begins.rest piece s.so_far mid after (Err why) → RendersStopped r text W L B (bytes ++ piece) start after (error_of (n + 1) why)
  took_stop L B H' piece after (stop.Fault fault) t = renders_refused (IsByteFault r) L piece after fault.cause fault.at (λ rest f. inl f) t
  took_stop L B H' piece after stop.OverLimits t = renders_declined piece after t
  took_stop L B H' piece after stop.Write t = renders_part B piece after t
  took_stop L B H' piece after stop.Memory t = renders_part B piece after t

  -- the end between two values
  pub renders_counted : (byte_count : ℕ) (after : Option (List ℕ)) → NoSpellingIsEmpty → (s.begins.rest ≡ []) × (s.so_far ≡ []) × Appends mid after [] →
      n ≤ most_values → byte_count ≡ length bytes → RendersCounted r text W bytes start after (record { values = n; bytes = byte_count })
  renders_counted byte_count after law (none, nothing, appended) few size = record {
    values = s.begins.values;
    all = record {
      cut = record {
        front = s.begins.front;
        spelled = s.begins.spelled;
        whole = s.begins.whole ∙ ap (λ z. s.begins.front ++ z) none;
        no_more = λ y next beyond spelling is. law r y (subst (IsSpelling r y) (none_before next beyond is) spelling);
      };
      few = subst (λ n. n ≤ most_values) (sym s.counted) few;
      all_written = s.all_written;
      appended = appended_none after nothing appended;
    };
    value_count = sym s.counted;
    byte_count = size;
  }

  -- a part of what was to be written, at the end
  ended_part : (B : Relation) (after : Option (List ℕ)) → WritesPart r text B s.begins.rest s.so_far mid after → WritesPart r text B bytes [] start after
  ended_part B after ends =
      subst (λ z. WritesPart r text B z [] start after) (append-nil bytes)
      (renders_part B [] after (subst (λ z. WritesPart r text B z s.so_far mid after) (sym (append-nil s.begins.rest)) ends))

  -- the end inside a value
  pub ended_stop : (L B : Relation) (after : Option (List ℕ)) (why : RenderStop) → EndsInput r text L B s.begins.rest s.so_far mid after (Err why) →
      RendersStopped r text W L B bytes start after (error_of (n + 1) why)
  ended_stop L B after (stop.Fault fault) ends =
      let refused = subst (λ z. LeavesRefused r (IsEndFault r) L z s.so_far mid after fault.cause fault.at) (sym (append-nil s.begins.rest)) ends in
      subst (λ z. RendersFront r text W L z start after (n + 1) fault.cause fault.at) (append-nil bytes)
      (renders_refused (IsEndFault r) L [] after fault.cause fault.at (λ rest f. inr f) refused)
  ended_stop L B after stop.OverLimits ends = absurd ends
  ended_stop L B after stop.Write ends = ended_part B after ends
  ended_stop L B after stop.Memory ends = ended_part B after ends

-- a refused byte comes before the end
byte_before_end : (n at : ℕ) (c : Cause) (broken : Rule) → c ≡ cause_of broken → IsBeforeEnd (e.Refused n c at)
byte_before_end n at c broken is = subst (λ z. IsBeforeEnd (e.Refused n z at)) (sym is) (by_rule broken)
  where
    by_rule : (broken : Rule) → IsBeforeEnd (e.Refused n (cause_of broken) at)
    by_rule Grammar = tt
    by_rule NoDouble = tt
    by_rule InVersion = tt
    by_rule PushAtTop = tt
    by_rule InRange = tt
    by_rule NotStreamed = tt
    by_rule WithinDepth = tt
    by_rule WithinLength = tt
    by_rule WithinItems = tt
    by_rule WithinTotal = tt

pub stopped_before_end : (r : Rules) (text : Datum → List ℕ) (W : Datum → Type 0) (L B H' : Relation) (front piece so_far : List ℕ)
    (mid after : Option (List ℕ)) (n : ℕ) (why : RenderStop) → Takes r text W L B H' front piece so_far mid after (Err why) → IsBeforeEnd (error_of (n + 1) why)
stopped_before_end r text W L B H' front piece so_far mid after n (stop.Fault fault) t =
    byte_before_end (n + 1) fault.at fault.cause t.fault.rule t.fault.names
stopped_before_end r text W L B H' front piece so_far mid after n stop.OverLimits t = tt
stopped_before_end r text W L B H' front piece so_far mid after n stop.Write t = tt
stopped_before_end r text W L B H' front piece so_far mid after n stop.Memory t = tt

-- the length of a rest of which some bytes were used
pub length_left : (used : ℕ) (rest : List ℕ) → length (take (length rest - used) (drop used rest)) ≡ length rest - used
length_left used rest = ap length (take_rest rest used) ∙ length-drop used rest

-- the piece is what was done of it, and the rest
pub done_more : (piece done rest : List ℕ) (used : ℕ) → piece ≡ done ++ rest →
    piece ≡ (done ++ take used rest) ++ take (length rest - used) (drop used rest)
done_more piece done rest used split =
    split ∙ ap (λ z. done ++ z) (sym (take-append-drop used rest)) ∙ sym (append_assoc done (take used rest) (drop used rest)) ∙
    ap (λ z. (done ++ take used rest) ++ z) (sym (take_rest rest used))

-- the bytes before the piece, what was done of it, and the rest
pub left_to_do : (bytes done rest : List ℕ) {piece : List ℕ} → piece ≡ done ++ rest → (bytes ++ done) ++ rest ≡ bytes ++ piece
left_to_do bytes done rest {piece} split = append_assoc bytes done rest ∙ ap (λ z. bytes ++ z) (sym split)

-- a piece of which nothing is left was done
pub all_done : (done rest : List ℕ) {piece : List ℕ} → piece ≡ done ++ rest → length rest ≡ 0 → done ≡ piece
all_done done [] {piece} split none = sym (split ∙ append-nil done)
all_done done (c ∷ rest) {piece} split none = absurd (omega arith)
