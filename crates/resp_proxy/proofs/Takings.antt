-- How commands are taken, one after another.
use Rattle.std.proofs.Common.{◌≡◌, ◌∙◌, inl, ℕ, ◌+◌, ◌-◌, ◌<◌, ◌≤◌, List, [], ◌∷◌, ◌++◌, length, take, drop, None, Some, Result, Ok, Err, ap, append_assoc, arith, length-drop, refl, subst, sym}
use Rattle.std.specs.List.{AllByRecursion, concat}
use Rattle.std.specs.Prelude.{IfOk}
use Rattle.resp_frames.proofs.SameWords.{whole_text}
use Rattle.resp_frames.specs.Commands.{IsCommand, IsFrameOfWords}
use Rattle.resp_frames.specs.Texts.{text_of, used_of}
use Rattle.resp_frames.specs.declared.words.CommandFrame.{CommandFrame}
use Rattle.resp_proxy.proofs.Carryings.{whole-command}
use Rattle.resp_proxy.proofs.OwnReplies.{own-kind}
use Rattle.resp_proxy.specs.Leaving.{IsForOwn}
use Rattle.resp_value.specs.Bounds.{Bounds}
use Rattle.resp_value.specs.Laws.{NoSpellingBeginsAnother}
use Rattle.resp_value.specs.Rules.{rules_under}
use Rattle.resp_value.specs.Spellings.{IsSpelling}
use Rattle.resp_value.specs.Words.{command_of}
use Rattle.resp_value.specs.declared.version.Version.TheVariants.{Two}
use Rattle.std.proofs.Math.Seq.{take-add}
use Rattle.std.proofs.lemmas.List.{append-nil, take-append-drop}
use Rattle.std.proofs.Math.Seq.{take-length}
use Rattle.resp_frames.proofs.Ends.{take_whole}
use Rattle.resp_frames.specs.Framing.{IsReady}
use Rattle.resp_board.specs.Histories.{History}
use Rattle.resp_board.specs.Runs.{HasRun, KeepsOpen, KeepsRun}
use Rattle.resp_board.specs.declared.board.Board.{Board}
use Rattle.resp_proxy.specs.declared.route.Route.{Route}
use Rattle.resp_proxy.specs.declared.error.ClientError.{ClientError}
use Rattle.resp_proxy.specs.declared.intake.Intake.{Intake}
use Rattle.resp_proxy.specs.declared.part.Part.{Part}
use Rattle.resp_proxy.specs.declared.part.Part.TheVariants.{Aside, Partial, Whole}
use Rattle.resp_frames.specs.declared.unfinished.Unfinished.{Unfinished}
use Rattle.resp_proxy.specs.Leaving.{NeedsOwn}
use Rattle.resp_proxy.specs.Reasons.{BeginsForOwn, MovesOn}
use Rattle.resp_proxy.specs.Refusing.{Refuses}
use Rattle.resp_proxy.specs.Taking.{HasTaken, IsTaken, SetsAside, Taken, Takes, TakesArray, TakesOne, TakesPart, TakesSome, texts_taken, with_one, with_taken}
use Rattle.resp_proxy.specs.Terms.{Terms}
use Rattle.resp_proxy.specs.Unfinished.{HasUnfinished, WhereUnfinished, terms_of}

with-taken-last : (route : Route) (ts : List Taken) (t : Taken) (p : History) → with_taken route (ts ++ t ∷ []) p ≡ with_one route t.deed (with_taken route ts p)
with-taken-last route [] t p = refl
with-taken-last route (u ∷ ts) t p = with-taken-last route ts t (with_one route u.deed p)

texts-last : (ts : List Taken) (t : Taken) → concat (texts_taken (ts ++ t ∷ [])) ≡ concat (texts_taken ts) ++ t.text
texts-last [] t = append-nil t.text
texts-last (u ∷ ts) t = ap (λ text. u.text ++ text) (texts-last ts t) ∙ sym (append_assoc u.text (concat (texts_taken ts)) t.text)

all-last : (P : Taken → Type 0) (ts : List Taken) (t : Taken) → AllByRecursion P ts → P t → AllByRecursion P (ts ++ t ∷ [])
all-last P [] t all last = (last, tt)
all-last P (u ∷ ts) t all last = (all.0, all-last P ts t all.1 last)

pub kept-clients : (old mid new : Board) → KeepsOpen old mid → KeepsOpen mid new → KeepsOpen old new
kept-clients old mid new first second = record {
  clients = λ who. second.clients who ∙ first.clients who;
  lines = λ line. second.lines line ∙ first.lines line;
  last = second.last ∙ first.last;
  bounds = second.bounds ∙ first.bounds;
}

-- no command was taken yet
pub takes-nothing : (terms : Terms) (route : Route) (bytes : List ℕ) (m : Board) → Takes terms route bytes bytes m m
takes-nothing terms route bytes m = record { taken = []; whole = refl; commands = tt; run = λ p h. h }

-- more bytes came, and no command has ended
pub takes-bytes : (terms : Terms) (route : Route) (bytes after more : List ℕ) (old mid new : Board) → Takes terms route bytes after old mid →
    KeepsRun mid new → Takes terms route (bytes ++ more) (after ++ more) old new
takes-bytes terms route bytes after more old mid new t kept = record {
  taken = t.taken;
  whole = ap (λ b. b ++ more) t.whole ∙ append_assoc (concat (texts_taken t.taken)) after more;
  commands = t.commands;
  run = λ p h. kept (with_taken route t.taken p) (t.run p h);
}

-- one more part was taken
pub takes-part : (terms : Terms) (route : Route) (bytes after more : List ℕ) (old mid new : Board) → Takes terms route bytes after old mid →
    TakesPart terms route (after ++ more) mid new → Takes terms route (bytes ++ more) [] old new
takes-part terms route bytes after more old mid new t c =
    let one : Taken = record { text = after ++ more; deed = c.deed } in
    record {
      taken = t.taken ++ one ∷ [];
      whole = ap (λ b. b ++ more) t.whole ∙ append_assoc (concat (texts_taken t.taken)) after more ∙ sym (texts-last t.taken one) ∙
          sym (append-nil (concat (texts_taken (t.taken ++ one ∷ []))));
      commands = all-last (IsTaken terms route) t.taken one t.commands c.fits;
      run = λ p h. subst (HasRun new) (sym (with-taken-last route t.taken one p)) (c.run (with_taken route t.taken p) (t.run p h));
    }

-- the loop has taken one more part
pub some-part : (terms terms' : Terms) (route : Route) (front piece : List ℕ) (used count : ℕ) (u u' : Unfinished) (old mid new : Board) →
    terms' ≡ terms → TakesSome terms route (front ++ take used piece) u None (Ok tt) old mid →
    ((after : List ℕ) → HasUnfinished terms' u after →
    HasUnfinished terms' u' [] × TakesPart terms' route (after ++ take count (drop used piece)) mid new) →
    TakesSome terms route (front ++ take (used + count) piece) u' None (Ok tt) old new
some-part terms terms' route front piece used count u u' old mid new same s next =
    let c : HasUnfinished terms u' [] × TakesPart terms route (s.after ++ take count (drop used piece)) mid new =
    subst (λ r. HasUnfinished r u' [] × TakesPart r route (s.after ++ take count (drop used piece)) mid new) same
    (next s.after (subst (λ r. HasUnfinished r u s.after) (sym same) s.begun)) in
    let more = take count (drop used piece) in
    let joined : front ++ take (used + count) piece ≡ (front ++ take used piece) ++ more =
    ap (λ b. front ++ b) (take-add used count piece) ∙ sym (append_assoc front (take used piece) more) in
    record {
      after = [];
      takes = subst (λ b. Takes terms route b [] old new) (sym joined)
          (takes-part terms route (front ++ take used piece) s.after more old mid new s.takes c.1);
      begun = c.0;
      refused = tt;
    }

-- bytes after those that were taken
pub taken-and-rest : (terms : Terms) (route : Route) (front bytes after : List ℕ) (used : ℕ) (old new : Board) →
    Takes terms route (front ++ take used bytes) after old new → Takes terms route (front ++ bytes) (after ++ drop used bytes) old new
taken-and-rest terms route front bytes after used old new t =
    let joined : (front ++ take used bytes) ++ drop used bytes ≡ front ++ bytes =
    append_assoc front (take used bytes) (drop used bytes) ∙ ap (λ b. front ++ b) (take-append-drop used bytes) in
    subst (λ b. Takes terms route b (after ++ drop used bytes) old new) joined
    (takes-bytes terms route (front ++ take used bytes) after (drop used bytes) old new new t (λ p h. h))

-- what was taken of an array was taken of the client, which has begun no line
pub array-taken : (terms : Terms) (route : Route) (front piece : List ℕ) (u : Unfinished) (r : Result Part ClientError) (old new : Board) →
    u.line.items ≡ [] → IfOk r (λ part. TakesArray terms route front piece u.begun part old new) →
    IfOk r (λ part. TakesOne terms route front piece u part old new)
array-taken terms route front piece u (Ok Partial) old new none t = (inl (record { begun = t.0; no_line = none }), t.1)
array-taken terms route front piece u (Ok (Whole used)) old new none t = (inl (record { begun = t.0; no_line = none }), t.1)
array-taken terms route front piece u (Ok (Aside used text)) old new none t = (inl (record { begun = t.0; no_line = none }), t.1)
array-taken terms route front piece u (Err e) old new none t = tt

one-taken : (terms : Terms) (route : Route) (front piece : List ℕ) (u : Unfinished) (part : Part) (used : ℕ) (old new : Board) → part ≡ Whole used →
    TakesOne terms route front piece u part old new → HasUnfinished terms u [] × TakesPart terms route (front ++ take used piece) old new
one-taken terms route front piece u part used old new e t = subst (λ p. TakesOne terms route front piece u p old new) e t

none-taken : (terms : Terms) (route : Route) (front piece : List ℕ) (u : Unfinished) (part : Part) (old new : Board) → part ≡ Partial →
    TakesOne terms route front piece u part old new → HasUnfinished terms u (front ++ piece) × KeepsRun old new
none-taken terms route front piece u part old new e t = subst (λ p. TakesOne terms route front piece u p old new) e t

-- what was done with a part
abbrev pub one-aside : Terms → Route → List ℕ → List ℕ → Unfinished → Part → Board → Board → Type 0
one-aside terms route front piece u part old new = TakesOne terms route front piece u part old new

-- the bytes after the first, as a slice gives them
abbrev pub rest-of : ℕ → List ℕ → List ℕ
rest-of used piece = take (length piece - used) (drop used piece)

pub whole-rest : (used : ℕ) (piece : List ℕ) → rest-of used piece ≡ drop used piece
whole-rest used piece = take_whole (length piece - used) (drop used piece) (sym (length-drop used piece))

-- the loop has taken one more part
pub more-taken : (i i1 i2 : Intake) (u u1 u2 : Unfinished) (old mid new : Board) (route : Route) (piece : List ℕ) (used count : ℕ) (part : Part) →
    HasTaken i u old route piece used i1 u1 mid → part ≡ Whole count → used + count ≤ length piece → KeepsOpen mid new →
    (IsReady i1.frames → IsReady i2.frames) → terms_of i2 ≡ terms_of i1 → i2.admits_own ≡ i1.admits_own →
    WhereUnfinished i1 u1 (λ front. TakesOne (terms_of i1) route front (rest-of used piece) u2 part mid new) →
    HasTaken i u old route piece (used + count) i2 u2 new
more-taken i i1 i2 u u1 u2 old mid new route piece used count part h e within clients ready same own taken = record {
  within = within;
  ready = λ r. ready (h.ready r);
  same_terms = same ∙ h.same_terms;
  same_own = own ∙ h.same_own;
  clients = kept-clients old mid new h.clients clients;
  taken = λ r front begun.
      some-part (terms_of i) (terms_of i1) route front piece used count u1 u2 old mid new h.same_terms (h.taken r front begun)
      (λ after begun'. one-taken (terms_of i1) route after (drop used piece) u2 part count mid new e
      (subst (λ rest. TakesOne (terms_of i1) route after rest u2 part mid new) (whole-rest used piece) (taken (h.ready r) after begun')));
}

-- the loop has taken all bytes, and no command has ended
pub all-taken : (i i1 : Intake) (u u1 u2 : Unfinished) (old mid new : Board) (route : Route) (piece : List ℕ) (used : ℕ) (part : Part) →
    HasTaken i u old route piece used i1 u1 mid → part ≡ Partial →
    WhereUnfinished i1 u1 (λ front. TakesOne (terms_of i1) route front (rest-of used piece) u2 part mid new) →
    WhereUnfinished i u (λ front. TakesSome (terms_of i) route (front ++ take (length piece) piece) u2 None (Ok tt) old new)
all-taken i i1 u u1 u2 old mid new route piece used part h e taken r front begun =
    let s = h.taken r front begun in
    let none = none-taken (terms_of i1) route s.after (drop used piece) u2 part mid new e
    (subst (λ rest. TakesOne (terms_of i1) route s.after rest u2 part mid new) (whole-rest used piece)
    (taken (h.ready r) s.after (subst (λ terms. HasUnfinished terms u1 s.after) (sym h.same_terms) s.begun))) in
    let joined : (front ++ take used piece) ++ drop used piece ≡ front ++ take (length piece) piece =
    append_assoc front (take used piece) (drop used piece) ∙ ap (λ b. front ++ b) (take-append-drop used piece ∙ sym (take-length piece)) in
    record {
      after = s.after ++ drop used piece;
      takes = subst (λ b. Takes (terms_of i) route b (s.after ++ drop used piece) old new) joined
          (takes-bytes (terms_of i) route (front ++ take used piece) s.after (drop used piece) old mid new s.takes none.1);
      begun = subst (λ terms. HasUnfinished terms u2 (s.after ++ drop used piece)) h.same_terms none.0;
      refused = tt;
    }

-- no part ends where it began
pub never-same : (i i1 : Intake) (u u1 u2 : Unfinished) (old mid new : Board) (route : Route) (piece : List ℕ) (used : ℕ) (part : Part) →
    HasTaken i u old route piece used i1 u1 mid → part ≡ Whole 0 → WhereUnfinished i1 u1 (λ front. MovesOn part) →
    WhereUnfinished i u (λ front. TakesSome (terms_of i) route (front ++ take (length piece) piece) u2 None (Ok tt) old new)
never-same i i1 u u1 u2 old mid new route piece used part h e moves r front begun =
    let s = h.taken r front begun in
    let byte : 0 < 0 = subst MovesOn e (moves (h.ready r) s.after (subst (λ terms. HasUnfinished terms u1 s.after) (sym h.same_terms) s.begun)) in
    absurd (omega (arith, byte))

-- an array that may need a connection of the client's own was put aside
pub array-aside : (terms : Terms) (front piece text : List ℕ) (found : CommandFrame) (m : Board) →
    IsFrameOfWords terms.rules.limits front piece found → IsForOwn found.words.class → text ≡ text_of found.frame →
    SetsAside terms (front ++ take (used_of found.frame) piece) text m m
array-aside terms front piece text found m f own is = record {
  same = is ∙ f.frame.text;
  needs = subst (NeedsOwn terms) f.frame.text (record {
    sent = text_of found.frame;
    name = f.words.name;
    arguments = f.words.arguments;
    request = record { spelled = f.words.spelled; form = inl refl };
    kind = own-kind found.words.class f.words.name f.words.arguments f.words.has.class own;
  });
  kept = λ p h. h;
}

-- an array that may need a connection of the client's own begins with such a command
pub text-for-own : NoSpellingBeginsAnother → (limits : Bounds) (text : List ℕ) (found : CommandFrame) → IsCommand limits text →
    IsFrameOfWords limits [] text found → IsForOwn found.words.class → BeginsForOwn limits text
text-for-own law limits text found k f own = record {
  name = f.words.name;
  arguments = f.words.arguments;
  rest = [];
  begins = whole_text limits text f.words.name f.words.arguments
      (subst (λ t. IsSpelling (rules_under Two limits) (command_of (f.words.name ∷ f.words.arguments)) t)
      (whole-command law limits text found k f) f.words.spelled);
  kind = own-kind found.words.class f.words.name f.words.arguments f.words.has.class own;
}

-- the next command was put aside
pub aside-taken : (i i1 : Intake) (u u1 u2 : Unfinished) (old mid new : Board) (route : Route) (piece text : List ℕ) (used count : ℕ) (part : Part) →
    HasTaken i u old route piece used i1 u1 mid →
    ((terms : Terms) (front bytes : List ℕ) → one-aside terms route front bytes u2 part mid new →
    HasUnfinished terms u2 [] × SetsAside terms (front ++ take count bytes) text mid new) →
    WhereUnfinished i1 u1 (λ front. TakesOne (terms_of i1) route front (rest-of used piece) u2 part mid new) →
    WhereUnfinished i u (λ front. TakesSome (terms_of i) route (front ++ take (used + count) piece) u2 (Some text) (Ok tt) old new)
aside-taken i i1 u u1 u2 old mid new route piece text used count part h is taken r front begun =
    let s = h.taken r front begun in
    let more = take count (drop used piece) in
    let one = is (terms_of i1) s.after (drop used piece)
    (subst (λ rest. TakesOne (terms_of i1) route s.after rest u2 part mid new) (whole-rest used piece)
    (taken (h.ready r) s.after (subst (λ terms. HasUnfinished terms u1 s.after) (sym h.same_terms) s.begun))) in
    let joined : (front ++ take used piece) ++ more ≡ front ++ take (used + count) piece =
    append_assoc front (take used piece) more ∙ ap (λ b. front ++ b) (sym (take-add used count piece)) in
    record {
      after = s.after ++ more;
      takes = subst (λ b. Takes (terms_of i) route b (s.after ++ more) old new) joined
          (takes-bytes (terms_of i) route (front ++ take used piece) s.after more old mid new s.takes one.1.kept);
      begun = (
        subst (λ terms. HasUnfinished terms u2 []) h.same_terms one.0,
        one.1.same,
        subst (λ terms. NeedsOwn terms (s.after ++ more)) h.same_terms one.1.needs,
      );
      refused = tt;
    }

-- the loop ends at an error, whose cause is in the bytes after those that were taken
pub lost-taken : (i i1 : Intake) (u u1 u2 : Unfinished) (old mid new : Board) (route : Route) (piece : List ℕ) (used : ℕ) (error : ClientError) →
    HasTaken i u old route piece used i1 u1 mid → KeepsRun mid new →
    WhereUnfinished i1 u1 (λ front. Refuses (terms_of i1) (front ++ rest-of used piece) error) →
    WhereUnfinished i u (λ front. TakesSome (terms_of i) route (front ++ take (length piece) piece) u2 None (Err error) old new)
lost-taken i i1 u u1 u2 old mid new route piece used error h kept refused r front begun =
    let s = h.taken r front begun in
    let joined : (front ++ take used piece) ++ drop used piece ≡ front ++ take (length piece) piece =
    append_assoc front (take used piece) (drop used piece) ∙ ap (λ b. front ++ b) (take-append-drop used piece ∙ sym (take-length piece)) in
    record {
      after = s.after ++ drop used piece;
      takes = subst (λ b. Takes (terms_of i) route b (s.after ++ drop used piece) old new) joined
          (takes-bytes (terms_of i) route (front ++ take used piece) s.after (drop used piece) old mid new s.takes kept);
      begun = tt;
      refused = subst (λ rest. Refuses (terms_of i) (s.after ++ rest) error) (whole-rest used piece)
          (subst (λ terms. Refuses terms (s.after ++ rest-of used piece) error) h.same_terms
          (refused (h.ready r) s.after (subst (λ terms. HasUnfinished terms u1 s.after) (sym h.same_terms) s.begun)));
    }
