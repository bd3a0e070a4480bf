-- A draft takes in events: what it has is the canonical text of what they build.
use Rattle.std.proofs.Common.{◌≡◌, ℕ, ◌+◌, ◌-◌, ◌<◌, Bool, true, false, Option, None, Some, List, [], ◌∷◌, ◌++◌, length, take, drop, get_or, reverse, OnOk, Result, Ok, Err, refl, sym, ap, subst, ◌∙◌, append_assoc, append-nil, length-append, arith}
use Rattle.std.specs.Prelude.{flat_map, is_ok}
use Rattle.std.proofs.Common.{inl, inr}
use Rattle.std.proofs.lemmas.List.{reverse-append}
use Rattle.std.proofs.Math.ListN.{set}
use Rattle.std.proofs.Math.Seq.{drop-append-add, drop-append_seam, set-append_seam, take-append_seam}
use Rattle.std.proofs.lemmas.Grind.{flat_map-append}
use Rattle.resp_value.specs.Bytes.{crlf}
use Rattle.resp_value.specs.Canonical.{canonical_text, canonical_trees}
use Rattle.resp_value.specs.Data.{Kind, Datum, aggregate, data_of_list, items_of}
use Rattle.resp_value.specs.Kinds.{kind_of}
use Rattle.resp_value.specs.declared.kind.OpenKind.{OpenKind}
use Rattle.resp_value.specs.Numbers.{decimal}
use Rattle.resp_value.specs.Trees.{kind_byte, texts}
use Rattle.resp_value.specs.declared.version.Version.{Version}
use Rattle.resp_value.proofs.DatumOf.{count-data_of_list}
use Rattle.resp_fronts.specs.Events as e
use Rattle.resp_scan.specs.Kinds.{content_events, text_kind_of}
use Rattle.resp_scan.specs.Listening.{Hears, whole_text_events}
use Rattle.resp_scan.specs.Reading.{Events}
use Rattle.resp_scan.specs.declared.event.TextKind.{TextKind as ScannedKind}
use Rattle.resp_decode.specs.Builds.{Construction, Group, Text, built_from, nothing, text_value, with_bytes, with_event, with_events, with_group_closed, with_text_ended, with_value, with_value_in}
use Rattle.resp_decode.specs.Fits.{IsInText, MayAllCome, MayBegin}
use Rattle.resp_decode.proofs.Folds.{with_events-append}
use Rattle.resp_decode.proofs.HeldLemmas.{content_held, last_split}
use Rattle.resp_decode.proofs.Taking.{room_for, whole_text_builds}
use Rattle.resp_cli_stream.specs.Drafts.{AppendsKnownHead, StandOpen, CountsOne, DraftsWhereFit, HasDrafted, IsDraftOf, StandsOpen, IsRead, WithHead, number_of, whole_text}
use Rattle.resp_encode.specs.Encodings.{head_text}
use Rattle.resp_cli_stream.specs.declared.draft.Draft.{Draft}
use Rattle.resp_cli_stream.specs.declared.draft.OpenAggregate.{OpenAggregate}

-- ---- the aggregates

-- the text of a value that has ended
value_added : (w : Version) (os new : List OpenAggregate) (gs : List Group) (x : Datum) (b : Construction) (text : List ℕ) → b.groups ≡ gs →
    b.whole ≡ None → StandOpen w os gs [] text → CountsOne os new →
    StandOpen w new (with_value_in gs x b).groups (whole_text w (with_value_in gs x b).whole) (text ++ canonical_text w x)
value_added w [] new [] x b text is none opens counts =
    subst (λ zs. StandOpen w zs b.groups (canonical_text w x) (text ++ canonical_text w x)) (sym counts)
    (subst (λ gs. StandOpen w [] gs (canonical_text w x) (text ++ canonical_text w x)) (sym is) (ap (λ t. t ++ canonical_text w x) opens))
value_added w [] new (g ∷ gs) x b text is none opens counts = absurd opens
value_added w (o ∷ os) new [] x b text is none opens counts = absurd opens
value_added w (o ∷ os) new (g ∷ gs) x b text is none opens counts =
    let (outer, inner, others) = opens in
    let wider : Group = record g { members = g.members ++ x ∷ [] } in
    let more : OpenAggregate = record o { members = o.members + 1 } in
    let f = canonical_text w in
    let opened : StandsOpen w more wider outer (text ++ f x) = record {
      kind = inner.kind;
      members = omega (arith, inner.members, length-append g.members (x ∷ []));
      head = inner.head;
      head_at = inner.head_at;
      members_at = inner.members_at;
      counted = inner.counted;
      parts =
          ap (λ t. t ++ f x) inner.parts
          ∙ append_assoc outer (inner.head ++ flat_map f g.members) (f x)
          ∙ ap (λ t. outer ++ t) (append_assoc inner.head (flat_map f g.members) (f x)
          ∙ ap (λ t. inner.head ++ t) (ap (λ t. flat_map f g.members ++ t) (sym (append-nil (f x))) ∙ sym (flat_map-append f g.members (x ∷ []))));
    } in
    let around : StandOpen w os gs (whole_text w b.whole) outer = subst (λ z. StandOpen w os gs (whole_text w z) outer) (sym none) others in
    subst (λ zs. StandOpen w zs (wider ∷ gs) (whole_text w b.whole) (text ++ f x)) (sym counts) (outer, opened, around)

-- the last aggregate is the innermost
pub counts_last : (xs : List OpenAggregate) (n : ℕ) (o y : OpenAggregate) → n ≡ length xs → 0 < n → o ≡ get_or xs (n - 1) o →
    y ≡ record o { members = o.members + 1 } → CountsOne (reverse xs) (reverse (set xs (n - 1) y))
counts_last xs n o y size some is more =
    let (init, e) = last_split xs o (omega arith) in
    let whole : xs ≡ init ++ o ∷ [] = e ∙ ap (λ z. init ++ z ∷ []) (sym (is ∙ ap (λ i. get_or xs (i - 1) o) size)) in
    let at : n - 1 ≡ length init = omega (arith, ap length whole, length-append init (o ∷ [])) in
    let new : set xs (n - 1) y ≡ init ++ y ∷ [] = ap (λ i. set xs i y) at ∙ ap (λ z. set z (length init) y) whole ∙ set-append_seam init o [] y in
    subst (λ zs. CountsOne zs (reverse (set xs (n - 1) y))) (sym (ap reverse whole ∙ reverse-append init (o ∷ [])))
    (ap reverse new ∙ reverse-append init (y ∷ []) ∙ ap (λ z. z ∷ reverse init) more)

-- a value that ends begins and ends no text
same_text : (gs : List Group) (x : Datum) (b : Construction) → (with_value_in gs x b).text ≡ b.text
same_text [] x b = refl
same_text (g ∷ gs) x b = refl

-- where no text is read, and nothing of it has changed, none is
pub still : (kind now : Option ScannedKind) (content left : List ℕ) (text : Option Text) → now ≡ kind → left ≡ content → text ≡ None →
    IsRead kind content text → IsRead now left None
still kind now content left text same same_content none read =
    subst (λ k. IsRead k left None) (sym same) (subst (λ c. IsRead kind c None) (sym same_content) (subst (IsRead kind content) none read))

-- the draft of a value that has ended, whose text was added after what is around it
pub draft_value : (w : Version) (os : List OpenAggregate) (outer : List ℕ) (new : Draft) (b : Construction) (x : Datum) → b.text ≡ None →
    b.whole ≡ None → StandOpen w os b.groups [] outer → new.version ≡ w → IsRead new.kind new.content.items None →
    new.text.items ≡ outer ++ canonical_text w x → CountsOne os (reverse new.aggregates.items) → IsDraftOf new (with_value x b)
draft_value w os outer new b x no_text none opens version read added counts =
    let after = with_value_in b.groups x b in
    let opened = value_added w os (reverse new.aggregates.items) b.groups x b outer refl none opens counts in
    record {
      opens =
          subst (λ v. StandOpen v (reverse new.aggregates.items) after.groups (whole_text v after.whole) new.text.items) (sym version)
          (subst (λ t. StandOpen w (reverse new.aggregates.items) after.groups (whole_text w after.whole) t) (sym added) opened);
      read = subst (IsRead new.kind new.content.items) (sym (same_text b.groups x b ∙ no_text)) read;
    }

-- what is open of a draft between two values, or after one
pub open_at : (draft : Draft) (b : Construction) → b.whole ≡ None → IsDraftOf draft b →
    StandOpen draft.version (reverse draft.aggregates.items) b.groups [] draft.text.items
open_at draft b none is =
    subst (λ z. StandOpen draft.version (reverse draft.aggregates.items) b.groups (whole_text draft.version z) draft.text.items) none is.opens

-- what is open stays so where the text does
same_open : (old new : Draft) (gs : List Group) (whole : Option Datum) → new.version ≡ old.version → new.text ≡ old.text → new.aggregates ≡ old.aggregates →
    StandOpen old.version (reverse old.aggregates.items) gs (whole_text old.version whole) old.text.items →
    StandOpen new.version (reverse new.aggregates.items) gs (whole_text new.version whole) new.text.items
same_open old new gs whole version text opens is =
    subst (λ v. StandOpen v (reverse new.aggregates.items) gs (whole_text v whole) new.text.items) (sym version)
    (subst (λ t. StandOpen old.version (reverse new.aggregates.items) gs (whole_text old.version whole) t.items) (sym text)
    (subst (λ os. StandOpen old.version (reverse os.items) gs (whole_text old.version whole) old.text.items) (sym opens) is))

-- ---- an aggregate's end

texts_of_members : (w : Version) (xs : List Datum) → texts (canonical_trees w (data_of_list xs)) ≡ flat_map (canonical_text w) xs
texts_of_members w [] = refl
texts_of_members w (x ∷ xs) = ap (λ t. canonical_text w x ++ t) (texts_of_members w xs)

-- the canonical text of an aggregate is its head and the texts of its members
aggregate_text : (w : Version) (k : Kind) (xs : List Datum) →
    canonical_text w (aggregate k (data_of_list xs)) ≡ head_text k (items_of k (length xs)) ++ flat_map (canonical_text w) xs
aggregate_text w k xs =
    let members = flat_map (canonical_text w) xs in
    ap (λ n. (kind_byte k ∷ decimal (items_of k n)) ++ crlf (texts (canonical_trees w (data_of_list xs)) ++ [])) (count-data_of_list xs)
    ∙ ap (λ t. (kind_byte k ∷ decimal (items_of k (length xs))) ++ crlf t) (append-nil (texts (canonical_trees w (data_of_list xs))) ∙ texts_of_members w xs)
    ∙ sym (append_assoc (kind_byte k ∷ decimal (items_of k (length xs))) (crlf []) members)

-- the text with an aggregate's head is its canonical text after what is around it
closed_text : (w : Version) (o : OpenAggregate) (g : Group) (outer text closed : List ℕ) → StandsOpen w o g outer text →
    WithHead o text closed → closed ≡ outer ++ canonical_text w (aggregate g.kind (data_of_list g.members))
closed_text w o g outer text closed inner with_head = whole with_head ∙ ap (λ t. outer ++ t) (sym (aggregate_text w g.kind g.members))
  where
    members : List ℕ
    members = flat_map (canonical_text w) g.members

    n : ℕ
    n = items_of g.kind (length g.members)

    number : number_of o ≡ n
    number = ap (λ k. items_of k o.members) inner.kind ∙ ap (items_of g.kind) inner.members

    before : take o.head_at text ≡ outer
    before = ap (λ m. take m text) inner.head_at ∙ ap (take (length outer)) inner.parts ∙ take-append_seam outer (inner.head ++ members)

    beyond : drop o.members_at text ≡ members
    beyond =
        ap (λ m. drop m text) inner.members_at
        ∙ ap (drop (length outer + length inner.head)) inner.parts
        ∙ drop-append-add outer (inner.head ++ members) (length inner.head)
        ∙ drop-append_seam inner.head members

    whole : WithHead o text closed → closed ≡ outer ++ (head_text g.kind n ++ members)
    whole (inl (counted, same)) =
        same ∙ inner.parts ∙ ap (λ h. outer ++ (h ++ members)) (inner.counted (number_of o) counted ∙ ap (head_text g.kind) number)
    whole (inr put) =
        put
        ∙ ap (λ t. t ++ (head_text (kind_of o.kind) (number_of o) ++ drop o.members_at text)) before
        ∙ ap (λ t. outer ++ (head_text (kind_of o.kind) (number_of o) ++ t)) beyond
        ∙ ap (λ k. outer ++ (head_text k (number_of o) ++ members)) inner.kind
        ∙ ap (λ m. outer ++ (head_text g.kind m ++ members)) number

-- the draft of an aggregate that has ended
pub draft_closed : (w : Version) (o : OpenAggregate) (os : List OpenAggregate) (gs : List Group) (text closed : List ℕ) (new : Draft) (b : Construction) →
    b.text ≡ None → b.whole ≡ None → StandOpen w (o ∷ os) gs [] text → WithHead o text closed → new.version ≡ w →
    IsRead new.kind new.content.items None → new.text.items ≡ closed → CountsOne os (reverse new.aggregates.items) → IsDraftOf new (with_group_closed gs b)
draft_closed w o os [] text closed new b no_text none opens with_head version read added counts = absurd opens
draft_closed w o os (g ∷ gs) text closed new b no_text none opens with_head version read added counts =
    let (outer, inner, others) = opens in
    draft_value w os outer new (record b { groups = gs }) (aggregate g.kind (data_of_list g.members)) no_text none others version read
    (added ∙ closed_text w o g outer text closed inner with_head) counts

-- a head that is appended where it is known
known_head : (kind : Kind) (count : Option ℕ) (before after : List ℕ) → AppendsKnownHead kind count before after →
    (head : List ℕ) × (after ≡ before ++ head) × ((number : ℕ) → count ≡ Some number → head ≡ head_text kind number)
known_head kind None before after same = ([], same ∙ sym (append-nil before), λ number is. cc)
known_head kind (Some n) before after added = (head_text kind n, added, λ number is. let same : n ≡ number = cc in ap (head_text kind) same)

-- the draft of an aggregate that has begun
pub draft_opened : (old new : Draft) (b : Construction) (kind : OpenKind) (count : Option ℕ) (head_at members_at : ℕ) → MayBegin b → IsDraftOf old b →
    new.version ≡ old.version → new.kind ≡ old.kind → new.content ≡ old.content →
    AppendsKnownHead (kind_of kind) count old.text.items new.text.items → head_at ≡ length old.text.items → members_at ≡ length new.text.items →
    reverse new.aggregates.items ≡
    record { kind = kind; count = count; head_at = head_at; members_at = members_at; members = 0 } ∷ reverse old.aggregates.items →
    IsDraftOf new (with_event (e.Open (kind_of kind) count) b)
draft_opened old new b kind count head_at members_at may is version same_kind same_content appended before after opened =
    let (head, added, counted) = known_head (kind_of kind) count old.text.items new.text.items appended in
    let w = old.version in
    let group : Group = record { kind = kind_of kind; members = [] } in
    let o : OpenAggregate = record { kind = kind; count = count; head_at = head_at; members_at = members_at; members = 0 } in
    let inner : StandsOpen w o group old.text.items new.text.items = record {
      kind = refl;
      members = omega arith;
      head = head;
      head_at = before;
      members_at = after ∙ ap length added ∙ length-append old.text.items head;
      counted = counted;
      parts = added ∙ ap (λ t. old.text.items ++ t) (sym (append-nil head));
    } in
    let all : StandOpen w (o ∷ reverse old.aggregates.items) (group ∷ b.groups) [] new.text.items = (old.text.items, inner, open_at old b may.1 is) in
    record {
      opens =
          subst (λ v. StandOpen v (reverse new.aggregates.items) (group ∷ b.groups) (whole_text v b.whole) new.text.items) (sym version)
          (subst (λ os. StandOpen w os (group ∷ b.groups) (whole_text w b.whole) new.text.items) (sym opened)
          (subst (λ z. StandOpen w (o ∷ reverse old.aggregates.items) (group ∷ b.groups) (whole_text w z) new.text.items) (sym may.1) all));
      read =
          subst (IsRead new.kind new.content.items) (sym may.0)
          (still old.kind new.kind old.content.items new.content.items b.text same_kind (ap (λ c. c.items) same_content) may.0 is.read);
    }

-- ---- content

-- the draft of a text that has begun
pub draft_begun : (old new : Draft) (b : Construction) (kind : ScannedKind) → b.text ≡ None → IsDraftOf old b → new.version ≡ old.version →
    new.text ≡ old.text → new.aggregates ≡ old.aggregates → new.kind ≡ Some kind → new.content ≡ old.content →
    IsDraftOf new (with_event (e.Text (text_kind_of kind)) b)
draft_begun old new b kind no_text is version text opens begun same = record {
  opens = same_open old new b.groups b.whole version text opens is.opens;
  read =
      subst (λ k. IsRead k new.content.items (Some (record { kind = text_kind_of kind; content = [] }))) (sym begun)
      (refl, ap (λ c. c.items) same ∙ empty old.kind old.content.items (subst (IsRead old.kind old.content.items) no_text is.read));
}
  where
    empty : (kind : Option ScannedKind) (content : List ℕ) → IsRead kind content None → content ≡ []
    empty None content none = none
    empty (Some kind) content none = absurd none

-- and one of which more has come
extended : (b : Construction) (part : List ℕ) (kind : Option ScannedKind) (content : List ℕ) (t : Option Text) → b.text ≡ t →
    MayAllCome (content_events part) b → IsRead kind content t → IsRead kind (content ++ part) (with_bytes t part)
extended b [] None content None is may read = append-nil content ∙ read
extended b (x ∷ part) None content None is may read = absurd (subst IsInText is may.0.0)
extended b part None content (Some t) is may read = absurd read
extended b part (Some kind) content None is may read = absurd read
extended b part (Some kind) content (Some t) is may read = (read.0, ap (λ s. s ++ part) read.1)

pub draft_part : (old new : Draft) (b : Construction) (part : List ℕ) → MayAllCome (content_events part) b → IsDraftOf old b → new.version ≡ old.version →
    new.text ≡ old.text → new.aggregates ≡ old.aggregates → new.kind ≡ old.kind → new.content.items ≡ old.content.items ++ part →
    IsDraftOf new (with_events (content_events part) b)
draft_part old new b part may is version text opens kind more =
    let grown : Construction = record b { text = with_bytes b.text part } in
    let read = subst (λ k. IsRead k new.content.items grown.text) (sym kind)
    (subst (λ c. IsRead old.kind c grown.text) (sym more) (extended b part old.kind old.content.items b.text refl may is.read)) in
    subst (IsDraftOf new) (sym (content_held part b.text b))
    (record { opens = same_open old new b.groups b.whole version text opens is.opens; read = read })

-- the draft of a text that has ended, whose text was added
pub draft_ended : (old new : Draft) (b : Construction) (kind : ScannedKind) (text : Option Text) → b.text ≡ text → b.whole ≡ None → IsDraftOf old b →
    old.kind ≡ Some kind → new.version ≡ old.version → new.kind ≡ None → new.content.items ≡ [] →
    new.text.items ≡ old.text.items ++ canonical_text old.version (text_value (text_kind_of kind) old.content.items) →
    CountsOne (reverse old.aggregates.items) (reverse new.aggregates.items) → IsDraftOf new (with_text_ended text b)
draft_ended old new b kind None no_text none is had version no_kind empty added counts =
    absurd (subst (λ k. IsRead k old.content.items None) had (subst (IsRead old.kind old.content.items) no_text is.read))
draft_ended old new b kind (Some t) has none is had version no_kind empty added counts =
    let read = subst (λ k. IsRead k old.content.items (Some t)) had (subst (IsRead old.kind old.content.items) has is.read) in
    let same : text_value (text_kind_of kind) old.content.items ≡ text_value t.kind t.content =
    ap (λ k. text_value k old.content.items) read.0 ∙ ap (text_value t.kind) read.1 in
    draft_value old.version (reverse old.aggregates.items) old.text.items new (record b { text = None }) (text_value t.kind t.content) refl none
    (open_at old b none is) version (subst (λ k. IsRead k new.content.items None) (sym no_kind) empty)
    (added ∙ ap (λ x. old.text.items ++ canonical_text old.version x) same) counts

-- a text that comes whole
pub draft_whole_text : (old new : Draft) (b : Construction) (kind : ScannedKind) (s : List ℕ) → MayAllCome (whole_text_events kind s) b → IsDraftOf old b →
    new.version ≡ old.version → new.kind ≡ old.kind → new.content ≡ old.content →
    new.text.items ≡ old.text.items ++ canonical_text old.version (text_value (text_kind_of kind) s) →
    CountsOne (reverse old.aggregates.items) (reverse new.aggregates.items) → IsDraftOf new (with_events (whole_text_events kind s) b)
draft_whole_text old new b kind s may is version same_kind same_content added counts =
    let no_text = may.0.0 in
    let none = may.0.1 in
    subst (IsDraftOf new) (sym (whole_text_builds (text_kind_of kind) s b no_text))
    (draft_value old.version (reverse old.aggregates.items) old.text.items new b (text_value (text_kind_of kind) s) no_text none (open_at old b none is) version
    (still old.kind new.kind old.content.items new.content.items b.text same_kind (ap (λ c. c.items) same_content) no_text is.read) added counts)

-- ---- the listener

-- a call that hears these events, or stops
abbrev pub DraftHears : Draft → Draft → Events → Bool → Type 0
DraftHears old new = Hears (λ version. HasDrafted version old) (λ version. HasDrafted version new) (λ version given. Unit {0})

pub draft_hears : (old new : Draft) (more : Events) (goes_on : Bool) → DraftsWhereFit old new more goes_on → DraftHears old new more goes_on
draft_hears old new more true drafts version given (same, is) may =
    let (kept, more_is) = drafts (built_from given) (room_for given more may).may is refl in
    (kept ∙ same, subst (IsDraftOf new) (sym (with_events-append given more nothing)) more_is)
draft_hears old new more false drafts version given is may = record { told = more; later = []; parts = sym (append-nil more); has_stopped = tt }

-- a call that appends the text of a scalar without content, and then counts its value
pub hears_scalar : {E : Type 0} (old mid new : Draft) (event : e.Event) (x : Datum) (written : Result (Unit {0}) E) (goes_on : Bool) →
    ((b : Construction) → with_events (event ∷ []) b ≡ with_value x b) → ((b : Construction) → MayAllCome (event ∷ []) b → MayBegin b) →
    mid ≡ record old { text = mid.text } → OnOk written (mid.text.items ≡ old.text.items ++ canonical_text old.version x) →
    new ≡ record mid { aggregates = new.aggregates } → (goes_on ≡ true → is_ok written ≡ true) →
    (goes_on ≡ true → CountsOne (reverse mid.aggregates.items) (reverse new.aggregates.items)) → DraftHears old new (event ∷ []) goes_on
hears_scalar old mid new event x written goes_on builds begins wrote appends ended if_written counted =
    draft_hears old new (event ∷ []) goes_on (λ b may is goes.
    let begun = begins b may in
    let added : mid.text.items ≡ old.text.items ++ canonical_text old.version x = on_ok written (if_written goes) appends in
    let same : new ≡ record old { text = mid.text; aggregates = new.aggregates } =
    ended ∙ ap (λ z. let h : Draft = z in record h { aggregates = new.aggregates }) wrote in
    let version = ap (λ z. let h : Draft = z in h.version) same in
    let counts = subst (λ z. let h : Draft = z in CountsOne (reverse h.aggregates.items) (reverse new.aggregates.items)) wrote (counted goes) in (
      version,
      subst (IsDraftOf new) (sym (builds b))
          (draft_value old.version (reverse old.aggregates.items) old.text.items new b x begun.0 begun.1 (open_at old b begun.1 is) version
          (still old.kind new.kind old.content.items new.content.items b.text (ap (λ z. let h : Draft = z in h.kind) same)
          (ap (λ z. let h : Draft = z in h.content.items) same) begun.0 is.read) (ap (λ z. let h : Draft = z in h.text.items) same ∙ added) counts),
    ))
  where
    on_ok : {E : Type 0} {P : Type 0} (written : Result (Unit {0}) E) → is_ok written ≡ true → OnOk written P → P
    on_ok (Ok u) is p = p
    on_ok (Err error) is p = absurd (cc)

-- once a value is whole, the draft is its text
pub draft_is_text : (draft : Draft) (x : Datum) → IsDraftOf draft (record nothing { whole = Some x }) → draft.text.items ≡ canonical_text draft.version x
draft_is_text draft x is = no_group (reverse draft.aggregates.items) is.opens
  where
    no_group : (os : List OpenAggregate) → StandOpen draft.version os [] (canonical_text draft.version x) draft.text.items →
        draft.text.items ≡ canonical_text draft.version x
    no_group [] opens = opens
    no_group (o ∷ os) opens = absurd opens

-- and another may begin in its place
pub draft_cleared : (old new : Draft) (x : Datum) → IsDraftOf old (record nothing { whole = Some x }) → new.aggregates ≡ old.aggregates → new.kind ≡ old.kind →
    new.content ≡ old.content → new.text.items ≡ [] → IsDraftOf new nothing
draft_cleared old new x is same same_kind same_content empty = record {
  opens = subst (λ os. StandOpen new.version (reverse os.items) [] [] new.text.items) (sym same) (no_group (reverse old.aggregates.items) is.opens);
  read = still old.kind new.kind old.content.items new.content.items None same_kind (ap (λ c. c.items) same_content) refl is.read;
}
  where
    no_group : (os : List OpenAggregate) → StandOpen old.version os [] (canonical_text old.version x) old.text.items →
        StandOpen new.version os [] [] new.text.items
    no_group [] opens = empty
    no_group (o ∷ os) opens = absurd opens
