-- Readings in pieces, and after what is asked later.
use Rattle.std.proofs.Common.{◌≡◌, ℕ, Bool, true, false, cond, Option, None, Some, List, [], ◌∷◌, ◌++◌, refl, sym, ap, subst, ◌∙◌, append_assoc}
use Rattle.resp_value.specs.Data.{Datum, IsPush, scalar, aggregate, Array, Set, Map, Attr, Push}
use Rattle.resp_value.specs.Bounds.{Bounds}
use Rattle.resp_value.specs.Rules.{Rules, InVersion}
use Rattle.resp_value.specs.Spellings.{IsSpelling}
use Rattle.resp_value.specs.Laws.{APushBeginsWithItsByte, NoSpellingBeginsAnother, FrontsOfSpellingsAreViable, LaterTypeBytesWantVersionThree}
use Rattle.resp_value.specs.declared.version.Version.{Version}
use Rattle.resp_value.specs.declared.version.Version.TheVariants.{Two, Three}
use Rattle.resp_session.specs.Heard.{is_push}
use Rattle.resp_session.specs.Reading.{MayGoOn, ReadsAs, Waiting, reading_rules, reading_version, waiting_after, waiting_after_reply}
use Rattle.resp_session.specs.ReadingLaws.{ATextHasOneReading, ReadingsGoOn, ReadingsStay}

pub readings_go_on : ReadingsGoOn
readings_go_on limits a b c [] ys text more m n =
    let e : text ≡ [] = m.0 in
    let f : b ≡ a = m.1 in
    subst (λ z. ReadsAs limits a ys z c) (sym (ap (λ z. z ++ more) e)) (subst (λ z. ReadsAs limits z ys more c) f n)
readings_go_on limits a b c (x ∷ xs) ys text more m n =
    let (f, g, s, may, t, w) = m in
    (f, g ++ more, s, may, readings_go_on limits (waiting_after a x) b c xs ys g more t n, ap (λ z. z ++ more) w ∙ append_assoc f g more)

pub push_is : (x : Datum) → is_push x ≡ true → IsPush x
push_is (scalar s) e = absurd (cc)
push_is (aggregate Array xs) e = absurd (cc)
push_is (aggregate Set xs) e = absurd (cc)
push_is (aggregate Map xs) e = absurd (cc)
push_is (aggregate Attr xs) e = absurd (cc)
push_is (aggregate Push xs) e = tt

-- a push is spelled in version 3 alone
pub push_wants_three : APushBeginsWithItsByte → FrontsOfSpellingsAreViable → LaterTypeBytesWantVersionThree → (r : Rules) (x : Datum) (text : List ℕ) →
    is_push x ≡ true → IsSpelling r x text → r.version ≡ Two → ⊥
push_wants_three begins viable later r x text push s two =
    let (rest, e) = (begins r x text s).0 (push_is x push) in
    (later r two).1.1.1.1.1.1.1.1.0.not_viable (viable r x (62 ∷ []) rest (subst (IsSpelling r x) e s) InVersion)

three : (version : Version) → (version ≡ Two → ⊥) → (asks : List (Option Version)) → reading_version version asks ≡ version
three Two h asks = absurd (h refl)
three Three h [] = refl
three Three h (None ∷ asks) = refl
three Three h (Some asked ∷ asks) = refl

-- what is asked after the first command that waits doesn't change the version that is read
reading_stays : (version : Version) (ask : Option Version) (asks more : List (Option Version)) → reading_version version ((ask ∷ asks) ++ more) ≡
    reading_version version (ask ∷ asks)
reading_stays version None asks more = refl
reading_stays version (Some asked) asks more = refl

-- the version in which a value is read
version_stays : APushBeginsWithItsByte → FrontsOfSpellingsAreViable → LaterTypeBytesWantVersionThree →
    (limits : Bounds) (version : Version) (asks more : List (Option Version)) (x : Datum) (text : List ℕ) →
    IsSpelling (record { version = reading_version version asks; limits = limits }) x text → (asks ≡ [] → is_push x ≡ true) →
    reading_version version (asks ++ more) ≡ reading_version version asks
version_stays begins viable later limits version [] more x text s may =
    three version (λ two. push_wants_three begins viable later _ x text (may refl) s two) more
version_stays begins viable later limits version (ask ∷ asks) more x text s may = reading_stays version ask asks more

may_stay : (asks more : List (Option Version)) (push : Bool) → (asks ≡ [] → push ≡ true) → asks ++ more ≡ [] → push ≡ true
may_stay [] more push may e = may refl
may_stay (ask ∷ asks) more push may e = absurd (cc)

replied_stays : (version : Version) (asks more : List (Option Version)) (x : Datum) → (asks ≡ [] → false ≡ true) →
    waiting_after_reply version (asks ++ more) x ≡ record {
      version = (waiting_after_reply version asks x).version;
      asks =
          (waiting_after_reply version asks x).asks ++ more;
    }
replied_stays version [] more x may = let e : false ≡ true = may refl in absurd (cc)
replied_stays version (ask ∷ asks) more x may = refl

-- whichever it is, a push or a reply
after_by : (push : Bool) (version : Version) (asks more : List (Option Version)) (x : Datum) → (asks ≡ [] → push ≡ true) →
    cond push (record { version = version; asks = asks ++ more }) (waiting_after_reply version (asks ++ more) x) ≡
    record {
      version = (cond push (record { version = version; asks = asks }) (waiting_after_reply version asks x)).version;
      asks =
          (cond push (record { version = version; asks = asks }) (waiting_after_reply version asks x)).asks ++ more;
    }
after_by true version asks more x may = refl
after_by false version asks more x may = replied_stays version asks more x may

pub readings_stay : APushBeginsWithItsByte → FrontsOfSpellingsAreViable → LaterTypeBytesWantVersionThree → ReadingsStay
readings_stay begins viable later limits a b more [] text m =
    let f : b ≡ a = m.1 in
    (m.0, ap (λ (z : Waiting). record { version = z.version; asks = z.asks ++ more }) f)
readings_stay begins viable later limits a b more (x ∷ xs) text m =
    let (f, g, s, may, t, w) = m in
    let same = version_stays begins viable later limits a.version a.asks more x f s may in
    let next = after_by (is_push x) a.version a.asks more x may in (
      f,
      g,
      subst (λ version. IsSpelling (record { version = version; limits = limits }) x f) (sym same) s,
      may_stay a.asks more (is_push x) may,
      subst (λ z. ReadsAs limits z xs g (record { version = b.version; asks = b.asks ++ more })) (sym next)
          (readings_stay begins viable later limits (waiting_after a x) b more xs g t),
      w,
    )

-- two texts that are one with what follows them, and begin with spellings of a value each: it is the same value
pub same_first : NoSpellingBeginsAnother → (limits : Bounds) (w : Waiting) (x y : Datum) (f f' g g' p q u v : List ℕ) →
    IsSpelling (reading_rules limits w) x f → IsSpelling (reading_rules limits w) y f' → p ≡ f ++ g → q ≡ f' ++ g' → p ++ u ≡ q ++ v →
    (y ≡ x) × (g ++ u ≡ g' ++ v)
same_first apart limits w x y f f' g g' p q u v s s' o o' e =
    let whole : f ++ (g ++ u) ≡ f' ++ (g' ++ v) =
    sym (ap (λ z. z ++ u) o ∙ append_assoc f g u) ∙ e ∙ ap (λ z. z ++ v) o' ∙ append_assoc f' g' v in
    let d = apart (reading_rules limits w) (reading_rules limits w) x y f f' (g ++ u) (g' ++ v) s s' whole in
    (sym d.0, d.2)

one_reading : NoSpellingBeginsAnother → (limits : Bounds) (w a b : Waiting) (xs ys : List Datum) (p q u v : List ℕ) → ReadsAs limits w xs p a →
    ReadsAs limits w ys q b → p ++ u ≡ q ++ v → MayGoOn limits a u → MayGoOn limits b v → (xs ≡ ys) × (a ≡ b) × (u ≡ v)
one_reading apart limits w a b [] [] p q u v m n e j k =
    let m0 : p ≡ [] = m.0 in
    let n0 : q ≡ [] = n.0 in
    (refl, m.1 ∙ sym n.1, sym (ap (λ z. z ++ u) m0) ∙ e ∙ ap (λ z. z ++ v) n0)
one_reading apart limits w a b [] (y ∷ ys) p q u v m n e j k =
    let (f, g, s, may, t, o) = n in
    let m0 : p ≡ [] = m.0 in
    let i : MayGoOn limits w u = subst (λ z. MayGoOn limits z u) m.1 j in
    absurd (i.no_more y f (g ++ v) s (sym (ap (λ z. z ++ u) m0) ∙ e ∙ ap (λ z. z ++ v) o ∙ append_assoc f g v))
one_reading apart limits w a b (x ∷ xs) [] p q u v m n e j k =
    let (f, g, s, may, t, o) = m in
    let n0 : q ≡ [] = n.0 in
    let i : MayGoOn limits w v = subst (λ z. MayGoOn limits z v) n.1 k in
    absurd (i.no_more x f (g ++ u) s (sym (ap (λ z. z ++ v) n0) ∙ sym e ∙ ap (λ z. z ++ u) o ∙ append_assoc f g u))
one_reading apart limits w a b (x ∷ xs) (y ∷ ys) p q u v m n e j k =
    let (f, g, s, may, t, o) = m in
    let (f2, g2, s2, may2, t2, o2) = n in
    let (x0, after) = same_first apart limits w x y f f2 g g2 p q u v s s2 o o2 e in
    let i = one_reading apart limits (waiting_after w x) a b xs ys g g2 u v t (subst (λ z. ReadsAs limits (waiting_after w z) ys g2 b) x0 t2) after j k in
    let xs0 : xs ≡ ys = i.0 in
    (cc, i.1, i.2)

pub a_text_has_one_reading : NoSpellingBeginsAnother → ATextHasOneReading
a_text_has_one_reading apart limits w a b xs ys p q u v m n e j k = one_reading apart limits w a b xs ys p q u v m n e j k
