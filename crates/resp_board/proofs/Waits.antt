-- A part waits once.
use Rattle.std.proofs.Common.{arith, ◌≡◌, ◌≢◌, ◌⊎◌, ℕ, zero, suc, ◌+◌, ◌<◌, ◌≤◌, List, [], ◌∷◌, ◌++◌, drop, take, length, map, Option, None, Some, slice_get, refl, sym, ap, subst, ◌∙◌, inl, inr, append_assoc}
use Rattle.std.specs.List.{AllByRecursion}
use Rattle.std.proofs.lemmas.Bool.{cases_eq}
use Rattle.std.proofs.lemmas.List.{append-nil, take-append-drop}
use Rattle.resp_board.specs.declared.ticket.ClientId.{ClientId}
use Rattle.resp_board.specs.Boards.{Ask, Board, Entry, Event, Fail, Lose, Own, Part, Place, Redirect, Release, ReleaseBehind, Reply, Split, after_events, after_pairs, after_redirect, after_reply, after_split, answer_all, answer_at, first_part, happens, last_on, nothing_asked, part_answered, with_line, with_parts}
use Rattle.resp_board.specs.Once.{AreApart, AreDistinct, IsMissing, WaitsOnce, answer_of}
use Rattle.resp_board.proofs.LineLists.{at-line, off-line}

-- lists

pub lined : (P : List Place → Type 0) (l x : ℕ) (items : List Place) (w : ℕ → List Place) → (x ≡ l → P items) → ((x ≡ l → ⊥) → P (w x)) → P (with_line l items w x)
lined P l x items w here there = elim (cases_eq x l) [
  | inl same ↦ subst (λ y. P (with_line l items w y)) (sym same) (subst P (sym (at-line l items w)) (here same))
  | inr apart ↦ subst P (sym (off-line l items w x apart)) (there apart)
]

mapped : (P Q : Place → Type 0) → ((p : Place) → P p → Q p) → (xs : List Place) → AllByRecursion P xs → AllByRecursion Q xs
mapped P Q f [] all = tt
mapped P Q f (x ∷ xs) all = (f x all.0, mapped P Q f xs all.1)

both : (P Q R : Place → Type 0) → ((p : Place) → P p → Q p → R p) → (xs : List Place) → AllByRecursion P xs → AllByRecursion Q xs → AllByRecursion R xs
both P Q R f [] all other = tt
both P Q R f (x ∷ xs) all other = (f x all.0 other.0, both P Q R f xs all.1 other.1)

all-last : (P : Place → Type 0) (xs : List Place) (x : Place) → P x → AllByRecursion P xs → AllByRecursion P (xs ++ x ∷ [])
all-last P [] x p all = (p, tt)
all-last P (y ∷ xs) x p all = (all.0, all-last P xs x p all.1)

turned : (p q : Place) → AreApart p q → AreApart q p
turned p q apart e f = apart (sym e) (sym f)

distinct-last : (xs : List Place) (p : Place) → AllByRecursion (AreApart p) xs → AreDistinct xs → AreDistinct (xs ++ p ∷ [])
distinct-last [] p all d = (tt, tt)
distinct-last (x ∷ xs) p all d = (all-last (AreApart x) xs p (turned p x all.0) d.0, distinct-last xs p all.1 d.1)

-- the same parts on each line
same-lines : (es : List Entry) (w w' : ℕ → List Place) → ((x : ℕ) → w' x ≡ w x) → WaitsOnce es w → WaitsOnce es w'
same-lines es w w' same h = record {
  missing = λ l. subst (AllByRecursion (IsMissing es)) (sym (same l)) (h.missing l);
  once = λ l. subst AreDistinct (sym (same l)) (h.once l);
  on_one = λ l o apart. subst (λ xs. AllByRecursion (λ (p : Place). AllByRecursion (AreApart p) xs) (w' l)) (sym (same o))
      (subst (AllByRecursion (λ (p : Place). AllByRecursion (AreApart p) (w o))) (sym (same l)) (h.on_one l o apart));
}

-- the parts but the first of a line, and that each is apart from it
without : (es : List Entry) (w : ℕ → List Place) (l : ℕ) (p : Place) (ps : List Place) → w l ≡ p ∷ ps → WaitsOnce es w →
    WaitsOnce es (with_line l ps w) × ((x : ℕ) → AllByRecursion (AreApart p) (with_line l ps w x)) × IsMissing es p
without es w l p ps e h =
    let here : AllByRecursion (IsMissing es) (p ∷ ps) = subst (AllByRecursion (IsMissing es)) e (h.missing l) in
    let distinct : AreDistinct (p ∷ ps) = subst AreDistinct e (h.once l) in
    let away : (x : ℕ) → (x ≡ l → ⊥) → AllByRecursion (λ (q : Place). AllByRecursion (AreApart q) (w x)) (p ∷ ps) =
    λ x apart. subst (AllByRecursion (λ (q : Place). AllByRecursion (AreApart q) (w x))) e (h.on_one l x (λ s. apart (sym s))) in
    let toward : (x : ℕ) → (x ≡ l → ⊥) → AllByRecursion (λ (q : Place). AllByRecursion (AreApart q) (p ∷ ps)) (w x) =
    λ x apart. subst (λ xs. AllByRecursion (λ (q : Place). AllByRecursion (AreApart q) xs) (w x)) e (h.on_one x l apart) in (
      record {
        missing = λ x. lined (AllByRecursion (IsMissing es)) l x ps w (λ same. here.1) (λ apart. h.missing x);
        once = λ x. lined AreDistinct l x ps w (λ same. distinct.1) (λ apart. h.once x);
        on_one = λ x y apart.
            lined (λ ys. AllByRecursion (λ (q : Place). AllByRecursion (AreApart q) ys) (with_line l ps w x)) l y ps w
            (λ same. lined (λ xs. AllByRecursion (λ (q : Place). AllByRecursion (AreApart q) ps) xs) l x ps w
            (λ here'. absurd (apart (here' ∙ sym same)))
            (λ there. mapped (λ (q : Place). AllByRecursion (AreApart q) (p ∷ ps)) (λ (q : Place). AllByRecursion (AreApart q) ps) (λ q all. all.1) (w x) (toward x there)))
            (λ off. lined (λ xs. AllByRecursion (λ (q : Place). AllByRecursion (AreApart q) (w y)) xs) l x ps w
            (λ same. (away y off).1)
            (λ there. h.on_one x y apart));
      },
      (λ x. lined (AllByRecursion (AreApart p)) l x ps w (λ same. distinct.0) (λ apart. (away x apart).0)),
      here.0,
    )

-- a part more
added : (es : List Entry) (w : ℕ → List Place) (o : ℕ) (p : Place) → IsMissing es p → ((x : ℕ) → AllByRecursion (AreApart p) (w x)) → WaitsOnce es w →
    WaitsOnce es (last_on o p w)
added es w o p missing apart h = record {
  missing = λ x. lined (AllByRecursion (IsMissing es)) o x (w o ++ p ∷ []) w (λ same. all-last (IsMissing es) (w o) p missing (h.missing o)) (λ off. h.missing x);
  once = λ x. lined AreDistinct o x (w o ++ p ∷ []) w (λ same. distinct-last (w o) p (apart o) (h.once o)) (λ off. h.once x);
  on_one = λ x y away.
      lined (λ ys. AllByRecursion (λ (q : Place). AllByRecursion (AreApart q) ys) (last_on o p w x)) o y (w o ++ p ∷ []) w
      (λ same. lined (λ xs. AllByRecursion (λ (q : Place). AllByRecursion (AreApart q) (w o ++ p ∷ [])) xs) o x (w o ++ p ∷ []) w
      (λ here. absurd (away (here ∙ sym same)))
      (λ there. both (λ (q : Place). AllByRecursion (AreApart q) (w o)) (AreApart p) (λ (q : Place). AllByRecursion (AreApart q) (w o ++ p ∷ []))
      (λ q all off. all-last (AreApart q) (w o) p (turned p q off) all) (w x) (h.on_one x o there) (apart x)))
      (λ off. lined (λ xs. AllByRecursion (λ (q : Place). AllByRecursion (AreApart q) (w y)) xs) o x (w o ++ p ∷ []) w
      (λ same. all-last (λ (q : Place). AllByRecursion (AreApart q) (w y)) (w o) p (apart y) (h.on_one o y (λ s. off (sym s))))
      (λ there. h.on_one x y away));
}

-- answers

part-apart : (parts : List (Option (List ℕ))) (i j : ℕ) (text : List ℕ) → (i ≡ j → ⊥) → slice_get (part_answered i text parts) j ≡ slice_get parts j
part-apart [] i j text apart = refl
part-apart (x ∷ xs) zero zero text apart = absurd (apart refl)
part-apart (x ∷ xs) zero (suc j) text apart = refl
part-apart (x ∷ xs) (suc i) zero text apart = refl
part-apart (x ∷ xs) (suc i) (suc j) text apart = part-apart xs i j text (λ e. apart (ap suc e))

apart-answer : (es : List Entry) (n m i j : ℕ) (text : List ℕ) → (n ≡ m → i ≡ j → ⊥) → answer_of (answer_at es n i text) m j ≡ answer_of es m j
apart-answer [] n m i j text apart = refl
apart-answer (e ∷ es) zero zero i j text apart = part-apart e.parts i j text (apart refl)
apart-answer (e ∷ es) zero (suc m) i j text apart = refl
apart-answer (e ∷ es) (suc n) zero i j text apart = refl
apart-answer (e ∷ es) (suc n) (suc m) i j text apart = apart-answer es n m i j text (λ s. apart (ap suc s))

answered : (es : List Entry) (w : ℕ → List Place) (l : ℕ) (p : Place) (ps : List Place) (text : List ℕ) → w l ≡ p ∷ ps → WaitsOnce es w →
    WaitsOnce (answer_at es p.entry p.part text) (with_line l ps w)
answered es w l p ps text e h =
    let rest = without es w l p ps e h in
    record {
      missing = λ x. both (IsMissing es) (AreApart p) (IsMissing (answer_at es p.entry p.part text))
          (λ q missing apart. apart-answer es p.entry q.entry p.part q.part text apart ∙ missing) (with_line l ps w x) (rest.0.missing x) (rest.1 x);
      once = rest.0.once;
      on_one = rest.0.on_one;
    }

pub same-line : (w : ℕ → List Place) (l : ℕ) (items : List Place) → w l ≡ items → (x : ℕ) → with_line l items w x ≡ w x
same-line w l items e x = lined (λ ys. ys ≡ w x) l x items w (λ same. sym (ap w same ∙ e)) (λ apart. refl)

pub twice : (w : ℕ → List Place) (l : ℕ) (items more : List Place) (x : ℕ) → with_line l items w x ≡ with_line l items (with_line l more w) x
twice w l items more x = lined (λ ys. ys ≡ with_line l items (with_line l more w) x) l x items w
    (λ same. sym (lined (λ ys. ys ≡ items) l x items (with_line l more w) (λ s. refl) (λ apart. absurd (apart same))))
    (λ apart. sym (off-line l items (with_line l more w) x apart ∙ off-line l more w x apart))

drained : (es : List Entry) (w : ℕ → List Place) (l : ℕ) (places rest : List Place) (text : List ℕ) → w l ≡ places ++ rest → WaitsOnce es w →
    WaitsOnce (answer_all es places text) (with_line l rest w)
drained es w l [] rest text e h = same-lines es w (with_line l rest w) (same-line w l rest e) h
drained es w l (p ∷ places) rest text e h =
    same-lines _ (with_line l rest (with_line l (places ++ rest) w)) (with_line l rest w) (twice w l rest (places ++ rest))
    (drained (answer_at es p.entry p.part text) (with_line l (places ++ rest) w) l places rest text (at-line l (places ++ rest) w)
    (answered es w l p (places ++ rest) text e h))

-- a command more

answer-more : (es : List Entry) (e : Entry) (n i : ℕ) (a : Option (List ℕ)) → answer_of es n i ≡ Some a → answer_of (es ++ e ∷ []) n i ≡ Some a
answer-more [] e n i a h = absurd (grind arith)
answer-more (x ∷ es) e zero i a h = h
answer-more (x ∷ es) e (suc n) i a h = answer-more es e n i a h

answer-none : (es : List Entry) (i : ℕ) → answer_of es (length es) i ≡ None
answer-none [] i = refl
answer-none (x ∷ es) i = answer-none es i

answer-last : (es : List Entry) (e : Entry) (i : ℕ) → answer_of (es ++ e ∷ []) (length es) i ≡ slice_get e.parts i
answer-last [] e i = refl
answer-last (x ∷ es) e i = answer-last es e i

longer : (es : List Entry) (w : ℕ → List Place) (e : Entry) → WaitsOnce es w → WaitsOnce (es ++ e ∷ []) w
longer es w e h = record {
  missing = λ l. mapped (IsMissing es) (IsMissing (es ++ e ∷ [])) (λ p missing. answer-more es e p.entry p.part None missing) (w l) (h.missing l);
  once = h.once;
  on_one = h.on_one;
}

-- the parts of the last command that wait are among its first
abbrev AreBelow : ℕ → ℕ → List Place → Type 0
AreBelow n j places = AllByRecursion (λ (q : Place). q.entry ≡ n → q.part < j) places

none-below : (es : List Entry) (w : ℕ → List Place) → WaitsOnce es w → (x : ℕ) → AreBelow (length es) 0 (w x)
none-below es w h x = mapped (IsMissing es) (λ (q : Place). q.entry ≡ length es → q.part < 0)
    (λ q missing e. absurd (no q missing e)) (w x) (h.missing x)
  where
    no : (q : Place) → answer_of es q.entry q.part ≡ Some None → q.entry ≡ length es → ⊥
    no q missing e =
        let some : None ≡ Some None = sym (ap (λ n. answer_of es n q.part) e ∙ answer-none es q.part) ∙ missing in
        absurd (grind arith)

parts-added : (es : List Entry) (n j : ℕ) (who : ClientId) (parts : List Part) (w : ℕ → List Place) →
    ((i : ℕ) → j ≤ i → i < j + length parts → answer_of es n i ≡ Some None) → ((x : ℕ) → AreBelow n j (w x)) → WaitsOnce es w →
    WaitsOnce es (with_parts who n j parts w)
parts-added es n j who [] w left below h = h
parts-added es n j who (q ∷ parts) w left below h =
    let p : Place = record { entry = n; part = j; client = who; text = q.text } in
    parts-added es n (j + 1) who parts (last_on q.line p w) (λ i low high. left i (omega arith) (high-of i high))
    (λ x. lined (AreBelow n (j + 1)) q.line x (w q.line ++ p ∷ []) w
    (λ same. all-last (λ (r : Place). r.entry ≡ n → r.part < j + 1) (w q.line) p (λ e. omega arith) (wider (w q.line) (below q.line)))
    (λ apart. wider (w x) (below x)))
    (added es w q.line p (left j (omega arith) (first-left j)) (λ x. mapped (λ (r : Place). r.entry ≡ n → r.part < j) (AreApart p) (λ r low e f. beyond r low e f) (w x) (below x)) h)
  where
    high-of : (i : ℕ) → i < j + 1 + length parts → i < j + length (q ∷ parts)
    high-of i high = grind arith

    first-left : (j : ℕ) → j < j + length (q ∷ parts)
    first-left j = grind arith

    wider : (xs : List Place) → AreBelow n j xs → AreBelow n (j + 1) xs
    wider xs all = mapped (λ (r : Place). r.entry ≡ n → r.part < j) (λ (r : Place). r.entry ≡ n → r.part < j + 1) (λ r low e. let lt : r.part < j = low e in omega arith) xs all

    beyond : (r : Place) → (r.entry ≡ n → r.part < j) → n ≡ r.entry → j ≡ r.part → ⊥
    beyond r low e f = let lt : r.part < j = low (sym e) in absurd (omega arith)

abbrev no-parts-of : List Part → List (Option (List ℕ))
no-parts-of parts = map (λ (p : Part). None) parts

no-answers : (parts : List Part) (i : ℕ) → i < length parts → slice_get (no-parts-of parts) i ≡ Some None
no-answers [] i lt = absurd (grind arith)
no-answers (p ∷ parts) zero lt = refl
no-answers (p ∷ parts) (suc i) lt = no-answers parts i (grind arith)

split-waits : (b : Board) (who : ClientId) (parts : List Part) (merge : List (List ℕ) → List ℕ) → WaitsOnce b.entries b.waiting →
    WaitsOnce (happens b (Split who parts merge)).entries (happens b (Split who parts merge)).waiting
split-waits b who parts merge h =
    let e : Entry = record { client = who; parts = map (λ (p : Part). None) parts; merge = merge } in
    parts-added (b.entries ++ e ∷ []) (length b.entries) 0 who parts b.waiting
    (λ i low high. answer-last b.entries e i ∙ no-answers parts i (omega arith))
    (none-below b.entries b.waiting h) (longer b.entries b.waiting e h)

-- parts that move

redirect-waits : (es : List Entry) (w : ℕ → List Place) (l o : ℕ) (p : Place) (ps : List Place) → w l ≡ p ∷ ps → WaitsOnce es w →
    WaitsOnce es (last_on o p (with_line l ps w))
redirect-waits es w l o p ps e h =
    let rest = without es w l p ps e h in
    added es (with_line l ps w) o p rest.2 rest.1 rest.0

emptied : (es : List Entry) (w : ℕ → List Place) (l : ℕ) (places : List Place) → w l ≡ places → WaitsOnce es w → WaitsOnce es (with_line l [] w)
emptied es w l [] e h = same-lines es w (with_line l [] w) (same-line w l [] e) h
emptied es w l (p ∷ places) e h =
    same-lines es (with_line l [] (with_line l places w)) (with_line l [] w) (twice w l [] places)
    (emptied es (with_line l places w) l places (at-line l places w) (without es w l p places e h).0)

-- all that wait on a line move
all-moved : (es : List Entry) (w : ℕ → List Place) (l o : ℕ) (places : List Place) → l ≢ o → w l ≡ places → WaitsOnce es w →
    WaitsOnce es (with_line l [] (with_line o (w o ++ places) w))
all-moved es w l o [] apart e h = same-lines es w _ (λ x.
    lined (λ ys. ys ≡ w x) l x [] (with_line o (w o ++ []) w) (λ same. sym (ap w same ∙ e)) (λ off. same-line w o (w o ++ []) (sym (append-nil (w o))) x)) h
all-moved es w l o (p ∷ places) apart e h =
    let next = last_on o p (with_line l places w) in
    let at-o : next o ≡ w o ++ p ∷ [] =
    at-line o (with_line l places w o ++ p ∷ []) (with_line l places w) ∙ ap (λ xs. xs ++ p ∷ []) (off-line l places w o (λ s. apart (sym s))) in
    same-lines es (with_line l [] (with_line o (next o ++ places) next)) _ (λ x.
    lined (λ ys. ys ≡ with_line l [] (with_line o (next o ++ places) next) x) l x [] (with_line o (w o ++ p ∷ places) w)
    (λ same. sym (lined (λ ys. ys ≡ []) l x [] (with_line o (next o ++ places) next) (λ s. refl) (λ off. absurd (off same))))
    (λ off. sym (off-line l [] (with_line o (next o ++ places) next) x off ∙
    lined (λ ys. ys ≡ with_line o (w o ++ p ∷ places) w x) o x (next o ++ places) next
    (λ same. ap (λ xs. xs ++ places) at-o ∙ append_assoc (w o) (p ∷ []) places ∙
    sym (lined (λ ys. ys ≡ w o ++ p ∷ places) o x (w o ++ p ∷ places) w (λ s. refl) (λ no. absurd (no same))))
    (λ no. off-line o (with_line l places w o ++ p ∷ []) (with_line l places w) x no ∙ off-line l places w x off ∙
    sym (off-line o (w o ++ p ∷ places) w x no)))))
    (all-moved es next l o places apart
    (off-line o (with_line l places w o ++ p ∷ []) (with_line l places w) l apart ∙ at-line l places w)
    (redirect-waits es w l o p places e h))

-- runs

reply-waits : (b : Board) (l : ℕ) (text : List ℕ) (places : List Place) → b.waiting l ≡ places → WaitsOnce b.entries b.waiting →
    WaitsOnce (after_reply b l text places).entries (after_reply b l text places).waiting
reply-waits b l text [] e h = h
reply-waits b l text (p ∷ ps) e h = answered b.entries b.waiting l p ps text e h

moved-waits : (b : Board) (l o : ℕ) (places : List Place) → b.waiting l ≡ places → WaitsOnce b.entries b.waiting →
    WaitsOnce (after_redirect b l o places).entries (after_redirect b l o places).waiting
moved-waits b l o [] e h = h
moved-waits b l o (p ∷ ps) e h = redirect-waits b.entries b.waiting l o p ps e h

release-waits : (b : Board) (l o : ℕ) → WaitsOnce b.entries b.waiting → WaitsOnce b.entries (happens b (Release l o)).waiting
release-waits b l o h = elim (cases_eq l o) [
  | inr apart ↦ all-moved b.entries b.waiting l o (b.waiting l) apart refl h
  | inl same ↦ same-lines b.entries (with_line l [] b.waiting) (happens b (Release l o)).waiting
      (λ x. lined (λ ys. ys ≡ with_line l [] b.waiting x) l x [] (with_line o (b.waiting o ++ b.waiting l) b.waiting)
      (λ here. sym (lined (λ ys. ys ≡ []) l x [] b.waiting (λ s. refl) (λ no. absurd (no here))))
      (λ no. off-line o (b.waiting o ++ b.waiting l) b.waiting x (λ s. no (s ∙ sym same)) ∙ sym (off-line l [] b.waiting x no)))
      (emptied b.entries b.waiting l (b.waiting l) refl h)
]

pairs-wait : (count : ℕ) (b : Board) (who : ClientId) (text : List ℕ) (l o : ℕ) → WaitsOnce b.entries b.waiting →
    WaitsOnce (after_pairs count b who text l o).entries (after_pairs count b who text l o).waiting
pairs-wait zero b who text l o h = h
pairs-wait (suc count) b who text l o h =
    let asked = after_split b who ((record { line = o; text = text }) ∷ []) first_part in
    pairs-wait count (after_redirect asked l o (asked.waiting l)) who text l o
    (moved-waits asked l o (asked.waiting l) refl (split-waits b who ((record { line = o; text = text }) ∷ []) first_part h))

step-waits : (b : Board) (e : Event) → WaitsOnce b.entries b.waiting → WaitsOnce (happens b e).entries (happens b e).waiting
step-waits b (Ask who l text) h = split-waits b who ((record { line = l; text = text }) ∷ []) first_part h
step-waits b (Split who parts merge) h = split-waits b who parts merge h
step-waits b (Own who text) h = longer b.entries b.waiting _ h
step-waits b (Reply l text) h = reply-waits b l text (b.waiting l) refl h
step-waits b (Redirect l o) h = moved-waits b l o (b.waiting l) refl h
step-waits b (Release l o) h = release-waits b l o h
step-waits b (ReleaseBehind who text l o) h = pairs-wait (length (b.waiting l)) b who text l o h
step-waits b (Lose l count text) h =
    drained b.entries b.waiting l (take count (b.waiting l)) (drop count (b.waiting l)) text (sym (take-append-drop count (b.waiting l))) h
step-waits b (Fail l text) h = drained b.entries b.waiting l (b.waiting l) [] text (sym (append-nil (b.waiting l))) h

run-waits : (b : Board) (events : List Event) → WaitsOnce b.entries b.waiting → WaitsOnce (after_events b events).entries (after_events b events).waiting
run-waits b [] h = h
run-waits b (e ∷ events) h = run-waits (happens b e) events (step-waits b e h)

pub waits_once : (events : List Event) → WaitsOnce (after_events nothing_asked events).entries (after_events nothing_asked events).waiting
waits_once events = run-waits nothing_asked events (record { missing = λ l. tt; once = λ l. tt; on_one = λ l o apart. tt })

-- answers stay

decided : (n m i j : ℕ) → ((n ≡ m) × (i ≡ j)) ⊎ (n ≡ m → i ≡ j → ⊥)
decided n m i j = elim (cases_eq n m) [
  | inr off ↦ inr (λ e f. off e)
  | inl same ↦ elim (cases_eq i j) [
    | inr off ↦ inr (λ e f. off f)
    | inl same' ↦ inl (same, same')
  ]
]

stays-at : (es : List Entry) (p : Place) (text : List ℕ) (entry part : ℕ) (old : List ℕ) → IsMissing es p → answer_of es entry part ≡ Some (Some old) →
    answer_of (answer_at es p.entry p.part text) entry part ≡ Some (Some old)
stays-at es p text entry part old missing h = elim (decided p.entry entry p.part part) [
  | inl same ↦
      let there : answer_of es entry part ≡ Some None =
      sym (ap (λ n. answer_of es n p.part) same.0 ∙ ap (answer_of es entry) same.1) ∙ missing in
      let wrong : Some (Some old) ≡ Some None = sym h ∙ there in
      absurd (grind arith)
  | inr apart ↦ apart-answer es p.entry entry p.part part text apart ∙ h
]

stays-all : (es : List Entry) (w : ℕ → List Place) (l : ℕ) (places rest : List Place) (text : List ℕ) → w l ≡ places ++ rest → WaitsOnce es w →
    (entry part : ℕ) (old : List ℕ) → answer_of es entry part ≡ Some (Some old) → answer_of (answer_all es places text) entry part ≡ Some (Some old)
stays-all es w l [] rest text e h entry part old a = a
stays-all es w l (p ∷ places) rest text e h entry part old a =
    stays-all (answer_at es p.entry p.part text) (with_line l (places ++ rest) w) l places rest text (at-line l (places ++ rest) w)
    (answered es w l p (places ++ rest) text e h) entry part old
    (stays-at es p text entry part old (without es w l p (places ++ rest) e h).2 a)

reply-stays : (b : Board) (l : ℕ) (text : List ℕ) (places : List Place) → b.waiting l ≡ places → WaitsOnce b.entries b.waiting →
    (entry part : ℕ) (old : List ℕ) → answer_of b.entries entry part ≡ Some (Some old) →
    answer_of (after_reply b l text places).entries entry part ≡ Some (Some old)
reply-stays b l text [] e h entry part old a = a
reply-stays b l text (p ∷ ps) e h entry part old a = stays-at b.entries p text entry part old (without b.entries b.waiting l p ps e h).2 a

redirect-stays : (b : Board) (l o : ℕ) (places : List Place) → (after_redirect b l o places).entries ≡ b.entries
redirect-stays b l o [] = refl
redirect-stays b l o (p ∷ ps) = refl

pairs-stay : (count : ℕ) (b : Board) (who : ClientId) (text : List ℕ) (l o entry part : ℕ) (old : List ℕ) →
    answer_of b.entries entry part ≡ Some (Some old) → answer_of (after_pairs count b who text l o).entries entry part ≡ Some (Some old)
pairs-stay zero b who text l o entry part old a = a
pairs-stay (suc count) b who text l o entry part old a =
    let asked = after_split b who ((record { line = o; text = text }) ∷ []) first_part in
    pairs-stay count (after_redirect asked l o (asked.waiting l)) who text l o entry part old
    (ap (λ es. answer_of es entry part) (redirect-stays asked l o (asked.waiting l)) ∙ answer-more b.entries _ entry part (Some old) a)

event-stays : (b : Board) (e : Event) → WaitsOnce b.entries b.waiting → (entry part : ℕ) (old : List ℕ) →
    answer_of b.entries entry part ≡ Some (Some old) → answer_of (happens b e).entries entry part ≡ Some (Some old)
event-stays b (Ask who l text) h entry part old a = answer-more b.entries _ entry part (Some old) a
event-stays b (Split who parts merge) h entry part old a = answer-more b.entries _ entry part (Some old) a
event-stays b (Own who text) h entry part old a = answer-more b.entries _ entry part (Some old) a
event-stays b (Reply l text) h entry part old a = reply-stays b l text (b.waiting l) refl h entry part old a
event-stays b (Redirect l o) h entry part old a = ap (λ es. answer_of es entry part) (redirect-stays b l o (b.waiting l)) ∙ a
event-stays b (Release l o) h entry part old a = a
event-stays b (ReleaseBehind who text l o) h entry part old a = pairs-stay (length (b.waiting l)) b who text l o entry part old a
event-stays b (Lose l count text) h entry part old a =
    stays-all b.entries b.waiting l (take count (b.waiting l)) (drop count (b.waiting l)) text (sym (take-append-drop count (b.waiting l))) h entry part old a
event-stays b (Fail l text) h entry part old a =
    stays-all b.entries b.waiting l (b.waiting l) [] text (sym (append-nil (b.waiting l))) h entry part old a

pub answer_stays : (events : List Event) (e : Event) (entry part : ℕ) (old : List ℕ) →
    answer_of (after_events nothing_asked events).entries entry part ≡ Some (Some old) →
    answer_of (happens (after_events nothing_asked events) e).entries entry part ≡ Some (Some old)
answer_stays events e entry part old a = event-stays (after_events nothing_asked events) e (waits_once events) entry part old a
