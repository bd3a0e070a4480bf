-- The command of a ticket, among the commands of all clients.
use Rattle.std.proofs.Common.{arith, ◌≡◌, ℕ, zero, suc, ◌-◌, ◌<◌, ◌≤◌, true, false, List, [], ◌∷◌, ◌++◌, length, map, Option, None, Some, slice_get, slice_set, refl, sym, ap, subst, ◌∙◌, cond, inl, inr}
use Rattle.std.specs.List.{AllByRecursion}
use Rattle.resp_board.specs.declared.desk.Desk.{Desk}
use Rattle.resp_board.specs.declared.ticket.ClientId.{ClientId}
use Rattle.resp_board.specs.Boards.{Entry, answer_at, is_same, with_part}
use Rattle.resp_board.specs.Desks.{Awaits, HasAnswers, later}
use Rattle.resp_board.specs.Joins.{HasOnePart}
use Rattle.resp_board.specs.Once.{answer_of}
use Rattle.resp_board.specs.Tickets.{answer_to, answers_for, command_of, place_of}
use Rattle.resp_board.proofs.Tickets.{either, here, own, skip, some-is}

-- an answer changes no place
pub place-answer : (who : ClientId) (n : ℕ) (es : List Entry) (k part : ℕ) (text : List ℕ) → place_of who n (answer_at es k part text) ≡ place_of who n es
place-answer who n [] k part text = refl
place-answer who zero (e ∷ es) zero part text = refl
place-answer who (suc n) (e ∷ es) zero part text = refl
place-answer who zero (e ∷ es) (suc k) part text = ap (λ p. cond (is_same who e.client) 0 (suc p)) (place-answer who zero es k part text)
place-answer who (suc n) (e ∷ es) (suc k) part text =
    ap (λ p. cond (is_same who e.client) (suc p) (suc (place_of who (suc n) (answer_at es k part text)))) (place-answer who n es k part text) ∙
    ap (λ p. cond (is_same who e.client) (suc (place_of who n es)) (suc p)) (place-answer who (suc n) es k part text)

place-skip : (who : ClientId) (n : ℕ) (e : Entry) (es : List Entry) → is_same who e.client ≡ false → place_of who n (e ∷ es) ≡ suc (place_of who n es)
place-skip who zero e es off = ap (λ b. cond b 0 (suc (place_of who zero es))) off
place-skip who (suc n) e es off = ap (λ b. cond b (suc (place_of who n es)) (suc (place_of who (suc n) es))) off

place-first : (who : ClientId) (e : Entry) (es : List Entry) → is_same who e.client ≡ true → place_of who zero (e ∷ es) ≡ 0
place-first who e es mine = ap (λ b. cond b 0 (suc (place_of who zero es))) mine

place-next : (who : ClientId) (n : ℕ) (e : Entry) (es : List Entry) → is_same who e.client ≡ true → place_of who (suc n) (e ∷ es) ≡ suc (place_of who n es)
place-next who n e es mine = ap (λ b. cond b (suc (place_of who n es)) (suc (place_of who (suc n) es))) mine

command-skip : (who : ClientId) (n : ℕ) (e : Entry) (es : List Entry) → is_same who e.client ≡ false → command_of who n (e ∷ es) ≡ command_of who n es
command-skip who zero e es off = ap (λ b. cond b (Some e) (command_of who zero es)) off
command-skip who (suc n) e es off = ap (λ b. cond b (command_of who n es) (command_of who (suc n) es)) off

command-first : (who : ClientId) (e : Entry) (es : List Entry) → is_same who e.client ≡ true → command_of who zero (e ∷ es) ≡ Some e
command-first who e es mine = ap (λ b. cond b (Some e) (command_of who zero es)) mine

command-next : (who : ClientId) (n : ℕ) (e : Entry) (es : List Entry) → is_same who e.client ≡ true → command_of who (suc n) (e ∷ es) ≡ command_of who n es
command-next who n e es mine = ap (λ b. cond b (command_of who n es) (command_of who (suc n) es)) mine

lower : (a b p : ℕ) → a ≡ suc p → a < suc b → p < b
lower a b p is few = omega (arith, is, few)

-- a command more changes no place of a command
pub place-append : (who : ClientId) (n : ℕ) (es more : List Entry) → place_of who n es < length es → place_of who n (es ++ more) ≡ place_of who n es
place-append who n [] more few = absurd (omega (arith, few))
place-append who zero (e ∷ es) more few = elim (either (is_same who e.client)) [
  | inl mine ↦ place-first who e (es ++ more) mine ∙ sym (place-first who e es mine)
  | inr off ↦
      place-skip who zero e (es ++ more) off ∙
      ap suc (place-append who zero es more (lower (place_of who zero (e ∷ es)) (length es) (place_of who zero es) (place-skip who zero e es off) few)) ∙
      sym (place-skip who zero e es off)
]
place-append who (suc n) (e ∷ es) more few = elim (either (is_same who e.client)) [
  | inl mine ↦
      place-next who n e (es ++ more) mine ∙
      ap suc (place-append who n es more (lower (place_of who (suc n) (e ∷ es)) (length es) (place_of who n es) (place-next who n e es mine) few)) ∙
      sym (place-next who n e es mine)
  | inr off ↦
      place-skip who (suc n) e (es ++ more) off ∙
      ap suc (place-append who (suc n) es more (lower (place_of who (suc n) (e ∷ es)) (length es) (place_of who (suc n) es) (place-skip who (suc n) e es off) few)) ∙
      sym (place-skip who (suc n) e es off)
]

-- the command that comes next has the number of the client's commands before it
pub place-new : (who : ClientId) (es : List Entry) (e : Entry) → is_same who e.client ≡ true →
    place_of who (length (answers_for who es)) (es ++ e ∷ []) ≡ length es
place-new who [] e mine = place-first who e [] mine
place-new who (x ∷ es) e mine = elim (either (is_same who x.client)) [
  | inl his ↦
      ap (λ ys. place_of who (length ys) (x ∷ (es ++ e ∷ []))) (here who x es his) ∙
      place-next who (length (answers_for who es)) x (es ++ e ∷ []) his ∙ ap suc (place-new who es e mine)
  | inr off ↦
      ap (λ ys. place_of who (length ys) (x ∷ (es ++ e ∷ []))) (skip who x es off) ∙
      place-skip who (length (answers_for who es)) x (es ++ e ∷ []) off ∙ ap suc (place-new who es e mine)
]

pub missing-within : (es : List Entry) (entry part : ℕ) (x : Option (List ℕ)) → answer_of es entry part ≡ Some x → entry < length es
missing-within [] entry part x h = absurd (grind arith)
missing-within (e ∷ es) zero part x h = omega arith
missing-within (e ∷ es) (suc entry) part x h = let r = missing-within es entry part x h in omega (arith, r)

-- a ticket finds a command, of which this part has no answer
pub record Finds (who : ClientId) (n part : ℕ) (es : List Entry) : Type 0 where
  pub entry : Entry
  pub is : command_of who n es ≡ Some entry
  pub missing : slice_get entry.parts part ≡ Some None

pub finds-missing : (who : ClientId) (n part : ℕ) (es : List Entry) → answer_of es (place_of who n es) part ≡ Some None → Finds who n part es
finds-missing who n part [] h = absurd (grind arith)
finds-missing who zero part (x ∷ es) h = elim (either (is_same who x.client)) [
  | inl mine ↦ record {
    entry = x;
    is = command-first who x es mine;
    missing = sym (ap (λ k. answer_of (x ∷ es) k part) (place-first who x es mine)) ∙ h;
  }
  | inr off ↦
      let r = finds-missing who zero part es (sym (ap (λ k. answer_of (x ∷ es) k part) (place-skip who zero x es off)) ∙ h) in
      record { entry = r.entry; is = command-skip who zero x es off ∙ r.is; missing = r.missing }
]
finds-missing who (suc n) part (x ∷ es) h = elim (either (is_same who x.client)) [
  | inl mine ↦
      let r = finds-missing who n part es (sym (ap (λ k. answer_of (x ∷ es) k part) (place-next who n x es mine)) ∙ h) in
      record { entry = r.entry; is = command-next who n x es mine ∙ r.is; missing = r.missing }
  | inr off ↦
      let r = finds-missing who (suc n) part es (sym (ap (λ k. answer_of (x ∷ es) k part) (place-skip who (suc n) x es off)) ∙ h) in
      record { entry = r.entry; is = command-skip who (suc n) x es off ∙ r.is; missing = r.missing }
]

pub answers-at : (who : ClientId) (n : ℕ) (es : List Entry) (e : Entry) → command_of who n es ≡ Some e →
    slice_get (answers_for who es) n ≡ Some (answer_to e)
answers-at who n [] e h = absurd (grind arith)
answers-at who zero (x ∷ es) e h = elim (either (is_same who x.client)) [
  | inl mine ↦
      ap (λ ys. slice_get ys 0) (here who x es mine) ∙
      ap (λ y. Some (answer_to y)) (some-is x e (sym (command-first who x es mine) ∙ h))
  | inr off ↦
      ap (λ ys. slice_get ys 0) (skip who x es off) ∙ answers-at who zero es e (sym (command-skip who zero x es off) ∙ h)
]
answers-at who (suc n) (x ∷ es) e h = elim (either (is_same who x.client)) [
  | inl mine ↦
      ap (λ ys. slice_get ys (suc n)) (here who x es mine) ∙ answers-at who n es e (sym (command-next who n x es mine) ∙ h)
  | inr off ↦
      ap (λ ys. slice_get ys (suc n)) (skip who x es off) ∙ answers-at who (suc n) es e (sym (command-skip who (suc n) x es off) ∙ h)
]

pub all-of : (P : Entry → Type 0) (who : ClientId) (n : ℕ) (es : List Entry) (e : Entry) → AllByRecursion P es → command_of who n es ≡ Some e → P e
all-of P who n [] e all h = absurd (grind arith)
all-of P who zero (x ∷ es) e all h = elim (either (is_same who x.client)) [
  | inl mine ↦ subst P (some-is x e (sym (command-first who x es mine) ∙ h)) all.0
  | inr off ↦ all-of P who zero es e all.1 (sym (command-skip who zero x es off) ∙ h)
]
all-of P who (suc n) (x ∷ es) e all h = elim (either (is_same who x.client)) [
  | inl mine ↦ all-of P who n es e all.1 (sym (command-next who n x es mine) ∙ h)
  | inr off ↦ all-of P who (suc n) es e all.1 (sym (command-skip who (suc n) x es off) ∙ h)
]

inner : (a b : Option (List ℕ)) → Some a ≡ Some b → a ≡ b
inner a b same = ap (λ o. or-else a o) same
  where
    or-else : Option (List ℕ) → Option (Option (List ℕ)) → Option (List ℕ)
    or-else d None = d
    or-else d (Some x) = x

only-one : (a : Option (List ℕ)) (part : ℕ) → slice_get (a ∷ []) part ≡ Some None → (part ≡ 0) × (a ≡ None)
only-one a zero h = (refl, inner a None h)
only-one a (suc part) h = absurd (grind arith)

one-missing : (e : Entry) (part : ℕ) → HasOnePart e → slice_get e.parts part ≡ Some None → answer_to e ≡ None
one-missing e part o h =
    let r = only-one o.answer part (sym (ap (λ ps. slice_get ps part) o.only) ∙ h) in
    let bare : e.parts ≡ None ∷ [] = o.only ∙ ap (λ a. a ∷ []) r.1 in
    ap (λ ps. answer_to (record { client = e.client; parts = ps; merge = e.merge })) bare

one-answered : (e : Entry) (part : ℕ) (text : List ℕ) → HasOnePart e → slice_get e.parts part ≡ Some None → answer_to (with_part part text e) ≡ Some text
one-answered e part text o h =
    let r = only-one o.answer part (sym (ap (λ ps. slice_get ps part) o.only) ∙ h) in
    ap (λ k. answer_to (with_part k text e)) r.0 ∙
    ap (λ ps. answer_to (with_part 0 text (record { client = e.client; parts = ps; merge = e.merge }))) o.only ∙
    ap (λ m. answer_to (with_part 0 text (record { client = e.client; parts = o.answer ∷ []; merge = m }))) o.same

-- the answer to the part that waits for a ticket is the answer to the command of this number
pub joined : (who : ClientId) (n part : ℕ) (es : List Entry) (text : List ℕ) → AllByRecursion HasOnePart es →
    answer_of es (place_of who n es) part ≡ Some None →
    answers_for who (answer_at es (place_of who n es) part text) ≡ slice_set (answers_for who es) n (Some text)
joined who n part es text single missing =
    let f = finds-missing who n part es missing in
    own who n es f.entry part text f.is ∙
    ap (slice_set (answers_for who es) n) (one-answered f.entry part text (all-of HasOnePart who n es f.entry single f.is) f.missing)

-- and this command has no answer
pub awaited : (who : ClientId) (n part : ℕ) (es : List Entry) → AllByRecursion HasOnePart es → answer_of es (place_of who n es) part ≡ Some None →
    slice_get (answers_for who es) n ≡ Some None
awaited who n part es single missing =
    let f = finds-missing who n part es missing in
    answers-at who n es f.entry f.is ∙
    ap (λ (a : Option (List ℕ)). Some a) (one-missing f.entry part (all-of HasOnePart who n es f.entry single f.is) f.missing)

after-told : (told : List (List ℕ)) (xs : List (Option (List ℕ))) (n : ℕ) → slice_get (map Some told ++ xs) n ≡ Some None →
    (length told ≤ n) × (slice_get xs (n - length told) ≡ Some None)
after-told [] xs n h = (omega arith, (let same : n - 0 ≡ n = omega arith in ap (slice_get xs) same ∙ h))
after-told (t ∷ told) xs zero h = absurd (grind arith)
after-told (t ∷ told) xs (suc n) h =
    let r = after-told told xs n h in
    let within = r.0 in
    let same : suc n - suc (length told) ≡ n - length told = omega (arith, within) in
    (omega (arith, within), ap (slice_get xs) same ∙ r.1)

-- the desk of the client awaits this answer
pub awaits : (d : Desk) (answers : List (Option (List ℕ))) (given : List ℕ) (n : ℕ) → HasAnswers d answers given → slice_get answers n ≡ Some None →
    Awaits d n
awaits d answers given n h missing =
    let r = after-told h.told (later d) n (sym (ap (λ xs. slice_get xs n) h.whole) ∙ missing) in
    record {
      after = subst (λ k. k ≤ n) (sym h.count) r.0;
      missing = ap (λ k. slice_get (later d) (n - k)) h.count ∙ r.1;
    }
