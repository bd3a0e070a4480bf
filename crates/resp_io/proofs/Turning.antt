-- Reads and writes one after another.
use Rattle.std.proofs.Common.{◌≡◌, inl, inr, true, ℕ, zero, suc, ◌+◌, ◌<◌, ◌≤◌, List, [], ◌++◌, take, drop, Option, None, Some, Ok, Err, refl, sym, ap, subst, ◌∙◌, arith, append_assoc}
use Rattle.std.specs.Prelude.{IfErr, IfOk, OnErr, OnOk, Result}
use Rattle.std.proofs.lemmas.Bool.{cases_lt}
use Rattle.std.proofs.lemmas.List.{append-nil}
use Rattle.std.proofs.Math.Seq.{take-add}
use Rattle.resp_io.specs.Devices.{Appends, HasRisen, count_after, failures_after, last_count}
use Rattle.resp_io.specs.Turns.{WereRead, Spends, SpendsTurns, TellsEnd}

-- Failures.

-- what failed has one failure more
pub has_risen : (failures failures' : ℕ) → failures' ≡ failures_after true failures → HasRisen failures failures'
has_risen failures failures' is = elim (cases_lt failures last_count) as (λ _. HasRisen failures failures') [
  | inl less ↦ inl (omega (arith, is, less))
  | inr most ↦ inr (omega (arith, is, most))
]

-- Turns.

pub spends_nothing : (calls turns : ℕ) → Spends calls calls turns turns
spends_nothing calls turns = record { count = 0; none = λ e. refl; some = λ h. absurd (omega (arith, h)); spent = omega arith }

-- one call
one_spent : (calls calls' turns turns' : ℕ) → calls' ≡ count_after 1 calls → turns ≡ turns' + 1 → Spends calls calls' turns turns'
one_spent calls calls' turns turns' one left =
    record { count = 1; none = λ e. absurd (omega (arith, e)); some = λ h. one; spent = left }

-- this many calls, and then more
called_more : (m n calls calls' calls'' : ℕ) → (m ≡ 0 → calls' ≡ calls) → (0 < m → calls' ≡ count_after m calls) → (n ≡ 0 → calls'' ≡ calls') →
    (0 < n → calls'' ≡ count_after n calls') → 0 < m + n → calls'' ≡ count_after (m + n) calls
called_more zero zero calls calls' calls'' none some none' some' any = absurd (omega (arith, any))
called_more zero (suc n) calls calls' calls'' none some none' some' any =
    let first = none refl in
    let second = some' (omega arith) in
    omega (arith, first, second)
called_more (suc m) zero calls calls' calls'' none some none' some' any =
    let first = some (omega arith) in
    let second = none' refl in
    omega (arith, first, second)
called_more (suc m) (suc n) calls calls' calls'' none some none' some' any =
    let first = some (omega arith) in
    let second = some' (omega arith) in
    omega (arith, first, second)

pub spends_more : (calls calls' calls'' turns turns' turns'' : ℕ) → Spends calls calls' turns turns' → Spends calls' calls'' turns' turns'' →
    Spends calls calls'' turns turns''
spends_more calls calls' calls'' turns turns' turns'' s t = record {
  count = s.count + t.count;
  none = λ e. t.none (omega (arith, e)) ∙ s.none (omega (arith, e));
  some = λ any. called_more s.count t.count calls calls' calls'' s.none s.some t.none t.some any;
  spent = omega (arith, s.spent, t.spent);
}

pub spends_one : (calls calls' calls'' turns turns' turns'' : ℕ) → Spends calls calls' turns turns' → calls'' ≡ count_after 1 calls' → turns' ≡ turns'' + 1 →
    Spends calls calls'' turns turns''
spends_one calls calls' calls'' turns turns' turns'' s one left =
    spends_more calls calls' calls'' turns turns' turns'' s (one_spent calls' calls'' turns' turns'' one left)

pub spends_no_turns : (writes reads turns : ℕ) → SpendsTurns writes writes reads reads turns turns
spends_no_turns writes reads turns = record { between = turns; written = spends_nothing writes turns; read = spends_nothing reads turns }

pub spends_writes : (writes writes' reads turns left : ℕ) → Spends writes writes' turns left → SpendsTurns writes writes' reads reads turns left
spends_writes writes writes' reads turns left w = record { between = left; written = w; read = spends_nothing reads left }

-- reads and then writes more
pub spends_both : (writes writes' writes'' reads reads' reads'' turns turns' turns'' left : ℕ) → SpendsTurns writes writes' reads reads' turns turns' →
    Spends reads' reads'' turns' turns'' → Spends writes' writes'' turns'' left → SpendsTurns writes writes'' reads reads'' turns left
spends_both writes writes' writes'' reads reads' reads'' turns turns' turns'' left s r w =
    let read = s.read.count + r.count in
    let written = s.written.count + w.count in
    record {
      between = left + read;
      written = record {
        count = written;
        none = λ e. w.none (omega (arith, e)) ∙ s.written.none (omega (arith, e));
        some = λ any. called_more s.written.count w.count writes writes' writes'' s.written.none s.written.some w.none w.some any;
        spent = omega (arith, s.written.spent, s.read.spent, r.spent, w.spent);
      };
      read = record {
        count = read;
        none = λ e. r.none (omega (arith, e)) ∙ s.read.none (omega (arith, e));
        some = λ any. called_more s.read.count r.count reads reads' reads'' s.read.none s.read.some r.none r.some any;
        spent = omega arith;
      };
    }

-- Writes.

-- one text was appended, and then another
pub appends_more : (a b c : Option (List ℕ)) (xs ys : List ℕ) → Appends a b xs → Appends b c ys → Appends a c (xs ++ ys)
appends_more None b c xs ys first second = tt
appends_more (Some held) b c xs ys first second =
    let then_second : Appends (Some (held ++ xs)) c ys = subst (λ v. Appends v c ys) first second in
    then_second ∙ ap Some (append_assoc held xs ys)

pub appends_nothing : (held : Option (List ℕ)) → Appends held held []
appends_nothing None = tt
appends_nothing (Some held) = ap Some (sym (append-nil held))

-- this many bytes of a text, and then more of it
pub appends_part : (a b c : Option (List ℕ)) (text : List ℕ) (count n : ℕ) → Appends a b (take count text) → Appends b c (take n (drop count text)) →
    Appends a c (take (count + n) text)
appends_part a b c text count n first second =
    subst (Appends a c) (sym (take-add count n text)) (appends_more a b c (take count text) (take n (drop count text)) first second)

-- Reads.

pub reads_none : (left : Option (List ℕ)) → WereRead left left []
reads_none None = tt
reads_none (Some left) = (left, refl, refl)

-- bytes were read, and then more
pub has_read_more : (a b c : Option (List ℕ)) (came more : List ℕ) → WereRead a b came → WereRead b c more → WereRead a c (came ++ more)
has_read_more None b c came more first second = tt
has_read_more (Some left) b c came more (rest, parts, beyond) second =
    let (last, parts', beyond') : WereRead (Some rest) c more = subst (λ z. WereRead z c more) beyond second in
    (last, parts ∙ ap (λ z. came ++ z) parts' ∙ sym (append_assoc came more last), beyond')

-- no byte more was read
pub has_read_same : (a b c : Option (List ℕ)) (came more : List ℕ) → more ≡ [] → WereRead a b came → WereRead b c more → WereRead a c came
has_read_same a b c came more none first second =
    subst (WereRead a c) (ap (λ z. came ++ z) none ∙ append-nil came) (has_read_more a b c came more first second)

-- the end is told after what was read
pub end_after : (a b c : Option (List ℕ)) (came : List ℕ) → WereRead a b came → TellsEnd b c → TellsEnd a c
end_after None b c came first second = tt
end_after (Some left) b c came (rest, parts, beyond) second = subst (λ z. TellsEnd z c) beyond second

-- what holds at an answer
pub if_ok : {A : Type 0} → {E : Type 0} → (r : Result A E) (x : A) → r ≡ Ok x → (P : A → Type 0) → IfOk r P → P x
if_ok r x is P p = subst (λ z. IfOk z P) is p

pub if_err : {A : Type 0} → {E : Type 0} → (r : Result A E) (e : E) → r ≡ Err e → (P : E → Type 0) → IfErr r P → P e
if_err r e is P p = subst (λ z. IfErr z P) is p

-- what follows at a value, and at an error
pub on_ok : {A E P Q : Type 0} (r : Result A E) → (P → Q) → OnOk r P → OnOk r Q
on_ok (Ok x) f p = f p
on_ok (Err e) f p = tt

pub on_err : {A E P Q : Type 0} (r : Result A E) → (P → Q) → OnErr r P → OnErr r Q
on_err (Ok x) f p = tt
on_err (Err e) f p = f p
