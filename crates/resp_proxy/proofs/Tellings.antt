-- Which clients were replied to.
use Rattle.std.proofs.Common.{◌≡◌, ◌∙◌, ℕ, zero, suc, ◌+◌, ◌-◌, true, List, [], ◌∷◌, ◌++◌, length, take, Option, Some, ap, append_assoc, arith, refl, subst, sym, slice_get}
use Rattle.std.specs.List.{AllByRecursion}
use Rattle.std.specs.Prelude.{unwrap_or}
use Rattle.std.proofs.Math.Seq.{take-append-add}
use Rattle.resp_board.proofs.Among.{among_at, among_there, is_other, none_both, none_of, not_among}
use Rattle.resp_board.specs.Runs.{HasAnswered, clients_on, is_among}
use Rattle.resp_board.specs.declared.board.Board.{Board}
use Rattle.resp_board.specs.declared.ticket.ClientId.{ClientId}
use Rattle.resp_proxy.specs.Telling.{Answers, Covers, IsFor, Notes, NotesSome, Tells}

all-append : (P : ClientId → Type 0) (xs ys : List ClientId) → AllByRecursion P xs → AllByRecursion P ys → AllByRecursion P (xs ++ ys)
all-append P [] ys all more = more
all-append P (x ∷ xs) ys all more = (all.0, all-append P xs ys all.1 more)

all-same : (P : ClientId → Type 0) (who : ClientId) (xs : List ClientId) → AllByRecursion (λ (other : ClientId). other ≡ who) xs → P who → AllByRecursion P xs
all-same P who [] same here = tt
all-same P who (x ∷ xs) same here = (subst P (sym same.0) here, all-same P who xs same.1 here)

-- one more client was replied to
pub tells-one : (line : ℕ) (queued mid-queued queued' : List ClientId) (old mid new : Board) (who : ClientId) → Tells line queued mid-queued old mid → Answers line old mid →
    IsFor line who mid new → Notes who mid-queued queued' → Tells line queued queued' old new
tells-one line queued mid-queued queued' old mid new who t a f n =
    let here : is_among who (clients_on old line) ≡ true =
    ap (is_among who) (a.first ∙ ap (λ ws. a.answered ++ ws) f.first) ∙ among_there who a.answered (clients_on new line) in
    record {
      added = t.added ++ n.added;
      behind = n.behind ∙ ap (λ q. q ++ n.added) t.behind ∙ append_assoc queued t.added n.added;
      waited = all-append (λ (w : ClientId). is_among w (clients_on old line) ≡ true) t.added n.added t.waited
          (all-same (λ (w : ClientId). is_among w (clients_on old line) ≡ true) who n.added n.only here);
      others = λ w none.
          let before = not_among w mid-queued n.added (ap (is_among w) (sym n.behind) ∙ none) in
          f.others w (is_other w who queued' none n.there) ∙ t.others w before.0;
    }

pub answers-one : (line : ℕ) (old mid new : Board) (who : ClientId) → Answers line old mid → clients_on mid line ≡ who ∷ clients_on new line → Answers line old new
answers-one line old mid new who a first = record {
  answered = a.answered ++ who ∷ [];
  first = a.first ∙ ap (λ ws. a.answered ++ ws) first ∙ sym (append_assoc a.answered (who ∷ []) (clients_on new line));
}

take-next : (xs : List ClientId) (i : ℕ) (x : ClientId) → slice_get xs i ≡ Some x → take (suc i) xs ≡ take i xs ++ x ∷ []
take-next [] zero x e = absurd (cc)
take-next [] (suc i) x e = absurd (cc)
take-next (y ∷ xs) zero x e = ap (λ (o : Option ClientId). unwrap_or o y ∷ []) e
take-next (y ∷ xs) (suc i) x e = ap (λ rest. y ∷ rest) (take-next xs i x e)

-- one more client of a command that waits was queued
pub notes-one : (clients queued mid-queued queued' : List ClientId) (before : ℕ) (who : ClientId) → slice_get clients before ≡ Some who →
    NotesSome clients queued mid-queued → Notes who mid-queued queued' → NotesSome clients queued queued'
notes-one clients queued mid-queued queued' before who e s n =
    record {
      added = s.added ++ n.added;
      behind = n.behind ∙ ap (λ q. q ++ n.added) s.behind ∙ append_assoc queued s.added n.added;
      only = all-append (λ (w : ClientId). is_among w clients ≡ true) s.added n.added s.only
          (all-same (λ (w : ClientId). is_among w clients ≡ true) who n.added n.only (among_at who clients before e));
    }

pub covers-one : (clients mid-queued queued' : List ClientId) (before : ℕ) (who : ClientId) → slice_get clients before ≡ Some who →
    Covers (take before clients) mid-queued → Notes who mid-queued queued' → Covers (take (before + 1) clients) queued'
covers-one clients mid-queued queued' before who e covers n w none =
    let next : before + 1 ≡ suc before = omega arith in
    let kept = not_among w mid-queued n.added (ap (is_among w) (sym n.behind) ∙ none) in
    ap (λ i. is_among w (take i clients)) next ∙ ap (is_among w) (take-next clients before who e) ∙
    none_both w (take before clients) (who ∷ []) (covers w kept.0) (none_of w who (is_other w who queued' none n.there))

-- clients of commands that waited were queued, and the first of these commands have their replies
pub tells-all : (line most : ℕ) (queued queued' : List ClientId) (old new : Board) → NotesSome (clients_on old line) queued queued' →
    Covers (take most (clients_on old line)) queued' → HasAnswered line most old new → Tells line queued queued' old new
tells-all line most queued queued' old new n covers a =
    let few = a.few in
    let split : most ≡ length a.answered + (most - length a.answered) = omega (arith, few) in
    let rest = take (most - length a.answered) (clients_on new line) in
    let whole : take most (clients_on old line) ≡ a.answered ++ rest =
    ap (take most) a.first ∙ ap (λ k. take k (a.answered ++ clients_on new line)) split ∙
    take-append-add a.answered (clients_on new line) (most - length a.answered) in
    record {
      added = n.added;
      behind = n.behind;
      waited = n.only;
      others = λ who none. let apart = not_among who a.answered rest (ap (is_among who) (sym whole) ∙ covers who none) in a.others who apart.0;
    }

-- clients were queued, and nobody was replied to
pub tells-nobody : (line : ℕ) (queued queued' : List ClientId) (m : Board) → NotesSome (clients_on m line) queued queued' → Tells line queued queued' m m
tells-nobody line queued queued' m n = record { added = n.added; behind = n.behind; waited = n.only; others = λ who none. refl }
