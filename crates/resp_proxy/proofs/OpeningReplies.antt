-- How the replies of an opening are taken.
use Rattle.std.proofs.Common.{◌≡◌, ◌∙◌, ◌⊎◌, inl, inr, ◌-◌, ℕ, suc, ◌+◌, ◌<◌, ◌≤◌, true, false, List, [], ◌∷◌, ◌++◌, length, take, drop, ap, append_assoc, arith, refl, subst, sym}
use Rattle.std.specs.Prelude.{if◌then◌else◌, ◌==◌, IfSome, Option, Some}
use Rattle.std.specs.List.{AllByRecursion, concat}
use Rattle.std.proofs.Math.Seq.{take-add}
use Rattle.std.proofs.lemmas.List.{append-nil, length-append, length-drop, take-append-drop}
use Rattle.std.proofs.lemmas.List.Folds.{concat-append}
use Rattle.resp_frames.proofs.WholeTexts.{rejects_in_text}
use Rattle.resp_frames.specs.declared.begun.Begun.{Begun}
use Rattle.resp_frames.specs.declared.error.FrameError.{FrameError}
use Rattle.resp_frames.specs.declared.error.FrameError.TheVariants as frame
use Rattle.resp_frames.specs.declared.frame.Frame.{Frame}
use Rattle.resp_frames.specs.Framing.{HasBegun, IsFrame, IsReady, OnFault, RejectsByte, frame_rules}
use Rattle.resp_frames.specs.Texts.{text_of, used_of}
use Rattle.resp_proxy.proofs.Rejectings.{begins_value}
use Rattle.resp_proxy.proofs.Takings.{rest-of, whole-rest}
use Rattle.resp_proxy.specs.declared.opening_replies.Expected.TheVariants.{Setting}
use Rattle.resp_proxy.specs.declared.opening_replies.OpeningError.{OpeningError}
use Rattle.resp_proxy.specs.declared.opening_replies.OpeningError.TheVariants as error
use Rattle.resp_proxy.specs.declared.opening_replies.OpeningReplies.{OpeningReplies}
use Rattle.resp_proxy.specs.OpeningReplies.{AreAccepted, BeginsAccepting, HasReplies, IsOneOf, OpeningTerms, RejectsReply, Refuses, RefusesOpening, TakesSome, WhereReplies, accepts, expected_at, expected_next, opening_error, opening_terms}
use Rattle.resp_scan.specs.declared.event.Fault.{Fault}
use Rattle.resp_scan.specs.Reading.{IsSpelled}
use Rattle.resp_value.specs.Rules.{Rules}

accepted-last : (t : OpeningTerms) (place : ℕ) (replies : List (List ℕ)) (reply : List ℕ) → AreAccepted t place replies →
    accepts (expected_at t (place + length replies)) reply ≡ true → AreAccepted t place (replies ++ reply ∷ [])
accepted-last t place [] reply all last = (subst (λ n. accepts (expected_at t n) reply ≡ true) (grind arith) last, tt)
accepted-last t place (r ∷ rs) reply all last =
    (all.0, accepted-last t (suc place) rs reply all.1 (subst (λ n. accepts (expected_at t n) reply ≡ true) (grind arith) last))

all-last : (P : List ℕ → Type 0) (xs : List (List ℕ)) (x : List ℕ) → AllByRecursion P xs → P x → AllByRecursion P (xs ++ x ∷ [])
all-last P [] x all last = (last, tt)
all-last P (y ∷ xs) x all last = (all.0, all-last P xs x all.1 last)

length-last : (xs : List (List ℕ)) (x : List ℕ) → length (xs ++ x ∷ []) ≡ suc (length xs)
length-last [] x = refl
length-last (y ∷ xs) x = ap suc (length-last xs x)

-- the reply to the next command is expected behind those that were accepted
pub expected-here : (o : OpeningReplies) (n : ℕ) → n + o.missing ≡ o.count → expected_at (opening_terms o) n ≡ expected_next o
expected-here o n counted = ap (λ m. if m == 1 then o.last else Setting) left
  where
    left : o.count - n ≡ o.missing
    left = grind arith

one-more : (replies : List (List ℕ)) (reply last : List ℕ) → IsOneOf replies reply → IsOneOf (replies ++ last ∷ []) reply
one-more replies reply last is = record {
  before = is.before;
  later = is.later ++ last ∷ [];
  whole = ap (λ z. z ++ last ∷ []) is.whole ∙ append_assoc is.before (reply ∷ is.later) (last ∷ []);
}

last-one : (replies : List (List ℕ)) (last : List ℕ) → IsOneOf (replies ++ last ∷ []) last
last-one replies last = record { before = replies; later = []; whole = refl }

hello-kept : (replies : List (List ℕ)) (last old new : List ℕ) → (old ≡ []) ⊎ IsOneOf replies old → (new ≡ old) ⊎ (new ≡ last) →
    (new ≡ []) ⊎ IsOneOf (replies ++ last ∷ []) new
hello-kept replies last old new (inl none) (inl same) = inl (same ∙ none)
hello-kept replies last old new (inr one) (inl same) = inr (subst (IsOneOf (replies ++ last ∷ [])) (sym same) (one-more replies old last one))
hello-kept replies last old new was (inr is) = inr (subst (IsOneOf (replies ++ last ∷ [])) (sym is) (last-one replies last))

-- the bytes of one more reply
joined : (bytes after more : List ℕ) (replies : List (List ℕ)) → bytes ≡ concat replies ++ after →
    bytes ++ more ≡ concat (replies ++ (after ++ more) ∷ []) ++ []
joined bytes after more replies whole =
    ap (λ z. z ++ more) whole ∙ append_assoc (concat replies) after more ∙ ap (λ z. concat replies ++ z) (sym (append-nil (after ++ more))) ∙
    sym (concat-append replies ((after ++ more) ∷ [])) ∙ sym (append-nil (concat (replies ++ (after ++ more) ∷ [])))

-- one more reply was accepted
pub accepted-one : (o o' : OpeningReplies) (bytes piece : List ℕ) (found : Frame) (h : HasReplies o bytes) →
    IsFrame (frame_rules o.frames) h.after piece found → opening_terms o' ≡ opening_terms o → IsReady o'.frames →
    HasBegun (frame_rules o.frames) o'.begun [] → accepts (expected_next o) (text_of found) ≡ true → suc o'.missing ≡ o.missing →
    (o'.hello.items ≡ o.hello.items) ⊎ (o'.hello.items ≡ text_of found) → HasReplies o' (bytes ++ take (used_of found) piece)
accepted-one o o' bytes piece found h f terms ready begun good missing hello =
    let t = opening_terms o in
    let more = take (used_of found) piece in
    let text = text_of found in
    let here : BeginsAccepting t (bytes ++ more) (h.replies ++ text ∷ []) [] =
    record {
      whole = subst (λ r. bytes ++ more ≡ concat (h.replies ++ r ∷ []) ++ []) (sym f.text) (joined bytes h.after more h.replies h.begins.whole);
      spelled = all-last (IsSpelled t.rules) h.replies text h.begins.spelled f.spelled;
      accepted = accepted-last t 0 h.replies text h.begins.accepted
          (subst (λ n. accepts (expected_at t n) text ≡ true) (zero-plus (length h.replies))
          (subst (λ e. accepts e text ≡ true) (sym (expected-here o (length h.replies) h.counted)) good));
    } in
    record {
      replies = h.replies ++ text ∷ [];
      after = [];
      ready = ready;
      begins = subst (λ u. BeginsAccepting u (bytes ++ more) (h.replies ++ text ∷ []) []) (sym terms) here;
      begun = subst (λ (u : OpeningTerms). HasBegun u.rules o'.begun []) (sym terms) begun;
      counted = ap (λ n. n + o'.missing) (length-last h.replies text) ∙ plus-suc (length h.replies) o'.missing ∙
          ap (λ n. length h.replies + n) missing ∙ h.counted ∙ sym (ap (λ (u : OpeningTerms). u.count) terms);
      hello = hello-kept h.replies text o.hello.items o'.hello.items h.hello hello;
    }
  where
    zero-plus : (n : ℕ) → n ≡ 0 + n
    zero-plus n = grind arith

    plus-suc : (a b : ℕ) → suc a + b ≡ a + suc b
    plus-suc a b = grind arith

-- more bytes came
more-bytes : (t : OpeningTerms) (bytes after more : List ℕ) (replies : List (List ℕ)) → BeginsAccepting t bytes replies after →
    BeginsAccepting t (bytes ++ more) replies (after ++ more)
more-bytes t bytes after more replies b = record {
  whole = ap (λ z. z ++ more) b.whole ∙ append_assoc (concat replies) after more;
  spelled = b.spelled;
  accepted = b.accepted;
}

-- a byte was rejected
pub refused-byte : (o : OpeningReplies) (bytes piece : List ℕ) (fault : Fault) (h : HasReplies o bytes) →
    RejectsByte (frame_rules o.frames) h.after piece fault → Refuses (opening_terms o) (bytes ++ piece)
refused-byte o bytes piece fault h rejects = record {
  replies = h.replies;
  after = h.after ++ piece;
  begins = more-bytes (opening_terms o) bytes h.after piece h.replies h.begins;
  cause = inr (inl (record { fault = fault; rejects = rejects_in_text (frame_rules o.frames) h.after piece fault rejects }));
}

-- a reply was not accepted
pub refused-reply : (o : OpeningReplies) (bytes piece : List ℕ) (found : Frame) (h : HasReplies o bytes) →
    IsFrame (frame_rules o.frames) h.after piece found → accepts (expected_next o) (text_of found) ≡ false →
    Refuses (opening_terms o) (bytes ++ piece)
refused-reply o bytes piece found h f bad = record {
  replies = h.replies;
  after = h.after ++ piece;
  begins = more-bytes (opening_terms o) bytes h.after piece h.replies h.begins;
  cause = inl (begins_value (frame_rules o.frames) h.after piece found
      (λ reply. accepts (expected_at (opening_terms o) (length h.replies)) reply ≡ false) f
      (subst (λ e. accepts e (text_of found) ≡ false) (sym (expected-here o (length h.replies) h.counted)) bad));
}

all-counted : (n m count : ℕ) → n + m ≡ count → m ≡ 0 → n ≡ count
all-counted n m count e none = grind arith

longer-by : (n m : ℕ) → 0 < m → 0 < n + m
longer-by n m some = grind arith

-- bytes follow the last reply
pub refused-rest : (o : OpeningReplies) (bytes rest : List ℕ) (h : HasReplies o bytes) → o.missing ≡ 0 → 0 < length rest →
    Refuses (opening_terms o) (bytes ++ rest)
refused-rest o bytes rest h none some = record {
  replies = h.replies;
  after = h.after ++ rest;
  begins = more-bytes (opening_terms o) bytes h.after rest h.replies h.begins;
  cause = inr (inr (counted, subst (λ n. 0 < n) (sym (length-append h.after rest)) longer));
}
  where
    counted : length h.replies ≡ o.count
    counted = all-counted (length h.replies) o.missing o.count h.counted none

    longer : 0 < length h.after + length rest
    longer = longer-by (length h.after) (length rest) some

-- a byte was rejected, or memory ran out
pub refused-frame : (o : OpeningReplies) (bytes piece : List ℕ) (e : FrameError) (h : HasReplies o bytes) →
    OnFault e (RejectsByte (frame_rules o.frames) h.after piece) → (e ≡ frame.NotACommand → ⊥) →
    RefusesOpening (opening_terms o) (bytes ++ piece) (opening_error e)
refused-frame o bytes piece (frame.Fault fault) h rejects other = refused-byte o bytes piece fault h rejects
refused-frame o bytes piece frame.NotACommand h rejects other = absurd (other refl)
refused-frame o bytes piece frame.OutOfMemory h rejects other = tt

-- a reply was not accepted, or memory ran out
pub refused-by : (o mid : OpeningReplies) (bytes piece : List ℕ) (found : Frame) (e : OpeningError) (h : HasReplies o bytes) →
    IsFrame (frame_rules o.frames) h.after piece found → expected_next mid ≡ expected_next o → RejectsReply mid (text_of found) e →
    RefusesOpening (opening_terms o) (bytes ++ piece) e
refused-by o mid bytes piece found error.Rejected h f same bad =
    refused-reply o bytes piece found h f (subst (λ x. accepts x (text_of found) ≡ false) same bad)
refused-by o mid bytes piece found error.Closed h f same bad = absurd bad
refused-by o mid bytes piece found error.OutOfMemory h f same bad = tt

-- the value that has ended
pub found-frame : (rules : Rules) (b : Begun) (front piece : List ℕ) (o : Option Frame) (found : Frame) → o ≡ Some found →
    IfSome o (λ frame. IsFrame rules front piece frame × HasBegun rules b []) → IsFrame rules front piece found × HasBegun rules b []
found-frame rules b front piece o found is h = subst (λ x. IfSome x (λ frame. IsFrame rules front piece frame × HasBegun rules b [])) is h

pub whole-piece : (used : ℕ) (bytes piece : List ℕ) → (bytes ++ take used piece) ++ drop used piece ≡ bytes ++ piece
whole-piece used bytes piece =
    append_assoc bytes (take used piece) (drop used piece) ∙ ap (λ z. bytes ++ z) (take-append-drop used piece)

-- the bytes after those that were taken are the cause
pub rest-refused : (o o1 : OpeningReplies) (piece bytes : List ℕ) (used : ℕ) (e : OpeningError) → TakesSome o piece used o1 →
    RefusesOpening (opening_terms o1) ((bytes ++ take used piece) ++ drop used piece) e → RefusesOpening (opening_terms o) (bytes ++ piece) e
rest-refused o o1 piece bytes used e t bad =
    subst (λ text. RefusesOpening (opening_terms o) text e) (whole-piece used bytes piece)
    (subst (λ terms. RefusesOpening terms ((bytes ++ take used piece) ++ drop used piece) e) t.terms bad)

pub some-left : (used : ℕ) (piece : List ℕ) → used < length piece → 0 < length (drop used piece)
some-left used piece within = subst (λ n. 0 < n) (sym (length-drop used piece)) (left used (length piece) within)
  where
    left : (n m : ℕ) → n < m → 0 < m - n
    left n m less = grind arith

-- one more reply was taken
pub takes-one : (o o1 o2 : OpeningReplies) (piece : List ℕ) (used count : ℕ) (found : Option ℕ) → TakesSome o piece used o1 →
    found ≡ Some count → used + count ≤ length piece → opening_terms o2 ≡ opening_terms o1 →
    WhereReplies o1 (λ bytes. IfSome found (λ n. HasReplies o2 (bytes ++ take n (rest-of used piece)))) → TakesSome o piece (used + count) o2
takes-one o o1 o2 piece used count found t is within same taken = record {
  within = within;
  terms = same ∙ t.terms;
  come = λ bytes h.
      let one = subst (λ x. IfSome x (λ n. HasReplies o2 ((bytes ++ take used piece) ++ take n (rest-of used piece)))) is
      (taken (bytes ++ take used piece) (t.come bytes h)) in
      let here = subst (λ rest. HasReplies o2 ((bytes ++ take used piece) ++ take count rest)) (whole-rest used piece) one in
      subst (HasReplies o2)
      (append_assoc bytes (take used piece) (take count (drop used piece)) ∙ ap (λ z. bytes ++ z) (sym (take-add used count piece))) here;
}
