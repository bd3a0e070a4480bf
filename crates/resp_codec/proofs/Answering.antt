-- What `decode` and `decode_eof` answer.
use Rattle.std.proofs.Common.{◌≡◌, ℕ, List, [], ◌++◌, IfSome, IfNone, IsErrAnd, Option, Some, None, Result, Ok, Err, refl, sym, inr, subst, ◌∙◌}
use Rattle.std.proofs.lemmas.List.{append-nil}
use Rattle.resp_value.specs.Data.{Datum}
use Rattle.resp_scan.specs.declared.event.Fault.{Fault}
use Rattle.resp_decode.specs.Decoding.{HasTaken}
use Rattle.tokio_util.specs.Codec.Next.{Next, decoded, partial, at_end, Decodes, DecodesAtEnd, Resumes}
use Rattle.tokio_util.proofs.CodecLemmas.Next.{Resumes_now}
use Rattle.resp_codec.specs.Frames.{EndsBetween, EndsInsideValue, ValueEnds, TakesPart, TakesAll}
use Rattle.resp_codec.proofs.After.{begun_after, between_after, inside_after, refusal_after, takes_after, value_after}
use Rattle.resp_codec.specs.Next.{IsSame, ItemReading, gives_by}
use Rattle.resp_codec.specs.declared.error.CodecError.{CodecError}
use Rattle.resp_codec.specs.declared.error.CodecError.TheVariants as error

module _ {C T S : Type 0} (r : ItemReading C T S) where
  same_after : (c t u : C) → IsSame r c t → IsSame r t u → IsSame r c u
  same_after c t u first second = record { rest = second.rest ∙ first.rest; rules = second.rules ∙ first.rules }

  -- where the whole buffer was taken, what comes next is what comes of it with more bytes
  pub resumes : (c : C) (buffer : List ℕ) (t : C) (left : List ℕ) → TakesPart (r.decoder c) buffer (r.decoder t) left → IsSame r c t →
      Resumes (gives_by r) c buffer t left
  resumes c buffer t left on same more next h =
      let now : gives_by r t more next = subst (λ z. gives_by r t (z ++ more) next) on.takes_all.none_left h in
      of next now
    where
      of : (next : Next C T CodecError) → gives_by r t more next → gives_by r c (buffer ++ more) next
      of (decoded (Ok item) u rest) (x, is, v, after) = (
        x,
        is,
        value_after (r.decoder c) (r.decoder t) buffer on.reading on.takes_all.takes same.rules more x (r.decoder u) rest v,
        same_after c t u same after,
      )
      of (decoded (Err e) u rest) (fault, is, w, after) = (
        fault,
        is,
        refusal_after (r.decoder c) (r.decoder t) buffer on.reading on.takes_all.takes same.rules more fault (r.decoder u) rest w,
        same_after c t u same after,
      )
      of partial b = begun_after (r.decoder c) (r.decoder t) buffer on.reading on.takes_all.takes same.rules more b
      of (at_end (Ok (Some item)) u rest) none = none
      of (at_end (Ok None) u rest) (b, between, all, after) = (
        begun_after (r.decoder c) (r.decoder t) buffer on.reading on.takes_all.takes same.rules more b,
        between_after (r.decoder c) (r.decoder t) buffer on.reading on.takes_all.takes same.rules more between,
        takes_after (r.decoder c) (r.decoder t) buffer on.reading on.takes_all.takes same.rules more (r.decoder u) rest all,
        same_after c t u same after,
      )
      of (at_end (Err e) u rest) (b, (fault, is, inside, all, after)) = (
        begun_after (r.decoder c) (r.decoder t) buffer on.reading on.takes_all.takes same.rules more b,
        (
          fault,
          is,
          inside_after (r.decoder c) (r.decoder t) buffer on.reading on.takes_all.takes same.rules more fault inside,
          takes_after (r.decoder c) (r.decoder t) buffer on.reading on.takes_all.takes same.rules more (r.decoder u) rest all,
          same_after c t u same after,
        ),
      )

  -- what `decode` answers where no value ends
  pub waits : (c : C) (buffer : List ℕ) (t : C) (left : List ℕ) → TakesPart (r.decoder c) buffer (r.decoder t) left → IsSame r c t →
      Decodes (gives_by r) c buffer (Ok None) t left
  waits c buffer t left on same = (on.begun, resumes c buffer t left on same)

  -- a codec takes an empty buffer and stays where it is
  pub takes_nothing : (c : C) (left : List ℕ) → left ≡ [] → TakesAll (r.decoder c) left (r.decoder c) left
  takes_nothing c left none = record {
    none_left = none;
    takes = λ front taken. subst (λ z. HasTaken (r.decoder c) (front ++ z)) (sym none)
        (subst (HasTaken (r.decoder c)) (sym (append-nil front)) taken);
  }

  -- where no value is given, the whole buffer is taken and no value has ended
  pub gives_or_waits : (value_of : T → Datum) → ((item : T) → r.Is item (value_of item)) → (c : C) (buffer : List ℕ) (t : C) (left : List ℕ)
      (next : Option T) → IfSome next (λ item. ValueEnds (r.decoder c) buffer (value_of item) (r.decoder t) left) →
      IfNone next (TakesPart (r.decoder c) buffer (r.decoder t) left) → IsSame r c t → Decodes (gives_by r) c buffer (Ok next) t left
  gives_or_waits value_of is c buffer t left None some none same = waits c buffer t left none same
  gives_or_waits value_of is c buffer t left (Some item) some none same = (value_of item, is item, some, same)

  -- the end of the input between two values
  pub ends_between : (c : C) (buffer : List ℕ) (t : C) (left : List ℕ) → Decodes (gives_by r) c buffer (Ok None) t left → left ≡ [] →
      EndsBetween (r.decoder t) [] → DecodesAtEnd (gives_by r) c buffer (Ok None) t left
  ends_between c buffer t left waiting none between =
      Resumes_now (gives_by r) c buffer t left (at_end (Ok None) t left) waiting.1
      (waiting.0, subst (EndsBetween (r.decoder t)) (sym none) between, takes_nothing t left none, record { rest = refl; rules = refl })

  -- the end of the input inside a value
  pub ends_inside : (c : C) (buffer : List ℕ) (t : C) (left : List ℕ) (fault : Fault) (answer : Result (Option T) CodecError) →
      Decodes (gives_by r) c buffer (Ok None) t left → left ≡ [] → IsErrAnd answer (λ e. e ≡ error.Fault fault) →
      EndsInsideValue (r.decoder t) [] fault → DecodesAtEnd (gives_by r) c buffer answer t left
  ends_inside c buffer t left fault (Ok next) waiting none is inside = absurd is
  ends_inside c buffer t left fault (Err e) waiting none is inside =
      inr (Resumes_now (gives_by r) c buffer t left (at_end (Err e) t left) waiting.1 (
        waiting.0,
        (
          fault,
          is,
          subst (λ z. EndsInsideValue (r.decoder t) z fault) (sym none) inside,
          takes_nothing t left none,
          record { rest = refl; rules = refl },
        ),
      ))
