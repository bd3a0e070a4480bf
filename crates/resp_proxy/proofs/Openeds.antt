-- How the opening of a connection goes on.
use Rattle.std.proofs.Common.{◌≡◌, ◌∙◌, ◌<◌, arith, ℕ, length, List, [], ◌++◌, Option, None, Some, Result, Ok, Err, subst, sym}
use Rattle.std.specs.Prelude.{IfErr, IfSome}
use Rattle.std.proofs.lemmas.List.{append-nil}
use Rattle.resp_proxy.proofs.Readings.{not-read}
use Rattle.resp_proxy.specs.declared.opening.OpeningProgress.{OpeningProgress}
use Rattle.resp_proxy.specs.declared.opening_replies.OpeningError.{OpeningError}
use Rattle.resp_proxy.specs.declared.opening_replies.OpeningError.TheVariants as error
use Rattle.resp_proxy.specs.declared.opening_replies.OpeningReplies.{OpeningReplies}
use Rattle.resp_proxy.specs.Opened.{FailsOpening, HasCome, Opened, ReadsReplies, failure_in, replies_in}
use Rattle.resp_proxy.specs.OpeningReplies.{HasReplies, RefusesOpening, opening_terms}
use Rattle.resp_proxy.specs.Visiting.{HaveCome}
use Rattle.resp_io.specs.Devices.{Reads}

pub come-same : (o o' : Opened) (bytes : List ℕ) → replies_in o' ≡ replies_in o → failure_in o' ≡ failure_in o → HasCome o bytes → HasCome o' bytes
come-same o o' bytes replies failure h =
    record { replies = subst (λ r. HasReplies r bytes) (sym replies) h.replies; none_failed = failure ∙ h.none_failed }

-- nothing was read
pub reads-nothing : (left left' : Option (List ℕ)) (o o' : Opened) (progress : OpeningProgress) → HaveCome left left' [] → replies_in o' ≡ replies_in o →
    failure_in o' ≡ failure_in o → ReadsReplies left left' o o' (Ok progress)
reads-nothing left left' o o' progress come replies failure = record {
  came = [];
  come = come;
  accepted = λ bytes h. subst (HasCome o') (sym (append-nil bytes)) (come-same o o' bytes replies failure h);
  refused = λ bytes h. tt;
}

none-some : (e : OpeningError) (f : Option OpeningError) → f ≡ Some e → f ≡ None → ⊥
none-some e f is none = grind arith

-- the connection has failed before
pub reads-failed : (left : Option (List ℕ)) (o : Opened) (e : OpeningError) → failure_in o ≡ Some e → ReadsReplies left left o o (Err e)
reads-failed left o e is = record {
  came = [];
  come = not-read left;
  accepted = λ bytes h. tt;
  refused = λ bytes h. absurd (none-some e (failure_in o) is h.none_failed);
}

fails-same : (left : Option (List ℕ)) (o mid : Opened) (bytes : List ℕ) (e : OpeningError) → replies_in mid ≡ replies_in o →
    FailsOpening left mid bytes e → FailsOpening left o bytes e
fails-same left o mid bytes error.Closed replies bad = bad
fails-same left o mid bytes error.Rejected replies bad = subst (λ r. RefusesOpening (opening_terms r) bytes error.Rejected) replies bad
fails-same left o mid bytes error.OutOfMemory replies bad = tt

-- commands were sent before the read
pub reads-after : (left left' : Option (List ℕ)) (o mid new : Opened) (result : Result OpeningProgress OpeningError) → replies_in mid ≡ replies_in o →
    failure_in mid ≡ failure_in o → ReadsReplies left left' mid new result → ReadsReplies left left' o new result
reads-after left left' o mid new result replies failure r = record {
  came = r.came;
  come = r.come;
  accepted = λ bytes h. r.accepted bytes (come-same o mid bytes replies failure h);
  refused = λ bytes h. refused-same result bytes (r.refused bytes (come-same o mid bytes replies failure h));
}
  where
    refused-same : (x : Result OpeningProgress OpeningError) (bytes : List ℕ) → IfErr x (λ e. FailsOpening left mid (bytes ++ r.came) e) →
        IfErr x (λ e. FailsOpening left o (bytes ++ r.came) e)
    refused-same (Ok p) bytes bad = tt
    refused-same (Err e) bytes bad = fails-same left o mid (bytes ++ r.came) e replies bad

-- the device was at its end
pub closed-end : (left left' : Option (List ℕ)) (into : List ℕ) (count : ℕ) → Reads left left' into (Ok count) → count ≡ 0 → 0 < length into →
    IfSome left (λ text. text ≡ [])
closed-end None left' into count r none some = tt
closed-end (Some left) left' into count r none some = r.at_end none some

-- the bytes are the cause
pub fails-by : (left : Option (List ℕ)) (o : Opened) (bytes : List ℕ) (e : OpeningError) → RefusesOpening (opening_terms (replies_in o)) bytes e →
    FailsOpening left o bytes e
fails-by left o bytes error.Closed bad = absurd bad
fails-by left o bytes error.Rejected bad = bad
fails-by left o bytes error.OutOfMemory bad = tt

-- replies were accepted
pub reads-accepted : {o' : Opened} (left left' : Option (List ℕ)) (o : Opened) (r : OpeningReplies) (came : List ℕ) (progress : OpeningProgress) →
    HaveCome left left' came → replies_in o ≡ r → ((bytes : List ℕ) → HasReplies r bytes → HasReplies (replies_in o') (bytes ++ came)) →
    failure_in o' ≡ failure_in o → ReadsReplies left left' o o' (Ok progress)
reads-accepted left left' o r came progress come is taken failure = record {
  came = came;
  come = come;
  accepted = λ bytes h. record {
    replies = taken bytes (subst (λ x. HasReplies x bytes) is h.replies);
    none_failed = failure ∙ h.none_failed;
  };
  refused = λ bytes h. tt;
}

-- a reply was refused
pub reads-refused : {o' : Opened} (left left' : Option (List ℕ)) (o : Opened) (r : OpeningReplies) (came : List ℕ) (e : OpeningError) →
    HaveCome left left' came → replies_in o ≡ r → ((bytes : List ℕ) → HasReplies r bytes → RefusesOpening (opening_terms r) (bytes ++ came) e) →
    ReadsReplies left left' o o' (Err e)
reads-refused left left' o r came e come is bad = record {
  came = came;
  come = come;
  accepted = λ bytes h. tt;
  refused = λ bytes h. fails-by left o (bytes ++ came) e
      (subst (λ x. RefusesOpening (opening_terms x) (bytes ++ came) e) (sym is) (bad bytes (subst (λ x. HasReplies x bytes) is h.replies)));
}

-- the server has closed the connection
pub reads-end : {o' : Opened} (left left' : Option (List ℕ)) (o : Opened) (came : List ℕ) → HaveCome left left' came → IfSome left (λ text. text ≡ []) →
    ReadsReplies left left' o o' (Err error.Closed)
reads-end left left' o came come closed =
    record { came = came; come = come; accepted = λ bytes h. tt; refused = λ bytes h. closed }
