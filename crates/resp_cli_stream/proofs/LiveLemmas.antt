-- What was sent by each read.
use Rattle.std.proofs.Common.{◌≡◌, ℕ, List, [], ◌∷◌, ◌++◌, flat_map, Option, None, Some, sym, ap, subst, ◌∙◌, append_assoc, append-nil}
use Rattle.resp_value.specs.Data.{Datum}
use Rattle.resp_value.specs.Rules.{Rules}
use Rattle.resp_io.specs.Devices.{Appends}
use Rattle.resp_scan.specs.Reading.{HasNoSpelling}
use Rattle.resp_io.specs.Live.{Look, Records}
use Rattle.resp_cli_stream.specs.Live.{EachRead, IsLive}
use Rattle.resp_cli_stream.specs.Streams.{AreRead, HasRendered}
use Rattle.resp_cli_stream.proofs.Rendered.{Relation, all_on, no_more}

-- nothing was recorded yet
pub none_recorded : (looks : Option (List Look)) (P : Look → Type 0) → EachRead looks looks P
none_recorded None P = tt
none_recorded (Some looks) P = ([], ap Some (sym (append-nil looks)), tt)

-- a read more
recorded_on : (before mid after : Option (List Look)) (look : Look) (P : Look → Type 0) → EachRead before mid P → Records mid after look → P look →
    EachRead before after P
recorded_on None mid after look P each records p = tt
recorded_on (Some looks) None after look P (since, is, each) records p = absurd (cc)
recorded_on (Some looks) (Some now) after look P (since, is, each) records p =
    let same : now ≡ looks ++ since = cc in (
      since ++ look ∷ [],
      records ∙ ap Some (ap (λ z. z ++ look ∷ []) same ∙ append_assoc looks since (look ∷ [])),
      all_on P since look each p,
    )

-- a read more, after a flush: what was written so far is what is due
pub live_on : {r : Rules} {text : Datum → List ℕ} {W : Datum → Type 0} {H : Relation} {bytes : List ℕ} {start after : Option (List ℕ)} {n : ℕ}
    (s : HasRendered r text W H bytes start after n) (r' : Rules) → r' ≡ r → (D : Rules → Relation) (left left' sent : Option (List ℕ))
    (looks looks' looks'' : Option (List Look)) → ((front so_far : List ℕ) → H front so_far → HasNoSpelling r' front) →
    ((front so_far : List ℕ) → H front so_far → D r' front so_far) → AreRead left left' bytes → sent ≡ after →
    EachRead looks looks' (IsLive r text (D r) left start) → Records looks' looks'' (record { left = left'; sent = sent }) →
    EachRead looks looks'' (IsLive r text (D r) left start)
live_on {r} {text} {W} {H} {bytes} {start} {after} {n} s r' same D left left' sent looks looks' looks'' none due read sent_all each records =
    recorded_on looks looks' looks'' (record { left = left'; sent = sent }) (IsLive r text (D r) left start) each records (
      bytes,
      read,
      record {
        values = s.begins.values;
        rest = s.begins.rest;
        cut = record {
          front = s.begins.front;
          spelled = s.begins.spelled;
          whole = s.begins.whole;
          no_more = no_more r s.begins.rest (subst (λ z. HasNoSpelling z s.begins.rest) same (none s.begins.rest s.so_far s.takes));
        };
        due = s.so_far;
        is_due = subst (λ z. D z s.begins.rest s.so_far) same (due s.begins.rest s.so_far s.takes);
        appended = subst (λ z. Appends start z (flat_map text s.begins.values ++ s.so_far)) (sym sent_all) s.appended;
      },
    )
