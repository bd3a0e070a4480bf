-- What was written, piece after piece.
use Rattle.std.proofs.Common.{◌≡◌, ℕ, List, [], ◌++◌, Option, None, Some, Result, Ok, Err, sym, ap, subst, ◌∙◌, append_assoc, append-nil}
use Rattle.std.specs.Result.{IsErr}
use Rattle.resp_io.specs.Devices.{Appends, count_after}
use Rattle.resp_print.specs.Written.{AppendsPart, WritesText}

-- one text was appended, and then another
pub Appends-append : (a b c : Option (List ℕ)) (text next : List ℕ) → Appends a b text → Appends b c next → Appends a c (text ++ next)
Appends-append None b c text next first second = tt
Appends-append (Some held) b c text next first second =
    let then_second : Appends (Some (held ++ text)) c next = subst (λ v. Appends v c next) first second in
    then_second ∙ ap Some (append_assoc held text next)

-- a whole text was written, and then what a call wrote of the next
pub writes_next : {X E : Type 0} (r : Result X E) (a b c : Option (List ℕ)) (f g h : ℕ) (text next : List ℕ) → Appends a b text × (g ≡ f) →
    WritesText b c g h r next → WritesText a c f h r (text ++ next)
writes_next (Ok x) a b c f g h text next first second = (Appends-append a b c text next first.0 second.0, second.1 ∙ first.1)
writes_next (Err e) a b c f g h text next first second = (
  record {
    part = text ++ second.0.part;
    beyond = second.0.beyond;
    whole = ap (λ more. text ++ more) second.0.whole ∙ sym (append_assoc text second.0.part second.0.beyond);
    appended = Appends-append a b c text second.0.part first.0 second.0.appended;
  },
  subst (λ n. h ≡ count_after 1 n) first.1 second.1,
)

-- a part of a text is a part of a longer one
pub writes_part : {X E : Type 0} (r : Result X E) (before after : Option (List ℕ)) (failures failures' : ℕ) (text next : List ℕ) → IsErr r →
    AppendsPart before after text × (failures' ≡ count_after 1 failures) → WritesText before after failures failures' r (text ++ next)
writes_part (Ok x) before after failures failures' text next is_err written = absurd (cc)
writes_part (Err e) before after failures failures' text next is_err written = (
  record {
    part = written.0.part;
    beyond = written.0.beyond ++ next;
    whole = ap (λ more. more ++ next) written.0.whole ∙ append_assoc written.0.part written.0.beyond next;
    appended = written.0.appended;
  },
  written.1,
)

-- appending nothing changes nothing
pub Appends-none : (held : Option (List ℕ)) → Appends held held []
Appends-none None = tt
Appends-none (Some held) = ap Some (sym (append-nil held))
