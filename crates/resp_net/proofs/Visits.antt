-- What visits hand on, one after another.
use Rattle.std.proofs.Common.{ℕ, List, ◌++◌, Option, None, Some, sym, ap, subst, ◌∙◌, append_assoc}
use Rattle.resp_print.proofs.WrittenLemmas.{Appends-append}
use Rattle.resp_net.specs.Ways.{HaveCome, VisitsAddUp}

-- what came, and then more
come_on : (left left' left'' : Option (List ℕ)) (came more : List ℕ) → HaveCome left left' came → HaveCome left' left'' more →
    HaveCome left left'' (came ++ more)
come_on None left' left'' came more first second = tt
come_on (Some left) left' left'' came more (rest, whole, after) second =
    let next : HaveCome (Some rest) left'' more = subst (λ z. HaveCome z left'' more) after second in
    (next.0, whole ∙ ap (λ z. came ++ z) next.1 ∙ sym (append_assoc came more next.0), next.2)

pub visits_add_up : VisitsAddUp
visits_add_up left left' left'' out out' out'' waiting waiting' waiting'' came more first second = record {
  come = come_on left left' left'' came more first.come second.come;
  gone = first.gone ++ second.gone;
  written = Appends-append out out' out'' first.gone second.gone first.written second.written;
  whole = sym (append_assoc waiting came more) ∙ ap (λ z. z ++ more) first.whole ∙ append_assoc first.gone waiting' more ∙
      ap (λ z. first.gone ++ z) second.whole ∙ sym (append_assoc first.gone second.gone waiting'');
}
