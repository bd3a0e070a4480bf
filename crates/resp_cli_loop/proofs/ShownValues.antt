-- How many replies and pushes of a client are shown.
use Rattle.std.proofs.Common.{◌≡◌, List, None, Option, Some, length, sym, ap, ◌∙◌}
use Rattle.std.specs.Option.{IfSome}
use Rattle.std.proofs.lemmas.List.{length-map}
use Rattle.resp_session.specs.Connections.{Connection, shown_pushes, shown_replies}
use Rattle.resp_value.specs.Values.{datum_of}
use Rattle.resp_value.specs.declared.value.Members.{Members}
use Rattle.resp_value.specs.declared.value.Value.{Value}
use Rattle.resp_value.specs.declared.value.Value.TheVariants as value
use Rattle.resp_wire.specs.Worlds.{pushes_with, values_in}
use Rattle.resp_cli_loop.specs.Plays.{AreShownOn}

-- how many replies and pushes a client has heard is how many are shown on its connection
pub has_shown : (c : Option Connection) (replies : List Value) (pushes : List Members) → IfSome c (λ c. values_in replies ≡ shown_replies c) →
    IfSome c (λ c. pushes_with pushes ≡ shown_pushes c) → AreShownOn (length replies) (length pushes) c
has_shown None replies pushes first second = tt
has_shown (Some c) replies pushes first second = (
  sym (length-map replies datum_of) ∙ ap length first,
  sym (length-map pushes (λ (items : Members). datum_of (value.Push items))) ∙ ap length second,
)
