use Rattle.std.proofs.Common.{arith, ◌≡◌, ◌∙◌, length}
use Rattle.resp_tap.proofs.NoticeMembers.{other_number}
use Rattle.resp_tap.proofs.notice.members_by.Goals as goal
use Rattle.resp_tap.proofs.notice.members_by.Goals.{in_default-via-then-rest-lt2, in_default-via-else-rest-lt2+else-rest-lt3}

pub returns-in_default : goal.returns-in_default
returns-in_default c =
    let rest = c.args.rest.now in
    elim c.in_default.branch [
      | in_default-via-then-rest-lt2 w ↦
          let other : length rest ≡ 2 → ⊥ = λ e. absurd (grind (arith, e, w)) in
          c.message_by.ensures ∙ other_number c.args.word.now rest other
      | in_default-via-else-rest-lt2+else-rest-lt3 w ↦
          let other : length rest ≡ 2 → ⊥ = λ e. absurd (grind (arith, e, w)) in
          c.message_by.ensures ∙ other_number c.args.word.now rest other
    ]
