use Rattle.std.proofs.Common.{◌≡◌, [], drop, inl, inr, ap, subst, sym, ◌∙◌, arith}
use Rattle.std.specs.Prelude.{slice_index_or}
use Rattle.std.proofs.lemmas.Bool.{cases_lt}
use Rattle.resp_commands.specs.Keys.{IsAmongAny, IsKey}
use Rattle.resp_tap.specs.Keyed.{IsLike}
use Rattle.resp_tap.proofs.keys.has_key_at.Goals as goal
use Rattle.resp_tap.proofs.keys.has_key_at.Goals.{else-contains-via-then-contains+else-is_like, else-contains-via-else-contains}

pub loop-place-preserved : goal.loop-place-preserved
loop-place-preserved c = λ keys are before less key like.
    elim (cases_lt before c.loop-place.place) [
      | inl earlier ↦ c.loop-place.invariant keys are before earlier key like
      | inr at ↦
          let same : before ≡ c.loop-place.place = omega (arith, less, at) in
          let its : IsKey keys (drop 1 c.args.words.now) c.loop-place.place = subst (IsKey keys (drop 1 c.args.words.now)) same key in
          let among : IsAmongAny c.args.places c.loop-place.place = (are c.loop-place.place).1 its in
          elim c.else-contains.branch [
            | else-contains-via-then-contains+else-is_like w ↦
                w.if-is_like.ensures (subst (IsLike c.args.glob.now) (ap (λ i. slice_index_or c.args.words.now i []) same ∙ sym w.word.ensures) like)
            | else-contains-via-else-contains w ↦ w.if-contains.ensures.among among
          ]
    ]
