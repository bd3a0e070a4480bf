use Rattle.std.proofs.Common.{[], ◌∷◌, ◌++◌, subst, arith, append_assoc}
use Rattle.resp_c.specs.Writes.{Writes}
use Rattle.resp_c.proofs.RoomTexts.{stands_none, writes_whole}
use Rattle.resp_c.proofs.room.write_line.Goals as goal

pub returns : goal.returns
returns c =
    let old = c.args.room.now in
    let front = c.args.front.now in
    let text = c.args.text.now in
    let wanted = c.size_with-wanted.result in
    let stands = c.put.ensures.more old (front ++ text)
    (c.put-at-2.ensures.more old front (c.put-at.ensures.more old [] (stands_none old))) in
    subst (λ t. Writes old c.put.new.room t wanted 0) (append_assoc front text (13 ∷ 10 ∷ []))
    (writes_whole old ((front ++ text) ++ 13 ∷ 10 ∷ []) c.put.new.room wanted c.put.result stands
    (omega (arith, c.size_with-wanted.ensures, c.put.ensures.end, c.put-at-2.ensures.end, c.put-at.ensures.end)) c.if-room-wanted.false)
