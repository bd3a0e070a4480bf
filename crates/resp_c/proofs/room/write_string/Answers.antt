use Rattle.std.proofs.Common.{◌≡◌, [], ◌∷◌, ◌++◌, ◌∙◌, subst, arith}
use Rattle.resp_value.specs.Bytes.{crlf}
use Rattle.resp_value.specs.Numbers.{decimal}
use Rattle.resp_value.proofs.StdDigits.{decimal-std}
use Rattle.resp_c.specs.Writes.{Writes}
use Rattle.resp_c.proofs.RoomTexts.{length-string, stands_none, string_parts, writes_nothing, writes_whole}
use Rattle.resp_c.proofs.room.write_string.Goals as goal
use Rattle.resp_c.proofs.room.write_string.Goals.{After-as_bytes-digits}

-- the digits are those of the number
digits_are : (c : After-as_bytes-digits) → c.as_bytes-digits.result.now ≡ decimal c.args.counted
digits_are c = c.as_bytes-digits.ensures.value ∙ c.format.ensures.text ∙ decimal-std c.args.counted c.ranges.counted.fits

pub returns-then-room-wanted : goal.returns-then-room-wanted
returns-then-room-wanted c =
    let same = digits_are (goal.at.returns-then-room-wanted c).After-as_bytes-digits in
    let digits = c.as_bytes-digits.result.now in
    let prefix = c.args.prefix.now in
    let bytes = c.args.bytes.now in
    subst (λ ds. Writes c.args.room.now c.args.room.now ((c.args.byte ∷ ds) ++ crlf (prefix ++ (bytes ++ crlf [])))
    c.size_with-wanted.result 65) same
    (writes_nothing c.args.room.now ((c.args.byte ∷ digits) ++ crlf (prefix ++ (bytes ++ crlf [])))
    c.size_with-wanted.result (omega (arith, c.size_with-wanted.ensures, length-string c.args.byte digits prefix bytes))
    c.if-room-wanted.true)

pub returns : goal.returns
returns c =
    let same = digits_are (goal.at.returns c).After-as_bytes-digits in
    let old = c.args.room.now in
    let digits = c.as_bytes-digits.result.now in
    let prefix = c.args.prefix.now in
    let bytes = c.args.bytes.now in
    let wanted = c.size_with-wanted.result in
    let head = c.args.byte ∷ digits in
    let line = head ++ 13 ∷ 10 ∷ [] in
    let stands = c.put.ensures.more old ((line ++ prefix) ++ bytes)
    (c.put-at-5.ensures.more old (line ++ prefix)
    (c.put-at-4.ensures.more old line
    (c.put-at-3.ensures.more old head
    (c.put-at-2.ensures.more old (c.args.byte ∷ [])
    (c.put-at.ensures.more old [] (stands_none old)))))) in
    let written = writes_whole old (((line ++ prefix) ++ bytes) ++ 13 ∷ 10 ∷ []) c.put.new.room wanted c.put.result stands
    (omega (
      arith,
      c.size_with-wanted.ensures,
      c.put.ensures.end,
      c.put-at-5.ensures.end,
      c.put-at-4.ensures.end,
      c.put-at-3.ensures.end,
      c.put-at-2.ensures.end,
      c.put-at.ensures.end,
    )) c.if-room-wanted.false in
    subst (λ ds. Writes old c.put.new.room ((c.args.byte ∷ ds) ++ crlf (prefix ++ (bytes ++ crlf []))) wanted 0) same
    (subst (λ t. Writes old c.put.new.room t wanted 0) (string_parts head (13 ∷ 10 ∷ []) prefix bytes (13 ∷ 10 ∷ []))
    written)
