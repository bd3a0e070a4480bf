use Rattle.std.proofs.Common.{◌≡◌, ◌⊎◌, ◌++◌, length, take, sym, ap, subst, ◌∙◌}
use Rattle.std.proofs.lemmas.List.{append-nil}
use Rattle.resp_decode.specs.Decoding.{GivesValue, HasTaken, LacksMemory, RefusesByte, TakesPiece, WhereTaken, rules_of}
use Rattle.resp_codec.proofs.Fed.{buffer_taken, if_none, if_some, value_ends}
use Rattle.resp_codec.proofs.reading.next_value.Goals as goal

pub returns-in-Err-clause-refused : goal.returns-in-Err-clause-refused
returns-in-Err-clause-refused c =
    let d = c.args.decoder.now in
    let buffer = c.args.src.now.items in
    let left = c.clear.new.self.items in
    let fault = c.in-Err.fault in
    let whole : buffer ≡ buffer ++ left = sym (append-nil buffer) ∙ ap (λ z. buffer ++ z) (sym c.clear.ensures.items) in
    record {
      seen = buffer;
      beyond = left;
      begins = whole;
      refused = subst (λ z. WhereTaken d (λ front. RefusesByte (rules_of d) front z fault ⊎ LacksMemory (rules_of d) front z fault))
          c.as_slice.ensures c.in-Err.ensures.refusal;
      answered_again = λ standing stands. let again = c.in-Err.ensures.fault_is_final standing stands in cc;
      stands = c.in-Err.ensures.fault_is_kept;
      dropped = buffer;
      ends = whole;
    }

pub returns-clause-value : goal.returns-clause-value
returns-clause-value c =
    let d = c.args.decoder.now in
    let fed = c.in-Ok.fed in
    if_some fed.value _ (λ value is.
    value_ends d c.feed.new.self c.args.src.now.items c.advance.new.self.items fed.used value
    (λ fault stands. let wrong = c.in-Ok.ensures.fault_is_final fault stands in cc)
    (λ front taken. subst (λ z. GivesValue (rules_of d) c.feed.new.self (front ++ take fed.used z) value) c.as_slice.ensures
    (c.in-Ok.ensures.value_whole front taken value is)) c.advance.ensures.items)

pub returns-clause-none : goal.returns-clause-none
returns-clause-none c =
    let d = c.args.decoder.now in
    let fed = c.in-Ok.fed in
    if_none fed.value _ (λ is.
    buffer_taken d c.feed.new.self c.args.src.now.items c.advance.new.self.items fed.used
    (λ fault stands. let wrong = c.in-Ok.ensures.fault_is_final fault stands in cc)
    (λ front taken. subst (λ z. TakesPiece (rules_of d) (HasTaken c.feed.new.self) (front ++ z) z fed.used) c.as_slice.ensures
    (c.in-Ok.ensures.used_up front taken is))
    (c.in-Ok.ensures.whole_piece is ∙ ap length c.as_slice.ensures) c.taken-taken.ensures.viable c.advance.ensures.items)
