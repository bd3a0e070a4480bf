use Rattle.std.specs.Prelude.{false}
use Rattle.std.proofs.Common.{◌≡◌, [], ◌∷◌, ◌++◌, refl, subst, sym}
use Rattle.std.proofs.lemmas.Bool.Decides.{nat_tests}
use Rattle.std.proofs.Common.{arith}
use Rattle.resp_fronts.specs.Events as e
use Rattle.resp_scan.specs.Kinds.{content_events, text_kind_of}
use Rattle.resp_scan.specs.Reading.{Events}
use Rattle.resp_scan.specs.Listening.{Hears}
use Rattle.resp_scan.proofs.CallClauses.Fronts.{none-of-length}
use Rattle.resp_scan.proofs.CallClauses.Hearing.{content_level, hears-append, stops-append}
use Rattle.resp_scan.proofs.listener.Listener.whole_text.Goals as goal

pub returns-then-not-text : goal.returns-then-not-text
returns-then-not-text g c since given had may =
    let H = g.Self.Listener.has_heard in
    let S = g.Self.Listener.has_stopped in
    let text : Events = e.Text (text_kind_of c.args.kind) ∷ [] in
    stops-append (H c.args.self.now) (H c.text.new.self) (S c.text.new.self) text (content_events c.args.bytes.now ++ e.TextEnd ∷ []) since given
    (content_level c.args.bytes.now).0 (content_level c.args.bytes.now).1
    (subst (Hears (H c.args.self.now) (H c.text.new.self) (S c.text.new.self) text) c.if-not-text.true c.text.ensures) had may

pub returns-then-not-part : goal.returns-then-not-part
returns-then-not-part g c =
    let H = g.Self.Listener.has_heard in
    let S = g.Self.Listener.has_stopped in
    let text : Events = e.Text (text_kind_of c.args.kind) ∷ [] in
    let content : Events = content_events c.args.bytes.now in
    hears-append (H c.args.self.now) (H c.text.new.self) (H c.part.new.self) (S c.text.new.self) (S c.part.new.self) text (content ++ e.TextEnd ∷ [])
    false (content_level c.args.bytes.now).0 (content_level c.args.bytes.now).1
    (subst (Hears (H c.args.self.now) (H c.text.new.self) (S c.text.new.self) text) c.if-not-text.false c.text.ensures)
    (λ since more heard may_more. stops-append (H c.text.new.self) (H c.part.new.self) (S c.part.new.self) content (e.TextEnd ∷ []) since more refl refl
    (subst (Hears (H c.text.new.self) (H c.part.new.self) (S c.part.new.self) content) c.if-not-part.true c.part.ensures) heard may_more)

pub returns : goal.returns
returns g c =
    let H = g.Self.Listener.has_heard in
    let S = g.Self.Listener.has_stopped in
    let text : Events = e.Text (text_kind_of c.args.kind) ∷ [] in
    let content : Events = content_events c.args.bytes.now in
    hears-append (H c.args.self.now) (H c.text.new.self) (H c.text_end-2.new.self) (S c.text.new.self) (S c.text_end-2.new.self) text
    (content ++ e.TextEnd ∷ []) c.text_end-2.result (content_level c.args.bytes.now).0 (content_level c.args.bytes.now).1
    (subst (Hears (H c.args.self.now) (H c.text.new.self) (S c.text.new.self) text) c.if-not-text.false c.text.ensures)
    (hears-append (H c.text.new.self) (H c.part.new.self) (H c.text_end-2.new.self) (S c.part.new.self) (S c.text_end-2.new.self) content
    (e.TextEnd ∷ []) c.text_end-2.result refl refl
    (subst (Hears (H c.text.new.self) (H c.part.new.self) (S c.part.new.self) content) c.if-not-part.false c.part.ensures) c.text_end-2.ensures)

pub returns-then-is_empty : goal.returns-then-is_empty
returns-then-is_empty g c =
    let H = g.Self.Listener.has_heard in
    let S = g.Self.Listener.has_stopped in
    let text : Events = e.Text (text_kind_of c.args.kind) ∷ [] in
    let none : c.args.bytes.now ≡ [] = none-of-length c.args.bytes.now (let z = c.if-is_empty.ensures in grind (arith, nat_tests)) in
    subst (λ bytes. Hears (H c.args.self.now) (H c.text_end.new.self) (S c.text_end.new.self) (text ++ (content_events bytes ++ e.TextEnd ∷ []))
    c.text_end.result) (sym none)
    (hears-append (H c.args.self.now) (H c.text.new.self) (H c.text_end.new.self) (S c.text.new.self) (S c.text_end.new.self) text (e.TextEnd ∷ [])
    c.text_end.result refl refl
    (subst (Hears (H c.args.self.now) (H c.text.new.self) (S c.text.new.self) text) c.if-not-text.false c.text.ensures) c.text_end.ensures)
