-- The commands of a line are moved to another.
use Rattle.std.proofs.Common.{◌≡◌, ◌≢◌, ℕ, false, true, Err, Ok, OnErr, OnOk, Result, List, [], ◌++◌, drop, map, Option, None, Some, IfSome, is_some, slice_get, refl, sym, ap, subst, ◌∙◌, inl, inr}
use Rattle.std.proofs.lemmas.Bool.{cases_eq}
use Rattle.std.proofs.lemmas.List.{drop-append-le, map-append}
use Rattle.resp_board.specs.declared.board.Board as declared
use Rattle.resp_board.specs.declared.queue.Queue.{Queue}
use Rattle.resp_board.specs.declared.seat.Seat.{Seat}
use Rattle.resp_board.specs.Boards.{Entry, Place, Release, commands_of, happens, with_line}
use Rattle.resp_board.specs.Boards as board
use Rattle.resp_board.specs.Histories.{History, board_of, with_event}
use Rattle.resp_board.specs.Joins.{Carries, Stands, StandsSomehow, command_in, place_in}
use Rattle.resp_board.specs.Queues.{HasQueued, Line, nothing_queued, waiting_commands, with_commands}
use Rattle.resp_board.specs.Rows.{KeepsLines, ReleasesLine}
use Rattle.resp_board.specs.Runs.{LacksLines}
use Rattle.resp_board.proofs.Carrying.{carries-change, commands-waiting}
use Rattle.resp_board.proofs.Joining.{stands-event}
use Rattle.resp_board.proofs.LineLists.{at-line, off-line}
use Rattle.resp_board.proofs.Running.{still}

carries-to : (o o' : Option Queue) (es : List Entry) (places places' : List Place) (commands commands' : List board.Command) (sent sent' : List ℕ) → o' ≡ o →
    places' ≡ places → commands' ≡ commands → sent' ≡ sent → Carries o es places commands sent → Carries o' es places' commands' sent'
carries-to o o' es places places' commands commands' sent sent' a e f g c =
    subst (λ x. Carries x es places' commands' sent') (sym a)
    (subst (λ ps. Carries o es ps commands' sent') (sym e)
    (subst (λ cs. Carries o es places cs sent') (sym f) (subst (Carries o es places commands) (sym g) c)))

carries-nothing : (o : Option Queue) (es : List Entry) → IfSome o (λ q. HasQueued q nothing_queued) → Carries o es [] [] []
carries-nothing None es h = record { no_place = refl; no_command = refl; no_byte = refl }
carries-nothing (Some q) es h = record { line = nothing_queued; queued = h; sent_is = refl; commands_are = refl; places_are = refl }

carries-more : (f t t' : Option Queue) (es : List Entry) (ps qs : List Place) (cs ds : List board.Command) (s r : List ℕ) → is_some f ≡ true → is_some t ≡ true →
    is_some t' ≡ is_some t →
    ((x l : Line) → IfSome f (λ q. HasQueued q x) → IfSome t (λ q. HasQueued q l) → IfSome t' (λ q. HasQueued q (with_commands (waiting_commands x) l))) →
    Carries f es ps cs s → Carries t es qs ds r → Carries t' es (qs ++ ps) (ds ++ commands_of ps) r
carries-more None t t' es ps qs cs ds s r here there same moved c d = absurd (cc)
carries-more (Some f) None t' es ps qs cs ds s r here there same moved c d = absurd (cc)
carries-more (Some f) (Some t) None es ps qs cs ds s r here there same moved c d = absurd (cc)
carries-more (Some f) (Some t) (Some t') es ps qs cs ds s r here there same moved c d =
    let ws = waiting_commands c.line in record {
      line = with_commands ws d.line;
      queued = moved c.line d.line c.queued d.queued;
      sent_is = d.sent_is;
      commands_are = map-append command_in d.line.commands ws ∙ ap (λ xs. xs ++ map command_in ws) d.commands_are ∙
          ap (λ xs. ds ++ xs) (sym (commands-waiting es ws) ∙ ap commands_of c.places_are);
      places_are = ap (map (place_in es)) (drop-append-le d.line.replied d.line.commands ws d.queued.within) ∙
          map-append (place_in es) (drop d.line.replied d.line.commands) ws ∙ ap (λ xs. xs ++ map (place_in es) ws) d.places_are ∙
          ap (λ xs. qs ++ xs) c.places_are;
    }

pub releases : (slots : List (Option Seat)) (lines lines' : List Queue) (last : ℕ) (h : History) (from to : ℕ) → from ≢ to →
    is_some (slice_get lines from) ≡ true → is_some (slice_get lines to) ≡ true → ReleasesLine lines lines' from to → Stands slots lines last h →
    Stands slots lines' last (with_event (Release from to) h)
releases slots lines lines' last h from to apart here there row j =
    let b = board_of h in
    let places = b.waiting to ++ b.waiting from in
    let commands = b.commands to ++ commands_of (b.waiting from) in
    stands-event slots lines' last h (Release from to) (record {
      served = j.served;
      carried = λ l. elim (cases_eq l from) [
        | inl same ↦
            subst (λ k. Carries (slice_get lines' k) b.entries (with_line from [] (with_line to places b.waiting) k)
            (with_line from [] (with_line to commands b.commands) k) (with_line from [] h.sent k)) (sym same)
            (carries-to (slice_get lines' from) (slice_get lines' from) b.entries [] (with_line from [] (with_line to places b.waiting) from) []
            (with_line from [] (with_line to commands b.commands) from) [] (with_line from [] h.sent from) refl
            (at-line from [] (with_line to places b.waiting)) (at-line from [] (with_line to commands b.commands)) (at-line from [] h.sent)
            (carries-nothing (slice_get lines' from) b.entries row.emptied))
        | inr off ↦ elim (cases_eq l to) [
          | inl same ↦
              let away : to ≢ from = λ s. apart (sym s) in
              subst (λ k. Carries (slice_get lines' k) b.entries (with_line from [] (with_line to places b.waiting) k)
              (with_line from [] (with_line to commands b.commands) k) (with_line from [] h.sent k)) (sym same)
              (carries-to (slice_get lines' to) (slice_get lines' to) b.entries places (with_line from [] (with_line to places b.waiting) to) commands
              (with_line from [] (with_line to commands b.commands) to) (h.sent to) (with_line from [] h.sent to) refl
              (off-line from [] (with_line to places b.waiting) to away ∙ at-line to places b.waiting)
              (off-line from [] (with_line to commands b.commands) to away ∙ at-line to commands b.commands) (off-line from [] h.sent to away)
              (carries-more (slice_get lines from) (slice_get lines to) (slice_get lines' to) b.entries (b.waiting from) (b.waiting to) (b.commands from)
              (b.commands to) (h.sent from) (h.sent to) here there (row.stays to) row.moved (j.carried from) (j.carried to)))
          | inr far ↦
              carries-to (slice_get lines l) (slice_get lines' l) b.entries (b.waiting l) (with_line from [] (with_line to places b.waiting) l) (b.commands l)
              (with_line from [] (with_line to commands b.commands) l) (h.sent l) (with_line from [] h.sent l) (row.others l off far)
              (off-line from [] (with_line to places b.waiting) l off ∙ off-line to places b.waiting l far)
              (off-line from [] (with_line to commands b.commands) l off ∙ off-line to commands b.commands l far) (off-line from [] h.sent l off) (j.carried l)
        ]
      ];
      single = j.single;
      numbered = j.numbered;
      seated = j.seated;
      ungiven = j.ungiven;
    })

carries-kept : (o o' : Option Queue) (es : List Entry) (places : List Place) (commands : List board.Command) (sent : List ℕ) → is_some o' ≡ is_some o →
    ((l : Line) → IfSome o (λ q. HasQueued q l) → IfSome o' (λ q. HasQueued q l)) → Carries o es places commands sent → Carries o' es places commands sent
carries-kept o o' es places commands sent same keeps c =
    carries-change o o' es es places places commands commands sent sent (λ l. l) same keeps (λ l w. w) (λ none i. i) c

pub lines-kept : (slots : List (Option Seat)) (lines lines' : List Queue) (last : ℕ) (h : History) → KeepsLines lines lines' → Stands slots lines last h →
    Stands slots lines' last h
lines-kept slots lines lines' last h k j =
    let b = board_of h in record {
      served = j.served;
      carried = λ l. carries-kept (slice_get lines l) (slice_get lines' l) b.entries (b.waiting l) (b.commands l) (h.sent l) (k.stays l) (k.each l) (j.carried l);
      single = j.single;
      numbered = j.numbered;
      seated = j.seated;
      ungiven = j.ungiven;
    }

pub release-somehow : {A B : Type 0} (r : Result A B) (slots : List (Option Seat)) (lines lines' : List Queue) (last from to : ℕ) → from ≢ to →
    is_some (slice_get lines from) ≡ true → is_some (slice_get lines to) ≡ true → OnOk r (ReleasesLine lines lines' from to) → OnErr r (KeepsLines lines lines') →
    StandsSomehow slots lines last → StandsSomehow slots lines' last
release-somehow (Ok _) slots lines lines' last from to apart here there released kept some =
    still slots slots lines lines' last last
    (λ h j. (with_event (Release from to) h, releases slots lines lines' last h from to apart here there released j)) some
release-somehow (Err _) slots lines lines' last from to apart here there released kept some =
    still slots slots lines lines' last last (λ h j. (h, lines-kept slots lines lines' last h kept j)) some

pub lacks-none : (m : declared.Board) (from to : ℕ) → from ≢ to → is_some (slice_get m.lines.items from) ≡ true → is_some (slice_get m.lines.items to) ≡ true →
    LacksLines m from to → ⊥
lacks-none m from to apart here there lacks = elim lacks [
  | inl same ↦ apart same
  | inr none ↦ elim none [
    | inl gone ↦ let wrong : true ≡ false = sym here ∙ gone in absurd (cc)
    | inr gone ↦ let wrong : true ≡ false = sym there ∙ gone in absurd (cc)
  ]
]
