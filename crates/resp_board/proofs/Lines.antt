-- The commands of a line, after each call.
use Rattle.std.proofs.Common.{◌≡◌, ℕ, ◌+◌, ◌-◌, ◌<◌, ◌≤◌, List, [], ◌∷◌, ◌++◌, Option, None, Some, slice_index_or, length, take, drop, map, refl, sym, ap, subst, ◌∙◌, arith, append_assoc, length-append, length-drop}
use Rattle.std.specs.List.{concat}
use Rattle.std.specs.Option.{IfSome, option_to_list}
use Rattle.std.proofs.Math.Seq.{drop-append_seam}
use Rattle.std.proofs.lemmas.List.{append-nil, drop-append-le, drop-drop, drop-map, length-map, map-append, take-append-drop}
use Rattle.std.proofs.lemmas.List.Folds.{concat-append}
use Rattle.resp_board.specs.declared.ticket.Ticket.{Ticket}
use Rattle.resp_board.specs.Begun.{BeginsMore}
use Rattle.resp_board.specs.declared.queue.Queue.{Queue}
use Rattle.resp_board.specs.Queues.{Begins, Command, HasQueued, WhereQueued, Line, nothing_queued, texts_of, tickets_of, unsent_of, waiting_commands, waiting_tickets, with_answered, with_commands, with_connection, with_queued, with_sent, without_first}
use Rattle.resp_board.proofs.Begun.{begins_command, begins_nothing, begins_reply, begins_sent, texts-append}

-- the parts of a queue hold these commands
pub record Holds (waiting : List Ticket) (out unbegun : List ℕ) (left : ℕ) (l : Line) : Type 0 where
  pub within : l.replied ≤ length l.commands
  pub waits : tickets_of (drop l.replied l.commands) ≡ waiting
  pub in_order : l.sent ++ out ≡ concat (texts_of l.commands)
  pub begins : Begins (length waiting) unbegun left l

-- as many commands wait as have no reply
all_wait : (waiting : List Ticket) (out unbegun : List ℕ) (left : ℕ) (l : Line) → Holds waiting out unbegun left l →
    l.replied + length waiting ≡ length (texts_of l.commands)
all_wait waiting out unbegun left l h = omega (
  arith,
  h.within,
  sym (ap length h.waits) ∙ length-map (drop l.replied l.commands) (λ (c : Command). c.ticket) ∙ length-drop l.replied l.commands,
  length-map l.commands (λ (c : Command). c.text),
)

pub pushed : (waiting : List Ticket) (out unbegun : List ℕ) (left : ℕ) (l : Line) (ticket : Ticket) (text : List ℕ) → Holds waiting out unbegun left l →
    Holds (waiting ++ ticket ∷ []) (out ++ text) (unbegun ++ length text ∷ []) left (with_queued ticket text l)
pushed waiting out unbegun left l ticket text h =
    let c : Command = record { ticket = ticket; text = text } in
    let more : length (waiting ++ ticket ∷ []) ≡ length waiting + 1 = length-append waiting (ticket ∷ []) in
    record {
      within = omega (arith, h.within, length-append l.commands (c ∷ []));
      waits = ap tickets_of (drop-append-le l.replied l.commands (c ∷ []) h.within) ∙
          map-append (λ (d : Command). d.ticket) (drop l.replied l.commands) (c ∷ []) ∙ ap (λ ts. ts ++ ticket ∷ []) h.waits;
      in_order = sym (append_assoc l.sent out text) ∙ ap (λ bytes. bytes ++ text) h.in_order ∙
          ap (λ bytes. concat (texts_of l.commands) ++ bytes) (sym (append-nil text)) ∙ sym (concat-append (texts_of l.commands) (text ∷ [])) ∙
          ap concat (sym (texts-append l.commands c));
      begins = subst (λ n. Begins n (unbegun ++ length text ∷ []) left (with_queued ticket text l)) (sym more)
          (begins_command (length waiting) unbegun left l ticket text (all_wait waiting out unbegun left l h) h.begins);
    }

drop_ticket : (commands : List Command) → tickets_of (drop 1 commands) ≡ drop 1 (tickets_of commands)
drop_ticket [] = refl
drop_ticket (c ∷ commands) = refl

pub popped : (waiting new : List Ticket) (out unbegun : List ℕ) (left : ℕ) (l : Line) (ticket : Ticket) → waiting ≡ ticket ∷ new → length unbegun < length waiting →
    Holds waiting out unbegun left l → Holds new out unbegun left (with_answered l)
popped waiting new out unbegun left l ticket first some h =
    let fewer : length waiting - 1 ≡ length new = omega (arith, ap length first) in
    let all = all_wait waiting out unbegun left l h in
    record {
      within = omega (arith, all, some, length-map l.commands (λ (c : Command). c.text));
      waits = ap tickets_of (sym (drop-drop 1 l.replied l.commands)) ∙ drop_ticket (drop l.replied l.commands) ∙ ap (drop 1) (h.waits ∙ first);
      in_order = h.in_order;
      begins = subst (λ n. Begins n unbegun left (with_answered l)) fewer (begins_reply (length waiting) unbegun left l some h.begins);
    }

pub bytes_sent : (waiting : List Ticket) (out new unbegun unbegun' : List ℕ) (left left' count : ℕ) (l : Line) → count ≤ length out → new ≡ drop count out →
    BeginsMore count unbegun left unbegun' left' → Holds waiting out unbegun left l → Holds waiting new unbegun' left' (with_sent (take count out) l)
bytes_sent waiting out new unbegun unbegun' left left' count l within gone more h = record {
  within = h.within;
  waits = h.waits;
  in_order = append_assoc l.sent (take count out) new ∙ ap (λ bytes. l.sent ++ (take count out ++ bytes)) gone ∙
      ap (λ bytes. l.sent ++ bytes) (take-append-drop count out) ∙ h.in_order;
  begins = begins_sent (length waiting) unbegun unbegun' left left' count l out within more h.begins;
}

-- what is behind a front
behind_front : (a b x y : List ℕ) (n : ℕ) → a ++ b ≡ x ++ y → length x ≡ length a + n → drop n b ≡ y
behind_front [] b x y n e size = ap (λ k. drop k b) (let f : n ≡ length x = omega (arith, size) in f) ∙ ap (drop (length x)) e ∙ drop-append_seam x y
behind_front (v ∷ a) b [] y n e size = absurd (omega (arith, size))
behind_front (v ∷ a) b (w ∷ x) y n e size = behind_front a b x y n (ap (drop 1) e) (omega (arith, size))

pub connected : (waiting : List Ticket) (out new unbegun : List ℕ) (left : ℕ) (l : Line) → length waiting ≤ length unbegun → new ≡ drop left out →
    Holds waiting out unbegun left l → Holds waiting new unbegun 0 (with_connection l)
connected waiting out new unbegun left l none gone h =
    let b = h.begins in
    let no_begun : l.replied + b.begun ≡ l.replied = omega (arith, b.count, none) in
    let texts = texts_of l.commands in
    let split : concat texts ≡ concat (take l.replied texts) ++ concat (drop l.replied texts) =
    ap concat (sym (take-append-drop l.replied texts)) ∙ concat-append (take l.replied texts) (drop l.replied texts) in
    let size : length (concat (take l.replied texts)) ≡ length l.sent + left = ap (λ n. length (concat (take n texts))) (sym no_begun) ∙ b.sent in
    record {
      within = omega arith;
      waits = h.waits;
      in_order = gone ∙ behind_front l.sent out (concat (take l.replied texts)) (concat (drop l.replied texts)) left (h.in_order ∙ split) size ∙
          ap concat (drop-map (λ (c : Command). c.text) l.replied l.commands);
      begins = record {
        begun = 0;
        count = omega (arith, b.count, none);
        is_begun = record { enough = omega arith; fewest = λ fewer few. absurd (omega (arith, few)) };
        lengths = ap (map length) (sym (drop-map (λ (c : Command). c.text) l.replied l.commands)) ∙ ap (λ n. map length (drop n texts)) (sym no_begun) ∙ b.lengths;
        sent = refl;
      };
    }

-- the first command is not for the line any more
first-removed : (cs : List Command) (ticket : Ticket) (new : List Ticket) (size : ℕ) (unbegun out : List ℕ) → tickets_of cs ≡ ticket ∷ new →
    map length (texts_of cs) ≡ size ∷ unbegun → out ≡ concat (texts_of cs) →
    (tickets_of (drop 1 cs) ≡ new) × (map length (texts_of (drop 1 cs)) ≡ unbegun) × (drop size out ≡ concat (texts_of (drop 1 cs)))
first-removed [] ticket new size unbegun out t u o = absurd (grind arith)
first-removed (c ∷ cs) ticket new size unbegun out t u o = (
  ap (drop 1) t,
  ap (drop 1) u,
  (let first : size ≡ length c.text = sym (ap (λ (ns : List ℕ). slice_index_or ns 0 0) u) in
      ap (λ n. drop n out) first ∙ ap (drop (length c.text)) o ∙ drop-append_seam c.text (concat (texts_of cs))),
)

removed-from : (waiting new : List Ticket) (out out' unbegun unbegun' : List ℕ) (size : ℕ) (l : Line) (ticket : Ticket) → waiting ≡ ticket ∷ new →
    unbegun ≡ size ∷ unbegun' → length waiting ≤ length unbegun → out' ≡ drop size out → Holds waiting out unbegun 0 (with_connection l) →
    Holds new out' unbegun' 0 (without_first l)
removed-from waiting new out out' unbegun unbegun' size l ticket first shortest none gone m =
    let b = m.begins in
    let cs = drop l.replied l.commands in
    let zero_begun : 0 + b.begun ≡ 0 = omega (arith, b.count, none) in
    let r = first-removed cs ticket new size unbegun' out (m.waits ∙ first)
    (ap (λ n. map length (drop n (texts_of cs))) (sym zero_begun) ∙ b.lengths ∙ shortest) m.in_order in
    let same : drop 1 cs ≡ drop (l.replied + 1) l.commands = drop-drop 1 l.replied l.commands in
    record {
      within = omega arith;
      waits = ap tickets_of (sym same) ∙ r.0;
      in_order = gone ∙ r.2 ∙ ap (λ xs. concat (texts_of xs)) same;
      begins = record {
        begun = 0;
        count = omega (arith, b.count, zero_begun, ap length first, ap length shortest);
        is_begun = record { enough = omega arith; fewest = λ fewer few. absurd (omega (arith, few)) };
        lengths = ap (λ xs. map length (texts_of xs)) (sym same) ∙ r.1;
        sent = refl;
      };
    }

pub removed : (waiting new : List Ticket) (out out' unbegun unbegun' : List ℕ) (left size : ℕ) (l : Line) (ticket : Ticket) → waiting ≡ ticket ∷ new →
    unbegun ≡ size ∷ unbegun' → length waiting ≤ length unbegun → out' ≡ drop size (drop left out) → Holds waiting out unbegun left l →
    Holds new out' unbegun' 0 (without_first l)
removed waiting new out out' unbegun unbegun' left size l ticket first shortest none gone h =
    removed-from waiting new (drop left out) out' unbegun unbegun' size l ticket first shortest none gone
    (connected waiting out (drop left out) unbegun left l none refl h)

-- the parts of the queue, and the queue itself
abbrev pub parts : Queue → Line → Type 0
parts q l = Holds (waiting_tickets q) (unsent_of q) q.unbegun.items q.left l

pub held : (q : Queue) (l : Line) → HasQueued q l → parts q l
held q l h = record { within = h.within; waits = h.waiting; in_order = h.in_order; begins = h.begins }

pub queued : (q : Queue) (l : Line) → parts q l → HasQueued q l
queued q l h = record { within = h.within; waiting = h.waits; in_order = h.in_order; begins = h.begins }

pub popped_if : (r : Option Ticket) (q : Queue) (new : List Ticket) → waiting_tickets q ≡ option_to_list r ++ new → length q.unbegun.items < length q.waiting.items →
    (P : Line → Type 0) → ((l : Line) → Holds new (unsent_of q) q.unbegun.items q.left (with_answered l) → P l) → IfSome r (λ x. WhereQueued q P)
popped_if None q new whole some P now = tt
popped_if (Some ticket) q new whole some P now = λ l h. now l (popped q.waiting.items new q.out.items q.unbegun.items q.left l ticket whole some (held q l h))

pub pushed_as : (waiting waiting' : List Ticket) (out out' unbegun unbegun' : List ℕ) (left : ℕ) (l : Line) (ticket : Ticket) (text : List ℕ) →
    waiting' ≡ waiting ++ ticket ∷ [] → out' ≡ out ++ text → unbegun' ≡ unbegun ++ length text ∷ [] → Holds waiting out unbegun left l →
    Holds waiting' out' unbegun' left (with_queued ticket text l)
pushed_as waiting waiting' out out' unbegun unbegun' left l ticket text e f g h =
    subst (λ ts. Holds ts out' unbegun' left (with_queued ticket text l)) (sym e)
    (subst (λ bytes. Holds (waiting ++ ticket ∷ []) bytes unbegun' left (with_queued ticket text l)) (sym f)
    (subst (λ ns. Holds (waiting ++ ticket ∷ []) (out ++ text) ns left (with_queued ticket text l)) (sym g)
    (pushed waiting out unbegun left l ticket text h)))

-- more commands

holds-to : (waiting waiting' : List Ticket) (out out' unbegun unbegun' : List ℕ) (left : ℕ) (l l' : Line) → waiting ≡ waiting' → out ≡ out' → unbegun ≡ unbegun' →
    l ≡ l' → Holds waiting out unbegun left l → Holds waiting' out' unbegun' left l'
holds-to waiting waiting' out out' unbegun unbegun' left l l' e f g s h =
    subst (λ ts. Holds ts out' unbegun' left l') e
    (subst (λ bytes. Holds waiting bytes unbegun' left l') f
    (subst (λ ns. Holds waiting out ns left l') g (subst (Holds waiting out unbegun left) s h)))

pub pushed-all : (cs : List Command) (waiting : List Ticket) (out unbegun : List ℕ) (left : ℕ) (l : Line) → Holds waiting out unbegun left l →
    Holds (waiting ++ tickets_of cs) (out ++ concat (texts_of cs)) (unbegun ++ map length (texts_of cs)) left (with_commands cs l)
pushed-all [] waiting out unbegun left l h =
    holds-to waiting (waiting ++ []) out (out ++ []) unbegun (unbegun ++ []) left l (with_commands [] l) (sym (append-nil waiting)) (sym (append-nil out))
    (sym (append-nil unbegun)) (ap (λ cs. record { commands = cs; replied = l.replied; sent = l.sent }) (sym (append-nil l.commands))) h
pushed-all (c ∷ cs) waiting out unbegun left l h =
    let rest = pushed-all cs (waiting ++ c.ticket ∷ []) (out ++ c.text) (unbegun ++ length c.text ∷ []) left (with_queued c.ticket c.text l)
    (pushed waiting out unbegun left l c.ticket c.text h) in
    holds-to ((waiting ++ c.ticket ∷ []) ++ tickets_of cs) (waiting ++ tickets_of (c ∷ cs)) ((out ++ c.text) ++ concat (texts_of cs)) (out ++ concat (texts_of (c ∷ cs)))
    ((unbegun ++ length c.text ∷ []) ++ map length (texts_of cs)) (unbegun ++ map length (texts_of (c ∷ cs))) left (with_commands cs (with_queued c.ticket c.text l))
    (with_commands (c ∷ cs) l) (append_assoc waiting (c.ticket ∷ []) (tickets_of cs)) (append_assoc out c.text (concat (texts_of cs)))
    (append_assoc unbegun (length c.text ∷ []) (map length (texts_of cs)))
    (ap (λ ds. record { commands = ds; replied = l.replied; sent = l.sent }) (append_assoc l.commands (c ∷ []) cs)) rest

-- the commands of a line of which no byte was sent are queued on another
pub released : (waiting waiting' : List Ticket) (out out' unbegun unbegun' : List ℕ) (left left' : ℕ) (from to : Line) → length waiting ≤ length unbegun →
    Holds waiting out unbegun left from → Holds waiting' out' unbegun' left' to →
    Holds (waiting' ++ waiting) (out' ++ drop left out) (unbegun' ++ unbegun) left' (with_commands (waiting_commands from) to)
released waiting waiting' out out' unbegun unbegun' left left' from to none h k =
    let m = connected waiting out (drop left out) unbegun left from none refl h in
    let cs = waiting_commands from in
    let none-begun : 0 + m.begins.begun ≡ 0 = let c = m.begins.count in omega (arith, c, none) in
    let lengths : map length (texts_of cs) ≡ unbegun = ap (λ n. map length (drop n (texts_of cs))) (sym none-begun) ∙ m.begins.lengths in
    holds-to (waiting' ++ tickets_of cs) (waiting' ++ waiting) (out' ++ concat (texts_of cs)) (out' ++ drop left out) (unbegun' ++ map length (texts_of cs))
    (unbegun' ++ unbegun) left' (with_commands cs to) (with_commands cs to) (ap (λ ts. waiting' ++ ts) m.waits) (ap (λ bytes. out' ++ bytes) (sym m.in_order))
    (ap (λ ns. unbegun' ++ ns) lengths) refl (pushed-all cs waiting' out' unbegun' left' to k)

pub released_as : (waiting waiting' waiting'' : List Ticket) (out out' out'' unbegun unbegun' unbegun'' : List ℕ) (left left' : ℕ) (from to : Line) →
    length waiting ≤ length unbegun → waiting'' ≡ waiting' ++ waiting → out'' ≡ out' ++ drop left out → unbegun'' ≡ unbegun' ++ unbegun →
    Holds waiting out unbegun left from → Holds waiting' out' unbegun' left' to → Holds waiting'' out'' unbegun'' left' (with_commands (waiting_commands from) to)
released_as waiting waiting' waiting'' out out' out'' unbegun unbegun' unbegun'' left left' from to none e f g h k =
    holds-to (waiting' ++ waiting) waiting'' (out' ++ drop left out) out'' (unbegun' ++ unbegun) unbegun'' left' (with_commands (waiting_commands from) to)
    (with_commands (waiting_commands from) to) (sym e) (sym f) (sym g) refl (released waiting waiting' out out' unbegun unbegun' left left' from to none h k)

pub holds_nothing : (waiting : List Ticket) (out unbegun : List ℕ) (left : ℕ) → waiting ≡ [] → out ≡ [] → unbegun ≡ [] → left ≡ 0 →
    Holds waiting out unbegun left nothing_queued
holds_nothing waiting out unbegun left e f g s =
    subst (λ n. Holds waiting out unbegun n nothing_queued) (sym s)
    (holds-to [] waiting [] out [] unbegun 0 nothing_queued nothing_queued (sym e) (sym f) (sym g) refl
    (record { within = omega arith; waits = refl; in_order = refl; begins = begins_nothing }))

take-whole : (xs : List ℕ) → take (length xs) xs ≡ xs
take-whole [] = refl
take-whole (x ∷ xs) = ap (λ ys. x ∷ ys) (take-whole xs)

pub take-rest : (n : ℕ) (xs : List ℕ) → take (length xs - n) (drop n xs) ≡ drop n xs
take-rest n xs = ap (λ k. take k (drop n xs)) (sym (length-drop n xs)) ∙ take-whole (drop n xs)
