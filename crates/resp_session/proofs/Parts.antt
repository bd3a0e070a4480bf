-- Each client's part of the order, and how many replies its session has sent.
use Rattle.std.proofs.Common.{◌≡◌, inl, inr, ℕ, ◌+◌, ◌<◌, ◌≤◌, ◌==◌, Bool, true, false, not, cond, filter, List, [], ◌∷◌, ◌++◌, length, map, take, Option, None, Some, unwrap_or, refl, sym, ap, subst, ◌∙◌, arith, append-nil, length-append}
use Rattle.std.proofs.lemmas.Bool.{eq-eqb, ne_eqb}
use Rattle.std.proofs.lemmas.List.{map-append, length-map, take-append-le}
use Rattle.std.proofs.lemmas.List.Elements.{filter-append}
use Rattle.std.proofs.lemmas.List.Folds.{concat-append}
use Rattle.std.specs.List.{concat}
use Rattle.resp_value.specs.Data.{Datum}
use Rattle.resp_value.specs.declared.version.Version.{Version}
use Rattle.resp_value.specs.declared.version.Version.TheVariants.{Two, Three}
use Rattle.resp_session.specs.Heard.{is_push}
use Rattle.resp_session.specs.Operations.{Operation, Ping, Echo, Get, Set, Del, Hello, Refused, operation_of}
use Rattle.resp_session.specs.Replies.{bulk_string_or_null, hello_reply}
use Rattle.resp_session.specs.Stores.{Store, Effect, effect_of, effect_of_words, is_met, value_at}
use Rattle.resp_session.specs.Requests.{Request, request_words, request_text}
use Rattle.resp_session.specs.Connections.{Connection, Message, whole_within, sent_text, arrived_requests, with_request, with_message, with_effect, push_message}
use Rattle.resp_session.specs.Worlds.{World, connection_at, world_with, version_of, after_command, after_commands, commands_for}
use Rattle.resp_session.specs.Orders.{part_of_client, sent_replies}
use Rattle.resp_session.proofs.WholeTexts.{whole_within-most, whole_within-append}
use Rattle.resp_session.proofs.Changes.{IsChanged, is_changed}

-- what stands of every connection of a world with this order
pub record Holds (i : ℕ) (c : Connection) (order : List (ℕ × List (List ℕ))) : Type 0 where
  pub part : part_of_client i order ≡ map request_words (arrived_requests c)
  pub within : c.arrived ≤ length (sent_text c)
  pub replies : length (sent_replies c) ≡ length (part_of_client i order)

abbrev pub AllHold : World → Type 0
AllHold w = (i : ℕ) (c : Connection) → connection_at w.connections i ≡ Some c → Holds i c w.order

-- a change that keeps this of each connection
pub change_holds : (f : Connection → Connection) (w : World) (i : ℕ) → ((j : ℕ) (c : Connection) → Holds j c w.order → Holds j (f c) w.order) → AllHold w →
    AllHold (world_with f w i)
change_holds f w i keeps all j c e = elim (is_changed f w.connections i j c e) as (λ _. Holds j c w.order) [
  | inl h ↦ let (before, at, same) = h.1 in subst (λ x. Holds j x w.order) (sym same) (keeps j before (all j before at))
  | inr h ↦ all j c h.1
]

request_full : (request : Request) → 0 < length (request_text request)
request_full request = omega arith

-- the texts of one request more
one_text_more : (request : Request) (c : Connection) →
    map request_text (c.requests ++ request ∷ []) ≡ map request_text c.requests ++ request_text request ∷ []
one_text_more request c = map-append request_text c.requests (request ∷ [])

-- the requests that have come are the same where one more is asked
pub arrived_requests-with_request : (request : Request) (c : Connection) → c.arrived ≤ length (sent_text c) →
    arrived_requests (with_request request c) ≡ arrived_requests c
arrived_requests-with_request request c within =
    let texts = map request_text c.requests in
    let k = whole_within texts c.arrived in
    let same : whole_within (map request_text (c.requests ++ request ∷ [])) c.arrived ≡ k =
    ap (λ l. whole_within l c.arrived) (one_text_more request c) ∙
    whole_within-append texts (request_text request) c.arrived within (request_full request) in
    let most : k ≤ length c.requests = omega (arith, whole_within-most texts c.arrived, length-map c.requests request_text) in
    ap (λ n. take n (c.requests ++ request ∷ [])) same ∙ take-append-le k c.requests (request ∷ []) most

-- a request more
pub request_holds : (request : Request) (order : List (ℕ × List (List ℕ))) (i : ℕ) (c : Connection) → Holds i c order → Holds i (with_request request c) order
request_holds request order i c h =
    let texts = map request_text c.requests in
    let longer : length (sent_text (with_request request c)) ≡ length (sent_text c) + length (concat (request_text request ∷ [])) =
    ap (λ l. length (concat l)) (one_text_more request c) ∙ ap length (concat-append texts (request_text request ∷ [])) ∙
    length-append (concat texts) (concat (request_text request ∷ [])) in
    let within = h.within in
    record {
      part = h.part ∙ sym (ap (map request_words) (arrived_requests-with_request request c within));
      within = omega (arith, within, longer);
      replies = h.replies;
    }

abbrev is_reply : Message → Bool
is_reply m = not (is_push m.value)

-- a push is no reply
pub push_holds : (items : List Datum) (order : List (ℕ × List (List ℕ))) (i : ℕ) (c : Connection) → Holds i c order →
    Holds i (with_message (push_message items) c) order
push_holds items order i c h = record {
  part = h.part;
  within = h.within;
  replies = ap length (filter-append is_reply c.messages (push_message items ∷ []) ∙ append-nil (sent_replies c)) ∙ h.replies;
}

-- a null and a bulk string are no pushes
found_is_reply : (value : Option (List ℕ)) → is_push (bulk_string_or_null value) ≡ false
found_is_reply None = refl
found_is_reply (Some content) = refl

hello_is_reply : (version : Version) (id : ℕ) → is_push (hello_reply version id) ≡ false
hello_is_reply Two id = refl
hello_is_reply Three id = refl

-- whichever it is, the reply to a SET is no push
set_is_reply : (met : Bool) (set unset : Effect) → is_push set.reply ≡ false → is_push unset.reply ≡ false → is_push (cond met set unset).reply ≡ false
set_is_reply true set unset p q = p
set_is_reply false set unset p q = q

-- the reply to an operation is no push
effect_is_reply : (store : Store) (version : Version) (id : ℕ) (operation : Operation) → is_push (effect_of store version id operation).reply ≡ false
effect_is_reply store version id Ping = refl
effect_is_reply store version id (Echo word) = refl
effect_is_reply store version id (Get key) = found_is_reply (value_at store key)
effect_is_reply store version id (Set condition key value) = set_is_reply (is_met condition (value_at store key)) _ _ refl refl
effect_is_reply store version id (Del keys) = refl
effect_is_reply store version id (Hello asked) = hello_is_reply (unwrap_or asked version) id
effect_is_reply store version id (Refused text) = refl

pub replies_to_words : (store : Store) (version : Version) (id : ℕ) (words : List (List ℕ)) → is_push (effect_of_words store version id words).reply ≡ false
replies_to_words store version id [] = refl
replies_to_words store version id (name ∷ arguments) = effect_is_reply store version id (operation_of name arguments)

-- the part of a client, and of more commands
pub part_of_client-append : (i : ℕ) (order more : List (ℕ × List (List ℕ))) → part_of_client i (order ++ more) ≡ part_of_client i order ++ part_of_client i more
part_of_client-append i order more =
    ap (map (λ (c : ℕ × List (List ℕ)). c.1)) (filter-append (λ (c : ℕ × List (List ℕ)). c.0 == i) order more) ∙
    map-append (λ (c : ℕ × List (List ℕ)). c.1) (filter (λ (c : ℕ × List (List ℕ)). c.0 == i) order) (filter (λ (c : ℕ × List (List ℕ)). c.0 == i) more)

abbrev part_with : (mine : Bool) → ℕ → ℕ × List (List ℕ) → List (ℕ × List (List ℕ)) → List (List (List ℕ))
part_with mine i command commands =
    map (λ (c : ℕ × List (List ℕ)). c.1) (cond mine (command ∷ filter (λ (c : ℕ × List (List ℕ)). c.0 == i) commands)
    (filter (λ (c : ℕ × List (List ℕ)). c.0 == i) commands))

-- a command of this client
own_command : (i : ℕ) (command : ℕ × List (List ℕ)) (commands : List (ℕ × List (List ℕ))) → command.0 ≡ i →
    part_of_client i (command ∷ commands) ≡ command.1 ∷ part_of_client i commands
own_command i command commands e = ap (λ b. part_with b i command commands) (eq-eqb command.0 i e)

-- a command of another client
other_command : (i : ℕ) (command : ℕ × List (List ℕ)) (commands : List (ℕ × List (List ℕ))) → (command.0 ≡ i → ⊥) →
    part_of_client i (command ∷ commands) ≡ part_of_client i commands
other_command i command commands e = ap (λ b. part_with b i command commands) (ne_eqb command.0 i e)

pub own_commands : (i : ℕ) (requests : List Request) → part_of_client i (commands_for i requests) ≡ map request_words requests
own_commands i [] = refl
own_commands i (r ∷ rs) = own_command i (i, request_words r) (commands_for i rs) refl ∙ ap (λ l. request_words r ∷ l) (own_commands i rs)

pub other_commands : (i j : ℕ) (requests : List Request) → (i ≡ j → ⊥) → part_of_client j (commands_for i requests) ≡ []
other_commands i j [] e = refl
other_commands i j (r ∷ rs) e = other_command j (i, request_words r) (commands_for i rs) e ∙ other_commands i j rs e

-- where a connection comes from, after commands
pub record ComesFrom (w : World) (commands : List (ℕ × List (List ℕ))) (i : ℕ) (c : Connection) : Type 0 where
  pub before : Connection
  pub at : connection_at w.connections i ≡ Some before
  pub requests : c.requests ≡ before.requests
  pub arrived : c.arrived ≡ before.arrived
  pub replies : length (sent_replies c) ≡ length (sent_replies before) + length (part_of_client i commands)

abbrev effect_in : World → ℕ × List (List ℕ) → Effect
effect_in w command = effect_of_words w.store (version_of (connection_at w.connections command.0)) command.0 command.1

-- a reply more
one_reply : (effect : Effect) (c : Connection) → is_push effect.reply ≡ false → length (sent_replies (with_effect effect c)) ≡ length (sent_replies c) + 1
one_reply effect c e =
    let m : Message = record { value = effect.reply; version = effect.version } in
    let one : filter is_reply (m ∷ []) ≡ m ∷ [] = ap (λ b. cond (not b) (m ∷ []) []) e in
    ap length (filter-append is_reply c.messages (m ∷ []) ∙ ap (λ l. sent_replies c ++ l) one) ∙ length-append (sent_replies c) (m ∷ [])

comes_on : (w : World) (command : ℕ × List (List ℕ)) (commands : List (ℕ × List (List ℕ))) (i : ℕ) (c : Connection)
    (h : ComesFrom (after_command w command) commands i c) →
    IsChanged (with_effect (effect_in w command)) w.connections command.0 i h.before → ComesFrom w (command ∷ commands) i c
comes_on w command commands i c h (inl (e, (before, at, same))) = record {
  before = before;
  at = at;
  requests = h.requests ∙ ap (λ (x : Connection). x.requests) same;
  arrived = h.arrived ∙ ap (λ (x : Connection). x.arrived) same;
  replies =
      let one : length (sent_replies h.before) ≡ length (sent_replies before) + 1 =
      ap (λ x. length (sent_replies x)) same ∙ one_reply (effect_in w command) before
      (replies_to_words w.store (version_of (connection_at w.connections command.0)) command.0 command.1) in
      let own : length (part_of_client i (command ∷ commands)) ≡ length (command.1 ∷ part_of_client i commands) =
      ap length (own_command i command commands e) in
      let r = h.replies in
      omega (arith, one, own, r);
}
comes_on w command commands i c h (inr (e, at)) = record {
  before = h.before;
  at = at;
  requests = h.requests;
  arrived = h.arrived;
  replies = h.replies ∙ ap (λ l. length (sent_replies h.before) + length l) (sym (other_command i command commands e));
}

pub comes_from : (w : World) (commands : List (ℕ × List (List ℕ))) (i : ℕ) (c : Connection) → connection_at (after_commands w commands).connections i ≡ Some c →
    ComesFrom w commands i c
comes_from w [] i c e = record { before = c; at = e; requests = refl; arrived = refl; replies = omega arith }
comes_from w (command ∷ commands) i c e =
    let h = comes_from (after_command w command) commands i c e in
    comes_on w command commands i c h (is_changed (with_effect (effect_in w command)) w.connections command.0 i h.before h.at)
