-- What a session has written is what its client reads.
use Rattle.std.proofs.Common.{◌≡◌, ℕ, false, cond, List, [], ◌∷◌, ◌++◌, map, Option, None, Some, refl, sym, ap, subst, ◌∙◌, append-nil}
use Rattle.std.proofs.lemmas.List.{map-append}
use Rattle.std.proofs.lemmas.List.Folds.{concat-append}
use Rattle.std.specs.List.{AllByRecursion, concat}
use Rattle.resp_value.specs.Bounds.{Bounds}
use Rattle.resp_value.specs.Data.{Datum}
use Rattle.resp_value.specs.Laws.{VersionThreeSpellsWhatTwoDoes}
use Rattle.resp_value.specs.Rules.{rules_under}
use Rattle.resp_value.specs.Spellings.{IsSpelling}
use Rattle.resp_value.specs.declared.version.Version.{Version}
use Rattle.resp_value.specs.declared.version.Version.TheVariants.{Two, Three}
use Rattle.resp_session.specs.Connections.{Connection, Message, message_text, values_of, back_text, with_effect, with_message, push_message}
use Rattle.resp_session.specs.Heard.{is_push}
use Rattle.resp_session.specs.Reading.{Waiting, ReadsAs, reading_version, greater_version, version_after, waiting_after}
use Rattle.resp_session.specs.ReadingLaws.{ReadingsGoOn, ReadingsStay}
use Rattle.resp_session.specs.Requests.{Request, Hello, Command, is_unsent_request, request_words, version_asked}
use Rattle.resp_session.specs.Stores.{Store, Effect, effect_of_words}
use Rattle.resp_session.specs.WorldLaws.{IsWritten}
use Rattle.resp_session.proofs.Elements.{all_but_last}
use Rattle.resp_session.proofs.KeptVersions.{sent_words_keep}
use Rattle.resp_session.proofs.Parts.{replies_to_words}

-- what waits: a version, and the versions that are asked
abbrev pub waits : Version → List (Option Version) → Waiting
waits version asks = record { version = version; asks = asks }

-- a spelling of one version is one of the greater of two
in_greater : VersionThreeSpellsWhatTwoDoes → (limits : Bounds) (version asked : Version) (x : Datum) (text : List ℕ) →
    IsSpelling (rules_under asked limits) x text →
    IsSpelling (rules_under (greater_version version asked) limits) x text
in_greater three limits Two asked x text s = s
in_greater three limits Three Three x text s = s
in_greater three limits Three Two x text s = three (rules_under Two limits) x text refl s

-- what the reply to a request means to the client that reads it in this version
record Suits (limits : Bounds) (version : Version) (request : Request) (effect : Effect) : Type 0 where
  next : version_after version (version_asked request) effect.reply ≡ effect.version
  read : (text : List ℕ) → IsSpelling (rules_under effect.version limits) effect.reply text →
      IsSpelling (rules_under (reading_version version (version_asked request ∷ [])) limits) effect.reply text

suits : VersionThreeSpellsWhatTwoDoes → (limits : Bounds) (store : Store) (version : Version) (id : ℕ) (request : Request) → is_unsent_request request ≡ false →
    Suits limits version request (effect_of_words store version id (request_words request))
suits three limits store version id (Hello None) sent = record { next = refl; read = λ text s. s }
suits three limits store version id (Hello (Some Two)) sent = record {
  next = refl;
  read = λ text s. in_greater three limits version Two (effect_of_words store version id (request_words (Hello (Some Two)))).reply text s;
}
suits three limits store version id (Hello (Some Three)) sent = record {
  next = refl;
  read = λ text s. in_greater three limits version Three (effect_of_words store version id (request_words (Hello (Some Three)))).reply text s;
}
suits three limits store version id (Command words) sent =
    let effect = effect_of_words store version id words in
    let kept = sent_words_keep words sent store version id in
    record { next = sym kept; read = λ text s. subst (λ v. IsSpelling (rules_under v limits) effect.reply text) kept s }

-- one reply is read
reply_reads : (limits : Bounds) (version : Version) (request : Request) (effect : Effect) (text : List ℕ) → is_push effect.reply ≡ false →
    Suits limits version request effect → IsSpelling (rules_under effect.version limits) effect.reply text →
    ReadsAs limits (waits version (version_asked request ∷ [])) (effect.reply ∷ []) text (waits effect.version [])
reply_reads limits version request effect text reply fits s =
    let w = waits version (version_asked request ∷ []) in
    let after : waiting_after w effect.reply ≡ waits effect.version [] =
    ap (λ b. cond b w (waits (version_after version (version_asked request) effect.reply) [])) reply ∙ ap (λ v. waits v []) fits.next in
    (text, [], fits.read text s, (λ e. absurd (cc)), (refl, sym after), sym (append-nil text))

-- the session's messages are what a client reads whose requests up to here were answered
abbrev pub IsRead : Bounds → List Request → Connection → Type 0
IsRead limits requests c = AllByRecursion (IsWritten limits) c.messages →
    ReadsAs limits (waits Two (map version_asked requests)) (values_of c.messages) (back_text c) (waits c.version [])

-- a message more is read, whatever was asked for it
message_read : ReadingsGoOn → ReadingsStay → (limits : Bounds) (requests : List Request) (c : Connection) (m : Message) (asks : List (Option Version))
    (next : Version) → IsRead limits requests c →
    (IsWritten limits m → ReadsAs limits (waits c.version asks) (m.value ∷ []) (message_text m) (waits next [])) →
    AllByRecursion (IsWritten limits) (c.messages ++ m ∷ []) →
    ReadsAs limits (waits Two (map version_asked requests ++ asks)) (values_of (c.messages ++ m ∷ [])) (concat (map message_text (c.messages ++ m ∷ [])))
    (waits next [])
message_read go_on stay limits requests c m asks next read step written =
    let (before, last) = all_but_last (IsWritten limits) c.messages m written in
    let asked = map version_asked requests in
    let first = stay limits (waits Two asked) (waits c.version []) asks (values_of c.messages) (back_text c) (read before) in
    let both = go_on limits (waits Two (asked ++ asks)) (waits c.version asks) (waits next []) (values_of c.messages) (m.value ∷ []) (back_text c)
    (message_text m)
    first (step last) in
    let values : values_of c.messages ++ m.value ∷ [] ≡ values_of (c.messages ++ m ∷ []) = sym (map-append (λ (x : Message). x.value) c.messages (m ∷ [])) in
    let texts : back_text c ++ message_text m ≡ concat (map message_text (c.messages ++ m ∷ [])) =
    ap (λ t. back_text c ++ t) (sym (append-nil (message_text m))) ∙ sym (ap concat (map-append message_text c.messages (m ∷ [])) ∙
    concat-append (map message_text c.messages) (message_text m ∷ [])) in
    subst (λ t. ReadsAs limits (waits Two (asked ++ asks)) (values_of (c.messages ++ m ∷ [])) t (waits next [])) texts
    (subst (λ l. ReadsAs limits (waits Two (asked ++ asks)) l (back_text c ++ message_text m) (waits next [])) values both)

-- the reply to a request more
pub reply_read : VersionThreeSpellsWhatTwoDoes → ReadingsGoOn → ReadingsStay →
    (limits : Bounds) (store : Store) (id : ℕ) (requests : List Request) (c : Connection)
    (request : Request) → is_unsent_request request ≡ false → IsRead limits requests c →
    IsRead limits (requests ++ request ∷ []) (with_effect (effect_of_words store c.version id (request_words request)) c)
reply_read three go_on stay limits store id requests c request sent read written =
    let effect : Effect = effect_of_words store c.version id (request_words request) in
    let m : Message = record { value = effect.reply; version = effect.version } in
    let fits = suits three limits store c.version id request sent in
    let all = message_read go_on stay limits requests c m (version_asked request ∷ []) effect.version read
    (λ s. reply_reads limits c.version request effect (message_text m) (replies_to_words store c.version id (request_words request)) fits s) written in
    subst (λ l. ReadsAs limits (waits Two l) (values_of (c.messages ++ m ∷ [])) (concat (map message_text (c.messages ++ m ∷ []))) (waits effect.version []))
    (sym (map-append version_asked requests (request ∷ []))) all

pub three_or_two : (version : Version) → (version ≡ Two → ⊥) → version ≡ Three
three_or_two Two h = absurd (h refl)
three_or_two Three h = refl

-- a push more, in a session at version 3
pub push_read : ReadingsGoOn → ReadingsStay → (limits : Bounds) (items : List Datum) (requests : List Request) (c : Connection) → (c.version ≡ Two → ⊥) →
    IsRead limits requests c → IsRead limits requests (with_message (push_message items) c)
push_read go_on stay limits items requests c later read written =
    let m = push_message items in
    let three : c.version ≡ Three = three_or_two c.version later in
    let step : IsWritten limits m → ReadsAs limits (waits c.version []) (m.value ∷ []) (message_text m) (waits c.version []) =
    λ s. (
      message_text m,
      [],
      subst (λ v. IsSpelling (rules_under v limits) m.value (message_text m)) (sym three) s,
      (λ e. refl),
      (refl, refl),
      sym (append-nil (message_text m)),
    ) in
    let all = message_read go_on stay limits requests c m [] c.version read step written in
    subst (λ l. ReadsAs limits (waits Two l) (values_of (c.messages ++ m ∷ [])) (concat (map message_text (c.messages ++ m ∷ []))) (waits c.version []))
    (append-nil (map version_asked requests)) all
