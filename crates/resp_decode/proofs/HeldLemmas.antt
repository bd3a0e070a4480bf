-- Members in turn, and groups in their order.
use Rattle.std.proofs.Common.{◌≡◌, ℕ, suc, ◌-◌, ◌<◌, get_or, Option, None, Some, List, [], ◌∷◌, ◌++◌, length, map, reverse, refl, sym, ap, ◌∙◌, append_assoc, length-append, arith}
use Rattle.std.proofs.lemmas.List.{append-nil, map-append, reverse-append}
use Rattle.std.proofs.Math.ListN.{set}
use Rattle.std.proofs.Math.Seq.{set-append_seam}
use Rattle.resp_value.specs.Data.{Datum, aggregate, data_of_list, in_turn}
use Rattle.resp_value.specs.Data as d
use Rattle.resp_value.specs.Values.{datum_of, pair_data}
use Rattle.resp_value.specs.declared.value.Value.{Value}
use Rattle.resp_value.proofs.DatumOf.{length-in_turn}
use Rattle.resp_fronts.specs.Events as e
use Rattle.resp_scan.specs.Kinds.{content_events}
use Rattle.resp_decode.specs.Builds.{Construction, Text, with_value_in, with_bytes, with_event, with_events}
use Rattle.resp_decode.specs.Fits.{IsMemberCount, events_weight}
use Rattle.resp_decode.specs.Holding.{construction_of, group_of, key_data, maybe_datum, maybe_text, text_held}
use Rattle.resp_decode.specs.declared.group.Group.{Group}
use Rattle.resp_decode.specs.declared.held.HeldParts.{HeldParts}
use Rattle.resp_decode.specs.declared.text.PartialText.{PartialText as HeldText}

-- pairs side by side
pub in_turn-append : (xs ys : List (Datum × Datum)) → in_turn (xs ++ ys) ≡ in_turn xs ++ in_turn ys
in_turn-append [] ys = refl
in_turn-append (x ∷ xs) ys = ap (λ zs. x.0 ∷ x.1 ∷ zs) (in_turn-append xs ys)

-- a key and its value are a pair more
pub pair_more : (ps qs : List (Value × Value)) (key value : Value) → qs ≡ ps ++ (key, value) ∷ [] →
    in_turn (map pair_data qs) ++ [] ≡ (in_turn (map pair_data ps) ++ datum_of key ∷ []) ++ datum_of value ∷ []
pair_more ps qs key value e =
    append-nil (in_turn (map pair_data qs))
    ∙ ap (λ zs. in_turn (map pair_data zs)) e
    ∙ ap in_turn (map-append pair_data ps ((key, value) ∷ []))
    ∙ in_turn-append (map pair_data ps) (map pair_data ((key, value) ∷ []))
    ∙ sym (append_assoc (in_turn (map pair_data ps)) (datum_of key ∷ []) (datum_of value ∷ []))

-- no key waits where members are whole pairs
pub no_key : (ps : List (Datum × Datum)) (key : Option Value) → IsMemberCount d.Map (length (in_turn ps ++ key_data key)) → key_data key ≡ []
no_key ps None h = refl
no_key ps (Some x) h = absurd (omega (arith, h.1, length-append (in_turn ps) (datum_of x ∷ []), length-in_turn ps))

-- content comes a part at a time
pub content_held : (s : List ℕ) (text : Option Text) (b : Construction) → with_events (content_events s) (record b { text = text }) ≡
    record b { text = with_bytes text s }
content_held [] None b = refl
content_held [] (Some t) b = ap (λ z. let c : Construction = record b { text = Some (record t { content = z }) } in c) (sym (append-nil t.content))
content_held (x ∷ s) None b = content_held s None b
content_held (x ∷ s) (Some t) b = content_held s (Some (record t { content = t.content ++ x ∷ [] })) b ∙
    ap (λ z. let c : Construction = record b { text = Some (record t { content = z }) } in c) (append_assoc t.content (x ∷ []) s)

pub content_adds : (s : List ℕ) (b : Construction) → events_weight (content_events s) b ≡ length s
content_adds [] b = refl
content_adds (x ∷ s) b = omega (arith, content_adds s (with_event (e.Byte x) b))

-- what is not empty has a last one
pub last_split : {X : Type 0} (xs : List X) (d : X) → 0 < length xs → (init : List X) × (xs ≡ init ++ get_or xs (length xs - 1) d ∷ [])
last_split [] d h = absurd (omega arith)
last_split (a ∷ []) d h = ([], refl)
last_split (a ∷ b ∷ rest) d h =
    let (init, e) = last_split (b ∷ rest) d (omega arith) in
    let at : length (a ∷ b ∷ rest) - 1 ≡ suc (length (b ∷ rest) - 1) = omega arith in
    (a ∷ init, ap (λ z. a ∷ z) e ∙ ap (λ i. a ∷ (init ++ get_or (a ∷ b ∷ rest) i d ∷ [])) (sym at))

-- the last aggregate is the innermost
innermost : (init : List Group) (z : Group) → reverse (map group_of (init ++ z ∷ [])) ≡ group_of z ∷ reverse (map group_of init)
innermost init z = ap reverse (map-append group_of init (z ∷ [])) ∙ reverse-append (map group_of init) (group_of z ∷ [])

-- one member more in the innermost aggregate
pub group_put : (xs : List Group) (n : ℕ) (g y : Group) (x : Datum) (b : Construction) → n ≡ length xs → 0 < n → g ≡ get_or xs (n - 1) g →
    group_of y ≡ record (group_of g) { members = (group_of g).members ++ x ∷ [] } → record b { groups = reverse (map group_of (set xs (n - 1) y)) } ≡
    with_value_in (reverse (map group_of xs)) x b
group_put xs n g y x b size h is added =
    let (init, e) = last_split xs g (omega arith) in
    let whole : xs ≡ init ++ g ∷ [] = e ∙ ap (λ z. init ++ z ∷ []) (sym (is ∙ ap (λ i. get_or xs (i - 1) g) size)) in
    let at : n - 1 ≡ length init = omega (arith, ap length whole, length-append init (g ∷ [])) in
    let new : set xs (n - 1) y ≡ init ++ y ∷ [] = ap (λ i. set xs i y) at ∙ ap (λ z. set z (length init) y) whole ∙ set-append_seam init g [] y in
    ap (λ z. let c : Construction = record b { groups = z } in c) (ap (λ z. reverse (map group_of z)) new ∙ innermost init y ∙
    ap (λ z. z ∷ reverse (map group_of init)) added)
    ∙ ap (λ z. with_value_in z x b) (sym (ap (λ z. reverse (map group_of z)) whole ∙ innermost init g))

-- the text that is being read has a part more
pub extended_text : (old between : HeldParts) (weight : ℕ) (t extended : HeldText) (part : List ℕ) → between ≡ record old { weight = weight } →
    between.text ≡ Some t → text_held extended ≡ record (text_held t) { content = (text_held t).content ++ part } →
    construction_of (record between { text = Some extended }) ≡ record (construction_of old) { text = with_bytes (construction_of old).text part }
extended_text old between weight t extended part same has added =
    let F : HeldParts → Option Text → Construction = λ h y. record { groups = reverse (map group_of h.groups.items); text = y; whole = maybe_datum h.whole } in
    let had : old.text ≡ Some t = sym (ap (λ h. let z : HeldParts = h in z.text) same) ∙ has in
    ap (λ h. F h (Some (text_held extended))) same
    ∙ ap (F old) (ap Some added ∙ sym (ap (λ o. with_bytes (maybe_text o) part) had))
