-- The text of a value of the program that is an aggregate, by its members or pairs.
use Rattle.std.specs.declared.boxed.Box.{Box}
use Rattle.std.proofs.Common.{Global, ◌≡◌, ◌+◌, ℕ, List, [], ◌∷◌, ◌++◌, length, map, refl, sym, ap, ◌∙◌, subst, length-append}
use Rattle.bytes.specs.Filled.{Filled}
use Rattle.resp_value.specs.Bytes.{crlf}
use Rattle.resp_value.specs.Numbers.{decimal}
use Rattle.resp_value.specs.Data.{count, data_of_list, in_turn, items_of}
use Rattle.resp_value.specs.Data as d
use Rattle.resp_value.specs.Trees.{kind_byte, texts}
use Rattle.resp_value.specs.Canonical.{canonical_text, canonical_trees}
use Rattle.resp_value.specs.Values.{datum_of, pair_data, list_of, pairs_of}
use Rattle.resp_value.specs.declared.version.Version.{Version}
use Rattle.resp_value.specs.declared.value.Value.{Value}
use Rattle.resp_value.specs.declared.value.Value.TheVariants.{Array, Set, Map, Attr, Push}
use Rattle.resp_value.specs.declared.value.Members.{Members}
use Rattle.resp_value.specs.declared.value.PairList.{PairList}
use Rattle.resp_value.proofs.DatumOf.{datum_of-Array, datum_of-Set, datum_of-Push, datum_of-Map, datum_of-Attr}
use Rattle.resp_encode.specs.Walks.Writings.{Fills}
use Rattle.resp_encode.proofs.Counts.{count-map, count-in_turn, count-annotated}
use Rattle.resp_encode.proofs.Extended.{data_of_list-push, texts-extended}
use Rattle.resp_encode.proofs.Texts.{aggregate_text, length-head}

-- a head with this byte, and the texts of the members
abbrev pub group_text : Version → ℕ → List Value → List ℕ
group_text version byte members = byte ∷ decimal (length members) ++
    crlf (texts (canonical_trees version (data_of_list (map datum_of members))))

-- the value is an aggregate of this kind that counts its members one by one
abbrev pub IsGroup : d.Kind → Value → Members → Type 0
IsGroup d.Array value members = value ≡ Array members
IsGroup d.Set value members = value ≡ Set members
IsGroup d.Push value members = value ≡ Push members
IsGroup _ value members = ⊥

datum_of_group : (k : d.Kind) (value : Value) (members : Members) → IsGroup k value members →
    datum_of value ≡ d.aggregate k (data_of_list (map datum_of (list_of members)))
datum_of_group d.Array value members is = ap datum_of is ∙ datum_of-Array members
datum_of_group d.Set value members is = ap datum_of is ∙ datum_of-Set members
datum_of_group d.Push value members is = ap datum_of is ∙ datum_of-Push members
datum_of_group d.Map value members is = absurd is
datum_of_group d.Attr value members is = absurd is

counts_each : (k : d.Kind) (value : Value) (members : Members) (n : ℕ) → IsGroup k value members → items_of k n ≡ n
counts_each d.Array value members n is = refl
counts_each d.Set value members n is = refl
counts_each d.Push value members n is = refl
counts_each d.Map value members n is = absurd is
counts_each d.Attr value members n is = absurd is

text_of_group : (version : Version) (k : d.Kind) (value : Value) (members : Members) (xs : List Value) →
    xs ≡ list_of members → IsGroup k value members → canonical_text version (datum_of value) ≡ group_text version (kind_byte k) xs
text_of_group version k value members xs e is =
    let ys = data_of_list (map datum_of xs) in
    ap (canonical_text version) (datum_of_group k value members is)
    ∙ ap (λ zs. canonical_text version (d.aggregate k (data_of_list (map datum_of zs)))) (sym e)
    ∙ aggregate_text version k ys (length xs) (counts_each k value members (count ys) is ∙ count-map datum_of xs)

pub length_of_group : (version : Version) (k : d.Kind) (value : Value) (members : Members) (xs : List Value) →
    xs ≡ list_of members → IsGroup k value members → length (canonical_text version (datum_of value)) ≡
    length (decimal (length xs)) + 3 + length (texts (canonical_trees version (data_of_list (map datum_of xs))))
length_of_group version k value members xs e is = ap length (text_of_group version k value members xs e is) ∙
    length-head (kind_byte k) (length xs) (texts (canonical_trees version (data_of_list (map datum_of xs))))

-- the group's text is the value's
pub group_written : (version : Version) (k : d.Kind) (value : Value) (members : Members) {xs : List Value} {a b : Filled} →
    xs ≡ list_of members → IsGroup k value members → Fills a b (group_text version (kind_byte k) xs) →
    Fills a b (canonical_text version (datum_of value))
group_written version k value members {xs = xs} {a = a} {b = b} e is =
    subst (Fills a b) (sym (text_of_group version k value members xs e is))

-- the texts of keys and values in turn
abbrev pub pair_texts : Version → List (Value × Value) → List ℕ
pair_texts version pairs = texts (canonical_trees version (data_of_list (in_turn (map pair_data pairs))))

pub text_of-Map : (version : Version) (value : Value) (pairs : PairList) (ps : List (Value × Value)) →
    ps ≡ pairs_of pairs → value ≡ Map pairs →
    canonical_text version (datum_of value) ≡ 37 ∷ decimal (length ps) ++ crlf (pair_texts version ps)
text_of-Map version value pairs ps e is =
    ap (λ x. canonical_text version (datum_of x)) is
    ∙ ap (canonical_text version) (datum_of-Map pairs)
    ∙ ap (λ qs. canonical_text version (d.aggregate d.Map (data_of_list (in_turn (map pair_data qs))))) (sym e)
    ∙ aggregate_text version d.Map (data_of_list (in_turn (map pair_data ps))) (length ps) (count-in_turn pair_data ps)

pub length_of-Map : (version : Version) (value : Value) (pairs : PairList) (ps : List (Value × Value)) →
    ps ≡ pairs_of pairs → value ≡ Map pairs →
    length (canonical_text version (datum_of value)) ≡ length (decimal (length ps)) + 3 + length (pair_texts version ps)
length_of-Map version value pairs ps e is =
    ap length (text_of-Map version value pairs ps e is) ∙ length-head 37 (length ps) (pair_texts version ps)

pub text_of-Attr : (version : Version) (value : Value) (pairs : PairList) (annotated : Box Value Global)
    (ps : List (Value × Value)) (under : Value) →
    ps ≡ pairs_of pairs → under ≡ annotated.value → value ≡ Attr pairs annotated →
    canonical_text version (datum_of value) ≡ 124 ∷ decimal (length ps) ++
    crlf (pair_texts version ps ++ canonical_text version (datum_of under))
text_of-Attr version value pairs annotated ps under e f is =
    ap (λ x. canonical_text version (datum_of x)) is
    ∙ ap (canonical_text version) (datum_of-Attr pairs annotated)
    ∙ ap (λ qs. canonical_text version (d.aggregate d.Attr
    (data_of_list (in_turn (map pair_data qs) ++ datum_of annotated.value ∷ [])))) (sym e)
    ∙ ap (λ x. canonical_text version (d.aggregate d.Attr
    (data_of_list (in_turn (map pair_data ps) ++ datum_of x ∷ [])))) (sym f)
    ∙ aggregate_text version d.Attr (data_of_list (in_turn (map pair_data ps) ++ datum_of under ∷ [])) (length ps)
    (count-annotated pair_data ps (datum_of under))
    ∙ ap (λ xs. 124 ∷ decimal (length ps) ++ crlf (texts (canonical_trees version xs)))
    (data_of_list-push (in_turn (map pair_data ps)) (datum_of under))
    ∙ ap (λ xs. 124 ∷ decimal (length ps) ++ crlf xs)
    (texts-extended version (data_of_list (in_turn (map pair_data ps))) (datum_of under))

pub length_of-Attr : (version : Version) (value : Value) (pairs : PairList) (annotated : Box Value Global)
    (ps : List (Value × Value)) (under : Value) → ps ≡ pairs_of pairs → under ≡ annotated.value → value ≡ Attr pairs annotated →
    length (canonical_text version (datum_of value)) ≡
    length (decimal (length ps)) + 3 + (length (pair_texts version ps) + length (canonical_text version (datum_of under)))
length_of-Attr version value pairs annotated ps under e f is =
    let text = canonical_text version (datum_of under) in
    ap length (text_of-Attr version value pairs annotated ps under e f is) ∙ length-head 124 (length ps) (pair_texts version ps ++ text) ∙
    ap (λ n. length (decimal (length ps)) + 3 + n) (length-append (pair_texts version ps) text)
