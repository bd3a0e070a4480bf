-- Two values are equal exactly where their data are.
use Rattle.std.specs.declared.boxed.Box.{Box}
use Rattle.std.proofs.Common.{Global, ℤ, ◌≡◌, inl, inr, ℕ, ◌+◌, ◌≤◌, Bool, true, false, ◌&&◌, eqb, List, [], ◌∷◌, ◌++◌, map, refl, sym, ap, subst, ◌∙◌, arith}
use Rattle.std.specs.List.{AllByRecursion}
use Rattle.std.specs.Bool.{Decides, beq}
use Rattle.std.specs.Cmp.{booleans_Decides}
use Rattle.std.specs.Ordering.{int_eq}
use Rattle.std.specs.Cmp.Lexicographic.{pointwise, bytes_decides}
use Rattle.std.proofs.lemmas.Bool.Decides.{Decides-int_eq}
use denote.Enum.Compared.{Each, by}
use denote.Enum.Declared.{Choice}
use denote.Hole.Compared.{compared_is}
use denote.Struct.Field.{Field}
use denote.Struct.Values.{Values}
use Rattle.resp_value.specs.Data.{Kind, Array, Set, Map, Attr, Push, Scalar, Datum, Data, scalar, aggregate, more, data_of_list, in_turn}
use Rattle.resp_value.specs.Data as d
use Rattle.resp_value.specs.Values.{datum_of, list_of, pairs_of, pair_data}
use Rattle.resp_value.specs.contracts.value.Value as enum
use Rattle.resp_value.specs.contracts.value.ValuePartialEq.TheImpl as equal
use Rattle.resp_value.specs.contracts.value.ValuePartialEq.TheImpl.Laws as equal_laws
use Rattle.resp_value.specs.declared.value.Value.{Value, Row_of-Value, end_of-Value, more_of-Value, Row_of-PairList-pairs-2, end_of-PairList-pairs-2, more_of-PairList-pairs-2, items-the_row-Value, items_hidden-the_row-Value-0, items-the_row-PairList-pairs-2, items_hidden-the_row-PairList-pairs-2-1}
use Rattle.resp_value.specs.declared.value.Value.TheBlock.{member-Members, member-PairList, hidden-the_row-Value-0, hidden-the_row-PairList-pairs-2-1}
use Rattle.resp_value.specs.declared.value.Value.TheVariants as v
use Rattle.resp_value.specs.declared.value.Members.{Members}
use Rattle.resp_value.specs.declared.value.PairList.{PairList}
use Rattle.resp_value.proofs.DatumOf.{datum_of-Array, datum_of-Set, datum_of-Push, datum_of-Map, datum_of-Attr}

-- the test of this one and any other tells whether their data are the same
abbrev IsToldBy : {A D : Type 0} → (A → A → Bool) → (A → D) → A → Type 0
IsToldBy {A} eq f x = (y : A) → Decides (eq x y) (f x ≡ f y)

-- two tests together
both : (a b : Bool) (P Q : Type 0) → Decides a P → Decides b Q → Decides (a && b) (P × Q)
both true b P Q h k = (λ e. (h.0 refl, k.0 e), λ e. k.1 e.1)
both false b P Q h k = ((λ e. absurd (cc)), λ e. h.1 e.0)

-- a test tells what its fact comes to
through : {b : Bool} {P Q : Type 0} → Decides b P → (P → Q) → (Q → P) → Decides b Q
through h f g = (λ e. f (h.0 e), λ q. h.1 (g q))

-- lists are equal where their elements are
lists : {A D : Type 0} (eq : A → A → Bool) (f : A → D) (xs ys : List A) → AllByRecursion (IsToldBy eq f) xs →
    Decides (pointwise eq xs ys) (map f xs ≡ map f ys)
lists eq f [] [] all = (λ e. refl, λ e. refl)
lists eq f [] (y ∷ ys) all = ((λ e. absurd (cc)), (λ e. absurd (cc)))
lists eq f (x ∷ xs) [] all = ((λ e. absurd (cc)), (λ e. absurd (cc)))
lists eq f (x ∷ xs) (y ∷ ys) all =
    through (both (eq x y) (pointwise eq xs ys) _ _ (all.0 y) (lists eq f xs ys all.1)) (λ e. joined e.0 e.1) parted
  where
    joined : f x ≡ f y → map f xs ≡ map f ys → map f (x ∷ xs) ≡ map f (y ∷ ys)
    joined one others = cc

    parted : map f (x ∷ xs) ≡ map f (y ∷ ys) → (f x ≡ f y) × (map f xs ≡ map f ys)
    parted e = let one : f x ≡ f y = cc in let others : map f xs ≡ map f ys = cc in (one, others)

-- data, keys and values in turn, and those of an attribute are of one list
data_tell_lists : (xs ys : List Datum) → data_of_list xs ≡ data_of_list ys → xs ≡ ys
data_tell_lists [] [] e = refl
data_tell_lists [] (y ∷ ys) e = absurd (cc)
data_tell_lists (x ∷ xs) [] e = absurd (cc)
data_tell_lists (x ∷ xs) (y ∷ ys) e =
    let one : x ≡ y = cc in
    let rest : data_of_list xs ≡ data_of_list ys = cc in
    let others = data_tell_lists xs ys rest in
    cc

turns_tell_pairs : (ps qs : List (Datum × Datum)) → in_turn ps ≡ in_turn qs → ps ≡ qs
turns_tell_pairs [] [] e = refl
turns_tell_pairs [] (q ∷ qs) e = absurd (cc)
turns_tell_pairs (p ∷ ps) [] e = absurd (cc)
turns_tell_pairs (p ∷ ps) (q ∷ qs) e =
    let key : p.0 ≡ q.0 = cc in
    let value : p.1 ≡ q.1 = cc in
    let rest : in_turn ps ≡ in_turn qs = cc in
    let others = turns_tell_pairs ps qs rest in
    let one : p ≡ q = (λ i. (key i, value i)) in
    cc

annotated_tell : (ps qs : List (Datum × Datum)) (x y : Datum) → in_turn ps ++ x ∷ [] ≡ in_turn qs ++ y ∷ [] → (ps ≡ qs) × (x ≡ y)
annotated_tell [] [] x y e = let one : x ≡ y = cc in (refl, one)
annotated_tell [] (q ∷ qs) x y e = absurd (cc)
annotated_tell (p ∷ ps) [] x y e = absurd (cc)
annotated_tell (p ∷ ps) (q ∷ qs) x y e =
    let key : p.0 ≡ q.0 = cc in
    let value : p.1 ≡ q.1 = cc in
    let rest : in_turn ps ++ x ∷ [] ≡ in_turn qs ++ y ∷ [] = cc in
    let others = annotated_tell ps qs x y rest in
    let pairs_rest : ps ≡ qs = others.0 in
    let one : p ≡ q = (λ i. (key i, value i)) in
    let all : p ∷ ps ≡ q ∷ qs = cc in
    (all, others.1)

-- the place of a value's variant among them
abbrev scalar_place : Scalar → ℕ
scalar_place d.Null = 0
scalar_place (d.Bool b) = 1
scalar_place (d.Int i) = 2
scalar_place (d.Simple s) = 3
scalar_place (d.Error s) = 4
scalar_place (d.Double s) = 5
scalar_place (d.Bulk s) = 6
scalar_place (d.BulkError s) = 7
scalar_place (d.Verbatim format s) = 8
scalar_place (d.Big negative digits) = 9

abbrev kind_place : Kind → ℕ
kind_place Array = 10
kind_place Set = 11
kind_place Map = 12
kind_place Attr = 13
kind_place Push = 14

abbrev place : Datum → ℕ
place (scalar s) = scalar_place s
place (aggregate k xs) = kind_place k

-- from this place on each variant's test tells its data, where what it holds is such
abbrev Tells : (Fss : List (List Field)) → Each Bool Fss → (Choice Fss → Datum) → (Choice Fss → Type 0) → ℕ → Type 0
Tells [] each f B n = Unit {0}
Tells (Fs ∷ Fss) each f B n = ((one other : Values Fs) → B (inl one) → Decides (each.0 one other) (f (inl one) ≡ f (inl other))) ×
    ((one : Values Fs) → place (f (inl one)) ≡ n) × Tells Fss each.1 (λ c. f (inr c)) (λ c. B (inr c)) (n + 1)

-- the places of variants rise
later : (Fss : List (List Field)) (each : Each Bool Fss) (f : Choice Fss → Datum) (B : Choice Fss → Type 0) (n : ℕ) → Tells Fss each f B n →
    (c : Choice Fss) → n ≤ place (f c)
later [] each f B n t c = absurd c
later (Fs ∷ Fss) each f B n t (inl one) = omega (arith, t.1 one)
later (Fs ∷ Fss) each f B n t (inr c) = omega (arith, later Fss each.1 (λ c. f (inr c)) (λ c. B (inr c)) (n + 1) t.2 c)

-- two choices of variants are tested by their variants' tests
tells : (Fss : List (List Field)) (each : Each Bool Fss) (f : Choice Fss → Datum) (B : Choice Fss → Type 0) (n : ℕ) → Tells Fss each f B n →
    (c e : Choice Fss) → B c → Decides (by false false Fss each c e) (f c ≡ f e)
tells [] each f B n t c e b = absurd c
tells (Fs ∷ Fss) each f B n t (inl one) (inl other) b = t.0 one other b
tells (Fs ∷ Fss) each f B n t (inl one) (inr e) b =
    ((λ h. absurd (cc)), (λ h. absurd (omega (arith, t.1 one, later Fss each.1 (λ c. f (inr c)) (λ c. B (inr c)) (n + 1) t.2 e, ap place h))))
tells (Fs ∷ Fss) each f B n t (inr c) (inl other) b =
    ((λ h. absurd (cc)), (λ h. absurd (omega (arith, t.1 other, later Fss each.1 (λ c. f (inr c)) (λ c. B (inr c)) (n + 1) t.2 c, ap place h))))
tells (Fs ∷ Fss) each f B n t (inr c) (inr e) b = tells Fss each.1 (λ c. f (inr c)) (λ c. B (inr c)) (n + 1) t.2 c e b

-- what two values are tested by
abbrev eq : Value → Value → Bool
eq = equal.ghosts.eq

abbrev IsTold : Value → Type 0
IsTold x = IsToldBy eq datum_of x

abbrev IsToldPair : Value × Value → Type 0
IsToldPair p = IsToldBy (λ (p : Value × Value) (q : Value × Value). eq p.0 q.0 && eq p.1 q.1) pair_data p

-- each value that this one holds is told
abbrev HoldsTold : Value → Type 0
HoldsTold (v.Array' shape row) = AllByRecursion IsTold (items-the_row-Value _ row)
HoldsTold (v.Set' shape row) = AllByRecursion IsTold (items-the_row-Value _ row)
HoldsTold (v.Push' shape row) = AllByRecursion IsTold (items-the_row-Value _ row)
HoldsTold (v.Map' shape row) = AllByRecursion IsToldPair (items-the_row-PairList-pairs-2 _ row)
HoldsTold (v.Attr' shape row pairs annotated) = AllByRecursion IsToldPair (items-the_row-PairList-pairs-2 _ row) × IsTold annotated
HoldsTold _ = Unit {0}

-- members are told by their test
members_told : (one other : Members) → AllByRecursion IsTold (items-the_row-Value _ (hidden-the_row-Value-0 one.items)) →
    Decides (equal_laws.family member-Members one other) (map datum_of (list_of one) ≡ map datum_of (list_of other))
members_told one other all =
    subst (λ b. Decides b (map datum_of (list_of one) ≡ map datum_of (list_of other)))
    (sym (compared_is _ _ _ _ _ equal.the_step equal_laws.local member-Members one other))
    (lists eq datum_of (list_of one) (list_of other) (subst (AllByRecursion IsTold) (items_hidden-the_row-Value-0 one.items) all))

-- and so are pairs
pairs_told : (one other : PairList) → AllByRecursion IsToldPair (items-the_row-PairList-pairs-2 _ (hidden-the_row-PairList-pairs-2-1 one.pairs)) →
    Decides (equal_laws.family member-PairList one other) (map pair_data (pairs_of one) ≡ map pair_data (pairs_of other))
pairs_told one other all =
    subst (λ b. Decides b (map pair_data (pairs_of one) ≡ map pair_data (pairs_of other)))
    (sym (compared_is _ _ _ _ _ equal.the_step equal_laws.local member-PairList one other))
    (lists (λ p q. eq p.0 q.0 && eq p.1 q.1) pair_data (pairs_of one) (pairs_of other)
    (subst (AllByRecursion IsToldPair) (items_hidden-the_row-PairList-pairs-2-1 one.pairs) all))

-- what the variants are tested by
abbrev tests : Each Bool enum.the_parts
tests = (
  (λ a b. true),
  (
    (λ a b. beq a.0 b.0),
    (
      (λ a b. int_eq a.0 b.0),
      (
        (λ a b. pointwise eqb a.0.text.items b.0.text.items),
        (
          (λ a b. pointwise eqb a.0.text.items b.0.text.items),
          (
            (λ a b. pointwise eqb a.0.text.items b.0.text.items),
            (
              (λ a b. pointwise eqb a.0.bytes.items b.0.bytes.items),
              (
                (λ a b. pointwise eqb a.0.bytes.items b.0.bytes.items),
                (
                  (λ a b. pointwise eqb a.0 b.0 && pointwise eqb a.1.0.bytes.items b.1.0.bytes.items),
                  (
                    (λ a b. beq a.0.negative b.0.negative && pointwise eqb a.0.digits.items b.0.digits.items),
                    (
                      (λ a b. equal_laws.family member-Members a.0 b.0),
                      (
                        (λ a b. equal_laws.family member-Members a.0 b.0),
                        (
                          (λ a b. equal_laws.family member-PairList a.0 b.0),
                          (
                            (λ a b. equal_laws.family member-PairList a.0 b.0 && eq a.1.0.value b.1.0.value),
                            (
                              (λ a b. equal_laws.family member-Members a.0 b.0),
                              tt,
                            ),
                          ),
                        ),
                      ),
                    ),
                  ),
                ),
              ),
            ),
          ),
        ),
      ),
    ),
  ),
)

-- a test tells data by what they are equal to
as_data : {b : Bool} {x x' y y' : Datum} → x ≡ x' → y ≡ y' → Decides b (x' ≡ y') → Decides b (x ≡ y)
as_data one other h = through h (λ e. one ∙ e ∙ sym other) (λ e. sym one ∙ e ∙ other)

-- a test of members tells their aggregates
aggregate_told : {b : Bool} (k : Kind) (xs ys : List Datum) → Decides b (xs ≡ ys) →
    Decides b (aggregate k (data_of_list xs) ≡ aggregate k (data_of_list ys))
aggregate_told k xs ys h = through h (ap (λ zs. aggregate k (data_of_list zs))) (λ e. data_tell_lists xs ys (inside e))
  where
    inside : aggregate k (data_of_list xs) ≡ aggregate k (data_of_list ys) → data_of_list xs ≡ data_of_list ys
    inside e = cc

-- two tests tell data of two parts
parts_told : {A B : Type 0} {p q : Bool} (make : A → B → Datum) (a a' : A) (b b' : B) → Decides p (a ≡ a') → Decides q (b ≡ b') →
    (make a b ≡ make a' b' → (a ≡ a') × (b ≡ b')) → Decides (p && q) (make a b ≡ make a' b')
parts_told {A} {B} {p} {q} make a a' b b' first second parted =
    through (both p q _ _ first second) (λ e. ap (λ z. make z b) e.0 ∙ ap (make a') e.1) parted

-- Each variant's test tells its data.

bool_told : (one other : Bool) → Decides (beq one other) (scalar (d.Bool one) ≡ scalar (d.Bool other))
bool_told one other = through (booleans_Decides one other) (ap (λ b. scalar (d.Bool b))) (λ e. cc)

int_told : (one other : ℤ) → Decides (int_eq one other) (scalar (d.Int one) ≡ scalar (d.Int other))
int_told one other = through (Decides-int_eq one other) (ap (λ i. scalar (d.Int i))) (λ e. cc)

simple_told : (one other : List ℕ) → Decides (pointwise eqb one other) (scalar (d.Simple one) ≡ scalar (d.Simple other))
simple_told one other = through (bytes_decides one other) (ap (λ s. scalar (d.Simple s))) (λ e. cc)

error_told : (one other : List ℕ) → Decides (pointwise eqb one other) (scalar (d.Error one) ≡ scalar (d.Error other))
error_told one other = through (bytes_decides one other) (ap (λ s. scalar (d.Error s))) (λ e. cc)

double_told : (one other : List ℕ) → Decides (pointwise eqb one other) (scalar (d.Double one) ≡ scalar (d.Double other))
double_told one other = through (bytes_decides one other) (ap (λ s. scalar (d.Double s))) (λ e. cc)

bulk_told : (one other : List ℕ) → Decides (pointwise eqb one other) (scalar (d.Bulk one) ≡ scalar (d.Bulk other))
bulk_told one other = through (bytes_decides one other) (ap (λ s. scalar (d.Bulk s))) (λ e. cc)

bulk_error_told : (one other : List ℕ) → Decides (pointwise eqb one other) (scalar (d.BulkError one) ≡ scalar (d.BulkError other))
bulk_error_told one other = through (bytes_decides one other) (ap (λ s. scalar (d.BulkError s))) (λ e. cc)

verbatim_told : (format format' s s' : List ℕ) → Decides (pointwise eqb format format' && pointwise eqb s s')
    (scalar (d.Verbatim format s) ≡ scalar (d.Verbatim format' s'))
verbatim_told format format' s s' =
    parts_told (λ z t. scalar (d.Verbatim z t)) format format' s s' (bytes_decides format format') (bytes_decides s s')
    (λ e. let f : format ≡ format' = cc in let g : s ≡ s' = cc in (f, g))

big_told : (negative negative' : Bool) (digits digits' : List ℕ) → Decides (beq negative negative' && pointwise eqb digits digits')
    (scalar (d.Big negative digits) ≡ scalar (d.Big negative' digits'))
big_told negative negative' digits digits' =
    parts_told (λ z t. scalar (d.Big z t)) negative negative' digits digits' (booleans_Decides negative negative') (bytes_decides digits digits')
    (λ e. let f : negative ≡ negative' = cc in let g : digits ≡ digits' = cc in (f, g))

array_told : (one other : Members) → HoldsTold (v.Array one) →
    Decides (equal_laws.family member-Members one other) (datum_of (v.Array one) ≡ datum_of (v.Array other))
array_told one other holds = as_data (datum_of-Array one) (datum_of-Array other) (aggregate_told Array _ _ (members_told one other holds))

set_told : (one other : Members) → HoldsTold (v.Set one) →
    Decides (equal_laws.family member-Members one other) (datum_of (v.Set one) ≡ datum_of (v.Set other))
set_told one other holds = as_data (datum_of-Set one) (datum_of-Set other) (aggregate_told Set _ _ (members_told one other holds))

push_told : (one other : Members) → HoldsTold (v.Push one) →
    Decides (equal_laws.family member-Members one other) (datum_of (v.Push one) ≡ datum_of (v.Push other))
push_told one other holds = as_data (datum_of-Push one) (datum_of-Push other) (aggregate_told Push _ _ (members_told one other holds))

map_told : (one other : PairList) → HoldsTold (v.Map one) →
    Decides (equal_laws.family member-PairList one other) (datum_of (v.Map one) ≡ datum_of (v.Map other))
map_told one other holds = as_data (datum_of-Map one) (datum_of-Map other)
    (aggregate_told Map _ _ (through (pairs_told one other holds) (ap in_turn) (turns_tell_pairs _ _)))

attr_told : (one other : PairList) (x y : Box Value Global) → HoldsTold (v.Attr one x) →
    Decides (equal_laws.family member-PairList one other && eq x.value y.value) (datum_of (v.Attr one x) ≡ datum_of (v.Attr other y))
attr_told one other x y holds = as_data (datum_of-Attr one x) (datum_of-Attr other y) (aggregate_told Attr _ _
    (through (both _ _ _ _ (pairs_told one other holds.0) (holds.1 y.value)) (λ e. joined e.0 e.1) (annotated_tell _ _ _ _)))
  where
    joined : map pair_data (pairs_of one) ≡ map pair_data (pairs_of other) → datum_of x.value ≡ datum_of y.value →
        in_turn (map pair_data (pairs_of one)) ++ datum_of x.value ∷ [] ≡ in_turn (map pair_data (pairs_of other)) ++ datum_of y.value ∷ []
    joined pairs annotated = ap (λ ps. in_turn ps ++ datum_of x.value ∷ []) pairs ∙ ap (λ z. in_turn (map pair_data (pairs_of other)) ++ z ∷ []) annotated

-- all variants in their order
all_tell : Tells enum.the_parts tests (λ c. datum_of (enum.the_make c)) (λ c. HoldsTold (enum.the_make c)) 0
all_tell = (
  (λ one other b. (λ e. refl, λ e. refl)),
  (λ one. refl),
  (
    (λ one other b. bool_told one.0 other.0),
    (λ one. refl),
    (
      (λ one other b. int_told one.0 other.0),
      (λ one. refl),
      (
        (λ one other b. simple_told one.0.text.items other.0.text.items),
        (λ one. refl),
        (
          (λ one other b. error_told one.0.text.items other.0.text.items),
          (λ one. refl),
          (
            (λ one other b. double_told one.0.text.items other.0.text.items),
            (λ one. refl),
            (
              (λ one other b. bulk_told one.0.bytes.items other.0.bytes.items),
              (λ one. refl),
              (
                (λ one other b. bulk_error_told one.0.bytes.items other.0.bytes.items),
                (λ one. refl),
                (
                  (λ one other b. verbatim_told one.0 other.0 one.1.0.bytes.items other.1.0.bytes.items),
                  (λ one. refl),
                  (
                    (λ one other b. big_told one.0.negative other.0.negative one.0.digits.items other.0.digits.items),
                    (λ one. refl),
                    (
                      (λ one other b. array_told one.0 other.0 b),
                      (λ one. refl),
                      (
                        (λ one other b. set_told one.0 other.0 b),
                        (λ one. refl),
                        (
                          (λ one other b. map_told one.0 other.0 b),
                          (λ one. refl),
                          (
                            (λ one other b. attr_told one.0 other.0 one.1.0 other.1.0 b),
                            (λ one. refl),
                            (
                              (λ one other b. push_told one.0 other.0 b),
                              (λ one. refl),
                              tt,
                            ),
                          ),
                        ),
                      ),
                    ),
                  ),
                ),
              ),
            ),
          ),
        ),
      ),
    ),
  ),
)

-- a value is told where those that it holds are
told_from : (x : Value) → HoldsTold x → IsTold x
told_from x holds y =
    let test = tells enum.the_parts tests (λ c. datum_of (enum.the_make c)) (λ c. HoldsTold (enum.the_make c)) 0 all_tell (enum.as_values x)
    (enum.as_values y) (subst HoldsTold (sym (enum.the_eta x)) holds) in
    subst (λ b. Decides b (datum_of x ≡ datum_of y)) (sym (equal_laws.is x y))
    (as_data (sym (ap datum_of (enum.the_eta x))) (sym (ap datum_of (enum.the_eta y))) test)

-- and a pair where its key and its value are
pair_told : (k x : Value) → IsTold k → IsTold x → IsToldPair (k, x)
pair_told k x hk hx q = through (both (eq k q.0) (eq x q.1) _ _ (hk q.0) (hx q.1)) (λ e. λ i. (e.0 i, e.1 i))
    (λ e. (ap (λ (p : Datum × Datum). p.0) e, ap (λ (p : Datum × Datum). p.1) e))

mutual
  -- each value is told
  told : (x : Value) → IsTold x
  told v.Null = told_from v.Null tt
  told (v.Bool b) = told_from (v.Bool b) tt
  told (v.Int i) = told_from (v.Int i) tt
  told (v.Simple line) = told_from (v.Simple line) tt
  told (v.Error line) = told_from (v.Error line) tt
  told (v.Double line) = told_from (v.Double line) tt
  told (v.Bulk content) = told_from (v.Bulk content) tt
  told (v.BulkError content) = told_from (v.BulkError content) tt
  told (v.Verbatim format content) = told_from (v.Verbatim format content) tt
  told (v.Big digits) = told_from (v.Big digits) tt
  told (v.Array' shape row) = told_from (v.Array' shape row) (all_told row)
  told (v.Set' shape row) = told_from (v.Set' shape row) (all_told row)
  told (v.Map' shape row) = told_from (v.Map' shape row) (all_pairs_told row)
  told (v.Attr' shape row pairs annotated) = told_from (v.Attr' shape row pairs annotated) (all_pairs_told row, told annotated)
  told (v.Push' shape row) = told_from (v.Push' shape row) (all_told row)

  all_told : {m : _} (row : Row_of-Value m) → AllByRecursion IsTold (items-the_row-Value _ row)
  all_told end_of-Value = tt
  all_told (more_of-Value x rest) = (told x, all_told rest)

  all_pairs_told : {m : _} (row : Row_of-PairList-pairs-2 m) → AllByRecursion IsToldPair (items-the_row-PairList-pairs-2 _ row)
  all_pairs_told end_of-PairList-pairs-2 = tt
  all_pairs_told (more_of-PairList-pairs-2 k x rest) = (pair_told k x (told k) (told x), all_pairs_told rest)

-- two values are equal exactly where their data are
pub equal_where_data_are : (one other : Value) → Decides (eq one other) (datum_of one ≡ datum_of other)
equal_where_data_are one other = told one other
