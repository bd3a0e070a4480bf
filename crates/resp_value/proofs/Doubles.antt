-- The texts of doubles are those that the stages read.
use Rattle.std.proofs.Common.{◌≡◌, ◌⊎◌, inl, inr, ℕ, ◌≤◌, Bool, true, false, ◌&&◌, cond, eqb, Option, None, Some, List, [], ◌∷◌, ◌++◌, length, codes, refl, sym, ap, subst, ◌∙◌, arith, append-nil}
use Rattle.std.specs.Prelude.{nat_le}
use Rattle.std.specs.List.{AllByRecursion}
use Rattle.resp_value.specs.Bytes.{IsByte, IsPlain, IsText, IsLine}
use Rattle.resp_value.specs.Numbers.{IsDigit, IsDigits, Sign, Unsigned, Plus, Minus, sign_text}
use Rattle.resp_value.specs.Doubles.{IsFraction, IsExponent, IsDouble}
use Rattle.resp_value.specs.DoubleStages.{is_digit, digit_or, after_name, after_number, stage_after, stage_needs, and_then, stage_after_all, may_end, completes}
use Rattle.resp_value.specs.Trees.{IsLeaf, line, Double}
use Rattle.resp_value.specs.declared.double_stage.DoubleStage.{DoubleStage}
use Rattle.resp_value.specs.declared.double_stage.DoubleStage.TheVariants as stage
use Rattle.resp_value.proofs.Choices.{if_equal, if_within}
use Rattle.resp_value.proofs.FirstBytes.{all_append}
use Rattle.resp_value.proofs.Splitting.{plain_above}

-- whether a byte is a digit
pub if_digit : (b : ℕ) (P : Bool → Type 0) → (IsDigit b → P true) → ((IsDigit b → ⊥) → P false) → P (is_digit b)
if_digit b P holds fails =
    if_within 48 b (λ x. P (x && nat_le b 57)) (λ low. if_within b 57 P (λ high. holds (low, high)) (λ high. fails (λ d. omega (arith, high, d.1))))
    (λ low. fails (λ d. omega (arith, low, d.0)))

digit_is : (b : ℕ) → IsDigit b → is_digit b ≡ true
digit_is b d = if_digit b (λ x. x ≡ true) (λ is. refl) (λ none. absurd (none d))

-- From a text to its stages.

-- this stage comes after a digit, and stays
abbrev HasDigits : DoubleStage → DoubleStage → Type 0
HasDigits from to = ((b : ℕ) → IsDigit b → stage_after from b ≡ Some to) × ((b : ℕ) → IsDigit b → stage_after to b ≡ Some to)

after_digit : (to : DoubleStage) (other : Option DoubleStage) (b : ℕ) → IsDigit b → digit_or to other b ≡ Some to
after_digit to other b d = ap (λ x. cond x (Some to) other) (digit_is b d)

-- the bytes after a first one
abbrev pub goes : Option DoubleStage → List ℕ → Bool
goes next bs = may_end (and_then next (λ to. stage_after_all to bs))

more_digits : (from to : DoubleStage) → HasDigits from to → (digits rest : List ℕ) → AllByRecursion IsDigit digits →
    completes to (digits ++ rest) ≡ completes to rest
more_digits from to has [] rest p = refl
more_digits from to has (d ∷ ds) rest p = ap (λ next. goes next (ds ++ rest)) (has.1 d p.0) ∙ more_digits from to has ds rest p.1

digits_lead : (from to : DoubleStage) → HasDigits from to → (digits rest : List ℕ) → IsDigits digits → completes from (digits ++ rest) ≡ completes to rest
digits_lead from to has [] rest p = absurd (omega (arith, p.0))
digits_lead from to has (d ∷ ds) rest p = ap (λ next. goes next (ds ++ rest)) (has.0 d p.1.0) ∙ more_digits from to has ds rest p.1.1

digits_end : (from to : DoubleStage) → HasDigits from to → (digits : List ℕ) → IsDigits digits → completes to [] ≡ true → completes from digits ≡ true
digits_end from to has digits p ends = ap (completes from) (sym (append-nil digits)) ∙ digits_lead from to has digits [] p ∙ ends

begun_digits : HasDigits stage.Begun stage.Whole
begun_digits = (λ b d. after_digit stage.Whole _ b d, λ b d. after_digit stage.Whole _ b d)

plus_digits : HasDigits stage.Plus stage.Whole
plus_digits = (λ b d. after_digit stage.Whole _ b d, λ b d. after_digit stage.Whole _ b d)

minus_digits : HasDigits stage.Minus stage.Whole
minus_digits = (λ b d. after_digit stage.Whole _ b d, λ b d. after_digit stage.Whole _ b d)

point_digits : HasDigits stage.Point stage.Fraction
point_digits = (λ b d. after_digit stage.Fraction _ b d, λ b d. after_digit stage.Fraction _ b d)

mark_digits : HasDigits stage.Mark stage.Exponent
mark_digits = (λ b d. after_digit stage.Exponent _ b d, λ b d. after_digit stage.Exponent _ b d)

mark_sign_digits : HasDigits stage.MarkSign stage.Exponent
mark_sign_digits = (λ b d. after_digit stage.Exponent _ b d, λ b d. after_digit stage.Exponent _ b d)

-- the digits of an exponent, with a sign or without
signed_end : (sign : Sign) (digits : List ℕ) → IsDigits digits → completes stage.Mark (sign_text sign ++ digits) ≡ true
signed_end Unsigned digits p = digits_end stage.Mark stage.Exponent mark_digits digits p refl
signed_end Plus digits p = digits_end stage.MarkSign stage.Exponent mark_sign_digits digits p refl
signed_end Minus digits p = digits_end stage.MarkSign stage.Exponent mark_sign_digits digits p refl

-- an exponent may come at this stage, or none
abbrev HasExponent : DoubleStage → Type 0
HasExponent from = (completes from [] ≡ true) × (stage_after from 101 ≡ Some stage.Mark) × (stage_after from 69 ≡ Some stage.Mark)

exponent_ends : (from : DoubleStage) → HasExponent from → (exponent : List ℕ) → IsExponent exponent → completes from exponent ≡ true
exponent_ends from has exponent (inl none) = ap (completes from) none ∙ has.0
exponent_ends from has exponent (inr w) = ap (completes from) w.5 ∙ letter w.0 w.4 ∙ signed_end w.1 w.2 w.3
  where
    letter : (mark : ℕ) → (mark ≡ 101) ⊎ (mark ≡ 69) → completes from (mark ∷ (sign_text w.1 ++ w.2)) ≡ completes stage.Mark (sign_text w.1 ++ w.2)
    letter mark (inl e) = ap (λ m. completes from (m ∷ (sign_text w.1 ++ w.2))) e ∙ ap (λ next. goes next (sign_text w.1 ++ w.2)) has.1
    letter mark (inr e) = ap (λ m. completes from (m ∷ (sign_text w.1 ++ w.2))) e ∙ ap (λ next. goes next (sign_text w.1 ++ w.2)) has.2

fraction_ends : (fraction exponent : List ℕ) → IsFraction fraction → IsExponent exponent → completes stage.Whole (fraction ++ exponent) ≡ true
fraction_ends fraction exponent (inl none) p = ap (λ z. completes stage.Whole (z ++ exponent)) none ∙ exponent_ends stage.Whole (refl, refl, refl) exponent p
fraction_ends fraction exponent (inr w) p = ap (λ z. completes stage.Whole (z ++ exponent)) w.2 ∙
    digits_lead stage.Point stage.Fraction point_digits w.0 exponent w.1 ∙ exponent_ends stage.Fraction (refl, refl, refl) exponent p

whole_ends : (from : DoubleStage) → HasDigits from stage.Whole → (whole rest : List ℕ) → IsDigits whole → completes stage.Whole rest ≡ true →
    completes from (whole ++ rest) ≡ true
whole_ends from has whole rest p ends = digits_lead from stage.Whole has whole rest p ∙ ends

sign_ends : (sign : Sign) (whole rest : List ℕ) → IsDigits whole → completes stage.Whole rest ≡ true →
    completes stage.Begun (sign_text sign ++ (whole ++ rest)) ≡ true
sign_ends Unsigned whole rest p ends = whole_ends stage.Begun begun_digits whole rest p ends
sign_ends Plus whole rest p ends = whole_ends stage.Plus plus_digits whole rest p ends
sign_ends Minus whole rest p ends = whole_ends stage.Minus minus_digits whole rest p ends

-- the stages read the text of a double
pub double_completes : (text : List ℕ) → IsDouble text → completes stage.Begun text ≡ true
double_completes text (inl w) = ap (completes stage.Begun) w.are ∙
    sign_ends w.sign w.whole (w.fraction ++ w.exponent) w.are_digits (fraction_ends w.fraction w.exponent w.is_fraction w.is_exponent)
double_completes text (inr (inl e)) = ap (completes stage.Begun) e
double_completes text (inr (inr (inl e))) = ap (completes stage.Begun) e
double_completes text (inr (inr (inr (inl e)))) = ap (completes stage.Begun) e
double_completes text (inr (inr (inr (inr e)))) = ap (completes stage.Begun) e

-- From the stages to a text.

-- digits, and perhaps a fraction and an exponent
record IsUnsigned (text : List ℕ) : Type 0 where
  whole : List ℕ
  fraction : List ℕ
  exponent : List ℕ
  are_digits : IsDigits whole
  is_fraction : IsFraction fraction
  is_exponent : IsExponent exponent
  are : text ≡ whole ++ (fraction ++ exponent)

-- what may follow the digits before a point
record WholeRest (text : List ℕ) : Type 0 where
  digits : List ℕ
  fraction : List ℕ
  exponent : List ℕ
  are_digits : AllByRecursion IsDigit digits
  is_fraction : IsFraction fraction
  is_exponent : IsExponent exponent
  are : text ≡ digits ++ (fraction ++ exponent)

-- what may follow the digits after a point
record FractionRest (text : List ℕ) : Type 0 where
  digits : List ℕ
  exponent : List ℕ
  are_digits : AllByRecursion IsDigit digits
  is_exponent : IsExponent exponent
  are : text ≡ digits ++ exponent

-- what may follow a point
record PointRest (text : List ℕ) : Type 0 where
  digits : List ℕ
  exponent : List ℕ
  are_digits : IsDigits digits
  is_exponent : IsExponent exponent
  are : text ≡ digits ++ exponent

-- what may follow the letter of an exponent
record MarkRest (text : List ℕ) : Type 0 where
  sign : Sign
  digits : List ℕ
  are_digits : IsDigits digits
  are : text ≡ sign_text sign ++ digits

-- what completes a double at each stage
abbrev Follows : DoubleStage → List ℕ → Type 0
Follows stage.Begun text = IsDouble text
Follows stage.Plus text = IsUnsigned text
Follows stage.Minus text = IsUnsigned text ⊎ (text ≡ codes "inf") ⊎ (text ≡ codes "nan")
Follows stage.Whole text = WholeRest text
Follows stage.Point text = PointRest text
Follows stage.Fraction text = FractionRest text
Follows stage.Mark text = MarkRest text
Follows stage.MarkSign text = IsDigits text
Follows stage.Exponent text = AllByRecursion IsDigit text
Follows stage.I text = text ≡ codes "nf"
Follows stage.In text = text ≡ codes "f"
Follows stage.N text = text ≡ codes "an"
Follows stage.Na text = text ≡ codes "n"
Follows stage.Named text = text ≡ []

-- a digit goes on, or another byte
at_digit : (P : Type 0) (to : DoubleStage) (other : Option DoubleStage) (b : ℕ) (bs : List ℕ) → goes (digit_or to other b) bs ≡ true →
    (IsDigit b → completes to bs ≡ true → P) → (goes other bs ≡ true → P) → P
at_digit P to other b bs e digit none = if_digit b (λ x. goes (cond x (Some to) other) bs ≡ true → P) (λ d h. digit d h) (λ n h. none h) e

-- this byte goes on, or another one
at_byte : (P : Type 0) (x : ℕ) (to : DoubleStage) (other : Option DoubleStage) (b : ℕ) (bs : List ℕ) → goes (cond (eqb b x) (Some to) other) bs ≡ true →
    (b ≡ x → completes to bs ≡ true → P) → (goes other bs ≡ true → P) → P
at_byte P x to other b bs e same none = if_equal b x (λ z. goes (cond z (Some to) other) bs ≡ true → P) (λ is h. same is h) (λ n h. none h) e

-- nothing goes on
no_more : (P : Type 0) (bs : List ℕ) → goes None bs ≡ true → P
no_more P bs e = absurd (cc)

-- a digit before the rest of a number
unsigned_from : (b : ℕ) (bs : List ℕ) → IsDigit b → WholeRest bs → IsUnsigned (b ∷ bs)
unsigned_from b bs d w = record {
  whole = b ∷ w.digits;
  fraction = w.fraction;
  exponent = w.exponent;
  are_digits = (omega arith, (d, w.are_digits));
  is_fraction = w.is_fraction;
  is_exponent = w.is_exponent;
  are = ap (λ z. b ∷ z) w.are;
}

whole_from : (b : ℕ) (bs : List ℕ) → IsDigit b → WholeRest bs → WholeRest (b ∷ bs)
whole_from b bs d w = record {
  digits = b ∷ w.digits;
  fraction = w.fraction;
  exponent = w.exponent;
  are_digits = (d, w.are_digits);
  is_fraction = w.is_fraction;
  is_exponent = w.is_exponent;
  are = ap (λ z. b ∷ z) w.are;
}

signed_from : (sign : Sign) (text : List ℕ) → IsUnsigned text → IsDouble (sign_text sign ++ text)
signed_from sign text w = inl (record {
  sign = sign;
  whole = w.whole;
  fraction = w.fraction;
  exponent = w.exponent;
  are_digits = w.are_digits;
  is_fraction = w.is_fraction;
  is_exponent = w.is_exponent;
  are = ap (λ z. sign_text sign ++ z) w.are;
})

minus_from : (text : List ℕ) → IsUnsigned text ⊎ (text ≡ codes "inf") ⊎ (text ≡ codes "nan") → IsDouble (45 ∷ text)
minus_from text (inl w) = signed_from Minus text w
minus_from text (inr (inl e)) = inr (inr (inl (ap (λ z. 45 ∷ z) e)))
minus_from text (inr (inr e)) = inr (inr (inr (inr (ap (λ z. 45 ∷ z) e))))

exponent_from : (mark : ℕ) (bs : List ℕ) → (mark ≡ 101) ⊎ (mark ≡ 69) → MarkRest bs → IsExponent (mark ∷ bs)
exponent_from mark bs letter w = inr (mark, w.sign, w.digits, w.are_digits, letter, ap (λ z. mark ∷ z) w.are)

only_exponent : (text : List ℕ) → IsExponent text → WholeRest text
only_exponent text p = record {
  digits = [];
  fraction = [];
  exponent = text;
  are_digits = tt;
  is_fraction = inl refl;
  is_exponent = p;
  are = refl;
}

fraction_from : (b : ℕ) (bs : List ℕ) → b ≡ 46 → PointRest bs → WholeRest (b ∷ bs)
fraction_from b bs is w = record {
  digits = [];
  fraction = 46 ∷ w.digits;
  exponent = w.exponent;
  are_digits = tt;
  is_fraction = inr (w.digits, w.are_digits, refl);
  is_exponent = w.is_exponent;
  are = ap (λ z. z ∷ bs) is ∙ ap (λ z. 46 ∷ z) w.are;
}

exponent_alone : (text : List ℕ) → IsExponent text → FractionRest text
exponent_alone text p = record { digits = []; exponent = text; are_digits = tt; is_exponent = p; are = refl }

sign_from : (sign : Sign) (bs : List ℕ) → IsDigits bs → MarkRest (sign_text sign ++ bs)
sign_from sign bs p = record { sign = sign; digits = bs; are_digits = p; are = refl }

-- a byte that is this one, before these
cons_is : (b x : ℕ) (bs cs : List ℕ) → b ≡ x → bs ≡ cs → b ∷ bs ≡ x ∷ cs
cons_is b x bs cs e f = cc

-- the letter of an exponent, or nothing more
at_letter : (P : Type 0) (b : ℕ) (bs : List ℕ) → goes (after_number b) bs ≡ true → ((b ≡ 101) ⊎ (b ≡ 69) → completes stage.Mark bs ≡ true → P) → P
at_letter P b bs e letter = at_byte P 101 stage.Mark _ b bs e (λ is h. letter (inl is) h)
    (λ h. at_byte P 69 stage.Mark None b bs h (λ is k. letter (inr is) k) (λ k. no_more P bs k))

-- the first letter of a name, or nothing more
at_name : (P : Type 0) (b : ℕ) (bs : List ℕ) → goes (after_name b) bs ≡ true → (b ≡ 105 → completes stage.I bs ≡ true → P) →
    (b ≡ 110 → completes stage.N bs ≡ true → P) → P
at_name P b bs e i n = at_byte P 105 stage.I _ b bs e i (λ h. at_byte P 110 stage.N None b bs h n (λ k. no_more P bs k))

not_yet : (P : Type 0) → false ≡ true → P
not_yet P e = absurd (cc)

-- what the stages read completes a double
reads_back : (from : DoubleStage) (text : List ℕ) → completes from text ≡ true → Follows from text
reads_back stage.Begun [] e = not_yet _ e
reads_back stage.Plus [] e = not_yet _ e
reads_back stage.Minus [] e = not_yet _ e
reads_back stage.Whole [] e = only_exponent [] (inl refl)
reads_back stage.Point [] e = not_yet _ e
reads_back stage.Fraction [] e = exponent_alone [] (inl refl)
reads_back stage.Mark [] e = not_yet _ e
reads_back stage.MarkSign [] e = not_yet _ e
reads_back stage.Exponent [] e = tt
reads_back stage.I [] e = not_yet _ e
reads_back stage.In [] e = not_yet _ e
reads_back stage.N [] e = not_yet _ e
reads_back stage.Na [] e = not_yet _ e
reads_back stage.Named [] e = refl
reads_back stage.Begun (b ∷ bs) e = at_digit (IsDouble (b ∷ bs)) stage.Whole _ b bs e
    (λ d h. signed_from Unsigned (b ∷ bs) (unsigned_from b bs d (reads_back stage.Whole bs h)))
    (λ h. at_byte (IsDouble (b ∷ bs)) 43 stage.Plus _ b bs h
    (λ is k. subst (λ z. IsDouble (z ∷ bs)) (sym is) (signed_from Plus bs (reads_back stage.Plus bs k)))
    (λ k. at_byte (IsDouble (b ∷ bs)) 45 stage.Minus _ b bs k
    (λ is l. subst (λ z. IsDouble (z ∷ bs)) (sym is) (minus_from bs (reads_back stage.Minus bs l)))
    (λ l. at_name (IsDouble (b ∷ bs)) b bs l
    (λ is m. inr (inl (cons_is b 105 bs (codes "nf") is (reads_back stage.I bs m))))
    (λ is m. inr (inr (inr (inl (cons_is b 110 bs (codes "an") is (reads_back stage.N bs m)))))))))
reads_back stage.Plus (b ∷ bs) e = at_digit (IsUnsigned (b ∷ bs)) stage.Whole None b bs e (λ d h. unsigned_from b bs d (reads_back stage.Whole bs h))
    (λ h. no_more _ bs h)
reads_back stage.Minus (b ∷ bs) e = at_digit (Follows stage.Minus (b ∷ bs)) stage.Whole _ b bs e
    (λ d h. inl (unsigned_from b bs d (reads_back stage.Whole bs h)))
    (λ h. at_name (Follows stage.Minus (b ∷ bs)) b bs h (λ is m. inr (inl (cons_is b 105 bs (codes "nf") is (reads_back stage.I bs m))))
    (λ is m. inr (inr (cons_is b 110 bs (codes "an") is (reads_back stage.N bs m)))))
reads_back stage.Whole (b ∷ bs) e = at_digit (WholeRest (b ∷ bs)) stage.Whole _ b bs e (λ d h. whole_from b bs d (reads_back stage.Whole bs h))
    (λ h. at_byte (WholeRest (b ∷ bs)) 46 stage.Point _ b bs h (λ is k. fraction_from b bs is (reads_back stage.Point bs k))
    (λ k. at_letter (WholeRest (b ∷ bs)) b bs k (λ letter l. only_exponent (b ∷ bs) (exponent_from b bs letter (reads_back stage.Mark bs l)))))
reads_back stage.Point (b ∷ bs) e = at_digit (PointRest (b ∷ bs)) stage.Fraction None b bs e
    (λ d h. let w = reads_back stage.Fraction bs h in
    record {
      digits = b ∷ w.digits;
      exponent = w.exponent;
      are_digits = (omega arith, (d, w.are_digits));
      is_exponent = w.is_exponent;
      are = ap (λ z. b ∷ z) w.are;
    })
    (λ h. no_more _ bs h)
reads_back stage.Fraction (b ∷ bs) e = at_digit (FractionRest (b ∷ bs)) stage.Fraction _ b bs e
    (λ d h. let w = reads_back stage.Fraction bs h in
    record {
      digits = b ∷ w.digits;
      exponent = w.exponent;
      are_digits = (d, w.are_digits);
      is_exponent = w.is_exponent;
      are = ap (λ z. b ∷ z) w.are;
    })
    (λ h. at_letter (FractionRest (b ∷ bs)) b bs h (λ letter l. exponent_alone (b ∷ bs) (exponent_from b bs letter (reads_back stage.Mark bs l))))
reads_back stage.Mark (b ∷ bs) e = at_digit (MarkRest (b ∷ bs)) stage.Exponent _ b bs e
    (λ d h. sign_from Unsigned (b ∷ bs) (omega arith, (d, reads_back stage.Exponent bs h)))
    (λ h. at_byte (MarkRest (b ∷ bs)) 43 stage.MarkSign _ b bs h
    (λ is k. subst (λ z. MarkRest (z ∷ bs)) (sym is) (sign_from Plus bs (reads_back stage.MarkSign bs k)))
    (λ k. at_byte (MarkRest (b ∷ bs)) 45 stage.MarkSign None b bs k
    (λ is l. subst (λ z. MarkRest (z ∷ bs)) (sym is) (sign_from Minus bs (reads_back stage.MarkSign bs l)))
    (λ l. no_more _ bs l)))
reads_back stage.MarkSign (b ∷ bs) e = at_digit (IsDigits (b ∷ bs)) stage.Exponent None b bs e
    (λ d h. (omega arith, (d, reads_back stage.Exponent bs h))) (λ h. no_more _ bs h)
reads_back stage.Exponent (b ∷ bs) e = at_digit (AllByRecursion IsDigit (b ∷ bs)) stage.Exponent None b bs e
    (λ d h. (d, reads_back stage.Exponent bs h)) (λ h. no_more _ bs h)
reads_back stage.I (b ∷ bs) e = at_byte (b ∷ bs ≡ codes "nf") 110 stage.In None b bs e
    (λ is h. cons_is b 110 bs (codes "f") is (reads_back stage.In bs h)) (λ h. no_more _ bs h)
reads_back stage.In (b ∷ bs) e = at_byte (b ∷ bs ≡ codes "f") 102 stage.Named None b bs e
    (λ is h. cons_is b 102 bs [] is (reads_back stage.Named bs h)) (λ h. no_more _ bs h)
reads_back stage.N (b ∷ bs) e = at_byte (b ∷ bs ≡ codes "an") 97 stage.Na None b bs e
    (λ is h. cons_is b 97 bs (codes "n") is (reads_back stage.Na bs h)) (λ h. no_more _ bs h)
reads_back stage.Na (b ∷ bs) e = at_byte (b ∷ bs ≡ codes "n") 110 stage.Named None b bs e
    (λ is h. cons_is b 110 bs [] is (reads_back stage.Named bs h)) (λ h. no_more _ bs h)
reads_back stage.Named (b ∷ bs) e = no_more _ bs e

-- a text that the stages read is that of a double
pub completes_double : (text : List ℕ) → completes stage.Begun text ≡ true → IsDouble text
completes_double text e = reads_back stage.Begun text e

-- One text after another.

-- more bytes go on from the stage after the first
pub stages-append : (from : DoubleStage) (a b : List ℕ) → stage_after_all from (a ++ b) ≡ and_then (stage_after_all from a) (λ to. stage_after_all to b)
stages-append from [] b = refl
stages-append from (c ∷ a) b = case (stage_after from c) (λ to. stages-append to a b)
  where
    case : (next : Option DoubleStage) → ((to : DoubleStage) → stage_after_all to (a ++ b) ≡ and_then (stage_after_all to a) (λ z. stage_after_all z b)) →
        and_then next (λ to. stage_after_all to (a ++ b)) ≡ and_then (and_then next (λ to. stage_after_all to a)) (λ to. stage_after_all to b)
    case None h = refl
    case (Some to) h = h to

-- what completes the stage of a text completes the text
pub completes_from : (from to : DoubleStage) (a b : List ℕ) → stage_after_all from a ≡ Some to → completes from (a ++ b) ≡ completes to b
completes_from from to a b e = ap may_end (stages-append from a b ∙ ap (λ next. and_then next (λ z. stage_after_all z b)) e)

-- the least bytes that complete each stage
abbrev pub completion : DoubleStage → List ℕ
completion stage.Whole = []
completion stage.Fraction = []
completion stage.Exponent = []
completion stage.Named = []
completion stage.I = codes "nf"
completion stage.In = codes "f"
completion stage.N = codes "an"
completion stage.Na = codes "n"
completion _ = codes "0"

pub completion_completes : (from : DoubleStage) → completes from (completion from) ≡ true
completion_completes stage.Begun = refl
completion_completes stage.Plus = refl
completion_completes stage.Minus = refl
completion_completes stage.Whole = refl
completion_completes stage.Point = refl
completion_completes stage.Fraction = refl
completion_completes stage.Mark = refl
completion_completes stage.MarkSign = refl
completion_completes stage.Exponent = refl
completion_completes stage.I = refl
completion_completes stage.In = refl
completion_completes stage.N = refl
completion_completes stage.Na = refl
completion_completes stage.Named = refl

pub length-completion : (from : DoubleStage) → length (completion from) ≡ stage_needs from
length-completion stage.Begun = refl
length-completion stage.Plus = refl
length-completion stage.Minus = refl
length-completion stage.Whole = refl
length-completion stage.Point = refl
length-completion stage.Fraction = refl
length-completion stage.Mark = refl
length-completion stage.MarkSign = refl
length-completion stage.Exponent = refl
length-completion stage.I = refl
length-completion stage.In = refl
length-completion stage.N = refl
length-completion stage.Na = refl
length-completion stage.Named = refl

some_more : (from : DoubleStage) (text : List ℕ) → completes from text ≡ true → stage_needs from ≡ 1 → 1 ≤ length text
some_more from [] e one = absurd (let wrong : false ≡ true = ap (λ n. eqb n 0) (sym one) ∙ e in cc)
some_more from (b ∷ bs) e one = omega arith

-- nothing shorter completes it
pub needs_least : (from : DoubleStage) (text : List ℕ) → completes from text ≡ true → stage_needs from ≤ length text
needs_least stage.Begun text e = some_more stage.Begun text e refl
needs_least stage.Plus text e = some_more stage.Plus text e refl
needs_least stage.Minus text e = some_more stage.Minus text e refl
needs_least stage.Whole text e = omega arith
needs_least stage.Point text e = some_more stage.Point text e refl
needs_least stage.Fraction text e = omega arith
needs_least stage.Mark text e = some_more stage.Mark text e refl
needs_least stage.MarkSign text e = some_more stage.MarkSign text e refl
needs_least stage.Exponent text e = omega arith
needs_least stage.I text e = let f : text ≡ codes "nf" = reads_back stage.I text e in omega (arith, ap length f)
needs_least stage.In text e = some_more stage.In text e refl
needs_least stage.N text e = let f : text ≡ codes "an" = reads_back stage.N text e in omega (arith, ap length f)
needs_least stage.Na text e = some_more stage.Na text e refl
needs_least stage.Named text e = omega arith

-- The bytes of doubles.

-- what holds of digits and of the other bytes of doubles
record HoldsInDoubles (P : ℕ → Type 0) : Type 0 where
  digit : (b : ℕ) → IsDigit b → P b
  others : AllByRecursion P (codes "+-.eEinfa")

all_digits : (P : ℕ → Type 0) → HoldsInDoubles P → (digits : List ℕ) → AllByRecursion IsDigit digits → AllByRecursion P digits
all_digits P h [] p = tt
all_digits P h (d ∷ ds) p = (h.digit d p.0, all_digits P h ds p.1)

all_sign : (P : ℕ → Type 0) → HoldsInDoubles P → (sign : Sign) → AllByRecursion P (sign_text sign)
all_sign P h Unsigned = tt
all_sign P h Plus = (h.others.0, tt)
all_sign P h Minus = (h.others.1.0, tt)

all_fraction : (P : ℕ → Type 0) → HoldsInDoubles P → (text : List ℕ) → IsFraction text → AllByRecursion P text
all_fraction P h text (inl e) = subst (AllByRecursion P) (sym e) tt
all_fraction P h text (inr w) = subst (AllByRecursion P) (sym w.2) (h.others.1.1.0, all_digits P h w.0 w.1.1)

all_exponent : (P : ℕ → Type 0) → HoldsInDoubles P → (text : List ℕ) → IsExponent text → AllByRecursion P text
all_exponent P h text (inl e) = subst (AllByRecursion P) (sym e) tt
all_exponent P h text (inr w) = subst (AllByRecursion P) (sym w.5)
    (letter w.0 w.4, all_append P (sign_text w.1) w.2 (all_sign P h w.1) (all_digits P h w.2 w.3.1))
  where
    letter : (mark : ℕ) → (mark ≡ 101) ⊎ (mark ≡ 69) → P mark
    letter mark (inl e) = subst P (sym e) h.others.1.1.1.0
    letter mark (inr e) = subst P (sym e) h.others.1.1.1.1.0

all_of_double : (P : ℕ → Type 0) → HoldsInDoubles P → (text : List ℕ) → IsDouble text → AllByRecursion P text
all_of_double P h text (inl w) = subst (AllByRecursion P) (sym w.are) (all_append P (sign_text w.sign) (w.whole ++ (w.fraction ++ w.exponent))
    (all_sign P h w.sign) (all_append P w.whole (w.fraction ++ w.exponent) (all_digits P h w.whole w.are_digits.1)
    (all_append P w.fraction w.exponent (all_fraction P h w.fraction w.is_fraction) (all_exponent P h w.exponent w.is_exponent))))
all_of_double P h text (inr (inl e)) = subst (AllByRecursion P) (sym e) (h.others.1.1.1.1.1.0, (h.others.1.1.1.1.1.1.0, (h.others.1.1.1.1.1.1.1.0, tt)))
all_of_double P h text (inr (inr (inl e))) = subst (AllByRecursion P) (sym e)
    (h.others.1.0, (h.others.1.1.1.1.1.0, (h.others.1.1.1.1.1.1.0, (h.others.1.1.1.1.1.1.1.0, tt))))
all_of_double P h text (inr (inr (inr (inl e)))) = subst (AllByRecursion P) (sym e)
    (h.others.1.1.1.1.1.1.0, (h.others.1.1.1.1.1.1.1.1.0, (h.others.1.1.1.1.1.1.0, tt)))
all_of_double P h text (inr (inr (inr (inr e)))) = subst (AllByRecursion P) (sym e)
    (h.others.1.0, (h.others.1.1.1.1.1.1.0, (h.others.1.1.1.1.1.1.1.1.0, (h.others.1.1.1.1.1.1.0, tt))))

-- a double has no CR or LF
pub double_is_line : (text : List ℕ) → IsDouble text → IsLine text
double_is_line = all_of_double IsPlain (record {
  digit = λ b d. plain_above b (omega (arith, d.0));
  others = (
    plain_above 43 (omega arith),
    (
      plain_above 45 (omega arith),
      (
        plain_above 46 (omega arith),
        (
          plain_above 101 (omega arith),
          (
            plain_above 69 (omega arith),
            (
              plain_above 105 (omega arith),
              (
                plain_above 110 (omega arith),
                (plain_above 102 (omega arith), (plain_above 97 (omega arith), tt)),
              ),
            ),
          ),
        ),
      ),
    ),
  );
})

-- a double is bytes
pub double_is_text : (text : List ℕ) → IsDouble text → IsText text
double_is_text = all_of_double IsByte (record {
  digit = λ b d. omega (arith, d.1);
  others = (
    omega arith,
    (omega arith, (omega arith, (omega arith, (omega arith, (omega arith, (omega arith, (omega arith, (omega arith, tt)))))))),
  );
})

-- a double is a leaf of the grammar
pub is_double_leaf : (text : List ℕ) → IsDouble text → IsLeaf (line Double text)
is_double_leaf text p = (double_is_line text p, double_is_text text p, p)
