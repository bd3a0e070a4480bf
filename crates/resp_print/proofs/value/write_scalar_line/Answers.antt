use Rattle.std.proofs.Common.{◌≡◌, ◌++◌, ℕ, ℤ, Bool, Result, Ok, Err, OnOk, List, codes, length, refl, ap, subst, sym, ◌∙◌, append_assoc}
use Rattle.resp_value.specs.Data as d
use Rattle.resp_value.specs.Values.{content_bytes, datum_of, double_text, line_text}
use Rattle.resp_value.specs.declared.content.Content.{Content}
use Rattle.resp_value.specs.declared.digits.Digits.{Digits}
use Rattle.resp_value.specs.declared.double.Double.{Double}
use Rattle.resp_value.specs.declared.line.Line.{Line}
use Rattle.resp_value.specs.declared.value.Value.{Value}
use Rattle.resp_value.specs.declared.value.Value.TheVariants as value
use Rattle.resp_print.specs.Kept.{ScalarFor, TextFor}
use Rattle.resp_print.specs.Shown.{count_text, quoted_text, scalar_line_within, shown_part}
use Rattle.resp_print.specs.Written.{WritesText}
use Rattle.resp_print.proofs.Kept.{double_for, text_for, text_of}
use Rattle.resp_print.proofs.value.write_scalar_line.Goals as goal

-- the line of a text, part after part
text_parts : (word quoted number : List ℕ) → (word ++ codes " \"") ++ (quoted ++ (codes "\" " ++ number ++ codes "\n")) ≡
    word ++ codes " \"" ++ quoted ++ codes "\" " ++ number ++ codes "\n"
text_parts word quoted number = simp append_assoc

-- the line of a verbatim string
verbatim_parts : (format quoted number : List ℕ) →
    codes "verbatim \"" ++ (format ++ (codes "\" \"" ++ (quoted ++ (codes "\" " ++ number ++ codes "\n")))) ≡
    codes "verbatim \"" ++ format ++ codes "\" \"" ++ quoted ++ codes "\" " ++ number ++ codes "\n"
verbatim_parts format quoted number = simp append_assoc

same_scalar : (x y : d.Scalar) → d.scalar x ≡ d.scalar y → x ≡ y
same_scalar x y e = cc

pub returns-in-Simple : goal.returns-in-Simple
returns-in-Simple g c = λ s is whole rest for.
    let most = c.args.most in
    let lengths = c.args.lengths.now.now in
    let of_value : d.Simple (line_text c.in-Simple.line) ≡ s = same_scalar _ _ (sym (ap datum_of c.in-Simple.is) ∙ is) in
    let kept = text_for most lengths (d.Simple (line_text c.in-Simple.line)) whole rest (subst (λ z. ScalarFor most lengths z whole rest) (sym of_value) for) in
    let w = text_of whole in
    let printed = c.write_kept_string.ensures w rest (subst (λ z. TextFor most lengths z w rest) (sym c.text.ensures.text) kept.1) in (
      subst (WritesText _ _ _ _ c.write_kept_string.result)
          (text_parts (codes "simple") (quoted_text (shown_part most w)) (count_text most (length w)) ∙ ap (scalar_line_within most) (sym kept.0)) printed.0,
      printed.1,
    )

pub returns-in-Error : goal.returns-in-Error
returns-in-Error g c = λ s is whole rest for.
    let most = c.args.most in
    let lengths = c.args.lengths.now.now in
    let of_value : d.Error (line_text c.in-Error.line) ≡ s = same_scalar _ _ (sym (ap datum_of c.in-Error.is) ∙ is) in
    let kept = text_for most lengths (d.Error (line_text c.in-Error.line)) whole rest (subst (λ z. ScalarFor most lengths z whole rest) (sym of_value) for) in
    let w = text_of whole in
    let printed = c.write_kept_string-in-Error.ensures w rest (subst (λ z. TextFor most lengths z w rest) (sym c.text-in-Error.ensures.text) kept.1) in (
      subst (WritesText _ _ _ _ c.write_kept_string-in-Error.result)
          (text_parts (codes "error") (quoted_text (shown_part most w)) (count_text most (length w)) ∙ ap (scalar_line_within most) (sym kept.0)) printed.0,
      printed.1,
    )

-- what holds anyhow holds of a result that is no error
on_ok : {A E : Type 0} (P : Type 0) (result : Result A E) → P → OnOk result P
on_ok P (Ok x) p = p
on_ok P (Err x) p = tt

pub returns-in-Double : goal.returns-in-Double
returns-in-Double g c = λ s is whole rest for.
    let most = c.args.most in
    let lengths = c.args.lengths.now.now in
    let t = double_text c.in-Double.double in
    let of_value : d.Double t ≡ s = same_scalar _ _ (sym (ap datum_of c.in-Double.is) ∙ is) in
    let kept = double_for most lengths t whole rest (subst (λ z. ScalarFor most lengths z whole rest) (sym of_value) for) in (
      subst (WritesText _ _ _ _ c.write_string.result)
          (text_parts (codes "double") (quoted_text (shown_part most c.text-text.result.now)) (count_text most (length c.text-text.result.now)) ∙
          ap (λ z. scalar_line_within most (d.Double z)) c.text-text.ensures.text ∙ ap (scalar_line_within most) (sym kept.0)) c.write_string.ensures,
      on_ok _ c.write_string.result kept.1,
    )

pub returns-in-Bulk : goal.returns-in-Bulk
returns-in-Bulk g c = λ s is whole rest for.
    let most = c.args.most in
    let lengths = c.args.lengths.now.now in
    let of_value : d.Bulk (content_bytes c.in-Bulk.content) ≡ s = same_scalar _ _ (sym (ap datum_of c.in-Bulk.is) ∙ is) in
    let kept = text_for most lengths (d.Bulk (content_bytes c.in-Bulk.content)) whole rest (subst (λ z. ScalarFor most lengths z whole rest) (sym of_value) for) in
    let w = text_of whole in
    let printed = c.write_kept_string-in-Bulk.ensures w rest (subst (λ z. TextFor most lengths z w rest) (sym c.list.ensures) kept.1) in (
      subst (WritesText _ _ _ _ c.write_kept_string-in-Bulk.result)
          (text_parts (codes "bulk") (quoted_text (shown_part most w)) (count_text most (length w)) ∙ ap (scalar_line_within most) (sym kept.0)) printed.0,
      printed.1,
    )

pub returns-in-BulkError : goal.returns-in-BulkError
returns-in-BulkError g c = λ s is whole rest for.
    let most = c.args.most in
    let lengths = c.args.lengths.now.now in
    let of_value : d.BulkError (content_bytes c.in-BulkError.content) ≡ s = same_scalar _ _ (sym (ap datum_of c.in-BulkError.is) ∙ is) in
    let kept = text_for most lengths (d.BulkError (content_bytes c.in-BulkError.content)) whole rest (subst (λ z. ScalarFor most lengths z whole rest) (sym of_value) for) in
    let w = text_of whole in
    let printed = c.write_kept_string-in-BulkError.ensures w rest (subst (λ z. TextFor most lengths z w rest) (sym c.list-in-BulkError.ensures) kept.1) in (
      subst (WritesText _ _ _ _ c.write_kept_string-in-BulkError.result)
          (text_parts (codes "bulkerror") (quoted_text (shown_part most w)) (count_text most (length w)) ∙ ap (scalar_line_within most) (sym kept.0)) printed.0,
      printed.1,
    )

pub returns-in-Verbatim : goal.returns-in-Verbatim
returns-in-Verbatim g c = λ s is whole rest for.
    let most = c.args.most in
    let lengths = c.args.lengths.now.now in
    let value = d.Verbatim c.in-Verbatim.format (content_bytes c.in-Verbatim.text) in
    let of_value : value ≡ s = same_scalar _ _ (sym (ap datum_of c.in-Verbatim.is) ∙ is) in
    let kept = text_for most lengths value whole rest (subst (λ z. ScalarFor most lengths z whole rest) (sym of_value) for) in
    let w = text_of whole in
    let printed = c.write_verbatim.ensures w rest (subst (λ z. TextFor most lengths z w rest) (sym c.list-in-Verbatim.ensures) kept.1) in (
      subst (WritesText _ _ _ _ c.write_verbatim.result)
          (verbatim_parts (quoted_text c.in-Verbatim.format) (quoted_text (shown_part most w)) (count_text most (length w))
          ∙ ap (scalar_line_within most) (sym kept.0)) printed.0,
      printed.1,
    )

-- the other values have members
has_members : (v : Value) (s : d.Scalar) → datum_of v ≡ d.scalar s → (v ≡ value.Null → ⊥) → ((b : Bool) → v ≡ value.Bool b → ⊥) →
    ((i : ℤ) → v ≡ value.Int i → ⊥) → ((x : Line) → v ≡ value.Simple x → ⊥) → ((x : Line) → v ≡ value.Error x → ⊥) → ((x : Double) → v ≡ value.Double x → ⊥) →
    ((x : Content) → v ≡ value.Bulk x → ⊥) → ((x : Content) → v ≡ value.BulkError x → ⊥) → ((f : List ℕ) (x : Content) → v ≡ value.Verbatim f x → ⊥) →
    ((x : Digits) → v ≡ value.Big x → ⊥) → ⊥
has_members value.Null s e a b i x1 x2 x3 x4 x5 x6 x7 = a refl
has_members (value.Bool y) s e a b i x1 x2 x3 x4 x5 x6 x7 = b y refl
has_members (value.Int y) s e a b i x1 x2 x3 x4 x5 x6 x7 = i y refl
has_members (value.Simple y) s e a b i x1 x2 x3 x4 x5 x6 x7 = x1 y refl
has_members (value.Error y) s e a b i x1 x2 x3 x4 x5 x6 x7 = x2 y refl
has_members (value.Double y) s e a b i x1 x2 x3 x4 x5 x6 x7 = x3 y refl
has_members (value.Bulk y) s e a b i x1 x2 x3 x4 x5 x6 x7 = x4 y refl
has_members (value.BulkError y) s e a b i x1 x2 x3 x4 x5 x6 x7 = x5 y refl
has_members (value.Verbatim f y) s e a b i x1 x2 x3 x4 x5 x6 x7 = x6 f y refl
has_members (value.Big y) s e a b i x1 x2 x3 x4 x5 x6 x7 = x7 y refl
has_members (value.Array' shape row) s e a b i x1 x2 x3 x4 x5 x6 x7 = absurd (cc)
has_members (value.Set' shape row) s e a b i x1 x2 x3 x4 x5 x6 x7 = absurd (cc)
has_members (value.Map' shape row) s e a b i x1 x2 x3 x4 x5 x6 x7 = absurd (cc)
has_members (value.Attr' shape row pairs annotated) s e a b i x1 x2 x3 x4 x5 x6 x7 = absurd (cc)
has_members (value.Push' shape row) s e a b i x1 x2 x3 x4 x5 x6 x7 = absurd (cc)

pub returns-in_default : goal.returns-in_default
returns-in_default g c = λ s is whole rest for.
    let other = c.in_default in
    absurd (has_members c.args.value.now s is other.not-Null other.not-Bool other.not-Int other.not-Simple other.not-Error other.not-Double other.not-Bulk
    other.not-BulkError other.not-Verbatim other.not-Big)
