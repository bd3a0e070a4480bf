-- Words that are marked as keys.
use Rattle.std.proofs.Common.{◌≡◌, ◌∙◌, ℕ, zero, suc, ◌+◌, ◌-◌, ◌%◌, ◌<◌, Bool, true, false, List, [], ◌∷◌, length, get_or, refl, ap, arith}
use Rattle.std.specs.Prelude.{if◌then◌else◌}
use Rattle.std.specs.Bool.{Decides}
use Rattle.std.proofs.lemmas.Bool.Decides.{Decides-and, Decides-at, Decides-eqb, Decides-like, Decides-ltb, Decides-or}
use Rattle.resp_commands.specs.declared.command.Keys.{Keys}
use Rattle.resp_commands.specs.declared.keys.KeyPlaces.{KeyPlaces}
use Rattle.resp_commands.specs.declared.keys.Places.{Places}
use Rattle.resp_commands.specs.Keys.{AreKeys, IsAmong, IsAmongAny}
use Rattle.resp_commands.specs.KeyWords.{AreKeyWords, is_among, is_among_any, keys_after, marked}

-- the marks of this many words after a place
abbrev pub marks_after : KeyPlaces → ℕ → ℕ → List Bool
marks_after places place zero = []
marks_after places place (suc count) = is_among_any places (place + 1) ∷ marks_after places (place + 1) count

pub count_marks : (places : KeyPlaces) (place count : ℕ) → length (marks_after places place count) ≡ count
count_marks places place zero = refl
count_marks places place (suc count) = ap suc (count_marks places (place + 1) count)

one_mark : (places : KeyPlaces) (place count index : ℕ) → index < count →
    get_or (marks_after places place count) index false ≡ is_among_any places (place + (index + 1))
one_mark places place zero index less = absurd (omega arith)
one_mark places place (suc count) zero less = refl
one_mark places place (suc count) (suc index) less =
    one_mark places (place + 1) count index (omega arith) ∙ ap (is_among_any places) (omega arith)

by_mark : (b : Bool) (word : List ℕ) (xs ys : List (List ℕ)) → xs ≡ ys → (if b then word ∷ xs else xs) ≡ (if b then word ∷ ys else ys)
by_mark true word xs ys same = ap (λ zs. word ∷ zs) same
by_mark false word xs ys same = same

all_marked : (places : KeyPlaces) (place : ℕ) (words : List (List ℕ)) →
    keys_after places place words ≡ marked (marks_after places place (length words)) words
all_marked places place [] = refl
all_marked places place (word ∷ words) = by_mark (is_among_any places (place + 1)) word _ _ (all_marked places (place + 1) words)

among_decides : (places : Places) (place : ℕ) → Decides (is_among places place) (IsAmong places place)
among_decides places place =
    Decides-like (is_among places place)
    (λ h. record { above = h.0.0.0; within = omega (arith, h.0.0.1); some = h.0.1; spaced = h.1 })
    (λ h. (((h.above, omega (arith, h.within)), h.some), h.spaced))
    (Decides-and _ _ (Decides-and _ _ (Decides-and _ _ (Decides-ltb places.after place) (Decides-ltb place (places.last + 1)))
    (Decides-ltb 0 places.step)) (Decides-eqb ((place - (places.after + 1)) % places.step) 0))

any_decides : (places : KeyPlaces) (place : ℕ) → Decides (is_among_any places place) (IsAmongAny places place)
any_decides places place =
    Decides-or _ _ (among_decides places.fixed place)
    (Decides-or _ _ (among_decides places.further place) (among_decides places.other place))

pub key_words : (keys : Keys) (arguments : List (List ℕ)) (places : KeyPlaces) → AreKeys keys arguments places →
    AreKeyWords keys arguments (keys_after places 0 arguments)
key_words keys arguments places are = record {
  marks = marks_after places 0 (length arguments);
  count = count_marks places 0 (length arguments);
  each = λ index less.
      Decides-at _ (is_among_any places (index + 1)) (one_mark places 0 (length arguments) index less ∙ ap (is_among_any places) (omega arith))
      (Decides-like (is_among_any places (index + 1)) (are (index + 1)).0 (are (index + 1)).1 (any_decides places (index + 1)));
  all = all_marked places 0 arguments;
}
