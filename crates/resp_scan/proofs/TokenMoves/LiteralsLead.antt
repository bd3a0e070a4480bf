-- Nulls and truth values.
use Rattle.std.specs.Prelude.{Bool, true, false}
use Rattle.std.proofs.Common.{◌≡◌, inl, inr, ℕ, ◌<◌, List, [], ◌∷◌, ◌++◌, refl, sym, ap, subst, ◌∙◌, arith}
use Rattle.resp_value.specs.Bytes.{IsLine}
use Rattle.resp_value.specs.Rules.{Rules, Grammar}
use Rattle.resp_value.specs.LocalRules.{LeafKeeps, NodeKeeps}
use Rattle.resp_value.specs.Trees.{leaf, null, truth, NullForm, BulkNull, ArrayNull, null_line, truth_line}
use Rattle.resp_value.specs.declared.version.Version.TheVariants.{Two}
use Rattle.resp_fronts.specs.Events.{Event}
use Rattle.resp_fronts.specs.Events as e
use Rattle.resp_fronts.proofs.FirstLines.CountRows.{CompletesUnder}
use Rattle.resp_fronts.proofs.Tokens.BegunFronts.{IsBegunBy}
use Rattle.resp_fronts.proofs.Refusals.BrokenLines.{null_begun_broken, null_broken, null_short, truth_begun_broken, truth_broken, truth_short, line_broken}
use Rattle.resp_fronts.proofs.Tokens.LineTokens.{line_begun, returned_begun, returned_broken, returned_whole, line_of_broken}
use Rattle.resp_fronts.proofs.Tokens.NumberTokens.{null_begun, null_token_line, truth_begun, truth_token_line}
use Rattle.resp_fronts.specs.Tokens.{IsLineOf, IsReturned}
use Rattle.resp_scan.specs.Machine.Tokens as k
use Rattle.resp_scan.specs.Machine.Tokens.{Go, Give, Refuse, Place, AtBool, AtBoolCr, AtBoolLf, AtNullCr, AtNullLf, AtNullOne, at, at_boundary}
use Rattle.resp_scan.specs.Kinds.{rules_of}
use Rattle.resp_scan.specs.Machine.Beginnings as b
use Rattle.resp_scan.specs.Machine.Beginnings.{IsNullBegun, NullLine, NullReturned}
use Rattle.resp_scan.specs.Machine.Standing.{Leads, StandsAfter}
use Rattle.resp_scan.proofs.TokenMoves.Moves.{Ends, goes, value_ends, ALead}
use Rattle.resp_scan.proofs.TokenMoves.ByteTests.{by_byte, wants_leads}

-- Nulls.

-- a null's first two bytes
pub null_first_row : (r : Rules) (level : ℕ) (bytes : List ℕ) → IsNullBegun bytes → IsBegunBy r level bytes 3
null_first_row r level bytes (inl is) = subst (λ z. IsBegunBy r level z 3) (sym is)
    (null_begun r BulkNull level 36 refl (omega arith) (λ is_two e. absurd (cc)))
null_first_row r level bytes (inr is) = subst (λ z. IsBegunBy r level z 3) (sym is)
    (null_begun r ArrayNull level 42 refl (omega arith) (λ is_two e. absurd (cc)))

mark_line : (first : ℕ) → (first ≡ 13 → ⊥) → (first ≡ 10 → ⊥) → IsLine (first ∷ 45 ∷ [])
mark_line first p q = ((p, q), ((λ z. omega arith, λ z. omega arith), tt))

begun_dead : (r : Rules) (level first byte : ℕ) (bytes rest : List ℕ) (form : NullForm) → null_line form ≡ first ∷ 45 ∷ 49 ∷ [] → 13 < first → (byte ≡ 49 → ⊥) →
    bytes ≡ first ∷ 45 ∷ [] → CompletesUnder r Grammar level bytes (byte ∷ rest) → ⊥
begun_dead r level first byte bytes rest form is above other e c =
    line_broken (LeafKeeps r Grammar) (NodeKeeps r Grammar) level (first ∷ 45 ∷ []) rest byte (mark_line first (λ z. omega arith) (λ z. omega arith))
    (null_short form first is) (null_begun_broken form first byte is other) (subst (λ z. CompletesUnder r Grammar level z (byte ∷ rest)) e c)

null_first_dead : (r : Rules) (level byte : ℕ) (bytes rest : List ℕ) → (byte ≡ 49 → ⊥) → IsNullBegun bytes →
    CompletesUnder r Grammar level bytes (byte ∷ rest) → ⊥
null_first_dead r level byte bytes rest other (inl is) c = begun_dead r level 36 byte bytes rest BulkNull refl (omega arith) other is c
null_first_dead r level byte bytes rest other (inr is) c = begun_dead r level 42 byte bytes rest ArrayNull refl (omega arith) other is c

null_whole : (r : Rules) (level : ℕ) (bytes : List ℕ) (shown : List Event) → shown ≡ [] → IsNullBegun bytes → NullLine r level (bytes ++ 49 ∷ []) shown
null_whole r level bytes shown none (inl is) = record {
  form = BulkNull;
  token =
      subst (λ z. IsLineOf r (null BulkNull) level (z ++ 49 ∷ [])) (sym is) (null_token_line r BulkNull level (λ is_two p. absurd (cc)));
  told = none;
}
null_whole r level bytes shown none (inr is) = record {
  form = ArrayNull;
  token =
      subst (λ z. IsLineOf r (null ArrayNull) level (z ++ 49 ∷ [])) (sym is) (null_token_line r ArrayNull level (λ is_two p. absurd (cc)));
  told = none;
}

-- every byte after `$-` or `*-`
pub null_one_leads : (s : Place) → ALead (at s AtNullOne)
null_one_leads s used byte front es is_byte c w =
    let r = rules_of s in
    wants_leads (at s AtNullOne) (b.TokenHas r AtNullOne) front es 3 byte 49 (Go (at s AtNullCr)) w
    (λ level bytes shown i t. null_first_row r level bytes t.0)
    (λ other level bytes rest shown t dead. null_first_dead r level byte bytes rest other t.0 dead)
    (λ is. subst (λ z. StandsAfter (at s AtNullCr) (front ++ z ∷ []) es) (sym is)
    (goes r (b.TokenHas r AtNullOne) (NullLine r) s.frames front (49 ∷ []) es w (λ level bytes shown i t. null_whole r level bytes shown t.1 t.0)))

null_returns : (r : Rules) (level : ℕ) (bytes : List ℕ) (shown : List Event) → NullLine r level bytes shown → NullReturned r level (bytes ++ 13 ∷ []) shown
null_returns r level bytes shown w = record { form = w.form; returned = record { begun = bytes; line_of = w.token; returned = refl }; told = w.told }

-- every byte after the line of a null
pub null_cr_leads : (s : Place) → ALead (at s AtNullCr)
null_cr_leads s used byte front es is_byte c w =
    let r = rules_of s in
    wants_leads (at s AtNullCr) (NullLine r) front es 2 byte 13 (Go (at s AtNullLf)) w
    (λ level bytes shown i t. line_begun r (null t.form) level bytes t.token)
    (λ other level bytes rest shown t dead. line_of_broken r (null t.form) level bytes rest byte other (null_broken t.form byte) t.token dead)
    (λ is. subst (λ z. StandsAfter (at s AtNullLf) (front ++ z ∷ []) es) (sym is)
    (goes r (NullLine r) (NullReturned r) s.frames front (13 ∷ []) es w (λ level bytes shown i t. null_returns r level bytes shown t)))

null_ends : (r : Rules) (level : ℕ) (bytes : List ℕ) (shown : List Event) → NullReturned r level bytes shown →
    Ends r level (bytes ++ 10 ∷ []) (shown ++ e.Null ∷ [])
null_ends r level bytes shown w = record {
  tree = leaf (null w.form);
  is_tree = w.returned.line_of.is_leaf;
  keep = w.returned.line_of.keeps;
  whole =
      returned_whole r (null w.form) level bytes w.returned;
  told = λ from. ap (λ z. z ++ e.Null ∷ []) (sym w.told);
}

-- every byte after a null's CR
pub null_end_leads : (s : Place) → ALead (at s AtNullLf)
null_end_leads s used byte front es is_byte c w =
    let r = rules_of s in
    wants_leads (at s AtNullLf) (NullReturned r) front es 1 byte 10 (Give k.Null (at_boundary s)) w
    (λ level bytes shown i t. returned_begun r (null t.form) level bytes t.returned)
    (λ other level bytes rest shown t dead. returned_broken r (null t.form) level bytes rest byte other t.returned dead)
    (λ is. subst (λ z. StandsAfter (at_boundary s) (front ++ z ∷ []) (es ++ e.Null ∷ [])) (sym is)
    (value_ends r (NullReturned r) s.frames front (10 ∷ []) es (e.Null ∷ []) w (λ level bytes shown i t. null_ends r level bytes shown t)))

-- Truth values.

hash_dead : (r : Rules) (level byte : ℕ) (bytes rest : List ℕ) → (byte ≡ 116 → ⊥) → (byte ≡ 102 → ⊥) → bytes ≡ 35 ∷ [] →
    CompletesUnder r Grammar level bytes (byte ∷ rest) → ⊥
hash_dead r level byte bytes rest no_t no_f is c =
    line_broken (LeafKeeps r Grammar) (NodeKeeps r Grammar) level (35 ∷ []) rest byte ((λ z. omega arith, λ z. omega arith), tt) truth_short
    (truth_begun_broken byte no_t no_f) (subst (λ z. CompletesUnder r Grammar level z (byte ∷ rest)) is c)

truth_is : (r : Rules) (x : Bool) (level byte : ℕ) (bytes : List ℕ) → (r.version ≡ Two → ⊥) → truth_line x ≡ 35 ∷ byte ∷ [] → bytes ≡ 35 ∷ [] →
    IsLineOf r (truth x) level (bytes ++ byte ∷ [])
truth_is r x level byte bytes no_two is are = subst (IsLineOf r (truth x) level) (is ∙ ap (λ z. z ++ byte ∷ []) (sym are)) (truth_token_line r x level no_two)

goes_true : (s : Place) (x : Bool) (byte : ℕ) (front : List ℕ) (es : List Event) → truth_line x ≡ 35 ∷ byte ∷ [] → StandsAfter (at s AtBool) front es →
    Leads (at s AtBool) front es byte (Go (at s (AtBoolCr x)))
goes_true s x byte front es is w = goes (rules_of s) (b.TokenHas (rules_of s) AtBool) (b.TokenHas (rules_of s) (AtBoolCr x)) s.frames front (byte ∷ []) es w
    (λ level bytes shown i t. (truth_is (rules_of s) x level byte bytes t.0 is t.1, t.2))

-- every byte after `#`
pub bool_leads : (s : Place) → ALead (at s AtBool)
bool_leads s used byte front es is_byte c w =
    let r = rules_of s in
    by_byte (at s AtBool) front es 116 byte _ _
    (λ is. goes_true s true byte front es (ap (λ z. 35 ∷ z ∷ []) (sym is)) w)
    (λ no_t. wants_leads (at s AtBool) (b.TokenHas r AtBool) front es 3 byte 102 (Go (at s (AtBoolCr false))) w
    (λ level bytes shown i t. subst (λ z. IsBegunBy r level z 3) (sym t.1) (truth_begun r level t.0))
    (λ no_f level bytes rest shown t dead. hash_dead r level byte bytes rest no_t no_f t.1 dead)
    (λ is. goes_true s false byte front es (ap (λ z. 35 ∷ z ∷ []) (sym is)) w))

-- every byte after the letter of a boolean
pub bool_cr_leads : (s : Place) (truth : Bool) → ALead (at s (AtBoolCr truth))
bool_cr_leads s x used byte front es is_byte c w =
    let r = rules_of s in
    wants_leads (at s (AtBoolCr x)) (b.TokenHas r (AtBoolCr x)) front es 2 byte 13 (Go (at s (AtBoolLf x))) w
    (λ level bytes shown i t. line_begun r (truth x) level bytes t.0)
    (λ other level bytes rest shown t dead. line_of_broken r (truth x) level bytes rest byte other (truth_broken x byte) t.0 dead)
    (λ is. subst (λ z. StandsAfter (at s (AtBoolLf x)) (front ++ z ∷ []) es) (sym is)
    (goes r (b.TokenHas r (AtBoolCr x)) (b.TokenHas r (AtBoolLf x)) s.frames front (13 ∷ []) es w
    (λ level bytes shown i t. (record { begun = bytes; line_of = t.0; returned = refl }, t.1))))

truth_ends : (r : Rules) (x : Bool) (level : ℕ) (bytes : List ℕ) (shown : List Event) → IsReturned r (truth x) level bytes → shown ≡ [] →
    Ends r level (bytes ++ 10 ∷ []) (shown ++ e.Bool x ∷ [])
truth_ends r x level bytes shown w none = record {
  tree = leaf (truth x);
  is_tree = w.line_of.is_leaf;
  keep = w.line_of.keeps;
  whole =
      returned_whole r (truth x) level bytes w;
  told = λ from. ap (λ z. z ++ e.Bool x ∷ []) (sym none);
}

-- every byte after a boolean's CR
pub bool_end_leads : (s : Place) (truth : Bool) → ALead (at s (AtBoolLf truth))
bool_end_leads s x used byte front es is_byte c w =
    let r = rules_of s in
    wants_leads (at s (AtBoolLf x)) (b.TokenHas r (AtBoolLf x)) front es 1 byte 10 (Give (k.Truth x) (at_boundary s)) w
    (λ level bytes shown i t. returned_begun r (truth x) level bytes t.0)
    (λ other level bytes rest shown t dead. returned_broken r (truth x) level bytes rest byte other t.0 dead)
    (λ is. subst (λ z. StandsAfter (at_boundary s) (front ++ z ∷ []) (es ++ e.Bool x ∷ [])) (sym is)
    (value_ends r (b.TokenHas r (AtBoolLf x)) s.frames front (10 ∷ []) es (e.Bool x ∷ []) w
    (λ level bytes shown i t. truth_ends r x level bytes shown t.0 t.1)))
