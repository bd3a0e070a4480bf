-- Names of hosts in words.
use Rattle.std.proofs.Common.{◌≡◌, ◌≢◌, ◌∙◌, ◌<◌, ◌+◌, ℕ, suc, List, [], ◌∷◌, ◌++◌, Option, Some, None, Bor, ap, append_assoc, arith, codes, inl, inr, length, subst, sym}
use Rattle.std.proofs.Math.Seq.{get_or-append_seam}
use Rattle.std.proofs.lemmas.List.{length-append}
use Rattle.std.specs.Option.{MatchOption}
use Rattle.std.specs.Prelude.{get_or}
use Rattle.std.proofs.lemmas.Str.Pattern.{IsSplitOnceResult, split_after, split_parts}
use Rattle.resp_cli_args.specs.Addresses.{HasPort}
use Rattle.resp_cli_args.specs.Hosts.{IsHost, IsHostByte, IsHostText}

not_colon : (byte : ℕ) → IsHostByte byte → byte ≢ 58
not_colon byte (inl digit) is = omega (arith, digit.0, digit.1, is)
not_colon byte (inr (inl upper)) is = omega (arith, upper.0, upper.1, is)
not_colon byte (inr (inr (inl lower))) is = omega (arith, lower.0, lower.1, is)
not_colon byte (inr (inr (inr (inl dash)))) is = omega (arith, dash, is)
not_colon byte (inr (inr (inr (inr (inl low))))) is = omega (arith, low, is)
not_colon byte (inr (inr (inr (inr (inr dot))))) is = omega (arith, dot, is)

-- the name of a host has no colon
pub no_colon : (host : List ℕ) → IsHost host → (i : ℕ) → i < length host → get_or host i 0 ≢ 58
no_colon host is i within = not_colon (get_or host i 0) (is.0 i 0 within)

-- a text that has the name of a host and a port is split into the two
pub named_parts : (text host : List ℕ) (port : ℕ) (r : Option (Bor (List ℕ) × Bor (List ℕ))) → IsSplitOnceResult 58 text r → IsHost host →
    HasPort (host ++ codes ":") text port → MatchOption r ⊥ (λ x. (x.0.now ≡ host) × HasPort [] x.1.now port)
named_parts text host port r split is has =
    let e = has.1 ∙ append_assoc host (58 ∷ []) has.0 in
    go r (split_after 58 text host has.0 r split (omega arith) e (no_colon host is))
  where
    go : (r : Option (Bor (List ℕ) × Bor (List ℕ))) → MatchOption r ⊥ (λ x. (x.0.now ≡ host) × (x.1.now ≡ has.0)) →
        MatchOption r ⊥ (λ x. (x.0.now ≡ host) × HasPort [] x.1.now port)
    go None bad = bad
    go (Some x) parts = (parts.0, (has.0, parts.1, has.2, has.3, has.4))

-- the name of a host has no byte that is a colon
pub colon_inside : (text before beyond : List ℕ) → text ≡ before ++ (58 ∷ beyond) → IsHost text → ⊥
colon_inside text before beyond e is =
    let size : length (before ++ (58 ∷ beyond)) ≡ length before + suc (length beyond) = length-append before (58 ∷ beyond) in
    no_colon (before ++ (58 ∷ beyond)) (subst IsHost e is) (length before) (omega (arith, size)) (get_or-append_seam before 58 beyond 0)

-- a port behind the name of a host and a colon
pub port_behind : (text host beyond : List ℕ) (port : ℕ) → text ≡ host ++ (58 ∷ beyond) → HasPort [] beyond port →
    HasPort (host ++ codes ":") text port
port_behind text host beyond port e has =
    (has.0, e ∙ ap (λ z. host ++ (58 ∷ z)) has.1 ∙ sym (append_assoc host (58 ∷ []) has.0), has.2, has.3, has.4)

-- a text without a colon has no name of a host but itself
pub no_host_alone : (text : List ℕ) → IsSplitOnceResult 58 text None → (IsHost text → ⊥) → (host : List ℕ) (port : ℕ) → IsHostText text host port → ⊥
no_host_alone text split none host port has = elim has.1 [
  | inl whole ↦ none (subst IsHost (sym whole.0) has.0)
  | inr behind ↦ named_parts text host port None split has.0 behind
]

-- a text with a colon has no name of a host but the part before it, and no port but that of the part behind it
pub no_host_split : (text : List ℕ) (x : Bor (List ℕ) × Bor (List ℕ)) → IsSplitOnceResult 58 text (Some x) →
    (IsHost x.0.now → (port : ℕ) → HasPort [] x.1.now port → ⊥) → (host : List ℕ) (port : ℕ) → IsHostText text host port → ⊥
no_host_split text x split none host port has = elim has.1 [
  | inl whole ↦ colon_inside text x.0.now x.1.now (split_parts 58 text (Some x) split (omega arith)).0 (subst IsHost (sym whole.0) has.0)
  | inr behind ↦
      let parts = named_parts text host port (Some x) split has.0 behind in
      none (subst IsHost (sym parts.0) has.0) port parts.1
]
