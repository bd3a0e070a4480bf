-- What was read so far.
use Rattle.std.proofs.Common.{◌≡◌, ℕ, zero, suc, ◌+◌, ◌*◌, ◌<◌, ◌≤◌, List, [], ◌++◌, length, take, drop, Option, None, Some, Ok, Err, refl, sym, ap, subst, ◌∙◌, arith, append_assoc, append-nil, take-append-drop}
use Rattle.std.proofs.lemmas.List.{take-take, take-append-le}
use Rattle.resp_io.specs.Devices.{Reads, count_after}
use Rattle.resp_io.specs.declared.device.DeviceFault.{DeviceFault}
use Rattle.resp_cli_stream.specs.Streams.{AreRead}

-- nothing was read yet
pub nothing_read : (left : Option (List ℕ)) → AreRead left left []
nothing_read None = tt
nothing_read (Some left) = (left, refl, refl)

-- one read more
pub reads_on : (before mid after : Option (List ℕ)) (bytes into : List ℕ) (n : ℕ) → AreRead before mid bytes → Reads mid after into (Ok n) →
    AreRead before after (bytes ++ take n into)
reads_on None mid after bytes into n so_far read = tt
reads_on (Some left) None after bytes into n (rest, is, e) read = absurd (cc)
reads_on (Some left) (Some now) after bytes into n (rest, is, e) read =
    let same : now ≡ rest = cc in (
      drop n now,
      read.beyond,
      e ∙ ap (λ more. bytes ++ more) (sym same ∙ sym (take-append-drop n now) ∙ ap (λ front. front ++ drop n now) (sym read.bytes)) ∙
          sym (append_assoc bytes (take n into) (drop n now)),
    )

-- a read of nothing
pub reads_none : (before mid after : Option (List ℕ)) (bytes into : List ℕ) (n : ℕ) → n ≡ 0 → AreRead before mid bytes → Reads mid after into (Ok n) →
    AreRead before after bytes
reads_none before mid after bytes into n none so_far read =
    subst (AreRead before after) (ap (λ k. bytes ++ take k into) none ∙ append-nil bytes) (reads_on before mid after bytes into n so_far read)

-- a read that fails takes nothing
pub reads_fail : (before mid after : Option (List ℕ)) (bytes into : List ℕ) (fault : DeviceFault) → AreRead before mid bytes →
    Reads mid after into (Err fault) →
    AreRead before after bytes
reads_fail None mid after bytes into fault so_far read = tt
reads_fail (Some left) None after bytes into fault (rest, is, e) read = absurd (cc)
reads_fail (Some left) (Some now) after bytes into fault (rest, is, e) read = (rest, read ∙ is, e)

-- how many calls were made, since a count was this
pub record HasCalled (n before after : ℕ) : Type 0 where
  pub none : n ≡ 0 → after ≡ before
  pub some : 0 < n → after ≡ count_after n before

pub never_called : (count : ℕ) → HasCalled 0 count count
never_called count = record { none = λ _. refl; some = λ h. absurd (omega arith) }

-- one more call
pub called_again : (n before mid after : ℕ) → HasCalled n before mid → after ≡ count_after 1 mid → HasCalled (n + 1) before after
called_again zero before mid after so_far e =
    let same : mid ≡ before = so_far.none refl in
    record { none = λ h. absurd (omega arith); some = λ _. (e ∙ ap (count_after 1) same ∙ first before) }
  where
    first : (count : ℕ) → count_after 1 count ≡ count_after (0 + 1) count
    first count = omega arith
called_again (suc n) before mid after so_far e =
    let some : mid ≡ count_after (suc n) before = so_far.some (omega arith) in
    record { none = λ h. absurd (omega arith); some = λ _. omega arith }

-- the front of a buffer that was read into
pub take-into : (into buffer : List ℕ) (size n : ℕ) → n ≤ length into → length into ≤ size → take n (take size (into ++ drop (length into) buffer)) ≡
    take n into
take-into into buffer size n within room =
    take-take n size (into ++ drop (length into) buffer) (omega arith) ∙ take-append-le n into (drop (length into) buffer) within

-- one more of this many
pub one_more : (n each : ℕ) → (n + 1) * each ≡ n * each + each
one_more zero each = omega arith
one_more (suc n) each = omega arith
