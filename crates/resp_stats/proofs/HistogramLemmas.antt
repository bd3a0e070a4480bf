-- The counts of a histogram, and the times that it has.
use Rattle.std.proofs.Common.{◌≡◌, ◌≢◌, ℕ, ◌+◌, ◌*◌, ◌^◌, ◌<◌, ◌≤◌, inl, inr, true, false, nat_lt, min, List, [], ◌++◌, length, replicate, get_or, set, refl, sym, arith}
use Rattle.std.proofs.lemmas.List.{get_or-set_same, get_or-set_other, length-append, length-replicate}
use Rattle.std.proofs.lemmas.List.Elements.{All-append, All-nil, All-replicate}
use Rattle.std.proofs.lemmas.List.Sums.{count_by-le-length}
use Rattle.std.proofs.lemmas.Bool.{cases_lt, cases_eq}
use Rattle.std.proofs.lemmas.Bool.Decides.{nat_tests}
use Rattle.resp_stats.specs.Ranges.{start_of}
use Rattle.resp_stats.specs.Times.{HasTimes, count_at_most, count_below, count_in, is_between, last_count}
use Rattle.resp_stats.specs.declared.histogram.Histogram.{Histogram}
use Rattle.resp_stats.proofs.CountLemmas.{count-append, count-replicate_no, count-replicate_yes, count_all, count_below_zero, count_mono, count_next, count_split}
use Rattle.resp_stats.proofs.RangeLemmas.{start_close, start_mono, start_step}

-- ---- a time is in one range

in_range : (r t : ℕ) → start_of r ≤ t → t < start_of (r + 1) → is_between (start_of r) (start_of (r + 1)) t ≡ true
in_range r t from to = grind (arith, nat_tests, from, to)

before_range : (q t : ℕ) → t < start_of q → is_between (start_of q) (start_of (q + 1)) t ≡ false
before_range q t less = grind (arith, nat_tests, less)

after_range : (q t : ℕ) → start_of (q + 1) ≤ t → is_between (start_of q) (start_of (q + 1)) t ≡ false
after_range q t past = grind (arith, nat_tests, past)

pub count_in_same : (r n t : ℕ) (times : List ℕ) → start_of r ≤ t → t < start_of (r + 1) →
    count_in r (times ++ replicate n t) ≡ count_in r times + n
count_in_same r n t times from to =
    let p = is_between (start_of r) (start_of (r + 1)) in
    omega (arith, count-append p times (replicate n t), count-replicate_yes p n t (in_range r t from to))

pub count_in_other : (q r n t : ℕ) (times : List ℕ) → q ≢ r → start_of r ≤ t → t < start_of (r + 1) →
    count_in q (times ++ replicate n t) ≡ count_in q times
count_in_other q r n t times apart from to =
    let p = is_between (start_of q) (start_of (q + 1)) in
    let outside : p t ≡ false = elim (cases_lt q r) [
      | inl less ↦ let order = start_mono (q + 1) r (omega (arith, less)) in after_range q t (omega (arith, order, from))
      | inr more ↦ let order = start_mono (r + 1) q (omega (arith, apart, more)) in before_range q t (omega (arith, order, to))
    ] in
    omega (arith, count-append p times (replicate n t), count-replicate_no p n t outside)

-- ---- sums of counts

pub count_step : (r : ℕ) (times : List ℕ) → count_below (start_of (r + 1)) times ≡ count_below (start_of r) times + count_in r times
count_step r times = let step = start_step r in count_split (start_of r) (start_of (r + 1)) (omega (arith, step)) times

pub count_in_fits : (r : ℕ) (times : List ℕ) → length times < 2 ^ 64 → count_below (start_of (r + 1)) times ≤ last_count
count_in_fits r times fits = let most = count_by-le-length (λ t. nat_lt t (start_of (r + 1))) times in omega (arith, most, fits)

pub counted_more : (h : Histogram) (r count : ℕ) (times : List ℕ) → HasTimes h times → length times < 2 ^ 64 → r < 464 →
    count ≡ count_below (start_of r) times → min (count + get_or h.counts r 0) last_count ≡ count_below (start_of (r + 1)) times
counted_more h r count times has fits within is =
    let here = has.counts r within in
    omega (arith, count_step r times, count_in_fits r times fits, here, is)

pub counted_none : (times : List ℕ) → 0 ≡ count_below (start_of 0) times
counted_none times = sym (count_below_zero times)

pub counted_all : (h : Histogram) (times : List ℕ) → HasTimes h times → count_below (start_of 464) times ≡ length times
counted_all h times has = count_all 4294967296 times has.each

-- ---- the histogram after a change

pub added : (h : Histogram) (r n t count number : ℕ) (times : List ℕ) → HasTimes h times → r < length h.counts →
    start_of r ≤ t → t < start_of (r + 1) → t < 2 ^ 32 →
    count ≡ min (get_or h.counts r 0 + n) last_count → number ≡ min (h.number + n) last_count → r < 464 →
    HasTimes (record { counts = set h.counts r count; number = number }) (times ++ replicate n t)
added h r n t count number times has inside from to small is number_is within = record {
  each = All-append (λ time. time < 2 ^ 32) times (replicate n t) has.each (All-replicate (λ time. time < 2 ^ 32) n t small);
  number = let before = has.number in omega (arith, length-append times (replicate n t), length-replicate n t, before, number_is);
  counts = λ q below. elim (cases_eq q r) [
    | inl same ↦
        let here = has.counts r within in
        rw same (rw get_or-set_same (omega (arith, count_in_same r n t times from to, here, is)))
    | inr apart ↦
        let here = has.counts q below in
        rw (get_or-set_other h.counts r q count 0 apart) (omega (arith, count_in_other q r n t times apart from to, here))
  ];
}

pub appended : (a b new : Histogram) (times others : List ℕ) → HasTimes a times → HasTimes b others →
    ((q : ℕ) → q < 464 → get_or new.counts q 0 ≡ min (get_or a.counts q 0 + get_or b.counts q 0) last_count) →
    new.number ≡ min (a.number + b.number) last_count → HasTimes new (times ++ others)
appended a b new times others one two sums number_is = record {
  each = All-append (λ time. time < 2 ^ 32) times others one.each two.each;
  number = let n = one.number in let m = two.number in omega (arith, length-append times others, n, m, number_is);
  counts = λ q below.
      let n = one.counts q below in let m = two.counts q below in
      omega (arith, sums q below, n, m, count-append (is_between (start_of q) (start_of (q + 1))) times others);
}

pub nothing : (h : Histogram) → ((q : ℕ) → q < 464 → get_or h.counts q 0 ≡ 0) → h.number ≡ 0 → HasTimes h []
nothing h zeros number_is = record {
  each = All-nil (λ time. time < 2 ^ 32);
  number = number_is;
  counts = zeros;
}

-- ---- percentiles

pub near_range : (r time less place : ℕ) (times : List ℕ) → time + 1 ≡ start_of (r + 1) → 17 * less < 16 * time →
    count_below (start_of r) times < place → count_at_most less times < place
near_range r time less place times end apart before =
    let before_start : less + 1 ≤ start_of r = omega (arith, start_close r, end, apart) in
    omega (arith, count_next less (less + 1) refl times, count_mono (less + 1) (start_of r) before_start times, before)
