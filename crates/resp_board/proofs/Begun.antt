-- Of which commands of a line a byte was sent, after each call.
use Rattle.std.proofs.Common.{◌≡◌, ℕ, zero, suc, ◌+◌, ◌-◌, ◌<◌, ◌≤◌, List, [], ◌∷◌, ◌++◌, length, take, drop, map, refl, sym, ap, subst, ◌∙◌, arith, inl, inr, length-append, length-drop}
use Rattle.std.specs.List.{concat}
use Rattle.std.proofs.Math.Seq.{drop-nil, take-add}
use Rattle.std.proofs.lemmas.Bool.{cases_lt}
use Rattle.std.proofs.lemmas.List.{drop-map, length-take-le, take-append-le, take-map}
use Rattle.std.proofs.lemmas.List.Folds.{concat-append}
use Rattle.resp_board.specs.declared.ticket.Ticket.{Ticket}
use Rattle.resp_board.specs.Begun.{BeginsMore, IsCounted, total}
use Rattle.resp_board.specs.Queues.{Begins, Command, Line, nothing_queued, texts_of, with_answered, with_queued, with_sent}

pub texts-append : (commands : List Command) (c : Command) → texts_of (commands ++ c ∷ []) ≡ texts_of commands ++ c.text ∷ []
texts-append [] c = refl
texts-append (d ∷ commands) c = ap (λ texts. d.text ∷ texts) (texts-append commands c)

-- the bytes of the first texts
abbrev pub bytes_of : ℕ → List (List ℕ) → ℕ
bytes_of count texts = length (concat (take count texts))

lengths-sum : (texts : List (List ℕ)) → length (concat texts) ≡ total (map length texts)
lengths-sum [] = refl
lengths-sum (text ∷ texts) = length-append text (concat texts) ∙ ap (λ n. length text + n) (lengths-sum texts)

-- the bytes of more texts
bytes-add : (count more : ℕ) (texts : List (List ℕ)) → bytes_of (count + more) texts ≡ bytes_of count texts + total (take more (map length (drop count texts)))
bytes-add count more texts =
    ap (λ ts. length (concat ts)) (take-add count more texts) ∙ ap length (concat-append (take count texts) (take more (drop count texts))) ∙
    length-append (concat (take count texts)) (concat (take more (drop count texts))) ∙
    ap (λ n. bytes_of count texts + n) (lengths-sum (take more (drop count texts)) ∙ ap total (sym (take-map length more (drop count texts))))

pub begins_nothing : Begins 0 [] 0 nothing_queued
begins_nothing = record {
  begun = 0;
  count = refl;
  is_begun = record { enough = omega arith; fewest = λ fewer few. absurd (omega (arith, few)) };
  lengths = refl;
  sent = refl;
}

drop-more : (count : ℕ) (texts : List (List ℕ)) (text : List ℕ) → count ≤ length texts → drop count (texts ++ text ∷ []) ≡ drop count texts ++ text ∷ []
drop-more zero texts text few = refl
drop-more (suc count) [] text few = absurd (omega (arith, few))
drop-more (suc count) (t ∷ texts) text few = drop-more count texts text (omega (arith, few))

map-more : (texts : List (List ℕ)) (text : List ℕ) → map length (texts ++ text ∷ []) ≡ map length texts ++ length text ∷ []
map-more [] text = refl
map-more (t ∷ texts) text = ap (λ ns. length t ∷ ns) (map-more texts text)

-- one more command waits, of which no byte was sent
pub begins_command : (waiting : ℕ) (unbegun : List ℕ) (left : ℕ) (p : Line) (ticket : Ticket) (text : List ℕ) →
    p.replied + waiting ≡ length (texts_of p.commands) → Begins waiting unbegun left p →
    Begins (waiting + 1) (unbegun ++ length text ∷ []) left (with_queued ticket text p)
begins_command waiting unbegun left p ticket text all b =
    let texts = texts_of p.commands in
    let k = p.replied + b.begun in
    let few : k ≤ length texts = let c = b.count in omega (arith, all, c) in
    let more : texts_of (with_queued ticket text p).commands ≡ texts ++ text ∷ [] = texts-append p.commands (record { ticket = ticket; text = text }) in
    let same : (n : ℕ) → n ≤ k → bytes_of n (texts_of (with_queued ticket text p).commands) ≡ bytes_of n texts =
    λ n within. ap (bytes_of n) more ∙ ap (λ ts. length (concat ts)) (take-append-le n texts (text ∷ []) (omega (arith, within, few))) in
    record {
      begun = b.begun;
      count = let c = b.count in let l = length-append unbegun (length text ∷ []) in omega (arith, c, l);
      is_begun = record {
        enough = let s = same k (omega arith) in let e = b.is_begun.enough in omega (arith, s, e);
        fewest = λ fewer few. let s = same fewer (omega (arith, few)) in let f = b.is_begun.fewest fewer few in omega (arith, s, f);
      };
      lengths = ap (λ ts. map length (drop k ts)) more ∙ ap (map length) (drop-more k texts text few) ∙ map-more (drop k texts) text ∙
          ap (λ ns. ns ++ length text ∷ []) b.lengths;
      sent = same k (omega arith) ∙ b.sent;
    }

-- the server replied to a command of which a byte was sent
pub begins_reply : (waiting : ℕ) (unbegun : List ℕ) (left : ℕ) (p : Line) → length unbegun < waiting → Begins waiting unbegun left p →
    Begins (waiting - 1) unbegun left (with_answered p)
begins_reply waiting unbegun left p some b =
    let k : p.replied + 1 + (b.begun - 1) ≡ p.replied + b.begun = let c = b.count in omega (arith, c, some) in
    record {
      begun = b.begun - 1;
      count = let c = b.count in omega (arith, c, some);
      is_begun = record {
        enough = subst (λ n. length p.sent ≤ bytes_of n (texts_of p.commands)) (sym k) b.is_begun.enough;
        fewest = λ fewer few. b.is_begun.fewest fewer (omega (arith, few, k));
      };
      lengths = ap (λ n. map length (drop n (texts_of p.commands))) k ∙ b.lengths;
      sent = ap (λ n. bytes_of n (texts_of p.commands)) k ∙ b.sent;
    }

drop-drop : {T : Type 0} (n m : ℕ) (xs : List T) → drop (n + m) xs ≡ drop m (drop n xs)
drop-drop zero m xs = let e : 0 + m ≡ m = omega arith in ap (λ n. drop n xs) e
drop-drop (suc n) m [] = drop-nil (suc n + m) ∙ sym (drop-nil m)
drop-drop (suc n) m (x ∷ xs) = let e : suc n + m ≡ suc (n + m) = omega arith in ap (λ k. drop k (x ∷ xs)) e ∙ drop-drop n m xs

-- more bytes were sent
pub begins_sent : (waiting : ℕ) (unbegun unbegun' : List ℕ) (left left' count : ℕ) (p : Line) (out : List ℕ) → count ≤ length out →
    BeginsMore count unbegun left unbegun' left' → Begins waiting unbegun left p → Begins waiting unbegun' left' (with_sent (take count out) p)
begins_sent waiting unbegun unbegun' left left' count p out within m b =
    let texts = texts_of p.commands in
    let k = p.replied + b.begun in
    let assoc : p.replied + (b.begun + m.more) ≡ k + m.more = omega arith in
    let sent : length (p.sent ++ take count out) ≡ length p.sent + count =
    length-append p.sent (take count out) ∙ ap (λ n. length p.sent + n) (length-take-le count out within) in
    let upto : (n : ℕ) → bytes_of (k + n) texts ≡ length p.sent + left + total (take n unbegun) =
    λ n. bytes-add k n texts ∙ ap (λ s. s + total (take n (map length (drop k texts)))) b.sent ∙
    ap (λ ns. length p.sent + left + total (take n ns)) b.lengths in
    let here : bytes_of (p.replied + (b.begun + m.more)) texts ≡ length p.sent + left + total (take m.more unbegun) =
    ap (λ n. bytes_of n texts) assoc ∙ upto m.more in
    record {
      begun = b.begun + m.more;
      count = let c = b.count in let d = ap length m.others ∙ length-drop m.more unbegun in let w = m.within in omega (arith, c, d, w);
      is_begun = record {
        enough = let bytes = m.bytes in omega (arith, here, sent, bytes);
        fewest = λ fewer few.
            elim (cases_lt fewer k) [
              | inl before ↦ let f = b.is_begun.fewest fewer before in omega (arith, f, sent)
              | inr after ↦
                  let n : k + (fewer - k) ≡ fewer = omega (arith, after) in
                  let t = sym (ap (λ i. bytes_of i texts) n) ∙ upto (fewer - k) in
                  let f = m.fewest (fewer - k) (omega (arith, after, few, assoc)) in
                  omega (arith, t, f, sent)
            ];
      };
      lengths = ap (λ n. map length (drop n texts)) assoc ∙ ap (map length) (drop-drop k m.more texts) ∙
          sym (drop-map length m.more (drop k texts)) ∙ ap (drop m.more) b.lengths ∙ sym m.others;
      sent = let bytes = m.bytes in omega (arith, here, sent, bytes);
    }

sum-split : (n : ℕ) (xs : List ℕ) → total (take n xs) + total (drop n xs) ≡ total xs
sum-split zero xs = let e : 0 + total xs ≡ total xs = omega arith in e
sum-split (suc n) [] = let e : 0 + 0 ≡ 0 = refl in e
sum-split (suc n) (x ∷ xs) =
    let s = sum-split n xs in let e : (x + total (take n xs)) + total (drop n xs) ≡ x + total xs = omega (arith, s) in e

sum-last : (xs : List ℕ) (x : ℕ) → total (xs ++ x ∷ []) ≡ total xs + x
sum-last [] x = let e : x + 0 ≡ 0 + x = omega arith in e
sum-last (y ∷ xs) x = let s = sum-last xs x in let e : y + total (xs ++ x ∷ []) ≡ (y + total xs) + x = omega (arith, s) in e

pub counted_sent : (waiting : List Ticket) (unbegun unbegun' : List ℕ) (left left' count : ℕ) (out out' : List ℕ) → count ≤ length out → out' ≡ drop count out →
    BeginsMore count unbegun left unbegun' left' → IsCounted waiting unbegun left out → IsCounted waiting unbegun' left' out'
counted_sent waiting unbegun unbegun' left left' count out out' within gone m c = record {
  within = let d = ap length m.others ∙ length-drop m.more unbegun in let w = c.within in omega (arith, d, w);
  bytes =
      let d = ap length gone ∙ length-drop count out in
      let s = sum-split m.more unbegun in
      let o = ap total m.others in
      let b = m.bytes in
      let all = c.bytes in
      omega (arith, d, s, o, b, all, within);
}

pub counted_command : (waiting waiting' : List Ticket) (unbegun unbegun' : List ℕ) (left : ℕ) (out out' text : List ℕ) (ticket : Ticket) →
    waiting' ≡ waiting ++ ticket ∷ [] → unbegun' ≡ unbegun ++ length text ∷ [] → out' ≡ out ++ text → IsCounted waiting unbegun left out →
    IsCounted waiting' unbegun' left out'
counted_command waiting waiting' unbegun unbegun' left out out' text ticket e f g c = record {
  within =
      let l = ap length e ∙ length-append waiting (ticket ∷ []) in
      let m = ap length f ∙ length-append unbegun (length text ∷ []) in
      let w = c.within in
      omega (arith, l, m, w);
  bytes =
      let l = ap length g ∙ length-append out text in
      let s = ap total f ∙ sum-last unbegun (length text) in
      let b = c.bytes in
      omega (arith, l, s, b);
}

-- commands were begun, and more bytes were sent than are left of the last
pub record IsBeginning (count : ℕ) (unbegun : List ℕ) (left : ℕ) (rest : ℕ) (unbegun' : List ℕ) (left' : ℕ) : Type 0 where
  pub more : ℕ
  pub within : more ≤ length unbegun
  pub others : unbegun' ≡ drop more unbegun
  pub bytes : count + left' ≡ rest + (left + total (take more unbegun))
  pub fewest : (fewer : ℕ) → fewer < more → left + total (take fewer unbegun) < count

pub beginning : (count : ℕ) (unbegun : List ℕ) (left : ℕ) → IsBeginning count unbegun left count unbegun left
beginning count unbegun left = record {
  more = 0;
  within = omega arith;
  others = refl;
  bytes = let e : count + left ≡ count + (left + 0) = omega arith in e;
  fewest = λ fewer few. absurd (omega (arith, few));
}

-- the next command, of this length
record IsNext (n : ℕ) (xs : List ℕ) (x : ℕ) (ys : List ℕ) : Type 0 where
  pub within : n < length xs
  pub others : drop (suc n) xs ≡ ys
  pub bytes : total (take (suc n) xs) ≡ total (take n xs) + x

next-of : (n : ℕ) (xs : List ℕ) (x : ℕ) (ys : List ℕ) → drop n xs ≡ x ∷ ys → IsNext n xs x ys
next-of zero [] x ys e = absurd (cc)
next-of (suc n) [] x ys e = absurd (cc)
next-of zero (y ∷ xs) x ys e = record {
  within = omega arith;
  others = ap (drop 1) e;
  bytes = let z : x + 0 ≡ 0 + x = omega arith in ap (λ zs. total (take 1 zs)) e ∙ z;
}
next-of (suc n) (y ∷ xs) x ys e =
    let r = next-of n xs x ys e in
    let few = r.within in
    let s = r.bytes in
    record {
      within = omega (arith, few);
      others = r.others;
      bytes = let g : y + total (take (suc n) xs) ≡ (y + total (take n xs)) + x = omega (arith, s) in g;
    }

-- one more command was begun
pub begun_next : (count : ℕ) (unbegun : List ℕ) (left rest : ℕ) (mid : List ℕ) (left-mid : ℕ) (unbegun' : List ℕ) (size : ℕ) → left-mid < rest →
    mid ≡ size ∷ unbegun' → IsBeginning count unbegun left rest mid left-mid → IsBeginning count unbegun left (rest - left-mid) unbegun' size
begun_next count unbegun left rest mid left-mid unbegun' size some first b =
    let r = next-of b.more unbegun size unbegun' (sym b.others ∙ first) in
    let few = r.within in
    let s = r.bytes in
    let bytes = b.bytes in
    record {
      more = suc b.more;
      within = omega (arith, few);
      others = sym r.others;
      bytes = omega (arith, s, bytes, some);
      fewest = λ fewer within.
          elim (cases_lt fewer b.more) [
            | inl before ↦ b.fewest fewer before
            | inr last ↦
                let same : fewer ≡ b.more = omega (arith, within, last) in
                subst (λ n. left + total (take n unbegun) < count) (sym same) (omega (arith, bytes, some))
          ];
    }

sum-both : (xs ys : List ℕ) → total (xs ++ ys) ≡ total xs + total ys
sum-both [] ys = let e : total ys ≡ 0 + total ys = omega arith in e
sum-both (x ∷ xs) ys = let s = sum-both xs ys in let e : x + total (xs ++ ys) ≡ (x + total xs) + total ys = omega (arith, s) in e

-- all commands of a line are queued on another
pub counted_all : (waiting waiting' waiting'' : List Ticket) (unbegun unbegun' unbegun'' : List ℕ) (left left' : ℕ) (out out' out'' : List ℕ) →
    waiting'' ≡ waiting' ++ waiting → unbegun'' ≡ unbegun' ++ unbegun → out'' ≡ out' ++ drop left out → IsCounted waiting unbegun left out →
    IsCounted waiting' unbegun' left' out' → IsCounted waiting'' unbegun'' left' out''
counted_all waiting waiting' waiting'' unbegun unbegun' unbegun'' left left' out out' out'' e f g c d = record {
  within =
      let l = ap length e ∙ length-append waiting' waiting in
      let m = ap length f ∙ length-append unbegun' unbegun in
      let w = c.within in
      let v = d.within in
      omega (arith, l, m, w, v);
  bytes =
      let l = ap length g ∙ length-append out' (drop left out) in
      let r = length-drop left out in
      let s = ap total f ∙ sum-both unbegun' unbegun in
      let b = c.bytes in
      let t = d.bytes in
      omega (arith, l, r, s, b, t);
}
