-- The numbers of a kind stay those of the lists, move by move.
use Rattle.std.proofs.Common.{◌≡◌, ◌≢◌, ◌⊎◌, Bool, ℕ, ◌+◌, ◌<◌, ◌≤◌, true, false, refl, sym, subst, ap, ◌∙◌, arith, List, [], ◌∷◌, ◌++◌, inl, inr}
use Rattle.std.specs.Prelude.{count_by, cond}
use Rattle.std.proofs.lemmas.List.Sums.{sum_by-append}
use Rattle.std.proofs.lemmas.Bool.{cases_eq}
use Rattle.std.proofs.lemmas.Bool.Decides.{nat_tests}
use Rattle.std.proofs.lemmas.List.{length-append}
use Rattle.qs_session_channels.specs.Channels.{Channels, Move, Wait, Post, Meet, Notice, Hand, Crash, Restart, May, moved, MovesOn, IsNext}
use Rattle.qs_session_channels.specs.Counts.{Numbers, Counted, counted, IsThere}

pub count_append : {M : Type 0} → (is : M → Bool) (xs ys : List M) → count_by is (xs ++ ys) ≡ count_by is xs + count_by is ys
count_append is xs ys = sum_by-append (λ x. cond (is x) 1 0) xs ys

pub count_more : {M : Type 0} → (is : M → Bool) (x : M) (xs : List M) → count_by is (x ∷ xs) ≡ (cond (is x) 1 0) + count_by is xs
count_more is x xs = let e : 0 + cond (is x) 1 0 ≡ cond (is x) 1 0 = omega arith in count_append is (x ∷ []) xs ∙ ap (λ (k : ℕ). k + count_by is xs) e

wait_counted : {M : Type 0} → (is : M → Bool) (a b : ℕ) (x : M) (c : Channels M) (u : Numbers) → Counted is c u → May (Wait a b x) c → Counted is (moved (Wait a b x) c) (counted is (Wait a b x) c u)
wait_counted is a b x c u k may = record {
  apart = λ n m i j. grind (arith, nat_tests, k.apart n m i j);
  all_put = λ n m met. grind (arith, nat_tests, k.all_put n m met, may, met);
  all_wait = λ n m unmet. grind (arith, nat_tests, k.all_wait n m unmet, count_append is (c.waits a b) (x ∷ []));
  unposted = λ n m j lt. grind (arith, nat_tests, k.unposted n m j lt);
  later = λ n m i j lt. grind (arith, nat_tests, k.later n m i j lt, lt);
}

post_counted : {M : Type 0} → (is : M → Bool) (a b : ℕ) (x : M) (c : Channels M) (u : Numbers) → Counted is c u → May (Post a b x) c → Counted is (moved (Post a b x) c) (counted is (Post a b x) c u)
post_counted is a b x c u k may = record {
  apart = λ n m i j. grind (arith, nat_tests, k.apart n m i j, k.all_put a b may.1, count_append is (c.posted a b (c.inc a) (c.peer a b)) (x ∷ []));
  all_put = λ n m met. grind (arith, nat_tests, k.all_put n m met, may, met);
  all_wait = λ n m unmet. grind (arith, nat_tests, k.all_wait n m unmet, may, unmet);
  unposted = λ n m j lt. grind (arith, nat_tests, k.unposted n m j lt, lt);
  later = λ n m i j lt. grind (arith, nat_tests, k.later n m i j lt, lt);
}

meet_counted : {M : Type 0} → (is : M → Bool) (a b j : ℕ) (c : Channels M) (u : Numbers) → Counted is c u → May (Meet a b j) c → Counted is (moved (Meet a b j) c) (counted is (Meet a b j) c u)
meet_counted is a b h c u k may =
    let z = k.unposted a b h (grind (arith, may)) in
    let w = k.all_wait a b may.1 in
    record {
      apart = λ n m i j. grind (arith, nat_tests, k.apart n m i j, z, w);
      all_put = λ n m met. grind (arith, nat_tests, k.all_put n m, may, met);
      all_wait = λ n m unmet. grind (arith, nat_tests, k.all_wait n m, may, unmet);
      unposted = λ n m j lt. grind (arith, nat_tests, k.unposted n m j, lt, may);
      later = λ n m i j lt. grind (arith, nat_tests, k.later n m i j lt, lt);
    }

notice_counted : {M : Type 0} → (is : M → Bool) (a b j : ℕ) (c : Channels M) (u : Numbers) → Counted is c u → May (Notice a b j) c → Counted is (moved (Notice a b j) c) (counted is (Notice a b j) c u)
notice_counted is a b h c u k may =
    let z = k.unposted a b h may.2 in
    record {
      apart = λ n m i j. grind (arith, nat_tests, k.apart n m i j, z);
      all_put = λ n m met. grind (arith, nat_tests, k.all_put n m, may, met);
      all_wait = λ n m unmet. grind (arith, nat_tests, k.all_wait n m, may, unmet);
      unposted = λ n m j lt. grind (arith, nat_tests, k.unposted n m j, lt, may);
      later = λ n m i j lt. grind (arith, nat_tests, k.later n m i j lt, lt);
    }

pub not_empty : {M : Type 0} → (xs hs rest : List M) (x : M) → xs ≡ hs ++ x ∷ rest → xs ≢ []
not_empty {M} xs hs rest x is none = grind (arith, is, none, length-append {A = M} hs (x ∷ rest))

hand_counted : {M : Type 0} → (is : M → Bool) (a b : ℕ) (x : M) (c : Channels M) (u : Numbers) → Counted is c u → May (Hand a b x) c → Counted is (moved (Hand a b x) c) (counted is (Hand a b x) c u)
hand_counted is a b x c u k may =
    let z = not_empty (c.posted b a (c.peer a b) (c.inc a)) (c.handed b a (c.peer a b) (c.inc a)) may.2.0 x may.2.1 in
    record {
      apart = λ n m i j. grind (arith, nat_tests, k.apart n m i j, count_append is (c.handed b a (c.peer a b) (c.inc a)) (x ∷ []));
      all_put = λ n m met. grind (arith, nat_tests, k.all_put n m met);
      all_wait = λ n m unmet. grind (arith, nat_tests, k.all_wait n m unmet);
      unposted = λ n m j lt. grind (arith, nat_tests, k.unposted n m j lt, z);
      later = λ n m i j lt. grind (arith, nat_tests, k.later n m i j lt, z);
    }

restart_counted : {M : Type 0} → (is : M → Bool) (a h : ℕ) (c : Channels M) (u : Numbers) → Counted is c u → May (Restart a h) c → Counted is (moved (Restart a h) c) (counted is (Restart a h) c u)
restart_counted is a h c u k may = record {
  apart = k.apart;
  all_put = λ n m met. grind (arith, nat_tests, k.all_put n m, met);
  all_wait = λ n m unmet. grind (arith, nat_tests, k.all_wait n m, k.later n m h 0, may, unmet);
  unposted = λ n m j lt. grind (arith, nat_tests, k.unposted n m j, k.later n m h j, may, lt);
  later = λ n m i j lt. grind (arith, nat_tests, k.later n m i j, may, lt);
}

pub still_counted : {M : Type 0} → (is : M → Bool) (m : Move M) (c : Channels M) (u : Numbers) → Counted is c u → May m c → Counted is (moved m c) (counted is m c u)
still_counted is (Wait a b x) c u k may = wait_counted is a b x c u k may
still_counted is (Post a b x) c u k may = post_counted is a b x c u k may
still_counted is (Meet a b j) c u k may = meet_counted is a b j c u k may
still_counted is (Notice a b j) c u k may = notice_counted is a b j c u k may
still_counted is (Hand a b x) c u k may = hand_counted is a b x c u k may
still_counted is (Crash a) c u k may = record { apart = k.apart; all_put = k.all_put; all_wait = k.all_wait; unposted = k.unposted; later = k.later }
still_counted is (Restart a h) c u k may = restart_counted is a h c u k may

next_count : {M : Type 0} → (is : M → Bool) (xs hs rest : List M) (x : M) → xs ≡ hs ++ x ∷ rest → is x ≡ true → count_by is hs < count_by is xs
next_count is xs hs rest x e of = grind (arith, e, of, count_append is hs (x ∷ rest), count_more is x rest)

pub there : {M : Type 0} → (is : M → Bool) (m : Move M) (c : Channels M) (u : Numbers) → Counted is c u → May m c → IsThere is m c u
there is (Wait a b x) c u k may = tt
there is (Post a b x) c u k may = tt
there is (Meet a b j) c u k may = tt
there is (Notice a b j) c u k may = tt
there is (Hand a b x) c u k may = λ of. grind (arith, next_count is (c.posted b a (c.peer a b) (c.inc a)) (c.handed b a (c.peer a b) (c.inc a)) may.2.0 x may.2.1 of, k.apart b a (c.peer a b) (c.inc a))
there is (Crash a) c u k may = tt
there is (Restart a i) c u k may = tt
