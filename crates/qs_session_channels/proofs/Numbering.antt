-- Where each message of a kind bears the next number as it is sent, it does so as it is handed up.
use Rattle.std.proofs.Common.{◌≡◌, ◌≢◌, ◌⊎◌, Bool, ℕ, ◌+◌, ◌==◌, ◌<◌, ◌≤◌, true, false, refl, sym, subst, ap, ◌∙◌, arith, List, [], ◌∷◌, ◌++◌, length, drop, inl, inr, if◌then◌else◌}
use Rattle.std.specs.Prelude.{count_by, cond}
use Rattle.std.proofs.lemmas.Bool.{cases_eq}
use Rattle.std.proofs.lemmas.Bool.Decides.{nat_tests}
use Rattle.std.proofs.lemmas.List.{append_assoc, append_cancel_left, length-append, append-nil}
use Rattle.qs_session_channels.specs.Channels.{Channels, Move, Wait, Post, Meet, Notice, Hand, Crash, Restart, May, moved, IsNext, with_at4, opening}
use Rattle.qs_session_channels.specs.Counts.{Numbers, Counted, counted, none_sent}
use Rattle.qs_session_channels.specs.Numbered.{Bears, IsNumberedNext, Numbered, BearsNext}
use Rattle.qs_session_channels.proofs.Spots.{spot, at_spot, off_spot}
use Rattle.qs_session_channels.proofs.Counting.{count_append, count_more}

-- one more at the end
bears_more : {M : Type 0} → (is : M → Bool) (number : M → ℕ) (k : ℕ) (xs : List M) (x : M) → Bears is number k xs → (is x ≡ true → number x ≡ k + count_by is xs + 1) → Bears is number k (xs ++ x ∷ [])
bears_more is number k [] x b next = (λ of. next of ∙ (omega arith), tt)
bears_more is number k (y ∷ xs) x b next = (b.0, bears_more is number (if is y then k + 1 else k) xs x b.1 (λ of. next of ∙ grind (arith, count_more is y xs)))

pub bears_next : {M : Type 0} → (is : M → Bool) (number : M → ℕ) (m : Move M) (c : Channels M) (u : Numbers) → Numbered is number c u → May m c → BearsNext is number m c u
bears_next is number (Wait a b x) c u k may = tt
bears_next is number (Post a b x) c u k may = tt
bears_next is number (Meet a b j) c u k may = tt
bears_next is number (Notice a b j) c u k may = tt
bears_next is number (Hand a b x) c u k may = (k.posted b a (c.peer a b) (c.inc a) (x ∷ may.2.0) may.2.1).0
bears_next is number (Crash a) c u k may = tt
bears_next is number (Restart a i) c u k may = tt

-- at one spot something new, elsewhere all is the same
put_at : {M : Type 0} → (is : M → Bool) (number : M → ℕ) (posted handed posted' handed' : ℕ → ℕ → ℕ → ℕ → List M) (received received' : ℕ → ℕ → ℕ → ℕ → ℕ) (a b h k : ℕ)
    → ((n m i j : ℕ) (rest : List M) → posted n m i j ≡ handed n m i j ++ rest → Bears is number (received n m i j) rest)
    → ((n m i j : ℕ) → (((n ≡ a) × (m ≡ b) × (i ≡ h) × (j ≡ k)) → ⊥) → (posted' n m i j ≡ posted n m i j) × (handed' n m i j ≡ handed n m i j) × (received' n m i j ≡ received n m i j))
    → ((rest : List M) → posted' a b h k ≡ handed' a b h k ++ rest → Bears is number (received' a b h k) rest)
    → (n m i j : ℕ) (rest : List M) → posted' n m i j ≡ handed' n m i j ++ rest → Bears is number (received' n m i j) rest
put_at {M} is number posted handed posted' handed' received received' a b h k old same new n m i j rest split = by (spot a b h k n m i j)
  where
    by : ((n ≡ a) × (m ≡ b) × (i ≡ h) × (j ≡ k)) ⊎ (((n ≡ a) × (m ≡ b) × (i ≡ h) × (j ≡ k)) → ⊥) → Bears is number (received' n m i j) rest
    by (inl e) =
        let s : posted' a b h k ≡ handed' a b h k ++ rest = sym (ap4 posted' e) ∙ split ∙ ap (λ l. l ++ rest) (ap4 handed' e) in
        subst (λ (r : ℕ). Bears is number r rest) (sym (ap4 received' e)) (new rest s)
      where
        ap4 : {A : Type 0} → (f : ℕ → ℕ → ℕ → ℕ → A) → (n ≡ a) × (m ≡ b) × (i ≡ h) × (j ≡ k) → f n m i j ≡ f a b h k
        ap4 f e = grind (arith, e)
    by (inr other) =
        let s = same n m i j other in
        subst (λ (r : ℕ). Bears is number r rest) (sym s.2) (old n m i j rest (sym s.0 ∙ split ∙ ap (λ l. l ++ rest) s.1))

abbrev Ordered : {M : Type 0} → Channels M → Type 0
Ordered c = (n m i j : ℕ) → c.posted n m i j ≡ c.handed n m i j ++ drop (length (c.handed n m i j)) (c.posted n m i j)

post_received : {M : Type 0} → (is : M → Bool) (a b : ℕ) (x : M) (c : Channels M) (u : Numbers) → (counted is (Post a b x) c u).received ≡ u.received
post_received is a b x c u = grind arith

wait_received : {M : Type 0} → (is : M → Bool) (a b : ℕ) (x : M) (c : Channels M) (u : Numbers) → (counted is (Wait a b x) c u).received ≡ u.received
wait_received is a b x c u = grind arith

wait_numbered : {M : Type 0} → (is : M → Bool) (number : M → ℕ) (a b : ℕ) (x : M) (c : Channels M) (u : Numbers) → Counted is c u → Numbered is number c u → May (Wait a b x) c → IsNumberedNext is number (Wait a b x) c u → Numbered is number (moved (Wait a b x) c) (counted is (Wait a b x) c u)
wait_numbered {M} is number a b x c u d k may next = record {
  posted = λ n m i j rest split. subst (λ (f : ℕ → ℕ → ℕ → ℕ → ℕ). Bears is number (f n m i j) rest) (sym (wait_received is a b x c u)) (k.posted n m i j rest split);
  waits = λ n m. waits n m (cases_eq n a) (cases_eq m b);
}
  where
    more : Bears is number 0 (c.waits a b ++ x ∷ [])
    more = bears_more is number 0 (c.waits a b) x (k.waits a b) (λ of. grind (arith, next of, d.all_wait a b may.1))

    waits : (n m : ℕ) → (n ≡ a) ⊎ (n ≢ a) → (m ≡ b) ⊎ (m ≢ b) → Bears is number 0 ((moved (Wait a b x) c).waits n m)
    waits n m (inl p) (inl q) = let e : (moved (Wait a b x) c).waits n m ≡ c.waits a b ++ x ∷ [] = grind (arith, nat_tests, p, q) in rw e more
    waits n m (inr p) q = let e : (moved (Wait a b x) c).waits n m ≡ c.waits n m = grind (arith, nat_tests, p) in rw e (k.waits n m)
    waits n m p (inr q) = let e : (moved (Wait a b x) c).waits n m ≡ c.waits n m = grind (arith, nat_tests, q) in rw e (k.waits n m)

post_numbered : {M : Type 0} → (is : M → Bool) (number : M → ℕ) (a b : ℕ) (x : M) (c : Channels M) (u : Numbers) → Ordered c → Counted is c u → Numbered is number c u → May (Post a b x) c → IsNumberedNext is number (Post a b x) c u → Numbered is number (moved (Post a b x) c) (counted is (Post a b x) c u)
post_numbered {M} is number a b x c u o d k may next = record {
  posted = λ n m i j rest split. subst (λ (f : ℕ → ℕ → ℕ → ℕ → ℕ). Bears is number (f n m i j) rest) (sym (post_received is a b x c u))
      (put_at is number c.posted c.handed (moved (Post a b x) c).posted c.handed u.received u.received a b (c.inc a) (c.peer a b) k.posted
      (λ n m i j other. (off_spot c.posted a b (c.inc a) (c.peer a b) _ n m i j other, refl, refl)) new n m i j rest split);
  waits = k.waits;
}
  where
    new : (rest : List M) → (moved (Post a b x) c).posted a b (c.inc a) (c.peer a b) ≡ c.handed a b (c.inc a) (c.peer a b) ++ rest → Bears is number (u.received a b (c.inc a) (c.peer a b)) rest
    new rest split =
        let left : List M = drop (length (c.handed a b (c.inc a) (c.peer a b))) (c.posted a b (c.inc a) (c.peer a b)) in
        let old = o a b (c.inc a) (c.peer a b) in
        let whole : c.handed a b (c.inc a) (c.peer a b) ++ (left ++ x ∷ []) ≡ c.handed a b (c.inc a) (c.peer a b) ++ rest =
        sym (append_assoc (c.handed a b (c.inc a) (c.peer a b)) left (x ∷ [])) ∙ ap (λ l. l ++ x ∷ []) (sym old) ∙ sym (at_spot c.posted a b (c.inc a) (c.peer a b) (c.posted a b (c.inc a) (c.peer a b) ++ x ∷ [])) ∙ split in
        let is_rest : left ++ x ∷ [] ≡ rest = append_cancel_left (c.handed a b (c.inc a) (c.peer a b)) (left ++ x ∷ []) rest whole in
        let number_of : is x ≡ true → number x ≡ u.received a b (c.inc a) (c.peer a b) + count_by is left + 1 =
        λ of. grind (arith, next of, d.all_put a b may.1, d.apart a b (c.inc a) (c.peer a b), ap (count_by is) old, count_append is (c.handed a b (c.inc a) (c.peer a b)) left) in
        subst (λ (l : List M). Bears is number (u.received a b (c.inc a) (c.peer a b)) l) is_rest
        (bears_more is number (u.received a b (c.inc a) (c.peer a b)) left x (k.posted a b (c.inc a) (c.peer a b) left old) number_of)

meet_numbered : {M : Type 0} → (is : M → Bool) (number : M → ℕ) (a b j : ℕ) (c : Channels M) (u : Numbers) → Counted is c u → Numbered is number c u → May (Meet a b j) c → Numbered is number (moved (Meet a b j) c) (counted is (Meet a b j) c u)
meet_numbered {M} is number a b h c u d k may = record {
  posted = put_at is number c.posted c.handed (moved (Meet a b h) c).posted c.handed u.received u.received a b (c.inc a) h k.posted
      (λ n m i j other. (off_spot c.posted a b (c.inc a) h _ n m i j other, refl, refl)) new;
  waits = λ n m. waits n m (cases_eq n a) (cases_eq m b);
}
  where
    z : (c.posted a b (c.inc a) h ≡ []) × (c.handed a b (c.inc a) h ≡ []) × (u.received a b (c.inc a) h ≡ 0)
    z = d.unposted a b h (grind (arith, may))

    new : (rest : List M) → (moved (Meet a b h) c).posted a b (c.inc a) h ≡ c.handed a b (c.inc a) h ++ rest → Bears is number (u.received a b (c.inc a) h) rest
    new rest split =
        let e : c.waits a b ≡ rest = ap (λ l. l ++ c.waits a b) (sym z.0) ∙ sym (at_spot c.posted a b (c.inc a) h (c.posted a b (c.inc a) h ++ c.waits a b)) ∙ split ∙ ap (λ l. l ++ rest) z.1 in
        subst (λ (r : ℕ). Bears is number r rest) (sym z.2) (subst (λ (l : List M). Bears is number 0 l) e (k.waits a b))

    waits : (n m : ℕ) → (n ≡ a) ⊎ (n ≢ a) → (m ≡ b) ⊎ (m ≢ b) → Bears is number 0 ((moved (Meet a b h) c).waits n m)
    waits n m (inl p) (inl q) = let e : (moved (Meet a b h) c).waits n m ≡ [] = grind (arith, nat_tests, p, q) in rw e tt
    waits n m (inr p) q = let e : (moved (Meet a b h) c).waits n m ≡ c.waits n m = grind (arith, nat_tests, p) in rw e (k.waits n m)
    waits n m p (inr q) = let e : (moved (Meet a b h) c).waits n m ≡ c.waits n m = grind (arith, nat_tests, q) in rw e (k.waits n m)

notice_numbered : {M : Type 0} → (is : M → Bool) (number : M → ℕ) (a b j : ℕ) (c : Channels M) (u : Numbers) → Counted is c u → Numbered is number c u → May (Notice a b j) c → Numbered is number (moved (Notice a b j) c) (counted is (Notice a b j) c u)
notice_numbered {M} is number a b h c u d k may = record {
  posted = put_at is number c.posted c.handed c.posted c.handed u.received (counted is (Notice a b h) c u).received a b (c.inc a) h k.posted
      (λ n m i j other. (refl, refl, off_spot u.received a b (c.inc a) h _ n m i j other)) new;
  waits = k.waits;
}
  where
    z : (c.posted a b (c.inc a) h ≡ []) × (c.handed a b (c.inc a) h ≡ []) × (u.received a b (c.inc a) h ≡ 0)
    z = d.unposted a b h may.2

    new : (rest : List M) → c.posted a b (c.inc a) h ≡ c.handed a b (c.inc a) h ++ rest → Bears is number ((counted is (Notice a b h) c u).received a b (c.inc a) h) rest
    new rest split = let e : [] ≡ rest = sym z.0 ∙ split ∙ ap (λ l. l ++ rest) z.1 in subst (λ (l : List M). Bears is number ((counted is (Notice a b h) c u).received a b (c.inc a) h) l) e tt

hand_numbered : {M : Type 0} → (is : M → Bool) (number : M → ℕ) (a b : ℕ) (x : M) (c : Channels M) (u : Numbers) → Numbered is number c u → Numbered is number (moved (Hand a b x) c) (counted is (Hand a b x) c u)
hand_numbered {M} is number a b x c u k = record {
  posted = put_at is number c.posted c.handed c.posted (moved (Hand a b x) c).handed u.received (counted is (Hand a b x) c u).received b a (c.peer a b) (c.inc a) k.posted
      (λ n m i j other. (refl, off_spot c.handed b a (c.peer a b) (c.inc a) _ n m i j other, elsewhere n m i j other)) new;
  waits = k.waits;
}
  where
    elsewhere : (n m i j : ℕ) → (((n ≡ b) × (m ≡ a) × (i ≡ c.peer a b) × (j ≡ c.inc a)) → ⊥) → (counted is (Hand a b x) c u).received n m i j ≡ u.received n m i j
    elsewhere n m i j other = grind (arith, off_spot u.received b a (c.peer a b) (c.inc a) (u.received b a (c.peer a b) (c.inc a) + 1) n m i j other)

    here : (counted is (Hand a b x) c u).received b a (c.peer a b) (c.inc a) ≡ (if is x then u.received b a (c.peer a b) (c.inc a) + 1 else u.received b a (c.peer a b) (c.inc a))
    here = grind (arith, at_spot u.received b a (c.peer a b) (c.inc a) (u.received b a (c.peer a b) (c.inc a) + 1))

    new : (rest : List M) → c.posted b a (c.peer a b) (c.inc a) ≡ (moved (Hand a b x) c).handed b a (c.peer a b) (c.inc a) ++ rest → Bears is number ((counted is (Hand a b x) c u).received b a (c.peer a b) (c.inc a)) rest
    new rest split =
        let s : c.posted b a (c.peer a b) (c.inc a) ≡ c.handed b a (c.peer a b) (c.inc a) ++ x ∷ rest =
        split ∙ ap (λ l. l ++ rest) (at_spot c.handed b a (c.peer a b) (c.inc a) (c.handed b a (c.peer a b) (c.inc a) ++ x ∷ [])) ∙ append_assoc (c.handed b a (c.peer a b) (c.inc a)) (x ∷ []) rest in
        subst (λ (r : ℕ). Bears is number r rest) (sym here) (k.posted b a (c.peer a b) (c.inc a) (x ∷ rest) s).1

restart_numbered : {M : Type 0} → (is : M → Bool) (number : M → ℕ) (a h : ℕ) (c : Channels M) (u : Numbers) → Numbered is number c u → Numbered is number (moved (Restart a h) c) u
restart_numbered {M} is number a h c u k = record { posted = k.posted; waits = λ n m. waits n m (cases_eq n a) }
  where
    waits : (n m : ℕ) → (n ≡ a) ⊎ (n ≢ a) → Bears is number 0 ((moved (Restart a h) c).waits n m)
    waits n m (inl p) = let e : (moved (Restart a h) c).waits n m ≡ [] = grind (arith, nat_tests, p) in rw e tt
    waits n m (inr p) = let e : (moved (Restart a h) c).waits n m ≡ c.waits n m = grind (arith, nat_tests, p) in rw e (k.waits n m)

pub still_numbered : {M : Type 0} → (is : M → Bool) (number : M → ℕ) (m : Move M) (c : Channels M) (u : Numbers) → Ordered c → Counted is c u → Numbered is number c u → May m c → IsNumberedNext is number m c u → Numbered is number (moved m c) (counted is m c u)
still_numbered is number (Wait a b x) c u o d k may next = wait_numbered is number a b x c u d k may next
still_numbered is number (Post a b x) c u o d k may next = post_numbered is number a b x c u o d k may next
still_numbered is number (Meet a b j) c u o d k may next = meet_numbered is number a b j c u d k may
still_numbered is number (Notice a b j) c u o d k may next = notice_numbered is number a b j c u d k may
still_numbered is number (Hand a b x) c u o d k may next = hand_numbered is number a b x c u k
still_numbered is number (Crash a) c u o d k may next = record { posted = k.posted; waits = k.waits }
still_numbered is number (Restart a h) c u o d k may next = restart_numbered is number a h c u k

pub bears_opening : {M : Type 0} → (is : M → Bool) (number : M → ℕ) (inc : ℕ → ℕ) → Numbered is number (opening inc) none_sent
bears_opening {M} is number inc = record { posted = λ n m i j rest split. subst (λ (l : List M). Bears is number 0 l) split tt; waits = λ n m. tt }
