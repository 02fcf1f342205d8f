-- As the first request that waits at a server is served, the first of its number that stands there is: what waits, and what is on its way, stands on.
use Rattle.qs_world_runs.proofs.Words.{◌≡◌, ◌≢◌, ◌⊎◌, inl, inr, ℕ, ◌==◌, ◌&&◌, Bool, true, false, List, [], ◌∷◌, ◌++◌, drop, map, Option, Some, None, refl, sym, ap, subst, ◌∙◌, append_assoc, eqb-true, filter, same_tid-self, same_tid, Member, NodeNo, ServerNo, Tid, IpcValue, Delivery, BookValue, inc_at, effect, TransactionValue, is_standing, mark_served, request_cmp, requests_at, Request, RequestNo, Op, Reply, entry_of, at_server, way_between, IsWithin, HoldsOps, and_three, eqb-self}
use Rattle.qs_ipc.specs.Ipc as ipc
use Rattle.qs_book_journal.specs.declared.entry.Act.TheVariants as acts
use Rattle.qs_book_machine.specs.Book.{is_done}
use Rattle.qs_book_machine.specs.Transaction.{served_in}
use Rattle.qs_world_lawful.specs.Waits.{op_in}
use Rattle.qs_world_lawful.proofs.Apart.{Apart}
use Rattle.qs_world_lawful.proofs.Keys.{KeyApart, request_exact, request_itself, same_key_or}
use Rattle.qs_world_lawful.proofs.ServedTid as serving
use Rattle.qs_world_lawful.proofs.Within.{mark_apart, mark_first, within_served}
use Rattle.qs_world_lawful.proofs.WithinParts.{within_behind}
use Rattle.qs_world_runs.proofs.WaysEntries.{Change, Ops, ops_changed, standing, standing_as}
use Rattle.qs_world_runs.proofs.WaysServed.{comes_one, left_none, popped, waiting}

none_behind : (xs ys zs : List Op) → (xs ++ ys) ++ zs ≡ [] → ys ++ zs ≡ []
none_behind [] ys zs is = is
none_behind (x ∷ xs) ys zs is = absurd (cc is)

-- ---- it leaves its queue alone

pub ops_popped : (a n : ℕ) (book : BookValue) (at : ServerNo) (queues : IpcValue) (rest : Ops) → HoldsOps book a n (λ t s k. waiting a n queues t s k ++ rest t s k) → HoldsOps book a n (λ t s k. waiting a n (ipc.after_next at queues) t s k ++ rest t s k)
ops_popped a n book at queues rest ops = by (ipc.next at queues) refl
  where
    by : (o : Option Delivery) → ipc.next at queues ≡ o → HoldsOps book a n (λ t s k. waiting a n (ipc.after_next at queues) t s k ++ rest t s k)
    by None none = record {
      stands = λ t tx s k found. subst (λ (xs : List Op). IsWithin (xs ++ rest t s k) (standing a n tx s k)) (sym (left_none a n at queues none t s k)) (ops.stands t tx s k found);
      none = λ t s k is. ap (λ (xs : List Op). xs ++ rest t s k) (left_none a n at queues none t s k) ∙ ops.none t s k is;
    }
    by (Some delivery) next = record {
      stands = λ t tx s k found. within_behind (comes_one a n at delivery t s k) (waiting a n (ipc.after_next at queues) t s k ++ rest t s k) (standing a n tx s k)
          (subst (λ (xs : List Op). IsWithin xs (standing a n tx s k)) (ap (λ (xs : List Op). xs ++ rest t s k) (popped a n at queues delivery next t s k) ∙ append_assoc (comes_one a n at delivery t s k) (waiting a n (ipc.after_next at queues) t s k) (rest t s k)) (ops.stands t tx s k found));
      none = λ t s k is. none_behind (comes_one a n at delivery t s k) (waiting a n (ipc.after_next at queues) t s k) (rest t s k) (ap (λ (xs : List Op). xs ++ rest t s k) (sym (popped a n at queues delivery next t s k)) ∙ ops.none t s k is);
    }

-- ---- and is served

module _ (n stamp : ℕ) (book : BookValue) (tid : Tid) (at : ServerNo) (from : NodeNo) (number : ℕ) (reply : Reply) where
  abbrev member : Member
  member = at_server (record { 0 = n }) at

  abbrev key : RequestNo
  key = record { link = record { from = from; to = member.node }; number = number }

  abbrev made : TransactionValue → TransactionValue
  made tx = served_in key member (inc_at book (record { 0 = n })) stamp (is_done reply) tx

  abbrev now : BookValue
  now = effect book (entry_of n stamp (acts.Serve tid member from number reply))

  change : Change tid made book now
  change = record { transactions = refl }

  requests_far : (tx : TransactionValue) (other : RequestNo) → KeyApart request_cmp request_exact request_itself key other → requests_at (made tx) other ≡ requests_at tx other
  requests_far tx other far = serving.requests_apart key member (inc_at book (record { 0 = n })) stamp (is_done reply) tx other far

  requests_own : (tx : TransactionValue) → requests_at (made tx) key ≡ mark_served member (requests_at tx key)
  requests_own tx = serving.requests_at_key key member (inc_at book (record { 0 = n })) stamp (is_done reply) tx

  -- on a way to another node nothing is served
  pub ops_served_far : (a b : ℕ) (ds : Ops) → (b == n) ≡ false → HoldsOps book a b ds → HoldsOps now a b ds
  ops_served_far a b ds far ops = ops_changed tid made book now change a b ds ds
      (λ tx s k found w. subst (λ (xs : List Op). IsWithin (ds tid s k) xs) (sym (standing_as a b tx (made tx) s k (requests_far tx (way_between a b k) (key_far k (same_key_or request_cmp request_exact request_itself key (way_between a b k)))))) w)
      (λ t s k apart. refl) (λ t s k none is. is) ops
    where
      key_far : (k : ℕ) → (key ≡ way_between a b k) ⊎ KeyApart request_cmp request_exact request_itself key (way_between a b k) → KeyApart request_cmp request_exact request_itself key (way_between a b k)
      key_far k (inl same) = absurd (cc (sym far ∙ (ap (λ (i : ℕ). i == n) (sym (ap (λ (r : RequestNo). r.link.to.0) same)) ∙ eqb-self n)))
      key_far k (inr apart) = apart

  -- of those from a the first that waits is served, where it is of that number
  module _ (a : ℕ) (tx : TransactionValue) (s : ServerNo) (k : ℕ) where
    abbrev it : Member
    it = at_server (record { 0 = n }) s

    picked : List Request → List Op
    picked rs = map op_in (filter (is_standing it) rs)

    -- another number, or another server
    other_stands : ((at.0 == s.0) && ((from.0 == a) && (number == k))) ≡ false → standing a n (made tx) s k ≡ standing a n tx s k
    unfolding picked
    other_stands off = by (same_key_or request_cmp request_exact request_itself key (way_between a n k))
      where
        server_far : key ≡ way_between a n k → (b : Bool) → (at.0 == s.0) ≡ b → b ≡ false
        server_far same false is = refl
        server_far same true is = absurd (cc (sym off ∙ and_three (at.0 == s.0) (from.0 == a) (number == k) is (ap (λ (r : RequestNo). r.link.from.0 == a) same ∙ eqb-self a) (ap (λ (r : RequestNo). r.number == k) same ∙ eqb-self k)))

        differ : (at.0 == s.0) ≡ false → member ≢ it
        differ far e = cc (sym far ∙ (ap (λ (m : Member). m.server.0 == s.0) e ∙ eqb-self s.0))

        by : (key ≡ way_between a n k) ⊎ KeyApart request_cmp request_exact request_itself key (way_between a n k) → standing a n (made tx) s k ≡ standing a n tx s k
        by (inl same) = ap picked (subst (λ (r : RequestNo). requests_at (made tx) r ≡ mark_served member (requests_at tx r)) same (requests_own tx))
            ∙ ap (map op_in) (mark_apart member it (differ (server_far same (at.0 == s.0) refl)) (requests_at tx (way_between a n k)))
        by (inr apart) = standing_as a n tx (made tx) s k (requests_far tx (way_between a n k) apart)

    -- its own
    own_stands : (at.0 == s.0) ≡ true → (from.0 == a) ≡ true → (number == k) ≡ true → standing a n (made tx) s k ≡ drop 1 (standing a n tx s k)
    own_stands at_it from_it same =
        subst (λ (r : RequestNo). map op_in (filter (is_standing it) (requests_at (made tx) r)) ≡ drop 1 (map op_in (filter (is_standing it) (requests_at tx r)))) key_is
        (subst (λ (m : Member). map op_in (filter (is_standing m) (requests_at (made tx) key)) ≡ drop 1 (map op_in (filter (is_standing m) (requests_at tx key)))) (ap (λ (i : ℕ). at_server (record { 0 = n }) (record { 0 = i })) (eqb-true at.0 s.0 at_it))
        (ap (λ (rs : List Request). map op_in (filter (is_standing member) rs)) (requests_own tx) ∙ mark_first member (requests_at tx key)))
      where
        key_is : key ≡ way_between a n k
        key_is = ap (λ (i : ℕ). record { link = record { from = record { 0 = i }; to = record { 0 = n } }; number = number }) (eqb-true from.0 a from_it) ∙ ap (λ (j : ℕ). way_between a n j) (eqb-true number k same)

pub ops_served : (a n stamp : ℕ) (book : BookValue) (at : ServerNo) (delivery : Delivery) (reply : Reply) (queues : IpcValue) (rest : Ops) → ipc.next at queues ≡ Some delivery → HoldsOps book a n (λ t s k. waiting a n queues t s k ++ rest t s k)
    → HoldsOps (effect book (entry_of n stamp (acts.Serve delivery.tid (at_server (record { 0 = n }) at) delivery.from delivery.number reply))) a n (λ t s k. waiting a n (ipc.after_next at queues) t s k ++ rest t s k)
ops_served a n stamp book at delivery reply queues rest next ops =
    ops_changed delivery.tid (made n stamp book delivery.tid at delivery.from delivery.number reply) book (now n stamp book delivery.tid at delivery.from delivery.number reply) (change n stamp book delivery.tid at delivery.from delivery.number reply) a n
    (λ t s k. waiting a n queues t s k ++ rest t s k) (λ t s k. waiting a n (ipc.after_next at queues) t s k ++ rest t s k) (λ tx s k found w. own tx s k w)
    (λ t s k apart. ap (λ (xs : List Op). xs ++ rest t s k) (sym (popped a n at queues delivery next t s k ∙ ap (λ (xs : List Op). xs ++ waiting a n (ipc.after_next at queues) t s k) (apart_none t s k apart))))
    (λ t s k none is. none_behind (comes_one a n at delivery t s k) (waiting a n (ipc.after_next at queues) t s k) (rest t s k) (ap (λ (xs : List Op). xs ++ rest t s k) (sym (popped a n at queues delivery next t s k)) ∙ is)) ops
  where
    apart_none : (t : Tid) (s : ServerNo) (k : ℕ) → Apart delivery.tid t → comes_one a n at delivery t s k ≡ []
    apart_none t s k apart = rw apart.of refl

    own : (tx : TransactionValue) (s : ServerNo) (k : ℕ) → IsWithin (waiting a n queues delivery.tid s k ++ rest delivery.tid s k) (standing a n tx s k)
        → IsWithin (waiting a n (ipc.after_next at queues) delivery.tid s k ++ rest delivery.tid s k) (standing a n (made n stamp book delivery.tid at delivery.from delivery.number reply tx) s k)
    own tx s k w = by (at.0 == s.0) refl (delivery.from.0 == a) refl (delivery.number == k) refl
      where
        was : IsWithin ((comes_one a n at delivery delivery.tid s k ++ waiting a n (ipc.after_next at queues) delivery.tid s k) ++ rest delivery.tid s k) (standing a n tx s k)
        was = subst (λ (xs : List Op). IsWithin (xs ++ rest delivery.tid s k) (standing a n tx s k)) (popped a n at queues delivery next delivery.tid s k) w

        off : (p q : Bool) → p ≡ false → (q && p) ≡ false
        off p true is = is
        off p false is = refl

        other : ((at.0 == s.0) && ((delivery.from.0 == a) && (delivery.number == k))) ≡ false → IsWithin (waiting a n (ipc.after_next at queues) delivery.tid s k ++ rest delivery.tid s k) (standing a n (made n stamp book delivery.tid at delivery.from delivery.number reply tx) s k)
        other far = subst (λ (ys : List Op). IsWithin (waiting a n (ipc.after_next at queues) delivery.tid s k ++ rest delivery.tid s k) ys) (sym (other_stands n stamp book delivery.tid at delivery.from delivery.number reply a tx s k far))
            (subst (λ (xs : List Op). IsWithin ((xs ++ waiting a n (ipc.after_next at queues) delivery.tid s k) ++ rest delivery.tid s k) (standing a n tx s k)) none was)
          where
            none : comes_one a n at delivery delivery.tid s k ≡ []
            none = rw (off ((at.0 == s.0) && ((delivery.from.0 == a) && (delivery.number == k))) (same_tid delivery.tid delivery.tid) far) refl

        by : (x : Bool) → (at.0 == s.0) ≡ x → (y : Bool) → (delivery.from.0 == a) ≡ y → (z : Bool) → (delivery.number == k) ≡ z
            → IsWithin (waiting a n (ipc.after_next at queues) delivery.tid s k ++ rest delivery.tid s k) (standing a n (made n stamp book delivery.tid at delivery.from delivery.number reply tx) s k)
        by true at_it true from_it true same = subst (λ (ys : List Op). IsWithin (waiting a n (ipc.after_next at queues) delivery.tid s k ++ rest delivery.tid s k) ys) (sym (own_stands n stamp book delivery.tid at delivery.from delivery.number reply a tx s k at_it from_it same))
            (within_served delivery.op (waiting a n (ipc.after_next at queues) delivery.tid s k ++ rest delivery.tid s k) (standing a n tx s k)
            (subst (λ (xs : List Op). IsWithin ((xs ++ waiting a n (ipc.after_next at queues) delivery.tid s k) ++ rest delivery.tid s k) (standing a n tx s k)) one was))
          where
            one : comes_one a n at delivery delivery.tid s k ≡ delivery.op ∷ []
            one = rw (same_tid-self delivery.tid, at_it, from_it, same) refl
        by false at_it y from_it z same = other (rw at_it refl)
        by true at_it false from_it z same = other (rw (at_it, from_it) refl)
        by true at_it true from_it false same = other (rw (at_it, from_it, same) refl)
