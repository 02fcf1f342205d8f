-- What waits of a transaction stands whatever else of it is changed, here or in the machine.
use Rattle.qs_world_lawful.proofs.Words.{◌≡◌, ℕ, ◌≤◌, true, false, List, Option, Some, None, refl, sym, ap, subst, ◌∙◌, length, map, is_some, not, option_map, filter, lookup, is_at, member_cmp, Member, NodeNo, ServerNo, Tid, Delivery, BookValue, find_transaction, TransactionValue, is_commit, is_empty, is_standing, requests_in, Cell, Request, RequestNo, share_of, ServersValue, at_server, is_seen, seen_in, AreFor, HoldsWaits, HoldsWaitsAt, IsWithin, op_in, waiting_ops, standing_ops, is_idle}
use Rattle.qs_world_lawful.proofs.Words.{some_same}
use Rattle.qs_book_machine.specs.Transaction.{part_of}
use Rattle.qs_tm.specs.Members as rules

-- what else is changed of a transaction, of what waits and of what servers hold
pub waits_on : (here : NodeNo) (inc : ℕ) (tid : Tid) (tx now : TransactionValue) (waiting : ServerNo → List Delivery) (servers after : ServersValue) → now.crossed ≡ tx.crossed → now.cell ≡ tx.cell → now.requests ≡ tx.requests
    → (is_idle (share_of after.files.table tid) ≡ false → (part_of now (at_server here rules.files_no) inc).due ≡ true)
    → HoldsWaits here inc tid tx waiting servers → HoldsWaits here inc tid now waiting after
waits_on here inc tid tx now waiting servers after c e r due h = record {
  whole = λ is. subst (λ (xs : List (Member × ℕ)). is_empty xs ≡ true) (sym c) (h.whole (subst (λ (x : Cell). is_commit x ≡ true) e is));
  due = due;
  within = λ server at near. subst (λ (rs : List (RequestNo × List Request)). IsWithin (waiting_ops at (waiting server)) (map op_in (filter (is_standing (at_server here server)) (requests_in rs at)))) (sym r) (h.within server at near);
  once = λ server at is. subst (λ (rs : List (RequestNo × List Request)). length (filter (is_standing (at_server here server)) (requests_in rs at)) ≤ 1) (sym r)
      (h.once server at (ap (λ (xs : List (Member × ℕ)). is_some (lookup (is_at (member_cmp (at_server here server))) xs)) (sym c) ∙ is));
  fits = λ server at near. subst (λ (rs : List (RequestNo × List Request)). AreFor server (map op_in (filter (is_standing (at_server here server)) (requests_in rs at)))) (sym r) (h.fits server at near);
}

-- the same waits, and the same is held at files
pub waits_alike : (here : NodeNo) (inc : ℕ) (tid : Tid) (o : Option TransactionValue) (waiting now : ServerNo → List Delivery) (servers after : ServersValue) → ((server : ServerNo) → now server ≡ waiting server)
    → is_idle (share_of after.files.table tid) ≡ is_idle (share_of servers.files.table tid) → HoldsWaitsAt here inc tid o waiting servers → HoldsWaitsAt here inc tid o now after
waits_alike here inc tid None waiting now servers after same idle h = idle ∙ h
waits_alike here inc tid (Some tx) waiting now servers after same idle h = record {
  whole = h.whole;
  due = λ busy. h.due (sym idle ∙ busy);
  within = λ server at near. subst (λ (ds : List Delivery). IsWithin (waiting_ops at ds) (standing_ops tx at here server)) (sym (same server)) (h.within server at near);
  once = h.once;
  fits = h.fits;
}

-- ---- what is crossed

abbrev pub crossings : TransactionValue → List (Member × ℕ)
crossings tx = tx.crossed

-- where the same are crossed the same are seen
pub seen_alike : (book new : BookValue) (here : NodeNo) → ((t : Tid) → option_map crossings (find_transaction new t) ≡ option_map crossings (find_transaction book t)) → (n : ℕ) (t : Tid) → is_seen new here n t ≡ is_seen book here n t
seen_alike book new here same n t = by (find_transaction new t) (find_transaction book t) (same t)
  where
    by : (a b : Option TransactionValue) → option_map crossings a ≡ option_map crossings b → seen_in here n a ≡ seen_in here n b
    by None None e = refl
    by None (Some y) e = absurd (cc e)
    by (Some x) None e = absurd (cc e)
    by (Some x) (Some y) e = ap (λ (xs : List (Member × ℕ)). not (is_some (lookup (is_at (member_cmp (record { node = here; server = record { 0 = n } }))) xs))) (some_same e)
