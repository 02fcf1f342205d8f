-- As a run begins the machine has the scripts of all clients, and nothing is on its way.
use Rattle.qs_world_lawful.proofs.Words.{◌≡◌, ℕ, ◌<◌, ◌+◌, ◌-◌, ◌&&◌, zero, suc, replicate, Bool, true, false, List, [], ◌∷◌, Option, Some, None, fold, refl, sym, ap, subst, ◌∙◌, arith, nat_lt, nat_tests, slice_get, insert_entry, tid_cmp, Tid, BookValue, find_transaction, is_fresh, name_all, name_from, name_pending, name_transaction, opened_transaction, TransactionValue, Opened, Pending, Owner, opened_from, IsOpening, are_rising, labels_begun, Opening, Parcel, start, Every, pending_from, AreBehind}
use Rattle.qs_world_lawful.proofs.Words.{HoldsClient, IsFresh}
use Rattle.qs_book_machine.specs.Opening.{no_owner}
use Rattle.qs_world.specs.Histories.{book_of}
use Rattle.qs_world.specs.Moves.{client_count}
use Rattle.qs_world.specs.Openings.{is_script}
use Rattle.qs_world_lawful.specs.Scripts.{HoldsScripts}
use Rattle.qs_world_lawful.specs.WayLaws.{EachOpensScripts, EachOpensWays}
use Rattle.qs_world_lawful.proofs.CoherentOpenings.{each_is}

-- what clients began, and what they may be told
abbrev Clients : Type 0
Clients = List (List ℕ × Tid) × List Owner

abbrev clients_in : BookValue → Clients
clients_in book = (book.labels, book.owners)

one_named : (tid : Tid) (book : BookValue) → clients_in (name_transaction book tid) ≡ clients_in book
one_named tid book = by (find_transaction book tid)
  where
    by : (o : Option TransactionValue) → clients_in (elim o [ Some tx ↦ book | None ↦ record book { transactions = insert_entry tid_cmp book.transactions tid (opened_transaction book.nodes tid) } ]) ≡ clients_in book
    by (Some tx) = refl
    by None = refl

all_named : (tids : List Tid) (book : BookValue) → clients_in (fold name_transaction book tids) ≡ clients_in book
all_named [] book = refl
all_named (tid ∷ tids) book = all_named tids (name_transaction book tid) ∙ one_named tid book

all_pending : (here inc : ℕ) (votes : List Pending) (book : BookValue) → clients_in (fold (name_pending here inc) book votes) ≡ clients_in book
all_pending here inc [] book = refl
all_pending here inc (vote ∷ votes) book = all_pending here inc votes (name_pending here inc book vote) ∙ one_named vote.tid book

logs_named : (opened : List Opened) (here : ℕ) (book : BookValue) → clients_in (name_from here opened book) ≡ clients_in book
logs_named [] here book = refl
logs_named (one ∷ more) here book = logs_named more (suc here) (name_all here one book) ∙ (all_pending here one.inc one.pending (fold name_transaction book one.committed) ∙ all_named one.committed book)

owner_at : (n k : ℕ) (x : Owner) → k < n → slice_get (replicate n x) k ≡ Some x
owner_at zero k x low = absurd (none low)
  where
    none : {a : ℕ} → a < 0 → ⊥
    none {a} e = grind (arith, e)
owner_at (suc n) zero x low = refl
owner_at (suc n) (suc k) x low = owner_at n k x (fall low)
  where
    fall : {a b : ℕ} → suc a < suc b → a < b
    fall {a} {b} e = grind (arith, e)

module _ (o : Opening) (opens : IsOpening o) where
  abbrev book : BookValue
  book = book_of o

  same : clients_in book ≡ ([], replicate 256 no_owner)
  same = logs_named (opened_from o 0 o.size) 0 _

  fresh : (labels : List (List ℕ)) → Every (IsFresh book) labels
  fresh [] = tt
  fresh (label ∷ labels) = (subst (λ (c : Clients). is_fresh c.0 label ≡ true) (sym same) refl, fresh labels)

  module _ (k : ℕ) (low : nat_lt k client_count ≡ true) where
    script : is_script o.size k (o.clients k) ≡ true
    script = each_is client_count (λ k. is_script o.size k (o.clients k)) opens.scripts k (is_below k low)
      where
        is_below : (k : ℕ) → nat_lt k 64 ≡ true → k < 64
        is_below k e = grind (arith, nat_tests, e)

    rising : are_rising 0 (o.clients k).1 ≡ true
    rising = second (nat_lt (o.clients k).0 o.size) _ _ script
      where
        second : (a b c : Bool) → (a && (b && c)) ≡ true → b ≡ true
        second true true c e = refl
        second true false c e = absurd (cc e)
        second false b c e = absurd (cc e)

    behind : AreBehind book k (o.clients k).1
    behind = record { owner = no_owner; there = ap (λ (c : Clients). slice_get c.1 k) same ∙ owner_at 256 k no_owner (is_low k low); rise = rising }
      where
        is_low : (k : ℕ) → nat_lt k 64 ≡ true → k < 256
        is_low k e = grind (arith, nat_tests, e)

    client : HoldsClient o book (start o) k
    client = record {
      at = refl;
      rest = record { done = 0; rest = refl };
      behind = behind;
      fresh = fresh (labels_begun (o.clients k).1);
      in_hand = λ n within up command is. absurd (cc is);
    }

  pub scripts : HoldsScripts o book (start o)
  scripts = record { clients = client; apart = opens.labels }

-- nothing is on its way
pub none_from : (at : ℕ → List Parcel) → ((i : ℕ) → at i ≡ []) → (i more : ℕ) → pending_from at i more ≡ []
none_from at none i zero = refl
none_from at none i (suc more) = rw (none i) (none_from at none (suc i) more)

pub opens_scripts : EachOpensScripts
opens_scripts o opens = scripts o opens

pub opens_ways : EachOpensWays
opens_ways o opens n m a b apart tid tx server number found =
    rw (none_from (λ i. []) (λ i. refl) 0 (((o.settings n).inc + 1) - 0)) tt
