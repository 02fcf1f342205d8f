-- What an entry of a node leaves of the order, of the nodes, and of what clients see.
use Rattle.qs_world_lawful.proofs.Words.{◌≡◌, ◌⊎◌, inl, inr, ℕ, ◌==◌, Bool, true, List, [], ◌∷◌, Option, Some, None, zero, suc, refl, sym, ap, subst, ◌∙◌, arith, nat_lt, length, nat_tests, not, ◌&&◌, ◌||◌, ◌^◌, slice_get, slice_set, is_some, option_map, lookup, is_at, tid_cmp, Tid, TransactionValue, changed_value, BookValue, find_transaction, changed_at, Owner, lookup_changed, changed_apart, changed_alike, changed_at_alike, face_of, Holds, HoldsTid, HoldsAt, HoldsClients, is_next, NodeNo, share_of}
use Rattle.qs_world_lawful.proofs.Words.{ServersValue, HoldsServers, is_seen, HoldsWaits, HoldsWaitsAt, is_idle}
use Rattle.qs_book_machine.specs.Nodes as machine
use Rattle.qs_node_step.specs.State.{NodeValue}
use Rattle.qs_world_lawful.proofs.Apart.{Apart, same_or_apart}
use Rattle.qs_world_lawful.proofs.CrossedTables.{servers_alike}
use Rattle.qs_world_lawful.proofs.SameWaits.{waits_alike, crossings, seen_alike}
use Rattle.qs_world_lawful.proofs.Frames.{seen, KeepsSeen, said_to, KeepsOwners, SameNode, SameState, SameFace, held_on, at_each}

-- the next entry of the same step stands in order behind an entry of this node
pub next_again : (stamp here : ℕ) (book new : BookValue) → new.stamp ≡ stamp → new.node ≡ here → is_next stamp here book ≡ true → is_next stamp here new ≡ true
next_again stamp here book new p q h = rw (p, q) (again stamp here _ h)
  where
    again : (s n : ℕ) (b : Bool) → (nat_lt s (2 ^ 62) && b) ≡ true → (nat_lt s (2 ^ 62) && (nat_lt s s || ((s == s) && not (nat_lt n n)))) ≡ true
    again s n b is = grind (arith, nat_tests, is)

-- ---- lists of which an item is changed

set_length : {A : Type 0} (i : ℕ) (x : A) (xs : List A) → length (slice_set xs i x) ≡ length xs
set_length i x [] = refl
set_length zero x (y ∷ ys) = refl
set_length (suc i) x (y ∷ ys) = ap suc (set_length i x ys)

pub changed_length : {A : Type 0} (i : ℕ) (f : A → A) (xs : List A) → length (changed_at i f xs) ≡ length xs
changed_length {A} i f xs = by (slice_get xs i)
  where
    by : (o : Option A) → length {A = A} (elim o [ None ↦ xs | Some x ↦ slice_set xs i (f x) ]) ≡ length xs
    by None = refl
    by (Some x) = set_length i (f x) xs

-- ---- a transaction is changed

pub tx_apart : (tid t : Tid) (f : TransactionValue → TransactionValue) (txs : List (Tid × TransactionValue)) → Apart tid t
    → lookup (is_at (tid_cmp t)) (changed_value (is_at (tid_cmp tid)) f txs) ≡ lookup (is_at (tid_cmp t)) txs
tx_apart tid t f txs far = changed_apart (is_at (tid_cmp tid)) (is_at (tid_cmp t)) far.keys f txs

pub tx_changed : (tid : Tid) (f : TransactionValue → TransactionValue) (txs : List (Tid × TransactionValue)) (tx : TransactionValue) → lookup (is_at (tid_cmp tid)) txs ≡ Some tx
    → lookup (is_at (tid_cmp tid)) (changed_value (is_at (tid_cmp tid)) f txs) ≡ Some (f tx)
tx_changed tid f txs tx found = lookup_changed (is_at (tid_cmp tid)) f txs tx found

pub tx_stands : (tid : Tid) (f : TransactionValue → TransactionValue) (txs : List (Tid × TransactionValue)) (t : Tid) → is_some (lookup (is_at (tid_cmp t)) (changed_value (is_at (tid_cmp tid)) f txs)) ≡ true → is_some (lookup (is_at (tid_cmp t)) txs) ≡ true
tx_stands tid f txs t is = by (lookup (is_at (tid_cmp t)) (changed_value (is_at (tid_cmp tid)) f txs)) (lookup (is_at (tid_cmp t)) txs) (changed_alike (is_at (tid_cmp tid)) (λ (tx : TransactionValue). true) f (λ tx. refl) (is_at (tid_cmp t)) txs) is
  where
    by : (a b : Option TransactionValue) → option_map (λ (tx : TransactionValue). true) a ≡ option_map (λ (tx : TransactionValue). true) b → is_some a ≡ true → is_some b ≡ true
    by None b e h = absurd (cc h)
    by (Some x) None e h = absurd (cc e)
    by (Some x) (Some y) e h = refl

pub tx_seen : (tid : Tid) (f : TransactionValue → TransactionValue) → ((tx : TransactionValue) → seen (f tx) ≡ seen tx) → (book new : BookValue) → new.transactions ≡ changed_value (is_at (tid_cmp tid)) f book.transactions → KeepsSeen book new
tx_seen tid f keeps book new is t = ap (λ (txs : List (Tid × TransactionValue)). option_map seen (lookup (is_at (tid_cmp t)) txs)) is ∙ changed_alike (is_at (tid_cmp tid)) seen f keeps (is_at (tid_cmp t)) book.transactions

pub same_owners : (book new : BookValue) → new.owners ≡ book.owners → KeepsOwners book new
same_owners book new is k = ap (λ (os : List Owner). option_map said_to (slice_get os k)) is

pub owner_changed : (client : ℕ) (f : Owner → Owner) → ((owner : Owner) → said_to (f owner) ≡ said_to owner) → (book new : BookValue) → new.owners ≡ changed_at client f book.owners → KeepsOwners book new
owner_changed client f keeps book new is k = ap (λ (os : List Owner). option_map said_to (slice_get os k)) is ∙ changed_at_alike said_to f keeps book.owners client k

-- where a change crosses nothing the servers hold what they held
pub servers_still : (tid : Tid) (f : TransactionValue → TransactionValue) → ((tx : TransactionValue) → (f tx).crossed ≡ tx.crossed) → (book new : BookValue) → new.transactions ≡ changed_value (is_at (tid_cmp tid)) f book.transactions
    → (here : NodeNo) (state : machine.NodeValue) (servers : ServersValue) → HoldsServers (is_seen book here) state servers → HoldsServers (is_seen new here) state servers
servers_still tid f keeps book new is here state servers h = servers_alike (is_seen book here) (is_seen new here) state servers
    (seen_alike book new here (λ t. ap (λ (txs : List (Tid × TransactionValue)). option_map crossings (lookup (is_at (tid_cmp t)) txs)) is ∙ changed_alike (is_at (tid_cmp tid)) crossings f keeps (is_at (tid_cmp t)) book.transactions)) h

-- what is held of what waits of a transaction
pub waits_of : (stamp : ℕ) (book : BookValue) (node : NodeValue) → Holds stamp book node → (tid : Tid) (tx : TransactionValue) → find_transaction book tid ≡ Some tx → HoldsWaits node.setting.node node.setting.inc tid tx (face_of node tid).waiting node.servers
waits_of stamp book node h tid tx found = subst (λ (o : Option TransactionValue). HoldsWaitsAt node.setting.node node.setting.inc tid o (face_of node tid).waiting node.servers) found (h.waits tid)

-- ---- one transaction of the machine is changed, and what the node has of it

module _ (stamp : ℕ) (book new_book : BookValue) (node new : NodeValue) (h : Holds stamp book node) (tid : Tid) (f : TransactionValue → TransactionValue) (tx : TransactionValue) (found : find_transaction book tid ≡ Some tx)
    (txs : new_book.transactions ≡ changed_value (is_at (tid_cmp tid)) f book.transactions) where
  pub found_now : find_transaction new_book tid ≡ Some (f tx)
  found_now = ap (lookup (is_at (tid_cmp tid))) txs ∙ tx_changed tid f book.transactions tx found

  pub found_apart : (t : Tid) → Apart tid t → find_transaction new_book t ≡ find_transaction book t
  found_apart t far = ap (lookup (is_at (tid_cmp t))) txs ∙ tx_apart tid t f book.transactions far

  pub one_changed : (state : machine.NodeValue) → SameState h.state state → slice_get new_book.nodes node.setting.node.0 ≡ Some state → length new_book.nodes ≡ length book.nodes
      → new_book.stamp ≡ stamp → new_book.node ≡ node.setting.node.0
      → SameNode node new → new.manager.begun ≡ node.manager.begun
      → ((t : Tid) → Apart tid t → SameFace (face_of node t) (face_of new t))
      → HoldsTid node.setting.node node.setting.inc tid (f tx) (face_of new tid)
      → HoldsClients new_book new
      → HoldsServers (is_seen new_book node.setting.node) state new.servers
      → ((t : Tid) → Apart tid t → is_idle (share_of new.servers.files.table t) ≡ is_idle (share_of node.servers.files.table t))
      → HoldsWaits node.setting.node node.setting.inc tid (f tx) (face_of new tid).waiting new.servers
      → Holds stamp new_book new
  one_changed state left there run at_stamp at_node same begun faces own clients servers idle own_waits =
      held_on stamp book new_book node new h same begun state left (next_again stamp node.setting.node.0 book new_book at_stamp at_node h.order) run there
      (λ t is. tx_stands tid f book.transactions t (sym (ap (λ (es : List (Tid × TransactionValue)). is_some (lookup (is_at (tid_cmp t)) es)) txs) ∙ is))
      (at_each node.setting.node node.setting.inc book new_book node new tid h.at found_apart faces
      (subst (λ (o : Option TransactionValue). HoldsAt node.setting.node node.setting.inc tid o (face_of new tid)) (sym found_now) own))
      clients servers waits
    where
      waits : (t : Tid) → HoldsWaitsAt node.setting.node node.setting.inc t (find_transaction new_book t) (face_of new t).waiting new.servers
      waits t = by (same_or_apart tid t)
        where
          by : (tid ≡ t) ⊎ Apart tid t → HoldsWaitsAt node.setting.node node.setting.inc t (find_transaction new_book t) (face_of new t).waiting new.servers
          by (inl is) = subst (λ (u : Tid). HoldsWaitsAt node.setting.node node.setting.inc u (find_transaction new_book u) (face_of new u).waiting new.servers) is
              (subst (λ (o : Option TransactionValue). HoldsWaitsAt node.setting.node node.setting.inc tid o (face_of new tid).waiting new.servers) (sym found_now) own_waits)
          by (inr far) = subst (λ (o : Option TransactionValue). HoldsWaitsAt node.setting.node node.setting.inc t o (face_of new t).waiting new.servers) (sym (found_apart t far))
              (waits_alike node.setting.node node.setting.inc t (find_transaction book t) (face_of node t).waiting (face_of new t).waiting node.servers new.servers (faces t far).waiting (idle t far) (h.waits t))
