-- What an issue leaves of the machine beside its transaction: who waits for an answer, and which server is crossed.
use Rattle.qs_world_lawful.proofs.Words.{◌≡◌, Bool, true, false, [], ◌∷◌, ◌++◌, Some, refl, length, ◌-◌, slice_get, if◌then◌else◌, Member, Tid, changed_at_here, BookValue, with_crossing, with_owner, with_waiting, crossed_node, is_client_no}
use Rattle.qs_book_machine.specs.Nodes as machine
use Rattle.qs_world_lawful.proofs.Frames.{KeepsOwners, SameState}
use Rattle.qs_world_lawful.proofs.States.{crossed_state, state_itself}
use Rattle.qs_world_lawful.proofs.Steps.{changed_length, owner_changed}

-- what the machine's waiting and crossing leave
pub waiting_txs : (tid : Tid) (issuer member : Member) (book : BookValue) → (with_waiting tid issuer member book).transactions ≡ book.transactions
waiting_txs tid issuer member book = by (is_client_no issuer.server.0)
  where
    by : (b : Bool) → (if b then with_owner (issuer.server.0 - 32) (λ owner. record owner { waiting = owner.waiting ++ record { tid = tid; node = member.node } ∷ [] }) book else book).transactions ≡ book.transactions
    by true = refl
    by false = refl

pub waiting_nodes : (tid : Tid) (issuer member : Member) (book : BookValue) → (with_waiting tid issuer member book).nodes ≡ book.nodes
waiting_nodes tid issuer member book = by (is_client_no issuer.server.0)
  where
    by : (b : Bool) → (if b then with_owner (issuer.server.0 - 32) (λ owner. record owner { waiting = owner.waiting ++ record { tid = tid; node = member.node } ∷ [] }) book else book).nodes ≡ book.nodes
    by true = refl
    by false = refl

pub waiting_owners : (tid : Tid) (issuer member : Member) (book : BookValue) → KeepsOwners book (with_waiting tid issuer member book)
waiting_owners tid issuer member book = by (is_client_no issuer.server.0)
  where
    by : (b : Bool) → KeepsOwners book (if b then with_owner (issuer.server.0 - 32) (λ owner. record owner { waiting = owner.waiting ++ record { tid = tid; node = member.node } ∷ [] }) book else book)
    by true = owner_changed (issuer.server.0 - 32) (λ owner. record owner { waiting = owner.waiting ++ record { tid = tid; node = member.node } ∷ [] }) (λ o. refl) book (with_owner (issuer.server.0 - 32) (λ owner. record owner { waiting = owner.waiting ++ record { tid = tid; node = member.node } ∷ [] }) book) refl
    by false = λ k. refl

pub crossing_txs : (b : Bool) (tid : Tid) (member : Member) (book : BookValue) → (with_crossing b tid member book).transactions ≡ book.transactions
crossing_txs true tid member book = refl
crossing_txs false tid member book = refl

pub crossing_owners : (b : Bool) (tid : Tid) (member : Member) (book : BookValue) → (with_crossing b tid member book).owners ≡ book.owners
crossing_owners true tid member book = refl
crossing_owners false tid member book = refl

-- the machine's state of a node after it
abbrev pub crossed_if : Bool → Tid → Member → machine.NodeValue → machine.NodeValue
crossed_if b tid member state = if b then crossed_node tid member.server.0 state else state

pub crossing_there : (b : Bool) (tid : Tid) (member : Member) (book : BookValue) (state : machine.NodeValue) → slice_get book.nodes member.node.0 ≡ Some state
    → slice_get (with_crossing b tid member book).nodes member.node.0 ≡ Some (crossed_if b tid member state)
crossing_there true tid member book state there = changed_at_here (crossed_node tid member.server.0) book.nodes member.node.0 state there
crossing_there false tid member book state there = there

pub crossing_run : (b : Bool) (tid : Tid) (member : Member) (book : BookValue) → length (with_crossing b tid member book).nodes ≡ length book.nodes
crossing_run true tid member book = changed_length member.node.0 (crossed_node tid member.server.0) book.nodes
crossing_run false tid member book = refl

pub crossing_state : (b : Bool) (tid : Tid) (member : Member) (state : machine.NodeValue) → SameState state (crossed_if b tid member state)
crossing_state true tid member state = crossed_state tid member.server.0 state
crossing_state false tid member state = state_itself state
