-- What the laws see of a book: of each transaction its cell, cause and owner, of each node its incarnation and how many
-- transactions were begun in it, of each client what it may be told of outcomes. And steps that leave it.
use Rattle.qs_book_laws.proofs.Words.{◌≡◌, ℕ, Bool, true, false, List, Option, refl, ◌∙◌, if◌then◌else◌, slice_get, option_map, is_at, tid_cmp, ClientNo, Tid, Cause, TransactionValue, Cell, BookValue, find_transaction, with_node, with_transaction, with_owner, pending_in, crossed_in, inc_at, vote_node, NodeValue, Owner, Member, Vote, Op, OnRecord}
use Rattle.qs_book_laws.proofs.Maps.{changed_alike, changed_at_alike}

pub record Face : Type 0 where
  pub cell : Cell
  pub cause : Option Cause
  pub owner : Option ClientNo

abbrev pub face : TransactionValue → Face
face tx = record { cell = tx.cell; cause = tx.cause; owner = tx.owner }

pub record Age : Type 0 where
  pub inc : ℕ
  pub begun : ℕ

abbrev pub age : NodeValue → Age
age node = record { inc = node.inc; begun = node.begun }

pub record Told : Type 0 where
  pub committed : Bool
  pub causes : List Cause

abbrev pub told_of : Owner → Told
told_of owner = record { committed = owner.committed; causes = owner.causes }

abbrev pub face_at : BookValue → Tid → Option Face
face_at book tid = option_map face (find_transaction book tid)

abbrev pub age_at : BookValue → ℕ → Option Age
age_at book n = option_map age (slice_get book.nodes n)

abbrev pub told_at : BookValue → ℕ → Option Told
told_at book client = option_map told_of (slice_get book.owners client)

-- all that the laws see is the same
pub record Alike (old new : BookValue) : Type 0 where
  pub faces : (tid : Tid) → face_at new tid ≡ face_at old tid
  pub ages : (n : ℕ) → age_at new n ≡ age_at old n
  pub tolds : (client : ℕ) → told_at new client ≡ told_at old client

pub alike_self : (book : BookValue) → Alike book book
alike_self book = record { faces = λ tid. refl; ages = λ n. refl; tolds = λ client. refl }

pub alike_then : (old mid new : BookValue) → Alike old mid → Alike mid new → Alike old new
alike_then old mid new a b = record {
  faces = λ tid. b.faces tid ∙ a.faces tid;
  ages = λ n. b.ages n ∙ a.ages n;
  tolds = λ client. b.tolds client ∙ a.tolds client;
}

pub transaction_alike : (tid : Tid) (f : TransactionValue → TransactionValue) → ((tx : TransactionValue) → face (f tx) ≡ face tx) → (book : BookValue) → Alike book (with_transaction tid f book)
transaction_alike tid f keeps book = record {
  faces = λ q. changed_alike (is_at (tid_cmp tid)) face f keeps (is_at (tid_cmp q)) book.transactions;
  ages = λ n. refl;
  tolds = λ client. refl;
}

pub node_alike : (here : ℕ) (f : NodeValue → NodeValue) → ((node : NodeValue) → age (f node) ≡ age node) → (book : BookValue) → Alike book (with_node here f book)
node_alike here f keeps book = record {
  faces = λ q. refl;
  ages = λ n. changed_at_alike age f keeps book.nodes here n;
  tolds = λ client. refl;
}

pub owner_alike : (client : ℕ) (f : Owner → Owner) → ((owner : Owner) → told_of (f owner) ≡ told_of owner) → (book : BookValue) → Alike book (with_owner client f book)
owner_alike client f keeps book = record {
  faces = λ q. refl;
  ages = λ n. refl;
  tolds = λ c. changed_at_alike told_of f keeps book.owners client c;
}

-- a choice of which each arm leaves it
pub either_way : {A B : Type 0} (g : A → B) (b : Bool) (x y : A) (z : B) → g x ≡ z → g y ≡ z → g (if b then x else y) ≡ z
either_way g true x y z p q = p
either_way g false x y z p q = q

pub either_alike : (b : Bool) (old x y : BookValue) → Alike old x → Alike old y → Alike old (if b then x else y)
either_alike true old x y p q = p
either_alike false old x y p q = q

-- ---- a vote

-- how many changes the member has pending, in the incarnation of the node `here`
abbrev pub pending_now : BookValue → ℕ → Tid → Member → ℕ
pending_now book here tid member = pending_in (find_transaction book tid) member (inc_at book (record { 0 = here }))

-- what its vote does to that node
abbrev pub vote_by : BookValue → ℕ → Tid → Member → Vote → ℕ → NodeValue → NodeValue
vote_by book here tid member ballot covers = vote_node (pending_now book here tid member) (crossed_in (find_transaction book tid) member) tid member.server.0 ballot covers

-- and puts on record
abbrev pub recorded_by : BookValue → ℕ → Tid → Member → ℕ → List Op → OnRecord
recorded_by book here tid member covers ops = record { changes = ops; covers = covers; pending = pending_now book here tid member }
